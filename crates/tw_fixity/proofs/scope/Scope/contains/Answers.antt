use Rattle.std.proofs.Common.{◌∙◌, ap, reverse}
use Rattle.std.specs.Option.{is_some}
use Rattle.tw_fixity.specs.Names.{is_in_scope}
use Rattle.tw_fixity.proofs.Places.{in_scope, names_of_reverse, some_copied}
use Rattle.tw_fixity.proofs.scope.Scope.contains.Goals as goal

pub returns : goal.returns
returns c =
    let bs = reverse c.self.inside.binders.items in
    c.is_some.ensures ∙ some_copied c.get.result ∙ ap is_some (c.get.ensures.value ∙ c.self.invariant.0 c.args.name.now)
    ∙ in_scope bs c.args.name.now ∙ ap (λ ns. is_in_scope ns c.args.name.now) (names_of_reverse c.self.inside.binders.items ∙ c.self.view_is)
