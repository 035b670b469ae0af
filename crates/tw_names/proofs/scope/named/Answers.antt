use Rattle.std.proofs.Common.{Some, None, ap, ◌∙◌}
use Rattle.tw_fixity.specs.Names.{variable_of}
use Rattle.tw_signature.specs.Names.{number_of}
use Rattle.tw_terms.proofs.Views.{head_of-Const, head_of-Var}
use Rattle.tw_names.specs.Scope.{head_named}
use Rattle.tw_names.proofs.scope.named.Goals as goal

pub returns-in-Some : goal.returns-in-Some
returns-in-Some c =
    ap Some (head_of-Var c.in-Some.variable)
    ∙ ap (λ o. head_named o (number_of c.args.signature.now c.args.name.now)) (c.in-Some.ensures ∙ ap (variable_of c.args.scope.now) c.as_bytes.ensures)

pub returns-in-Some-lookup : goal.returns-in-Some-lookup
returns-in-Some-lookup c =
    ap Some (head_of-Const c.in-Some-lookup.id) ∙ ap (λ o. head_named None o) c.in-Some-lookup.ensures
    ∙ ap (λ o. head_named o (number_of c.args.signature.now c.args.name.now)) (c.in-None.ensures ∙ ap (variable_of c.args.scope.now) c.as_bytes.ensures)
