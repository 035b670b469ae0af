use Rattle.std.proofs.Common.{sym, ap, ◌∙◌, rules}
use Rattle.std.specs.Option.{option_map}
use Rattle.tw_terms.specs.OpenView.{open_type_of}
use Rattle.tw_putting.proofs.Views.{type_told}
use Rattle.tw_unify.proofs.Renewals.{is_there}
use Rattle.tw_unify.proofs.flexible.renewed_type.Goals as goal

pub put_in_type-requires : goal.put_in_type-requires
put_in_type-requires c =
    let s = c.args.store.now.now in
    let A = open_type_of c.in-Some.ty.now in
    c.requires.types c.args.meta.0 A (type_told s c.args.meta.0 c.in-Some.field-0-0.now A (search rules))

pub unreachable-requires : goal.unreachable-requires
unreachable-requires c =
    let s = c.args.store.now.now in
    is_there s c.requires.consistent c.args.meta.0 c.requires.unbound (sym c.about.ensures ∙ ap (option_map (λ p. record { context = p.0.now; of_type = open_type_of p.1.now })) c.in-None.is)
