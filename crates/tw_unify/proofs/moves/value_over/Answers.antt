use Rattle.std.proofs.Common.{sym, ap, ◌∙◌}
use Rattle.std.specs.Option.{option_map}
use Rattle.tw_terms.specs.OpenView.{open_type_of}
use Rattle.tw_unify.proofs.Renewals.{told_of}
use Rattle.tw_unify.proofs.moves.value_over.Goals as goal

pub unreachable-requires : goal.unreachable-requires
unreachable-requires c = told_of c.args.store.now.now c.args.meta.0 c.requires (sym c.about.ensures ∙ ap (option_map (λ p. record { context = p.0.now; of_type = open_type_of p.1.now })) c.in-None.is)
