use Rattle.std.proofs.Common.{rules, sym, ap, ◌∙◌}
use Rattle.std.specs.Option.{option_map}
use Rattle.tw_terms.specs.OpenView.{open_type_of}
use Rattle.tw_unify.proofs.Moving.{lost_or_kept}
use Rattle.tw_unify.proofs.Renewals.{told_of}
use Rattle.tw_putting.proofs.Views.{type_told}
use Rattle.tw_unify.proofs.moves.lost.Goals as goal

pub returns : goal.returns
returns c =
    let s = c.args.store.now.now in
    lost_or_kept s c.args.loss.meta.0 c.args.loss.place (open_type_of c.in-Some.ty.now) c.prune_type.result (type_told s c.args.loss.meta.0 c.in-Some.field-0-0.now (open_type_of c.in-Some.ty.now) (search rules)) c.prune_type.ensures.pruned c.prune_type.ensures.blocked

pub unreachable-requires : goal.unreachable-requires
unreachable-requires c = told_of c.args.store.now.now c.args.loss.meta.0 c.requires (sym c.about.ensures ∙ ap (option_map (λ p. record { context = p.0.now; of_type = open_type_of p.1.now })) c.in-None.is)
