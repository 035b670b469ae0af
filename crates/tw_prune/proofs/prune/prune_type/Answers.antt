use Rattle.std.proofs.Common.{◌≡◌, ap, sym, ◌∙◌, arith}
use Rattle.std.specs.Prelude.{option_map}
use Rattle.tw_terms.specs.OpenView.{open_spine_of, open_type_of}
use Rattle.tw_prune.specs.Kept.{kept_arguments}
use Rattle.tw_prune.specs.View.{table_of}
use Rattle.tw_prune.specs.Walks.{without_argument}
use Rattle.tw_terms.specs.declared.open_terms.OpenSpine.{roll-OpenSpine}
use Rattle.tw_prune.proofs.LosingMeanings.{keeps_means, loses_means}
use Rattle.tw_prune.proofs.Options.{not_some}
use Rattle.tw_prune.proofs.Walking.{expanding}
use Rattle.tw_prune.proofs.prune.prune_type.Goals as goal

pub returns-in_default-clause-blocked : goal.returns-in_default-clause-blocked
returns-in_default-clause-blocked c =
    keeps_means (table_of c.in_ok-newest.newest) c.in_ok-newest.ensures c.args.place (open_type_of c.args.ty.now)
    (not_some open_type_of c.in_ok-without.field-0 (without_argument (table_of c.in_ok-newest.newest) c.args.place (open_type_of c.args.ty.now)) c.in_default.not-Some c.in_ok-without.ensures)

pub returns-clause-pruned : goal.returns-clause-pruned
returns-clause-pruned c =
    let s : open_spine_of (roll-OpenSpine (record { args = c.push_kept.new.args })) ≡ kept_arguments c.args.place (open_type_of c.args.ty.now) = grind (arith, expanding) in
    loses_means (table_of c.in_ok-newest.newest) c.in_ok-newest.ensures c.args.place (open_type_of c.args.ty.now) (open_type_of c.in-Some.without) (open_spine_of (roll-OpenSpine (record { args = c.push_kept.new.args })))
    (sym c.in_ok-without.ensures ∙ ap (option_map open_type_of) c.in-Some.is) s
