-- Where the types of the constants have patterns, types alone hold the equation at which a run stops.
use Rattle.std.proofs.Common.{sym, subst}
use Rattle.lf_unification.specs.Unifiers.{Equation}
use Rattle.lf_cases.specs.Case.{input_goal}
use Rattle.lf_coverage.specs.IndicesLeft.{EquationIsHeld, IndexedRunIsHeldByTypes}
use Rattle.lf_coverage.proofs.IndicesLeft.{split_is_held_by_types}
use Rattle.lf_coverage.proofs.IndicesRuns.{input_run_kept}
use Rattle.lf_coverage.proofs.IndicesSplits.{head_of_split_has_patterns}
use Rattle.lf_coverage.proofs.Subordinate.{inputs_quantify_below}
use Rattle.lf_coverage.proofs.SubordinateRuns.{run_quantifies_below}
use Rattle.lf_coverage.proofs.TypedCases.{input_goal_is_typed_case}

pub indexed_run_is_held_by_types : IndexedRunIsHeldByTypes
indexed_run_is_held_by_types Σ ok T constants W typed sc below test a m K e c h f D r x shown l =
    let (q, (nb, p, i, fd)) = input_run_kept Σ ok T constants W typed sc below test a m K e c h f D r in
    let td = (run_quantifies_below Σ ok W typed below test (input_goal a m K) (input_goal_is_typed_case Σ ok W typed a m K e c).0 (inputs_quantify_below Σ W below test a m K e) D r).0 in
    let (hp, ai) = head_of_split_has_patterns Σ ok T constants W typed below D.items td.items i fd x l.type l.at l.offer.items l.offer.moved l.offer.head l.offer.type l.is_head l.no_block in
    subst (λ (s : Equation). EquationIsHeld l.after.metavariables l.after.bindings s) (sym l.is_shown) (split_is_held_by_types Σ W below D.items l.offer.items x l.type l.at l.offer.moved l.offer.head l.offer.type l.is_head l.no_block l.kind l.of_family hp l.after l.left l.equation l.listed l.left_over)
