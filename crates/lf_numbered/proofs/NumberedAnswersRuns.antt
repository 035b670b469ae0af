-- Along runs by number `instance_of` has an answer of each case where unification answers.
use Rattle.std.proofs.Common.{refl, subst}
use Rattle.lf.specs.Variables.{onto}
use Rattle.lf_checks.specs.Marks.{TypedPlaces}
use Rattle.lf_cases.specs.Case.{covered_places}
use Rattle.lf_cases.specs.Pattern.{head_pattern, origin}
use Rattle.lf_coverage.proofs.Leaves.{head_is_typed}
use Rattle.lf_numbered.specs.EntryConstants.{with_entries}
use Rattle.lf_numbered.specs.NumberedAnswersRuns.{BesideRunHasNeeds, BesideRunIsAnswered, InputRunHasNeeds, InputRunIsAnswered}
use Rattle.lf_numbered.specs.OwnTerms.{blocks_of}
use Rattle.lf_numbered.proofs.MeetsAnswersRuns.{input_run_fits}
use Rattle.lf_numbered.proofs.MeetsReadyRuns.{input_run_has_typed_places}
use Rattle.lf_numbered.proofs.NumberedAnswers.{needed_is_answered}
use Rattle.lf_numbered.proofs.NumberedBesideStays.{numbered_run_stays_beside}
use Rattle.lf_numbered.proofs.NumberedNeedsBlocks.{clause_has_typed_block}
use Rattle.lf_numbered.proofs.NumberedNeedsFor.{head_is_for, subgoal_is_for}

pub input_run_has_needs : InputRunHasNeeds
input_run_has_needs Σ W first z below a m K kd v C r c i e =
    let (tc, none, bare, places) = input_run_has_typed_places Σ z.signature W z.blocks first z.free below a m K kd v C r c i e in
    let f = input_run_fits Σ z.signature W z.blocks first z.free below a m K kd v C r c i e in
    record {
      setting = z;
      case = tc;
      pattern = head_is_for Σ first W C (head_pattern c (origin i)) (head_is_typed Σ z.signature W z.blocks c i) (clause_has_typed_block Σ W z.blocks i) f.same_family (record {
        is_head = refl;
        none_given = none;
        no_local = bare;
        kind = K;
        of_family = f.of_family;
        covered_only = places.mention;
        tuple = places.tuple;
        at_places = places.are;
        typed_places = subst (λ L. TypedPlaces (with_entries Σ first (blocks_of C.blocks)) (covered_places C.arguments) (onto L C.variables) places.tuple K) bare places.typed;
      });
    }

pub beside_run_has_needs : BesideRunHasNeeds
beside_run_has_needs Σ W first z below p tp f goal b C r own others =
    let h = numbered_run_stays_beside Σ z.signature W z.blocks first z.free below p tp goal b C r in
    record { setting = z; case = h.typed; pattern = subgoal_is_for Σ first W z.blocks C p tp own (record { at_first = f; typed_beside = h; known_places = others }) }

pub input_run_is_answered : InputRunIsAnswered
input_run_is_answered Σ W first z below a m K kd v C r c i e answers =
    let f = input_run_fits Σ z.signature W z.blocks first z.free below a m K kd v C r c i e in
    needed_is_answered Σ first W C (head_pattern c (origin i)) (input_run_has_needs Σ W first z below a m K kd v C r c i e) K f.of_family answers

pub beside_run_is_answered : BesideRunIsAnswered
beside_run_is_answered Σ W first z below p tp f goal b C r own others K kd answers = needed_is_answered Σ first W C p (beside_run_has_needs Σ W first z below p tp f goal b C r own others) K kd answers
