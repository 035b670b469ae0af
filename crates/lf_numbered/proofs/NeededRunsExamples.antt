-- Worked goals that are covered, where what `cover` needs is so.
use Rattle.std.proofs.Common.{ℕ, zero, suc, [], ◌∷◌, inl, inr, refl, arith}
use Rattle.std.specs.Prelude.{Bool, true, false}
use Rattle.lf.specs.Substitution.{keep}
use Rattle.lf.specs.Syntax.{nil, app, arrow, base, pi, star}
use Rattle.lf.specs.Subordination.{Member}
use Rattle.lf_cases.specs.Cover.{AreTerms}
use Rattle.lf_cases.specs.Pattern.{Pattern, ground_in, head_pattern, of_constant}
use Rattle.lf_cases.specs.Split.{Ends, at_leaf, by_split, no_case, next_case}
use Rattle.lf_cases.proofs.Subordinate.{below_is_subordination}
use Rattle.lf_totality.specs.Examples.{Addition, first_below_second, nat, plus_heads, plus_kind, plus_s, plus_successor_case, successor, var}
use Rattle.lf_coverage.specs.Calls.{instance}
use Rattle.lf_numbered.specs.EntryTerms.{MatchesByNumber, own_values}
use Rattle.lf_numbered.specs.NeededRunsExamples.{EntryAloneCovers, SuccessorIsCovered}
use Rattle.lf_numbered.specs.NumberedCalls.{IsFor, NumberedCoverNeeds, NumberedMatchedIs}
use Rattle.lf_numbered.specs.NumberedCallsMeeting.{SharesInstance}
use Rattle.lf_numbered.specs.NumberedCallsReached.{numbered_first}
use Rattle.lf_numbered.specs.NumberedCandidatesRuns.{AnswersFirst}
use Rattle.lf_numbered.specs.NumberedCase.{NumberedCase}
use Rattle.lf_numbered.specs.NumberedSplitsExamples.{Bare, entry_case, exp_block, has_head, open_case}
use Rattle.lf_numbered.specs.Numbering.{numbered}
use Rattle.lf_numbered.specs.OwnTerms.{TypeOnOwnTerms, own_terms}
use Rattle.lf_numbered.specs.TypedNumbered.{IsTypedNumberedCase}
use Rattle.lf_coverage.proofs.ExamplesSubordinate.{addition_is_tested}
use Rattle.lf_numbered.proofs.NeededRuns.{needed_strategy_run_is_covered}
use Rattle.lf_numbered.proofs.NumberedCallsOpen.{entry_is_instance, open_gives_entry, open_is_split_answer}
use Rattle.lf_numbered.proofs.NumberedNeedsDecided.{needed_instance_is_decided}
use Rattle.lf_numbered.proofs.NumberedNeedsFor.{head_is_for}
use Rattle.lf_numbered.proofs.NumberedNeedsPlus.{addition_setting, plus_typed}
use Rattle.lf_numbered.proofs.NumberedNeedsRows.{open_has_needs}
use Rattle.lf_numbered.proofs.NumberedReachedInstances.{split_case_is_numbered_instance}
use Rattle.lf_numbered.proofs.NumberedSplitsExamples.{bare_ok, blocks_typed, free, open_typed}
use Rattle.lf_coverage.proofs.UsedVariables.{types_of_two}

-- plus (s X) Y _
abbrev goal : NumberedCase
goal = numbered 4 plus_successor_case

goal_typed : IsTypedNumberedCase Addition 4 [] goal
goal_typed = record {
  variables = record { variables = ((tt, (star, refl, tt)), (star, refl, tt)); on_own_terms = types_of_two (λ i A. TypeOnOwnTerms (own_terms 4 []) A) nat nat tt tt; blocks = tt };
  local = ((tt, (star, refl, tt)), (star, refl, tt));
  local_on_own = tt;
  given = tt;
  given_on_own = tt;
  arguments = ((base 0, (arrow (base 0) (base 0), refl, ((base 0, refl, refl), refl))), ((base 0, (base 0, refl, refl)), tt));
  arguments_on_own = ((tt, (tt, tt)), (tt, tt));
}

heads_for : (p : Pattern) → Member p plus_heads → IsFor Addition 4 [] goal p
heads_for p m =
    let (t, e, q, b) = plus_typed p m in
    head_is_for Addition 4 [] goal p t b q (record {
      is_head = e;
      none_given = refl;
      no_local = refl;
      kind = plus_kind;
      of_family = refl;
      covered_only = (tt, (tt, tt));
      tuple = app (successor (var 1)) (app (var 0) (app (var 0) nil));
      at_places = (refl, (refl, tt));
      typed_places = ((pi nat nat, refl, ((nat, (nat, refl, refl), refl), refl)), ((nat, refl, refl), tt));
    })

needs : NumberedCoverNeeds Addition 4 [] first_below_second plus_heads goal
needs = record { setting = addition_setting; subordination = addition_is_tested; case = goal_typed; one_block = omega arith; locals_below = tt; patterns = heads_for }

-- It is an instance of plus-s.
abbrev plus_s_head : Pattern
plus_s_head = head_pattern plus_s (of_constant plus_s.type)

pub matches : MatchesByNumber 4 goal plus_s_head
matches = (keep, refl, ((((refl, tt), tt), ((refl, tt), tt)), terms, (refl, (refl, tt))))
  where
    terms : AreTerms plus_s (ground_in plus_s_head (true ∷ true ∷ false ∷ []) []) (own_values goal plus_s_head keep)
    terms zero o u = absurd cc
    terms (suc zero) o u = absurd cc
    terms (suc (suc zero)) o u = tt
    terms (suc (suc (suc zero))) o u = tt
    terms (suc (suc (suc (suc i)))) o u = absurd cc

pub successor_is_covered : SuccessorIsCovered
successor_is_covered =
    let is : NumberedMatchedIs Addition 4 [] goal plus_s_head instance = (needed_instance_is_decided Addition 4 [] goal plus_s_head (record { setting = addition_setting; case = goal_typed; pattern = heads_for plus_s_head (inr (inl refl)) })).0.1 matches in
    (needs, needed_strategy_run_is_covered Addition 4 [] first_below_second plus_heads goal needs (at_leaf (plus_s_head, inr (inl refl), is)))

-- p X shares p b.x with u, so X is its first candidate.
open_shares : (below : ℕ → ℕ → Bool) → SharesInstance Bare 2 (exp_block ∷ []) open_case has_head
open_shares below =
    let ((σ, i), k) = split_case_is_numbered_instance Bare bare_ok (exp_block ∷ []) blocks_typed 2 free below open_case open_typed 0 entry_case (open_gives_entry below) in
    let r = entry_is_instance in
    record {
      common = entry_case;
      typed_variables = record { variables = tt; on_own_terms = λ j A h. absurd h; blocks = (inl refl, (keep, (λ j A h. absurd h), refl), tt, tt) };
      numbers = λ j. j;
      zeroth = refl;
      values = σ;
      of_case = i;
      of_pattern = record { used = r.used; values = r.values; typed = r.typed; on_own_terms = r.on_own_terms; uses = r.uses; terms = r.terms; given = r.given; stands = r.stands; same = r.same };
    }

pub entry_alone_covers : EntryAloneCovers
entry_alone_covers below test =
    let split = open_is_split_answer below (below_is_subordination Bare bare_ok (exp_block ∷ []) blocks_typed below test) in
    let run : Ends (λ D. (p : Pattern) × Member p (has_head ∷ []) × NumberedMatchedIs Bare 2 (exp_block ∷ []) D p instance) (AnswersFirst Bare 2 (exp_block ∷ []) below (has_head ∷ [])) open_case =
    by_split (entry_case ∷ []) (0, numbered_first [] (inl (open_shares below)) refl, split) (next_case (at_leaf (has_head, inl refl, entry_is_instance)) no_case) in
    (run, needed_strategy_run_is_covered Bare 2 (exp_block ∷ []) below (has_head ∷ []) open_case (open_has_needs below test).0 run)
