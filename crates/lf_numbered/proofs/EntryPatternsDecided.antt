-- Matching by terms decides whether a case with block variables by number is an instance of the head of a constant's clause.
use Rattle.std.proofs.Common.{◌≡◌, ℕ, zero, List, [], refl, sym, ap, ◌∙◌, subst}
use Rattle.std.specs.Prelude.{Bool, Option, Some, None}
use Rattle.lf.specs.Syntax.{Term, Spine, LfType, Kind}
use Rattle.lf.specs.Substitution.{substitute_type, reduce}
use Rattle.lf.specs.Typing.{Signature, IsSignature}
use Rattle.lf.specs.Variables.{target, target_arguments, nothing, Values}
use Rattle.lf.specs.Subordination.{Block, AreTypedBlocks}
use Rattle.lf_checks.specs.Clause.{Clause, IsClause, from_constant, from_entry, constant_clause, scope, outside}
use Rattle.lf_checks.specs.Ground.{UsesGoal}
use Rattle.lf_checks.specs.Marks.{MentionChosenOnly, TypedPlaces}
use Rattle.lf_cases.specs.Case.{covered_places}
use Rattle.lf_cases.specs.Pattern.{Pattern, of_constant, origin, head_pattern, given_at, ground_in}
use Rattle.lf_checks.specs.Parts.{type_at}
use Rattle.lf_coverage.specs.OrElse.{or_else}
use Rattle.lf_coverage.specs.Matching.{ArePlaces, HoldsTypes, MatchesByTerms, Matches, as_image, found_at, found_values}
use Rattle.lf_coverage.specs.MeetStore.{IsConstants}
use Rattle.lf_coverage.proofs.FoundTyped.{head_match_is_typed}
use Rattle.lf_coverage.proofs.GroundHolds.{head_ground_holds_types}
use Rattle.lf_coverage.proofs.Leaves.{head_is_typed}
use Rattle.lf_coverage.proofs.MatchInstance.{both_decided, goal_decided, same_decided, terms_decided}
use Rattle.lf_coverage.proofs.Parts.{none_some}
use Rattle.lf_coverage.proofs.SolvedCase.{free_context_is}
use Rattle.lf_numbered.specs.EntryConstants.{with_entries, IsFreeFrom}
use Rattle.lf_numbered.specs.EntryPatterns.{IsInstanceOfPattern}
use Rattle.lf_numbered.specs.EntryPatternsMatching.{NumberedHeadMatchingDecides}
use Rattle.lf_numbered.specs.NumberedCase.{NumberedCase}
use Rattle.lf_numbered.specs.OwnStores.{as_case}
use Rattle.lf_numbered.specs.OwnTerms.{blocks_of, own_terms, OnOwnTerms, AllOnOwnTerms, ImageOnOwnTerms}
use Rattle.lf_numbered.specs.TypedNumbered.{IsTypedNumberedCase, own_over}
use Rattle.lf_numbered.proofs.EntryPatternsFound.{found_at_own}
use Rattle.lf_numbered.proofs.EntryPatternsMatching.{entries_signature, numbered_instance_matches}
use Rattle.lf_numbered.proofs.EntrySignature.{entries_kept}

pub image_own : (o : ℕ → Option Spine) (j : ℕ) (t : Option LfType) (x : Option Term) → ((N : Term) → x ≡ Some N → OnOwnTerms o N) → ImageOnOwnTerms o (as_image j t x)
image_own o j None x h = tt
image_own o j (Some A) None h = tt
image_own o j (Some A) (Some N) h = h N refl

module _ (Σ : Signature) (ok : IsSignature Σ) (W : List Block) (typed : AreTypedBlocks Σ W) (first : ℕ) (free : IsFreeFrom Σ first) (C : NumberedCase) (tc : IsTypedNumberedCase Σ first W C) (given : C.given ≡ []) (local : C.local ≡ []) (K : Kind) where
  abbrev Σ₁ : Signature
  Σ₁ = with_entries Σ first (blocks_of C.blocks)

  from_match : (c : Clause) (i : IsClause Σ W c) → IsConstants (origin i) → Σ.kinds (target c.type) ≡ Some K → MentionChosenOnly nothing (covered_places C.arguments) K → (T : Spine) → ArePlaces C.arguments T → TypedPlaces (with_entries Σ first (blocks_of C.blocks)) (covered_places C.arguments) C.variables T K → MatchesByTerms (as_case C) (head_pattern c (origin i)) → IsInstanceOfPattern Σ first C (head_pattern c (origin i))
  from_match c (from_entry B later E es l e) k kd mention T places tp m = absurd k
  from_match c (from_constant d U e) k kd mention T places tp m = record {
    used = ground_in (head_pattern (constant_clause U) (of_constant U)) (covered_places C.arguments) C.given;
    values = found_values (as_case C) (head_pattern (constant_clause U) (of_constant U));
    typed = subst (λ G. Values Σ₁ (ground_in (head_pattern (constant_clause U) (of_constant U)) (covered_places C.arguments) C.given) (scope (constant_clause U)) G (found_values (as_case C) (head_pattern (constant_clause U) (of_constant U)))) (free_context_is C.variables) matched.typed;
    on_own_terms = λ j u. image_own (own_terms first C.blocks) j (type_at (scope (constant_clause U)) j) (or_else (given_at C.given j) (read_at j)) (λ N q. found_at_own (own_terms first C.blocks) nothing (outside U nothing) zero j (target_arguments U) C.arguments N (λ l b. absurd cc) (sym (ap (λ Ms. or_else (given_at Ms j) (read_at j)) given) ∙ q) (subst (λ D. AllOnOwnTerms (own_over D (own_terms first C.blocks)) C.arguments) local tc.arguments_on_own));
    uses = matched.strict;
    strict = matched.strict;
    terms = matched.found;
    given = λ j M u q. absurd (none_some (sym (ap (λ Ms. given_at Ms j) given) ∙ q));
    stands = tt;
    same = matched.same;
  }
    where
      read_at : ℕ → Option Term
      read_at j = found_at nothing (outside U nothing) zero j (target_arguments U) C.arguments

      matched : Matches Σ₁ (as_case C) (head_pattern (constant_clause U) (of_constant U))
      matched = head_match_is_typed Σ₁ (entries_signature Σ ok W typed first free C tc) [] (λ B l. absurd l) (as_case C) (constant_clause U) (from_constant d U (entries_kept Σ first (blocks_of C.blocks) d U e)) tt given K kd mention T places (subst (λ G. TypedPlaces Σ₁ (covered_places C.arguments) G T K) (sym (free_context_is C.variables)) tp) m

pub numbered_head_matching_decides : NumberedHeadMatchingDecides
numbered_head_matching_decides Σ ok W typed first free C tc c i k given local K kd mention T places tp = (
  (to, from),
  elim (both_decided (goal_decided (ground_in p m C.given) m p.type) (both_decided (terms_decided Σ (as_case C) p k closed) (same_decided C.arguments (target_arguments (substitute_type reduce (found_values (as_case C) p) p.type))))) [ yes h ↦ yes (from (h.0, h.1.0, h.1.1)) | no n ↦ no (λ h. let (a, b, d) = to h in n (a, (b, d))) ],
)
  where
    p : Pattern
    p = head_pattern c (origin i)

    m : List Bool
    m = covered_places C.arguments

    to : IsInstanceOfPattern Σ first C (head_pattern c (origin i)) → MatchesByTerms (as_case C) (head_pattern c (origin i))
    to h = numbered_instance_matches Σ ok W typed first free C tc (head_pattern c (origin i)) (head_is_typed Σ ok W typed c i) k h

    from : MatchesByTerms (as_case C) (head_pattern c (origin i)) → IsInstanceOfPattern Σ first C (head_pattern c (origin i))
    from h = from_match Σ ok W typed first free C tc given local K c i k kd mention T places tp h

    closed : UsesGoal (ground_in (head_pattern c (origin i)) (covered_places C.arguments) C.given) (covered_places C.arguments) (head_pattern c (origin i)).type → HoldsTypes (ground_in (head_pattern c (origin i)) (covered_places C.arguments) C.given) (scope c)
    closed = subst (λ Ms. UsesGoal (ground_in (head_pattern c (origin i)) (covered_places C.arguments) Ms) (covered_places C.arguments) (head_pattern c (origin i)).type → HoldsTypes (ground_in (head_pattern c (origin i)) (covered_places C.arguments) Ms) (scope c)) (sym given) (λ u. head_ground_holds_types Σ ok W typed c i K kd (covered_places C.arguments) mention u)
