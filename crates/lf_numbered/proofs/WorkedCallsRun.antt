-- The leaves of the worked run in a world with a block, and its answer.
use Rattle.std.proofs.Common.{◌≡◌, ℕ, zero, suc, [], ◌∷◌, inl, inr, refl, sym, subst, arith}
use Rattle.std.specs.Prelude.{Bool, true, Some}
use Rattle.lf.specs.Syntax.{constant, Kind, root, nil, app, LfType, arrow, base, kind_pi, pi, star}
use Rattle.lf.specs.Substitution.{Image, keep}
use Rattle.lf.specs.Variables.{FamiliesIn, KindFamiliesIn, target}
use Rattle.lf.specs.Subordination.{Block, IsDeclared, Member, SelfContained}
use Rattle.lf_checks.specs.Below.{IsSubordination}
use Rattle.lf_checks.specs.Clause.{from_constant, from_entry}
use Rattle.lf_cases.specs.Case.{covered_places}
use Rattle.lf_cases.specs.Cover.{AreTerms, before}
use Rattle.lf_cases.specs.Pattern.{ground_in}
use Rattle.lf_cases.specs.Split.{at_leaf, by_split, next_case, no_case}
use Rattle.lf_totality.specs.Examples.{exp, var}
use Rattle.lf_totality.specs.ExamplesGroups.{on_one}
use Rattle.lf_coverage.specs.Calls.{PlacesIn}
use Rattle.lf_coverage.specs.Heads.{ArgumentsAreBelow}
use Rattle.lf_coverage.proofs.Leaves.{head_is_typed}
use Rattle.lf_coverage.proofs.Parts.{none_some, some_same}
use Rattle.lf_numbered.specs.EntryPatterns.{IsInstanceOfPattern, variable_images}
use Rattle.lf_numbered.specs.EntryPatternsRuns.{IsNumberedLeaf}
use Rattle.lf_numbered.specs.EntryTerms.{MatchesByNumber, own_values}
use Rattle.lf_numbered.specs.NumberedCalls.{IsBesideByNumber}
use Rattle.lf_numbered.specs.NumberedSplits.{IsAnsweredByNumber, NumberedOffer}
use Rattle.lf_numbered.specs.WorkedCallsRun.{Unasked, UnaskedEntryIsNoHindrance, a, a_head, b_head, b_of, exp_and_q, q_a, q_a_case, q_b, q_b_case, q_goal, q_x_case, unasked_block, unasked_heads, unasked_worlds, v_clause, v_head}
use Rattle.lf_numbered.specs.TypedNumbered.{IsTypedNumberedCase}
use Rattle.lf_numbered.proofs.EntryTermsDecided.{numbered_head_is_decided}
use Rattle.lf_numbered.proofs.NumberedCallsLaws.{answered_by_number_is_covered, answered_by_number_is_split_answer}
use Rattle.lf_numbered.proofs.WorkedCallsStuck.{no_truth}
use Rattle.lf_numbered.proofs.WorkedCallsRunSplit.{all_listed, blocks, each, every, free, goal_typed, lists, offers, ok}

-- q a
a_typed : IsTypedNumberedCase Unasked 4 unasked_worlds q_a_case
a_typed = record {
  variables = record { variables = tt; on_own_terms = λ i A g. absurd g; blocks = tt };
  local = tt;
  local_on_own = tt;
  given = tt;
  given_on_own = tt;
  arguments = ((base 0, (base 0, refl, refl)), tt);
  arguments_on_own = ((tt, tt), tt);
}

a_match : MatchesByNumber 4 q_a_case a_head
a_match = (keep, refl, ((tt, tt), (λ i o u. no_truth (sym o)), (refl, tt)))

a_instance : IsInstanceOfPattern Unasked 4 q_a_case a_head
a_instance = (numbered_head_is_decided Unasked ok unasked_worlds blocks 4 free q_a_case a_typed q_a (from_constant 2 q_a.type refl) refl refl (kind_pi exp star) refl (tt, tt) (app a nil) (refl, tt) ((exp, refl, refl), tt)).0.1 a_match

-- q (b E)
b_typed : IsTypedNumberedCase Unasked 4 unasked_worlds q_b_case
b_typed = record {
  variables = record { variables = (tt, (star, refl, tt)); on_own_terms = goal_typed.variables.on_own_terms; blocks = tt };
  local = (tt, (star, refl, tt));
  local_on_own = tt;
  given = tt;
  given_on_own = tt;
  arguments = ((base 0, (arrow (base 0) (base 0), refl, ((base 0, refl, refl), refl))), tt);
  arguments_on_own = ((tt, (tt, tt)), tt);
}

b_terms : AreTerms q_b (ground_in b_head (covered_places q_b_case.arguments) q_b_case.given) (own_values q_b_case b_head (λ i. keep i))
b_terms zero o u = tt
b_terms (suc i) o u = absurd (no_truth (sym o))

b_match : MatchesByNumber 4 q_b_case b_head
b_match = (keep, refl, ((((refl, tt), tt), tt), b_terms, (refl, tt)))

b_instance : IsInstanceOfPattern Unasked 4 q_b_case b_head
b_instance = (numbered_head_is_decided Unasked ok unasked_worlds blocks 4 free q_b_case b_typed q_b (from_constant 3 q_b.type refl) refl refl (kind_pi exp star) refl (tt, tt) (app (b_of (var 0)) nil) (refl, tt) ((pi exp exp, refl, ((exp, refl, refl), refl)), tt)).0.1 b_match

-- q b.x
x_typed : IsTypedNumberedCase Unasked 4 unasked_worlds q_x_case
x_typed = record {
  variables = record { variables = tt; on_own_terms = λ i A g. absurd g; blocks = (inl refl, (keep, (λ i A g. absurd g), refl), tt, tt) };
  local = tt;
  local_on_own = tt;
  given = tt;
  given_on_own = tt;
  arguments = ((base 0, (base 0, refl, refl)), tt);
  arguments_on_own = (((nil, refl), tt), tt);
}

abbrev x_outer : ℕ → Image
x_outer = before [] (variable_images 4 q_x_case.blocks 0 unasked_block nil)

x_match : MatchesByNumber 4 q_x_case v_head
x_match = (x_outer, (0, nil, refl, (λ e. absurd cc), refl), (((refl, tt), tt), (λ i o u. no_truth (sym o)), (refl, tt)))

x_instance : IsInstanceOfPattern Unasked 4 q_x_case v_head
x_instance = (numbered_head_is_decided Unasked ok unasked_worlds blocks 4 free q_x_case x_typed v_clause (from_entry unasked_block [] _ (on_one 1 (var 0) ∷ exp ∷ []) (inl refl) refl) refl refl (kind_pi exp star) refl (tt, tt) (app (root (constant 4) nil) nil) (refl, tt) ((exp, refl, refl), tt)).0.1 x_match

-- The leaves
a_leaf : IsNumberedLeaf Unasked 4 unasked_worlds unasked_heads q_a_case
a_leaf = record { typed = a_typed; pattern = a_head; listed = inl refl; pattern_typed = head_is_typed Unasked ok unasked_worlds blocks q_a (from_constant 2 q_a.type refl); same_length = refl; given_own = λ i e. absurd cc; is_instance = a_instance }

b_leaf : IsNumberedLeaf Unasked 4 unasked_worlds unasked_heads q_b_case
b_leaf = record { typed = b_typed; pattern = b_head; listed = inr (inl refl); pattern_typed = head_is_typed Unasked ok unasked_worlds blocks q_b (from_constant 3 q_b.type refl); same_length = refl; given_own = λ i e. absurd cc; is_instance = b_instance }

x_leaf : IsNumberedLeaf Unasked 4 unasked_worlds unasked_heads q_x_case
x_leaf = record { typed = x_typed; pattern = v_head; listed = inr (inr (inl refl)); pattern_typed = head_is_typed Unasked ok unasked_worlds blocks v_clause (from_entry unasked_block [] _ (on_one 1 (var 0) ∷ exp ∷ []) (inl refl) refl); same_length = refl; given_own = λ i e. absurd cc; is_instance = x_instance }

-- The split, for the goal
answered : (below : ℕ → ℕ → Bool) → IsSubordination Unasked unasked_worlds below → IsAnsweredByNumber Unasked 4 unasked_worlds below q_goal 0 (q_a_case ∷ q_b_case ∷ q_x_case ∷ [])
answered below s = record {
  type = exp;
  at = refl;
  takes_below = tt;
  offers = offers;
  each = each;
  every = every;
  arguments_below = λ o f. among o (every o f);
  listed = all_listed below;
}
  where
    among : (o : NumberedOffer) → Member o offers → ArgumentsAreBelow below o.left
    among o (inl e) = subst (λ (p : NumberedOffer). ArgumentsAreBelow below p.left) (sym e) tt
    among o (inr (inl e)) = subst (λ (p : NumberedOffer). ArgumentsAreBelow below p.left) (sym e) (s.itself 0, tt)
    among o (inr (inr (inl e))) = subst (λ (p : NumberedOffer). ArgumentsAreBelow below p.left) (sym e) tt
    among o (inr (inr (inr m))) = absurd m

-- exp and q are a set beside which the goal is to be covered.
self_contained : SelfContained Unasked unasked_worlds exp_and_q
self_contained = record { declared = declared; kinds_in = kinds_in; types_in = types_in; entries_in = entries_in }
  where
    declared : (f : ℕ) → exp_and_q f ≡ true → IsDeclared Unasked f
    declared zero e = (star, refl)
    declared (suc zero) e = absurd cc
    declared (suc (suc zero)) e = (kind_pi exp star, refl)
    declared (suc (suc (suc f))) e = absurd cc

    kinds_in : (f : ℕ) (K : Kind) → Unasked.kinds f ≡ Some K → exp_and_q f ≡ true → KindFamiliesIn exp_and_q K
    kinds_in zero K e s = subst (KindFamiliesIn exp_and_q) (some_same e) tt
    kinds_in (suc zero) K e s = absurd cc
    kinds_in (suc (suc zero)) K e s = subst (KindFamiliesIn exp_and_q) (some_same e) (refl, tt)
    kinds_in (suc (suc (suc f))) K e s = absurd cc

    types_in : (c : ℕ) (A : LfType) → Unasked.types c ≡ Some A → exp_and_q (target A) ≡ true → FamiliesIn exp_and_q A
    types_in zero A e s = subst (FamiliesIn exp_and_q) (some_same e) refl
    types_in (suc zero) A e s = subst (FamiliesIn exp_and_q) (some_same e) (refl, refl)
    types_in (suc (suc zero)) A e s = subst (FamiliesIn exp_and_q) (some_same e) refl
    types_in (suc (suc (suc zero))) A e s = subst (FamiliesIn exp_and_q) (some_same e) (refl, refl)
    types_in (suc (suc (suc (suc c)))) A e s = absurd (none_some e)

    among : (E : LfType) → Member E unasked_block.entries → exp_and_q (target E) ≡ true → FamiliesIn exp_and_q E
    among E (inl e) s = subst (FamiliesIn exp_and_q) (sym e) refl
    among E (inr (inl e)) s = absurd (no_truth (subst (λ (D : LfType). exp_and_q (target D) ≡ true) e s))
    among E (inr (inr (inl e))) s = subst (FamiliesIn exp_and_q) (sym e) refl
    among E (inr (inr (inr m))) s = absurd m

    entries_in : (B : Block) (E : LfType) → Member B unasked_worlds → Member E B.entries → exp_and_q (target E) ≡ true → FamiliesIn exp_and_q E
    entries_in B E (inl e) n s = among E (subst (λ (D : Block). Member E D.entries) e n) s
    entries_in B E (inr m) n s = absurd m

beside : IsBesideByNumber Unasked unasked_worlds exp_and_q q_goal
beside = record { self_contained = self_contained; kind = kind_pi exp star; of_family = refl; places = (refl, tt); locals = tt }

pub unasked_entry_is_no_hindrance : UnaskedEntryIsNoHindrance
unfolding answered
unasked_entry_is_no_hindrance below s = (
  answered_by_number_is_split_answer Unasked ok unasked_worlds blocks below s 4 free q_goal goal_typed 0 (q_a_case ∷ q_b_case ∷ q_x_case ∷ []) (lists below),
  a_instance,
  b_instance,
  x_instance,
  answered_by_number_is_covered Unasked ok unasked_worlds blocks below s 4 free unasked_heads q_goal goal_typed (omega arith) (by_split (q_a_case ∷ q_b_case ∷ q_x_case ∷ []) (0, answered below s, λ S b. (subst (PlacesIn S (true ∷ [])) (sym (some_same b.of_family)) b.places).0) (next_case (at_leaf a_leaf) (next_case (at_leaf b_leaf) (next_case (at_leaf x_leaf) no_case)))),
  beside,
)
