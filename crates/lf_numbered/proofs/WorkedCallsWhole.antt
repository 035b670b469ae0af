-- The worked run with candidates: its leaves, and the answer.
use Rattle.std.proofs.Common.{◌≡◌, ℕ, zero, suc, [], ◌∷◌, inl, inr, refl, sym, subst, arith}
use Rattle.std.specs.Prelude.{Bool, true}
use Rattle.lf.specs.Syntax.{constant, Term, root, nil, app, arrow, base, kind_pi, star}
use Rattle.lf.specs.Substitution.{Image, keep, put, substitute_type, reduce}
use Rattle.lf.specs.AtOnce.{in_front}
use Rattle.lf.specs.Typing.{ImageHasType, IsTypedSubstitution}
use Rattle.lf.specs.Variables.{UsesType, same_number}
use Rattle.lf.specs.Subordination.{Member}
use Rattle.lf_checks.specs.Clause.{from_entry}
use Rattle.lf_checks.specs.Worlded.{IsTerm}
use Rattle.lf_cases.specs.Cover.{AreTerms}
use Rattle.lf_cases.specs.Split.{at_leaf, by_split, next_case, no_case}
use Rattle.lf_totality.specs.Examples.{exp, var}
use Rattle.lf_totality.specs.ExamplesGroups.{on_one}
use Rattle.lf_coverage.specs.Calls.{PlacesIn}
use Rattle.lf_coverage.specs.Heads.{ArgumentsAreBelow}
use Rattle.lf_coverage.proofs.Leaves.{head_is_typed}
use Rattle.lf_coverage.proofs.Parts.{none_some, some_same}
use Rattle.lf_numbered.specs.EntryConstants.{with_entries}
use Rattle.lf_numbered.specs.EntryPatterns.{IsInstanceOfPattern}
use Rattle.lf_numbered.specs.EntryPatternsRuns.{IsNumberedLeaf}
use Rattle.lf_numbered.specs.NumberedCalls.{IsBesideByNumber}
use Rattle.lf_numbered.specs.NumberedSplits.{IsAnsweredByNumber, NumberedOffer}
use Rattle.lf_numbered.specs.OwnTerms.{ImageOnOwnTerms, own_terms}
use Rattle.lf_numbered.specs.TypedNumbered.{IsTypedNumberedCase}
use Rattle.lf_numbered.proofs.NumberedCallsLaws.{answered_by_number_is_covered, answered_by_number_is_split_answer}
use Rattle.lf_numbered.proofs.WorkedCallsStuck.{no_truth}
use Rattle.lf_checks.specs.Clause.{constant_clause, from_constant}
use Rattle.lf_checks.specs.Marks.{TypedPlaces}
use Rattle.lf_cases.specs.Case.{covered_places}
use Rattle.lf_cases.specs.Pattern.{ground_in}
use Rattle.lf.specs.Syntax.{Spine}
use Rattle.lf_coverage.proofs.UsedVariables.{at_one, types_of_one}
use Rattle.lf_numbered.specs.EntryTerms.{MatchesByNumber, own_values}
use Rattle.lf_numbered.specs.ExamplesNumbered.{first_block, second_block}
use Rattle.lf_numbered.specs.WorkedCallsWhole.{Whole, WholeRunIsAnswered, a_case, at_d_head, at_d_type, d_case, d_of, t_all, whole_heads, x_case, y_case, turning_clause, turning_head, a, at_a_head, at_a_type, at_b_head, at_b_type, b_case, turning_goal}
use Rattle.lf_numbered.proofs.EntryTermsDecided.{numbered_head_is_decided}
use Rattle.lf_numbered.proofs.VariableTyped.{value_is_typed, variable_on_own}
use Rattle.lf_numbered.proofs.WorkedCallsWholeFirst.{blocks, free, goal_each, goal_every, goal_listed, goal_lists, goal_offers, goal_typed, of_number, ok, worlds}
use Rattle.lf_numbered.proofs.WorkedCallsWholeSecond.{each, entry_instance, entry_typed, every, listed, offers, y_lists, y_typed}
use Rattle.lf_numbered.proofs.WorkedCallsWholeThird.{b_instance, b_typed}

-- f a e.y, for e on a
abbrev on_a : ℕ → Image
on_a = in_front (put (base 0) a) keep

on_a_typed : IsTypedSubstitution (with_entries Whole 6 (first_block ∷ [])) (exp ∷ []) [] on_a
on_a_typed = value_is_typed (with_entries Whole 6 (first_block ∷ [])) exp [] on_a (refl, (exp, refl, refl))

a_typed : IsTypedNumberedCase Whole 6 worlds a_case
a_typed = record {
  variables = record { variables = tt; on_own_terms = λ i A g. absurd g; blocks = (inl refl, (on_a, on_a_typed, refl), ((tt, tt), tt), tt) };
  local = tt;
  local_on_own = tt;
  given = tt;
  given_on_own = tt;
  arguments = ((base 0, (base 0, refl, refl)), ((base 1, (arrow (base 0) (base 1), refl, ((base 0, refl, refl), refl))), tt));
  arguments_on_own = ((tt, tt), (((nil, refl), ((tt, tt), tt)), tt));
}

abbrev entry_on_a : Term
entry_on_a = root (constant 6) (app a nil)

abbrev at_a_values : ℕ → Image
at_a_values = in_front (put (base 1) entry_on_a) keep

a_instance : IsInstanceOfPattern Whole 6 a_case at_a_head
a_instance = record {
  used = same_number 0;
  values = at_a_values;
  typed = record {
    typed = λ i A g u. types_of_one (λ i A. ImageHasType (with_entries Whole 6 (first_block ∷ [])) [] (at_a_values i) (substitute_type reduce at_a_values A)) (on_one 1 a) (refl, (_, refl, ((exp, refl, refl), refl))) i A g;
    closed = λ i A g u. types_of_one (λ i A. UsesType (same_number 0) A) (on_one 1 a) (tt, tt) i A g;
  };
  on_own_terms = at_one 0 (λ i. ImageOnOwnTerms (own_terms 6 a_case.blocks) (at_a_values i)) ((nil, refl), ((tt, tt), tt));
  uses = (tt, ((refl, tt), tt));
  strict = (tt, ((refl, tt), tt));
  terms = λ i o u. at_one 0 (λ j. IsTerm (at_a_values j)) tt i u;
  given = λ j M u e. absurd (none_some e);
  stands = tt;
  same = (refl, (refl, tt));
}

-- f M (d M)
d_typed : IsTypedNumberedCase Whole 6 worlds d_case
d_typed = record {
  variables = record { variables = (tt, (star, refl, tt)); on_own_terms = variable_on_own (own_terms 6 []) 0; blocks = tt };
  local = (tt, (star, refl, tt));
  local_on_own = tt;
  given = tt;
  given_on_own = tt;
  arguments = ((base 0, (base 0, refl, refl)), ((base 1, (arrow (base 0) (base 1), refl, ((base 0, refl, refl), refl))), tt));
  arguments_on_own = (tt, ((tt, (tt, tt)), tt));
}

d_terms : AreTerms at_d_head.clause (ground_in at_d_head (covered_places d_case.arguments) d_case.given) (own_values d_case at_d_head (λ i. keep i))
d_terms zero o u = tt
d_terms (suc i) o u = absurd (no_truth (sym o))

d_match : MatchesByNumber 6 d_case at_d_head
d_match = (keep, refl, (((refl, tt), (((refl, tt), tt), tt)), d_terms, (refl, (refl, tt))))

abbrev d_tuple : Spine
d_tuple = app (var 0) (app (d_of (var 0)) nil)

d_instance : IsInstanceOfPattern Whole 6 d_case at_d_head
d_instance = (numbered_head_is_decided Whole ok worlds blocks 6 free d_case d_typed (constant_clause at_d_type) (from_constant 2 at_d_type refl) refl refl (kind_pi exp (kind_pi (on_one 1 (var 0)) star)) refl (tt, (((refl, tt), tt), tt)) d_tuple (refl, (refl, tt)) typed).0.1 d_match
  where
    typed : TypedPlaces (with_entries Whole 6 []) (true ∷ true ∷ []) (exp ∷ []) d_tuple (kind_pi exp (kind_pi (on_one 1 (var 0)) star))
    typed = ((exp, refl, refl), ((t_all, refl, ((exp, refl, refl), refl)), tt))

-- The leaves
d_leaf : IsNumberedLeaf Whole 6 worlds whole_heads d_case
d_leaf = record { typed = d_typed; pattern = at_d_head; listed = inl refl; pattern_typed = head_is_typed Whole ok worlds blocks (constant_clause at_d_type) (from_constant 2 at_d_type refl); same_length = refl; given_own = λ i e. absurd cc; is_instance = d_instance }

a_leaf : IsNumberedLeaf Whole 6 worlds whole_heads a_case
a_leaf = record { typed = a_typed; pattern = at_a_head; listed = inr (inl refl); pattern_typed = head_is_typed Whole ok worlds blocks (constant_clause at_a_type) (from_constant 3 at_a_type refl); same_length = refl; given_own = λ i e. absurd cc; is_instance = a_instance }

b_leaf : IsNumberedLeaf Whole 6 worlds whole_heads b_case
b_leaf = record { typed = b_typed; pattern = at_b_head; listed = inr (inr (inl refl)); pattern_typed = head_is_typed Whole ok worlds blocks (constant_clause at_b_type) (from_constant 5 at_b_type refl); same_length = refl; given_own = λ i e. absurd cc; is_instance = b_instance }

x_leaf : IsNumberedLeaf Whole 6 worlds whole_heads x_case
x_leaf = record { typed = entry_typed; pattern = turning_head; listed = inr (inr (inr (inl refl))); pattern_typed = head_is_typed Whole ok worlds blocks turning_clause (from_entry second_block [] _ (exp ∷ []) (inr (inl refl)) refl); same_length = refl; given_own = λ i e. absurd cc; is_instance = entry_instance }

-- Both splits, for the goal
goal_answered : (below : ℕ → ℕ → Bool) → below 0 0 ≡ true → IsAnsweredByNumber Whole 6 worlds below turning_goal 0 (d_case ∷ y_case ∷ [])
goal_answered below i = record { type = of_number; at = refl; takes_below = tt; offers = goal_offers; each = goal_each; every = goal_every; arguments_below = λ o f. among o (goal_every o f); listed = goal_listed below }
  where
    among : (o : NumberedOffer) → Member o goal_offers → ArgumentsAreBelow below o.left
    among o (inl e) = subst (λ (p : NumberedOffer). ArgumentsAreBelow below p.left) (sym e) (i, tt)
    among o (inr (inl e)) = subst (λ (p : NumberedOffer). ArgumentsAreBelow below p.left) (sym e) tt
    among o (inr (inr m)) = absurd m

y_answered : (below : ℕ → ℕ → Bool) → below 0 0 ≡ true → IsAnsweredByNumber Whole 6 worlds below y_case 0 (a_case ∷ b_case ∷ x_case ∷ [])
y_answered below i = record {
  type = exp;
  at = refl;
  takes_below = tt;
  offers = offers;
  each = each;
  every = every;
  arguments_below = λ o f. among o (every o f);
  listed = listed below;
}
  where
    among : (o : NumberedOffer) → Member o offers → ArgumentsAreBelow below o.left
    among o (inl e) = subst (λ (p : NumberedOffer). ArgumentsAreBelow below p.left) (sym e) tt
    among o (inr (inl e)) = subst (λ (p : NumberedOffer). ArgumentsAreBelow below p.left) (sym e) (i, tt)
    among o (inr (inr (inl e))) = subst (λ (p : NumberedOffer). ArgumentsAreBelow below p.left) (sym e) tt
    among o (inr (inr (inr m))) = absurd m

places_in : (S : ℕ → Bool) (b : IsBesideByNumber Whole worlds S turning_goal) → (S 0 ≡ true) × (S 1 ≡ true)
places_in S b = let p : PlacesIn S (true ∷ true ∷ []) (kind_pi exp (kind_pi (on_one 1 (var 0)) star)) = subst (PlacesIn S (true ∷ true ∷ [])) (sym (some_same b.of_family)) b.places in (p.0, p.1.0)

pub whole_run_is_answered : WholeRunIsAnswered
unfolding goal_answered y_answered
whole_run_is_answered = (
  refl,
  refl,
  refl,
  λ below s. (
    answered_by_number_is_split_answer Whole ok worlds blocks below s 6 free turning_goal goal_typed 0 (d_case ∷ y_case ∷ []) (goal_lists below),
    answered_by_number_is_split_answer Whole ok worlds blocks below s 6 free y_case y_typed 0 (a_case ∷ b_case ∷ x_case ∷ []) (y_lists below),
    d_instance,
    a_instance,
    b_instance,
    entry_instance,
    answered_by_number_is_covered Whole ok worlds blocks below s 6 free whole_heads turning_goal goal_typed (omega arith) (by_split (d_case ∷ y_case ∷ []) (0, goal_answered below (s.itself 0), λ S b. (places_in S b).1) (next_case (at_leaf d_leaf) (next_case (by_split (a_case ∷ b_case ∷ x_case ∷ []) (0, y_answered below (s.itself 0), λ S b. (places_in S b).0) (next_case (at_leaf a_leaf) (next_case (at_leaf b_leaf) (next_case (at_leaf x_leaf) no_case)))) no_case))),
  ),
)
