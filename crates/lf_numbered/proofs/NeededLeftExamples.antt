-- Worked: a whole run that stops at the equation that circular types leave, of a goal that has what `cover` needs.
use Rattle.std.proofs.Common.{◌≡◌, ℕ, zero, suc, ◌+◌, [], ◌∷◌, inl, inr, refl, sym, ap, ◌∙◌, subst}
use Rattle.std.specs.Prelude.{Bool, true, false, ◌⊎◌, Some}
use Rattle.lf.specs.Syntax.{Kind, Spine, Term, app, constant, metavariable, variable, arrow, base, lambda, root, nil, LfType, star, weaken}
use Rattle.lf.specs.AtOnce.{in_front}
use Rattle.lf.specs.Substitution.{Image, keep, put, substitute_type, reduce}
use Rattle.lf.specs.Typing.{IsType, TypeAt, ImageHasType}
use Rattle.lf.specs.Subordination.{IsBelowTest, IsDeclared, SelfContained}
use Rattle.lf.specs.Worlds.{World}
use Rattle.lf.specs.Variables.{FamiliesIn, KindFamiliesIn, UsesType, nothing, target}
use Rattle.lf_checks.specs.Marks.{MentionChosenOnly}
use Rattle.lf_cases.specs.Cover.{AreTerms}
use Rattle.lf_cases.specs.Pattern.{Pattern, head_pattern}
use Rattle.lf_totality.specs.Examples.{nat, var, z}
use Rattle.lf_totality.specs.ExamplesGroups.{on_one}
use Rattle.lf_numbered.specs.EntryPatterns.{IsInstanceOfPattern}
use Rattle.lf_coverage.specs.Leaf.{IsTypedPattern}
use Rattle.lf_numbered.specs.LeftExamples.{Circle, circle_kinds, circle_types, circle_after, circle_case, circle_left, p_kind, refl_type, refl_z}
use Rattle.lf_numbered.specs.NeededLeftExamples.{CircleAloneIsRefused, CircleHasTuple, CircleIsNeeded, NeededCircleIsTrue, circle_families, refl_clause, refl_head, whole_case, whole_offer, whole_over}
use Rattle.lf_numbered.specs.NumberedCalls.{HasTypedBlock, IsHeadFor, IsSubgoalFor, NumberedCoverNeeds}
use Rattle.lf_numbered.specs.NumberedCallsMeeting.{HasPattern, SharesInstance}
use Rattle.lf_numbered.specs.NumberedCallsOutside.{SplitLeavesByNumber}
use Rattle.lf_numbered.specs.NumberedCallsReached.{RunLeavesByNumber, numbered_first, numbered_goal}
use Rattle.lf_numbered.specs.NumberedCase.{IsNumberedInstance, NumberedCase}
use Rattle.lf_numbered.specs.NewInstance.{AreApart}
use Rattle.lf_numbered.specs.NumberedNeeds.{AreTypedHeads}
use Rattle.lf_numbered.specs.NumberedSplits.{of_case}
use Rattle.lf_numbered.specs.OwnStores.{offer_signature}
use Rattle.lf_numbered.specs.OwnTerms.{ImageOnOwnTerms, own_terms}
use Rattle.lf_numbered.proofs.EntryTermsInputs.{closed_is_typed}
use Rattle.lf_numbered.proofs.LeftEquations.{head_is_given}
use Rattle.lf_numbered.proofs.LeftExamples.{index, is_left, k_w, left_over}
use Rattle.lf_numbered.proofs.LeftExamplesTyped.{Entries, circle_ok, free, no_blocks, two_nats}
use Rattle.lf_numbered.proofs.NeededLeft.{needed_left_holds_true}
use Rattle.lf_numbered.proofs.NumberedCallsCopying.{one_member}
use Rattle.lf_numbered.proofs.NumberedNeedsGoals.{input_goal_has_needs}
use Rattle.lf_coverage.proofs.Parts.{none_some, some_same}
use Rattle.lf_numbered.proofs.WorkedCallsStuck.{no_truth}

-- The head is typed
clause_typed : IsType Circle [] refl_clause
clause_typed = ((star, refl, tt), ((_, refl, ((nat, refl, refl), tt)), (p_kind, refl, ((nat, (nat, refl, refl), refl), ((nat, (nat, (nat, refl, refl), refl), refl), ((on_one 1 (var 1), refl, refl), ((refl_type, refl, ((nat, (nat, refl, refl), refl), refl)), tt)))))))

head_typed : IsTypedPattern Circle refl_head
head_typed = closed_is_typed Circle circle_ok refl_clause clause_typed

only_head : AreTypedHeads Circle 3 (refl_head ∷ [])
only_head r m = subst (λ (q : Pattern). IsTypedPattern Circle q × (q ≡ head_pattern q.clause q.origin) × (target q.type ≡ 3) × HasTypedBlock Circle q.origin) (sym (one_member m)) (head_typed, refl, refl, tt)

needs : (below : ℕ → ℕ → Bool) → ((f : ℕ) → IsBelowTest Circle [] (below f) f) → NumberedCoverNeeds Circle 4 [] below (refl_head ∷ []) whole_case
needs below test = input_goal_has_needs Circle 4 [] (record { signature = circle_ok; blocks = no_blocks; free = free }) below test 3 (true ∷ true ∷ true ∷ true ∷ []) p_kind (record { signature = circle_ok; free = free; of_family = refl; chosen_only = (tt, ((((refl, tt), tt), tt), (((refl, tt), tt), (((refl, tt), ((refl, ((refl, tt), tt)), tt)), tt)))) }) whole_case refl (refl_head ∷ []) only_head

-- They share p z ([x] z) n (refl z).
abbrev n_term : Term
n_term = root (constant 2) nil

abbrev common : NumberedCase
common = record { blocks = []; variables = []; given = []; local = []; family = 3; arguments = Some z ∷ Some (lambda z) ∷ Some n_term ∷ Some refl_z ∷ [] }

abbrev both : ℕ → Bool
both zero = true
both (suc zero) = true
both (suc (suc i)) = false

abbrev values : ℕ → Image
values = in_front (put (base 1) n_term) (in_front (put (base 0) z) keep)

has_pattern : HasPattern Circle 4 common refl_head
has_pattern = record {
  used = both;
  values = values;
  typed = record { typed = typed; closed = closed };
  on_own_terms = own;
  uses = ((refl, tt), ((refl, tt), ((refl, tt), (((refl, tt), tt), tt))));
  terms = terms;
  given = λ j M u e. absurd cc;
  stands = tt;
  same = (refl, (refl, (refl, (refl, tt))));
}
  where
    typed : (i : ℕ) (A : LfType) → TypeAt (on_one 1 (var 0) ∷ nat ∷ []) i A → both i ≡ true → ImageHasType Entries [] (values i) (substitute_type reduce values A)
    typed zero A e u = subst (λ B. ImageHasType Entries [] (values 0) (substitute_type reduce values B)) (sym e) (refl, (on_one 1 z, refl, refl))
    typed (suc zero) A (B, g, e) u = subst (λ B. ImageHasType Entries [] (values 1) (substitute_type reduce values B)) (sym (e ∙ ap weaken g)) (refl, (nat, refl, refl))
    typed (suc (suc i)) A g u = absurd (no_truth u)

    closed : (i : ℕ) (A : LfType) → TypeAt (on_one 1 (var 0) ∷ nat ∷ []) i A → both i ≡ true → UsesType both A
    closed zero A e u = subst (UsesType both) (sym e) ((refl, tt), tt)
    closed (suc zero) A (B, g, e) u = subst (UsesType both) (sym (e ∙ ap weaken g)) tt
    closed (suc (suc i)) A g u = absurd (no_truth u)

    own : (i : ℕ) → both i ≡ true → ImageOnOwnTerms (own_terms 4 []) (values i)
    own zero u = (tt, tt)
    own (suc zero) u = (tt, tt)
    own (suc (suc i)) u = absurd (no_truth u)

    terms : AreTerms refl_head.clause both values
    terms zero o u = tt
    terms (suc zero) o u = tt
    terms (suc (suc i)) o u = absurd (no_truth u)

shares : SharesInstance Circle 4 [] whole_case refl_head
shares = record {
  common = common;
  typed_variables = record { variables = tt; on_own_terms = λ i A g. absurd g; blocks = tt };
  numbers = λ k. k;
  zeroth = refl;
  values = in_front (put (base 2) refl_z) (in_front (put (base 1) n_term) (in_front (put (arrow (base 1) (base 0)) (lambda z)) (in_front (put (base 0) z) (λ i. keep (i + 0)))));
  of_case = record {
    is_instance = record { blocks = λ k b e. absurd (none_some e); values = (refl_z, _, (n_term, _, (lambda z, _, (z, (λ i. keep (i + 0)), refl, (nat, refl, refl), (tt, tt), refl), (nat, refl, refl), (tt, tt), refl), (on_one 1 z, refl, refl), (tt, tt), refl), (refl_type, refl, ((nat, refl, refl), refl)), (tt, ((tt, tt), tt)), refl) };
    family = refl;
    given = refl;
    local = refl;
    arguments = refl;
  };
  of_pattern = has_pattern;
}

-- X isn't refl Z, so the run splits it.
variable_or_constant : {i c : ℕ} {S T : Spine} → root (variable i) S ≡ root (constant c) T → ⊥
variable_or_constant e = cc

none : IsInstanceOfPattern Circle 4 whole_case refl_head → ⊥
none i = variable_or_constant i.same.1.1.1.0

module _ (below : ℕ → ℕ → Bool) where
  abbrev leaves : SplitLeavesByNumber Circle 4 [] below whole_case 0 whole_over circle_left
  leaves = record { type = index; at = refl; offer = whole_offer; is_offered = of_case (constant 3) nil refl_type (offer_signature 3 refl_type refl refl); is_over = refl; kind = two_nats; of_family = refl; after = circle_after; left = is_left below; equation = record { local = []; left = k_w; right = root (metavariable 0) nil; of_type = nat }; listed = inl refl; left_over = left_over; is_shown = refl }

  abbrev run : RunLeavesByNumber Circle 4 [] below (refl_head ∷ []) whole_case whole_case whole_over circle_left
  run = record { reached = numbered_goal; no_instance = λ p m i. none (subst (IsInstanceOfPattern Circle 4 whole_case) (one_member m) i); candidate = 0; is_first = numbered_first [] (inl shares) refl; leaves = leaves }

pub circle_is_needed : CircleIsNeeded
circle_is_needed below test = (needs below test, run below)

pub needed_circle_is_true : NeededCircleIsTrue
needed_circle_is_true below test S b Σ' ext G w F υ T h g = needed_left_holds_true Circle 4 [] below (refl_head ∷ []) whole_case (needs below test) whole_case whole_over circle_left (run below) S b Σ' ext G w F υ T h g

-- The set and the tuple.
holds_families : SelfContained Circle [] circle_families
holds_families = record { declared = declared; kinds_in = kinds; types_in = types; entries_in = λ B E m n s. absurd m }
  where
    declared : (f : ℕ) → circle_families f ≡ true → IsDeclared Circle f
    declared zero e = (_, refl)
    declared (suc zero) e = (_, refl)
    declared (suc (suc zero)) e = (_, refl)
    declared (suc (suc (suc zero))) e = (_, refl)
    declared (suc (suc (suc (suc f)))) e = absurd (no_truth e)

    kinds : (f : ℕ) (K : Kind) → circle_kinds f ≡ Some K → circle_families f ≡ true → KindFamiliesIn circle_families K
    kinds zero K q e = subst (KindFamiliesIn circle_families) (some_same q) tt
    kinds (suc zero) K q e = subst (KindFamiliesIn circle_families) (some_same q) (refl, tt)
    kinds (suc (suc zero)) K q e = subst (KindFamiliesIn circle_families) (some_same q) (refl, (refl, tt))
    kinds (suc (suc (suc zero))) K q e = subst (KindFamiliesIn circle_families) (some_same q) (refl, ((refl, refl), (refl, (refl, tt))))
    kinds (suc (suc (suc (suc f)))) K q e = absurd (no_truth e)

    types : (c : ℕ) (A : LfType) → circle_types c ≡ Some A → circle_families (target A) ≡ true → FamiliesIn circle_families A
    types zero A q e = subst (FamiliesIn circle_families) (some_same q) refl
    types (suc zero) A q e = subst (FamiliesIn circle_families) (some_same q) refl
    types (suc (suc zero)) A q e = subst (FamiliesIn circle_families) (some_same q) refl
    types (suc (suc (suc zero))) A q e = subst (FamiliesIn circle_families) (some_same q) (refl, refl)
    types (suc (suc (suc (suc c)))) A q e = absurd (none_some q)

abbrev ground_values : ℕ → Image
ground_values = in_front (put (base 2) refl_z) (in_front (put (base 1) n_term) (in_front (put (arrow (base 1) (base 0)) (lambda z)) (in_front (put (base 0) z) keep)))

ground : (w : World Circle [] circle_families []) → IsNumberedInstance w 4 whole_case (λ k i. keep i) ground_values
ground w = record { values = (refl_z, _, (n_term, _, (lambda z, _, (z, keep, refl, (nat, refl, refl), refl), (nat, refl, refl), refl), (on_one 1 z, refl, refl), refl), (refl_type, refl, ((nat, refl, refl), refl)), refl); instances = tt }

apart : AreApart whole_case (λ k i. keep i)
apart j k b c e = absurd (none_some e)

pub circle_has_tuple : CircleHasTuple
circle_has_tuple = (
  record { self_contained = holds_families; kind = p_kind; of_family = refl; places = (refl, ((refl, refl), (refl, (refl, tt)))); locals = tt },
  λ w υ. (
    record { holds = record { instances = λ k i. keep i; values = ground_values; is_ground = ground w; zeroth = tt; given = λ i M e. absurd (none_some e); has_arguments = (refl, (refl, (refl, (refl, tt)))) }; are_apart = apart },
    head_is_given Circle [] circle_families [] w 4 whole_offer (λ k i. keep i) ground_values (ground w) apart (app z nil, refl),
  ),
)

-- The type of X mentions T, which isn't covered.
pub circle_alone_is_refused : CircleAloneIsRefused
circle_alone_is_refused below n = by (n.patterns refl_head (inl refl)).beside
  where
    by : IsHeadFor Circle 4 circle_case refl_head ⊎ IsSubgoalFor Circle 4 [] circle_case refl_head → ⊥
    by (inl h) = no_truth (subst (MentionChosenOnly nothing (false ∷ false ∷ false ∷ true ∷ [])) (sym (some_same h.of_family)) h.covered_only).0.0.0
    by (inr s) = no_truth s.at_first
