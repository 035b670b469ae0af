-- An instance of a pattern matches it.
use Rattle.std.proofs.Common.{◌≡◌, ℕ, zero, suc, List, [], ◌∷◌, length, inl, inr, refl, sym, ap, ◌∙◌, subst}
use Rattle.std.specs.Prelude.{Bool, true, false, Option, Some, None, ◌⊎◌}
use Rattle.lf.specs.Syntax.{constant, variable, metavariable, Term, Spine, lambda, root, nil, app, LfType, pi, atom, skeleton, weaken}
use Rattle.lf.specs.Substitution.{put, substitute_type, reduce}
use Rattle.lf.specs.Typing.{Signature, TypeAt, ImageHasType, IsSignature}
use Rattle.lf.specs.Variables.{target_arguments, binders, Uses, UsesSpine, UsesType, Values, SameOn, under, hide, everything, nothing}
use Rattle.lf.specs.Subordination.{Block, AreTypedBlocks}
use Rattle.lf.proofs.Agreement.{agree_on_type}
use Rattle.lf.proofs.Kept.{typed_uses_type}
use Rattle.lf.proofs.Weakening.{declared_is_type}
use Rattle.lf.proofs.Checker.{both_of}
use Rattle.lf_checks.specs.Clause.{Clause, scope, outside}
use Rattle.lf_checks.specs.Ground.{UsesGoal}
use Rattle.lf_checks.specs.Marks.{UsesPlaces}
use Rattle.lf_checks.specs.Tests.{both}
use Rattle.lf_checks.specs.Worlded.{IsTerm}
use Rattle.lf_checks.proofs.EtaTest.{both_l, both_r}
use Rattle.lf_cases.specs.Cover.{AreTerms}
use Rattle.lf_cases.specs.Case.{Case, items_context, covered_places}
use Rattle.lf_cases.specs.Pattern.{Pattern, given_at, is_given, ground_in}
use Rattle.lf_cases.specs.Missing.{CommonInstance}
use Rattle.lf_cases.specs.Reached.{LeavesAll}
use Rattle.lf_cases.proofs.StrictUsed.{goal_used}
use Rattle.lf_totality.proofs.OutputCases.{in_context, in_covers, in_type}
use Rattle.lf_coverage.specs.Leaf.{IsTypedPattern}
use Rattle.lf_coverage.specs.OrElse.{or_else}
use Rattle.lf_coverage.specs.Matching.{ArePlaces, HoldsTypes, Matches, found_goal, found_term, found_values}
use Rattle.lf_coverage.specs.MatchingLaws.{InstanceMatches}
use Rattle.lf_coverage.specs.MeetStore.{IsConstants}
use Rattle.lf_coverage.specs.TypedCase.{IsTypedBeside, given_values}
use Rattle.lf_coverage.proofs.Choices.{decided}
use Rattle.lf_coverage.proofs.GivenValues.{StandsForGiven, StandsForItself, given_cases}
use Rattle.lf_coverage.proofs.Matching.{arguments_are, found_is, goal_agrees, ground_is_strict, is_own, value_found, values}

-- What is of two sets is of a third, and so is what uses both.
abbrev pub Third : (ℕ → Bool) → (ℕ → Bool) → (ℕ → Bool) → Type 0
Third U V X = (i : ℕ) → U i ≡ true → V i ≡ true → X i ≡ true

third_under : (U V X : ℕ → Bool) → Third U V X → Third (under U) (under V) (under X)
third_under U V X h zero u v = refl
third_under U V X h (suc i) u v = h i u v

mutual
  uses_third : (U V X : ℕ → Bool) → Third U V X → (M : Term) → Uses U M → Uses V M → Uses X M
  uses_third U V X h (lambda M) u v = uses_third (under U) (under V) (under X) (third_under U V X h) M u v
  uses_third U V X h (root (constant c) S) u v = spine_third U V X h S u v
  uses_third U V X h (root (metavariable m) S) u v = spine_third U V X h S u v
  uses_third U V X h (root (variable i) S) u v = (h i u.0 v.0, spine_third U V X h S u.1 v.1)

  spine_third : (U V X : ℕ → Bool) → Third U V X → (S : Spine) → UsesSpine U S → UsesSpine V S → UsesSpine X S
  spine_third U V X h nil u v = tt
  spine_third U V X h (app M S) u v = (uses_third U V X h M u.0 v.0, spine_third U V X h S u.1 v.1)

pub type_third : (U V X : ℕ → Bool) → Third U V X → (A : LfType) → UsesType U A → UsesType V A → UsesType X A
type_third U V X h (pi A B) u v = (type_third U V X h A u.0 v.0, type_third (under U) (under V) (under X) (third_under U V X h) B u.1 v.1)
type_third U V X h (atom a S) u v = spine_third U V X h S u v

places_third : (U V X : ℕ → Bool) → Third U V X → (m : List Bool) (S : Spine) → UsesPlaces U m S → UsesPlaces V m S → UsesPlaces X m S
places_third U V X h [] S u v = tt
places_third U V X h (b ∷ m) nil u v = tt
places_third U V X h (true ∷ m) (app M S) u v = (uses_third U V X h M u.0 v.0, places_third U V X h m S u.1 v.1)
places_third U V X h (false ∷ m) (app M S) u v = places_third U V X h m S u v

pub goal_third : (U V X : ℕ → Bool) → Third U V X → (m : List Bool) (A : LfType) → UsesGoal U m A → UsesGoal V m A → UsesGoal X m A
goal_third U V X h m (pi A B) u v = (type_third U V X h A u.0 v.0, goal_third (under U) (under V) (under X) (third_under U V X h) m B u.1 v.1)
goal_third U V X h m (atom a S) u v = places_third U V X h m S u v

-- what a type uses, its goal does
places_part : (U : ℕ → Bool) (m : List Bool) (S : Spine) → UsesSpine U S → UsesPlaces U m S
places_part U [] S u = tt
places_part U (b ∷ m) nil u = tt
places_part U (true ∷ m) (app M S) u = (u.0, places_part U m S u.1)
places_part U (false ∷ m) (app M S) u = places_part U m S u.1

pub goal_part : (U : ℕ → Bool) (m : List Bool) (A : LfType) → UsesType U A → UsesGoal U m A
goal_part U m (pi A B) u = (u.0, goal_part (under U) m B u.1)
goal_part U m (atom a S) u = places_part U m S u

-- a clause's own variable is in its scope
own_at : (A : LfType) (O : List LfType) (V : ℕ → Bool) → ((i : ℕ) → V i ≡ false → (X : LfType) × TypeAt O i X) → (i : ℕ) → outside A V i ≡ false → (X : LfType) × TypeAt (binders O A) i X
own_at (pi A B) O V h i e = own_at B (A ∷ O) (hide V) pushed i e
  where
    pushed : (k : ℕ) → hide V k ≡ false → (X : LfType) × TypeAt (A ∷ O) k X
    pushed zero q = (weaken A, refl)
    pushed (suc k) q = let (X, g) = h k q in (weaken X, (X, g, refl))
own_at (atom a S) O V h i e = h i e

pub own_type : (c : Clause) (i : ℕ) → outside c.type everything i ≡ false → (X : LfType) × TypeAt (scope c) i X
own_type c i e = own_at c.type c.outer everything (λ k q. absurd cc) i e

pub given_there : (Ms : List (Option Term)) (i : ℕ) → is_given Ms i ≡ true → (M : Term) × (given_at Ms i ≡ Some M)
given_there [] i e = absurd cc
given_there (Some M ∷ Ms) zero e = (M, refl)
given_there (None ∷ Ms) zero e = absurd cc
given_there (M ∷ Ms) (suc i) e = given_there Ms i e

-- what is given for a variable is what is found for it
pub given_found : (C : Case) (p : Pattern) (i : ℕ) (A : LfType) (M : Term) → TypeAt (scope p.clause) i A → given_at C.given i ≡ Some M → found_values C p i ≡ put (skeleton A) M
given_found C p i A M g e = found_is i (scope p.clause) A (found_term C p i) M g (ap (λ x. or_else x (found_goal nothing (outside p.clause.type p.clause.fixed) zero i p.type C.arguments)) e)

-- and what stands for it in the case
pub given_same : (C : Case) (p : Pattern) (i : ℕ) (A : LfType) → TypeAt (scope p.clause) i A → is_given C.given i ≡ true → given_values C p i ≡ found_values C p i
given_same C p i A h u = let (M, q) = given_there C.given i u in by M q (given_cases (scope p.clause) C.given (length (items_context C.items)) i)
  where
    by : (M : Term) → given_at C.given i ≡ Some M → StandsForItself (scope p.clause) C.given (length (items_context C.items)) i ⊎ StandsForGiven (scope p.clause) C.given (length (items_context C.items)) i → given_values C p i ≡ found_values C p i
    by M q (inl (r, none)) = absurd (none A M h q)
    by M q (inr (E, P, x, r, z)) = z ∙ sym (given_found C p i E P x r)

module _ (Σ : Signature) (ok : IsSignature Σ) (W : List Block) (typed : AreTypedBlocks Σ W) (C : Case) (p : Pattern) (tp : IsTypedPattern Σ p) (k : IsConstants p.origin) (tb : IsTypedBeside Σ W C p) (s : CommonInstance Σ W C p) (e : s.items ≡ C.items) (l : LeavesAll C.items s.case_values) (g : UsesGoal (ground_in p (covered_places C.arguments) C.given) (covered_places C.arguments) p.type) (cl : HoldsTypes (ground_in p (covered_places C.arguments) C.given) (scope p.clause)) where
  abbrev V : ℕ → Bool
  V = ground_in p (covered_places C.arguments) C.given

  abbrev O : List LfType
  O = scope p.clause

  -- the variables of the scope that are used and ground
  abbrev X : ℕ → Bool
  X i = both (both (s.used i) (ground_in p (covered_places C.arguments) C.given i)) (in_context (scope p.clause) i)

  found_on : SameOn (λ i. both (both (s.used i) (ground_in p (covered_places C.arguments) C.given i)) (in_context (scope p.clause) i)) s.clause_values (found_values C p)
  found_on i x =
      let (A, h) = in_type (scope p.clause) i (both_r (both (s.used i) (V i)) (in_context (scope p.clause) i) x) in
      let y = both_l (both (s.used i) (V i)) (in_context (scope p.clause) i) x in
      value_found Σ ok W typed C tb.by_skeletons p tp s e l i A h (is_own p.origin k i A h) (both_l (s.used i) (V i) y) (both_r (s.used i) (V i) y)

  two : Third s.used (ground_in p (covered_places C.arguments) C.given) (λ i. both (s.used i) (ground_in p (covered_places C.arguments) C.given i))
  two i u v = both_of (s.used i) (V i) u v

  three : Third (λ i. both (s.used i) (ground_in p (covered_places C.arguments) C.given i)) (in_context (scope p.clause)) (λ i. both (both (s.used i) (ground_in p (covered_places C.arguments) C.given i)) (in_context (scope p.clause) i))
  three i u v = both_of (both (s.used i) (V i)) (in_context (scope p.clause) i) u v

  in_scope : (i : ℕ) (A : LfType) → TypeAt (scope p.clause) i A → UsesType (in_context (scope p.clause)) A
  in_scope i A h = typed_uses_type Σ (scope p.clause) (in_context (scope p.clause)) A (in_covers (scope p.clause)) (declared_is_type Σ ok (scope p.clause) i A tp.clause_typed h)

  used_typed : (i : ℕ) (A : LfType) → TypeAt (scope p.clause) i A → s.used i ≡ true → V i ≡ true → ImageHasType Σ (items_context C.items) (found_values C p i) (substitute_type reduce (found_values C p) A)
  used_typed i A h u v =
      let tv : Values Σ s.used (scope p.clause) (items_context C.items) s.clause_values = values Σ ok W typed C tb.by_skeletons p tp s e l in
      let q : substitute_type reduce s.clause_values A ≡ substitute_type reduce (found_values C p) A = agree_on_type reduce X s.clause_values (found_values C p) A found_on (type_third (λ j. both (s.used j) (V j)) (in_context (scope p.clause)) X three A (type_third s.used V (λ j. both (s.used j) (V j)) two A (tv.closed i A h u) (cl i A h v)) (in_scope i A h)) in
      subst (λ y. ImageHasType Σ (items_context C.items) y (substitute_type reduce (found_values C p) A)) (value_found Σ ok W typed C tb.by_skeletons p tp s e l i A h (is_own p.origin k i A h) u v) (subst (ImageHasType Σ (items_context C.items) (s.clause_values i)) q (tv.typed i A h u))

  given_typed : (i : ℕ) (A : LfType) → TypeAt (scope p.clause) i A → is_given C.given i ≡ true → ImageHasType Σ (items_context C.items) (found_values C p i) (substitute_type reduce (found_values C p) A)
  given_typed i A h u =
      let Y : ℕ → Bool = λ j. both (is_given C.given j) (in_context (scope p.clause) j) in
      let q : substitute_type reduce (given_values C p) A ≡ substitute_type reduce (found_values C p) A = agree_on_type reduce Y (given_values C p) (found_values C p) A (λ j y. let (B, b) = in_type (scope p.clause) j (both_r (is_given C.given j) (in_context (scope p.clause) j) y) in given_same C p j B b (both_l (is_given C.given j) (in_context (scope p.clause) j) y)) (type_third (is_given C.given) (in_context (scope p.clause)) Y (λ j a b. both_of (is_given C.given j) (in_context (scope p.clause) j) a b) A (tb.given.closed i A h u) (in_scope i A h)) in
      subst (λ y. ImageHasType Σ (items_context C.items) y (substitute_type reduce (found_values C p) A)) (given_same C p i A h u) (subst (ImageHasType Σ (items_context C.items) (given_values C p i)) q (tb.given.typed i A h u))

  -- what is ground and not given is used
  used_here : (i : ℕ) → outside p.clause.type everything i ≡ false → is_given C.given i ≡ false → V i ≡ true → s.used i ≡ true
  used_here i o n v = goal_used s.used (covered_places C.arguments) nothing (outside p.clause.type p.clause.fixed) i p.type s.uses (ground_is_strict p (covered_places C.arguments) C.given i n o v)

  found_terms : AreTerms p.clause (ground_in p (covered_places C.arguments) C.given) (found_values C p)
  found_terms i o v =
      let (A, h) = own_type p.clause i o in
      decided (is_given C.given i)
      (λ u. let (M, q) = given_there C.given i u in subst IsTerm (sym (given_found C p i A M h q)) tt)
      (λ n. let u = used_here i o n v in subst IsTerm (value_found Σ ok W typed C tb.by_skeletons p tp s e l i A h (is_own p.origin k i A h) u v) (s.terms i o u))

  all_typed : (i : ℕ) (A : LfType) → TypeAt (scope p.clause) i A → V i ≡ true → ImageHasType Σ (items_context C.items) (found_values C p i) (substitute_type reduce (found_values C p) A)
  all_typed i A h v = decided (is_given C.given i) (λ u. given_typed i A h u) (λ n. used_typed i A h (used_here i (is_own p.origin k i A h) n v) v)

  same_places : ArePlaces C.arguments (target_arguments (substitute_type reduce (found_values C p) p.type))
  same_places = goal_agrees X s.clause_values (found_values C p) found_on C.arguments p.type (goal_third (λ j. both (s.used j) (V j)) (in_context (scope p.clause)) X three (covered_places C.arguments) p.type (goal_third s.used V (λ j. both (s.used j) (V j)) two (covered_places C.arguments) p.type s.uses g) (goal_part (in_context (scope p.clause)) (covered_places C.arguments) p.type (typed_uses_type Σ (scope p.clause) (in_context (scope p.clause)) p.type (in_covers (scope p.clause)) tp.type_typed))) (arguments_are Σ ok W typed C tb.by_skeletons p tp s e l)

  -- The lemma
  pub matched : Matches Σ C p
  matched = record {
    strict = g;
    found = found_terms;
    typed = record { typed = all_typed; closed = cl };
    same = same_places;
  }

pub instance_matches : InstanceMatches
instance_matches Σ ok W typed C p tp k tb cl (s, e, l, g) = matched Σ ok W typed C p tp k tb s e l g (cl g)
