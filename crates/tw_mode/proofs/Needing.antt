-- Whether what a goal needs is in a set, one part after the other.
use Rattle.std.proofs.Common.{◌≡◌, ℕ, zero, suc, ◌+◌, ◌≤◌, List, [], ◌∷◌, Bool, true, false, length, drop, get_or, refl, sym, subst, arith, inl, inr, true≢false}
use Rattle.std.specs.Prelude.{Option, Some, None, Decides}
use Rattle.std.proofs.Math.ListN.{drop_of_length-le}
use Rattle.lf.specs.Syntax.{Term, Spine, nil, app, LfType, pi, atom}
use Rattle.lf.specs.Variables.{under, target, target_arguments, Uses, UsesType}
use Rattle.lf_checks.specs.Descent.{inside}
use Rattle.lf_checks.specs.Ground.{UsesGoal}
use Rattle.lf_checks.specs.Marks.{Mark, input_places, UsesPlaces}
use Rattle.lf_checks.specs.ModeFaults.{FirstOutside, HypothesesUse}
use Rattle.tw_terms.specs.View.{args_of}
use Rattle.tw_terms.specs.declared.canonical.Term.{Term as RustTerm}
use Rattle.tw_mode.specs.Checks.{Outcome}
use Rattle.tw_mode.specs.Outcomes.{NeedsOutcome, in_type, in_input}
use Rattle.tw_mode.proofs.Using.{decides_no, decides_same, no_of}

pub pi_hypotheses : (a b : Bool) (U V : ℕ → Bool) (T A B : LfType) → T ≡ pi A B → V ≡ under U → a ≡ true → Decides a (UsesType U A) → Decides b (HypothesesUse V B) → Decides b (HypothesesUse U T)
pi_hypotheses a b U V T A B e f t d k = subst (λ X. Decides b (HypothesesUse U X)) (sym e) (decides_same b (λ u. (d.0 t, subst (λ W. HypothesesUse W B) f u)) (λ u. subst (λ W. HypothesesUse W B) (sym f) u.1) k)

pub no_hypotheses : (a : Bool) (U : ℕ → Bool) (T A B : LfType) → T ≡ pi A B → a ≡ false → Decides a (UsesType U A) → Decides false (HypothesesUse U T)
no_hypotheses a U T A B e t d = subst (λ X. Decides false (HypothesesUse U X)) (sym e) (decides_no (λ u. no_of a t d u.0))

-- what it comes to at the chosen places, from a place on
abbrev pub PlacesOutcome : (ℕ → Bool) → ℕ → List Bool → Spine → Option ℕ → Type 0
PlacesOutcome U n m S o = Outcome (UsesPlaces U m S) (FirstOutside n U m S) o

further : (U : ℕ → Bool) (n k : ℕ) (m : List Bool) (M : Term) (R : Spine) (o : Option ℕ) → (get_or m k false ≡ true → Uses U M) → PlacesOutcome U (suc n) (drop (suc k) m) R o → PlacesOutcome U n (drop k m) (app M R) o
further U n zero [] M R None u h = tt
further U n zero [] M R (Some j) u h = absurd h
further U n (suc k) [] M R None u h = tt
further U n (suc k) [] M R (Some j) u h = absurd h
further U n zero (true ∷ m) M R None u h = (u refl, h)
further U n zero (true ∷ m) M R (Some j) u h = inr (u refl, h)
further U n zero (false ∷ m) M R None u h = h
further U n zero (false ∷ m) M R (Some j) u h = h
further U n (suc k) (b ∷ m) M R o u h = further U n k m M R o u h

pub place_passes : (U : ℕ → Bool) (k : ℕ) (m : List Bool) (S R : Spine) (M : Term) (o : Option ℕ) → S ≡ app M R → (get_or m k false ≡ true → Uses U M) → PlacesOutcome U (suc (k + 1)) (drop (k + 1) m) R o → PlacesOutcome U (suc k) (drop k m) S o
place_passes U k m S R M o e u h = subst (λ X. PlacesOutcome U (suc k) (drop k m) X o) (sym e) (further U (suc k) k m M R o u (subst (λ n. PlacesOutcome U (suc n) (drop n m) R o) (let q : k + 1 ≡ suc k = omega arith in q) h))

outside_at : (U : ℕ → Bool) (n k : ℕ) (m : List Bool) (M : Term) (R : Spine) → get_or m k false ≡ true → (Uses U M → ⊥) → FirstOutside n U (drop k m) (app M R) n
outside_at U n zero [] M R e f = absurd (true≢false (sym e))
outside_at U n (suc k) [] M R e f = absurd (true≢false (sym e))
outside_at U n zero (true ∷ m) M R e f = inl (f, refl)
outside_at U n zero (false ∷ m) M R e f = absurd (true≢false (sym e))
outside_at U n (suc k) (b ∷ m) M R e f = outside_at U n k m M R e f

pub place_fails : (U : ℕ → Bool) (k : ℕ) (m : List Bool) (S R : Spine) (M : Term) → S ≡ app M R → get_or m k false ≡ true → (Uses U M → ⊥) → PlacesOutcome U (suc k) (drop k m) S (Some (suc k))
place_fails U k m S R M e t f = subst (λ X. FirstOutside (suc k) U (drop k m) X (suc k)) (sym e) (outside_at U (suc k) k m M R t f)

none_left : (U : ℕ → Bool) (m : List Bool) → UsesPlaces U m nil
none_left U [] = tt
none_left U (b ∷ m) = tt

pub places_pass : (U : ℕ → Bool) (k : ℕ) (m : List Bool) (ts : List RustTerm) → length ts ≤ k → PlacesOutcome U (suc k) (drop k m) (args_of (drop k ts)) None
places_pass U k m ts h = subst (λ xs. UsesPlaces U (drop k m) (args_of xs)) (sym (drop_of_length-le ts h)) (none_left U (drop k m))

-- in a goal
abbrev pub GoalOutcome : (ℕ → Bool) → List Bool → LfType → Option ℕ → Type 0
GoalOutcome U m A o = Outcome (UsesPlaces (inside A U) m (target_arguments A)) (FirstOutside 1 (inside A U) m (target_arguments A)) o

pub goal_inside : (U V : ℕ → Bool) (m : List Bool) (T A B : LfType) (o : Option ℕ) → T ≡ pi A B → V ≡ under U → GoalOutcome V m B o → GoalOutcome U m T o
goal_inside U V m T A B o e f h = subst (λ X. GoalOutcome U m X o) (sym e) (subst (λ W. GoalOutcome W m B o) f h)

pub goal_atom : (U : ℕ → Bool) (m : List Bool) (T : LfType) (a : ℕ) (S : Spine) (o : Option ℕ) → T ≡ atom a S → PlacesOutcome U 1 m S o → GoalOutcome U m T o
goal_atom U m T a S o e h = subst (λ X. GoalOutcome U m X o) (sym e) h

-- Both together.
both_used : (U : ℕ → Bool) (m : List Bool) (A : LfType) → HypothesesUse U A → UsesPlaces (inside A U) m (target_arguments A) → UsesGoal U m A
both_used U m (pi A B) (a, b) u = (a, both_used (under U) m B b u)
both_used U m (atom a S) h u = u

pub needs_met : (m : ℕ → List Mark) (U : ℕ → Bool) (A : LfType) (o : Option ℕ) → HypothesesUse U A → GoalOutcome U (input_places (m (target A))) A o → NeedsOutcome m U A o
needs_met m U A None h u = both_used U (input_places (m (target A))) A h u
needs_met m U A (Some j) h u = in_input h u

pub needs_no_type : (m : ℕ → List Mark) (U : ℕ → Bool) (A : LfType) → (HypothesesUse U A → ⊥) → NeedsOutcome m U A (Some 0)
needs_no_type m U A f = in_type f
