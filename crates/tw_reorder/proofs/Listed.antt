-- The variables that are listed of a term are its free ones.
use Rattle.std.proofs.Common.{◌≡◌, ℕ, zero, suc, ◌+◌, ◌-◌, ◌<◌, ◌≤◌, List, [], ◌∷◌, ◌++◌, inl, inr, Bool, true, false, refl, sym, subst, arith}
use Rattle.std.specs.Prelude.{nat_lt, if◌then◌else◌}
use Rattle.std.proofs.lemmas.Bool.Decides.{nat_tests}
use Rattle.lf.specs.Subordination.{Member}
use Rattle.lf.specs.Syntax.{LfType, Spine, Term, app, atom, constant, lambda, lift_renaming, metavariable, nil, pi, rename, rename_spine, rename_type, root, variable}
use Rattle.lf_elaboration.specs.Principal.{FreeVariablesInType}
use Rattle.lf_unification.specs.Patterns.{FreeVariablesIn, FreeVariablesInSpine, LiftedSet}
use Rattle.lf_unification.proofs.Within.{FreeVariablesInType as FreeIn}
use Rattle.tw_abstract.proofs.Lists.{member_either, member_right}
use Rattle.tw_abstract.proofs.Choosing.{member_left}
use Rattle.tw_reorder.specs.Variables.{head_variables, spine_variables, type_variables, variables}

low_test : (i k : ℕ) → nat_lt i k ≡ true → i < k
low_test i k e = grind (arith, nat_tests)

high_test : (i k : ℕ) → nat_lt i k ≡ false → k ≤ i
high_test i k e = grind (arith, nat_tests)

-- P of what τ makes of the k newest, and of each listed variable
pub record Has (P : ℕ → Type 0) (τ : ℕ → ℕ) (k : ℕ) (vs : List ℕ) : Type 0 where
  pub low : (i : ℕ) → i < k → P (τ i)
  pub listed : (v : ℕ) → Member v vs → P (τ (v + k))

fewer : (P : ℕ → Type 0) (τ : ℕ → ℕ) (k : ℕ) (vs ws : List ℕ) → ((v : ℕ) → Member v ws → Member v vs) → Has P τ k vs → Has P τ k ws
fewer P τ k vs ws f h = record { low = h.low; listed = λ v m. h.listed v (f v m) }

lifted : (P : ℕ → Type 0) (τ : ℕ → ℕ) (k : ℕ) (vs : List ℕ) → Has P τ k vs → Has (LiftedSet P) (lift_renaming τ) (suc k) vs
lifted P τ k vs h = record {
  low = low;
  listed = λ v m. (let e : v + suc k ≡ suc (v + k) = omega arith in subst (λ j. LiftedSet P (lift_renaming τ j)) (sym e) (h.listed v m));
}
  where
    low : (i : ℕ) → i < suc k → LiftedSet P (lift_renaming τ i)
    low zero l = tt
    low (suc i) l = h.low i (omega arith)

-- the variable of a head
head_free : (P : ℕ → Type 0) (τ : ℕ → ℕ) (k i : ℕ) → Has P τ k (head_variables k (variable i)) → P (τ i)
head_free P τ k i h = go (nat_lt i k) refl
  where
    go : (b : Bool) → nat_lt i k ≡ b → P (τ i)
    go true e = h.low i (low_test i k e)
    go false e =
        let l : k ≤ i = high_test i k e in
        let m : Member (i - k) (head_variables k (variable i)) = subst (λ c. Member (i - k) (if c then [] else (i - k) ∷ [])) (sym e) (inl refl) in
        let s : i - k + k ≡ i = omega (arith, l) in
        subst (λ j. P (τ j)) s (h.listed (i - k) m)

mutual
  pub free_in : (P : ℕ → Type 0) (τ : ℕ → ℕ) (k : ℕ) (M : Term) → Has P τ k (variables k M) → FreeVariablesIn P (rename τ M)
  free_in P τ k (lambda M) h = free_in (LiftedSet P) (lift_renaming τ) (suc k) M (lifted P τ k (variables (suc k) M) h)
  free_in P τ k (root (constant c) S) h = free_in_spine P τ k S h
  free_in P τ k (root (metavariable m) S) h = free_in_spine P τ k S h
  free_in P τ k (root (variable i) S) h = (
    head_free P τ k i (fewer P τ k (head_variables k (variable i) ++ spine_variables k S) (head_variables k (variable i)) (λ v m. member_left (head_variables k (variable i)) (spine_variables k S) v m) h),
    free_in_spine P τ k S (fewer P τ k (head_variables k (variable i) ++ spine_variables k S) (spine_variables k S) (λ v m. member_right (head_variables k (variable i)) (spine_variables k S) v m) h),
  )

  free_in_spine : (P : ℕ → Type 0) (τ : ℕ → ℕ) (k : ℕ) (S : Spine) → Has P τ k (spine_variables k S) → FreeVariablesInSpine P (rename_spine τ S)
  free_in_spine P τ k nil h = tt
  free_in_spine P τ k (app M S) h = (
    free_in P τ k M (fewer P τ k (variables k M ++ spine_variables k S) (variables k M) (λ v m. member_left (variables k M) (spine_variables k S) v m) h),
    free_in_spine P τ k S (fewer P τ k (variables k M ++ spine_variables k S) (spine_variables k S) (λ v m. member_right (variables k M) (spine_variables k S) v m) h),
  )

free_in_type : (P : ℕ → Type 0) (τ : ℕ → ℕ) (k : ℕ) (A : LfType) → Has P τ k (type_variables k A) → FreeVariablesInType P (rename_type τ A)
free_in_type P τ k (pi A B) h = (
  free_in_type P τ k A (fewer P τ k (type_variables k A ++ type_variables (suc k) B) (type_variables k A) (λ v m. member_left (type_variables k A) (type_variables (suc k) B) v m) h),
  free_in_type (LiftedSet P) (lift_renaming τ) (suc k) B (lifted P τ k (type_variables (suc k) B) (fewer P τ k (type_variables k A ++ type_variables (suc k) B) (type_variables (suc k) B) (λ v m. member_right (type_variables k A) (type_variables (suc k) B) v m) h)),
)
free_in_type P τ k (atom a S) h = free_in_spine P τ k S h

-- a type that is renamed
pub type_free : (P : ℕ → Type 0) (τ : ℕ → ℕ) (A : LfType) → ((v : ℕ) → Member v (type_variables 0 A) → P (τ v)) → FreeVariablesInType P (rename_type τ A)
type_free P τ A h = free_in_type P τ 0 A (record {
  low = λ i l. absurd (omega (arith, l));
  listed = λ v m. (let e : v ≡ v + 0 = omega arith in subst (λ j. P (τ j)) e (h v m));
})

-- and the other way around: a listed variable is free
head_listed : (P : ℕ → Type 0) (k i : ℕ) → P i → (v : ℕ) → Member v (head_variables k (variable i)) → P (v + k)
head_listed P k i p v m = go (nat_lt i k) refl
  where
    go : (b : Bool) → nat_lt i k ≡ b → P (v + k)
    go true e = absurd (let n : Member v [] = subst (λ c. Member v (if c then [] else (i - k) ∷ [])) e m in n)
    go false e =
        let l : k ≤ i = high_test i k e in
        let n : Member v ((i - k) ∷ []) = subst (λ c. Member v (if c then [] else (i - k) ∷ [])) e m in
        one l n
      where
        one : k ≤ i → Member v ((i - k) ∷ []) → P (v + k)
        one l (inl q) = (let s : i ≡ v + k = omega (arith, l, q) in subst P s p)
        one l (inr n) = absurd n

one_under : (P : ℕ → Type 0) (v k : ℕ) → LiftedSet P (v + suc k) → P (v + k)
one_under P v k h = let e : v + suc k ≡ suc (v + k) = omega arith in let p : LiftedSet P (suc (v + k)) = subst (LiftedSet P) e h in p

mutual
  listed_of : (P : ℕ → Type 0) (k : ℕ) (M : Term) → FreeVariablesIn P M → (v : ℕ) → Member v (variables k M) → P (v + k)
  listed_of P k (lambda M) f v m = one_under P v k (listed_of (LiftedSet P) (suc k) M f v m)
  listed_of P k (root (constant c) S) f v m = listed_of_spine P k S f v m
  listed_of P k (root (metavariable n) S) f v m = listed_of_spine P k S f v m
  listed_of P k (root (variable i) S) (p, f) v m =
      elim (member_either (head_variables k (variable i)) (spine_variables k S) v m) [
        | inl h ↦ head_listed P k i p v h
        | inr h ↦ listed_of_spine P k S f v h
      ]

  listed_of_spine : (P : ℕ → Type 0) (k : ℕ) (S : Spine) → FreeVariablesInSpine P S → (v : ℕ) → Member v (spine_variables k S) → P (v + k)
  listed_of_spine P k nil f v m = absurd m
  listed_of_spine P k (app M S) (f, g) v m =
      elim (member_either (variables k M) (spine_variables k S) v m) [
        | inl h ↦ listed_of P k M f v h
        | inr h ↦ listed_of_spine P k S g v h
      ]

listed_of_type : (P : ℕ → Type 0) (k : ℕ) (A : LfType) → FreeIn P A → (v : ℕ) → Member v (type_variables k A) → P (v + k)
listed_of_type P k (pi A B) (f, g) v m =
    elim (member_either (type_variables k A) (type_variables (suc k) B) v m) [
      | inl h ↦ listed_of_type P k A f v h
      | inr h ↦ one_under P v k (listed_of_type (LiftedSet P) (suc k) B g v h)
    ]
listed_of_type P k (atom a S) f v m = listed_of_spine P k S f v m

-- outside of all binders
pub term_listed : (P : ℕ → Type 0) (M : Term) → FreeVariablesIn P M → (v : ℕ) → Member v (variables 0 M) → P v
term_listed P M f v m = let e : v + 0 ≡ v = omega arith in subst P e (listed_of P 0 M f v m)

pub type_listed : (P : ℕ → Type 0) (A : LfType) → FreeIn P A → (v : ℕ) → Member v (type_variables 0 A) → P v
type_listed P A f v m = let e : v + 0 ≡ v = omega arith in subst P e (listed_of_type P 0 A f v m)
