-- Whether a term is smaller than another is decided.
use Rattle.std.proofs.Common.{◌≡◌, ℕ, zero, suc, ◌+◌, ◌<◌, ◌≤◌, List, [], ◌∷◌, length, refl, ap, ◌∙◌, subst, arith, inl, inr}
use Rattle.std.specs.Prelude.{Bool, true, false, Option, Some, None, ◌⊎◌}
use Rattle.lf.specs.Syntax.{constant, variable, metavariable, Term, Spine, lambda, root, nil, app, LfType, pi, atom, rename, rename_type, Term-discrete, LfType-discrete, Spine-discrete, Head-discrete}
use Rattle.lf.specs.Typing.{Signature, TypeAt, instantiate_type}
use Rattle.lf.specs.Variables.{at_variable}
use Rattle.lf_checks.specs.Order.{Smaller, SmallerOrEqual, InArguments, under_constant, under_parameter, under_lambda, equal, smaller, first_argument, later_argument, size, spine_size}
use Rattle.lf_checks.specs.Parts.{type_at}
use Rattle.lf_checks.proofs.Numbered.{type_both}
use Rattle.lf_checks.proofs.Sizes.{size_renamed}
use native.Mathlib.Decide.{ℕ_discrete}

pub same_term : (M N : Term) → Dec (M ≡ N)
same_term = Term-discrete (Head-discrete ℕ_discrete)

pub same_type : (A B : LfType) → Dec (A ≡ B)
same_type = LfType-discrete ℕ_discrete (Spine-discrete (Head-discrete ℕ_discrete))

both_decided : {A B : Type 0} → Dec A → Dec B → Dec (A × B)
both_decided (yes a) (yes b) = yes (a, b)
both_decided (yes a) (no n) = no (λ h. n h.1)
both_decided (no n) d = no (λ h. n h.0)

pub is_true : (b : Bool) → Dec (b ≡ true)
is_true true = yes refl
is_true false = no (λ e. cc)

-- a number below a bound that passes a test
pub found_below : (P : ℕ → Type 0) → ((y : ℕ) → Dec (P y)) → (k : ℕ) → Dec ((y : ℕ) × (y < k) × P y)
found_below P d zero = no (λ (y, l, p). omega arith)
found_below P d (suc k) = by (d k) (found_below P d k)
  where
    last_or : (y : ℕ) → y < suc k → (y ≡ k) ⊎ (y < k)
    last_or y l = at y k l
      where
        at : (y k : ℕ) → y < suc k → (y ≡ k) ⊎ (y < k)
        at zero zero l = inl refl
        at zero (suc k) l = inr (omega arith)
        at (suc y) zero l = absurd (omega arith)
        at (suc y) (suc k) l = elim (at y k (omega arith)) [ inl e ↦ inl (ap suc e) | inr u ↦ inr (omega arith) ]

    by : Dec (P k) → Dec ((y : ℕ) × (y < k) × P y) → Dec ((y : ℕ) × (y < suc k) × P y)
    by (yes p) d = yes (k, omega arith, p)
    by (no n) (yes (y, l, p)) = yes (y, omega arith, p)
    by (no n) (no f) = no (λ (y, l, p). elim (last_or y l) [ inl e ↦ n (subst P e p) | inr u ↦ f (y, u, p) ])

type_decided : (C : List LfType) (y : ℕ) (A : LfType) → Dec (TypeAt C y A)
type_decided C y A = by (type_at C y) refl
  where
    by : (o : Option LfType) → type_at C y ≡ o → Dec (TypeAt C y A)
    by None e = no (λ t. let q : type_at C y ≡ Some A = (type_both C y A).0 t in absurd cc)
    by (Some X) e = elim (same_type X A) [ yes q ↦ yes ((type_both C y A).1 (e ∙ ap Some q)) | no n ↦ no (λ t. n (let q : type_at C y ≡ Some A = (type_both C y A).0 t in cc)) ]

type_below : (C : List LfType) (y : ℕ) (A : LfType) → TypeAt C y A → y < length C
type_below [] y A t = absurd t
type_below (B ∷ C) zero A t = omega arith
type_below (B ∷ C) (suc y) A (D, t, e) = let l : y < length C = type_below C y D t in omega arith

equal_or_smaller : (Σ : Signature) (C : List LfType) (L R : ℕ → Bool) (M N : Term) (A : LfType) → SmallerOrEqual Σ C L R M N A → (M ≡ N) ⊎ Smaller Σ C L R M N A
equal_or_smaller Σ C L R M N A equal = inl refl
equal_or_smaller Σ C L R M N A (smaller h) = inr h

module _ (Σ : Signature) (C : List LfType) (L R : ℕ → Bool) (M : Term) where
  of_constant : (c : ℕ) (S : Spine) (X : LfType) → Smaller Σ C L R M (root (constant c) S) X → (A : LfType) × (Σ.types c ≡ Some A) × InArguments Σ C L R M S A
  of_constant c S X (under_constant {A = A} t h) = (A, t, h)

  of_parameter : (i : ℕ) (S : Spine) (X : LfType) → Smaller Σ C L R M (root (variable i) S) X → (A : LfType) × (R i ≡ true) × TypeAt C i A × InArguments Σ C L R M S A
  of_parameter i S X (under_parameter {A = A} r t h) = (A, r, t, h)

  abbrev BodyAt : Term → LfType → LfType → ℕ → Type 0
  BodyAt N A B y = (L y ≡ true) × TypeAt C y A × SmallerOrEqual Σ C L R M (rename (at_variable y) N) (rename_type (at_variable y) B)

  of_lambda : (N : Term) (A B : LfType) → Smaller Σ C L R M (lambda N) (pi A B) → (y : ℕ) × (y < length C) × BodyAt N A B y
  of_lambda N A B (under_lambda y l t h) = (y, type_below C y A t, (l, t, h))

  or_equal : (N : Term) (A : LfType) → Dec (Smaller Σ C L R M N A) → Dec (SmallerOrEqual Σ C L R M N A)
  or_equal N A d = by (same_term M N) d
    where
      by : Dec (M ≡ N) → Dec (Smaller Σ C L R M N A) → Dec (SmallerOrEqual Σ C L R M N A)
      by (yes e) d = yes (subst (λ X. SmallerOrEqual Σ C L R M X A) e equal)
      by (no n) (yes h) = yes (smaller h)
      by (no n) (no f) = no (λ h. elim (equal_or_smaller Σ C L R M N A h) [ inl e ↦ n e | inr k ↦ f k ])

  in_arguments : (n : ℕ) → ((N : Term) (A : LfType) → size N ≤ n → Dec (Smaller Σ C L R M N A)) → (S : Spine) (A : LfType) → spine_size S ≤ n → Dec (InArguments Σ C L R M S A)
  in_arguments n f nil A l = no (λ h. elim h [ ])
  in_arguments n f (app N S) (atom a T) l = no (λ h. elim h [ ])
  in_arguments n f (app N S) (pi A B) l = by (or_equal N A (f N A (let z : size N + spine_size S ≤ n = l in omega arith))) (in_arguments n f S (instantiate_type A N B) (let z : size N + spine_size S ≤ n = l in omega arith))
    where
      split : InArguments Σ C L R M (app N S) (pi A B) → SmallerOrEqual Σ C L R M N A ⊎ InArguments Σ C L R M S (instantiate_type A N B)
      split (first_argument h) = inl h
      split (later_argument h) = inr h

      by : Dec (SmallerOrEqual Σ C L R M N A) → Dec (InArguments Σ C L R M S (instantiate_type A N B)) → Dec (InArguments Σ C L R M (app N S) (pi A B))
      by (yes h) d = yes (first_argument h)
      by (no n) (yes h) = yes (later_argument h)
      by (no n) (no k) = no (λ h. elim (split h) [ inl e ↦ n e | inr e ↦ k e ])

  one_step : (n : ℕ) → ((N : Term) (A : LfType) → size N ≤ n → Dec (Smaller Σ C L R M N A)) → (N : Term) (X : LfType) → size N ≤ suc n → Dec (Smaller Σ C L R M N X)
  one_step n f (root (constant c) S) X l = by (Σ.types c) refl
    where
      by : (o : Option LfType) → Σ.types c ≡ o → Dec (Smaller Σ C L R M (root (constant c) S) X)
      by None e = no (λ h. let (A, t, k) = of_constant c S X h in absurd cc)
      by (Some A) e = elim (in_arguments n f S A (omega arith)) [ yes h ↦ yes (under_constant e h) | no k ↦ no (λ h. let (B, t, g) = of_constant c S X h in let q : B ≡ A = cc in k (subst (InArguments Σ C L R M S) q g)) ]
  one_step n f (root (metavariable c) S) X l = no (λ h. elim h [ ])
  one_step n f (root (variable i) S) X l = by (type_at C i) refl (is_true (R i))
    where
      by : (o : Option LfType) → type_at C i ≡ o → Dec (R i ≡ true) → Dec (Smaller Σ C L R M (root (variable i) S) X)
      by o e (no k) = no (λ h. let (A, r, t, g) = of_parameter i S X h in k r)
      by None e (yes r) = no (λ h. let (A, r', t, g) = of_parameter i S X h in let q : type_at C i ≡ Some A = (type_both C i A).0 t in absurd cc)
      by (Some A) e (yes r) = elim (in_arguments n f S A (omega arith)) [ yes h ↦ yes (under_parameter r ((type_both C i A).1 e) h) | no k ↦ no (λ h. let (B, r', t, g) = of_parameter i S X h in let p : type_at C i ≡ Some B = (type_both C i B).0 t in let q : B ≡ A = cc in k (subst (InArguments Σ C L R M S) q g)) ]
  one_step n f (lambda N) (atom a T) l = no (λ h. elim h [ ])
  one_step n f (lambda N) (pi A B) l = elim (found_below (BodyAt N A B) at (length C)) [ yes (y, u, (k, t, h)) ↦ yes (under_lambda y k t h) | no k ↦ no (λ h. k (of_lambda N A B h)) ]
    where
      at : (y : ℕ) → Dec (BodyAt N A B y)
      at y = both3 (is_true (L y)) (type_decided C y A) (or_equal (rename (at_variable y) N) (rename_type (at_variable y) B) (f (rename (at_variable y) N) (rename_type (at_variable y) B) (let e : size (rename (at_variable y) N) ≡ size N = size_renamed (at_variable y) N in omega arith)))
        where
          both3 : {P Q S : Type 0} → Dec P → Dec Q → Dec S → Dec (P × Q × S)
          both3 (yes p) (yes q) (yes s) = yes (p, q, s)
          both3 (yes p) (yes q) (no n) = no (λ h. n h.2)
          both3 (yes p) (no n) d = no (λ h. n h.1)
          both3 (no n) d e = no (λ h. n h.0)

  by_size : (n : ℕ) (N : Term) (A : LfType) → size N ≤ n → Dec (Smaller Σ C L R M N A)
  by_size zero (lambda N) A l = absurd (omega arith)
  by_size zero (root h S) A l = absurd (omega arith)
  by_size (suc n) N A l = one_step n (by_size n) N A l

  pub smaller_decided : (N : Term) (A : LfType) → Dec (Smaller Σ C L R M N A)
  smaller_decided N A = by_size (size N) N A (omega arith)
