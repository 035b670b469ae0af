-- The form of a term of a type: as many lambdas as the type has quantifiers over a root. And heads under values.
use Rattle.std.proofs.Common.{◌≡◌, ℕ, zero, suc, List, [], ◌∷◌, ◌+◌, ◌<◌, length, refl, sym, ap, ◌∙◌, subst, arith}
use Rattle.lf.specs.Syntax.{Head, Term, Spine, lambda, root, LfType, pi, atom, weaken, rename_type, lift_renaming}
use Rattle.lf.specs.Substitution.{Image, keep, rename_image, lift, substitute, substitute_type, reduce}
use Rattle.lf.specs.AtOnce.{shift_by, lift_renaming_by}
use Rattle.lf.specs.Eta.{lambdas}
use Rattle.lf.specs.Typing.{Signature, TypeAt, HasType}
use Rattle.lf.specs.Variables.{target, target_arguments, onto, binders}
use Rattle.lf_unification.specs.Offering.{pi_over}
use Rattle.lf.specs.Worlds.{lift_over, instance}
use Rattle.lf.proofs.TypeLaws.{renamings_compose_type, lifted_substitution_weakened_type}
use Rattle.lf_cases.proofs.Raised.{rename_identity_type}
use mathlib.Core.Path.{fun_ext}

-- how many variables a type takes
pub binders_length : (X : LfType) (Y : List LfType) → length (binders Y X) ≡ length (binders [] X) + length Y
binders_length (pi A B) Y = binders_length B (A ∷ Y) ∙ next (length (binders [] B)) (length Y) ∙ ap (λ n. n + length Y) (sym (binders_length B (A ∷ [])))
  where
    next : (m n : ℕ) → m + suc n ≡ (m + 1) + n
    next m n = omega arith
binders_length (atom a S) Y = none (length Y)
  where
    none : (n : ℕ) → n ≡ 0 + n
    none n = omega arith

one_more : (A B : LfType) → length (binders [] (pi A B)) ≡ suc (length (binders [] B))
one_more A B = binders_length B (A ∷ []) ∙ last (length (binders [] B))
  where
    last : (n : ℕ) → n + 1 ≡ suc n
    last n = omega arith

pub form : (Σ : Signature) (X : LfType) (G : List LfType) (N : Term) → HasType Σ G N X → (h : Head) × (T : Spine) × (N ≡ lambdas (length (binders [] X)) (root h T)) × HasType Σ (binders G X) (root h T) (atom (target X) (target_arguments X))
form Σ (pi A B) G (lambda M) t = let (h, T, e, r) = form Σ B (A ∷ G) M t in (h, T, ap lambda e ∙ ap (λ n. lambdas n (root h T)) (sym (one_more A B)), r)
form Σ (pi A B) G (root h T) t = absurd t
form Σ (atom a S) G (lambda M) t = absurd t
form Σ (atom a S) G (root h T) t = (h, T, refl, t)

-- under so many lambdas
abbrev lifts : ℕ → (ℕ → Image) → ℕ → Image
lifts zero τ = τ
lifts (suc n) τ = lifts n (lift τ)

under_lambdas : (n : ℕ) (τ : ℕ → Image) (M : Term) → substitute reduce τ (lambdas n M) ≡ lambdas n (substitute reduce (lifts n τ) M)
under_lambdas zero τ M = refl
under_lambdas (suc n) τ M = ap lambda (under_lambdas n (lift τ) M)

lifts_outer : (n : ℕ) (τ : ℕ → Image) → lifts n (lift τ) ≡ lift (lifts n τ)
lifts_outer zero τ = refl
lifts_outer (suc n) τ = lifts_outer n (lift τ)

lifts_over : (D : List LfType) (τ : ℕ → Image) → lifts (length D) τ ≡ lift_over D τ
lifts_over [] τ = refl
lifts_over (A ∷ D) τ = lifts_outer (length D) τ ∙ ap lift (lifts_over D τ)

pub lambdas_substituted : (D : List LfType) (φ : ℕ → Image) (M : Term) → substitute reduce φ (lambdas (length D) M) ≡ lambdas (length D) (substitute reduce (lift_over D φ) M)
lambdas_substituted D φ M = under_lambdas (length D) φ M ∙ ap (λ τ. lambdas (length D) (substitute reduce τ M)) (lifts_over D φ)

-- A local variable stays, and one outside moves.
pub lift_over_near : (D : List LfType) (τ : ℕ → Image) (j : ℕ) → j < length D → lift_over D τ j ≡ keep j
lift_over_near [] τ j l = absurd (none l)
  where
    none : j < 0 → ⊥
    none l = omega arith
lift_over_near (A ∷ D) τ zero l = refl
lift_over_near (A ∷ D) τ (suc j) l = ap (rename_image suc) (lift_over_near D τ j (less l))
  where
    less : suc j < suc (length D) → j < length D
    less l = omega arith

pub renaming_near : (n : ℕ) (ρ : ℕ → ℕ) (j : ℕ) → j < n → lift_renaming_by n ρ j ≡ j
renaming_near zero ρ j l = absurd (none l)
  where
    none : j < 0 → ⊥
    none l = omega arith
renaming_near (suc n) ρ zero l = refl
renaming_near (suc n) ρ (suc j) l = ap suc (renaming_near n ρ j (less l))
  where
    less : suc j < suc n → j < n
    less l = omega arith

pub renaming_far : (n : ℕ) (ρ : ℕ → ℕ) (j : ℕ) → lift_renaming_by n ρ (j + n) ≡ ρ j + n
renaming_far zero ρ j = ap ρ (none j) ∙ sym (none (ρ j))
  where
    none : (i : ℕ) → i + 0 ≡ i
    none i = omega arith
renaming_far (suc n) ρ j = ap (lift_renaming (lift_renaming_by n ρ)) (next j n) ∙ ap suc (renaming_far n ρ j) ∙ sym (next (ρ j) n)
  where
    next : (i n : ℕ) → i + suc n ≡ suc (i + n)
    next i n = omega arith

-- the type of a local variable under values
pub local_type : (D O G : List LfType) (τ : ℕ → Image) (j : ℕ) (A : LfType) → j < length D → TypeAt (onto D O) j A → TypeAt (onto (instance D τ) G) j (substitute_type reduce (lift_over D τ) A)
local_type [] O G τ j A l g = absurd (none l)
  where
    none : j < 0 → ⊥
    none l = omega arith
local_type (X ∷ D) O G τ zero A l e = ap (substitute_type reduce (lift (lift_over D τ))) e ∙ lifted_substitution_weakened_type (lift_over D τ) X
local_type (X ∷ D) O G τ (suc j) A l (C, g, e) = (substitute_type reduce (lift_over D τ) C, local_type D O G τ j C (less l) g, ap (substitute_type reduce (lift (lift_over D τ))) e ∙ lifted_substitution_weakened_type (lift_over D τ) C)
  where
    less : suc j < suc (length D) → j < length D
    less l = omega arith

pub local_has_type : (D O : List LfType) (j : ℕ) → j < length D → (A : LfType) × TypeAt (onto D O) j A
local_has_type [] O j l = absurd (none l)
  where
    none : j < 0 → ⊥
    none l = omega arith
local_has_type (X ∷ D) O zero l = (weaken X, refl)
local_has_type (X ∷ D) O (suc j) l = let (A, g) = local_has_type D O j (less l) in (weaken A, (A, g, refl))
  where
    less : suc j < suc (length D) → j < length D
    less l = omega arith

-- the type of a variable outside, seen under local variables
pub shift_type_next : (n : ℕ) (A : LfType) → rename_type (shift_by (suc n)) A ≡ weaken (rename_type (shift_by n) A)
shift_type_next n A = ap (λ ρ. rename_type ρ A) (fun_ext (λ i. next i n)) ∙ sym (renamings_compose_type suc (shift_by n) A)
  where
    next : (i n : ℕ) → i + suc n ≡ suc (i + n)
    next i n = omega arith

pub no_shift_type : (A : LfType) → rename_type (shift_by 0) A ≡ A
no_shift_type A = ap (λ ρ. rename_type ρ A) (fun_ext none) ∙ rename_identity_type A
  where
    none : (i : ℕ) → i + 0 ≡ i
    none i = omega arith

-- a variable of the first context is one of both
pub near_type : (O Q : List LfType) (i : ℕ) (A : LfType) → TypeAt O i A → TypeAt (onto O Q) i A
near_type [] Q i A g = absurd g
near_type (B ∷ O) Q zero A e = e
near_type (B ∷ O) Q (suc i) A (C, g, e) = (C, near_type O Q i C g, e)

pub far_type : (D G : List LfType) (j : ℕ) (A : LfType) → TypeAt G j A → TypeAt (onto D G) (j + length D) (rename_type (shift_by (length D)) A)
far_type [] G j A g = subst (λ k. TypeAt G k (rename_type (shift_by 0) A)) (none j) (subst (TypeAt G j) (sym (no_shift_type A)) g)
  where
    none : (i : ℕ) → i ≡ i + 0
    none i = omega arith
far_type (X ∷ D) G j A g = subst (λ k. TypeAt (X ∷ onto D G) k (rename_type (shift_by (suc (length D))) A)) (next j (length D)) (rename_type (shift_by (length D)) A, far_type D G j A g, shift_type_next (length D) A)
  where
    next : (i n : ℕ) → suc (i + n) ≡ i + suc n
    next i n = omega arith

pub far_substituted : (D : List LfType) (τ : ℕ → Image) (A : LfType) → substitute_type reduce (lift_over D τ) (rename_type (shift_by (length D)) A) ≡ rename_type (shift_by (length D)) (substitute_type reduce τ A)
far_substituted [] τ A = ap (substitute_type reduce τ) (no_shift_type A) ∙ sym (no_shift_type (substitute_type reduce τ A))
far_substituted (X ∷ D) τ A = ap (substitute_type reduce (lift (lift_over D τ))) (shift_type_next (length D) A) ∙ lifted_substitution_weakened_type (lift_over D τ) (rename_type (shift_by (length D)) A) ∙ ap weaken (far_substituted D τ A) ∙ sym (shift_type_next (length D) (substitute_type reduce τ A))

-- local contexts of one length
pub lift_same : (D E : List LfType) (τ : ℕ → Image) → length D ≡ length E → lift_over D τ ≡ lift_over E τ
lift_same D E τ e = sym (lifts_over D τ) ∙ ap (λ n. lifts n τ) e ∙ lifts_over E τ

-- a type as its target under its quantifiers
pub as_pis : (X : LfType) (Y : List LfType) → pi_over Y X ≡ pi_over (binders Y X) (atom (target X) (target_arguments X))
as_pis (pi A B) Y = as_pis B (A ∷ Y)
as_pis (atom a S) Y = refl

pub pis_substituted : (τ : ℕ → Image) (D : List LfType) (P : LfType) → substitute_type reduce τ (pi_over D P) ≡ pi_over (instance D τ) (substitute_type reduce (lift_over D τ) P)
pis_substituted τ [] P = refl
pis_substituted τ (A ∷ D) P = pis_substituted τ D (pi A P)
