-- The quantifiers of a type, counted from the last one, and what fits of its parts.
use Rattle.std.proofs.Common.{◌≡◌, ℕ, zero, suc, ◌+◌, ◌-◌, ◌<◌, List, [], ◌∷◌, Bool, true, false, Some, length, get_or, refl, sym, ap, ap₂, ◌∙◌, arith, inl, inr}
use Rattle.std.specs.Prelude.{◌⊎◌}
use Rattle.std.proofs.Math.Nat.{le-max_left, le-max_right}
use Rattle.lf.specs.AtOnce.{shift_by}
use Rattle.lf.specs.Depth.{type_depth}
use Rattle.lf.specs.Entries.{kind_quantifiers, quantifiers}
use Rattle.lf.specs.Subordination.{IsDeclared}
use Rattle.lf.specs.Syntax.{Spine, nil, app, LfType, Kind, kind_pi, star, pi, atom, lift_renaming, rename_spine, rename_type}
use Rattle.lf.specs.Typing.{Signature}
use Rattle.lf.specs.Variables.{binders, hide, target, target_arguments, under}
use Rattle.lf_unification.specs.Search.{occurs_type}
use Rattle.lf_checks.specs.Clause.{is_variable, with_newest}
use Rattle.lf_checks.specs.Marks.{Mark, input, output, free, AreSound}
use Rattle.lf_checks.specs.ModeForms.{argument_count}
use Rattle.lf_checks.specs.Parts.{shape, type_at}
use Rattle.tw_clause.proofs.Walks.{at_quantifier, moved, type_past}
use Rattle.tw_mode.specs.Checks.{Fits}
use Rattle.tw_mode.specs.Solved.{domain_types}
use Rattle.tw_mode.proofs.Occurring.{OccurIn, domain_uses_variables, occur_past}

pub below_or : (i n : ℕ) → i < suc n → (i < n) ⊎ (i ≡ n)
below_or zero zero h = inr refl
below_or zero (suc n) h = inl (omega arith)
below_or (suc i) zero h = absurd (omega (arith, h))
below_or (suc i) (suc n) h = elim (below_or i n (omega (arith, h))) [ inl l ↦ inl (omega (arith, l)) | inr e ↦ inr (ap suc e) ]

-- whether it is a variable
pub shape_at : (T : LfType) (W : ℕ → Bool) (i : ℕ) → i < quantifiers T → is_variable W T i ≡ get_or (shape T) (quantifiers T - 1 - i) false
shape_at (pi A B) W i h = elim (below_or i (quantifiers B) h) [
  | inl l ↦ shape_at B (with_newest (occurs_type zero B) W) i l ∙ ap (λ k. get_or (shape (pi A B)) k false) (let q : suc (quantifiers B - 1 - i) ≡ suc (quantifiers B) - 1 - i = omega (arith, l) in q)
  | inr e ↦
      ap (is_variable (with_newest (occurs_type zero B) W) B) (let q : i ≡ quantifiers B + zero = omega (arith, e) in q)
      ∙ at_quantifier B (with_newest (occurs_type zero B) W) zero
      ∙ ap (λ k. get_or (shape (pi A B)) k false) (let q : zero ≡ suc (quantifiers B) - 1 - i = omega (arith, e) in q)
]
shape_at (atom a S) W i h = absurd (omega (arith, h))

-- its type, in the whole scope
pub domain_at : (T : LfType) (G : List LfType) (i : ℕ) (D : LfType) → i < quantifiers T → type_at (binders G T) i ≡ Some (rename_type (shift_by (suc i)) (get_or (domain_types T) (quantifiers T - 1 - i) D))
domain_at (pi A B) G i D h = elim (below_or i (quantifiers B) h) [
  | inl l ↦ domain_at B (A ∷ G) i D l ∙ ap (λ k. Some (rename_type (shift_by (suc i)) (get_or (domain_types (pi A B)) k D))) (let q : suc (quantifiers B - 1 - i) ≡ suc (quantifiers B) - 1 - i = omega (arith, l) in q)
  | inr e ↦
      ap (type_at (binders (A ∷ G) B)) (let q : i ≡ quantifiers B + zero = omega (arith, e) in q)
      ∙ type_past B (A ∷ G) zero A refl
      ∙ ap Some (moved (quantifiers B) A)
      ∙ ap₂ (λ n k. Some (rename_type (shift_by n) (get_or (domain_types (pi A B)) k D))) (ap suc (sym e)) (let q : zero ≡ suc (quantifiers B) - 1 - i = omega (arith, e) in q)
]
domain_at (atom a S) G i D h = absurd (omega (arith, h))

-- what occurs in it is a variable of the clause
pub domain_uses : (T : LfType) (W : ℕ → Bool) (i : ℕ) (D : LfType) (x : ℕ) → OccurIn W T → i < quantifiers T → occurs_type x (rename_type (shift_by (suc i)) (get_or (domain_types T) (quantifiers T - 1 - i) D)) ≡ true → is_variable W T x ≡ true
domain_uses (pi A B) W i D x o h e = elim (below_or i (quantifiers B) h) [
  | inl l ↦ domain_uses B (with_newest (occurs_type zero B) W) i D x (occur_past W A B o) l (ap (λ k. occurs_type x (rename_type (shift_by (suc i)) (get_or (domain_types (pi A B)) k D))) (let q : suc (quantifiers B - 1 - i) ≡ suc (quantifiers B) - 1 - i = omega (arith, l) in q) ∙ e)
  | inr q ↦ domain_uses_variables W A B x o (ap₂ (λ n k. occurs_type x (rename_type (shift_by n) (get_or (domain_types (pi A B)) k D))) (ap suc (sym q)) (let r : zero ≡ suc (quantifiers B) - 1 - i = omega (arith, q) in r) ∙ e)
]
domain_uses (atom a S) W i D x o h e = absurd (omega (arith, h))

pub domains_count : (T : LfType) → length (domain_types T) ≡ quantifiers T
domains_count (pi A B) = ap suc (domains_count B)
domains_count (atom a S) = refl

-- A type fits where its parts do.
pub domain_fits : (Σ : Signature) (T : LfType) (k : ℕ) (D : LfType) → Fits Σ T → k < quantifiers T → Fits Σ (get_or (domain_types T) k D)
domain_fits Σ (pi A B) zero D (a, b) h = a
domain_fits Σ (pi A B) (suc k) D (a, b) h = domain_fits Σ B k D b (omega (arith, h))
domain_fits Σ (atom a S) k D f h = absurd (omega (arith, h))

as_many : (ρ : ℕ → ℕ) (S : Spine) → argument_count (rename_spine ρ S) ≡ argument_count S
as_many ρ nil = refl
as_many ρ (app M S) = ap suc (as_many ρ S)

pub fits_renamed : (Σ : Signature) (ρ : ℕ → ℕ) (A : LfType) → Fits Σ A → Fits Σ (rename_type ρ A)
fits_renamed Σ ρ (pi A B) (a, b) = (fits_renamed Σ ρ A a, fits_renamed Σ (lift_renaming ρ) B b)
fits_renamed Σ ρ (atom a S) (K, e, n) = (K, e, n ∙ sym (as_many ρ S))

pub fits_target : (Σ : Signature) (A : LfType) → Fits Σ A → (K : Kind) × (Σ.kinds (target A) ≡ Some K) × (kind_quantifiers K ≡ argument_count (target_arguments A))
fits_target Σ (pi A B) (a, b) = fits_target Σ B b
fits_target Σ (atom a S) f = f

pub fits_declared : (Σ : Signature) (A : LfType) → Fits Σ A → IsDeclared Σ (target A)
fits_declared Σ A f = let (K, e, n) = fits_target Σ A f in (K, e)

-- sound marks are as many as the kind has quantifiers
pub sound_count : (V : ℕ → Bool) (ms : List Mark) (K : Kind) → AreSound V ms K → length ms ≡ kind_quantifiers K
sound_count V [] (kind_pi A K) h = absurd h
sound_count V [] star h = refl
sound_count V (b ∷ ms) star h = absurd h
sound_count V (input ∷ ms) (kind_pi A K) (u, h) = ap suc (sound_count (under V) ms K h)
sound_count V (output ∷ ms) (kind_pi A K) h = ap suc (sound_count (hide V) ms K h)
sound_count V (free ∷ ms) (kind_pi A K) h = ap suc (sound_count (under V) ms K h)

-- a domain is less deep
pub domain_depth : (T : LfType) (k : ℕ) (D : LfType) → k < quantifiers T → type_depth (get_or (domain_types T) k D) < type_depth T
domain_depth (pi A B) zero D h = let l = le-max_left (type_depth A) (type_depth B) in omega (arith, l)
domain_depth (pi A B) (suc k) D h = let d = domain_depth B k D (omega (arith, h)) in let l = le-max_right (type_depth A) (type_depth B) in omega (arith, d, l)
domain_depth (atom a S) k D h = absurd (omega (arith, h))
