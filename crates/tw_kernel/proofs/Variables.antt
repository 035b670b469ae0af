-- The type of a variable, moved over the variables inside it.
use Rattle.std.proofs.Common.{◌≡◌, ℕ, zero, suc, ◌<◌, List, [], ◌∷◌, Some, None, sym, ap, ◌∙◌, subst, arith}
use Rattle.std.specs.List.{slice_get}
use mathlib.Core.Path.{fun_ext}
use Rattle.lf.specs.Syntax.{LfType, weaken, rename_type}
use Rattle.lf.specs.AtOnce.{shift_by}
use Rattle.lf.specs.Depth.{type_depth}
use Rattle.lf.specs.Typing.{TypeAt}
use Rattle.lf.proofs.TypeLaws.{renamings_compose_type}
use Rattle.lf.proofs.Depth.{renaming_keeps_type_depth}

some_inj : {X : Type 0} {x y : X} → Some x ≡ Some y → x ≡ y
some_inj e = cc

one_is_suc : shift_by (suc zero) ≡ suc
one_is_suc = fun_ext (λ i. omega arith)

next_is_suc : (n : ℕ) → shift_by (suc n) ≡ (λ i. suc (shift_by n i))
next_is_suc n = fun_ext (λ i. omega arith)

-- it has just this type
pub variable_found : (G : List LfType) (i : ℕ) (B : LfType) → slice_get G i ≡ Some B → TypeAt G i (rename_type (shift_by (suc i)) B)
variable_found [] i B e = absurd cc
variable_found (X ∷ G) zero B e = ap (λ ρ. rename_type ρ B) one_is_suc ∙ ap weaken (sym (some_inj e))
variable_found (X ∷ G) (suc i) B e =
    (rename_type (shift_by (suc i)) B, variable_found G i B e, ap (λ ρ. rename_type ρ B) (next_is_suc (suc i)) ∙ sym (renamings_compose_type suc (shift_by (suc i)) B))

-- past the context it has none
pub variable_missing : (G : List LfType) (i : ℕ) (A : LfType) → slice_get G i ≡ None → TypeAt G i A → ⊥
variable_missing [] i A e h = h
variable_missing (X ∷ G) zero A e h = absurd cc
variable_missing (X ∷ G) (suc i) A e (C, h, f) = variable_missing G i C e h

pub deep_variable : (G : List LfType) (i k : ℕ) (B : LfType) → slice_get G i ≡ Some B → k < type_depth B → (A : LfType) × TypeAt G i A × (k < type_depth A)
deep_variable G i k B e h = (rename_type (shift_by (suc i)) B, variable_found G i B e, subst (λ n. k < n) (sym (renaming_keeps_type_depth (shift_by (suc i)) B)) h)
