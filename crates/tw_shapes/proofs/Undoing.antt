-- Bindings that are taken back.
use Rattle.std.proofs.Common.{◌≡◌, ℕ, zero, suc, ◌-◌, List, [], ◌∷◌, ◌++◌, length, reverse, take, Option, Some, None, slice_get, slice_set, arith, refl, sym, ap, ◌∙◌, length-append}
use Rattle.std.proofs.lemmas.List.{reverse-append}
use Rattle.tw_shapes.specs.Shapes.{Shape, Store, joined, value_of, with_binding}
use Rattle.tw_shapes.specs.Order.{IsOrdered, without_binding, without_bindings}
use Rattle.tw_shapes.proofs.Binding.{free-place}

set_back : (os : List (Option ℕ)) (m p : ℕ) → joined (slice_get os m) ≡ None → slice_set (slice_set os m (Some p)) m None ≡ os
set_back [] m p e = refl
set_back (None ∷ os) zero p e = refl
set_back (Some q ∷ os) zero p e = absurd cc
set_back (o ∷ os) (suc m) p e = ap (λ x. o ∷ x) (set_back os m p e)

take_front : (xs ys : List Shape) → take (length xs) (xs ++ ys) ≡ xs
take_front [] ys = refl
take_front (x ∷ xs) ys = ap (λ z. x ∷ z) (take_front xs ys)

take_back : (xs : List Shape) (y : Shape) → take (length (xs ++ y ∷ []) - 1) (xs ++ y ∷ []) ≡ xs
take_back xs y =
    let n : length (xs ++ y ∷ []) - 1 ≡ length xs = omega (arith, length-append xs (y ∷ [])) in
    ap (λ k. take k (xs ++ y ∷ [])) n ∙ take_front xs (y ∷ [])

abbrev pub made : List (Option ℕ) → List Shape → Store
made P V = record { places = P; values = V }

bound_again : (s : Store) → IsOrdered s → (m : ℕ) (S : Shape) → value_of s m ≡ None → without_binding (with_binding s m S) m ≡ s
bound_again s o m S e =
    ap (λ P. made P (take (length (s.values ++ S ∷ []) - 1) (s.values ++ S ∷ []))) (set_back s.places m (length s.values) (free-place s o m e))
    ∙ ap (made s.places) (take_back s.values S)

pub newest : (b c : List ℕ) (m : ℕ) → c ≡ b ++ m ∷ [] → reverse c ≡ m ∷ reverse b
newest b c m e = ap reverse e ∙ reverse-append b (m ∷ [])

-- one binding more, taken back
pub before-bound : (s t : Store) (b c : List ℕ) (m : ℕ) (S : Shape) → IsOrdered s → value_of s m ≡ None → t ≡ with_binding s m S → c ≡ b ++ m ∷ [] → without_bindings t (reverse c) ≡ without_bindings s (reverse b)
before-bound s t b c m S o e is more =
    ap (without_bindings t) (newest b c m more)
    ∙ ap (λ x. without_bindings x (reverse b)) (ap (λ x. without_binding x m) is ∙ bound_again s o m S e)

pub taken-back : (s t : Store) (b c : List ℕ) (m : ℕ) → c ≡ b ++ m ∷ [] → t ≡ without_binding s m → without_bindings t (reverse b) ≡ without_bindings s (reverse c)
taken-back s t b c m more is = ap (λ x. without_bindings x (reverse b)) is ∙ sym (ap (without_bindings s) (newest b c m more))
