-- A variable's walk is one step longer than that of what it is bound to.
use Rattle.std.proofs.Common.{◌≡◌, ℕ, zero, suc, ◌<◌, ◌≤◌, List, length, Option, Some, None, arith, refl, sym, ap, ◌∙◌}
use Rattle.std.proofs.lemmas.Option.{slice_get_within}
use Rattle.tw_shapes.specs.Shapes.{Shape, variable, base, arrow, AllVariables, Store, place_of, value_at, value_of}
use Rattle.tw_shapes.specs.Order.{height, height_at, IsOrdered, walk, walk_at, walk_below, length_of_walk}
use Rattle.tw_shapes.proofs.Variables.{all-map}

bound_height_at : (values : List Shape) (o : Option ℕ) (S : Shape) → value_at values o ≡ Some S → 0 < height_at (length values) o
bound_height_at values (Some p) S e = let h : p < length values = slice_get_within values p S e in omega arith
bound_height_at values None S e = absurd cc

pub bound_height : (s : Store) (m : ℕ) (S : Shape) → value_of s m ≡ Some S → 0 < height s m
bound_height s m S e = bound_height_at s.values (place_of s m) S e

height_at_most : (n : ℕ) (o : Option ℕ) → height_at n o ≤ n
height_at_most n (Some p) = omega arith
height_at_most n None = omega arith

pub height_most : (s : Store) (m : ℕ) → height s m ≤ length s.values
height_most s m = height_at_most (length s.values) (place_of s m)

walk-same : (f g : ℕ → ℕ) (S : Shape) → AllVariables (λ m. f m ≡ g m) S → walk f S ≡ walk g S
walk-same f g (variable m) h = ap suc h
walk-same f g (base c) h = refl
walk-same f g (arrow S T) h = let left = walk-same f g S h.0 in let right = walk-same f g T h.1 in omega arith

free_walk : (s : Store) (m : ℕ) → height s m ≤ 0 → (o : Option Shape) → value_of s m ≡ o → walk_at (walk_below s 0) o ≡ 0
free_walk s m le None e = refl
free_walk s m le (Some S) e = let h = bound_height s m S e in absurd (omega arith)

settled_at : (s : Store) → IsOrdered s → (k m : ℕ) → height s m ≤ suc k → ((n : ℕ) → height s n ≤ k → walk_below s (suc k) n ≡ walk_below s k n) → (o : Option Shape) → value_of s m ≡ o → walk_at (walk_below s (suc k)) o ≡ walk_at (walk_below s k) o
settled_at s h k m le below None e = refl
settled_at s h k m le below (Some S) e =
    walk-same (walk_below s (suc k)) (walk_below s k) S
    (all-map (λ n. height s n < height s m) (λ n. walk_below s (suc k) n ≡ walk_below s k n) (λ n lt. below n (omega arith)) S (h.lower m S e))

-- more steps than a variable is high change nothing
settled : (s : Store) → IsOrdered s → (k m : ℕ) → height s m ≤ k → walk_below s (suc k) m ≡ walk_below s k m
settled s h zero m le = free_walk s m le (value_of s m) refl
settled s h (suc k) m le = settled_at s h k m le (λ n l. settled s h k n l) (value_of s m) refl

pub followed : (s : Store) → IsOrdered s → (m : ℕ) (S : Shape) → value_of s m ≡ Some S → length_of_walk s (variable m) ≡ suc (length_of_walk s S)
followed s h m S e =
    ap suc (sym (settled s h (length s.values) m (height_most s m)) ∙ ap (walk_at (walk_below s (length s.values))) e)
