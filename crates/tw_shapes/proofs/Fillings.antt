-- Each ordered store has solutions, with any skeleton for the free variables.
use Rattle.std.proofs.Common.{◌≡◌, ℕ, zero, suc, ◌<◌, ◌≤◌, length, Option, Some, None, arith, refl, sym, ap, ◌∙◌}
use Rattle.lf.specs.Syntax.{Skeleton}
use Rattle.tw_shapes.specs.Shapes.{Shape, filled, Store, value_of, Solves}
use Rattle.tw_shapes.specs.Order.{height, IsOrdered}
use Rattle.tw_shapes.proofs.Variables.{all-map, filled-same}
use Rattle.tw_shapes.proofs.Walks.{bound_height, height_most}

abbrev pub filled_at : Skeleton → (ℕ → Skeleton) → Option Shape → Skeleton
filled_at d θ (Some S) = filled θ S
filled_at d θ None = d

-- where at most so many variables are followed one after the other
abbrev pub filling_below : Skeleton → Store → ℕ → ℕ → Skeleton
filling_below d s zero m = d
filling_below d s (suc k) m = filled_at d (filling_below d s k) (value_of s m)

-- the solution with this skeleton for each free variable
abbrev pub filling : Skeleton → Store → ℕ → Skeleton
filling d s m = filling_below d s (length s.values) m

free_filling : (d : Skeleton) (s : Store) (m : ℕ) → height s m ≤ 0 → (o : Option Shape) → value_of s m ≡ o → filled_at d (filling_below d s 0) o ≡ d
free_filling d s m le None e = refl
free_filling d s m le (Some S) e = let h = bound_height s m S e in absurd (omega arith)

settled_at : (d : Skeleton) (s : Store) → IsOrdered s → (k m : ℕ) → height s m ≤ suc k → ((n : ℕ) → height s n ≤ k → filling_below d s (suc k) n ≡ filling_below d s k n) → (o : Option Shape) → value_of s m ≡ o → filled_at d (filling_below d s (suc k)) o ≡ filled_at d (filling_below d s k) o
settled_at d s h k m le below None e = refl
settled_at d s h k m le below (Some S) e =
    filled-same (filling_below d s (suc k)) (filling_below d s k) S
    (all-map (λ n. height s n < height s m) (λ n. filling_below d s (suc k) n ≡ filling_below d s k n) (λ n lt. below n (omega arith)) S (h.lower m S e))

-- more steps than a variable is high change nothing
settled : (d : Skeleton) (s : Store) → IsOrdered s → (k m : ℕ) → height s m ≤ k → filling_below d s (suc k) m ≡ filling_below d s k m
settled d s h zero m le = free_filling d s m le (value_of s m) refl
settled d s h (suc k) m le = settled_at d s h k m le (λ n l. settled d s h k n l) (value_of s m) refl

pub filling-is : (d : Skeleton) (s : Store) → IsOrdered s → (m : ℕ) → filling d s m ≡ filled_at d (filling d s) (value_of s m)
filling-is d s h m = sym (settled d s h (length s.values) m (height_most s m))

pub filling-solves : (d : Skeleton) (s : Store) → IsOrdered s → Solves (filling d s) s
filling-solves d s h = record { holds = λ m S e. filling-is d s h m ∙ ap (filled_at d (filling d s)) e }

pub filling-free : (d : Skeleton) (s : Store) → IsOrdered s → (m : ℕ) → value_of s m ≡ None → filling d s m ≡ d
filling-free d s h m e = filling-is d s h m ∙ ap (filled_at d (filling d s)) e
