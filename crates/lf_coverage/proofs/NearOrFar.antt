-- A number is one of the n least, or stands behind them; so a variable of two contexts is one of either.
use Rattle.std.proofs.Common.{◌≡◌, ℕ, zero, suc, List, [], ◌∷◌, ◌+◌, ◌<◌, length, inl, inr, arith}
use Rattle.std.specs.Prelude.{◌⊎◌}
use Rattle.lf.specs.Syntax.{LfType, Skeleton}
use Rattle.lf.specs.SkeletonTyping.{SkeletonAt}
use Rattle.lf.specs.Skeletons.{context_skeletons}
use Rattle.lf.specs.Variables.{onto}

pub near_or_far : (n i : ℕ) → (i < n) ⊎ ((l : ℕ) × (i ≡ l + n))
near_or_far zero i = inr (i, none i)
  where
    none : (i : ℕ) → i ≡ i + 0
    none i = omega arith
near_or_far (suc n) zero = inl (omega arith)
near_or_far (suc n) (suc i) = next (near_or_far n i)
  where
    step : (l : ℕ) → i ≡ l + n → suc i ≡ l + suc n
    step l e = omega (arith, e)

    next : (i < n) ⊎ ((l : ℕ) × (i ≡ l + n)) → (suc i < suc n) ⊎ ((l : ℕ) × (suc i ≡ l + suc n))
    next (inl h) = inl (omega (arith, h))
    next (inr (l, e)) = inr (l, step l e)

-- a variable of a context on top of another is one of either
pub onto_cases : (F G : List LfType) (i : ℕ) (t : Skeleton) → SkeletonAt (context_skeletons (onto F G)) i t → SkeletonAt (context_skeletons F) i t ⊎ ((j : ℕ) × (i ≡ j + length F) × SkeletonAt (context_skeletons G) j t)
onto_cases [] G i t g = inr (i, none i, g)
  where
    none : (i : ℕ) → i ≡ i + 0
    none i = omega arith
onto_cases (A ∷ F) G zero t g = inl g
onto_cases (A ∷ F) G (suc i) t g = by (onto_cases F G i t g)
  where
    by : SkeletonAt (context_skeletons F) i t ⊎ ((j : ℕ) × (i ≡ j + length F) × SkeletonAt (context_skeletons G) j t) → SkeletonAt (context_skeletons (A ∷ F)) (suc i) t ⊎ ((j : ℕ) × (suc i ≡ j + suc (length F)) × SkeletonAt (context_skeletons G) j t)
    by (inl h) = inl h
    by (inr (j, e, h)) = inr (j, omega (arith, e), h)
