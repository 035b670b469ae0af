-- Facts of each variable of a shape.
use Rattle.std.proofs.Common.{◌≡◌, ◌≢◌, ℕ, suc, ◌+◌, ◌≤◌, inl, inr, arith, refl, ap}
use Rattle.lf.specs.Syntax.{Skeleton, base as base_skeleton, arrow as arrow_skeleton}
use Rattle.tw_shapes.specs.Shapes.{Shape, variable, base, arrow, AllVariables, Mentions, filled}

pub all-both : (P Q R : ℕ → Type 0) → ((m : ℕ) → P m → Q m → R m) → (S : Shape) → AllVariables P S → AllVariables Q S → AllVariables R S
all-both P Q R h (variable m) p q = h m p q
all-both P Q R h (base c) p q = tt
all-both P Q R h (arrow S T) p q = (all-both P Q R h S p.0 q.0, all-both P Q R h T p.1 q.1)

pub all-map : (P R : ℕ → Type 0) → ((m : ℕ) → P m → R m) → (S : Shape) → AllVariables P S → AllVariables R S
all-map P R h S p = all-both P P R (λ m x _. h m x) S p p

-- a shape under two assignments that agree at its variables
pub filled-same : (θ ρ : ℕ → Skeleton) (S : Shape) → AllVariables (λ m. θ m ≡ ρ m) S → filled θ S ≡ filled ρ S
filled-same θ ρ (variable m) h = h
filled-same θ ρ (base c) h = refl
filled-same θ ρ (arrow S T) h = let left = filled-same θ ρ S h.0 in let right = filled-same θ ρ T h.1 in cc (left, right)

abbrev pub size : Skeleton → ℕ
size (base_skeleton c) = 1
size (arrow_skeleton k l) = suc (size k + size l)

-- a variable's skeleton is no larger than the shape's
pub mentioned-size : (θ : ℕ → Skeleton) (m : ℕ) (S : Shape) → Mentions m S → size (θ m) ≤ size (filled θ S)
mentioned-size θ m (variable n) e = let h : size (θ n) ≡ size (θ m) = ap (λ i. size (θ i)) e in omega arith
mentioned-size θ m (base c) e = absurd e
mentioned-size θ m (arrow S T) (inl e) = let h = mentioned-size θ m S e in omega arith
mentioned-size θ m (arrow S T) (inr e) = let h = mentioned-size θ m T e in omega arith

-- The occurs check: a variable is no arrow that it stands in.
pub arrow-circular : (θ : ℕ → Skeleton) (m : ℕ) (S T : Shape) → Mentions m (arrow S T) → θ m ≢ filled θ (arrow S T)
arrow-circular θ m S T (inl e) q = let h = mentioned-size θ m S e in let k : size (θ m) ≡ size (filled θ (arrow S T)) = ap size q in omega arith
arrow-circular θ m S T (inr e) q = let h = mentioned-size θ m T e in let k : size (θ m) ≡ size (filled θ (arrow S T)) = ap size q in omega arith
