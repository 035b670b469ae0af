-- Depth of renamed terms, of leading lambdas, and of the parts of a term.
use Rattle.std.proofs.Common.{◌≡◌, ℕ, zero, suc, ◌+◌, ◌<◌, ◌≤◌, max, ◌⊎◌, refl, ap, ap₂, ◌∙◌, inl, inr, arith}
use Rattle.std.proofs.Math.Nat.{le-max_left, le-max_right, max-le}
use Rattle.lf.specs.Syntax.{Head, Term, Spine, lambda, root, nil, app, LfType, Kind, pi, atom, kind_pi, star, Skeleton, lift_renaming, rename, rename_spine, rename_type, rename_kind}
use Rattle.lf.specs.Depth.{depth, spine_depth, type_depth, kind_depth}
use Rattle.lf.specs.Eta.{eta_long, arity, lambdas, eta_arguments}
use Rattle.lf.proofs.AtOnce.{eta_at_once}

mutual
  pub renaming_keeps_depth : (ρ : ℕ → ℕ) (M : Term) → depth (rename ρ M) ≡ depth M
  renaming_keeps_depth ρ (lambda M) = ap suc (renaming_keeps_depth (lift_renaming ρ) M)
  renaming_keeps_depth ρ (root h S) = ap suc (renaming_keeps_spine_depth ρ S)

  pub renaming_keeps_spine_depth : (ρ : ℕ → ℕ) (S : Spine) → spine_depth (rename_spine ρ S) ≡ spine_depth S
  renaming_keeps_spine_depth ρ nil = refl
  renaming_keeps_spine_depth ρ (app M S) = ap₂ max (renaming_keeps_depth ρ M) (renaming_keeps_spine_depth ρ S)

pub renaming_keeps_type_depth : (ρ : ℕ → ℕ) (A : LfType) → type_depth (rename_type ρ A) ≡ type_depth A
renaming_keeps_type_depth ρ (pi A B) = ap₂ (λ m n. suc (max m n)) (renaming_keeps_type_depth ρ A) (renaming_keeps_type_depth (lift_renaming ρ) B)
renaming_keeps_type_depth ρ (atom a S) = ap suc (renaming_keeps_spine_depth ρ S)

pub renaming_keeps_kind_depth : (ρ : ℕ → ℕ) (K : Kind) → kind_depth (rename_kind ρ K) ≡ kind_depth K
renaming_keeps_kind_depth ρ (kind_pi A K) = ap₂ (λ m n. suc (max m n)) (renaming_keeps_type_depth ρ A) (renaming_keeps_kind_depth (lift_renaming ρ) K)
renaming_keeps_kind_depth ρ star = refl

pub lambdas_depth : (n : ℕ) (M : Term) → depth (lambdas n M) ≡ n + depth M
lambdas_depth zero M = let e : depth M ≡ 0 + depth M = omega arith in e
lambdas_depth (suc n) M = let e : suc (n + depth M) ≡ suc n + depth M = omega arith in ap suc (lambdas_depth n M) ∙ e

-- the depth of an eta-long form doesn't rest on its head
pub eta_depth : (a : Skeleton) (h : Head) → depth (eta_long a h) ≡ arity a + suc (spine_depth (eta_arguments a))
eta_depth a h = ap depth (eta_at_once a h) ∙ lambdas_depth (arity a) (root _ (eta_arguments a))

le_or_lt : (a b : ℕ) → (a ≤ b) ⊎ (b < a)
le_or_lt zero b = inl (omega arith)
le_or_lt (suc a) zero = inr (omega arith)
le_or_lt (suc a) (suc b) = step (le_or_lt a b)
  where
    step : (a ≤ b) ⊎ (b < a) → (suc a ≤ suc b) ⊎ (suc b < suc a)
    step (inl p) = inl (omega arith)
    step (inr p) = inr (omega arith)

-- what is below the greater of two is below one of them
pub below_max : (k m n : ℕ) → k < max m n → (k < m) ⊎ (k < n)
below_max k m n h = go (le_or_lt m k)
  where
    go : (m ≤ k) ⊎ (k < m) → (k < m) ⊎ (k < n)
    go (inr p) = inl p
    go (inl p) = second (le_or_lt n k)
      where
        second : (n ≤ k) ⊎ (k < n) → (k < m) ⊎ (k < n)
        second (inr q) = inr q
        second (inl q) = let r : max m n ≤ k = max-le p q in absurd (omega arith)

-- A part above a limit makes the whole be above it.
pub deep_under_lambda : (k : ℕ) (M : Term) → k < depth M → k < depth (lambda M)
deep_under_lambda k M h = omega arith

pub deep_under_root : (k : ℕ) (g : Head) (S : Spine) → k < spine_depth S → k < depth (root g S)
deep_under_root k g S h = omega arith

pub deep_first : (k : ℕ) (M : Term) (S : Spine) → k < depth M → k < spine_depth (app M S)
deep_first k M S h = let l = le-max_left (depth M) (spine_depth S) in omega arith

pub deep_rest : (k : ℕ) (M : Term) (S : Spine) → k < spine_depth S → k < spine_depth (app M S)
deep_rest k M S h = let l = le-max_right (depth M) (spine_depth S) in omega arith

pub deep_domain : (k : ℕ) (A B : LfType) → k < type_depth A → k < type_depth (pi A B)
deep_domain k A B h = let l = le-max_left (type_depth A) (type_depth B) in omega arith

pub deep_codomain : (k : ℕ) (A B : LfType) → k < type_depth B → k < type_depth (pi A B)
deep_codomain k A B h = let l = le-max_right (type_depth A) (type_depth B) in omega arith
