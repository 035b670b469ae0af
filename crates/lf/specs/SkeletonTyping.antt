-- Typing by skeletons. A context is the list of its variables' skeletons, the newest first.
use Rattle.std.specs.Prelude.{◌≡◌, ℕ, zero, suc, List, [], ◌∷◌, Option, Some}
use Rattle.lf.specs.Syntax.{Head, constant, variable, metavariable, Term, Spine, lambda, root, nil, app, LfType, Kind, pi, atom, kind_pi, star, Skeleton, base, arrow, skeleton}
use Rattle.lf.specs.Substitution.{Image, keep, put}

-- the skeleton of a variable
abbrev pub SkeletonAt : List Skeleton → ℕ → Skeleton → Type 0
SkeletonAt [] i t = ⊥
SkeletonAt (a ∷ Γ) zero t = a ≡ t
SkeletonAt (a ∷ Γ) (suc i) t = SkeletonAt Γ i t

-- the skeletons of constants and of metavariables
pub record HeadSkeletons : Type 0 where
  pub constant_skeleton : ℕ → Option Skeleton
  pub metavariable_skeleton : ℕ → Option Skeleton

-- the skeleton of a head
abbrev pub HeadSkeleton : HeadSkeletons → List Skeleton → Head → Skeleton → Type 0
HeadSkeleton κ Γ (constant c) t = κ.constant_skeleton c ≡ Some t
HeadSkeleton κ Γ (variable i) t = SkeletonAt Γ i t
HeadSkeleton κ Γ (metavariable m) t = κ.metavariable_skeleton m ≡ Some t

abbrev mutual
  pub TermSkeleton : HeadSkeletons → List Skeleton → Term → Skeleton → Type 0
  TermSkeleton κ Γ (lambda M) (arrow a b) = TermSkeleton κ (a ∷ Γ) M b
  TermSkeleton κ Γ (lambda M) (base c) = ⊥
  TermSkeleton κ Γ (root h S) (arrow a b) = ⊥
  TermSkeleton κ Γ (root h S) (base c) = (t : Skeleton) × HeadSkeleton κ Γ h t × SpineSkeleton κ Γ S t (base c)

  -- the spine takes the first skeleton to the second
  pub SpineSkeleton : HeadSkeletons → List Skeleton → Spine → Skeleton → Skeleton → Type 0
  SpineSkeleton κ Γ nil t u = t ≡ u
  SpineSkeleton κ Γ (app M S) (arrow a b) u = TermSkeleton κ Γ M a × SpineSkeleton κ Γ S b u
  SpineSkeleton κ Γ (app M S) (base c) u = ⊥

-- `φ` gives the skeletons of families
abbrev pub TypeBySkeletons : (ℕ → Option Skeleton) → HeadSkeletons → List Skeleton → LfType → Type 0
TypeBySkeletons φ κ Γ (pi A B) = TypeBySkeletons φ κ Γ A × TypeBySkeletons φ κ (skeleton A ∷ Γ) B
TypeBySkeletons φ κ Γ (atom a S) = (t : Skeleton) × (φ a ≡ Some t) × SpineSkeleton κ Γ S t (base a)

abbrev pub KindBySkeletons : (ℕ → Option Skeleton) → HeadSkeletons → List Skeleton → Kind → Type 0
KindBySkeletons φ κ Γ (kind_pi A K) = TypeBySkeletons φ κ Γ A × KindBySkeletons φ κ (skeleton A ∷ Γ) K
KindBySkeletons φ κ Γ star = Unit {0}

-- what stands for a variable of a skeleton: a variable of this skeleton, or a term that carries it and has it
abbrev pub ImageSkeleton : HeadSkeletons → List Skeleton → Image → Skeleton → Type 0
ImageSkeleton κ Δ (keep i) t = SkeletonAt Δ i t
ImageSkeleton κ Δ (put a N) t = (a ≡ t) × TermSkeleton κ Δ N a

-- a substitution from Γ to Δ
abbrev pub SubstitutionBySkeletons : HeadSkeletons → List Skeleton → List Skeleton → (ℕ → Image) → Type 0
SubstitutionBySkeletons κ Γ Δ σ = (i : ℕ) (t : Skeleton) → SkeletonAt Γ i t → ImageSkeleton κ Δ (σ i) t

-- a renaming from Γ to Δ
abbrev pub RenamingBySkeletons : List Skeleton → List Skeleton → (ℕ → ℕ) → Type 0
RenamingBySkeletons Γ Δ ρ = (i : ℕ) (t : Skeleton) → SkeletonAt Γ i t → SkeletonAt Δ (ρ i) t
