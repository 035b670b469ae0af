-- Many variables at once: a list of images in front of a shift, substitutions and renamings under several binders, and a term
-- with the arguments that its leading lambdas take.
use Rattle.std.specs.Prelude.{ℕ, zero, suc, ◌+◌, ◌<◌, List, [], ◌∷◌}
use Rattle.lf.specs.Syntax.{Term, Spine, lambda, root, nil, app, Skeleton, base, arrow, lift_renaming}
use Rattle.lf.specs.Substitution.{Image, keep, put, lift}

-- the renaming by n
abbrev pub shift_by : ℕ → ℕ → ℕ
shift_by n i = i + n

-- x for variable 0, and σ for the others
abbrev pub in_front : Image → (ℕ → Image) → ℕ → Image
in_front x σ zero = x
in_front x σ (suc i) = σ i

-- the images xs for the first variables; the others stay, moved by b
abbrev pub images_then_shift : List Image → ℕ → ℕ → Image
images_then_shift [] b i = keep (i + b)
images_then_shift (x ∷ xs) b i = in_front x (images_then_shift xs b) i

-- σ, or a renaming, under n binders
abbrev pub lift_by : ℕ → (ℕ → Image) → ℕ → Image
lift_by zero σ = σ
lift_by (suc n) σ = lift (lift_by n σ)

-- the same of a renaming
abbrev pub lift_renaming_by : ℕ → (ℕ → ℕ) → ℕ → ℕ
lift_renaming_by zero ρ = ρ
lift_renaming_by (suc n) ρ = lift_renaming (lift_renaming_by n ρ)

-- a term without as many leading lambdas as the spine has arguments
abbrev pub body_under : Spine → Term → Term
body_under nil N = N
body_under (app M S) (lambda N) = body_under S N
body_under (app M S) (root h T) = root h T

-- the arguments of a spine as images at the skeletons that the skeleton asks for, the last in front of xs
abbrev pub spine_images : Skeleton → Spine → List Image → List Image
spine_images t nil xs = xs
spine_images (arrow a b) (app N S) xs = spine_images b S (put a N ∷ xs)
spine_images (base c) (app N S) xs = xs

-- the skeletons of these images, in front of Γ: the context of the body
abbrev pub argument_skeletons : Skeleton → Spine → List Skeleton → List Skeleton
argument_skeletons t nil Γ = Γ
argument_skeletons (arrow a b) (app N S) Γ = argument_skeletons b S (a ∷ Γ)
argument_skeletons (base c) (app N S) Γ = Γ

-- how many arrows and families stand in a skeleton
abbrev pub skeleton_size : Skeleton → ℕ
skeleton_size (base c) = 1
skeleton_size (arrow a b) = skeleton_size a + skeleton_size b + 1

-- each term put in has a skeleton of a size below k
abbrev pub ImagesAreBelow : ℕ → List Image → Type 0
ImagesAreBelow k [] = Unit {0}
ImagesAreBelow k (keep i ∷ xs) = ImagesAreBelow k xs
ImagesAreBelow k (put a N ∷ xs) = (skeleton_size a < k) × ImagesAreBelow k xs
