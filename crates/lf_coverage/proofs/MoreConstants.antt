-- What has a skeleton over a signature has it over one with more constants.
use Rattle.std.proofs.Common.{◌≡◌, ℕ, List, ◌∷◌, Option, Some, None, refl, ap, ◌∙◌}
use Rattle.lf.specs.Syntax.{constant, variable, metavariable, Term, Spine, lambda, root, nil, app, LfType, pi, atom, Skeleton, base, arrow, skeleton}
use Rattle.lf.specs.SkeletonTyping.{TermSkeleton, SpineSkeleton, TypeBySkeletons}
use Rattle.lf.specs.Skeletons.{type_skeleton, constant_skeletons}
use Rattle.lf.specs.Typing.{Signature}
use Rattle.lf_coverage.proofs.Parts.{none_some}

module _ (Σ Σ' : Signature) (ts : (c : ℕ) (A : LfType) → Σ.types c ≡ Some A → Σ'.types c ≡ Some A) where
  pub constant_more : (c : ℕ) (t : Skeleton) (y : Option LfType) → Σ.types c ≡ y → type_skeleton y ≡ Some t → type_skeleton (Σ'.types c) ≡ Some t
  constant_more c t None e q = absurd (none_some q)
  constant_more c t (Some A) e q = ap type_skeleton (ts c A e) ∙ q

  mutual
    pub term_more : (Γ : List Skeleton) (M : Term) (t : Skeleton) → TermSkeleton (constant_skeletons Σ) Γ M t → TermSkeleton (constant_skeletons Σ') Γ M t
    term_more Γ (lambda M) (arrow a b) m = term_more (a ∷ Γ) M b m
    term_more Γ (lambda M) (base c) m = absurd m
    term_more Γ (root k T) (arrow a b) m = absurd m
    term_more Γ (root (constant c) T) (base d) (t, g, s) = (t, constant_more c t (Σ.types c) refl g, spine_more Γ T t (base d) s)
    term_more Γ (root (variable c) T) (base d) (t, g, s) = (t, g, spine_more Γ T t (base d) s)
    term_more Γ (root (metavariable c) T) (base d) (t, g, s) = (t, g, spine_more Γ T t (base d) s)

    pub spine_more : (Γ : List Skeleton) (T : Spine) (t u : Skeleton) → SpineSkeleton (constant_skeletons Σ) Γ T t u → SpineSkeleton (constant_skeletons Σ') Γ T t u
    spine_more Γ nil t u s = s
    spine_more Γ (app M T) (arrow a b) u (m, s) = (term_more Γ M a m, spine_more Γ T b u s)
    spine_more Γ (app M T) (base c) u s = absurd s

  pub type_more : (φ : ℕ → Option Skeleton) (Γ : List Skeleton) (A : LfType) → TypeBySkeletons φ (constant_skeletons Σ) Γ A → TypeBySkeletons φ (constant_skeletons Σ') Γ A
  type_more φ Γ (pi A B) (a, b) = (type_more φ Γ A a, type_more φ (skeleton A ∷ Γ) B b)
  type_more φ Γ (atom a S) (t, g, s) = (t, g, spine_more Γ S t (base a) s)
