-- How callers meet what the calls need: by skeletons, and by the typing of LF.
use Rattle.std.proofs.Common.{ℕ, List, [], ◌∷◌, ◌++◌, length, Option}
use Rattle.lf.specs.Syntax.{Term, Spine, LfType, atom, Skeleton, base, skeleton}
use Rattle.lf.specs.Substitution.{single}
use Rattle.lf.specs.SkeletonTyping.{HeadSkeletons, TermSkeleton, SpineSkeleton, TypeBySkeletons}
use Rattle.lf.specs.Skeletons.{constant_skeletons, family_skeletons, context_skeletons}
use Rattle.lf.specs.Typing.{Signature, HasType, SpineType, IsType}
use Rattle.lf.proofs.SkeletonTyping.{single_by_skeletons}
use Rattle.lf.proofs.AtOnce.{lift_by_by_skeletons}
use Rattle.lf.proofs.ToSkeletons.{typed_has_skeleton, typed_spine_has_skeleton, type_by_skeletons}
use Rattle.tw_hered.specs.Fits.{put_at, TermFits, TypeFits, Applies}

-- N stands in Γ, and M under a variable of N's skeleton and the variables Ξ
pub term_fits : (κ : HeadSkeletons) (Ξ Γ : List Skeleton) (a : Skeleton) (N M : Term) (t : Skeleton) → TermSkeleton κ Γ N a → TermSkeleton κ (Ξ ++ (a ∷ Γ)) M t → TermFits (put_at (length Ξ) a N) M
term_fits κ Ξ Γ a N M t n m = record {
  heads = κ;
  context = Ξ ++ (a ∷ Γ);
  target = Ξ ++ Γ;
  term_skeleton = t;
  substitution_typed = lift_by_by_skeletons κ Ξ (a ∷ Γ) Γ (single a N) (single_by_skeletons κ a Γ N n);
  term_typed = m;
}

pub type_fits : (φ : ℕ → Option Skeleton) (κ : HeadSkeletons) (Ξ Γ : List Skeleton) (a : Skeleton) (N : Term) (A : LfType) → TermSkeleton κ Γ N a → TypeBySkeletons φ κ (Ξ ++ (a ∷ Γ)) A → TypeFits (put_at (length Ξ) a N) A
type_fits φ κ Ξ Γ a N A n m = record {
  families = φ;
  heads = κ;
  context = Ξ ++ (a ∷ Γ);
  target = Ξ ++ Γ;
  substitution_typed = lift_by_by_skeletons κ Ξ (a ∷ Γ) Γ (single a N) (single_by_skeletons κ a Γ N n);
  type_typed = m;
}

pub applies : (κ : HeadSkeletons) (Γ : List Skeleton) (a : Skeleton) (N : Term) (S : Spine) (c : ℕ) → TermSkeleton κ Γ N a → SpineSkeleton κ Γ S a (base c) → Applies a N S
applies κ Γ a N S c n s = record { heads = κ; context = Γ; family = c; term_typed = n; spine_typed = s }

-- typed terms, for the newest variable
pub typed_term_fits : (Σ : Signature) (G : List LfType) (A : LfType) (N M : Term) (B : LfType) → HasType Σ G N A → HasType Σ (A ∷ G) M B → TermFits (single (skeleton A) N) M
typed_term_fits Σ G A N M B n m = term_fits (constant_skeletons Σ) [] (context_skeletons G) (skeleton A) N M (skeleton B) (typed_has_skeleton Σ G N A n) (typed_has_skeleton Σ (A ∷ G) M B m)

pub typed_type_fits : (Σ : Signature) (G : List LfType) (A : LfType) (N : Term) (B : LfType) → HasType Σ G N A → IsType Σ (A ∷ G) B → TypeFits (single (skeleton A) N) B
typed_type_fits Σ G A N B n b = type_fits (family_skeletons Σ) (constant_skeletons Σ) [] (context_skeletons G) (skeleton A) N B (typed_has_skeleton Σ G N A n) (type_by_skeletons Σ (A ∷ G) B b)

pub typed_applies : (Σ : Signature) (G : List LfType) (A : LfType) (N : Term) (S : Spine) (c : ℕ) (T : Spine) → HasType Σ G N A → SpineType Σ G S A (atom c T) → Applies (skeleton A) N S
typed_applies Σ G A N S c T n s = applies (constant_skeletons Σ) (context_skeletons G) (skeleton A) N S c (typed_has_skeleton Σ G N A n) (typed_spine_has_skeleton Σ G S A (atom c T) s)
