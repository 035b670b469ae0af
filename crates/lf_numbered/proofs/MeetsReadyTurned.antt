-- Typed values put into arguments of their places' types; what a substitution does near and far under binders; and given terms, renamed.
use Rattle.std.proofs.Common.{◌≡◌, ℕ, zero, suc, ◌+◌, List, [], ◌∷◌, length, refl, sym, ap, ap₂, ◌∙◌, subst, arith}
use Rattle.std.specs.Prelude.{Option, Some, None}
use Rattle.lf.specs.Syntax.{Term, Spine, nil, app, LfType, Kind, kind_pi, star, base, skeleton, kind_skeleton}
use Rattle.lf.specs.Substitution.{Image, keep, put, rename_image, lift, single, substitute, substitute_spine, substitute_type, substitute_kind, reduce}
use Rattle.lf.specs.AtOnce.{shift_by, lift_renaming_by}
use Rattle.lf.specs.SkeletonTyping.{TermSkeleton, SpineSkeleton, KindBySkeletons}
use Rattle.lf.specs.Skeletons.{constant_skeletons, family_skeletons, context_skeletons}
use Rattle.lf.specs.Typing.{Signature, TypeAt, IsContext, IsSignature, instantiate_kind}
use Rattle.lf.specs.Variables.{onto}
use Rattle.lf.specs.Worlds.{lift_over, instance}
use Rattle.lf.proofs.Renaming.{renamings_compose}
use Rattle.lf.proofs.SkeletonTypes.{substitute_single_kind, single_kind_by_skeletons}
use Rattle.lf.proofs.Substitution.{TypedSubstitution, substitution_keeps_typing, typed_substitution_by_skeletons}
use Rattle.lf.proofs.ToSkeletons.{typed_has_skeleton, kind_skeleton_substituted, skeleton_has_variable}
use Rattle.lf.proofs.TypeLaws.{skeleton_substituted, substitution_as_renaming_type}
use Rattle.lf.proofs.Closed.{Agree}
use Rattle.lf_cases.specs.Missing.{put_in}
use Rattle.lf_cases.specs.OutputGoal.{renumber}
use Rattle.lf_cases.proofs.Raised.{rename_identity}
use Rattle.lf_coverage.specs.Heads.{HaveSkeletons}
use Rattle.lf_coverage.specs.TypedCase.{TypedArguments}
use Rattle.lf_coverage.proofs.StayTyped.{instance_agree}
use Rattle.lf_coverage.proofs.Transfer.{same_in}
use Rattle.lf_numbered.specs.NewBlock.{rename_all}
use Rattle.lf_numbered.proofs.EntryPatternsSplits.{all_renamed, lifted_keep}
use mathlib.Core.Path.{fun_ext}

-- Typed values put into arguments
module _ (Σ : Signature) (ok : IsSignature Σ) (G H : List LfType) (σ : ℕ → Image) (w : TypedSubstitution Σ ok G H σ) where
  next_kind : (A : LfType) (M : Term) (K : Kind) → TermSkeleton (constant_skeletons Σ) (context_skeletons G) M (skeleton A) → KindBySkeletons (family_skeletons Σ) (constant_skeletons Σ) (skeleton A ∷ context_skeletons G) K → substitute_kind reduce σ (instantiate_kind A M K) ≡ instantiate_kind (substitute_type reduce σ A) (substitute reduce σ M) (substitute_kind reduce (lift σ) K)
  next_kind A M K mk kk = substitute_single_kind (family_skeletons Σ) (constant_skeletons Σ) (context_skeletons G) (context_skeletons H) σ (skeleton A) M K (typed_substitution_by_skeletons Σ ok G H σ w.typed) mk kk ∙ ap (λ z. substitute_kind reduce (single z (substitute reduce σ M)) (substitute_kind reduce (lift σ) K)) (sym (skeleton_substituted reduce σ A))

  pub arguments_put : (Ms : List (Option Term)) (T : Spine) (K : Kind) → KindBySkeletons (family_skeletons Σ) (constant_skeletons Σ) (context_skeletons G) K → SpineSkeleton (constant_skeletons Σ) (context_skeletons G) T (kind_skeleton 0 K) (base 0) → TypedArguments Σ G Ms T K → TypedArguments Σ H (put_in σ Ms) (substitute_spine reduce σ T) (substitute_kind reduce σ K)
  arguments_put [] nil star k s a = tt
  arguments_put [] nil (kind_pi A K) k s a = absurd a
  arguments_put [] (app N T) K k s a = absurd a
  arguments_put (Some M ∷ Ms) nil K k s a = absurd a
  arguments_put (None ∷ Ms) nil K k s a = absurd a
  arguments_put (Some M ∷ Ms) (app N T) star k s a = absurd a
  arguments_put (None ∷ Ms) (app N T) star k s a = absurd a
  arguments_put (Some M ∷ Ms) (app N T) (kind_pi A K) (ka, kk) (sn, s) (t, a) =
      let mk : TermSkeleton (constant_skeletons Σ) (context_skeletons G) M (skeleton A) = typed_has_skeleton Σ G M A t in (
        substitution_keeps_typing Σ ok G H σ M A w ka t,
        subst (TypedArguments Σ H (put_in σ Ms) (substitute_spine reduce σ T)) (next_kind A M K mk kk) (arguments_put Ms T (instantiate_kind A M K) (single_kind_by_skeletons (family_skeletons Σ) (constant_skeletons Σ) (skeleton A) (context_skeletons G) M K mk kk) (subst (λ z. SpineSkeleton (constant_skeletons Σ) (context_skeletons G) T z (base 0)) (sym (kind_skeleton_substituted 0 reduce (single (skeleton A) M) K)) s) a),
      )
  arguments_put (None ∷ Ms) (app N T) (kind_pi A K) (ka, kk) (sn, s) a =
      subst (TypedArguments Σ H (put_in σ Ms) (substitute_spine reduce σ T)) (next_kind A N K sn kk)
      (arguments_put Ms T (instantiate_kind A N K) (single_kind_by_skeletons (family_skeletons Σ) (constant_skeletons Σ) (skeleton A) (context_skeletons G) N K sn kk) (subst (λ z. SpineSkeleton (constant_skeletons Σ) (context_skeletons G) T z (base 0)) (sym (kind_skeleton_substituted 0 reduce (single (skeleton A) N) K)) s) a)

-- Near and far
pub near_keep : (D : List LfType) (φ : ℕ → Image) (i : ℕ) (A : LfType) → TypeAt D i A → lift_over D φ i ≡ keep i
near_keep [] φ i A g = absurd g
near_keep (B ∷ D) φ zero A e = refl
near_keep (B ∷ D) φ (suc i) A (C, g, e) = ap (rename_image suc) (near_keep D φ i C g)

image_twice : (ρ τ : ℕ → ℕ) (x : Image) → rename_image ρ (rename_image τ x) ≡ rename_image (λ i. ρ (τ i)) x
image_twice ρ τ (keep j) = refl
image_twice ρ τ (put a N) = ap (put a) (renamings_compose ρ τ N)

image_still : (x : Image) → rename_image (λ i. i) x ≡ x
image_still (keep j) = refl
image_still (put a N) = ap (put a) (rename_identity N)

pub far_moved : (D : List LfType) (φ : ℕ → Image) (k : ℕ) → lift_over D φ (k + length D) ≡ rename_image (shift_by (length D)) (φ k)
far_moved [] φ k = ap φ (none k) ∙ sym (ap (λ ρ. rename_image ρ (φ k)) (fun_ext none) ∙ image_still (φ k))
  where
    none : (i : ℕ) → i + 0 ≡ i
    none i = omega arith
far_moved (A ∷ D) φ k = ap (lift_over (A ∷ D) φ) (next k (length D)) ∙ ap (rename_image suc) (far_moved D φ k) ∙ image_twice suc (shift_by (length D)) (φ k) ∙ ap (λ ρ. rename_image ρ (φ k)) (fun_ext (λ i. sym (next i (length D))))
  where
    next : (i n : ℕ) → i + suc n ≡ suc (i + n)
    next i n = omega arith

-- Values that rename the variables of a context
module _ (Σ : Signature) (V : List LfType) (ξ : ℕ → Image) (ρ : ℕ → ℕ) (h : Agree V ξ (λ i. keep (ρ i))) where
  renumbered : (r : ℕ → ℕ) (L : List LfType) → renumber r L ≡ instance L (λ i. keep (r i))
  renumbered r [] = refl
  renumbered r (A ∷ L) = ap₂ (λ B D. B ∷ D) (sym (substitution_as_renaming_type reduce (lift_renaming_by (length L) r) A) ∙ ap (λ σ. substitute_type reduce σ A) (sym (fun_ext (lifted_keep L r)))) (renumbered r L)

  pub local_renamed : (L : List LfType) → IsContext Σ (onto L V) → instance L ξ ≡ renumber ρ L
  local_renamed L c = (instance_agree Σ L V ξ (λ i. keep (ρ i)) c h).0 ∙ sym (renumbered ρ L)

  all_same : (L : List LfType) (Ms : List (Option Term)) → IsContext Σ (onto L V) → HaveSkeletons (constant_skeletons Σ) (context_skeletons (onto L V)) Ms → put_in (lift_over L ξ) Ms ≡ put_in (lift_over L (λ i. keep (ρ i))) Ms
  all_same L [] c s = refl
  all_same L (Some M ∷ Ms) c ((t, k), s) = ap₂ (λ N Ns. Some N ∷ Ns) (same_in (constant_skeletons Σ) (context_skeletons (onto L V)) (lift_over L ξ) (lift_over L (λ i. keep (ρ i))) (λ i u z. let (A, a, e) = skeleton_has_variable (onto L V) i u z in (instance_agree Σ L V ξ (λ i. keep (ρ i)) c h).1 i A a) M t k) (all_same L Ms c s)
  all_same L (None ∷ Ms) c s = ap (λ Ns. None ∷ Ns) (all_same L Ms c s)

  pub all_put_renamed : (L : List LfType) (Ms : List (Option Term)) → IsContext Σ (onto L V) → HaveSkeletons (constant_skeletons Σ) (context_skeletons (onto L V)) Ms → put_in (lift_over L ξ) Ms ≡ rename_all (lift_renaming_by (length L) ρ) Ms
  all_put_renamed L Ms c s = all_same L Ms c s ∙ all_renamed 0 (lift_renaming_by (length L) ρ) (lift_over L (λ i. keep (ρ i))) (lifted_keep L ρ) Ms
