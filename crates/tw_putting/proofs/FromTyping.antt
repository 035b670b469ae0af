-- Open terms that are typed up to fillings have the declared skeletons.
use Rattle.std.proofs.Common.{ℕ, List, ◌∷◌, Option, Some, sym, ap, ◌∙◌, subst}
use Rattle.lf.specs.SkeletonTyping.{HeadSkeleton, SpineSkeleton, TermSkeleton}
use Rattle.lf.specs.Skeletons.{context_skeletons, type_skeleton}
use Rattle.lf.specs.Substitution.{reduce, single}
use Rattle.lf.specs.Syntax.{Head, Spine, Term, LfType, app, atom, constant, lambda, metavariable, nil, pi, root, skeleton, variable}
use Rattle.lf.specs.Typing.{Signature, instantiate_type}
use Rattle.lf.specs.Variables.{onto}
use Rattle.lf.proofs.ToSkeletons.{variable_has_skeleton}
use Rattle.lf.proofs.TypeLaws.{skeleton_substituted}
use Rattle.lf_unification.specs.OpenTyping.{OpenHasType, OpenHeadHasType, OpenSpineType}
use Rattle.lf_unification.proofs.OpenSound.{skeleton_raise}
use Rattle.tw_putting.specs.Fits.{declared_skeletons}

module _ (Σ : Signature) (G : List LfType) (Ψ : ℕ → Option LfType) (U : (ℕ → Option Term) → Type 0) where
  head_by_skeletons : (D : List LfType) (h : Head) (A : LfType) → OpenHeadHasType Σ G Ψ U D h A → HeadSkeleton (declared_skeletons Σ Ψ) (context_skeletons (onto D G)) h (skeleton A)
  head_by_skeletons D (constant c) A e = ap type_skeleton e
  head_by_skeletons D (variable i) A g = variable_has_skeleton (onto D G) i A g
  head_by_skeletons D (metavariable m) A (B, e, q) = ap type_skeleton e ∙ ap Some (sym (ap skeleton q ∙ skeleton_raise D B))

  mutual
    pub term_by_skeletons : (D : List LfType) (M : Term) (A : LfType) → OpenHasType Σ G Ψ U D M A → TermSkeleton (declared_skeletons Σ Ψ) (context_skeletons (onto D G)) M (skeleton A)
    term_by_skeletons D (lambda M) (pi A B) m = term_by_skeletons (A ∷ D) M B m
    term_by_skeletons D (lambda M) (atom a T) m = m
    term_by_skeletons D (root h S) (pi A B) m = m
    term_by_skeletons D (root h S) (atom a T) (A, g, s) = (skeleton A, head_by_skeletons D h A g, spine_by_skeletons D S A (atom a T) s)

    pub spine_by_skeletons : (D : List LfType) (S : Spine) (A C : LfType) → OpenSpineType Σ G Ψ U D S A C → SpineSkeleton (declared_skeletons Σ Ψ) (context_skeletons (onto D G)) S (skeleton A) (skeleton C)
    spine_by_skeletons D nil A C s = s.0
    spine_by_skeletons D (app M S) (pi A B) C (m, s) = (
      term_by_skeletons D M A m,
      subst (λ t. SpineSkeleton (declared_skeletons Σ Ψ) (context_skeletons (onto D G)) S t (skeleton C)) (skeleton_substituted reduce (single (skeleton A) M) B) (spine_by_skeletons D S (instantiate_type A M B) C s),
    )
    spine_by_skeletons D (app M S) (atom a T) C s = s
