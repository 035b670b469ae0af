-- The block variables of an answer, with a filling's values put in, have the terms that the filling gives them.
use Rattle.std.proofs.Common.{◌≡◌, ℕ, List, [], ◌∷◌, Option, refl, sym, ap, ap₂, ◌∙◌, subst}
use Rattle.lf.specs.SkeletonTyping.{HeadSkeletons, ImageSkeleton, TermSkeleton, SubstitutionBySkeletons}
use Rattle.lf.specs.Skeletons.{constant_skeletons, context_skeletons}
use Rattle.lf.specs.Subordination.{Block}
use Rattle.lf.specs.Substitution.{Image, keep, put, substitute, substitute_image, substitute_spine, reduce, after}
use Rattle.lf.specs.Syntax.{Term, Spine, LfType, Skeleton, skeleton}
use Rattle.lf.specs.Typing.{Signature, IsSignature}
use Rattle.lf.proofs.Composition.{substitutions_compose}
use Rattle.lf.proofs.Substitution.{typed_substitution_by_skeletons}
use Rattle.lf.proofs.ToSkeletons.{skeleton_has_variable, variable_has_skeleton}
use Rattle.lf_cases.specs.Case.{as_term}
use Rattle.lf_coverage.proofs.Composing.{composed}
use Rattle.lf_coverage.proofs.Transfer.{SameIn, same_in}
use Rattle.lf_numbered.specs.NumberedCase.{some_spine, AreTypedBlockVariables}
use Rattle.lf_numbered.specs.OwnTerms.{BlockVariable, own_terms, put_in_blocks}
use Rattle.lf_numbered.specs.OwnValues.{AnswerKeepsOwnTerms}
use Rattle.lf_numbered.proofs.EntryValues.{put_some, some_equal}
use Rattle.lf_numbered.proofs.OwnTerms.{put_in_own, type_substituted}

-- values α and then ι are τ
module _ (κ : HeadSkeletons) (Γ Γ' Δ : List Skeleton) (α ι τ : ℕ → Image) (fα : SubstitutionBySkeletons κ Γ Γ' α) (fι : SubstitutionBySkeletons κ Γ' Δ ι) (same : SameIn Γ τ (after ι α)) where
  fits : SubstitutionBySkeletons κ Γ Δ τ
  fits i t g = subst (λ y. ImageSkeleton κ Δ y t) (sym (same i t g)) (composed κ Γ Γ' Δ α ι fα fι i t g)

  pub term_after : (M : Term) (t : Skeleton) → TermSkeleton κ Γ M t → substitute reduce ι (substitute reduce α M) ≡ substitute reduce τ M
  term_after M t m = substitutions_compose κ Γ Γ' Δ α ι M t fα fι m ∙ sym (same_in κ Γ τ (after ι α) same M t m)

  image_after : (x : Image) (t : Skeleton) → ImageSkeleton κ Γ x t → substitute_image ι (substitute_image α x) ≡ substitute_image τ x
  image_after (keep j) t g = sym (same j t g)
  image_after (put a N) t (e, n) = ap (put a) (term_after N a n)

  pub spine_after : (O : List LfType) (υ : ℕ → Image) → SubstitutionBySkeletons κ (context_skeletons O) Γ υ → substitute_spine reduce ι (substitute_spine reduce α (some_spine O υ)) ≡ substitute_spine reduce τ (some_spine O υ)
  spine_after O υ f =
      ap (substitute_spine reduce ι) (put_some κ O Γ Γ' υ α f fα)
      ∙ put_some κ O Γ' Δ (after α υ) ι (composed κ (context_skeletons O) Γ Γ' υ α f fα) fι
      ∙ some_equal O (after ι (after α υ)) (after τ υ) (λ i A g. ap (as_term (skeleton A)) (image_after (υ i) (skeleton A) (f i (skeleton A) (variable_has_skeleton O i A g))))
      ∙ sym (put_some κ O Γ Δ υ τ f fits)

blocks_after : (Σ : Signature) (ok : IsSignature Σ) (W : List Block) (X O F : List LfType) (p : ℕ → Option Spine) (α ι τ : ℕ → Image) → SubstitutionBySkeletons (constant_skeletons Σ) (context_skeletons X) (context_skeletons O) α → SubstitutionBySkeletons (constant_skeletons Σ) (context_skeletons O) (context_skeletons F) ι → SameIn (context_skeletons X) τ (after ι α) → (bs : List BlockVariable) → AreTypedBlockVariables Σ W X p bs → put_in_blocks ι (put_in_blocks α bs) ≡ put_in_blocks τ bs
blocks_after Σ ok W X O F p α ι τ fα fι same [] t = refl
blocks_after Σ ok W X O F p α ι τ fα fι same (b ∷ bs) (m, (υ, s, e), q, t) =
    ap₂ (λ U (cs : List BlockVariable). record { block = b.block; terms = U } ∷ cs)
    (ap (λ U. substitute_spine reduce ι (substitute_spine reduce α U)) e ∙ spine_after (constant_skeletons Σ) (context_skeletons X) (context_skeletons O) (context_skeletons F) α ι τ fα fι same b.block.some υ (typed_substitution_by_skeletons Σ ok b.block.some X υ s) ∙ sym (ap (substitute_spine reduce τ) e))
    (blocks_after Σ ok W X O F p α ι τ fα fι same bs t)

pub answer_keeps_own_terms : AnswerKeepsOwnTerms
answer_keeps_own_terms Σ ok first W X O F p bs t α sα ι sι τ same v A a =
    let q : put_in_blocks ι (put_in_blocks α bs) ≡ put_in_blocks τ bs = blocks_after Σ ok W X O F p α ι τ (typed_substitution_by_skeletons Σ ok X O α sα) (typed_substitution_by_skeletons Σ ok O F ι sι) (λ i u k. let (B, g, e) = skeleton_has_variable X i u k in same i B g) bs t in
    type_substituted (own_terms first (put_in_blocks α bs)) (own_terms first (put_in_blocks τ bs)) ι A (λ c. ap (λ ds. own_terms first ds c) (sym q) ∙ put_in_own first (put_in_blocks α bs) ι c) v a
