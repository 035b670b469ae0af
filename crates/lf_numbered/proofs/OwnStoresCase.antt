-- Typed values on own terms, put into what a typed case by number has, keep it typed and on own terms.
use Rattle.std.proofs.Common.{◌≡◌, ℕ, zero, suc, List, [], ◌∷◌, Option, Some, None, ap, ◌∙◌}
use Rattle.lf.specs.Syntax.{Term, Spine, LfType, Skeleton}
use Rattle.lf.specs.Substitution.{Image, substitute_spine, reduce, after}
use Rattle.lf.specs.SkeletonTyping.{SubstitutionBySkeletons}
use Rattle.lf.specs.Skeletons.{constant_skeletons, context_skeletons}
use Rattle.lf.specs.Typing.{Signature, IsTypedSubstitution, IsContext, IsSignature}
use Rattle.lf.specs.Variables.{onto}
use Rattle.lf.specs.Subordination.{Block, Member}
use Rattle.lf.specs.Worlds.{lift_over, instance}
use Rattle.lf.proofs.Regular.{typed_substitutions_compose}
use Rattle.lf.proofs.SkeletonTyping.{substitution_keeps_skeletons}
use Rattle.lf.proofs.Substitution.{TypedSubstitution, skeleton_context_of, lifted_substitution_typed, substitution_keeps_types, typed_substitution_by_skeletons}
use Rattle.lf.proofs.ToSkeletons.{type_by_skeletons}
use Rattle.lf_cases.specs.Missing.{put_in}
use Rattle.lf_coverage.specs.Heads.{HaveSkeletons}
use Rattle.lf_numbered.specs.NumberedCase.{AreTypedBlockVariables}
use Rattle.lf_numbered.specs.OwnTerms.{BlockVariable, weaken_own, AllOnOwnTerms, ImageOnOwnTerms, put_in_blocks}
use Rattle.lf_numbered.specs.TypedNumbered.{own_over, LocalOnOwnTerms}
use Rattle.lf_numbered.proofs.EntryValues.{put_some}
use Rattle.lf_numbered.proofs.OwnTerms.{substitute_under as weaken_substituted, image_under, own_substituted, spine_substituted, substitute_own, type_substituted}

-- Values on own terms, put in under a local context
over_put : (D : List LfType) (σ : ℕ → Image) (o p : ℕ → Option Spine) → ((c : ℕ) → p c ≡ substitute_own σ (o c)) → (c : ℕ) → own_over (instance D σ) p c ≡ substitute_own (lift_over D σ) (own_over D o c)
over_put [] σ o p h c = h c
over_put (A ∷ D) σ o p h c = ap weaken_own (over_put D σ o p h c) ∙ weaken_substituted (lift_over D σ) (own_over D o c)

pub over_images : (D : List LfType) (σ : ℕ → Image) (p : ℕ → Option Spine) → ((i : ℕ) → ImageOnOwnTerms p (σ i)) → (i : ℕ) → ImageOnOwnTerms (own_over (instance D σ) p) (lift_over D σ i)
over_images [] σ p v i = v i
over_images (A ∷ D) σ p v zero = tt
over_images (A ∷ D) σ p v (suc i) = image_under (own_over (instance D σ) p) (lift_over D σ i) (over_images D σ p v i)

module _ (σ : ℕ → Image) (o p : ℕ → Option Spine) (h : (c : ℕ) → p c ≡ substitute_own σ (o c)) (v : (i : ℕ) → ImageOnOwnTerms p (σ i)) where
  pub local_put : (D : List LfType) → LocalOnOwnTerms o D → LocalOnOwnTerms p (instance D σ)
  local_put [] l = tt
  local_put (A ∷ D) (l, a) = (local_put D l, type_substituted (own_over D o) (own_over (instance D σ) p) (lift_over D σ) A (over_put D σ o p h) (over_images D σ p v) a)

  pub all_put : (D : List LfType) (Ms : List (Option Term)) → AllOnOwnTerms (own_over D o) Ms → AllOnOwnTerms (own_over (instance D σ) p) (put_in (lift_over D σ) Ms)
  all_put D [] a = tt
  all_put D (Some M ∷ Ms) (m, a) = (own_substituted (own_over D o) (own_over (instance D σ) p) (lift_over D σ) M (over_put D σ o p h) (over_images D σ p v) m, all_put D Ms a)
  all_put D (None ∷ Ms) a = all_put D Ms a

-- Typed values, put in under a local context
module _ (Σ : Signature) (ok : IsSignature Σ) (V O : List LfType) (σ : ℕ → Image) (cv : IsContext Σ V) (co : IsContext Σ O) (typed : IsTypedSubstitution Σ V O σ) where
  pub local_typed : (D : List LfType) → IsContext Σ (onto D V) → IsContext Σ (onto (instance D σ) O) × IsTypedSubstitution Σ (onto D V) (onto (instance D σ) O) (lift_over D σ)
  local_typed [] c = (co, typed)
  local_typed (A ∷ D) (c, t) =
      let (d, s) = local_typed D c in
      let Γ : List LfType = onto D V in
      let Δ : List LfType = onto (instance D σ) O in
      let w : TypedSubstitution Σ ok (onto D V) (onto (instance D σ) O) (lift_over D σ) = record { typed = s; source_skeletons = skeleton_context_of Σ ok Γ c; target_skeletons = skeleton_context_of Σ ok Δ d } in
      ((d, substitution_keeps_types Σ ok Γ Δ (lift_over D σ) A w t), (lifted_substitution_typed Σ ok Γ Δ (lift_over D σ) A w (type_by_skeletons Σ Γ A t)).typed)

pub put_skeletons : (Σ : Signature) (Γ Δ : List Skeleton) (σ : ℕ → Image) → SubstitutionBySkeletons (constant_skeletons Σ) Γ Δ σ → (Ms : List (Option Term)) → HaveSkeletons (constant_skeletons Σ) Γ Ms → HaveSkeletons (constant_skeletons Σ) Δ (put_in σ Ms)
put_skeletons Σ Γ Δ σ s [] h = tt
put_skeletons Σ Γ Δ σ s (Some M ∷ Ms) ((t, m), h) = ((t, substitution_keeps_skeletons (constant_skeletons Σ) Γ Δ σ M t s m), put_skeletons Σ Γ Δ σ s Ms h)
put_skeletons Σ Γ Δ σ s (None ∷ Ms) h = put_skeletons Σ Γ Δ σ s Ms h

-- block variables with typed values put into their terms
module _ (Σ : Signature) (ok : IsSignature Σ) (W : List Block) (V O : List LfType) (σ : ℕ → Image) (cv : IsContext Σ V) (co : IsContext Σ O) (typed : IsTypedSubstitution Σ V O σ) (o p : ℕ → Option Spine) (h : (c : ℕ) → p c ≡ substitute_own σ (o c)) (v : (i : ℕ) → ImageOnOwnTerms p (σ i)) (context : (b : Block) → Member b W → IsContext Σ b.some) where
  pub blocks_put : (bs : List BlockVariable) → AreTypedBlockVariables Σ W V o bs → AreTypedBlockVariables Σ W O p (put_in_blocks σ bs)
  blocks_put [] t = tt
  blocks_put (b ∷ bs) (m, (υ, u, e), s, t) =
      let c : IsContext Σ b.block.some = context b.block m in
      let composed : TypedSubstitution Σ ok b.block.some O (after σ υ) = typed_substitutions_compose Σ ok b.block.some V O υ σ c cv (record { typed = u; source_skeletons = skeleton_context_of Σ ok b.block.some c; target_skeletons = skeleton_context_of Σ ok V cv }) (record { typed = typed; source_skeletons = skeleton_context_of Σ ok V cv; target_skeletons = skeleton_context_of Σ ok O co }) in (
        m,
        (after σ υ, composed.typed, ap (substitute_spine reduce σ) e ∙ put_some (constant_skeletons Σ) b.block.some (context_skeletons V) (context_skeletons O) υ σ (typed_substitution_by_skeletons Σ ok b.block.some V υ u) (typed_substitution_by_skeletons Σ ok V O σ typed)),
        spine_substituted o p σ b.terms h v s,
        blocks_put bs t,
      )
