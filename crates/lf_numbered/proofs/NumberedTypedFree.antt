-- What the numbered form of typed items is to be, and that it stays so with one more free variable.
use Rattle.std.proofs.Common.{◌≡◌, ℕ, zero, suc, List, [], ◌∷◌, Option, None, inl, inr, refl, sym, ap, ◌∙◌, subst}
use Rattle.lf.specs.Syntax.{Spine, LfType, weaken, rename_spine}
use Rattle.lf.specs.Substitution.{Image, keep, put, rename_image, lift, substitute_type, reduce}
use Rattle.lf.specs.Typing.{Signature, TypeAt, ImageHasType, IsTypedSubstitution, IsType, IsContext, IsSignature}
use Rattle.lf.specs.Subordination.{Block, Member, AreTypedBlocks}
use Rattle.lf.proofs.Growth.{growth_keeps_types}
use Rattle.lf.proofs.Renaming.{reduction_is_natural}
use Rattle.lf.proofs.Substitution.{TypedSubstitution, skeleton_context_of, lifted_substitution_typed, substitution_keeps_types}
use Rattle.lf.proofs.ToSkeletons.{type_by_skeletons}
use Rattle.lf.proofs.TypeLaws.{skeleton_renamed, rename_substituted_type}
use Rattle.lf.proofs.Weakening.{weakening_renames, renaming_keeps_typing}
use Rattle.lf_cases.specs.Case.{Item, free_variable, items_context}
use Rattle.lf_cases.specs.Missing.{AreTypedItems}
use Rattle.lf_coverage.proofs.ItemsContext.{items_are_context}
use Rattle.lf_numbered.specs.EntryConstants.{with_entries, IsFreeFrom}
use Rattle.lf_numbered.specs.NumberedCase.{AreTypedBlockVariables}
use Rattle.lf_numbered.specs.Numbering.{numbering}
use Rattle.lf_numbered.specs.OwnTerms.{BlockVariable, blocks_of, terms_of_entry, own_terms, TypeOnOwnTerms, ImageOnOwnTerms, rename_blocks}
use Rattle.lf_numbered.proofs.EntrySignature.{grown_contexts, with_entries_is_signature, entries_kept}
use Rattle.lf_numbered.proofs.NumberingBlocks.{blocks_renamed}
use Rattle.lf_numbered.proofs.OwnForms.{put_old_type, renamed_terms, rename_some}
use Rattle.lf_numbered.proofs.OwnTerms.{rename_own, own_renamed, spine_renamed, type_renamed, old_is_none}
use Rattle.lf_numbered.proofs.Reading.{IsOld}

module _ (Σ : Signature) (ok : IsSignature Σ) (W : List Block) (typed : AreTypedBlocks Σ W) (first : ℕ) (free : IsFreeFrom Σ first) where
  abbrev own : List BlockVariable → ℕ → Option Spine
  own bs = own_terms first bs

  pub record IsTypedNumbering (I : List Item) : Type 0 where
    pub context : IsContext (with_entries Σ first (blocks_of (numbering first I).blocks)) (numbering first I).variables
    pub images : IsTypedSubstitution (with_entries Σ first (blocks_of (numbering first I).blocks)) (items_context I) (numbering first I).variables (numbering first I).images
    pub own_images : (i : ℕ) (A : LfType) → TypeAt (items_context I) i A → ImageOnOwnTerms (own_terms first (numbering first I).blocks) ((numbering first I).images i)
    pub own_types : (i : ℕ) (A : LfType) → TypeAt (numbering first I).variables i A → TypeOnOwnTerms (own_terms first (numbering first I).blocks) A
    pub blocks : AreTypedBlockVariables (with_entries Σ first (blocks_of (numbering first I).blocks)) W (numbering first I).variables (own_terms first (numbering first I).blocks) (numbering first I).blocks

  pub among_worlds : (Σ₁ : Signature) (X : List LfType) (o : ℕ → Option Spine) (bs : List BlockVariable) → AreTypedBlockVariables Σ₁ W X o bs → (B : Block) → Member B (blocks_of bs) → Member B W
  among_worlds Σ₁ X o [] t B m = absurd m
  among_worlds Σ₁ X o (b ∷ bs) (m, u, p, t) B (inl e) = subst (λ D. Member D W) (sym e) m
  among_worlds Σ₁ X o (b ∷ bs) (m, u, p, t) B (inr i) = among_worlds Σ₁ X o bs t B i

  pub old_own : (bs : List BlockVariable) (c : ℕ) → IsOld Σ c → own_terms first bs c ≡ None
  old_own bs c (A, e) = ap (terms_of_entry bs) (old_is_none Σ first free (blocks_of bs) c A e)

  pub more : (Bs : List Block) (D : List LfType) → IsContext Σ D → IsContext (with_entries Σ first Bs) D
  more Bs D c = grown_contexts Σ (with_entries Σ first Bs) (entries_kept Σ first Bs) (λ b K q. q) D c

  pub more_type : (Bs : List Block) (D : List LfType) (A : LfType) → IsType Σ D A → IsType (with_entries Σ first Bs) D A
  more_type Bs D A t = growth_keeps_types Σ (with_entries Σ first Bs) (entries_kept Σ first Bs) (λ b K q. q) D A t

  module _ (I : List Item) (a : AreTypedItems Σ W I) (r : IsTypedNumbering I) where
    abbrev bs : List BlockVariable
    bs = (numbering first I).blocks

    abbrev X : List LfType
    X = (numbering first I).variables

    abbrev δ : ℕ → Image
    δ = (numbering first I).images

    abbrev Σ₁ : Signature
    Σ₁ = with_entries Σ first (blocks_of (numbering first I).blocks)

    pub ok₁ : IsSignature Σ₁
    ok₁ = with_entries_is_signature Σ ok first free (blocks_of bs) (λ B m. typed B (among_worlds Σ₁ X (own bs) bs r.blocks B m))

    -- One more free variable
    module _ (A : LfType) (t : IsType Σ (items_context I) A) where
      abbrev A' : LfType
      A' = substitute_type reduce (numbering first I).images A

      substitution : TypedSubstitution Σ₁ ok₁ (items_context I) X δ
      substitution = record { typed = r.images; source_skeletons = skeleton_context_of Σ₁ ok₁ (items_context I) (more (blocks_of bs) (items_context I) (items_are_context Σ ok W typed I a)); target_skeletons = skeleton_context_of Σ₁ ok₁ X r.context }

      t₁ : IsType Σ₁ (items_context I) A
      t₁ = more_type (blocks_of bs) (items_context I) A t

      new_type : IsType Σ₁ X A'
      new_type = substitution_keeps_types Σ₁ ok₁ (items_context I) X δ A substitution t₁

      lifted_images : IsTypedSubstitution Σ₁ (A ∷ items_context I) (A' ∷ X) (lift δ)
      lifted_images = (lifted_substitution_typed Σ₁ ok₁ (items_context I) X δ A substitution (type_by_skeletons Σ₁ (items_context I) A t₁)).typed

      own_next : (c : ℕ) → own_terms first (rename_blocks suc bs) c ≡ rename_own suc (own_terms first bs c)
      own_next c = renamed_terms first suc bs c

      image_next : (y : Image) → ImageOnOwnTerms (own bs) y → ImageOnOwnTerms (own (rename_blocks suc bs)) (rename_image suc y)
      image_next (keep j) h = tt
      image_next (put b N) h = own_renamed (own bs) (own (rename_blocks suc bs)) suc N own_next h

      image_weakened : (y : Image) (B : LfType) → ImageHasType Σ₁ X y B → ImageHasType Σ₁ (A' ∷ X) (rename_image suc y) (weaken B)
      image_weakened (keep j) B g = (B, g, refl)
      image_weakened (put b N) B (e, n) = (skeleton_renamed suc B ∙ e, renaming_keeps_typing Σ₁ ok₁ X (A' ∷ X) suc N B (weakening_renames X A') n)

      moved_blocks : (ds : List BlockVariable) → AreTypedBlockVariables Σ₁ W X (own bs) ds → AreTypedBlockVariables Σ₁ W (A' ∷ X) (own (rename_blocks suc bs)) (rename_blocks suc ds)
      moved_blocks [] h = tt
      moved_blocks (d ∷ ds) (m, (υ, u, e), p, h) = (
        m,
        (
          λ i. rename_image suc (υ i),
          λ i B g. subst (ImageHasType Σ₁ (A' ∷ X) (rename_image suc (υ i))) (rename_substituted_type reduce reduction_is_natural suc υ B) (image_weakened (υ i) (substitute_type reduce υ B) (u i B g)),
          ap (rename_spine suc) e ∙ rename_some suc d.block.some υ,
        ),
        spine_renamed (own bs) (own (rename_blocks suc bs)) suc d.terms own_next p,
        moved_blocks ds h,
      )

      pub free_typed : IsTypedNumbering (free_variable A ∷ I)
      free_typed = record {
        context = subst (λ Bs. IsContext (with_entries Σ first Bs) (A' ∷ X)) (sym (blocks_renamed suc bs)) (r.context, new_type);
        images = subst (λ Bs. IsTypedSubstitution (with_entries Σ first Bs) (A ∷ items_context I) (A' ∷ X) (lift δ)) (sym (blocks_renamed suc bs)) lifted_images;
        own_images = own_images;
        own_types = own_types;
        blocks = subst (λ Bs. AreTypedBlockVariables (with_entries Σ first Bs) W (A' ∷ X) (own (rename_blocks suc bs)) (rename_blocks suc bs)) (sym (blocks_renamed suc bs)) (moved_blocks bs r.blocks);
      }
        where
          own_images : (i : ℕ) (B : LfType) → TypeAt (A ∷ items_context I) i B → ImageOnOwnTerms (own (rename_blocks suc bs)) (lift δ i)
          own_images zero B g = tt
          own_images (suc i) B (D, g, e) = image_next (δ i) (r.own_images i D g)

          own_types : (i : ℕ) (B : LfType) → TypeAt (A' ∷ X) i B → TypeOnOwnTerms (own (rename_blocks suc bs)) B
          own_types zero B e = subst (TypeOnOwnTerms (own (rename_blocks suc bs))) (sym e) (type_renamed (own bs) (own (rename_blocks suc bs)) suc A' own_next (put_old_type Σ (items_context I) (own bs) δ A (old_own bs) r.own_images t))
          own_types (suc i) B (D, g, e) = subst (TypeOnOwnTerms (own (rename_blocks suc bs))) (sym e) (type_renamed (own bs) (own (rename_blocks suc bs)) suc D own_next (r.own_types i D g))
