-- A typed case is typed with one more block variable.
use Rattle.std.proofs.Common.{◌≡◌, ℕ, zero, suc, List, [], ◌∷◌, ◌++◌, length, ◌+◌, Option, Some, ◌⊎◌, inl, inr, refl, sym, ap, ◌∙◌, subst, arith}
use Rattle.lf.specs.Syntax.{variable, Term, Spine, nil, LfType, skeleton, weaken, rename, rename_spine, rename_type}
use Rattle.lf.specs.Substitution.{Image, keep, put, rename_image, substitute_type, reduce}
use Rattle.lf.specs.AtOnce.{shift_by}
use Rattle.lf.specs.Eta.{add_last, eta_long}
use Rattle.lf.specs.Typing.{Signature, TypeAt, ImageHasType, IsTypedRenaming, HasType, IsType, IsContext, IsSignature}
use Rattle.lf.specs.Variables.{onto}
use Rattle.lf.specs.Subordination.{Block, Member, AreTypedBlocks}
use Rattle.lf.proofs.Growth.{growth_keeps_typing, growth_keeps_types}
use Rattle.lf.proofs.Renaming.{reduction_is_natural}
use Rattle.lf.proofs.TypeLaws.{skeleton_renamed, skeleton_substituted, substitute_identity_type, rename_substituted_type, renamings_compose_type}
use Rattle.lf.proofs.Weakening.{renaming_keeps_typing, renaming_keeps_types, declared_is_type}
use Rattle.lf_unification.specs.Offering.{local_arguments}
use Rattle.lf_cases.specs.Case.{as_term}
use Rattle.lf_cases.proofs.LongValues.{term_typed}
use Rattle.lf_cases.proofs.Raised.{rename_identity_type}
use Rattle.lf_coverage.proofs.Forms.{far_type, near_type}
use Rattle.lf_coverage.proofs.ItemsContext.{outer_context}
use Rattle.lf_numbered.specs.EntryConstants.{with_entries, IsFreeFrom}
use Rattle.lf_numbered.specs.NewBlock.{with_new_block, NewBlockIsTyped}
use Rattle.lf_numbered.specs.NumberedCase.{NumberedCase, some_spine, AreTypedBlockVariables, AreTypedVariables}
use Rattle.lf_numbered.specs.OwnTerms.{BlockVariable, blocks_of, own_terms, OnOwnTerms, SpineOnOwnTerms, TypeOnOwnTerms, rename_blocks}
use Rattle.lf_numbered.proofs.EntrySignature.{grown_contexts, with_entries_is_signature, entries_kept, earlier_kept}
use Rattle.lf_numbered.proofs.EntryValues.{some_own}
use Rattle.lf_numbered.proofs.NumberingBlocks.{blocks_renamed}
use Rattle.lf_numbered.proofs.NumberedTyped.{own_some, put_old_type, renamed_terms, blocks_end, member_end, rename_as_term, rename_some}
use Rattle.lf_numbered.proofs.OwnLong.{variable_own as own_long}
use Rattle.lf_numbered.proofs.NumberedTypedFree.{among_worlds, old_own}
use Rattle.lf_numbered.proofs.OwnTerms.{rename_own, own_renamed, type_renamed, own_agrees, type_agrees, own_stays}
use mathlib.Core.Path.{fun_ext}

-- A variable of both is one of the new ones, or an old one.
at_either : (O X : List LfType) (i : ℕ) (A : LfType) → TypeAt (onto O X) i A → TypeAt O i A ⊎ ((j : ℕ) × (D : LfType) × TypeAt X j D × (A ≡ rename_type (shift_by (length O)) D))
at_either [] X i A g = inr (i, A, g, sym (ap (λ ρ. rename_type ρ A) (fun_ext none) ∙ rename_identity_type A))
  where
    none : (i : ℕ) → i + 0 ≡ i
    none i = omega arith
at_either (B ∷ O) X zero A e = inl e
at_either (B ∷ O) X (suc i) A (D, g, e) = by (at_either O X i D g)
  where
    next : (n i : ℕ) → suc (i + n) ≡ i + suc n
    next n i = omega arith

    by : TypeAt O i D ⊎ ((j : ℕ) × (F : LfType) × TypeAt X j F × (D ≡ rename_type (shift_by (length O)) F)) → TypeAt (B ∷ O) (suc i) A ⊎ ((j : ℕ) × (F : LfType) × TypeAt X j F × (A ≡ rename_type (shift_by (suc (length O))) F))
    by (inl h) = inl (D, h, e)
    by (inr (j, F, h, q)) = inr (j, F, h, e ∙ ap weaken q ∙ renamings_compose_type suc (shift_by (length O)) F ∙ ap (λ ρ. rename_type ρ F) (fun_ext (next (length O))))

-- the new variables as values
pub locals_are : (O : List LfType) → local_arguments O ≡ some_spine O keep
locals_are O = moved O
  where
    moved : (O : List LfType) → local_arguments O ≡ some_spine O keep
    moved [] = refl
    moved (A ∷ O) = ap (λ S. add_last S (eta_long (skeleton A) (variable zero))) (ap (rename_spine suc) (moved O) ∙ rename_some suc O keep)

module _ (Σ : Signature) (ok : IsSignature Σ) (W : List Block) (typed : AreTypedBlocks Σ W) (first : ℕ) (free : IsFreeFrom Σ first) (C : NumberedCase) (tv : AreTypedVariables Σ first W C) (B : Block) (member : Member B W) where
  abbrev bs : List BlockVariable
  bs = C.blocks

  abbrev X : List LfType
  X = C.variables

  abbrev ρ : ℕ → ℕ
  ρ = shift_by (length B.some)

  abbrev moved : List BlockVariable
  moved = rename_blocks (shift_by (length B.some)) C.blocks

  abbrev new : BlockVariable
  new = record { block = B; terms = local_arguments B.some }

  abbrev Σ₁ : Signature
  Σ₁ = with_entries Σ first (blocks_of C.blocks)

  abbrev Bs₂ : List Block
  Bs₂ = blocks_of (rename_blocks (shift_by (length B.some)) C.blocks ++ record { block = B; terms = local_arguments B.some } ∷ [])

  abbrev Σ₂ : Signature
  Σ₂ = with_entries Σ first Bs₂

  abbrev o : ℕ → Option Spine
  o = own_terms first C.blocks

  abbrev o₂ : ℕ → Option Spine
  o₂ = own_terms first (rename_blocks (shift_by (length B.some)) C.blocks ++ record { block = B; terms = local_arguments B.some } ∷ [])

  abbrev Y : List LfType
  Y = onto B.some C.variables

  blocks_are : Bs₂ ≡ blocks_of bs ++ B ∷ []
  blocks_are = blocks_end moved new ∙ ap (λ Ds. Ds ++ B ∷ []) (blocks_renamed ρ bs)

  in_worlds : (D : Block) → Member D (blocks_of bs) → Member D W
  in_worlds D i = among_worlds Σ ok W typed first free Σ₁ X o bs tv.blocks D i

  ok₁ : IsSignature Σ₁
  ok₁ = with_entries_is_signature Σ ok first free (blocks_of bs) (λ D i. typed D (in_worlds D i))

  ok₂ : IsSignature Σ₂
  ok₂ = with_entries_is_signature Σ ok first free Bs₂ (λ D i. at D (member_end (blocks_of bs) B D (subst (Member D) blocks_are i)))
    where
      at : (D : Block) → Member D (blocks_of bs) ⊎ (D ≡ B) → IsContext Σ (onto D.entries D.some)
      at D (inl i) = typed D (in_worlds D i)
      at D (inr e) = subst (λ F. IsContext Σ (onto F.entries F.some)) (sym e) (typed B member)

  kept : (c : ℕ) (A : LfType) → Σ₁.types c ≡ Some A → Σ₂.types c ≡ Some A
  kept c A e = subst (λ Ds. (with_entries Σ first Ds).types c ≡ Some A) (sym blocks_are) (earlier_kept Σ first (blocks_of bs) (B ∷ []) c A e)

  some_context : IsContext Σ B.some
  some_context = outer_context Σ B.entries B.some (typed B member)

  X₂ : IsContext Σ₂ X
  X₂ = grown_contexts Σ₁ Σ₂ kept (λ a K e. e) X tv.variables

  front_context : (O : List LfType) → IsContext Σ O → IsContext Σ₂ (onto O X)
  front_context [] c = X₂
  front_context (A ∷ O) (c, t) = (front_context O c, subst (IsType Σ₂ (onto O X)) (rename_identity_type A) (renaming_keeps_types Σ₂ ok₂ O (onto O X) (λ i. i) A (λ i D g. subst (TypeAt (onto O X) i) (sym (rename_identity_type D)) (near_type O X i D g)) (growth_keeps_types Σ Σ₂ (entries_kept Σ first Bs₂) (λ a K e. e) O A t)))

  renames : IsTypedRenaming X Y ρ
  renames i A g = far_type B.some X i A g

  -- what was on own terms is so, moved
  stays : (c : ℕ) (A : LfType) → Σ₁.types c ≡ Some A → o₂ c ≡ own_terms first moved c
  stays c A e = own_stays Σ first free moved (new ∷ []) c A (subst (λ Ds. (with_entries Σ first Ds).types c ≡ Some A) (sym (blocks_renamed ρ bs)) e)

  own_moves : (c : ℕ) → own_terms first moved c ≡ rename_own ρ (own_terms first bs c)
  own_moves c = renamed_terms first ρ bs c

  term_own : (M : Term) (A : LfType) → HasType Σ₁ X M A → OnOwnTerms o M → OnOwnTerms o₂ (rename ρ M)
  term_own M A m h = own_agrees Σ₁ (own_terms first moved) o₂ stays Y (rename ρ M) (rename_type ρ A) (renaming_keeps_typing Σ₁ ok₁ X Y ρ M A renames m) (own_renamed o (own_terms first moved) ρ M own_moves h)

  type_own : (A : LfType) → IsType Σ₁ X A → TypeOnOwnTerms o A → TypeOnOwnTerms o₂ (rename_type ρ A)
  type_own A t h = type_agrees Σ₁ (own_terms first moved) o₂ stays Y (rename_type ρ A) (renaming_keeps_types Σ₁ ok₁ X Y ρ A renames t) (type_renamed o (own_terms first moved) ρ A own_moves h)

  own_types : (i : ℕ) (A : LfType) → TypeAt Y i A → TypeOnOwnTerms o₂ A
  own_types i A g = by (at_either B.some X i A g)
    where
      by : TypeAt B.some i A ⊎ ((j : ℕ) × (D : LfType) × TypeAt X j D × (A ≡ rename_type (shift_by (length B.some)) D)) → TypeOnOwnTerms o₂ A
      by (inl h) = subst (TypeOnOwnTerms o₂) (substitute_identity_type reduce A) (put_old_type Σ B.some o₂ keep A (old_own Σ ok W typed first free (moved ++ new ∷ [])) (λ j D k. tt) (declared_is_type Σ ok B.some i A some_context h))
      by (inr (j, D, h, e)) = subst (TypeOnOwnTerms o₂) (sym e) (type_own D (declared_is_type Σ₁ ok₁ X j D tv.variables h) (tv.on_own_terms j D h))

  image_moved : (y : Image) (A : LfType) → ImageHasType Σ₁ X y A → ImageHasType Σ₂ Y (rename_image ρ y) (rename_type ρ A)
  image_moved (keep j) A g = renames j A g
  image_moved (put a N) A (e, n) = (skeleton_renamed ρ A ∙ e, renaming_keeps_typing Σ₂ ok₂ X Y ρ N A renames (growth_keeps_typing Σ₁ Σ₂ kept (λ b K q. q) X N A n))

  old_blocks : (ds : List BlockVariable) → AreTypedBlockVariables Σ₁ W X o ds → AreTypedBlockVariables Σ₂ W Y o₂ (rename_blocks ρ ds ++ new ∷ [])
  old_blocks [] h = (
    member,
    (keep, λ i A g. subst (TypeAt Y i) (sym (substitute_identity_type reduce A)) (near_type B.some X i A g), locals_are B.some),
    subst (SpineOnOwnTerms o₂) (sym (locals_are B.some)) (own_some o₂ B.some keep (λ i A g. own_long o₂ (skeleton A) i nil tt)),
    tt,
  )
  old_blocks (d ∷ ds) (i, (υ, u, e), p, h) = (
    i,
    (
      λ j. rename_image ρ (υ j),
      λ j A g. subst (ImageHasType Σ₂ Y (rename_image ρ (υ j))) (rename_substituted_type reduce reduction_is_natural ρ υ A) (image_moved (υ j) (substitute_type reduce υ A) (u j A g)),
      ap (rename_spine ρ) e ∙ rename_some ρ d.block.some υ,
    ),
    subst (SpineOnOwnTerms o₂) (sym (ap (rename_spine ρ) e ∙ rename_some ρ d.block.some υ)) (own_some o₂ d.block.some (λ j. rename_image ρ (υ j)) (λ j A g. subst (OnOwnTerms o₂) (rename_as_term ρ (skeleton A) (υ j)) (term_own (as_term (skeleton A) (υ j)) (substitute_type reduce υ A) (term_typed Σ₁ ok₁ X tv.variables (skeleton A) (υ j) (substitute_type reduce υ A) (skeleton_substituted reduce υ A) (u j A g)) (some_own o d.block.some υ (subst (SpineOnOwnTerms o) e p) j A g)))),
    old_blocks ds h,
  )

  typed_with : AreTypedVariables Σ first W (with_new_block B C)
  typed_with = record { variables = front_context B.some some_context; on_own_terms = own_types; blocks = old_blocks bs tv.blocks }

pub new_block_is_typed : NewBlockIsTyped
new_block_is_typed Σ ok W typed first free C tv B member = typed_with Σ ok W typed first free C tv B member
