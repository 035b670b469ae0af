-- The numbered form of a case with typed items has typed variables, on own terms.
use Rattle.std.proofs.Common.{◌≡◌, ℕ, zero, suc, List, [], ◌∷◌, ◌++◌, length, ◌+◌, Option, Some, ◌⊎◌, inl, inr, refl, sym, ap, ◌∙◌, subst, arith}
use Rattle.lf.specs.Syntax.{constant, Term, Spine, nil, LfType, skeleton}
use Rattle.lf.specs.Substitution.{Image, keep, put, substitute_image, substitute_type, reduce, after}
use Rattle.lf.specs.Eta.{eta_expand}
use Rattle.lf.specs.SkeletonTyping.{SubstitutionBySkeletons}
use Rattle.lf.specs.Skeletons.{constant_skeletons, family_skeletons, context_skeletons}
use Rattle.lf.specs.Typing.{Signature, TypeAt, ImageHasType, IsTypedSubstitution, SpineType, IsType, IsContext, IsSignature}
use Rattle.lf.specs.Variables.{onto, everything, Values}
use Rattle.lf.specs.Subordination.{Block, Member, AreTypedBlocks}
use Rattle.lf.specs.Worlds.{lift_over, instance}
use Rattle.lf.proofs.EtaTyping.{eta_expand_has_type}
use Rattle.lf.proofs.Regular.{typed_substitutions_compose}
use Rattle.lf.proofs.SkeletonTypes.{substitutions_compose_type}
use Rattle.lf.proofs.Substitution.{TypedSubstitution, skeleton_context_of, substitution_keeps_types, typed_substitution_by_skeletons}
use Rattle.lf.proofs.ToSkeletons.{type_by_skeletons}
use Rattle.lf.proofs.TypeLaws.{skeleton_substituted, substitute_identity_type}
use Rattle.lf.proofs.Weakening.{declared_is_type}
use Rattle.lf_unification.specs.Offering.{pi_over, local_arguments}
use Rattle.lf_cases.specs.Cover.{place_of}
use Rattle.lf_cases.specs.Case.{Item, free_variable, block_variable, items_context, as_term}
use Rattle.lf_cases.specs.Missing.{AreTypedItems}
use Rattle.lf_cases.proofs.BlockEntries.{drop_typed}
use Rattle.lf_cases.proofs.LongValues.{term_typed}
use Rattle.lf_cases.proofs.OutputItems.{lifted}
use Rattle.lf_coverage.proofs.GroundTyped.{front_typed}
use Rattle.lf_coverage.proofs.ItemsContext.{items_are_context, outer_context}
use Rattle.lf_numbered.specs.EntryConstants.{entry_constant, entry_images, entry_constant_type, entry_type, with_entries, IsFreeFrom}
use Rattle.lf_numbered.specs.EntryLaws.{NumberedIsTyped}
use Rattle.lf_numbered.specs.NumberedCase.{AreTypedBlockVariables}
use Rattle.lf_numbered.specs.Numbering.{entries_of, own_spine, numbering}
use Rattle.lf_numbered.specs.OwnTerms.{BlockVariable, blocks_of, terms_at, terms_of_entry, own_terms, BeginsWith, SpineOnOwnTerms, ImageOnOwnTerms}
use Rattle.lf_numbered.proofs.EntryPlaces.{whole, Rest, rest_next}
use Rattle.lf_numbered.proofs.EntrySignature.{else_second, locals_typed, grown_contexts, grown_image, with_entries_is_signature, entries_kept, earlier_kept}
use Rattle.lf_numbered.proofs.EntryValues.{some_own, put_locals, after_entries, some_typed}
use Rattle.lf_numbered.proofs.NumberedTypedFree.{IsTypedNumbering, among_worlds, old_own, more, more_type, ok₁, free_typed}
use Rattle.lf_numbered.proofs.NumberingBlocks.{entry_behind}
pub use Rattle.lf_numbered.proofs.OwnForms.{append_nothing, images_of_instance, own_some, put_old_type, renamed_terms, blocks_end, member_end, rename_as_term, rename_some}
use Rattle.lf_numbered.proofs.OwnForms.{own_as_term, put_old, last_terms}
use Rattle.lf_numbered.proofs.OwnLong.{constant_own as own_long_constant}
use Rattle.lf_numbered.proofs.OwnTerms.{own_agrees, type_agrees, own_stays, entry_from}
use mathlib.Core.Path.{fun_ext}

module _ (Σ : Signature) (ok : IsSignature Σ) (W : List Block) (typed : AreTypedBlocks Σ W) (first : ℕ) (free : IsFreeFrom Σ first) where
  abbrev own : List BlockVariable → ℕ → Option Spine
  own bs = own_terms first bs

  module _ (I : List Item) (a : AreTypedItems Σ W I) (r : IsTypedNumbering Σ ok W typed first free I) where
    abbrev bs : List BlockVariable
    bs = (numbering first I).blocks

    abbrev X : List LfType
    X = (numbering first I).variables

    abbrev C : List LfType
    C = items_context I

    abbrev δ : ℕ → Image
    δ = (numbering first I).images

    abbrev Σ₁ : Signature
    Σ₁ = with_entries Σ first (blocks_of (numbering first I).blocks)

    -- One more block variable
    module _ (B : Block) (υ : ℕ → Image) (member : Member B W) (v : Values Σ everything B.some (items_context I) υ) where
      abbrev U : Spine
      U = own_spine B υ (numbering first I)

      abbrev b : BlockVariable
      b = record { block = B; terms = own_spine B υ (numbering first I) }

      abbrev m : ℕ
      m = first + entries_of (blocks_of (numbering first I).blocks)

      abbrev Bs₂ : List Block
      Bs₂ = blocks_of ((numbering first I).blocks ++ record { block = B; terms = own_spine B υ (numbering first I) } ∷ [])

      abbrev Σ₂ : Signature
      Σ₂ = with_entries Σ first Bs₂

      abbrev o₂ : ℕ → Option Spine
      o₂ = own_terms first ((numbering first I).blocks ++ record { block = B; terms = own_spine B υ (numbering first I) } ∷ [])

      ok₂ : IsSignature Σ₂
      ok₂ = with_entries_is_signature Σ ok first free Bs₂ (λ D i. at D (member_end (blocks_of bs) B D (subst (Member D) (blocks_end bs b) i)))
        where
          at : (D : Block) → Member D (blocks_of bs) ⊎ (D ≡ B) → IsContext Σ (onto D.entries D.some)
          at D (inl i) = typed D (among_worlds Σ ok W typed first free Σ₁ X (own bs) bs r.blocks D i)
          at D (inr e) = subst (λ F. IsContext Σ (onto F.entries F.some)) (sym e) (typed B member)

      kept : (c : ℕ) (A : LfType) → Σ₁.types c ≡ Some A → Σ₂.types c ≡ Some A
      kept c A e = subst (λ Ds. (with_entries Σ first Ds).types c ≡ Some A) (sym (blocks_end bs b)) (earlier_kept Σ first (blocks_of bs) (B ∷ []) c A e)

      context₂ : IsContext Σ₂ X
      context₂ = grown_contexts Σ₁ Σ₂ kept (λ c K q. q) X r.context

      items₂ : IsContext Σ₂ C
      items₂ = more Σ ok W typed first free Bs₂ C (items_are_context Σ ok W typed I a)

      some₂ : IsContext Σ₂ B.some
      some₂ = more Σ ok W typed first free Bs₂ B.some (outer_context Σ B.entries B.some (typed B member))

      images₂ : IsTypedSubstitution Σ₂ C X δ
      images₂ i A g = grown_image Σ₁ Σ₂ kept (λ c K q. q) X (δ i) (substitute_type reduce δ A) (r.images i A g)

      values₂ : IsTypedSubstitution Σ₂ B.some C υ
      values₂ i A g = grown_image Σ Σ₂ (entries_kept Σ first Bs₂) (λ c K q. q) C (υ i) (substitute_type reduce υ A) (v.typed i A g refl)

      from_images : TypedSubstitution Σ₂ ok₂ C X δ
      from_images = record { typed = images₂; source_skeletons = skeleton_context_of Σ₂ ok₂ C items₂; target_skeletons = skeleton_context_of Σ₂ ok₂ X context₂ }

      terms₂ : TypedSubstitution Σ₂ ok₂ B.some X (after δ υ)
      terms₂ = typed_substitutions_compose Σ₂ ok₂ B.some C X υ δ some₂ items₂ (record { typed = values₂; source_skeletons = skeleton_context_of Σ₂ ok₂ B.some some₂; target_skeletons = skeleton_context_of Σ₂ ok₂ C items₂ }) from_images

      -- what was on own terms stays so
      stays : (c : ℕ) (A : LfType) → Σ₁.types c ≡ Some A → o₂ c ≡ own_terms first bs c
      stays c A e = own_stays Σ first free bs (b ∷ []) c A e

      image_stays : (y : Image) (A : LfType) → ImageHasType Σ₁ X y A → ImageOnOwnTerms (own bs) y → ImageOnOwnTerms o₂ y
      image_stays (keep j) A g h = tt
      image_stays (put c N) A (e, n) h = own_agrees Σ₁ (own bs) o₂ stays X N A n h

      own₂ : (i : ℕ) (A : LfType) → TypeAt C i A → ImageOnOwnTerms o₂ (δ i)
      own₂ i A g = image_stays (δ i) (substitute_type reduce δ A) (r.images i A g) (r.own_images i A g)

      value_own : (y : Image) (A : LfType) → ImageHasType Σ C y A → ImageOnOwnTerms o₂ (substitute_image δ y)
      value_own (keep j) A g = own₂ j A g
      value_own (put c N) A (e, n) = put_old Σ C o₂ δ N A (old_own Σ ok W typed first free (bs ++ b ∷ [])) own₂ n

      terms_own : SpineOnOwnTerms o₂ U
      terms_own = own_some o₂ B.some (after δ υ) (λ i A g. own_as_term o₂ (skeleton A) (after δ υ i) (value_own (υ i) (substitute_type reduce υ A) (v.typed i A g refl)))

      -- the constants of the entries
      found : (later : List LfType) (E : LfType) (es : List LfType) → onto later (E ∷ es) ≡ B.entries → entry_constant zero first Bs₂ (m + length es) ≡ Some (record { number = zero + length (blocks_of bs); block = B; from = m; place = place_of later; entry = E; before = es })
      found later E es e = ap (λ Ds. entry_constant zero first Ds (m + length es)) (blocks_end bs b) ∙ entry_behind zero first (blocks_of bs) B [] later E es e

      left : (k : ℕ) → zero + k ≡ k
      left k = omega arith

      own_of : (later : List LfType) (E : LfType) (es : List LfType) → onto later (E ∷ es) ≡ B.entries → o₂ (m + length es) ≡ Some U
      own_of later E es e = ap (terms_of_entry (bs ++ b ∷ [])) (found later E es e) ∙ ap (terms_at (bs ++ b ∷ [])) (left (length (blocks_of bs))) ∙ last_terms bs b

      constant_in : (later : List LfType) (E : LfType) (es : List LfType) → onto later (E ∷ es) ≡ B.entries → Σ₂.types (m + length es) ≡ Some (entry_constant_type m B.some es E)
      constant_in later E es e = else_second (Σ.types (m + length es)) (entry_type (entry_constant zero first Bs₂ (m + length es))) (Some (entry_constant_type m B.some es E)) (free.types_free (m + length es) (entry_from zero first Bs₂ (m + length es) (record { number = zero + length (blocks_of bs); block = B; from = m; place = place_of later; entry = E; before = es }) (found later E es e))) (ap entry_type (found later E es e))

      entry_typed : (later : List LfType) (D : LfType) (ds : List LfType) → onto later (D ∷ ds) ≡ B.entries → IsContext Σ (onto ds B.some) × IsType Σ (onto ds B.some) D
      entry_typed later D ds e = drop_typed Σ later D (onto ds B.some) (subst (IsContext Σ) (whole B later D ds e) (typed B member))

      -- the entries on the `some` variables
      locals_fit : (later es : List LfType) → Rest B later es → IsContext Σ (onto es B.some) → IsTypedSubstitution Σ₂ (onto es B.some) B.some (entry_images m (local_arguments B.some) es keep)
      locals_fit later [] e c = λ i A g. subst (TypeAt B.some i) (sym (substitute_identity_type reduce A)) g
      locals_fit later (D ∷ ds) e (c, t) =
          let ι : ℕ → Image = entry_images m (local_arguments B.some) ds keep in
          let s : IsTypedSubstitution Σ₂ (onto ds B.some) B.some ι = locals_fit (onto later (D ∷ [])) ds (rest_next B later D ds e) c in
          let T : LfType = substitute_type reduce ι D in
          let t₂ : IsType Σ₂ B.some T = substitution_keeps_types Σ₂ ok₂ (onto ds B.some) B.some ι D (record { typed = s; source_skeletons = skeleton_context_of Σ₂ ok₂ (onto ds B.some) (more Σ ok W typed first free Bs₂ (onto ds B.some) c); target_skeletons = skeleton_context_of Σ₂ ok₂ B.some some₂ }) (more_type Σ ok W typed first free Bs₂ (onto ds B.some) D t) in
          let N : Term = eta_expand (skeleton D) (constant (m + length ds)) (local_arguments B.some) in
          front_typed Σ₂ ok₂ [] (λ F i. absurd i) (onto ds B.some) B.some D (put (skeleton D) N) ι s (skeleton_substituted reduce ι D, eta_expand_has_type Σ₂ ok₂ (skeleton D) B.some (constant (m + length ds)) (local_arguments B.some) (pi_over B.some T) T some₂ (skeleton_substituted reduce ι D) t₂ (constant_in later D ds (e D ds refl)) (locals_typed Σ₂ ok₂ B.some T some₂ t₂))

      -- and on the terms
      entries_fit : (later es : List LfType) → Rest B later es → IsTypedSubstitution Σ₂ (onto (instance es υ) C) X (entry_images m U es δ)
      entries_fit later [] e = images₂
      entries_fit later (D ∷ ds) e =
          let q : onto later (D ∷ ds) ≡ B.entries = e D ds refl in
          let (c, t) = entry_typed later D ds q in
          let κ = constant_skeletons Σ₂ in
          let φ = family_skeletons Σ₂ in
          let s : IsTypedSubstitution Σ₂ (onto (instance ds υ) C) X (entry_images m U ds δ) = entries_fit (onto later (D ∷ [])) ds (rest_next B later D ds e) in
          let ι : ℕ → Image = entry_images m (local_arguments B.some) ds keep in
          let l : IsTypedSubstitution Σ₂ (onto ds B.some) B.some ι = locals_fit (onto later (D ∷ [])) ds (rest_next B later D ds e) c in
          let t₂ : IsType Σ₂ (onto ds B.some) D = more_type Σ ok W typed first free Bs₂ (onto ds B.some) D t in
          let k = type_by_skeletons Σ₂ (onto ds B.some) D t₂ in
          let T : LfType = substitute_type reduce ι D in
          let tT : IsType Σ₂ B.some T = substitution_keeps_types Σ₂ ok₂ (onto ds B.some) B.some ι D (record { typed = l; source_skeletons = skeleton_context_of Σ₂ ok₂ (onto ds B.some) (more Σ ok W typed first free Bs₂ (onto ds B.some) c); target_skeletons = skeleton_context_of Σ₂ ok₂ B.some some₂ }) t₂ in
          let Z : LfType = substitute_type reduce (entry_images m U ds δ) (substitute_type reduce (lift_over ds υ) D) in
          let kω : SubstitutionBySkeletons κ (context_skeletons B.some) (context_skeletons X) (after δ υ) = typed_substitution_by_skeletons Σ₂ ok₂ B.some X (after δ υ) terms₂.typed in
          let one : substitute_type reduce (after δ υ) T ≡ substitute_type reduce (entry_images m U ds (after δ υ)) D =
          substitutions_compose_type φ κ (context_skeletons (onto ds B.some)) (context_skeletons B.some) (context_skeletons X) ι (after δ υ) D (typed_substitution_by_skeletons Σ₂ ok₂ (onto ds B.some) B.some ι l) kω k
          ∙ ap (λ ρ. substitute_type reduce ρ D) (fun_ext (after_entries m (local_arguments B.some) U ds keep (after δ υ) (put_locals κ B.some (context_skeletons X) (after δ υ) kω))) in
          let two : Z ≡ substitute_type reduce (entry_images m U ds (after δ υ)) D =
          substitutions_compose_type φ κ (context_skeletons (onto ds B.some)) (context_skeletons (onto (instance ds υ) C)) (context_skeletons X) (lift_over ds υ) (entry_images m U ds δ) D (lifted Σ₂ ds B.some C υ (typed_substitution_by_skeletons Σ₂ ok₂ B.some C υ values₂)) (typed_substitution_by_skeletons Σ₂ ok₂ (onto (instance ds υ) C) X (entry_images m U ds δ) s) k
          ∙ ap (λ ρ. substitute_type reduce ρ D) (fun_ext (images_of_instance m U ds υ δ)) in
          let tZ : IsType Σ₂ X Z = subst (IsType Σ₂ X) (one ∙ sym two) (substitution_keeps_types Σ₂ ok₂ B.some X (after δ υ) T terms₂ tT) in
          let sZ : SpineType Σ₂ X U (entry_constant_type m B.some ds D) Z = subst (SpineType Σ₂ X U (entry_constant_type m B.some ds D)) (one ∙ sym two) (some_typed Σ₂ ok₂ X context₂ B.some T (after δ υ) some₂ tT terms₂.typed) in
          let kZ : skeleton Z ≡ skeleton D = skeleton_substituted reduce (entry_images m U ds δ) (substitute_type reduce (lift_over ds υ) D) ∙ skeleton_substituted reduce (lift_over ds υ) D in
          let N : Term = eta_expand (skeleton D) (constant (m + length ds)) U in
          front_typed Σ₂ ok₂ [] (λ F i. absurd i) (onto (instance ds υ) C) X (substitute_type reduce (lift_over ds υ) D) (put (skeleton D) N) (entry_images m U ds δ) s (kZ, eta_expand_has_type Σ₂ ok₂ (skeleton D) X (constant (m + length ds)) U (entry_constant_type m B.some ds D) Z context₂ kZ tZ (constant_in later D ds q) sZ)

      entries_own : (later es : List LfType) → Rest B later es → (i : ℕ) (A : LfType) → TypeAt (onto (instance es υ) C) i A → ImageOnOwnTerms o₂ (entry_images m U es δ i)
      entries_own later [] e i A g = own₂ i A g
      entries_own later (D ∷ ds) e zero A g = own_long_constant o₂ (skeleton D) (m + length ds) U (subst (λ u. BeginsWith u U) (sym (own_of later D ds (e D ds refl))) (nil, append_nothing U)) terms_own
      entries_own later (D ∷ ds) e (suc i) A (F, g, q) = entries_own (onto later (D ∷ [])) ds (rest_next B later D ds e) i F g

      old_blocks : (ds : List BlockVariable) → AreTypedBlockVariables Σ₁ W X (own bs) ds → AreTypedBlockVariables Σ₂ W X o₂ (ds ++ b ∷ [])
      old_blocks [] h = (member, (after δ υ, terms₂.typed, refl), terms_own, tt)
      old_blocks (d ∷ ds) (i, (ω, u, e), p, h) = (
        i,
        (ω, λ j A g. grown_image Σ₁ Σ₂ kept (λ c K q. q) X (ω j) (substitute_type reduce ω A) (u j A g), e),
        subst (SpineOnOwnTerms o₂) (sym e) (own_some o₂ d.block.some ω (λ j A g. own_agrees Σ₁ (own bs) o₂ stays X (as_term (skeleton A) (ω j)) (substitute_type reduce ω A) (term_typed Σ₁ (ok₁ Σ ok W typed first free I a r) X r.context (skeleton A) (ω j) (substitute_type reduce ω A) (skeleton_substituted reduce ω A) (u j A g)) (some_own (own bs) d.block.some ω (subst (SpineOnOwnTerms (own bs)) e p) j A g))),
        old_blocks ds h,
      )

      block_typed : IsTypedNumbering Σ ok W typed first free (block_variable B υ ∷ I)
      block_typed = record {
        context = context₂;
        images = entries_fit [] B.entries (λ D ds q. sym q);
        own_images = entries_own [] B.entries (λ D ds q. sym q);
        own_types = λ i A g. type_agrees Σ₁ (own bs) o₂ stays X A (declared_is_type Σ₁ (ok₁ Σ ok W typed first free I a r) X i A r.context g) (r.own_types i A g);
        blocks = old_blocks bs r.blocks;
      }

  pub typed_numbering : (I : List Item) → AreTypedItems Σ W I → IsTypedNumbering Σ ok W typed first free I
  typed_numbering [] a = record { context = tt; images = λ i A g. absurd g; own_images = λ i A g. absurd g; own_types = λ i A g. absurd g; blocks = tt }
  typed_numbering (free_variable A ∷ I) (a, t) = free_typed Σ ok W typed first free I a (typed_numbering I a) A t
  typed_numbering (block_variable B υ ∷ I) (a, m, v) = block_typed I a (typed_numbering I a) B υ m v

pub numbered_is_typed : NumberedIsTyped
numbered_is_typed Σ ok W typed first free C a =
    let r = typed_numbering Σ ok W typed first free C.items a in
    record { variables = r.context; on_own_terms = r.own_types; blocks = r.blocks }
