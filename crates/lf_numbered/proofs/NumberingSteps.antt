-- Items and their numbered form, with one more free variable and one more block variable in front.
use Rattle.std.proofs.Common.{◌≡◌, ℕ, zero, suc, List, [], ◌∷◌, ◌++◌, length, ◌+◌, Option, Some, None, Bool, refl, sym, ap, ◌∙◌, subst, arith}
use Rattle.lf.specs.Syntax.{constant, variable, Term, Spine, nil, app, LfType, atom, Skeleton, base, arrow, skeleton, rename_spine}
use Rattle.lf.specs.Substitution.{Image, keep, put, substitute, substitute_spine, substitute_image, substitute_type, reduce, after}
use Rattle.lf.specs.AtOnce.{in_front}
use Rattle.lf.specs.Eta.{eta_expand, eta_long}
use Rattle.lf.specs.SkeletonTyping.{HeadSkeletons, SkeletonAt, TermSkeleton, ImageSkeleton, TypeBySkeletons, SubstitutionBySkeletons}
use Rattle.lf.specs.Skeletons.{constant_skeletons, family_skeletons, context_skeletons}
use Rattle.lf.specs.Typing.{Signature, TypeAt, ImageHasType, HasType, IsType, IsSignature}
use Rattle.lf.specs.Variables.{onto, everything, Values}
use Rattle.lf.specs.Subordination.{Block, AreTypedBlocks}
use Rattle.lf.specs.Worlds.{World, lift_over, instance}
use Rattle.lf.specs.Extension.{Extends}
use Rattle.lf.proofs.Agreement.{agree_on_type}
use Rattle.lf.proofs.AtOnce.{eta_long_has_skeleton}
use Rattle.lf.proofs.Composition.{substitutions_compose}
use Rattle.lf.proofs.Eta.{substitute_eta_expand}
use Rattle.lf.proofs.ExtensionTyping.{extension_keeps_typing, extension_keeps_types, extension_keeps_contexts}
use Rattle.lf.proofs.Kept.{typed_uses_type}
use Rattle.lf.proofs.Renaming.{substitute_renamed_spine}
use Rattle.lf.proofs.SkeletonTyping.{substitution_keeps_skeletons}
use Rattle.lf.proofs.SkeletonTypes.{substitutions_compose_type}
use Rattle.lf.proofs.Substitution.{typed_substitution_by_skeletons}
use Rattle.lf.proofs.ToSkeletons.{variable_has_skeleton, skeleton_has_variable, typed_has_skeleton, type_by_skeletons}
use Rattle.lf.proofs.TypeLaws.{skeleton_renamed, skeleton_substituted}
use Rattle.lf_checks.specs.ModeForms.{argument_count}
use Rattle.lf_cases.specs.Cover.{InstanceIn, place_of, before}
use Rattle.lf_cases.specs.Case.{Item, free_variable, block_variable, items_context, entries_in_front, behind_entries, as_term, IsGroundInstance}
use Rattle.lf_cases.specs.Missing.{AreTypedItems}
use Rattle.lf_cases.proofs.LongValues.{long_at, long_past, long_same}
use Rattle.lf_totality.proofs.OutputCases.{in_context, in_covers, in_type}
use Rattle.lf_coverage.proofs.Composing.{composed}
use Rattle.lf_coverage.proofs.GroundTyped.{ground_typed, items_extended, long_equal, past_one}
use Rattle.lf_coverage.proofs.Transfer.{same_in, onto_skeleton}
use Rattle.lf_numbered.specs.EntryConstants.{entry_constant, entry_images, IsFreeFrom}
use Rattle.lf_numbered.specs.NumberedCase.{some_spine, AreGroundValues, AreInstances}
use Rattle.lf_numbered.specs.Numbering.{entries_of, own_spine, numbering}
use Rattle.lf_numbered.specs.OwnTerms.{BlockVariable, blocks_of, rename_blocks}
use Rattle.lf_numbered.specs.Reading.{read, read_spine, read_type, variable_past, read_entry, entry_reading}
use Rattle.lf_numbered.proofs.EntryPlaces.{Rest, rest_next, entry_is, entry_type_at}
use Rattle.lf_numbered.proofs.EntryValues.{read_entry_long, count_some, read_some, some_equal, put_some, some_terms_same}
use Rattle.lf_numbered.proofs.OwnTerms.{old_is_none}
use Rattle.lf_numbered.proofs.ReadValues.{values_fit, value_past, reading_next}
use Rattle.lf_numbered.proofs.Reading.{read_spine_renamed, IsOld, typed_only, type_only, none_read, none_read_type, read_image, FollowsRead, read_substituted, read_type_substituted}
use Rattle.lf_numbered.proofs.NumberingBlocks.{entry_behind, image_moved, image_read_next, from_next, from_first, in_front_same, blocks_renamed, blocks_with}

-- The instances in a ground instance are those of θ, by number.
abbrev pub HasInstances : (ℕ → ℕ → Image) → ℕ → {Σ' : Signature} {W : List Block} {S : ℕ → Bool} {G : List LfType} (w : World Σ' W S G) (I : List Item) (σ : ℕ → Image) → IsGroundInstance w I σ → Type 0
HasInstances θ first w [] σ g = Unit {0}
HasInstances θ first w (free_variable A ∷ I) σ (N, τ, g, n, e) = HasInstances θ first w I τ g
HasInstances θ first w (block_variable B υ ∷ I) σ (φ, τ, g, i, s, e) = (φ ≡ θ (zero + length (blocks_of (numbering first I).blocks))) × HasInstances θ first w I τ g

module _ (Σ Σ' : Signature) (ok : IsSignature Σ) (S : ℕ → Bool) (x : Extends S Σ Σ') (W : List Block) (typed : AreTypedBlocks Σ W) (first : ℕ) (free : IsFreeFrom Σ first) {G : List LfType} (w : World Σ' W S G) (Bs : List Block) (θ : ℕ → ℕ → Image) where
  abbrev pub f : ℕ → ℕ → Option (ℕ × ℕ)
  f n = entry_reading first Bs θ n

  abbrev κ' : HeadSkeletons
  κ' = constant_skeletons Σ'

  -- the block variables of the numbering are the first ones
  abbrev pub Leads : List Item → Type 0
  Leads I = (Cs : List Block) × (Bs ≡ blocks_of (numbering first I).blocks ++ Cs)

  pub leads_free : (A : LfType) (I : List Item) → Leads (free_variable A ∷ I) → Leads I
  leads_free A I (Cs, e) = (Cs, e ∙ ap (λ Ds. Ds ++ Cs) (blocks_renamed suc (numbering first I).blocks))

  pub leads_block : (B : Block) (υ : ℕ → Image) (I : List Item) → Leads (block_variable B υ ∷ I) → (Cs : List Block) × (Bs ≡ blocks_of (numbering first I).blocks ++ B ∷ Cs)
  leads_block B υ I (Cs, e) = (Cs, e ∙ blocks_with (numbering first I).blocks (record { block = B; terms = own_spine B υ (numbering first I) }) Cs)

  -- what each variable of the items is read as
  abbrev seen : List Item → ℕ → Image
  seen I i = read_image (f (length (numbering first I).variables)) ((numbering first I).images i)

  -- The values τ of the items are those of the numbered form under ρ.
  pub record Agrees (I : List Item) (τ ρ : ℕ → Image) : Type 0 where
    pub ground : IsGroundInstance w I τ
    pub numbers : HasInstances θ first w I τ ground
    pub values : AreGroundValues Σ' G (entry_reading first Bs θ) (numbering first I).variables ρ
    pub instances : AreInstances w (f (length (numbering first I).variables)) ρ θ zero (numbering first I).blocks
    pub fits : SubstitutionBySkeletons κ' (context_skeletons (items_context I)) (context_skeletons (onto (numbering first I).variables G)) (seen I)
    pub agree : (i : ℕ) (A : LfType) → TypeAt (items_context I) i A → as_term (skeleton A) (τ i) ≡ as_term (skeleton A) (substitute_image ρ (seen I i))

  old_none : (n c : ℕ) → IsOld Σ c → f n c ≡ None
  old_none n c (A, e) = ap (read_entry θ n) (old_is_none Σ first free Bs c A e)

  old_follows : (n : ℕ) (δ : ℕ → Image) (c : ℕ) → IsOld Σ c → FollowsRead δ None (f n c)
  old_follows n δ c h = subst (FollowsRead δ None) (sym (old_none n c h)) tt

  typed' : AreTypedBlocks Σ' W
  typed' B m = extension_keeps_contexts S Σ Σ' x (onto B.entries B.some) (typed B m)

  -- a term over the items, numbered and read
  seen_term : (I : List Item) (N : Term) (A : LfType) → HasType Σ (items_context I) N A → read (f (length (numbering first I).variables)) (substitute reduce (numbering first I).images N) ≡ substitute reduce (seen I) N
  seen_term I N A t =
      read_substituted (IsOld Σ) (λ c. None) (f (length (numbering first I).variables)) (numbering first I).images N (old_follows (length (numbering first I).variables) (numbering first I).images) (typed_only Σ (items_context I) N A t)
      ∙ ap (substitute reduce (seen I)) (none_read (IsOld Σ) (λ c. None) N (λ c h. refl) (typed_only Σ (items_context I) N A t))

  -- So types are the same, and terms.
  module _ (I : List Item) (a : AreTypedItems Σ W I) (τ ρ : ℕ → Image) (r : Agrees I τ ρ) where
    abbrev pub C : List LfType
    C = items_context I

    ρ_fits : SubstitutionBySkeletons κ' (context_skeletons (onto (numbering first I).variables G)) (context_skeletons G) ρ
    ρ_fits = values_fit Σ' x.ok G first Bs θ (numbering first I).variables ρ r.values

    τ_fits : SubstitutionBySkeletons κ' (context_skeletons (items_context I)) (context_skeletons G) τ
    τ_fits = typed_substitution_by_skeletons Σ' x.ok (items_context I) G τ (ground_typed Σ' x.ok W typed' w I τ (items_extended S Σ Σ' x W I a) r.ground)

    both_fit : SubstitutionBySkeletons κ' (context_skeletons (items_context I)) (context_skeletons G) (after ρ (seen I))
    both_fit = composed κ' (context_skeletons (items_context I)) (context_skeletons (onto (numbering first I).variables G)) (context_skeletons G) (seen I) ρ r.fits ρ_fits

    long_agree : (i : ℕ) (A : LfType) → TypeAt (items_context I) i A → long_at (items_context I) τ i ≡ long_at (items_context I) (after ρ (seen I)) i
    long_agree i A g = long_equal (items_context I) τ (after ρ (seen I)) r.agree i A g

    pub type_same : (A : LfType) → IsType Σ (items_context I) A → substitute_type reduce τ A ≡ substitute_type reduce ρ (read_type (f (length (numbering first I).variables)) (substitute_type reduce (numbering first I).images A))
    type_same A t =
        let φ = family_skeletons Σ' in
        let Γ : List Skeleton = context_skeletons (items_context I) in
        let k : TypeBySkeletons φ κ' Γ A = type_by_skeletons Σ' (items_context I) A (extension_keeps_types S Σ Σ' x (items_context I) A t) in
        let seen_type : read_type (f (length (numbering first I).variables)) (substitute_type reduce (numbering first I).images A) ≡ substitute_type reduce (seen I) A =
        read_type_substituted (IsOld Σ) (λ c. None) (f (length (numbering first I).variables)) (numbering first I).images A (old_follows (length (numbering first I).variables) (numbering first I).images) (type_only Σ (items_context I) A t)
        ∙ ap (substitute_type reduce (seen I)) (none_read_type (IsOld Σ) (λ c. None) A (λ c h. refl) (type_only Σ (items_context I) A t)) in
        sym (long_same κ' φ [] (items_context I) (context_skeletons G) τ A τ_fits k)
        ∙ agree_on_type reduce (in_context (items_context I)) (long_past [] (items_context I) τ) (long_past [] (items_context I) (after ρ (seen I))) A (λ i u. let (B, g) = in_type (items_context I) i u in long_agree i B g) (typed_uses_type Σ (items_context I) (in_context (items_context I)) A (in_covers (items_context I)) t)
        ∙ long_same κ' φ [] (items_context I) (context_skeletons G) (after ρ (seen I)) A both_fit k
        ∙ sym (substitutions_compose_type φ κ' Γ (context_skeletons (onto (numbering first I).variables G)) (context_skeletons G) (seen I) ρ A r.fits ρ_fits k)
        ∙ ap (substitute_type reduce ρ) (sym seen_type)

    long_term : (N : Term) (t : Skeleton) (σ : ℕ → Image) → SubstitutionBySkeletons κ' (context_skeletons (items_context I)) (context_skeletons G) σ → TermSkeleton κ' (context_skeletons (items_context I)) N t → substitute reduce (long_at (items_context I) σ) N ≡ substitute reduce σ N
    long_term N t σ s n = argument (long_same κ' (λ a. Some (arrow t (base 0))) [] (items_context I) (context_skeletons G) σ (atom 0 (app N nil)) s (arrow t (base 0), refl, (n, refl)))
      where
        argument : atom 0 (app (substitute reduce (long_at (items_context I) σ) N) nil) ≡ atom 0 (app (substitute reduce σ N) nil) → substitute reduce (long_at (items_context I) σ) N ≡ substitute reduce σ N
        argument e = cc

    term_same : (N : Term) (A : LfType) → HasType Σ (items_context I) N A → substitute reduce τ N ≡ substitute reduce ρ (read (f (length (numbering first I).variables)) (substitute reduce (numbering first I).images N))
    term_same N A t =
        let Γ : List Skeleton = context_skeletons (items_context I) in
        let k : TermSkeleton κ' Γ N (skeleton A) = typed_has_skeleton Σ' (items_context I) N A (extension_keeps_typing S Σ Σ' x (items_context I) N A t) in
        sym (long_term N (skeleton A) τ τ_fits k)
        ∙ same_in κ' Γ (long_at (items_context I) τ) (long_at (items_context I) (after ρ (seen I))) (λ i u g. let (B, h, e) = skeleton_has_variable (items_context I) i u g in long_agree i B h) N (skeleton A) k
        ∙ long_term N (skeleton A) (after ρ (seen I)) both_fit k
        ∙ sym (substitutions_compose κ' Γ (context_skeletons (onto (numbering first I).variables G)) (context_skeletons G) (seen I) ρ N (skeleton A) r.fits ρ_fits k)
        ∙ ap (substitute reduce ρ) (sym (seen_term I N A t))

    -- a value of a `some` variable
    image_same : (y : Image) (A : LfType) (b : Skeleton) → skeleton A ≡ b → ImageHasType Σ (items_context I) y A → as_term b (substitute_image τ y) ≡ as_term b (substitute_image ρ (read_image (f (length (numbering first I).variables)) (substitute_image (numbering first I).images y)))
    image_same (keep j) A b e g = subst (λ c. as_term c (τ j) ≡ as_term c (substitute_image ρ (seen I j))) e (r.agree j A g)
    image_same (put c N) A b e (q, n) = term_same N A n

  -- One more free variable
  moved_terms : (n : ℕ) (ρ : ℕ → Image) (y : Image) (U : Spine) → substitute_spine reduce (in_front y ρ) (read_spine (f (suc n)) (rename_spine suc U)) ≡ substitute_spine reduce ρ (read_spine (f n) U)
  moved_terms n ρ y U = ap (substitute_spine reduce (in_front y ρ)) (read_spine_renamed (f n) (f (suc n)) suc U (reading_next first Bs θ n)) ∙ substitute_renamed_spine reduce (in_front y ρ) suc (read_spine (f n) U)

  moved_instances : (n : ℕ) (ρ : ℕ → Image) (y : Image) (k : ℕ) (bs : List BlockVariable) → AreInstances w (f n) ρ θ k bs → AreInstances w (f (suc n)) (in_front y ρ) θ k (rename_blocks suc bs)
  moved_instances n ρ y k [] h = tt
  moved_instances n ρ y k (b ∷ bs) (i, e, h) = (i, e ∙ sym (moved_terms n ρ y b.terms), moved_instances n ρ y (suc k) bs h)

  pub moved_back : (n : ℕ) (ρ : ℕ → Image) (y : Image) (k : ℕ) (bs : List BlockVariable) → AreInstances w (f (suc n)) (in_front y ρ) θ k (rename_blocks suc bs) → AreInstances w (f n) ρ θ k bs
  moved_back n ρ y k [] h = tt
  moved_back n ρ y k (b ∷ bs) (i, e, h) = (i, e ∙ moved_terms n ρ y b.terms, moved_back n ρ y (suc k) bs h)

  pub free_step : (I : List Item) (a : AreTypedItems Σ W I) (A : LfType) → IsType Σ (items_context I) A → (τ ρ : ℕ → Image) → Agrees I τ ρ → (N : Term) → HasType Σ' G N (substitute_type reduce τ A) → Agrees (free_variable A ∷ I) (in_front (put (skeleton A) N) τ) (in_front (put (skeleton (substitute_type reduce (numbering first I).images A)) N) ρ)
  free_step I a A t τ ρ r N n = record {
    ground = (N, τ, r.ground, n, refl);
    numbers = r.numbers;
    values = (N, ρ, r.values, subst (HasType Σ' G N) (type_same I a τ ρ r A t) n, refl);
    instances = moved_instances (length (numbering first I).variables) ρ (put (skeleton A') N) zero (numbering first I).blocks r.instances;
    fits = fits;
    agree = agree;
  }
    where
      A' : LfType
      A' = substitute_type reduce (numbering first I).images A

      fits : SubstitutionBySkeletons κ' (skeleton A ∷ context_skeletons (items_context I)) (skeleton A' ∷ context_skeletons (onto (numbering first I).variables G)) (seen (free_variable A ∷ I))
      fits zero u q = skeleton_substituted reduce (numbering first I).images A ∙ q
      fits (suc i) u g = subst (λ y. ImageSkeleton κ' (skeleton A' ∷ context_skeletons (onto (numbering first I).variables G)) y u) (sym (image_read_next first Bs θ (length (numbering first I).variables) ((numbering first I).images i))) (image_moved κ' (context_skeletons (onto (numbering first I).variables G)) (skeleton A') u (seen I i) (r.fits i u g))

      agree : (i : ℕ) (B : LfType) → TypeAt (A ∷ items_context I) i B → as_term (skeleton B) (in_front (put (skeleton A) N) τ i) ≡ as_term (skeleton B) (substitute_image (in_front (put (skeleton A') N) ρ) (seen (free_variable A ∷ I) i))
      agree zero B q = refl
      agree (suc i) B (D, g, q) =
          ap (λ c. as_term c (τ i)) (ap skeleton q ∙ skeleton_renamed suc D)
          ∙ r.agree i D g
          ∙ ap (λ c. as_term c (substitute_image ρ (seen I i))) (sym (ap skeleton q ∙ skeleton_renamed suc D))
          ∙ ap (as_term (skeleton B)) (sym (ap (substitute_image (in_front (put (skeleton A') N) ρ)) (image_read_next first Bs θ (length (numbering first I).variables) ((numbering first I).images i)) ∙ past_one (put (skeleton A') N) ρ (seen I i)))

  -- One more block variable
  next_number : (k l : ℕ) → suc k + l ≡ k + suc l
  next_number k l = omega arith

  same_number_of : (k : ℕ) → k + 0 ≡ k
  same_number_of k = omega arith

  abbrev Stands : (ℕ → Option (ℕ × ℕ)) → (ℕ → Image) → BlockVariable → ℕ → Type 0
  Stands g ρ b k = InstanceIn w b.block (θ k) × (some_spine b.block.some (behind_entries b.block.entries (θ k)) ≡ substitute_spine reduce ρ (read_spine g b.terms))

  append_instances : (g : ℕ → Option (ℕ × ℕ)) (ρ : ℕ → Image) (b : BlockVariable) (k : ℕ) (bs : List BlockVariable) → AreInstances w g ρ θ k bs → Stands g ρ b (k + length (blocks_of bs)) → AreInstances w g ρ θ k (bs ++ b ∷ [])
  append_instances g ρ b k [] h s = let (i, e) = subst (Stands g ρ b) (same_number_of k) s in (i, e, tt)
  append_instances g ρ b k (d ∷ bs) (i, e, h) s = (i, e, append_instances g ρ b (suc k) bs h (subst (Stands g ρ b) (sym (next_number k (length (blocks_of bs)))) s))

  pub split_instances : (g : ℕ → Option (ℕ × ℕ)) (ρ : ℕ → Image) (b : BlockVariable) (k : ℕ) (bs : List BlockVariable) → AreInstances w g ρ θ k (bs ++ b ∷ []) → AreInstances w g ρ θ k bs × Stands g ρ b (k + length (blocks_of bs))
  split_instances g ρ b k [] (i, e, h) = (tt, subst (Stands g ρ b) (sym (same_number_of k)) (i, e))
  split_instances g ρ b k (d ∷ bs) (i, e, h) = let (p, s) = split_instances g ρ b (suc k) bs h in ((i, e, p), subst (Stands g ρ b) (next_number k (length (blocks_of bs))) s)

  module _ (I : List Item) (a : AreTypedItems Σ W I) (B : Block) (υ : ℕ → Image) (v : Values Σ everything B.some (items_context I) υ) (lead : (Cs : List Block) × (Bs ≡ blocks_of (numbering first I).blocks ++ B ∷ Cs)) (τ ρ : ℕ → Image) (r : Agrees I τ ρ) where
    abbrev X : List LfType
    X = (numbering first I).variables

    abbrev pub bs : List BlockVariable
    bs = (numbering first I).blocks

    abbrev pub k : ℕ
    k = zero + length (blocks_of (numbering first I).blocks)

    abbrev pub m : ℕ
    m = first + entries_of (blocks_of (numbering first I).blocks)

    abbrev U : Spine
    U = own_spine B υ (numbering first I)

    abbrev pub values : ℕ → Image
    values i = read_image (f (length X)) (after (numbering first I).images υ i)

    values_fit_here : SubstitutionBySkeletons κ' (context_skeletons B.some) (context_skeletons (onto (numbering first I).variables G)) values
    values_fit_here i t g =
        let (A, h, e) = skeleton_has_variable B.some i t g in
        by (υ i) (substitute_type reduce υ A) (skeleton_substituted reduce υ A ∙ e) (v.typed i A h refl)
      where
        by : (y : Image) (Z : LfType) → skeleton Z ≡ t → ImageHasType Σ (items_context I) y Z → ImageSkeleton κ' (context_skeletons (onto (numbering first I).variables G)) (read_image (f (length X)) (substitute_image (numbering first I).images y)) t
        by (keep j) Z e h = r.fits j t (subst (SkeletonAt (context_skeletons (items_context I)) j) e (variable_has_skeleton (items_context I) j Z h))
        by (put c N) Z e (q, n) = (sym q ∙ e, subst (λ Y. TermSkeleton κ' (context_skeletons (onto (numbering first I).variables G)) Y c) (sym (seen_term I N Z n)) (subst (TermSkeleton κ' (context_skeletons (onto (numbering first I).variables G)) (substitute reduce (seen I) N)) q (substitution_keeps_skeletons κ' (context_skeletons (items_context I)) (context_skeletons (onto (numbering first I).variables G)) (seen I) N (skeleton Z) r.fits (typed_has_skeleton Σ' (items_context I) N Z (extension_keeps_typing S Σ Σ' x (items_context I) N Z n)))))

    values_same : (i : ℕ) (A : LfType) → TypeAt B.some i A → as_term (skeleton A) (after τ υ i) ≡ as_term (skeleton A) (after ρ values i)
    values_same i A g = image_same I a τ ρ r (υ i) (substitute_type reduce υ A) (skeleton A) (skeleton_substituted reduce υ A) (v.typed i A g refl)

    terms_value : substitute_spine reduce ρ (read_spine (f (length X)) U) ≡ some_spine B.some (after ρ values)
    terms_value = ap (substitute_spine reduce ρ) (read_some (f (length X)) B.some (after (numbering first I).images υ)) ∙ put_some κ' B.some (context_skeletons (onto (numbering first I).variables G)) (context_skeletons G) values ρ values_fit_here (ρ_fits I a τ ρ r)

    abbrev SameTerms : Type 0
    SameTerms = (i : ℕ) (A : LfType) → TypeAt B.some i A → as_term (skeleton A) (behind_entries B.entries (θ k) i) ≡ as_term (skeleton A) (after τ υ i)

    terms_from : SameTerms → some_spine B.some (behind_entries B.entries (θ k)) ≡ substitute_spine reduce ρ (read_spine (f (length X)) U)
    terms_from s = some_equal B.some (behind_entries B.entries (θ k)) (after ρ values) (λ i A g. s i A g ∙ values_same i A g) ∙ sym terms_value

    pub terms_to : some_spine B.some (behind_entries B.entries (θ k)) ≡ substitute_spine reduce ρ (read_spine (f (length X)) U) → SameTerms
    terms_to e i A g = some_terms_same B.some (behind_entries B.entries (θ k)) (after ρ values) (e ∙ terms_value) i A g ∙ sym (values_same i A g)

    module _ (at : InstanceIn w B (θ k)) where
      skeleton_at : (later : List LfType) (E : LfType) (es : List LfType) → onto later (E ∷ es) ≡ B.entries → (u : ℕ) → θ k (place_of later) ≡ keep u → SkeletonAt (context_skeletons (onto X G)) (u + length X) (skeleton E)
      skeleton_at later E es e u q = onto_skeleton X G u (skeleton E) (subst (SkeletonAt (context_skeletons G) u) (skeleton_substituted reduce (before later (θ k)) E) (variable_has_skeleton G u (substitute_type reduce (before later (θ k)) E) (entry_type_at Σ' x.ok w B (θ k) at later E es e u q)))

      read_at : (later : List LfType) (E : LfType) (es : List LfType) → onto later (E ∷ es) ≡ B.entries → (u : ℕ) → θ k (place_of later) ≡ keep u → f (length X) (m + length es) ≡ Some (argument_count U, u + length X)
      read_at later E es e u q =
          ap (read_entry θ (length X)) (ap (λ Ds. entry_constant zero first Ds (m + length es)) lead.1 ∙ entry_behind zero first (blocks_of bs) B lead.0 later E es e)
          ∙ ap (λ y. Some (length B.some, variable_past (length X) y)) q
          ∙ ap (λ n. Some (n, u + length X)) (sym (count_some B.some (after (numbering first I).images υ)))

      long_at_entry : (later : List LfType) (E : LfType) (es : List LfType) → onto later (E ∷ es) ≡ B.entries → (u : ℕ) → θ k (place_of later) ≡ keep u → read (f (length X)) (eta_expand (skeleton E) (constant (m + length es)) U) ≡ eta_long (skeleton E) (variable (u + length X))
      long_at_entry later E es e u q = read_entry_long (f (length X)) (skeleton E) (m + length es) (u + length X) U (read_at later E es e u q)

      abbrev pub images : List LfType → ℕ → Image
      images es i = read_image (f (length X)) (entry_images m U es (numbering first I).images i)

      images_fit : (later es : List LfType) → Rest B later es → SubstitutionBySkeletons κ' (context_skeletons (onto (instance es υ) (items_context I))) (context_skeletons (onto X G)) (images es)
      images_fit later [] e = r.fits
      images_fit later (D ∷ ds) e = front (images_fit (onto later (D ∷ [])) ds (rest_next B later D ds e))
        where
          front : SubstitutionBySkeletons κ' (context_skeletons (onto (instance ds υ) (items_context I))) (context_skeletons (onto X G)) (images ds) → SubstitutionBySkeletons κ' (skeleton (substitute_type reduce (lift_over ds υ) D) ∷ context_skeletons (onto (instance ds υ) (items_context I))) (context_skeletons (onto X G)) (images (D ∷ ds))
          front ih zero t q =
              let (u, p) = entry_is Σ' x.ok w B (θ k) at later D ds (e D ds refl) in
              (sym (skeleton_substituted reduce (lift_over ds υ) D) ∙ q, subst (λ Y. TermSkeleton κ' (context_skeletons (onto X G)) Y (skeleton D)) (sym (long_at_entry later D ds (e D ds refl) u p)) (eta_long_has_skeleton κ' (context_skeletons (onto X G)) (skeleton D) (variable (u + length X)) (skeleton_at later D ds (e D ds refl) u p)))
          front ih (suc i) t g = ih i t g

      images_agree : (later es : List LfType) → Rest B later es → (i : ℕ) (A : LfType) → TypeAt (onto (instance es υ) (items_context I)) i A → as_term (skeleton A) (entries_in_front es (behind_entries later (θ k)) τ i) ≡ as_term (skeleton A) (substitute_image ρ (images es i))
      images_agree later [] e i A g = r.agree i A g
      images_agree later (D ∷ ds) e zero A g =
          let (u, p) = entry_is Σ' x.ok w B (θ k) at later D ds (e D ds refl) in
          ap (as_term (skeleton A)) (from_first later (θ k) ∙ p)
          ∙ ap (λ c. eta_long c (variable u)) (ap skeleton g ∙ skeleton_renamed suc (substitute_type reduce (lift_over ds υ) D) ∙ skeleton_substituted reduce (lift_over ds υ) D)
          ∙ sym (ap (substitute reduce ρ) (long_at_entry later D ds (e D ds refl) u p) ∙ substitute_eta_expand ρ (skeleton D) (variable (u + length X)) (variable u) nil (value_past Σ' x.ok G first Bs θ X ρ r.values u))
      images_agree later (D ∷ ds) e (suc i) A (F, g, q) =
          ap (λ c. as_term c (entries_in_front ds (λ j. behind_entries later (θ k) (suc j)) τ i)) (ap skeleton q ∙ skeleton_renamed suc F)
          ∙ ap (as_term (skeleton F)) (in_front_same ds (λ j. behind_entries later (θ k) (suc j)) (behind_entries (onto later (D ∷ [])) (θ k)) τ i (λ j. sym (from_next later D (θ k) j)))
          ∙ images_agree (onto later (D ∷ [])) ds (rest_next B later D ds e) i F g
          ∙ ap (λ c. as_term c (substitute_image ρ (images ds i))) (sym (ap skeleton q ∙ skeleton_renamed suc F))

      pub block_step : SameTerms → Agrees (block_variable B υ ∷ I) (entries_in_front B.entries (θ k) τ) ρ
      block_step s = record {
        ground = (θ k, τ, r.ground, at, s, refl);
        numbers = (refl, r.numbers);
        values = r.values;
        instances = append_instances (f (length X)) ρ (record { block = B; terms = U }) zero bs r.instances (at, terms_from s);
        fits = images_fit [] B.entries (λ D ds q. sym q);
        agree = images_agree [] B.entries (λ D ds q. sym q);
      }
