-- What a block variable gives the variables of its block is, read and put into a ground instance, its instance.
use Rattle.std.proofs.Common.{◌≡◌, ℕ, zero, suc, List, [], ◌∷◌, length, ◌+◌, refl, sym, ap, ap₂, ◌∙◌, subst, arith}
use Rattle.std.specs.Prelude.{Bool, Option, Some}
use Rattle.lf.specs.Syntax.{Term, Spine, nil, app, LfType, skeleton, variable}
use Rattle.lf.specs.Substitution.{Image, put, substitute, substitute_image, substitute_spine, reduce, after}
use Rattle.lf.specs.Eta.{add_last, eta_long}
use Rattle.lf.specs.AtOnce.{in_front}
use Rattle.lf.specs.Skeletons.{constant_skeletons, context_skeletons}
use Rattle.lf.specs.Typing.{Signature, TypeAt, IsSignature}
use Rattle.lf.specs.Variables.{onto}
use Rattle.lf.specs.Subordination.{Block, Member, AreTypedBlocks}
use Rattle.lf.specs.Worlds.{World}
use Rattle.lf.specs.Extension.{Extends}
use Rattle.lf.proofs.Eta.{substitute_eta_expand}
use Rattle.lf.proofs.ToSkeletons.{variable_has_skeleton}
use Rattle.lf.proofs.TypeLaws.{skeleton_renamed}
use Rattle.lf_cases.specs.Case.{as_term, behind_entries}
use Rattle.lf_cases.specs.Cover.{InstanceIn, place_of}
use Rattle.lf_numbered.specs.EntryConstants.{entry_among, entry_constant, entry_images, with_entries, IsFreeFrom}
use Rattle.lf_numbered.specs.EntryPatterns.{last_of, but_last, some_images, variable_images}
use Rattle.lf_numbered.specs.NumberedCase.{NumberedCase, some_spine, AreSomeTerms, AreTypedBlockVariables, AreTypedVariables, AreInstances, IsNumberedInstance}
use Rattle.lf_numbered.specs.NumberedInstance.{block_at, first_constant}
use Rattle.lf_numbered.specs.OwnTerms.{BlockVariable, blocks_of, own_terms, SpineOnOwnTerms}
use Rattle.lf_numbered.specs.Reading.{read_spine, entry_reading}
use Rattle.lf_numbered.proofs.EntryFound.{among_at}
use Rattle.lf_numbered.proofs.EntryPlaces.{entry_is}
use Rattle.lf_numbered.proofs.EntrySignature.{else_first, else_second, among_none}
use Rattle.lf_numbered.proofs.EntryValues.{put_term, read_as_term}
use Rattle.lf_numbered.proofs.OwnTerms.{entry_from}
use Rattle.lf_numbered.proofs.ReadInstance.{heads}
use Rattle.lf_numbered.proofs.ReadBlocks.{long_at_entry, some_agree, some_fits, images_agree}
use Rattle.lf_numbered.proofs.ReadValues.{values_fit, value_past}
use Rattle.lf_numbered.proofs.Reading.{read_image}

-- the last of some arguments
pub last_is : (M N : Term) (S : Spine) → last_of M (add_last S N) ≡ N
last_is M N nil = refl
last_is M N (app P S) = last_is P N S

pub others_are : (M N : Term) (S : Spine) → but_last M (add_last S N) ≡ app M S
others_are M N nil = refl
others_are M N (app P S) = ap (app M) (others_are P N S)

pub some_last : (A : LfType) (O : List LfType) (S : Spine) (N : Term) → some_images (A ∷ O) (add_last S N) ≡ in_front (put (skeleton A) N) (some_images O S)
some_last A O nil N = refl
some_last A O (app M S) N = ap₂ (λ (P : Term) (V : Spine). in_front (put (skeleton A) P) (some_images O V)) (last_is M N S) (others_are M N S)

-- The terms that stand for `some` variables stand for these.
pub some_images_are : (O : List LfType) (υ : ℕ → Image) (i : ℕ) (A : LfType) → TypeAt O i A → some_images O (some_spine O υ) i ≡ put (skeleton A) (as_term (skeleton A) (υ i))
some_images_are [] υ i A g = absurd g
some_images_are (B ∷ O) υ zero A e = ap (λ s. s zero) (some_last B O (some_spine O (λ j. υ (suc j))) (as_term (skeleton B) (υ zero))) ∙ ap (λ a. put a (as_term a (υ zero))) (sym (ap skeleton e ∙ skeleton_renamed suc B))
some_images_are (B ∷ O) υ (suc i) A (D, g, e) = ap (λ s. s (suc i)) (some_last B O (some_spine O (λ j. υ (suc j))) (as_term (skeleton B) (υ zero))) ∙ some_images_are O (λ j. υ (suc j)) i D g ∙ ap (λ a. put a (as_term a (υ (suc i)))) (sym (ap skeleton e ∙ skeleton_renamed suc D))

-- where the entries of a block variable of a number are found
pub found_at_number : (j n : ℕ) (bs : List BlockVariable) (k : ℕ) (b : BlockVariable) → block_at bs k ≡ Some b → (later : List LfType) (E : LfType) (es : List LfType) → onto later (E ∷ es) ≡ b.block.entries → entry_constant j n (blocks_of bs) (first_constant n (blocks_of bs) k + length es) ≡ Some (record { number = j + k; block = b.block; from = first_constant n (blocks_of bs) k; place = place_of later; entry = E; before = es })
found_at_number j n [] k b p later E es e = absurd cc
found_at_number j n (c ∷ bs) zero b p later E es e =
    let q : c ≡ b = Rattle.lf_coverage.proofs.Parts.some_same p in
    let r : onto later (E ∷ es) ≡ c.block.entries = e ∙ ap (λ (d : BlockVariable). d.block.entries) (sym q) in
    else_first (entry_among j c.block n zero c.block.entries (n + length es)) (entry_constant (suc j) (n + length c.block.entries) (blocks_of bs) (n + length es)) (record { number = j; block = c.block; from = n; place = place_of later; entry = E; before = es })
    (ap (λ ds. entry_among j c.block n zero ds (n + length es)) (sym r) ∙ among_at j c.block n zero later E es ∙ ap (λ l. Some (record { number = j; block = c.block; from = n; place = l; entry = E; before = es })) (none_before (place_of later)))
    ∙ ap₂ (λ i (B : Block). Some (record { number = i; block = B; from = n; place = place_of later; entry = E; before = es })) (none_after j) (ap (λ (d : BlockVariable). d.block) q)
  where
    none_before : (l : ℕ) → zero + l ≡ l
    none_before l = omega arith

    none_after : (l : ℕ) → l ≡ l + 0
    none_after l = omega arith
found_at_number j n (c ∷ bs) (suc k) b p later E es e =
    let m : ℕ = n + length c.block.entries in
    let d : ℕ = first_constant m (blocks_of bs) k + length es in
    let h = found_at_number (suc j) m bs k b p later E es e in
    else_second (entry_among j c.block n zero c.block.entries d) (entry_constant (suc j) m (blocks_of bs) d) (Some (record { number = suc j + k; block = b.block; from = first_constant m (blocks_of bs) k; place = place_of later; entry = E; before = es })) (among_none j c.block n zero c.block.entries d (entry_from (suc j) m (blocks_of bs) d (record { number = suc j + k; block = b.block; from = first_constant m (blocks_of bs) k; place = place_of later; entry = E; before = es }) h)) h
    ∙ ap (λ i. Some (record { number = i; block = b.block; from = first_constant m (blocks_of bs) k; place = place_of later; entry = E; before = es })) (next j k)
  where
    next : (j k : ℕ) → suc j + k ≡ j + suc k
    next j k = omega arith

module _ (Σ Σ' : Signature) (ok : IsSignature Σ) (S : ℕ → Bool) (x : Extends S Σ Σ') (W : List Block) (typed : AreTypedBlocks Σ W) (first : ℕ) (free : IsFreeFrom Σ first) (C : NumberedCase) (tv : AreTypedVariables Σ first W C) {G : List LfType} (w : World Σ' W S G) (θ : ℕ → ℕ → Image) (σ : ℕ → Image) (inst : IsNumberedInstance w first C θ σ) where
  abbrev X : List LfType
  X = C.variables

  abbrev Σ₁ : Signature
  Σ₁ = with_entries Σ first (blocks_of C.blocks)

  abbrev f : ℕ → Option (ℕ × ℕ)
  f = entry_reading first (blocks_of C.blocks) θ (length X)

  abbrev o : ℕ → Option Spine
  o = own_terms first C.blocks

  -- what is known of a block variable
  abbrev pub Known : ℕ → BlockVariable → Type 0
  Known k b = Member b.block W × AreSomeTerms Σ₁ X b.block.some b.terms × SpineOnOwnTerms o b.terms × InstanceIn w b.block (θ k) × (some_spine b.block.some (behind_entries b.block.entries (θ k)) ≡ substitute_spine reduce σ (read_spine f b.terms))

  known_from : (j : ℕ) (bs : List BlockVariable) → AreTypedBlockVariables Σ₁ W X o bs → AreInstances w f σ θ j bs → (k : ℕ) (b : BlockVariable) → block_at bs k ≡ Some b → Known (j + k) b
  known_from j [] t i k b p = absurd cc
  known_from j (c ∷ bs) (m, u, p, t) (i, e, is) zero b q = subst (λ l. Known l b) (none j) (subst (Known j) (Rattle.lf_coverage.proofs.Parts.some_same q) (m, u, p, i, e))
    where
      none : (l : ℕ) → l ≡ l + 0
      none l = omega arith
  known_from j (c ∷ bs) (m, u, p, t) (i, e, is) (suc k) b q = subst (λ l. Known l b) (next j k) (known_from (suc j) bs t is k b q)
    where
      next : (j k : ℕ) → suc j + k ≡ j + suc k
      next j k = omega arith

  pub known : (k : ℕ) (b : BlockVariable) → block_at C.blocks k ≡ Some b → Known k b
  known k b p = subst (λ l. Known l b) (none k) (known_from zero C.blocks tv.blocks inst.instances k b p)
    where
      none : (l : ℕ) → zero + l ≡ l
      none l = omega arith

  module _ (k : ℕ) (B : Block) (U : Spine) (p : block_at C.blocks k ≡ Some (record { block = B; terms = U })) where
    abbrev m : ℕ
    m = first_constant first (blocks_of C.blocks) k

    abbrev fact : Known k (record { block = B; terms = U })
    fact = known k (record { block = B; terms = U }) p

    found : (later : List LfType) (E : LfType) (es : List LfType) → onto later (E ∷ es) ≡ B.entries → entry_constant zero first (blocks_of C.blocks) (m + length es) ≡ Some (record { number = k; block = B; from = m; place = place_of later; entry = E; before = es })
    found later E es e = found_at_number zero first C.blocks k (record { block = B; terms = U }) p later E es e ∙ ap (λ j. Some (record { number = j; block = B; from = m; place = place_of later; entry = E; before = es })) (none k)
      where
        none : (l : ℕ) → zero + l ≡ l
        none l = omega arith

    -- the values of the `some` variables
    abbrev υ : ℕ → Image
    υ = fact.1.0

    all_agree : (es : List LfType) → es ≡ B.entries → (i : ℕ) (A : LfType) → TypeAt (onto es B.some) i A → as_term (skeleton A) (substitute_image σ (read_image f (entry_images m U es υ i))) ≡ as_term (skeleton A) (θ k i)
    all_agree [] e i A g = some_agree Σ Σ' ok S x W typed first free C tv w θ σ inst k B m U υ (typed B fact.0) fact.1.1 fact.1.2 fact.2 fact.3 fact.4 found (heads Σ Σ' ok S x W typed first free C tv w θ σ inst) i A g ∙ ap (λ ds. as_term (skeleton A) (behind_entries ds (θ k) i)) (sym e)
    all_agree (E ∷ es) e zero A g =
        let (u, q) = entry_is Σ' x.ok w B (θ k) fact.3 [] E es e in
        ap (substitute reduce σ) (long_at_entry Σ Σ' ok S x W typed first free C tv w θ σ inst k B m U υ (typed B fact.0) fact.1.1 fact.1.2 fact.2 fact.3 fact.4 found [] E es e u q)
        ∙ substitute_eta_expand σ (skeleton E) (variable (u + length X)) (variable u) nil (value_past Σ' x.ok G first (blocks_of C.blocks) θ X σ inst.values u)
        ∙ ap (λ a. eta_long a (variable u)) (sym (ap skeleton g ∙ skeleton_renamed suc E))
        ∙ ap (as_term (skeleton A)) (sym q)
    all_agree (E ∷ es) e (suc i) A (D, g, r) =
        ap (λ a. as_term a (substitute_image σ (read_image f (entry_images m U es υ i)))) (ap skeleton r ∙ skeleton_renamed suc D)
        ∙ images_agree Σ Σ' ok S x W typed first free C tv w θ σ inst k B m U υ (typed B fact.0) fact.1.1 fact.1.2 fact.2 fact.3 fact.4 found (heads Σ Σ' ok S x W typed first free C tv w θ σ inst) [] E es e i D g
        ∙ ap (λ a. as_term a (θ k (suc i))) (sym (ap skeleton r ∙ skeleton_renamed suc D))

    -- the terms of the block variable in place of these values
    some_alike : (i : ℕ) (A : LfType) → TypeAt B.some i A → as_term (skeleton A) (substitute_image σ (read_image f (some_images B.some U i))) ≡ as_term (skeleton A) (substitute_image σ (read_image f (υ i)))
    some_alike i A g =
        ap (λ y. as_term (skeleton A) (substitute_image σ (read_image f y))) (ap (λ V. some_images B.some V i) fact.1.2 ∙ some_images_are B.some υ i A g)
        ∙ ap (substitute reduce σ) (read_as_term f (skeleton A) (υ i))
        ∙ put_term (constant_skeletons Σ') (context_skeletons (onto X G)) (context_skeletons G) σ (values_fit Σ' x.ok G first (blocks_of C.blocks) θ X σ inst.values) (skeleton A) (read_image f (υ i)) (some_fits Σ Σ' ok S x W typed first free C tv w θ σ inst k B m U υ (typed B fact.0) fact.1.1 fact.1.2 fact.2 fact.3 fact.4 found (heads Σ Σ' ok S x W typed first free C tv w θ σ inst) i (skeleton A) (variable_has_skeleton B.some i A g))

    entries_alike : (es : List LfType) (i : ℕ) (A : LfType) → TypeAt (onto es B.some) i A → as_term (skeleton A) (substitute_image σ (read_image f (entry_images m U es (some_images B.some U) i))) ≡ as_term (skeleton A) (substitute_image σ (read_image f (entry_images m U es υ i)))
    entries_alike [] i A g = some_alike i A g
    entries_alike (E ∷ es) zero A g = refl
    entries_alike (E ∷ es) (suc i) A (D, g, r) =
        ap (λ a. as_term a (substitute_image σ (read_image f (entry_images m U es (some_images B.some U) i)))) (ap skeleton r ∙ skeleton_renamed suc D)
        ∙ entries_alike es i D g
        ∙ ap (λ a. as_term a (substitute_image σ (read_image f (entry_images m U es υ i)))) (sym (ap skeleton r ∙ skeleton_renamed suc D))

    pub variable_is_instance : (i : ℕ) (A : LfType) → TypeAt (onto B.entries B.some) i A → as_term (skeleton A) (θ k i) ≡ as_term (skeleton A) (after σ (λ j. read_image f (variable_images first C.blocks k B U j)) i)
    variable_is_instance i A g = sym (entries_alike B.entries i A g ∙ all_agree B.entries refl i A g)
