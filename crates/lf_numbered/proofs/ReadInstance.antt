-- Under a ground instance of a case with block variables by number, what is read is typed.
use Rattle.std.proofs.Common.{◌≡◌, ℕ, zero, suc, List, [], ◌∷◌, length, ◌+◌, Option, Some, None, ◌⊎◌, inl, inr, refl, sym, ap, ap₂, ◌∙◌, subst, arith}
use Rattle.std.specs.Prelude.{Bool}
use Rattle.lf.specs.Syntax.{Spine, LfType, Kind, Skeleton, skeleton}
use Rattle.lf.specs.Substitution.{Image, keep, substitute_spine, reduce}
use Rattle.lf.specs.SkeletonTyping.{HeadSkeletons, TypeBySkeletons}
use Rattle.lf.specs.Skeletons.{type_skeleton, family_skeleton, constant_skeletons, family_skeletons, context_skeletons}
use Rattle.lf.specs.Typing.{Signature, IsType, IsSignature}
use Rattle.lf.specs.Variables.{onto}
use Rattle.lf.specs.Subordination.{Block, Member, AreTypedBlocks}
use Rattle.lf.specs.Worlds.{World}
use Rattle.lf.specs.Extension.{Extends}
use Rattle.lf.proofs.Substitution.{skeleton_context_of}
use Rattle.lf.proofs.ToSkeletons.{type_by_skeletons}
use Rattle.lf.proofs.Weakening.{declared_is_type}
use Rattle.lf.proofs.Worlds.{world_is_context}
use Rattle.lf_cases.specs.Cover.{InstanceIn, place_of}
use Rattle.lf_cases.specs.Case.{behind_entries}
use Rattle.lf_coverage.proofs.Parts.{none_some, some_same}
use Rattle.lf_numbered.specs.EntryConstants.{EntryConstant, entry_among, entry_constant, entry_constant_type, entry_type, with_entries, IsFreeFrom}
use Rattle.lf_numbered.specs.EntryLaws.{ReadingKeepsTyping}
use Rattle.lf_numbered.specs.NumberedCase.{NumberedCase, some_spine, AreSomeTerms, AreTypedBlockVariables, AreTypedVariables, AreInstances, IsNumberedInstance}
use Rattle.lf_numbered.specs.OwnTerms.{BlockVariable, blocks_of, terms_at, terms_of_entry, own_terms, SpineOnOwnTerms, TypeOnOwnTerms}
use Rattle.lf_numbered.specs.Reading.{read_spine, read_type, variable_past, read_entry, entry_reading}
use Rattle.lf_numbered.proofs.EntryFound.{PlacedAmong, placed_among, among_at, EachBlock, Found, entry_found}
use Rattle.lf_numbered.proofs.EntryPlaces.{entry_is}
use Rattle.lf_numbered.proofs.EntrySignature.{else_cases}
use Rattle.lf_numbered.proofs.ReadSkeletons.{ReadsSkeleton, Reads, read_type_has_skeletons}
use Rattle.lf_numbered.proofs.ReadTyped.{ReadsInto, ReadsConstant, reads_typed}
use Rattle.lf_numbered.proofs.ReadValues.{inside_onto, values_typed}
use Rattle.lf_numbered.proofs.ReadBlocks.{ok₁, fits, old_none, entry_skeleton, entry_reads}

module _ (Σ Σ' : Signature) (ok : IsSignature Σ) (S : ℕ → Bool) (x : Extends S Σ Σ') (W : List Block) (typed : AreTypedBlocks Σ W) (first : ℕ) (free : IsFreeFrom Σ first) (C : NumberedCase) (tv : AreTypedVariables Σ first W C) {G : List LfType} (w : World Σ' W S G) (θ : ℕ → ℕ → Image) (σ : ℕ → Image) (inst : IsNumberedInstance w first C θ σ) where
  abbrev X : List LfType
  X = C.variables

  abbrev Bs : List Block
  Bs = blocks_of C.blocks

  abbrev Σ₁ : Signature
  Σ₁ = with_entries Σ first Bs

  abbrev f : ℕ → Option (ℕ × ℕ)
  f = entry_reading first Bs θ (length X)

  abbrev o : ℕ → Option Spine
  o = own_terms first C.blocks

  abbrev κ' : HeadSkeletons
  κ' = constant_skeletons Σ'

  abbrev Θ : List Skeleton
  Θ = context_skeletons (onto X G)

  abbrev known : IsSignature Σ₁
  known = ok₁ Σ Σ' ok S x W typed first free C tv w θ σ inst

  -- All block variables
  abbrev Fact : ℕ → BlockVariable → Type 0
  Fact k b = Member b.block W × AreSomeTerms Σ₁ X b.block.some b.terms × SpineOnOwnTerms o b.terms × InstanceIn w b.block (θ k) × (some_spine b.block.some (behind_entries b.block.entries (θ k)) ≡ substitute_spine reduce σ (read_spine f b.terms))

  facts : (k : ℕ) (bs : List BlockVariable) → AreTypedBlockVariables Σ₁ W X o bs → AreInstances w f σ θ k bs → EachBlock Fact k bs
  facts k [] t i = tt
  facts k (b ∷ bs) (m, u, p, t) (i, e, is) = ((m, u, p, i, e), facts (suc k) bs t is)

  -- An entry constant, with all that is known of it
  module _ (c : ℕ) (e : EntryConstant) (q : entry_constant zero first Bs c ≡ Some e) where
    place : Found Fact zero first C.blocks c e
    place = entry_found Fact zero first C.blocks c e q (facts zero C.blocks tv.blocks inst.instances)

    among_block : PlacedAmong e.number place.variable.block e.from zero place.variable.block.entries c e
    among_block = placed_among e.number place.variable.block e.from zero place.variable.block.entries c e place.among

    no_place : (j : ℕ) → zero + j ≡ j
    no_place j = omega arith

    found : (later : List LfType) (E : LfType) (es : List LfType) → onto later (E ∷ es) ≡ place.variable.block.entries → entry_constant zero first Bs (e.from + length es) ≡ Some (record { number = e.number; block = place.variable.block; from = e.from; place = place_of later; entry = E; before = es })
    found later E es r = place.others (e.from + length es) (record { number = e.number; block = place.variable.block; from = e.from; place = place_of later; entry = E; before = es })
        (ap (λ ds. entry_among e.number place.variable.block e.from zero ds (e.from + length es)) (sym r) ∙ among_at e.number place.variable.block e.from zero later E es ∙ ap (λ j. Some (record { number = e.number; block = place.variable.block; from = e.from; place = j; entry = E; before = es })) (no_place (place_of later)))

    variable_is : (u : ℕ) × (θ e.number (place_of among_block.later) ≡ keep u)
    variable_is = entry_is Σ' x.ok w place.variable.block (θ e.number) place.fact.3 among_block.later e.entry e.before among_block.entries

    same_reading : read_entry θ (length X) (Some e) ≡ Some (length place.variable.block.some, variable_is.0 + length X)
    same_reading = ap₂ (λ (B : Block) v. Some (length B.some, v)) among_block.block (ap (variable_past (length X)) (ap (θ e.number) (among_block.place ∙ no_place (place_of among_block.later)) ∙ variable_is.1))

    same_terms : terms_of_entry C.blocks (Some e) ≡ Some place.variable.terms
    same_terms = ap (terms_at C.blocks) (place.number ∙ no_place place.index) ∙ place.terms

    same_type : entry_constant_type e.from place.variable.block.some e.before e.entry ≡ entry_constant_type e.from e.block.some e.before e.entry
    same_type = ap (λ (B : Block). entry_constant_type e.from B.some e.before e.entry) (sym among_block.block)

    entry_heads : ReadsSkeleton κ' Θ (read_entry θ (length X) (Some e)) (terms_of_entry C.blocks (Some e)) c (skeleton (entry_constant_type e.from e.block.some e.before e.entry))
    entry_heads =
        subst (λ z. ReadsSkeleton κ' Θ z (terms_of_entry C.blocks (Some e)) c (skeleton (entry_constant_type e.from e.block.some e.before e.entry))) (sym same_reading)
        (subst (λ z. ReadsSkeleton κ' Θ (Some (length place.variable.block.some, variable_is.0 + length X)) z c (skeleton (entry_constant_type e.from e.block.some e.before e.entry))) (sym same_terms)
        (subst (λ P. ReadsSkeleton κ' Θ (Some (length place.variable.block.some, variable_is.0 + length X)) (Some place.variable.terms) c (skeleton P)) same_type
        (entry_skeleton Σ Σ' ok S x W typed first free C tv w θ σ inst e.number place.variable.block e.from place.variable.terms place.fact.1.0 (typed place.variable.block place.fact.0) place.fact.1.1 place.fact.1.2 place.fact.2 place.fact.3 place.fact.4 found among_block.later e.entry e.before among_block.entries variable_is.0 variable_is.1)))

    entry_constants : Reads (constant_skeletons Σ₁) κ' (λ j t q. none_some q) Θ f o → ReadsConstant Σ Σ₁ Σ' ok known x.ok x.types_stay X G f σ Θ (entry_constant_type e.from e.block.some e.before e.entry) c (read_entry θ (length X) (Some e)) (terms_of_entry C.blocks (Some e))
    entry_constants heads =
        subst (λ z. ReadsConstant Σ Σ₁ Σ' ok known x.ok x.types_stay X G f σ Θ (entry_constant_type e.from e.block.some e.before e.entry) c z (terms_of_entry C.blocks (Some e))) (sym same_reading)
        (subst (λ z. ReadsConstant Σ Σ₁ Σ' ok known x.ok x.types_stay X G f σ Θ (entry_constant_type e.from e.block.some e.before e.entry) c (Some (length place.variable.block.some, variable_is.0 + length X)) z) (sym same_terms)
        (subst (λ P. ReadsConstant Σ Σ₁ Σ' ok known x.ok x.types_stay X G f σ Θ P c (Some (length place.variable.block.some, variable_is.0 + length X)) (Some place.variable.terms)) same_type
        (entry_reads Σ Σ' ok S x W typed first free C tv w θ σ inst e.number place.variable.block e.from place.variable.terms place.fact.1.0 (typed place.variable.block place.fact.0) place.fact.1.1 place.fact.1.2 place.fact.2 place.fact.3 place.fact.4 found heads among_block.later e.entry e.before among_block.entries variable_is.0 variable_is.1)))

  -- the constants of the signature with entries
  type_cases : (c : ℕ) (P : LfType) → Σ₁.types c ≡ Some P → (Σ.types c ≡ Some P) ⊎ (entry_type (entry_constant zero first Bs c) ≡ Some P)
  type_cases c P e = else_cases (Σ.types c) (entry_type (entry_constant zero first Bs c)) P e

  head_entry : (c : ℕ) (P : LfType) (y : Option EntryConstant) → entry_constant zero first Bs c ≡ y → entry_type y ≡ Some P → ReadsSkeleton κ' Θ (read_entry θ (length X) y) (terms_of_entry C.blocks y) c (skeleton P)
  head_entry c P None q r = absurd (none_some r)
  head_entry c P (Some e) q r = subst (λ Q. ReadsSkeleton κ' Θ (read_entry θ (length X) (Some e)) (terms_of_entry C.blocks (Some e)) c (skeleton Q)) (some_same r) (entry_heads c e q)

  pub heads : Reads (constant_skeletons Σ₁) κ' (λ j t q. none_some q) Θ f o
  heads c t g = typed_constant (Σ₁.types c) refl g
    where
      typed_constant : (y : Option LfType) → Σ₁.types c ≡ y → type_skeleton y ≡ Some t → ReadsSkeleton κ' Θ (f c) (o c) c t
      typed_constant None q r = absurd (none_some r)
      typed_constant (Some P) q r = subst (ReadsSkeleton κ' Θ (f c) (o c) c) (some_same r) (by (type_cases c P q))
        where
          by : (Σ.types c ≡ Some P) ⊎ (entry_type (entry_constant zero first Bs c) ≡ Some P) → ReadsSkeleton κ' Θ (f c) (o c) c (skeleton P)
          by (inl old) = subst (λ z. ReadsSkeleton κ' Θ z (o c) c (skeleton P)) (sym (old_none Σ Σ' ok S x W typed first free C tv w θ σ inst c (P, old))) (ap type_skeleton (x.types_stay c P old))
          by (inr new) = head_entry c P (entry_constant zero first Bs c) refl new

  constant_entry : (c : ℕ) (P : LfType) (y : Option EntryConstant) → entry_constant zero first Bs c ≡ y → entry_type y ≡ Some P → ReadsConstant Σ Σ₁ Σ' ok known x.ok x.types_stay X G f σ Θ P c (read_entry θ (length X) y) (terms_of_entry C.blocks y)
  constant_entry c P None q r = absurd (none_some r)
  constant_entry c P (Some e) q r = subst (λ Q. ReadsConstant Σ Σ₁ Σ' ok known x.ok x.types_stay X G f σ Θ Q c (read_entry θ (length X) (Some e)) (terms_of_entry C.blocks (Some e))) (some_same r) (entry_constants c e q heads)

  constants : (c : ℕ) (P : LfType) → Σ₁.types c ≡ Some P → ReadsConstant Σ Σ₁ Σ' ok known x.ok x.types_stay X G f σ Θ P c (f c) (o c)
  constants c P q = by (type_cases c P q)
    where
      by : (Σ.types c ≡ Some P) ⊎ (entry_type (entry_constant zero first Bs c) ≡ Some P) → ReadsConstant Σ Σ₁ Σ' ok known x.ok x.types_stay X G f σ Θ P c (f c) (o c)
      by (inl old) = subst (λ z. ReadsConstant Σ Σ₁ Σ' ok known x.ok x.types_stay X G f σ Θ P c z (o c)) (sym (old_none Σ Σ' ok S x W typed first free C tv w θ σ inst c (P, old))) old
      by (inr new) = constant_entry c P (entry_constant zero first Bs c) refl new

  family_more : (a : ℕ) (t : Skeleton) → family_skeletons Σ₁ a ≡ Some t → family_skeletons Σ' a ≡ Some t
  family_more a t q = by (Σ.kinds a) refl q
    where
      by : (y : Option Kind) → Σ.kinds a ≡ y → family_skeleton a y ≡ Some t → family_skeletons Σ' a ≡ Some t
      by None e r = absurd (none_some r)
      by (Some K) e r = ap (family_skeleton a) (x.kinds_stay a K e) ∙ r

  pub type_known : (A : LfType) → IsType Σ₁ X A → TypeOnOwnTerms o A → TypeBySkeletons (family_skeletons Σ') κ' Θ (read_type f A)
  type_known A t own = read_type_has_skeletons (constant_skeletons Σ₁) κ' (λ j u q. none_some q) (family_skeletons Σ₁) (family_skeletons Σ') (context_skeletons X) Θ f o A family_more (inside_onto X G) heads (type_by_skeletons Σ₁ X A t) own

  -- THE reading
  pub reads_into : ReadsInto Σ Σ₁ Σ' ok known x.ok x.types_stay X G f o σ Θ
  reads_into = record {
    inside = inside_onto X G;
    fits = fits Σ Σ' ok S x W typed first free C tv w θ σ inst;
    heads = heads;
    target = skeleton_context_of Σ' x.ok G (world_is_context w);
    source = λ i A g. type_known A (declared_is_type Σ₁ known X i A tv.variables g) (tv.on_own_terms i A g);
    variables = values_typed Σ' x.ok G first Bs θ X σ inst.values;
    old = old_none Σ Σ' ok S x W typed first free C tv w θ σ inst;
    constants = constants;
  }

pub reading_keeps_typing : ReadingKeepsTyping
reading_keeps_typing Σ Σ' ok S x W typed first free C tv G w θ σ inst M A t own m p =
    let Θ : List Skeleton = context_skeletons (onto C.variables G) in
    reads_typed Σ (with_entries Σ first (blocks_of C.blocks)) Σ' ok (ok₁ Σ Σ' ok S x W typed first free C tv w θ σ inst) x.ok x.types_stay C.variables G (entry_reading first (blocks_of C.blocks) θ (length C.variables)) (own_terms first C.blocks) σ Θ (reads_into Σ Σ' ok S x W typed first free C tv w θ σ inst) M A (type_known Σ Σ' ok S x W typed first free C tv w θ σ inst A t own) m p
