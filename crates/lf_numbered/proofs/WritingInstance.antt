-- Each ground instance with block variables apart can be written.
use Rattle.std.proofs.Common.{◌≡◌, ℕ, zero, List, [], ◌∷◌, ◌+◌, length, Option, Some, None, inl, inr, refl, sym, ap, ◌∙◌, subst, true≢false}
use Rattle.std.specs.Prelude.{Bool, true, ◌⊎◌}
use Rattle.lf.specs.Syntax.{constant, LfType, skeleton}
use Rattle.lf.specs.Substitution.{Image, keep, put, substitute_spine, substitute_image, reduce, after}
use Rattle.lf.specs.Eta.{eta_expand}
use Rattle.lf.specs.SkeletonTyping.{SubstitutionBySkeletons}
use Rattle.lf.specs.Skeletons.{constant_skeletons, context_skeletons}
use Rattle.lf.specs.Typing.{Signature, TypeAt, IsTypedSubstitution, IsType, IsSignature}
use Rattle.lf.specs.Variables.{onto}
use Rattle.lf.specs.Subordination.{Block, AreTypedBlocks}
use Rattle.lf.specs.Worlds.{World}
use Rattle.lf.proofs.Growth.{growth_keeps_types, growth_keeps_kinds}
use Rattle.lf.proofs.Substitution.{typed_substitution_by_skeletons}
use Rattle.lf_checks.specs.Clause.{among}
use Rattle.lf_cases.specs.Case.{behind_entries}
use Rattle.lf_cases.specs.Cover.{InstanceIn, place_of}
use Rattle.lf_cases.proofs.Instances.{instance_typed}
use Rattle.lf_coverage.proofs.BeforeEntry.{behind_after}
use Rattle.lf_coverage.proofs.Parts.{none_some}
use Rattle.lf_coverage.proofs.SameInstance.{instance_unique}
use Rattle.lf_numbered.specs.EntryConstants.{EntryConstant, entry_constant, entry_images, entry_type, with_entries}
use Rattle.lf_numbered.specs.NewInstance.{AreApart}
use Rattle.lf_numbered.specs.NumberedCase.{NumberedCase, some_spine}
use Rattle.lf_numbered.specs.NumberedInstance.{block_at}
use Rattle.lf_numbered.specs.OwnTerms.{BlockVariable, blocks_of}
use Rattle.lf_numbered.specs.Writing.{IsEntryVariable, IsWriting}
use Rattle.lf_numbered.specs.WritingLaws.{IsInstanceWithRoom, EntriesExtend, InstanceIsWritten}
use Rattle.lf_numbered.proofs.EntrySignature.{else_first, else_second, else_cases, grown_image}
use Rattle.lf_numbered.proofs.EntryValues.{put_some}
use Rattle.lf_numbered.proofs.OwnTerms.{entry_from}
use Rattle.lf_numbered.proofs.ReadBlocks.{ok₁}
use Rattle.lf_numbered.proofs.WritingBuild.{Stays, IsChosen, Result, build}
use Rattle.lf_numbered.proofs.WritingChoice.{choose, HasConstants, from_is, entry_below, choice_sound, choice_complete, instance_of}
use Rattle.lf_numbered.proofs.WritingTyped.{HaveTypes, behind_typed}
use Rattle.lf_numbered.proofs.WritingValues.{AreWritten, terms_behind, written_at}
use mathlib.Core.Path.{fun_ext}

pub some_among : (later : List LfType) (E : LfType) (ds : List LfType) → among (onto later (E ∷ ds)) zero ≡ true
some_among [] E ds = refl
some_among (D ∷ later) E ds = refl

module _ (Σ Σ' : Signature) {W : List Block} {S : ℕ → Bool} {G : List LfType} (w : World Σ' W S G) (first : ℕ) (C : NumberedCase) (θ : ℕ → ℕ → Image) (σ : ℕ → Image) (r : IsInstanceWithRoom Σ w first C θ σ) where
  abbrev pub Σ₁ : Signature
  Σ₁ = with_entries Σ first (blocks_of C.blocks)

  abbrev pub Σe : Signature
  Σe = with_entries Σ' first (blocks_of C.blocks)

  pub case_signature : IsSignature (with_entries Σ first (blocks_of C.blocks))
  case_signature = ok₁ Σ Σ' r.signature S r.extends W r.blocks first r.free C r.variables w θ σ r.is_instance

  -- an entry constant is none of the extension
  pub entry_free : (c : ℕ) (e : EntryConstant) → entry_constant zero first (blocks_of C.blocks) c ≡ Some e → Σ'.types c ≡ None
  entry_free c e q = r.room c (entry_from zero first (blocks_of C.blocks) c e q) (entry_below zero first (blocks_of C.blocks) c e q)

  pub entry_has_type : (c : ℕ) (e : EntryConstant) → entry_constant zero first (blocks_of C.blocks) c ≡ Some e → (with_entries Σ' first (blocks_of C.blocks)).types c ≡ entry_type (Some e)
  entry_has_type c e q = else_second (Σ'.types c) (entry_type (entry_constant zero first (blocks_of C.blocks) c)) (entry_type (Some e)) (entry_free c e q) (ap entry_type q)

  entry_typed : (c : ℕ) (A : LfType) (x : Option EntryConstant) → entry_constant zero first (blocks_of C.blocks) c ≡ x → entry_type x ≡ Some A → (with_entries Σ' first (blocks_of C.blocks)).types c ≡ Some A
  entry_typed c A None q e = absurd (none_some e)
  entry_typed c A (Some x) q e = entry_has_type c x q ∙ e

  pub types_more : (c : ℕ) (A : LfType) → (with_entries Σ first (blocks_of C.blocks)).types c ≡ Some A → (with_entries Σ' first (blocks_of C.blocks)).types c ≡ Some A
  types_more c A e = by (else_cases (Σ.types c) (entry_type (entry_constant zero first (blocks_of C.blocks) c)) A e)
    where
      by : (Σ.types c ≡ Some A) ⊎ (entry_type (entry_constant zero first (blocks_of C.blocks) c) ≡ Some A) → (with_entries Σ' first (blocks_of C.blocks)).types c ≡ Some A
      by (inl q) = else_first (Σ'.types c) (entry_type (entry_constant zero first (blocks_of C.blocks) c)) A (r.extends.types_stay c A q)
      by (inr q) = entry_typed c A (entry_constant zero first (blocks_of C.blocks) c) refl q

  pub own_types : (c : ℕ) (A : LfType) → Σ'.types c ≡ Some A → (with_entries Σ' first (blocks_of C.blocks)).types c ≡ Some A
  own_types c A e = else_first (Σ'.types c) (entry_type (entry_constant zero first (blocks_of C.blocks) c)) A e

  new_typed : (c : ℕ) (A : LfType) (x : Option EntryConstant) → entry_constant zero first (blocks_of C.blocks) c ≡ x → entry_type x ≡ Some A → IsType (with_entries Σ' first (blocks_of C.blocks)) [] A
  new_typed c A None q e = absurd (none_some e)
  new_typed c A (Some x) q e = growth_keeps_types Σ₁ Σe types_more r.extends.kinds_stay [] A (case_signature.types_ok c A (else_second (Σ.types c) (entry_type (entry_constant zero first (blocks_of C.blocks) c)) (Some A) (r.free.types_free c (entry_from zero first (blocks_of C.blocks) c x q)) (ap entry_type q ∙ e)))

  pub written_signature : IsSignature (with_entries Σ' first (blocks_of C.blocks))
  written_signature = record { types_ok = types; kinds_ok = λ a K e. growth_keeps_kinds Σ' Σe own_types (λ b L q. q) [] K (r.extends.ok.kinds_ok a K e) }
    where
      types : (c : ℕ) (A : LfType) → (with_entries Σ' first (blocks_of C.blocks)).types c ≡ Some A → IsType (with_entries Σ' first (blocks_of C.blocks)) [] A
      types c A e = by (else_cases (Σ'.types c) (entry_type (entry_constant zero first (blocks_of C.blocks) c)) A e)
        where
          by : (Σ'.types c ≡ Some A) ⊎ (entry_type (entry_constant zero first (blocks_of C.blocks) c) ≡ Some A) → IsType (with_entries Σ' first (blocks_of C.blocks)) [] A
          by (inl q) = growth_keeps_types Σ' Σe own_types (λ b L p. p) [] A (r.extends.ok.types_ok c A q)
          by (inr q) = new_typed c A (entry_constant zero first (blocks_of C.blocks) c) refl q

  -- each block of the worlds is typed over the extension
  pub blocks_more : AreTypedBlocks Σ' W
  blocks_more B m = Rattle.lf_numbered.proofs.EntrySignature.grown_contexts Σ Σ' r.extends.types_stay r.extends.kinds_stay (onto B.entries B.some) (r.blocks B m)

  pub instance_at : (j : ℕ) (b : BlockVariable) → block_at C.blocks j ≡ Some b → InstanceIn w b.block (θ (zero + j)) × (some_spine b.block.some (behind_entries b.block.entries (θ (zero + j))) ≡ substitute_spine reduce σ (Rattle.lf_numbered.specs.Reading.read_spine (Rattle.lf_numbered.specs.Reading.entry_reading first (blocks_of C.blocks) θ (length C.variables)) b.terms))
  instance_at j b e = instance_of w (Rattle.lf_numbered.specs.Reading.entry_reading first (blocks_of C.blocks) θ (length C.variables)) σ θ zero C.blocks r.is_instance.instances j b e

  abbrev choice : (ℕ → Image) → Option ℕ
  choice φ = choose θ zero first (blocks_of C.blocks) φ

  -- the block variable of what is chosen stands for the instance
  chosen_is : (B : Block) (φ : ℕ → Image) → InstanceIn w B φ → among B.entries zero ≡ true → (m : ℕ) → choose θ zero first (blocks_of C.blocks) φ ≡ Some m → (j : ℕ) × (b : BlockVariable) × HasConstants zero first C.blocks j b m × (B ≡ b.block) × (φ ≡ θ (zero + j))
  chosen_is B φ i a m q =
      let (j, b, h, a', v, s, t) = choice_sound θ zero first C.blocks φ m q in
      let (x, y) = instance_unique Σ' w b.block B (θ (zero + j)) φ (instance_at j b h.at).0 i zero zero v a' a s t in
      (j, b, h, x, y)

  have_types : (B : Block) (φ : ℕ → Image) → InstanceIn w B φ → (m : ℕ) → choose θ zero first (blocks_of C.blocks) φ ≡ Some m → HaveTypes (with_entries Σ' first (blocks_of C.blocks)) m B.some B.entries
  have_types B φ i m q later E ds e =
      let (j, b, h, x, y) = chosen_is B φ i (subst (λ es. among es zero ≡ true) e (some_among later E ds)) m q in
      let p = h.constants later E ds (e ∙ ap (λ (D : Block). D.entries) x) in
      entry_has_type (m + length ds) (record { number = zero + j; block = b.block; from = m; place = place_of later; entry = E; before = ds }) p ∙ ap (λ (D : Block). Some (Rattle.lf_numbered.specs.EntryConstants.entry_constant_type m D.some ds E)) (sym x)

  result : Result Σ' Σe r.extends.ok written_signature own_types (λ a K e. e) blocks_more w choice
  result = build Σ' Σe r.extends.ok written_signature own_types (λ a K e. e) blocks_more w choice have_types

  abbrev ρ : ℕ → Image
  ρ = result.written.values

  -- the `some` terms of an instance, written
  terms_written : (B : Block) (φ : ℕ → Image) → InstanceIn w B φ → terms_behind B.some B.entries (after result.written.values φ) ≡ substitute_spine reduce result.written.values (some_spine B.some (behind_entries B.entries φ))
  terms_written B φ i =
      let κ = constant_skeletons Σe in
      let t : IsTypedSubstitution Σe (onto B.entries B.some) G φ = λ j A g. grown_image Σ' Σe own_types (λ a K e. e) G (φ j) (Rattle.lf.specs.Substitution.substitute_type reduce φ A) ((instance_typed Σ' r.extends.ok w B φ i).typed.typed j A g refl) in
      let k : SubstitutionBySkeletons κ (context_skeletons B.some) (context_skeletons G) (behind_entries B.entries φ) = typed_substitution_by_skeletons Σe written_signature B.some G (behind_entries B.entries φ) (behind_typed Σe written_signature B.entries B.some G φ t) in
      ap (some_spine B.some) (fun_ext (behind_after B.entries result.written.values φ)) ∙ sym (put_some κ B.some (context_skeletons G) (context_skeletons result.written.left) (behind_entries B.entries φ) result.written.values k (typed_substitution_by_skeletons Σe written_signature G result.written.left result.written.values result.written.typed))

  module _ (apart : AreApart C θ) where
    entries : (c : ℕ) (e : EntryConstant) → entry_constant zero first (blocks_of C.blocks) c ≡ Some e → (v : ℕ) → θ e.number e.place ≡ keep v → result.written.values v ≡ put (skeleton e.entry) (eta_expand (skeleton e.entry) (constant c) (substitute_spine reduce result.written.values (some_spine e.block.some (behind_entries e.block.entries (θ e.number)))))
    entries c e q v p =
        let (j, b, at, num, blk, frm, cn, later, en, pl) = from_is zero first C.blocks c e q in
        let i : InstanceIn w b.block (θ (zero + j)) = (instance_at j b at).0 in
        let a : among b.block.entries zero ≡ true = subst (λ es. among es zero ≡ true) en (some_among later e.entry e.before) in
        let (u, f) = (instance_typed Σ' r.extends.ok w b.block (θ (zero + j)) i).kept zero a in
        let (m, z) = choice_complete θ zero first C.blocks (θ (zero + j)) j u b at a f f in
        let (j', b', h, x, y) = chosen_is b.block (θ (zero + j)) i a m z in
        let same : j ≡ j' = apart j j' b b' at h.at x (ap θ (left j) ∙ y ∙ ap θ (sym (left j'))) in
        let mf : m ≡ e.from = h.from ∙ sym (frm ∙ ap (Rattle.lf_numbered.specs.NumberedInstance.first_constant first (blocks_of C.blocks)) same) in
        let w0 : AreWritten m b.block.some b.block.entries (after result.written.values (θ (zero + j))) = result.chosen b.block (θ (zero + j)) i m z in
        let U = terms_behind b.block.some b.block.entries (after result.written.values (θ (zero + j))) in
        sym (ap (substitute_image result.written.values) (ap (λ k. θ k (place_of later)) (sym num) ∙ ap (θ e.number) (sym pl) ∙ p))
        ∙ w0 (place_of later)
        ∙ ap (λ es. entry_images m U es (behind_entries b.block.entries (after result.written.values (θ (zero + j)))) (place_of later)) (sym en)
        ∙ written_at m U later e.entry e.before (behind_entries b.block.entries (after result.written.values (θ (zero + j))))
        ∙ ap (λ k. put (skeleton e.entry) (eta_expand (skeleton e.entry) (constant k) U)) (ap (λ k. k + length e.before) mf ∙ sym cn)
        ∙ ap (λ V. put (skeleton e.entry) (eta_expand (skeleton e.entry) (constant c) V)) (terms_written b.block (θ (zero + j)) i ∙ ap (λ k. substitute_spine reduce result.written.values (some_spine b.block.some (behind_entries b.block.entries (θ k)))) (sym num) ∙ ap (λ (D : Block). substitute_spine reduce result.written.values (some_spine D.some (behind_entries D.entries (θ e.number)))) (sym blk))
      where
        left : (j : ℕ) → j ≡ zero + j
        left j = omega Rattle.std.proofs.Common.arith

    others : (v : ℕ) (A : LfType) → TypeAt G v A → IsEntryVariable first (blocks_of C.blocks) θ v ⊎ ((u : ℕ) × (result.written.values v ≡ keep u) × (result.written.back u ≡ v))
    others v A g = by (result.each v A g)
      where
        by : IsChosen Σ' Σe r.extends.ok written_signature own_types (λ a K e. e) blocks_more w choice v ⊎ Stays Σ' Σe r.extends.ok written_signature own_types (λ a K e. e) result.written v → IsEntryVariable first (blocks_of C.blocks) θ v ⊎ ((u : ℕ) × (result.written.values v ≡ keep u) × (result.written.back u ≡ v))
        by (inl (B, φ, i, m, q, later, E, ds, e, p)) =
            let (j, b, h, x, y) = chosen_is B φ i (subst (λ es. among es zero ≡ true) e (some_among later E ds)) m q in
            inl (m + length ds, record { number = zero + j; block = b.block; from = m; place = place_of later; entry = E; before = ds }, h.constants later E ds (e ∙ ap (λ (D : Block). D.entries) x), ap (λ ψ. ψ (place_of later)) (sym y) ∙ p)
        by (inr k) = inr k

    written : (F : List LfType) × (ρ : ℕ → Image) × (back : ℕ → ℕ) × IsWriting Σ' first (blocks_of C.blocks) θ G F ρ back
    written = (result.written.left, result.written.values, result.written.back, record { context = result.written.context; typed = result.written.typed; entries = entries; others = others; all = result.written.all })

pub entries_extend : EntriesExtend
entries_extend Σ Σ' W S G w first C θ σ r = record {
  ok = written_signature Σ Σ' w first C θ σ r;
  types_stay = types_more Σ Σ' w first C θ σ r;
  kinds_stay = r.extends.kinds_stay;
  no_new = λ c A e n. absurd (true≢false (sym n));
}

pub instance_is_written : InstanceIsWritten
instance_is_written Σ Σ' W S G w first C θ σ r apart = written Σ Σ' w first C θ σ r apart
