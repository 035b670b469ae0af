-- Terms over entry constants in the written context are read back as the reading of constants asks; so what is typed there, on own terms, is typed when it is read back.
use Rattle.std.proofs.Common.{◌≡◌, ℕ, zero, suc, List, [], ◌∷◌, ◌+◌, length, Option, Some, inl, inr, refl, sym, ap, ◌∙◌, subst}
use Rattle.std.specs.Prelude.{Bool, ◌⊎◌}
use Rattle.lf.specs.Syntax.{Term, Spine, LfType, Skeleton, skeleton, rename_type}
use Rattle.lf.specs.Substitution.{Image, keep, substitute_spine, substitute_image, substitute_type, reduce, after}
use Rattle.lf.specs.SkeletonTyping.{SkeletonAt}
use Rattle.lf.specs.Skeletons.{constant_skeletons, family_skeletons, context_skeletons}
use Rattle.lf.specs.Typing.{Signature, TypeAt, ImageHasType, IsTypedSubstitution, HasType, SpineType, IsType, IsContext, IsSignature}
use Rattle.lf.specs.Variables.{onto}
use Rattle.lf.specs.Subordination.{Block}
use Rattle.lf.specs.Worlds.{World}
use Rattle.lf.proofs.Decidability.{variable_type_unique}
use Rattle.lf.proofs.SkeletonTypes.{substitutions_compose_type}
use Rattle.lf.proofs.Substitution.{substitution_keeps_types, typed_substitution_by_skeletons}
use Rattle.lf.proofs.ToSkeletons.{skeleton_has_variable, type_by_skeletons, variable_has_skeleton}
use Rattle.lf.proofs.TypeLaws.{skeleton_substituted}
use Rattle.lf.proofs.Weakening.{declared_is_type}
use Rattle.lf.proofs.Worlds.{world_is_context}
use Rattle.lf_checks.specs.ModeForms.{argument_count}
use Rattle.lf_cases.specs.Case.{behind_entries}
use Rattle.lf_cases.specs.Cover.{InstanceIn, place_of, before}
use Rattle.lf_cases.proofs.BlockEntries.{onto_onto, drop_typed}
use Rattle.lf_cases.proofs.Instances.{instance_typed}
use Rattle.lf_coverage.proofs.BeforeEntry.{before_next, before_first, before_some, behind_before, behind_after, before_typed}
use Rattle.lf_coverage.proofs.NearOrFar.{onto_cases}
use Rattle.lf_coverage.proofs.Offered.{length_kept as count_put}
use Rattle.lf_coverage.proofs.Transfer.{onto_skeleton}
use Rattle.lf_numbered.specs.EntryConstants.{EntryConstant, entry_constant, entry_constant_type, entry_images, with_entries}
use Rattle.lf_numbered.specs.NumberedCase.{NumberedCase, some_spine}
use Rattle.lf_numbered.specs.OwnTerms.{blocks_of, own_terms, OnOwnTerms, TypeOnOwnTerms, put_in_blocks}
use Rattle.lf_numbered.specs.OwnValuesReading.{EntryReadsBack, ReadsBack}
use Rattle.lf_numbered.specs.Reading.{read_type, read_entry, variable_past, entry_reading}
use Rattle.lf_numbered.specs.Writing.{IsWriting, back_over, read_back, read_type_back}
use Rattle.lf_numbered.specs.WritingLaws.{IsInstanceWithRoom, WrittenReadsBack}
use Rattle.lf_numbered.proofs.EntryPatternsTyped.{typed_at}
use Rattle.lf_numbered.proofs.EntryPlaces.{whole, entry_is, entry_type_at}
use Rattle.lf_numbered.proofs.EntrySignature.{grown_contexts, grown_image}
use Rattle.lf_numbered.proofs.EntryValues.{count_some, put_some}
use Rattle.lf_numbered.proofs.OwnValuesReading.{read_back_is_typed}
use Rattle.lf_numbered.proofs.ReadValues.{inside_onto}
use Rattle.lf_numbered.proofs.WritingBack.{back_near, back_far, within, old_none, type_back}
use Rattle.lf_numbered.proofs.WritingChoice.{from_is, has_constants}
use Rattle.lf_numbered.proofs.WritingInstance.{written_signature, own_types, blocks_more, entry_has_type}
use Rattle.lf_numbered.proofs.WritingOwn.{entry_instance, entry_own, type_own}
use Rattle.lf_numbered.proofs.WritingRead.{writing_fits, itself}
use Rattle.lf_numbered.proofs.WritingReadTyped.{writing_typed}
use Rattle.lf_numbered.proofs.WritingTyped.{HaveTypes, typed_after, entry_spine_typed}
use Rattle.lf_numbered.proofs.WritingValues.{AreWritten, terms_behind}
use mathlib.Core.Path.{fun_ext}

module _ (Σ Σ' : Signature) {W : List Block} {S : ℕ → Bool} {G : List LfType} (w : World Σ' W S G) (first : ℕ) (C : NumberedCase) (θ : ℕ → ℕ → Image) (σ : ℕ → Image) (r : IsInstanceWithRoom Σ w first C θ σ) (F : List LfType) (ρ : ℕ → Image) (back : ℕ → ℕ) (h : IsWriting Σ' first (blocks_of C.blocks) θ G F ρ back) where
  abbrev Σe : Signature
  Σe = with_entries Σ' first (blocks_of C.blocks)

  abbrev ok : IsSignature Σe
  ok = written_signature Σ Σ' w first C θ σ r

  abbrev fF : ℕ → Option (ℕ × ℕ)
  fF = entry_reading first (blocks_of C.blocks) θ (length F)

  abbrev oF : ℕ → Option Spine
  oF = own_terms first (put_in_blocks (after ρ σ) C.blocks)

  abbrev β : ℕ → ℕ
  β = back_over (length F) back

  abbrev Θ : List Skeleton
  Θ = context_skeletons (onto F G)

  more : (c : ℕ) (A : LfType) → Σ'.types c ≡ Some A → Σe.types c ≡ Some A
  more = own_types Σ Σ' w first C θ σ r

  context_more : IsContext Σe G
  context_more = grown_contexts Σ' Σe more (λ a K e. e) G (world_is_context w)

  -- a variable of F was one of G, of the type that is written so
  source_is : (i : ℕ) (B : LfType) → TypeAt F i B → (A : LfType) × TypeAt G (back i) A × (B ≡ substitute_type reduce ρ A)
  source_is i B g =
      let (A, k, q) = h.all i B g in
      (A, k, variable_type_unique F i B (substitute_type reduce ρ A) g (subst (λ y. ImageHasType Σe F y (substitute_type reduce ρ A)) q (h.typed (back i) A k)))

  is_type : (i : ℕ) (A : LfType) → TypeAt G i A → IsType Σ' G A
  is_type i A g = declared_is_type Σ' r.extends.ok G i A (world_is_context w) g

  fits : (i : ℕ) (t : Skeleton) → SkeletonAt (context_skeletons (onto F G)) i t → SkeletonAt (context_skeletons G) (β i) t
  fits i t g = by (onto_cases F G i t g)
    where
      by : SkeletonAt (context_skeletons F) i t ⊎ ((j : ℕ) × (i ≡ j + length F) × SkeletonAt (context_skeletons G) j t) → SkeletonAt (context_skeletons G) (β i) t
      by (inl k) =
          let (B, g, e) = skeleton_has_variable F i t k in
          let (A, a, q) = source_is i B g in
          subst (λ j. SkeletonAt (context_skeletons G) j t) (sym (back_near (length F) back i (within F i B g))) (subst (SkeletonAt (context_skeletons G) (back i)) (sym (ap skeleton q ∙ skeleton_substituted reduce ρ A) ∙ e) (variable_has_skeleton G (back i) A a))
      by (inr (j, e, k)) = subst (λ n. SkeletonAt (context_skeletons G) n t) (sym (ap β e ∙ back_far (length F) back j)) k

  -- the type of a variable of G, written and read back, is its type
  stands_at : (i j : ℕ) (A : LfType) → β i ≡ j → TypeAt G j A → TypeAt G (β i) (rename_type β (read_type fF (substitute_type reduce ρ A)))
  stands_at i j A e g = subst (TypeAt G (β i)) (sym (type_back Σ Σ' w first C θ σ r F ρ back h A (is_type j A g))) (subst (λ n. TypeAt G n A) (sym e) g)

  -- One entry
  module _ (c : ℕ) (e : EntryConstant) (q : entry_constant zero first (blocks_of C.blocks) c ≡ Some e) where
    at : InstanceIn w e.block (θ e.number) × (later : List LfType) × (onto later (e.entry ∷ e.before) ≡ e.block.entries) × (e.place ≡ place_of later)
    at = entry_instance Σ Σ' w first C θ σ r F ρ back h c e q

    abbrev later : List LfType
    later = at.1

    is_at : (u : ℕ) × (θ e.number (place_of later) ≡ keep u)
    is_at = entry_is Σ' r.extends.ok w e.block (θ e.number) at.0 later e.entry e.before at.2

    abbrev v : ℕ
    v = is_at.0

    placed : θ e.number e.place ≡ keep v
    placed = ap (θ e.number) at.3 ∙ is_at.1

    -- the type of its variable
    abbrev A0 : LfType
    A0 = substitute_type reduce (before later (θ e.number)) e.entry

    has_type : TypeAt G v A0
    has_type = entry_type_at Σ' r.extends.ok w e.block (θ e.number) at.0 later e.entry e.before at.2 v is_at.1

    abbrev U : Spine
    U = substitute_spine reduce ρ (some_spine e.block.some (behind_entries e.block.entries (θ e.number)))

    count : argument_count U ≡ length e.block.some
    count = count_put ρ (some_spine e.block.some (behind_entries e.block.entries (θ e.number))) ∙ count_some e.block.some (behind_entries e.block.entries (θ e.number))

    reading : fF c ≡ Some (length e.block.some, v + length F)
    reading = ap (read_entry θ (length F)) q ∙ ap (λ y. Some (length e.block.some, variable_past (length F) y)) placed

    abbrev P : LfType
    P = entry_constant_type e.from e.block.some e.before e.entry

    skeleton_here : SkeletonAt Θ (v + length F) (skeleton A0)
    skeleton_here = onto_skeleton F G v (skeleton A0) (variable_has_skeleton G v A0 has_type)

    -- the constants of the entries before it
    abbrev υ : ℕ → Image
    υ = after ρ (behind_entries e.block.entries (θ e.number))

    block_context : IsContext Σ' (onto e.block.entries e.block.some)
    block_context =
        let (j, b, p, num, blk, frm, cn, l, en, pl) = from_is zero first C.blocks c e q in
        let (m, a, o) = typed_at (with_entries Σ first (blocks_of C.blocks)) W C.variables (own_terms first C.blocks) C.blocks r.variables.blocks j b p in
        subst (λ (D : Block). IsContext Σ' (onto D.entries D.some)) (sym blk) (blocks_more Σ Σ' w first C θ σ r b.block m)

    others_are : (l : List LfType) (E : LfType) (ds : List LfType) → onto l (E ∷ ds) ≡ e.block.entries → entry_constant zero first (blocks_of C.blocks) (e.from + length ds) ≡ Some (record { number = e.number; block = e.block; from = e.from; place = place_of l; entry = E; before = ds })
    others_are l E ds z =
        let (j, b, p, num, blk, frm, cn, l0, en, pl) = from_is zero first C.blocks c e q in
        let (m, k) = has_constants zero first C.blocks j b p in
        let s : m ≡ e.from = k.from ∙ sym frm in
        ap (λ n. entry_constant zero first (blocks_of C.blocks) (n + length ds)) (sym s)
        ∙ k.constants l E ds (z ∙ ap (λ (D : Block). D.entries) blk)
        ∙ ap (λ n. Some (record { number = n; block = b.block; from = m; place = place_of l; entry = E; before = ds })) (sym num)
        ∙ ap (λ (D : Block). Some (record { number = e.number; block = D; from = m; place = place_of l; entry = E; before = ds })) (sym blk)
        ∙ ap (λ n. Some (record { number = e.number; block = e.block; from = n; place = place_of l; entry = E; before = ds })) s

    have : HaveTypes Σe e.from e.block.some e.block.entries
    have l E ds z = entry_has_type Σ Σ' w first C θ σ r (e.from + length ds) (record { number = e.number; block = e.block; from = e.from; place = place_of l; entry = E; before = ds }) (others_are l E ds z)

    have_before : HaveTypes Σe e.from e.block.some (e.entry ∷ e.before)
    have_before l E ds z = have (onto later l) E ds (onto_onto later l (E ∷ ds) ∙ ap (onto later) z ∙ at.2)

    values_written : (l : List LfType) (E : LfType) (ds : List LfType) → onto l (E ∷ ds) ≡ e.block.entries → (i : ℕ) → after ρ (before l (θ e.number)) i ≡ entry_images e.from U ds (after ρ (behind_entries e.block.entries (θ e.number))) i
    values_written l E [] z i = ap (substitute_image ρ) (sym (before_some l E (θ e.number) i) ∙ ap (λ es. behind_entries es (θ e.number) i) z)
    values_written l E (D ∷ ds) z zero =
        let l' : List LfType = onto l (E ∷ []) in
        let z' : onto l' (D ∷ ds) ≡ e.block.entries = onto_onto l (E ∷ []) (D ∷ ds) ∙ z in
        let (u, k) = entry_is Σ' r.extends.ok w e.block (θ e.number) at.0 l' D ds z' in
        ap (substitute_image ρ) (before_first l E (θ e.number) ∙ k) ∙ h.entries (e.from + length ds) (record { number = e.number; block = e.block; from = e.from; place = place_of l'; entry = D; before = ds }) (others_are l' D ds z') u k
    values_written l E (D ∷ ds) z (suc i) =
        let l' : List LfType = onto l (E ∷ []) in
        ap (substitute_image ρ) (sym (before_next l E (θ e.number) i)) ∙ values_written l' D ds (onto_onto l (E ∷ []) (D ∷ ds) ∙ z) i

    abbrev ψ : ℕ → Image
    ψ = after ρ (before later (θ e.number))

    terms_same : terms_behind e.block.some e.before ψ ≡ U
    terms_same =
        ap (some_spine e.block.some) (fun_ext (behind_after e.before ρ (before later (θ e.number))) ∙ ap (after ρ) (sym (behind_before later e.entry e.before (θ e.number)) ∙ ap (λ es. behind_entries es (θ e.number)) at.2))
        ∙ sym (put_some (constant_skeletons Σe) e.block.some (context_skeletons G) (context_skeletons F) (behind_entries e.block.entries (θ e.number)) ρ (typed_substitution_by_skeletons Σe ok e.block.some G (behind_entries e.block.entries (θ e.number)) (Rattle.lf_numbered.proofs.WritingTyped.behind_typed Σe ok e.block.entries e.block.some G (θ e.number) whole_typed)) (writing_fits Σ Σ' w first C θ σ r F ρ (itself h)))
      where
        whole_typed : IsTypedSubstitution Σe (onto e.block.entries e.block.some) G (θ e.number)
        whole_typed i A g = grown_image Σ' Σe more (λ a K z. z) G (θ e.number i) (substitute_type reduce (θ e.number) A) ((instance_typed Σ' r.extends.ok w e.block (θ e.number) at.0).typed.typed i A g refl)

    behind_same : behind_entries e.before ψ ≡ after ρ (behind_entries e.block.entries (θ e.number))
    behind_same = fun_ext (behind_after e.before ρ (before later (θ e.number))) ∙ ap (after ρ) (sym (behind_before later e.entry e.before (θ e.number)) ∙ ap (λ es. behind_entries es (θ e.number)) at.2)

    are_written : AreWritten e.from e.block.some e.before ψ
    are_written i = values_written later e.entry e.before at.2 i ∙ ap (λ V. entry_images e.from V e.before υ i) (sym terms_same) ∙ ap (λ χ. entry_images e.from (terms_behind e.block.some e.before ψ) e.before χ i) (sym behind_same)

    entry_context : IsContext Σe (onto (e.entry ∷ e.before) e.block.some)
    entry_context = let (a, b) = drop_typed Σe later e.entry (onto e.before e.block.some) (subst (IsContext Σe) (whole e.block later e.entry e.before at.2) (grown_contexts Σ' Σe more (λ a K z. z) (onto e.block.entries e.block.some) block_context)) in (a, b)

    before_here : IsTypedSubstitution Σe (onto e.before e.block.some) G (before later (θ e.number))
    before_here = before_typed Σe ok later e.entry (onto e.before e.block.some) G (θ e.number) (subst (λ D. IsTypedSubstitution Σe D G (θ e.number)) (whole e.block later e.entry e.before at.2) (λ i A g. grown_image Σ' Σe more (λ a K z. z) G (θ e.number i) (substitute_type reduce (θ e.number) A) ((instance_typed Σ' r.extends.ok w e.block (θ e.number) at.0).typed.typed i A g refl)))

    both_typed : IsTypedSubstitution Σe (onto e.before e.block.some) F ψ
    both_typed = typed_after Σe ok (onto e.before e.block.some) G F (before later (θ e.number)) ρ entry_context.0 context_more h.context before_here h.typed

    type_same : substitute_type reduce ψ e.entry ≡ substitute_type reduce ρ A0
    type_same = sym (substitutions_compose_type (family_skeletons Σe) (constant_skeletons Σe) (context_skeletons (onto e.before e.block.some)) (context_skeletons G) (context_skeletons F) (before later (θ e.number)) ρ e.entry (typed_substitution_by_skeletons Σe ok (onto e.before e.block.some) G (before later (θ e.number)) before_here) (writing_fits Σ Σ' w first C θ σ r F ρ (itself h)) (type_by_skeletons Σe (onto e.before e.block.some) e.entry entry_context.1))

    spine_here : SpineType Σe F U P (substitute_type reduce ρ A0)
    spine_here = subst (λ V. SpineType Σe F V P (substitute_type reduce ρ A0)) terms_same (subst (SpineType Σe F (terms_behind e.block.some e.before ψ) P) type_same (entry_spine_typed Σe ok e.from e.block.some e.before e.entry F ψ entry_context h.context have_before both_typed are_written))

    reads_entry : EntryReadsBack Σe F G Θ fF oF β c e
    reads_entry = record {
      terms = U;
      own = entry_own Σ Σ' w first C θ σ r F ρ back h c e q;
      count = count;
      variable = v + length F;
      is_read = reading;
      of_type = substitute_type reduce ρ A0;
      typed = spine_here;
      is_type = substitution_keeps_types Σe ok G F ρ A0 (writing_typed Σ Σ' w first C θ σ r F ρ (itself h)) (declared_is_type Σe ok G v A0 context_more has_type);
      of_own_type = type_own Σ Σ' w first C θ σ r F ρ back h A0 (is_type v A0 has_type);
      in_scope = subst (SkeletonAt Θ (v + length F)) (sym (skeleton_substituted reduce ρ A0)) skeleton_here;
      stands = stands_at (v + length F) v A0 (back_far (length F) back v) has_type;
    }

  own_type : (i : ℕ) (A : LfType) → TypeAt F i A → TypeOnOwnTerms oF A
  own_type i A g = let (Z, k, q) = source_is i A g in subst (TypeOnOwnTerms oF) (sym q) (type_own Σ Σ' w first C θ σ r F ρ back h Z (is_type (back i) Z k))

  variables : (i : ℕ) (A : LfType) → TypeAt F i A → TypeAt G (β i) (rename_type β (read_type fF A))
  variables i A g =
      let (Z, k, q) = source_is i A g in
      subst (λ B. TypeAt G (β i) (rename_type β (read_type fF B))) (sym q) (stands_at i (back i) Z (back_near (length F) back i (within F i A g)) k)

  pub reads_back : ReadsBack Σ' Σ' first (blocks_of C.blocks) F G fF oF (back_over (length F) back)
  reads_back = record {
    signature = ok;
    types_stay = λ c A e. e;
    kinds_stay = λ a K e. e;
    source = h.context;
    on_own_terms = own_type;
    target = world_is_context w;
    scope = context_skeletons (onto F G);
    inside = inside_onto F G;
    fits = fits;
    variables = variables;
    old = λ c A e. old_none Σ Σ' w first C θ σ r F ρ back h (length F) c (A, e);
    entries = reads_entry;
  }

  pub back_typed : (M : Term) (A : LfType) → IsType Σe F A → TypeOnOwnTerms oF A → HasType Σe F M A → OnOwnTerms oF M → HasType Σ' G (read_back first (blocks_of C.blocks) θ F back M) (read_type_back first (blocks_of C.blocks) θ F back A)
  back_typed M A t o m p = read_back_is_typed Σ' Σ' r.extends.ok r.extends.ok first (blocks_of C.blocks) F G fF oF β reads_back A t o M m p

pub written_reads_back : WrittenReadsBack
written_reads_back Σ Σ' W S G w first C θ σ r F ρ back h = reads_back Σ Σ' w first C θ σ r F ρ back h
