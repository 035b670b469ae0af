-- The written values are typed values of the free variables of a case, and stand on own terms.
use Rattle.std.proofs.Common.{◌≡◌, ℕ, zero, suc, List, [], ◌∷◌, ◌+◌, length, Option, Some, None, inl, inr, refl, sym, ap, ◌∙◌, subst, arith}
use Rattle.std.specs.Prelude.{Bool, true, false, cond, ◌<◌, ◌≤◌, ◌⊎◌}
use Rattle.lf.specs.Syntax.{Term, Spine, nil, LfType, skeleton}
use Rattle.lf.specs.Substitution.{Image, keep, put, substitute, substitute_spine, substitute_image, substitute_type, reduce, after}
use Rattle.lf.specs.Skeletons.{constant_skeletons, context_skeletons}
use Rattle.lf.specs.Typing.{Signature, TypeAt, ImageHasType, IsTypedSubstitution, HasType, IsType}
use Rattle.lf.specs.Variables.{onto, ImageUses, everything}
use Rattle.lf.specs.Subordination.{Block}
use Rattle.lf.specs.Worlds.{World}
use Rattle.lf.proofs.Closed.{agree, agree_type}
use Rattle.lf.proofs.Eta.{append_nil}
use Rattle.lf.proofs.Partial.{uses_all, uses_type_all}
use Rattle.lf.proofs.Substitution.{typed_substitution_by_skeletons}
use Rattle.lf_cases.specs.Case.{behind_entries}
use Rattle.lf_cases.specs.Cover.{InstanceIn, place_of}
use Rattle.lf_cases.proofs.Instances.{instance_typed}
use Rattle.lf_totality.proofs.OutputCases.{in_context, in_covers, in_type}
use Rattle.lf_coverage.proofs.Parts.{none_some}
use Rattle.lf_numbered.specs.EntryConstants.{EntryConstant, entry_constant, with_entries}
use Rattle.lf_numbered.specs.NumberedCase.{NumberedCase, some_spine, type_in}
use Rattle.lf_numbered.specs.NumberedInstance.{block_at}
use Rattle.lf_numbered.specs.OwnTerms.{BlockVariable, blocks_of, terms_at, terms_of_entry, own_terms, BeginsWith, OnOwnTerms, SpineOnOwnTerms, TypeOnOwnTerms, ImageOnOwnTerms, put_in_blocks}
use Rattle.lf_numbered.specs.Writing.{IsEntryVariable, IsWriting}
use Rattle.lf_numbered.specs.WritingLaws.{IsInstanceWithRoom, WrittenValuesAreTyped}
use Rattle.lf_numbered.proofs.EntryPatternsTyped.{terms_of_block}
use Rattle.lf_numbered.proofs.EntrySignature.{grown_image}
use Rattle.lf_numbered.proofs.EntryValues.{put_some}
use Rattle.lf_numbered.proofs.NumberedCallsOwn.{unmoved_spine, unmoved_type}
use Rattle.lf_numbered.proofs.OwnTerms.{substitute_own, put_in_own}
use Rattle.lf_numbered.proofs.Reading.{IsOld, typed_only, type_only}
use Rattle.lf_numbered.proofs.ReadValues.{values_typed}
use Rattle.lf_numbered.proofs.WritingAbove.{above, above_is, instance_above, free_own, free_own_type}
use Rattle.lf_numbered.proofs.OwnLong.{constant_own, some_all_own}
use Rattle.lf_numbered.proofs.WritingBack.{within}
use Rattle.lf_numbered.proofs.WritingChoice.{from_is}
use Rattle.lf_numbered.proofs.WritingInstance.{entry_free, instance_at, own_types, written_signature}
use Rattle.lf_numbered.proofs.WritingRead.{block_written, itself, writing_fits}
use Rattle.lf_numbered.proofs.WritingReadTyped.{value_is_typed}
use Rattle.lf_numbered.proofs.WritingTyped.{behind_typed}

behind_at : (es : List LfType) (φ : ℕ → Image) (i : ℕ) → behind_entries es φ i ≡ φ (i + length es)
behind_at [] φ i = ap φ (none i)
  where
    none : (i : ℕ) → i ≡ i + 0
    none i = omega arith
behind_at (E ∷ es) φ i = behind_at es (λ j. φ (suc j)) i ∙ ap φ (next i (length es))
  where
    next : (i n : ℕ) → suc (i + n) ≡ i + suc n
    next i n = omega arith

place_less : (later : List LfType) (E : LfType) (ds : List LfType) (i : ℕ) → place_of later < i + length (onto later (E ∷ ds))
place_less [] E ds i = omega arith
place_less (D ∷ later) E ds i = let l = place_less later E ds i in omega (arith, l)

module _ (Σ Σ' : Signature) {W : List Block} {S : ℕ → Bool} {G : List LfType} (w : World Σ' W S G) (first : ℕ) (C : NumberedCase) (θ : ℕ → ℕ → Image) (σ : ℕ → Image) (r : IsInstanceWithRoom Σ w first C θ σ) (F : List LfType) (ρ : ℕ → Image) (back : ℕ → ℕ) (h : IsWriting Σ' first (blocks_of C.blocks) θ G F ρ back) where
  abbrev pub oF : ℕ → Option Spine
  oF = own_terms first (put_in_blocks (after ρ σ) C.blocks)

  abbrev Σe : Signature
  Σe = with_entries Σ' first (blocks_of C.blocks)

  abbrev Σ₁ : Signature
  Σ₁ = with_entries Σ first (blocks_of C.blocks)

  -- a constant of the extension has none
  pub old_own : (c : ℕ) → IsOld Σ' c → own_terms first (put_in_blocks (after ρ σ) C.blocks) c ≡ None
  old_own c (A, q) = put_in_own first C.blocks (after ρ σ) c ∙ ap (λ x. substitute_own (after ρ σ) (terms_of_entry C.blocks x)) (by (entry_constant zero first (blocks_of C.blocks) c) refl)
    where
      by : (x : Option EntryConstant) → entry_constant zero first (blocks_of C.blocks) c ≡ x → entry_constant zero first (blocks_of C.blocks) c ≡ None
      by None e = e
      by (Some e) p = absurd (none_some (sym (entry_free Σ Σ' w first C θ σ r c e p) ∙ q))

  left : (j : ℕ) → zero + j ≡ j
  left j = omega arith

  -- the instance of an entry
  pub entry_instance : (c : ℕ) (e : EntryConstant) → entry_constant zero first (blocks_of C.blocks) c ≡ Some e → InstanceIn w e.block (θ e.number) × (later : List LfType) × (onto later (e.entry ∷ e.before) ≡ e.block.entries) × (e.place ≡ place_of later)
  entry_instance c e q =
      let (j, b, at, num, blk, frm, cn, later, en, pl) = from_is zero first C.blocks c e q in
      (subst (λ (D : Block). InstanceIn w D (θ e.number)) (sym blk) (subst (λ k. InstanceIn w b.block (θ k)) (sym num) (instance_at Σ Σ' w first C θ σ r j b at).0), later, en ∙ ap (λ (D : Block). D.entries) (sym blk), pl)

  -- The terms of a block variable under the written values are the `some` terms of its instance, written.
  pub terms_written : (j : ℕ) (b : BlockVariable) → block_at C.blocks j ≡ Some b → substitute_spine reduce ρ (some_spine b.block.some (behind_entries b.block.entries (θ (zero + j)))) ≡ substitute_spine reduce (after ρ σ) b.terms
  terms_written j b at = sym (block_written Σ Σ' w first C θ σ r F ρ (itself h) j b at) ∙ ap (substitute_spine reduce (after ρ σ)) (unmoved_spine b.terms)

  -- and its own terms
  pub entry_own : (c : ℕ) (e : EntryConstant) → entry_constant zero first (blocks_of C.blocks) c ≡ Some e → own_terms first (put_in_blocks (after ρ σ) C.blocks) c ≡ Some (substitute_spine reduce ρ (some_spine e.block.some (behind_entries e.block.entries (θ e.number))))
  entry_own c e q =
      let (j, b, at, num, blk, frm, cn, later, en, pl) = from_is zero first C.blocks c e q in
      put_in_own first C.blocks (after ρ σ) c
      ∙ ap (λ x. substitute_own (after ρ σ) (terms_of_entry C.blocks x)) q
      ∙ ap (substitute_own (after ρ σ)) (ap (terms_at C.blocks) (num ∙ left j) ∙ terms_of_block C.blocks j b at)
      ∙ ap Some (sym (terms_written j b at)
      ∙ ap (λ k. substitute_spine reduce ρ (some_spine b.block.some (behind_entries b.block.entries (θ k)))) (sym num)
      ∙ ap (λ (D : Block). substitute_spine reduce ρ (some_spine D.some (behind_entries D.entries (θ e.number)))) (sym blk))

  -- ρ in the context, and each variable outside stays
  pub near : ℕ → Image
  near i = cond (in_context G i) (ρ i) (keep i)

  near_is : (i : ℕ) (A : LfType) → TypeAt G i A → ρ i ≡ near i
  unfolding near
  near_is i A g = ap (λ b. cond b (ρ i) (keep i)) (sym (in_covers G i A g))

  values_own : (n v : ℕ) → length G ≤ v + n → ImageOnOwnTerms (own_terms first (put_in_blocks (after ρ σ) C.blocks)) (near v)
  unfolding near
  values_own zero v l = by (in_context G v) refl
    where
      beyond : (A : LfType) → TypeAt G v A → ⊥
      beyond A g = let m = within G v A g in omega (arith, l, m)

      by : (b : Bool) → in_context G v ≡ b → ImageOnOwnTerms oF (cond b (ρ v) (keep v))
      by false e = tt
      by true e = absurd (beyond (in_type G v e).0 (in_type G v e).1)
  values_own (suc n) v l = by (λ j m. values_own n j m) (in_context G v) refl
    where
      entry : ((j : ℕ) → length G ≤ j + n → ImageOnOwnTerms oF (near j)) → IsEntryVariable first (blocks_of C.blocks) θ v → ImageOnOwnTerms oF (ρ v)
      entry ih (c, e, q, k) =
          let (i, later, en, pl) = entry_instance c e q in
          let φ : ℕ → Image = θ e.number in
          let t : IsTypedSubstitution Σ' (onto e.block.entries e.block.some) G φ = λ j A g. (instance_typed Σ' r.extends.ok w e.block φ i).typed.typed j A g refl in
          let u : IsTypedSubstitution Σ' e.block.some G (behind_entries e.block.entries φ) = behind_typed Σ' r.extends.ok e.block.entries e.block.some G φ t in
          let te : IsTypedSubstitution Σe e.block.some G (behind_entries e.block.entries φ) = λ j A g. grown_image Σ' Σe (own_types Σ Σ' w first C θ σ r) (λ a K z. z) G (behind_entries e.block.entries φ j) (substitute_type reduce (behind_entries e.block.entries φ) A) (u j A g) in
          let U : Spine = substitute_spine reduce ρ (some_spine e.block.some (behind_entries e.block.entries φ)) in
          let same : U ≡ some_spine e.block.some (after ρ (behind_entries e.block.entries φ)) = put_some (constant_skeletons Σe) e.block.some (context_skeletons G) (context_skeletons F) (behind_entries e.block.entries φ) ρ (typed_substitution_by_skeletons Σe (written_signature Σ Σ' w first C θ σ r) e.block.some G (behind_entries e.block.entries φ) te) (writing_fits Σ Σ' w first C θ σ r F ρ (itself h)) in
          subst (ImageOnOwnTerms oF) (sym (h.entries c e q v k)) (constant_own oF (skeleton e.entry) c U (subst (λ y. BeginsWith y U) (sym (entry_own c e q)) (nil, sym (append_nil U))) (subst (SpineOnOwnTerms oF) (sym same) (some_all_own oF e.block.some (after ρ (behind_entries e.block.entries φ)) (λ j A g. value (behind_entries e.block.entries φ j) (substitute_type reduce (behind_entries e.block.entries φ) A) (subst (ImageUses (above v)) (sym (behind_at e.block.entries φ j)) (instance_above Σ' w e.block φ i later e.entry e.before en v (sym (ap φ pl) ∙ k) (j + length e.block.entries) (subst (λ es. place_of later < j + length es) en (place_less later e.entry e.before j)))) (u j A g)))))
        where
          older : (j : ℕ) → above v j ≡ true → ImageOnOwnTerms oF (near j)
          older j a = ih j (let m = above_is v j a in omega (arith, l, m))

          value : (y : Image) (Z : LfType) → ImageUses (above v) y → ImageHasType Σ' G y Z → ImageOnOwnTerms oF (substitute_image ρ y)
          value (keep j) Z a g = subst (ImageOnOwnTerms oF) (sym (near_is j Z g)) (older j a)
          value (put b N) Z a (s, m) = subst (OnOwnTerms oF) (sym (agree Σ' reduce G ρ near N Z near_is m)) (free_own (IsOld Σ') oF (above v) near N old_own older (typed_only Σ' G N Z m) a)

      by : ((j : ℕ) → length G ≤ j + n → ImageOnOwnTerms oF (near j)) → (b : Bool) → in_context G v ≡ b → ImageOnOwnTerms oF (cond b (ρ v) (keep v))
      by ih false e = tt
      by ih true e = on (h.others v (in_type G v e).0 (in_type G v e).1)
        where
          on : IsEntryVariable first (blocks_of C.blocks) θ v ⊎ ((u : ℕ) × (ρ v ≡ keep u) × (back u ≡ v)) → ImageOnOwnTerms oF (ρ v)
          on (inl k) = entry ih k
          on (inr (u, q, b)) = subst (ImageOnOwnTerms oF) (sym q) tt

  near_own : (i : ℕ) → ImageOnOwnTerms (own_terms first (put_in_blocks (after ρ σ) C.blocks)) (near i)
  near_own i = values_own (length G) i (omega arith)

  pub term_own : (N : Term) (A : LfType) → HasType Σ' G N A → OnOwnTerms (own_terms first (put_in_blocks (after ρ σ) C.blocks)) (substitute reduce ρ N)
  term_own N A n = subst (OnOwnTerms oF) (sym (agree Σ' reduce G ρ near N A near_is n)) (free_own (IsOld Σ') oF everything near N old_own (λ i u. near_own i) (typed_only Σ' G N A n) (uses_all everything N (λ i. refl)))

  pub type_own : (A : LfType) → IsType Σ' G A → TypeOnOwnTerms (own_terms first (put_in_blocks (after ρ σ) C.blocks)) (substitute_type reduce ρ A)
  type_own A t = subst (TypeOnOwnTerms oF) (sym (agree_type Σ' reduce G ρ near A near_is t)) (free_own_type (IsOld Σ') oF everything near A old_own (λ i u. near_own i) (type_only Σ' G A t) (uses_type_all everything A (λ i. refl)))

  -- what stands for a free variable
  value_type : (i : ℕ) (A : LfType) → TypeAt C.variables i A → ImageHasType Σ' G (σ i) (type_in first C θ σ A)
  value_type i A g = values_typed Σ' r.extends.ok G first (blocks_of C.blocks) θ C.variables σ r.is_instance.values i A g

  pub image_value_own : (i : ℕ) (A : LfType) → TypeAt C.variables i A → ImageOnOwnTerms (own_terms first (put_in_blocks (after ρ σ) C.blocks)) (after ρ σ i)
  image_value_own i A g = by (σ i) (value_type i A g)
    where
      by : (y : Image) → ImageHasType Σ' G y (type_in first C θ σ A) → ImageOnOwnTerms oF (substitute_image ρ y)
      by (keep j) t = subst (ImageOnOwnTerms oF) (sym (near_is j (type_in first C θ σ A) t)) (near_own j)
      by (put a N) (e, n) = term_own N (type_in first C θ σ A) n

  pub values_are_typed : IsTypedSubstitution (with_entries Σ' first (blocks_of C.blocks)) C.variables F (after ρ σ)
  values_are_typed i A g = subst (λ B. ImageHasType Σe F (after ρ σ i) (substitute_type reduce (after ρ σ) B)) (unmoved_type A) (value_is_typed Σ Σ' w first C θ σ r F ρ (itself h) i A g)

pub written_values_are_typed : WrittenValuesAreTyped
written_values_are_typed Σ Σ' W S G w first C θ σ r F ρ back h = (values_are_typed Σ Σ' w first C θ σ r F ρ back h, image_value_own Σ Σ' w first C θ σ r F ρ back h, term_own Σ Σ' w first C θ σ r F ρ back h)
