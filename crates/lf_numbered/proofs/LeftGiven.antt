-- The head that a ground instance gives a variable is offered: by the case itself, or by the case with a new block
-- variable for the instance of an entry.
use Rattle.std.proofs.Common.{◌≡◌, ℕ, zero, List, [], ◌+◌, ◌<◌, ◌≤◌, length, ◌⊎◌, inl, inr, Option, Some, None, refl, sym, ap, ◌∙◌, subst, arith}
use Rattle.std.specs.Prelude.{Bool, true}
use Rattle.lf.specs.Syntax.{Head, constant, variable, Spine, root, nil, LfType, atom, skeleton, rename_spine, rename_type}
use Rattle.lf.specs.Substitution.{Image, keep, put, substitute_type, reduce}
use Rattle.lf.specs.AtOnce.{shift_by}
use Rattle.lf.specs.Eta.{lambdas}
use Rattle.lf.specs.SkeletonTyping.{SkeletonAt}
use Rattle.lf.specs.Skeletons.{context_skeletons}
use Rattle.lf.specs.Typing.{Signature, TypeAt, HasType, ImageHasType, IsSignature}
use Rattle.lf.specs.Variables.{target, target_arguments, onto, binders}
use Rattle.lf.specs.Subordination.{Block, AreTypedBlocks}
use Rattle.lf.specs.Worlds.{World}
use Rattle.lf.specs.Extension.{Extends}
use Rattle.lf.proofs.Conservativity.{spine_target}
use Rattle.lf.proofs.Target.{target_of, target_renamed}
use Rattle.lf.proofs.TypeLaws.{skeleton_renamed, skeleton_substituted}
use Rattle.lf_unification.specs.Offering.{local_arguments}
use Rattle.lf_cases.specs.Reached.{taken}
use Rattle.lf_totality.proofs.RaisedOutputs.{binders_over}
use Rattle.lf_coverage.specs.OrElse.{or_else}
use Rattle.lf_coverage.proofs.Forms.{local_has_type}
use Rattle.lf_coverage.proofs.HeadTerm.{taken_length}
use Rattle.lf_coverage.proofs.PatternDistinct.{length_context as skeletons_length}
use Rattle.lf_coverage.proofs.RootValues.{near_skeleton, root_of, same_at}
use Rattle.lf_numbered.specs.EntryConstants.{EntryConstant, IsFreeFrom, entry_constant, entry_constant_type, entry_images, entry_type, with_entries}
use Rattle.lf_numbered.specs.LeftEquations.{GivesHead, HeadIsOffered}
use Rattle.lf_numbered.specs.LeftUnifiers.{head_in, read_head}
use Rattle.lf_numbered.specs.NewBlock.{with_new_block}
use Rattle.lf_numbered.specs.NewInstance.{AreApart, with_instance}
use Rattle.lf_numbered.specs.NumberedCase.{NumberedCase, IsNumberedInstance, type_in}
use Rattle.lf_numbered.specs.NumberedHeads.{IsNumberedHead, IsNewEntry, of_entry, of_signature, of_taken}
use Rattle.lf_numbered.specs.NumberedSplits.{NumberedOffer, IsOfferTo, of_case, of_new_block}
use Rattle.lf_numbered.specs.Numbering.{entries_of}
use Rattle.lf_numbered.specs.OwnStores.{IsNumberedOffer, left_type, offer_entry, offer_signature, offer_taken}
use Rattle.lf_numbered.specs.OwnTerms.{blocks_of}
use Rattle.lf_numbered.specs.Reading.{entry_reading, read_entry, read_type}
use Rattle.lf_numbered.specs.TypedNumbered.{IsTypedNumberedCase}
use Rattle.lf_numbered.proofs.HeadsOverEntries.{of_type as entry_has_type, reads as entry_reads}
use Rattle.lf_numbered.proofs.LeftEquations.{head_is_given, new_head_is_given}
use Rattle.lf_numbered.proofs.NumberedHeads.{numbered_heads_are_all, target_over}
use Rattle.lf_numbered.proofs.OwnHeads.{entry_on_own_terms_is_read}
use Rattle.lf_numbered.proofs.OwnStoresNewBlock.{new_block_stays_typed}
use Rattle.lf_numbered.proofs.OwnTerms.{old_is_none}
use Rattle.lf_numbered.proofs.ReadValues.{values_typed}
use Rattle.lf_numbered.proofs.Reading.{skeleton_read}
use Rattle.lf_numbered.proofs.WritingChoice.{entry_below}
use Rattle.lf_numbered.proofs.WritingLow.{locals_same, skeleton_target, target_is}

module _ (Σ Σ' : Signature) (ok : IsSignature Σ) (S : ℕ → Bool) (ext : Extends S Σ Σ') (W : List Block) (typed : AreTypedBlocks Σ W) (first : ℕ) (free : IsFreeFrom Σ first) (C : NumberedCase) (tc : IsTypedNumberedCase Σ first W C) {G : List LfType} (w : World Σ' W S G) (θ : ℕ → ℕ → Image) (σ : ℕ → Image) (inst : IsNumberedInstance w first C θ σ) (apart : AreApart C θ) (x : ℕ) (X : LfType) (at : TypeAt C.variables x X) (s : S (target X) ≡ true) where
  abbrev n : ℕ
  n = length (taken X)

  abbrev Bs : List Block
  Bs = blocks_of C.blocks

  abbrev Given : Type 0
  Given = (o : NumberedOffer) × IsOfferTo Σ first W C x X o × GivesHead w first C θ σ x o

  -- a head of the case itself
  given_here : (h : Head) (U : Spine) (A : LfType) → IsNumberedOffer Σ first C X h U A → (h0 : Head) (T : Spine) → σ x ≡ put (skeleton X) (lambdas n (root h0 T)) → h0 ≡ head_in first Bs θ n h → Given
  given_here h U A f h0 T e q = (record { case = C; variable = x; type = X; head = h; terms = U; left = A }, of_case h U A f, head_is_given Σ' W S G w first (record { case = C; variable = x; type = X; head = h; terms = U; left = A }) θ σ inst apart (T, e ∙ ap (λ g. put (skeleton X) (lambdas n (root g T))) q))

  -- a variable that is taken is of the family of what it is the head of
  family_taken : (j : ℕ) (T : Spine) (A : LfType) → σ x ≡ put (skeleton X) (lambdas n (root (variable j) T)) → j < n → TypeAt (onto (taken X) C.variables) j A → target A ≡ target X
  family_taken j T A e l k =
      let Y : LfType = type_in first C θ σ X in
      let E : List LfType = binders [] Y in
      let sk : skeleton Y ≡ skeleton X = skeleton_substituted reduce σ (read_type (entry_reading first Bs θ (length C.variables)) X) ∙ skeleton_read (entry_reading first Bs θ (length C.variables)) X in
      let locals : context_skeletons E ≡ context_skeletons (taken X) = locals_same Y X [] [] sk refl in
      let long : length E ≡ n = sym (skeletons_length E) ∙ ap length locals ∙ skeletons_length (taken X) in
      let v : HasType Σ' G (lambdas n (root (variable j) T)) Y = (subst (λ y. ImageHasType Σ' G y Y) e (values_typed Σ' ext.ok G first Bs θ C.variables σ inst.values x X at)).1 in
      let (Z, z, st) : HasType Σ' (onto E G) (root (variable j) T) (atom (target Y) (target_arguments Y)) = subst (λ D. HasType Σ' D (root (variable j) T) (atom (target Y) (target_arguments Y))) (binders_over [] Y G) (root_of Σ' G Y n (variable j) T long v) in
      let zs : SkeletonAt (context_skeletons (taken X)) j (skeleton Z) = subst (λ Δ. SkeletonAt Δ j (skeleton Z)) locals (near_skeleton E G j Z (subst (λ m. j < m) (sym long) l) z) in
      let same : skeleton A ≡ skeleton Z = same_at (context_skeletons (taken X)) j (skeleton A) (skeleton Z) (near_skeleton (taken X) C.variables j A l k) zs in
      target_is A ∙ ap skeleton_target same ∙ sym (target_is Z) ∙ spine_target Σ' (onto E G) T Z (atom (target Y) (target_arguments Y)) st ∙ target_is Y ∙ ap skeleton_target sk ∙ sym (target_is X)

  old_head : (h0 : Head) (T : Spine) → σ x ≡ put (skeleton X) (lambdas n (root h0 T)) → IsNumberedHead Σ first C θ n (target X) h0 → Given
  old_head h0 T e (of_signature k U q t) = given_here (constant k) nil U (offer_signature k U q t) (constant k) T e (ap (λ y. read_head (read_entry θ n y) k) (sym (old_is_none Σ first free Bs k U q)))
  old_head h0 T e (of_taken j l) =
      let (A, k) = local_has_type (taken X) C.variables j l in
      given_here (variable j) nil A (offer_taken j A l (subst (λ D. TypeAt D j A) (sym (binders_over [] X C.variables)) k) (family_taken j T A e l k)) (variable j) T e refl
  old_head h0 T e (of_entry c m v A q t z) =
      let (U, own, r) = entry_on_own_terms_is_read Σ first W C tc.variables θ n c m v z in
      given_here (constant c) (rename_spine (shift_by n) U) (rename_type (shift_by n) (left_type U A)) (offer_entry c U A own q t) (variable v) T e (sym (ap (λ y. read_head y c) z))

  -- a number behind the entries is of no constant
  unknown : (m : ℕ) → (with_entries Σ first Bs).types ((first + entries_of Bs) + m) ≡ None
  unknown m = ap (λ y. or_else y (entry_type (entry_constant zero first Bs ((first + entries_of Bs) + m)))) (free.types_free ((first + entries_of Bs) + m) (behind first (entries_of Bs) m)) ∙ by (entry_constant zero first Bs ((first + entries_of Bs) + m)) refl
    where
      behind : (a b c : ℕ) → a ≤ (a + b) + c
      behind a b c = omega arith

      too_far : (a b : ℕ) → a + b < a → ⊥
      too_far a b l = omega (arith, l)

      by : (y : Option EntryConstant) → entry_constant zero first Bs ((first + entries_of Bs) + m) ≡ y → entry_type y ≡ None
      by None k = refl
      by (Some i) k = absurd (too_far (first + entries_of Bs) m (entry_below zero first Bs ((first + entries_of Bs) + m) i k))

  new_entry : (h0 : Head) (T : Spine) → σ x ≡ put (skeleton X) (lambdas n (root h0 T)) → IsNewEntry w C θ n (target X) h0 → Given
  new_entry h0 T e z =
      let B : Block = z.block in
      let l : ℕ = length B.some in
      let E : NumberedCase = with_new_block z.block C in
      let te : IsTypedNumberedCase Σ first W E = new_block_stays_typed Σ ok W typed first free C tc B z.of_worlds in
      let χ : ℕ → ℕ → Image = with_instance (length C.blocks) z.instance θ in
      let Y : LfType = rename_type (shift_by l) X in
      let sk : skeleton Y ≡ skeleton X = skeleton_renamed (shift_by l) X in
      let long : length (taken Y) ≡ n = taken_length (shift_by l) X [] [] refl in
      let c : ℕ = (first + entries_of Bs) + length z.before in
      let V : LfType = entry_constant_type (first + entries_of Bs) B.some z.before z.entry in
      let q : (with_entries Σ first (blocks_of E.blocks)).types c ≡ Some V = entry_has_type Σ first free C θ n (target X) B z.later z.entry z.before z.instance z.number z.entries z.family z.at in
      let r : entry_reading first (blocks_of E.blocks) χ n c ≡ Some (l, z.number + n) = entry_reads Σ first free C θ n (target X) B z.later z.entry z.before z.instance z.number z.entries z.family z.at in
      let t : target V ≡ target Y = target_over B.some (substitute_type reduce (entry_images (first + entries_of Bs) (local_arguments B.some) z.before keep) z.entry) ∙ target_of reduce (entry_images (first + entries_of Bs) (local_arguments B.some) z.before keep) z.entry ∙ z.family ∙ sym (target_renamed (shift_by l) X) in
      let (U, own, k) = entry_on_own_terms_is_read Σ first W E te.variables χ n c l (z.number + n) r in
      let m : ℕ = length (taken Y) in
      let h : h0 ≡ head_in first (blocks_of E.blocks) χ n (constant c) = z.is_head ∙ sym (ap (λ y. read_head y c) r) in (
        record { case = E; variable = x + l; type = Y; head = constant c; terms = rename_spine (shift_by m) U; left = rename_type (shift_by m) (left_type U V) },
        of_new_block B c (rename_spine (shift_by m) U) (rename_type (shift_by m) (left_type U V)) z.of_worlds (unknown (length z.before)) (offer_entry c U V own q t),
        new_head_is_given Σ Σ' ok S ext W typed first free C tc G w θ σ inst apart B z.of_worlds z.instance z.in_context z.is_new x Y (constant c) (rename_spine (shift_by m) U) (rename_type (shift_by m) (left_type U V)) T
            (e ∙ ap (λ g. put (skeleton X) (lambdas n (root g T))) h ∙ ap (λ a. put a (lambdas n (root (head_in first (blocks_of E.blocks) χ n (constant c)) T))) (sym sk) ∙ ap (λ i. put (skeleton Y) (lambdas i (root (head_in first (blocks_of E.blocks) χ i (constant c)) T))) (sym long)),
      )

  given : Given
  given =
      let (N, h, T, e, q, k) = numbered_heads_are_all Σ Σ' ok S ext W typed first free C G w θ σ inst x X at s in
      by h T (e ∙ ap (put (skeleton X)) q) k
    where
      by : (h : Head) (T : Spine) → σ x ≡ put (skeleton X) (lambdas n (root h T)) → IsNumberedHead Σ first C θ n (target X) h ⊎ IsNewEntry w C θ n (target X) h → Given
      by h T e (inl k) = old_head h T e k
      by h T e (inr z) = new_entry h T e z

pub head_is_offered : HeadIsOffered
head_is_offered Σ Σ' ok S ext W typed first free C tc G w θ σ inst apart x X at s = given Σ Σ' ok S ext W typed first free C tc w θ σ inst apart x X at s
