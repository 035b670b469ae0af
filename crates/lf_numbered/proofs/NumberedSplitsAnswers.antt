-- In whatever extension, a ground instance with block variables apart that gives a variable a head that is offered holds what the case holds that
-- unification reads off.
use Rattle.std.proofs.Common.{◌≡◌, ℕ, zero, suc, List, [], ◌∷◌, ◌+◌, length, Option, Some, None, refl, sym, ap, ◌∙◌, subst, arith}
use Rattle.std.specs.Prelude.{Bool}
use Rattle.lf.specs.Syntax.{Head, constant, variable, Term, Spine, root, LfType, Kind, skeleton}
use Rattle.lf.specs.Substitution.{Image, put, substitute, substitute_type, reduce}
use Rattle.lf.specs.Eta.{lambdas}
use Rattle.lf.specs.SkeletonTyping.{SubstitutionBySkeletons}
use Rattle.lf.specs.Skeletons.{constant_skeletons, context_skeletons}
use Rattle.lf.specs.Typing.{Signature, TypeAt, HasType, IsContext, IsSignature, IsTypedSubstitution}
use Rattle.lf.specs.Variables.{target}
use Rattle.lf.specs.Subordination.{Block, AreTypedBlocks, SelfContained}
use Rattle.lf.specs.Worlds.{World}
use Rattle.lf.specs.Extension.{Extends}
use Rattle.lf.proofs.Substitution.{typed_substitution_by_skeletons}
use Rattle.lf.proofs.TypeLaws.{skeleton_substituted}
use Rattle.lf_checks.specs.Below.{IsSubordination}
use Rattle.lf_unification.specs.Solving.{Solved}
use Rattle.lf_unification.specs.Unifiers.{Store}
use Rattle.lf_cases.specs.Case.{as_term}
use Rattle.lf_cases.specs.Cover.{InstanceIn}
use Rattle.lf_cases.specs.Reached.{arguments_count, taken}
use Rattle.lf_cases.proofs.LongValues.{term_typed}
use Rattle.lf_coverage.specs.Heads.{ArgumentsAreBelow}
use Rattle.lf_coverage.specs.SplitStore.{answer_values}
use Rattle.lf_coverage.proofs.Parts.{none_some, some_same}
use Rattle.lf_numbered.specs.EntryConstants.{IsFreeFrom, entry_constant, with_entries}
use Rattle.lf_numbered.specs.EntryPatternsSplits.{HoldsAs}
use Rattle.lf_numbered.specs.NewInstance.{AreApart}
use Rattle.lf_numbered.specs.NumberedBeside.{TakesIn}
use Rattle.lf_numbered.specs.NumberedCase.{NumberedCase, IsNumberedInstance, value_in}
use Rattle.lf_numbered.specs.NumberedHeads.{IsNumberedHead}
use Rattle.lf_numbered.specs.NumberedInstance.{block_at, move, move_spine, move_types}
use Rattle.lf_numbered.specs.NumberedSplits.{NumberedUnifierFinds}
use Rattle.lf_numbered.specs.Numbering.{entries_of}
use Rattle.lf_numbered.specs.OwnStores.{IsNumberedOffer, numbered_store, solved_numbered}
use Rattle.lf_numbered.specs.OwnTerms.{BlockVariable, blocks_of, put_in_blocks}
use Rattle.lf_numbered.specs.Reading.{read, entry_reading}
use Rattle.lf_numbered.specs.TypedNumbered.{IsTypedNumberedCase}
use Rattle.lf_numbered.specs.Writing.{IsWriting}
use Rattle.lf_numbered.specs.WritingRoom.{gap_back, leave_room, move_image, past_gap}
use Rattle.lf_numbered.proofs.EntryPatternsSplits.{put_in_holds_as}
use Rattle.lf_numbered.proofs.NumberedHeads.{value_is_term}
use Rattle.lf_numbered.proofs.NumberedSplitsHeads.{WrittenOffer, MakesWritten}
use Rattle.lf_numbered.proofs.NumberedSplitsHeld.{answer, answered_typed, read_off_typed, same_values}
use Rattle.lf_numbered.proofs.NumberedSplitsMoved.{e₂, head_moved, move_head, room, stay_apart, stays, v}
use Rattle.lf_numbered.proofs.NumberedSplitsOffers.{is_offered}
use Rattle.lf_numbered.proofs.NumberedSplitsReady.{none_refuted}
use Rattle.lf_numbered.proofs.OwnStoresEntry.{ok₁}
use Rattle.lf_numbered.proofs.OwnStoresSplit.{image_own}
use Rattle.lf_numbered.proofs.OwnTerms.{put_in_keeps as same_blocks}
use Rattle.lf_numbered.proofs.Reading.{IsOld, OnlyConstants, typed_only}
use Rattle.lf_numbered.proofs.WritingChoice.{instance_of}
use Rattle.lf_numbered.proofs.WritingInstance.{instance_is_written}
use Rattle.lf_numbered.proofs.WritingLeft.{room_is_left}
use Rattle.lf_numbered.proofs.WritingMove.{move_substituted, same_moved}
use Rattle.lf_numbered.proofs.WritingMoved.{reading_moved}
use mathlib.Core.Path.{fun_ext}

-- block variables with values put in are those of the case
block_before : (υ : ℕ → Image) (bs : List BlockVariable) (j : ℕ) (d : BlockVariable) → block_at (put_in_blocks υ bs) j ≡ Some d → (b : BlockVariable) × (block_at bs j ≡ Some b) × (b.block ≡ d.block)
block_before υ [] j d q = absurd (none_some q)
block_before υ (b ∷ bs) zero d q = (b, refl, ap (λ (c : BlockVariable). c.block) (some_same q))
block_before υ (b ∷ bs) (suc j) d q = block_before υ bs j d q

module _ (Σ Σ' : Signature) (ok : IsSignature Σ) (S : ℕ → Bool) (x : Extends S Σ Σ') (W : List Block) (typed : AreTypedBlocks Σ W) (below : ℕ → ℕ → Bool) (s : IsSubordination Σ W below) (sc : SelfContained Σ W S) (first : ℕ) (free : IsFreeFrom Σ first) (E : NumberedCase) (te : IsTypedNumberedCase Σ first W E) {G : List LfType} (w : World Σ' W S G) (θ : ℕ → ℕ → Image) (σ : ℕ → Image) (inst : IsNumberedInstance w first E θ σ) (apart : AreApart E θ) (y : ℕ) (X : LfType) (at : TypeAt E.variables y X) (fams : TakesIn S X) (args : ArgumentsAreBelow below X) (h0 : Head) (T : Spine) (e : σ y ≡ put (skeleton X) (lambdas (length (taken X)) (root h0 T))) where
  abbrev n : ℕ
  n = entries_of (blocks_of E.blocks)

  abbrev γ : ℕ → ℕ
  γ = past_gap first (entries_of (blocks_of E.blocks))

  abbrev δ : ℕ → ℕ
  δ = gap_back first (entries_of (blocks_of E.blocks))

  abbrev pub θ₂ : ℕ → ℕ → Image
  θ₂ k i = move_image (past_gap first (entries_of (blocks_of E.blocks))) (θ k i)

  abbrev pub σ₂ : ℕ → Image
  σ₂ i = move_image (past_gap first (entries_of (blocks_of E.blocks))) (σ i)

  abbrev pub h₂ : Head
  h₂ = move_head (past_gap first (entries_of (blocks_of E.blocks))) h0

  abbrev pub T₂ : Spine
  T₂ = move_spine (past_gap first (entries_of (blocks_of E.blocks))) T

  -- The case D has the same instances of block variables, and holds what E holds.
  abbrev pub HeldBy : NumberedCase → Type 0
  HeldBy D = (χ : ℕ → Image) × IsNumberedInstance w first D θ χ × AreApart D θ × HoldsAs first E θ σ D θ χ

  module _ (F : List LfType) (ρ : ℕ → Image) (back : ℕ → ℕ) (writing : IsWriting (leave_room first (entries_of (blocks_of E.blocks)) Σ') first (blocks_of E.blocks) θ₂ (move_types (past_gap first (entries_of (blocks_of E.blocks))) G) F ρ back) where
    module _ (h : Head) (U : Spine) (A : LfType) (offer : IsNumberedOffer Σ first E X h U A) (h1 : Head) (U1 : Spine) (written : substitute reduce (Rattle.lf.specs.Worlds.lift_over (taken X) ρ) (root h₂ T₂) ≡ root h1 (Rattle.lf.specs.Eta.append U1 (Rattle.lf.specs.Substitution.substitute_spine reduce (Rattle.lf.specs.Worlds.lift_over (taken X) ρ) T₂))) (K : Kind) (of_family : Σ.kinds (target X) ≡ Some K) (φ : ℕ → Image) (m : MakesWritten Σ (leave_room first (entries_of (blocks_of E.blocks)) Σ') (v Σ Σ' ok S x W typed below s sc first free E te w θ σ inst apart y X at fams args h0 T e) first E θ₂ σ₂ (room Σ Σ' ok S x W typed below s sc first free E te w θ σ inst apart y X at fams args h0 T e) F ρ back writing sc below s y X at fams args h₂ T₂ (e₂ Σ Σ' ok S x W typed below s sc first free E te w θ σ inst apart y X at fams args h0 T e) h U A φ) (after0 : Store) (d : Solved (with_entries Σ first (blocks_of E.blocks)) (numbered_store below E y X h U A K) after0) where
      abbrev D : NumberedCase
      D = solved_numbered E (arguments_count A) after0 d.well_formed.order

      abbrev α : ℕ → Image
      α i = answer_values after0 d.well_formed.order (i + arguments_count A)

      abbrev Σ₁ : Signature
      Σ₁ = with_entries Σ first (blocks_of E.blocks)

      td : IsTypedNumberedCase Σ first W D
      td = read_off_typed Σ (leave_room first (entries_of (blocks_of E.blocks)) Σ') (v Σ Σ' ok S x W typed below s sc first free E te w θ σ inst apart y X at fams args h0 T e) first E θ₂ σ₂ (room Σ Σ' ok S x W typed below s sc first free E te w θ σ inst apart y X at fams args h0 T e) F ρ back writing sc below s y X at fams args h₂ T₂ (e₂ Σ Σ' ok S x W typed below s sc first free E te w θ σ inst apart y X at fams args h0 T e) te h U A offer h1 U1 written K of_family φ m after0 d

      blocks_are : blocks_of D.blocks ≡ blocks_of E.blocks
      blocks_are = same_blocks α E.blocks

      χ₂ : ℕ → Image
      χ₂ = (answer Σ (leave_room first (entries_of (blocks_of E.blocks)) Σ') (v Σ Σ' ok S x W typed below s sc first free E te w θ σ inst apart y X at fams args h0 T e) first E θ₂ σ₂ (room Σ Σ' ok S x W typed below s sc first free E te w θ σ inst apart y X at fams args h0 T e) F ρ back writing sc below s y X at fams args h₂ T₂ (e₂ Σ Σ' ok S x W typed below s sc first free E te w θ σ inst apart y X at fams args h0 T e) te h U A offer h1 U1 written K of_family φ m after0 d).values_of

      abbrev χ : ℕ → Image
      χ i = move_image δ (χ₂ i)

      inst₂ : IsNumberedInstance (v Σ Σ' ok S x W typed below s sc first free E te w θ σ inst apart y X at fams args h0 T e) first D θ₂ χ₂
      unfolding χ₂
      inst₂ = (answer Σ (leave_room first (entries_of (blocks_of E.blocks)) Σ') (v Σ Σ' ok S x W typed below s sc first free E te w θ σ inst apart y X at fams args h0 T e) first E θ₂ σ₂ (room Σ Σ' ok S x W typed below s sc first free E te w θ σ inst apart y X at fams args h0 T e) F ρ back writing sc below s y X at fams args h₂ T₂ (e₂ Σ Σ' ok S x W typed below s sc first free E te w θ σ inst apart y X at fams args h0 T e) te h U A offer h1 U1 written K of_family φ m after0 d).is_instance

      same₂ : (i : ℕ) (B : LfType) → TypeAt E.variables i B → as_term (skeleton B) (σ₂ i) ≡ value_in first D θ₂ χ₂ (as_term (skeleton B) (α i))
      unfolding χ₂
      same₂ = same_values Σ (leave_room first (entries_of (blocks_of E.blocks)) Σ') (v Σ Σ' ok S x W typed below s sc first free E te w θ σ inst apart y X at fams args h0 T e) first E θ₂ σ₂ (room Σ Σ' ok S x W typed below s sc first free E te w θ σ inst apart y X at fams args h0 T e) F ρ back writing sc below s y X at fams args h₂ T₂ (e₂ Σ Σ' ok S x W typed below s sc first free E te w θ σ inst apart y X at fams args h0 T e) te h U A offer h1 U1 written K of_family φ m after0 d

      stand : (k : ℕ) (b : BlockVariable) → block_at D.blocks k ≡ Some b → InstanceIn w b.block (θ k)
      stand k b q =
          let (c, p, z) = block_before α E.blocks k b q in
          subst (λ B. InstanceIn w B (θ k)) z (subst (λ l. InstanceIn w c.block (θ l)) (none k) (instance_of w (entry_reading first (blocks_of E.blocks) θ (length E.variables)) σ θ zero E.blocks inst.instances k c p).0)
        where
          none : (k : ℕ) → 0 + k ≡ k
          none k = omega arith

      inst_left : IsNumberedInstance w first D θ χ
      inst_left = (room_is_left Σ Σ' ok S x W typed first n free D td.variables G w (v Σ Σ' ok S x W typed below s sc first free E te w θ σ inst apart y X at fams args h0 T e) θ χ₂ inst₂ stand).0

      returned : (N : Term) → move δ (move γ N) ≡ N
      returned = (room_is_left Σ Σ' ok S x W typed first n free D td.variables G w (v Σ Σ' ok S x W typed below s sc first free E te w θ σ inst apart y X at fams args h0 T e) θ χ₂ inst₂ stand).1

      context : IsContext Σ₁ D.variables
      context = subst (λ Bs. IsContext (with_entries Σ first Bs) D.variables) blocks_are td.variables.variables

      values : IsTypedSubstitution Σ₁ E.variables D.variables α
      values = answered_typed Σ (leave_room first (entries_of (blocks_of E.blocks)) Σ') (v Σ Σ' ok S x W typed below s sc first free E te w θ σ inst apart y X at fams args h0 T e) first E θ₂ σ₂ (room Σ Σ' ok S x W typed below s sc first free E te w θ σ inst apart y X at fams args h0 T e) F ρ back writing sc below s y X at fams args h₂ T₂ (e₂ Σ Σ' ok S x W typed below s sc first free E te w θ σ inst apart y X at fams args h0 T e) te h U A offer h1 U1 written K of_family φ m after0 d

      okE : IsSignature Σ₁
      okE = ok₁ Σ ok W typed first free E te.variables

      same : (i : ℕ) (B : LfType) → TypeAt E.variables i B → as_term (skeleton B) (σ i) ≡ value_in first D θ χ (as_term (skeleton B) (α i))
      same i B g =
          let (N0, p0) = value_is_term Σ' G (entry_reading first (blocks_of E.blocks) θ) E.variables σ inst.values i B g in
          let M : Term = as_term (skeleton B) (α i) in
          let f : ℕ → Option (ℕ × ℕ) = entry_reading first (blocks_of D.blocks) θ (length D.variables) in
          let f₂ : ℕ → Option (ℕ × ℕ) = entry_reading first (blocks_of D.blocks) θ₂ (length D.variables) in
          let g₂ : f₂ ≡ f = fun_ext (λ c. reading_moved γ first (blocks_of D.blocks) θ (length D.variables) c) in
          let fe : f ≡ entry_reading first (blocks_of E.blocks) θ (length D.variables) = ap (λ Bs. entry_reading first Bs θ (length D.variables)) blocks_are in
          let t : HasType Σ₁ D.variables M (substitute_type reduce α B) = term_typed Σ₁ okE D.variables context (skeleton B) (α i) (substitute_type reduce α B) (skeleton_substituted reduce α B) (values i B g) in
          let only : OnlyConstants (IsOld Σ₁) M = typed_only Σ₁ D.variables M (substitute_type reduce α B) t in
          let read_same : move δ (read f M) ≡ read f M = same_moved δ (IsOld Σ₁) f M (λ c o z. (stays Σ Σ' ok S x W typed below s sc first free E te w θ σ inst apart y X at fams args h0 T e) (length D.variables) c o (sym (ap (λ k. k c) fe) ∙ z)) only in
          ap (as_term (skeleton B)) p0
          ∙ sym (returned N0)
          ∙ ap (λ u. move δ (as_term (skeleton B) (move_image γ u))) (sym p0)
          ∙ ap (move δ) (same₂ i B g)
          ∙ ap (λ k. move δ (substitute reduce χ₂ (read k M))) g₂
          ∙ move_substituted δ χ₂ (read f M)
          ∙ ap (substitute reduce χ) read_same

      apart_left : AreApart D θ
      apart_left j k b c p q z t =
          let (b', p', zb) = block_before α E.blocks j b p in
          let (c', q', zc) = block_before α E.blocks k c q in
          apart j k b' c' p' q' (zb ∙ z ∙ sym zc) t

      fits : SubstitutionBySkeletons (constant_skeletons (with_entries Σ first (blocks_of D.blocks))) (context_skeletons E.variables) (context_skeletons D.variables) α
      fits = subst (λ Bs. SubstitutionBySkeletons (constant_skeletons (with_entries Σ first Bs)) (context_skeletons E.variables) (context_skeletons D.variables) α) (sym blocks_are) (typed_substitution_by_skeletons Σ₁ okE E.variables D.variables α values)

      pub held_by : HeldBy (solved_numbered E (arguments_count A) after0 d.well_formed.order)
      held_by = (χ, inst_left, apart_left, put_in_holds_as Σ Σ' ok S x W typed first free E D te td α (record { blocks = refl; given = refl; local = refl; family = refl; arguments = refl }) fits (λ i B g. image_own Σ ok W typed first free below E te y X at h U A offer K of_family after0 d (i + arguments_count A)) G w θ σ χ inst inst_left same)

    -- The answer to the offer
    pub by_answer : (o : WrittenOffer Σ (leave_room first (entries_of (blocks_of E.blocks)) Σ') (v Σ Σ' ok S x W typed below s sc first free E te w θ σ inst apart y X at fams args h0 T e) first E θ₂ σ₂ (room Σ Σ' ok S x W typed below s sc first free E te w θ σ inst apart y X at fams args h0 T e) F ρ back writing sc below s y X at fams args h₂ T₂ (e₂ Σ Σ' ok S x W typed below s sc first free E te w θ σ inst apart y X at fams args h0 T e)) → ArgumentsAreBelow below o.left → (K : Kind) → Σ.kinds (target X) ≡ Some K → (found : Option NumberedCase) → NumberedUnifierFinds Σ first below (record { case = E; variable = y; type = X; head = o.head; terms = o.terms; left = o.left }) K found → (D : NumberedCase) × (found ≡ Some D) × HeldBy D
    by_answer o b K q None f = let (φ, m) = o.makes b in absurd (none_refuted Σ (leave_room first (entries_of (blocks_of E.blocks)) Σ') (v Σ Σ' ok S x W typed below s sc first free E te w θ σ inst apart y X at fams args h0 T e) first E θ₂ σ₂ (room Σ Σ' ok S x W typed below s sc first free E te w θ σ inst apart y X at fams args h0 T e) F ρ back writing sc below s y X at fams args h₂ T₂ (e₂ Σ Σ' ok S x W typed below s sc first free E te w θ σ inst apart y X at fams args h0 T e) o.head o.terms o.left o.offer K q φ m f)
    by_answer o b K q (Some D) (after0, d, z) = let (φ, m) = o.makes b in (D, refl, subst HeldBy (sym z) (held_by o.head o.terms o.left o.offer o.head1 o.terms1 o.written K q φ m after0 d))

  -- So the head that the instance gives is offered, and what unification answers at the offer holds the instance.
  abbrev pub AnswersHold : Head → Spine → LfType → Type 0
  AnswersHold h U A = ArgumentsAreBelow below A → (K : Kind) → Σ.kinds (target X) ≡ Some K → (found : Option NumberedCase) → NumberedUnifierFinds Σ first below (record { case = E; variable = y; type = X; head = h; terms = U; left = A }) K found → (D : NumberedCase) × (found ≡ Some D) × HeldBy D

  pub answer_holds : IsNumberedHead Σ first E θ (length (taken X)) (target X) h0 → (h : Head) × (U : Spine) × (A : LfType) × IsNumberedOffer Σ first E X h U A × AnswersHold h U A
  answer_holds k =
      let (F, ρ, back, writing) = instance_is_written Σ (leave_room first n Σ') W S (move_types γ G) (v Σ Σ' ok S x W typed below s sc first free E te w θ σ inst apart y X at fams args h0 T e) first E θ₂ σ₂ (room Σ Σ' ok S x W typed below s sc first free E te w θ σ inst apart y X at fams args h0 T e) (stay_apart Σ Σ' ok S x W typed below s sc first free E te w θ σ inst apart y X at fams args h0 T e) in
      let o : WrittenOffer Σ (leave_room first (entries_of (blocks_of E.blocks)) Σ') (v Σ Σ' ok S x W typed below s sc first free E te w θ σ inst apart y X at fams args h0 T e) first E θ₂ σ₂ (room Σ Σ' ok S x W typed below s sc first free E te w θ σ inst apart y X at fams args h0 T e) F ρ back writing sc below s y X at fams args h₂ T₂ (e₂ Σ Σ' ok S x W typed below s sc first free E te w θ σ inst apart y X at fams args h0 T e) = is_offered Σ (leave_room first (entries_of (blocks_of E.blocks)) Σ') (v Σ Σ' ok S x W typed below s sc first free E te w θ σ inst apart y X at fams args h0 T e) first E θ₂ σ₂ (room Σ Σ' ok S x W typed below s sc first free E te w θ σ inst apart y X at fams args h0 T e) F ρ back writing sc below s y X at fams args h₂ T₂ (e₂ Σ Σ' ok S x W typed below s sc first free E te w θ σ inst apart y X at fams args h0 T e) ((head_moved Σ Σ' ok S x W typed below s sc first free E te w θ σ inst apart y X at fams args h0 T e) k) in
      (o.head, o.terms, o.left, o.offer, λ b K q found f. by_answer F ρ back writing o b K q found f)

  -- and where it is an entry's, by the entry's constant
  pub entry_answer_holds : (c m u : ℕ) (B : LfType) → h0 ≡ variable u → (with_entries Σ first (blocks_of E.blocks)).types c ≡ Some B → target B ≡ target X → entry_reading first (blocks_of E.blocks) θ (length (taken X)) c ≡ Some (m, u) → (U : Spine) × (A : LfType) × IsNumberedOffer Σ first E X (constant c) U A × AnswersHold (constant c) U A
  entry_answer_holds c m u B p q t z =
      let (F, ρ, back, writing) = instance_is_written Σ (leave_room first n Σ') W S (move_types γ G) (v Σ Σ' ok S x W typed below s sc first free E te w θ σ inst apart y X at fams args h0 T e) first E θ₂ σ₂ (room Σ Σ' ok S x W typed below s sc first free E te w θ σ inst apart y X at fams args h0 T e) (stay_apart Σ Σ' ok S x W typed below s sc first free E te w θ σ inst apart y X at fams args h0 T e) in
      let (o, i) : (o : WrittenOffer Σ (leave_room first (entries_of (blocks_of E.blocks)) Σ') (v Σ Σ' ok S x W typed below s sc first free E te w θ σ inst apart y X at fams args h0 T e) first E θ₂ σ₂ (room Σ Σ' ok S x W typed below s sc first free E te w θ σ inst apart y X at fams args h0 T e) F ρ back writing sc below s y X at fams args h₂ T₂ (e₂ Σ Σ' ok S x W typed below s sc first free E te w θ σ inst apart y X at fams args h0 T e)) × (o.head ≡ constant c) = Rattle.lf_numbered.proofs.NumberedSplitsOffers.by_entry Σ (leave_room first (entries_of (blocks_of E.blocks)) Σ') (v Σ Σ' ok S x W typed below s sc first free E te w θ σ inst apart y X at fams args h0 T e) first E θ₂ σ₂ (room Σ Σ' ok S x W typed below s sc first free E te w θ σ inst apart y X at fams args h0 T e) F ρ back writing sc below s y X at fams args h₂ T₂ (e₂ Σ Σ' ok S x W typed below s sc first free E te w θ σ inst apart y X at fams args h0 T e) c m u B (ap (move_head γ) p) q t (entry_constant zero first (blocks_of E.blocks) c) refl (reading_moved γ first (blocks_of E.blocks) θ (length (taken X)) c ∙ z) in
      (o.terms, o.left, subst (λ h. IsNumberedOffer Σ first E X h o.terms o.left) i o.offer, subst (λ h. AnswersHold h o.terms o.left) i (λ b K q' found f. by_answer F ρ back writing o b K q' found f))
