-- Where a ground instance, written, gives a variable a head that is offered, its values and those of the head's
-- arguments, read back, are a ground instance of the case with these in front, which holds the same.
use Rattle.std.proofs.Common.{◌≡◌, ℕ, zero, suc, List, [], ◌∷◌, ◌+◌, ◌<◌, ◌⊎◌, inl, inr, length, Option, Some, refl, sym, ap, ap₂, ◌∙◌, subst, arith}
use Rattle.std.specs.Prelude.{Bool}
use Rattle.lf.specs.Syntax.{Head, Term, Spine, root, LfType, Kind, Skeleton, skeleton, rename_type}
use Rattle.lf.specs.Substitution.{Image, keep, put, substitute, substitute_spine, substitute_image, reduce, after}
use Rattle.lf.specs.AtOnce.{shift_by}
use Rattle.lf.specs.Eta.{lambdas}
use Rattle.lf.specs.SkeletonTyping.{SkeletonAt, SubstitutionBySkeletons}
use Rattle.lf.specs.Skeletons.{constant_skeletons, context_skeletons}
use Rattle.lf.specs.Typing.{Signature, TypeAt, HasType, ImageHasType, IsContext, IsTypedSubstitution, IsSignature}
use Rattle.lf.specs.Variables.{target, onto}
use Rattle.lf.specs.Subordination.{Block, AreTypedBlocks, SelfContained}
use Rattle.lf.specs.Worlds.{World}
use Rattle.lf.specs.Extension.{Extends}
use Rattle.lf.proofs.Renaming.{substitute_renamed_spine}
use Rattle.lf.proofs.Substitution.{typed_substitution_by_skeletons}
use Rattle.lf.proofs.ToSkeletons.{skeleton_has_variable, variable_has_skeleton}
use Rattle.lf.proofs.TypeLaws.{skeleton_renamed}
use Rattle.lf_checks.specs.Below.{IsSubordination}
use Rattle.lf_unification.specs.Unifiers.{Store}
use Rattle.lf_cases.specs.Case.{items_context, as_term}
use Rattle.lf_cases.specs.Cover.{InstanceIn}
use Rattle.lf_cases.specs.OutputGoal.{free_variables}
use Rattle.lf_cases.specs.Reached.{arguments_count, taken, split_items}
use Rattle.lf_totality.proofs.OutputCases.{in_covers}
use Rattle.lf_coverage.specs.Heads.{ArgumentsAreBelow}
use Rattle.lf_coverage.specs.SplitStore.{open_some, open_type}
use Rattle.lf_coverage.proofs.Carried.{carry, carry_same, carried as carried_on}
use Rattle.lf_coverage.proofs.Forms.{local_has_type}
use Rattle.lf_coverage.proofs.NearOrFar.{near_or_far}
use Rattle.lf_coverage.proofs.Parts.{none_some, some_same}
use Rattle.lf_coverage.proofs.StoreSolution.{looked_up}
use Rattle.lf_coverage.proofs.Transfer.{SameIn, same_in}
use Rattle.lf_numbered.specs.EntryConstants.{IsFreeFrom, with_entries}
use Rattle.lf_numbered.specs.EntryPatternsSplits.{HoldsAs}
use Rattle.lf_numbered.specs.LeftUnifiers.{head_in}
use Rattle.lf_numbered.specs.NewInstance.{AreApart}
use Rattle.lf_numbered.specs.NumberedCallsOutside.{over_head}
use Rattle.lf_numbered.specs.NumberedBeside.{TakesIn}
use Rattle.lf_numbered.specs.NumberedCase.{NumberedCase, AreTypedBlockVariables, IsNumberedInstance, type_in}
use Rattle.lf_numbered.specs.NumberedInstance.{block_at, move, move_types}
use Rattle.lf_numbered.specs.NumberedSplits.{NumberedOffer}
use Rattle.lf_numbered.specs.Numbering.{entries_of}
use Rattle.lf_numbered.specs.OwnStores.{IsNumberedOffer, numbered_store}
use Rattle.lf_numbered.specs.OwnTerms.{BlockVariable, blocks_of, own_terms, ImageOnOwnTerms, put_in_blocks, rename_blocks}
use Rattle.lf_numbered.specs.Reading.{entry_reading}
use Rattle.lf_numbered.specs.TypedNumbered.{IsTypedNumberedCase}
use Rattle.lf_numbered.specs.Writing.{IsWriting, back_over}
use Rattle.lf_numbered.specs.WritingInstances.{AreValuesOver, image_back}
use Rattle.lf_numbered.specs.WritingRoom.{gap_back, leave_room, move_image, past_gap}
use Rattle.lf_numbered.proofs.EntryPatternsSplits.{carry_past, put_in_holds_as}
use Rattle.lf_numbered.proofs.EntryValues.{put_add as put_last, put_term, read_as_term}
use Rattle.lf_numbered.proofs.LeftOffers.{HeadWritten}
use Rattle.lf_numbered.proofs.LeftReading.{carried}
use Rattle.lf_numbered.proofs.LeftTyped.{behind, is_put_in, over_typed, shown}
use Rattle.lf_numbered.proofs.NumberedHeads.{value_is_term}
use Rattle.lf_numbered.proofs.NumberedSplitsHeads.{MakesWritten}
use Rattle.lf_numbered.proofs.NumberedSplitsMoved.{e₂, room, v, θ₂, σ₂, h₂, T₂}
use Rattle.lf_numbered.proofs.NumberedSplitsReady.{split_context, terms, typed as values_are_typed}
use Rattle.lf_numbered.proofs.NumberedSplitsSolution.{filling_is}
use Rattle.lf_numbered.proofs.NumberedSplitsValues.{written_values_own}
use Rattle.lf_numbered.proofs.OwnStoresEntry.{ok₁}
use Rattle.lf_numbered.proofs.OwnTerms.{put_in_keeps, put_in_own, type_substituted}
use Rattle.lf_numbered.proofs.OwnValuesInstances.{some_mapped, term_fits}
use Rattle.lf_numbered.proofs.ReadValues.{values_fit, values_typed}
use Rattle.lf_numbered.proofs.WritingBack.{term_back}
use Rattle.lf_numbered.proofs.WritingChoice.{instance_of}
use Rattle.lf_numbered.proofs.WritingGap.{past_back}
use Rattle.lf_numbered.proofs.WritingInstance.{written_signature}
use Rattle.lf_numbered.proofs.WritingInstances.{read_back_is_instance}
use Rattle.lf_numbered.proofs.WritingLeft.{room_is_left}

put_same : {a b : Skeleton} {M N : Term} → put a M ≡ put b N → M ≡ N
put_same e = cc

-- Block variables that are renamed
renamed_block : (ρ : ℕ → ℕ) (bs : List BlockVariable) (j : ℕ) (d : BlockVariable) → block_at (rename_blocks ρ bs) j ≡ Some d → (b : BlockVariable) × (block_at bs j ≡ Some b) × (b.block ≡ d.block)
renamed_block ρ [] j d q = absurd (none_some q)
renamed_block ρ (b ∷ bs) zero d q = (b, refl, ap (λ (c : BlockVariable). c.block) (some_same q))
renamed_block ρ (b ∷ bs) (suc j) d q = renamed_block ρ bs j d q

-- values that are the same in a context make typed block variables the same
blocks_put_same : (Σ : Signature) (ok : IsSignature Σ) (W : List Block) (X : List LfType) (o : ℕ → Option Spine) (k : ℕ) (σ τ : ℕ → Image) → SameIn (context_skeletons X) (λ i. σ (i + k)) τ → (bs : List BlockVariable) → AreTypedBlockVariables Σ W X o bs → put_in_blocks σ (rename_blocks (shift_by k) bs) ≡ put_in_blocks τ bs
blocks_put_same Σ ok W X o k σ τ h [] t = refl
blocks_put_same Σ ok W X o k σ τ h (b ∷ bs) (m, (υ, u, q), n, t) =
    ap₂ (λ U (cs : List BlockVariable). record { block = b.block; terms = U } ∷ cs)
    (substitute_renamed_spine reduce σ (shift_by k) b.terms
    ∙ ap (substitute_spine reduce (λ i. σ (i + k))) q
    ∙ some_mapped (substitute_spine reduce (λ i. σ (i + k))) (substitute_spine reduce τ) (substitute reduce (λ i. σ (i + k))) (substitute reduce τ) refl (put_last (λ i. σ (i + k))) (put_last τ) b.block.some υ (λ i A g. same_in (constant_skeletons Σ) (context_skeletons X) (λ j. σ (j + k)) τ h (as_term (skeleton A) (υ i)) (skeleton A) (term_fits (constant_skeletons Σ) (context_skeletons X) (skeleton A) (υ i) (typed_substitution_by_skeletons Σ ok b.block.some X υ u i (skeleton A) (variable_has_skeleton b.block.some i A g))))
    ∙ sym (ap (substitute_spine reduce τ) q))
    (blocks_put_same Σ ok W X o k σ τ h bs t)

module _ (Σ Σ' : Signature) (ok : IsSignature Σ) (S : ℕ → Bool) (x : Extends S Σ Σ') (W : List Block) (typed : AreTypedBlocks Σ W) (below : ℕ → ℕ → Bool) (s : IsSubordination Σ W below) (sc : SelfContained Σ W S) (first : ℕ) (free : IsFreeFrom Σ first) (E : NumberedCase) (te : IsTypedNumberedCase Σ first W E) {G : List LfType} (w : World Σ' W S G) (θ : ℕ → ℕ → Image) (σ : ℕ → Image) (inst : IsNumberedInstance w first E θ σ) (apart : AreApart E θ) (y : ℕ) (X : LfType) (at : TypeAt E.variables y X) (fams : TakesIn S X) (args : ArgumentsAreBelow below X) (h : Head) (U : Spine) (A : LfType) (offer : IsNumberedOffer Σ first E X h U A) (T : Spine) (e : σ y ≡ put (skeleton X) (lambdas (length (taken X)) (root (head_in first (blocks_of E.blocks) θ (length (taken X)) h) T))) (K : Kind) (of_family : Σ.kinds (target X) ≡ Some K) where
  abbrev h0 : Head
  h0 = head_in first (blocks_of E.blocks) θ (length (taken X)) h

  abbrev γ : ℕ → ℕ
  γ = past_gap first (entries_of (blocks_of E.blocks))

  abbrev δ : ℕ → ℕ
  δ = gap_back first (entries_of (blocks_of E.blocks))

  abbrev k : ℕ
  k = arguments_count A

  abbrev V : List LfType
  V = E.variables

  abbrev Bs : List Block
  Bs = blocks_of E.blocks

  abbrev Σ₁ : Signature
  Σ₁ = with_entries Σ first (blocks_of E.blocks)

  abbrev Σr : Signature
  Σr = leave_room first (entries_of (blocks_of E.blocks)) Σ'

  abbrev Σe : Signature
  Σe = with_entries (leave_room first (entries_of (blocks_of E.blocks)) Σ') first (blocks_of E.blocks)

  abbrev Gr : List LfType
  Gr = move_types (past_gap first (entries_of (blocks_of E.blocks))) G

  abbrev Cc : List LfType
  Cc = items_context (split_items below X (free_variables E.variables) zero A)

  abbrev o : NumberedOffer
  o = record { case = E; variable = y; type = X; head = h; terms = U; left = A }

  abbrev over : NumberedCase
  over = over_head below (record { case = E; variable = y; type = X; head = h; terms = U; left = A })

  abbrev start : Store
  start = numbered_store below E y X h U A K

  okE : IsSignature Σ₁
  okE = ok₁ Σ ok W typed first free E te.variables

  back : (c : ℕ) → δ (γ c) ≡ c
  back c = past_back first (entries_of (blocks_of E.blocks)) c

  abbrev vr : World Σr W S Gr
  vr = v Σ Σ' ok S x W typed below s sc first free E te w θ σ inst apart y X at fams args h0 T e

  module _ (F : List LfType) (ρ : ℕ → Image) (back_to : ℕ → ℕ) (writing : IsWriting (leave_room first (entries_of (blocks_of E.blocks)) Σ') first (blocks_of E.blocks) (θ₂ Σ Σ' ok S x W typed below s sc first free E te w θ σ inst apart y X at fams args (head_in first (blocks_of E.blocks) θ (length (taken X)) h) T e) (move_types (past_gap first (entries_of (blocks_of E.blocks))) G) F ρ back_to) (hw : HeadWritten Σ (leave_room first (entries_of (blocks_of E.blocks)) Σ') (v Σ Σ' ok S x W typed below s sc first free E te w θ σ inst apart y X at fams args (head_in first (blocks_of E.blocks) θ (length (taken X)) h) T e) first E (θ₂ Σ Σ' ok S x W typed below s sc first free E te w θ σ inst apart y X at fams args (head_in first (blocks_of E.blocks) θ (length (taken X)) h) T e) (σ₂ Σ Σ' ok S x W typed below s sc first free E te w θ σ inst apart y X at fams args (head_in first (blocks_of E.blocks) θ (length (taken X)) h) T e) (room Σ Σ' ok S x W typed below s sc first free E te w θ σ inst apart y X at fams args (head_in first (blocks_of E.blocks) θ (length (taken X)) h) T e) F ρ back_to writing sc below s y X at fams args (h₂ Σ Σ' ok S x W typed below s sc first free E te w θ σ inst apart y X at fams args (head_in first (blocks_of E.blocks) θ (length (taken X)) h) T e) (T₂ Σ Σ' ok S x W typed below s sc first free E te w θ σ inst apart y X at fams args (head_in first (blocks_of E.blocks) θ (length (taken X)) h) T e) (e₂ Σ Σ' ok S x W typed below s sc first free E te w θ σ inst apart y X at fams args (head_in first (blocks_of E.blocks) θ (length (taken X)) h) T e) h U A) (φ : ℕ → Image) (m : MakesWritten Σ (leave_room first (entries_of (blocks_of E.blocks)) Σ') (v Σ Σ' ok S x W typed below s sc first free E te w θ σ inst apart y X at fams args (head_in first (blocks_of E.blocks) θ (length (taken X)) h) T e) first E (θ₂ Σ Σ' ok S x W typed below s sc first free E te w θ σ inst apart y X at fams args (head_in first (blocks_of E.blocks) θ (length (taken X)) h) T e) (σ₂ Σ Σ' ok S x W typed below s sc first free E te w θ σ inst apart y X at fams args (head_in first (blocks_of E.blocks) θ (length (taken X)) h) T e) (room Σ Σ' ok S x W typed below s sc first free E te w θ σ inst apart y X at fams args (head_in first (blocks_of E.blocks) θ (length (taken X)) h) T e) F ρ back_to writing sc below s y X at fams args (h₂ Σ Σ' ok S x W typed below s sc first free E te w θ σ inst apart y X at fams args (head_in first (blocks_of E.blocks) θ (length (taken X)) h) T e) (T₂ Σ Σ' ok S x W typed below s sc first free E te w θ σ inst apart y X at fams args (head_in first (blocks_of E.blocks) θ (length (taken X)) h) T e) (e₂ Σ Σ' ok S x W typed below s sc first free E te w θ σ inst apart y X at fams args (head_in first (blocks_of E.blocks) θ (length (taken X)) h) T e) h U A φ) where
    abbrev θr : ℕ → ℕ → Image
    θr = θ₂ Σ Σ' ok S x W typed below s sc first free E te w θ σ inst apart y X at fams args h0 T e

    abbrev σr : ℕ → Image
    σr = σ₂ Σ Σ' ok S x W typed below s sc first free E te w θ σ inst apart y X at fams args h0 T e

    abbrev τ : ℕ → Image
    τ = after ρ σr

    abbrev f : ℕ → Option (ℕ × ℕ)
    f = entry_reading first (blocks_of E.blocks) (θ₂ Σ Σ' ok S x W typed below s sc first free E te w θ σ inst apart y X at fams args h0 T e) (length F)

    abbrev ν : ℕ → ℕ
    ν = back_over (length F) back_to

    abbrev oF : ℕ → Option Spine
    oF = own_terms first (put_in_blocks (after ρ (σ₂ Σ Σ' ok S x W typed below s sc first free E te w θ σ inst apart y X at fams args h0 T e)) E.blocks)

    oke : IsSignature Σe
    oke = written_signature Σ Σr vr first E (θ₂ Σ Σ' ok S x W typed below s sc first free E te w θ σ inst apart y X at fams args h0 T e) (σ₂ Σ Σ' ok S x W typed below s sc first free E te w θ σ inst apart y X at fams args h0 T e) (room Σ Σ' ok S x W typed below s sc first free E te w θ σ inst apart y X at fams args h0 T e)

    cc0 : IsContext Σe Cc
    cc0 = split_context Σ Σr vr first E (θ₂ Σ Σ' ok S x W typed below s sc first free E te w θ σ inst apart y X at fams args h0 T e) (σ₂ Σ Σ' ok S x W typed below s sc first free E te w θ σ inst apart y X at fams args h0 T e) (room Σ Σ' ok S x W typed below s sc first free E te w θ σ inst apart y X at fams args h0 T e) F ρ back_to writing sc below s y X at fams args (h₂ Σ Σ' ok S x W typed below s sc first free E te w θ σ inst apart y X at fams args h0 T e) (T₂ Σ Σ' ok S x W typed below s sc first free E te w θ σ inst apart y X at fams args h0 T e) (e₂ Σ Σ' ok S x W typed below s sc first free E te w θ σ inst apart y X at fams args h0 T e) h U A offer K of_family φ m

    φ_typed : IsTypedSubstitution Σe Cc F φ
    φ_typed = values_are_typed Σ Σr vr first E (θ₂ Σ Σ' ok S x W typed below s sc first free E te w θ σ inst apart y X at fams args h0 T e) (σ₂ Σ Σ' ok S x W typed below s sc first free E te w θ σ inst apart y X at fams args h0 T e) (room Σ Σ' ok S x W typed below s sc first free E te w θ σ inst apart y X at fams args h0 T e) F ρ back_to writing sc below s y X at fams args (h₂ Σ Σ' ok S x W typed below s sc first free E te w θ σ inst apart y X at fams args h0 T e) (T₂ Σ Σ' ok S x W typed below s sc first free E te w θ σ inst apart y X at fams args h0 T e) (e₂ Σ Σ' ok S x W typed below s sc first free E te w θ σ inst apart y X at fams args h0 T e) h U A offer K of_family φ m

    φ_terms : (i : ℕ) (B : LfType) → TypeAt Cc i B → (N : Term) × (φ i ≡ put (skeleton B) N)
    φ_terms = terms Σ Σr vr first E (θ₂ Σ Σ' ok S x W typed below s sc first free E te w θ σ inst apart y X at fams args h0 T e) (σ₂ Σ Σ' ok S x W typed below s sc first free E te w θ σ inst apart y X at fams args h0 T e) (room Σ Σ' ok S x W typed below s sc first free E te w θ σ inst apart y X at fams args h0 T e) F ρ back_to writing sc below s y X at fams args (h₂ Σ Σ' ok S x W typed below s sc first free E te w θ σ inst apart y X at fams args h0 T e) (T₂ Σ Σ' ok S x W typed below s sc first free E te w θ σ inst apart y X at fams args h0 T e) (e₂ Σ Σ' ok S x W typed below s sc first free E te w θ σ inst apart y X at fams args h0 T e) h U A offer K of_family φ m

    keeps_φ : (i : ℕ) → φ (i + k) ≡ τ i
    keeps_φ i = ap φ (zeros i k) ∙ m.keeps i
      where
        zeros : (j n : ℕ) → j + n ≡ j + (0 + n)
        zeros j n = omega arith

    -- The ground instance
    abbrev over_is : IsTypedNumberedCase Σ first W over
    over_is = over_typed Σ ok W typed first free below E te y X at h U A offer K of_family

    same_blocks : blocks_of over.blocks ≡ blocks_of E.blocks
    same_blocks = ap blocks_of (is_put_in Σ ok W typed first free below E te y X at h U A offer K of_family).blocks ∙ put_in_keeps (λ i. keep (i + k)) E.blocks

    abbrev φ' : ℕ → Image
    φ' = carry Cc F φ

    φ'_is : (i : ℕ) (B : LfType) → TypeAt Cc i B → φ' i ≡ φ i
    φ'_is i B g = carry_same Cc F φ i (in_covers Cc i B g)

    φ_own : (i : ℕ) (B : LfType) → TypeAt Cc i B → ImageOnOwnTerms oF (φ i)
    φ_own i B g =
        let (N, p) = φ_terms i B g in
        subst (ImageOnOwnTerms oF) (sym p) (written_values_own Σ Σr vr first E (θ₂ Σ Σ' ok S x W typed below s sc first free E te w θ σ inst apart y X at fams args h0 T e) (σ₂ Σ Σ' ok S x W typed below s sc first free E te w θ σ inst apart y X at fams args h0 T e) (room Σ Σ' ok S x W typed below s sc first free E te w θ σ inst apart y X at fams args h0 T e) F ρ back_to writing sc below s y X at fams args (h₂ Σ Σ' ok S x W typed below s sc first free E te w θ σ inst apart y X at fams args h0 T e) (T₂ Σ Σ' ok S x W typed below s sc first free E te w θ σ inst apart y X at fams args h0 T e) (e₂ Σ Σ' ok S x W typed below s sc first free E te w θ σ inst apart y X at fams args h0 T e) h U A offer K of_family φ m hw.head1 hw.terms1 hw.written i (open_type zero B) N (ap open_some (looked_up Cc i B g)) (filling_is Σe oke Cc F cc0 writing.context φ φ_typed φ_terms i B N g p))

    φ'_own : (i : ℕ) → ImageOnOwnTerms oF (φ' i)
    φ'_own i = by (near_or_far (length Cc) i)
      where
        onto_none : (D : List LfType) → onto D [] ≡ D
        onto_none [] = refl
        onto_none (B ∷ D) = ap (λ L. B ∷ L) (onto_none D)

        by : (i < length Cc) ⊎ ((l : ℕ) × (i ≡ l + length Cc)) → ImageOnOwnTerms oF (φ' i)
        by (inl l) = let (B, g) = local_has_type Cc [] i l in let g' : TypeAt Cc i B = subst (λ L. TypeAt L i B) (onto_none Cc) g in subst (ImageOnOwnTerms oF) (sym (φ'_is i B g')) (φ_own i B g')
        by (inr (l, q)) = subst (ImageOnOwnTerms oF) (sym (ap φ' q ∙ carry_past Cc F φ l)) tt

    near : SameIn (context_skeletons V) (λ i. φ' (i + k)) τ
    near i t g = let (B, b, q) = skeleton_has_variable V i t g in φ'_is (i + k) (rename_type (shift_by k) B) (behind Σ ok W typed first free below E te y X at h U A offer K of_family i B b) ∙ keeps_φ i

    blocks_same : put_in_blocks φ' over.blocks ≡ put_in_blocks τ E.blocks
    blocks_same = blocks_put_same Σ₁ okE W V (own_terms first E.blocks) k φ' τ near E.blocks te.variables.blocks

    φ'_typed : IsTypedSubstitution Σe Cc F φ'
    φ'_typed i B g = (carried_on Σe oke [] Cc F φ cc0 writing.context φ_typed).typed i B g refl

    values_over : AreValuesOver Σ vr first E σr F ρ over φ'
    values_over = record {
      variables = over_is.variables.variables;
      typed = φ'_typed;
      terms = λ i B g. let (N, p) = φ_terms i B g in (N, φ'_is i B g ∙ p);
      behind = carry_past Cc F φ;
      on_own_terms = φ'_own;
      types_on_own_terms = λ i B g. type_substituted (own_terms first over.blocks) oF φ' B (λ c. ap (λ bs. own_terms first bs c) (sym blocks_same) ∙ put_in_own first over.blocks φ' c) φ'_own (over_is.variables.on_own_terms i B g);
      blocks = blocks_same;
    }

    inst_r : IsNumberedInstance vr first over θr (λ i. image_back first Bs θr F back_to (φ' i))
    inst_r = (read_back_is_instance Σ Σr W S Gr vr first E θr σr (room Σ Σ' ok S x W typed below s sc first free E te w θ σ inst apart y X at fams args h0 T e) F ρ back_to writing over φ' values_over).0

    abbrev χ : ℕ → Image
    χ i = move_image δ (image_back first Bs θr F back_to (φ' i))

    stand_in : (j : ℕ) (b : BlockVariable) → block_at over.blocks j ≡ Some b → InstanceIn w b.block (θ j)
    stand_in j b q =
        let (c, p, z) = renamed_block (shift_by k) E.blocks j b q in
        subst (λ B. InstanceIn w B (θ j)) z (subst (λ l. InstanceIn w c.block (θ l)) (none j) (instance_of w (entry_reading first Bs θ (length V)) σ θ zero E.blocks inst.instances j c p).0)
      where
        none : (j : ℕ) → 0 + j ≡ j
        none j = omega arith

    left : IsNumberedInstance w first over θ χ × ((N : Term) → move δ (move γ N) ≡ N)
    left = room_is_left Σ Σ' ok S x W typed first (entries_of Bs) free over over_is.variables G w vr θ (λ i. image_back first Bs θr F back_to (φ' i)) inst_r stand_in

    keeps : (i : ℕ) (B : LfType) → TypeAt V i B → χ (i + k) ≡ σ i
    keeps i B g =
        let b : TypeAt Cc (i + k) (rename_type (shift_by k) B) = behind Σ ok W typed first free below E te y X at h U A offer K of_family i B g in
        let (N0, p0) = value_is_term Σr Gr (entry_reading first Bs θr) V σr (room Σ Σ' ok S x W typed below s sc first free E te w θ σ inst apart y X at fams args h0 T e).is_instance.values i B g in
        let (N1, p1) = value_is_term Σ' G (entry_reading first Bs θ) V σ inst.values i B g in
        let n : N0 ≡ move γ N1 = put_same (sym p0 ∙ ap (move_image γ) p1) in
        let t0 : HasType Σr Gr N0 (type_in first E θr σr B) = (subst (λ u. ImageHasType Σr Gr u (type_in first E θr σr B)) p0 (values_typed Σr (room Σ Σ' ok S x W typed below s sc first free E te w θ σ inst apart y X at fams args h0 T e).extends.ok Gr first Bs θr V σr (room Σ Σ' ok S x W typed below s sc first free E te w θ σ inst apart y X at fams args h0 T e).is_instance.values i B g)).1 in
        ap (λ u. move_image δ (image_back first Bs θr F back_to u)) (φ'_is (i + k) (rename_type (shift_by k) B) b ∙ keeps_φ i ∙ ap (substitute_image ρ) p0)
        ∙ ap (λ M. put (skeleton B) (move δ M)) (term_back Σ Σr vr first E (θ₂ Σ Σ' ok S x W typed below s sc first free E te w θ σ inst apart y X at fams args h0 T e) (σ₂ Σ Σ' ok S x W typed below s sc first free E te w θ σ inst apart y X at fams args h0 T e) (room Σ Σ' ok S x W typed below s sc first free E te w θ σ inst apart y X at fams args h0 T e) F ρ back_to writing N0 (type_in first E θr σr B) t0 ∙ n)
        ∙ ap (put (skeleton B)) (left.1 N1)
        ∙ sym p1

    holds : HoldsAs first E θ σ over θ χ
    holds =
        put_in_holds_as Σ Σ' ok S x W typed first free E over te over_is (λ i. keep (i + k)) (is_put_in Σ ok W typed first free below E te y X at h U A offer K of_family) (subst (λ Ds. SubstitutionBySkeletons (constant_skeletons (with_entries Σ first Ds)) (context_skeletons V) (context_skeletons Cc) (λ i. keep (i + k))) (sym same_blocks) (shown Σ ok W typed first free below E te y X at h U A offer K of_family)) (λ i B g. tt) G w θ σ χ inst left.0
        (λ i B g. ap (as_term (skeleton B)) (sym (keeps i B g)) ∙ sym (put_term (constant_skeletons Σ') (context_skeletons (onto Cc G)) (context_skeletons G) χ (values_fit Σ' x.ok G first (blocks_of over.blocks) θ Cc χ left.0.values) (skeleton B) (keep (i + k)) (Rattle.lf_numbered.proofs.ReadValues.inside_onto Cc G (i + k) (skeleton B) (subst (SkeletonAt (context_skeletons Cc) (i + k)) (skeleton_renamed (shift_by k) B) (variable_has_skeleton Cc (i + k) (rename_type (shift_by k) B) (behind Σ ok W typed first free below E te y X at h U A offer K of_family i B g))))) ∙ sym (ap (substitute reduce χ) (read_as_term (entry_reading first (blocks_of over.blocks) θ (length Cc)) (skeleton B) (keep (i + k)))))

    -- The lemma
    pub ground_of : (χ : ℕ → Image) × IsNumberedInstance w first (over_head below (record { case = E; variable = y; type = X; head = h; terms = U; left = A })) θ χ × ((i : ℕ) (B : LfType) → TypeAt E.variables i B → χ (i + arguments_count A) ≡ σ i) × HoldsAs first E θ σ (over_head below (record { case = E; variable = y; type = X; head = h; terms = U; left = A })) θ χ × ((i : ℕ) (B : LfType) (N : Term) → TypeAt (items_context (split_items below X (free_variables E.variables) zero A)) i B → φ i ≡ put (skeleton B) N → as_term (skeleton B) (χ i) ≡ carried (gap_back first (entries_of (blocks_of E.blocks))) (entry_reading first (blocks_of E.blocks) (θ₂ Σ Σ' ok S x W typed below s sc first free E te w θ σ inst apart y X at fams args (head_in first (blocks_of E.blocks) θ (length (taken X)) h) T e) (length F)) (back_over (length F) back_to) N)
    ground_of = (χ, left.0, keeps, holds, λ i B N g p. ap (λ u. as_term (skeleton B) (move_image δ (image_back first Bs θr F back_to u))) (φ'_is i B g ∙ p))
