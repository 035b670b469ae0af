-- Where a ground instance, written, gives a variable a head that is offered, each store that a run of steps reaches
-- from the head's has a typed unifier on own terms over the signature with entries, with the written values.
use Rattle.std.proofs.Common.{◌≡◌, ℕ, zero, List, [], ◌+◌, inl, length, Option, Some, None, refl, sym, ap, ◌∙◌, subst, arith}
use Rattle.std.specs.Prelude.{Bool}
use Rattle.lf.specs.Syntax.{Head, Term, Spine, root, LfType, Kind, Skeleton, skeleton, rename_spine, rename_type}
use Rattle.lf.specs.Substitution.{Image, put, substitute_spine, substitute_type, reduce, after}
use Rattle.lf.specs.AtOnce.{shift_by}
use Rattle.lf.specs.Eta.{lambdas}
use Rattle.lf.specs.SkeletonTyping.{SkeletonAt, SpineSkeleton}
use Rattle.lf.specs.Skeletons.{constant_skeletons, context_skeletons}
use Rattle.lf.specs.Typing.{Signature, TypeAt, IsContext, IsTypedSubstitution, IsSignature}
use Rattle.lf.specs.Variables.{target, nothing}
use Rattle.lf.specs.Subordination.{Block, AreTypedBlocks, SelfContained}
use Rattle.lf.specs.Worlds.{World}
use Rattle.lf.specs.Extension.{Extends}
use Rattle.lf.proofs.Growth.{growth_keeps_spine_typing}
use Rattle.lf.proofs.Renaming.{substitute_renamed_spine}
use Rattle.lf.proofs.SkeletonTyping.{renaming_keeps_spine_skeletons}
use Rattle.lf.proofs.ToSkeletons.{skeleton_has_variable, typed_spine_has_skeleton, variable_has_skeleton}
use Rattle.lf.proofs.TypeLaws.{skeleton_renamed}
use Rattle.lf_checks.specs.Below.{IsSubordination}
use Rattle.lf_unification.specs.Filling.{fill_type}
use Rattle.lf_unification.specs.Offering.{pi_over}
use Rattle.lf_unification.specs.OpenTyping.{ValueHasType, skeletons_of}
use Rattle.lf_unification.specs.Skeletons.{skeleton_or_default}
use Rattle.lf_unification.specs.Solving.{IsWellFormed}
use Rattle.lf_unification.specs.Steps.{Run}
use Rattle.lf_unification.specs.Unifiers.{ExtendsFilling, Solution, Store}
use Rattle.lf_unification.proofs.Runs.{run_form, run_keeps_unifiers}
use Rattle.lf_cases.specs.Case.{items_context, as_term}
use Rattle.lf_cases.specs.OutputGoal.{free_variables}
use Rattle.lf_cases.specs.Reached.{arguments_count, taken, split_items}
use Rattle.lf_coverage.specs.Heads.{ArgumentsAreBelow}
use Rattle.lf_coverage.specs.SplitStore.{open_some, open_type}
use Rattle.lf_coverage.proofs.OpenTerms.{AllStand, FitsImage, fill_open_spine}
use Rattle.lf_coverage.proofs.RefutedSplits.{run_in_extension}
use Rattle.lf_coverage.proofs.StoreSolution.{looked_up, skeleton_open}
use Rattle.lf_numbered.specs.EntryConstants.{IsFreeFrom, with_entries}
use Rattle.lf_numbered.specs.LeftUnifiers.{head_in}
use Rattle.lf_numbered.specs.NewInstance.{AreApart}
use Rattle.lf_numbered.specs.NumberedCallsOutside.{over_head}
use Rattle.lf_numbered.specs.NumberedBeside.{TakesIn}
use Rattle.lf_numbered.specs.NumberedCase.{NumberedCase, IsNumberedInstance}
use Rattle.lf_numbered.specs.NumberedInstance.{move_types}
use Rattle.lf_numbered.specs.NumberedSplits.{NumberedOffer}
use Rattle.lf_numbered.specs.Numbering.{entries_of}
use Rattle.lf_numbered.specs.OwnStores.{IsNumberedOffer, numbered_store}
use Rattle.lf_numbered.specs.OwnTerms.{blocks_of, own_terms, TypeOnOwnTerms, put_in_blocks}
use Rattle.lf_numbered.specs.OwnValues.{ValuesOnOwnTerms}
use Rattle.lf_numbered.specs.Reading.{entry_reading}
use Rattle.lf_numbered.specs.TypedNumbered.{IsTypedNumberedCase}
use Rattle.lf_numbered.specs.Writing.{IsWriting, back_over}
use Rattle.lf_numbered.specs.WritingRoom.{gap_back, leave_room, past_gap}
use Rattle.lf_numbered.proofs.LeftOffers.{HeadWritten}
use Rattle.lf_numbered.proofs.LeftTyped.{behind}
use Rattle.lf_numbered.proofs.NumberedSplitsHeads.{MakesWritten}
use Rattle.lf_numbered.proofs.NumberedSplitsMoved.{e₂, room, v, θ₂, σ₂, h₂, T₂}
use Rattle.lf_numbered.proofs.NumberedSplitsReady.{ready_there, split_context, terms, typed as values_are_typed, written_solution}
use Rattle.lf_numbered.proofs.NumberedSplitsSolution.{context_filling, filling_is, fits}
use Rattle.lf_numbered.proofs.NumberedSplitsValues.{written_values_own}
use Rattle.lf_numbered.proofs.OwnStoresEntry.{OwnHead, ok₁, own_head}
use Rattle.lf_numbered.proofs.OwnStoresFillings.{types_own}
use Rattle.lf_numbered.proofs.OwnStoresOpened.{filled_own}
use Rattle.lf_numbered.proofs.OwnStoresStart.{numbered_owned}
use Rattle.lf_numbered.proofs.OwnStoresSteps.{StoreOwned}
use Rattle.lf_numbered.proofs.OwnStoresTerms.{ValueOnOwnTerms}
use Rattle.lf_numbered.proofs.OwnTerms.{put_in_own, rename_own, substitute_own}
use Rattle.lf_numbered.proofs.OwnValuesSteps.{own_terms_extend}
use Rattle.lf_numbered.proofs.WritingGap.{past_back}
use Rattle.lf_numbered.proofs.WritingInstance.{entries_extend, types_more, written_signature}
use mathlib.Core.Path.{fun_ext}

-- what has no value is on own terms
value_own : (Σ : Signature) (F : List LfType) (μ : ℕ → Skeleton) (o : ℕ → Option Spine) (β : ℕ → Option Term) (Ψ : ℕ → Option LfType) → ValuesOnOwnTerms o Ψ β → (m : ℕ) (y : Option LfType) (z : Option Term) → Ψ m ≡ y → β m ≡ z → ValueHasType Σ F μ β y z → ValueOnOwnTerms o (β m)
value_own Σ F μ o β Ψ h m None None e q v = subst (ValueOnOwnTerms o) (sym q) tt
value_own Σ F μ o β Ψ h m None (Some N) e q v = absurd v
value_own Σ F μ o β Ψ h m (Some A) None e q v = absurd v
value_own Σ F μ o β Ψ h m (Some A) (Some N) e q v = subst (ValueOnOwnTerms o) (sym q) (h m A N e q)

module _ (Σ Σ' : Signature) (ok : IsSignature Σ) (S : ℕ → Bool) (x : Extends S Σ Σ') (W : List Block) (typed : AreTypedBlocks Σ W) (below : ℕ → ℕ → Bool) (s : IsSubordination Σ W below) (sc : SelfContained Σ W S) (first : ℕ) (free : IsFreeFrom Σ first) (E : NumberedCase) (te : IsTypedNumberedCase Σ first W E) {G : List LfType} (w : World Σ' W S G) (θ : ℕ → ℕ → Image) (σ : ℕ → Image) (inst : IsNumberedInstance w first E θ σ) (apart : AreApart E θ) (y : ℕ) (X : LfType) (at : TypeAt E.variables y X) (fams : TakesIn S X) (args : ArgumentsAreBelow below X) (h : Head) (U : Spine) (A : LfType) (offer : IsNumberedOffer Σ first E X h U A) (T : Spine) (e : σ y ≡ put (skeleton X) (lambdas (length (taken X)) (root (head_in first (blocks_of E.blocks) θ (length (taken X)) h) T))) (K : Kind) (of_family : Σ.kinds (target X) ≡ Some K) where
  abbrev h0 : Head
  h0 = head_in first (blocks_of E.blocks) θ (length (taken X)) h

  abbrev γ : ℕ → ℕ
  γ = past_gap first (entries_of (blocks_of E.blocks))

  abbrev δ : ℕ → ℕ
  δ = gap_back first (entries_of (blocks_of E.blocks))

  abbrev k : ℕ
  k = arguments_count A

  abbrev V : List LfType
  V = E.variables

  abbrev Bs : List Block
  Bs = blocks_of E.blocks

  abbrev Σ₁ : Signature
  Σ₁ = with_entries Σ first (blocks_of E.blocks)

  abbrev Σr : Signature
  Σr = leave_room first (entries_of (blocks_of E.blocks)) Σ'

  abbrev Σe : Signature
  Σe = with_entries (leave_room first (entries_of (blocks_of E.blocks)) Σ') first (blocks_of E.blocks)

  abbrev Gr : List LfType
  Gr = move_types (past_gap first (entries_of (blocks_of E.blocks))) G

  abbrev Cc : List LfType
  Cc = items_context (split_items below X (free_variables E.variables) zero A)

  abbrev o : NumberedOffer
  o = record { case = E; variable = y; type = X; head = h; terms = U; left = A }

  abbrev over : NumberedCase
  over = over_head below (record { case = E; variable = y; type = X; head = h; terms = U; left = A })

  abbrev start : Store
  start = numbered_store below E y X h U A K

  okE : IsSignature Σ₁
  okE = ok₁ Σ ok W typed first free E te.variables

  back : (c : ℕ) → δ (γ c) ≡ c
  back c = past_back first (entries_of (blocks_of E.blocks)) c

  abbrev vr : World Σr W S Gr
  vr = v Σ Σ' ok S x W typed below s sc first free E te w θ σ inst apart y X at fams args h0 T e

  module _ (F : List LfType) (ρ : ℕ → Image) (back_to : ℕ → ℕ) (writing : IsWriting (leave_room first (entries_of (blocks_of E.blocks)) Σ') first (blocks_of E.blocks) (θ₂ Σ Σ' ok S x W typed below s sc first free E te w θ σ inst apart y X at fams args (head_in first (blocks_of E.blocks) θ (length (taken X)) h) T e) (move_types (past_gap first (entries_of (blocks_of E.blocks))) G) F ρ back_to) (hw : HeadWritten Σ (leave_room first (entries_of (blocks_of E.blocks)) Σ') (v Σ Σ' ok S x W typed below s sc first free E te w θ σ inst apart y X at fams args (head_in first (blocks_of E.blocks) θ (length (taken X)) h) T e) first E (θ₂ Σ Σ' ok S x W typed below s sc first free E te w θ σ inst apart y X at fams args (head_in first (blocks_of E.blocks) θ (length (taken X)) h) T e) (σ₂ Σ Σ' ok S x W typed below s sc first free E te w θ σ inst apart y X at fams args (head_in first (blocks_of E.blocks) θ (length (taken X)) h) T e) (room Σ Σ' ok S x W typed below s sc first free E te w θ σ inst apart y X at fams args (head_in first (blocks_of E.blocks) θ (length (taken X)) h) T e) F ρ back_to writing sc below s y X at fams args (h₂ Σ Σ' ok S x W typed below s sc first free E te w θ σ inst apart y X at fams args (head_in first (blocks_of E.blocks) θ (length (taken X)) h) T e) (T₂ Σ Σ' ok S x W typed below s sc first free E te w θ σ inst apart y X at fams args (head_in first (blocks_of E.blocks) θ (length (taken X)) h) T e) (e₂ Σ Σ' ok S x W typed below s sc first free E te w θ σ inst apart y X at fams args (head_in first (blocks_of E.blocks) θ (length (taken X)) h) T e) h U A) (φ : ℕ → Image) (m : MakesWritten Σ (leave_room first (entries_of (blocks_of E.blocks)) Σ') (v Σ Σ' ok S x W typed below s sc first free E te w θ σ inst apart y X at fams args (head_in first (blocks_of E.blocks) θ (length (taken X)) h) T e) first E (θ₂ Σ Σ' ok S x W typed below s sc first free E te w θ σ inst apart y X at fams args (head_in first (blocks_of E.blocks) θ (length (taken X)) h) T e) (σ₂ Σ Σ' ok S x W typed below s sc first free E te w θ σ inst apart y X at fams args (head_in first (blocks_of E.blocks) θ (length (taken X)) h) T e) (room Σ Σ' ok S x W typed below s sc first free E te w θ σ inst apart y X at fams args (head_in first (blocks_of E.blocks) θ (length (taken X)) h) T e) F ρ back_to writing sc below s y X at fams args (h₂ Σ Σ' ok S x W typed below s sc first free E te w θ σ inst apart y X at fams args (head_in first (blocks_of E.blocks) θ (length (taken X)) h) T e) (T₂ Σ Σ' ok S x W typed below s sc first free E te w θ σ inst apart y X at fams args (head_in first (blocks_of E.blocks) θ (length (taken X)) h) T e) (e₂ Σ Σ' ok S x W typed below s sc first free E te w θ σ inst apart y X at fams args (head_in first (blocks_of E.blocks) θ (length (taken X)) h) T e) h U A φ) (s' : Store) (run : Run (with_entries Σ first (blocks_of E.blocks)) (numbered_store below E y X h U A K) s') where
    abbrev θr : ℕ → ℕ → Image
    θr = θ₂ Σ Σ' ok S x W typed below s sc first free E te w θ σ inst apart y X at fams args h0 T e

    abbrev σr : ℕ → Image
    σr = σ₂ Σ Σ' ok S x W typed below s sc first free E te w θ σ inst apart y X at fams args h0 T e

    abbrev τ : ℕ → Image
    τ = after ρ σr

    abbrev f : ℕ → Option (ℕ × ℕ)
    f = entry_reading first (blocks_of E.blocks) (θ₂ Σ Σ' ok S x W typed below s sc first free E te w θ σ inst apart y X at fams args h0 T e) (length F)

    abbrev ν : ℕ → ℕ
    ν = back_over (length F) back_to

    abbrev oF : ℕ → Option Spine
    oF = own_terms first (put_in_blocks (after ρ (σ₂ Σ Σ' ok S x W typed below s sc first free E te w θ σ inst apart y X at fams args h0 T e)) E.blocks)

    oke : IsSignature Σe
    oke = written_signature Σ Σr vr first E (θ₂ Σ Σ' ok S x W typed below s sc first free E te w θ σ inst apart y X at fams args h0 T e) (σ₂ Σ Σ' ok S x W typed below s sc first free E te w θ σ inst apart y X at fams args h0 T e) (room Σ Σ' ok S x W typed below s sc first free E te w θ σ inst apart y X at fams args h0 T e)

    cc0 : IsContext Σe Cc
    cc0 = split_context Σ Σr vr first E (θ₂ Σ Σ' ok S x W typed below s sc first free E te w θ σ inst apart y X at fams args h0 T e) (σ₂ Σ Σ' ok S x W typed below s sc first free E te w θ σ inst apart y X at fams args h0 T e) (room Σ Σ' ok S x W typed below s sc first free E te w θ σ inst apart y X at fams args h0 T e) F ρ back_to writing sc below s y X at fams args (h₂ Σ Σ' ok S x W typed below s sc first free E te w θ σ inst apart y X at fams args h0 T e) (T₂ Σ Σ' ok S x W typed below s sc first free E te w θ σ inst apart y X at fams args h0 T e) (e₂ Σ Σ' ok S x W typed below s sc first free E te w θ σ inst apart y X at fams args h0 T e) h U A offer K of_family φ m

    φ_typed : IsTypedSubstitution Σe Cc F φ
    φ_typed = values_are_typed Σ Σr vr first E (θ₂ Σ Σ' ok S x W typed below s sc first free E te w θ σ inst apart y X at fams args h0 T e) (σ₂ Σ Σ' ok S x W typed below s sc first free E te w θ σ inst apart y X at fams args h0 T e) (room Σ Σ' ok S x W typed below s sc first free E te w θ σ inst apart y X at fams args h0 T e) F ρ back_to writing sc below s y X at fams args (h₂ Σ Σ' ok S x W typed below s sc first free E te w θ σ inst apart y X at fams args h0 T e) (T₂ Σ Σ' ok S x W typed below s sc first free E te w θ σ inst apart y X at fams args h0 T e) (e₂ Σ Σ' ok S x W typed below s sc first free E te w θ σ inst apart y X at fams args h0 T e) h U A offer K of_family φ m

    φ_terms : (i : ℕ) (B : LfType) → TypeAt Cc i B → (N : Term) × (φ i ≡ put (skeleton B) N)
    φ_terms = terms Σ Σr vr first E (θ₂ Σ Σ' ok S x W typed below s sc first free E te w θ σ inst apart y X at fams args h0 T e) (σ₂ Σ Σ' ok S x W typed below s sc first free E te w θ σ inst apart y X at fams args h0 T e) (room Σ Σ' ok S x W typed below s sc first free E te w θ σ inst apart y X at fams args h0 T e) F ρ back_to writing sc below s y X at fams args (h₂ Σ Σ' ok S x W typed below s sc first free E te w θ σ inst apart y X at fams args h0 T e) (T₂ Σ Σ' ok S x W typed below s sc first free E te w θ σ inst apart y X at fams args h0 T e) (e₂ Σ Σ' ok S x W typed below s sc first free E te w θ σ inst apart y X at fams args h0 T e) h U A offer K of_family φ m

    keeps_φ : (i : ℕ) → φ (i + k) ≡ τ i
    keeps_φ i = ap φ (zeros i k) ∙ m.keeps i
      where
        zeros : (j n : ℕ) → j + n ≡ j + (0 + n)
        zeros j n = omega arith

    -- The store's run, over the extension
    ready : IsWellFormed Σe start
    ready = ready_there Σ Σr vr first E (θ₂ Σ Σ' ok S x W typed below s sc first free E te w θ σ inst apart y X at fams args h0 T e) (σ₂ Σ Σ' ok S x W typed below s sc first free E te w θ σ inst apart y X at fams args h0 T e) (room Σ Σ' ok S x W typed below s sc first free E te w θ σ inst apart y X at fams args h0 T e) F ρ back_to writing sc below s y X at fams args (h₂ Σ Σ' ok S x W typed below s sc first free E te w θ σ inst apart y X at fams args h0 T e) (T₂ Σ Σ' ok S x W typed below s sc first free E te w θ σ inst apart y X at fams args h0 T e) (e₂ Σ Σ' ok S x W typed below s sc first free E te w θ σ inst apart y X at fams args h0 T e) h U A offer K of_family

    run_there : Run Σe start s'
    run_there = run_in_extension nothing Σ₁ Σe (entries_extend Σ Σr W S Gr vr first E θr σr (room Σ Σ' ok S x W typed below s sc first free E te w θ σ inst apart y X at fams args h0 T e)) start s' run

    form : IsWellFormed Σe s'
    form = run_form Σe oke ready run_there

    extended : (β : ℕ → Option Term) × ExtendsFilling start.metavariables (context_filling Cc φ) β × Solution Σe [] s' F β × ValuesOnOwnTerms oF s'.metavariables β
    extended = own_terms_extend Σe oke start s' ready run_there F (context_filling Cc φ) (written_solution Σ Σr vr first E (θ₂ Σ Σ' ok S x W typed below s sc first free E te w θ σ inst apart y X at fams args h0 T e) (σ₂ Σ Σ' ok S x W typed below s sc first free E te w θ σ inst apart y X at fams args h0 T e) (room Σ Σ' ok S x W typed below s sc first free E te w θ σ inst apart y X at fams args h0 T e) F ρ back_to writing sc below s y X at fams args (h₂ Σ Σ' ok S x W typed below s sc first free E te w θ σ inst apart y X at fams args h0 T e) (T₂ Σ Σ' ok S x W typed below s sc first free E te w θ σ inst apart y X at fams args h0 T e) (e₂ Σ Σ' ok S x W typed below s sc first free E te w θ σ inst apart y X at fams args h0 T e) h U A offer K of_family φ m) oF (written_values_own Σ Σr vr first E (θ₂ Σ Σ' ok S x W typed below s sc first free E te w θ σ inst apart y X at fams args h0 T e) (σ₂ Σ Σ' ok S x W typed below s sc first free E te w θ σ inst apart y X at fams args h0 T e) (room Σ Σ' ok S x W typed below s sc first free E te w θ σ inst apart y X at fams args h0 T e) F ρ back_to writing sc below s y X at fams args (h₂ Σ Σ' ok S x W typed below s sc first free E te w θ σ inst apart y X at fams args h0 T e) (T₂ Σ Σ' ok S x W typed below s sc first free E te w θ σ inst apart y X at fams args h0 T e) (e₂ Σ Σ' ok S x W typed below s sc first free E te w θ σ inst apart y X at fams args h0 T e) h U A offer K of_family φ m hw.head1 hw.terms1 hw.written)

    abbrev β : ℕ → Option Term
    β = extended.0

    abbrev μ : ℕ → Skeleton
    μ = skeletons_of s'.metavariables

    filled_as : (i : ℕ) (B : LfType) (N : Term) → TypeAt Cc i B → φ i ≡ put (skeleton B) N → β i ≡ Some N
    filled_as i B N g q = extended.1 i (open_type zero B) (ap open_some (looked_up Cc i B g)) ∙ filling_is Σe oke Cc F cc0 writing.context φ φ_typed φ_terms i B N g q

    grown : (i : ℕ) (B : LfType) → TypeAt Cc i B → s'.metavariables i ≡ Some (open_type zero B)
    grown i B g = (run_keeps_unifiers Σe oke ready run_there).grows i (open_type zero B) (ap open_some (looked_up Cc i B g))

    stand : AllStand Σe μ zero (context_skeletons Cc) φ β
    stand i t g =
        let (B, b, q) = skeleton_has_variable Cc i t g in
        let (N, p) = φ_terms i B b in
        inl (i, refl, ap skeleton_or_default (grown i B b) ∙ skeleton_open zero B ∙ q, filled_as i B N b p ∙ ap Some (ap (as_term t) (sym p)), subst (FitsImage t) (sym p) q)

    moves : (i : ℕ) (t : Skeleton) → SkeletonAt (context_skeletons V) i t → SkeletonAt (context_skeletons Cc) (shift_by k i) t
    moves i t g = let (B, b, q) = skeleton_has_variable V i t g in subst (SkeletonAt (context_skeletons Cc) (i + k)) (skeleton_renamed (shift_by k) B ∙ q) (variable_has_skeleton Cc (i + k) (rename_type (shift_by k) B) (behind Σ ok W typed first free below E te y X at h U A offer K of_family i B b))

    own_filled : (c : ℕ) → oF c ≡ filled_own μ β zero (rename_own (shift_by k) (own_terms first E.blocks c))
    own_filled c = put_in_own first E.blocks τ c ∙ by (own_terms first E.blocks c) refl
      where
        by : (u : Option Spine) → own_terms first E.blocks c ≡ u → substitute_own τ u ≡ filled_own μ β zero (rename_own (shift_by k) u)
        by None q = refl
        by (Some Z) q =
            let z : OwnHead Σ ok W typed first free E te.variables c Z = own_head Σ ok W typed first free E te.variables c Z q in
            let Q : LfType = pi_over z.some z.inner in
            let O : LfType = substitute_type reduce z.values z.inner in
            let sp : SpineSkeleton (constant_skeletons Σe) (context_skeletons Cc) (rename_spine (shift_by k) Z) (skeleton Q) (skeleton O) = renaming_keeps_spine_skeletons (constant_skeletons Σe) (context_skeletons V) (context_skeletons Cc) (shift_by k) Z (skeleton Q) (skeleton O) moves (typed_spine_has_skeleton Σe V Z Q O (growth_keeps_spine_typing Σ₁ Σe (types_more Σ Σr vr first E (θ₂ Σ Σ' ok S x W typed below s sc first free E te w θ σ inst apart y X at fams args h0 T e) (σ₂ Σ Σ' ok S x W typed below s sc first free E te w θ σ inst apart y X at fams args h0 T e) (room Σ Σ' ok S x W typed below s sc first free E te w θ σ inst apart y X at fams args h0 T e)) (room Σ Σ' ok S x W typed below s sc first free E te w θ σ inst apart y X at fams args h0 T e).extends.kinds_stay V Z Q O z.spine_typed)) in
            ap Some (ap (λ a. substitute_spine reduce a Z) (sym (fun_ext keeps_φ)) ∙ sym (substitute_renamed_spine reduce φ (shift_by k) Z) ∙ sym (fill_open_spine Σe μ zero (context_skeletons Cc) (context_skeletons F) φ β stand (fits Σe oke Cc F cc0 writing.context φ φ_typed φ_terms) (rename_spine (shift_by k) Z) (skeleton Q) (skeleton O) sp))

    owned : StoreOwned μ oF β start
    owned = numbered_owned Σ ok W typed first free below E te.variables y X at h U A offer K of_family μ β oF own_filled

    own_types : (i : ℕ) (B : LfType) → s'.metavariables i ≡ Some B → TypeOnOwnTerms oF (fill_type μ β B)
    own_types i B q = types_own Σe oke start s' ready run_there form F β extended.2 oF owned (λ j n. value_own Σe F μ oF β s'.metavariables extended.3 j (s'.metavariables j) (β j) refl refl (extended.2.0.typed j)) i B q

    -- The lemma
    pub written_unifier : (β : ℕ → Option Term) × ((i : ℕ) (B : LfType) (N : Term) → TypeAt (items_context (split_items below X (free_variables E.variables) zero A)) i B → φ i ≡ put (skeleton B) N → β i ≡ Some N) × Solution (with_entries (leave_room first (entries_of (blocks_of E.blocks)) Σ') first (blocks_of E.blocks)) [] s' F β × ValuesOnOwnTerms (own_terms first (put_in_blocks (after ρ (σ₂ Σ Σ' ok S x W typed below s sc first free E te w θ σ inst apart y X at fams args (head_in first (blocks_of E.blocks) θ (length (taken X)) h) T e)) E.blocks)) s'.metavariables β × ((i : ℕ) (B : LfType) → s'.metavariables i ≡ Some B → TypeOnOwnTerms (own_terms first (put_in_blocks (after ρ (σ₂ Σ Σ' ok S x W typed below s sc first free E te w θ σ inst apart y X at fams args (head_in first (blocks_of E.blocks) θ (length (taken X)) h) T e)) E.blocks)) (fill_type (skeletons_of s'.metavariables) β B)) × IsWellFormed (with_entries (leave_room first (entries_of (blocks_of E.blocks)) Σ') first (blocks_of E.blocks)) s'
    written_unifier = (extended.0, filled_as, extended.2, extended.3, own_types, form)
