-- The stores of the cases of a run from a goal of inputs with the heads of clauses are well formed; and those of constants' patterns where no block variables are
-- one.
use Rattle.std.proofs.Common.{◌≡◌, ℕ, List, [], ◌∷◌, length, inl, inr, refl, sym, ap, ap₂, ◌∙◌, subst}
use Rattle.std.specs.Prelude.{Bool}
use Rattle.lf.specs.Substitution.{keep}
use Rattle.lf.specs.Typing.{Signature, IsContext}
use Rattle.lf.specs.Variables.{nothing, onto}
use Rattle.lf.specs.Subordination.{Block, AreTypedBlocks}
use Rattle.lf.specs.Extension.{Extends}
use Rattle.lf_unification.specs.Solving.{IsWellFormed}
use Rattle.lf_checks.specs.Clause.{Clause, IsClause, from_constant, from_entry}
use Rattle.lf_checks.specs.Marks.{MentionChosenOnly, TypedPlaces}
use Rattle.lf_cases.specs.Case.{covered_places, input_goal}
use Rattle.lf_cases.specs.Missing.{blocks_with}
use Rattle.lf_cases.specs.Pattern.{Origin, of_constant, of_entry, head_pattern, origin}
use Rattle.lf_coverage.specs.MeetStore.{IsConstants}
use Rattle.lf_coverage.proofs.Leaves.{head_is_typed}
use Rattle.lf_numbered.specs.EntryConstants.{with_entries}
use Rattle.lf_numbered.specs.MeetsReady.{InputRunHasTypedPlaces, InputRunMeetStoreIsReady, ApartStoreIsReady, RefutedInputIsApartTuple, OneBlockInputIsApartTuple}
use Rattle.lf_numbered.specs.NumberedCallsStores.{Identifies, IsPutBeside, constant_beside, identified, meet_store_by_number, move_blocks}
use Rattle.lf_numbered.specs.NumberedCase.{NumberedCase}
use Rattle.lf_numbered.specs.NumberedInstance.{move_all, move_types}
use Rattle.lf_numbered.specs.Numbering.{numbered}
use Rattle.lf_numbered.specs.OwnTerms.{BlockVariable, blocks_of}
use Rattle.lf_numbered.proofs.EntryTermsInputs.{clause_is_closed, closed_is_typed, input_goal_is_beside_by_number, beside_has_typed_places}
use Rattle.lf_numbered.proofs.EntryTermsRuns.{comes_as_input, goal_is_input}
use Rattle.lf_numbered.proofs.MeetsReadyInputs.{input_meet_store_is_ready}
use Rattle.lf_numbered.proofs.NumberedBesideStays.{numbered_run_stays_beside}
use Rattle.lf_numbered.proofs.NumberedCallsOwn.{unmoved_all, unmoved_spine, unmoved_types}
use Rattle.lf_numbered.proofs.NumberedCallsShared.{constants_stay}
use Rattle.lf_numbered.proofs.NumberedTuplesRoom.{refuted_is_apart_tuple, one_block_is_apart_tuple}

-- the worlds of a clause with its block
pub one_more_block : (Σ : Signature) (W : List Block) → AreTypedBlocks Σ W → (B : Block) → IsContext Σ (onto B.entries B.some) → AreTypedBlocks Σ (B ∷ W)
one_more_block Σ W typed B c D (inl q) = subst (λ (F : Block). IsContext Σ (onto F.entries F.some)) (sym q) c
one_more_block Σ W typed B c D (inr n) = typed D n

pub clause_blocks : (Σ : Signature) (W : List Block) → AreTypedBlocks Σ W → (c : Clause) (i : IsClause Σ W c) → AreTypedBlocks Σ (blocks_with (origin i) W)
clause_blocks Σ W typed c (from_constant k U e) = typed
clause_blocks Σ W typed c (from_entry B later E es m e) = one_more_block Σ W typed B (typed B m)

pub input_run_has_typed_places : InputRunHasTypedPlaces
input_run_has_typed_places Σ ok W typed first free below a m K kd v C r c i e =
    let (U, t, q) = clause_is_closed Σ ok W typed c i in
    let b = numbered_run_stays_beside Σ ok W typed first free below _ (closed_is_typed Σ ok U t) (numbered first (input_goal a m K)) (input_goal_is_beside_by_number Σ ok W typed first free a m K kd v U t (q ∙ e)) C r in
    let (T, hT, pT) = beside_has_typed_places Σ ok W typed first free C U t b K (ap Σ.kinds (q ∙ e) ∙ kd) in
    let h = comes_as_input Σ W first below m (numbered first (input_goal a m K)) C (goal_is_input first a m K v) r in
    let Σ₁ : Signature = with_entries Σ first (blocks_of C.blocks) in (
      b.typed,
      h.given,
      h.local,
      record { mention = subst (λ b. MentionChosenOnly nothing b K) (sym h.places) v; tuple = T; are = hT; typed = subst (λ L. TypedPlaces Σ₁ (covered_places C.arguments) (onto L C.variables) T K) (sym h.local) pT },
    )

pub input_run_meet_store_is_ready : InputRunMeetStoreIsReady
input_run_meet_store_is_ready Σ ok W typed first free below a m K kd v C r c i e π is J φ at Σe x =
    let (tc, none, local, places) = input_run_has_typed_places Σ ok W typed first free below a m K kd v C r c i e in
    input_meet_store_is_ready Σ ok W first free C tc none (head_pattern c (origin i)) (head_is_typed Σ ok W typed c i) (clause_blocks Σ W typed c i) tt local K (ap Σ.kinds e ∙ kd) places π is J φ at Σe x

-- Where each block variable stays, so does the case.
blocks_unmoved : (bs : List BlockVariable) → move_blocks (λ c. c) bs ≡ bs
blocks_unmoved [] = refl
blocks_unmoved (b ∷ bs) = ap₂ (λ U cs. record { block = b.block; terms = U } ∷ cs) (unmoved_spine b.terms) (blocks_unmoved bs)

pub none_is_one : (first : ℕ) (C : NumberedCase) → identified first (λ k. k) C ≡ C
none_is_one first C =
    ap (λ γ. record { blocks = move_blocks γ C.blocks; variables = move_types γ C.variables; given = move_all γ C.given; local = move_types γ C.local; family = C.family; arguments = move_all γ C.arguments }) (constants_stay first C.blocks)
    ∙ ap₂ (λ bs X. record { blocks = bs; variables = X; given = move_all (λ c. c) C.given; local = move_types (λ c. c) C.local; family = C.family; arguments = move_all (λ c. c) C.arguments }) (blocks_unmoved C.blocks) (unmoved_types C.variables)
    ∙ ap₂ (λ Ms D. record { blocks = C.blocks; variables = C.variables; given = Ms; local = D; family = C.family; arguments = move_all (λ c. c) C.arguments }) (unmoved_all C.given) (unmoved_types C.local)
    ∙ ap (λ Ns. record { blocks = C.blocks; variables = C.variables; given = C.given; local = C.local; family = C.family; arguments = Ns }) (unmoved_all C.arguments)

pub all_stay : (C : NumberedCase) → Identifies C (λ k. k)
all_stay C k b e = (b, e, refl, refl)

constant_place : (first : ℕ) (D : NumberedCase) (π : ℕ → ℕ) (b : Bool) (c : Clause) (o : Origin c) → IsConstants o → IsPutBeside first D π b c o D keep
constant_place first D π b c (of_constant U) i = constant_beside U
constant_place first D π b c (of_entry B later E es e) i = absurd i

constant_blocks : (Σ : Signature) (W : List Block) → AreTypedBlocks Σ W → (c : Clause) (o : Origin c) → IsConstants o → AreTypedBlocks Σ (blocks_with o W)
constant_blocks Σ W typed c (of_constant U) i = typed
constant_blocks Σ W typed c (of_entry B later E es e) i = absurd i

pub apart_store_is_ready : ApartStoreIsReady
apart_store_is_ready Σ ok W typed first free C tc none p tp i closed local K e h =
    subst (λ (H : NumberedCase). (Σe : Signature) → Extends nothing (with_entries Σ first (blocks_of H.blocks)) Σe → IsWellFormed Σe (meet_store_by_number (λ k. k) H p keep K)) (none_is_one first C)
    (input_meet_store_is_ready Σ ok W first free C tc none p tp (constant_blocks Σ W typed p.clause p.origin i) closed local K e h (λ k. k) (all_stay C) (identified first (λ k. k) C) keep (constant_place first (identified first (λ k. k) C) (λ k. k) p.at_first p.clause p.origin i))

pub refuted_input_is_apart_tuple : RefutedInputIsApartTuple
refuted_input_is_apart_tuple Σ ok W typed first free C tc none p tp i closed local K e h = refuted_is_apart_tuple Σ ok W first free C tc none p tp i (ap length local) K (apart_store_is_ready Σ ok W typed first free C tc none p tp i closed local K e h)

pub one_block_input_is_apart_tuple : OneBlockInputIsApartTuple
one_block_input_is_apart_tuple Σ ok W typed first free C tc one none p tp i closed local K e h = one_block_is_apart_tuple Σ ok W first free C tc one none p tp i (ap length local) K (apart_store_is_ready Σ ok W typed first free C tc none p tp i closed local K e h)
