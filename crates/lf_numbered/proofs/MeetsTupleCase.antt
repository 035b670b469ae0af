-- A case in a context: its block variables are one where they stand for one instance, and a pattern of a constant is put beside it.
use Rattle.std.proofs.Common.{◌≡◌, ℕ, zero, List, [], ◌+◌, length, subst, arith}
use Rattle.std.specs.Prelude.{Bool, true, false, Some}
use Rattle.lf.specs.Syntax.{LfType, Kind}
use Rattle.lf.specs.Substitution.{Image}
use Rattle.lf.specs.Typing.{Signature}
use Rattle.lf.specs.Variables.{nothing}
use Rattle.lf.specs.Subordination.{Block}
use Rattle.lf.specs.Worlds.{World}
use Rattle.lf.specs.Extension.{Extends}
use Rattle.lf_unification.proofs.Runs.{run_refuted}
use Rattle.lf_cases.specs.Cover.{InstanceIn}
use Rattle.lf_cases.specs.Pattern.{Pattern, is_given}
use Rattle.lf_coverage.proofs.RefutedSplits.{run_in_extension}
use Rattle.lf_numbered.specs.EntryConstants.{with_entries}
use Rattle.lf_numbered.specs.MeetsAnswers.{AreRefuted}
use Rattle.lf_numbered.specs.MeetsTuple.{MeetsAt}
use Rattle.lf_numbered.specs.NumberedCallsStores.{meet_store_by_number}
use Rattle.lf_numbered.specs.NumberedCase.{NumberedCase, IsNumberedInstance, AreTypedVariables}
use Rattle.lf_numbered.specs.NumberedInstance.{block_at}
use Rattle.lf_numbered.specs.OwnTerms.{BlockVariable, blocks_of, own_terms}
use Rattle.lf_numbered.specs.Reading.{entry_reading}
use Rattle.lf_numbered.specs.TypedNumbered.{IsTypedNumberedCase}
use Rattle.lf_numbered.proofs.MeetsTupleRoom.{blocks_here}
use Rattle.lf_numbered.proofs.WritingChoice.{instance_of}

-- A case that is typed in its worlds is typed in those of a context with an instance of it.
pub typed_here : (Σ : Signature) (W V : List Block) (first : ℕ) (C : NumberedCase) → IsTypedNumberedCase Σ first W C → {Σ' : Signature} {S : ℕ → Bool} {G : List LfType} (w : World Σ' V S G) (θ : ℕ → ℕ → Image) (σ : ℕ → Image) → IsNumberedInstance w first C θ σ → IsTypedNumberedCase Σ first V C
typed_here Σ W V first C tc w θ σ i =
    let tv : AreTypedVariables Σ first V C = record { variables = tc.variables.variables; on_own_terms = tc.variables.on_own_terms; blocks = blocks_here w (with_entries Σ first (blocks_of C.blocks)) W C.variables (own_terms first C.blocks) (entry_reading first (blocks_of C.blocks) θ (length C.variables)) σ θ zero C.blocks tc.variables.blocks i.instances } in
    record { variables = tv; local = tc.local; local_on_own = tc.local_on_own; given = tc.given; given_on_own = tc.given_on_own; arguments = tc.arguments; arguments_on_own = tc.arguments_on_own }

pub instance_here : {Σ' : Signature} {V : List Block} {S : ℕ → Bool} {G : List LfType} (w : World Σ' V S G) (first : ℕ) (C : NumberedCase) (θ : ℕ → ℕ → Image) (σ : ℕ → Image) → IsNumberedInstance w first C θ σ → (k : ℕ) (b : BlockVariable) → block_at C.blocks k ≡ Some b → InstanceIn w b.block (θ k)
instance_here w first C θ σ i k b e = subst (λ j. InstanceIn w b.block (θ j)) (left k) (instance_of w (entry_reading first (blocks_of C.blocks) θ (length C.variables)) σ θ zero C.blocks i.instances k b e).0
  where
    left : (j : ℕ) → zero + j ≡ j
    left j = omega arith

pub nothing_given : (C : NumberedCase) (p : Pattern) → C.given ≡ [] → (i : ℕ) → is_given C.given i ≡ true → {X : Type 0} → X
nothing_given C p none i e = absurd (no (subst (λ Ms. is_given Ms i ≡ true) none e))
  where
    no : false ≡ true → ⊥
    no e = cc

-- What is refuted at each place has no unifier at any.
pub refuted_meets_none : (Σ : Signature) (first : ℕ) (C : NumberedCase) (p : Pattern) (K : Kind) → AreRefuted Σ first C p K → MeetsAt Σ first C p K → ⊥
refuted_meets_none Σ first C p K refuted m =
    let (ready, f) = refuted m.numbers m.case m.outer m.place m.stays in
    let Σe : Signature = m.unifier.signature in
    let grows : Extends nothing (with_entries Σ first (blocks_of m.case.blocks)) m.unifier.signature = m.unifier.extends in
    run_refuted Σe grows.ok (ready Σe grows) (run_in_extension nothing (with_entries Σ first (blocks_of m.case.blocks)) Σe grows (meet_store_by_number m.numbers m.case p m.outer K) f.reached f.run) f.refuted m.unifier.context m.unifier.filling m.unifier.solves
