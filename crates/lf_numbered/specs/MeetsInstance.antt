-- A typed instance that a case by number and a pattern share is a typed unifier of a store in which they are unified: so where unification refutes each of
-- these stores, they share none.
use Rattle.std.specs.Prelude.{◌≡◌, ℕ, List, [], length, Bool, true, false}
use Rattle.lf.specs.Syntax.{Kind}
use Rattle.lf.specs.Substitution.{Image}
use Rattle.lf.specs.Typing.{Signature, IsSignature}
use Rattle.lf.specs.Variables.{binders, everything}
use Rattle.lf.specs.Subordination.{Block, AreTypedBlocks}
use Rattle.lf_checks.specs.Clause.{Clause, outside}
use Rattle.lf_cases.specs.Missing.{blocks_with}
use Rattle.lf_cases.specs.Pattern.{Origin, of_constant, of_entry, Pattern, is_given}
use Rattle.lf_coverage.specs.Leaf.{IsTypedPattern}
use Rattle.lf_numbered.specs.EntryConstants.{IsFreeFrom}
use Rattle.lf_numbered.specs.MeetsAnswers.{AreRefuted, HasUnifier, StayBeyond, entries_at}
use Rattle.lf_numbered.specs.NumberedBesideGiven.{IsTypedBesideByNumber}
use Rattle.lf_numbered.specs.NumberedCallsMeeting.{SharesInstance}
use Rattle.lf_numbered.specs.NumberedCallsStores.{meet_store_by_number}
use Rattle.lf_numbered.specs.NumberedCase.{NumberedCase}
use Rattle.lf_numbered.specs.NumberedMeets.{HasFirst, IsSharedAt}
use Rattle.lf_numbered.specs.TypedNumbered.{IsTypedNumberedCase}

-- An entry of the first block variable alone is beside a case that has one. Of a constant's pattern nothing is asked: a constant's subgoal is also beside a
-- goal of outputs without block variables.
abbrev pub HasFirstFor : {c : Clause} → Origin c → Bool → NumberedCase → Type 0
HasFirstFor (of_constant U) b C = Unit {0}
HasFirstFor (of_entry B later E es e) b C = HasFirst b C

-- At the place of a shared instance the store of the case and the pattern has a typed unifier, over a signature with more block variables. So cp b.x b.x, which
-- cp b.x c.x and u : cp x x share, solves the store in which c is b.
abbrev pub HasSharedUnifier : (Σ : Signature) (first : ℕ) (W : List Block) (C : NumberedCase) (p : Pattern) → Kind → SharesInstance Σ first W C p → Type 0
HasSharedUnifier Σ first W C p K s = (π : ℕ → ℕ) × (J : NumberedCase) × (φ : ℕ → Image) × StayBeyond C π × IsSharedAt Σ first W C p s π J φ × HasUnifier (entries_at Σ first J) (meet_store_by_number π J p φ K)

-- Each instance that a typed case, for which nothing is given, and a typed pattern share is such a unifier.
abbrev pub SharedIsUnifier : Type 0
SharedIsUnifier = (Σ : Signature) → IsSignature Σ → (W : List Block) (first : ℕ) → IsFreeFrom Σ first → (C : NumberedCase) → IsTypedNumberedCase Σ first W C → C.given ≡ [] → (p : Pattern) → IsTypedPattern Σ p → AreTypedBlocks Σ (blocks_with p.origin W) → HasFirstFor p.origin p.at_first C → length C.local ≡ length (binders [] p.type) → (K : Kind) (s : SharesInstance Σ first W C p) → HasSharedUnifier Σ first W C p K s

-- So where all are refuted they share none.
abbrev pub RefutedSharesNone : Type 0
RefutedSharesNone = (Σ : Signature) → IsSignature Σ → (W : List Block) (first : ℕ) → IsFreeFrom Σ first → (C : NumberedCase) → IsTypedNumberedCase Σ first W C → C.given ≡ [] → (p : Pattern) → IsTypedPattern Σ p → AreTypedBlocks Σ (blocks_with p.origin W) → HasFirstFor p.origin p.at_first C → length C.local ≡ length (binders [] p.type) → (K : Kind) → AreRefuted Σ first C p K → SharesInstance Σ first W C p → ⊥

-- So it is with given terms, where the case is typed beside a pattern of the first block variable alone, as a goal of outputs is beside its subgoal, and terms
-- are given for variables of the clause itself: a given term is the value of its variable, also where this doesn't stand in the covered places.
abbrev pub SharedBesideIsUnifier : Type 0
SharedBesideIsUnifier = (Σ : Signature) → IsSignature Σ → (W : List Block) (first : ℕ) → IsFreeFrom Σ first → (C : NumberedCase) (p : Pattern) → IsTypedPattern Σ p → AreTypedBlocks Σ (blocks_with p.origin W) → p.at_first ≡ true → IsTypedBesideByNumber Σ first W C p → ((i : ℕ) → is_given C.given i ≡ true → outside p.clause.type everything i ≡ false) → (K : Kind) (s : SharesInstance Σ first W C p) → HasSharedUnifier Σ first W C p K s

-- And there too they share none where all are refuted.
abbrev pub RefutedBesideSharesNone : Type 0
RefutedBesideSharesNone = (Σ : Signature) → IsSignature Σ → (W : List Block) (first : ℕ) → IsFreeFrom Σ first → (C : NumberedCase) (p : Pattern) → IsTypedPattern Σ p → AreTypedBlocks Σ (blocks_with p.origin W) → p.at_first ≡ true → IsTypedBesideByNumber Σ first W C p → ((i : ℕ) → is_given C.given i ≡ true → outside p.clause.type everything i ≡ false) → (K : Kind) → AreRefuted Σ first C p K → SharesInstance Σ first W C p → ⊥
