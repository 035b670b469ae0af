-- Where a typed case by number and a pattern share an instance, block variables of the case are one, and the pattern is put beside it. So a case with which a
-- pattern has no such place shares nothing with it.
use Rattle.std.specs.Prelude.{◌≡◌, ◌≤◌, ℕ, zero, List, Bool, true, Some, ◌↔◌}
use Rattle.lf.specs.Substitution.{Image}
use Rattle.lf.specs.Typing.{Signature}
use Rattle.lf.specs.Subordination.{Block}
use Rattle.lf_cases.specs.Pattern.{Pattern}
use Rattle.lf_numbered.specs.NumberedCallsMeeting.{SharesInstance}
use Rattle.lf_numbered.specs.NumberedCallsStores.{Identifies, IsPutBeside, identified}
use Rattle.lf_numbered.specs.NumberedCase.{NumberedCase}
use Rattle.lf_numbered.specs.NumberedInstance.{IsNumberedInstanceOf, block_at}
use Rattle.lf_numbered.specs.OwnTerms.{BlockVariable}

-- A pattern of the first block variable alone is beside a case that has one: so is a subgoal of an entry beside the goal of its outputs.
abbrev pub HasFirst : Bool → NumberedCase → Type 0
HasFirst b C = b ≡ true → (d : BlockVariable) × (block_at C.blocks zero ≡ Some d)

-- The block variables of the case that an instance makes one, and no others, are one by π, the oldest of them; so it is an instance of the case with these
-- one. Beside this the pattern is put. So cp b.x b.x of cp b.x c.x, where b and c are one, is beside u : cp x x as the entry of b.
pub record IsSharedAt (Σ : Signature) (first : ℕ) (W : List Block) (C : NumberedCase) (p : Pattern) (s : SharesInstance Σ first W C p) (π : ℕ → ℕ) (J : NumberedCase) (φ : ℕ → Image) : Type 0 where
  pub identifies : Identifies C π
  pub oldest : (k : ℕ) → π k ≤ k
  pub same : (k : ℕ) → s.numbers (π k) ≡ s.numbers k
  pub only : (j k : ℕ) (b c : BlockVariable) → block_at C.blocks j ≡ Some b → block_at C.blocks k ≡ Some c → s.numbers j ≡ s.numbers k → π j ≡ π k
  pub of_identified : IsNumberedInstanceOf Σ first s.common (identified first π C) s.numbers s.values
  pub beside : IsPutBeside first (identified first π C) π p.at_first p.clause p.origin J φ

-- The instances of the case with block variables one by π are those of the case itself that make these one.
abbrev pub IdentifiedHasInstances : Type 0
IdentifiedHasInstances = (Σ : Signature) (first : ℕ) (J C : NumberedCase) (ν : ℕ → ℕ) (σ : ℕ → Image) (π : ℕ → ℕ) → Identifies C π → ((k : ℕ) → ν (π k) ≡ ν k) → IsNumberedInstanceOf Σ first J C ν σ ↔ IsNumberedInstanceOf Σ first J (identified first π C) ν σ

-- Each instance that they share is so.
abbrev pub SharedHasPlace : Type 0
SharedHasPlace = (Σ : Signature) (first : ℕ) (W : List Block) (C : NumberedCase) (p : Pattern) → HasFirst p.at_first C → (s : SharesInstance Σ first W C p) → (π : ℕ → ℕ) × (J : NumberedCase) × (φ : ℕ → Image) × IsSharedAt Σ first W C p s π J φ

-- So they share nothing where the pattern has no place: an entry of the first block variable alone where this has another block.
abbrev pub NoPlaceSharesNone : Type 0
NoPlaceSharesNone = (Σ : Signature) (first : ℕ) (W : List Block) (C : NumberedCase) (p : Pattern) → HasFirst p.at_first C → ((π : ℕ → ℕ) → Identifies C π → (J : NumberedCase) (φ : ℕ → Image) → IsPutBeside first (identified first π C) π p.at_first p.clause p.origin J φ → ⊥) → SharesInstance Σ first W C p → ⊥
