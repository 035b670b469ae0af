-- What a case with block variables by number holds and a pattern has is a typed unifier of their store: so where unification refutes the store, there is no
-- such tuple. The tuple's context is written over entry constants, and the values, written, solve the equations.
use Rattle.std.specs.Prelude.{◌≡◌, ℕ, List, [], length, Bool, Option}
use Rattle.lf.specs.Syntax.{Term, Spine, LfType, Kind}
use Rattle.lf.specs.Substitution.{Image, keep}
use Rattle.lf.specs.Typing.{Signature, IsSignature}
use Rattle.lf.specs.Variables.{binders, nothing}
use Rattle.lf.specs.Subordination.{Block, AreTypedBlocks}
use Rattle.lf.specs.Worlds.{World}
use Rattle.lf.specs.Extension.{Extends}
use Rattle.lf_unification.specs.Solving.{IsWellFormed}
use Rattle.lf_unification.specs.Steps.{CanRefute}
use Rattle.lf_unification.specs.Unifiers.{Store, Solution}
use Rattle.lf_cases.specs.Case.{covered_places}
use Rattle.lf_cases.specs.Pattern.{Known, Pattern}
use Rattle.lf_coverage.specs.Leaf.{IsTypedPattern}
use Rattle.lf_coverage.specs.MeetStore.{IsConstants}
use Rattle.lf_numbered.specs.EntryConstants.{with_entries, IsFreeFrom}
use Rattle.lf_numbered.specs.EntryPatternsRuns.{HoldsByNumber, HasOneBlock}
use Rattle.lf_numbered.specs.NewInstance.{AreApart}
use Rattle.lf_numbered.specs.NumberedCallsMeeting.{HasTuple, IsKnownFor}
use Rattle.lf_numbered.specs.NumberedCallsStores.{meet_store_by_number}
use Rattle.lf_numbered.specs.NumberedCase.{NumberedCase}
use Rattle.lf_numbered.specs.OwnTerms.{blocks_of}
use Rattle.lf_numbered.specs.TypedNumbered.{IsTypedNumberedCase}
use Rattle.lf_numbered.specs.WritingLaws.{IsInstanceWithRoom}

-- the store of the case and the pattern of a constant's clause, where no two block variables are one
abbrev pub apart_store : NumberedCase → Pattern → Kind → Store
apart_store C p K = meet_store_by_number (λ k. k) C p keep K

-- Where a typed case, for which nothing is given, holds a tuple with block variables apart, over an extension that leaves the numbers of entries free, and a
-- typed pattern of a constant's clause has it, their store has a typed unifier over the extension with entries.
abbrev pub TupleIsUnifier : Type 0
TupleIsUnifier = (Σ Σ' : Signature) (W : List Block) (S : ℕ → Bool) (G : List LfType) (w : World Σ' W S G) (first : ℕ) (C : NumberedCase) → IsTypedNumberedCase Σ first W C → C.given ≡ [] → (p : Pattern) → IsTypedPattern Σ p → IsConstants p.origin → length C.local ≡ length (binders [] p.type) → (K : Kind) (F : Known) (σ : ℕ → Image) (T : Spine) (h : HoldsByNumber w first C F σ T) → IsInstanceWithRoom Σ w first C h.instances h.values → AreApart C h.instances → (t : HasTuple w p (covered_places C.arguments) F C.given σ T) → (H : List LfType) × (β : ℕ → Option Term) × Solution (with_entries Σ' first (blocks_of C.blocks)) [] (apart_store C p K) H β

-- So where steps refute the store, which is one that is handed to unification, over the signature with entries and over each that extends it, the case
-- holds no such tuple.
abbrev pub RefutedHoldsNoTuple : Type 0
RefutedHoldsNoTuple = (Σ Σ' : Signature) (W : List Block) (S : ℕ → Bool) (G : List LfType) (w : World Σ' W S G) (first : ℕ) (C : NumberedCase) → IsTypedNumberedCase Σ first W C → C.given ≡ [] → (p : Pattern) → IsTypedPattern Σ p → IsConstants p.origin → length C.local ≡ length (binders [] p.type) → (K : Kind) → ((Σe : Signature) → Extends nothing (with_entries Σ first (blocks_of C.blocks)) Σe → IsWellFormed Σe (apart_store C p K)) → CanRefute (with_entries Σ first (blocks_of C.blocks)) (apart_store C p K) → (F : Known) (σ : ℕ → Image) (T : Spine) (h : HoldsByNumber w first C F σ T) → IsInstanceWithRoom Σ w first C h.instances h.values → AreApart C h.instances → (t : HasTuple w p (covered_places C.arguments) F C.given σ T) → ⊥

-- And so in every legal extension and every context, of whatever worlds: it is what `no_tuple` of IsApartByNumber says, of block variables that are apart.
abbrev pub RefutedIsApartTuple : Type 0
RefutedIsApartTuple = (Σ : Signature) → IsSignature Σ → (W : List Block) (first : ℕ) → IsFreeFrom Σ first → (C : NumberedCase) → IsTypedNumberedCase Σ first W C → C.given ≡ [] → (p : Pattern) → IsTypedPattern Σ p → IsConstants p.origin → length C.local ≡ length (binders [] p.type) → (K : Kind) → ((Σe : Signature) → Extends nothing (with_entries Σ first (blocks_of C.blocks)) Σe → IsWellFormed Σe (apart_store C p K)) → CanRefute (with_entries Σ first (blocks_of C.blocks)) (apart_store C p K) → (V : List Block) → AreTypedBlocks Σ V → (S : ℕ → Bool) (Σ' : Signature) → Extends S Σ Σ' → (G : List LfType) (w : World Σ' V S G) (F : Known) (σ : ℕ → Image) (T : Spine) (h : HoldsByNumber w first C F σ T) → AreApart C h.instances → HasTuple w p (covered_places C.arguments) F C.given σ T → ⊥

-- Block variables of a case that has one at most are apart: so for such a case this is `no_tuple` itself.
abbrev pub OneBlockIsApartTuple : Type 0
OneBlockIsApartTuple = (Σ : Signature) → IsSignature Σ → (W : List Block) (first : ℕ) → IsFreeFrom Σ first → (C : NumberedCase) → IsTypedNumberedCase Σ first W C → HasOneBlock C → C.given ≡ [] → (p : Pattern) → IsTypedPattern Σ p → IsConstants p.origin → length C.local ≡ length (binders [] p.type) → (K : Kind) → ((Σe : Signature) → Extends nothing (with_entries Σ first (blocks_of C.blocks)) Σe → IsWellFormed Σe (apart_store C p K)) → CanRefute (with_entries Σ first (blocks_of C.blocks)) (apart_store C p K) → (V : List Block) → AreTypedBlocks Σ V → (S : ℕ → Bool) (Σ' : Signature) → Extends S Σ Σ' → (G : List LfType) (w : World Σ' V S G) (F : Known) (σ : ℕ → Image) (T : Spine) (h : HoldsByNumber w first C F σ T) → IsKnownFor p.origin p.at_first C h.instances F → HasTuple w p (covered_places C.arguments) F C.given σ T → ⊥
