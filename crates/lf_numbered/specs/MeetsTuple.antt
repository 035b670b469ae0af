-- A tuple that a case with block variables by number holds and a pattern has gives a typed unifier of their store where the pattern is put beside the case,
-- with block variables one that stand for one instance. So where steps refute the store at each such place, there is no such tuple.
use Rattle.std.specs.Prelude.{◌≡◌, ◌⊎◌, ℕ, List, [], length, Bool, true, false}
use Rattle.lf.specs.Syntax.{Spine, LfType, Kind}
use Rattle.lf.specs.Substitution.{Image}
use Rattle.lf.specs.Typing.{Signature, IsSignature}
use Rattle.lf.specs.Variables.{binders, everything}
use Rattle.lf.specs.Subordination.{Block, AreTypedBlocks}
use Rattle.lf.specs.Worlds.{World}
use Rattle.lf.specs.Extension.{Extends}
use Rattle.lf_checks.specs.Clause.{outside}
use Rattle.lf_cases.specs.Case.{covered_places}
use Rattle.lf_cases.specs.Pattern.{Known, Pattern, is_given}
use Rattle.lf_coverage.specs.Leaf.{IsTypedPattern}
use Rattle.lf_coverage.specs.MeetStore.{IsConstants}
use Rattle.lf_numbered.specs.EntryConstants.{IsFreeFrom}
use Rattle.lf_numbered.specs.EntryPatternsRuns.{HoldsByNumber}
use Rattle.lf_numbered.specs.MeetsAnswers.{AreRefuted, HasUnifier, IsPlace, StayBeyond, entries_at}
use Rattle.lf_numbered.specs.MeetsInstance.{HasFirstFor}
use Rattle.lf_numbered.specs.NumberedBesideGiven.{IsTypedBesideByNumber}
use Rattle.lf_numbered.specs.NumberedCallsMeeting.{HasTuple, IsApartByNumber, IsKnownFor, SharesInstance}
use Rattle.lf_numbered.specs.NumberedCallsStores.{meet_store_by_number}
use Rattle.lf_numbered.specs.NumberedCase.{NumberedCase}
use Rattle.lf_numbered.specs.TypedNumbered.{IsTypedNumberedCase}

-- A tuple that the case holds and the pattern has, in a legal extension beside some set and a context of some worlds; different block variables may be one
-- instance. So cp b.x c.x shares the tuple x, x with the entry u : cp x x, where b and c are the instance of x and u.
pub record SharesTuple (Σ : Signature) (first : ℕ) (C : NumberedCase) (p : Pattern) : Type 0 where
  pub worlds : List Block
  pub typed : AreTypedBlocks Σ worlds
  pub set : ℕ → Bool
  pub extension : Signature
  pub extends : Extends set Σ extension
  pub context : List LfType
  pub world : World extension worlds set context
  pub known : Known
  pub values : ℕ → Image
  pub tuple : Spine
  pub holds : HoldsByNumber world first C known values tuple
  pub is_known : IsKnownFor p.origin p.at_first C holds.instances known
  pub has : HasTuple world p (covered_places C.arguments) known C.given values tuple

-- There is a typed unifier at a place of the pattern beside the case, where the numbers stay that are of no block variable. So cp b.x c.x and u : cp x x meet
-- where b and c are one, at the entry of b: the equations are b.x = b.x twice.
pub record MeetsAt (Σ : Signature) (first : ℕ) (C : NumberedCase) (p : Pattern) (K : Kind) : Type 0 where
  pub numbers : ℕ → ℕ
  pub case : NumberedCase
  pub outer : ℕ → Image
  pub place : IsPlace first C p numbers case outer
  pub stays : StayBeyond C numbers
  pub unifier : HasUnifier (entries_at Σ first case) (meet_store_by_number numbers case p outer K)

-- A tuple that a typed case, for which nothing is given, shares with a typed pattern of a constant's clause is a unifier, whatever instances the block
-- variables stand for.
abbrev pub ConstantsTupleMeets : Type 0
ConstantsTupleMeets = (Σ : Signature) → IsSignature Σ → (W : List Block) (first : ℕ) → IsFreeFrom Σ first → (C : NumberedCase) → IsTypedNumberedCase Σ first W C → C.given ≡ [] → (p : Pattern) → IsTypedPattern Σ p → IsConstants p.origin → length C.local ≡ length (binders [] p.type) → (K : Kind) → SharesTuple Σ first C p → MeetsAt Σ first C p K

-- So where steps refute the store for each way in which block variables are one, the pattern has no tuple that the case holds.
abbrev pub RefutedConstantHasNoTuple : Type 0
RefutedConstantHasNoTuple = (Σ : Signature) → IsSignature Σ → (W : List Block) (first : ℕ) → IsFreeFrom Σ first → (C : NumberedCase) → IsTypedNumberedCase Σ first W C → C.given ≡ [] → (p : Pattern) → IsTypedPattern Σ p → IsConstants p.origin → length C.local ≡ length (binders [] p.type) → (K : Kind) → AreRefuted Σ first C p K → (V : List Block) → AreTypedBlocks Σ V → (S : ℕ → Bool) (Σ' : Signature) → Extends S Σ Σ' → (G : List LfType) (w : World Σ' V S G) (F : Known) (σ : ℕ → Image) (T : Spine) (h : HoldsByNumber w first C F σ T) → HasTuple w p (covered_places C.arguments) F C.given σ T → ⊥

-- And so of any typed pattern, of a block's entry too: what the tuple has for the entry's block is the instance of one of the case's block variables, or of a
-- new one.
abbrev pub EntriesTupleMeets : Type 0
EntriesTupleMeets = (Σ : Signature) → IsSignature Σ → (W : List Block) (first : ℕ) → IsFreeFrom Σ first → (C : NumberedCase) → IsTypedNumberedCase Σ first W C → C.given ≡ [] → (p : Pattern) → IsTypedPattern Σ p → HasFirstFor p.origin p.at_first C → length C.local ≡ length (binders [] p.type) → (K : Kind) → SharesTuple Σ first C p → MeetsAt Σ first C p K

-- Nothing is given; or the case is typed beside the pattern, which is of the first block variable alone, as each subgoal is, and terms are given for the
-- clause's own variables only. So it is with the goal of a subgoal's outputs.
abbrev pub IsGivenBeside : Signature → ℕ → List Block → NumberedCase → Pattern → Type 0
IsGivenBeside Σ first W C p = (C.given ≡ []) ⊎ ((p.at_first ≡ true) × IsTypedBesideByNumber Σ first W C p × ((i : ℕ) → is_given C.given i ≡ true → outside p.clause.type everything i ≡ false))

-- Terms that are given so are values of the clause's variables in the unifier.
abbrev pub TupleMeets : Type 0
TupleMeets = (Σ : Signature) → IsSignature Σ → (W : List Block) → AreTypedBlocks Σ W → (first : ℕ) → IsFreeFrom Σ first → (C : NumberedCase) → IsTypedNumberedCase Σ first W C → (p : Pattern) → IsGivenBeside Σ first W C p → IsTypedPattern Σ p → HasFirstFor p.origin p.at_first C → length C.local ≡ length (binders [] p.type) → (K : Kind) → SharesTuple Σ first C p → MeetsAt Σ first C p K

-- So where steps refute the store at each place of the pattern beside the case, the clause `no_tuple` of IsApartByNumber holds.
abbrev pub RefutedHasNoTuple : Type 0
RefutedHasNoTuple = (Σ : Signature) → IsSignature Σ → (W : List Block) → AreTypedBlocks Σ W → (first : ℕ) → IsFreeFrom Σ first → (C : NumberedCase) → IsTypedNumberedCase Σ first W C → (p : Pattern) → IsGivenBeside Σ first W C p → IsTypedPattern Σ p → HasFirstFor p.origin p.at_first C → length C.local ≡ length (binders [] p.type) → (K : Kind) → AreRefuted Σ first C p K → (V : List Block) → AreTypedBlocks Σ V → (S : ℕ → Bool) (Σ' : Signature) → Extends S Σ Σ' → (G : List LfType) (w : World Σ' V S G) (F : Known) (σ : ℕ → Image) (T : Spine) (h : HoldsByNumber w first C F σ T) → IsKnownFor p.origin p.at_first C h.instances F → HasTuple w p (covered_places C.arguments) F C.given σ T → ⊥

-- Where they share no instance either, they are apart.
abbrev pub RefutedIsApart : Type 0
RefutedIsApart = (Σ : Signature) → IsSignature Σ → (W : List Block) → AreTypedBlocks Σ W → (first : ℕ) → IsFreeFrom Σ first → (C : NumberedCase) → IsTypedNumberedCase Σ first W C → (p : Pattern) → IsGivenBeside Σ first W C p → IsTypedPattern Σ p → HasFirstFor p.origin p.at_first C → length C.local ≡ length (binders [] p.type) → (K : Kind) → AreRefuted Σ first C p K → (SharesInstance Σ first W C p → ⊥) → IsApartByNumber Σ first W C p
