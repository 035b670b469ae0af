-- What unification of a case by number with a pattern answers, at each place where this is put beside it: whether they meet.
use Rattle.std.specs.Prelude.{◌≡◌, ◌≤◌, ◌⊎◌, ℕ, List, [], true, false, Option, Some, length}
use Rattle.lf.specs.Syntax.{Term, LfType, Kind}
use Rattle.lf.specs.Depth.{depth_limit}
use Rattle.lf.specs.Entries.{kind_quantifiers}
use Rattle.lf.specs.Substitution.{Image}
use Rattle.lf.specs.Typing.{Signature, IsSignature}
use Rattle.lf.specs.Variables.{target, binders, everything, nothing}
use Rattle.lf.specs.Subordination.{Block, Member, AreTypedBlocks}
use Rattle.lf.specs.Extension.{Extends}
use Rattle.lf_unification.specs.DeepEquations.{AreDeep}
use Rattle.lf_unification.specs.Solving.{IsWellFormed, Left, Solved}
use Rattle.lf_unification.specs.Steps.{CanRefute}
use Rattle.lf_unification.specs.Unifiers.{Store, Solution}
use Rattle.lf_checks.specs.Clause.{Clause, outside}
use Rattle.lf_cases.specs.Pattern.{Origin, of_constant, of_entry, Pattern, is_given}
use Rattle.lf_coverage.specs.Calls.{Matched}
use Rattle.lf_coverage.specs.Leaf.{IsTypedPattern}
use Rattle.lf_numbered.specs.EntryConstants.{with_entries, IsFreeFrom}
use Rattle.lf_numbered.specs.EntryPatterns.{IsInstanceOfPattern}
use Rattle.lf_numbered.specs.NumberedCalls.{NumberedMatchedIs}
use Rattle.lf_numbered.specs.NumberedCallsMeeting.{SharesInstance, IsApartByNumber}
use Rattle.lf_numbered.specs.NumberedCallsStores.{Identifies, IsPutBeside, MeetsByNumber, identified, meet_store_by_number}
use Rattle.lf_numbered.specs.NumberedCase.{NumberedCase}
use Rattle.lf_numbered.specs.OwnTerms.{blocks_of}
use Rattle.lf_numbered.specs.TypedNumbered.{IsTypedNumberedCase}

-- A constant's clause, or one of an entry of a block of these worlds. So is u : cp x x in the worlds of {x:exp} {u:cp x x}.
abbrev pub IsOfWorlds : {c : Clause} → Origin c → List Block → Type 0
IsOfWorlds (of_constant U) W = Unit {0}
IsOfWorlds (of_entry B later E es e) W = Member B W

-- A case and a pattern that fit each other: they have one family, whose kind K takes as many arguments as the case has places, and as many local variables;
-- and terms are given for the clause's own variables alone. So do cp b.x c.x and u : cp x x.
pub record FitsPattern (Σ : Signature) (W : List Block) (C : NumberedCase) (p : Pattern) (K : Kind) : Type 0 where
  pub of_worlds : IsOfWorlds p.origin W
  pub of_family : Σ.kinds C.family ≡ Some K
  pub same_family : target p.type ≡ C.family
  pub all_places : length C.arguments ≡ kind_quantifiers K
  pub same_local : length C.local ≡ length (binders [] p.type)
  pub given_own : (i : ℕ) → is_given C.given i ≡ true → outside p.clause.type everything i ≡ false

-- A place of the pattern beside the case: some block variables of the case are one by π, the oldest of them, and with these one the pattern is put beside it.
-- One of u : cp x x and cp b.x c.x is b, where c is b; others are b, c and a new block variable, where b and c are different.
pub record IsPlace (first : ℕ) (C : NumberedCase) (p : Pattern) (π : ℕ → ℕ) (J : NumberedCase) (φ : ℕ → Image) : Type 0 where
  pub identifies : Identifies C π
  pub oldest : (k : ℕ) → π k ≤ k
  pub beside : IsPutBeside first (identified first π C) π p.at_first p.clause p.origin J φ

-- Where unification solves the store at a place, the case and the pattern share a typed instance: the case with the answer's values put in. So do cp b.x c.x
-- and u : cp x x where b and c are one.
abbrev pub SolvedByNumberShares : Type 0
SolvedByNumberShares = (Σ : Signature) → IsSignature Σ → (W : List Block) → AreTypedBlocks Σ W → (first : ℕ) → IsFreeFrom Σ first → (C : NumberedCase) → IsTypedNumberedCase Σ first W C → (p : Pattern) → IsTypedPattern Σ p → (K : Kind) → FitsPattern Σ W C p K → (π : ℕ → ℕ) (J : NumberedCase) (φ : ℕ → Image) → IsPlace first C p π J φ → IsWellFormed (with_entries Σ first (blocks_of J.blocks)) (meet_store_by_number π J p φ K) → (after : Store) → Solved (with_entries Σ first (blocks_of J.blocks)) (meet_store_by_number π J p φ K) after → SharesInstance Σ first W C p

-- The signature over which the store at a place is solved: that with the entries of its case. For cp b.x c.x it has b.x, b.u, c.x and c.u.
abbrev pub entries_at : Signature → ℕ → NumberedCase → Signature
entries_at Σ first J = with_entries Σ first (blocks_of J.blocks)

-- At each place the store is one that is handed to unification: X = b.x has both sides of the type exp.
abbrev pub ArePlacesReady : Signature → ℕ → NumberedCase → Pattern → Kind → Type 0
ArePlacesReady Σ first C p K = (π : ℕ → ℕ) (J : NumberedCase) (φ : ℕ → Image) → IsPlace first C p π J φ → IsWellFormed (entries_at Σ first J) (meet_store_by_number π J p φ K)

-- At each place steps refute it. So is cp b.x b.x for cp-app, whose first argument is app E1 E2; not so cp b.x c.x for u : cp x x, since b and c may be one.
abbrev pub IsRefutedByNumber : Signature → ℕ → NumberedCase → Pattern → Kind → Type 0
IsRefutedByNumber Σ first C p K = (π : ℕ → ℕ) (J : NumberedCase) (φ : ℕ → Image) → IsPlace first C p π J φ → CanRefute (entries_at Σ first J) (meet_store_by_number π J p φ K)

-- Unification solves a store, as X = b.x; or it leaves equations outside the pattern fragment, as F z = z; or the equations are deep.
abbrev pub IsMet : Signature → Store → Type 0
IsMet Σ s = ((after : Store) × Solved Σ s after) ⊎ AreDeep depth_limit Σ s ⊎ ((after : Store) × Left Σ s after)

-- There is a place where unification so answers. For cp b.x c.x and u : cp x x it is that where b and c are one.
pub record IsMetByNumber (Σ : Signature) (first : ℕ) (C : NumberedCase) (p : Pattern) (K : Kind) : Type 0 where
  pub numbers : ℕ → ℕ
  pub case : NumberedCase
  pub outer : ℕ → Image
  pub place : IsPlace first C p numbers case outer
  pub met : IsMet (entries_at Σ first case) (meet_store_by_number numbers case p outer K)

-- Where unification so answers at a place, the pattern meets the case.
abbrev pub MetIsMeeting : Type 0
MetIsMeeting = (Σ : Signature) → IsSignature Σ → (W : List Block) → AreTypedBlocks Σ W → (first : ℕ) → IsFreeFrom Σ first → (C : NumberedCase) → IsTypedNumberedCase Σ first W C → (p : Pattern) → IsTypedPattern Σ p → (K : Kind) → FitsPattern Σ W C p K → ArePlacesReady Σ first C p K → IsMetByNumber Σ first C p K → MeetsByNumber Σ first W C p

-- So `instance_of` has an answer of a case and a pattern: where it is decided whether the case is an instance, where steps refute the store at each place or
-- unification answers otherwise at one, and where what is refuted at each place is apart.
abbrev pub MeetingByNumberIsAnswered : Type 0
MeetingByNumberIsAnswered = (Σ : Signature) → IsSignature Σ → (W : List Block) → AreTypedBlocks Σ W → (first : ℕ) → IsFreeFrom Σ first → (C : NumberedCase) → IsTypedNumberedCase Σ first W C → (p : Pattern) → IsTypedPattern Σ p → (K : Kind) → FitsPattern Σ W C p K → ArePlacesReady Σ first C p K → Dec (IsInstanceOfPattern Σ first C p) → IsRefutedByNumber Σ first C p K ⊎ IsMetByNumber Σ first C p K → (IsRefutedByNumber Σ first C p K → IsApartByNumber Σ first W C p) → (m : Matched) × NumberedMatchedIs Σ first W C p m

-- Only the numbers of the case's own block variables matter at a place, so the others are to stay: of cp b.x c.x those from 2 on.
abbrev pub StayBeyond : NumberedCase → (ℕ → ℕ) → Type 0
StayBeyond C π = (k : ℕ) → length C.blocks ≤ k → π k ≡ k

-- So there are finitely many places to be looked at. At each of them unification answers: steps refute the store, or it is solved, left or deep. Of the five of
-- cp b.x c.x and u : cp x x they refute four, and one is solved: that of b, where c is b.
abbrev pub ArePlacesAnswered : Signature → ℕ → NumberedCase → Pattern → Kind → Type 0
ArePlacesAnswered Σ first C p K = (π : ℕ → ℕ) (J : NumberedCase) (φ : ℕ → Image) → IsPlace first C p π J φ → StayBeyond C π → CanRefute (entries_at Σ first J) (meet_store_by_number π J p φ K) ⊎ IsMet (entries_at Σ first J) (meet_store_by_number π J p φ K)

-- Then steps refute the store at each place, or there is one where unification answers otherwise.
abbrev pub PlacesAreSearched : Type 0
PlacesAreSearched = (Σ : Signature) (first : ℕ) (C : NumberedCase) (p : Pattern) (K : Kind) → ArePlacesAnswered Σ first C p K → IsRefutedByNumber Σ first C p K ⊎ IsMetByNumber Σ first C p K

-- Steps refute the store at each place that is so to be looked at. Of cp b.x c.x and the head of cp-app there are two: where c is c, and where it is b.
abbrev pub ArePlacesRefuted : Signature → ℕ → NumberedCase → Pattern → Kind → Type 0
ArePlacesRefuted Σ first C p K = (π : ℕ → ℕ) (J : NumberedCase) (φ : ℕ → Image) → IsPlace first C p π J φ → StayBeyond C π → CanRefute (entries_at Σ first J) (meet_store_by_number π J p φ K)

-- Then they refute it at each place.
abbrev pub PlacesRefuteEach : Type 0
PlacesRefuteEach = (Σ : Signature) (first : ℕ) (C : NumberedCase) (p : Pattern) (K : Kind) → ArePlacesRefuted Σ first C p K → IsRefutedByNumber Σ first C p K

-- They do, and there the store is one that is handed to unification, over the signature of the place and over each that extends it. So it has no typed unifier
-- there over any of these. At both places of cp b.x c.x and cp-app the sides of b.x = app E1 E2 are of the type exp.
abbrev pub AreRefuted : Signature → ℕ → NumberedCase → Pattern → Kind → Type 0
AreRefuted Σ first C p K = (π : ℕ → ℕ) (J : NumberedCase) (φ : ℕ → Image) → IsPlace first C p π J φ → StayBeyond C π → ((Σe : Signature) → Extends nothing (entries_at Σ first J) Σe → IsWellFormed Σe (meet_store_by_number π J p φ K)) × CanRefute (entries_at Σ first J) (meet_store_by_number π J p φ K)

-- A typed unifier of a store, over a signature that extends this one, in a context of its own. In that of plus X Y _ and plus-z X is z, and Y any term.
pub record HasUnifier (Σ : Signature) (s : Store) : Type 0 where
  pub signature : Signature
  pub extends : Extends nothing Σ signature
  pub context : List LfType
  pub filling : ℕ → Option Term
  pub solves : Solution signature [] s context filling
