-- Stores in which a typed case by number is unified with a pattern, where block variables of the case may be one, are well formed: so they are handed to
-- unification.
use Rattle.std.specs.Prelude.{◌≡◌, ℕ, zero, List, [], length, Bool, true, Option, Some, false}
use Rattle.lf.specs.Syntax.{Term, Spine, LfType, Kind}
use Rattle.lf.specs.Substitution.{Image, substitute_spine, substitute_type, reduce}
use Rattle.lf.specs.AtOnce.{shift_by, lift_renaming_by}
use Rattle.lf.specs.Entries.{quantifiers}
use Rattle.lf.specs.Skeletons.{constant_skeletons, context_skeletons}
use Rattle.lf.specs.Typing.{Signature, TypeAt, HasType, IsContext, IsSignature, IsTypedSubstitution}
use Rattle.lf.specs.Variables.{target, target_arguments, binders, onto, everything, nothing, Within}
use Rattle.lf.specs.Subordination.{Block, Member, AreTypedBlocks}
use Rattle.lf.specs.Worlds.{World, lift_over, instance}
use Rattle.lf.specs.Extension.{Extends}
use Rattle.lf_unification.specs.Solving.{IsWellFormed}
use Rattle.lf_unification.specs.Steps.{CanRefute}
use Rattle.lf_checks.specs.Clause.{Clause, IsClause, IsSubgoal, outside, scope}
use Rattle.lf_checks.specs.Ground.{UsesGoal}
use Rattle.lf_checks.specs.Marks.{Mark, HasSoundMarks, MentionChosenOnly, NoneFree, TypedPlaces, input_places}
use Rattle.lf_cases.specs.Candidates.{given_images}
use Rattle.lf_cases.specs.Case.{covered_places, input_goal}
use Rattle.lf_cases.specs.Missing.{blocks_with}
use Rattle.lf_cases.specs.OutputGoal.{renumber}
use Rattle.lf_cases.specs.Pattern.{Known, Origin, Pattern, given_at, head_pattern, is_given, origin, subgoal_pattern}
use Rattle.lf_coverage.specs.Heads.{HaveSkeletons}
use Rattle.lf_coverage.specs.Leaf.{IsTypedPattern}
use Rattle.lf_coverage.specs.Matching.{ArePlaces, HoldsTypes}
use Rattle.lf_coverage.specs.MeetStore.{IsConstants}
use Rattle.lf_coverage.specs.TypedCase.{TypedArguments}
use Rattle.lf_numbered.specs.EntryConstants.{IsFreeFrom, with_entries}
use Rattle.lf_numbered.specs.EntryPatternsMatching.{placed_type}
use Rattle.lf_numbered.specs.EntryPatternsOutputs.{numbered_output_goal}
use Rattle.lf_numbered.specs.EntryPatternsRuns.{HasOneBlock, HoldsByNumber}
use Rattle.lf_numbered.specs.EntryTerms.{IsTried}
use Rattle.lf_numbered.specs.NewBlock.{rename_all}
use Rattle.lf_numbered.specs.NewInstance.{AreApart}
use Rattle.lf_numbered.specs.NumberedBesideGiven.{IsTypedBesideByNumber}
use Rattle.lf_numbered.specs.NumberedCallsMeeting.{HasTuple, IsKnownFor, SharesInstance}
use Rattle.lf_numbered.specs.NumberedCallsStores.{Identifies, IsPutBeside, identified, meet_store_by_number}
use Rattle.lf_numbered.specs.NumberedCase.{NumberedCase, AreSomeTerms}
use Rattle.lf_numbered.specs.NumberedInstance.{block_at, moved_constant}
use Rattle.lf_numbered.specs.NumberedMeets.{IsSharedAt}
use Rattle.lf_numbered.specs.NumberedTuples.{apart_store}
use Rattle.lf_numbered.specs.Numbering.{numbered}
use Rattle.lf_numbered.specs.OwnStores.{ComesByNumbers}
use Rattle.lf_numbered.specs.OwnTerms.{BlockVariable, blocks_of}
use Rattle.lf_numbered.specs.TypedNumbered.{IsTypedNumberedCase}
use Rattle.lf_numbered.specs.WritingRoom.{move_image}

-- Terms Ms that are given for variables of X, and arguments Ns under the local context L, are typed beside the type T over X, which is a pattern's: each given
-- term has the type of its variable, in which the given terms stand; L is that under the quantifiers of T, with the given terms put in; and the arguments
-- have the types of their places, where at the places that aren't covered those of T stand.
pub record AreTypedBeside (Σ : Signature) (X L : List LfType) (Ms Ns : List (Option Term)) (T : LfType) (K : Kind) : Type 0 where
  pub given : (i : ℕ) (A : LfType) (M : Term) → TypeAt X i A → given_at Ms i ≡ Some M → HasType Σ X M (substitute_type reduce (given_images X Ms zero) A)
  pub local : L ≡ instance (binders [] T) (given_images X Ms zero)
  pub arguments : TypedArguments Σ (onto L X) Ns (substitute_spine reduce (lift_over (binders [] T) (given_images X Ms zero)) (target_arguments T)) K

-- A case by number over a signature where its entries are constants: its variables and local context are contexts, the terms of each block variable are typed for
-- its `some` variables, and terms have skeletons. Nothing is asked of own terms: with b and c one, where b is on z and c on s z, the term c.x is b.x (s z).
pub record IsPlainlyTyped (Σ : Signature) (W : List Block) (C : NumberedCase) : Type 0 where
  pub variables : IsContext Σ C.variables
  pub blocks : (k : ℕ) (b : BlockVariable) → block_at C.blocks k ≡ Some b → Member b.block W × AreSomeTerms Σ C.variables b.block.some b.terms
  pub local : IsContext Σ (onto C.local C.variables)
  pub given : HaveSkeletons (constant_skeletons Σ) (context_skeletons C.variables) C.given
  pub arguments : HaveSkeletons (constant_skeletons Σ) (context_skeletons (onto C.local C.variables)) C.arguments

-- The case is typed beside the pattern where φ stands for what is outside its clause, whose own variables are in front of those of the case.
abbrev pub IsTypedAtPlace : Signature → NumberedCase → Pattern → (ℕ → Image) → Kind → Type 0
IsTypedAtPlace Σ J p φ K =
    let n : ℕ = quantifiers p.clause.type in
    AreTypedBeside Σ (binders J.variables (substitute_type reduce φ p.clause.type)) (renumber (shift_by n) J.local) (rename_all (shift_by n) J.given) (rename_all (lift_renaming_by (length J.local) (shift_by n)) J.arguments) (placed_type p φ) K

-- Then the equations of the case and the pattern, behind those that say which block variables are one, are a store that is handed to unification.
abbrev pub PlacedStoreIsReady : Type 0
PlacedStoreIsReady = (Σ : Signature) → IsSignature Σ → (W : List Block) → AreTypedBlocks Σ W → (J : NumberedCase) → IsPlainlyTyped Σ W J → (p : Pattern) → IsTypedPattern Σ p → (φ : ℕ → Image) → IsTypedSubstitution Σ p.clause.outer J.variables φ → (K : Kind) → Σ.kinds (target p.type) ≡ Some K → IsTypedAtPlace Σ J p φ K → (π : ℕ → ℕ) → ((k : ℕ) (b c : BlockVariable) → block_at J.blocks k ≡ Some b → block_at J.blocks (π k) ≡ Some c → c.block ≡ b.block) → IsWellFormed Σ (meet_store_by_number π J p φ K)

-- A typed case with block variables one is typed so: the constants that take the place of others have their types, since these are closed over the `some` variables.
-- So no equation of the `some` terms has to be solved for it.
abbrev pub IdentifiedIsTyped : Type 0
IdentifiedIsTyped = (Σ : Signature) → IsSignature Σ → (W : List Block) → AreTypedBlocks Σ W → (first : ℕ) → IsFreeFrom Σ first → (C : NumberedCase) → IsTypedNumberedCase Σ first W C → (π : ℕ → ℕ) → Identifies C π → IsPlainlyTyped (with_entries Σ first (blocks_of (identified first π C).blocks)) W (identified first π C)

-- Beside each place of a typed pattern the case, with block variables one and perhaps a new one, is typed so, and what stands outside the clause is typed.
abbrev pub PlacedCaseIsTyped : Type 0
PlacedCaseIsTyped = (Σ : Signature) → IsSignature Σ → (W : List Block) (first : ℕ) → IsFreeFrom Σ first → (C : NumberedCase) → IsTypedNumberedCase Σ first W C → (π : ℕ → ℕ) → Identifies C π → (c : Clause) (o : Origin c) (b : Bool) → AreTypedBlocks Σ (blocks_with o W) → (J : NumberedCase) (φ : ℕ → Image) → IsPutBeside first (identified first π C) π b c o J φ → IsPlainlyTyped (with_entries Σ first (blocks_of J.blocks)) (blocks_with o W) J × IsTypedSubstitution (with_entries Σ first (blocks_of J.blocks)) c.outer J.variables φ

-- So where the case is typed beside the pattern at this place, their store is well formed, over the signature with entries and over each that extends it.
abbrev pub MeetStoreByNumberIsReady : Type 0
MeetStoreByNumberIsReady = (Σ : Signature) → IsSignature Σ → (W : List Block) (first : ℕ) → IsFreeFrom Σ first → (C : NumberedCase) → IsTypedNumberedCase Σ first W C → (p : Pattern) → IsTypedPattern Σ p → AreTypedBlocks Σ (blocks_with p.origin W) → (π : ℕ → ℕ) → Identifies C π → (J : NumberedCase) (φ : ℕ → Image) → IsPutBeside first (identified first π C) π p.at_first p.clause p.origin J φ → (K : Kind) → Σ.kinds (target p.type) ≡ Some K → IsTypedAtPlace (with_entries Σ first (blocks_of J.blocks)) J p φ K → (Σe : Signature) → Extends nothing (with_entries Σ first (blocks_of J.blocks)) Σe → IsWellFormed Σe (meet_store_by_number π J p φ K)

-- The arguments of a case have the types of their places, for a family of kind K, and these mention covered places only. So it is with cp b.x c.x, and with
-- q z D for q : {n:nat} t n -> type where D : t z; but not where D : t (s z), though D has a skeleton.
pub record HasTypedPlaces (Σ : Signature) (C : NumberedCase) (K : Kind) : Type 0 where
  pub mention : MentionChosenOnly nothing (covered_places C.arguments) K
  pub tuple : Spine
  pub are : ArePlaces C.arguments tuple
  pub typed : TypedPlaces Σ (covered_places C.arguments) (onto C.local C.variables) tuple K

-- Then a case for which nothing is given is typed beside the pattern at each place, where both have the same closed local context, or none.
abbrev pub TypedPlacesAreBeside : Type 0
TypedPlacesAreBeside = (Σ : Signature) → IsSignature Σ → (W : List Block) (first : ℕ) → IsFreeFrom Σ first → (C : NumberedCase) → IsTypedNumberedCase Σ first W C → C.given ≡ [] → (p : Pattern) → IsTypedPattern Σ p → AreTypedBlocks Σ (blocks_with p.origin W) → IsContext Σ (binders [] p.type) → C.local ≡ binders [] p.type → (K : Kind) → Σ.kinds (target p.type) ≡ Some K → HasTypedPlaces (with_entries Σ first (blocks_of C.blocks)) C K → (π : ℕ → ℕ) → Identifies C π → (J : NumberedCase) (φ : ℕ → Image) → IsPutBeside first (identified first π C) π p.at_first p.clause p.origin J φ → IsTypedAtPlace (with_entries Σ first (blocks_of J.blocks)) J p φ K

-- So their stores are well formed, over the signature with entries and over each that extends it.
abbrev pub InputMeetStoreIsReady : Type 0
InputMeetStoreIsReady = (Σ : Signature) → IsSignature Σ → (W : List Block) (first : ℕ) → IsFreeFrom Σ first → (C : NumberedCase) → IsTypedNumberedCase Σ first W C → C.given ≡ [] → (p : Pattern) → IsTypedPattern Σ p → AreTypedBlocks Σ (blocks_with p.origin W) → IsContext Σ (binders [] p.type) → C.local ≡ binders [] p.type → (K : Kind) → Σ.kinds (target p.type) ≡ Some K → HasTypedPlaces (with_entries Σ first (blocks_of C.blocks)) C K → (π : ℕ → ℕ) → Identifies C π → (J : NumberedCase) (φ : ℕ → Image) → IsPutBeside first (identified first π C) π p.at_first p.clause p.origin J φ → (Σe : Signature) → Extends nothing (with_entries Σ first (blocks_of J.blocks)) Σe → IsWellFormed Σe (meet_store_by_number π J p φ K)

-- The arguments of each case of a run by number from a goal of inputs have these types, where the family has a clause; and nothing is given for it.
abbrev pub InputRunHasTypedPlaces : Type 0
InputRunHasTypedPlaces = (Σ : Signature) → IsSignature Σ → (W : List Block) → AreTypedBlocks Σ W → (first : ℕ) → IsFreeFrom Σ first → (below : ℕ → ℕ → Bool) (a : ℕ) (m : List Bool) (K : Kind) → Σ.kinds a ≡ Some K → MentionChosenOnly nothing m K → (C : NumberedCase) → ComesByNumbers Σ W first below (numbered first (input_goal a m K)) C → (c : Clause) → IsClause Σ W c → target c.type ≡ a → IsTypedNumberedCase Σ first W C × (C.given ≡ []) × (C.local ≡ []) × HasTypedPlaces (with_entries Σ first (blocks_of C.blocks)) C K

-- So are their stores with the head of each clause of the family, with block variables one and apart: so is that of cp b.x _ with u : cp x x, as the entry of b and
-- as that of a new block variable, and that with cp-app.
abbrev pub InputRunMeetStoreIsReady : Type 0
InputRunMeetStoreIsReady = (Σ : Signature) → IsSignature Σ → (W : List Block) → AreTypedBlocks Σ W → (first : ℕ) → IsFreeFrom Σ first → (below : ℕ → ℕ → Bool) (a : ℕ) (m : List Bool) (K : Kind) → Σ.kinds a ≡ Some K → MentionChosenOnly nothing m K → (C : NumberedCase) → ComesByNumbers Σ W first below (numbered first (input_goal a m K)) C → (c : Clause) (i : IsClause Σ W c) → target c.type ≡ a → (π : ℕ → ℕ) → Identifies C π → (J : NumberedCase) (φ : ℕ → Image) → IsPutBeside first (identified first π C) π false c (origin i) J φ → (Σe : Signature) → Extends nothing (with_entries Σ first (blocks_of J.blocks)) Σe → IsWellFormed Σe (meet_store_by_number π J (head_pattern c (origin i)) φ K)

-- Where no two block variables are one the case itself stands beside a constant's pattern.
abbrev pub ApartStoreIsReady : Type 0
ApartStoreIsReady = (Σ : Signature) → IsSignature Σ → (W : List Block) → AreTypedBlocks Σ W → (first : ℕ) → IsFreeFrom Σ first → (C : NumberedCase) → IsTypedNumberedCase Σ first W C → C.given ≡ [] → (p : Pattern) → IsTypedPattern Σ p → IsConstants p.origin → IsContext Σ (binders [] p.type) → C.local ≡ binders [] p.type → (K : Kind) → Σ.kinds (target p.type) ≡ Some K → HasTypedPlaces (with_entries Σ first (blocks_of C.blocks)) C K → (Σe : Signature) → Extends nothing (with_entries Σ first (blocks_of C.blocks)) Σe → IsWellFormed Σe (apart_store C p K)

-- So where steps refute this store, the case holds no tuple that the pattern has, with block variables apart.
abbrev pub RefutedInputIsApartTuple : Type 0
RefutedInputIsApartTuple = (Σ : Signature) → IsSignature Σ → (W : List Block) → AreTypedBlocks Σ W → (first : ℕ) → IsFreeFrom Σ first → (C : NumberedCase) → IsTypedNumberedCase Σ first W C → C.given ≡ [] → (p : Pattern) → IsTypedPattern Σ p → IsConstants p.origin → IsContext Σ (binders [] p.type) → C.local ≡ binders [] p.type → (K : Kind) → Σ.kinds (target p.type) ≡ Some K → HasTypedPlaces (with_entries Σ first (blocks_of C.blocks)) C K → CanRefute (with_entries Σ first (blocks_of C.blocks)) (apart_store C p K) → (V : List Block) → AreTypedBlocks Σ V → (S : ℕ → Bool) (Σ' : Signature) → Extends S Σ Σ' → (G : List LfType) (w : World Σ' V S G) (F : Known) (σ : ℕ → Image) (T : Spine) (h : HoldsByNumber w first C F σ T) → AreApart C h.instances → HasTuple w p (covered_places C.arguments) F C.given σ T → ⊥

-- Block variables of a case that has one at most are apart: so such a case holds no tuple that the pattern has.
abbrev pub OneBlockInputIsApartTuple : Type 0
OneBlockInputIsApartTuple = (Σ : Signature) → IsSignature Σ → (W : List Block) → AreTypedBlocks Σ W → (first : ℕ) → IsFreeFrom Σ first → (C : NumberedCase) → IsTypedNumberedCase Σ first W C → HasOneBlock C → C.given ≡ [] → (p : Pattern) → IsTypedPattern Σ p → IsConstants p.origin → IsContext Σ (binders [] p.type) → C.local ≡ binders [] p.type → (K : Kind) → Σ.kinds (target p.type) ≡ Some K → HasTypedPlaces (with_entries Σ first (blocks_of C.blocks)) C K → CanRefute (with_entries Σ first (blocks_of C.blocks)) (apart_store C p K) → (V : List Block) → AreTypedBlocks Σ V → (S : ℕ → Bool) (Σ' : Signature) → Extends S Σ Σ' → (G : List LfType) (w : World Σ' V S G) (F : Known) (σ : ℕ → Image) (T : Spine) (h : HoldsByNumber w first C F σ T) → IsKnownFor p.origin p.at_first C h.instances F → HasTuple w p (covered_places C.arguments) F C.given σ T → ⊥

-- What is typed at a place of a pattern stays so with block variables one, where what stands outside the clause has the constants moved too.
abbrev pub IdentifiedStaysAtPlace : Type 0
IdentifiedStaysAtPlace = (Σ : Signature) → IsSignature Σ → (W : List Block) → AreTypedBlocks Σ W → (first : ℕ) → IsFreeFrom Σ first → (C : NumberedCase) → IsTypedNumberedCase Σ first W C → (p : Pattern) → IsTypedPattern Σ p → (φ : ℕ → Image) (K : Kind) → Σ.kinds (target p.type) ≡ Some K → IsTypedAtPlace (with_entries Σ first (blocks_of C.blocks)) C p φ K → (π : ℕ → ℕ) → Identifies C π → IsTypedAtPlace (with_entries Σ first (blocks_of (identified first π C).blocks)) (identified first π C) p (λ i. move_image (moved_constant first (blocks_of C.blocks) (blocks_of C.blocks) π) (φ i)) K

-- A case of outputs that is typed beside the subgoal's pattern, with terms given for variables of the clause itself, is so at its place: for an entry, that of the
-- block variable of number 0. So the goal q N D is beside v's subgoal q n D, where N is the block variable's n.
abbrev pub GivenCaseIsAtPlace : Type 0
GivenCaseIsAtPlace = (Σ : Signature) → IsSignature Σ → (W : List Block) → AreTypedBlocks Σ W → (first : ℕ) → IsFreeFrom Σ first → (C : NumberedCase) (p : Pattern) → IsTypedPattern Σ p → p.at_first ≡ true → IsTypedBesideByNumber Σ first W C p → ((i : ℕ) → is_given C.given i ≡ true → outside p.clause.type everything i ≡ false) → (φ : ℕ → Image) → IsTried first C p.origin p.at_first φ → (K : Kind) → Σ.kinds (target p.type) ≡ Some K → IsTypedAtPlace (with_entries Σ first (blocks_of C.blocks)) C p φ K

-- So its store with the pattern is well formed at each place, also with block variables one, where that of number 0 stays itself; over the signature with entries
-- and over each that extends it.
abbrev pub GivenMeetStoreIsReady : Type 0
GivenMeetStoreIsReady = (Σ : Signature) → IsSignature Σ → (W : List Block) → AreTypedBlocks Σ W → (first : ℕ) → IsFreeFrom Σ first → (C : NumberedCase) (p : Pattern) → IsTypedPattern Σ p → p.at_first ≡ true → IsTypedBesideByNumber Σ first W C p → ((i : ℕ) → is_given C.given i ≡ true → outside p.clause.type everything i ≡ false) → (K : Kind) → Σ.kinds (target p.type) ≡ Some K → (π : ℕ → ℕ) → Identifies C π → π zero ≡ zero → (J : NumberedCase) (φ : ℕ → Image) → IsPutBeside first (identified first π C) π p.at_first p.clause p.origin J φ → (Σe : Signature) → Extends nothing (with_entries Σ first (blocks_of J.blocks)) Σe → IsWellFormed Σe (meet_store_by_number π J p φ K)

-- So it is in each case of a run by number from the goal of the outputs of any clause's subgoal, beside this: so with the goal q N D of v's subgoal q n D.
abbrev pub OutputRunMeetStoreIsReady : Type 0
OutputRunMeetStoreIsReady = (Σ : Signature) → IsSignature Σ → (W : List Block) → AreTypedBlocks Σ W → (first : ℕ) → IsFreeFrom Σ first → (below : ℕ → ℕ → Bool) (m : ℕ → List Mark) (c : Clause) (d : IsClause Σ W c) (U : ℕ → Bool) → Within (outside c.type everything) U → HoldsTypes U (scope c) → (i : ℕ) (A : LfType) → IsSubgoal c i A → UsesGoal U (input_places (m (target A))) A → HasSoundMarks Σ (target A) (m (target A)) → NoneFree (m (target A)) → (K : Kind) → Σ.kinds (target A) ≡ Some K → (C : NumberedCase) → ComesByNumbers Σ W first below (numbered_output_goal first below m (origin d) U A K) C → (π : ℕ → ℕ) → Identifies C π → π zero ≡ zero → (J : NumberedCase) (φ : ℕ → Image) → IsPutBeside first (identified first π C) π true c (origin d) J φ → (Σe : Signature) → Extends nothing (with_entries Σ first (blocks_of J.blocks)) Σe → IsWellFormed Σe (meet_store_by_number π J (subgoal_pattern c (origin d) A) φ K)

-- So at each place of an instance that the case and the pattern share, since block variables are there the oldest that they are one with.
abbrev pub SharedInputStoreIsReady : Type 0
SharedInputStoreIsReady = (Σ : Signature) → IsSignature Σ → (W : List Block) (first : ℕ) → IsFreeFrom Σ first → (C : NumberedCase) → IsTypedNumberedCase Σ first W C → C.given ≡ [] → (p : Pattern) → IsTypedPattern Σ p → AreTypedBlocks Σ (blocks_with p.origin W) → IsContext Σ (binders [] p.type) → C.local ≡ binders [] p.type → (K : Kind) → Σ.kinds (target p.type) ≡ Some K → HasTypedPlaces (with_entries Σ first (blocks_of C.blocks)) C K → (s : SharesInstance Σ first W C p) (π : ℕ → ℕ) (J : NumberedCase) (φ : ℕ → Image) → IsSharedAt Σ first W C p s π J φ → (Σe : Signature) → Extends nothing (with_entries Σ first (blocks_of J.blocks)) Σe → IsWellFormed Σe (meet_store_by_number π J p φ K)

abbrev pub SharedGivenStoreIsReady : Type 0
SharedGivenStoreIsReady = (Σ : Signature) → IsSignature Σ → (W : List Block) → AreTypedBlocks Σ W → (first : ℕ) → IsFreeFrom Σ first → (C : NumberedCase) (p : Pattern) → IsTypedPattern Σ p → p.at_first ≡ true → IsTypedBesideByNumber Σ first W C p → ((i : ℕ) → is_given C.given i ≡ true → outside p.clause.type everything i ≡ false) → (K : Kind) → Σ.kinds (target p.type) ≡ Some K → (s : SharesInstance Σ first W C p) (π : ℕ → ℕ) (J : NumberedCase) (φ : ℕ → Image) → IsSharedAt Σ first W C p s π J φ → (Σe : Signature) → Extends nothing (with_entries Σ first (blocks_of J.blocks)) Σe → IsWellFormed Σe (meet_store_by_number π J p φ K)
