-- The laws of cases, splits and goals that the functions of this crate carry.
use Rattle.std.specs.Prelude.{◌≡◌, ℕ, List, Bool, true, Some}
use Rattle.lf.specs.Syntax.{Head, Spine, root, LfType, Kind, atom}
use Rattle.lf.specs.Typing.{Signature, TypeAt, HasType, IsSignature}
use Rattle.lf.specs.Variables.{target, onto, Within, nothing}
use Rattle.lf.specs.Subordination.{Block, Member, Below, IsDeclared, AreTypedBlocks, SelfContained, IsBelowTest}
use Rattle.lf.specs.Worlds.{World}
use Rattle.lf.specs.Extension.{Extends}
use Rattle.lf_checks.specs.Clause.{Clause, IsClause, IsSubgoal}
use Rattle.lf_checks.specs.Marks.{Mark, input_places, MentionChosenOnly}
use Rattle.lf_cases.specs.Cover.{CoveredInputs, CoveredOutputs}
use Rattle.lf_cases.specs.Case.{Case, input_goal}
use Rattle.lf_cases.specs.Pattern.{Pattern, AreHeadsOf, IsCoveredCase}
use Rattle.lf_cases.specs.Split.{HasOneBlockVariable, IsSplit, IsInstanceCase, Ends}
use Rattle.lf_cases.specs.Raised.{PlacesBelow}
use Rattle.lf_checks.specs.Below.{IsSubordination}
use Rattle.lf_cases.specs.Heads.{EntryIn, HeadIsKnown}

-- the subordination of a signature and blocks is a test of subordination
abbrev pub BelowIsSubordination : Type 0
BelowIsSubordination = (Σ : Signature) → IsSignature Σ → (W : List Block) → AreTypedBlocks Σ W → (below : ℕ → ℕ → Bool) → ((f : ℕ) → IsBelowTest Σ W (below f) f) → IsSubordination Σ W below

-- a subgoal's family is below the family of its clause, a constant's or a block entry's: so a callee is below its caller
abbrev pub SubgoalsAreBelow : Type 0
SubgoalsAreBelow = (Σ : Signature) (W : List Block) (c : Clause) → IsClause Σ W c → (i : ℕ) (A : LfType) → IsSubgoal c i A → Below Σ W (target A) (target c.type)

-- what is below stays below where the signature and the blocks grow
abbrev pub BelowGrows : Type 0
BelowGrows = (Σ Σ' : Signature) (W W' : List Block) → ((c : ℕ) (A : LfType) → Σ.types c ≡ Some A → Σ'.types c ≡ Some A) → ((a : ℕ) (K : Kind) → Σ.kinds a ≡ Some K → Σ'.kinds a ≡ Some K) → ((B : Block) → Member B W → Member B W') → (a b : ℕ) → Below Σ W a b → Below Σ' W' a b

-- A union of self-contained sets is self-contained: a set is one where each of its families is in a self-contained set within it.
abbrev pub UnionIsSelfContained : Type 0
UnionIsSelfContained = (Σ : Signature) (W : List Block) (U : ℕ → Bool) → ((a : ℕ) → U a ≡ true → (S : ℕ → Bool) × SelfContained Σ W S × Within S U × (S a ≡ true)) → SelfContained Σ W U

-- a set of declared families that holds every family below one of its own is self-contained
abbrev pub DownwardIsSelfContained : Type 0
DownwardIsSelfContained = (Σ : Signature) (W : List Block) (U : ℕ → Bool) → ((a : ℕ) → U a ≡ true → IsDeclared Σ a) → ((a b : ℕ) → Below Σ W a b → U b ≡ true → U a ≡ true) → SelfContained Σ W U

-- a self-contained set is so over fewer blocks
abbrev pub SelfContainedOverFewer : Type 0
SelfContainedOverFewer = (Σ : Signature) (V W : List Block) (S : ℕ → Bool) → ((B : Block) → Member B W → Member B V) → SelfContained Σ V S → SelfContained Σ W S

-- by a test of it, the places of the kind of a family below a have only families below a, in their types only those below their own
abbrev pub KindPlacesAreBelow : Type 0
KindPlacesAreBelow = (Σ : Signature) → IsSignature Σ → (W : List Block) → AreTypedBlocks Σ W → (below : ℕ → ℕ → Bool) → ((f : ℕ) → IsBelowTest Σ W (below f) f) → (a f : ℕ) (K : Kind) → IsDeclared Σ a → below a f ≡ true → Σ.kinds f ≡ Some K → PlacesBelow Σ below a K

-- in a context of worlds beside S, a variable whose family is in S is an entry of an instance, with this family as its target
abbrev pub VariableIsEntry : Type 0
VariableIsEntry = (Σ : Signature) → IsSignature Σ → (W : List Block) (S : ℕ → Bool) (G : List LfType) (w : World Σ W S G) (i : ℕ) (A : LfType) → TypeAt G i A → S (target A) ≡ true → EntryIn w i (target A)

-- Splitting: in a legal extension over S and a context of worlds beside S, the head of a term of a family of S is one of these.
abbrev pub HeadsAreKnown : Type 0
HeadsAreKnown = (Σ Σ' : Signature) (W : List Block) (S : ℕ → Bool) → Extends S Σ Σ' → (G D : List LfType) (w : World Σ' W S G) (h : Head) (T : Spine) (b : ℕ) (V : Spine) → S b ≡ true → HasType Σ' (onto D G) (root h T) (atom b V) → HeadIsKnown Σ D w h b

-- where the types of input places mention input places only, and the clauses of the family cover the goal of input coverage, the inputs of
-- the family are covered
abbrev pub InputGoalCovers : Type 0
InputGoalCovers = (Σ : Signature) → IsSignature Σ → (m : ℕ → List Mark) (W : List Block) → AreTypedBlocks Σ W → (S : ℕ → Bool) (a : ℕ) (K : Kind) → Σ.kinds a ≡ Some K → MentionChosenOnly nothing (input_places (m a)) K → (ps : List Pattern) → AreHeadsOf Σ W a ps → IsCoveredCase Σ W S ps (input_goal a (input_places (m a)) K) → CoveredInputs Σ m W S a

-- A run of splits that ends well covers its goal, though each split looks only at tuples in which other block variables stand for
-- other instances: the goal has one block variable at most, that of the entry itself in a goal of outputs.
abbrev pub SplitsCover : Type 0
SplitsCover = (Σ : Signature) (W : List Block) (S : ℕ → Bool) (ps : List Pattern) (C : Case) → HasOneBlockVariable C.items → Ends (IsInstanceCase Σ W S ps) (IsSplit Σ W S) C → IsCoveredCase Σ W S ps C

-- Coverage beside a set of families is coverage beside each greater one, which has fewer extensions and fewer contexts: of inputs
abbrev pub CoveredInputsOverMore : Type 0
CoveredInputsOverMore = (Σ : Signature) (m : ℕ → List Mark) (W : List Block) (S T : ℕ → Bool) (a : ℕ) → Within S T → CoveredInputs Σ m W S a → CoveredInputs Σ m W T a

-- and of outputs
abbrev pub CoveredOutputsOverMore : Type 0
CoveredOutputsOverMore = (Σ : Signature) (m : ℕ → List Mark) (W : List Block) (S T : ℕ → Bool) (c : Clause) (U : ℕ → Bool) (A : LfType) → Within S T → CoveredOutputs Σ m W S c U A → CoveredOutputs Σ m W T c U A
