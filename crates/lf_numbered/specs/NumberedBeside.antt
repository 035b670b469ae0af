-- What a run by number keeps of subordination: what a variable takes quantifies only over what is below. So at no split need the families in the types
-- of arguments be looked at: it is enough that a test of subordination is over the signature and the worlds, and that so is each `some` variable's type.
use Rattle.std.specs.Prelude.{◌≡◌, ℕ, List, [], ◌∷◌, Bool, true, Some}
use Rattle.lf.specs.Syntax.{Head, Spine, LfType, Kind, pi, atom}
use Rattle.lf.specs.Typing.{Signature, TypeAt, IsSignature}
use Rattle.lf.specs.Subordination.{Block, AreTypedBlocks, IsBelowTest, Member}
use Rattle.lf.specs.Variables.{target, FamiliesIn}
use Rattle.lf_checks.specs.Below.{IsSubordination}
use Rattle.lf_checks.specs.Clause.{Clause, IsClause, IsSubgoal}
use Rattle.lf_checks.specs.Marks.{Mark}
use Rattle.lf_cases.specs.Case.{Item, free_variable, block_variable, Case, input_goal}
use Rattle.lf_cases.specs.OutputGoal.{output_goal}
use Rattle.lf_cases.specs.Pattern.{origin}
use Rattle.lf_coverage.specs.Heads.{ArgumentsAreBelow}
use Rattle.lf_coverage.specs.Listed.{Listed}
use Rattle.lf_coverage.specs.Subordinate.{QuantifiersAreBelow}
use Rattle.lf_numbered.specs.EntryConstants.{IsFreeFrom}
use Rattle.lf_numbered.specs.NumberedCase.{NumberedCase}
use Rattle.lf_numbered.specs.NumberedSplits.{NumberedOffer, IsOfferTo, NumberedAnswer, IsAnsweredByNumber}
use Rattle.lf_numbered.specs.Numbering.{numbered}
use Rattle.lf_numbered.specs.OwnStores.{IsNumberedOffer}
use Rattle.lf_numbered.specs.TypedNumbered.{IsTypedNumberedCase}

-- The type of each argument quantifies only over what is below. The argument's own family needn't be below that of what takes it: so it may be with
-- f : a -> b among `some` variables, where nothing else quantifies a over b.
abbrev pub TakesBelow : (ℕ → ℕ → Bool) → LfType → Type 0
TakesBelow below (pi A B) = QuantifiersAreBelow below A × TakesBelow below B
TakesBelow below (atom a S) = Unit {0}

-- The type's own family is in S, and so are those in the type of each argument whose own family is. So {x:exp} nat is such a type beside the set of nat
-- alone, and {y:exp -> nat} nat isn't.
abbrev pub TakesIn : (ℕ → Bool) → LfType → Type 0
TakesIn S (pi A B) = (S (target A) ≡ true → FamiliesIn S A) × TakesIn S B
TakesIn S (atom a T) = S a ≡ true

-- each type of a context
abbrev pub AllTakeBelow : (ℕ → ℕ → Bool) → List LfType → Type 0
AllTakeBelow below [] = Unit {0}
AllTakeBelow below (A ∷ G) = TakesBelow below A × AllTakeBelow below G

-- The `some` variables of each block do. This is asked of worlds once; no block can fail it whose `some` variables take only arguments of atomic types.
abbrev pub WorldsTakeBelow : (ℕ → ℕ → Bool) → List Block → Type 0
WorldsTakeBelow below W = (B : Block) → Member B W → AllTakeBelow below B.some

-- A type that takes only arguments of atomic types, and such a context: then whatever is below.
abbrev pub TakesAtoms : LfType → Type 0
TakesAtoms (pi (atom a S) B) = TakesAtoms B
TakesAtoms (pi (pi A C) B) = ⊥
TakesAtoms (atom a S) = Unit {0}

abbrev pub AllTakeAtoms : List LfType → Type 0
AllTakeAtoms [] = Unit {0}
AllTakeAtoms (A ∷ G) = TakesAtoms A × AllTakeAtoms G

abbrev pub WorldsOfAtoms : Type 0
WorldsOfAtoms = (W : List Block) → ((B : Block) → Member B W → AllTakeAtoms B.some) → (below : ℕ → ℕ → Bool) → WorldsTakeBelow below W

-- Then the families in the type of each argument are below its own.
abbrev pub TakersTakeBelow : Type 0
TakersTakeBelow = (Σ : Signature) (W : List Block) (below : ℕ → ℕ → Bool) → IsSubordination Σ W below → (A : LfType) → TakesBelow below A → ArgumentsAreBelow below A

-- A head's type that is left quantifies only over what is below: of a constant, of a variable that is taken, and of an entry of the case on its own
-- terms, since a test of subordination looks at entries too.
abbrev pub OffersQuantifyBelow : Type 0
OffersQuantifyBelow = (Σ : Signature) (W : List Block) (below : ℕ → ℕ → Bool) → ((f : ℕ) → IsBelowTest Σ W (below f) f) → (first : ℕ) → IsFreeFrom Σ first → (C : NumberedCase) → IsTypedNumberedCase Σ first W C → AllTakeBelow below C.variables → (x : ℕ) (X : LfType) → TypeAt C.variables x X → (h : Head) (U : Spine) (A : LfType) → IsNumberedOffer Σ first C X h U A → QuantifiersAreBelow below A

-- The free variables among items; nothing is asked of block variables, whose entries never become free variables.
abbrev pub ItemsTakeBelow : (ℕ → ℕ → Bool) → List Item → Type 0
ItemsTakeBelow below [] = Unit {0}
ItemsTakeBelow below (free_variable A ∷ I) = TakesBelow below A × ItemsTakeBelow below I
ItemsTakeBelow below (block_variable B υ ∷ I) = ItemsTakeBelow below I

-- A split of the free variable x of C, at each head of which unification answers. Nothing is asked of the families in types.
pub record IsUnifiedByNumber (Σ : Signature) (first : ℕ) (W : List Block) (below : ℕ → ℕ → Bool) (C : NumberedCase) (x : ℕ) (Cs : List NumberedCase) : Type 0 where
  pub type : LfType
  pub at : TypeAt C.variables x type
  pub offers : List NumberedOffer
  pub each : (o : NumberedOffer) → Member o offers → IsOfferTo Σ first W C x type o
  pub every : (o : NumberedOffer) → IsOfferTo Σ first W C x type o → Member o offers
  pub listed : Listed (NumberedAnswer Σ first below) offers Cs

-- Where what the free variables take quantifies only over what is below, the families in the types of what the variable and the heads take are below
-- their own; and it is so in each case of the split.
abbrev pub UnifiedByNumberIsAnswered : Type 0
UnifiedByNumberIsAnswered = (Σ : Signature) → IsSignature Σ → (W : List Block) → AreTypedBlocks Σ W → (below : ℕ → ℕ → Bool) → ((f : ℕ) → IsBelowTest Σ W (below f) f) → WorldsTakeBelow below W → (first : ℕ) → IsFreeFrom Σ first → (C : NumberedCase) → IsTypedNumberedCase Σ first W C → AllTakeBelow below C.variables → (x : ℕ) (Cs : List NumberedCase) (sp : IsUnifiedByNumber Σ first W below C x Cs) → ((an : IsAnsweredByNumber Σ first W below C x Cs) × (an.type ≡ sp.type)) × ((D : NumberedCase) → Member D Cs → AllTakeBelow below D.variables)

-- The goal of inputs is such a one, and so is the goal of outputs of any clause's subgoal, an entry's too.
abbrev pub InputsTakeBelow : Type 0
InputsTakeBelow = (Σ : Signature) (W : List Block) (below : ℕ → ℕ → Bool) → ((f : ℕ) → IsBelowTest Σ W (below f) f) → (a : ℕ) (m : List Bool) (K : Kind) → Σ.kinds a ≡ Some K → ItemsTakeBelow below (input_goal a m K).items

abbrev pub OutputsTakeBelow : Type 0
OutputsTakeBelow = (Σ : Signature) (W : List Block) (below : ℕ → ℕ → Bool) → ((f : ℕ) → IsBelowTest Σ W (below f) f) → WorldsTakeBelow below W → (m : ℕ → List Mark) (c : Clause) (d : IsClause Σ W c) (U : ℕ → Bool) (i : ℕ) (A : LfType) → IsSubgoal c i A → (K : Kind) → Σ.kinds (target A) ≡ Some K → ItemsTakeBelow below (output_goal below m (origin d) U A K).items

-- The numbered form of a case has the free variables of its items.
abbrev pub NumberedTakesBelow : Type 0
NumberedTakesBelow = (below : ℕ → ℕ → Bool) (first : ℕ) (C : Case) → ItemsTakeBelow below C.items → AllTakeBelow below (numbered first C).variables
