-- What cases with block variables by number hold, splits of them, and runs.
use Rattle.std.specs.Prelude.{◌≡◌, ℕ, zero, ◌≤◌, ◌⊎◌, List, [], ◌∷◌, length, Bool, true, false, Some, None}
use Rattle.lf.specs.Syntax.{Spine, LfType}
use Rattle.lf.specs.Substitution.{Image}
use Rattle.lf.specs.Typing.{Signature}
use Rattle.lf.specs.Subordination.{Block, Member}
use Rattle.lf.specs.Variables.{binders, everything}
use Rattle.lf.specs.Worlds.{World}
use Rattle.lf.specs.Extension.{Extends}
use Rattle.lf_checks.specs.Clause.{outside}
use Rattle.lf_cases.specs.Case.{covered_places}
use Rattle.lf_cases.specs.Pattern.{Known, Pattern, HasGiven, OneCovers, is_given}
use Rattle.lf_coverage.specs.Leaf.{IsTypedPattern}
use Rattle.lf_numbered.specs.EntryPatterns.{IsInstanceOfPattern}
use Rattle.lf_numbered.specs.NewInstance.{AreApart}
use Rattle.lf_numbered.specs.NumberedArguments.{HasNumberedArguments, read_all}
use Rattle.lf_numbered.specs.NumberedCase.{NumberedCase, IsNumberedInstance}
use Rattle.lf_numbered.specs.NumberedInstance.{block_at}
use Rattle.lf_numbered.specs.OwnTerms.{BlockVariable, blocks_of}
use Rattle.lf_numbered.specs.Reading.{entry_reading}
use Rattle.lf_numbered.specs.TypedNumbered.{IsTypedNumberedCase}

-- The block variable of number 0 stands for the instance that is known, if one is.
abbrev pub ZerothIs : NumberedCase → (ℕ → ℕ → Image) → Known → Type 0
ZerothIs C θ None = Unit {0}
ZerothIs C θ (Some (B, φ)) = (b : BlockVariable) × (block_at C.blocks zero ≡ Some b) × (b.block ≡ B) × (θ zero ≡ φ)

-- A case holds the tuple T, where F is known of the block variable of number 0, and σ gives the variables of the clause for which terms are given: a
-- ground instance has all these.
pub record HoldsByNumber {Σ : Signature} {W : List Block} {S : ℕ → Bool} {G : List LfType} (w : World Σ W S G) (first : ℕ) (C : NumberedCase) (F : Known) (σ : ℕ → Image) (T : Spine) : Type 0 where
  pub instances : ℕ → ℕ → Image
  pub values : ℕ → Image
  pub is_ground : IsNumberedInstance w first C instances values
  pub zeroth : ZerothIs C instances F
  pub given : HasGiven values (read_all (entry_reading first (blocks_of C.blocks) instances (length C.variables)) C.given) σ
  pub has_arguments : HasNumberedArguments first C instances values T

-- The patterns cover a case beside S: in each legal extension over S and each context of W beside S one of them covers each tuple that the case holds.
abbrev pub IsCoveredByNumber : Signature → ℕ → List Block → (ℕ → Bool) → List Pattern → NumberedCase → Type 0
IsCoveredByNumber Σ first W S ps C = (Σ' : Signature) → Extends S Σ Σ' → (G : List LfType) (w : World Σ' W S G) (F : Known) (σ : ℕ → Image) (T : Spine) → HoldsByNumber w first C F σ T → OneCovers w ps (covered_places C.arguments) F C.given σ T

-- A case holds the tuple with different instances for block variables of different numbers.
pub record HoldsApart {Σ : Signature} {W : List Block} {S : ℕ → Bool} {G : List LfType} (w : World Σ W S G) (first : ℕ) (C : NumberedCase) (F : Known) (σ : ℕ → Image) (T : Spine) : Type 0 where
  pub holds : HoldsByNumber w first C F σ T
  pub are_apart : AreApart C holds.instances

-- one of the cases holds it so
abbrev pub OneHoldsApart : {Σ : Signature} {W : List Block} {S : ℕ → Bool} {G : List LfType} → World Σ W S G → ℕ → List NumberedCase → Known → (ℕ → Image) → Spine → Type 0
OneHoldsApart w first [] F σ T = ⊥
OneHoldsApart w first (C ∷ Cs) F σ T = HoldsApart w first C F σ T ⊎ OneHoldsApart w first Cs F σ T

-- a case of the same family, with arguments at the same places, and terms given for the same variables
pub record IsLikeByNumber (C D : NumberedCase) : Type 0 where
  pub family : D.family ≡ C.family
  pub places : covered_places D.arguments ≡ covered_places C.arguments
  pub given : covered_places D.given ≡ covered_places C.given

-- A split of the case C beside S into cases like it: every tuple that C so holds, in each legal extension over S and each context of W beside S, one of
-- them so holds, with the same known of it.
pub record IsNumberedSplit (Σ : Signature) (first : ℕ) (W : List Block) (S : ℕ → Bool) (C : NumberedCase) (Cs : List NumberedCase) : Type 0 where
  pub like : (D : NumberedCase) → Member D Cs → IsLikeByNumber C D
  pub holds : (Σ' : Signature) → Extends S Σ Σ' → (G : List LfType) (w : World Σ' W S G) (F : Known) (σ : ℕ → Image) (T : Spine) → HoldsApart w first C F σ T → OneHoldsApart w first Cs F σ T

-- A typed case that is an instance of a typed pattern of the list. It has as many local variables as the pattern, and its given terms stand for
-- variables of the clause itself.
pub record IsNumberedLeaf (Σ : Signature) (first : ℕ) (W : List Block) (ps : List Pattern) (C : NumberedCase) : Type 0 where
  pub typed : IsTypedNumberedCase Σ first W C
  pub pattern : Pattern
  pub listed : Member pattern ps
  pub pattern_typed : IsTypedPattern Σ pattern
  pub same_length : length C.local ≡ length (binders [] pattern.type)
  pub given_own : (i : ℕ) → is_given C.given i ≡ true → outside pattern.clause.type everything i ≡ false
  pub is_instance : IsInstanceOfPattern Σ first C pattern

-- at most one block variable: so it is with each goal
abbrev pub HasOneBlock : NumberedCase → Type 0
HasOneBlock C = length C.blocks ≤ 1
