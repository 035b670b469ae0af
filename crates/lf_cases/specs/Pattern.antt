-- What covers a case: the head of a clause, or a subgoal of it, as a pattern; and when clauses cover a case.
use Rattle.std.specs.Prelude.{◌≡◌, ℕ, zero, suc, List, [], ◌∷◌, Bool, true, false, Option, Some, None}
use Rattle.lf.specs.Syntax.{Term, Spine, LfType, atom, Skeleton}
use Rattle.lf.specs.Substitution.{Image, put, substitute, substitute_type, reduce}
use Rattle.lf.specs.Typing.{Signature}
use Rattle.lf.specs.Variables.{target, target_arguments, onto, nothing, Values, Within, everything}
use Rattle.lf.specs.Subordination.{Block, Member}
use Rattle.lf.specs.Worlds.{World, lift_over}
use Rattle.lf.specs.Extension.{Extends}
use Rattle.lf_checks.specs.Tests.{both, choose, either}
use Rattle.lf_checks.specs.Clause.{Clause, scope, variables, outside, IsClause, from_constant, from_entry, constant_clause, entry_clause}
use Rattle.lf_checks.specs.Marks.{SamePlaces}
use Rattle.lf_checks.specs.Ground.{UsesGoal}
use Rattle.lf_checks.specs.Strict.{strict_goal}
use Rattle.lf_cases.specs.Cover.{InstanceIn, before, AgreesOutside, AreTerms}
use Rattle.lf_cases.specs.Case.{Item, free_variable, block_variable, Case, IsGroundInstance, HasArguments, covered_places}

-- Where a clause comes from: from a constant of this type, or from an entry of a block.
pub data Origin : Clause → Type 0 where
  of_constant : (U : LfType) → Origin (constant_clause U)
  of_entry : (B : Block) (later : List LfType) (E : LfType) (es : List LfType) → onto later (E ∷ es) ≡ B.entries → Origin (entry_clause B es E)

-- the way in which a clause of a signature and worlds comes
abbrev pub origin : {Σ : Signature} {W : List Block} {c : Clause} → IsClause Σ W c → Origin c
origin (from_constant k U e) = of_constant U
origin (from_entry B later E es i e) = of_entry B later E es e

-- A pattern: a type in the scope of a clause, whose arguments are to be those of a case. An entry is that of any block variable, or of the
-- first block variable of the case alone.
pub record Pattern : Type 0 where
  pub clause : Clause
  pub origin : Origin clause
  pub type : LfType
  pub at_first : Bool

-- The head of a clause, for inputs.
abbrev pub head_pattern : (c : Clause) → Origin c → Pattern
head_pattern c o = record { clause = c; origin = o; type = atom (target c.type) (target_arguments c.type); at_first = false }

-- A subgoal A of a clause, for its outputs: the entry is that of the first block variable.
abbrev pub subgoal_pattern : (c : Clause) → Origin c → LfType → Pattern
subgoal_pattern c o A = record { clause = c; origin = o; type = A; at_first = true }

-- there is a term
abbrev pub is_there : Option Term → Bool
is_there (Some M) = true
is_there None = false

-- a term is given at the index
abbrev pub is_given : List (Option Term) → ℕ → Bool
is_given [] i = false
is_given (M ∷ Ms) zero = is_there M
is_given (M ∷ Ms) (suc i) = is_given Ms i

-- Ground by the chosen places, where these terms are given: the variables for which there is one, what stands outside the clause, and each
-- variable with a strict occurrence in these places. For plus-s by its inputs: X and Y.
abbrev pub ground_in : Pattern → List Bool → List (Option Term) → ℕ → Bool
ground_in p b Ms i = either (is_given Ms i) (either (outside p.clause.type everything i) (both (variables p.clause i) (strict_goal b nothing (outside p.clause.type p.clause.fixed) i p.type)))

-- one of the items is a block variable
abbrev pub has_block_variable : List Item → Bool
has_block_variable [] = false
has_block_variable (free_variable A ∷ I) = has_block_variable I
has_block_variable (block_variable B υ ∷ I) = true

-- In this ground instance the first block variable, the last of the list, stands for the instance θ of B.
abbrev pub FirstInstance : {Σ : Signature} {W : List Block} {S : ℕ → Bool} {G : List LfType} (w : World Σ W S G) (I : List Item) (σ : ℕ → Image) → IsGroundInstance w I σ → Block → (ℕ → Image) → Type 0
FirstInstance w [] σ g B θ = ⊥
FirstInstance w (free_variable A ∷ I) σ (N, τ, g, t, e) B θ = FirstInstance w I τ g B θ
FirstInstance w (block_variable C υ ∷ I) σ (φ, τ, g, i, s, e) B θ = choose (has_block_variable I) (FirstInstance w I τ g B θ) ((C ≡ B) × (φ ≡ θ))

-- An instance of a block that is known beforehand, if there is one: in a run on outputs that of the first block variable.
abbrev pub Known : Type 0
Known = Option (Block × (ℕ → Image))

-- the first block variable stands for what is known
abbrev pub FirstIs : {Σ : Signature} {W : List Block} {S : ℕ → Bool} {G : List LfType} (w : World Σ W S G) (I : List Item) (σ : ℕ → Image) → IsGroundInstance w I σ → Known → Type 0
FirstIs w I σ g None = Unit {0}
FirstIs w I σ g (Some (B, θ)) = FirstInstance w I σ g B θ

-- The instance that is meant by a pattern: the one that is known, where it speaks of the first block variable and one is known; else any.
abbrev pub IsMeant : Bool → {Σ : Signature} {W : List Block} {S : ℕ → Bool} {G : List LfType} → World Σ W S G → Known → Block → (ℕ → Image) → Type 0
IsMeant true w (Some (C, ψ)) B θ = (C ≡ B) × (ψ ≡ θ)
IsMeant true w None B θ = InstanceIn w B θ
IsMeant false w F B θ = InstanceIn w B θ

-- θ stands for what is outside the clause: nothing is outside a constant; an entry is that of the instance that is meant.
abbrev pub StandsOutside : {c : Clause} → Origin c → Bool → {Σ : Signature} {W : List Block} {S : ℕ → Bool} {G : List LfType} → World Σ W S G → Known → (ℕ → Image) → Type 0
StandsOutside (of_constant U) b w F θ = Unit {0}
StandsOutside (of_entry B later E es e) b w F θ = (φ : ℕ → Image) × IsMeant b w F B φ × (θ ≡ before later φ)

-- what is known tells what stands outside the clause of a subgoal: for an entry it is the instance of the entry's block
abbrev pub TellsOutside : {c : Clause} → Origin c → Known → (ℕ → Image) → Type 0
TellsOutside (of_constant U) F θ = Unit {0}
TellsOutside (of_entry B later E es e) F θ = (φ : ℕ → Image) × (F ≡ Some (B, φ)) × (θ ≡ before later φ)

-- the given term at an index, if there is one
abbrev pub given_at : List (Option Term) → ℕ → Option Term
given_at [] i = None
given_at (M ∷ Ms) zero = M
given_at (M ∷ Ms) (suc i) = given_at Ms i

-- τ gives the variables of the clause, where a term is given for them, these terms under σ
abbrev pub HasGiven : (ℕ → Image) → List (Option Term) → (ℕ → Image) → Type 0
HasGiven σ Ms τ = (i : ℕ) (M : Term) → given_at Ms i ≡ Some M → (a : Skeleton) × (τ i ≡ put a (substitute reduce σ M))

-- σ and τ give the same terms to the variables of U for which a term is given
abbrev pub SameGiven : (ℕ → Bool) → List (Option Term) → (ℕ → Image) → (ℕ → Image) → Type 0
SameGiven U Ms σ τ = (i : ℕ) (M : Term) → U i ≡ true → given_at Ms i ≡ Some M → (a : Skeleton) × (b : Skeleton) × (N : Term) × (τ i ≡ put a N) × (σ i ≡ put b N)

-- A term is given for each variable of the clause itself that is in U, and for no other.
abbrev pub IsGivenFor : Clause → (ℕ → Bool) → List (Option Term) → Type 0
IsGivenFor c U Ms = ((i : ℕ) → U i ≡ true → outside c.type everything i ≡ false → (M : Term) × (given_at Ms i ≡ Some M)) × ((i : ℕ) → is_given Ms i ≡ true → U i ≡ true)

-- A case holds the tuple T, where F is known of its first block variable, and σ gives the variables of the clause for which terms are
-- given: a ground instance has all these.
pub record Holds {Σ : Signature} {W : List Block} {S : ℕ → Bool} {G : List LfType} (w : World Σ W S G) (C : Case) (F : Known) (σ : ℕ → Image) (T : Spine) : Type 0 where
  pub values : ℕ → Image
  pub is_ground : IsGroundInstance w C.items values
  pub first : FirstIs w C.items values is_ground F
  pub given : HasGiven values C.given σ
  pub has_arguments : HasArguments (lift_over C.local values) C.arguments T

-- The pattern covers T at the chosen places: values of the variables that occur there and, step by step, in the types of such variables make
-- its arguments there those of T, the given terms where they are given; and each variable that occurs there is ground by these places.
pub record CoversTuple {Σ : Signature} {W : List Block} {S : ℕ → Bool} {G : List LfType} (w : World Σ W S G) (p : Pattern) (b : List Bool) (F : Known) (Ms : List (Option Term)) (σ : ℕ → Image) (T : Spine) : Type 0 where
  pub outer : ℕ → Image
  pub stands : StandsOutside p.origin p.at_first w F outer
  pub used : ℕ → Bool
  pub outside_used : Within (outside p.clause.type everything) used
  pub uses : UsesGoal used b p.type
  pub strict : UsesGoal (ground_in p b Ms) b p.type
  pub values : ℕ → Image
  pub typed : Values Σ used (scope p.clause) G values
  pub agrees : AgreesOutside p.clause values outer
  pub given : SameGiven used Ms σ values
  pub terms : AreTerms p.clause used values
  pub same : SamePlaces b T (target_arguments (substitute_type reduce values p.type))

-- one of the patterns does
abbrev pub OneCovers : {Σ : Signature} {W : List Block} {S : ℕ → Bool} {G : List LfType} (w : World Σ W S G) → List Pattern → List Bool → Known → List (Option Term) → (ℕ → Image) → Spine → Type 0
OneCovers w ps b F Ms σ T = (p : Pattern) × Member p ps × CoversTuple w p b F Ms σ T

-- The patterns cover a case beside S: in each legal extension over S and each context of W beside S one of them covers each tuple that
-- the case holds.
abbrev pub IsCoveredCase : Signature → List Block → (ℕ → Bool) → List Pattern → Case → Type 0
IsCoveredCase Σ W S ps C = (Σ' : Signature) → Extends S Σ Σ' → (G : List LfType) (w : World Σ' W S G) (F : Known) (σ : ℕ → Image) (T : Spine) → Holds w C F σ T → OneCovers w ps (covered_places C.arguments) F C.given σ T

-- each pattern of the list is the head of a clause of the family
abbrev pub AreHeadsOf : Signature → List Block → ℕ → List Pattern → Type 0
AreHeadsOf Σ W a ps = (p : Pattern) → Member p ps → (c : Clause) × (i : IsClause Σ W c) × (target c.type ≡ a) × (p ≡ head_pattern c (origin i))

-- and the list has each clause of the family
abbrev pub AreAllHeadsOf : Signature → List Block → ℕ → List Pattern → Type 0
AreAllHeadsOf Σ W a ps = AreHeadsOf Σ W a ps × ((c : Clause) (i : IsClause Σ W c) → target c.type ≡ a → Member (head_pattern c (origin i)) ps)
