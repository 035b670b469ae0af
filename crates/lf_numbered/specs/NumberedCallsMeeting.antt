-- What a case with block variables by number and a pattern have in common: a typed case that is an instance of both, or a tuple of a context that the
-- case holds and that the pattern has. Strict occurrences aren't asked for: k X shares instances with {F:nat -> nat} k (F z), and is none of it.
use Rattle.std.specs.Prelude.{◌≡◌, ℕ, zero, List, Bool, true, Option, Some, None}
use Rattle.lf.specs.Syntax.{Term, Spine, LfType, Skeleton}
use Rattle.lf.specs.Substitution.{Image, put, substitute_type, reduce}
use Rattle.lf.specs.Typing.{Signature}
use Rattle.lf.specs.Variables.{target_arguments, Values}
use Rattle.lf.specs.Subordination.{Block, AreTypedBlocks}
use Rattle.lf.specs.Worlds.{World}
use Rattle.lf.specs.Extension.{Extends}
use Rattle.lf_checks.specs.Clause.{Clause, scope}
use Rattle.lf_checks.specs.Ground.{UsesGoal}
use Rattle.lf_checks.specs.Marks.{SamePlaces}
use Rattle.lf_cases.specs.Case.{covered_places}
use Rattle.lf_cases.specs.Cover.{AgreesOutside, AreTerms}
use Rattle.lf_cases.specs.Missing.{blocks_with}
use Rattle.lf_cases.specs.Pattern.{Known, Origin, of_constant, of_entry, Pattern, SameGiven, StandsOutside, given_at}
use Rattle.lf_coverage.specs.Matching.{ArePlaces}
use Rattle.lf_numbered.specs.EntryConstants.{with_entries}
use Rattle.lf_numbered.specs.EntryPatterns.{StandsByNumber}
use Rattle.lf_numbered.specs.EntryPatternsRuns.{HoldsByNumber}
use Rattle.lf_numbered.specs.NumberedCase.{NumberedCase, AreTypedVariables}
use Rattle.lf_numbered.specs.NumberedInstance.{IsNumberedInstanceOf, block_at}
use Rattle.lf_numbered.specs.OwnTerms.{BlockVariable, blocks_of, own_terms, ImageOnOwnTerms}

-- The case has the pattern's arguments at the covered places: typed terms for the variables of the clause that stand there make them the same. It is what
-- an instance of the pattern is, but for strict occurrences. So has k z those of k (F z).
pub record HasPattern (Σ : Signature) (first : ℕ) (C : NumberedCase) (p : Pattern) : Type 0 where
  pub used : ℕ → Bool
  pub values : ℕ → Image
  pub typed : Values (with_entries Σ first (blocks_of C.blocks)) used (scope p.clause) C.variables values
  pub on_own_terms : (i : ℕ) → used i ≡ true → ImageOnOwnTerms (own_terms first C.blocks) (values i)
  pub uses : UsesGoal used (covered_places C.arguments) p.type
  pub terms : AreTerms p.clause used values
  pub given : (i : ℕ) (M : Term) → used i ≡ true → given_at C.given i ≡ Some M → (a : Skeleton) × (values i ≡ put a M)
  pub stands : StandsByNumber first C p.origin p.at_first values
  pub same : ArePlaces C.arguments (target_arguments (substitute_type reduce values p.type))

-- A typed case that is an instance of the case C, whose block variables may have become one another, and has the pattern. The block variable of number 0
-- keeps its number; there may be further ones, as for an entry that is none of the case's. So cp b.x b.x is shared by cp b.x c.x and u : cp x x.
pub record SharesInstance (Σ : Signature) (first : ℕ) (W : List Block) (C : NumberedCase) (p : Pattern) : Type 0 where
  pub common : NumberedCase
  pub typed_variables : AreTypedVariables Σ first (blocks_with p.origin W) common
  pub numbers : ℕ → ℕ
  pub zeroth : numbers zero ≡ zero
  pub values : ℕ → Image
  pub of_case : IsNumberedInstanceOf Σ first common C numbers values
  pub of_pattern : HasPattern Σ first common p

-- The pattern has the tuple T of a context at the chosen places: values of the variables that occur there make its arguments those of T, and the given
-- terms where they are given.
pub record HasTuple {Σ : Signature} {W : List Block} {S : ℕ → Bool} {G : List LfType} (w : World Σ W S G) (p : Pattern) (b : List Bool) (F : Known) (Ms : List (Option Term)) (σ : ℕ → Image) (T : Spine) : Type 0 where
  pub outer : ℕ → Image
  pub stands : StandsOutside p.origin p.at_first w F outer
  pub used : ℕ → Bool
  pub uses : UsesGoal used b p.type
  pub values : ℕ → Image
  pub typed : Values Σ used (scope p.clause) G values
  pub agrees : AgreesOutside p.clause values outer
  pub given : SameGiven used Ms σ values
  pub terms : AreTerms p.clause used values
  pub same : SamePlaces b T (target_arguments (substitute_type reduce values p.type))

-- what is known of the block variable of number 0: its block, with the instance φ
abbrev pub known_of : Option BlockVariable → (ℕ → Image) → Known
known_of None φ = None
known_of (Some b) φ = Some (b.block, φ)

abbrev pub zeroth_known : NumberedCase → (ℕ → ℕ → Image) → Known
zeroth_known C θ = known_of (block_at C.blocks zero) (θ zero)

-- What is known beforehand of an entry's own block variable is that of number 0; for a constant nothing need be known.
abbrev pub IsKnownFor : {c : Clause} → Origin c → Bool → NumberedCase → (ℕ → ℕ → Image) → Known → Type 0
IsKnownFor (of_constant U) b C θ F = Unit {0}
IsKnownFor (of_entry B later E es e) b C θ F = b ≡ true → F ≡ zeroth_known C θ

-- They share nothing: no typed case is an instance of both; and beside no set, in no legal extension and no context of whatever worlds, the pattern has a
-- tuple that the case holds, also where different block variables are one instance. A pattern of the first block variable alone is meant of that of
-- number 0. So plus (s X) Y _ is apart from plus-z; cp b.x c.x isn't from u : cp x x, since b and c may be one.
pub record IsApartByNumber (Σ : Signature) (first : ℕ) (W : List Block) (C : NumberedCase) (p : Pattern) : Type 0 where
  pub no_instance : SharesInstance Σ first W C p → ⊥
  pub no_tuple : (V : List Block) → AreTypedBlocks Σ V → (S : ℕ → Bool) (Σ' : Signature) → Extends S Σ Σ' → (G : List LfType) (w : World Σ' V S G) (F : Known) (σ : ℕ → Image) (T : Spine) (h : HoldsByNumber w first C F σ T) → IsKnownFor p.origin p.at_first C h.instances F → HasTuple w p (covered_places C.arguments) F C.given σ T → ⊥
