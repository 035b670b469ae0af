-- Matching of cases with block variables by number with patterns of constants' clauses: that of cases of the empty world over the signature with
-- entries, in which the constants of entries are constants.
use Rattle.std.specs.Prelude.{◌≡◌, ℕ, zero, ◌-◌, List, [], Bool, true, false, cond, Option, Some, ◌↔◌}
use Rattle.lf.specs.Syntax.{LfType, Kind, Spine, Term, skeleton}
use Rattle.lf.specs.Substitution.{Image, keep, put, substitute_type, reduce}
use Rattle.lf.specs.Typing.{Signature, TypeAt, IsSignature}
use Rattle.lf.specs.Subordination.{Block, AreTypedBlocks}
use Rattle.lf.specs.Variables.{target, nothing, everything, binders}
use Rattle.lf.specs.Worlds.{lift_over}
use Rattle.lf_checks.specs.Clause.{Clause, IsClause, outside, scope}
use Rattle.lf.specs.Entries.{quantifiers}
use Rattle.lf_checks.specs.Parts.{type_at}
use Rattle.lf_cases.specs.Cover.{before}
use Rattle.lf_checks.specs.Marks.{MentionChosenOnly, TypedPlaces}
use Rattle.lf_cases.specs.Case.{covered_places}
use Rattle.lf_cases.specs.Pattern.{Origin, of_constant, of_entry, Pattern, given_at, ground_in, head_pattern, origin}
use Rattle.lf_coverage.specs.OrElse.{or_else}
use Rattle.lf_coverage.specs.Leaf.{IsTypedPattern}
use Rattle.lf_coverage.specs.Matching.{ArePlaces, HoldsTypes, MatchesByTerms, as_image, found_goal, found_values}
use Rattle.lf_coverage.specs.MeetStore.{IsConstants}
use Rattle.lf_numbered.specs.EntryConstants.{with_entries, IsFreeFrom}
use Rattle.lf_numbered.specs.EntryPatterns.{variable_images, StandsByNumber, IsInstanceOfPattern}
use Rattle.lf_numbered.specs.NumberedCase.{NumberedCase}
use Rattle.lf_numbered.specs.OwnTerms.{blocks_of}
use Rattle.lf_numbered.specs.TypedNumbered.{IsTypedNumberedCase}
use Rattle.lf_numbered.specs.OwnStores.{as_case}

-- Where a typed case is an instance of a typed pattern of a constant's clause, the values of variables that are ground by the covered places are those that
-- matching finds.
abbrev pub NumberedInstanceIsFound : Type 0
NumberedInstanceIsFound = (Σ : Signature) → IsSignature Σ → (W : List Block) → AreTypedBlocks Σ W → (first : ℕ) → IsFreeFrom Σ first → (C : NumberedCase) → IsTypedNumberedCase Σ first W C → (p : Pattern) → IsTypedPattern Σ p → IsConstants p.origin → (h : IsInstanceOfPattern Σ first C p) → (i : ℕ) (A : LfType) → TypeAt (scope p.clause) i A → h.used i ≡ true → ground_in p (covered_places C.arguments) C.given i ≡ true → h.values i ≡ found_values (as_case C) p i

-- So it matches the pattern by terms.
abbrev pub NumberedInstanceMatches : Type 0
NumberedInstanceMatches = (Σ : Signature) → IsSignature Σ → (W : List Block) → AreTypedBlocks Σ W → (first : ℕ) → IsFreeFrom Σ first → (C : NumberedCase) → IsTypedNumberedCase Σ first W C → (p : Pattern) → IsTypedPattern Σ p → IsConstants p.origin → IsInstanceOfPattern Σ first C p → MatchesByTerms (as_case C) p

-- And matching by terms decides whether a case of inputs is an instance of a constant's head, where its arguments have the types of the covered places,
-- which mention covered places only.
abbrev pub NumberedHeadMatchingDecides : Type 0
NumberedHeadMatchingDecides = (Σ : Signature) → IsSignature Σ → (W : List Block) → AreTypedBlocks Σ W → (first : ℕ) → IsFreeFrom Σ first → (C : NumberedCase) → IsTypedNumberedCase Σ first W C → (c : Clause) (i : IsClause Σ W c) → IsConstants (origin i) → C.given ≡ [] → C.local ≡ [] → (K : Kind) → Σ.kinds (target c.type) ≡ Some K → MentionChosenOnly nothing (covered_places C.arguments) K → (T : Spine) → ArePlaces C.arguments T → TypedPlaces (with_entries Σ first (blocks_of C.blocks)) (covered_places C.arguments) C.variables T K → (IsInstanceOfPattern Σ first C (head_pattern c (origin i)) ↔ MatchesByTerms (as_case C) (head_pattern c (origin i))) × Dec (IsInstanceOfPattern Σ first C (head_pattern c (origin i)))

-- What stands outside the clause in an instance: nothing, or what its block variable gives.
abbrev pub outside_given : (first : ℕ) (C : NumberedCase) → {c : Clause} (o : Origin c) (b : Bool) (τ : ℕ → Image) → StandsByNumber first C o b τ → ℕ → Image
outside_given first C (of_constant U) b τ s = keep
outside_given first C (of_entry B later E es e) b τ (k, U, p, n, a) = before later (variable_images first C.blocks k B U)

-- The pattern's type with this put in, over the clause's own variables and the case's.
abbrev pub placed_type : Pattern → (ℕ → Image) → LfType
placed_type p φ = substitute_type reduce (lift_over (binders [] p.clause.type) φ) p.type

-- The term for a variable of the clause itself: the one that is given for it, or else the one that is read off beside this type.
abbrev pub found_placed : NumberedCase → Pattern → (ℕ → Image) → ℕ → Option Term
found_placed C p φ x = or_else (given_at C.given x) (found_goal nothing nothing zero x (placed_type p φ) C.arguments)

-- So matching finds the values of an instance of any pattern, of an entry too, that are ground by the covered places: over the block variable's terms and
-- constants each has its strict occurrence. In cp b.x b.x of u : cp x x there is none to be found.
abbrev pub NumberedValueIsFound : Type 0
NumberedValueIsFound = (Σ : Signature) → IsSignature Σ → (W : List Block) → AreTypedBlocks Σ W → (first : ℕ) → IsFreeFrom Σ first → (C : NumberedCase) → IsTypedNumberedCase Σ first W C → (p : Pattern) → IsTypedPattern Σ p → (h : IsInstanceOfPattern Σ first C p) → (i : ℕ) (A : LfType) → TypeAt (scope p.clause) i A → outside p.clause.type everything i ≡ false → h.used i ≡ true → ground_in p (covered_places C.arguments) C.given i ≡ true → (N : Term) × (h.values i ≡ put (skeleton A) N) × (found_placed C p (outside_given first C p.origin p.at_first h.values h.stands) i ≡ Some N)

-- The values that matching finds: what stands outside the clause, and the terms for its own variables.
abbrev pub placed_values : NumberedCase → Pattern → (ℕ → Image) → ℕ → Image
placed_values C p φ i = cond (outside p.clause.type everything i) (φ (i - quantifiers p.clause.type)) (as_image i (type_at (scope p.clause) i) (found_placed C p φ i))

-- So a case is an instance of a pattern, of an entry too, just where these make it one, for one of its block variables, where
-- what is ground holds the variables in its types: no other values need be tried.
abbrev pub FoundValuesMakeInstance : Type 0
FoundValuesMakeInstance = (Σ : Signature) → IsSignature Σ → (W : List Block) → AreTypedBlocks Σ W → (first : ℕ) → IsFreeFrom Σ first → (C : NumberedCase) → IsTypedNumberedCase Σ first W C → (p : Pattern) → IsTypedPattern Σ p → (h : IsInstanceOfPattern Σ first C p) → HoldsTypes (ground_in p (covered_places C.arguments) C.given) (scope p.clause) → (m : IsInstanceOfPattern Σ first C p) × (m.values ≡ placed_values C p (outside_given first C p.origin p.at_first h.values h.stands))
