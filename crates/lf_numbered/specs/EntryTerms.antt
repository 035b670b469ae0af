-- Matching of cases with block variables by number with patterns of any clause, of a block's entry too, by terms alone. Of an entry's clause each block
-- variable of the case that is of its block is tried: its terms and its constants stand for what is outside the clause, and with these put in, the
-- pattern is matched as one of a constant's clause is.
use Rattle.std.specs.Prelude.{◌≡◌, ℕ, zero, ◌-◌, [], length, Bool, true, cond, Some}
use Rattle.lf.specs.Syntax.{Spine, Kind}
use Rattle.lf.specs.Substitution.{Image, keep, substitute_spine, substitute_type, reduce}
use Rattle.lf.specs.Typing.{Signature}
use Rattle.lf.specs.Entries.{quantifiers}
use Rattle.lf.specs.Variables.{target, target_arguments, binders, onto, everything, Values}
use Rattle.lf.specs.Worlds.{lift_over, instance}
use Rattle.lf_checks.specs.Clause.{Clause, scope, outside}
use Rattle.lf_checks.specs.Ground.{UsesGoal}
use Rattle.lf_checks.specs.Parts.{type_at}
use Rattle.lf_checks.specs.Tests.{either}
use Rattle.lf_cases.specs.Candidates.{given_images}
use Rattle.lf_cases.specs.Case.{covered_places}
use Rattle.lf_cases.specs.Cover.{before, AreTerms}
use Rattle.lf_cases.specs.Pattern.{Origin, of_constant, of_entry, Pattern, is_given, ground_in}
use Rattle.lf_coverage.specs.Matching.{ArePlaces, as_image}
use Rattle.lf_coverage.specs.TypedCase.{TypedArguments}
use Rattle.lf_numbered.specs.EntryConstants.{with_entries}
use Rattle.lf_numbered.specs.EntryPatterns.{variable_images}
use Rattle.lf_numbered.specs.EntryPatternsMatching.{placed_type, found_placed}
use Rattle.lf_numbered.specs.NumberedCase.{NumberedCase}
use Rattle.lf_numbered.specs.NumberedInstance.{block_at}
use Rattle.lf_numbered.specs.OwnTerms.{blocks_of}

-- What is tried for what stands outside a clause: nothing stands outside a constant's. For an entry it is what a block variable of the case with its block
-- gives, and for the entry of the first block variable alone what that of number 0 gives.
abbrev pub IsTried : ℕ → NumberedCase → {c : Clause} → Origin c → Bool → (ℕ → Image) → Type 0
IsTried first C (of_constant U) b φ = φ ≡ keep
IsTried first C (of_entry B later E es e) b φ = (k : ℕ) × (U : Spine) × (block_at C.blocks k ≡ Some (record { block = B; terms = U })) × (b ≡ true → k ≡ zero) × (φ ≡ before later (variable_images first C.blocks k B U))

-- What matching finds for the clause's own variables, where the pattern has φ for what is outside the clause and so stands over the case's variables, which
-- stay. In q b.x b.w beside q n D, where b.x is put in for n, D is b.w.
abbrev pub own_values : NumberedCase → Pattern → (ℕ → Image) → ℕ → Image
own_values C p φ i = cond (outside p.clause.type everything i) (keep (i - quantifiers p.clause.type)) (as_image i (type_at (scope p.clause) i) (found_placed C p φ i))

-- The case matches the pattern with φ put in: each variable in the covered places is ground by them, as the entry's clause itself has it; for each of the
-- clause's own there is a term; and with these put in, the pattern's arguments there are the case's.
abbrev pub MatchesWith : NumberedCase → Pattern → (ℕ → Image) → Type 0
MatchesWith C p φ = UsesGoal (ground_in p (covered_places C.arguments) C.given) (covered_places C.arguments) p.type × AreTerms p.clause (ground_in p (covered_places C.arguments) C.given) (own_values C p φ) × ArePlaces C.arguments (target_arguments (substitute_type reduce (own_values C p φ) (placed_type p φ)))

-- It matches the pattern by terms, where it does so with something that is tried. So cp b.x b.x matches the entry u : cp x x of {x:exp} {u:cp x x}, by b;
-- for two block variables b and c of this block cp b.x c.x doesn't, since neither b nor c gives x both terms.
abbrev pub MatchesByNumber : ℕ → NumberedCase → Pattern → Type 0
MatchesByNumber first C p = (φ : ℕ → Image) × IsTried first C p.origin p.at_first φ × MatchesWith C p φ

-- what stands for the variables of the pattern's clause: the given terms, and φ for what is outside it; the others move past the case's variables
abbrev pub beside_values : NumberedCase → Pattern → (ℕ → Image) → ℕ → Image
beside_values C p φ i = cond (outside p.clause.type everything i) (φ (i - quantifiers p.clause.type)) (given_images (scope p.clause) C.given (length C.variables) i)

-- The variables for which these are terms over the case: those for which a term is given, and what stands outside the clause.
abbrev pub known_in : NumberedCase → Pattern → ℕ → Bool
known_in C p i = either (is_given C.given i) (outside p.clause.type everything i)

-- A case by number that is typed beside a pattern with φ put in: each given term has the type of its variable, and terms are given for the clause's own
-- variables in this type; the local context is the pattern's with all these put in; and the arguments have the types of their places, where at the places
-- that aren't covered the pattern's own arguments stand. So it is with the goal q N D of a on N beside its subgoal q n D, where N is a's n.
pub record IsTypedBesideWith (Σ : Signature) (first : ℕ) (C : NumberedCase) (p : Pattern) (φ : ℕ → Image) : Type 0 where
  pub kind : Kind
  pub of_family : Σ.kinds (target p.type) ≡ Some kind
  pub given : Values (with_entries Σ first (blocks_of C.blocks)) (known_in C p) (scope p.clause) C.variables (beside_values C p φ)
  pub local : C.local ≡ instance (binders [] p.type) (beside_values C p φ)
  pub arguments : TypedArguments (with_entries Σ first (blocks_of C.blocks)) (onto C.local (onto C.variables (scope p.clause))) C.arguments (substitute_spine reduce (lift_over (binders [] p.type) (beside_values C p φ)) (target_arguments p.type)) kind
