-- Leaves of a run that a checker can decide: typed cases that are instances of patterns.
use Rattle.std.specs.Prelude.{◌≡◌, ℕ, List, [], length, true, false}
use Rattle.lf.specs.Typing.{Signature, IsType, IsContext}
use Rattle.lf.specs.Variables.{binders, everything}
use Rattle.lf.specs.Subordination.{Block, Member}
use Rattle.lf_checks.specs.Clause.{scope, outside}
use Rattle.lf_cases.specs.Case.{Case}
use Rattle.lf_cases.specs.Pattern.{Pattern, is_given}
use Rattle.lf_cases.specs.Reached.{IsInstanceOf}
use Rattle.lf_coverage.specs.Heads.{IsTypedCase}

-- A pattern that is typed: so is its clause, and its type over the scope of the clause.
pub record IsTypedPattern (Σ : Signature) (p : Pattern) : Type 0 where
  pub outer_typed : IsContext Σ p.clause.outer
  pub clause_typed : IsContext Σ (scope p.clause)
  pub type_typed : IsType Σ (scope p.clause) p.type

-- A typed case that is an instance of a typed pattern of the list. It has as many local variables as the pattern, and its given terms stand for
-- variables of the clause itself.
pub record IsInstanceLeaf (Σ : Signature) (W : List Block) (ps : List Pattern) (C : Case) : Type 0 where
  pub typed : IsTypedCase Σ W C
  pub pattern : Pattern
  pub listed : Member pattern ps
  pub pattern_typed : IsTypedPattern Σ pattern
  pub same_length : length C.local ≡ length (binders [] pattern.type)
  pub given_own : (i : ℕ) → is_given C.given i ≡ true → outside pattern.clause.type everything i ≡ false
  pub is_instance : IsInstanceOf Σ W C pattern
