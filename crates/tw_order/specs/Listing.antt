-- The clauses that a list of the program stands for.
use Rattle.std.specs.Prelude.{List, map}
use Rattle.lf.specs.Subordination.{Member}
use Rattle.lf.specs.Typing.{IsContext, IsSignature, IsType, Signature}
use Rattle.lf.specs.Variables.{nothing}
use Rattle.lf_checks.specs.Clause.{Clause}
use Rattle.lf_checks.specs.Clauses.{NamedClause}
use Rattle.tw_clause.specs.View.{name_of}
use Rattle.tw_terms.specs.View.{type_of}
use Rattle.tw_order.specs.Scopes.{newest_and}
use Rattle.tw_order.specs.declared.listed.Listed.{Listed}

-- the clause, and with its name; the entries outside it are fixed
abbrev pub clause_in : Listed → Clause
clause_in x = record { outer = x.outer; fixed = newest_and x.entries nothing; type = type_of x.ty.now }

abbrev pub named_of : Listed → NamedClause
named_of x = record { name = name_of x.name; clause = clause_in x }

-- a typed clause
pub record ClauseStands (Σ : Signature) (c : Clause) : Type 0 where
  pub signature : IsSignature Σ
  pub context : IsContext Σ c.outer
  pub is_type : IsType Σ c.outer c.type

abbrev pub AllStand : Signature → List Listed → Type 0
AllStand Σ xs = (n : NamedClause) → Member n (map named_of xs) → ClauseStands Σ n.clause
