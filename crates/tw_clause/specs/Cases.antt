-- The plain case that a case of the program stands for: metavariable k is the variable k of the case.
use Rattle.std.specs.Prelude.{ℕ, List, Option, map, option_map}
use Rattle.lf.specs.Subordination.{Block}
use Rattle.lf.specs.Syntax.{LfType, Term}
use Rattle.tw_terms.specs.OpenView.{open_term_of}
use Rattle.tw_clause.specs.View.{block_of}
use Rattle.tw_clause.specs.declared.case.BlockVar.{BlockVar}
use Rattle.tw_clause.specs.declared.case.Case.{Case}

-- a block, and the terms that stand for its `some` variables
abbrev pub block_variable_of : BlockVar → Block × List Term
block_variable_of b = (block_of b.block, map open_term_of b.some.items)

-- contexts have the newest variable in front
pub record PlainCase : Type 0 where
  pub variables : List LfType
  pub blocks : List (Block × List Term)
  pub local : List LfType
  pub given : List (Option Term)
  pub family : ℕ
  pub arguments : List (Option Term)

abbrev pub case_of : Case → PlainCase
case_of c = record { variables = c.variables; blocks = map block_variable_of c.blocks.items; local = c.local; given = map (option_map open_term_of) c.given.items; family = c.family.0; arguments = map (option_map open_term_of) c.args.items }
