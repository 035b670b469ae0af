-- The plain clause, block and worlds that a value of the program stands for.
--
-- `plus-s : {X:nat} {Y:nat} {Z:nat} plus X Y Z -> plus (s X) Y (s Z)` has the variables X, Y, Z, the shape true, true, true, false, the head
-- `s X, Y, s Z` and one subgoal, `plus X Y Z`. Of `{y:nat} c (F y)` y is a variable, whatever F is; of `nat -> f z` the quantifier is a subgoal.
use Rattle.std.specs.Prelude.{ℕ, List, map, reverse}
use Rattle.lf.specs.Syntax.{LfType, atom}
use Rattle.lf.specs.Subordination.{Block as PlainBlock}
use Rattle.lf_unification.specs.Offering.{pi_over}
use Rattle.lf_checks.specs.Clause.{constant_clause}
use Rattle.lf_checks.specs.Clauses.{of_constant, of_entry, ClauseName as PlainName}
use Rattle.lf_checks.specs.Marks.{Mark, input, output, free}
use Rattle.lf_checks.specs.Parts.{Parts, parts}
use Rattle.tw_terms.specs.View.{spine_of}
use Rattle.tw_clause.specs.declared.block.Block.{Block}
use Rattle.tw_clause.specs.declared.block.Origin.{Origin}
use Rattle.tw_clause.specs.declared.block.Worlds.{Worlds}
use Rattle.tw_clause.specs.declared.clause.Clause.{Clause}
use Rattle.tw_clause.specs.declared.clause.Subgoal.{Subgoal}
use Rattle.tw_clause.specs.declared.name.ClauseName.{ClauseName}
use Rattle.tw_clause.specs.declared.name.ClauseName.TheVariants.{Constant, BlockEntry}
use Rattle.tw_clause.specs.declared.name.Mark3.{Mark3}
use Rattle.tw_clause.specs.declared.name.Mark3.TheVariants.{Plus, Minus, Free}

abbrev pub block_of : Block → PlainBlock
block_of b = record { label = b.label; some = b.some; entries = b.entries }

abbrev pub worlds_of : Worlds → List PlainBlock
worlds_of w = map block_of w.blocks.items

-- the block, and the number of the entry
abbrev pub origin_of : Origin → PlainBlock × ℕ
origin_of o = (block_of o.block, o.entry)

abbrev pub name_of : ClauseName → PlainName
name_of (Constant id) = of_constant id.0
name_of (BlockEntry label entry) = of_entry label entry

abbrev pub mark_of : Mark3 → Mark
mark_of Plus = input
mark_of Minus = output
mark_of Free = free

-- a subgoal, closed over its local context
abbrev pub subgoal_of : Subgoal → LfType
subgoal_of g = pi_over g.context (atom g.family.0 (spine_of g.args))

-- subgoals that stand in the order of the text, in solving order: the last one first
abbrev pub in_solving_order : List Subgoal → List LfType
in_solving_order gs = reverse (map subgoal_of gs)

-- what the clause has over its variables
abbrev pub parts_of : Clause → Parts
parts_of c = record { variables = c.variables; shape = c.shape.items; family = c.family.0; head = spine_of c.head; subgoals = map subgoal_of c.subgoals.items }

-- the parts of a type as a clause, whatever stands outside it
abbrev pub type_parts : LfType → Parts
type_parts A = parts (constant_clause A)
