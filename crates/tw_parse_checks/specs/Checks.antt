-- What is declared by a check.
use Rattle.std.specs.Prelude.{ℕ, List, [], ◌∷◌, map}
use Rattle.tw_parse.specs.Syntax.{Declaration}
use Rattle.tw_parse.specs.View.{declaration_of}
use Rattle.tw_parse.specs.declared.decl.ExtName.{ExtName}
use Rattle.tw_parse_checks.specs.declared.check.ExtCheck.{ExtCheck}
use Rattle.tw_parse_checks.specs.declared.check.ExtCheck.TheVariants.{ModeShort, ModeFull, Block, Worlds, Terminates}
use Rattle.tw_parse_checks.specs.declared.check.ExtMark.{ExtMark}
use Rattle.tw_parse_checks.specs.declared.check.ExtOrder.{ExtOrder, fold-ExtOrder}
use Rattle.tw_parse_checks.specs.declared.check.ExtOrder.TheOpen.{ExtOrder-F}
use Rattle.tw_parse_checks.specs.declared.check.ExtPattern.{ExtPattern}

-- a call pattern: the family, and a name for each explicit argument, which is `_` where it has none
pub record Call : Type 0 where
  pub family : ExtName
  pub names : List ExtName

mutual
  -- An order, as it is written: `each` has a variable for each call pattern, `lexicographic` the components of {..}, `simultaneous` those of [..].
  pub data Order : Type 0 where
    each : List ExtName → Order
    lexicographic : Orders → Order
    simultaneous : Orders → Order

  pub data Orders : Type 0 where
    no_order : Orders
    next_order : Order → Orders → Orders

-- `mode_short` with the family and the marks of its explicit arguments; `mode_full` with the marks of the quantified variables, the family, how many names stand behind it, and the constant `a : {X:U} .. a Y ..`;
-- `block` with the label, how many binders stand behind `some`, and the family `l : {X:A} .. {Y:B} .. type`; `worlds` with the labels and the call patterns; `terminates` with the order and the call patterns
pub data Check : Type 0 where
  mode_short : ExtName → List ExtMark → Check
  mode_full : List ExtMark → ExtName → ℕ → Declaration → Check
  block : ExtName → ℕ → Declaration → Check
  worlds : List ExtName → List Call → Check
  terminates : Order → List Call → Check

abbrev pub call_of : ExtPattern → Call
call_of p = record { family = p.family; names = p.names.items }

-- the components in their order
abbrev pub orders_from : List Order → Orders
orders_from [] = no_order
orders_from (o ∷ os) = next_order o (orders_from os)

-- one level of an order, with each component already seen
abbrev pub order_step : ExtOrder-F Order → Order
order_step (ExtOrder-F.Each names) = each names.items
order_step (ExtOrder-F.Lex os) = lexicographic (orders_from os.items)
order_step (ExtOrder-F.Simul os) = simultaneous (orders_from os.items)

unfoldable pub order_of : ExtOrder → Order
order_of = fold-ExtOrder Order order_step

abbrev pub check_of : ExtCheck → Check
check_of (ModeShort a marks) = mode_short a marks.items
check_of (ModeFull marks a count d) = mode_full marks.items a count (declaration_of d)
check_of (Block l count d) = block l count (declaration_of d)
check_of (Worlds labels patterns) = worlds labels.items (map call_of patterns.items)
check_of (Terminates o patterns) = terminates (order_of o) (map call_of patterns.items)
