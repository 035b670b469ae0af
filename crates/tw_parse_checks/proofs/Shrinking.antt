-- What is read leaves fewer tokens.
use Rattle.std.proofs.Common.{suc, ◌<◌, ◌≤◌, List, length, true, arith}
use Rattle.tw_parse.specs.Words.{Lexeme}
use Rattle.tw_parse.specs.declared.decl.ExtName.{ExtName}
use Rattle.tw_parse_checks.specs.Checks.{Call, Order, Orders}
use Rattle.tw_parse_checks.specs.Shapes.{Row, no_more, one_more, Family, in_parens, TakesVariable, a_variable, TakesCall, a_call, TakesOrder, by_one, by_each, in_braces, in_brackets, TakeOrders, no_component, a_component}

row_shrinks : {A : Type 0} {Takes : List Lexeme → A → List Lexeme → Type 0} → ((tokens rest : List Lexeme) (x : A) → Takes tokens x rest → length rest < length tokens) → {tokens rest : List Lexeme} {row : List A} → Row Takes tokens row rest → length rest ≤ length tokens
row_shrinks one no_more = omega arith
row_shrinks one (one_more {tokens = tokens} {next = next} {rest = rest} {one = x} t w) =
    let first : length next < length tokens = one tokens next x t in
    let last : length rest ≤ length next = row_shrinks one w in
    omega (arith, first, last)

variable_shrinks : (tokens rest : List Lexeme) (x : ExtName) → TakesVariable tokens x rest → length rest < length tokens
variable_shrinks tokens rest x (a_variable e) = omega arith

family_shrinks : {tokens rest : List Lexeme} {a : ExtName} → Family true tokens a rest → length rest < length tokens
family_shrinks (in_parens e f) = omega arith

pub call_shrinks : (tokens rest : List Lexeme) (c : Call) → TakesCall tokens c rest → length rest < length tokens
call_shrinks tokens rest c (a_call {behind = behind} f w e) =
    let first : length behind < length tokens = family_shrinks f in
    let last : suc (length rest) ≤ length behind = row_shrinks variable_shrinks w in
    omega (arith, first, last)

mutual
  pub order_shrinks : (tokens rest : List Lexeme) (o : Order) → TakesOrder tokens o rest → length rest < length tokens
  order_shrinks tokens rest o (by_one {x = x} t) = variable_shrinks tokens rest x t
  order_shrinks tokens rest o (by_each {tokens = ts} e w f) = let last : suc (length rest) ≤ length ts = row_shrinks variable_shrinks w in omega (arith, last)
  order_shrinks tokens rest o (in_braces {tokens = ts} e w f) = let last : suc (length rest) ≤ length ts = orders_shrink w in omega (arith, last)
  order_shrinks tokens rest o (in_brackets {tokens = ts} e w f) = let last : suc (length rest) ≤ length ts = orders_shrink w in omega (arith, last)

  pub orders_shrink : {tokens rest : List Lexeme} {os : Orders} → TakeOrders tokens os rest → length rest ≤ length tokens
  orders_shrink no_component = omega arith
  orders_shrink (a_component {tokens = tokens} {next = next} {rest = rest} {o = o} t w) =
      let first : length next < length tokens = order_shrinks tokens next o t in
      let last : length rest ≤ length next = orders_shrink w in
      omega (arith, first, last)
