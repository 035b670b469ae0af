use Rattle.std.proofs.Common.{◌≡◌, ◌+◌, ◌≤◌, List, length, sym, subst, arith, rules}
use Rattle.tw_parse.specs.Sources.{lexemes_from}
use Rattle.tw_parse.specs.Words.{lexemes, first_word}
use Rattle.tw_parse.specs.declared.words.Word.TheVariants.{LBrace, RBrace, LBracket, RBracket}
use Rattle.tw_parse_checks.specs.Checks.{Order, order_of}
use Rattle.tw_parse_checks.specs.Parts.{orders_in}
use Rattle.tw_parse_checks.specs.Shapes.{TakesOrder, TakeOrders, no_component}
use Rattle.tw_parse_checks.specs.declared.check.ExtOrder.{ExtOrder}
use Rattle.tw_parse_checks.proofs.Forms.{it_is_some}
use Rattle.tw_parse_checks.proofs.OrderTokens.{brace_order, bracket_order, no_brace_end, no_bracket_end, one_more_order}
use Rattle.tw_parse_checks.proofs.OrderViews.{order_of-Lex, order_of-Simul}
use Rattle.tw_parse_checks.proofs.Shrinking.{order_shrinks, orders_shrink}
use Rattle.tw_parse_checks.proofs.orders.+order.Goals as goal

pub components-orders-init : goal.components-orders-init
components-orders-init t c =
    let tokens = lexemes_from c.args.source.now c.args.from in
    subst (λ (os : List ExtOrder). TakeOrders tokens (orders_in os) tokens) (sym c.new-orders.ensures.items) no_component

pub components-order-requires : goal.components-order-requires
components-order-requires t c =
    let h : length (lexemes_from c.args.source.now c.orders.upto) ≤ length (lexemes_from c.args.source.now c.args.from) = orders_shrink c.orders.invariant in
    (omega (arith, h), tt)

pub components-orders-smaller : goal.components-orders-smaller
components-orders-smaller t c =
    let source = c.args.source.now in
    let found = c.in-Some.found in
    order_shrinks (lexemes_from source c.orders.upto) (lexemes_from source found.1) (order_of found.0) (it_is_some c.in_ok-found.field-0 found _ _ c.in-Some.is c.in_ok-found.ensures)

pub components-orders-preserved : goal.components-orders-preserved
components-orders-preserved t c =
    let source = c.args.source.now in
    let found = c.in-Some.found in
    one_more_order (lexemes_from source c.args.from) (lexemes_from source c.orders.upto) (lexemes_from source found.1) c.orders.orders.items c.push.new.self.items found.0 c.orders.invariant
    (it_is_some c.in_ok-found.field-0 found _ _ c.in-Some.is c.in_ok-found.ensures) c.in_ok-push.ensures.items

pub order-returns-then-ne : goal.order-returns-then-ne
order-returns-then-ne t c =
    let source = c.args.source.now in
    let opens : first_word (lexemes_from source c.args.from) ≡ LBrace = search rules in
    let isnt : first_word (lexemes_from source c.in_ok-orders.end) ≡ RBrace → ⊥ = search rules in
    no_brace_end (lexemes source.text.now source.tokens.now) (lexemes_from source c.in_ok-orders.end) c.args.from (orders_in c.in_ok-orders.orders.items) opens c.in_ok-orders.ensures.reads c.in_ok-orders.ensures.stops isnt

pub order-returns-then-eq-2 : goal.order-returns-then-eq-2
order-returns-then-eq-2 t c =
    let source = c.args.source.now in
    let opens : first_word (lexemes_from source c.args.from) ≡ LBrace = search rules in
    let closes : first_word (lexemes_from source c.in_ok-orders.end) ≡ RBrace = search rules in
    subst (λ (o : Order). TakesOrder (lexemes_from source c.args.from) o (lexemes_from source (c.in_ok-orders.end + 1))) (sym (order_of-Lex c.in_ok-orders.orders))
    (brace_order (lexemes source.text.now source.tokens.now) c.args.from c.in_ok-orders.end (orders_in c.in_ok-orders.orders.items) opens c.in_ok-orders.ensures.reads closes)

pub order-returns-then-ne-2 : goal.order-returns-then-ne-2
order-returns-then-ne-2 t c =
    let source = c.args.source.now in
    let opens : first_word (lexemes_from source c.args.from) ≡ LBracket = search rules in
    let isnt : first_word (lexemes_from source c.in_ok-orders-2.end) ≡ RBracket → ⊥ = search rules in
    no_bracket_end (lexemes source.text.now source.tokens.now) (lexemes_from source c.in_ok-orders-2.end) c.args.from (orders_in c.in_ok-orders-2.orders.items) opens c.in_ok-orders-2.ensures.reads c.in_ok-orders-2.ensures.stops isnt

pub order-returns-then-eq-3 : goal.order-returns-then-eq-3
order-returns-then-eq-3 t c =
    let source = c.args.source.now in
    let opens : first_word (lexemes_from source c.args.from) ≡ LBracket = search rules in
    let closes : first_word (lexemes_from source c.in_ok-orders-2.end) ≡ RBracket = search rules in
    subst (λ (o : Order). TakesOrder (lexemes_from source c.args.from) o (lexemes_from source (c.in_ok-orders-2.end + 1))) (sym (order_of-Simul c.in_ok-orders-2.orders))
    (bracket_order (lexemes source.text.now source.tokens.now) c.args.from c.in_ok-orders-2.end (orders_in c.in_ok-orders-2.orders.items) opens c.in_ok-orders-2.ensures.reads closes)
