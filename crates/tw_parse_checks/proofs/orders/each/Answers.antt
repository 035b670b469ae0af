use Rattle.std.proofs.Common.{◌≡◌, ◌+◌, sym, subst, rules}
use Rattle.tw_parse.specs.Sources.{lexemes_from}
use Rattle.tw_parse.specs.Words.{lexemes, first_word}
use Rattle.tw_parse.specs.declared.words.Word.TheVariants.{RParen}
use Rattle.tw_parse_checks.specs.Checks.{Order}
use Rattle.tw_parse_checks.specs.Shapes.{TakesOrder}
use Rattle.tw_parse_checks.proofs.OrderTokens.{no_paren_end, paren_order}
use Rattle.tw_parse_checks.proofs.OrderViews.{order_of-Each}
use Rattle.tw_parse_checks.proofs.orders.each.Goals as goal

pub returns-then-ne : goal.returns-then-ne
returns-then-ne c =
    let source = c.args.source.now in
    let isnt : first_word (lexemes_from source c.in_ok-names.end) ≡ RParen → ⊥ = search rules in
    no_paren_end (lexemes source.text.now source.tokens.now) (lexemes_from source c.in_ok-names.end) c.args.from c.in_ok-names.names.items c.requires c.in_ok-names.ensures.reads c.in_ok-names.ensures.stops isnt

pub returns : goal.returns
returns c =
    let source = c.args.source.now in
    let is : first_word (lexemes_from source c.in_ok-names.end) ≡ RParen = search rules in
    subst (λ (o : Order). TakesOrder (lexemes_from source c.args.from) o (lexemes_from source (c.in_ok-names.end + 1))) (sym (order_of-Each c.in_ok-names.names))
    (paren_order (lexemes source.text.now source.tokens.now) c.args.from c.in_ok-names.end c.in_ok-names.names.items c.requires c.in_ok-names.ensures.reads is)
