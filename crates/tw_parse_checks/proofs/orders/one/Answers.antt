use Rattle.std.proofs.Common.{◌≡◌, ◌+◌, List, [], ◌∷◌, ◌++◌, sym, ap, subst, ◌∙◌}
use Rattle.tw_parse.specs.Sources.{lexemes_from}
use Rattle.tw_parse.specs.Words.{lexemes}
use Rattle.tw_parse.specs.declared.decl.ExtName.{ExtName}
use Rattle.tw_parse_checks.specs.Checks.{Order, each, order_of}
use Rattle.tw_parse_checks.specs.Shapes.{TakesOrder, by_one}
use Rattle.tw_parse_checks.specs.declared.check.ExtOrder.{Each}
use Rattle.tw_parse_checks.proofs.OrderViews.{order_of-Each}
use Rattle.tw_parse_checks.proofs.Tokens.{variable_here}
use Rattle.tw_parse_checks.proofs.orders.one.Goals as goal

pub returns : goal.returns
returns c =
    let source = c.args.source.now in
    let x = c.in_ok-variable.variable in
    let items : c.push.new.self.items ≡ x ∷ [] = c.in_ok-push.ensures.items ∙ ap (λ (xs : List ExtName). xs ++ x ∷ []) c.new-names.ensures.items in
    let seen : order_of (Each c.push.new.self) ≡ each (x ∷ []) = order_of-Each c.push.new.self ∙ ap each items in
    subst (λ (o : Order). TakesOrder (lexemes_from source c.args.from) o (lexemes_from source (c.args.from + 1))) (sym seen)
    (by_one (variable_here source.end (lexemes source.text.now source.tokens.now) c.args.from x c.requires c.in_ok-variable.ensures.0 c.in_ok-variable.ensures.1))
