use Rattle.std.proofs.Common.{◌≡◌, List, true, subst, sym, rules}
use Rattle.tw_parse.specs.Sources.{lexemes_from}
use Rattle.tw_parse.specs.Words.{Lexeme, lexemes, first_word, first_bytes}
use Rattle.tw_parse.specs.declared.decl.ExtName.{ExtName}
use Rattle.tw_parse_checks.specs.Shapes.{Row, no_more, TakesVariable, is_variable}
use Rattle.tw_parse_checks.proofs.Tokens.{one_more_variable}
use Rattle.tw_parse_checks.proofs.calls.variables.Goals as goal

pub names-init : goal.names-init
names-init c =
    let P : List ExtName → Type 0 = λ ns. Row TakesVariable (lexemes_from c.args.source.now c.args.from) ns (lexemes_from c.args.source.now c.args.from) in
    subst P (sym c.new-names.ensures.items) no_more

pub names-preserved : goal.names-preserved
names-preserved c =
    let source = c.args.source.now in
    let xs : List Lexeme = lexemes source.text.now source.tokens.now in
    let is : is_variable (first_word (lexemes_from source c.names.upto)) (first_bytes (lexemes_from source c.names.upto)) ≡ true = search rules in
    one_more_variable source.end xs c.args.from c.names.upto c.names.names.items c.push.new.self.items c.in_ok-name.name c.names.invariant is c.in_ok-name.ensures.0 c.in_ok-name.ensures.1 c.in_ok-push.ensures.items
