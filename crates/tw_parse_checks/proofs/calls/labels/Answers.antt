use Rattle.std.proofs.Common.{◌≡◌, ◌+◌, List, true, false, sym, subst, rules}
use Rattle.tw_parse.specs.Keywords.{is_identifier}
use Rattle.tw_parse.specs.Sources.{lexemes_from}
use Rattle.tw_parse.specs.Words.{lexemes, first_word}
use Rattle.tw_parse.specs.declared.decl.ExtName.{ExtName}
use Rattle.tw_parse.specs.declared.words.Word.TheVariants.{LParen, RParen}
use Rattle.tw_parse_checks.specs.Shapes.{TakesLabels}
use Rattle.tw_parse_checks.proofs.CallTokens.{labels_here, no_closer, no_paren, no_second, none_here}
use Rattle.tw_parse_checks.proofs.calls.labels.Goals as goal

pub returns-then-ne : goal.returns-then-ne
returns-then-ne c =
    let source = c.args.source.now in
    let isnt : first_word (lexemes_from source c.args.from) ≡ LParen → ⊥ = search rules in
    no_paren (lexemes_from source c.args.from) isnt

pub returns-then-eq : goal.returns-then-eq
returns-then-eq c =
    let source = c.args.source.now in
    let opens : first_word (lexemes_from source c.args.from) ≡ LParen = search rules in
    let closes : first_word (lexemes_from source (c.args.from + 1)) ≡ RParen = search rules in
    subst (λ (ls : List ExtName). TakesLabels (lexemes_from source c.args.from) ls (lexemes_from source (c.args.from + 2))) (sym c.new.ensures.items) (none_here (lexemes source.text.now source.tokens.now) c.args.from opens closes)

pub returns-then-not-is_identifier : goal.returns-then-not-is_identifier
returns-then-not-is_identifier c =
    let source = c.args.source.now in
    let opened : first_word (lexemes_from source (c.args.from + 1)) ≡ RParen → ⊥ = search rules in
    let isnt : is_identifier (first_word (lexemes_from source (c.args.from + 1))) ≡ false = search rules in
    no_second (lexemes source.text.now source.tokens.now) c.args.from opened isnt

pub returns-then-ne-2 : goal.returns-then-ne-2
returns-then-ne-2 c =
    let source = c.args.source.now in
    let opened : first_word (lexemes_from source (c.args.from + 1)) ≡ RParen → ⊥ = search rules in
    let isnt : first_word (lexemes_from source c.in_ok-labels.end) ≡ RParen → ⊥ = search rules in
    no_closer (lexemes source.text.now source.tokens.now) c.args.from c.in_ok-labels.end c.in_ok-first.first c.in_ok-labels.labels.items opened c.in_ok-labels.ensures.reads c.in_ok-labels.ensures.stops isnt

pub returns : goal.returns
returns c =
    let source = c.args.source.now in
    let opens : first_word (lexemes_from source c.args.from) ≡ LParen = search rules in
    let is : is_identifier (first_word (lexemes_from source (c.args.from + 1))) ≡ true = search rules in
    let closes : first_word (lexemes_from source c.in_ok-labels.end) ≡ RParen = search rules in
    labels_here source.end (lexemes source.text.now source.tokens.now) c.args.from c.in_ok-labels.end c.in_ok-first.first c.in_ok-labels.labels.items opens is c.in_ok-first.ensures.0 c.in_ok-first.ensures.1 c.in_ok-labels.ensures.reads closes
