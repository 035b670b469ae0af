use Rattle.std.proofs.Common.{◌≡◌, rules}
use Rattle.tw_parse.specs.Sources.{lexemes_from}
use Rattle.tw_parse.specs.Words.{lexemes, first_word}
use Rattle.tw_parse.specs.declared.words.Word.TheVariants.{RParen}
use Rattle.tw_parse_checks.proofs.CallTokens.{call_here, no_call_end, no_call_family}
use Rattle.tw_parse_checks.proofs.Forms.{it_is_none, it_is_some}
use Rattle.tw_parse_checks.proofs.calls.pattern.Goals as goal

pub returns-in_default : goal.returns-in_default
returns-in_default c = no_call_family (lexemes_from c.args.source.now c.args.from) (it_is_none c.in_ok-found.field-0 _ _ c.in_default.is c.in_ok-found.ensures)

pub returns-then-ne : goal.returns-then-ne
returns-then-ne c =
    let source = c.args.source.now in
    let found = c.in-Some.found in
    let isnt : first_word (lexemes_from source c.in_ok-names.end) ≡ RParen → ⊥ = search rules in
    no_call_end (lexemes_from source c.args.from) (lexemes_from source found.1) (lexemes_from source c.in_ok-names.end) found.0 c.in_ok-names.names.items (it_is_some c.in_ok-found.field-0 found _ _ c.in-Some.is c.in_ok-found.ensures) c.in_ok-names.ensures.reads
    c.in_ok-names.ensures.stops isnt

pub returns : goal.returns
returns c =
    let source = c.args.source.now in
    let found = c.in-Some.found in
    let is : first_word (lexemes_from source c.in_ok-names.end) ≡ RParen = search rules in
    call_here (lexemes source.text.now source.tokens.now) (lexemes_from source c.args.from) (lexemes_from source found.1) c.in_ok-names.end found.0 c.in_ok-names.names.items (it_is_some c.in_ok-found.field-0 found _ _ c.in-Some.is c.in_ok-found.ensures)
    c.in_ok-names.ensures.reads is
