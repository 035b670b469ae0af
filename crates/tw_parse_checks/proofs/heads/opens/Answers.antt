use Rattle.std.proofs.Common.{◌≡◌, ◌+◌, true, false, rules}
use Rattle.tw_parse.specs.Sources.{lexemes_from}
use Rattle.tw_parse.specs.Words.{lexemes, first_word, is_bindable}
use Rattle.tw_parse.specs.declared.words.Word.TheVariants.{LBrace, Colon}
use Rattle.tw_parse_checks.proofs.Leads.{no_name_opening, no_colon_opening, opening_here}
use Rattle.tw_parse_checks.proofs.heads.opens.Goals as goal

pub returns-then-not-is_bindable-clause-opens : goal.returns-then-not-is_bindable-clause-opens
returns-then-not-is_bindable-clause-opens c =
    let source = c.args.source.now in
    let n = c.args.number in
    let isnt : is_bindable (first_word (lexemes_from source (n + 1))) ≡ false = search rules in
    no_name_opening (lexemes source.text.now source.tokens.now) n isnt

pub returns-then-ne-2-clause-opens : goal.returns-then-ne-2-clause-opens
returns-then-ne-2-clause-opens c =
    let source = c.args.source.now in
    let n = c.args.number in
    let isnt : first_word (lexemes_from source (n + 2)) ≡ Colon → ⊥ = search rules in
    no_colon_opening (lexemes source.text.now source.tokens.now) n isnt

pub returns-clause-opens : goal.returns-clause-opens
returns-clause-opens c =
    let source = c.args.source.now in
    let n = c.args.number in
    let opens : first_word (lexemes_from source n) ≡ LBrace = search rules in
    let binds : is_bindable (first_word (lexemes_from source (n + 1))) ≡ true = search rules in
    let colons : first_word (lexemes_from source (n + 2)) ≡ Colon = search rules in
    opening_here source.end (lexemes source.text.now source.tokens.now) n opens binds colons
