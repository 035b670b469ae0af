use Rattle.std.proofs.Common.{◌≡◌, ◌+◌, true, false, rules}
use Rattle.tw_parse.specs.Sources.{lexemes_from}
use Rattle.tw_parse.specs.Words.{lexemes, first_word, is_bindable}
use Rattle.tw_parse.specs.declared.words.Word.TheVariants.{LBrace, RBrace}
use Rattle.tw_parse_checks.proofs.Leads.{bare_here, no_closer_bare, no_name_bare}
use Rattle.tw_parse_checks.proofs.binders.is_bare.Goals as goal

pub returns-then-not-is_bindable-clause-bare : goal.returns-then-not-is_bindable-clause-bare
returns-then-not-is_bindable-clause-bare c =
    let source = c.args.source.now in
    let n = c.args.number in
    let isnt : is_bindable (first_word (lexemes_from source (n + 1))) ≡ false = search rules in
    no_name_bare source.fixities.now (lexemes source.text.now source.tokens.now) n isnt

pub returns-then-ne-2-clause-bare : goal.returns-then-ne-2-clause-bare
returns-then-ne-2-clause-bare c =
    let source = c.args.source.now in
    let n = c.args.number in
    let isnt : first_word (lexemes_from source (n + 2)) ≡ RBrace → ⊥ = search rules in
    no_closer_bare source.fixities.now (lexemes source.text.now source.tokens.now) n isnt

pub returns-clause-bare : goal.returns-clause-bare
returns-clause-bare c =
    let source = c.args.source.now in
    let n = c.args.number in
    let opens : first_word (lexemes_from source n) ≡ LBrace = search rules in
    let binds : is_bindable (first_word (lexemes_from source (n + 1))) ≡ true = search rules in
    let closes : first_word (lexemes_from source (n + 2)) ≡ RBrace = search rules in
    bare_here source.fixities.now source.end (lexemes source.text.now source.tokens.now) n opens binds closes
