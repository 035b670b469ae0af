use Rattle.std.proofs.Common.{◌≡◌, ◌+◌, rules}
use Rattle.tw_parse.specs.Sources.{lexemes_from}
use Rattle.tw_parse.specs.Words.{lexemes, first_word}
use Rattle.tw_parse.specs.declared.words.Word.TheVariants.{Name, Colon}
use Rattle.tw_parse_checks.proofs.Leads.{no_colon_label, label_here}
use Rattle.tw_parse_checks.proofs.heads.is_label.Goals as goal

pub returns-then-ne-2-clause-labels : goal.returns-then-ne-2-clause-labels
returns-then-ne-2-clause-labels c =
    let source = c.args.source.now in
    let n = c.args.number in
    let isnt : first_word (lexemes_from source (n + 1)) ≡ Colon → ⊥ = search rules in
    no_colon_label (lexemes source.text.now source.tokens.now) n isnt

pub returns-clause-labels : goal.returns-clause-labels
returns-clause-labels c =
    let source = c.args.source.now in
    let n = c.args.number in
    let is : first_word (lexemes_from source n) ≡ Name = search rules in
    let colons : first_word (lexemes_from source (n + 1)) ≡ Colon = search rules in
    label_here source.end (lexemes source.text.now source.tokens.now) n is colons
