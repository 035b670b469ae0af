use Rattle.std.proofs.Common.{◌≡◌, List, [], length, rules, ap}
use Rattle.tw_parse.specs.Sources.{lexemes_from}
use Rattle.tw_parse.specs.Words.{Lexeme, lexemes, first_word}
use Rattle.tw_parse.specs.declared.decl.ExtName.{ExtName}
use Rattle.tw_parse.specs.declared.words.Word.TheVariants.{Dot}
use Rattle.tw_parse.proofs.Drafts.{a_fixity}
use Rattle.tw_parse.proofs.Misfits.{NamesEnd, names_end}
use Rattle.tw_parse.proofs.parse.fixity.Goals.{then-is_empty-via-then-is_empty, then-is_empty-via-else-is_empty+then-ne}
use Rattle.tw_parse.proofs.parse.fixity.Goals as goal

pub returns-clause-reads : goal.returns-clause-reads
returns-clause-reads c =
    let source = c.args.source.now in
    let xs : List Lexeme = lexemes source.text.now source.tokens.now in
    let end = c.in_ok-names.end in
    let dots : first_word (lexemes_from source end) ≡ Dot = search rules in
    let some : c.in_ok-names.names.items ≡ [] → ⊥ = λ e. let none : length c.in_ok-names.names.items ≡ 0 = ap length e in search rules in
    a_fixity source.fixities.now xs c.in-Some.from end c.args.form c.in-Some.fix c.in_ok-names.names.items c.requires.form.0 c.requires.form.1 c.in-Some.ensures c.in_ok-names.ensures.between some dots (c.requires.dot end dots)

pub misfit-requires-then-is_empty-clause-shape : goal.misfit-requires-then-is_empty-clause-shape
misfit-requires-then-is_empty-clause-shape c = λ D shapes.
    let source = c.args.source.now in
    let names : List ExtName = c.in_ok-names.names.items in
    let row = c.in-Some.ensures in
    let between = c.in_ok-names.ensures.between in
    let ends : NamesEnd names (lexemes_from source c.in_ok-names.end) =
    names_end source.fixities.now c.args.form (lexemes_from source 0) c.in-Some.from c.in_ok-names.end c.in-Some.fix names c.requires.no_abbreviation c.requires.no_preference c.requires.form.0 c.requires.form.1 row.0 row.1 row.2 between.0 between.1 between.2
    c.in_ok-names.ensures.all D shapes in
    elim c.then-is_empty.branch [
      | then-is_empty-via-then-is_empty w ↦ let none : length names ≡ 0 = search rules in ends.some none
      | then-is_empty-via-else-is_empty+then-ne w ↦ let isnt : first_word (lexemes_from source c.in_ok-names.end) ≡ Dot → ⊥ = search rules in isnt ends.dot
    ]
