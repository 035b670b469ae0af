use Rattle.std.proofs.Common.{◌≡◌, List, true, drop, rules}
use Rattle.tw_parse.specs.Words.{Lexeme, lexemes, first_word, first_bytes}
use Rattle.tw_parse.specs.declared.words.Word.TheVariants.{Name, Colon}
use Rattle.tw_parse_queries.specs.Bounds.{is_bound}
use Rattle.tw_parse_queries.proofs.Headers.{by_second_bound, by_colon}
use Rattle.tw_parse_queries.proofs.parse.has_header.Goals as goal

pub returns-then-is_bound-clause-stands : goal.returns-then-is_bound-clause-stands
returns-then-is_bound-clause-stands c =
    let source = c.args.source.now in
    let xs : List Lexeme = lexemes source.text.now source.tokens.now in
    let first : is_bound (first_word (drop 1 xs)) (first_bytes (drop 1 xs)) ≡ true = search rules in
    let second : c.is_bound-then-is_bound.result ≡ is_bound (first_word (drop 2 xs)) (first_bytes (drop 2 xs)) = search rules in
    by_second_bound source c.args.form c.is_bound-then-is_bound.result c.in-Query.is c.requires first second

pub returns-then-eq-clause-stands : goal.returns-then-eq-clause-stands
returns-then-eq-clause-stands c =
    let source = c.args.source.now in
    let xs : List Lexeme = lexemes source.text.now source.tokens.now in
    let name : first_word (drop 1 xs) ≡ Name = search rules in
    let colon : c.eq-then-eq.result ≡ true → first_word (drop 2 xs) ≡ Colon = λ e. search rules in
    let other : first_word (drop 2 xs) ≡ Colon → c.eq-then-eq.result ≡ true = λ e. search rules in
    by_colon source c.args.form c.eq-then-eq.result c.in-Solve.is c.requires name colon other
