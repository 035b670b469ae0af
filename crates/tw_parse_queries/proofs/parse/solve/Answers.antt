use Rattle.std.proofs.Common.{◌≡◌, List, Some, sym, ap, subst, ◌∙◌, rules}
use Rattle.std.proofs.lemmas.Result.{err_from_is_err_and}
use Rattle.tw_parse.specs.Sources.{lexemes_from}
use Rattle.tw_parse.specs.Telling.{Tells}
use Rattle.tw_parse.specs.View.{term_of}
use Rattle.tw_parse.specs.Words.{Lexeme, lexemes, first_word, first_place}
use Rattle.tw_parse.specs.declared.words.Word.TheVariants.{Dot}
use Rattle.tw_parse.proofs.Drafts.{ends}
use Rattle.tw_parse.proofs.Stopping.{exits}
use Rattle.tw_parse_queries.specs.Faults.{SearchFaultOf, header_in}
use Rattle.tw_parse_queries.specs.Searches.{solve, wanted}
use Rattle.tw_parse_queries.specs.declared.keywords.Form.TheVariants.{Solve}
use Rattle.tw_parse_queries.proofs.Reading.{goal_fault}
use Rattle.tw_parse_queries.proofs.Stopping.{stops_behind_goal}
use Rattle.tw_parse_queries.proofs.parse.solve.Goals as goal

pub returns-in_err-part-clause-fault : goal.returns-in_err-part-clause-fault
returns-in_err-part-clause-fault c =
    let source = c.args.source.now in
    let p = err_from_is_err_and c.from_residual.result c.from_residual.ensures.1 in
    let f = c.in_err-part.field-0.0 in
    exits c.from_residual.result p.0 f (SearchFaultOf source) p.1 p.2 (goal_fault source f c.requires.header c.in_err-part.ensures.fault)

pub returns-then-ne-clause-fault : goal.returns-then-ne-clause-fault
returns-then-ne-clause-fault c =
    let source = c.args.source.now in
    let goal = lexemes_from source 3 in
    let end = c.in_ok-part.end in
    let read = c.in_ok-part.ensures.reads in
    let isnt : first_word (lexemes_from source end) ≡ Dot → ⊥ = search rules in
    let stops = stops_behind_goal source.fixities.now source.end c.place.result goal (lexemes_from source end) read.0 read.1 c.in_ok-part.ensures.stops isnt c.place.ensures in
    (header_in source Solve, goal, c.requires.header, stops)

pub returns-in-AtFault-clause-fault : goal.returns-in-AtFault-clause-fault
returns-in-AtFault-clause-fault c =
    let source = c.args.source.now in
    let xs : List Lexeme = lexemes source.text.now source.tokens.now in
    let goal = lexemes_from source 3 in
    let end = c.in_ok-part.end in
    let dots : first_word (lexemes_from source end) ≡ Dot = search rules in
    let read = c.in_ok-part.ensures.reads in
    let whole = ends source.fixities.now xs goal end read.0 dots (c.requires.dot end dots) read.1 in
    (header_in source Solve, goal, c.requires.header, (read.0, whole, subst (Tells read.0) c.in-AtFault.is read.2))

pub returns-in_ok-name-in-Term-clause-reads : goal.returns-in_ok-name-in-Term-clause-reads
returns-in_ok-name-in-Term-clause-reads c =
    let source = c.args.source.now in
    let xs : List Lexeme = lexemes source.text.now source.tokens.now in
    let goal = lexemes_from source 3 in
    let end = c.in_ok-part.end in
    let dots : first_word (lexemes_from source end) ≡ Dot = search rules in
    let read = c.in_ok-part.ensures.reads in
    let whole = ends source.fixities.now xs goal end read.0 dots (c.requires.dot end dots) read.1 in
    let A = term_of c.in-Term.goal in
    let name = c.in_ok-name-in-Term.name in
    let asks : wanted (header_in source Solve) goal A ≡ Some (solve name c.place-in-Term.result A) =
    ap (λ x. Some (solve x (first_place source.end (lexemes_from source 1)) A)) (sym c.in_ok-name-in-Term.ensures) ∙ ap (λ at. Some (solve name at A)) (sym c.place-in-Term.ensures) in
    (header_in source Solve, goal, c.requires.header, (read.0, whole, (A, subst (Tells read.0) c.in-Term.is read.2, asks)))
