use Rattle.std.proofs.Common.{◌≡◌, List, rules}
use Rattle.tw_parse.specs.Sources.{lexemes_from}
use Rattle.tw_parse.specs.Words.{Lexeme, lexemes, first_word}
use Rattle.tw_parse.specs.declared.words.Word.TheVariants.{Dot}
use Rattle.tw_parse.proofs.Drafts.{ends}
use Rattle.std.proofs.lemmas.Result.{err_from_is_err_and}
use Rattle.tw_parse.specs.Faults.{FaultOf}
use Rattle.tw_parse.specs.Spots.{by_dot}
use Rattle.tw_parse.proofs.Stopping.{exits, due_stops, stops_behind, no_dot}
use Rattle.tw_parse.proofs.parse.last_sequence.Goals as goal

pub returns-clause-reads : goal.returns-clause-reads
returns-clause-reads c =
    let source = c.args.source.now in
    let xs : List Lexeme = lexemes source.text.now source.tokens.now in
    let end = c.in_ok-part.end in
    let dots : first_word (lexemes_from source end) ≡ Dot = search rules in
    let read = c.in_ok-part.ensures.reads in
    (read.0, ends source.fixities.now xs (lexemes_from source c.args.from) end read.0 dots (c.requires.dot end dots) read.1, read.2)

pub returns-in_err-part-clause-fault : goal.returns-in_err-part-clause-fault
returns-in_err-part-clause-fault c =
    let source = c.args.source.now in
    let p = err_from_is_err_and c.from_residual.result c.from_residual.ensures.1 in
    let f = c.in_err-part.field-0.0 in
    exits c.from_residual.result p.0 f (FaultOf source) p.1 p.2 (due_stops source c.args.from by_dot f c.requires.due c.in_err-part.ensures.fault)

pub returns-then-ne-clause-fault : goal.returns-then-ne-clause-fault
returns-then-ne-clause-fault c =
    let source = c.args.source.now in
    let end = c.in_ok-part.end in
    let read = c.in_ok-part.ensures.reads in
    let isnt : first_word (lexemes_from source end) ≡ Dot → ⊥ = search rules in
    stops_behind source.fixities.now source.end c.place.result (lexemes_from source 0) (lexemes_from source c.args.from) (lexemes_from source end) by_dot read.0 c.requires.due read.1 c.in_ok-part.ensures.stops
    (no_dot (first_word (lexemes_from source end)) isnt) c.place.ensures
