use Rattle.std.proofs.Common.{◌≡◌, List, sym, ap, subst, ◌∙◌, rules}
use Rattle.std.specs.Option.{option_map}
use Rattle.std.proofs.lemmas.Result.{err_from_is_err_and}
use Rattle.tw_parse.specs.Queries.{AskingFaultOf, query_of}
use Rattle.tw_parse.specs.Faults.{Ends}
use Rattle.tw_parse.specs.Sources.{lexemes_from}
use Rattle.tw_parse.specs.Telling.{Tells}
use Rattle.tw_parse.specs.View.{term_of}
use Rattle.tw_parse.specs.Words.{Lexeme, lexemes, first_word}
use Rattle.tw_parse.specs.declared.words.Word.TheVariants.{Dot}
use Rattle.tw_parse.proofs.Asking.{asking_stops, stops_behind_goal}
use Rattle.tw_parse.proofs.Drafts.{ends}
use Rattle.tw_parse.proofs.Stopping.{exits}
use Rattle.tw_parse.proofs.query.read_query.Goals as goal

pub returns-in_err-part-clause-fault : goal.returns-in_err-part-clause-fault
returns-in_err-part-clause-fault c =
    let source = c.args.source.now in
    let p = err_from_is_err_and c.from_residual.result c.from_residual.ensures.1 in
    let f = c.in_err-part.field-0.0 in
    exits c.from_residual.result p.0 f (AskingFaultOf source) p.1 p.2 (asking_stops source c.goal_start.result f c.goal_start.ensures c.in_err-part.ensures.fault)

pub returns-then-ne-clause-fault : goal.returns-then-ne-clause-fault
returns-then-ne-clause-fault c =
    let source = c.args.source.now in
    let end = c.in_ok-part.end in
    let read = c.in_ok-part.ensures.reads in
    let isnt : first_word (lexemes_from source end) ≡ Dot → ⊥ = search rules in
    stops_behind_goal source.fixities.now source.end c.place.result (lexemes_from source 0) (lexemes_from source c.goal_start.result) (lexemes_from source end) read.0 c.goal_start.ensures read.1 c.in_ok-part.ensures.stops isnt c.place.ensures

pub returns-in-AtFault-clause-fault : goal.returns-in-AtFault-clause-fault
returns-in-AtFault-clause-fault c =
    let source = c.args.source.now in
    let xs : List Lexeme = lexemes source.text.now source.tokens.now in
    let from = c.goal_start.result in
    let end = c.in_ok-part.end in
    let dots : first_word (lexemes_from source end) ≡ Dot = search rules in
    let read = c.in_ok-part.ensures.reads in
    let P : List Lexeme → Type 0 = λ ts. Ends source.fixities.now ts read.0 in
    (read.0, subst P c.goal_start.ensures (ends source.fixities.now xs (lexemes_from source from) end read.0 dots (c.requires.dot end dots) read.1), subst (Tells read.0) c.in-AtFault.is read.2)

pub returns-in-Some-clause-reads : goal.returns-in-Some-clause-reads
returns-in-Some-clause-reads c =
    let source = c.args.source.now in
    let xs : List Lexeme = lexemes source.text.now source.tokens.now in
    let from = c.goal_start.result in
    let end = c.in_ok-part.end in
    let dots : first_word (lexemes_from source end) ≡ Dot = search rules in
    let read = c.in_ok-part.ensures.reads in
    let P : List Lexeme → Type 0 = λ ts. Ends source.fixities.now ts read.0 in (
      read.0,
      subst P c.goal_start.ensures (ends source.fixities.now xs (lexemes_from source from) end read.0 dots (c.requires.dot end dots) read.1),
      (term_of c.in-Term.goal, subst (Tells read.0) c.in-Term.is read.2, sym c.in_ok-query-in-Term.ensures ∙ ap (option_map query_of) c.in-Some.is),
    )

pub returns-in-None-clause-fault : goal.returns-in-None-clause-fault
returns-in-None-clause-fault c =
    let source = c.args.source.now in
    let xs : List Lexeme = lexemes source.text.now source.tokens.now in
    let from = c.goal_start.result in
    let end = c.in_ok-part.end in
    let dots : first_word (lexemes_from source end) ≡ Dot = search rules in
    let read = c.in_ok-part.ensures.reads in
    let P : List Lexeme → Type 0 = λ ts. Ends source.fixities.now ts read.0 in (
      c.place-in-None.ensures,
      (
        read.0,
        subst P c.goal_start.ensures (ends source.fixities.now xs (lexemes_from source from) end read.0 dots (c.requires.dot end dots) read.1),
        (term_of c.in-Term.goal, subst (Tells read.0) c.in-Term.is read.2, sym c.in_ok-query-in-Term.ensures ∙ ap (option_map query_of) c.in-None.is),
      ),
    )
