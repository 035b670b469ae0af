use Rattle.std.proofs.Common.{◌≡◌, List, IfErr, drop, sym, ap, subst, ◌∙◌}
use Rattle.std.proofs.lemmas.List.{drop-map}
use Rattle.tw_parse.specs.Queries.{AskingFault}
use Rattle.tw_parse.specs.Words.{Lexeme, lexeme, lexemes}
use Rattle.tw_parse_queries.proofs.parse.question.Goals as goal

pub returns-clause-fault : goal.returns-clause-fault
returns-clause-fault c =
    let source = c.args.source.now in
    let text = source.text.now in
    let same : lexemes text c.behind.result.now ≡ drop 3 (lexemes text source.tokens.now) = ap (lexemes text) c.behind.ensures ∙ sym (drop-map (lexeme text) 3 source.tokens.now) in
    let P : List Lexeme → Type 0 = λ ts. IfErr c.read_query.result (AskingFault source.fixities.now source.end ts) in
    subst P same c.read_query.ensures.fault
