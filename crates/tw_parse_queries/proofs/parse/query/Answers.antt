use Rattle.std.proofs.Common.{sym, subst}
use Rattle.tw_parse.specs.Sources.{lexemes_from}
use Rattle.tw_parse.specs.Words.{first_bytes}
use Rattle.tw_parse_queries.specs.Faults.{SearchFaultOf}
use Rattle.tw_parse_queries.proofs.Reading.{query_fault}
use Rattle.tw_parse_queries.proofs.parse.query.Goals as goal

pub returns-in-Err-clause-fault : goal.returns-in-Err-clause-fault
returns-in-Err-clause-fault c =
    let source = c.args.source.now in
    let stands = query_fault source.fixities.now source.end (lexemes_from source 0) (lexemes_from source 3) (first_bytes (lexemes_from source 1)) (first_bytes (lexemes_from source 2)) c.in-Err.fault c.requires.header c.in-Err.ensures.fault in
    subst (SearchFaultOf source) (sym c.of_declaration.ensures) stands
