use Rattle.std.proofs.Common.{map}
use Rattle.tw_parse.specs.Sources.{lexemes_from}
use Rattle.tw_parse_checks.specs.Checks.{call_of}
use Rattle.tw_parse_checks.proofs.Ends.{worlds_read, worlds_without_calls, worlds_without_labels}
use Rattle.tw_parse_checks.proofs.Forms.{it_is_none, it_is_some}
use Rattle.tw_parse_checks.proofs.parse.worlds.Goals as goal

pub returns-in_default-clause-fault : goal.returns-in_default-clause-fault
returns-in_default-clause-fault c = worlds_without_labels c.args.source.now c.place.result (it_is_none c.in_ok-found.field-0 _ _ c.in_default.is c.in_ok-found.ensures) c.place.ensures

pub returns-in_default-2-clause-fault : goal.returns-in_default-2-clause-fault
returns-in_default-2-clause-fault c =
    let source = c.args.source.now in
    let found = c.in-Some.found in
    worlds_without_calls source c.place-in_default-2.result found.0.items (lexemes_from source found.1) (it_is_some c.in_ok-found.field-0 found _ _ c.in-Some.is c.in_ok-found.ensures) (it_is_none c.in_ok-patterns.field-0 _ _ c.in_default-2.is c.in_ok-patterns.ensures)
    c.place-in_default-2.ensures

pub returns-clause-reads : goal.returns-clause-reads
returns-clause-reads c =
    let source = c.args.source.now in
    let found = c.in-Some.found in
    let patterns = c.in-Some-2.patterns in
    worlds_read source found.0.items (map call_of patterns.items) (lexemes_from source found.1) (it_is_some c.in_ok-found.field-0 found _ _ c.in-Some.is c.in_ok-found.ensures) (it_is_some c.in_ok-patterns.field-0 patterns _ _ c.in-Some-2.is c.in_ok-patterns.ensures)
