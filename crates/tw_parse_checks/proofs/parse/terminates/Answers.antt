use Rattle.std.proofs.Common.{◌≡◌, map, true, false, rules}
use Rattle.tw_parse.specs.Sources.{lexemes_from}
use Rattle.tw_parse_checks.specs.Checks.{call_of, order_of}
use Rattle.tw_parse_checks.specs.Meanings.{fits}
use Rattle.tw_parse_checks.proofs.Ends.{terminates_reads, terminates_unfit, terminates_without_calls, terminates_without_order}
use Rattle.tw_parse_checks.proofs.Forms.{it_is_none, it_is_some}
use Rattle.tw_parse_checks.proofs.parse.terminates.Goals as goal

pub returns-in_default-clause-fault : goal.returns-in_default-clause-fault
returns-in_default-clause-fault c = terminates_without_order c.args.source.now c.place.result (it_is_none c.in_ok-found.field-0 _ _ c.in_default.is c.in_ok-found.ensures) c.place.ensures

pub returns-in_default-2-clause-fault : goal.returns-in_default-2-clause-fault
returns-in_default-2-clause-fault c =
    let source = c.args.source.now in
    let found = c.in-Some.found in
    terminates_without_calls source c.place-in_default-2.result (order_of found.0) (lexemes_from source found.1) (it_is_some c.in_ok-found.field-0 found _ _ c.in-Some.is c.in_ok-found.ensures)
    (it_is_none c.in_ok-patterns.field-0 _ _ c.in_default-2.is c.in_ok-patterns.ensures) c.place-in_default-2.ensures

pub returns-then-not-fits-clause-fault : goal.returns-then-not-fits-clause-fault
returns-then-not-fits-clause-fault c =
    let source = c.args.source.now in
    let found = c.in-Some.found in
    let patterns = c.in-Some-2.patterns in
    let unfit : fits (map call_of patterns.items) (order_of found.0) ≡ false = search rules in
    terminates_unfit source c.place-then-not-fits.result (order_of found.0) (map call_of patterns.items) (lexemes_from source found.1) (it_is_some c.in_ok-found.field-0 found _ _ c.in-Some.is c.in_ok-found.ensures)
    (it_is_some c.in_ok-patterns.field-0 patterns _ _ c.in-Some-2.is c.in_ok-patterns.ensures) unfit c.place-then-not-fits.ensures

pub returns-clause-reads : goal.returns-clause-reads
returns-clause-reads c =
    let source = c.args.source.now in
    let found = c.in-Some.found in
    let patterns = c.in-Some-2.patterns in
    let fit : fits (map call_of patterns.items) (order_of found.0) ≡ true = search rules in
    terminates_reads source (order_of found.0) (map call_of patterns.items) (lexemes_from source found.1) (it_is_some c.in_ok-found.field-0 found _ _ c.in-Some.is c.in_ok-found.ensures) (it_is_some c.in_ok-patterns.field-0 patterns _ _ c.in-Some-2.is c.in_ok-patterns.ensures)
    fit
