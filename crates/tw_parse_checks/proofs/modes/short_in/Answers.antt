use Rattle.std.proofs.Common.{◌≡◌, true, false, rules}
use Rattle.tw_parse_checks.proofs.Forms.{it_fails, it_holds, it_is_none, it_is_some, short_reads, short_without_end, short_without_family}
use Rattle.tw_parse_checks.proofs.modes.short_in.Goals as goal

pub returns-in_default-clause-fault : goal.returns-in_default-clause-fault
returns-in_default-clause-fault c =
    let source = c.args.source.now in
    short_without_family source c.args.parens c.place.result c.requires.no_head c.requires.parens (it_is_none c.in_ok-found.field-0 _ _ c.in_default.is c.in_ok-found.ensures) c.place.ensures

pub returns-then-not-closes-clause-fault : goal.returns-then-not-closes-clause-fault
returns-then-not-closes-clause-fault c =
    let source = c.args.source.now in
    let found = c.in-Some.found in
    let fails : c.closes.result ≡ false = search rules in
    short_without_end source c.args.parens found.0 found.1 c.in_ok-marks.end c.in_ok-marks.marks.items c.place-then-not-closes.result c.requires.no_head (it_is_some c.in_ok-found.field-0 found _ _ c.in-Some.is c.in_ok-found.ensures)
    c.in_ok-marks.ensures.reads c.in_ok-marks.ensures.stops (it_fails c.closes.result _ _ fails c.closes.ensures) c.place-then-not-closes.ensures

pub returns-clause-reads : goal.returns-clause-reads
returns-clause-reads c =
    let source = c.args.source.now in
    let found = c.in-Some.found in
    let holds : c.closes.result ≡ true = search rules in
    short_reads source c.args.parens found.0 found.1 c.in_ok-marks.end c.in_ok-marks.marks.items (it_is_some c.in_ok-found.field-0 found _ _ c.in-Some.is c.in_ok-found.ensures) c.in_ok-marks.ensures.reads
    (it_holds c.closes.result _ _ holds c.closes.ensures)
