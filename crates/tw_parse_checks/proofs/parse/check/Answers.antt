use Rattle.std.proofs.Common.{◌≡◌, Some, rules}
use Rattle.tw_parse.specs.Sources.{lexemes_from}
use Rattle.tw_parse.specs.Words.{first_bytes}
use Rattle.tw_parse_checks.specs.Marks.{form_of}
use Rattle.tw_parse_checks.proofs.Keywords.{all_read, all_fault}
use Rattle.tw_parse_checks.proofs.parse.check.Goals as goal

pub returns-clause-reads : goal.returns-clause-reads
returns-clause-reads c =
    let source = c.args.source.now in
    let is : form_of (first_bytes (lexemes_from source 0)) ≡ Some c.in-Some.form = search rules in
    all_read source c.in-Some.form c.behind.result c.requires.keyword is c.behind.ensures.reads

pub returns-clause-fault : goal.returns-clause-fault
returns-clause-fault c =
    let source = c.args.source.now in
    let is : form_of (first_bytes (lexemes_from source 0)) ≡ Some c.in-Some.form = search rules in
    all_fault source c.in-Some.form c.behind.result c.requires.keyword is c.behind.ensures.fault
