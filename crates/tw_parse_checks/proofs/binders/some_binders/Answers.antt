use Rattle.std.proofs.Common.{◌≡◌, true, false, rules}
use Rattle.tw_parse_checks.proofs.SomePart.{all_some, all_some_faults, nothing_some}
use Rattle.tw_parse_checks.proofs.Forms.{it_fails, it_holds}
use Rattle.tw_parse_checks.proofs.binders.some_binders.Goals as goal

pub returns-then-not-says-clause-reads : goal.returns-then-not-says-clause-reads
returns-then-not-says-clause-reads c =
    let isnt : c.says.result ≡ false = search rules in
    nothing_some c.args.source.now c.args.from _ (it_fails c.says.result _ _ isnt c.says.ensures.says) c.new.ensures.items c.new-then-not-says.ensures.items

pub returns-clause-reads : goal.returns-clause-reads
returns-clause-reads c =
    let says : c.says.result ≡ true = search rules in
    all_some c.args.source.now c.args.from c.binders.result (it_holds c.says.result _ _ says c.says.ensures.says) c.binders.ensures.reads c.binders.ensures.stops

pub returns-clause-fault : goal.returns-clause-fault
returns-clause-fault c =
    let says : c.says.result ≡ true = search rules in
    all_some_faults c.args.source.now c.args.from c.binders.result (it_holds c.says.result _ _ says c.says.ensures.says) c.binders.ensures.fault
