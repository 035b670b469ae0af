use Rattle.std.proofs.Common.{arith}
use Rattle.std.proofs.lemmas.Bool.Decides.{nat_tests}
use Rattle.lf.specs.Variables.{nothing}
use Rattle.tw_order.proofs.Newest.{newest_in, newest_none}
use Rattle.tw_order.proofs.scope.is_local.Goals as goal

pub returns : goal.returns
returns c =
    let i = c.args.variable in
    let n = c.args.scope.now.locals in
    grind (arith, nat_tests, newest_in n i nothing, newest_none n i)
