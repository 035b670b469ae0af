use Rattle.std.proofs.Common.{◌≡◌, ◌-◌, ◌∙◌, arith, sym}
use Rattle.std.proofs.lemmas.Bool.Decides.{nat_tests}
use Rattle.std.specs.Prelude.{nat_lt}
use Rattle.lf.specs.Variables.{nothing}
use Rattle.tw_order.specs.Scopes.{newest_and, past}
use Rattle.tw_order.proofs.Newest.{newest_in, newest_none, parameter_next, parameter_past}
use Rattle.tw_order.proofs.scope.is_parameter.Goals as goal

pub returns-then-variable-scope : goal.returns-then-variable-scope
returns-then-variable-scope c = let s = c.args.scope.now in sym (newest_in s.locals c.args.variable (past s.own (newest_and s.entries nothing)) c.if-variable-scope.true)

pub returns-then-outside-scope : goal.returns-then-outside-scope
returns-then-outside-scope c = let s = c.args.scope.now in sym (parameter_next s.locals s.own s.entries c.args.variable c.if-variable-scope.false (omega arith))

pub returns : goal.returns
returns c =
    let s = c.args.scope.now in
    let k = c.args.variable - s.locals - s.own in
    let t : nat_lt k s.entries ≡ newest_and s.entries nothing k = grind (arith, nat_tests, newest_in s.entries k nothing, newest_none s.entries k) in
    t ∙ sym (parameter_past s.locals s.own s.entries c.args.variable k (omega arith))
