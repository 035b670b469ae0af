use Rattle.std.proofs.Common.{◌≡◌, Err, arith, rules}
use Rattle.lf.specs.Entries.{signature_of}
use Rattle.tw_world.proofs.Checked.{constant_alone, constants_listed, constants_next, loop_ends, loop_goes_on}
use Rattle.tw_world.proofs.check.check_constants.Goals as goal

pub returns-in_err-check_constant : goal.returns-in_err-check_constant
returns-in_err-check_constant c =
    let x = c.args.check.now in
    let Σ = signature_of x.sig.now in
    let f = c.in_err-check_constant.field-0.0 in
    let e : c.from_residual.result ≡ Err f = search rules in
    loop_ends x (constant_alone Σ) (constants_listed Σ) (constants_next Σ) c.args.ids.now c.loop-id.id-index _ f c.from_residual.result (omega arith) e c.loop-id.invariant c.in_err-check_constant.ensures

pub loop-id-preserved : goal.loop-id-preserved
loop-id-preserved c =
    let x = c.args.check.now in
    let Σ = signature_of x.sig.now in
    loop_goes_on x (constant_alone Σ) (constants_listed Σ) (constants_next Σ) c.args.ids.now c.loop-id.id-index _ (omega arith) c.loop-id.invariant c.in_ok-check_constant.ensures
