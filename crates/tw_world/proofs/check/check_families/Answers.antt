use Rattle.std.proofs.Common.{◌≡◌, Err, arith, rules}
use Rattle.tw_clause.specs.View.{worlds_of}
use Rattle.tw_world.proofs.Checked.{families_listed, families_next, family_alone, loop_ends, loop_goes_on}
use Rattle.tw_world.proofs.check.check_families.Goals as goal

pub returns-in_err-check_family : goal.returns-in_err-check_family
returns-in_err-check_family c =
    let x = c.args.check.now in
    let W = worlds_of x.worlds.now in
    let f = c.in_err-check_family.field-0.0 in
    let e : c.from_residual.result ≡ Err f = search rules in
    loop_ends x (family_alone x.sig.now W) (families_listed x.sig.now W) (families_next x.sig.now W) c.args.families.now c.loop-family.family-index _ f c.from_residual.result (omega arith) e c.loop-family.invariant c.in_err-check_family.ensures

pub loop-family-preserved : goal.loop-family-preserved
loop-family-preserved c =
    let x = c.args.check.now in
    let W = worlds_of x.worlds.now in
    loop_goes_on x (family_alone x.sig.now W) (families_listed x.sig.now W) (families_next x.sig.now W) c.args.families.now c.loop-family.family-index _ (omega arith) c.loop-family.invariant c.in_ok-check_family.ensures
