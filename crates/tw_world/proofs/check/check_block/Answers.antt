use Rattle.std.proofs.Common.{◌≡◌, ◌-◌, ◌∙◌, Err, ap, arith, drop, rules, subst, suc, sym, zero}
use Rattle.lf.specs.Variables.{onto}
use Rattle.lf_checks.specs.Clauses.{entry_clauses}
use Rattle.lf_checks.specs.Faults.{AllPass}
use Rattle.tw_clause.specs.View.{block_of}
use Rattle.tw_world.specs.Checks.{Checked, ClausePasses}
use Rattle.tw_world.proofs.Checked.{entry_ends, entry_passes}
use Rattle.tw_world.proofs.check.check_block.Goals as goal

pub returns-in_err-check_entry : goal.returns-in_err-check_entry
returns-in_err-check_entry c =
    let x = c.args.check.now in
    let B = block_of c.args.block.now in
    let a = c.args.family.0 in
    let n = c.loop-newer.newer - 1 in
    let q : c.loop-newer.newer ≡ suc n = omega arith in
    let f = c.in_err-check_entry.field-0.0 in
    let e : c.from_residual-in_err-check_entry.result ≡ Err f = search rules in
    subst (Checked x (entry_clauses B a B.entries)) (sym e) (entry_ends B a x n f (omega arith) (subst (λ k. AllPass (ClausePasses x) (entry_clauses B a (drop k B.entries))) q c.loop-newer.invariant.passed) c.in_err-check_entry.ensures)

pub loop-newer-preserved : goal.loop-newer-preserved
loop-newer-preserved c =
    let x = c.args.check.now in
    let B = block_of c.args.block.now in
    let a = c.args.family.0 in
    let n = c.loop-newer.newer - 1 in
    let q : c.loop-newer.newer ≡ suc n = omega arith in
    record {
      outer = c.in_ok-push_type.ensures B.some (omega arith) (c.loop-newer.invariant.outer ∙ ap (λ k. onto (drop k B.entries) B.some) q);
      within = omega arith;
      passed = entry_passes B a x n tt (omega arith) (subst (λ k. AllPass (ClausePasses x) (entry_clauses B a (drop k B.entries))) q c.loop-newer.invariant.passed) c.in_ok-check_entry.ensures;
    }

pub returns : goal.returns
returns c =
    let B = block_of c.args.block.now in
    let q : c.loop-newer.newer ≡ zero = omega arith in
    subst (λ k. AllPass (ClausePasses c.args.check.now) (entry_clauses B c.args.family.0 (drop k B.entries))) q c.loop-newer.invariant.passed
