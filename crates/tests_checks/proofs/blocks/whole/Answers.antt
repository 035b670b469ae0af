use Rattle.std.proofs.Common.{◌≡◌, ◌-◌, ◌∙◌, ap, arith, drop, suc}
use Rattle.lf.specs.Variables.{onto}
use Rattle.tests_checks.proofs.Members.{entry_before, none_before}
use Rattle.tests_checks.proofs.blocks.whole.Goals as goal

pub loop-left-preserved : goal.loop-left-preserved
loop-left-preserved c =
    let n = c.loop-left.left - 1 in
    let q : c.loop-left.left ≡ suc n = omega arith in
    record {
      so_far = entry_before c.args.block.now.entries c.args.block.now.some n c.loop-left.context c.push_entry.new.context (omega arith) (c.loop-left.invariant.so_far ∙ ap (λ k. onto (drop k c.args.block.now.entries) c.args.block.now.some) q) c.in_ok-push_entry.ensures;
      within = omega arith;
    }
