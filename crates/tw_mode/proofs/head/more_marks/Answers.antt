use Rattle.std.proofs.Common.{◌≡◌, ◌+◌, ◌∷◌, ◌∙◌, [], ap, arith, false, length}
use Rattle.std.proofs.lemmas.List.{length-append}
use Rattle.tw_mode.proofs.Steps.{hidden_step}
use Rattle.tw_mode.proofs.head.more_marks.Goals as goal

pub loop-marks-preserved : goal.loop-marks-preserved
loop-marks-preserved c =
    let longer : length c.push.new.self.items ≡ length c.loop-marks.marks.items + 1 = ap length c.in_ok-push.ensures.items ∙ length-append c.loop-marks.marks.items (false ∷ []) in
    record {
      so_far = hidden_step c.args.depth c.loop-marks.marks.items c.push.new.self.items (omega arith) c.in_ok-push.ensures.items ∙ c.loop-marks.invariant.so_far;
      within = omega (arith, longer);
    }
