use Rattle.std.proofs.Common.{◌∙◌, ◌-◌, ap, ap₂, false, length, refl}
use Rattle.lf.specs.Variables.{nothing, target, target_arguments}
use Rattle.lf_checks.specs.Marks.{input_places}
use Rattle.lf_checks.specs.Strict.{strict_at}
use Rattle.tw_signature.specs.Marks.{marked}
use Rattle.tw_terms.specs.View.{type_of}
use Rattle.tw_mode.specs.Rows.{marks_in}
use Rattle.tw_mode.specs.Scopes.{in_marks}
use Rattle.tw_mode.specs.Solved.{with_hidden}
use Rattle.tw_mode.proofs.Walking.{head_first}
use Rattle.tw_mode.proofs.clause.begin.Goals as goal

pub returns : goal.returns
returns c = λ C.
    let T = type_of c.args.ty.now in
    let o = c.args.outside.now in
    let D = c.args.scope.now.depth in
    let m = marks_in c.args.table.now in
    let h =
    c.in_ok-ground.ensures.marks
    ∙ ap₂ (λ a S. marked D (λ i. strict_at (input_places (m a)) nothing (in_marks false D c.args.scope.now.fixed.now) i S) (with_hidden o.ground.now (D - length o.ground.now))) c.target.ensures c.target_spine.ensures
    ∙ ap (λ fs. marked D (λ i. strict_at (input_places (m (target T))) nothing (in_marks false D fs) i (target_arguments T)) (with_hidden o.ground.now (D - length o.ground.now))) c.requires.same in
    record {
      ground = head_first m C T o.depth D o.fixed.now o.ground.now c.in_ok-ground.ground.items c.requires.outside c.requires.ground c.requires.depth h;
      excuses = c.in_ok-excused.ensures.excuses C (in_marks false o.depth o.fixed.now);
      met = refl;
      each_ground = c.in_ok-ground.ensures.len;
      each_excused = c.in_ok-excused.ensures.len;
    }
