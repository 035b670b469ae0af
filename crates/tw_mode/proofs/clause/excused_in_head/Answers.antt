use Rattle.std.proofs.Common.{◌≡◌, ◌++◌, ◌∙◌, ap, arith, drop, length, map, sym, take, true}
use Rattle.std.specs.Prelude.{not}
use Rattle.lf.specs.Variables.{target, target_arguments}
use Rattle.lf_checks.specs.Marks.{free_places}
use Rattle.lf_checks.specs.Modes.{occurs_at}
use Rattle.tw_signature.proofs.Marking.{marked_length}
use Rattle.tw_signature.specs.Marks.{marked}
use Rattle.tw_terms.specs.View.{type_of}
use Rattle.tw_terms.proofs.Args.{types}
use Rattle.tw_mode.specs.Rows.{marks_in}
use Rattle.tw_mode.specs.Scopes.{in_marks}
use Rattle.tw_mode.specs.Solved.{after_all}
use Rattle.tw_mode.proofs.Walking.{head_excuses, not_variables_count}
use Rattle.tw_mode.proofs.clause.excused_in_head.Goals as goal

pub mark_free_in_head-requires : goal.mark_free_in_head-requires
mark_free_in_head-requires c =
    let q = ap length c.deref_mut.ensures.value ∙ not_variables_count (type_of c.args.ty.now) c.args.outside c.args.shape.now c.in_ok-marks.marks.items c.requires.shape c.in_ok-marks.ensures in
    let d = c.requires.depth in
    omega (arith, q, d)

pub returns-clause-excuses : goal.returns-clause-excuses
returns-clause-excuses c = λ C F.
    let T = type_of c.args.ty.now in
    let p : take c.in_ok-marks.marks.len (c.mark_free_in_head.new.marks ++ drop (length c.mark_free_in_head.new.marks) c.in_ok-marks.marks.items) ≡ c.mark_free_in_head.new.marks = grind (arith, types) in
    ap (in_marks true c.args.depth) p
    ∙ head_excuses (marks_in c.args.table.now) C F T c.args.outside c.args.depth c.in_ok-marks.marks.items c.mark_free_in_head.new.marks c.requires.depth (c.in_ok-marks.ensures ∙ ap (λ bs. after_all c.args.outside (map not bs)) c.requires.shape) (c.in_ok-mark_free_in_head.ensures ∙ ap (marked c.args.depth (λ i. occurs_at (free_places (marks_in c.args.table.now (target T))) i (target_arguments T))) c.deref_mut.ensures.value)

pub returns-clause-len : goal.returns-clause-len
returns-clause-len c =
    let p : take c.in_ok-marks.marks.len (c.mark_free_in_head.new.marks ++ drop (length c.mark_free_in_head.new.marks) c.in_ok-marks.marks.items) ≡ c.mark_free_in_head.new.marks = grind (arith, types) in
    ap length (p ∙ c.in_ok-mark_free_in_head.ensures) ∙ marked_length _ _ _ ∙ ap length c.deref_mut.ensures.value ∙ not_variables_count (type_of c.args.ty.now) c.args.outside c.args.shape.now c.in_ok-marks.marks.items c.requires.shape c.in_ok-marks.ensures ∙ sym c.requires.depth
