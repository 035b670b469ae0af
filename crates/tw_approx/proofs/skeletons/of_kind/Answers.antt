use Rattle.std.proofs.Common.{Some, None, sym, ◌∙◌, subst}
use Rattle.tw_approx.specs.Reading.{state_of, due_of, FamilyWithin, IsFamilyAscribed}
use Rattle.tw_approx.specs.declared.family.FamilyShape.TheVariants.{Known}
use Rattle.tw_shapes.specs.Shapes.{count_of}
use Rattle.tw_shapes.specs.View.{shape_of}
use Rattle.tw_approx.proofs.Known.{kind_reads, kind_refuses, all_unified, not_all_unified, none_due, some_due, unknown_type_reads, unknown_kind_reads}
use Rattle.tw_approx.proofs.skeletons.of_kind.Goals as goal

pub returns-then-branch : goal.returns-then-branch
returns-then-branch c =
    let s = state_of c.args.walk.now in
    let w = subst (FamilyWithin (count_of c.args.walk.now.shapes)) c.in-Known.is c.requires.family in
    subst (λ G. IsFamilyAscribed s (state_of record { scope = c.args.walk.now.scope; context = c.args.walk.now.context; shapes = c.unify_due.new.shapes; variables = c.args.walk.now.variables; omitted = c.args.walk.now.omitted }) G (due_of c.args.expected) (Some (Known c.in-Known.due c.in-Known.target))) (sym c.in-Known.is)
    (kind_reads s c.unify_due.new.shapes c.in-Known.due (due_of c.args.expected) c.in-Known.target c.requires.sound w.0 w.1 (all_unified c.args.walk.now.shapes c.unify_due.new.shapes (due_of c.in-Known.due) (due_of c.args.expected) c.in_ok-unify_due-in-Known.field-0 c.if-branch.true c.in_ok-unify_due-in-Known.ensures))

pub returns-in-Known : goal.returns-in-Known
returns-in-Known c =
    let s = state_of c.args.walk.now in
    subst (λ G. IsFamilyAscribed s s G (due_of c.args.expected) None) (sym c.in-Known.is)
    (kind_refuses s c.in-Known.due (due_of c.args.expected) c.in-Known.target (not_all_unified c.args.walk.now.shapes c.unify_due.new.shapes (due_of c.in-Known.due) (due_of c.args.expected) c.in_ok-unify_due-in-Known.field-0 c.if-branch.false c.in_ok-unify_due-in-Known.ensures))

pub returns-then-is_nothing : goal.returns-then-is_nothing
returns-then-is_nothing c =
    let s = state_of c.args.walk.now in
    let w = subst (FamilyWithin (count_of c.args.walk.now.shapes)) c.in-Unknown.is c.requires.family in
    subst (λ G. IsFamilyAscribed s s G (due_of c.args.expected) (Some (Known c.args.expected c.in-Unknown.target))) (sym c.in-Unknown.is)
    (unknown_type_reads s c.args.expected c.in-Unknown.target (none_due (due_of c.args.expected) (sym c.is_nothing.ensures ∙ c.if-is_nothing.true)) c.requires.sound w)

pub returns : goal.returns
returns c =
    let s = state_of c.args.walk.now in
    let t = state_of c.omit.new.self in
    let w = subst (FamilyWithin (count_of c.args.walk.now.shapes)) c.in-Unknown.is c.requires.family in
    let some = some_due (due_of c.args.expected) (sym c.is_nothing.ensures ∙ c.if-is_nothing.false) in
    subst (λ G. IsFamilyAscribed s t G (due_of c.args.expected) (Some (Known c.args.expected c.in-Unknown.target))) (sym c.in-Unknown.is)
    (unknown_kind_reads s t (shape_of c.in_ok-omit-in-Unknown.field-0) c.args.expected some.0 some.1 c.in-Unknown.target some.2 c.requires.expected w c.in_ok-omit-in-Unknown.ensures)
