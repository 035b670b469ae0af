use Rattle.std.proofs.Common.{Some, sym, subst}
use Rattle.tw_approx.specs.Reading.{state_of, IsFamilyApplied, FamilyWithin}
use Rattle.tw_approx.specs.declared.family.FamilyShape.TheVariants.{Unknown}
use Rattle.tw_shapes.specs.Shapes.{count_of}
use Rattle.tw_shapes.specs.View.{shape_of}
use Rattle.tw_approx.proofs.Known.{unknown_argument_reads}
use Rattle.tw_approx.proofs.skeletons.on_argument.Goals as goal

pub returns-in_ok-omit-in-Unknown : goal.returns-in_ok-omit-in-Unknown
returns-in_ok-omit-in-Unknown c =
    let s = state_of c.args.walk.now in
    subst (λ G. IsFamilyApplied s (state_of c.omit.new.self) G (shape_of c.args.argument) (Some (Unknown c.in-Unknown.target))) (sym c.in-Unknown.is)
    (unknown_argument_reads s (state_of c.omit.new.self) (shape_of c.in_ok-omit-in-Unknown.field-0) (shape_of c.args.argument) c.in-Unknown.target (subst (FamilyWithin (count_of c.args.walk.now.shapes)) c.in-Unknown.is c.requires.family) c.in_ok-omit-in-Unknown.ensures)
