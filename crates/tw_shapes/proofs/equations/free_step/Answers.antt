use Rattle.std.proofs.Common.{rules}
use Rattle.tw_shapes.specs.Shapes.{Mentions}
use Rattle.tw_shapes.specs.View.{shape_of}
use Rattle.tw_shapes.proofs.Steps.{mentioned-Arrow}
use Rattle.tw_shapes.proofs.equations.free_step.Goals as goal

pub returns : goal.returns
returns c = let m : Mentions c.args.variable.0 (shape_of c.args.value) = search rules in mentioned-Arrow c.args.variable.0 c.args.value c.in-Arrow.field-0 c.in-Arrow.field-1 c.in-Arrow.is m
