use Rattle.std.proofs.Common.{arith}
use Rattle.lf.specs.Entries.{signature_of}
use Rattle.tw_terms.specs.View.{args_of, type_of}
use Rattle.tw_print.specs.Arguments as spec
use Rattle.tw_print.specs.SceneView.{scene_in}
use Rattle.tw_print.proofs.Collecting.{reversed_takes, typed_all, typed_begun}
use Rattle.tw_print.proofs.arguments.typed_arguments.Goals as goal

pub loop-term-init : goal.loop-term-init
loop-term-init c = record {
  so_far = typed_begun c.in_ok-arguments.arguments.items c.reverse.new.self.items c.args.args.items (type_of c.args.head) c.in_ok-arguments.ensures.items c.reverse.ensures.items;
  takes = reversed_takes (signature_of (scene_in c.args.scene.now).entries) c.args.context.now (type_of c.args.head) c.reverse.new.self.items c.args.args.items c.reverse.ensures.items c.requires;
}

pub returns : goal.returns
returns c = typed_all c.loop-term.arguments.items c.loop-term.rest.items (type_of c.loop-term.left) (spec.arguments (type_of c.args.head) (args_of c.args.args.items)) (omega (arith, c.in_default.ensures.cases)) c.loop-term.invariant.so_far
