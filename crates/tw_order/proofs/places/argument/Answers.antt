use Rattle.std.proofs.Common.{sym}
use Rattle.tw_terms.specs.View.{spine_of}
use Rattle.tw_terms.proofs.Views.{spine_of-args}
use Rattle.tw_order.proofs.Arguments.{argument_got}
use Rattle.tw_order.proofs.places.argument.Goals as goal

pub returns : goal.returns
returns c = argument_got c.args.spine.now.args.items c.deref.result.now (spine_of c.args.spine.now) c.args.place c.get.result c.if-place-eq0.false c.deref.ensures.value (sym (spine_of-args c.args.spine.now)) c.get.ensures.lookup.3
