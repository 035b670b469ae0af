use Rattle.std.proofs.Common.{rules, ap, ◌∙◌}
use Rattle.tw_shapes.specs.Dropping.{whole_of}
use Rattle.tw_shapes.specs.View.{store_of}
use Rattle.tw_shapes.proofs.Arrows.{arrows-pushed}
use Rattle.tw_shapes.proofs.equations.at_arrow.Goals as goal

pub returns-in_ok-push-in-Arrow-2 : goal.returns-in_ok-push-in-Arrow-2
returns-in_ok-push-in-Arrow-2 c =
    arrows-pushed (store_of c.args.bindings.now) c.args.domain c.args.range c.in-Arrow.other_domain c.in-Arrow.other_range c.args.other
    c.into_inner-in-Arrow-2.result c.into_inner.result c.into_inner-in-Arrow-3.result c.into_inner-in-Arrow.result
    c.args.pending.now.items c.push.new.self.items c.push-in-Arrow.new.self.items
    (c.parts.ensures ∙ ap whole_of c.in-Arrow.is) (search rules) (search rules) (search rules) (search rules) c.in_ok-push-in-Arrow.ensures.items c.in_ok-push-in-Arrow-2.ensures.items
    c.requires.domain c.requires.range c.requires.within c.requires.all_within
