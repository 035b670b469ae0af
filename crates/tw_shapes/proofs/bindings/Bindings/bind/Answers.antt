use Rattle.tw_shapes.specs.View.{store_of}
use Rattle.tw_shapes.proofs.Binding.{fewer-unbound, free-place}
use Rattle.tw_shapes.proofs.bindings.Bindings.bind.Goals as goal

pub returns-clause-fewer : goal.returns-clause-fewer
returns-clause-fewer c =
    fewer-unbound c.args.self.now.places.items c.args.variable.0 c.len-place.result c.requires.declared (free-place (store_of c.args.self.now) c.requires.ordered c.args.variable.0 c.requires.free)
