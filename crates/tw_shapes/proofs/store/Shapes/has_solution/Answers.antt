use Rattle.std.proofs.Common.{subst}
use Rattle.lf.specs.Syntax.{base}
use Rattle.tw_shapes.specs.Shapes.{Solves}
use Rattle.tw_shapes.specs.View.{store_of}
use Rattle.tw_shapes.proofs.Fillings.{filling, filling-solves}
use Rattle.tw_shapes.proofs.store.Shapes.has_solution.Goals as goal

pub returns : goal.returns
returns c =
    let s = store_of c.self.inside.bindings in
    (filling (base 0) s, subst (Solves (filling (base 0) s)) c.self.view_is (filling-solves (base 0) s c.self.invariant))
