use Rattle.std.proofs.Common.{◌∙◌, ◌++◌, ◌∷◌, [], rules, ◌≡◌}
use Rattle.tw_shapes.specs.View.{shape_of, store_of}
use Rattle.tw_shapes.specs.EquationView.{equations_of}
use Rattle.tw_shapes.proofs.Rounds.{round-binds}
use Rattle.tw_shapes.proofs.Undoing.{before-bound}
use Rattle.tw_shapes.proofs.equations.settle.Goals as goal

pub rounds-preserved : goal.rounds-preserved
rounds-preserved c =
    let binds = rw c.in-Binds.is at c.in_ok-next.ensures in
    let pushed : c.push.new.self.items ≡ c.rounds.bound.items ++ c.in-Binds.variable.0 ∷ [] = search rules in
    record {
      round = round-binds (store_of c.args.bindings.now) (store_of c.rounds.bindings) (store_of c.bind.new.self) (equations_of c.args.pending.items) (equations_of c.rounds.pending.items) (equations_of c.next.new.pending.items)
          c.in-Binds.variable.0 (shape_of c.in-Binds.value) c.rounds.invariant.round binds c.in_ok-bind-in-Binds.ensures.ok;
      before = before-bound (store_of c.rounds.bindings) (store_of c.bind.new.self) c.rounds.bound.items c.push.new.self.items c.in-Binds.variable.0 (shape_of c.in-Binds.value)
          c.rounds.invariant.round.ordered binds.may.free c.in_ok-bind-in-Binds.ensures.ok pushed ∙ c.rounds.invariant.before;
    }
