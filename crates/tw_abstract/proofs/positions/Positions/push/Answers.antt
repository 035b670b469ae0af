use Rattle.std.proofs.Common.{◌≡◌, ◌∷◌, ◌++◌, [], length, nat_eq, arith}
use Rattle.std.specs.HashMap.{get}
use Rattle.std.proofs.lemmas.Grind.{common_steps}
use Rattle.tw_abstract.proofs.Places.{metavariable_pushed}
use Rattle.tw_abstract.proofs.positions.Positions.push.Goals as goal

pub invariant_of-self-2 : goal.invariant_of-self-2
invariant_of-self-2 c =
    let e : c.push.new.self.items ≡ c.self.inside.metas.items ++ c.args.meta ∷ [] = grind (arith, common_steps) in
    let h : c.len-level.result ≡ length c.self.inside.metas.items = grind (arith, common_steps) in
    metavariable_pushed c.self.inside.metas.items c.push.new.self.items c.args.meta (get nat_eq c.self.inside.levels) (get nat_eq c.insert.new.self) c.len-level.result e h (λ m. c.in_ok-insert.ensures.updates.0 m) c.self.invariant
