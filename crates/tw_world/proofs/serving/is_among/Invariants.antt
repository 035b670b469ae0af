use Rattle.std.proofs.Common.{◌↔◌, drop, map}
use Rattle.lf.specs.Subordination.{Member}
use Rattle.tw_world.proofs.serving.is_among.Given as goal

abbrev pub invariant-loop-other : goal.invariant-loop-other
invariant-loop-other l = Member l.family.0 (map (λ f. f.0) (drop l.other-index l.group)) ↔ Member l.family.0 (map (λ f. f.0) l.group)
