use Rattle.std.proofs.Common.{drop, map}
use Rattle.lf.specs.Subordination.{Member}
use Rattle.tw_metas.specs.Named.{named_of}
use Rattle.tests_unification.proofs.solving.is_named.Given as goal

-- where it has one, that is among those that are left
abbrev pub invariant-loop-other : goal.invariant-loop-other
invariant-loop-other l = Member l.meta.0 (map (λ n. n.0) (map named_of l.named)) → Member l.meta.0 (map (λ n. n.0) (map named_of (drop l.other-index l.named)))
