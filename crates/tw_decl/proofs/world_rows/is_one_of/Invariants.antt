use Rattle.std.proofs.Common.{◌≡◌, drop, map}
use Rattle.lf_checks.specs.Tests.{is_in}
use Rattle.tw_terms.specs.declared.canonical.ConstId.{ConstId}
use Rattle.tw_decl.proofs.world_rows.is_one_of.Given as goal

abbrev pub invariant-loop-other : goal.invariant-loop-other
invariant-loop-other l = is_in l.family.0 (map (λ (f : ConstId). f.0) (drop l.other-index l.families)) ≡ is_in l.family.0 (map (λ (f : ConstId). f.0) l.families)
