use Rattle.std.proofs.Common.{◌≡◌, ◌≤◌, drop, length}
use Rattle.lf.specs.Variables.{onto}
use Rattle.lf_checks.specs.Clauses.{entry_clauses}
use Rattle.lf_checks.specs.Faults.{AllPass}
use Rattle.tw_clause.specs.View.{block_of}
use Rattle.tw_world.specs.Checks.{ClausePasses}
use Rattle.tw_world.proofs.check.check_block.Given as goal

abbrev pub invariant-loop-newer : goal.invariant-loop-newer
invariant-loop-newer l = record {
  outer : l.outer ≡ onto (drop l.newer l.block.entries) l.block.some;
  within : l.newer ≤ length l.block.entries;
  passed : AllPass (ClausePasses l.check) (entry_clauses (block_of l.block) l.family.0 (drop l.newer l.block.entries));
}

abbrev pub decreases-loop-newer : goal.decreases-loop-newer
decreases-loop-newer l = l.newer
