use Rattle.tw_clause.specs.View.{worlds_of}
use Rattle.tw_world.proofs.Checked.{Rest, families_listed, families_next, family_alone}
use Rattle.tw_world.proofs.check.check_families.Given as goal

abbrev pub invariant-loop-family : goal.invariant-loop-family
invariant-loop-family l = Rest l.check (family_alone l.check.sig.now (worlds_of l.check.worlds.now)) (families_listed l.check.sig.now (worlds_of l.check.worlds.now)) (families_next l.check.sig.now (worlds_of l.check.worlds.now)) l.families l.family-index
