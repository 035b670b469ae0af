use Rattle.tw_world.proofs.matching.+settle.Given as goal

abbrev pub decreases-settle : goal.decreases-settle
decreases-settle l = l.left
