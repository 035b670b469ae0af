use Rattle.tw_elaborate.proofs.fresh.+new_type.Given as goal

abbrev pub decreases-new_type : goal.decreases-new_type
decreases-new_type l = l.levels
