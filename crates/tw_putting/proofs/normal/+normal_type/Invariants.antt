use Rattle.tw_putting.proofs.normal.+normal_type.Given as goal

abbrev pub decreases-normal_type : goal.decreases-normal_type
decreases-normal_type l = l.levels
