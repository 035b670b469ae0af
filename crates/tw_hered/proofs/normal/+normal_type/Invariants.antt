use Rattle.tw_hered.proofs.normal.+normal_type.Given as goal

abbrev pub decreases-normal_type : goal.decreases-normal_type
decreases-normal_type l = l.levels
