use Rattle.tw_shapes.proofs.bindings.Bindings.+skeleton.Given as goal

abbrev pub decreases-skeleton : goal.decreases-skeleton
decreases-skeleton l = l.levels
