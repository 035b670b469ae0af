use Rattle.tw_search.proofs.rigid.+value_place.Given as goal

abbrev pub decreases-value_place : goal.decreases-value_place
decreases-value_place l = l.most
