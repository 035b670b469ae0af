use Rattle.lf_numbered.proofs.EntryTermsDecided.{numbered_head_match_is_leaf, numbered_goal_match_is_leaf}
use Rattle.lf_numbered.proofs.numbered_match_is_leaf.Goals as goal

pub returns-clause-head : goal.returns-clause-head
returns-clause-head c = numbered_head_match_is_leaf

pub returns-clause-goal : goal.returns-clause-goal
returns-clause-goal c = numbered_goal_match_is_leaf
