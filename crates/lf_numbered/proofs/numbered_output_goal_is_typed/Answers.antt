use Rattle.lf_numbered.proofs.EntryPatternsOutputs.{numbered_output_goal_is_typed as proved, own_block_has_number_zero}
use Rattle.lf_numbered.proofs.numbered_output_goal_is_typed.Goals as goal

pub returns-clause-typed : goal.returns-clause-typed
returns-clause-typed c = proved

pub returns-clause-zeroth : goal.returns-clause-zeroth
returns-clause-zeroth c = own_block_has_number_zero
