use Rattle.lf_numbered.proofs.OwnValuesReading.{read_back_is_typed}
use Rattle.lf_numbered.proofs.OwnValuesGround.{read_back_is_ground}
use Rattle.lf_numbered.proofs.OwnValuesBack.{solved_is_read_back}
use Rattle.lf_numbered.proofs.OwnValuesInstances.{instances_are_read_back}
use Rattle.lf_numbered.proofs.values_are_read_back.Goals as goal

pub returns-clause-typed : goal.returns-clause-typed
returns-clause-typed c = read_back_is_typed

pub returns-clause-ground : goal.returns-clause-ground
returns-clause-ground c = read_back_is_ground

pub returns-clause-solved : goal.returns-clause-solved
returns-clause-solved c = solved_is_read_back

pub returns-clause-instances : goal.returns-clause-instances
returns-clause-instances c = instances_are_read_back
