-- The fault that a fault of the typing of a `some` term is told as.
use Rattle.tw_hered.specs.declared.fault.HeredFault.{HeredFault}
use Rattle.tw_hered.specs.declared.fault.HeredFault.TheVariants as hered
use Rattle.tw_world.specs.declared.fault.WorldFault.{WorldFault}
use Rattle.tw_world.specs.declared.fault.WorldFault.TheVariants.{NoMemory, TooDeep}

abbrev pub fault_of : HeredFault → WorldFault
fault_of hered.TooDeep = TooDeep
fault_of hered.NoMemory = NoMemory
