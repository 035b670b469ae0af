-- Faults of hereditary substitution as faults of unification.
use Rattle.tw_hered.specs.declared.fault.HeredFault.{HeredFault}
use Rattle.tw_hered.specs.declared.fault.HeredFault.TheVariants as hered
use Rattle.tw_unify.specs.declared.fault.UnifyFault.{UnifyFault}
use Rattle.tw_unify.specs.declared.fault.UnifyFault.TheVariants.{TooDeep, NoMemory}

abbrev pub fault_of : HeredFault → UnifyFault
fault_of hered.TooDeep = TooDeep
fault_of hered.NoMemory = NoMemory
