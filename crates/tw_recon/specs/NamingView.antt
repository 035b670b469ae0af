-- What a value of the program stands for.
use Rattle.tw_elaborate.specs.View.{numbers_of}
use Rattle.tw_recon.specs.Names as plain
use Rattle.tw_recon.specs.declared.names.Naming.{Naming}

abbrev pub naming_of : Naming → plain.Naming
naming_of n = record { names = n.names.items; firsts = numbers_of n.firsts.items }
