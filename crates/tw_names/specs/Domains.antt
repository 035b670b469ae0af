-- The domain of a binder that a value of the program stands for.
use Rattle.std.specs.Prelude.{Option, None, Some, Box}
use Rattle.std.specs.Global.{Global}
use Rattle.tw_parse.specs.Syntax.{Domain, untyped, typed}
use Rattle.tw_parse.specs.View.{term_of}
use Rattle.tw_parse.specs.declared.term.ExtTerm.{ExtTerm}

abbrev pub written_domain : Option (Box ExtTerm Global) → Domain
written_domain None = untyped
written_domain (Some A) = typed (term_of A.value)
