-- Declarations of the explicit form.
use Rattle.std.specs.Prelude.{◌≡◌, List, [], true}
use Rattle.lf.specs.Entries.{Entry}
use Rattle.law_explicit_form.specs.Form.{is_explicit}
use Rattle.tw_names.specs.Unknown.{unknown_in}
use Rattle.tw_parse.specs.Syntax.{Declaration}

-- each lowercase name is bound or declared, and the declaration is of the explicit form
abbrev pub IsExplicit : List Entry → Declaration → Type 0
IsExplicit es d = (unknown_in es d ≡ []) × (is_explicit es d ≡ true)
