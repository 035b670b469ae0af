-- The keywords of checks, and marks.
use Rattle.std.specs.Prelude.{ℕ, List, [], Bool, true, false, Option, None, Some, take, drop, codes, if◌then◌else◌}
use Rattle.std.specs.Str.{bytes_eq}
use Rattle.tw_parse.specs.declared.words.Word.{Word}
use Rattle.tw_parse.specs.declared.words.Word.TheVariants.{Name}
use Rattle.tw_parse_checks.specs.declared.check.CheckForm.{CheckForm}
use Rattle.tw_parse_checks.specs.declared.check.CheckForm.TheVariants.{Mode, Block, Worlds, Terminates}
use Rattle.tw_parse_checks.specs.declared.check.ExtMark.{ExtMark}
use Rattle.tw_parse_checks.specs.declared.check.ExtMark.TheVariants.{Input, Output, Free}

-- what a keyword declares
abbrev pub form_of : List ℕ → Option CheckForm
form_of bytes =
    if bytes_eq bytes (codes "%mode") then Some Mode else
    if bytes_eq bytes (codes "%block") then Some Block else
    if bytes_eq bytes (codes "%worlds") then Some Worlds else
    if bytes_eq bytes (codes "%terminates") then Some Terminates else
    None

abbrev pub is_form : Option CheckForm → Bool
is_form (Some form) = true
is_form None = false

-- the keywords whose declarations are read here
abbrev pub is_check : List ℕ → Bool
is_check bytes = is_form (form_of bytes)

-- the mark with this sign
abbrev pub mark_of : List ℕ → Option ExtMark
mark_of sign =
    if bytes_eq sign (codes "+") then Some Input else
    if bytes_eq sign (codes "-") then Some Output else
    if bytes_eq sign (codes "*") then Some Free else
    None

-- what may stand behind the sign of a mark: a name, and so nothing with a fixed meaning
abbrev pub is_name : List ℕ → Bool
is_name bytes =
    if bytes_eq bytes [] then false else
    if bytes_eq bytes (codes "->") then false else
    if bytes_eq bytes (codes "<-") then false else
    if bytes_eq bytes (codes "_") then false else
    if bytes_eq bytes (codes "=") then false else
    if bytes_eq bytes (codes "type") then false else
    true

-- the mark that is a sign and a name, as `+X`; `-1` is none
abbrev pub named_mark : List ℕ → Option ExtMark
named_mark bytes =
    if bytes_eq bytes (codes "-1") then None else
    if is_name (drop 1 bytes) then mark_of (take 1 bytes) else
    None

-- the mark that a token is: alone, as in the full form, and with a name, as in the short form
abbrev pub lone_mark_by : Word → List ℕ → Option ExtMark
lone_mark_by Name bytes = mark_of bytes
lone_mark_by _ bytes = None

abbrev pub named_mark_by : Word → List ℕ → Option ExtMark
named_mark_by Name bytes = named_mark bytes
named_mark_by _ bytes = None
