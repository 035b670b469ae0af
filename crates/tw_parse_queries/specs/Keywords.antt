-- The keywords of declarations that search.
use Rattle.std.specs.Prelude.{ℕ, List, Bool, true, false, Option, None, Some, codes, if◌then◌else◌}
use Rattle.std.specs.Str.{bytes_eq}
use Rattle.tw_parse_queries.specs.declared.keywords.Form.{Form}
use Rattle.tw_parse_queries.specs.declared.keywords.Form.TheVariants.{Query, Solve}

-- the form of a declaration that begins with this keyword
abbrev pub form_of : List ℕ → Option Form
form_of bytes =
    if bytes_eq bytes (codes "%query") then Some Query else
    if bytes_eq bytes (codes "%solve") then Some Solve else
    None

abbrev pub has_form : Option Form → Bool
has_form None = false
has_form (Some form) = true

-- `%query` and `%solve`
abbrev pub is_search : List ℕ → Bool
is_search bytes = has_form (form_of bytes)
