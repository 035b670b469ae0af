-- A row of types, of which a context has the first ones in scope.
use Rattle.std.specs.Prelude.{◌≤◌, List, [], length, map, reverse, take, Option, Some, None, option_map}
use Rattle.lf.specs.Syntax.{LfType}
use Rattle.tw_terms.specs.OpenView.{open_type_of}
use Rattle.tw_terms.specs.declared.open_context.OpenContext.TheInside.{Inside}

abbrev pub types_or_none : Option (List LfType) → List LfType
types_or_none None = []
types_or_none (Some As) = As

-- the types of the row, the outermost first
abbrev pub row : Inside → List LfType
row a = types_or_none (option_map (λ r. map (λ t. open_type_of t.value) r.value.items) a.types)

-- those in scope, the innermost first
abbrev pub in_scope : Inside → List LfType
in_scope a = reverse (take a.len (row a))

abbrev pub HasRow : Inside → Type 0
HasRow a = a.len ≤ length (row a)
