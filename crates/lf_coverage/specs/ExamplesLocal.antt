-- A worked case: a local context that is typed, and one that isn't.
use Rattle.std.specs.Prelude.{[], ◌∷◌}
use Rattle.lf_cases.specs.Case.{Case}
use Rattle.lf_totality.specs.Examples.{Copying, cp, exp, var, copy_output_case}
use Rattle.lf_coverage.specs.TypedLocal.{HasTypedLocal}

-- Copying under a binder has the local context {x:exp} {u:cp x x}, which is typed over E and F. The other way round it isn't: there x would be F.
abbrev pub turned_case : Case
turned_case = record { items = copy_output_case.items; given = copy_output_case.given; local = exp ∷ cp (var 0) (var 0) ∷ []; family = 1; arguments = copy_output_case.arguments }

abbrev pub CopyLocalIsTyped : Type 0
CopyLocalIsTyped = HasTypedLocal Copying copy_output_case × (HasTypedLocal Copying turned_case → ⊥)
