-- What the values of the program stand for.
use Rattle.std.specs.Prelude.{List, length}
use Rattle.lf.specs.Syntax as lf
use Rattle.lf_elaboration.specs.State.{State}
use Rattle.lf_unification.specs.Unifiers.{Equation}
use Rattle.tw_metas.specs.State as metas
use Rattle.tw_putting.specs.Stores.{types_of}
use Rattle.tw_terms.specs.OpenView.{open_type_of}
use Rattle.tw_open.specs.declared.kinds.OpenKind.{OpenKind, fold-OpenKind}
use Rattle.tw_open.specs.declared.kinds.OpenKind.TheOpen.{OpenKind-F}

abbrev pub open_kind_step : OpenKind-F lf.Kind → lf.Kind
open_kind_step (OpenKind-F.Pi a k) = lf.kind_pi (open_type_of a.value) k.value
open_kind_step OpenKind-F.Star = lf.star

unfoldable pub open_kind_of : OpenKind → lf.Kind
open_kind_of = fold-OpenKind lf.Kind open_kind_step

-- the metavariables of a store's state and the next number, with these equations
abbrev pub made_with : List Equation → metas.State → State
made_with es s = record { metavariables = types_of s; next = length s.declared; equations = es }
