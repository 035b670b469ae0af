-- Rows of arguments, elaborated one after another.
use Rattle.std.specs.Prelude.{◌≡◌, ℕ, List}
use Rattle.lf.specs.Entries.{Entry}
use Rattle.lf.specs.Syntax.{LfType, skeleton}
use Rattle.lf_elaboration.specs.Elaboration.{Infers}
use Rattle.lf_elaboration.specs.State.{State}
use Rattle.lf_elaboration.specs.Written.{Written}
use Rattle.tw_elaborate.specs.Plain.{IsReducible}
use Rattle.tw_elaborate.specs.Operators.{IsTerm, applied_to, operator_of}
use Rattle.tw_elaborate.specs.declared.operators.Operator.{Operator}

-- of W, all but the arguments Ps is elaborated: the operator o, of the type A
pub record Reached (es : List Entry) (frees : List ℕ) (D : List LfType) (W : Written) (s : State) (Ps : List Written) (s' : State) (o : Operator) (A : LfType) : Type 0 where
  pub so_far : Written
  pub is : applied_to so_far Ps ≡ W
  pub inferred : Infers es frees D so_far s s' (operator_of (skeleton A) o) A
  pub reducible : IsTerm o → IsReducible es so_far
