-- Metavariables that are new, between the states of the store before and after.
use Rattle.std.specs.Prelude.{◌≡◌, List, [], length}
use Rattle.lf.specs.Syntax.{LfType, Term}
use Rattle.lf_elaboration.specs.State.{with_metavariable}
use Rattle.lf_unification.specs.Offering.{raised}
use Rattle.lf_unification.specs.Unifiers.{Equation}
use Rattle.tw_metas.specs.State.{State, Story, changed, with_declared}
use Rattle.tw_open.specs.View.{made_with}

-- metavariables were declared in the empty context, one after another, and nothing else changed
pub data OnlyDeclares : Story → Story → Type 0 where
  declares_nothing : {s : Story} → OnlyDeclares s s
  declares_one : {s t : Story} (A : LfType) → OnlyDeclares s t → OnlyDeclares s (changed t (with_declared t.now [] A))

-- M is a new metavariable of type A at the variables in scope D; the equations stay
pub record IsNew (D : List LfType) (A : LfType) (M : Term) (old new : State) : Type 0 where
  pub state : (es : List Equation) → made_with es new ≡ with_metavariable D A (made_with es old)
  pub term : M ≡ raised D A (length old.declared)
