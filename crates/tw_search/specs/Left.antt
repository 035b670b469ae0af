-- The first equation of a leaf that is left over, as it can be shown.
use Rattle.std.specs.Prelude.{◌≡◌, ℕ, List, [], ◌∷◌, map, ◌⊎◌}
use Rattle.lf.specs.Entries.{Entry, signature_of}
use Rattle.lf_unification.specs.Search.{Node}
use Rattle.lf_unification.specs.Unifiers.{Equation}
use Rattle.tw_metas.specs.Named.{shown_type_of}
use Rattle.tw_metas.specs.State.{State}
use Rattle.tw_metas.specs.View.{equation_of}
use Rattle.tw_metas.specs.declared.left.LeftEquation.{LeftEquation}
use Rattle.tw_putting.specs.Ready.{IsReady}
use Rattle.tw_putting.specs.Whole.{whole}
use Rattle.tw_signature.specs.Goal.{Goal}
use Rattle.tw_unify.specs.Showing.{BlamesShown, Shows}
use Rattle.tw_unify.specs.declared.fault.UnifyFault.{UnifyFault}
use Rattle.tw_unify.specs.declared.fault.UnifyFault.TheVariants as fault
use Rattle.tw_search.specs.Names.{AreNames, VariableIsDeep}

-- The first equation that is postponed, with the values put in; metavariables have the names of variables of the query.
pub record ShowsFirst (s : State) (g : Goal) (left : LeftEquation) : Type 0 where
  pub first : Equation
  pub others : List Equation
  pub is_first : s.equations ≡ first ∷ others
  pub names : List (ℕ × List ℕ)
  pub are_names : AreNames s g names
  pub shows : Shows s first names (map shown_type_of left.metas.items) left.names.items (equation_of left.equation)

-- what of it is deep: it itself or a type that is shown with it, with the values put in
pub record FirstIsDeep (s : State) (g : Goal) : Type 0 where
  pub first : Equation
  pub others : List Equation
  pub is_first : s.equations ≡ first ∷ others
  pub names : List (ℕ × List ℕ)
  pub are_names : AreNames s g names
  pub deep : BlamesShown fault.TooDeep s first names

-- something that is needed to show it is deep: of it, or the value of a variable of the goal, which may give a name
abbrev pub ShowingIsDeep : State → Goal → Type 0
ShowingIsDeep s g = FirstIsDeep s g ⊎ VariableIsDeep s g

-- why it isn't shown
abbrev pub BlamesFirst : UnifyFault → State → Goal → Type 0
BlamesFirst fault.TooDeep s g = ShowingIsDeep s g
BlamesFirst fault.NoMemory s g = Unit {0}

-- a state of the program's store that is the store of a leaf
pub record IsStoreOf (es : List Entry) (l : Node) (s : State) : Type 0 where
  pub store : l.store ≡ whole [] s
  pub ready : IsReady (signature_of es) [] s

-- The leaf is left over, and this is its first equation. Of a leaf with `X Y = s (X Y)` behind `X z = z` it is `X z = z`.
pub record IsLeftAt (es : List Entry) (g : Goal) (l : Node) (left : LeftEquation) : Type 0 where
  pub state : State
  pub is_store : IsStoreOf es l state
  pub shows : ShowsFirst state g left

-- the leaf is left over, and what is needed to show its first equation is deep
pub record IsDeepAt (es : List Entry) (g : Goal) (l : Node) : Type 0 where
  pub state : State
  pub is_store : IsStoreOf es l state
  pub first : Equation
  pub others : List Equation
  pub left_over : l.store.equations ≡ first ∷ others
  pub deep : ShowingIsDeep state g
