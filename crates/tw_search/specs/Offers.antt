-- A head that is offered to a goal, between the states of the store before and after.
use Rattle.std.specs.Prelude.{◌≡◌, ℕ, List, [], ◌∷◌, Bool, true, false, Some, None, length, map, reverse}
use Rattle.lf.specs.Syntax.{Head, Kind, LfType, Spine, constant, metavariable, variable}
use Rattle.lf.specs.Typing.{Signature}
use Rattle.lf.specs.Variables.{same_number, target_arguments}
use Rattle.lf_unification.specs.Lists.{followed}
use Rattle.lf_unification.specs.Offering.{local_arguments, spine_equations}
use Rattle.lf_search.specs.AppliedHeads.{spine_with_applied}
use Rattle.tw_search.specs.Applied.{taken_at}
use Rattle.lf_unification.specs.Search.{Offer, holes}
use Rattle.lf_unification.specs.Solving.{IsWellFormed}
use Rattle.lf_unification.specs.Unifiers.{Equation, Store}
use Rattle.tw_metas.specs.State.{State}
use Rattle.tw_putting.specs.Ready.{IsReady}
use Rattle.tw_putting.specs.Stores.{bindings_of, types_of}
use Rattle.tw_terms.specs.declared.canonical.MetaId.{MetaId}
use Rattle.tw_search.specs.Goals.{IsDeclared, indices_of, node_of}
use Rattle.tw_open.specs.Indices.{IndicesFit}
use Rattle.tw_search.specs.declared.goal.OpenGoal.{OpenGoal}

-- those at the places that aren't marked
abbrev pub unmarked : {A : Type 0} → List Bool → List A → List A
unmarked [] xs = []
unmarked (b ∷ bs) [] = []
unmarked (true ∷ bs) (x ∷ xs) = unmarked bs xs
unmarked (false ∷ bs) (x ∷ xs) = x ∷ unmarked bs xs

-- whether the head is this variable
abbrev pub is_variable : ℕ → Head → Bool
is_variable i (constant c) = false
is_variable i (variable j) = same_number i j
is_variable i (metavariable m) = false

-- the goal's hole is declared, and its family has a kind, which takes the goal's indices
pub record EquationsFit (Σ : Signature) (s : State) (g : OpenGoal) : Type 0 where
  pub declared : IsDeclared s g.hole.0
  pub has_kind : Σ.kinds g.family.0 ≡ None → ⊥
  pub fits : (K : Kind) → Σ.kinds g.family.0 ≡ Some K → IndicesFit g.locals K (indices_of s g.hole.0)

-- the equations between the goal's indices and T
pub record HasEquations (Σ : Signature) (s : State) (g : OpenGoal) (T : Spine) (es : List Equation) : Type 0 where
  pub kind : Kind
  pub kind_of : Σ.kinds g.family.0 ≡ Some kind
  pub equations : es ≡ spine_equations g.locals kind (indices_of s g.hole.0) T

-- the store with the equations that an offer adds behind those that were there
abbrev pub offered_store : List Equation → State → Store
offered_store es s = record { metavariables = types_of s; bindings = bindings_of s; equations = followed s.equations es }

-- the arguments of the target of a head of type A, with these new metavariables on the local variables put in
abbrev pub offered_arguments : OpenGoal → List MetaId → LfType → Spine
offered_arguments g ms A = spine_with_applied (taken_at (local_arguments g.locals) ms 0) (target_arguments A)

-- The head is offered to the goal: the equations `es` are to be solved, and `subgoals` are the holes of the head's subgoals, in the order of its quantifiers.
pub record IsOffered (Σ : Signature) (old : State) (g : OpenGoal) (h : Head) (es : List Equation) (subgoals : List MetaId) (new : State) : Type 0 where
  pub head_type : LfType
  pub offer : Offer Σ (node_of old []) g.hole.0 g.locals g.family.0 (indices_of old g.hole.0) h head_type (offered_store es new) (length new.declared)
  pub subgoals_are : reverse (map (λ m. m.0) subgoals) ≡ holes (length old.declared) head_type
  pub postponed : new.equations ≡ old.equations
  pub well_formed : IsWellFormed Σ (offered_store es new)
  pub ready : IsReady Σ es new

-- the same with the new metavariables ms put into the target of the head, of type A: whatever the equations are
abbrev pub OffersNew : Signature → State → OpenGoal → Head → LfType → List MetaId → List MetaId → State → Type 0
OffersNew Σ old g h A ms subgoals new = (es : List Equation) → HasEquations Σ old g (offered_arguments g ms A) es → IsOffered Σ old g h es subgoals new
