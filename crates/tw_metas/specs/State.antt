-- What a store of metavariables holds, and what it held before.
use Rattle.std.specs.Prelude.{◌≡◌, ℕ, List, [], ◌∷◌, ◌++◌, Option, Some, None, slice_get, slice_set}
use Rattle.std.specs.List.{remove}
use Rattle.lf.specs.Syntax.{Term, LfType}
use Rattle.lf_unification.specs.Unifiers as unifiers

-- a metavariable as it was declared: the context that it stands in, and its type there
pub record Declaration : Type 0 where
  pub context : List LfType
  pub of_type : LfType

-- The metavariables in order, so that the place of each, from 0, is its number; the value of each, if it is bound; the numbers of those that
-- are bound, the newest in front; and the equations that are postponed, in order.
pub record State : Type 0 where
  pub declared : List Declaration
  pub values : List (Option Term)
  pub bound : List ℕ
  pub equations : List unifiers.Equation

abbrev pub empty_state : State
empty_state = record { declared = []; values = []; bound = []; equations = [] }

-- A store: what it holds now, and what it held before each change that stands, the newest of these in front.
pub record Story : Type 0 where
  pub now : State
  pub before : List State

abbrev pub empty_story : Story
empty_story = record { now = empty_state; before = [] }

-- all that it held, what it holds now in front
abbrev pub states : Story → List State
states s = s.now ∷ s.before

-- one change more
abbrev pub changed : Story → State → Story
changed s new = record { now = new; before = s.now ∷ s.before }

-- a new metavariable, which isn't bound
abbrev pub with_declared : State → List LfType → LfType → State
with_declared s G A = record { declared = s.declared ++ record { context = G; of_type = A } ∷ []; values = s.values ++ None ∷ []; bound = s.bound; equations = s.equations }

-- a metavariable's value
abbrev pub with_value : State → ℕ → Term → State
with_value s m N = record { declared = s.declared; values = slice_set s.values m (Some N); bound = m ∷ s.bound; equations = s.equations }

-- an equation behind the others
abbrev pub with_equation : State → unifiers.Equation → State
with_equation s e = record { declared = s.declared; values = s.values; bound = s.bound; equations = s.equations ++ e ∷ [] }

-- without the equation at this place, from 0
abbrev pub without_equation : State → ℕ → State
without_equation s at = record { declared = s.declared; values = s.values; bound = s.bound; equations = remove s.equations at }

-- the value that there is, if any
abbrev pub joined : {A : Type 0} → Option (Option A) → Option A
joined (Some x) = x
joined None = None

-- a metavariable's value; none where it isn't bound, or isn't there
abbrev pub value_of : State → ℕ → Option Term
value_of s m = joined (slice_get s.values m)

-- there is such a metavariable, and it isn't bound
abbrev pub IsUnbound : State → ℕ → Type 0
IsUnbound s m = slice_get s.values m ≡ Some None
