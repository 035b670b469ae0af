-- The names that free variables give to metavariables.
use Rattle.std.specs.Prelude.{◌≡◌, ℕ, zero, suc, List, [], ◌∷◌, ◌++◌, map, Option, None, Some, is_some, if◌then◌else◌, slice_get}
use Rattle.lf.specs.Eta.{eta_long}
use Rattle.lf.specs.Subordination.{Member}
use Rattle.lf.specs.Syntax.{Skeleton, Term, metavariable}
use Rattle.tw_approx.specs.Answer.{Rows}
use Rattle.tw_abstract.specs.Positions.{index}
use Rattle.tw_metas.specs.State.{State, joined, value_of}
use Rattle.tw_putting.specs.Stores.{Puts, PutsDeep}

-- m stands for n alone: with all values put in it is n, up to eta
abbrev pub ValueIsAlone : State → ℕ → Option Term → ℕ → Type 0
ValueIsAlone s m None n = m ≡ n
ValueIsAlone s m (Some N) n = (N' : Term) × (a : Skeleton) × Puts s 0 N N' × (N' ≡ eta_long a (metavariable n))

abbrev pub IsAlone : State → ℕ → ℕ → Type 0
IsAlone s m n = ValueIsAlone s m (value_of s m) n

-- for which one m does, if for any
abbrev pub IsSole : State → ℕ → Option ℕ → Type 0
IsSole s m None = (n : ℕ) → IsAlone s m n → ⊥
IsSole s m (Some n) = IsAlone s m n

-- with this name at this place, unless one stands there
abbrev pub with_name : ℕ → List ℕ → List (Option (List ℕ)) → List (Option (List ℕ))
with_name zero x [] = Some x ∷ []
with_name (suc n) x [] = None ∷ with_name n x []
with_name zero x (None ∷ hs) = Some x ∷ hs
with_name zero x (Some y ∷ hs) = Some y ∷ hs
with_name (suc n) x (h ∷ hs) = h ∷ with_name n x hs

-- the names so far, by number, and the metavariables that have them, in the order in which they got them
pub record Naming : Type 0 where
  pub names : List (Option (List ℕ))
  pub firsts : List ℕ

abbrev pub nothing_named : Naming
nothing_named = record { names = []; firsts = [] }

abbrev pub with_sole : Option ℕ → List ℕ → Naming → Naming
with_sole None x N = N
with_sole (Some n) x N = if is_some (joined (slice_get N.names n)) then N else record { names = with_name n x N.names; firsts = N.firsts ++ n ∷ [] }

-- The free variables, by their places: their metavariables, and their rows.
module _ (s : State) (frees : List ℕ) (rows : Rows) where
  -- one of them gives its name to the metavariable for which it stands alone, unless that has one
  abbrev pub NamesOne : Option ℕ → Option (List ℕ × Skeleton) → Naming → Naming → Type 0
  NamesOne (Some m) (Some r) old new = (n : Option ℕ) × IsSole s m n × (new ≡ with_sole n r.0 old)
  NamesOne (Some m) None old new = new ≡ old
  NamesOne None r old new = new ≡ old

  -- one after the other
  abbrev pub NamesAll : List ℕ → Naming → Naming → Type 0
  NamesAll [] old new = new ≡ old
  NamesAll (i ∷ is) old new = (mid : Naming) × NamesOne (slice_get frees i) (slice_get rows i) old mid × NamesAll is mid new

-- The names of metavariables: each has that of the first free variable, in this order, that stands for it alone.
abbrev pub AreNames : State → List ℕ → Rows → List ℕ → Naming → Type 0
AreNames s frees rows order naming = NamesAll s frees rows order nothing_named naming

-- of these metavariables
abbrev pub names_of : List (Option (List ℕ)) → List ℕ → List (Option (List ℕ))
names_of names ms = map (λ m. joined (slice_get names m)) ms

abbrev pub add_some : Option ℕ → List ℕ → List ℕ
add_some None is = is
add_some (Some i) is = i ∷ is

-- the variables of these metavariables, where `ms` are the quantifiers, the outermost first
abbrev pub variables_of : List ℕ → List ℕ → List ℕ
variables_of ms [] = []
variables_of ms (n ∷ ns) = add_some (index ms n) (variables_of ms ns)

-- those that have a name, from number k on
abbrev pub named_from : ℕ → List (Option (List ℕ)) → List (ℕ × List ℕ)
named_from k [] = []
named_from k (None ∷ hs) = named_from (suc k) hs
named_from k (Some x ∷ hs) = (k, x) ∷ named_from (suc k) hs

-- with the values put in, what stands for a free variable is deeper than 4,096
abbrev pub FreeIsDeep : State → List ℕ → Type 0
FreeIsDeep s frees = (m : ℕ) × (N : Term) × Member m frees × (value_of s m ≡ Some N) × PutsDeep s 0 N
