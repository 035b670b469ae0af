-- The names that the variables of a query give to metavariables: one that is the value of a variable alone, up to eta, has the name of the first such variable.
use Rattle.std.specs.Prelude.{◌≡◌, ℕ, zero, suc, List, [], ◌∷◌, ◌++◌, length, Option, Some, None, is_some, if◌then◌else◌, slice_get}
use Rattle.lf.specs.Eta.{eta_long}
use Rattle.lf.specs.Subordination.{Member}
use Rattle.lf.specs.Syntax.{LfType, Skeleton, Term, metavariable}
use Rattle.tw_metas.specs.State.{State, joined, value_of}
use Rattle.tw_putting.specs.Stores.{Puts, PutsDeep}
use Rattle.tw_signature.specs.Goal.{Goal}
use Rattle.tw_unify.specs.Showing.{name_of}

-- m stands for n alone: with all values put in it is n, up to eta
abbrev pub ValueIsAlone : State → ℕ → Option Term → ℕ → Type 0
ValueIsAlone s m None n = m ≡ n
ValueIsAlone s m (Some N) n = (N' : Term) × (a : Skeleton) × Puts s 0 N N' × (N' ≡ eta_long a (metavariable n))

abbrev pub IsAlone : State → ℕ → ℕ → Type 0
IsAlone s m n = ValueIsAlone s m (value_of s m) n

-- for which one m does, if for any
abbrev pub IsSole : State → ℕ → Option ℕ → Type 0
IsSole s m None = (n : ℕ) → IsAlone s m n → ⊥
IsSole s m (Some n) = IsAlone s m n

-- The place of a variable, which is counted from the newest, from the outermost: its metavariable has this number. Over X, Y, the variable 0 is Y, at place 1.
abbrev pub place_of : List LfType → ℕ → Option ℕ
place_of [] i = None
place_of (A ∷ G) zero = Some (length G)
place_of (A ∷ G) (suc i) = place_of G i

-- the names with one more behind them, unless the metavariable has one
abbrev pub with_name : Option ℕ → List ℕ → List (ℕ × List ℕ) → List (ℕ × List ℕ)
with_name None x names = names
with_name (Some n) x names = if is_some (name_of names n) then names else names ++ (n, x) ∷ []

-- a variable gives its name, if it has one, to the metavariable for which its own stands alone
abbrev pub NamesOne : State → Option ℕ → Option (List ℕ) → List (ℕ × List ℕ) → List (ℕ × List ℕ) → Type 0
NamesOne s (Some m) (Some x) old new = (n : Option ℕ) × IsSole s m n × (new ≡ with_name n x old)
NamesOne s (Some m) None old new = new ≡ old
NamesOne s None x old new = new ≡ old

abbrev pub NamesVariable : State → Goal → ℕ → List (ℕ × List ℕ) → List (ℕ × List ℕ) → Type 0
NamesVariable s g i old new = NamesOne s (place_of g.variables i) (joined (slice_get g.names i)) old new

-- one variable after the other
abbrev pub NamesAll : State → Goal → List ℕ → List (ℕ × List ℕ) → List (ℕ × List ℕ) → Type 0
NamesAll s g [] old new = new ≡ old
NamesAll s g (i ∷ is) old new = (mid : List (ℕ × List ℕ)) × NamesVariable s g i old mid × NamesAll s g is mid new

-- The names of metavariables in a state of the store, by the variables that are shown, in the order of the text. Where X is bound to Y, the metavariable of Y has the name X.
abbrev pub AreNames : State → Goal → List (ℕ × List ℕ) → Type 0
AreNames s g names = NamesAll s g g.shown [] names

-- with the values put in, the value of this variable is deeper than 4,096
abbrev pub ThisIsDeep : State → Goal → ℕ → Type 0
ThisIsDeep s g i = (m : ℕ) × (N : Term) × (place_of g.variables i ≡ Some m) × (value_of s m ≡ Some N) × PutsDeep s 0 N

-- of one of those that are shown
abbrev pub VariableIsDeep : State → Goal → Type 0
VariableIsDeep s g = (i : ℕ) × Member i g.shown × ThisIsDeep s g i
