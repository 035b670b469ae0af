-- The root of a search, as a state of the store.
use Rattle.std.specs.Prelude.{◌≡◌, ℕ, zero, suc, List, [], ◌∷◌, length}
use Rattle.lf.specs.Syntax.{Head, LfType, metavariable, variable}
use Rattle.lf_search.specs.Goals.{metavariables_of, under_head}
use Rattle.tw_metas.specs.State.{State}
use Rattle.tw_putting.specs.Stores.{types_of}
use Rattle.tw_putting.specs.Whole.{IsConsistent}

-- the heads for the variables of a context of n variables, whose metavariables are numbered from the outermost: of three, the newest is 2
abbrev pub head_with : ℕ → ℕ → Head
head_with zero i = variable i
head_with (suc n) zero = metavariable n
head_with (suc n) (suc i) = head_with n i

-- the same under so many binders
abbrev pub heads_inside : ℕ → (ℕ → Head) → ℕ → Head
heads_inside zero h = h
heads_inside (suc b) h = under_head (heads_inside b h)

-- the heads for the variables of a context of n variables, under b binders
unfoldable pub heads_at : ℕ → ℕ → ℕ → Head
heads_at n b = heads_inside b (head_with n)

-- metavariables with the types of a context are declared, none is bound, and there is no equation
pub record IsDeclaredAs (G : List LfType) (s : State) : Type 0 where
  pub types : types_of s ≡ metavariables_of G
  pub count : length s.declared ≡ length G
  pub bound : s.bound ≡ []
  pub equations : s.equations ≡ []
  pub consistent : IsConsistent s

-- the variables of G, and the hole of A
abbrev pub IsRoot : List LfType → LfType → State → Type 0
IsRoot G A s = IsDeclaredAs (A ∷ G) s
