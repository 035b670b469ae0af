-- What waits to be looked through for free variables, the next one last, and what it leaves to be found.
use Rattle.std.specs.Prelude.{◌≡◌, ℕ, ◌+◌, List, [], ◌∷◌, ◌++◌, reverse, drop}
use Rattle.lf.specs.Entries.{Entry}
use Rattle.tw_fixity.specs.Names.{Names}
use Rattle.tw_names.specs.Scope.{binder_name}
use Rattle.tw_names.specs.Waiting.{size}
use Rattle.tw_names.specs.declared.unknown.Mention.{Mention}
use Rattle.tw_parse.specs.View.{term_of}
use Rattle.tw_recon.specs.FreeNames.{free_names}
use Rattle.tw_recon.specs.declared.waiting.Waiting.{Waiting}

-- the free variables of what waits, the next one first, where it comes in this scope
abbrev pub frees_left : List Entry → Names → List Waiting → List Mention
frees_left es N [] = []
frees_left es N (Waiting.Term t ∷ ws) = free_names es N (term_of t.now) ++ frees_left es N ws
frees_left es N (Waiting.Under x t ∷ ws) = free_names es (binder_name x.now ∷ N) (term_of t.now) ++ frees_left es N ws
frees_left es N (Waiting.End ∷ ws) = frees_left es (drop 1 N) ws

-- the scope behind all of it
abbrev pub scope_left : Names → List Waiting → Names
scope_left N [] = N
scope_left N (Waiting.Term t ∷ ws) = scope_left N ws
scope_left N (Waiting.Under x t ∷ ws) = scope_left N ws
scope_left N (Waiting.End ∷ ws) = scope_left (drop 1 N) ws

-- how many steps are left of what waits
abbrev pub steps : Waiting → ℕ
steps (Waiting.Term t) = size (term_of t.now)
steps (Waiting.Under x t) = size (term_of t.now) + 2
steps Waiting.End = 1

abbrev pub work : List Waiting → ℕ
work [] = 0
work (w ∷ ws) = steps w + work ws

-- what waits later leaves these free variables and so many steps more, and the same scope behind it
pub record Adds (adds : List Entry → Names → List Mention) (more : ℕ) (old new : List Waiting) : Type 0 where
  pub found : (es : List Entry) (N : Names) → frees_left es N (reverse new) ≡ adds es N ++ frees_left es N (reverse old)
  pub behind : (N : Names) → scope_left N (reverse new) ≡ scope_left N (reverse old)
  pub left : work new ≡ more + work old
