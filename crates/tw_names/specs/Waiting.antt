-- What waits to be looked through, the next one last, and what it leaves to be found.
use Rattle.std.specs.Prelude.{◌≡◌, ℕ, ◌+◌, List, [], ◌∷◌, ◌++◌, reverse, drop}
use Rattle.lf.specs.Entries.{Entry}
use Rattle.tw_fixity.specs.Names.{Names}
use Rattle.tw_names.specs.Scope.{binder_name}
use Rattle.tw_names.specs.Unknown.{unknown_names, unknown_in_domain, unknown_under}
use Rattle.tw_names.specs.declared.unknown.Mention.{Mention}
use Rattle.tw_names.specs.declared.waiting.Waiting.{Waiting}
use Rattle.tw_parse.specs.Syntax.{Term, Domain, identifier, hole, star, arrow, pi, lambda, application, ascription, untyped, typed}
use Rattle.tw_parse.specs.View.{term_of}

-- the unknown names of what waits, the next one first, where it comes in this scope
abbrev pub names_left : List Entry → Names → List Waiting → List Mention
names_left es N [] = []
names_left es N (Waiting.Term t ∷ ws) = unknown_names es N (term_of t.now) ++ names_left es N ws
names_left es N (Waiting.Under x t ∷ ws) = unknown_names es (binder_name x.now ∷ N) (term_of t.now) ++ names_left es N ws
names_left es N (Waiting.End ∷ ws) = names_left es (drop 1 N) ws

-- the scope behind all of it
abbrev pub scope_left : Names → List Waiting → Names
scope_left N [] = N
scope_left N (Waiting.Term t ∷ ws) = scope_left N ws
scope_left N (Waiting.Under x t ∷ ws) = scope_left N ws
scope_left N (Waiting.End ∷ ws) = scope_left (drop 1 N) ws

-- how many steps are left of a term, and of what waits
abbrev mutual
  pub size : Term → ℕ
  size (identifier x at) = 1
  size (hole at) = 1
  size star = 1
  size (arrow A B) = size A + size B + 1
  size (pi x at D B) = size_of_domain D + size B + 3
  size (lambda x at D M) = size_of_domain D + size M + 3
  size (application M P) = size P + size M + 1
  size (ascription M A) = size A + size M + 1

  pub size_of_domain : Domain → ℕ
  size_of_domain untyped = 0
  size_of_domain (typed A) = size A

abbrev pub steps : Waiting → ℕ
steps (Waiting.Term t) = size (term_of t.now)
steps (Waiting.Under x t) = size (term_of t.now) + 2
steps Waiting.End = 1

abbrev pub work : List Waiting → ℕ
work [] = 0
work (w ∷ ws) = steps w + work ws

-- what waits later leaves these names and so many steps more, and the same scope behind it
pub record Adds (adds : List Entry → Names → List Mention) (more : ℕ) (old new : List Waiting) : Type 0 where
  pub found : (es : List Entry) (N : Names) → names_left es N (reverse new) ≡ adds es N ++ names_left es N (reverse old)
  pub behind : (N : Names) → scope_left N (reverse new) ≡ scope_left N (reverse old)
  pub left : work new ≡ more + work old
