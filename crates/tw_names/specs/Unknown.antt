-- The lowercase names of a text that name nothing.
use Rattle.std.specs.Prelude.{◌≡◌, ℕ, List, [], ◌∷◌, ◌++◌, Bool, true, false, ◌==◌, ◌&&◌, ◌||◌, Option, None, Some, nat_lt, nat_le, if◌then◌else◌, ◌⊎◌}
use Rattle.lf.specs.Entries.{Entry}
use Rattle.lf.specs.Syntax.{Head}
use Rattle.tw_fixity.specs.Names.{Names}
use Rattle.tw_names.specs.Scope.{binder_name, named}
use Rattle.tw_names.specs.declared.unknown.Mention.{Mention}
use Rattle.tw_lexer.specs.declared.place.Place.{Place}
use Rattle.tw_parse.specs.Syntax.{Term, Domain, identifier, hole, star, arrow, pi, lambda, application, ascription, untyped, typed, Declaration, declare, define, prefer, give}

-- a name that begins with `_` or A to Z, which may be that of a free variable
abbrev pub is_uppercase : List ℕ → Bool
is_uppercase [] = false
is_uppercase (c ∷ cs) = (c == 95) || (nat_le 65 c && nat_le c 90)

-- the identifier, where it names nothing and can be no free variable
abbrev pub unless_named : Option Head → Mention → List Mention
unless_named (Some h) m = []
unless_named None m = if is_uppercase m.name then [] else m ∷ []

abbrev mutual
  -- the lowercase names that are neither bound where they stand nor declared, in some order
  pub unknown_names : List Entry → Names → Term → List Mention
  unknown_names es N (identifier x at) = unless_named (named es N x) (record { name = x; at = at })
  unknown_names es N (hole at) = []
  unknown_names es N star = []
  unknown_names es N (arrow A B) = unknown_names es N A ++ unknown_names es N B
  unknown_names es N (pi x at D B) = unknown_in_domain es N D ++ unknown_names es (binder_name x ∷ N) B
  unknown_names es N (lambda x at D M) = unknown_in_domain es N D ++ unknown_names es (binder_name x ∷ N) M
  unknown_names es N (application M P) = unknown_names es N P ++ unknown_names es N M
  unknown_names es N (ascription M A) = unknown_names es N A ++ unknown_names es N M

  pub unknown_in_domain : List Entry → Names → Domain → List Mention
  unknown_in_domain es N untyped = []
  unknown_in_domain es N (typed A) = unknown_names es N A

-- under a binder
abbrev pub unknown_under : List Entry → Names → List ℕ → Domain → Term → List Mention
unknown_under es N x D B = unknown_in_domain es N D ++ unknown_names es (binder_name x ∷ N) B

-- of the type of a definition, if it is written
abbrev pub unknown_in_type : List Entry → Option Term → List Mention
unknown_in_type es None = []
unknown_in_type es (Some A) = unknown_names es [] A

abbrev pub unknown_in : List Entry → Declaration → List Mention
unknown_in es (declare c at U) = unknown_names es [] U
unknown_in es (define c A M b) = unknown_in_type es A ++ unknown_names es [] M
unknown_in es (prefer a x y) = []
unknown_in es (give fix names) = []

-- no later place
abbrev pub is_no_later : Place → Place → Bool
is_no_later p q = nat_lt p.line q.line || ((p.line == q.line) && nat_le p.column q.column)

-- one of them
abbrev pub IsOneOf : Mention → List Mention → Type 0
IsOneOf m [] = ⊥
IsOneOf m (n ∷ ns) = (m ≡ n) ⊎ IsOneOf m ns

-- one of them, and none stands before it
pub record IsFirst (m : Mention) (ms : List Mention) : Type 0 where
  pub stands : IsOneOf m ms
  pub no_earlier : (n : Mention) → IsOneOf n ms → is_no_later m.at n.at ≡ true
