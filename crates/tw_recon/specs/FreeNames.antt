-- The free variables of a text, where they stand.
use Rattle.std.specs.Prelude.{List, [], ◌∷◌, ◌++◌, ℕ, Option, None, Some, if◌then◌else◌}
use Rattle.lf.specs.Entries.{Entry}
use Rattle.lf.specs.Syntax.{Head}
use Rattle.tw_approx.specs.Names.{IsFreeIn}
use Rattle.tw_fixity.specs.Names.{Names}
use Rattle.tw_names.specs.Scope.{binder_name, named}
use Rattle.tw_names.specs.Unknown.{IsFirst, is_uppercase}
use Rattle.tw_names.specs.declared.unknown.Mention.{Mention}
use Rattle.tw_parse.specs.Syntax.{Domain, Term, application, arrow, ascription, hole, identifier, lambda, pi, star, typed, untyped}

-- the identifier, where it names nothing and may be a free variable
abbrev pub where_free : Option Head → Mention → List Mention
where_free (Some h) m = []
where_free None m = if is_uppercase m.name then m ∷ [] else []

abbrev mutual
  -- The uppercase names that are neither bound where they stand nor declared, in some order. In `{X:nat} plus X Y Y` these are the two Y.
  pub free_names : List Entry → Names → Term → List Mention
  free_names es N (identifier x at) = where_free (named es N x) (record { name = x; at = at })
  free_names es N (hole at) = []
  free_names es N star = []
  free_names es N (arrow U V) = free_names es N U ++ free_names es N V
  free_names es N (pi x at D V) = free_in_domain es N D ++ free_names es (binder_name x ∷ N) V
  free_names es N (lambda x at D M) = free_in_domain es N D ++ free_names es (binder_name x ∷ N) M
  free_names es N (application M P) = free_names es N P ++ free_names es N M
  free_names es N (ascription M A) = free_names es N A ++ free_names es N M

  pub free_in_domain : List Entry → Names → Domain → List Mention
  free_in_domain es N untyped = []
  free_in_domain es N (typed A) = free_names es N A

-- under a binder
abbrev pub free_under : List Entry → Names → List ℕ → Domain → Term → List Mention
free_under es N x D V = free_in_domain es N D ++ free_names es (binder_name x ∷ N) V

-- no name is a free variable of the text: `{X:nat} plus X z X` has none, and `plus X z X` has X
abbrev pub HasNoFreeVariable : List Entry → Term → Type 0
HasNoFreeVariable es A = (x : List ℕ) → IsFreeIn es x [] A → ⊥

-- A free variable of the text, at the first place at which one stands: of `q Y <- r X` it is Y, since it stands before X.
pub record IsFirstFreeVariable (es : List Entry) (A : Term) (m : Mention) : Type 0 where
  pub free : IsFreeIn es m.name [] A
  pub first : IsFirst m (free_names es [] A)
