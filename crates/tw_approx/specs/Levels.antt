-- What stands at the level of types and can't: a definition, or a lambda.
use Rattle.std.specs.Prelude.{◌≡◌, List, [], ◌∷◌, ◌++◌, Bool, true, false, ◌||◌, Option, None, Some, ◌⊎◌, if◌then◌else◌}
use Rattle.lf.specs.Entries.{Entry, Body, declare_family, declare_constant, declare_definition, entry}
use Rattle.lf.specs.Syntax.{Head, constant}
use Rattle.tw_names.specs.Texts.{ends_in_type}
use Rattle.tw_names.specs.Scope.{binder_name, named}
use Rattle.tw_names.specs.Unknown.{is_no_later}
use Rattle.tw_lexer.specs.declared.place.Place.{Place}
use Rattle.tw_parse.specs.Syntax.{Term, Domain, identifier, hole, star, arrow, pi, lambda, application, ascription, untyped, typed, Declaration, declare, define, prefer, give}
use Rattle.tw_fixity.specs.Names.{Names}

abbrev mutual
  -- the places of the lambdas of a written term that stand where a type, a family or a kind is due, in some order
  pub lambdas_in_term : Term → List Place
  lambdas_in_term (identifier x at) = []
  lambdas_in_term (hole at) = []
  lambdas_in_term star = []
  lambdas_in_term (arrow U V) = lambdas_in_type U ++ lambdas_in_type V
  lambdas_in_term (pi x at D V) = lambdas_in_domain D ++ lambdas_in_type V
  lambdas_in_term (lambda x at D M) = lambdas_in_domain D ++ lambdas_in_term M
  lambdas_in_term (application M P) = lambdas_in_term P ++ lambdas_in_term M
  lambdas_in_term (ascription M A) = lambdas_in_type A ++ lambdas_in_term M

  -- the same where a type, a family or a kind is written
  pub lambdas_in_type : Term → List Place
  lambdas_in_type (identifier x at) = []
  lambdas_in_type (hole at) = []
  lambdas_in_type star = []
  lambdas_in_type (arrow U V) = lambdas_in_type U ++ lambdas_in_type V
  lambdas_in_type (pi x at D V) = lambdas_in_domain D ++ lambdas_in_type V
  lambdas_in_type (lambda x at D M) = at ∷ (lambdas_in_domain D ++ lambdas_in_type M)
  lambdas_in_type (application M P) = lambdas_in_term P ++ lambdas_in_type M
  lambdas_in_type (ascription M K) = lambdas_in_type K ++ lambdas_in_type M

  pub lambdas_in_domain : Domain → List Place
  lambdas_in_domain untyped = []
  lambdas_in_domain (typed A) = lambdas_in_type A

abbrev pub lambdas_in_written : Option Term → List Place
lambdas_in_written None = []
lambdas_in_written (Some A) = lambdas_in_type A

-- of a declaration
abbrev pub type_lambdas : Declaration → List Place
type_lambdas (declare c at U) = lambdas_in_type U
type_lambdas (define c A M b) = lambdas_in_written A ++ lambdas_in_term M
type_lambdas (prefer a x y) = []
type_lambdas (give fix names) = []

abbrev pub is_family_body : Body → Bool
is_family_body (declare_family K) = true
is_family_body (declare_constant A) = false
is_family_body (declare_definition M A b) = false

abbrev pub is_family_entry : Option Entry → Bool
is_family_entry None = false
is_family_entry (Some e) = is_family_body e.body

abbrev pub is_family : List Entry → Option Head → Bool
is_family es (Some (constant c)) = is_family_entry (entry es c)
is_family es _ = false

-- a type, a family or a kind is written; of a hole this isn't known
abbrev pub is_written_type : List Entry → Names → Term → Bool
is_written_type es N (identifier x at) = is_family es (named es N x)
is_written_type es N (hole at) = false
is_written_type es N star = true
is_written_type es N (arrow U V) = true
is_written_type es N (pi x at D V) = true
is_written_type es N (lambda x at D M) = is_written_type es (binder_name x ∷ N) M
is_written_type es N (application M P) = is_written_type es N M
is_written_type es N (ascription M A) = is_written_type es N M || ends_in_type A

abbrev pub is_written_kind : Option Term → Bool
is_written_kind None = false
is_written_kind (Some A) = ends_in_type A

-- what is defined is a type, a family or a kind, or a kind is written for it
abbrev pub is_type_definition : List Entry → Declaration → Bool
is_type_definition es (define c A M b) = is_written_type es [] M || is_written_kind A
is_type_definition es (declare c at U) = false
is_type_definition es (prefer a x y) = false
is_type_definition es (give fix names) = false

-- one of the places
abbrev pub IsAmong : Place → List Place → Type 0
IsAmong p [] = ⊥
IsAmong p (q ∷ qs) = (p ≡ q) ⊎ IsAmong p qs

-- one of the places, and none comes before it
pub record IsEarliest (p : Place) (ps : List Place) : Type 0 where
  pub stands : IsAmong p ps
  pub no_earlier : (q : Place) → IsAmong q ps → is_no_later p q ≡ true

-- the earlier of one that was found before and another; the earliest of one that was found before and some others
abbrev pub earlier : Option Place → Place → Place
earlier None q = q
earlier (Some p) q = if is_no_later p q then p else q

abbrev pub earliest : Option Place → List Place → Option Place
earliest o [] = o
earliest o (q ∷ qs) = earliest (Some (earlier o q)) qs
