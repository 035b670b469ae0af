-- What a check means: each of its types is read as one term and no other, and the rules of its keyword are kept.
use Rattle.std.specs.Prelude.{◌≡◌, ℕ, List, [], ◌∷◌, ◌++◌, map, length, Bool, true, false, Option, None, Some, codes, if◌then◌else◌}
use Rattle.std.specs.Str.{bytes_eq}
use Rattle.tw_parse.specs.Outlines.{Table, Outline}
use Rattle.tw_parse.specs.Readings.{Means}
use Rattle.tw_parse.specs.Syntax.{Term, identifier, star, pi, application, Domain, untyped, typed, declare}
use Rattle.tw_parse.specs.Words.{Lexeme}
use Rattle.tw_parse.specs.declared.decl.ExtName.{ExtName}
use Rattle.tw_parse_checks.specs.Checks.{Check, mode_short, mode_full, block, worlds, terminates, Call, Order, each, lexicographic, simultaneous, Orders, no_order, next_order}
use Rattle.tw_parse_checks.specs.Shapes.{Quantifier, Binder, Draft, short, full, blocked, in_worlds, ordered, Shapes}
use Rattle.tw_parse_checks.specs.declared.check.ExtMark.{ExtMark}

abbrev pub stands_in : List ℕ → List ExtName → Bool
stands_in x [] = false
stands_in x (y ∷ ys) = if bytes_eq x y.name then true else stands_in x ys

-- the name is that of one of these; `_` names nothing
abbrev pub is_among : List ℕ → List ExtName → Bool
is_among x ys = if bytes_eq x (codes "_") then false else stands_in x ys

-- no name stands twice
abbrev pub are_distinct : List ExtName → Bool
are_distinct [] = true
are_distinct (x ∷ xs) = if is_among x.name xs then false else are_distinct xs

abbrev pub are_among : List ExtName → List ExtName → Bool
are_among ys [] = true
are_among ys (x ∷ xs) = if is_among x.name ys then are_among ys xs else false

-- The rules of the full form: the quantified variables are distinct, and the family is applied to distinct ones of them. That it is applied to all of them is no rule here: some may be its implicit arguments, which aren't written.
abbrev pub keeps_rules : List ExtName → List ExtName → Bool
keeps_rules variables names = if are_distinct variables then (if are_distinct names then are_among variables names else false) else false

abbrev pub family_in : Call → ExtName
family_in c = c.family

-- the names within each pattern are distinct
abbrev pub have_distinct : List Call → Bool
have_distinct [] = true
have_distinct (c ∷ cs) = if are_distinct c.names then have_distinct cs else false

-- The rules of call patterns: a family is named in one pattern only, and the names within a pattern are distinct.
abbrev pub keep_apart : List Call → Bool
keep_apart cs = if are_distinct (map family_in cs) then have_distinct cs else false

-- the name stands in none of these patterns
abbrev pub none_has : List ℕ → List Call → Bool
none_has x [] = true
none_has x (c ∷ cs) = if is_among x c.names then false else none_has x cs

-- it stands in exactly one of them
abbrev pub one_has : List ℕ → List Call → Bool
one_has x [] = false
one_has x (c ∷ cs) = if is_among x c.names then none_has x cs else one_has x cs

-- there is one name for each of these patterns, in their order, and it stands in its pattern and in no other one of all
abbrev pub stand_each : List Call → List Call → List ExtName → Bool
stand_each all [] [] = true
stand_each all (c ∷ cs) (x ∷ xs) = if is_among x.name c.names then (if one_has x.name all then stand_each all cs xs else false) else false
stand_each all _ _ = false

-- The rule of orders: each of their variables stands in exactly one call pattern, and `(X Y ..)` has one for each pattern in order. With one pattern `X` is the same as `(X)`.
abbrev mutual
  pub fits : List Call → Order → Bool
  fits cs (each names) = stand_each cs cs names
  fits cs (lexicographic os) = all_fit cs os
  fits cs (simultaneous os) = all_fit cs os

  pub all_fit : List Call → Orders → Bool
  all_fit cs no_order = true
  all_fit cs (next_order o os) = if fits cs o then all_fit cs os else false

abbrev pub mark_in : Quantifier → ExtMark
mark_in q = q.mark

abbrev pub variable_in : Quantifier → ExtName
variable_in q = q.variable

-- a quantified variable without its mark
abbrev pub binder_in : Quantifier → Binder
binder_in q = record { variable = q.variable; type = Some q.type }

-- the term on these names
abbrev pub applied : Term → List ExtName → Term
applied M [] = M
applied M (y ∷ ys) = applied (application M (identifier y.name y.at)) ys

-- the family on its names
abbrev pub family_on : ExtName → List ExtName → Term
family_on a names = applied (identifier a.name a.at) names

-- what stands for the type of a binder
pub data MeansDomain : Option Outline → Domain → Type 0 where
  no_type : MeansDomain None untyped
  a_type : {U : Outline} {A : Term} → Means U A → MeansDomain (Some U) (typed A)

-- behind these binders, each of whose types means one term, the first term is the second one
pub data Binds : List Binder → Term → Term → Type 0 where
  no_variable : {B : Term} → Binds [] B B
  a_further_variable : {b : Binder} {bs : List Binder} {D : Domain} {B C : Term} → MeansDomain b.type D → Binds bs B C → Binds (b ∷ bs) B (pi b.variable.name b.variable.at D C)

-- what a draft means
pub data MeansCheck : Draft → Check → Type 0 where
  means_short : {a : ExtName} {marks : List ExtMark} → MeansCheck (short a marks) (mode_short a marks)
  means_full : {qs : List Quantifier} {a : ExtName} {names : List ExtName} {A : Term} → keeps_rules (map variable_in qs) names ≡ true → Binds (map binder_in qs) (family_on a names) A
      → MeansCheck (full qs a names) (mode_full (map mark_in qs) a (length names) (declare a.name a.at A))
  means_block : {l : ExtName} {ss bs : List Binder} {A : Term} → Binds (ss ++ bs) star A → MeansCheck (blocked l ss bs) (block l (length ss) (declare l.name l.at A))
  means_worlds : {ls : List ExtName} {cs : List Call} → keep_apart cs ≡ true → MeansCheck (in_worlds ls cs) (worlds ls cs)
  means_terminates : {o : Order} {cs : List Call} → keep_apart cs ≡ true → fits cs o ≡ true → MeansCheck (ordered o cs) (terminates o cs)

-- the tokens declare this check
abbrev pub DeclaresCheck : Table → List Lexeme → Check → Type 0
DeclaresCheck table tokens c = (D : Draft) × Shapes table tokens D × MeansCheck D c
