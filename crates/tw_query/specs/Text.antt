-- The text of an answer: a line with its number, and a line for each variable of the query.
use Rattle.std.specs.Prelude.{ℕ, List, [], ◌∷◌, ◌++◌, length, Option, None, Some, codes, cond, decimal, replicate, slice_get}
use Rattle.std.specs.List.{slice_set}
use Rattle.lf.specs.Syntax.{LfType, Term, atom, pi}
use Rattle.lf.specs.Typing.{instantiate_type}
use Rattle.lf_unification.specs.Offering.{pi_over}
use Rattle.tw_fixity.specs.Names.{Names as Scope}
use Rattle.tw_metas.specs.State.{joined}
use Rattle.tw_print.specs.Names.{Scene}
use Rattle.tw_print.specs.Shown.{term_text_in}
use Rattle.tw_prune.specs.Walks.{eta_variable_under}
use Rattle.tw_shown.specs.Naming.{lacks_name, named}
use Rattle.tw_shown.specs.Shown.{shown_in_term}
use Rattle.tw_search.specs.Names.{place_of}
use Rattle.tw_signature.specs.Goal.{Goal}

-- a line: the name of a variable of the query, its value, and the type by which lambdas in it are shown
pub record Row : Type 0 where
  pub name : List ℕ
  pub value : Term
  pub of_type : LfType

-- Terms at a type, as arguments are: each has the domain of the type that is left once those before it are put in. The last type is the one that is left. Along
-- {N:nat} {V:vec N} t N V, the terms z and nil have the types nat and vec z, and t z nil is left.
abbrev pub types_along : LfType → List Term → List LfType
types_along A [] = A ∷ []
types_along (pi A B) (M ∷ Ms) = A ∷ types_along (instantiate_type A M B) Ms
types_along (atom a S) (M ∷ Ms) = atom a S ∷ []

-- a line, where there are a name, a term and a type
abbrev pub row_in : Option (List ℕ) → Option Term → Option LfType → List Row
row_in (Some x) (Some M) (Some A) = record { name = x; value = M; of_type = A } ∷ []
row_in (Some x) (Some M) None = []
row_in (Some x) None t = []
row_in None m t = []

-- at a place, if there is one
abbrev pub at : {A : Type 0} → List A → Option ℕ → Option A
at xs (Some i) = slice_get xs i
at xs None = None

-- Lines for these variables, where `values` has the outermost variable's first, and `types` are their types.
abbrev pub rows_for : Goal → List Term → List LfType → List ℕ → List Row
rows_for g values types [] = []
rows_for g values types (i ∷ is) = let place = place_of g.variables i in row_in (joined (slice_get g.names i)) (at values place) (at types place) ++ rows_for g values types is

-- The lines of an answer: one for each variable that is shown, in the order of the text, and one for the proof, if it has a name. `values` has the outermost variable's first.
abbrev pub rows_of : Goal → List Term → Option Term → List Row
rows_of g values proof =
    let types = types_along (pi_over g.variables g.goal) values in
    rows_for g values types g.shown ++ row_in g.proof proof (slice_get types (length g.variables))

-- the names with this one for a variable, unless it has one
abbrev pub with_given : Option ℕ → List ℕ → Scope → Scope
with_given (Some f) x names = cond (lacks_name (slice_get names f)) (slice_set names f (Some x)) names
with_given None x names = names

-- A free variable that is alone the value of a variable of the query, up to eta, has the name of the first such one.
abbrev pub given_names : List Row → Scope → Scope
given_names [] names = names
given_names (r ∷ rs) names = given_names rs (with_given (eta_variable_under 0 r.value) r.name names)

-- the free variables that the lines show, from the left
abbrev pub shown_in_rows : Scene → List LfType → List Row → List ℕ
shown_in_rows s F [] = []
shown_in_rows s F (r ∷ rs) = shown_in_term s F r.value r.of_type ++ shown_in_rows s F rs

-- the names of the query's variables, and of its proof
abbrev pub query_names : Goal → Scope
query_names g = g.proof ∷ g.names

-- The names of the free variables. Those without a given name take one when they are first shown; all names of the query are taken.
abbrev pub free_names : Scene → Goal → List LfType → List Row → Scope
free_names s g F rows = named s F (record { names = given_names rows (replicate (length F) None); taken = query_names g }) (shown_in_rows s F rows)

-- `X = M`, each behind a line feed
abbrev pub lines_of : Scene → List LfType → Scope → List Row → List ℕ
lines_of s F names [] = []
lines_of s F names (r ∷ rs) = (10 ∷ r.name ++ (codes " = " ++ term_text_in s F names r.value r.of_type)) ++ lines_of s F names rs

abbrev pub lines_or_empty : Scene → List LfType → Scope → List Row → List ℕ
lines_or_empty s F names [] = 10 ∷ codes "Empty Substitution."
lines_or_empty s F names (r ∷ rs) = lines_of s F names (r ∷ rs)

-- The text of the n-th answer, over the free variables F, without a line feed at its end: `solution n`, and a line for each variable that is shown and then for the proof, or that
-- there is none. Of `plus X Y Z` the first answer is `solution 1`, `X = z`, `Y = Y`, `Z = Y`.
abbrev pub answer_text : Scene → Goal → ℕ → List LfType → List Term → Option Term → List ℕ
answer_text s g n F values proof =
    let rows = rows_of g values proof in
    codes "solution " ++ (decimal n ++ lines_or_empty s F (free_names s g F rows) rows)
