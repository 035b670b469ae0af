-- The definition that `%solve` keeps of an answer.
use Rattle.std.specs.Prelude.{◌≡◌, ℕ, List, [], ◌∷◌, ◌++◌, length, map as each, Option, None, Some, ◌⊎◌, false, option_map, slice_get}
use Rattle.lf.specs.Entries.{Entry, IsCanonicalEntry, declare_definition, quantifiers, signature_of}
use Rattle.lf.specs.Eta.{eta_long}
use Rattle.lf.specs.Syntax.{LfType, Term, skeleton, variable}
use Rattle.lf_search.specs.Answers.{at_values}
use Rattle.lf_search.specs.Bounded as bounded
use Rattle.lf_unification.specs.Offering.{lambda_over, pi_over}
use Rattle.tw_metas.specs.State.{joined}
use Rattle.tw_names.specs.Texts.{hints}
use Rattle.tw_parse.specs.Queries.{Query}
use Rattle.tw_parse.specs.Syntax as written
use Rattle.tw_query.specs.declared.run.Leaf.{Leaf}
use Rattle.tw_query.specs.declared.run.QueryEnd.{QueryEnd}
use Rattle.tw_recon.specs.Hints.{fitted}
use Rattle.tw_reorder.specs.Reordered.{AreReordered}
use Rattle.tw_search.specs.Answers.{values_of}
use Rattle.tw_search.specs.declared.answer.Answer.{Answer}
use Rattle.tw_signature.specs.Goal.{Goal}
use Rattle.tw_terms.specs.View.{term_of}
use Rattle.tw_decl.specs.Searching.{Runs, first_answer}
use Rattle.tw_decl.specs.View.{View}

-- the query of `%solve c : A`: the proof of A has the name c, so it is read
abbrev pub solve_query : List ℕ → written.Term → Query
solve_query c A = record { proof = Some c; goal = A }

-- the goal with the answer's values put in
abbrev pub answer_type : Goal → Answer → LfType
answer_type g a = at_values g.variables (values_of a) g.goal

-- The value of this variable of the query is the free variable f alone, up to eta.
abbrev pub IsAlone : Answer → ℕ → ℕ → Type 0
IsAlone a i f = (A : LfType) × (slice_get a.free f ≡ Some A) × (slice_get (values_of a) i ≡ Some (eta_long (skeleton A) (variable f)))

-- the name of the first of these variables whose value it is, if it is the value of one
abbrev pub NamedBy : Goal → Answer → List ℕ → ℕ → Option (List ℕ) → Type 0
NamedBy g a [] f h = h ≡ None
NamedBy g a (i ∷ is) f h = (IsAlone a i f × (h ≡ joined (slice_get g.names i))) ⊎ ((IsAlone a i f → ⊥) × NamedBy g a is f h)

-- The hints of free variables, by the named variables of the query in the order of the text. Of `plus X Y Z`, where Y and Z are the free variable y, it is Y.
abbrev pub AreHints : Goal → Answer → List ℕ → List (Option (List ℕ)) → Type 0
AreHints g a [] [] = Unit {0}
AreHints g a [] (h ∷ hs) = ⊥
AreHints g a (f ∷ fs) [] = ⊥
AreHints g a (f ∷ fs) (h ∷ hs) = NamedBy g a g.shown f h × AreHints g a fs hs

-- The entry of an answer: a definition by its proof, over its free variables as implicit quantifiers. These are ordered by dependency and, where that leaves it open, by first occurrence in the
-- answer's type, in its proof, in the values of the query's variables, and in the types of the variables so far. `%solve two : plus (s z) (s z) X.` keeps `two : plus (s z) (s z) (s (s z)) =
-- plus-s plus-z.`; behind the implicit quantifiers stand those of the goal, with the names of their binders.
pub record IsSolution (c : List ℕ) (A : written.Term) (g : Goal) (a : Answer) (e : Entry) : Type 0 where
  pub answer_proof : Term
  pub is_read : option_map term_of a.proof ≡ Some answer_proof
  pub order : List ℕ
  pub context : List LfType
  pub of_type : LfType
  pub proof : Term
  pub reordered : AreReordered a.free (answer_type g a) answer_proof (each term_of a.values.items) order context of_type proof
  pub named : List (Option (List ℕ))
  pub are_hints : AreHints g a order named
  pub name : e.name ≡ c
  pub body : e.body ≡ declare_definition (lambda_over context proof) (pi_over context of_type) false
  pub implicit : e.implicit ≡ length context
  pub hints_are : e.hints ≡ named ++ fitted (quantifiers of_type) (hints A)

-- The definition by the first answer of a goal, which may stand over the signature.
pub record IsFound (v : View) (c : List ℕ) (A : written.Term) (e : Entry) : Type 0 where
  pub goal : Goal
  pub leaves : List Leaf
  pub end : QueryEnd
  pub tries : ℕ
  pub runs : Runs v (solve_query c A) (bounded.number 1) goal leaves end tries
  pub answer : Answer
  pub is_first : first_answer leaves ≡ Some answer
  pub solution : IsSolution c A goal answer e
  pub stands : IsCanonicalEntry (signature_of v.signature) e
