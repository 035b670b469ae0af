-- What a text shows, as a tree: the words and what hangs on them, before spaces and parentheses are put.
use Rattle.std.specs.Prelude.{ℕ, suc, zero, List, [], ◌∷◌, drop, Option, Some, None, Bool, true, false}
use Rattle.lf.specs.Syntax.{Head, constant, Term, lambda, root, Spine, LfType, pi, atom, Kind, kind_pi, star}
use Rattle.lf.specs.Entries.{Body, declare_family, declare_constant, declare_definition}
use Rattle.tw_fixity.specs.declared.table.Fix.{Fix}
use Rattle.tw_print.specs.Arguments.{Argument, arguments, head_type, family_type, hidden, head_hidden}
use Rattle.tw_fixity.specs.Names.{Names as Scope}
use Rattle.tw_print.specs.Names.{Scene, constant_word, head_word, fresh_name, lower_base}
use Rattle.tw_print.specs.Shown.{operator, head_operator, is_bare, is_operation, quantified_test, quantifier_name, leading_name, nesting_limit}
use Rattle.tw_print.specs.Variables.{occurs_in_type, occurs_in_kind}

-- What a part is: a head alone, which needs no parentheses; a head with arguments, which needs them as an argument; or what needs them as an
-- operand too, as a lambda or an operator with its operands.
pub data Manner : Type 0 where
  alone : Manner
  row : Manner
  operation : Manner

mutual
  -- A head with its word, the operator that it is shown as, if any, and its shown arguments; an arrow; a quantifier and a lambda with the
  -- name of the variable; `type`; what nests too deep to be shown; and what has no type.
  pub data Sketch : Type 0 where
    applied : Head → List ℕ → Option Fix → Sketches → Sketch
    arrow : Manner → Sketch → Sketch → Sketch
    quantified : List ℕ → Sketch → Sketch → Sketch
    abstracted : List ℕ → Sketch → Sketch → Sketch
    kind : Sketch
    too_deep : Sketch
    untyped : Sketch

  pub data Sketches : Type 0 where
    none : Sketches
    more : Manner → Sketch → Sketches → Sketches

-- How parts are sketched: a term at its type (a root needs none), and a type, each in a context of types with the names of its variables.
pub record Hand : Type 0 where
  pub term : List LfType → Scope → Term → Option LfType → Sketch
  pub type : List LfType → Scope → LfType → Sketch

abbrev pub manner_by : Bool → Bool → Manner
manner_by true b = alone
manner_by false true = operation
manner_by false false = row

abbrev pub manner : Scene → Term → Manner
manner s M = manner_by (is_bare s M) (is_operation s M)

abbrev pub type_manner : LfType → Manner
type_manner A = manner_by false (quantified_test A)

abbrev pub quantified_by : Option (List ℕ) → Manner → Sketch → Sketch → Sketch
quantified_by (Some x) m U V = quantified x U V
quantified_by None m U V = arrow m U V

module _ (p : Hand) (s : Scene) (G : List LfType) (ns : Scope) where
  abbrev pub sketches : List Argument → Sketches
  sketches [] = none
  sketches (a ∷ xs) = more (manner s a.0) (p.term G ns a.0 a.1) (sketches xs)

  abbrev pub root_sketch : Head → Spine → Sketch
  root_sketch h S = applied h (head_word s ns h) (head_operator s h) (sketches (drop (head_hidden s h) (arguments (head_type s G h) S)))

  abbrev pub atom_sketch : ℕ → Spine → Sketch
  atom_sketch a S = applied (constant a) (constant_word s a) (operator s a) (sketches (drop (hidden s a) (arguments (family_type s a) S)))

module _ (p : Hand) (s : Scene) where
  abbrev pub term_sketch : List LfType → Scope → Term → Option LfType → Sketch
  term_sketch G ns (root h S) t = root_sketch p s G ns h S
  term_sketch G ns (lambda M) (Some (pi A B)) = let x = fresh_name s ns (lower_base s A) in abstracted x (p.type G ns A) (p.term (A ∷ G) (Some x ∷ ns) M (Some B))
  term_sketch G ns (lambda M) (Some (atom a T)) = untyped
  term_sketch G ns (lambda M) None = untyped

  abbrev pub type_sketch : List LfType → Scope → LfType → Sketch
  type_sketch G ns (pi A B) = let x = quantifier_name s ns (occurs_in_type 0 B) (lower_base s A) in quantified_by x (type_manner A) (p.type G ns A) (p.type (A ∷ G) (x ∷ ns) B)
  type_sketch G ns (atom a S) = atom_sketch p s G ns a S

-- what nests no deeper than the levels
abbrev pub hand : Scene → ℕ → Hand
hand s zero = record { term = λ G ns M t. too_deep; type = λ G ns A. too_deep }
hand s (suc n) = record { term = term_sketch (hand s n) s; type = type_sketch (hand s n) s }

-- the type or kind of a declaration, whose leading quantifiers have hints
module _ (s : Scene) (implicit : ℕ) (hints : List (Option (List ℕ))) where
  abbrev pub leading_type_sketch : ℕ → ℕ → List LfType → Scope → LfType → Sketch
  leading_type_sketch zero k G ns A = too_deep
  leading_type_sketch (suc n) k G ns (pi A B) = let x = leading_name s implicit hints ns (occurs_in_type 0 B) k A in quantified_by x (type_manner A) ((hand s n).type G ns A) (leading_type_sketch n (suc k) (A ∷ G) (x ∷ ns) B)
  leading_type_sketch (suc n) k G ns (atom a S) = atom_sketch (hand s n) s G ns a S

  abbrev pub leading_kind_sketch : ℕ → ℕ → List LfType → Scope → Kind → Sketch
  leading_kind_sketch zero k G ns K = too_deep
  leading_kind_sketch (suc n) k G ns (kind_pi A K) = let x = leading_name s implicit hints ns (occurs_in_kind 0 K) k A in quantified_by x (type_manner A) ((hand s n).type G ns A) (leading_kind_sketch n (suc k) (A ∷ G) (x ∷ ns) K)
  leading_kind_sketch (suc n) k G ns star = kind

  abbrev pub classifier_sketch : Body → Sketch
  classifier_sketch (declare_family K) = leading_kind_sketch nesting_limit 0 [] [] K
  classifier_sketch (declare_constant A) = leading_type_sketch nesting_limit 0 [] [] A
  classifier_sketch (declare_definition M A b) = leading_type_sketch nesting_limit 0 [] [] A

-- the term of a definition at its type
abbrev pub defined_sketch : Scene → Term → LfType → Sketch
defined_sketch s M A = (hand s nesting_limit).term [] [] M (Some A)
