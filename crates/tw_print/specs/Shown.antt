-- How terms, types and declarations are laid out.
use Rattle.std.specs.Prelude.{◌≡◌, refl, ℕ, suc, zero, ◌-◌, ◌^◌, nat_le, nat_lt, List, [], ◌∷◌, ◌++◌, drop, length, slice_get, Option, Some, None, Bool, true, false, cond, codes, if◌then◌else◌}
use Rattle.std.specs.FinMap as map
use Rattle.std.specs.Str.{bytes_eq}
use Rattle.lf.specs.Syntax.{Head, constant, variable, metavariable, Term, lambda, root, Spine, LfType, pi, atom, Kind, kind_pi, star}
use Rattle.lf.specs.Entries.{Entry, Body, entry, declare_family, declare_constant, declare_definition}
use Rattle.tw_fixity.specs.declared.table.Fix.{Fix}
use Rattle.tw_fixity.specs.declared.table.Fix.TheVariants.{Infix, Prefix, Postfix}
use Rattle.tw_print.specs.Pieces.{Piece, token, space, in_parentheses, render}
use Rattle.tw_fixity.specs.Names.{Names as Scope}
use Rattle.tw_print.specs.Names.{Scene, name_in, is_plain, constant_word, head_word, fresh_name, upper_base, lower_base}
use Rattle.tw_print.specs.Variables.{occurs_in_type, occurs_in_kind}
use Rattle.tw_print.specs.Arguments.{Argument, arguments, head_type, family_type, hidden, head_hidden, spine_length}

-- How the parts of a term or type are shown: a term at its type (a root needs none), and a type, each in a context of types with
-- the names of its variables.
pub record Parts : Type 0 where
  pub term : List LfType → Scope → Term → Option LfType → List Piece
  pub type : List LfType → Scope → LfType → List Piece

-- The operator as which a constant is shown: none where implicit arguments are shown or the constant is shadowed.
abbrev pub operator : Scene → ℕ → Option Fix
operator s c = cond s.implicit None (cond (is_plain s c) (map.get s.rows (name_in (entry s.entries c))) None)

abbrev pub head_operator : Scene → Head → Option Fix
head_operator s (constant c) = operator s c
head_operator s (variable i) = None
head_operator s (metavariable m) = None

-- how many operands an operator takes
abbrev pub operand_count : Fix → ℕ
operand_count (Infix a n) = 2
operand_count (Prefix n) = 1
operand_count (Postfix n) = 1

-- whether so many shown arguments are enough for an operator
abbrev pub has_operands : Option Fix → ℕ → Bool
has_operands (Some fix) k = nat_le (operand_count fix) k
has_operands None k = false

abbrev pub shown_count : Scene → Head → Spine → ℕ
shown_count s h S = spine_length S - head_hidden s h

-- An argument stands alone where it is a head without shown arguments.
abbrev pub is_bare : Scene → Term → Bool
is_bare s (lambda M) = false
is_bare s (root h S) = nat_le (shown_count s h S) 0

-- An operand stands in parentheses where it is a lambda or an application of an operator.
abbrev pub is_operation : Scene → Term → Bool
is_operation s (lambda M) = true
is_operation s (root h S) = has_operands (head_operator s h) (shown_count s h S)

abbrev pub in_parentheses_if : Bool → List Piece → List Piece
in_parentheses_if b ps = cond b (in_parentheses ps) ps

-- whether a type is a quantifier or an arrow
abbrev pub quantified_test : LfType → Bool
quantified_test (pi A B) = true
quantified_test (atom a S) = false

module _ (p : Parts) (s : Scene) (G : List LfType) (ns : Scope) where
  abbrev pub argument : Argument → List Piece
  argument a = cond (is_bare s a.0) (p.term G ns a.0 a.1) (in_parentheses (p.term G ns a.0 a.1))

  abbrev pub operand : Argument → List Piece
  operand a = in_parentheses_if (is_operation s a.0) (p.term G ns a.0 a.1)

  -- each after one space
  abbrev pub spaced : List Argument → List Piece
  spaced [] = []
  spaced (a ∷ xs) = (space ∷ argument a) ++ spaced xs

  -- an operation with further arguments
  abbrev pub followed : List Piece → List Argument → List Piece
  followed ps [] = ps
  followed ps (a ∷ xs) = in_parentheses ps ++ spaced (a ∷ xs)

  abbrev pub plain_application : List ℕ → List Argument → List Piece
  plain_application word xs = token word ∷ spaced xs

  -- an operator between, before or behind its operands, which are the first arguments
  abbrev pub operation : List ℕ → Fix → List Argument → List Piece
  operation word (Infix a n) (l ∷ r ∷ xs) = operand l ++ (space ∷ token word ∷ space ∷ operand r)
  operation word (Infix a n) (l ∷ []) = []
  operation word (Infix a n) [] = []
  operation word (Prefix n) (x ∷ xs) = token word ∷ space ∷ operand x
  operation word (Prefix n) [] = []
  operation word (Postfix n) (x ∷ xs) = operand x ++ (space ∷ token word ∷ [])
  operation word (Postfix n) [] = []

  -- A word with its shown arguments. An operator with too few of them is shown as a plain head.
  abbrev pub application : List ℕ → Option Fix → List Argument → List Piece
  application word (Some fix) xs = cond (nat_le (operand_count fix) (length xs)) (followed (operation word fix xs) (drop (operand_count fix) xs)) (plain_application word xs)
  application word None xs = plain_application word xs

  abbrev pub root_pieces : Head → Spine → List Piece
  root_pieces h S = application (head_word s ns h) (head_operator s h) (drop (head_hidden s h) (arguments (head_type s G h) S))

  abbrev pub atom_pieces : ℕ → Spine → List Piece
  atom_pieces a S = application (constant_word s a) (operator s a) (drop (hidden s a) (arguments (family_type s a) S))

  -- What stands before the rest of a quantified type: `{x:A} ` where the variable has a name, and else `A -> `.
  abbrev pub quantifier : Option (List ℕ) → LfType → List Piece
  quantifier (Some x) A = (token (codes "{") ∷ token x ∷ token (codes ":") ∷ p.type G ns A) ++ token (codes "}") ∷ space ∷ []
  quantifier None A = in_parentheses_if (quantified_test A) (p.type G ns A) ++ space ∷ token (codes "->") ∷ space ∷ []

  -- What stands before the body of a lambda.
  abbrev pub abstraction : List ℕ → LfType → List Piece
  abstraction x A = (token (codes "[") ∷ token x ∷ token (codes ":") ∷ p.type G ns A) ++ token (codes "]") ∷ space ∷ []

-- The name of a quantifier's variable: one from the base where the variable occurs in the rest; that of an arrow has none.
abbrev pub quantifier_name : Scene → Scope → Bool → List ℕ → Option (List ℕ)
quantifier_name s ns occurring base = cond occurring (Some (fresh_name s ns base)) None

module _ (p : Parts) (s : Scene) where
  abbrev pub term_layout : List LfType → Scope → Term → Option LfType → List Piece
  term_layout G ns (root h S) t = root_pieces p s G ns h S
  term_layout G ns (lambda M) (Some (pi A B)) = let x = fresh_name s ns (lower_base s A) in abstraction p s G ns x A ++ p.term (A ∷ G) (Some x ∷ ns) M (Some B)
  term_layout G ns (lambda M) (Some (atom a T)) = []
  term_layout G ns (lambda M) None = []

  abbrev pub type_layout : List LfType → Scope → LfType → List Piece
  type_layout G ns (pi A B) = let x = quantifier_name s ns (occurs_in_type 0 B) (lower_base s A) in quantifier p s G ns x A ++ p.type (A ∷ G) (x ∷ ns) B
  type_layout G ns (atom a S) = atom_pieces p s G ns a S

-- What nests deeper than the levels has no text: 256 is no byte, so no bytes are equal to this.
abbrev pub no_text : List Piece
no_text = token (256 ∷ []) ∷ []

-- What nests no deeper than the levels.
abbrev pub parts : Scene → ℕ → Parts
parts s zero = record { term = λ G ns M t. no_text; type = λ G ns A. no_text }
parts s (suc n) = record { term = term_layout (parts s n) s; type = type_layout (parts s n) s }

-- How deep the parts of a shown text nest, at most. What nests deeper has more than 2^63 bytes, and no memory holds so many. The law of levels
-- (`Levels`) says so: a text of at most as many bytes is that of every larger number of levels.
pub nesting_limit : ℕ
nesting_limit = 2 ^ 63

pub nesting_limit_is : nesting_limit ≡ 2 ^ 63
unfolding nesting_limit
nesting_limit_is = refl

-- The leading quantifiers of a declaration, numbered from 0. Their base is the hint; without one it is the uppercase base for an implicit one.
abbrev pub hint_in : Option (Option (List ℕ)) → Option (List ℕ)
hint_in (Some h) = h
hint_in None = None

abbrev pub base_by : Option (List ℕ) → List ℕ → List ℕ
base_by (Some hint) base = hint
base_by None base = base

abbrev pub leading_base : Scene → ℕ → List (Option (List ℕ)) → ℕ → LfType → List ℕ
leading_base s implicit hints k A = base_by (hint_in (slice_get hints k)) (if nat_lt k implicit then upper_base s A else lower_base s A)

module _ (s : Scene) (implicit : ℕ) (hints : List (Option (List ℕ))) where
  abbrev pub leading_name : Scope → Bool → ℕ → LfType → Option (List ℕ)
  leading_name ns occurring k A = quantifier_name s ns occurring (leading_base s implicit hints k A)

  abbrev pub leading_type : ℕ → ℕ → List LfType → Scope → LfType → List Piece
  leading_type zero k G ns A = no_text
  leading_type (suc n) k G ns (pi A B) = let x = leading_name ns (occurs_in_type 0 B) k A in quantifier (parts s n) s G ns x A ++ leading_type n (suc k) (A ∷ G) (x ∷ ns) B
  leading_type (suc n) k G ns (atom a S) = atom_pieces (parts s n) s G ns a S

  abbrev pub leading_kind : ℕ → ℕ → List LfType → Scope → Kind → List Piece
  leading_kind zero k G ns K = no_text
  leading_kind (suc n) k G ns (kind_pi A K) = let x = leading_name ns (occurs_in_kind 0 K) k A in quantifier (parts s n) s G ns x A ++ leading_kind n (suc k) (A ∷ G) (x ∷ ns) K
  leading_kind (suc n) k G ns star = token (codes "type") ∷ []

-- An abbreviation has its keyword in front.
abbrev pub keyword : Body → List Piece
keyword (declare_definition M A b) = cond b (token (codes "%abbrev") ∷ space ∷ []) []
keyword (declare_family K) = []
keyword (declare_constant A) = []

-- the type or kind
abbrev pub classifier : Scene → ℕ → List (Option (List ℕ)) → Body → List Piece
classifier s implicit hints (declare_family K) = leading_kind s implicit hints nesting_limit 0 [] [] K
classifier s implicit hints (declare_constant A) = leading_type s implicit hints nesting_limit 0 [] [] A
classifier s implicit hints (declare_definition M A b) = leading_type s implicit hints nesting_limit 0 [] [] A

-- the term of a definition
abbrev pub defined_as : Scene → Body → List Piece
defined_as s (declare_definition M A b) = (space ∷ token (codes "=") ∷ space ∷ []) ++ (parts s nesting_limit).term [] [] M (Some A)
defined_as s (declare_family K) = []
defined_as s (declare_constant A) = []

-- `c : U.`, `d : U = M.` or `%abbrev d : U = M.`. The declared name stands plain, also where it is shadowed.
abbrev pub declaration : Scene → Entry → List Piece
declaration s e = keyword e.body ++ ((token e.name ∷ space ∷ token (codes ":") ∷ space ∷ classifier s e.implicit e.hints e.body) ++ (defined_as s e.body ++ token (codes ".") ∷ []))

-- its bytes, without a line feed
abbrev pub declaration_line : Scene → Entry → List ℕ
declaration_line s e = render (declaration s e)

abbrev pub line_in : Scene → Option Entry → List ℕ
line_in s (Some e) = declaration_line s e
line_in s None = []

-- the line of the entry of this number
abbrev pub line_of : Scene → ℕ → List ℕ
line_of s c = line_in s (entry s.entries c)

-- The scene once an entry is added and the row of its name has left the table. What is declared as `_` isn't added.
abbrev pub is_nameless : Entry → Bool
is_nameless e = bytes_eq e.name (codes "_")

abbrev pub scene_after : Scene → Entry → Scene
scene_after s e = cond (is_nameless e) s (record { entries = e ∷ s.entries; rows = map.remove s.rows e.name; names = s.names; implicit = s.implicit })

-- The variables of a context have names like any other variable, the outermost first.
abbrev pub context_names : Scene → List LfType → Scope
context_names s [] = []
context_names s (A ∷ G) = let ns = context_names s G in Some (fresh_name s ns (lower_base s A)) ∷ ns

abbrev pub type_text : Scene → List LfType → LfType → List ℕ
type_text s G A = render ((parts s nesting_limit).type G (context_names s G) A)

abbrev pub term_text : Scene → List LfType → Term → LfType → List ℕ
term_text s G M A = render ((parts s nesting_limit).term G (context_names s G) M (Some A))

-- the same in a context whose variables have these names
abbrev pub term_text_in : Scene → List LfType → Scope → Term → LfType → List ℕ
term_text_in s G ns M A = render ((parts s nesting_limit).term G ns M (Some A))

-- `M = N`, two terms of a type in such a context
abbrev pub equal_text : Scene → List LfType → Scope → Term → Term → LfType → List ℕ
equal_text s G ns M N A = let p = parts s nesting_limit in render (p.term G ns M (Some A) ++ ((space ∷ token (codes "=") ∷ space ∷ []) ++ p.term G ns N (Some A)))
