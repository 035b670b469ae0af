-- The grammar of sequences and declarations, with operators not looked at: what tokens are before their sequences are read.
use Rattle.std.specs.Prelude.{◌≡◌, ℕ, List, [], ◌∷◌, ◌++◌, Bool, true, false, Option, None, Some, map}
use Rattle.std.specs.FinMap.{FinMap, get}
use Rattle.tw_fixity.specs.Rows.{name_order}
use Rattle.tw_fixity.specs.declared.table.Fix.{Fix}
use Rattle.tw_lexer.specs.declared.place.Place.{Place}
use Rattle.tw_parse.specs.Keywords.{form_of, fix_of, is_upper, is_identifier}
use Rattle.tw_parse.specs.Syntax.{Term, identifier, hole, star, DeclarationOf, declare, define, prefer, give}
use Rattle.tw_parse.specs.Words.{Lexeme, separator_of, binder_of, closer_of, is_bindable}
use Rattle.tw_parse.specs.declared.words.Word.{Word}
use Rattle.tw_parse.specs.declared.words.Word.TheVariants.{Name, Underscore, Star as StarWord, Equals, Colon, Dot, Keyword, LParen, RParen}
use Rattle.tw_parse.specs.declared.words.Binder.{Binder}
use Rattle.tw_parse.specs.declared.words.Form.TheVariants.{Abbreviation, Preference}
use Rattle.tw_parse.specs.declared.sign.Sign.{Sign}
use Rattle.tw_parse.specs.declared.sign.Sign.TheVariants.{Separator, Operator}
use Rattle.tw_parse.specs.declared.decl.ExtName.{ExtName}

-- the rows of the operators
abbrev pub Table : Type 0
Table = FinMap name_order Fix

abbrev pub operator_with : List ℕ → Place → Option Fix → Option Sign
operator_with x at None = None
operator_with x at (Some fix) = Some (Operator x at fix)

abbrev pub operator_of : Table → Word → List ℕ → Place → Option Sign
operator_of table Name x at = operator_with x at (get table x)
operator_of table _ x at = None

-- the sign that a token is, if it is one: a separator, or a name that has a row
abbrev pub sign_of : Table → Lexeme → Option Sign
sign_of table x = elim (separator_of x.word) [ Some by ↦ Some (Separator by) | None ↦ operator_of table x.word x.bytes x.at ]

mutual
  -- a sequence: the place of its first token, and what stands in it
  pub data Outline : Type 0 where
    outline : Place → Nodes → Outline

  -- from left to right
  pub data Nodes : Type 0 where
    none : Nodes
    more : Nodes → Node → Nodes

  -- an atom of one token, as its term; a sign; a sequence in parentheses; a binder over the rest of its sequence, without and with a type
  pub data Node : Type 0 where
    leaf : Term → Node
    mark : Sign → Node
    group : Outline → Node
    binding : Binder → List ℕ → Place → Outline → Node
    typed_binding : Binder → List ℕ → Place → Outline → Outline → Node

mutual
  -- the tokens begin with this node, no binder, and these stand behind it
  pub data Begins (table : Table) : List Lexeme → Node → List Lexeme → Type 0 where
    a_sign : {x : Lexeme} {rest : List Lexeme} {s : Sign} → sign_of table x ≡ Some s → Begins table (x ∷ rest) (mark s) rest
    a_name : {x : Lexeme} {rest : List Lexeme} → x.word ≡ Name → get table x.bytes ≡ None → Begins table (x ∷ rest) (leaf (identifier x.bytes x.at)) rest
    a_hole : {x : Lexeme} {rest : List Lexeme} → x.word ≡ Underscore → Begins table (x ∷ rest) (leaf (hole x.at)) rest
    a_type : {x : Lexeme} {rest : List Lexeme} → x.word ≡ StarWord → Begins table (x ∷ rest) (leaf star) rest
    a_group : {open_paren close_paren : Lexeme} {tokens rest : List Lexeme} {O : Outline} → open_paren.word ≡ LParen
        → Sequence table tokens O (close_paren ∷ rest) → close_paren.word ≡ RParen → Begins table (open_paren ∷ tokens) (group O) rest

  -- the same of nodes in a row, none of them a binder
  pub data Row (table : Table) : List Lexeme → Nodes → List Lexeme → Type 0 where
    empty : {tokens : List Lexeme} → Row table tokens none tokens
    one_more : {tokens next rest : List Lexeme} {row : Nodes} {n : Node} → Row table tokens row next → Begins table next n rest → Row table tokens (more row n) rest

  -- the same of a sequence: one node or more, where a binder takes all that stands behind it, and so is the last node
  pub data Sequence (table : Table) : List Lexeme → Outline → List Lexeme → Type 0 where
    plain : {x : Lexeme} {tokens rest : List Lexeme} {row : Nodes} {n : Node} → Row table (x ∷ tokens) (more row n) rest → Sequence table (x ∷ tokens) (outline x.at (more row n)) rest
    with_binder : {x : Lexeme} {tokens next rest : List Lexeme} {row : Nodes} {n : Node} → Row table (x ∷ tokens) row next → Binds table next n rest → Sequence table (x ∷ tokens) (outline x.at (more row n)) rest

  -- the same of a binder with its body
  pub data Binds (table : Table) : List Lexeme → Node → List Lexeme → Type 0 where
    without_type : {binder : Binder} {opener x closer : Lexeme} {tokens rest : List Lexeme} {O : Outline} → binder_of opener.word ≡ Some binder → is_bindable x.word ≡ true → closer.word ≡ closer_of binder
        → Sequence table tokens O rest → Binds table (opener ∷ x ∷ closer ∷ tokens) (binding binder x.bytes opener.at O) rest
    with_type : {binder : Binder} {opener x colon closer : Lexeme} {tokens next rest : List Lexeme} {D O : Outline} → binder_of opener.word ≡ Some binder → is_bindable x.word ≡ true → colon.word ≡ Colon
        → Sequence table tokens D (closer ∷ next) → closer.word ≡ closer_of binder
        → Sequence table next O rest → Binds table (opener ∷ x ∷ colon ∷ tokens) (typed_binding binder x.bytes opener.at D O) rest

-- the tokens begin with what is defined, and these stand behind it: a name, `_` for none, or `%abbrev` and a name
pub data Head : List Lexeme → Option (List ℕ) → Bool → List Lexeme → Type 0 where
  a_definition : {x : Lexeme} {rest : List Lexeme} → x.word ≡ Name → Head (x ∷ rest) (Some x.bytes) false rest
  a_check : {x : Lexeme} {rest : List Lexeme} → x.word ≡ Underscore → Head (x ∷ rest) None false rest
  an_abbreviation : {keyword x : Lexeme} {rest : List Lexeme} → keyword.word ≡ Keyword → form_of keyword.bytes ≡ Some Abbreviation → x.word ≡ Name → Head (keyword ∷ x ∷ rest) (Some x.bytes) true rest

abbrev pub bytes_in : Lexeme → List ℕ
bytes_in x = x.bytes

-- a token as a name that is looked up
abbrev pub named : Lexeme → ExtName
named x = record { name = x.bytes; at = x.at }

-- each token is an identifier, and these are the names
pub data Names : List Lexeme → List ExtName → Type 0 where
  no_names : Names [] []
  a_further_name : {x : Lexeme} {xs : List Lexeme} {names : List ExtName} → is_identifier x.word ≡ true → Names xs names → Names (x ∷ xs) (named x ∷ names)

-- the tokens are the declaration, with its sequences not read
pub data Shapes (table : Table) : List Lexeme → DeclarationOf Outline → Type 0 where
  declares : {x colon dot : Lexeme} {tokens : List Lexeme} {U : Outline} → x.word ≡ Name → colon.word ≡ Colon → Sequence table tokens U (dot ∷ []) → dot.word ≡ Dot
      → Shapes table (x ∷ colon ∷ tokens) (declare x.bytes x.at U)
  defines : {equals dot : Lexeme} {all tokens : List Lexeme} {name : Option (List ℕ)} {b : Bool} {M : Outline} → Head all name b (equals ∷ tokens) → equals.word ≡ Equals → Sequence table tokens M (dot ∷ []) → dot.word ≡ Dot
      → Shapes table all (define name None M b)
  defines_typed : {colon equals dot : Lexeme} {all tokens next : List Lexeme} {name : Option (List ℕ)} {b : Bool} {U M : Outline} → Head all name b (colon ∷ tokens) → colon.word ≡ Colon
      → Sequence table tokens U (equals ∷ next) → equals.word ≡ Equals → Sequence table next M (dot ∷ []) → dot.word ≡ Dot → Shapes table all (define name (Some U) M b)
  -- `%name a X.`, where X begins with `_` or an uppercase letter and has no fixed meaning
  prefers : {keyword a x dot : Lexeme} → keyword.word ≡ Keyword → form_of keyword.bytes ≡ Some Preference → is_identifier a.word ≡ true → x.word ≡ Name → is_upper x.bytes ≡ true → dot.word ≡ Dot
      → Shapes table (keyword ∷ a ∷ x ∷ dot ∷ []) (prefer (named a) x.bytes None)
  -- `%name a X x.`, where x begins otherwise
  prefers_both : {keyword a x y dot : Lexeme} → keyword.word ≡ Keyword → form_of keyword.bytes ≡ Some Preference → is_identifier a.word ≡ true → x.word ≡ Name → is_upper x.bytes ≡ true → y.word ≡ Name → is_upper y.bytes ≡ false → dot.word ≡ Dot
      → Shapes table (keyword ∷ a ∷ x ∷ y ∷ dot ∷ []) (prefer (named a) x.bytes (Some y.bytes))
  -- `%infix left 10 c d.`, `%prefix 10 c.`, with one name at least
  gives : {keyword : Lexeme} {tokens : List Lexeme} (words xs : List Lexeme) (dot : Lexeme) {fix : Fix} {name : ExtName} {names : List ExtName} → keyword.word ≡ Keyword → tokens ≡ words ++ (xs ++ dot ∷ [])
      → fix_of keyword.bytes (map bytes_in words) ≡ Some fix → Names xs (name ∷ names) → dot.word ≡ Dot → Shapes table (keyword ∷ tokens) (give fix (name ∷ names))
