-- The grammar of checks, with operators not looked at.
use Rattle.std.specs.Prelude.{◌≡◌, ℕ, List, [], ◌∷◌, Bool, true, false, Option, None, Some, codes}
use Rattle.std.specs.Str.{bytes_eq}
use Rattle.tw_parse.specs.Keywords.{is_identifier, is_upper}
use Rattle.tw_parse.specs.Outlines.{Table, Outline, Sequence, named}
use Rattle.tw_parse.specs.Words.{Lexeme, is_bindable}
use Rattle.tw_parse.specs.declared.decl.ExtName.{ExtName}
use Rattle.tw_parse.specs.declared.words.Word.{Word}
use Rattle.tw_parse.specs.declared.words.Word.TheVariants.{Name, Underscore, Keyword, Colon, Dot, LParen, RParen, LBrace, RBrace, LBracket, RBracket}
use Rattle.tw_parse_checks.specs.Checks.{Call, Order, each, lexicographic, simultaneous, Orders, no_order, next_order}
use Rattle.tw_parse_checks.specs.Marks.{form_of, lone_mark_by, named_mark_by}
use Rattle.tw_parse_checks.specs.declared.check.CheckForm.{CheckForm}
use Rattle.tw_parse_checks.specs.declared.check.CheckForm.TheVariants.{Mode, Block, Worlds, Terminates}
use Rattle.tw_parse_checks.specs.declared.check.ExtMark.{ExtMark}

-- the tokens begin with these in a row, each of which takes some tokens, and these stand behind them
pub data Row {A : Type 0} (Takes : List Lexeme → A → List Lexeme → Type 0) : List Lexeme → List A → List Lexeme → Type 0 where
  no_more : {tokens : List Lexeme} → Row Takes tokens [] tokens
  one_more : {tokens next rest : List Lexeme} {one : A} {more : List A} → Takes tokens one next → Row Takes next more rest → Row Takes tokens (one ∷ more) rest

-- a mark with a name, as `+X`
pub data TakesMark : List Lexeme → ExtMark → List Lexeme → Type 0 where
  a_mark : {x : Lexeme} {rest : List Lexeme} {mark : ExtMark} → named_mark_by x.word x.bytes ≡ Some mark → TakesMark (x ∷ rest) mark rest

-- an identifier
pub data TakesName : List Lexeme → ExtName → List Lexeme → Type 0 where
  a_name : {x : Lexeme} {rest : List Lexeme} → is_identifier x.word ≡ true → TakesName (x ∷ rest) (named x) rest

-- what stands before the type of a binder: `{X :`
pub data Opening : List Lexeme → ExtName → List Lexeme → Type 0 where
  an_opening : {opener x colon : Lexeme} {rest : List Lexeme} → opener.word ≡ LBrace → is_bindable x.word ≡ true → colon.word ≡ Colon → Opening (opener ∷ x ∷ colon ∷ rest) (record { name = x.bytes; at = opener.at }) rest

-- a quantified variable: its mark, its name with the place of its bracket, and its type
pub record Quantifier : Type 0 where
  pub mark : ExtMark
  pub variable : ExtName
  pub type : Outline

-- what stands before the type of a quantified variable: `m {X :`
pub data Head : List Lexeme → ExtMark → ExtName → List Lexeme → Type 0 where
  a_head : {m : Lexeme} {tokens rest : List Lexeme} {mark : ExtMark} {x : ExtName} → lone_mark_by m.word m.bytes ≡ Some mark → Opening tokens x rest → Head (m ∷ tokens) mark x rest

-- `m {X : U}`
pub data TakesQuantifier (table : Table) : List Lexeme → Quantifier → List Lexeme → Type 0 where
  a_quantifier : {tokens type rest : List Lexeme} {closer : Lexeme} {mark : ExtMark} {x : ExtName} {U : Outline} → Head tokens mark x type → Sequence table type U (closer ∷ rest) → closer.word ≡ RBrace
      → TakesQuantifier table tokens (record { mark = mark; variable = x; type = U }) rest

-- a binder of a block: its name with the place of its bracket, and its type, if it is written
pub record Binder : Type 0 where
  pub variable : ExtName
  pub type : Option Outline

-- `{X : A}` or `{X}`
pub data TakesBinder (table : Table) : List Lexeme → Binder → List Lexeme → Type 0 where
  a_typed_binder : {tokens type rest : List Lexeme} {closer : Lexeme} {x : ExtName} {A : Outline} → Opening tokens x type → Sequence table type A (closer ∷ rest) → closer.word ≡ RBrace → TakesBinder table tokens (record { variable = x; type = Some A }) rest
  a_bare_binder : {opener x closer : Lexeme} {rest : List Lexeme} → opener.word ≡ LBrace → is_bindable x.word ≡ true → closer.word ≡ RBrace
      → TakesBinder table (opener ∷ x ∷ closer ∷ rest) (record { variable = record { name = x.bytes; at = opener.at }; type = None }) rest

-- the token is this name
abbrev pub Says : List ℕ → Lexeme → Type 0
Says word x = (x.word ≡ Name) × (bytes_eq x.bytes word ≡ true)

-- the label of a block: `l :`
pub data TakesLabel : List Lexeme → ExtName → List Lexeme → Type 0 where
  a_label : {l colon : Lexeme} {rest : List Lexeme} → l.word ≡ Name → colon.word ≡ Colon → TakesLabel (l ∷ colon ∷ rest) (named l) rest

-- what stands between the label and the entries: `some {X:A} ..`, also with no binder, or nothing
pub data TakesSome (table : Table) : List Lexeme → List Binder → List Lexeme → Type 0 where
  no_some : {tokens : List Lexeme} → TakesSome table tokens [] tokens
  some_binders : {word : Lexeme} {tokens rest : List Lexeme} {bs : List Binder} → Says (codes "some") word → Row (TakesBinder table) tokens bs rest → TakesSome table (word ∷ tokens) bs rest

-- a name of a call pattern: `_`, or a name that begins with `_` or an uppercase letter
abbrev pub is_variable : Word → List ℕ → Bool
is_variable Underscore bytes = true
is_variable Name bytes = is_upper bytes
is_variable _ bytes = false

pub data TakesVariable : List Lexeme → ExtName → List Lexeme → Type 0 where
  a_variable : {x : Lexeme} {rest : List Lexeme} → is_variable x.word x.bytes ≡ true → TakesVariable (x ∷ rest) (named x) rest

-- the tokens begin with the family, behind a parenthesis or not
pub data Family : Bool → List Lexeme → ExtName → List Lexeme → Type 0 where
  bare : {a : Lexeme} {rest : List Lexeme} → is_identifier a.word ≡ true → Family false (a ∷ rest) (named a) rest
  in_parens : {opener a : Lexeme} {rest : List Lexeme} → opener.word ≡ LParen → is_identifier a.word ≡ true → Family true (opener ∷ a ∷ rest) (named a) rest

-- `(a X ..)`
pub data TakesCall : List Lexeme → Call → List Lexeme → Type 0 where
  a_call : {tokens behind rest : List Lexeme} {closer : Lexeme} {a : ExtName} {names : List ExtName} → Family true tokens a behind → Row TakesVariable behind names (closer ∷ rest) → closer.word ≡ RParen
      → TakesCall tokens (record { family = a; names = names }) rest

-- a label behind a bar: `| l`
pub data TakesFurtherLabel : List Lexeme → ExtName → List Lexeme → Type 0 where
  a_further_label : {bar l : Lexeme} {rest : List Lexeme} → Says (codes "|") bar → is_identifier l.word ≡ true → TakesFurtherLabel (bar ∷ l ∷ rest) (named l) rest

-- `()` or `(l1 | .. | ln)`
pub data TakesLabels : List Lexeme → List ExtName → List Lexeme → Type 0 where
  no_labels : {opener closer : Lexeme} {rest : List Lexeme} → opener.word ≡ LParen → closer.word ≡ RParen → TakesLabels (opener ∷ closer ∷ rest) [] rest
  some_labels : {opener l closer : Lexeme} {tokens rest : List Lexeme} {ls : List ExtName} → opener.word ≡ LParen → is_identifier l.word ≡ true → Row TakesFurtherLabel tokens ls (closer ∷ rest) → closer.word ≡ RParen → TakesLabels (opener ∷ l ∷ tokens) (named l ∷ ls) rest

mutual
  -- `X`, `(X Y ..)`, `{O ..}` or `[O ..]`
  pub data TakesOrder : List Lexeme → Order → List Lexeme → Type 0 where
    by_one : {tokens rest : List Lexeme} {x : ExtName} → TakesVariable tokens x rest → TakesOrder tokens (each (x ∷ [])) rest
    by_each : {opener closer : Lexeme} {tokens rest : List Lexeme} {names : List ExtName} → opener.word ≡ LParen → Row TakesVariable tokens names (closer ∷ rest) → closer.word ≡ RParen → TakesOrder (opener ∷ tokens) (each names) rest
    in_braces : {opener closer : Lexeme} {tokens rest : List Lexeme} {os : Orders} → opener.word ≡ LBrace → TakeOrders tokens os (closer ∷ rest) → closer.word ≡ RBrace → TakesOrder (opener ∷ tokens) (lexicographic os) rest
    in_brackets : {opener closer : Lexeme} {tokens rest : List Lexeme} {os : Orders} → opener.word ≡ LBracket → TakeOrders tokens os (closer ∷ rest) → closer.word ≡ RBracket → TakesOrder (opener ∷ tokens) (simultaneous os) rest

  pub data TakeOrders : List Lexeme → Orders → List Lexeme → Type 0 where
    no_component : {tokens : List Lexeme} → TakeOrders tokens no_order tokens
    a_component : {tokens next rest : List Lexeme} {o : Order} {os : Orders} → TakesOrder tokens o next → TakeOrders next os rest → TakeOrders tokens (next_order o os) rest

-- the tokens are the dot, behind the closing parenthesis or not
pub data Closing : Bool → List Lexeme → Type 0 where
  by_dot : {dot : Lexeme} → dot.word ≡ Dot → Closing false (dot ∷ [])
  by_paren : {closer dot : Lexeme} → closer.word ≡ RParen → dot.word ≡ Dot → Closing true (closer ∷ dot ∷ [])

-- A check with its types not read: of the full form of a mode the quantified variables, the family and the names behind it; of a block the label and the binders, those behind `some` first; of worlds and orders all.
pub data Draft : Type 0 where
  short : ExtName → List ExtMark → Draft
  full : List Quantifier → ExtName → List ExtName → Draft
  blocked : ExtName → List Binder → List Binder → Draft
  in_worlds : List ExtName → List Call → Draft
  ordered : Order → List Call → Draft

-- The tokens are a check behind its keyword: `%mode a m1 .. mn.` or `%mode (a m1 .. mn).`; `%mode m{X:U} .. (a Y ..).` with one quantified variable or more, where the parentheses stand; `%block l : some {X:A} .. block {Y:B} ...`;
-- `%worlds (l1 | .. | ln) (a X ..) ...` and `%terminates O (a X ..) ...`, with one call pattern or more.
pub data Behind (table : Table) : CheckForm → List Lexeme → Draft → Type 0 where
  is_short : {tokens behind rest : List Lexeme} {a : ExtName} {marks : List ExtMark} {parens : Bool} → Family parens tokens a behind → Row TakesMark behind marks rest → Closing parens rest → Behind table Mode tokens (short a marks)
  is_full : {tokens next behind rest : List Lexeme} {q : Quantifier} {qs : List Quantifier} {a : ExtName} {names : List ExtName} → Row (TakesQuantifier table) tokens (q ∷ qs) next → Family true next a behind → Row TakesName behind names rest → Closing true rest
      → Behind table Mode tokens (full (q ∷ qs) a names)
  is_block : {word : Lexeme} {tokens next behind rest : List Lexeme} {l : ExtName} {ss bs : List Binder} → TakesLabel tokens l next → TakesSome table next ss (word ∷ behind) → Says (codes "block") word → Row (TakesBinder table) behind bs rest → Closing false rest
      → Behind table Block tokens (blocked l ss bs)
  is_worlds : {tokens next rest : List Lexeme} {ls : List ExtName} {c : Call} {cs : List Call} → TakesLabels tokens ls next → Row TakesCall next (c ∷ cs) rest → Closing false rest → Behind table Worlds tokens (in_worlds ls (c ∷ cs))
  is_terminates : {tokens next rest : List Lexeme} {o : Order} {c : Call} {cs : List Call} → TakesOrder tokens o next → Row TakesCall next (c ∷ cs) rest → Closing false rest → Behind table Terminates tokens (ordered o (c ∷ cs))

-- the tokens are the check
pub data Shapes (table : Table) : List Lexeme → Draft → Type 0 where
  shapes : {keyword : Lexeme} {tokens : List Lexeme} {form : CheckForm} {D : Draft} → keyword.word ≡ Keyword → form_of keyword.bytes ≡ Some form → Behind table form tokens D → Shapes table (keyword ∷ tokens) D
