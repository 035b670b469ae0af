-- Why tokens are no declaration.
use Rattle.std.specs.Prelude.{◌≡◌, ◌≢◌, ℕ, ◌+◌, List, [], ◌∷◌, ◌++◌, map, Bool, true, false, Option, Some, None, Ok, Err}
use Rattle.std.specs.declared.result.Result.{Result}
use Rattle.tw_parse.specs.declared.decl.ExtDecl.{ExtDecl}
use Rattle.tw_parse.specs.declared.decl.ExtDecl.TheVariants.{Declare, Define}
use Rattle.tw_parse.specs.declared.parts.Part.TheVariants as parts
use Rattle.tw_lexer.specs.declared.place.Place.{Place}
use Rattle.tw_fixity.specs.declared.table.Fix.{Fix}
use Rattle.tw_parse.specs.Keywords.{form_of, is_built, fix_by}
use Rattle.tw_parse.specs.Nesting.{first_too_deep}
use Rattle.tw_parse.specs.Outlines.{Table, Outline, Sequence, Shapes, Names, bytes_in, sign_of}
use Rattle.tw_parse.specs.Readings.{FirstFaultOf, Declares}
use Rattle.tw_parse.specs.Telling.{Tells}
use Rattle.tw_parse.specs.Failing.{HasSyntaxAt}
use Rattle.tw_parse.specs.Sources.{lexemes_from}
use Rattle.tw_parse.specs.Syntax.{DeclarationOf, Declaration, Term, identifier, hole, star}
use Rattle.tw_parse.specs.Words.{Lexeme, first_word, first_bytes, first_place}
use Rattle.tw_parse.specs.declared.fault.SyntaxFault.{SyntaxFault}
use Rattle.tw_parse.specs.declared.fault.SyntaxFault.TheVariants.{Unsupported, Nesting, Syntax, Fixity, BadDecl, NoMemory}
use Rattle.tw_parse.specs.declared.decl.ExtName.{ExtName}
use Rattle.tw_parse.specs.declared.parts.Part.{Part}
use Rattle.tw_parse.specs.declared.sign.Sign.{Sign}
use Rattle.tw_parse.specs.declared.words.Form.{Form}
use Rattle.tw_parse.specs.declared.source.Source.{Source}
use Rattle.tw_parse.specs.declared.words.Word.TheVariants.{Keyword, Dot, Name, Underscore, Star}
use Rattle.tw_parse.specs.declared.words.Word.{Word}

-- nothing stands behind a dot
abbrev pub DotEnds : Source → Type 0
DotEnds source = (i : ℕ) → first_word (lexemes_from source i) ≡ Dot → lexemes_from source (i + 1) ≡ []

-- the sign that stands first, if there is one
abbrev pub sign_first : Table → List Lexeme → Option Sign
sign_first table [] = None
sign_first table (x ∷ xs) = sign_of table x

abbrev pub first_sign : Source → ℕ → Option Sign
first_sign source i = sign_first source.fixities.now (lexemes_from source i)

-- the atom that the first token is by itself, where it is no sign
abbrev pub leaf_by : Word → List ℕ → Place → Option Term
leaf_by Name x at = Some (identifier x at)
leaf_by Underscore x at = Some (hole at)
leaf_by Star x at = Some star
leaf_by _ x at = None

abbrev pub leaf_of : List Lexeme → Option Term
leaf_of [] = None
leaf_of (x ∷ xs) = leaf_by x.word x.bytes x.at

-- the tokens are a sequence with this outline, and a dot
abbrev pub Ends : Table → List Lexeme → Outline → Type 0
Ends table tokens O = (dot : Lexeme) × (dot.word ≡ Dot) × Sequence table tokens O (dot ∷ [])

-- no keyword stands first but one whose declarations are read
abbrev pub IsKnown : List Lexeme → Type 0
IsKnown tokens = first_word tokens ≡ Keyword → is_built (form_of (first_bytes tokens)) ≡ true

-- no cause that is told before the grammar stands
abbrev pub IsRead : List Lexeme → Type 0
IsRead tokens = IsKnown tokens × (first_too_deep [] 0 tokens ≡ None)

-- the tokens are no declaration
abbrev pub HasNoShape : Table → List Lexeme → Type 0
HasNoShape table tokens = (D : DeclarationOf Outline) → Shapes table tokens D → ⊥

-- nothing is declared by the tokens
abbrev pub DeclaresNothing : Table → List Lexeme → Type 0
DeclaresNothing table tokens = (d : Declaration) → Declares table tokens d → ⊥

-- some sequence of the tokens has not one reading, and the first such one begins here: that of `c : a ->.` at the `a`
abbrev pub HasFixityAt : Table → List Lexeme → Place → Type 0
HasFixityAt table tokens place = (D : DeclarationOf Outline) × Shapes table tokens D × FirstFaultOf D place

-- what is told before the arguments of a keyword: a token that is a fault of syntax, and a sequence that has not one reading
abbrev pub HasNoSyntax : Table → Place → List Lexeme → Type 0
HasNoSyntax table end tokens = (place : Place) → HasSyntaxAt table end tokens place → ⊥

abbrev pub HasNoFixity : Table → List Lexeme → Type 0
HasNoFixity table tokens = (place : Place) → HasFixityAt table tokens place → ⊥

-- A fault of tokens that are read. One of them is a fault of syntax; a sequence has not one reading; or a keyword stands first, nothing is declared, and neither of the two is told:
-- a token is wrong outside of all terms (`%infix left 10.`), or a rule of the keyword is broken (`%name a x.`).
abbrev pub GrammarFault : Table → Place → List Lexeme → SyntaxFault → Type 0
GrammarFault table end tokens (Syntax place) = HasSyntaxAt table end tokens place
GrammarFault table end tokens (Fixity place) = HasFixityAt table tokens place
GrammarFault table end tokens (BadDecl place) =
    (first_word tokens ≡ Keyword) × (place ≡ first_place end tokens) × DeclaresNothing table tokens × HasNoSyntax table end tokens × HasNoFixity table tokens
GrammarFault table end tokens NoMemory = Unit {0}
GrammarFault table end tokens _ = ⊥

-- what a fault says of the tokens, where this is the place behind them
abbrev pub FaultStands : Table → Place → List Lexeme → SyntaxFault → Type 0
FaultStands table end tokens (Unsupported name place) = (first_word tokens ≡ Keyword) × (is_built (form_of (first_bytes tokens)) ≡ false) × (name ≡ first_bytes tokens) × (place ≡ first_place end tokens)
FaultStands table end tokens (Nesting place) = IsKnown tokens × (first_too_deep [] 0 tokens ≡ Some place)
FaultStands table end tokens (Syntax place) = IsRead tokens × GrammarFault table end tokens (Syntax place)
FaultStands table end tokens (Fixity place) = IsRead tokens × GrammarFault table end tokens (Fixity place)
FaultStands table end tokens (BadDecl place) = IsRead tokens × GrammarFault table end tokens (BadDecl place)
FaultStands table end tokens NoMemory = Unit {0}

-- the same of the tokens of a source
abbrev pub FaultOf : Source → SyntaxFault → Type 0
FaultOf source fault = GrammarFault source.fixities.now source.end (lexemes_from source 0) fault

-- the tokens of the source are the declaration
abbrev pub DeclaresAll : Source → Declaration → Type 0
DeclaresAll source d = Declares source.fixities.now (lexemes_from source 0) d

-- the tokens from here on are a sequence and a dot, and this part tells of it
abbrev pub EndsAs : Source → ℕ → Part → Type 0
EndsAs source from part = (O : Outline) × Ends source.fixities.now (lexemes_from source from) O × Tells O part

-- the tokens from one number up to another are identifiers with these names
abbrev pub NamesBetween : Source → ℕ → ℕ → List ExtName → Type 0
NamesBetween source from upto names = (taken : List Lexeme) × (lexemes_from source from ≡ taken ++ lexemes_from source upto) × Names taken names

-- the words behind a keyword of this form, up to this number, are a row
abbrev pub RowUpTo : Source → Form → Fix → ℕ → Type 0
RowUpTo source form fix upto = (words : List Lexeme) × (lexemes_from source 1 ≡ words ++ lexemes_from source upto) × (fix_by (Some form) (map bytes_in words) ≡ Some fix)

-- no words behind the first token are a row of this form
abbrev pub HasNoRow : Source → Form → Type 0
HasNoRow source form = (words rest : List Lexeme) → lexemes_from source 1 ≡ words ++ rest → fix_by (Some form) (map bytes_in words) ≡ None

-- a keyword of this form stands first
abbrev pub FormIs : Source → Form → Type 0
FormIs source form = (first_word (lexemes_from source 0) ≡ Keyword) × (form_of (first_bytes (lexemes_from source 0)) ≡ Some form)

-- the form that the first token asks for, if it is a keyword
abbrev pub FormFits : Source → Option Form → Type 0
FormFits source None = first_word (lexemes_from source 0) ≢ Keyword
FormFits source (Some form) = FormIs source form

-- what is defined by parts that tell of its type, if it is written, and of its term
abbrev pub defined : Option (List ℕ) → Option Part → Part → Bool → Result ExtDecl SyntaxFault
defined name None (parts.Term M) b = Ok (Define name None M b)
defined name None (parts.AtFault place) b = Err (Fixity place)
defined name (Some (parts.Term A)) (parts.Term M) b = Ok (Define name (Some A) M b)
defined name (Some (parts.Term A)) (parts.AtFault place) b = Err (Fixity place)
defined name (Some (parts.AtFault place)) part b = Err (Fixity place)

abbrev pub declared : List ℕ → Place → Part → Result ExtDecl SyntaxFault
declared name at (parts.Term A) = Ok (Declare name at A)
declared name at (parts.AtFault place) = Err (Fixity place)
