-- Why tokens declare no check.
use Rattle.std.specs.Prelude.{◌≡◌, List, [], ◌∷◌, ◌++◌, map, codes, Option, None, Some}
use Rattle.tw_lexer.specs.declared.place.Place.{Place}
use Rattle.tw_parse.specs.Failing.{ended}
use Rattle.tw_parse.specs.Nesting.{first_too_deep}
use Rattle.tw_parse.specs.Outlines.{Table, Outline, Sequence}
use Rattle.tw_parse.specs.Queries.{IsShallow}
use Rattle.tw_parse.specs.Readings.{FirstFaultIn}
use Rattle.tw_parse.specs.Sources.{lexemes_from}
use Rattle.tw_parse.specs.Words.{Lexeme, first_place}
use Rattle.tw_parse.specs.declared.decl.ExtName.{ExtName}
use Rattle.tw_parse.specs.declared.fault.SyntaxFault.{SyntaxFault}
use Rattle.tw_parse.specs.declared.fault.SyntaxFault.TheVariants.{Unsupported, Nesting, Syntax, Fixity, BadDecl, NoMemory}
use Rattle.tw_parse.specs.declared.source.Source.{Source}
use Rattle.tw_parse.specs.declared.words.Word.TheVariants.{RBrace}
use Rattle.tw_parse_checks.specs.Checks.{Check}
use Rattle.tw_parse_checks.specs.Marks.{form_of}
use Rattle.tw_parse_checks.specs.Meanings.{binder_in, MeansCheck, DeclaresCheck}
use Rattle.tw_parse_checks.specs.Shapes.{Opening, Head, TakesQuantifier, Binder, TakesBinder, Says, TakesLabel, TakesSome, Draft, full, blocked, Behind, Shapes}
use Rattle.tw_parse_checks.specs.declared.check.CheckForm.{CheckForm}
use Rattle.tw_parse_checks.specs.declared.check.CheckForm.TheVariants.{Mode, Block}
use Rattle.tw_parse_checks.specs.declared.check.ExtMark.{ExtMark}

-- the tokens are a type and the brace that closes it
abbrev pub Fills : Table → List Lexeme → Outline → Type 0
Fills table tokens U = (closer : Lexeme) × (closer.word ≡ RBrace) × Sequence table tokens U (closer ∷ [])

-- some tokens complete these to a type and its brace
abbrev pub CanFill : Table → List Lexeme → Type 0
CanFill table tokens = (rest : List Lexeme) × (U : Outline) × Fills table (tokens ++ rest) U

-- a type is due here: the first token such that no type with its brace begins with the tokens through it, where those before it are none by themselves; the end of the text counts as a token
abbrev pub FillingStopsAt : Table → Place → List Lexeme → Place → Type 0
FillingStopsAt table end tokens place = (before : List Lexeme) × (x : Lexeme) × (more : List Lexeme) × (ended end tokens ≡ before ++ x ∷ more) × (place ≡ x.at) × CanFill table before × (CanFill table (before ++ x ∷ []) → ⊥) × ((U : Outline) → Fills table before U → ⊥)

-- the type of one of those in a row stops here: one by one they stand whole, and then what stands before the type leads to it
pub data StopsInType {A : Type 0} (Leads : List Lexeme → List Lexeme → Type 0) (Takes : List Lexeme → A → List Lexeme → Type 0) (table : Table) (end place : Place) : List Lexeme → Type 0 where
  in_first : {tokens type : List Lexeme} → Leads tokens type → FillingStopsAt table end type place → StopsInType Leads Takes table end place tokens
  in_later : {tokens next : List Lexeme} {q : A} → Takes tokens q next → StopsInType Leads Takes table end place next → StopsInType Leads Takes table end place tokens

-- the type of a quantified variable, and of a binder of a block, begins behind these tokens
abbrev pub LeadsQuantifier : List Lexeme → List Lexeme → Type 0
LeadsQuantifier tokens type = (mark : ExtMark) × (x : ExtName) × Head tokens mark x type

abbrev pub LeadsBinder : List Lexeme → List Lexeme → Type 0
LeadsBinder tokens type = (x : ExtName) × Opening tokens x type

abbrev pub StopsInQuantifier : Table → Place → Place → List Lexeme → Type 0
StopsInQuantifier table end place tokens = StopsInType LeadsQuantifier (TakesQuantifier table) table end place tokens

abbrev pub StopsInBinder : Table → Place → Place → List Lexeme → Type 0
StopsInBinder table end place tokens = StopsInType LeadsBinder (TakesBinder table) table end place tokens

-- behind the label the type of a binder stops here, of those behind `some` or of the entries
pub data StopsInBlock (table : Table) (end place : Place) : List Lexeme → Type 0 where
  in_some : {word : Lexeme} {tokens : List Lexeme} → Says (codes "some") word → StopsInBinder table end place tokens → StopsInBlock table end place (word ∷ tokens)
  in_entries : {word : Lexeme} {tokens behind : List Lexeme} {ss : List Binder} → TakesSome table tokens ss (word ∷ behind) → Says (codes "block") word → StopsInBinder table end place behind → StopsInBlock table end place tokens

-- Behind a keyword the token here is a fault of syntax: it stands where the type of a quantifier is due or isn't closed (`%mode + {X:} (a X).`, `%mode + {X:nat) (a X).`), or that of a binder of a block (`%block l : block {x:}.`).
-- A wrong token anywhere else is none (`%mode + {X} (a X).`, `%block l {x:}.`), and no token of `%worlds` and `%terminates` is.
pub data StopsBehind (table : Table) (end place : Place) : CheckForm → List Lexeme → Type 0 where
  in_mode : {tokens : List Lexeme} → StopsInQuantifier table end place tokens → StopsBehind table end place Mode tokens
  in_block : {tokens next : List Lexeme} {l : ExtName} → TakesLabel tokens l next → StopsInBlock table end place next → StopsBehind table end place Block tokens

pub data HasSyntaxAt (table : Table) (end : Place) : List Lexeme → Place → Type 0 where
  behind_keyword : {keyword : Lexeme} {tokens : List Lexeme} {form : CheckForm} {place : Place} → form_of keyword.bytes ≡ Some form → StopsBehind table end place form tokens → HasSyntaxAt table end (keyword ∷ tokens) place

-- the types that these binders have
abbrev pub types_with : Option Outline → List Outline → List Outline
types_with None types = types
types_with (Some U) types = U ∷ types

abbrev pub types_in : List Binder → List Outline
types_in [] = []
types_in (b ∷ bs) = types_with b.type (types_in bs)

-- the types of a draft, in the order of the text
abbrev pub types_of : Draft → List Outline
types_of (full qs a names) = types_in (map binder_in qs)
types_of (blocked l ss bs) = types_in (ss ++ bs)
types_of _ = []

-- some type has not one reading, and the first sequence at fault begins here
abbrev pub HasFixityAt : Table → List Lexeme → Place → Type 0
HasFixityAt table tokens place = (D : Draft) × Shapes table tokens D × FirstFaultIn (types_of D) place

abbrev pub DeclaresNothing : Table → List Lexeme → Type 0
DeclaresNothing table tokens = (c : Check) → DeclaresCheck table tokens c → ⊥

abbrev pub HasNoSyntax : Table → Place → List Lexeme → Type 0
HasNoSyntax table end tokens = (place : Place) → HasSyntaxAt table end tokens place → ⊥

abbrev pub HasNoFixity : Table → List Lexeme → Type 0
HasNoFixity table tokens = (place : Place) → HasFixityAt table tokens place → ⊥

-- A fault of tokens whose brackets aren't nested too deep: one of them is a fault of syntax; a type has not one reading; or nothing is declared, and neither of the two is told: a token is wrong outside of all types, or a rule of the keyword is broken.
abbrev pub CheckFault : Table → Place → List Lexeme → SyntaxFault → Type 0
CheckFault table end tokens (Syntax place) = HasSyntaxAt table end tokens place
CheckFault table end tokens (Fixity place) = HasFixityAt table tokens place
CheckFault table end tokens (BadDecl place) = (place ≡ first_place end tokens) × DeclaresNothing table tokens × HasNoSyntax table end tokens × HasNoFixity table tokens
CheckFault table end tokens NoMemory = Unit {0}
CheckFault table end tokens _ = ⊥

-- what a fault says of the tokens, where this is the place behind them
abbrev pub CheckFaultStands : Table → Place → List Lexeme → SyntaxFault → Type 0
CheckFaultStands table end tokens (Unsupported name place) = ⊥
CheckFaultStands table end tokens (Nesting place) = first_too_deep [] 0 tokens ≡ Some place
CheckFaultStands table end tokens (Syntax place) = IsShallow tokens × CheckFault table end tokens (Syntax place)
CheckFaultStands table end tokens (Fixity place) = IsShallow tokens × CheckFault table end tokens (Fixity place)
CheckFaultStands table end tokens (BadDecl place) = IsShallow tokens × CheckFault table end tokens (BadDecl place)
CheckFaultStands table end tokens NoMemory = Unit {0}

-- the same of the tokens of a source
abbrev pub DeclaresAll : Source → Check → Type 0
DeclaresAll source c = DeclaresCheck source.fixities.now (lexemes_from source 0) c

abbrev pub FaultOf : Source → SyntaxFault → Type 0
FaultOf source fault = CheckFault source.fixities.now source.end (lexemes_from source 0) fault

-- the tokens behind the keyword are this check
abbrev pub IsCheck : Source → CheckForm → Check → Type 0
IsCheck source form c = (D : Draft) × Behind source.fixities.now form (lexemes_from source 1) D × MeansCheck D c

-- whatever check they are, it breaks a rule, and its types have no fault
abbrev pub NoCheck : Source → CheckForm → Type 0
NoCheck source form = (D : Draft) → Behind source.fixities.now form (lexemes_from source 1) D → ((c : Check) → MeansCheck D c → ⊥) × ((place : Place) → FirstFaultIn (types_of D) place → ⊥)

abbrev pub NoStop : Source → CheckForm → Type 0
NoStop source form = (place : Place) → StopsBehind source.fixities.now source.end place form (lexemes_from source 1) → ⊥

-- what a fault says of them
abbrev pub IsFault : Source → CheckForm → SyntaxFault → Type 0
IsFault source form (Syntax place) = StopsBehind source.fixities.now source.end place form (lexemes_from source 1)
IsFault source form (Fixity place) = (D : Draft) × Behind source.fixities.now form (lexemes_from source 1) D × FirstFaultIn (types_of D) place
IsFault source form (BadDecl place) = (place ≡ first_place source.end (lexemes_from source 0)) × NoCheck source form × NoStop source form
IsFault source form NoMemory = Unit {0}
IsFault source form _ = ⊥
