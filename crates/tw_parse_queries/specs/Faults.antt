-- Why tokens are no declaration that searches.
use Rattle.std.specs.Prelude.{◌≡◌, List, [], ◌∷◌, ◌++◌, None, Some, ◌⊎◌}
use Rattle.tw_lexer.specs.declared.place.Place.{Place}
use Rattle.tw_parse.specs.Failing.{ended}
use Rattle.tw_parse.specs.Faults.{Ends}
use Rattle.tw_parse.specs.Nesting.{first_too_deep}
use Rattle.tw_parse.specs.Outlines.{Table, Outline}
use Rattle.tw_parse.specs.Queries.{AskingStopsAt, IsShallow}
use Rattle.tw_parse.specs.Readings.{Means, FirstFault}
use Rattle.tw_parse.specs.Sources.{lexemes_from}
use Rattle.tw_parse.specs.Syntax.{Term}
use Rattle.tw_parse.specs.Words.{Lexeme, first_word, first_bytes, first_place}
use Rattle.tw_parse.specs.declared.fault.SyntaxFault.{SyntaxFault}
use Rattle.tw_parse.specs.declared.fault.SyntaxFault.TheVariants.{Unsupported, Nesting, Syntax, Fixity, BadDecl, NoMemory}
use Rattle.tw_parse.specs.declared.source.Source.{Source}
use Rattle.tw_parse.specs.declared.words.Word.TheVariants.{Keyword}
use Rattle.tw_parse_queries.specs.Keywords.{form_of}
use Rattle.tw_parse_queries.specs.Searches.{Search, Header, counts, names, Heads, Aims, wanted, Searches}
use Rattle.tw_parse_queries.specs.declared.keywords.Form.{Form}
use Rattle.tw_parse_queries.specs.declared.keywords.Form.TheVariants.{Query, Solve}

-- some tokens complete these to a sequence and a dot
abbrev pub CanEnd : Table → List Lexeme → Type 0
CanEnd table tokens = (rest : List Lexeme) × (O : Outline) × Ends table (tokens ++ rest) O

-- the first token here such that no sequence and dot begin with the tokens through it, where those before it are none by themselves; the end of the text counts as a token
abbrev pub GoalStopsAt : Table → Place → List Lexeme → Place → Type 0
GoalStopsAt table end tokens place = (before : List Lexeme) × (x : Lexeme) × (more : List Lexeme) × (ended end tokens ≡ before ++ x ∷ more) × (place ≡ x.at) × CanEnd table before × (CanEnd table (before ++ x ∷ []) → ⊥) × ((O : Outline) → Ends table before O → ⊥)

-- the tokens behind a header stop here
abbrev pub StopsBehind : Table → Place → Header → List Lexeme → Place → Type 0
StopsBehind table end (counts e t) tokens place = AskingStopsAt table end tokens place
StopsBehind table end (names c at) tokens place = GoalStopsAt table end tokens place

-- the first three tokens are no header: a token is wrong in it, or the tokens end
abbrev pub HasNoHeader : List Lexeme → Type 0
HasNoHeader tokens = (h : Header) (goal : List Lexeme) → Heads tokens h goal → ⊥

-- the tokens are read, and break a rule of `%query`: a number is too large, or X can't be the name of a proof of A
abbrev pub BreaksRule : Table → List Lexeme → Type 0
BreaksRule table tokens =
    (h : Header) × (goal : List Lexeme) × Heads tokens h goal × ((O : Outline) × Aims table h goal O × ((A : Term) × Means O A × (wanted h goal A ≡ None)))

-- A fault of tokens whose brackets aren't nested too deep. Behind a header, a token is wrong where the goal is due or in it (`%query 1 * .`); some sequence of the goal has not one reading,
-- and the first such one begins here; or the declaration, which begins here, has no header (`%query x 1 a.`, `%solve c .`), or breaks a rule.
abbrev pub SearchFault : Table → Place → List Lexeme → SyntaxFault → Type 0
SearchFault table end tokens (Syntax place) = (h : Header) × (goal : List Lexeme) × Heads tokens h goal × StopsBehind table end h goal place
SearchFault table end tokens (Fixity place) = (h : Header) × (goal : List Lexeme) × Heads tokens h goal × ((O : Outline) × Aims table h goal O × FirstFault O place)
SearchFault table end tokens (BadDecl place) = (place ≡ first_place end tokens) × (HasNoHeader tokens ⊎ BreaksRule table tokens)
SearchFault table end tokens NoMemory = Unit {0}
SearchFault table end tokens _ = ⊥

-- a fault of what is asked as one of the declaration, which begins here: a rule is broken by the whole
abbrev pub at_place : Place → SyntaxFault → SyntaxFault
at_place at (BadDecl place) = BadDecl at
at_place at fault = fault

-- what a fault says of the tokens of a declaration that searches, where this is the place behind them
abbrev pub SearchFaultStands : Table → Place → List Lexeme → SyntaxFault → Type 0
SearchFaultStands table end tokens (Unsupported name place) = ⊥
SearchFaultStands table end tokens (Nesting place) = first_too_deep [] 0 tokens ≡ Some place
SearchFaultStands table end tokens (Syntax place) = IsShallow tokens × SearchFault table end tokens (Syntax place)
SearchFaultStands table end tokens (Fixity place) = IsShallow tokens × SearchFault table end tokens (Fixity place)
SearchFaultStands table end tokens (BadDecl place) = IsShallow tokens × SearchFault table end tokens (BadDecl place)
SearchFaultStands table end tokens NoMemory = Unit {0}

-- the same of the tokens of a source
abbrev pub SearchesAll : Source → Search → Type 0
SearchesAll source s = Searches source.fixities.now (lexemes_from source 0) s

abbrev pub SearchFaultOf : Source → SyntaxFault → Type 0
SearchFaultOf source fault = SearchFault source.fixities.now source.end (lexemes_from source 0) fault

-- a keyword of this form stands first
abbrev pub FormIs : Source → Form → Type 0
FormIs source form = (first_word (lexemes_from source 0) ≡ Keyword) × (form_of (first_bytes (lexemes_from source 0)) ≡ Some form)

-- the header of this form that the first tokens are, if they are one
abbrev pub header_in : Source → Form → Header
header_in source Query = counts (first_bytes (lexemes_from source 1)) (first_bytes (lexemes_from source 2))
header_in source Solve = names (first_bytes (lexemes_from source 1)) (first_place source.end (lexemes_from source 1))

-- the source begins with a header of this form
abbrev pub HasHeader : Source → Form → Type 0
HasHeader source form = Heads (lexemes_from source 0) (header_in source form) (lexemes_from source 3)
