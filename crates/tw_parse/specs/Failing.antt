-- Where reading stops for want of a token that goes on.
use Rattle.std.specs.Prelude.{◌≡◌, ℕ, List, [], ◌∷◌, ◌++◌, Bool, true, false, None, Some, ◌⊎◌}
use Rattle.tw_lexer.specs.declared.place.Place.{Place}
use Rattle.tw_parse.specs.Keywords.{form_of}
use Rattle.tw_parse.specs.Outlines.{Table, Outline, Node, Sequence, Binds, Shapes}
use Rattle.tw_parse.specs.Sources.{lexemes_from}
use Rattle.tw_parse.specs.Spots.{Frame, Spot, inside, next, steps, IsWithin, Ending, by_dot, start, reading, runs}
use Rattle.tw_parse.specs.Syntax.{DeclarationOf}
use Rattle.tw_parse.specs.Words.{Lexeme, first_word, first_bytes}
use Rattle.tw_parse.specs.declared.fault.SyntaxFault.{SyntaxFault}
use Rattle.tw_parse.specs.declared.fault.SyntaxFault.TheVariants.{Syntax, NoMemory}
use Rattle.tw_parse.specs.declared.source.Source.{Source}
use Rattle.tw_parse.specs.declared.words.Form.TheVariants.{Abbreviation}
use Rattle.tw_parse.specs.declared.words.Word.{Word}
use Rattle.tw_parse.specs.declared.words.Word.TheVariants.{Name, Forward, Backward, Underscore, Star, Keyword, Colon, LParen, LBrace, LBracket, End}

-- the tokens with the end of the text as a last one
abbrev pub ended : Place → List Lexeme → List Lexeme
ended end tokens = tokens ++ record { word = End; bytes = []; at = end } ∷ []

-- some tokens complete these to a declaration
abbrev pub CanBegin : Table → List Lexeme → Type 0
CanBegin table tokens = (rest : List Lexeme) × (D : DeclarationOf Outline) × Shapes table (tokens ++ rest) D

-- the first token here such that no declaration begins with the tokens through it, where those before it are none by themselves; the end of the text counts as a token
abbrev pub StopsAt : Table → Place → List Lexeme → Place → Type 0
StopsAt table end tokens place = (before : List Lexeme) × (x : Lexeme) × (more : List Lexeme) × (ended end tokens ≡ before ++ x ∷ more) × (place ≡ x.at) × CanBegin table before × (CanBegin table (before ++ x ∷ []) → ⊥) × ((D : DeclarationOf Outline) → Shapes table before D → ⊥)

-- a term is due behind these tokens of a declaration, or isn't closed: behind `c :`, `c : (a` and `c : a`, and not behind `c`
abbrev pub IsInTerm : List Lexeme → Type 0
IsInTerm before = (e : Ending) × (spot : Spot) × (frames : List Frame) × (runs (Some start) before ≡ Some (reading e spot frames))

-- no keyword stands first but `%abbrev`: then each wrong token is a fault of syntax, in a term (`c : ).`) or not (`c a.`, `%abbrev _ = a.`)
abbrev pub IsPlain : List Lexeme → Type 0
IsPlain tokens = first_word tokens ≡ Keyword → form_of (first_bytes tokens) ≡ Some Abbreviation

-- The tokens stop at a fault of syntax: behind another keyword only in a term. So `%name (a) X.`, which has no term, stops at its `(` and has none.
abbrev pub HasSyntaxAt : Table → Place → List Lexeme → Place → Type 0
HasSyntaxAt table end tokens place = (stop : StopsAt table end tokens place) × (IsPlain tokens ⊎ IsInTerm stop.0)

-- a word with which an item begins
abbrev pub is_item : Word → Bool
is_item Name = true
is_item Forward = true
is_item Backward = true
is_item Underscore = true
is_item Star = true
is_item Colon = true
is_item LParen = true
is_item LBrace = true
is_item LBracket = true
is_item _ = false

-- some tokens complete these to a sequence, or to a binder with its body, whatever stands behind them
abbrev pub CanGo : Table → List Lexeme → Type 0
CanGo table mid = (rest : List Lexeme) × ((v : List Lexeme) → (O : Outline) × Sequence table (mid ++ (rest ++ v)) O v)

abbrev pub CanBind : Table → List Lexeme → Type 0
CanBind table mid = (rest : List Lexeme) × ((v : List Lexeme) → (n : Node) × Binds table (mid ++ (rest ++ v)) n v)

-- behind these tokens of a sequence, which may have begun, the reader can't go on with this word, and is not at the sequence's end
abbrev pub Dies : Bool → List Lexeme → Word → Type 0
Dies b mid w = (spot : Spot) × (frames : List Frame) × ((below : List Frame) → steps (Some (inside b, below)) mid ≡ Some (spot, frames ++ below)) × ((below : List Frame) → next spot (frames ++ below) w ≡ None) × IsWithin spot frames

-- the sequence that begins with these tokens stops at this place
abbrev pub StopsIn : Table → Place → List Lexeme → Place → Type 0
StopsIn table end tokens place = (mid : List Lexeme) × (y : Lexeme) × (more : List Lexeme) × (ended end tokens ≡ mid ++ y ∷ more) × (place ≡ y.at) × CanGo table mid × Dies false mid y.word

abbrev pub StopsInHead : Table → Place → List Lexeme → Place → Type 0
StopsInHead table end tokens place = (mid : List Lexeme) × (y : Lexeme) × (more : List Lexeme) × (ended end tokens ≡ mid ++ y ∷ more) × (place ≡ y.at) × CanBind table mid × ((b : Bool) → Dies b mid y.word)

abbrev pub SequenceFault : Source → ℕ → SyntaxFault → Type 0
SequenceFault source from (Syntax place) = StopsIn source.fixities.now source.end (lexemes_from source from) place
SequenceFault source from NoMemory = Unit {0}
SequenceFault source from _ = ⊥

abbrev pub HeadFault : Source → ℕ → SyntaxFault → Type 0
HeadFault source from (Syntax place) = StopsInHead source.fixities.now source.end (lexemes_from source from) place
HeadFault source from NoMemory = Unit {0}
HeadFault source from _ = ⊥

-- the head of a binder, taken from the tokens before `rest`: behind it a sequence begins
abbrev pub HeadPort : Table → List Lexeme → List Lexeme → Type 0
HeadPort table tokens rest = (front : List Lexeme) × (tokens ≡ front ++ rest) × ((b : Bool) (frames : List Frame) → steps (Some (inside b, frames)) front ≡ Some (inside false, frames))
    × ((O : Outline) (ts v : List Lexeme) → Sequence table ts O v → (n : Node) × Binds table (front ++ ts) n v)

-- a sequence is due behind the tokens before `rest`, and some tokens complete each one to a declaration
pub record IsDue (table : Table) (tokens rest : List Lexeme) (e : Ending) : Type 0 where
  pub front : List Lexeme
  pub split : tokens ≡ front ++ rest
  pub goes : runs (Some start) front ≡ Some (reading e (inside false) [])
  pub can : (m : List Lexeme) → ((v : List Lexeme) → (O : Outline) × Sequence table (m ++ v) O v) → CanBegin table (front ++ m)

-- the same of the source, where the last sequence of the declaration is due
abbrev pub LastIsDue : Source → ℕ → Type 0
LastIsDue source from = IsDue source.fixities.now (lexemes_from source 0) (lexemes_from source from) by_dot
