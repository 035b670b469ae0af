-- Queries: what is asked, and why tokens are no query.
use Rattle.std.specs.Prelude.{◌≡◌, ℕ, List, [], ◌∷◌, ◌++◌, drop, Bool, true, false, ◌&&◌, ◌||◌, not, Option, None, Some, if◌then◌else◌}
use Rattle.std.specs.Str.{bytes_eq}
use Rattle.tw_lexer.specs.declared.place.Place.{Place}
use Rattle.tw_parse.specs.Failing.{ended}
use Rattle.tw_parse.specs.Faults.{Ends}
use Rattle.tw_parse.specs.Keywords.{is_in_language, is_upper}
use Rattle.tw_parse.specs.Nesting.{first_too_deep}
use Rattle.tw_parse.specs.Outlines.{Table, Outline}
use Rattle.tw_parse.specs.Readings.{Means, FirstFault}
use Rattle.tw_parse.specs.Sources.{lexemes_from}
use Rattle.tw_parse.specs.Syntax.{Term, Domain, identifier, hole, star, arrow, pi, lambda, application, ascription, untyped, typed}
use Rattle.tw_parse.specs.View.{term_of}
use Rattle.tw_parse.specs.Words.{Lexeme, first_word, first_bytes, first_place}
use Rattle.tw_parse.specs.declared.fault.SyntaxFault.{SyntaxFault}
use Rattle.tw_parse.specs.declared.fault.SyntaxFault.TheVariants.{Unsupported, Nesting, Syntax, Fixity, BadDecl, NoMemory}
use Rattle.tw_parse.specs.declared.query.ExtQuery.{ExtQuery}
use Rattle.tw_parse.specs.declared.source.Source.{Source}
use Rattle.tw_parse.specs.declared.words.Word.{Word}
use Rattle.tw_parse.specs.declared.words.Word.TheVariants.{Name, Forward, Backward, Underscore, Star, Keyword, Colon}

-- what is asked: the name of the proof, if one is written, and the goal
pub record Query : Type 0 where
  pub proof : Option (List ℕ)
  pub goal : Term

-- an identifier that may stand in a sequence: any but `=`
abbrev pub is_operand : Word → Bool
is_operand Name = true
is_operand Forward = true
is_operand Backward = true
is_operand Underscore = true
is_operand Star = true
is_operand _ = false

-- two words with which a query names its proof: such an identifier and `:`
abbrev pub names_proof : Word → Word → Bool
names_proof v Colon = is_operand v
names_proof v _ = false

-- the tokens begin so; a goal that does has to stand in parentheses
abbrev pub has_proof : List Lexeme → Bool
has_proof tokens = names_proof (first_word tokens) (first_word (drop 1 tokens))

-- the tokens of the goal and the dot: those behind `X :`, or all
abbrev pub goal_tokens : List Lexeme → List Lexeme
goal_tokens tokens = if has_proof tokens then drop 2 tokens else tokens

abbrev mutual
  -- the name stands in the term, also as that of a binder
  pub mentions : List ℕ → Term → Bool
  mentions x (identifier y at) = bytes_eq y x
  mentions x (hole at) = false
  mentions x star = false
  mentions x (arrow A B) = mentions x A || mentions x B
  mentions x (pi y at A B) = bytes_eq y x || (mentions_domain x A || mentions x B)
  mentions x (lambda y at A M) = bytes_eq y x || (mentions_domain x A || mentions x M)
  mentions x (application M N) = mentions x M || mentions x N
  mentions x (ascription M A) = mentions x M || mentions x A

  pub mentions_domain : List ℕ → Domain → Bool
  mentions_domain x untyped = false
  mentions_domain x (typed A) = mentions x A

abbrev pub with_goal : Term → List ℕ → Query
with_goal A x = record { proof = Some x; goal = A }

-- the proof of A is X, which has no fixed meaning, begins with `_` or an uppercase letter, and doesn't stand in A
abbrev pub proved_by : Word → List ℕ → Term → Option Query
proved_by Name x A = if is_upper x && not (mentions x A) then Some (with_goal A x) else None
proved_by _ x A = None

-- what tokens with this goal ask; nothing where they name a proof that can't be its
abbrev pub asked : List Lexeme → Term → Option Query
asked tokens A = if has_proof tokens then proved_by (first_word tokens) (first_bytes tokens) A else Some (record { proof = None; goal = A })

abbrev pub query_of : ExtQuery → Query
query_of q = record { proof = q.proof; goal = term_of q.goal }

-- the tokens are `X : A.` or `A.`, where A has this outline
abbrev pub Poses : Table → List Lexeme → Outline → Type 0
Poses table tokens O = Ends table (goal_tokens tokens) O

-- no sequence in the goal has another reading, and the tokens ask this
abbrev pub Asks : Table → List Lexeme → Query → Type 0
Asks table tokens q = (O : Outline) × Poses table tokens O × ((A : Term) × Means O A × (asked tokens A ≡ Some q))

-- some tokens complete these to a query
abbrev pub CanAsk : Table → List Lexeme → Type 0
CanAsk table tokens = (rest : List Lexeme) × (O : Outline) × Poses table (tokens ++ rest) O

-- the first token here such that no query begins with the tokens through it, where those before it are none by themselves; the end of the text counts as a token
abbrev pub AskingStopsAt : Table → Place → List Lexeme → Place → Type 0
AskingStopsAt table end tokens place = (before : List Lexeme) × (x : Lexeme) × (more : List Lexeme) × (ended end tokens ≡ before ++ x ∷ more) × (place ≡ x.at) × CanAsk table before × (CanAsk table (before ++ x ∷ []) → ⊥) × ((O : Outline) → Poses table before O → ⊥)

-- a fault of tokens whose brackets aren't nested too deep: no query begins with the tokens through this one, which is the first such; some sequence has not one reading, and the first such one begins here; or the tokens, which begin here, ask nothing
abbrev pub AskingFault : Table → Place → List Lexeme → SyntaxFault → Type 0
AskingFault table end tokens (Syntax place) = AskingStopsAt table end tokens place
AskingFault table end tokens (Fixity place) = (O : Outline) × Poses table tokens O × FirstFault O place
AskingFault table end tokens (BadDecl place) = (place ≡ first_place end tokens) × ((O : Outline) × Poses table tokens O × ((A : Term) × Means O A × (asked tokens A ≡ None)))
AskingFault table end tokens NoMemory = Unit {0}
AskingFault table end tokens _ = ⊥

abbrev pub IsShallow : List Lexeme → Type 0
IsShallow tokens = first_too_deep [] 0 tokens ≡ None

-- No keyword stands first but one of the language. A keyword begins no query, so one of the language is a fault of syntax (`%name a X.`), and any other is told before all else (`%theorem a.`).
abbrev pub IsOfLanguage : List Lexeme → Type 0
IsOfLanguage tokens = first_word tokens ≡ Keyword → is_in_language (first_bytes tokens) ≡ true

-- no cause that is told before the grammar stands
abbrev pub IsAskable : List Lexeme → Type 0
IsAskable tokens = IsOfLanguage tokens × IsShallow tokens

-- what a fault says of the tokens of a query, where this is the place behind them
abbrev pub QueryFaultStands : Table → Place → List Lexeme → SyntaxFault → Type 0
QueryFaultStands table end tokens (Unsupported name place) = (first_word tokens ≡ Keyword) × (is_in_language (first_bytes tokens) ≡ false) × (name ≡ first_bytes tokens) × (place ≡ first_place end tokens)
QueryFaultStands table end tokens (Nesting place) = IsOfLanguage tokens × (first_too_deep [] 0 tokens ≡ Some place)
QueryFaultStands table end tokens (Syntax place) = IsAskable tokens × AskingFault table end tokens (Syntax place)
QueryFaultStands table end tokens (Fixity place) = IsAskable tokens × AskingFault table end tokens (Fixity place)
QueryFaultStands table end tokens (BadDecl place) = IsAskable tokens × AskingFault table end tokens (BadDecl place)
QueryFaultStands table end tokens NoMemory = Unit {0}

-- the same of the tokens of a source
abbrev pub AsksAll : Source → Query → Type 0
AsksAll source q = Asks source.fixities.now (lexemes_from source 0) q

abbrev pub AskingFaultOf : Source → SyntaxFault → Type 0
AskingFaultOf source fault = AskingFault source.fixities.now source.end (lexemes_from source 0) fault
