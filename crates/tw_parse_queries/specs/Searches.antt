-- What declarations that search ask for.
use Rattle.std.specs.Prelude.{◌≡◌, ℕ, List, ◌∷◌, true, Option, None, Some}
use Rattle.tw_lexer.specs.declared.place.Place.{Place}
use Rattle.tw_parse.specs.Faults.{Ends}
use Rattle.tw_parse.specs.Outlines.{Table, Outline}
use Rattle.tw_parse.specs.Queries.{Query, Poses, asked, query_of}
use Rattle.tw_parse.specs.Readings.{Means}
use Rattle.tw_parse.specs.Syntax.{Term}
use Rattle.tw_parse.specs.View.{term_of}
use Rattle.tw_parse.specs.Words.{Lexeme, first_word, first_bytes}
use Rattle.tw_parse.specs.declared.words.Word.TheVariants.{Name, Keyword, Colon}
use Rattle.tw_parse_queries.specs.Bounds.{is_bound, bound_of}
use Rattle.tw_parse_queries.specs.Keywords.{form_of, is_search}
use Rattle.tw_parse_queries.specs.declared.keywords.Form.TheVariants as forms
use Rattle.tw_parse_queries.specs.declared.search.ExtBound.{ExtBound}
use Rattle.tw_parse_queries.specs.declared.search.ExtSearch.{ExtSearch}
use Rattle.tw_parse_queries.specs.declared.search.ExtSearch.TheVariants as searches

-- what is searched for: `query` with how many answers there have to be, how many are looked for, and what is asked; `solve` with the name of the solution, its place, and the goal
pub data Search : Type 0 where
  query : ExtBound → ExtBound → Query → Search
  solve : List ℕ → Place → Term → Search

-- what stands in front: two bounds as they are written, or a name with its place
pub data Header : Type 0 where
  counts : List ℕ → List ℕ → Header
  names : List ℕ → Place → Header

-- the tokens begin with this header, and these stand behind it: `%query e t`, where a number may be too large, or `%solve c :`, where c has no fixed meaning
pub data Heads : List Lexeme → Header → List Lexeme → Type 0 where
  of_query : {keyword e t : Lexeme} {goal : List Lexeme} → keyword.word ≡ Keyword → form_of keyword.bytes ≡ Some forms.Query → is_bound e.word e.bytes ≡ true → is_bound t.word t.bytes ≡ true
      → Heads (keyword ∷ e ∷ t ∷ goal) (counts e.bytes t.bytes) goal
  of_solve : {keyword c colon : Lexeme} {goal : List Lexeme} → keyword.word ≡ Keyword → form_of keyword.bytes ≡ Some forms.Solve → c.word ≡ Name → colon.word ≡ Colon
      → Heads (keyword ∷ c ∷ colon ∷ goal) (names c.bytes c.at) goal

-- the tokens behind the header: `X : A.` or `A.` behind `%query e t`, and `A.` behind `%solve c :`, where A has this outline
abbrev pub Aims : Table → Header → List Lexeme → Outline → Type 0
Aims table (counts e t) tokens O = Poses table tokens O
Aims table (names c at) tokens O = Ends table tokens O

abbrev pub queried : Option ExtBound → Option ExtBound → Option Query → Option Search
queried (Some e) (Some t) (Some q) = Some (query e t q)
queried _ _ _ = None

-- what a header asks for with these tokens behind it, whose goal is A; nothing where a number is too large, or where X can't be the name of a proof of A
abbrev pub wanted : Header → List Lexeme → Term → Option Search
wanted (counts e t) tokens A = queried (bound_of e) (bound_of t) (asked tokens A)
wanted (names c at) tokens A = Some (solve c at A)

-- the tokens are this declaration, and no sequence in the goal has another reading
abbrev pub Searches : Table → List Lexeme → Search → Type 0
Searches table tokens s =
    (h : Header) × (goal : List Lexeme) × Heads tokens h goal × ((O : Outline) × Aims table h goal O × ((A : Term) × Means O A × (wanted h goal A ≡ Some s)))

abbrev pub search_of : ExtSearch → Search
search_of (searches.Query e t q) = query e t (query_of q)
search_of (searches.Solve c at A) = solve c at (term_of A)

-- a keyword of a declaration that searches stands first
abbrev pub BeginsSearch : List Lexeme → Type 0
BeginsSearch tokens = (first_word tokens ≡ Keyword) × (is_search (first_bytes tokens) ≡ true)
