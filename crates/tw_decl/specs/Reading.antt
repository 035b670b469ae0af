-- What is read of a text: a declaration, a check of what is declared, or a search over it.
use Rattle.std.specs.Prelude.{◌≡◌, List, Bool, true, false, ◌&&◌}
use Rattle.std.specs.Bool.{MatchBool}
use Rattle.tw_lexer.specs.declared.place.Place.{Place}
use Rattle.tw_parse.specs.Faults.{IsRead, FaultStands}
use Rattle.tw_parse.specs.Queries.{IsShallow}
use Rattle.tw_parse.specs.Readings.{Declares}
use Rattle.tw_parse.specs.Syntax.{Declaration}
use Rattle.tw_parse.specs.View.{declaration_of}
use Rattle.tw_parse.specs.Words.{Lexeme, first_word, first_bytes}
use Rattle.tw_parse.specs.declared.fault.SyntaxFault.{SyntaxFault}
use Rattle.tw_parse.specs.declared.words.Word.{Word}
use Rattle.tw_parse.specs.declared.words.Word.TheVariants.{Keyword}
use Rattle.tw_parse_checks.specs.Checks.{Check, check_of}
use Rattle.tw_parse_checks.specs.Faults.{CheckFaultStands}
use Rattle.tw_parse_checks.specs.Marks.{is_check}
use Rattle.tw_parse_checks.specs.Meanings.{DeclaresCheck}
use Rattle.tw_parse_queries.specs.Faults.{SearchFaultStands}
use Rattle.tw_parse_queries.specs.Keywords.{is_search}
use Rattle.tw_parse_queries.specs.Searches.{Search, Searches, search_of}
use Rattle.tw_decl.specs.View.{View}
use Rattle.tw_decl.specs.declared.reading.Written.{Written}
use Rattle.tw_decl.specs.declared.reading.Written.TheVariants as written

-- a declaration of entries, operators or preferred names; a check; or a search
pub data Read : Type 0 where
  plain : Declaration → Read
  check : Check → Read
  searching : Search → Read

abbrev pub is_keyword : Word → Bool
is_keyword Keyword = true
is_keyword _ = false

-- a keyword of a check stands first
abbrev pub asks_check : List Lexeme → Bool
asks_check words = is_keyword (first_word words) && is_check (first_bytes words)

-- or for a search
abbrev pub asks_search : List Lexeme → Bool
asks_search words = is_keyword (first_word words) && is_search (first_bytes words)

-- the words are this declaration: no cause that is told before the grammar stands, and they have this reading
pub record IsReadAs (v : View) (words : List Lexeme) (d : Declaration) : Type 0 where
  pub begins : IsRead words
  pub reads : Declares v.fixities words d

-- the words are this check: they ask for one, no bracket opens past the limit of nesting, and they have this reading
pub record IsReadAsCheck (v : View) (words : List Lexeme) (c : Check) : Type 0 where
  pub asked : asks_check words ≡ true
  pub shallow : IsShallow words
  pub reads : DeclaresCheck v.fixities words c

-- the words are this search: the same of it
pub record IsReadAsSearch (v : View) (words : List Lexeme) (s : Search) : Type 0 where
  pub shallow : IsShallow words
  pub reads : Searches v.fixities words s

abbrev pub Reads : View → List Lexeme → Read → Type 0
Reads v words (plain d) = IsReadAs v words d
Reads v words (check c) = IsReadAsCheck v words c
Reads v words (searching s) = IsReadAsSearch v words s

-- by the grammar of searches where the words ask for one, and by that of declarations else
abbrev pub OtherFault : View → Place → List Lexeme → SyntaxFault → Type 0
OtherFault v end words fault = MatchBool (asks_search words) (SearchFaultStands v.fixities end words fault) (FaultStands v.fixities end words fault)

-- what a fault says of the words, where this is the place behind them: by the grammar of checks where they ask for one
abbrev pub ReadFault : View → Place → List Lexeme → SyntaxFault → Type 0
ReadFault v end words fault = MatchBool (asks_check words) (CheckFaultStands v.fixities end words fault) (OtherFault v end words fault)

-- what a value in memory says
abbrev pub read_of : Written → Read
read_of (written.Plain d) = plain (declaration_of d)
read_of (written.Check c) = check (check_of c)
read_of (written.Search s) = searching (search_of s)
