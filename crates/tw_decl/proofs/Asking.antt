-- By which grammar words are read.
use Rattle.std.proofs.Common.{◌≡◌, List, Bool, true, false, refl, sym, subst}
use Rattle.std.specs.Bool.{MatchBool}
use Rattle.std.specs.Prelude.{◌&&◌}
use Rattle.tw_lexer.specs.declared.place.Place.{Place}
use Rattle.tw_parse.specs.Faults.{FaultStands}
use Rattle.tw_parse.specs.Words.{Lexeme, first_word, first_bytes}
use Rattle.tw_parse.specs.declared.fault.SyntaxFault.{SyntaxFault}
use Rattle.tw_parse.specs.declared.words.Word.{Word}
use Rattle.tw_parse.specs.declared.words.Word.TheVariants.{Keyword}
use Rattle.tw_parse_checks.specs.Faults.{CheckFaultStands}
use Rattle.tw_parse_checks.specs.Marks.{is_check}
use Rattle.tw_parse_queries.specs.Faults.{SearchFaultStands}
use Rattle.tw_parse_queries.specs.Keywords.{is_search}
use Rattle.tw_decl.specs.Reading.{ReadFault, asks_check, asks_search, is_keyword}
use Rattle.tw_decl.specs.View.{View}

word_by : (w : Word) (b : Bool) → is_keyword w && b ≡ true → w ≡ Keyword
word_by Keyword b e = refl
word_by w b e = let clash : false ≡ true = e in absurd cc

bytes_by : (a b : Bool) → a && b ≡ true → b ≡ true
bytes_by true b e = e
bytes_by false b e = let clash : false ≡ true = e in absurd cc

pub asked_word : (words : List Lexeme) → asks_check words ≡ true → first_word words ≡ Keyword
asked_word words e = word_by (first_word words) (is_check (first_bytes words)) e

pub asked_bytes : (words : List Lexeme) → asks_check words ≡ true → is_check (first_bytes words) ≡ true
asked_bytes words e = bytes_by (is_keyword (first_word words)) (is_check (first_bytes words)) e

pub searched_word : (words : List Lexeme) → asks_search words ≡ true → first_word words ≡ Keyword
searched_word words e = word_by (first_word words) (is_search (first_bytes words)) e

pub searched_bytes : (words : List Lexeme) → asks_search words ≡ true → is_search (first_bytes words) ≡ true
searched_bytes words e = bytes_by (is_keyword (first_word words)) (is_search (first_bytes words)) e

-- by the answers to both questions
abbrev ByAsking : View → Place → List Lexeme → SyntaxFault → Bool → Bool → Type 0
ByAsking v end words fault a b = MatchBool a (CheckFaultStands v.fixities end words fault) (MatchBool b (SearchFaultStands v.fixities end words fault) (FaultStands v.fixities end words fault))

pub check_fault : (v : View) (end : Place) (words : List Lexeme) (fault : SyntaxFault) → asks_check words ≡ true → CheckFaultStands v.fixities end words fault → ReadFault v end words fault
check_fault v end words fault e h = subst (λ a. ByAsking v end words fault a (asks_search words)) (sym e) h

pub search_fault : (v : View) (end : Place) (words : List Lexeme) (fault : SyntaxFault) → asks_check words ≡ false → asks_search words ≡ true → SearchFaultStands v.fixities end words fault → ReadFault v end words fault
search_fault v end words fault e f h = subst (λ a. ByAsking v end words fault a (asks_search words)) (sym e) (subst (λ b. ByAsking v end words fault false b) (sym f) h)

pub plain_fault : (v : View) (end : Place) (words : List Lexeme) (fault : SyntaxFault) → asks_check words ≡ false → asks_search words ≡ false → FaultStands v.fixities end words fault → ReadFault v end words fault
plain_fault v end words fault e f h = subst (λ a. ByAsking v end words fault a (asks_search words)) (sym e) (subst (λ b. ByAsking v end words fault false b) (sym f) h)

-- and the other way around
pub of_plain : (v : View) (end : Place) (words : List Lexeme) (fault : SyntaxFault) → asks_check words ≡ false → asks_search words ≡ false → ReadFault v end words fault → FaultStands v.fixities end words fault
of_plain v end words fault e f h = let k : ByAsking v end words fault false (asks_search words) = subst (λ a. ByAsking v end words fault a (asks_search words)) e h in subst (λ b. ByAsking v end words fault false b) f k
