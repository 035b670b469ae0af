-- A declaration that is read has no fault.
use Rattle.std.proofs.Common.{◌≡◌, ℕ, List, Some, None, Bool, true, false, codes, refl, sym, ap, ◌∙◌}
use Rattle.std.specs.Prelude.{◌&&◌, if◌then◌else◌}
use Rattle.std.specs.Str.{bytes_eq}
use Rattle.std.specs.Cmp.Lexicographic.{bytes_decides}
use Rattle.tw_lexer.specs.declared.place.Place.{Place}
use Rattle.tw_parse.proofs.Misfits.{no_stop}
use Rattle.tw_parse.proofs.OneReading.{one_reading}
use Rattle.tw_parse.specs.Faults.{IsKnown, IsRead, FaultStands}
use Rattle.tw_parse.specs.Keywords.{form_of, is_built}
use Rattle.tw_parse.specs.Outlines.{Table}
use Rattle.tw_parse.specs.Readings.{Declares}
use Rattle.tw_parse.specs.Syntax.{Declaration}
use Rattle.tw_parse.specs.Words.{Lexeme, first_word, first_bytes}
use Rattle.tw_parse.specs.declared.fault.SyntaxFault.{SyntaxFault}
use Rattle.tw_parse.specs.declared.fault.SyntaxFault.TheVariants as faults
use Rattle.tw_parse.specs.declared.words.Word.{Word}
use Rattle.tw_parse.specs.declared.words.Word.TheVariants.{Keyword}
use Rattle.tw_parse_checks.specs.Marks.{is_check, is_form}
use Rattle.tw_parse_checks.specs.declared.check.CheckForm.TheVariants.{Mode, Block, Worlds, Terminates}
use Rattle.tw_parse_queries.specs.Keywords as queries
use Rattle.tw_parse_queries.specs.Keywords.{has_form, is_search}
use Rattle.tw_parse_queries.specs.Searches.{Header, Heads, Search, of_query, of_solve}
use Rattle.tw_parse_queries.specs.declared.keywords.Form.{Form}
use Rattle.tw_parse_queries.specs.declared.keywords.Form.TheVariants.{Query, Solve}
use Rattle.tw_decl.specs.Reading.{IsReadAs, IsReadAsSearch, Read, plain, check, searching, Reads, ReadFault, asks_check, asks_search, is_keyword}
use Rattle.tw_decl.proofs.Asking.{of_plain}
use Rattle.tw_decl.specs.View.{View}

pub read_faultless : (table : Table) (end : Place) (words : List Lexeme) (d : Declaration) → IsRead words → Declares table words d → (fault : SyntaxFault) → FaultStands table end words fault → fault ≡ faults.NoMemory
read_faultless table end words d read shaped (faults.Unsupported name place) h =
    let clash : true ≡ false = sym (read.0 h.0) ∙ h.1 in
    cc
read_faultless table end words d read shaped (faults.Nesting place) h = let e = sym read.1 ∙ h.1 in cc
read_faultless table end words d read shaped (faults.Syntax place) h = absurd (no_stop table end place words h.1.0 shaped.0 shaped.1)
read_faultless table end words d read shaped (faults.Fixity place) h = let once = one_reading table words d shaped in absurd (once.1 h.1.0 place h.1.1 h.1.2)
read_faultless table end words d read shaped (faults.BadDecl place) h = absurd (h.1.2 d shaped)
read_faultless table end words d read shaped faults.NoMemory h = refl

-- it asks for no check
check_by : (a b c d : Bool) (bytes : List ℕ) → bytes_eq bytes (codes "%mode") ≡ a → bytes_eq bytes (codes "%block") ≡ b → bytes_eq bytes (codes "%worlds") ≡ c → bytes_eq bytes (codes "%terminates") ≡ d
    → is_form (if a then Some Mode else if b then Some Block else if c then Some Worlds else if d then Some Terminates else None) ≡ true → is_built (form_of bytes) ≡ false
check_by true b c d bytes e f g k h = let word : bytes ≡ codes "%mode" = (bytes_decides bytes (codes "%mode")).0 e in ap (λ (bs : List ℕ). is_built (form_of bs)) word
check_by false true c d bytes e f g k h = let word : bytes ≡ codes "%block" = (bytes_decides bytes (codes "%block")).0 f in ap (λ (bs : List ℕ). is_built (form_of bs)) word
check_by false false true d bytes e f g k h = let word : bytes ≡ codes "%worlds" = (bytes_decides bytes (codes "%worlds")).0 g in ap (λ (bs : List ℕ). is_built (form_of bs)) word
check_by false false false true bytes e f g k h = let word : bytes ≡ codes "%terminates" = (bytes_decides bytes (codes "%terminates")).0 k in ap (λ (bs : List ℕ). is_built (form_of bs)) word
check_by false false false false bytes e f g k h = let clash : false ≡ true = h in absurd cc

not_built : (bytes : List ℕ) → is_check bytes ≡ true → is_built (form_of bytes) ≡ false
not_built bytes h = check_by (bytes_eq bytes (codes "%mode")) (bytes_eq bytes (codes "%block")) (bytes_eq bytes (codes "%worlds")) (bytes_eq bytes (codes "%terminates")) bytes refl refl refl refl h

plain_by : (w : Word) (bytes : List ℕ) (b : Bool) → is_check bytes ≡ b → (w ≡ Keyword → is_built (form_of bytes) ≡ true) → is_keyword w && is_check bytes ≡ false
plain_by Keyword bytes true e known = let clash : false ≡ true = sym (not_built bytes e) ∙ known refl in absurd cc
plain_by Keyword bytes false e known = e
plain_by w bytes b e known = refl

pub asks_none : (words : List Lexeme) → IsKnown words → asks_check words ≡ false
asks_none words known = plain_by (first_word words) (first_bytes words) (is_check (first_bytes words)) refl known

-- nor for a search
search_by : (a b : Bool) (bytes : List ℕ) → bytes_eq bytes (codes "%query") ≡ a → bytes_eq bytes (codes "%solve") ≡ b → has_form (if a then Some Query else if b then Some Solve else None) ≡ true → is_built (form_of bytes) ≡ false
search_by true b bytes e f h = let query : bytes ≡ codes "%query" = (bytes_decides bytes (codes "%query")).0 e in ap (λ (bs : List ℕ). is_built (form_of bs)) query
search_by false true bytes e f h = let solve : bytes ≡ codes "%solve" = (bytes_decides bytes (codes "%solve")).0 f in ap (λ (bs : List ℕ). is_built (form_of bs)) solve
search_by false false bytes e f h = let clash : false ≡ true = h in absurd cc

search_unbuilt : (bytes : List ℕ) → is_search bytes ≡ true → is_built (form_of bytes) ≡ false
search_unbuilt bytes h = search_by (bytes_eq bytes (codes "%query")) (bytes_eq bytes (codes "%solve")) bytes refl refl h

unsearched_by : (w : Word) (bytes : List ℕ) (b : Bool) → is_search bytes ≡ b → (w ≡ Keyword → is_built (form_of bytes) ≡ true) → is_keyword w && is_search bytes ≡ false
unsearched_by Keyword bytes true e known = let clash : false ≡ true = sym (search_unbuilt bytes e) ∙ known refl in absurd cc
unsearched_by Keyword bytes false e known = e
unsearched_by w bytes b e known = refl

pub searches_none : (words : List Lexeme) → IsKnown words → asks_search words ≡ false
searches_none words known = unsearched_by (first_word words) (first_bytes words) (is_search (first_bytes words)) refl known

-- so a fault of what is read is one of the grammar of declarations
pub of_grammar : (v : View) (end : Place) (words : List Lexeme) (fault : SyntaxFault) → IsRead words → ReadFault v end words fault → FaultStands v.fixities end words fault
of_grammar v end words fault read h = of_plain v end words fault (asks_none words read.0) (searches_none words read.0) h

-- and a search asks for one
searched : (x : Lexeme) (f : Form) → x.word ≡ Keyword → queries.form_of x.bytes ≡ Some f → is_keyword x.word && is_search x.bytes ≡ true
searched x f w k = ap (λ (u : Word). is_keyword u && is_search x.bytes) w ∙ ap has_form k

header_asks : (words : List Lexeme) (h : Header) (goal : List Lexeme) → Heads words h goal → asks_search words ≡ true
header_asks words h goal (of_query {keyword = x} w k b c) = searched x Query w k
header_asks words h goal (of_solve {keyword = x} w k n c) = searched x Solve w k

pub search_asks : (v : View) (words : List Lexeme) (s : Search) → IsReadAsSearch v words s → asks_search words ≡ true
search_asks v words s r = header_asks words r.reads.0 r.reads.1 r.reads.2

-- there is no other reading
pub only_read : (v : View) (words : List Lexeme) (d : Declaration) → IsReadAs v words d → (x : Read) → Reads v words x → x ≡ plain d
only_read v words d r (plain x) h = ap plain ((one_reading v.fixities words d r.reads).0 x h.reads)
only_read v words d r (check c) h = let clash : false ≡ true = sym (asks_none words r.begins.0) ∙ h.asked in absurd cc
only_read v words d r (searching s) h = let clash : false ≡ true = sym (searches_none words r.begins.0) ∙ search_asks v words s h in absurd cc
