-- What stands behind a keyword, and the whole declaration.
use Rattle.std.proofs.Common.{◌≡◌, List, ◌∷◌, Some, Ok, Err, IfOk, IfErr, sym, ap, subst, ◌∙◌}
use Rattle.std.specs.declared.result.Result.{Result}
use Rattle.tw_lexer.specs.declared.place.Place.{Place}
use Rattle.tw_parse.specs.Outlines.{Table}
use Rattle.tw_parse.specs.Queries.{IsShallow}
use Rattle.tw_parse.specs.Sources.{lexemes_from}
use Rattle.tw_parse.specs.Words.{Lexeme, first_word, first_bytes}
use Rattle.tw_parse.specs.declared.fault.SyntaxFault.{SyntaxFault}
use Rattle.tw_parse.specs.declared.fault.SyntaxFault.TheVariants.{Unsupported, Nesting, Syntax, Fixity, BadDecl, NoMemory}
use Rattle.tw_parse.specs.declared.source.Source.{Source}
use Rattle.tw_parse.specs.declared.words.Word.TheVariants.{Keyword}
use Rattle.tw_parse_checks.specs.Checks.{Check, check_of}
use Rattle.tw_parse_checks.specs.Faults.{StopsBehind, HasSyntaxAt, behind_keyword, CheckFault, CheckFaultStands, DeclaresAll, FaultOf, IsCheck, IsFault}
use Rattle.tw_parse_checks.specs.Marks.{form_of}
use Rattle.tw_parse_checks.specs.Shapes.{Draft, Behind, Shapes, shapes}
use Rattle.tw_parse_checks.specs.declared.check.CheckForm.{CheckForm}
use Rattle.tw_parse_checks.specs.declared.check.ExtCheck.{ExtCheck}
use Rattle.tw_parse_checks.proofs.Sources.{keyword_first}

same_form : (j k : Lexeme) (f g : CheckForm) → form_of j.bytes ≡ Some f → j ≡ k → form_of k.bytes ≡ Some g → f ≡ g
same_form j k f g e same h = let forms : Some f ≡ Some g = sym e ∙ ap (λ (x : Lexeme). form_of x.bytes) same ∙ h in cc

unshape : (table : Table) (form : CheckForm) (k : Lexeme) (ts : List Lexeme) (D : Draft) {tokens : List Lexeme} → Shapes table tokens D → tokens ≡ k ∷ ts → form_of k.bytes ≡ Some form → Behind table form ts D
unshape table form k ts D (shapes {keyword = j} {tokens = us} {form = f} w e b) same h =
    let first : j ≡ k = cc in
    let tails : us ≡ ts = cc in
    subst (λ (g : CheckForm). Behind table g ts D) (same_form j k f form e first h) (subst (λ (xs : List Lexeme). Behind table f xs D) tails b)

unstop : (table : Table) (end place : Place) (form : CheckForm) (k : Lexeme) (ts : List Lexeme) {tokens : List Lexeme} → HasSyntaxAt table end tokens place → tokens ≡ k ∷ ts → form_of k.bytes ≡ Some form → StopsBehind table end place form ts
unstop table end place form k ts (behind_keyword {keyword = j} {tokens = us} {form = f} e b) same h =
    let first : j ≡ k = cc in
    let tails : us ≡ ts = cc in
    subst (λ (g : CheckForm). StopsBehind table end place g ts) (same_form j k f form e first h) (subst (λ (xs : List Lexeme). StopsBehind table end place f xs) tails b)

-- the keyword and its form
record Begins (source : Source) (form : CheckForm) : Type 0 where
  k : Lexeme
  first : lexemes_from source 0 ≡ k ∷ lexemes_from source 1
  word : k.word ≡ Keyword
  is : form_of k.bytes ≡ Some form

begins : (source : Source) (form : CheckForm) → first_word (lexemes_from source 0) ≡ Keyword → form_of (first_bytes (lexemes_from source 0)) ≡ Some form → Begins source form
begins source form word is =
    let k = keyword_first source word in
    record { k = k.0; first = k.1; word = k.2; is = sym (ap (λ (ts : List Lexeme). form_of (first_bytes ts)) k.1) ∙ is }

whole_shape : (source : Source) (form : CheckForm) (D : Draft) → Begins source form → Behind source.fixities.now form (lexemes_from source 1) D → Shapes source.fixities.now (lexemes_from source 0) D
whole_shape source form D b shape = subst (λ (ts : List Lexeme). Shapes source.fixities.now ts D) (sym b.first) (shapes b.word b.is shape)

whole_check : (source : Source) (form : CheckForm) (c : Check) → first_word (lexemes_from source 0) ≡ Keyword → form_of (first_bytes (lexemes_from source 0)) ≡ Some form → IsCheck source form c → DeclaresAll source c
whole_check source form c word is r = (r.0, whole_shape source form r.0 (begins source form word is) r.1, r.2)

whole_fault : (source : Source) (form : CheckForm) (f : SyntaxFault) → first_word (lexemes_from source 0) ≡ Keyword → form_of (first_bytes (lexemes_from source 0)) ≡ Some form → IsFault source form f → FaultOf source f
whole_fault source form f word is h = by_fault f h
  where
    inner : (D : Draft) → Shapes source.fixities.now (lexemes_from source 0) D → Behind source.fixities.now form (lexemes_from source 1) D
    inner D s = unshape source.fixities.now form (begins source form word is).k (lexemes_from source 1) D s (begins source form word is).first (begins source form word is).is

    stopped : (place : Place) → HasSyntaxAt source.fixities.now source.end (lexemes_from source 0) place → StopsBehind source.fixities.now source.end place form (lexemes_from source 1)
    stopped place s = unstop source.fixities.now source.end place form (begins source form word is).k (lexemes_from source 1) s (begins source form word is).first (begins source form word is).is

    by_fault : (f : SyntaxFault) → IsFault source form f → FaultOf source f
    by_fault (Syntax place) h = let c = begins source form word is in subst (λ (ts : List Lexeme). HasSyntaxAt source.fixities.now source.end ts place) (sym c.first) (behind_keyword c.is h)
    by_fault (Fixity place) h = (h.0, whole_shape source form h.0 (begins source form word is) h.1, h.2)
    by_fault (BadDecl place) h = (h.0, λ c d. (h.1 d.0 (inner d.0 d.1)).0 c d.2, λ spot s. h.2 spot (stopped spot s), λ spot g. (h.1 g.0 (inner g.0 g.1)).1 spot g.2)
    by_fault NoMemory h = tt
    by_fault (Nesting place) h = absurd h
    by_fault (Unsupported name place) h = absurd h

pub all_read : (source : Source) (form : CheckForm) (r : Result ExtCheck SyntaxFault) → first_word (lexemes_from source 0) ≡ Keyword → form_of (first_bytes (lexemes_from source 0)) ≡ Some form → IfOk r (λ c. IsCheck source form (check_of c)) → IfOk r (λ c. DeclaresAll source (check_of c))
all_read source form (Ok c) word is h = whole_check source form (check_of c) word is h
all_read source form (Err f) word is h = tt

pub all_fault : (source : Source) (form : CheckForm) (r : Result ExtCheck SyntaxFault) → first_word (lexemes_from source 0) ≡ Keyword → form_of (first_bytes (lexemes_from source 0)) ≡ Some form → IfErr r (IsFault source form) → IfErr r (FaultOf source)
all_fault source form (Ok c) word is h = tt
all_fault source form (Err f) word is h = whole_fault source form f word is h

-- a fault of the grammar stands where no bracket is nested too deep
pub check_stands : (table : Table) (end : Place) (tokens : List Lexeme) (r : Result ExtCheck SyntaxFault) → IsShallow tokens → IfErr r (CheckFault table end tokens) → IfErr r (CheckFaultStands table end tokens)
check_stands table end tokens (Ok c) shallow h = tt
check_stands table end tokens (Err f) shallow h = by_fault f h
  where
    by_fault : (f : SyntaxFault) → CheckFault table end tokens f → CheckFaultStands table end tokens f
    by_fault (Syntax place) h = (shallow, h)
    by_fault (Fixity place) h = (shallow, h)
    by_fault (BadDecl place) h = (shallow, h)
    by_fault NoMemory h = tt
    by_fault (Nesting place) h = absurd h
    by_fault (Unsupported name place) h = absurd h
