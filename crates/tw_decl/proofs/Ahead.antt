-- A declaration takes some bytes of its text.
use Rattle.std.proofs.Common.{◌≡◌, ◌≤◌, ◌<◌, ℕ, List, [], ◌∷◌, length, Bool, true, false, refl, sym, ap, ◌∙◌, subst, arith}
use Rattle.std.specs.Bool.{MatchBool}
use Rattle.std.specs.declared.option.Option.{Option}
use Rattle.tw_lexer.specs.Tokens.{ends, ThroughDot}
use Rattle.tw_lexer.specs.declared.token.Token.{Token}
use Rattle.tw_lexer.specs.declared.token.TokenKind.{TokenKind}
use Rattle.tw_lexer.specs.declared.token.TokenKind.TheVariants as kinds
use Rattle.tw_lexer.proofs.Firsts.{first_token-IsToken}
use Rattle.tw_lexer.proofs.TokensUnique.{tokens_lie_within}
use Rattle.tw_parse.specs.Outlines.{Table, Outline, Shapes, declares, defines, defines_typed, prefers, prefers_both, gives, Head, a_definition, a_check, an_abbreviation}
use Rattle.tw_parse.specs.Syntax.{DeclarationOf}
use Rattle.tw_parse.specs.Words.{Lexeme, lexemes, first_word, word_of}
use Rattle.tw_parse.specs.declared.words.Word.{Word}
use Rattle.tw_parse.specs.declared.words.Word.TheVariants.{Name, Underscore, Keyword}
use Rattle.tw_parse_queries.specs.Searches.{Header, Heads, of_query, of_solve}
use Rattle.tw_decl.specs.View.{View}
use Rattle.tw_decl.specs.Declaration.{AcceptsFrom}
use Rattle.tw_decl.specs.Reading.{Read, plain, check, searching, Reads}
use Rattle.tw_decl.specs.Reports.{Reported}
use Rattle.tw_decl.proofs.Asking.{asked_word}

-- a declaration may begin with this word
abbrev begins : Word → Bool
begins Name = true
begins Underscore = true
begins Keyword = true
begins _ = false

head_begins : (words : List Lexeme) (name : Option (List ℕ)) (b : Bool) (rest : List Lexeme) → Head words name b rest → begins (first_word words) ≡ true
head_begins words name b rest (a_definition w) = ap begins w
head_begins words name b rest (a_check w) = ap begins w
head_begins words name b rest (an_abbreviation w f x) = ap begins w

shape_begins : (table : Table) (words : List Lexeme) (D : DeclarationOf Outline) → Shapes table words D → begins (first_word words) ≡ true
shape_begins table words D (declares w c s d) = ap begins w
shape_begins table words D (defines h e s d) = head_begins _ _ _ _ h
shape_begins table words D (defines_typed h c s e t d) = head_begins _ _ _ _ h
shape_begins table words D (prefers w f a x u d) = ap begins w
shape_begins table words D (prefers_both w f a x u y l d) = ap begins w
shape_begins table words D (gives front xs dot w t f n d) = ap begins w

header_begins : (words : List Lexeme) (h : Header) (goal : List Lexeme) → Heads words h goal → begins (first_word words) ≡ true
header_begins words h goal (of_query w k b c) = ap begins w
header_begins words h goal (of_solve w k n c) = ap begins w

read_begins : (v : View) (words : List Lexeme) (r : Read) → Reads v words r → begins (first_word words) ≡ true
read_begins v words (plain d) h = shape_begins v.fixities words h.reads.0 h.reads.1
read_begins v words (check c) h = ap begins (asked_word words h.asked)
read_begins v words (searching s) h = header_begins words h.reads.0 h.reads.1 h.reads.2

-- neither a dot nor the end of the text does
begins_on : (kind : TokenKind) (bytes : List ℕ) → begins (word_of kind bytes) ≡ true → ends kind ≡ false
begins_on kinds.Dot bytes h = cc
begins_on kinds.End bytes h = cc
begins_on kind bytes h = refl

goes_ahead : (text : List ℕ) (from upto : ℕ) (ts : List Token) → from ≤ length text → ThroughDot text from ts upto → begins (first_word (lexemes text ts)) ≡ true → (from < upto) × (upto ≤ length text)
goes_ahead text from upto [] l h b = absurd h
goes_ahead text from upto (t ∷ ts) l h b =
    let i = first_token-IsToken text from t l h.0 in
    let e : ends t.kind ≡ false = begins_on t.kind _ b in
    let rest : ThroughDot text t.upto ts upto = subst (λ (v : Bool). MatchBool v ((ts ≡ []) × (upto ≡ t.upto)) (ThroughDot text t.upto ts upto)) e h.1 in
    let lies = tokens_lie_within text t.upto ts upto i.within rest in
    let long = i.long e in
    (omega (arith, i.later, long, lies.later), lies.within)

-- what is accepted reaches beyond where it begins, and not beyond its text
pub accepted_ahead : (v w : View) (text : List ℕ) (report : Reported) (from upto : ℕ) → from ≤ length text → AcceptsFrom v text from report upto w → (from < upto) × (upto ≤ length text)
accepted_ahead v w text report from upto l h =
    let shaped = read_begins v h.words h.makes.read h.makes.reads in
    goes_ahead text from upto h.written.tokens l h.written.through (ap (λ (ws : List Lexeme). begins (first_word ws)) (sym h.written.spelled) ∙ shaped)
