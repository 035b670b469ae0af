-- The headers of declarations that search.
use Rattle.std.proofs.Common.{◌≡◌, List, [], ◌∷◌, drop, Bool, true, false, Some, MatchBool, refl, sym, ◌∙◌}
use Rattle.tw_lexer.specs.declared.place.Place.{Place}
use Rattle.tw_parse.specs.Sources.{lexemes_from}
use Rattle.tw_parse.specs.Words.{Lexeme, first_word, first_bytes, first_place}
use Rattle.tw_parse.specs.declared.source.Source.{Source}
use Rattle.tw_parse.specs.declared.words.Word.TheVariants.{Name, Keyword, Colon}
use Rattle.tw_parse_queries.specs.Bounds.{is_bound}
use Rattle.tw_parse_queries.specs.Faults.{FormIs, HasHeader, HasNoHeader}
use Rattle.tw_parse_queries.specs.Keywords.{form_of}
use Rattle.tw_parse_queries.specs.Searches.{Header, counts, names, Heads, of_query, of_solve}
use Rattle.tw_parse_queries.specs.declared.keywords.Form.{Form}
use Rattle.tw_parse_queries.specs.declared.keywords.Form.TheVariants.{Query, Solve}

pub a_query : (xs : List Lexeme) → first_word xs ≡ Keyword → form_of (first_bytes xs) ≡ Some Query → is_bound (first_word (drop 1 xs)) (first_bytes (drop 1 xs)) ≡ true → is_bound (first_word (drop 2 xs)) (first_bytes (drop 2 xs)) ≡ true
    → Heads xs (counts (first_bytes (drop 1 xs)) (first_bytes (drop 2 xs))) (drop 3 xs)
a_query [] w f e t = cc
a_query (k ∷ []) w f e t = cc
a_query (k ∷ x ∷ []) w f e t = cc
a_query (k ∷ x ∷ y ∷ goal) w f e t = of_query w f e t

pub a_solve : (end : Place) (xs : List Lexeme) → first_word xs ≡ Keyword → form_of (first_bytes xs) ≡ Some Solve → first_word (drop 1 xs) ≡ Name → first_word (drop 2 xs) ≡ Colon
    → Heads xs (names (first_bytes (drop 1 xs)) (first_place end (drop 1 xs))) (drop 3 xs)
a_solve end [] w f c l = cc
a_solve end (k ∷ []) w f c l = cc
a_solve end (k ∷ x ∷ []) w f c l = cc
a_solve end (k ∷ x ∷ y ∷ goal) w f c l = of_solve w f c l

-- a bound that is none, or a colon that is missing
no_second_bound : {xs : List Lexeme} {h : Header} {goal : List Lexeme} → Heads xs h goal → form_of (first_bytes xs) ≡ Some Query → is_bound (first_word (drop 2 xs)) (first_bytes (drop 2 xs)) ≡ false → ⊥
no_second_bound (of_query w f e t) is isnt = let clash : true ≡ false = sym t ∙ isnt in cc
no_second_bound (of_solve w f c l) is isnt = let clash : Some Solve ≡ Some Query = sym f ∙ is in cc

no_colon : {xs : List Lexeme} {h : Header} {goal : List Lexeme} → Heads xs h goal → form_of (first_bytes xs) ≡ Some Solve → (first_word (drop 2 xs) ≡ Colon → ⊥) → ⊥
no_colon (of_query w f e t) is isnt = let clash : Some Query ≡ Some Solve = sym f ∙ is in cc
no_colon (of_solve w f c l) is isnt = isnt l

-- behind a first bound the second one decides, and behind a name the colon
pub by_second_bound : (source : Source) (form : Form) (b : Bool) → form ≡ Query → FormIs source form → is_bound (first_word (lexemes_from source 1)) (first_bytes (lexemes_from source 1)) ≡ true
    → b ≡ is_bound (first_word (lexemes_from source 2)) (first_bytes (lexemes_from source 2)) → MatchBool b (HasHeader source form) (HasNoHeader (lexemes_from source 0))
by_second_bound source Query true e is first second = a_query (lexemes_from source 0) is.0 is.1 first (sym second)
by_second_bound source Query false e is first second = λ h goal heads. no_second_bound heads is.1 (sym second)
by_second_bound source Solve b e is first second = let clash : Solve ≡ Query = e in absurd cc

pub by_colon : (source : Source) (form : Form) (b : Bool) → form ≡ Solve → FormIs source form → first_word (lexemes_from source 1) ≡ Name → (b ≡ true → first_word (lexemes_from source 2) ≡ Colon) → (first_word (lexemes_from source 2) ≡ Colon → b ≡ true)
    → MatchBool b (HasHeader source form) (HasNoHeader (lexemes_from source 0))
by_colon source Solve true e is name colon other = a_solve source.end (lexemes_from source 0) is.0 is.1 name (colon refl)
by_colon source Solve false e is name colon other = λ h goal heads. no_colon heads is.1 (λ c. let clash : false ≡ true = other c in cc)
by_colon source Query b e is name colon other = let clash : Query ≡ Solve = e in absurd cc
