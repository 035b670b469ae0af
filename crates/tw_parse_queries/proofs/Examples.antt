-- Worked bounds and headers, by computation.
use Rattle.std.proofs.Common.{◌≡◌, ℕ, List, [], ◌∷◌, drop, true, false, None, Some, codes, refl, sym, ◌∙◌}
use Rattle.tw_parse.specs.Words.{Lexeme, first_word, first_bytes}
use Rattle.tw_parse.specs.declared.words.Word.{Word}
use Rattle.tw_parse.specs.declared.words.Word.TheVariants.{Name, Underscore, Keyword, Colon, Dot}
use Rattle.tw_parse_queries.specs.Bounds.{is_bound, bound_of}
use Rattle.tw_parse_queries.specs.Faults.{HasNoHeader}
use Rattle.tw_parse_queries.specs.Keywords.{form_of, is_search}
use Rattle.tw_parse_queries.specs.Searches.{Header, counts, names, Heads, of_query, of_solve}
use Rattle.tw_parse_queries.specs.declared.keywords.Form.TheVariants.{Query, Solve}
use Rattle.tw_parse_queries.specs.declared.search.ExtBound.TheVariants.{Number, Star}

any : bound_of (codes "*") ≡ Some Star
any = refl

ten : bound_of (codes "010") ≡ Some (Number 10)
ten = refl

largest : bound_of (codes "18446744073709551615") ≡ Some (Number 18446744073709551615)
largest = refl

-- a number that is too large is a bound, and says nothing
larger : is_bound Name (codes "18446744073709551616") ≡ true
larger = refl

larger_says_nothing : bound_of (codes "18446744073709551616") ≡ None
larger_says_nothing = refl

-- no bounds
signed : is_bound Name (codes "-1") ≡ false
signed = refl

letters : is_bound Name (codes "1a") ≡ false
letters = refl

hole : is_bound Underscore (codes "_") ≡ false
hole = refl

other_keyword : is_search (codes "%name") ≡ false
other_keyword = refl

a_word : Word → List ℕ → Lexeme
a_word w bytes = record { word = w; bytes = bytes; at = record { line = 1; column = 1 } }

-- `%query 1 * ..` and `%solve c : ..`
counted : (goal : List Lexeme) → Heads (a_word Keyword (codes "%query") ∷ a_word Name (codes "1") ∷ a_word Name (codes "*") ∷ goal) (counts (codes "1") (codes "*")) goal
unfolding a_word
counted goal = of_query refl refl refl refl

solved : (goal : List Lexeme) → Heads (a_word Keyword (codes "%solve") ∷ a_word Name (codes "c") ∷ a_word Colon (codes ":") ∷ goal) (names (codes "c") (record { line = 1; column = 1 })) goal
unfolding a_word
solved goal = of_solve refl refl refl refl

no_bound : {xs : List Lexeme} {h : Header} {goal : List Lexeme} → Heads xs h goal → form_of (first_bytes xs) ≡ Some Query → is_bound (first_word (drop 1 xs)) (first_bytes (drop 1 xs)) ≡ false → ⊥
no_bound (of_query w f e t) is isnt = let clash : true ≡ false = sym e ∙ isnt in cc
no_bound (of_solve w f c l) is isnt = let clash : Some Solve ≡ Some Query = sym f ∙ is in cc

no_colon : {xs : List Lexeme} {h : Header} {goal : List Lexeme} → Heads xs h goal → form_of (first_bytes xs) ≡ Some Solve → first_word (drop 2 xs) ≡ Dot → ⊥
no_colon (of_query w f e t) is dot = let clash : Some Query ≡ Some Solve = sym f ∙ is in cc
no_colon (of_solve w f c l) is dot = let clash : Colon ≡ Dot = sym l ∙ dot in cc

-- no headers: `%query x 1 ..` and `%solve c .`
uncounted : (goal : List Lexeme) → HasNoHeader (a_word Keyword (codes "%query") ∷ a_word Name (codes "x") ∷ a_word Name (codes "1") ∷ goal)
unfolding a_word
uncounted goal = λ h rest heads. no_bound heads refl refl

unsolved : HasNoHeader (a_word Keyword (codes "%solve") ∷ a_word Name (codes "c") ∷ a_word Dot (codes ".") ∷ [])
unfolding a_word
unsolved = λ h rest heads. no_colon heads refl refl
