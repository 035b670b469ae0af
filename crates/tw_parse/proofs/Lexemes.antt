-- What stands at a place among the tokens.
use Rattle.std.proofs.Common.{◌≡◌, ℕ, zero, suc, ◌+◌, List, [], ◌∷◌, Some, map, drop, sym, ap, ◌∙◌, slice_get, add-one}
use Rattle.tw_lexer.specs.declared.token.Token.{Token}
use Rattle.tw_parse.specs.Words.{lexeme, lexemes}

at_drop : {A B : Type 0} (f : A → B) (xs : List A) (i : ℕ) (x : A) → slice_get xs i ≡ Some x → drop i (map f xs) ≡ f x ∷ drop (suc i) (map f xs)
at_drop f [] i x e = cc
at_drop f (y ∷ xs) zero x e = let same : y ≡ x = cc in ap (λ z. f z ∷ map f xs) same
at_drop f (y ∷ xs) (suc i) x e = at_drop f xs i x e

pub lexeme_at : (text : List ℕ) (tokens : List Token) (i : ℕ) (t : Token) → slice_get tokens i ≡ Some t → drop i (lexemes text tokens) ≡ lexeme text t ∷ drop (i + 1) (lexemes text tokens)
lexeme_at text tokens i t e = at_drop (lexeme text) tokens i t e ∙ ap (λ n. lexeme text t ∷ drop n (lexemes text tokens)) (sym (add-one i))
