-- The dot is the last token.
use Rattle.std.proofs.Common.{◌≡◌, ℕ, zero, suc, ◌+◌, List, [], ◌∷◌, Bool, true, false, MatchBool, drop, if◌then◌else◌, refl, sym, ap, subst, ◌∙◌, ⊎_elim, add-one}
use Rattle.std.proofs.lemmas.Bool.{cases_Bool}
use Rattle.tw_lexer.specs.Tokens.{ThroughDot, ends}
use Rattle.tw_lexer.specs.declared.token.Token.{Token}
use Rattle.tw_lexer.specs.declared.token.TokenKind.{TokenKind}
use Rattle.tw_lexer.specs.declared.token.TokenKind.TheVariants as kinds
use Rattle.tw_parse.specs.Words.{word_of, fixed_word, lexeme, lexemes, first_word}
use Rattle.tw_parse.specs.declared.words.Word.{Word}
use Rattle.tw_parse.specs.declared.words.Word.TheVariants.{Name, Forward, Backward, Underscore, Star, Equals, Dot, End}

neither : (b : Bool) (v w : Word) → (v ≡ Dot → ⊥) → (w ≡ Dot → ⊥) → (if b then v else w) ≡ Dot → ⊥
neither true v w p q e = p e
neither false v w p q e = q e

no_dot : (bytes : List ℕ) → fixed_word bytes ≡ Dot → ⊥
no_dot bytes =
    let forward : Forward ≡ Dot → ⊥ = λ e. cc in
    let backward : Backward ≡ Dot → ⊥ = λ e. cc in
    let underscore : Underscore ≡ Dot → ⊥ = λ e. cc in
    let equals : Equals ≡ Dot → ⊥ = λ e. cc in
    let star : Star ≡ Dot → ⊥ = λ e. cc in
    let name : Name ≡ Dot → ⊥ = λ e. cc in
    neither _ _ _ forward (neither _ _ _ backward (neither _ _ _ underscore (neither _ _ _ equals (neither _ _ _ star name))))

dot_ends : (kind : TokenKind) (bytes : List ℕ) → word_of kind bytes ≡ Dot → ends kind ≡ true
dot_ends kinds.Ident bytes e = absurd (no_dot bytes e)
dot_ends kinds.Keyword bytes e = cc
dot_ends kinds.Colon bytes e = cc
dot_ends kinds.Dot bytes e = refl
dot_ends kinds.LParen bytes e = cc
dot_ends kinds.RParen bytes e = cc
dot_ends kinds.LBrace bytes e = cc
dot_ends kinds.RBrace bytes e = cc
dot_ends kinds.LBracket bytes e = cc
dot_ends kinds.RBracket bytes e = cc
dot_ends kinds.End bytes e = cc

no_tokens : (text : List ℕ) (ts : List Token) (i : ℕ) → ts ≡ [] → drop i (lexemes text ts) ≡ []
no_tokens text ts zero e = ap (lexemes text) e
no_tokens text ts (suc i) e = ap (λ us. drop (suc i) (lexemes text us)) e

dot_last : (text : List ℕ) (tokens : List Token) (from upto : ℕ) (i : ℕ) → ThroughDot text from tokens upto → first_word (drop i (lexemes text tokens)) ≡ Dot → drop (suc i) (lexemes text tokens) ≡ []
dot_last text [] from upto i h e = absurd h
dot_last text (t ∷ ts) from upto zero h e =
    let P : Bool → Type 0 = λ b. MatchBool b ((ts ≡ []) × (upto ≡ t.upto)) (ThroughDot text t.upto ts upto) in
    let last = subst P (dot_ends t.kind (lexeme text t).bytes e) h.1 in
    ap (lexemes text) last.0
dot_last text (t ∷ ts) from upto (suc i) h e =
    let P : Bool → Type 0 = λ b. MatchBool b ((ts ≡ []) × (upto ≡ t.upto)) (ThroughDot text t.upto ts upto) in
    ⊎_elim
    (λ stop. let last = subst P stop h.1 in let clash : End ≡ Dot = sym (ap first_word (no_tokens text ts i last.0)) ∙ e in absurd cc)
    (λ on. dot_last text ts t.upto upto i (subst P on h.1) e)
    (cases_Bool (ends t.kind))

pub nothing_behind : (text : List ℕ) (tokens : List Token) (from upto : ℕ) → ThroughDot text from tokens upto → (i : ℕ) → first_word (drop i (lexemes text tokens)) ≡ Dot → drop (i + 1) (lexemes text tokens) ≡ []
nothing_behind text tokens from upto h i e = ap (λ n. drop n (lexemes text tokens)) (add-one i) ∙ dot_last text tokens from upto i h e
