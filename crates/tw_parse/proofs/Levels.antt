-- How deep brackets are nested, token by token.
use Rattle.std.proofs.Common.{◌≡◌, ℕ, zero, suc, ◌+◌, List, [], ◌∷◌, true, false, Option, None, Some, nat_le, if◌then◌else◌, drop, refl, sym, ap, ◌∙◌, ◌⊎◌, inl, inr, add-one}
use Rattle.tw_lexer.specs.declared.place.Place.{Place}
use Rattle.tw_parse.specs.Nesting.{bracket_of, closes, level_behind, brackets_behind, level_after, first_too_deep}
use Rattle.tw_parse.specs.Words.{Lexeme, first_word}
use Rattle.tw_parse.specs.declared.nesting.Bracket.{Bracket}
use Rattle.tw_parse.specs.declared.nesting.Open.{Open}
use Rattle.tw_parse.specs.declared.words.Word.{Word}

split_at : (xs : List Lexeme) (i : ℕ) → ((drop i xs ≡ []) × (drop (suc i) xs ≡ [])) ⊎ ((x : Lexeme) × (drop i xs ≡ x ∷ drop (suc i) xs))
split_at [] zero = inl (refl, refl)
split_at [] (suc i) = inl (refl, refl)
split_at (x ∷ xs) zero = inr (x, refl)
split_at (x ∷ xs) (suc i) = split_at xs i

-- what the word that stands first does, where a list without a word does nothing
abbrev pub Opened : List Open → ℕ → Bracket → List Open
Opened brackets level bracket = record { bracket = bracket; behind = level_behind bracket level } ∷ brackets

by_bracket : List Open → ℕ → Lexeme → List Lexeme → Option Bracket → Option Place
by_bracket brackets level x xs (Some opened) = if nat_le 1000 level then Some x.at else first_too_deep (Opened brackets level opened) (level + 1) xs
by_bracket brackets level x xs None = first_too_deep (brackets_behind brackets x.word) (level_after brackets level x.word) xs

at_token : (brackets : List Open) (level : ℕ) (x : Lexeme) (xs : List Lexeme) (o : Option Bracket) → bracket_of x.word ≡ o → first_too_deep brackets level (x ∷ xs) ≡ by_bracket brackets level x xs o
unfolding by_bracket
at_token brackets level x xs o is =
    let F : Option Bracket → Option Place = λ opened. elim opened [
      | Some b ↦ if nat_le 1000 level then Some x.at else first_too_deep (Opened brackets level b) (level + 1) xs
      | None ↦ first_too_deep (brackets_behind brackets x.word) (level_after brackets level x.word) xs
    ] in
    let shown : (b : Option Bracket) → F b ≡ by_bracket brackets level x xs b = λ b. elim b as (λ b'. F b' ≡ by_bracket brackets level x xs b') [ Some b' ↦ refl | None ↦ refl ] in
    ap F is ∙ shown o

at_opener : (brackets : List Open) (level : ℕ) (x : Lexeme) (opened : Bracket) (xs : List Lexeme) → bracket_of x.word ≡ Some opened → nat_le 1000 level ≡ false
    → first_too_deep brackets level (x ∷ xs) ≡ first_too_deep (Opened brackets level opened) (level + 1) xs
unfolding by_bracket
at_opener brackets level x opened xs is below =
    at_token brackets level x xs (Some opened) is ∙ ap (λ deep. if deep then Some x.at else first_too_deep (Opened brackets level opened) (level + 1) xs) below

at_other : (brackets : List Open) (level : ℕ) (x : Lexeme) (xs : List Lexeme) → bracket_of x.word ≡ None → first_too_deep brackets level (x ∷ xs) ≡ first_too_deep (brackets_behind brackets x.word) (level_after brackets level x.word) xs
unfolding by_bracket
at_other brackets level x xs is = at_token brackets level x xs None is

pub opener_step : (brackets : List Open) (level : ℕ) (xs : List Lexeme) (i : ℕ) (w : Word) (bracket : Bracket) → w ≡ first_word (drop i xs) → bracket_of w ≡ Some bracket → nat_le 1000 level ≡ false
    → first_too_deep brackets level (drop i xs) ≡ first_too_deep (Opened brackets level bracket) (level + 1) (drop (i + 1) xs)
opener_step brackets level xs i w bracket is opens below =
    elim (split_at xs i) [
      | inl empty ↦ let clash : None ≡ Some bracket = sym (ap bracket_of (is ∙ ap first_word empty.0)) ∙ opens in cc
      | inr found ↦ ap (first_too_deep brackets level) found.1 ∙ at_opener brackets level found.0 bracket (drop (suc i) xs) (sym (ap bracket_of (is ∙ ap first_word found.1)) ∙ opens) below
          ∙ ap (λ n. first_too_deep (Opened brackets level bracket) (level + 1) (drop n xs)) (sym (add-one i))
    ]

pub other_step : (brackets : List Open) (level : ℕ) (xs : List Lexeme) (i : ℕ) (w : Word) → w ≡ first_word (drop i xs) → bracket_of w ≡ None
    → first_too_deep brackets level (drop i xs) ≡ first_too_deep (brackets_behind brackets w) (level_after brackets level w) (drop (i + 1) xs)
other_step brackets level xs i w is opens =
    elim (split_at xs i) [
      | inl empty ↦ ap (first_too_deep brackets level) empty.0 ∙ sym (ap (first_too_deep (brackets_behind brackets w) (level_after brackets level w)) (ap (λ n. drop n xs) (add-one i) ∙ empty.1))
      | inr found ↦
          let same : w ≡ found.0.word = is ∙ ap first_word found.1 in
          ap (first_too_deep brackets level) found.1 ∙ at_other brackets level found.0 (drop (suc i) xs) (sym (ap bracket_of same) ∙ opens)
          ∙ ap (λ v. first_too_deep (brackets_behind brackets v) (level_after brackets level v) (drop (suc i) xs)) (sym same)
          ∙ ap (λ n. first_too_deep (brackets_behind brackets w) (level_after brackets level w) (drop n xs)) (sym (add-one i))
    ]

pub same_start : (brackets brackets' : List Open) (level level' : ℕ) (xs : List Lexeme) → brackets ≡ brackets' → level ≡ level' → first_too_deep brackets level xs ≡ first_too_deep brackets' level' xs
same_start brackets brackets' level level' xs e f = cc

-- the innermost open bracket is closed
pub closing_step : (brackets rest : List Open) (top : Open) (level : ℕ) (xs : List Lexeme) (i : ℕ) (w : Word) → w ≡ first_word (drop i xs) → bracket_of w ≡ None → brackets ≡ top ∷ rest → closes top.bracket w ≡ true
    → first_too_deep brackets level (drop i xs) ≡ first_too_deep rest top.behind (drop (i + 1) xs)
closing_step brackets rest top level xs i w is opens tops closing =
    other_step brackets level xs i w is opens
    ∙ same_start (brackets_behind brackets w) rest (level_after brackets level w) top.behind (drop (i + 1) xs)
    (ap (λ all. brackets_behind all w) tops ∙ rw closing refl) (ap (λ all. level_after all level w) tops ∙ rw closing refl)

-- it is not
pub plain_step : (brackets rest : List Open) (top : Open) (level : ℕ) (xs : List Lexeme) (i : ℕ) (w : Word) → w ≡ first_word (drop i xs) → bracket_of w ≡ None → brackets ≡ top ∷ rest → closes top.bracket w ≡ false
    → first_too_deep brackets level (drop i xs) ≡ first_too_deep brackets level (drop (i + 1) xs)
plain_step brackets rest top level xs i w is opens tops closing =
    other_step brackets level xs i w is opens
    ∙ same_start (brackets_behind brackets w) brackets (level_after brackets level w) level (drop (i + 1) xs)
    (ap (λ all. brackets_behind all w) tops ∙ rw closing (sym tops)) (ap (λ all. level_after all level w) tops ∙ rw closing refl)

-- no bracket is open
pub outer_step : (brackets : List Open) (level : ℕ) (xs : List Lexeme) (i : ℕ) (w : Word) → w ≡ first_word (drop i xs) → bracket_of w ≡ None → brackets ≡ []
    → first_too_deep brackets level (drop i xs) ≡ first_too_deep brackets level (drop (i + 1) xs)
outer_step brackets level xs i w is opens none =
    other_step brackets level xs i w is opens
    ∙ same_start (brackets_behind brackets w) brackets (level_after brackets level w) level (drop (i + 1) xs)
    (ap (λ all. brackets_behind all w) none ∙ sym none) (ap (λ all. level_after all level w) none)
