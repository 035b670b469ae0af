-- Rows of tokens.
use Rattle.std.proofs.Common.{◌≡◌, List, [], ◌∷◌, ◌++◌, Some, None, true, false, refl, sym, ap, subst, ◌∙◌}
use Rattle.tw_parse.specs.Keywords.{is_identifier}
use Rattle.tw_parse.specs.Words.{Lexeme, first_word, first_bytes}
use Rattle.tw_parse_checks.specs.Marks.{named_mark_by}
use Rattle.tw_parse.specs.declared.words.Word.{Word}
use Rattle.tw_parse.specs.declared.words.Word.TheVariants.{RParen}
use Rattle.tw_parse_checks.specs.Parts.{Stuck}
use Rattle.tw_parse_checks.specs.Shapes.{Row, no_more, one_more, TakesMark, a_mark, TakesName, a_name, is_variable, TakesVariable, a_variable}

-- one more at the end
pub push : {A : Type 0} {Takes : List Lexeme → A → List Lexeme → Type 0} {tokens next rest : List Lexeme} {row : List A} {x : A} → Row Takes tokens row next → Takes next x rest → Row Takes tokens (row ++ x ∷ []) rest
push no_more t = one_more t no_more
push (one_more h w) t = one_more h (push w t)

abbrev pub IsOnce : {A : Type 0} → (List Lexeme → A → List Lexeme → Type 0) → Type 0
IsOnce {A} Takes = (tokens rest others : List Lexeme) (x y : A) → Takes tokens x rest → Takes tokens y others → (x ≡ y) × (rest ≡ others)

-- a row that can't go on is one row
pub row_once : {A : Type 0} (Takes : List Lexeme → A → List Lexeme → Type 0) → IsOnce Takes → {tokens rest others : List Lexeme} {xs ys : List A} → Row Takes tokens xs rest → Row Takes tokens ys others → Stuck Takes rest → Stuck Takes others → (xs ≡ ys) × (rest ≡ others)
row_once Takes once no_more no_more i j = (refl, refl)
row_once Takes once no_more (one_more {next = next} {one = y} u v) i j = absurd (i y next u)
row_once Takes once (one_more {next = next} {one = x} t w) no_more i j = absurd (j x next t)
row_once {A} Takes once (one_more {tokens = tokens} {next = next} {one = x} {more = xs} t w) (one_more {next = after} {rest = others} {one = y} {more = ys} u v) i j =
    let first = once tokens next after x y t u in
    let last = row_once Takes once w (subst (λ (ts : List Lexeme). Row Takes ts ys others) (sym first.1) v) i j in
    (ap (λ (z : A). z ∷ xs) first.0 ∙ ap (λ (zs : List A). y ∷ zs) last.0, last.1)

-- Marks and names

pub marks_once : IsOnce TakesMark
marks_once tokens rest others x y (a_mark e) (a_mark f) = (let same : Some x ≡ Some y = sym e ∙ f in let is : x ≡ y = cc in is, refl)

pub names_once : IsOnce TakesName
names_once tokens rest others x y (a_name e) (a_name f) = (refl, refl)

pub variables_once : IsOnce TakesVariable
variables_once tokens rest others x y (a_variable e) (a_variable f) = (refl, refl)

pub stuck_variable : (tokens : List Lexeme) → is_variable (first_word tokens) (first_bytes tokens) ≡ false → Stuck TakesVariable tokens
stuck_variable tokens e x rest (a_variable f) = let clash : false ≡ true = sym e ∙ f in cc

pub paren_is_no_variable : (c : Lexeme) (rest : List Lexeme) → c.word ≡ RParen → Stuck TakesVariable (c ∷ rest)
paren_is_no_variable c rest e = stuck_variable (c ∷ rest) (ap (λ (w : Word). is_variable w c.bytes) e)

pub stuck_mark : (tokens : List Lexeme) → named_mark_by (first_word tokens) (first_bytes tokens) ≡ None → Stuck TakesMark tokens
stuck_mark tokens e x rest (a_mark f) = let clash : None ≡ Some x = sym e ∙ f in cc

pub stuck_name : (tokens : List Lexeme) → is_identifier (first_word tokens) ≡ false → Stuck TakesName tokens
stuck_name tokens e x rest (a_name f) = let clash : false ≡ true = sym e ∙ f in cc
