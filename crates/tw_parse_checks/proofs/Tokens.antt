-- Families, ends, names and marks.
use Rattle.std.proofs.Common.{◌≡◌, ℕ, ◌+◌, List, [], ◌∷◌, ◌++◌, Bool, true, false, None, Some, drop, refl, sym, ap, subst, ◌∙◌, arith}
use Rattle.tw_lexer.specs.declared.place.Place.{Place}
use Rattle.tw_parse.specs.Keywords.{is_identifier}
use Rattle.tw_parse.specs.Outlines.{Table, Outline, Sequence, named}
use Rattle.tw_parse.specs.Telling.{Tells}
use Rattle.tw_parse.specs.Words.{Lexeme, first_word, first_bytes, first_place}
use Rattle.tw_parse.specs.declared.decl.ExtName.{ExtName}
use Rattle.tw_parse.specs.declared.parts.Part.{Part}
use Rattle.tw_parse.specs.declared.words.Word.{Word}
use Rattle.tw_parse.specs.declared.words.Word.TheVariants.{Dot, LParen, RParen, RBrace, End}
use Rattle.tw_parse.proofs.Building.{Token, a_token}
use Rattle.tw_parse_checks.specs.Marks.{named_mark_by}
use Rattle.tw_parse_checks.specs.Parts.{HasNoFamily}
use Rattle.tw_parse_checks.specs.Shapes.{Row, TakesMark, a_mark, TakesName, a_name, TakesVariable, a_variable, is_variable, Family, bare, in_parens, Closing, by_dot, by_paren}
use Rattle.tw_parse_checks.specs.declared.check.ExtMark.{ExtMark}
use Rattle.tw_parse_checks.proofs.Rows.{push}

pub token : (xs : List Lexeme) (i j : ℕ) (w : Word) → j ≡ i + 1 → first_word (drop i xs) ≡ w → (w ≡ End → ⊥) → Token xs i j w
token xs i j w step is some = a_token xs i j w step (sym is) some

pub identifier_stands : (w : Word) → is_identifier w ≡ true → w ≡ End → ⊥
identifier_stands w e f = let clash : false ≡ true = sym (ap is_identifier f) ∙ e in cc

mark_stands : (w : Word) (bytes : List ℕ) (m : ExtMark) → named_mark_by w bytes ≡ Some m → w ≡ End → ⊥
mark_stands w bytes m e f = let clash : None ≡ Some m = sym (ap (λ (v : Word). named_mark_by v bytes) f) ∙ e in cc

pub same_name : (a b : ExtName) → a.name ≡ b.name → a.at ≡ b.at → a ≡ b
same_name a b e f = ap (λ (x : List ℕ). record { name = x; at = a.at }) e ∙ ap (λ (p : Place). record { name = b.name; at = p }) f

-- Families

-- a token as a name
pub as_name : (end : Place) (ts rest : List Lexeme) (x : Lexeme) (a : ExtName) → ts ≡ x ∷ rest → a.name ≡ first_bytes ts → a.at ≡ first_place end ts → named x ≡ a
as_name end ts rest x a e f g = same_name (named x) a (sym (f ∙ ap first_bytes e)) (sym (g ∙ ap (first_place end) e))

pub bare_family : (end : Place) (xs : List Lexeme) (n : ℕ) (b : Bool) (a : ExtName) → b ≡ false → is_identifier (first_word (drop n xs)) ≡ true → a.name ≡ first_bytes (drop n xs) → a.at ≡ first_place end (drop n xs) → Family b (drop n xs) a (drop (n + 1) xs)
bare_family end xs n b a flag is name at =
    let t : Token xs n (n + 1) (first_word (drop n xs)) = token xs n (n + 1) _ refl refl (identifier_stands _ is) in
    let here : Family false (t.0 ∷ drop (n + 1) xs) (named t.0) (drop (n + 1) xs) = bare (ap is_identifier t.2 ∙ is) in
    subst (λ (c : Bool). Family c (drop n xs) a (drop (n + 1) xs)) (sym flag) (subst (λ (ts : List Lexeme). Family false ts a (drop (n + 1) xs)) (sym t.1) (subst (λ (x : ExtName). Family false (t.0 ∷ drop (n + 1) xs) x (drop (n + 1) xs)) (as_name end (drop n xs) (drop (n + 1) xs) t.0 a t.1 name at) here))

pub inside_family : (end : Place) (xs : List Lexeme) (n : ℕ) (b : Bool) (a : ExtName) → b ≡ true → first_word (drop n xs) ≡ LParen → is_identifier (first_word (drop (n + 1) xs)) ≡ true → a.name ≡ first_bytes (drop (n + 1) xs) → a.at ≡ first_place end (drop (n + 1) xs)
    → Family b (drop n xs) a (drop (n + 2) xs)
inside_family end xs n b a flag opens is name at =
    let o : Token xs n (n + 1) LParen = token xs n (n + 1) LParen refl opens (λ e. cc) in
    let t : Token xs (n + 1) (n + 2) (first_word (drop (n + 1) xs)) = token xs (n + 1) (n + 2) _ (omega arith) refl (identifier_stands _ is) in
    let rest : List Lexeme = drop (n + 2) xs in
    let all : drop n xs ≡ o.0 ∷ t.0 ∷ rest = o.1 ∙ ap (λ (ts : List Lexeme). o.0 ∷ ts) t.1 in
    let here : Family true (o.0 ∷ t.0 ∷ rest) (named t.0) rest = in_parens o.2 (ap is_identifier t.2 ∙ is) in
    subst (λ (c : Bool). Family c (drop n xs) a rest) (sym flag) (subst (λ (ts : List Lexeme). Family true ts a rest) (sym all) (subst (λ (x : ExtName). Family true (o.0 ∷ t.0 ∷ rest) x rest) (as_name end (drop (n + 1) xs) rest t.0 a t.1 name at) here))

identifier_first : {ts rest : List Lexeme} {a : ExtName} → Family false ts a rest → is_identifier (first_word ts) ≡ true
identifier_first (bare e) = e

paren_first : {ts rest : List Lexeme} {a : ExtName} → Family true ts a rest → first_word ts ≡ LParen
paren_first (in_parens e f) = e

identifier_behind : {t : Lexeme} {ts rest : List Lexeme} {a : ExtName} → Family true (t ∷ ts) a rest → is_identifier (first_word ts) ≡ true
identifier_behind (in_parens e f) = f

pub no_bare_family : (ts : List Lexeme) (b : Bool) → b ≡ false → is_identifier (first_word ts) ≡ false → HasNoFamily b ts
no_bare_family ts b flag isnt a rest f = let clash : false ≡ true = sym isnt ∙ identifier_first (subst (λ (c : Bool). Family c ts a rest) flag f) in cc

pub no_paren_family : (ts : List Lexeme) (b : Bool) → b ≡ true → (first_word ts ≡ LParen → ⊥) → HasNoFamily b ts
no_paren_family ts b flag isnt a rest f = isnt (paren_first (subst (λ (c : Bool). Family c ts a rest) flag f))

pub no_inside_family : (xs : List Lexeme) (n : ℕ) (b : Bool) → b ≡ true → first_word (drop n xs) ≡ LParen → is_identifier (first_word (drop (n + 1) xs)) ≡ false → HasNoFamily b (drop n xs)
no_inside_family xs n b flag opens isnt a rest f =
    let o : Token xs n (n + 1) LParen = token xs n (n + 1) LParen refl opens (λ e. cc) in
    let clash : false ≡ true = sym isnt ∙ identifier_behind (subst (λ (ts : List Lexeme). Family true ts a rest) o.1 (subst (λ (c : Bool). Family c (drop n xs) a rest) flag f)) in
    cc

-- Ends

pub closes_bare : (xs : List Lexeme) (n : ℕ) (b : Bool) → b ≡ false → first_word (drop n xs) ≡ Dot → drop (n + 1) xs ≡ [] → Closing b (drop n xs)
closes_bare xs n b flag is last =
    let d : Token xs n (n + 1) Dot = token xs n (n + 1) Dot refl is (λ e. cc) in
    let here : Closing false (d.0 ∷ []) = by_dot d.2 in
    subst (λ (c : Bool). Closing c (drop n xs)) (sym flag) (subst (Closing false) (sym (d.1 ∙ ap (λ (ts : List Lexeme). d.0 ∷ ts) last)) here)

pub closes_paren : (xs : List Lexeme) (n : ℕ) (b : Bool) → b ≡ true → first_word (drop n xs) ≡ RParen → first_word (drop (n + 1) xs) ≡ Dot → drop (n + 1 + 1) xs ≡ [] → Closing b (drop n xs)
closes_paren xs n b flag is dots last =
    let p : Token xs n (n + 1) RParen = token xs n (n + 1) RParen refl is (λ e. cc) in
    let d : Token xs (n + 1) (n + 1 + 1) Dot = token xs (n + 1) (n + 1 + 1) Dot refl dots (λ e. cc) in
    let here : Closing true (p.0 ∷ d.0 ∷ []) = by_paren p.2 d.2 in
    subst (λ (c : Bool). Closing c (drop n xs)) (sym flag) (subst (Closing true) (sym (p.1 ∙ ap (λ (ts : List Lexeme). p.0 ∷ ts) (d.1 ∙ ap (λ (ts : List Lexeme). d.0 ∷ ts) last))) here)

dot_first : {ts : List Lexeme} → Closing false ts → first_word ts ≡ Dot
dot_first (by_dot e) = e

close_first : {ts : List Lexeme} → Closing true ts → first_word ts ≡ RParen
close_first (by_paren e f) = e

dot_behind : {t : Lexeme} {ts : List Lexeme} → Closing true (t ∷ ts) → first_word ts ≡ Dot
dot_behind (by_paren e f) = f

pub no_bare_close : (ts : List Lexeme) (b : Bool) → b ≡ false → (first_word ts ≡ Dot → ⊥) → Closing b ts → ⊥
no_bare_close ts b flag isnt c = isnt (dot_first (subst (λ (d : Bool). Closing d ts) flag c))

pub no_paren_close : (ts : List Lexeme) (b : Bool) → b ≡ true → (first_word ts ≡ RParen → ⊥) → Closing b ts → ⊥
no_paren_close ts b flag isnt c = isnt (close_first (subst (λ (d : Bool). Closing d ts) flag c))

pub no_dot_close : (xs : List Lexeme) (n : ℕ) (b : Bool) → b ≡ true → first_word (drop n xs) ≡ RParen → (first_word (drop (n + 1) xs) ≡ Dot → ⊥) → Closing b (drop n xs) → ⊥
no_dot_close xs n b flag is isnt c =
    let p : Token xs n (n + 1) RParen = token xs n (n + 1) RParen refl is (λ e. cc) in
    isnt (dot_behind (subst (Closing true) p.1 (subst (λ (d : Bool). Closing d (drop n xs)) flag c)))

-- Variables of call patterns

variable_stands : (w : Word) (bytes : List ℕ) → is_variable w bytes ≡ true → w ≡ End → ⊥
variable_stands w bytes e f = let clash : false ≡ true = sym (ap (λ (v : Word). is_variable v bytes) f) ∙ e in cc

pub variable_here : (end : Place) (xs : List Lexeme) (n : ℕ) (a : ExtName) → is_variable (first_word (drop n xs)) (first_bytes (drop n xs)) ≡ true → a.name ≡ first_bytes (drop n xs) → a.at ≡ first_place end (drop n xs) → TakesVariable (drop n xs) a (drop (n + 1) xs)
variable_here end xs n a is name at =
    let t : Token xs n (n + 1) (first_word (drop n xs)) = token xs n (n + 1) _ refl refl (variable_stands _ _ is) in
    let rest : List Lexeme = drop (n + 1) xs in
    let here : TakesVariable (t.0 ∷ rest) (named t.0) rest = a_variable (sym (ap (λ (ts : List Lexeme). is_variable (first_word ts) (first_bytes ts)) t.1) ∙ is) in
    subst (λ (ts : List Lexeme). TakesVariable ts a rest) (sym t.1) (subst (λ (x : ExtName). TakesVariable (t.0 ∷ rest) x rest) (as_name end (drop n xs) rest t.0 a t.1 name at) here)

-- Names and marks

pub one_more_name : (end : Place) (xs : List Lexeme) (from upto : ℕ) (names new : List ExtName) (a : ExtName) → Row TakesName (drop from xs) names (drop upto xs) → is_identifier (first_word (drop upto xs)) ≡ true → a.name ≡ first_bytes (drop upto xs)
    → a.at ≡ first_place end (drop upto xs) → new ≡ names ++ a ∷ [] → Row TakesName (drop from xs) new (drop (upto + 1) xs)
one_more_name end xs from upto names new a row is name at e =
    let t : Token xs upto (upto + 1) (first_word (drop upto xs)) = token xs upto (upto + 1) _ refl refl (identifier_stands _ is) in
    let rest : List Lexeme = drop (upto + 1) xs in
    let here : TakesName (t.0 ∷ rest) (named t.0) rest = a_name (ap is_identifier t.2 ∙ is) in
    let takes : TakesName (drop upto xs) a rest = subst (λ (ts : List Lexeme). TakesName ts a rest) (sym t.1) (subst (λ (x : ExtName). TakesName (t.0 ∷ rest) x rest) (as_name end (drop upto xs) rest t.0 a t.1 name at) here) in
    subst (λ (ns : List ExtName). Row TakesName (drop from xs) ns rest) (sym e) (push row takes)

pub one_more_variable : (end : Place) (xs : List Lexeme) (from upto : ℕ) (names new : List ExtName) (a : ExtName) → Row TakesVariable (drop from xs) names (drop upto xs) → is_variable (first_word (drop upto xs)) (first_bytes (drop upto xs)) ≡ true
    → a.name ≡ first_bytes (drop upto xs) → a.at ≡ first_place end (drop upto xs) → new ≡ names ++ a ∷ [] → Row TakesVariable (drop from xs) new (drop (upto + 1) xs)
one_more_variable end xs from upto names new a row is name at e = subst (λ (ns : List ExtName). Row TakesVariable (drop from xs) ns (drop (upto + 1) xs)) (sym e) (push row (variable_here end xs upto a is name at))

pub one_more_mark : (xs : List Lexeme) (from upto : ℕ) (marks new : List ExtMark) (m : ExtMark) → Row TakesMark (drop from xs) marks (drop upto xs) → named_mark_by (first_word (drop upto xs)) (first_bytes (drop upto xs)) ≡ Some m
    → new ≡ marks ++ m ∷ [] → Row TakesMark (drop from xs) new (drop (upto + 1) xs)
one_more_mark xs from upto marks new m row is e =
    let t : Token xs upto (upto + 1) (first_word (drop upto xs)) = token xs upto (upto + 1) _ refl refl (mark_stands _ _ m is) in
    let rest : List Lexeme = drop (upto + 1) xs in
    let here : TakesMark (t.0 ∷ rest) m rest = a_mark (sym (ap (λ (ts : List Lexeme). named_mark_by (first_word ts) (first_bytes ts)) t.1) ∙ is) in
    let takes : TakesMark (drop upto xs) m rest = subst (λ (ts : List Lexeme). TakesMark ts m rest) (sym t.1) here in
    subst (λ (ns : List ExtMark). Row TakesMark (drop from xs) ns rest) (sym e) (push row takes)

-- Types

pub a_domain : (table : Table) (xs tokens : List Lexeme) (k : ℕ) (U : Outline) (part : Part) → first_word (drop k xs) ≡ RBrace → Sequence table tokens U (drop k xs) → Tells U part
    → (O : Outline) × (closer : Lexeme) × (closer.word ≡ RBrace) × Sequence table tokens O (closer ∷ drop (k + 1) xs) × Tells O part
a_domain table xs tokens k U part is s tells =
    let c : Token xs k (k + 1) RBrace = token xs k (k + 1) RBrace refl is (λ e. cc) in
    (U, c.0, c.2, subst (λ (ts : List Lexeme). Sequence table tokens U ts) c.1 s, tells)
