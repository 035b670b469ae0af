-- Openings, binders without a type, heads and labels, token by token.
use Rattle.std.proofs.Common.{◌≡◌, ℕ, ◌+◌, List, ◌∷◌, true, false, None, Some, drop, drop-drop, refl, sym, ap, subst, ◌∙◌, arith}
use Rattle.tw_lexer.specs.declared.place.Place.{Place}
use Rattle.tw_parse.specs.Outlines.{Table, named}
use Rattle.tw_parse.specs.Words.{Lexeme, first_word, first_bytes, first_place, is_bindable}
use Rattle.tw_parse.specs.declared.decl.ExtName.{ExtName}
use Rattle.tw_parse.specs.declared.words.Word.{Word}
use Rattle.tw_parse.specs.declared.words.Word.TheVariants.{Name, Colon, LBrace, RBrace, End}
use Rattle.tw_parse.proofs.Building.{Token, bindable_stands}
use Rattle.tw_parse_checks.specs.Marks.{mark_of, lone_mark_by}
use Rattle.tw_parse_checks.specs.Parts.{HasNoHead, HasNoLabel, HasNoOpening}
use Rattle.tw_parse_checks.specs.Shapes.{Opening, an_opening, Head, a_head, Binder, TakesBinder, a_typed_binder, a_bare_binder, TakesLabel, a_label}
use Rattle.tw_parse_checks.specs.declared.check.ExtMark.{ExtMark}
use Rattle.tw_parse_checks.proofs.Tokens.{token, same_name}

-- what is said of the tokens behind the first ones of these
pub onward : (xs : List Lexeme) (n k : ℕ) (P : List Lexeme → Type 0) → P (drop k (drop n xs)) → P (drop (n + k) xs)
onward xs n k P p = subst P (drop-drop k n xs) p

-- the first three tokens of an opening
record OpensWith (ts : List Lexeme) : Type 0 where
  brace : first_word ts ≡ LBrace
  binds : is_bindable (first_word (drop 1 ts)) ≡ true
  colons : first_word (drop 2 ts) ≡ Colon

opens_with : {ts rest : List Lexeme} {x : ExtName} → Opening ts x rest → OpensWith ts
opens_with (an_opening e f g) = record { brace = e; binds = f; colons = g }

pub no_name_opening : (xs : List Lexeme) (n : ℕ) → is_bindable (first_word (drop (n + 1) xs)) ≡ false → HasNoOpening (drop n xs)
no_name_opening xs n isnt x rest o = let clash : false ≡ true = sym isnt ∙ onward xs n 1 (λ (ts : List Lexeme). is_bindable (first_word ts) ≡ true) (opens_with o).binds in cc

pub no_colon_opening : (xs : List Lexeme) (n : ℕ) → (first_word (drop (n + 2) xs) ≡ Colon → ⊥) → HasNoOpening (drop n xs)
no_colon_opening xs n isnt x rest o = isnt (onward xs n 2 (λ (ts : List Lexeme). first_word ts ≡ Colon) (opens_with o).colons)

-- the name behind a bracket
abbrev name_behind : Place → List Lexeme → ℕ → ExtName
name_behind end xs n = record { name = first_bytes (drop (n + 1) xs); at = first_place end (drop n xs) }

-- a bracket, a name and a third token
record Three (end : Place) (xs : List Lexeme) (n : ℕ) (third : Word) : Type 0 where
  opener : Lexeme
  x : Lexeme
  last : Lexeme
  all : drop n xs ≡ opener ∷ x ∷ last ∷ drop (n + 3) xs
  brace : opener.word ≡ LBrace
  binds : is_bindable x.word ≡ true
  ends : last.word ≡ third
  same : ◌≡◌ {A = ExtName} (record { name = x.bytes; at = opener.at }) (name_behind end xs n)

three : (end : Place) (xs : List Lexeme) (n : ℕ) (third : Word) → first_word (drop n xs) ≡ LBrace → is_bindable (first_word (drop (n + 1) xs)) ≡ true → first_word (drop (n + 2) xs) ≡ third → (third ≡ End → ⊥) → Three end xs n third
three end xs n third opens binds ends some =
    let u : Token xs n (n + 1) LBrace = token xs n (n + 1) LBrace refl opens (λ e. cc) in
    let v : Token xs (n + 1) (n + 2) (first_word (drop (n + 1) xs)) = token xs (n + 1) (n + 2) _ (omega arith) refl (bindable_stands _ binds) in
    let l : Token xs (n + 2) (n + 3) third = token xs (n + 2) (n + 3) third (omega arith) ends some in
    record {
      opener = u.0;
      x = v.0;
      last = l.0;
      all = u.1 ∙ ap (λ (ts : List Lexeme). u.0 ∷ ts) (v.1 ∙ ap (λ (ts : List Lexeme). v.0 ∷ ts) l.1);
      brace = u.2;
      binds = ap is_bindable v.2 ∙ binds;
      ends = l.2;
      same = same_name _ _ (sym (ap first_bytes v.1)) (sym (ap (first_place end) u.1));
    }

pub opening_here : (end : Place) (xs : List Lexeme) (n : ℕ) → first_word (drop n xs) ≡ LBrace → is_bindable (first_word (drop (n + 1) xs)) ≡ true → first_word (drop (n + 2) xs) ≡ Colon → Opening (drop n xs) (name_behind end xs n) (drop (n + 3) xs)
opening_here end xs n opens binds colons =
    let t = three end xs n Colon opens binds colons (λ e. cc) in
    let here : Opening (t.opener ∷ t.x ∷ t.last ∷ drop (n + 3) xs) (record { name = t.x.bytes; at = t.opener.at }) (drop (n + 3) xs) = an_opening t.brace t.binds t.ends in
    subst (λ (ts : List Lexeme). Opening ts (name_behind end xs n) (drop (n + 3) xs)) (sym t.all) (subst (λ (y : ExtName). Opening (t.opener ∷ t.x ∷ t.last ∷ drop (n + 3) xs) y (drop (n + 3) xs)) t.same here)

pub bare_here : (table : Table) (end : Place) (xs : List Lexeme) (n : ℕ) → first_word (drop n xs) ≡ LBrace → is_bindable (first_word (drop (n + 1) xs)) ≡ true → first_word (drop (n + 2) xs) ≡ RBrace
    → TakesBinder table (drop n xs) (record { variable = name_behind end xs n; type = None }) (drop (n + 3) xs)
bare_here table end xs n opens binds closes =
    let t = three end xs n RBrace opens binds closes (λ e. cc) in
    let rest : List Lexeme = drop (n + 3) xs in
    let here : TakesBinder table (t.opener ∷ t.x ∷ t.last ∷ rest) (record { variable = record { name = t.x.bytes; at = t.opener.at }; type = None }) rest = a_bare_binder t.brace t.binds t.ends in
    subst (λ (ts : List Lexeme). TakesBinder table ts (record { variable = name_behind end xs n; type = None }) rest) (sym t.all)
    (subst (λ (y : ExtName). TakesBinder table (t.opener ∷ t.x ∷ t.last ∷ rest) (record { variable = y; type = None }) rest) t.same here)

-- the first three tokens of a binder without a type
record BareWith (ts : List Lexeme) : Type 0 where
  brace : first_word ts ≡ LBrace
  binds : is_bindable (first_word (drop 1 ts)) ≡ true
  closes : first_word (drop 2 ts) ≡ RBrace

bare_with : (table : Table) (ts rest : List Lexeme) (b : Binder) → b.type ≡ None → TakesBinder table ts b rest → BareWith ts
bare_with table ts rest b none (a_typed_binder {A = A} o s e) = let clash : Some A ≡ None = none in cc
bare_with table ts rest b none (a_bare_binder e f g) = record { brace = e; binds = f; closes = g }

abbrev pub NoBareAt : Table → List Lexeme → Type 0
NoBareAt table ts = (x : ExtName) (rest : List Lexeme) → TakesBinder table ts (record { variable = x; type = None }) rest → ⊥

pub no_brace_bare : (table : Table) (ts : List Lexeme) → (first_word ts ≡ LBrace → ⊥) → NoBareAt table ts
no_brace_bare table ts isnt x rest b = isnt (bare_with table ts rest _ refl b).brace

pub no_name_bare : (table : Table) (xs : List Lexeme) (n : ℕ) → is_bindable (first_word (drop (n + 1) xs)) ≡ false → NoBareAt table (drop n xs)
no_name_bare table xs n isnt x rest b = let clash : false ≡ true = sym isnt ∙ onward xs n 1 (λ (ts : List Lexeme). is_bindable (first_word ts) ≡ true) (bare_with table (drop n xs) rest _ refl b).binds in cc

pub no_closer_bare : (table : Table) (xs : List Lexeme) (n : ℕ) → (first_word (drop (n + 2) xs) ≡ RBrace → ⊥) → NoBareAt table (drop n xs)
no_closer_bare table xs n isnt x rest b = isnt (onward xs n 2 (λ (ts : List Lexeme). first_word ts ≡ RBrace) (bare_with table (drop n xs) rest _ refl b).closes)

-- what stands behind the mark of a head
head_opens : {ts rest : List Lexeme} {m : ExtMark} {x : ExtName} → Head ts m x rest → Opening (drop 1 ts) x rest
head_opens (a_head e o) = o

pub no_opening_head : (xs : List Lexeme) (n : ℕ) → HasNoOpening (drop (n + 1) xs) → HasNoHead (drop n xs)
no_opening_head xs n none m x rest h = none x rest (onward xs n 1 (λ (ts : List Lexeme). Opening ts x rest) (head_opens h))

pub head_here : (xs : List Lexeme) (n : ℕ) (m : ExtMark) (x : ExtName) → first_word (drop n xs) ≡ Name → mark_of (first_bytes (drop n xs)) ≡ Some m → Opening (drop (n + 1) xs) x (drop (n + 1 + 3) xs) → Head (drop n xs) m x (drop (n + 4) xs)
head_here xs n m x is marks opens =
    let t : Token xs n (n + 1) Name = token xs n (n + 1) Name refl is (λ e. cc) in
    let named : lone_mark_by t.0.word t.0.bytes ≡ mark_of t.0.bytes = ap (λ (w : Word). lone_mark_by w t.0.bytes) t.2 in
    let same_bytes : mark_of (first_bytes (drop n xs)) ≡ mark_of t.0.bytes = ap (λ (ts : List Lexeme). mark_of (first_bytes ts)) t.1 in
    let count : n + 1 + 3 ≡ n + 4 = omega arith in
    let behind : Opening (drop (n + 1) xs) x (drop (n + 4) xs) = subst (λ (k : ℕ). Opening (drop (n + 1) xs) x (drop k xs)) count opens in
    let here : Head (t.0 ∷ drop (n + 1) xs) m x (drop (n + 4) xs) = a_head (named ∙ (sym same_bytes ∙ marks)) behind in
    subst (λ (ts : List Lexeme). Head ts m x (drop (n + 4) xs)) (sym t.1) here

-- Labels

label_colon : {ts rest : List Lexeme} {l : ExtName} → TakesLabel ts l rest → first_word (drop 1 ts) ≡ Colon
label_colon (a_label e f) = f

pub no_colon_label : (xs : List Lexeme) (n : ℕ) → (first_word (drop (n + 1) xs) ≡ Colon → ⊥) → HasNoLabel (drop n xs)
no_colon_label xs n isnt l rest t = isnt (onward xs n 1 (λ (ts : List Lexeme). first_word ts ≡ Colon) (label_colon t))

pub label_here : (end : Place) (xs : List Lexeme) (n : ℕ) → first_word (drop n xs) ≡ Name → first_word (drop (n + 1) xs) ≡ Colon → TakesLabel (drop n xs) (record { name = first_bytes (drop n xs); at = first_place end (drop n xs) }) (drop (n + 2) xs)
label_here end xs n is colons =
    let l : Token xs n (n + 1) Name = token xs n (n + 1) Name refl is (λ e. cc) in
    let c : Token xs (n + 1) (n + 2) Colon = token xs (n + 1) (n + 2) Colon (omega arith) colons (λ e. cc) in
    let rest : List Lexeme = drop (n + 2) xs in
    let name : ExtName = record { name = first_bytes (drop n xs); at = first_place end (drop n xs) } in
    let all : drop n xs ≡ l.0 ∷ c.0 ∷ rest = l.1 ∙ ap (λ (ts : List Lexeme). l.0 ∷ ts) c.1 in
    let here : TakesLabel (l.0 ∷ c.0 ∷ rest) (named l.0) rest = a_label l.2 c.2 in
    let same : named l.0 ≡ name = same_name (named l.0) name (sym (ap first_bytes l.1)) (sym (ap (first_place end) l.1)) in
    subst (λ (ts : List Lexeme). TakesLabel ts name rest) (sym all) (subst (λ (x : ExtName). TakesLabel (l.0 ∷ c.0 ∷ rest) x rest) same here)
