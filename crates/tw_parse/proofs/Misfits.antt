-- Tokens that are no declaration.
use Rattle.std.proofs.Common.{◌≡◌, ℕ, suc, List, [], ◌∷◌, ◌++◌, map, length, drop, Bool, true, false, Option, None, Some, refl, sym, ap, ◌∙◌, subst, ◌⊎◌, inl, inr, ⊎_elim, append_assoc, arith}
use Rattle.tw_fixity.specs.declared.table.Fix.{Fix}
use Rattle.tw_lexer.specs.declared.place.Place.{Place}
use Rattle.tw_parse.specs.Failing.{StopsAt}
use Rattle.tw_parse.specs.Faults.{HasNoShape}
use Rattle.tw_parse.specs.Keywords.{form_of, fix_by, infix_of, with_precedence, assoc_of, precedence_of, is_upper, is_identifier}
use Rattle.tw_parse.specs.Outlines.{Table, Outline, Head, a_definition, a_check, an_abbreviation, bytes_in, Names, no_names, a_further_name, named, Shapes, declares, defines, defines_typed, prefers, prefers_both, gives}
use Rattle.tw_parse.specs.Syntax.{DeclarationOf, give}
use Rattle.tw_parse.specs.Words.{Lexeme, first_word, first_bytes}
use Rattle.tw_parse.specs.declared.decl.ExtName.{ExtName}
use Rattle.tw_parse.specs.declared.words.Form.{Form}
use Rattle.tw_parse.specs.declared.words.Form.TheVariants.{Abbreviation, Preference, Infix, Prefix, Postfix}
use Rattle.tw_parse.specs.declared.words.Word.TheVariants.{Name, Keyword, Dot}
use Rattle.tw_parse.proofs.Building.{split_at}

-- what stands before some token of a list with one more behind it is the list, or that token is one of the list's
abbrev Splits : List Lexeme → List Lexeme → Lexeme → Type 0
Splits tokens before x = (before ≡ tokens) ⊎ ((rest : List Lexeme) × (tokens ≡ before ++ x ∷ rest))

one_deeper : (t b : Lexeme) (tokens before : List Lexeme) (x : Lexeme) → t ≡ b → Splits tokens before x → Splits (t ∷ tokens) (b ∷ before) x
one_deeper t b tokens before x e (inl same) = inl (let h : b ∷ before ≡ t ∷ tokens = cc in h)
one_deeper t b tokens before x e (inr (rest, split)) = inr (rest, let h : t ∷ tokens ≡ b ∷ (before ++ x ∷ rest) = cc in h)

no_tail : (before more : List Lexeme) (x : Lexeme) → [] ≡ before ++ x ∷ more → ⊥
no_tail [] more x h = cc
no_tail (b ∷ bs) more x h = cc

splits : (tokens before more : List Lexeme) (e x : Lexeme) → tokens ++ e ∷ [] ≡ before ++ x ∷ more → Splits tokens before x
splits [] [] more e x h = inl refl
splits [] (b ∷ bs) more e x h = absurd (no_tail bs more x (let tail : [] ≡ bs ++ x ∷ more = cc in tail))
splits (t ∷ ts) [] more e x h = inr (ts, let front : t ≡ x = cc in ap (λ (y : Lexeme). y ∷ ts) front)
splits (t ∷ ts) (b ∷ bs) more e x h =
    let front : t ≡ b = cc in
    let tail : ts ++ e ∷ [] ≡ bs ++ x ∷ more = cc in
    one_deeper t b ts bs x front (splits ts bs more e x tail)

-- a declaration doesn't stop: a token of it can be gone on from, and at its end it is one
pub no_stop : (table : Table) (end place : Place) (tokens : List Lexeme) → StopsAt table end tokens place → HasNoShape table tokens
no_stop table end place tokens s D shapes =
    ⊎_elim
    (λ same. s.7 D (subst (λ (ts : List Lexeme). Shapes table ts D) (sym same) shapes))
    (λ found. s.6 (found.0, D, subst (λ (ts : List Lexeme). Shapes table ts D) (found.1 ∙ sym (append_assoc s.0 (s.1 ∷ []) found.0)) shapes))
    (splits tokens s.0 s.2 _ s.1 s.3)

-- `%abbrev`

pub head_form : {tokens rest : List Lexeme} {name : Option (List ℕ)} {b : Bool} → Head tokens name b rest → first_word tokens ≡ Keyword → (form_of (first_bytes tokens) ≡ Some Abbreviation) × (first_word (drop 1 tokens) ≡ Name)
head_form (a_definition w) is = cc
head_form (a_check w) is = cc
head_form (an_abbreviation w f v) is = (f, v)

pub no_given_abbreviation : (o : Option Form) (words : List (List ℕ)) (fix : Fix) → o ≡ Some Abbreviation → fix_by o words ≡ Some fix → ⊥
no_given_abbreviation o words fix e f = let clash : None ≡ Some fix = sym (ap (λ p. fix_by p words) e) ∙ f in cc

-- `%name`

-- behind the keyword stand an identifier, an uppercase name, and a dot, or another name and a dot
pub record IsPreference (tokens : List Lexeme) : Type 0 where
  pub family : is_identifier (first_word (drop 1 tokens)) ≡ true
  pub upper : first_word (drop 2 tokens) ≡ Name
  pub begins_upper : is_upper (first_bytes (drop 2 tokens)) ≡ true
  pub ends : (first_word (drop 3 tokens) ≡ Dot) ⊎ ((first_word (drop 3 tokens) ≡ Name) × (is_upper (first_bytes (drop 3 tokens)) ≡ false) × (first_word (drop 4 tokens) ≡ Dot))

pub no_given_preference : (o : Option Form) (words : List (List ℕ)) (fix : Fix) → o ≡ Some Preference → fix_by o words ≡ Some fix → ⊥
no_given_preference o words fix e f = let clash : None ≡ Some fix = sym (ap (λ p. fix_by p words) e) ∙ f in cc

pub no_head : {tokens rest : List Lexeme} {name : Option (List ℕ)} {b : Bool} → Head tokens name b rest → first_word tokens ≡ Keyword → (form : Form) → form_of (first_bytes tokens) ≡ Some form → (form ≡ Abbreviation → ⊥) → ⊥
no_head h is form e isnt = let same : Some form ≡ Some Abbreviation = sym e ∙ (head_form h is).0 in isnt (let f : form ≡ Abbreviation = cc in f)

pub preference_shape : (table : Table) (tokens : List Lexeme) (D : DeclarationOf Outline) → Shapes table tokens D → first_word tokens ≡ Keyword → form_of (first_bytes tokens) ≡ Some Preference → IsPreference tokens
preference_shape table tokens D (declares w k s e) is form = cc
preference_shape table tokens D (defines h k s e) is form = absurd (no_head h is Preference form (λ e. cc))
preference_shape table tokens D (defines_typed h k s g t e) is form = absurd (no_head h is Preference form (λ e. cc))
preference_shape table tokens D (prefers w f a x u e) is form = record { family = a; upper = x; begins_upper = u; ends = inl e }
preference_shape table tokens D (prefers_both w f a x u y l e) is form = record { family = a; upper = x; begins_upper = u; ends = inr (y, l, e) }
preference_shape table tokens D (gives {keyword = k} words xs dot {fix = fix} w t f n e) is form = absurd (no_given_preference (form_of k.bytes) (map bytes_in words) fix form f)

-- Operators

-- behind the keyword stand a row of the form, some identifiers, and a dot
pub record IsGiven (form : Form) (tokens : List Lexeme) (D : DeclarationOf Outline) : Type 0 where
  pub words : List Lexeme
  pub xs : List Lexeme
  pub dot : Lexeme
  pub fix : Fix
  pub name : ExtName
  pub names : List ExtName
  pub split : drop 1 tokens ≡ words ++ (xs ++ dot ∷ [])
  pub row : fix_by (Some form) (map bytes_in words) ≡ Some fix
  pub spelled : Names xs (name ∷ names)
  pub ends : dot.word ≡ Dot
  pub is : D ≡ give fix (name ∷ names)

pub given_shape : (table : Table) (form : Form) (tokens : List Lexeme) (D : DeclarationOf Outline) → (form ≡ Abbreviation → ⊥) → (form ≡ Preference → ⊥) → Shapes table tokens D → first_word tokens ≡ Keyword → form_of (first_bytes tokens) ≡ Some form
    → IsGiven form tokens D
given_shape table form tokens D no_abbrev no_name (declares w k s e) is forms = cc
given_shape table form tokens D no_abbrev no_name (defines h k s e) is forms = absurd (no_head h is form forms no_abbrev)
given_shape table form tokens D no_abbrev no_name (defines_typed h k s g t e) is forms = absurd (no_head h is form forms no_abbrev)
given_shape table form tokens D no_abbrev no_name (prefers w f a x u e) is forms = let same : Some form ≡ Some Preference = sym forms ∙ f in absurd (no_name (let g : form ≡ Preference = cc in g))
given_shape table form tokens D no_abbrev no_name (prefers_both w f a x u y l e) is forms = let same : Some form ≡ Some Preference = sym forms ∙ f in absurd (no_name (let g : form ≡ Preference = cc in g))
given_shape table form tokens D no_abbrev no_name (gives {keyword = k} words xs dot {fix = fix} {name = name} {names = names} w t f n e) is forms =
    record { words = words; xs = xs; dot = dot; fix = fix; name = name; names = names; split = t; row = sym (ap (λ o. fix_by o (map bytes_in words)) forms) ∙ f; spelled = n; ends = e; is = refl }

pub no_row : (table : Table) (form : Form) (tokens : List Lexeme) → (form ≡ Abbreviation → ⊥) → (form ≡ Preference → ⊥) → first_word tokens ≡ Keyword → form_of (first_bytes tokens) ≡ Some form
    → ((words rest : List Lexeme) → drop 1 tokens ≡ words ++ rest → fix_by (Some form) (map bytes_in words) ≡ None) → HasNoShape table tokens
no_row table form tokens no_abbrev no_name is forms none D shapes =
    let g = given_shape table form tokens D no_abbrev no_name shapes is forms in
    let clash : None ≡ Some g.fix = sym (none g.words (g.xs ++ g.dot ∷ []) g.split) ∙ g.row in
    cc

-- how many words a row has
abbrev word_count : Form → ℕ
word_count Abbreviation = 0
word_count Preference = 0
word_count Infix = 2
word_count Prefix = 1
word_count Postfix = 1

row_length : (form : Form) (words : List Lexeme) (fix : Fix) → fix_by (Some form) (map bytes_in words) ≡ Some fix → length words ≡ word_count form
row_length Abbreviation words fix e = cc
row_length Preference words fix e = cc
row_length Infix [] fix e = cc
row_length Infix (x ∷ []) fix e = cc
row_length Infix (x ∷ y ∷ []) fix e = refl
row_length Infix (x ∷ y ∷ z ∷ more) fix e = cc
row_length Prefix [] fix e = cc
row_length Prefix (x ∷ []) fix e = refl
row_length Prefix (x ∷ y ∷ more) fix e = cc
row_length Postfix [] fix e = cc
row_length Postfix (x ∷ []) fix e = refl
row_length Postfix (x ∷ y ∷ more) fix e = cc

-- lists that begin with as many words are the same in them and behind them
record SameParts (words others rest more : List Lexeme) : Type 0 where
  front : words ≡ others
  behind : rest ≡ more

one_longer : (w o : Lexeme) (words others rest more : List Lexeme) → w ≡ o → SameParts words others rest more → SameParts (w ∷ words) (o ∷ others) rest more
one_longer w o words others rest more e h = record { front = ap (λ (x : Lexeme). x ∷ words) e ∙ ap (λ (xs : List Lexeme). o ∷ xs) h.front; behind = h.behind }

same_parts : (words others rest more : List Lexeme) → length words ≡ length others → words ++ rest ≡ others ++ more → SameParts words others rest more
same_parts [] [] rest more same e = record { front = refl; behind = e }
same_parts [] (o ∷ others) rest more same e = cc
same_parts (w ∷ words) [] rest more same e = cc
same_parts (w ∷ words) (o ∷ others) rest more same e =
    let head : w ≡ o = cc in
    let fewer : length words ≡ length others = cc in
    let tail : words ++ rest ≡ others ++ more = cc in
    one_longer w o words others rest more head (same_parts words others rest more fewer tail)

-- a keyword's row is told by its tokens, and what stands behind it too
pub record SameRow (fix other : Fix) (rest more : List Lexeme) : Type 0 where
  pub fixes : fix ≡ other
  pub behind : rest ≡ more

pub same_row : (form : Form) (words others rest more : List Lexeme) (fix other : Fix) → fix_by (Some form) (map bytes_in words) ≡ Some fix → fix_by (Some form) (map bytes_in others) ≡ Some other → words ++ rest ≡ others ++ more → SameRow fix other rest more
same_row form words others rest more fix other e f split =
    let parts = same_parts words others rest more (row_length form words fix e ∙ sym (row_length form others other f)) split in
    let rows : Some fix ≡ Some other = sym e ∙ ap (λ (ws : List Lexeme). fix_by (Some form) (map bytes_in ws)) parts.front ∙ f in
    record { fixes = let same : fix ≡ other = cc in same; behind = parts.behind }

-- a word that is no identifier isn't the word of one
no_identifier : (rest tail : List Lexeme) (x : Lexeme) → rest ≡ x ∷ tail → is_identifier (first_word rest) ≡ false → is_identifier x.word ≡ true → ⊥
no_identifier rest tail x e isnt is = let clash : false ≡ true = sym isnt ∙ ap (λ ts. is_identifier (first_word ts)) e ∙ is in cc

-- a run of identifiers that ends at a token that is none: its names, and what stands behind it
pub record SameRun (names others : List ExtName) (rest more : List Lexeme) : Type 0 where
  pub names_same : names ≡ others
  pub rest_same : rest ≡ more

further : (x y : Lexeme) (names others : List ExtName) (rest more : List Lexeme) → x ≡ y → SameRun names others rest more → SameRun (named x ∷ names) (named y ∷ others) rest more
further x y names others rest more e h = record { names_same = ap (λ (z : Lexeme). named z ∷ names) e ∙ ap (λ (ns : List ExtName). named y ∷ ns) h.names_same; rest_same = h.rest_same }

pub same_run : {xs ys : List Lexeme} {names others : List ExtName} (rest more : List Lexeme) → Names xs names → Names ys others → is_identifier (first_word rest) ≡ false → is_identifier (first_word more) ≡ false → xs ++ rest ≡ ys ++ more → SameRun names others rest more
same_run rest more no_names no_names i j e = record { names_same = refl; rest_same = e }
same_run rest more no_names (a_further_name {x = y} {xs = ys} is h) i j e = absurd (no_identifier rest (ys ++ more) y e i is)
same_run rest more (a_further_name {x = x} {xs = xs} is h) no_names i j e = absurd (no_identifier more (xs ++ rest) x (sym e) j is)
same_run rest more (a_further_name {x = x} {xs = xs} {names = names} is h) (a_further_name {x = y} {xs = ys} {names = others} iss k) i j e =
    let front : x ≡ y = cc in
    let tail : xs ++ rest ≡ ys ++ more = cc in
    further x y names others rest more front (same_run rest more h k i j tail)

-- the names that follow a row, up to the first token that is no identifier, are all names of the declaration, and that token is its dot
pub record NamesEnd (names : List ExtName) (rest : List Lexeme) : Type 0 where
  pub some : length names ≡ 0 → ⊥
  pub dot : first_word rest ≡ Dot

pub names_end : (table : Table) (form : Form) (tokens : List Lexeme) (from upto : ℕ) (fix : Fix) (names : List ExtName) → (form ≡ Abbreviation → ⊥) → (form ≡ Preference → ⊥) → first_word tokens ≡ Keyword → form_of (first_bytes tokens) ≡ Some form
    → (row : List Lexeme) → drop 1 tokens ≡ row ++ drop from tokens → fix_by (Some form) (map bytes_in row) ≡ Some fix → (taken : List Lexeme) → drop from tokens ≡ taken ++ drop upto tokens → Names taken names
    → is_identifier (first_word (drop upto tokens)) ≡ false → (D : DeclarationOf Outline) → Shapes table tokens D → NamesEnd names (drop upto tokens)
names_end table form tokens from upto fix names no_abbrev no_name is forms row split makes taken between spelled isnt D shapes =
    let g = given_shape table form tokens D no_abbrev no_name shapes is forms in
    let rows = same_row form g.words row (g.xs ++ g.dot ∷ []) (drop from tokens) g.fix fix g.row makes (sym g.split ∙ split) in
    let run = same_run (g.dot ∷ []) (drop upto tokens) g.spelled spelled (ap is_identifier g.ends) isnt (rows.behind ∙ between) in
    record { some = λ none. let count : length (g.name ∷ g.names) ≡ 0 = ap length run.names_same ∙ none in omega arith; dot = sym (ap first_word run.rest_same) ∙ g.ends }

-- where the words that a row would have are none, no words are

tail_at : (tokens : List Lexeme) (i : ℕ) (x : Lexeme) (rest : List Lexeme) → drop i tokens ≡ x ∷ rest → drop (suc i) tokens ≡ rest
tail_at tokens i x rest e =
    ⊎_elim (λ gone. let clash : [] ≡ x ∷ rest = sym gone ∙ e in absurd cc) (λ found. let same : found.0 ∷ drop (suc i) tokens ≡ x ∷ rest = sym found.1 ∙ e in let tail : drop (suc i) tokens ≡ rest = cc in tail) (split_at tokens i)

pub no_infix : (tokens words rest : List Lexeme) → infix_of (assoc_of (first_bytes (drop 1 tokens))) (precedence_of (first_bytes (drop 2 tokens))) ≡ None → drop 1 tokens ≡ words ++ rest → fix_by (Some Infix) (map bytes_in words) ≡ None
no_infix tokens [] rest none e = refl
no_infix tokens (x ∷ []) rest none e = refl
no_infix tokens (x ∷ y ∷ []) rest none e =
    ap (λ (bytes : List ℕ). infix_of (assoc_of bytes) (precedence_of y.bytes)) (sym (ap first_bytes e)) ∙ ap (λ (bytes : List ℕ). infix_of (assoc_of (first_bytes (drop 1 tokens))) (precedence_of bytes)) (sym (ap first_bytes (tail_at tokens 1 x (y ∷ rest) e))) ∙ none
no_infix tokens (x ∷ y ∷ z ∷ more) rest none e = refl

pub no_prefix : (tokens words rest : List Lexeme) → precedence_of (first_bytes (drop 1 tokens)) ≡ None → drop 1 tokens ≡ words ++ rest → fix_by (Some Prefix) (map bytes_in words) ≡ None
no_prefix tokens [] rest none e = refl
no_prefix tokens (x ∷ []) rest none e = ap (with_precedence _) (ap precedence_of (sym (ap first_bytes e)) ∙ none)
no_prefix tokens (x ∷ y ∷ more) rest none e = refl

pub no_postfix : (tokens words rest : List Lexeme) → precedence_of (first_bytes (drop 1 tokens)) ≡ None → drop 1 tokens ≡ words ++ rest → fix_by (Some Postfix) (map bytes_in words) ≡ None
no_postfix tokens [] rest none e = refl
no_postfix tokens (x ∷ []) rest none e = ap (with_precedence _) (ap precedence_of (sym (ap first_bytes e)) ∙ none)
no_postfix tokens (x ∷ y ∷ more) rest none e = refl
