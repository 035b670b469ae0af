-- The declaration that tokens are.
use Rattle.std.proofs.Common.{◌≡◌, ℕ, ◌+◌, List, [], ◌∷◌, ◌++◌, map, Bool, true, false, Option, None, Some, IfOk, IfErr, drop, refl, sym, ap, subst, ◌∙◌, ⊎_elim, append_assoc, add-one}
use Rattle.std.specs.declared.result.Result.{Result}
use Rattle.tw_fixity.specs.declared.table.Fix.{Fix}
use Rattle.tw_lexer.specs.declared.place.Place.{Place}
use Rattle.tw_parse.specs.Faults.{Ends, GrammarFault, defined, declared}
use Rattle.tw_parse.specs.Keywords.{form_of, fix_by, is_upper, is_identifier}
use Rattle.tw_parse.specs.Outlines.{Table, Outline, Sequence, Head, a_definition, a_check, an_abbreviation, Names, no_names, a_further_name, named, bytes_in, Shapes, declares, defines, defines_typed, prefers, prefers_both, gives}
use Rattle.tw_parse.specs.Readings.{declared as declared_means, defined as defined_means, defined_typed, preferred, given, Declares, of_first, of_later}
use Rattle.tw_parse.specs.Syntax.{declare, define, prefer, give}
use Rattle.tw_parse.specs.Telling.{Tells}
use Rattle.tw_parse.specs.View.{term_of, declaration_of}
use Rattle.tw_parse.specs.Words.{Lexeme, first_word, first_bytes, first_place}
use Rattle.tw_parse.specs.declared.decl.ExtDecl.{ExtDecl}
use Rattle.tw_parse.specs.declared.decl.ExtName.{ExtName}
use Rattle.tw_parse.specs.declared.fault.SyntaxFault.{SyntaxFault}
use Rattle.tw_parse.specs.declared.parts.Part.{Part}
use Rattle.tw_parse.specs.declared.parts.Part.TheVariants as parts
use Rattle.tw_parse.specs.declared.words.Form.{Form}
use Rattle.tw_parse.specs.declared.words.Form.TheVariants.{Abbreviation, Preference}
use Rattle.tw_parse.specs.declared.words.Word.{Word}
use Rattle.tw_parse.specs.declared.words.Word.TheVariants.{Name, Underscore, Keyword, Equals, Colon, Dot, End}
use Rattle.tw_parse.proofs.Building.{split_at, Token, a_token, Read}

token_at : (xs : List Lexeme) (i j : ℕ) (w : Word) → j ≡ i + 1 → first_word (drop i xs) ≡ w → (w ≡ End → ⊥) → Token xs i j w
token_at xs i j w step is some = a_token xs i j w step (sym is) some

-- a sequence with the dot behind it
pub ends : (table : Table) (xs tokens : List Lexeme) (k : ℕ) (O : Outline) → first_word (drop k xs) ≡ Dot → drop (k + 1) xs ≡ [] → Sequence table tokens O (drop k xs) → Ends table tokens O
ends table xs tokens k O is last s =
    let dot : Token xs k (k + 1) Dot = token_at xs k (k + 1) Dot refl is (λ e. cc) in
    let P : List Lexeme → Type 0 = λ rest. Sequence table tokens O rest in
    (dot.0, dot.2, subst P (dot.1 ∙ ap (λ rest. dot.0 ∷ rest) last) s)

-- what a declaration with this draft comes to
abbrev pub Comes : Table → Place → List Lexeme → Result ExtDecl SyntaxFault → Type 0
Comes table end tokens r = IfOk r (λ d. Declares table tokens (declaration_of d)) × IfErr r (GrammarFault table end tokens)

comes_short : (table : Table) (end : Place) (tokens : List Lexeme) (name : Option (List ℕ)) (M : Outline) (b : Bool) (part : Part) → Shapes table tokens (define name None M b) → Tells M part → Comes table end tokens (defined name None part b)
comes_short table end tokens name M b (parts.Term t) s m = ((define name None M b, s, defined_means m), tt)
comes_short table end tokens name M b (parts.AtFault place) s f = (tt, (define name None M b, s, of_first f))

comes_long : (table : Table) (end : Place) (tokens : List Lexeme) (name : Option (List ℕ)) (U M : Outline) (b : Bool) (ty part : Part) → Shapes table tokens (define name (Some U) M b) → Tells U ty → Tells M part → Comes table end tokens (defined name (Some ty) part b)
comes_long table end tokens name U M b (parts.Term A) (parts.Term t) s u m = ((define name (Some U) M b, s, defined_typed u m), tt)
comes_long table end tokens name U M b (parts.Term A) (parts.AtFault place) s u f = (tt, (define name (Some U) M b, s, of_later (term_of A, u) (of_first f)))
comes_long table end tokens name U M b (parts.AtFault place) part s f m = (tt, (define name (Some U) M b, s, of_first f))

comes_declared : (table : Table) (end : Place) (tokens : List Lexeme) (name : List ℕ) (at : Place) (U : Outline) (part : Part) → Shapes table tokens (declare name at U) → Tells U part → Comes table end tokens (declared name at part)
comes_declared table end tokens name at U (parts.Term A) s u = ((declare name at U, s, declared_means u), tt)
comes_declared table end tokens name at U (parts.AtFault place) s f = (tt, (declare name at U, s, of_first f))

pub a_short : (table : Table) (end : Place) (xs tokens : List Lexeme) (k j : ℕ) (name : Option (List ℕ)) (b : Bool) (part : Part) (r : Result ExtDecl SyntaxFault) → j ≡ k + 1 → Head tokens name b (drop k xs) → first_word (drop k xs) ≡ Equals
    → (M : Outline) → Ends table (drop j xs) M → Tells M part → r ≡ defined name None part b → Comes table end tokens r
a_short table end xs tokens k j name b part r step head equals M ends tells is =
    let sign : Token xs k j Equals = token_at xs k j Equals step equals (λ e. cc) in
    let P : List Lexeme → Type 0 = λ rest. Head tokens name b rest in
    let R : Result ExtDecl SyntaxFault → Type 0 = λ q. Comes table end tokens q in
    subst R (sym is) (comes_short table end tokens name M b part (defines (subst P sign.1 head) sign.2 ends.2 ends.1) tells)

pub a_long : (table : Table) (end : Place) (xs tokens : List Lexeme) (k j e f : ℕ) (name : Option (List ℕ)) (b : Bool) (ty part : Part) (r : Result ExtDecl SyntaxFault) → j ≡ k + 1 → f ≡ e + 1 → Head tokens name b (drop k xs)
    → first_word (drop k xs) ≡ Colon → Read table (drop j xs) (drop e xs) ty → first_word (drop e xs) ≡ Equals → (M : Outline) → Ends table (drop f xs) M → Tells M part → r ≡ defined name (Some ty) part b → Comes table end tokens r
a_long table end xs tokens k j e f name b ty part r step next head colons read equals M ends tells is =
    let colon : Token xs k j Colon = token_at xs k j Colon step colons (λ e. cc) in
    let sign : Token xs e f Equals = token_at xs e f Equals next equals (λ e. cc) in
    let P : List Lexeme → Type 0 = λ rest. Head tokens name b rest in
    let Q : List Lexeme → Type 0 = λ rest. Sequence table (drop j xs) read.0 rest in
    let R : Result ExtDecl SyntaxFault → Type 0 = λ q. Comes table end tokens q in
    subst R (sym is) (comes_long table end tokens name read.0 M b ty part (defines_typed (subst P colon.1 head) colon.2 (subst Q sign.1 read.1) sign.2 ends.2 ends.1) read.2 tells)

-- the name that a head declares
plain_head : (tokens rest : List Lexeme) (name : Option (List ℕ)) (b : Bool) (n : List ℕ) → Head tokens name b rest → b ≡ false → name ≡ Some n → (x : Lexeme) × (tokens ≡ x ∷ rest) × (x.word ≡ Name) × (x.bytes ≡ n)
plain_head tokens rest name b n (a_definition {x = x} w) e f = (x, refl, w, let same : x.bytes ≡ n = cc in same)
plain_head tokens rest name b n (a_check w) e f = cc
plain_head tokens rest name b n (an_abbreviation w g v) e f = cc

pub a_declaration : (table : Table) (end : Place) (xs tokens : List Lexeme) (k j e : ℕ) (name : Option (List ℕ)) (n : List ℕ) (b : Bool) (at : Place) (ty : Part) (r : Result ExtDecl SyntaxFault) → j ≡ k + 1 → Head tokens name b (drop k xs) → b ≡ false → name ≡ Some n
    → first_word (drop k xs) ≡ Colon → Read table (drop j xs) (drop e xs) ty → first_word (drop e xs) ≡ Dot → drop (e + 1) xs ≡ [] → at ≡ first_place end tokens → r ≡ declared n at ty → Comes table end tokens r
a_declaration table end xs tokens k j e name n b at ty r step head plain is_named colons read dots last place is =
    let colon : Token xs k j Colon = token_at xs k j Colon step colons (λ e. cc) in
    let x = plain_head tokens (drop k xs) name b n head plain is_named in
    let stop : Ends table (drop j xs) read.0 = ends table xs (drop j xs) e read.0 dots last read.1 in
    let all : tokens ≡ x.0 ∷ colon.0 ∷ drop j xs = x.1 ∙ ap (λ rest. x.0 ∷ rest) colon.1 in
    let P : List Lexeme → Type 0 = λ ts. Shapes table ts (declare x.0.bytes x.0.at read.0) in
    let Q : List ℕ → Type 0 = λ m. Shapes table tokens (declare m x.0.at read.0) in
    let S : Place → Type 0 = λ p. Shapes table tokens (declare n p read.0) in
    let R : Result ExtDecl SyntaxFault → Type 0 = λ q. Comes table end tokens q in
    let shape : Shapes table (x.0 ∷ colon.0 ∷ drop j xs) (declare x.0.bytes x.0.at read.0) = declares x.2 colon.2 stop.2 stop.1 in
    subst R (sym is) (comes_declared table end tokens n at read.0 ty (subst S (sym (place ∙ ap (first_place end) x.1)) (subst Q x.3 (subst P (sym all) shape))) read.2)

-- Heads

pub a_name_head : (xs : List Lexeme) (n : List ℕ) → first_word (drop 0 xs) ≡ Name → n ≡ first_bytes (drop 0 xs) → Head (drop 0 xs) (Some n) false (drop 1 xs)
a_name_head xs n is same =
    let x : Token xs 0 1 Name = token_at xs 0 1 Name refl is (λ e. cc) in
    let P : List Lexeme → Type 0 = λ ts. Head ts (Some n) false (drop 1 xs) in
    let Q : List ℕ → Type 0 = λ m. Head (x.0 ∷ drop 1 xs) (Some m) false (drop 1 xs) in
    subst P (sym x.1) (subst Q (sym (same ∙ ap first_bytes x.1)) (a_definition x.2))

pub a_check_head : (xs : List Lexeme) → first_word (drop 0 xs) ≡ Underscore → Head (drop 0 xs) None false (drop 1 xs)
a_check_head xs is =
    let x : Token xs 0 1 Underscore = token_at xs 0 1 Underscore refl is (λ e. cc) in
    let P : List Lexeme → Type 0 = λ ts. Head ts None false (drop 1 xs) in
    subst P (sym x.1) (a_check x.2)

pub an_abbreviation_head : (xs : List Lexeme) (n : List ℕ) → first_word (drop 0 xs) ≡ Keyword → form_of (first_bytes (drop 0 xs)) ≡ Some Abbreviation → first_word (drop 1 xs) ≡ Name → n ≡ first_bytes (drop 1 xs)
    → Head (drop 0 xs) (Some n) true (drop 2 xs)
an_abbreviation_head xs n is form names same =
    let k : Token xs 0 1 Keyword = token_at xs 0 1 Keyword refl is (λ e. cc) in
    let x : Token xs 1 2 Name = token_at xs 1 2 Name refl names (λ e. cc) in
    let P : List Lexeme → Type 0 = λ ts. Head ts (Some n) true (drop 2 xs) in
    let Q : List ℕ → Type 0 = λ m. Head (k.0 ∷ x.0 ∷ drop 2 xs) (Some m) true (drop 2 xs) in
    subst P (sym (k.1 ∙ ap (λ rest. k.0 ∷ rest) x.1)) (subst Q (sym (same ∙ ap first_bytes x.1)) (an_abbreviation k.2 (sym (ap (λ ts. form_of (first_bytes ts)) k.1) ∙ form) x.2))

-- Names and rows

pub names_push : (xs : List Lexeme) (names : List ExtName) (x : Lexeme) → Names xs names → is_identifier x.word ≡ true → Names (xs ++ x ∷ []) (names ++ named x ∷ [])
names_push xs names x no_names is = a_further_name is no_names
names_push xs names x (a_further_name {xs = ys} {names = ns} e h) is = a_further_name e (names_push ys ns x h is)

identifier_stands : (w : Word) → is_identifier w ≡ true → w ≡ End → ⊥
identifier_stands w e f = let clash : false ≡ true = sym (ap is_identifier f) ∙ e in cc

same_name : (x : Lexeme) (y : ExtName) → y.name ≡ x.bytes → y.at ≡ x.at → named x ≡ y
same_name x y e f =
    let by_name : List ℕ → ExtName = λ n. record { name = n; at = x.at } in
    let by_place : Place → ExtName = λ p. record { name = y.name; at = p } in
    sym (ap by_name e) ∙ sym (ap by_place f)

abbrev pub Between : List Lexeme → ℕ → ℕ → List ExtName → Type 0
Between xs from upto names = (taken : List Lexeme) × (drop from xs ≡ taken ++ drop upto xs) × Names taken names

pub one_more_name : (end : Place) (xs : List Lexeme) (from upto : ℕ) (old new : List ExtName) (y : ExtName) → Between xs from upto old → is_identifier (first_word (drop upto xs)) ≡ true → y.name ≡ first_bytes (drop upto xs) → y.at ≡ first_place end (drop upto xs)
    → new ≡ old ++ y ∷ [] → Between xs from (upto + 1) new
one_more_name end xs from upto old new y h is name at push =
    let x : Token xs upto (upto + 1) (first_word (drop upto xs)) = token_at xs upto (upto + 1) _ refl refl (identifier_stands _ is) in
    let P : List ExtName → Type 0 = λ ns. Names (h.0 ++ x.0 ∷ []) ns in
    let same : old ++ named x.0 ∷ [] ≡ new = ap (λ z. old ++ z ∷ []) (same_name x.0 y (name ∙ ap first_bytes x.1) (at ∙ ap (first_place end) x.1)) ∙ sym push in (
      h.0 ++ x.0 ∷ [],
      h.1 ∙ ap (λ rest. h.0 ++ rest) x.1 ∙ sym (append_assoc h.0 (x.0 ∷ []) (drop (upto + 1) xs)),
      subst P same (names_push h.0 old x.0 h.2 (ap is_identifier x.2 ∙ is)),
    )

stands_by : (xs : List Lexeme) (i j : ℕ) → j ≡ i + 1 → (first_bytes (drop i xs) ≡ [] → ⊥) → (x : Lexeme) × (drop i xs ≡ x ∷ drop j xs)
stands_by xs i j step some =
    ⊎_elim (λ gone. absurd (some (ap first_bytes gone))) (λ found. (found.0, found.1 ∙ ap (λ n. found.0 ∷ drop n xs) (sym (step ∙ add-one i)))) (split_at xs i)

abbrev pub RowTo : List Lexeme → Form → Fix → ℕ → Type 0
RowTo xs form fix upto = (words : List Lexeme) × (drop 1 xs ≡ words ++ drop upto xs) × (fix_by (Some form) (map bytes_in words) ≡ Some fix)

pub one_word_row : (xs : List Lexeme) (form : Form) (fix : Fix) → (first_bytes (drop 1 xs) ≡ [] → ⊥) → fix_by (Some form) (first_bytes (drop 1 xs) ∷ []) ≡ Some fix → RowTo xs form fix 2
one_word_row xs form fix some e =
    let x = stands_by xs 1 2 refl some in
    (x.0 ∷ [], x.1, ap (λ bytes. fix_by (Some form) (bytes ∷ [])) (sym (ap first_bytes x.1)) ∙ e)

pub two_word_row : (xs : List Lexeme) (form : Form) (fix : Fix) → (first_bytes (drop 1 xs) ≡ [] → ⊥) → (first_bytes (drop 2 xs) ≡ [] → ⊥) → fix_by (Some form) (first_bytes (drop 1 xs) ∷ first_bytes (drop 2 xs) ∷ []) ≡ Some fix → RowTo xs form fix 3
two_word_row xs form fix some more e =
    let x = stands_by xs 1 2 refl some in
    let y = stands_by xs 2 3 refl more in (
      x.0 ∷ y.0 ∷ [],
      x.1 ∙ ap (λ rest. x.0 ∷ rest) y.1,
      ap (λ bytes. fix_by (Some form) (bytes ∷ bytes_in y.0 ∷ [])) (sym (ap first_bytes x.1)) ∙ ap (λ bytes. fix_by (Some form) (first_bytes (drop 1 xs) ∷ bytes ∷ [])) (sym (ap first_bytes y.1)) ∙ e,
    )

some_names : (names : List ExtName) → (names ≡ [] → ⊥) → (x : ExtName) × (more : List ExtName) × (names ≡ x ∷ more)
some_names [] h = absurd (h refl)
some_names (x ∷ more) h = (x, more, refl)

pub a_fixity : (table : Table) (xs : List Lexeme) (from upto : ℕ) (form : Form) (fix : Fix) (names : List ExtName) → first_word (drop 0 xs) ≡ Keyword → form_of (first_bytes (drop 0 xs)) ≡ Some form → RowTo xs form fix from → Between xs from upto names
    → (names ≡ [] → ⊥) → first_word (drop upto xs) ≡ Dot → drop (upto + 1) xs ≡ [] → Declares table (drop 0 xs) (give fix names)
a_fixity table xs from upto form fix names is forms row between some dots last =
    let k : Token xs 0 1 Keyword = token_at xs 0 1 Keyword refl is (λ e. cc) in
    let dot : Token xs upto (upto + 1) Dot = token_at xs upto (upto + 1) Dot refl dots (λ e. cc) in
    let one = some_names names some in
    let tail : drop 1 xs ≡ row.0 ++ (between.0 ++ dot.0 ∷ []) =
    row.1 ∙ ap (λ rest. row.0 ++ rest) (between.1 ∙ ap (λ rest. between.0 ++ rest) (dot.1 ∙ ap (λ rest. dot.0 ∷ rest) last)) in
    let P : List Lexeme → Type 0 = λ ts. Shapes table ts (give fix (one.0 ∷ one.1)) in
    let Q : List ExtName → Type 0 = λ ns. Names between.0 ns in
    let R : List ExtName → Type 0 = λ ns. Declares table (drop 0 xs) (give fix ns) in
    let keyword : form_of k.0.bytes ≡ Some form = sym (ap (λ ts. form_of (first_bytes ts)) k.1) ∙ forms in
    let shape : Shapes table (k.0 ∷ drop 1 xs) (give fix (one.0 ∷ one.1)) =
    gives row.0 between.0 dot.0 k.2 tail (ap (λ o. fix_by o (map bytes_in row.0)) keyword ∙ row.2) (subst Q one.2 between.2) dot.2 in
    subst R (sym one.2) (give fix (one.0 ∷ one.1), subst P (sym k.1) shape, given)

-- Preferences

pub a_preference : (table : Table) (end : Place) (xs : List Lexeme) (a : ExtName) (upper : List ℕ) → first_word (drop 0 xs) ≡ Keyword → form_of (first_bytes (drop 0 xs)) ≡ Some Preference → is_identifier (first_word (drop 1 xs)) ≡ true
    → a.name ≡ first_bytes (drop 1 xs) → a.at ≡ first_place end (drop 1 xs) → first_word (drop 2 xs) ≡ Name → is_upper (first_bytes (drop 2 xs)) ≡ true → upper ≡ first_bytes (drop 2 xs) → first_word (drop 3 xs) ≡ Dot → drop 4 xs ≡ []
    → Declares table (drop 0 xs) (prefer a upper None)
a_preference table end xs a upper is form names name at uppers up same dots last =
    let k : Token xs 0 1 Keyword = token_at xs 0 1 Keyword refl is (λ e. cc) in
    let x : Token xs 1 2 (first_word (drop 1 xs)) = token_at xs 1 2 _ refl refl (identifier_stands _ names) in
    let y : Token xs 2 3 Name = token_at xs 2 3 Name refl uppers (λ e. cc) in
    let dot : Token xs 3 4 Dot = token_at xs 3 4 Dot refl dots (λ e. cc) in
    let all : drop 0 xs ≡ k.0 ∷ x.0 ∷ y.0 ∷ dot.0 ∷ [] =
    k.1 ∙ ap (λ rest. k.0 ∷ rest) (x.1 ∙ ap (λ rest. x.0 ∷ rest) (y.1 ∙ ap (λ rest. y.0 ∷ rest) (dot.1 ∙ ap (λ rest. dot.0 ∷ rest) last))) in
    let P : List Lexeme → Type 0 = λ ts. Shapes table ts (prefer a upper None) in
    let Q : ExtName → Type 0 = λ z. Shapes table (k.0 ∷ x.0 ∷ y.0 ∷ dot.0 ∷ []) (prefer z upper None) in
    let R : List ℕ → Type 0 = λ u. Shapes table (k.0 ∷ x.0 ∷ y.0 ∷ dot.0 ∷ []) (prefer (named x.0) u None) in
    let shape : Shapes table (k.0 ∷ x.0 ∷ y.0 ∷ dot.0 ∷ []) (prefer (named x.0) y.0.bytes None) =
    prefers k.2 (sym (ap (λ ts. form_of (first_bytes ts)) k.1) ∙ form) (ap is_identifier x.2 ∙ names) y.2 (sym (ap (λ ts. is_upper (first_bytes ts)) y.1) ∙ up) dot.2 in
    (prefer a upper None, subst P (sym all) (subst Q (same_name x.0 a (name ∙ ap first_bytes x.1) (at ∙ ap (first_place end) x.1)) (subst R (sym (same ∙ ap first_bytes y.1)) shape)), preferred)

pub a_double_preference : (table : Table) (end : Place) (xs : List Lexeme) (a : ExtName) (upper lower : List ℕ) → first_word (drop 0 xs) ≡ Keyword → form_of (first_bytes (drop 0 xs)) ≡ Some Preference → is_identifier (first_word (drop 1 xs)) ≡ true
    → a.name ≡ first_bytes (drop 1 xs) → a.at ≡ first_place end (drop 1 xs) → first_word (drop 2 xs) ≡ Name → is_upper (first_bytes (drop 2 xs)) ≡ true → upper ≡ first_bytes (drop 2 xs) → first_word (drop 3 xs) ≡ Name
    → is_upper (first_bytes (drop 3 xs)) ≡ false → lower ≡ first_bytes (drop 3 xs) → first_word (drop 4 xs) ≡ Dot → drop 5 xs ≡ [] → Declares table (drop 0 xs) (prefer a upper (Some lower))
a_double_preference table end xs a upper lower is form names name at uppers up same lowers low also dots last =
    let k : Token xs 0 1 Keyword = token_at xs 0 1 Keyword refl is (λ e. cc) in
    let x : Token xs 1 2 (first_word (drop 1 xs)) = token_at xs 1 2 _ refl refl (identifier_stands _ names) in
    let y : Token xs 2 3 Name = token_at xs 2 3 Name refl uppers (λ e. cc) in
    let z : Token xs 3 4 Name = token_at xs 3 4 Name refl lowers (λ e. cc) in
    let dot : Token xs 4 5 Dot = token_at xs 4 5 Dot refl dots (λ e. cc) in
    let all : drop 0 xs ≡ k.0 ∷ x.0 ∷ y.0 ∷ z.0 ∷ dot.0 ∷ [] =
    k.1 ∙ ap (λ rest. k.0 ∷ rest) (x.1 ∙ ap (λ rest. x.0 ∷ rest) (y.1 ∙ ap (λ rest. y.0 ∷ rest) (z.1 ∙ ap (λ rest. z.0 ∷ rest) (dot.1 ∙ ap (λ rest. dot.0 ∷ rest) last)))) in
    let P : List Lexeme → Type 0 = λ ts. Shapes table ts (prefer a upper (Some lower)) in
    let Q : ExtName → Type 0 = λ v. Shapes table (k.0 ∷ x.0 ∷ y.0 ∷ z.0 ∷ dot.0 ∷ []) (prefer v upper (Some lower)) in
    let R : List ℕ → Type 0 = λ u. Shapes table (k.0 ∷ x.0 ∷ y.0 ∷ z.0 ∷ dot.0 ∷ []) (prefer (named x.0) u (Some lower)) in
    let S : List ℕ → Type 0 = λ u. Shapes table (k.0 ∷ x.0 ∷ y.0 ∷ z.0 ∷ dot.0 ∷ []) (prefer (named x.0) y.0.bytes (Some u)) in
    let shape : Shapes table (k.0 ∷ x.0 ∷ y.0 ∷ z.0 ∷ dot.0 ∷ []) (prefer (named x.0) y.0.bytes (Some z.0.bytes)) =
    prefers_both k.2 (sym (ap (λ ts. form_of (first_bytes ts)) k.1) ∙ form) (ap is_identifier x.2 ∙ names) y.2 (sym (ap (λ ts. is_upper (first_bytes ts)) y.1) ∙ up) z.2 (sym (ap (λ ts. is_upper (first_bytes ts)) z.1) ∙ low) dot.2 in
    (prefer a upper (Some lower), subst P (sym all) (subst Q (same_name x.0 a (name ∙ ap first_bytes x.1) (at ∙ ap (first_place end) x.1)) (subst R (sym (same ∙ ap first_bytes y.1)) (subst S (sym (also ∙ ap first_bytes z.1)) shape))), preferred)
