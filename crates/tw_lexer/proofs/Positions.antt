-- Places behind bytes.
use Rattle.std.proofs.Common.{◌≡◌, ◌≢◌, ◌≤◌, ◌<◌, ℕ, suc, ◌+◌, ◌-◌, List, [], ◌∷◌, ◌++◌, length, get_or, take, drop, Bool, true, false, eqb, cond, refl, sym, ap, ◌∙◌, arith, Some, None}
use Rattle.std.specs.declared.option.Option.{Option}
use Rattle.std.proofs.Math.Seq.{take-add, take-append_seam}
use Rattle.std.proofs.lemmas.Bool.{eqb-true, false≢true}
use Rattle.std.proofs.lemmas.List.{length-take-le}
use Rattle.std.proofs.lemmas.Str.{inside_one}
use Rattle.std.proofs.Common.{append-nil}
use Rattle.std.specs.Char.{encode_utf8}
use Rattle.tw_lexer.specs.Characters.{first_piece, pieces_from, char_at, size_at}
use Rattle.tw_lexer.specs.Places.{place_of, place_after, place_behind, start, step}
use Rattle.tw_lexer.specs.declared.place.Place.{Place}
use Rattle.tw_lexer.proofs.Pieces.{Spells, char-spells}

-- the place so many columns on
abbrev pub columns_on : Place → ℕ → Place
columns_on p n = record { line = p.line; column = p.column + n }

pub place_after-append : (p : Place) (xs ys : List ℕ) → place_after p (xs ++ ys) ≡ place_after (place_after p xs) ys
place_after-append p [] ys = refl
place_after-append p (x ∷ xs) ys = place_after-append (step p x) xs ys

-- a place further on
pub place_of-add : (text : List ℕ) (i k : ℕ) → place_of text (i + k) ≡ place_after (place_of text i) (take k (drop i text))
place_of-add text i k = rw (take-add i k text, place_after-append) refl

-- a line and a column together grow by at most one a byte
pub record Grown (p q : Place) (n : ℕ) : Type 0 where
  pub sum : q.line + q.column ≤ p.line + p.column + n
  pub line : 1 ≤ q.line
  pub column : 1 ≤ q.column

step-Grown : (p : Place) (b : ℕ) → 1 ≤ p.line → 1 ≤ p.column → Grown p (step p b) 1
step-Grown p b l c = by-test (eqb b 10) refl
  where
    by-test : (v : Bool) → eqb b 10 ≡ v → Grown p (step p b) 1
    by-test true e = rw e record { sum = omega arith; line = omega arith; column = omega arith }
    by-test false e = rw e record { sum = omega arith; line = omega arith; column = omega arith }

place_after-Grown : (p : Place) (xs : List ℕ) → 1 ≤ p.line → 1 ≤ p.column → Grown p (place_after p xs) (length xs)
place_after-Grown p [] l c = record { sum = omega arith; line = l; column = c }
place_after-Grown p (x ∷ xs) l c =
    let one = step-Grown p x l c in
    let rest = place_after-Grown (step p x) xs one.line one.column in
    record { sum = omega arith; line = rest.line; column = rest.column }

-- a line and a column are no more than the bytes before them allow
pub place_of-bound : (text : List ℕ) (i : ℕ) → i ≤ length text → Grown start (place_of text i) i
place_of-bound text i h =
    let g = place_after-Grown start (take i text) (omega arith) (omega arith) in
    record { sum = omega (arith, length-take-le i text h); line = g.line; column = g.column }

-- a byte that is no line feed is a column
step-column : (p : Place) (b : ℕ) → b ≢ 10 → step p b ≡ columns_on p 1
step-column p b h = by-test (eqb b 10) refl
  where
    by-test : (v : Bool) → eqb b 10 ≡ v → step p b ≡ columns_on p 1
    by-test false e = rw e refl
    by-test true e = absurd (h (eqb-true b 10 e))

pub columns_on-add : (p : Place) (m n k : ℕ) → m + n ≡ k → columns_on (columns_on p m) n ≡ columns_on p k
columns_on-add p m n k e = ap (λ (c : ℕ). record { line = p.line; column = c }) (omega arith)

pub columns_on-zero : (p : Place) → p ≡ columns_on p 0
columns_on-zero p = ap (λ (c : ℕ). record { line = p.line; column = c }) (omega arith)

-- bytes that are no line feed are columns
place_after-columns : (p : Place) (xs : List ℕ) → ((k : ℕ) → k < length xs → get_or xs k 0 ≢ 10) → place_after p xs ≡ columns_on p (length xs)
place_after-columns p [] h = columns_on-zero p
place_after-columns p (x ∷ xs) h =
    ap (λ (q : Place). place_after q xs) (step-column p x (h 0 (omega arith)))
    ∙ place_after-columns (columns_on p 1) xs (λ k l. h (suc k) (omega arith))
    ∙ columns_on-add p 1 (length xs) (length (x ∷ xs)) (omega arith)

-- a character that is no line feed has no byte that is one
no_feed_inside : (c : ℕ) → c ≢ 10 → (k : ℕ) → k < length (encode_utf8 c) → get_or (encode_utf8 c) k 0 ≢ 10
no_feed_inside c n k h e =
    let same : c ≡ get_or (encode_utf8 c) k 0 = inside_one c [] (encode_utf8 c) k (sym (append-nil (encode_utf8 c))) h (omega (arith, e)) in
    n (same ∙ e)

-- the bytes of a character that stands somewhere
pub bytes-at : (text : List ℕ) (i c : ℕ) → char_at text i ≡ Some c → take (size_at text i) (drop i text) ≡ encode_utf8 c
bytes-at text i c e =
    let s = char-spells text i c e in
    ap (take (size_at text i)) s.bytes
    ∙ ap (λ (n : ℕ). take n (encode_utf8 c ++ drop (size_at text i) (drop i text))) (sym s.width)
    ∙ take-append_seam (encode_utf8 c) (drop (size_at text i) (drop i text))

-- the place behind a character that is no line feed
pub place-column : (text : List ℕ) (i c : ℕ) → char_at text i ≡ Some c → c ≢ 10 → place_of text (i + size_at text i) ≡ columns_on (place_of text i) (size_at text i)
place-column text i c e n =
    let s = char-spells text i c e in
    place_of-add text i (size_at text i)
    ∙ ap (place_after (place_of text i)) (bytes-at text i c e)
    ∙ place_after-columns (place_of text i) (encode_utf8 c) (no_feed_inside c n)
    ∙ ap (columns_on (place_of text i)) s.width

place-feed : (text : List ℕ) (i : ℕ) → char_at text i ≡ Some 10 → place_of text (i + size_at text i) ≡ record { line = (place_of text i).line + 1; column = 1 }
unfolding encode_utf8
place-feed text i e = place_of-add text i (size_at text i) ∙ ap (place_after (place_of text i)) (bytes-at text i 10 e)

-- the place behind a character
pub place-behind : (text : List ℕ) (i c : ℕ) → char_at text i ≡ Some c → place_of text (i + size_at text i) ≡ place_behind (place_of text i) c (size_at text i)
place-behind text i c e = by-test (eqb c 10) refl
  where
    by-test : (v : Bool) → eqb c 10 ≡ v → place_of text (i + size_at text i) ≡ place_behind (place_of text i) c (size_at text i)
    by-test false h = rw h (place-column text i c e (λ q. let k : eqb 10 10 ≡ false = ap (λ (x : ℕ). eqb x 10) (sym q) ∙ h in cc))
    by-test true h = rw h (place-feed text i (e ∙ ap (λ (x : ℕ). Some x) (eqb-true c 10 h)))

pub place-next : (text : List ℕ) (i c size : ℕ) (at : Place) → char_at text i ≡ Some c → size ≡ size_at text i → at ≡ place_of text i → place_behind at c size ≡ place_of text (i + size)
place-next text i c size at e q p = rw (p, q) (sym (place-behind text i c e))

-- a place before the end of a short text has room for one more line
pub line-room : (text : List ℕ) (i : ℕ) (at : Place) → at ≡ place_of text i → i < length text → length text < 4294967295 → at.line + 1 < 4294967296
line-room text i at e h short =
    let g = place_of-bound text i (omega arith) in
    let l = ap (λ (p : Place). p.line) e in
    omega (arith, g.sum, g.line, g.column)

-- and a part of one has room for its columns
pub columns-room : (text : List ℕ) (i j : ℕ) (at : Place) → at ≡ place_of text i → i ≤ j → j ≤ length text → length text < 4294967295 → at.column + (j - i) < 4294967296
columns-room text i j at e order h short =
    let g = place_of-bound text i (omega arith) in
    let l = ap (λ (p : Place). p.line) e in
    let c = ap (λ (p : Place). p.column) e in
    omega (arith, g.sum, g.line, g.column)
