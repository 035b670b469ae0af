-- How a search for a token goes on.
use Rattle.std.proofs.Common.{◌≡◌, ◌≢◌, ◌≤◌, ◌<◌, ℕ, suc, ◌+◌, ◌-◌, List, [], ◌∷◌, length, drop, Bool, true, false, eqb, ltb, refl, sym, ap, ◌∙◌, arith, Ok, Err, Some, None}
use Rattle.std.specs.Prelude.{◌&&◌, ◌==◌, if◌then◌else◌, nat_le}
use Rattle.std.specs.declared.option.Option.{Option}
use Rattle.std.specs.declared.result.Result.{Result}
use borrow.Author.Tests.{ltb-true, ltb-false}
use Rattle.std.proofs.lemmas.Bool.{eqb-true}
use Rattle.std.proofs.lemmas.Bool.Decides.{nat_tests}
use Rattle.bstr.specs.Utf8.{Decoded}
use Rattle.tw_lexer.specs.Characters.{first_piece, pieces_from, char_at, size_at, head_char}
use Rattle.tw_lexer.specs.Classes.{class_of, piece_class, is_plain, run_length}
use Rattle.tw_lexer.specs.Comments.{is_char, bracket_of, Nesting, deep, closing, nesting_by, nesting_after, is_closed_by, is_closed, sign_of, sign_by_char}
use Rattle.tw_lexer.specs.Places.{place_of}
use Rattle.tw_lexer.specs.Tokens.{token, Search, between, in_line, in_comment, percent_by, token_by, line_by, comment_by, search_by, find_by, find_at_end, find, first_token}
use Rattle.tw_lexer.specs.declared.place.Place.{Place}
use Rattle.tw_lexer.specs.declared.token.Token.{Token}
use Rattle.tw_lexer.specs.declared.token.TokenKind.{TokenKind}
use Rattle.tw_lexer.specs.declared.class.Class.{Class}
use Rattle.tw_lexer.specs.declared.class.Class.TheVariants.{WhiteSpace, Mark, Percent, Plain, Bad}
use Rattle.tw_lexer.specs.declared.comment.Sign.{Sign}
use Rattle.tw_lexer.specs.declared.comment.Sign.TheVariants.{LineComment, Comment, Stop, Word, Nothing}
use Rattle.tw_lexer.specs.declared.comment.Bracket.{Bracket}
use Rattle.tw_lexer.specs.declared.comment.Bracket.TheVariants.{Opens, Closes, Neither}
use Rattle.tw_lexer.proofs.Pieces.{pieces-at, pieces-end, end-char}

few : (n : ℕ) → n ≤ 1 → nat_le n 1 ≡ true
few n h = grind (arith, nat_tests)

many : (n : ℕ) → 1 < n → nat_le n 1 ≡ false
many n h = grind (arith, nat_tests)

-- no token stands at a place
abbrev pub bad : Place → Result Token Place
bad place = Err place

-- a token
abbrev pub good : Token → Result Token Place
good t = Ok t

-- a token whose place is known
pub told : (text : List ℕ) (kind : TokenKind) (i u : ℕ) (at : Place) (t : Token) → t ≡ record { kind = kind; from = i; upto = u; at = at } → at ≡ place_of text i → good t ≡ good (token text kind i u)
told text kind i u at t e p = ap good e ∙ ap (λ (q : Place). let x : Token = record { kind = kind; from = i; upto = u; at = q } in good x) p

-- what a search finds from a byte on
abbrev pub seek : List ℕ → Search → ℕ → Result Token Place
seek text state i = find text i (pieces_from text i) state

-- by what stands there
pub seek-at : (text : List ℕ) (state : Search) (i : ℕ) → i < length text
    → seek text state i ≡ find_by text i (first_piece (drop i text)) (pieces_from text (i + size_at text i)) (λ s. seek text s (i + size_at text i)) state
seek-at text state i h = ap (λ (ps : List Decoded). find text i ps state) (pieces-at text i h)

pub seek-end : (text : List ℕ) (state : Search) (i : ℕ) → length text ≤ i → seek text state i ≡ find_at_end text i state
seek-end text state i h = ap (λ (ps : List Decoded). find text i ps state) (pieces-end text i h)

-- the character that stands first from a byte on
pub head-char : (text : List ℕ) (i : ℕ) → head_char (pieces_from text i) ≡ char_at text i
head-char text i = by-test (ltb i (length text)) refl
  where
    by-test : (v : Bool) → ltb i (length text) ≡ v → head_char (pieces_from text i) ≡ char_at text i
    by-test true e = ap head_char (pieces-at text i (ltb-true _ _ e))
    by-test false e = ap head_char (pieces-end text i (ltb-false _ _ e)) ∙ sym (end-char text i (ltb-false _ _ e))

-- between tokens, by the class of what stands there; the search goes on behind it at j
pub between-by : (text : List ℕ) (i j c : ℕ) (k : Class) → i < length text → j ≡ i + size_at text i → char_at text i ≡ Some c → k ≡ class_of c
    → seek text between i ≡ token_by text i j (pieces_from text j) (λ s. seek text s j) k
between-by text i j c k h e f q =
    rw (q, e) (
    seek-at text between i h
    ∙ ap (λ (o : Option ℕ). token_by text i (i + size_at text i) (pieces_from text (i + size_at text i)) (λ s. seek text s (i + size_at text i)) (piece_class o)) f
    )

-- where no character stands
pub between-none : (text : List ℕ) (i : ℕ) → i < length text → char_at text i ≡ None → seek text between i ≡ Err (place_of text i)
between-none text i h f =
    seek-at text between i h
    ∙ ap (λ (o : Option ℕ). token_by text i (i + size_at text i) (pieces_from text (i + size_at text i)) (λ s. seek text s (i + size_at text i)) (piece_class o)) f

-- at a `%`, by what it begins
pub percent-by : (text : List ℕ) (i j c : ℕ) (g : Sign) → i < length text → j ≡ i + size_at text i → char_at text i ≡ Some c → Percent ≡ class_of c → g ≡ sign_of (pieces_from text j)
    → seek text between i ≡ percent_by text i j (pieces_from text j) (λ s. seek text s j) g
percent-by text i j c g h e f q r =
    between-by text i j c Percent h e f q ∙ ap (percent_by text i j (pieces_from text j) (λ s. seek text s j)) (sym r)

pub line-none : (text : List ℕ) (i : ℕ) → i < length text → char_at text i ≡ None → seek text in_line i ≡ Err (place_of text i)
line-none text i h f = seek-at text in_line i h ∙ ap (line_by (place_of text i) (λ s. seek text s (i + size_at text i))) f

pub line-some : (text : List ℕ) (i j c : ℕ) → i < length text → j ≡ i + size_at text i → char_at text i ≡ Some c → seek text in_line i ≡ seek text (if c == 10 then between else in_line) j
line-some text i j c h e f = rw e (seek-at text in_line i h ∙ ap (line_by (place_of text i) (λ s. seek text s (i + size_at text i))) f)

pub line-feed : (text : List ℕ) (i j c : ℕ) → i < length text → j ≡ i + size_at text i → char_at text i ≡ Some c → c ≡ 10 → seek text in_line i ≡ seek text between j
line-feed text i j c h e f q = line-some text i j c h e f ∙ ap (λ (x : ℕ). seek text (if x == 10 then between else in_line) j) q

pub line-more : (text : List ℕ) (i j c : ℕ) → i < length text → j ≡ i + size_at text i → char_at text i ≡ Some c → c ≢ 10 → seek text in_line i ≡ seek text in_line j
line-more text i j c h e f n = line-some text i j c h e f ∙ by-test (eqb c 10) refl
  where
    by-test : (v : Bool) → eqb c 10 ≡ v → seek text (if c == 10 then between else in_line) j ≡ seek text in_line j
    by-test true q = absurd (n (eqb-true c 10 q))
    by-test false q = ap (λ (v : Bool). seek text (if v then between else in_line) j) q

-- in a nested comment, where a character stands
pub comment-at : (text : List ℕ) (begin : Place) (n : Nesting) (i j c : ℕ) → i < length text → j ≡ i + size_at text i → char_at text i ≡ Some c
    → seek text (in_comment begin n) i ≡ seek text (search_by begin (nesting_after n (Some c) (char_at text j))) j
comment-at text begin n i j c h e f =
    let next = i + size_at text i in
    rw e (
    seek-at text (in_comment begin n) i h
    ∙ ap (comment_by begin (place_of text i) (is_closed n (first_piece (drop i text) ∷ pieces_from text next)) (λ o. search_by begin (nesting_after n o (head_char (pieces_from text next)))) (λ s. seek text s next)) f
    ∙ ap (λ (o : Option ℕ). seek text (search_by begin (nesting_after n (Some c) o)) next) (head-char text next)
    )

-- where none does
pub comment-none : (text : List ℕ) (begin : Place) (n : Nesting) (i : ℕ) (v : Bool) → i < length text → char_at text i ≡ None → v ≡ is_closed n (pieces_from text i)
    → seek text (in_comment begin n) i ≡ Err (if v then place_of text i else begin)
comment-none text begin n i v h f q =
    let next = i + size_at text i in
    seek-at text (in_comment begin n) i h
    ∙ ap (comment_by begin (place_of text i) (is_closed n (first_piece (drop i text) ∷ pieces_from text next)) (λ o. search_by begin (nesting_after n o (head_char (pieces_from text next)))) (λ s. seek text s next)) f
    ∙ ap (λ (w : Bool). Err (if w then place_of text i else begin)) (sym (q ∙ ap (is_closed n) (pieces-at text i h)))

-- by what a character and the one behind it are
pub comment-by : (text : List ℕ) (begin : Place) (n i j c : ℕ) (o : Option ℕ) (b : Bracket) → i < length text → j ≡ i + size_at text i → char_at text i ≡ Some c → o ≡ char_at text j → b ≡ bracket_of (Some c) o
    → seek text (in_comment begin (deep n)) i ≡ seek text (in_comment begin (nesting_by n b)) j
comment-by text begin n i j c o b h e f g q =
    comment-at text begin (deep n) i j c h e f
    ∙ ap (λ (x : Option ℕ). seek text (in_comment begin (nesting_by n (bracket_of (Some c) x))) j) (sym g)
    ∙ ap (λ (x : Bracket). seek text (in_comment begin (nesting_by n x)) j) (sym q)

-- behind a `}%`
comment-outside : (text : List ℕ) (begin : Place) (n i j c : ℕ) (v : Bool) → i < length text → j ≡ i + size_at text i → char_at text i ≡ Some c → nat_le n 1 ≡ v
    → seek text (in_comment begin (closing n)) i ≡ seek text (search_by begin (if v then None else Some (deep (n - 1)))) j
comment-outside text begin n i j c v h e f q =
    comment-at text begin (closing n) i j c h e f ∙ ap (λ (w : Bool). seek text (search_by begin (if w then None else Some (deep (n - 1)))) j) q

pub comment-last : (text : List ℕ) (begin : Place) (n i j c : ℕ) → i < length text → j ≡ i + size_at text i → char_at text i ≡ Some c → n ≤ 1
    → seek text (in_comment begin (closing n)) i ≡ seek text between j
comment-last text begin n i j c h e f l = comment-outside text begin n i j c true h e f (few n l)

pub comment-more : (text : List ℕ) (begin : Place) (n i j c : ℕ) → i < length text → j ≡ i + size_at text i → char_at text i ≡ Some c → 1 < n
    → seek text (in_comment begin (closing n)) i ≡ seek text (in_comment begin (deep (n - 1))) j
comment-more text begin n i j c h e f l = comment-outside text begin n i j c false h e f (many n l)

-- whether a comment is closed, by what stands there
closed-at : (text : List ℕ) (n : Nesting) (i : ℕ) → i < length text
    → is_closed n (pieces_from text i) ≡ is_closed_by (nesting_after n (char_at text i) (char_at text (i + size_at text i))) (λ m. is_closed m (pieces_from text (i + size_at text i)))
closed-at text n i h =
    ap (is_closed n) (pieces-at text i h)
    ∙ ap (λ (o : Option ℕ). is_closed_by (nesting_after n (char_at text i) o) (λ m. is_closed m (pieces_from text (i + size_at text i)))) (head-char text (i + size_at text i))

pub closed-end : (text : List ℕ) (n : Nesting) (i : ℕ) → length text ≤ i → is_closed n (pieces_from text i) ≡ false
closed-end text n i h = ap (is_closed n) (pieces-end text i h)

-- by what two characters are there
pub closed-by : (text : List ℕ) (n i j : ℕ) (f o : Option ℕ) (b : Bracket) → i < length text → j ≡ i + size_at text i → f ≡ char_at text i → o ≡ char_at text j → b ≡ bracket_of f o
    → is_closed (deep n) (pieces_from text i) ≡ is_closed (nesting_by n b) (pieces_from text j)
closed-by text n i j f o b h e p g q = rw (q, p, g, e) (closed-at text (deep n) i h)

-- behind a `}%`
closed-outside : (text : List ℕ) (n i j : ℕ) (v : Bool) → i < length text → j ≡ i + size_at text i → nat_le n 1 ≡ v
    → is_closed (closing n) (pieces_from text i) ≡ is_closed_by (if v then None else Some (deep (n - 1))) (λ m. is_closed m (pieces_from text j))
closed-outside text n i j v h e q =
    rw e (closed-at text (closing n) i h ∙ ap (λ (w : Bool). is_closed_by (if w then None else Some (deep (n - 1))) (λ m. is_closed m (pieces_from text (i + size_at text i)))) q)

pub closed-last : (text : List ℕ) (n i : ℕ) → i < length text → n ≤ 1 → is_closed (closing n) (pieces_from text i) ≡ true
closed-last text n i h l = closed-outside text n i (i + size_at text i) true h refl (few n l)

pub closed-more : (text : List ℕ) (n i j : ℕ) → i < length text → j ≡ i + size_at text i → 1 < n → is_closed (closing n) (pieces_from text i) ≡ is_closed (deep (n - 1)) (pieces_from text j)
closed-more text n i j h e l = closed-outside text n i j false h e (many n l)

and-false : (b : Bool) → b && false ≡ false
and-false true = refl
and-false false = refl

-- a character that closes a comment has one behind it
closes-none : (f : Option ℕ) → Closes ≡ bracket_of f None → ⊥
closes-none f e =
    let k : bracket_of f None ≡ Neither = rw (and-false (is_char 37 f), and-false (is_char 125 f)) refl in
    cc

pub closes-some : (text : List ℕ) (f o : Option ℕ) (i : ℕ) → Closes ≡ bracket_of f o → o ≡ char_at text i → char_at text i ≡ None → ⊥
closes-some text f o i e g q = closes-none f (e ∙ ap (bracket_of f) (g ∙ q))

pub closes-inside : (text : List ℕ) (f o : Option ℕ) (i : ℕ) → Closes ≡ bracket_of f o → o ≡ char_at text i → i < length text
closes-inside text f o i e g = by-test (ltb i (length text)) refl
  where
    by-test : (v : Bool) → ltb i (length text) ≡ v → i < length text
    by-test true q = ltb-true _ _ q
    by-test false q = absurd (closes-some text f o i e g (end-char text i (ltb-false _ _ q)))

-- a run of plain characters, a character at a time
pub run-more : (text : List ℕ) (i j : ℕ) (f : Option ℕ) → i < length text → j ≡ i + size_at text i → f ≡ char_at text i → is_plain f ≡ true → i + run_length (pieces_from text i) ≡ j + run_length (pieces_from text j)
run-more text i j f h e p q =
    let next = i + size_at text i in
    let one : run_length (pieces_from text i) ≡ size_at text i + run_length (pieces_from text next) =
    ap run_length (pieces-at text i h) ∙ ap (λ (v : Bool). if v then size_at text i + run_length (pieces_from text next) else 0) (ap is_plain (sym p) ∙ q) in
    rw e (omega arith)

pub run-none : (text : List ℕ) (i : ℕ) (f : Option ℕ) → i < length text → f ≡ char_at text i → is_plain f ≡ false → run_length (pieces_from text i) ≡ 0
run-none text i f h p q =
    ap run_length (pieces-at text i h) ∙ ap (λ (v : Bool). if v then size_at text i + run_length (pieces_from text (i + size_at text i)) else 0) (ap is_plain (sym p) ∙ q)

pub run-end : (text : List ℕ) (i : ℕ) → length text ≤ i → run_length (pieces_from text i) ≡ 0
run-end text i h = ap run_length (pieces-end text i h)

-- what a `%` begins, by what stands behind it
pub sign-at : (text : List ℕ) (i : ℕ) → i < length text → sign_of (pieces_from text i) ≡ sign_by_char (char_at text i)
sign-at text i h = ap sign_of (pieces-at text i h)

pub sign-end : (text : List ℕ) (i : ℕ) → length text ≤ i → sign_of (pieces_from text i) ≡ LineComment
sign-end text i h = ap sign_of (pieces-end text i h)
