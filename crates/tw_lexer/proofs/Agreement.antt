-- A text is cut at the dot that reading finds.
use Rattle.std.proofs.Common.{◌≡◌, ◌≢◌, ◌≤◌, ◌<◌, ℕ, zero, suc, ◌+◌, ◌-◌, List, [], ◌∷◌, ◌++◌, length, get_or, take, drop, Bool, true, false, eqb, ltb, refl, sym, ap, subst, ◌∙◌, arith, Ok, Err, Some, None, append-nil, inl, inr}
use Rattle.std.specs.Prelude.{◌⊎◌, ◌==◌, ◌&&◌, ◌||◌, nat_le, nat_lt, if◌then◌else◌}
use Rattle.std.specs.declared.option.Option.{Option}
use Rattle.std.specs.declared.result.Result.{Result}
use Rattle.std.specs.Char.{encode_utf8}
use Rattle.std.proofs.Math.Seq.{take-add}
use Rattle.std.proofs.lemmas.Bool.{eqb-true}
use Rattle.std.proofs.lemmas.Bool.Decides.{nat_tests}
use Rattle.std.proofs.lemmas.Str.{encode_ascii, inside_one, length-encode, len_utf8_bounds}
use borrow.Author.Tests.{ltb-true, ltb-false}
use Rattle.tw_lexer.specs.Bytes.{is_white_space}
use Rattle.tw_lexer.specs.Characters.{pieces_from, char_at, size_at}
use Rattle.tw_lexer.specs.Classes.{class_of, class_past_ascii, is_bad, is_plain, is_plain_class, run_length}
use Rattle.tw_lexer.specs.Comments.{is_char, bracket_of, Nesting, deep, closing, nesting_by, nesting_after, is_closed, sign_of, sign_by_char, sign_by_class}
use Rattle.tw_lexer.specs.Cut.{cut_after, cut_by, plain_by, percent_by, line_by, comment_by, closed, is_done}
use Rattle.tw_lexer.specs.Laws.{CutIsTheDot}
use Rattle.tw_lexer.specs.Places.{place_of}
use Rattle.tw_lexer.specs.Tokens.{token, Search, between, in_line, in_comment, search_by, first_token, ends, Leads}
use Rattle.tw_lexer.specs.declared.place.Place.{Place}
use Rattle.tw_lexer.specs.declared.class.Class.{Class}
use Rattle.tw_lexer.specs.declared.class.Class.TheVariants as classes
use Rattle.tw_lexer.specs.declared.comment.Sign.{Sign}
use Rattle.tw_lexer.specs.declared.comment.Sign.TheVariants as signs
use Rattle.tw_lexer.specs.declared.comment.Bracket.{Bracket}
use Rattle.tw_lexer.specs.declared.comment.Bracket.TheVariants.{Opens, Closes, Neither}
use Rattle.tw_lexer.specs.declared.cut.Cut.{Cut}
use Rattle.tw_lexer.specs.declared.cut.Cut.TheVariants.{Plain, Percent, Line, Comment, CommentPercent, CommentClose, Done}
use Rattle.tw_lexer.specs.declared.token.Token.{Token}
use Rattle.tw_lexer.specs.declared.token.TokenKind.{TokenKind}
use Rattle.tw_lexer.specs.declared.token.TokenKind.TheVariants.{Ident, Keyword, Colon, Dot, LParen, RParen, LBrace, RBrace, LBracket, RBracket, End}
use Rattle.tw_lexer.proofs.Cuts.{cut_after-append}
use Rattle.tw_lexer.proofs.Pieces.{piece-within, piece-some, char-inside}
use Rattle.tw_lexer.proofs.Positions.{bytes-at}
use Rattle.tw_lexer.proofs.Finds.{good, bad, seek, seek-end, between-by, between-none, percent-by, line-none, line-some, comment-none, comment-at, run-more, run-none, run-end, sign-at, sign-end}
use Rattle.tw_lexer.proofs.Firsts.{first_token-IsToken}

-- where the end of the text stands behind so many bytes
abbrev cut_at : List ℕ → ℕ → Cut
cut_at text i = cut_after Plain (take i text)

-- a byte past ASCII
other : (b k : ℕ) → 128 ≤ b → k < 128 → (b == k) ≡ false
other b k h l = grind (arith, nat_tests)

above : (b : ℕ) → 128 ≤ b → nat_le b 13 ≡ false
above b h = grind (arith, nat_tests)

above-nine : (b : ℕ) → 128 ≤ b → nat_le 9 b ≡ true
above-nine b h = grind (arith, nat_tests)

wide-white : (b : ℕ) → 128 ≤ b → is_white_space b ≡ false
wide-white b h = rw (other b 32 h (omega arith), above b h, above-nine b h) refl

-- behind a character of several bytes
abbrev wide : Cut → Cut
wide Plain = Plain
wide Percent = Plain
wide Line = Line
wide (Comment n) = Comment n
wide (CommentPercent n) = Comment n
wide (CommentClose n) = Comment n
wide Done = Done

wide-comment : (n b : ℕ) → 128 ≤ b → comment_by n b ≡ Comment n
wide-comment n b h = rw (other b 37 h (omega arith), other b 125 h (omega arith)) refl

wide-line : (b : ℕ) → 128 ≤ b → line_by b ≡ Line
wide-line b h = rw (other b 10 h (omega arith)) refl

wide-one : (s : Cut) (b : ℕ) → 128 ≤ b → cut_by s b ≡ wide s
wide-one Plain b h = rw (other b 46 h (omega arith), other b 37 h (omega arith)) refl
wide-one Percent b h = rw (other b 46 h (omega arith), other b 123 h (omega arith), other b 10 h (omega arith), wide-white b h, other b 37 h (omega arith)) refl
wide-one Line b h = wide-line b h
wide-one (Comment n) b h = wide-comment n b h
wide-one (CommentPercent n) b h = rw (other b 123 h (omega arith)) (wide-comment n b h)
wide-one (CommentClose n) b h = rw (other b 37 h (omega arith), other b 125 h (omega arith)) refl
wide-one Done b h = refl

wide-wide : (s : Cut) → wide (wide s) ≡ wide s
wide-wide Plain = refl
wide-wide Percent = refl
wide-wide Line = refl
wide-wide (Comment n) = refl
wide-wide (CommentPercent n) = refl
wide-wide (CommentClose n) = refl
wide-wide Done = refl

abbrev AreWide : List ℕ → Type 0
AreWide bs = (k : ℕ) → k < length bs → 128 ≤ get_or bs k 0

wide-more : (s : Cut) (b : ℕ) (bs : List ℕ) → AreWide (b ∷ bs) → cut_after s (b ∷ bs) ≡ wide s
wide-more s b [] h = wide-one s b (h 0 (omega arith))
wide-more s b (c ∷ bs) h =
    ap (λ (x : Cut). cut_after x (c ∷ bs)) (wide-one s b (h 0 (omega arith)))
    ∙ wide-more (wide s) c bs (λ k l. h (suc k) (omega arith))
    ∙ wide-wide s

wide-all : (s : Cut) (bs : List ℕ) → 0 < length bs → AreWide bs → cut_after s bs ≡ wide s
wide-all s [] l h = absurd (omega (arith, l))
wide-all s (b ∷ bs) l h = wide-more s b bs h

encode-wide : (c : ℕ) → 128 ≤ c → AreWide (encode_utf8 c)
encode-wide c h k l = by-test (ltb (get_or (encode_utf8 c) k 0) 128) refl
  where
    by-test : (v : Bool) → ltb (get_or (encode_utf8 c) k 0) 128 ≡ v → 128 ≤ get_or (encode_utf8 c) k 0
    by-test true e =
        let same : c ≡ get_or (encode_utf8 c) k 0 = inside_one c [] (encode_utf8 c) k (sym (append-nil (encode_utf8 c))) l (ltb-true _ _ e) in
        omega (arith, same)
    by-test false e = ltb-false _ _ e

-- behind a character
abbrev over : Cut → ℕ → Cut
over s c = if nat_lt c 128 then cut_by s c else wide s

over-encode : (s : Cut) (c : ℕ) (v : Bool) → nat_lt c 128 ≡ v → cut_after s (encode_utf8 c) ≡ over s c
over-encode s c true e = rw e (ap (cut_after s) (encode_ascii c (ltb-true _ _ e)))
over-encode s c false e =
    rw e (wide-all s (encode_utf8 c) (let b = len_utf8_bounds c in omega (arith, b.0, length-encode c)) (encode-wide c (ltb-false _ _ e)))

cut-char : (text : List ℕ) (i j c : ℕ) → j ≡ i + size_at text i → char_at text i ≡ Some c → cut_at text j ≡ over (cut_at text i) c
cut-char text i j c e f =
    ap (cut_at text) e
    ∙ ap (cut_after Plain) (take-add i (size_at text i) text)
    ∙ cut_after-append Plain (take i text) (take (size_at text i) (drop i text))
    ∙ ap (cut_after (cut_at text i)) (bytes-at text i c f)
    ∙ over-encode (cut_at text i) c (nat_lt c 128) refl

-- by a test of a character
over-by : (s r : Cut) (c : ℕ) → (c < 128 → cut_by s c ≡ r) → (128 ≤ c → wide s ≡ r) → over s c ≡ r
over-by s r c low high = by-test (nat_lt c 128) refl
  where
    by-test : (v : Bool) → nat_lt c 128 ≡ v → over s c ≡ r
    by-test true e = rw e (low (ltb-true _ _ e))
    by-test false e = rw e (high (ltb-false _ _ e))

unequal : (c k : ℕ) → c ≢ k → (c == k) ≡ false
unequal c k n = grind (arith, nat_tests)

over-plain : (c : ℕ) → c ≢ 46 → c ≢ 37 → over Plain c ≡ Plain
over-plain c m n = over-by Plain Plain c (λ l. rw (unequal c 46 m, unequal c 37 n) refl) (λ h. refl)

over-comment : (n c : ℕ) → over (Comment n) c ≡ comment_by n c
over-comment n c = over-by (Comment n) (comment_by n c) c (λ l. refl) (λ h. sym (wide-comment n c h))

over-comment_percent : (n c : ℕ) → c ≢ 123 → over (CommentPercent n) c ≡ comment_by n c
over-comment_percent n c k = over-by (CommentPercent n) (comment_by n c) c (λ l. rw (unequal c 123 k) refl) (λ h. sym (wide-comment n c h))

over-comment_close : (n c : ℕ) → c ≢ 37 → over (CommentClose n) c ≡ comment_by n c
over-comment_close n c k = over-by (CommentClose n) (comment_by n c) c (λ l. rw (unequal c 37 k) refl) (λ h. sym (wide-comment n c h))

over-line : (c : ℕ) → over Line c ≡ line_by c
over-line c = over-by Line (line_by c) c (λ l. refl) (λ h. sym (wide-line c h))

-- the classes of a dot and of a `%`
abbrev is_class : Class → Class → Bool
is_class (classes.Mark Dot) (classes.Mark Dot) = true
is_class classes.Percent classes.Percent = true
is_class _ _ = false

no-if : (k : Class) (t : Bool) (x y : Class) → is_class k x ≡ false → is_class k y ≡ false → is_class k (if t then x else y) ≡ false
no-if k true x y p q = p
no-if k false x y p q = q

no-past : (k : Class) (c : ℕ) → is_class k classes.WhiteSpace ≡ false → is_class k classes.Bad ≡ false → is_class k classes.Plain ≡ false → is_class k (class_past_ascii c) ≡ false
no-past k c w b p = no-if k _ classes.WhiteSpace _ w (no-if k _ classes.Bad classes.Plain b p)

no-dot : (c : ℕ) → (c == 46) ≡ false → is_class (classes.Mark Dot) (class_of c) ≡ false
no-dot c e =
    let k = classes.Mark Dot in
    rw e (
    no-if k (is_white_space c) classes.WhiteSpace _ refl
    (no-if k (is_bad c) classes.Bad _ refl
    (no-if k (c == 37) classes.Percent _ refl
    (no-if k (c == 58) (classes.Mark Colon) _ refl
    (no-if k (c == 40) (classes.Mark LParen) _ refl
    (no-if k (c == 41) (classes.Mark RParen) _ refl
    (no-if k (c == 123) (classes.Mark LBrace) _ refl
    (no-if k (c == 125) (classes.Mark RBrace) _ refl
    (no-if k (c == 91) (classes.Mark LBracket) _ refl
    (no-if k (c == 93) (classes.Mark RBracket) _ refl (no-if k (nat_lt c 128) classes.Plain _ refl (no-past k c refl refl refl)))))))))))
    )

no-percent : (c : ℕ) → (c == 37) ≡ false → is_class classes.Percent (class_of c) ≡ false
no-percent c e =
    let k = classes.Percent in
    rw e (
    no-if k (is_white_space c) classes.WhiteSpace _ refl
    (no-if k (is_bad c) classes.Bad _ refl
    (no-if k (c == 58) (classes.Mark Colon) _ refl
    (no-if k (c == 46) (classes.Mark Dot) _ refl
    (no-if k (c == 40) (classes.Mark LParen) _ refl
    (no-if k (c == 41) (classes.Mark RParen) _ refl
    (no-if k (c == 123) (classes.Mark LBrace) _ refl
    (no-if k (c == 125) (classes.Mark RBrace) _ refl
    (no-if k (c == 91) (classes.Mark LBracket) _ refl
    (no-if k (c == 93) (classes.Mark RBracket) _ refl (no-if k (nat_lt c 128) classes.Plain _ refl (no-past k c refl refl refl)))))))))))
    )

dot-char : (c : ℕ) → classes.Mark Dot ≡ class_of c → c ≡ 46
dot-char c h = by-test (c == 46) refl
  where
    by-test : (v : Bool) → (c == 46) ≡ v → c ≡ 46
    by-test true e = eqb-true c 46 e
    by-test false e = let k : is_class (classes.Mark Dot) (classes.Mark Dot) ≡ false = ap (is_class (classes.Mark Dot)) h ∙ no-dot c e in cc

percent-char : (c : ℕ) → classes.Percent ≡ class_of c → c ≡ 37
percent-char c h = by-test (c == 37) refl
  where
    by-test : (v : Bool) → (c == 37) ≡ v → c ≡ 37
    by-test true e = eqb-true c 37 e
    by-test false e = let k : is_class classes.Percent classes.Percent ≡ false = ap (is_class classes.Percent) h ∙ no-percent c e in cc

-- no other class is a dot's or a `%`'s
not-dot : (c : ℕ) (k : Class) → k ≡ class_of c → k ≢ classes.Mark Dot → c ≢ 46
not-dot c k e n q = n (e ∙ ap class_of q)

not-percent : (c : ℕ) (k : Class) → k ≡ class_of c → k ≢ classes.Percent → c ≢ 37
not-percent c k e n q = n (e ∙ ap class_of q)

over-class : (c : ℕ) (k : Class) → k ≡ class_of c → k ≢ classes.Mark Dot → k ≢ classes.Percent → over Plain c ≡ Plain
over-class c k e d p = over-plain c (not-dot c k e d) (not-percent c k e p)

plain-class : (f : Option ℕ) → is_plain f ≡ true → (c : ℕ) × (f ≡ Some c) × (classes.Plain ≡ class_of c)
plain-class None e = cc
plain-class (Some c) e = (c, refl, sym (by-class (class_of c) e))
  where
    by-class : (k : Class) → is_plain_class k ≡ true → k ≡ classes.Plain
    by-class classes.Plain q = refl
    by-class _ q = cc

-- which way a choice went
chosen : {A : Type 0} (t : Bool) (x y z : A) → z ≡ (if t then x else y) → ((t ≡ true) × (z ≡ x)) ⊎ ((t ≡ false) × (z ≡ y))
chosen true x y z e = inl (refl, e)
chosen false x y z e = inr (refl, e)

both : (u v : Bool) → u && v ≡ true → (u ≡ true) × (v ≡ true)
both true v e = (refl, e)
both false v e = cc

no-line : (k : Class) → signs.LineComment ≡ sign_by_class k → ⊥
no-line classes.Plain e = cc
no-line _ e = cc

no-comment : (k : Class) → signs.Comment ≡ sign_by_class k → ⊥
no-comment classes.Plain e = cc
no-comment _ e = cc

word-class : (k : Class) → signs.Word ≡ sign_by_class k → k ≡ classes.Plain
word-class classes.Plain e = refl
word-class _ e = cc

line-sign : (c : ℕ) → signs.LineComment ≡ sign_by_char (Some c) → (is_white_space c || (c == 37)) ≡ true
line-sign c h =
    elim (chosen (is_white_space c || (c == 37)) signs.LineComment _ signs.LineComment h) [
      | inl p ↦ p.0
      | inr p ↦ elim (chosen (c == 123) signs.Comment _ signs.LineComment p.1) [
        | inl q ↦ let e = q.1 in cc
        | inr q ↦ elim (chosen (c == 46) signs.Stop _ signs.LineComment q.1) [ inl r ↦ let e = r.1 in cc | inr r ↦ absurd (no-line (class_of c) r.1) ]
      ]
    ]

comment-sign : (c : ℕ) → signs.Comment ≡ sign_by_char (Some c) → c ≡ 123
comment-sign c h =
    elim (chosen (is_white_space c || (c == 37)) signs.LineComment _ signs.Comment h) [
      | inl p ↦ let e = p.1 in cc
      | inr p ↦ elim (chosen (c == 123) signs.Comment _ signs.Comment p.1) [
        | inl q ↦ eqb-true c 123 q.0
        | inr q ↦ elim (chosen (c == 46) signs.Stop _ signs.Comment q.1) [ inl r ↦ let e = r.1 in cc | inr r ↦ absurd (no-comment (class_of c) r.1) ]
      ]
    ]

record IsWord (c : ℕ) : Type 0 where
  pub white : (is_white_space c || (c == 37)) ≡ false
  pub brace : (c == 123) ≡ false
  pub dot : (c == 46) ≡ false
  pub plain : classes.Plain ≡ class_of c

word-sign : (c : ℕ) → signs.Word ≡ sign_by_char (Some c) → IsWord c
word-sign c h =
    elim (chosen (is_white_space c || (c == 37)) signs.LineComment _ signs.Word h) [
      | inl p ↦ let e = p.1 in cc
      | inr p ↦ elim (chosen (c == 123) signs.Comment _ signs.Word p.1) [
        | inl q ↦ let e = q.1 in cc
        | inr q ↦ elim (chosen (c == 46) signs.Stop _ signs.Word q.1) [
          | inl r ↦ let e = r.1 in cc
          | inr r ↦ record { white = p.0; brace = q.0; dot = r.0; plain = sym (word-class (class_of c) r.1) }
        ]
      ]
    ]

-- white space and `%` are other bytes than a dot and a brace
white-other : (c : ℕ) → (is_white_space c || (c == 37)) ≡ true → ((c == 46) ≡ false) × ((c == 123) ≡ false) × (c < 128)
white-other c h = (
  unequal c 46 (λ q. let k : (is_white_space 46 || (46 == 37)) ≡ true = ap (λ (x : ℕ). is_white_space x || (x == 37)) (sym q) ∙ h in cc),
  unequal c 123 (λ q. let k : (is_white_space 123 || (123 == 37)) ≡ true = ap (λ (x : ℕ). is_white_space x || (x == 37)) (sym q) ∙ h in cc),
  by-test (ltb c 128) refl,
)
  where
    by-test : (v : Bool) → ltb c 128 ≡ v → c < 128
    by-test true e = ltb-true _ _ e
    by-test false e =
        let w = wide-white c (ltb-false _ _ e) in
        let p = other c 37 (ltb-false _ _ e) (omega arith) in
        let k : (is_white_space c || (c == 37)) ≡ false = rw (w, p) refl in cc

over-white : (c : ℕ) → (is_white_space c || (c == 37)) ≡ true → over Percent c ≡ line_by c
over-white c h =
    let w = white-other c h in
    over-by Percent (line_by c) c (λ l. rw (w.0, w.1, h) refl) (λ g. absurd (omega (arith, w.2, g)))

white-feed : (c : ℕ) → (is_white_space c || (c == 37)) ≡ false → (c == 10) ≡ false
white-feed c h = unequal c 10 (λ q. let k : (is_white_space 10 || (10 == 37)) ≡ false = ap (λ (x : ℕ). is_white_space x || (x == 37)) (sym q) ∙ h in cc)

over-word : (c : ℕ) → IsWord c → over Percent c ≡ Plain
over-word c w = over-by Percent Plain c (λ l. rw (w.dot, w.brace, white-feed c w.white, w.white) refl) (λ h. refl)

-- the brackets of comments
char-is : (k : ℕ) (o : Option ℕ) → is_char k o ≡ true → o ≡ Some k
char-is k None e = cc
char-is k (Some d) e = ap (λ (x : ℕ). Some x) (eqb-true d k e)

opens-chars : (c : ℕ) (o : Option ℕ) → Opens ≡ bracket_of (Some c) o → (c ≡ 37) × (o ≡ Some 123)
opens-chars c o h =
    elim (chosen ((c == 37) && is_char 123 o) Opens _ Opens h) [
      | inl p ↦ let b = both (c == 37) (is_char 123 o) p.0 in (eqb-true c 37 b.0, char-is 123 o b.1)
      | inr p ↦ elim (chosen ((c == 125) && is_char 37 o) Closes Neither Opens p.1) [ inl q ↦ let e = q.1 in cc | inr q ↦ let e = q.1 in cc ]
    ]

closes-chars : (c : ℕ) (o : Option ℕ) → Closes ≡ bracket_of (Some c) o → (c ≡ 125) × (o ≡ Some 37)
closes-chars c o h =
    elim (chosen ((c == 37) && is_char 123 o) Opens _ Closes h) [
      | inl p ↦ let e = p.1 in cc
      | inr p ↦ elim (chosen ((c == 125) && is_char 37 o) Closes Neither Closes p.1) [
        | inl q ↦ let b = both (c == 125) (is_char 37 o) q.0 in (eqb-true c 125 b.0, char-is 37 o b.1)
        | inr q ↦ let e = q.1 in cc
      ]
    ]

neither-chars : (c : ℕ) (o : Option ℕ) → Neither ≡ bracket_of (Some c) o → (((c == 37) && is_char 123 o) ≡ false) × (((c == 125) && is_char 37 o) ≡ false)
neither-chars c o h =
    elim (chosen ((c == 37) && is_char 123 o) Opens _ Neither h) [
      | inl p ↦ let e = p.1 in cc
      | inr p ↦ elim (chosen ((c == 125) && is_char 37 o) Closes Neither Neither p.1) [ inl q ↦ let e = q.1 in cc | inr q ↦ (p.0, q.0) ]
    ]

-- what each next character does
abbrev Follows : List ℕ → ℕ → Cut → (ℕ → Cut) → Type 0
Follows text i s f = (c : ℕ) → char_at text i ≡ Some c → over s c ≡ f c

-- where a search stands, and where the end of the text does
abbrev Agrees : List ℕ → ℕ → Search → Cut → Type 0
Agrees text i between s = s ≡ Plain
Agrees text i in_line s = Follows text i s line_by
Agrees text i (in_comment begin (deep n)) s = Follows text i s (comment_by n)
Agrees text i (in_comment begin (closing n)) s = Follows text i s (λ c. closed n)

same-char : (text : List ℕ) (i c d : ℕ) → char_at text i ≡ Some c → char_at text i ≡ Some d → d ≡ c
same-char text i c d e f = let k = sym e ∙ f in cc

-- in a comment, behind a character
neither-agrees : (text : List ℕ) (j n c : ℕ) → (((c == 37) && is_char 123 (char_at text j)) ≡ false) → (((c == 125) && is_char 37 (char_at text j)) ≡ false) → Follows text j (comment_by n c) (comment_by n)
neither-agrees text j n c p q d f = by-percent (c == 37) refl
  where
    by-close : (v : Bool) → (c == 125) ≡ v → (c == 37) ≡ false → over (comment_by n c) d ≡ comment_by n d
    by-close true e z =
        rw (z, e) (over-comment_close n d (λ s. let k : (true && is_char 37 (Some 37)) ≡ false = ap (λ (b : Bool). b && is_char 37 (Some 37)) (sym e) ∙ ap (λ (x : ℕ). (c == 125) && is_char 37 (Some x)) (sym s) ∙ ap (λ (o : Option ℕ). (c == 125) && is_char 37 o) (sym f) ∙ q in cc))
    by-close false e z = rw (z, e) (over-comment n d)

    by-percent : (v : Bool) → (c == 37) ≡ v → over (comment_by n c) d ≡ comment_by n d
    by-percent true e =
        rw e (over-comment_percent n d (λ s. let k : (true && is_char 123 (Some 123)) ≡ false = ap (λ (b : Bool). b && is_char 123 (Some 123)) (sym e) ∙ ap (λ (x : ℕ). (c == 37) && is_char 123 (Some x)) (sym s) ∙ ap (λ (o : Option ℕ). (c == 37) && is_char 123 o) (sym f) ∙ p in cc))
    by-percent false e = by-close (c == 125) refl e

bracket-agrees : (text : List ℕ) (begin : Place) (j n c : ℕ) (b : Bracket) → b ≡ bracket_of (Some c) (char_at text j) → Agrees text j (in_comment begin (nesting_by n b)) (comment_by n c)
bracket-agrees text begin j n c Opens e = λ d f.
    let o = opens-chars c (char_at text j) e in
    let brace : d ≡ 123 = same-char text j 123 d o.1 f in
    rw (o.0, brace) refl
bracket-agrees text begin j n c Closes e = λ d f.
    let o = closes-chars c (char_at text j) e in
    let percent : d ≡ 37 = same-char text j 37 d o.1 f in
    rw (o.0, percent) refl
bracket-agrees text begin j n c Neither e = λ d f.
    let o = neither-chars c (char_at text j) e in
    neither-agrees text j n c o.0 o.1 d f

outside-agrees : (text : List ℕ) (begin : Place) (j n : ℕ) (v : Bool) → nat_le n 1 ≡ v → Agrees text j (search_by begin (if v then None else Some (deep (n - 1)))) (closed n)
outside-agrees text begin j n true e = rw e refl
outside-agrees text begin j n false e = λ d f. rw e (over-comment (n - 1) d)

line-agrees : (text : List ℕ) (j c : ℕ) (v : Bool) → (c == 10) ≡ v → Agrees text j (if v then between else in_line) (line_by c)
line-agrees text j c true e = rw e refl
line-agrees text j c false e = λ d f. rw e (over-line d)

-- what reading a token tells of the cut
record Cuts (text : List ℕ) (t : Token) : Type 0 where
  pub dot : t.kind ≡ Dot → (cut_at text t.from ≡ Plain) × (cut_at text t.upto ≡ Done)
  pub more : ends t.kind ≡ false → cut_at text t.upto ≡ Plain

-- a run of plain characters has no dot and no `%`
abbrev RunsShorter : ℕ → List ℕ → Type 0
RunsShorter n text = (j : ℕ) → j ≤ length text → length text - j < n → cut_at text j ≡ Plain → cut_at text (j + run_length (pieces_from text j)) ≡ Plain

run-plain : (n : ℕ) (text : List ℕ) (i : ℕ) → RunsShorter n text → i < length text → length text - i < suc n → cut_at text i ≡ Plain → (v : Bool) → is_plain (char_at text i) ≡ v → cut_at text (i + run_length (pieces_from text i)) ≡ Plain
run-plain n text i rest less l s true p =
    let j = i + size_at text i in
    let some = piece-some text i less in
    let within = piece-within text i (omega arith) in
    let k = plain-class (char_at text i) p in
    let next : cut_at text (i + size_at text i) ≡ Plain =
    cut-char text i (i + size_at text i) k.0 refl k.1 ∙ ap (λ (x : Cut). over x k.0) s ∙ over-class k.0 classes.Plain k.2 (λ q. cc) (λ q. cc) in
    ap (cut_at text) (run-more text i (i + size_at text i) (char_at text i) less refl refl p) ∙ rest (i + size_at text i) within (omega arith) next
run-plain n text i rest less l s false p =
    ap (λ (m : ℕ). cut_at text (i + m)) (run-none text i (char_at text i) less refl p) ∙ ap (cut_at text) (omega arith) ∙ s

run-cut_end : (n : ℕ) (text : List ℕ) (i : ℕ) → RunsShorter n text → i ≤ length text → length text - i < suc n → cut_at text i ≡ Plain → (v : Bool) → ltb i (length text) ≡ v → cut_at text (i + run_length (pieces_from text i)) ≡ Plain
run-cut_end n text i rest h l s true e = run-plain n text i rest (ltb-true _ _ e) l s (is_plain (char_at text i)) refl
run-cut_end n text i rest h l s false e =
    ap (λ (m : ℕ). cut_at text (i + m)) (run-end text i (ltb-false _ _ e)) ∙ ap (cut_at text) (omega arith) ∙ s

run-cuts : (n : ℕ) (text : List ℕ) (i : ℕ) → i ≤ length text → length text - i < n → cut_at text i ≡ Plain → cut_at text (i + run_length (pieces_from text i)) ≡ Plain
run-cuts zero text i h l s = absurd (omega (arith, l))
run-cuts (suc n) text i h l s = run-cut_end n text i (λ j p q r. run-cuts n text j p q r) h l s (ltb i (length text)) refl

run-cut : (text : List ℕ) (i : ℕ) → i ≤ length text → cut_at text i ≡ Plain → cut_at text (i + run_length (pieces_from text i)) ≡ Plain
run-cut text i h s = run-cuts (length text - i + 1) text i h (omega arith) s

-- where a character stands
record Here (text : List ℕ) (i j c : ℕ) (t : Token) : Type 0 where
  pub less : i < j
  pub within : j ≤ length text
  pub byte : j ≡ i + size_at text i
  pub stands : char_at text i ≡ Some c
  pub next : (state : Search) → Agrees text j state (cut_at text j) → seek text state j ≡ Ok t → Cuts text t

made : {text : List ℕ} {t u : Token} → Cuts text t → good t ≡ Ok u → Cuts text u
made {text} {t} {u} h e = let same : t ≡ u = cc in subst (Cuts text) same h

end-Cuts : (text : List ℕ) (i : ℕ) → Cuts text (token text End i i)
end-Cuts text i = record { dot = λ e. cc; more = λ e. cc }

mark-Cuts : (text : List ℕ) (i j c : ℕ) (kind : TokenKind) → j ≡ i + size_at text i → char_at text i ≡ Some c → classes.Mark kind ≡ class_of c → cut_at text i ≡ Plain → Cuts text (token text kind i j)
mark-Cuts text i j c kind e f k s =
    let next = cut-char text i j c e f ∙ ap (λ (x : Cut). over x c) s in
    record {
      dot = λ q. (s, next ∙ ap (over Plain) (dot-char c (ap (λ (x : TokenKind). classes.Mark x) (sym q) ∙ k)));
      more = λ q. next ∙ over-class c (classes.Mark kind) k (λ r. let same : kind ≡ Dot = cc in let w : ends Dot ≡ false = ap ends (sym same) ∙ q in cc) (λ r. cc);
    }

-- an identifier or a keyword
word-Cuts : (text : List ℕ) (i u : ℕ) (kind : TokenKind) → kind ≢ Dot → cut_at text u ≡ Plain → Cuts text (token text kind i u)
word-Cuts text i u kind n s = record { dot = λ q. absurd (n q); more = λ q. s }

sign-char : (text : List ℕ) (j d : ℕ) (g : Sign) → char_at text j ≡ Some d → g ≡ sign_of (pieces_from text j) → g ≡ sign_by_char (Some d)
sign-char text j d g f e = e ∙ sign-at text j (char-inside text j d f) ∙ ap sign_by_char f

keyword-cut : (text : List ℕ) (j : ℕ) → j ≤ length text → signs.Word ≡ sign_of (pieces_from text j) → cut_at text j ≡ Percent → cut_at text (j + run_length (pieces_from text j)) ≡ Plain
keyword-cut text j h e s = by-end (ltb j (length text)) refl
  where
    by-char : j < length text → (f : Option ℕ) → char_at text j ≡ f → cut_at text (j + run_length (pieces_from text j)) ≡ Plain
    by-char less None f = let k : signs.Word ≡ signs.Nothing = e ∙ sign-at text j less ∙ ap sign_by_char f in cc
    by-char less (Some d) f =
        let w = word-sign d (sign-char text j d signs.Word f e) in
        let within = piece-within text j h in
        let next : cut_at text (j + size_at text j) ≡ Plain = cut-char text j (j + size_at text j) d refl f ∙ ap (λ (x : Cut). over x d) s ∙ over-word d w in
        ap (cut_at text) (run-more text j (j + size_at text j) (char_at text j) less refl refl (ap is_plain f ∙ ap is_plain_class (sym w.plain)))
        ∙ run-cut text (j + size_at text j) within next

    by-end : (v : Bool) → ltb j (length text) ≡ v → cut_at text (j + run_length (pieces_from text j)) ≡ Plain
    by-end true q = by-char (ltb-true _ _ q) (char_at text j) refl
    by-end false q = let k : signs.Word ≡ signs.LineComment = e ∙ sign-end text j (ltb-false _ _ q) in cc

by-sign : {text : List ℕ} {i j c : ℕ} {t : Token} (h : Here text i j c t) (g : Sign) → classes.Percent ≡ class_of c → g ≡ sign_of (pieces_from text j) → cut_at text j ≡ Percent → seek text between i ≡ Ok t → Cuts text t
by-sign {text} {i} {j} {c} {t} h signs.LineComment k g s r =
    h.next in_line (λ d f. ap (λ (x : Cut). over x d) s ∙ over-white d (line-sign d (sign-char text j d signs.LineComment f g)))
    (sym (percent-by text i j c signs.LineComment (omega (arith, h.less, h.within)) h.byte h.stands k g) ∙ r)
by-sign {text} {i} {j} {c} {t} h signs.Comment k g s r =
    h.next (in_comment (place_of text i) (deep 1)) (λ d f. let brace = comment-sign d (sign-char text j d signs.Comment f g) in rw (s, brace) refl)
    (sym (percent-by text i j c signs.Comment (omega (arith, h.less, h.within)) h.byte h.stands k g) ∙ r)
by-sign {text} {i} {j} {c} {t} h signs.Stop k g s r =
    made (end-Cuts text i) (sym (percent-by text i j c signs.Stop (omega (arith, h.less, h.within)) h.byte h.stands k g) ∙ r)
by-sign {text} {i} {j} {c} {t} h signs.Word k g s r =
    made (word-Cuts text i (j + run_length (pieces_from text j)) Keyword (λ q. cc) (keyword-cut text j h.within g s)) (sym (percent-by text i j c signs.Word (omega (arith, h.less, h.within)) h.byte h.stands k g) ∙ r)
by-sign {text} {i} {j} {c} {t} h signs.Nothing k g s r =
    let e : bad (place_of text i) ≡ Ok t = sym (percent-by text i j c signs.Nothing (omega (arith, h.less, h.within)) h.byte h.stands k g) ∙ r in cc

by-class : {text : List ℕ} {i j c : ℕ} {t : Token} (h : Here text i j c t) (k : Class) → k ≡ class_of c → cut_at text i ≡ Plain → seek text between i ≡ Ok t → Cuts text t
by-class {text} {i} {j} {c} {t} h classes.WhiteSpace k s r =
    h.next between (cut-char text i j c h.byte h.stands ∙ ap (λ (x : Cut). over x c) s ∙ over-class c classes.WhiteSpace k (λ q. cc) (λ q. cc))
    (sym (between-by text i j c classes.WhiteSpace (omega (arith, h.less, h.within)) h.byte h.stands k) ∙ r)
by-class {text} {i} {j} {c} {t} h (classes.Mark kind) k s r =
    made (mark-Cuts text i j c kind h.byte h.stands k s) (sym (between-by text i j c (classes.Mark kind) (omega (arith, h.less, h.within)) h.byte h.stands k) ∙ r)
by-class {text} {i} {j} {c} {t} h classes.Percent k s r =
    by-sign h (sign_of (pieces_from text j)) k refl (cut-char text i j c h.byte h.stands ∙ ap (λ (x : Cut). over x c) s ∙ ap (over Plain) (percent-char c k)) r
by-class {text} {i} {j} {c} {t} h classes.Plain k s r =
    let next = cut-char text i j c h.byte h.stands ∙ ap (λ (x : Cut). over x c) s ∙ over-class c classes.Plain k (λ q. cc) (λ q. cc) in
    made (word-Cuts text i (j + run_length (pieces_from text j)) Ident (λ q. cc) (run-cut text j h.within next)) (sym (between-by text i j c classes.Plain (omega (arith, h.less, h.within)) h.byte h.stands k) ∙ r)
by-class {text} {i} {j} {c} {t} h classes.Bad k s r =
    let e : bad (place_of text i) ≡ Ok t = sym (between-by text i j c classes.Bad (omega (arith, h.less, h.within)) h.byte h.stands k) ∙ r in cc

at-some : {text : List ℕ} {i j c : ℕ} {t : Token} (h : Here text i j c t) (state : Search) → Agrees text i state (cut_at text i) → seek text state i ≡ Ok t → Cuts text t
at-some {text} {i} {j} {c} {t} h between s r = by-class h (class_of c) refl s r
at-some {text} {i} {j} {c} {t} h in_line s r =
    h.next (if c == 10 then between else in_line) (subst (Agrees text j (if c == 10 then between else in_line)) (sym (cut-char text i j c h.byte h.stands ∙ s c h.stands)) (line-agrees text j c (c == 10) refl))
    (sym (line-some text i j c (omega (arith, h.less, h.within)) h.byte h.stands) ∙ r)
at-some {text} {i} {j} {c} {t} h (in_comment begin (deep n)) s r =
    let state = in_comment begin (nesting_by n (bracket_of (Some c) (char_at text j))) in
    h.next state (subst (Agrees text j state) (sym (cut-char text i j c h.byte h.stands ∙ s c h.stands)) (bracket-agrees text begin j n c (bracket_of (Some c) (char_at text j)) refl))
    (sym (comment-at text begin (deep n) i j c (omega (arith, h.less, h.within)) h.byte h.stands) ∙ r)
at-some {text} {i} {j} {c} {t} h (in_comment begin (closing n)) s r =
    let state = search_by begin (if nat_le n 1 then None else Some (deep (n - 1))) in
    h.next state (subst (Agrees text j state) (sym (cut-char text i j c h.byte h.stands ∙ s c h.stands)) (outside-agrees text begin j n (nat_le n 1) refl))
    (sym (comment-at text begin (closing n) i j c (omega (arith, h.less, h.within)) h.byte h.stands) ∙ r)

at-end : (text : List ℕ) (state : Search) (i : ℕ) (t : Token) → length text ≤ i → seek text state i ≡ Ok t → Cuts text t
at-end text between i t l r = made (end-Cuts text i) (sym (seek-end text between i l) ∙ r)
at-end text in_line i t l r = made (end-Cuts text i) (sym (seek-end text in_line i l) ∙ r)
at-end text (in_comment begin nesting) i t l r = let e : bad begin ≡ Ok t = sym (seek-end text (in_comment begin nesting) i l) ∙ r in cc

at-none : (text : List ℕ) (state : Search) (i : ℕ) (t : Token) → i < length text → char_at text i ≡ None → seek text state i ≡ Ok t → Cuts text t
at-none text between i t h f r = let e : bad (place_of text i) ≡ Ok t = sym (between-none text i h f) ∙ r in cc
at-none text in_line i t h f r = let e : bad (place_of text i) ≡ Ok t = sym (line-none text i h f) ∙ r in cc
at-none text (in_comment begin nesting) i t h f r =
    let v = is_closed nesting (pieces_from text i) in
    let e : bad (if v then place_of text i else begin) ≡ Ok t = sym (comment-none text begin nesting i v h f refl) ∙ r in cc

abbrev Shorter : ℕ → List ℕ → Token → Type 0
Shorter n text t = (state : Search) (j : ℕ) → j ≤ length text → length text - j < n → Agrees text j state (cut_at text j) → seek text state j ≡ Ok t → Cuts text t

finds-char : (n : ℕ) (text : List ℕ) (state : Search) (i : ℕ) (t : Token) → Shorter n text t → i < length text → length text - i < suc n → Agrees text i state (cut_at text i) → seek text state i ≡ Ok t → (f : Option ℕ) → char_at text i ≡ f → Cuts text t
finds-char n text state i t rest less l s r None f = at-none text state i t less f r
finds-char n text state i t rest less l s r (Some c) f =
    let j = i + size_at text i in
    let some = piece-some text i less in
    let inside = piece-within text i (omega arith) in
    let here : Here text i (i + size_at text i) c t = record { less = omega arith; within = inside; byte = refl; stands = f; next = λ g p q. rest g j inside (omega arith) p q } in
    at-some here state s r

finds-end : (n : ℕ) (text : List ℕ) (state : Search) (i : ℕ) (t : Token) → Shorter n text t → i ≤ length text → length text - i < suc n → Agrees text i state (cut_at text i) → seek text state i ≡ Ok t → (v : Bool) → ltb i (length text) ≡ v → Cuts text t
finds-end n text state i t rest h l s r true e = finds-char n text state i t rest (ltb-true _ _ e) l s r (char_at text i) refl
finds-end n text state i t rest h l s r false e = at-end text state i t (ltb-false _ _ e) r

-- by how many bytes are left
finds : (n : ℕ) (text : List ℕ) (state : Search) (i : ℕ) (t : Token) → i ≤ length text → length text - i < n → Agrees text i state (cut_at text i) → seek text state i ≡ Ok t → Cuts text t
finds zero text state i t h l s r = absurd (omega (arith, l))
finds (suc n) text state i t h l s r = finds-end n text state i t (λ g j p q a b. finds n text g j t p q a b) h l s r (ltb i (length text)) refl

token-Cuts : (text : List ℕ) (i : ℕ) (t : Token) → i ≤ length text → cut_at text i ≡ Plain → first_token text i ≡ Ok t → Cuts text t
token-Cuts text i t h s r = finds (length text - i + 1) text between i t h (omega arith) s r

-- through any number of tokens
leads-cut : (text : List ℕ) (from : ℕ) (ts : List Token) (upto : ℕ) → from ≤ length text → cut_at text from ≡ Plain → Leads text from ts upto → (cut_at text upto ≡ Plain) × (upto ≤ length text)
leads-cut text from [] upto h s k = (ap (cut_at text) (sym k) ∙ s, omega (arith, k))
leads-cut text from (t ∷ ts) upto h s k =
    let i = first_token-IsToken text from t h k.0 in
    let c = token-Cuts text from t h s k.0 in
    leads-cut text t.upto ts upto i.within (c.more k.1) k.2

pub cut_is_the_dot : CutIsTheDot
cut_is_the_dot text ts upto t k r d =
    let s = leads-cut text 0 ts upto (omega arith) refl k in
    let c = token-Cuts text upto t s.1 s.0 r in
    let both = c.dot d in
    (ap is_done both.0, both.1)
