-- The first token of a text.
use Rattle.std.proofs.Common.{◌≡◌, ◌≢◌, ◌≤◌, ◌<◌, ℕ, zero, suc, ◌+◌, ◌-◌, List, [], ◌∷◌, length, Bool, true, false, eqb, ltb, refl, sym, ap, subst, ◌∙◌, arith, Ok, Err, Some, None}
use Rattle.std.specs.Prelude.{◌==◌, if◌then◌else◌}
use Rattle.std.specs.declared.option.Option.{Option}
use Rattle.std.specs.declared.result.Result.{Result}
use borrow.Author.Tests.{ltb-true, ltb-false}
use Rattle.tw_lexer.specs.Characters.{pieces_from, char_at, size_at}
use Rattle.tw_lexer.specs.Classes.{class_of, is_plain, run_length}
use Rattle.tw_lexer.specs.Comments.{sign_of, nesting_after, is_closed}
use Rattle.tw_lexer.specs.Places.{place_of}
use Rattle.tw_lexer.specs.Tokens.{token, Search, between, in_line, in_comment, search_by, first_token, ends}
use Rattle.tw_lexer.specs.declared.place.Place.{Place}
use Rattle.tw_lexer.specs.declared.class.Class.{Class}
use Rattle.tw_lexer.specs.declared.class.Class.TheVariants.{WhiteSpace, Mark, Percent, Plain, Bad}
use Rattle.tw_lexer.specs.declared.comment.Sign.{Sign}
use Rattle.tw_lexer.specs.declared.comment.Sign.TheVariants.{LineComment, Comment, Stop, Word, Nothing}
use Rattle.tw_lexer.specs.declared.token.Token.{Token}
use Rattle.tw_lexer.specs.declared.token.TokenKind.{TokenKind}
use Rattle.tw_lexer.specs.declared.token.TokenKind.TheVariants.{Ident, Keyword, End}
use Rattle.tw_lexer.proofs.Pieces.{piece-within, piece-some}
use Rattle.tw_lexer.proofs.Positions.{columns_on, columns_on-add, columns_on-zero, place-column}
use Rattle.tw_lexer.proofs.Finds.{good, bad, seek, seek-end, between-by, between-none, percent-by, line-none, line-some, comment-none, comment-at, run-more, run-none, run-end}

-- what a token of the text keeps to
pub record IsToken (text : List ℕ) (from : ℕ) (t : Token) : Type 0 where
  pub later : from ≤ t.from
  pub order : t.from ≤ t.upto
  pub within : t.upto ≤ length text
  pub long : ends t.kind ≡ false → t.from < t.upto
  pub place : t.at ≡ place_of text t.from
  pub behind : place_of text t.upto ≡ columns_on t.at (t.upto - t.from)

-- a token of some bytes, none of which is a line feed
some-IsToken : (text : List ℕ) (kind : TokenKind) (i u : ℕ) → i < u → u ≤ length text → place_of text u ≡ columns_on (place_of text i) (u - i) → IsToken text i (token text kind i u)
some-IsToken text kind i u h l p = record {
  later = omega arith;
  order = omega arith;
  within = l;
  long = λ _. h;
  place = refl;
  behind = p;
}

end-IsToken : (text : List ℕ) (i : ℕ) → i ≤ length text → IsToken text i (token text End i i)
end-IsToken text i h = record {
  later = omega arith;
  order = omega arith;
  within = h;
  long = λ e. cc;
  place = refl;
  behind = columns_on-zero (place_of text i) ∙ ap (columns_on (place_of text i)) (omega arith);
}

-- a character that is no white space is no line feed
not-feed : (c : ℕ) (k : Class) → k ≡ class_of c → k ≢ WhiteSpace → c ≢ 10
not-feed c k e n q = n (e ∙ ap class_of q)

-- the place behind it
place-token : (text : List ℕ) (i j c : ℕ) (k : Class) → j ≡ i + size_at text i → char_at text i ≡ Some c → k ≡ class_of c → k ≢ WhiteSpace → place_of text j ≡ columns_on (place_of text i) (j - i)
place-token text i j c k e f q n =
    rw e (place-column text i c f (not-feed c k q n) ∙ ap (columns_on (place_of text i)) (omega arith))

-- where a run of plain characters ends
pub record Runs (text : List ℕ) (i : ℕ) : Type 0 where
  pub within : i + run_length (pieces_from text i) ≤ length text
  pub place : place_of text (i + run_length (pieces_from text i)) ≡ columns_on (place_of text i) (run_length (pieces_from text i))

no-run : (text : List ℕ) (i : ℕ) → i ≤ length text → run_length (pieces_from text i) ≡ 0 → Runs text i
no-run text i h e = record {
  within = omega (arith, e);
  place = rw e (ap (place_of text) (omega arith) ∙ columns_on-zero (place_of text i));
}

plain-some : (f : Option ℕ) → is_plain f ≡ true → (c : ℕ) × (f ≡ Some c) × (c ≢ 10)
plain-some None e = cc
plain-some (Some c) e = (c, refl, λ q. let k : is_plain (Some 10) ≡ true = ap (λ (x : ℕ). is_plain (Some x)) (sym q) ∙ e in cc)

more-run : (text : List ℕ) (i j : ℕ) → i < length text → j ≡ i + size_at text i → is_plain (char_at text i) ≡ true → Runs text j → Runs text i
more-run text i j h e p r =
    let s = plain-some (char_at text i) p in
    let step = run-more text i j (char_at text i) h e refl p in
    record {
      within = omega (arith, step, r.within);
      place =
          ap (place_of text) step
          ∙ r.place
          ∙ ap (λ (q : Place). columns_on q (run_length (pieces_from text j))) (ap (place_of text) e ∙ place-column text i s.0 s.1 s.2)
          ∙ columns_on-add (place_of text i) (size_at text i) (run_length (pieces_from text j)) (run_length (pieces_from text i)) (omega (arith, step, e));
    }

-- what is known of the rest of the text, where it is shorter
abbrev RunsShorter : ℕ → List ℕ → Type 0
RunsShorter n text = (j : ℕ) → j ≤ length text → length text - j < n → Runs text j

runs-plain : (n : ℕ) (text : List ℕ) (i : ℕ) → RunsShorter n text → i < length text → length text - i < suc n → (v : Bool) → is_plain (char_at text i) ≡ v → Runs text i
runs-plain n text i rest less l true p =
    let some = piece-some text i less in
    let within = piece-within text i (omega arith) in
    more-run text i (i + size_at text i) less refl p (rest (i + size_at text i) within (omega arith))
runs-plain n text i rest less l false p = no-run text i (omega arith) (run-none text i (char_at text i) less refl p)

runs-end : (n : ℕ) (text : List ℕ) (i : ℕ) → RunsShorter n text → i ≤ length text → length text - i < suc n → (v : Bool) → ltb i (length text) ≡ v → Runs text i
runs-end n text i rest h l true e = runs-plain n text i rest (ltb-true _ _ e) l (is_plain (char_at text i)) refl
runs-end n text i rest h l false e = no-run text i h (run-end text i (ltb-false _ _ e))

-- by how many bytes are left
runs : (n : ℕ) (text : List ℕ) (i : ℕ) → i ≤ length text → length text - i < n → Runs text i
runs zero text i h l = absurd (omega (arith, l))
runs (suc n) text i h l = runs-end n text i (λ j p q. runs n text j p q) h l (ltb i (length text)) refl

pub every-run : (text : List ℕ) (i : ℕ) → i ≤ length text → Runs text i
every-run text i h = runs (length text - i + 1) text i h (omega arith)

-- an identifier or a keyword
word-IsToken : (text : List ℕ) (kind : TokenKind) (i j c : ℕ) (k : Class) → i < j → j ≤ length text → j ≡ i + size_at text i → char_at text i ≡ Some c → k ≡ class_of c → k ≢ WhiteSpace
    → IsToken text i (token text kind i (j + run_length (pieces_from text j)))
word-IsToken text kind i j c k less within e f q n =
    let r = every-run text j within in
    some-IsToken text kind i (j + run_length (pieces_from text j)) (omega arith) r.within (
    r.place
    ∙ ap (λ (p : Place). columns_on p (run_length (pieces_from text j))) (place-token text i j c k e f q n)
    ∙ columns_on-add (place_of text i) (j - i) (run_length (pieces_from text j)) (j + run_length (pieces_from text j) - i) (omega arith)
    )

same-token : {text : List ℕ} {i : ℕ} {t u : Token} → IsToken text i t → good t ≡ Ok u → IsToken text i u
same-token {text} {i} {t} {u} h e = let same : t ≡ u = cc in subst (IsToken text i) same h

-- a token that stands later
from-later : (text : List ℕ) (i j : ℕ) (t : Token) → i ≤ j → IsToken text j t → IsToken text i t
from-later text i j t h g = record { later = omega (arith, g.later); order = g.order; within = g.within; long = g.long; place = g.place; behind = g.behind }

at-end : (text : List ℕ) (state : Search) (i : ℕ) (t : Token) → i ≤ length text → length text ≤ i → seek text state i ≡ Ok t → IsToken text i t
at-end text between i t h l r = same-token (end-IsToken text i h) (sym (seek-end text between i l) ∙ r)
at-end text in_line i t h l r = same-token (end-IsToken text i h) (sym (seek-end text in_line i l) ∙ r)
at-end text (in_comment begin nesting) i t h l r = let e : bad begin ≡ Ok t = sym (seek-end text (in_comment begin nesting) i l) ∙ r in cc

-- where no character stands there is no token
at-none : (text : List ℕ) (state : Search) (i : ℕ) (t : Token) → i < length text → char_at text i ≡ None → seek text state i ≡ Ok t → IsToken text i t
at-none text between i t h f r = let e : bad (place_of text i) ≡ Ok t = sym (between-none text i h f) ∙ r in cc
at-none text in_line i t h f r = let e : bad (place_of text i) ≡ Ok t = sym (line-none text i h f) ∙ r in cc
at-none text (in_comment begin nesting) i t h f r =
    let v = is_closed nesting (pieces_from text i) in
    let e : bad (if v then place_of text i else begin) ≡ Ok t = sym (comment-none text begin nesting i v h f refl) ∙ r in cc

-- where a character stands, and every token from behind it on is one
pub record Here (text : List ℕ) (i j c : ℕ) (t : Token) : Type 0 where
  pub less : i < j
  pub within : j ≤ length text
  pub byte : j ≡ i + size_at text i
  pub stands : char_at text i ≡ Some c
  pub next : (state : Search) → seek text state j ≡ Ok t → IsToken text j t

behind : {text : List ℕ} {i j c : ℕ} {t : Token} (h : Here text i j c t) (state : Search) → seek text state j ≡ Ok t → IsToken text i t
behind {text} {i} {j} {c} {t} h state r = from-later text i j t (omega (arith, h.less)) (h.next state r)

by-sign : {text : List ℕ} {i j c : ℕ} {t : Token} (h : Here text i j c t) (g : Sign) → Percent ≡ class_of c → g ≡ sign_of (pieces_from text j) → seek text between i ≡ Ok t → IsToken text i t
by-sign {text} {i} {j} {c} {t} h LineComment k g r = behind h in_line (sym (percent-by text i j c LineComment (omega (arith, h.less, h.within)) h.byte h.stands k g) ∙ r)
by-sign {text} {i} {j} {c} {t} h Comment k g r = behind h _ (sym (percent-by text i j c Comment (omega (arith, h.less, h.within)) h.byte h.stands k g) ∙ r)
by-sign {text} {i} {j} {c} {t} h Stop k g r =
    same-token (end-IsToken text i (omega (arith, h.less, h.within))) (sym (percent-by text i j c Stop (omega (arith, h.less, h.within)) h.byte h.stands k g) ∙ r)
by-sign {text} {i} {j} {c} {t} h Word k g r =
    same-token (word-IsToken text Keyword i j c Percent h.less h.within h.byte h.stands k (λ q. cc)) (sym (percent-by text i j c Word (omega (arith, h.less, h.within)) h.byte h.stands k g) ∙ r)
by-sign {text} {i} {j} {c} {t} h Nothing k g r =
    let e : bad (place_of text i) ≡ Ok t = sym (percent-by text i j c Nothing (omega (arith, h.less, h.within)) h.byte h.stands k g) ∙ r in cc

by-class : {text : List ℕ} {i j c : ℕ} {t : Token} (h : Here text i j c t) (k : Class) → k ≡ class_of c → seek text between i ≡ Ok t → IsToken text i t
by-class {text} {i} {j} {c} {t} h WhiteSpace k r = behind h between (sym (between-by text i j c WhiteSpace (omega (arith, h.less, h.within)) h.byte h.stands k) ∙ r)
by-class {text} {i} {j} {c} {t} h (Mark kind) k r =
    same-token (some-IsToken text kind i j h.less h.within (place-token text i j c (Mark kind) h.byte h.stands k (λ q. cc)))
    (sym (between-by text i j c (Mark kind) (omega (arith, h.less, h.within)) h.byte h.stands k) ∙ r)
by-class {text} {i} {j} {c} {t} h Percent k r = by-sign h (sign_of (pieces_from text j)) k refl r
by-class {text} {i} {j} {c} {t} h Plain k r =
    same-token (word-IsToken text Ident i j c Plain h.less h.within h.byte h.stands k (λ q. cc)) (sym (between-by text i j c Plain (omega (arith, h.less, h.within)) h.byte h.stands k) ∙ r)
by-class {text} {i} {j} {c} {t} h Bad k r =
    let e : bad (place_of text i) ≡ Ok t = sym (between-by text i j c Bad (omega (arith, h.less, h.within)) h.byte h.stands k) ∙ r in cc

at-some : {text : List ℕ} {i j c : ℕ} {t : Token} (h : Here text i j c t) (state : Search) → seek text state i ≡ Ok t → IsToken text i t
at-some {text} {i} {j} {c} {t} h between r = by-class h (class_of c) refl r
at-some {text} {i} {j} {c} {t} h in_line r = behind h (if c == 10 then between else in_line) (sym (line-some text i j c (omega (arith, h.less, h.within)) h.byte h.stands) ∙ r)
at-some {text} {i} {j} {c} {t} h (in_comment begin nesting) r =
    behind h (search_by begin (nesting_after nesting (Some c) (char_at text j))) (sym (comment-at text begin nesting i j c (omega (arith, h.less, h.within)) h.byte h.stands) ∙ r)

-- what is known of the rest of the text, where it is shorter
abbrev Shorter : ℕ → List ℕ → Token → Type 0
Shorter n text t = (state : Search) (j : ℕ) → j ≤ length text → length text - j < n → seek text state j ≡ Ok t → IsToken text j t

finds-char : (n : ℕ) (text : List ℕ) (state : Search) (i : ℕ) (t : Token) → Shorter n text t → i < length text → length text - i < suc n → seek text state i ≡ Ok t → (f : Option ℕ) → char_at text i ≡ f → IsToken text i t
finds-char n text state i t rest less l r None f = at-none text state i t less f r
finds-char n text state i t rest less l r (Some c) f =
    let j = i + size_at text i in
    let some = piece-some text i less in
    let inside = piece-within text i (omega arith) in
    let here : Here text i (i + size_at text i) c t = record { less = omega arith; within = inside; byte = refl; stands = f; next = λ s q. rest s j inside (omega arith) q } in
    at-some here state r

finds-end : (n : ℕ) (text : List ℕ) (state : Search) (i : ℕ) (t : Token) → Shorter n text t → i ≤ length text → length text - i < suc n → seek text state i ≡ Ok t → (v : Bool) → ltb i (length text) ≡ v → IsToken text i t
finds-end n text state i t rest h l r true e = finds-char n text state i t rest (ltb-true _ _ e) l r (char_at text i) refl
finds-end n text state i t rest h l r false e = at-end text state i t h (ltb-false _ _ e) r

-- by how many bytes are left
finds : (n : ℕ) (text : List ℕ) (state : Search) (i : ℕ) (t : Token) → i ≤ length text → length text - i < n → seek text state i ≡ Ok t → IsToken text i t
finds zero text state i t h l r = absurd (omega (arith, l))
finds (suc n) text state i t h l r = finds-end n text state i t (λ s j p q k. finds n text s j t p q k) h l r (ltb i (length text)) refl

-- every first token is one
pub first_token-IsToken : (text : List ℕ) (from : ℕ) (t : Token) → from ≤ length text → first_token text from ≡ Ok t → IsToken text from t
first_token-IsToken text from t h r = finds (length text - from + 1) text between from t h (omega arith) r
