-- An identifier of a text is the UTF-8 of plain characters.
use Rattle.std.proofs.Common.{◌≡◌, ◌≢◌, ℕ, zero, suc, ◌+◌, ◌-◌, ◌<◌, ◌≤◌, List, [], ◌∷◌, ◌++◌, length, drop, take, Bool, true, false, ltb, cond, Some, None, Ok, refl, sym, ap, ap₂, ◌∙◌, subst, arith, length-append, append_assoc, drop-drop}
use Rattle.std.specs.Prelude.{◌==◌, if◌then◌else◌, nat_lt, codes, slice_range, encode_utf8_all}
use Rattle.std.specs.Bool.{MatchBool}
use Rattle.std.specs.Char.{encode_utf8}
use Rattle.std.specs.Str.{bytes_eq}
use Rattle.std.specs.Cmp.Lexicographic.{bytes_decides}
use Rattle.std.specs.declared.option.Option.{Option}
use borrow.Author.Tests.{ltb-true, ltb-false}
use Rattle.tw_lexer.specs.Characters.{pieces_from, char_at, size_at}
use Rattle.tw_lexer.specs.Classes.{class_of, is_bad, is_control, is_plain, is_plain_class, run_length}
use Rattle.tw_lexer.specs.Bytes.{is_white_space}
use Rattle.unicode.specs.Binary.{is_white_space as is_unicode_white_space}
use Rattle.unicode.specs.GeneralCategory.{general_category}
use Rattle.tw_lexer.specs.Comments.{sign_of, nesting_after, is_closed}
use Rattle.tw_lexer.specs.Laws.{Begins}
use Rattle.tw_lexer.specs.Places.{place_of}
use Rattle.tw_lexer.specs.Tokens.{token, Search, between, in_line, in_comment, search_by, first_token, ends, ThroughDot}
use Rattle.tw_lexer.specs.declared.class.Class.{Class}
use Rattle.tw_lexer.specs.declared.class.Class.TheVariants.{WhiteSpace, Mark, Percent, Plain, Bad}
use Rattle.tw_lexer.specs.declared.comment.Sign.{Sign}
use Rattle.tw_lexer.specs.declared.comment.Sign.TheVariants.{LineComment, Comment, Stop, Word, Nothing}
use Rattle.tw_lexer.specs.declared.place.Place.{Place}
use Rattle.tw_lexer.specs.declared.token.Token.{Token}
use Rattle.tw_lexer.specs.declared.token.TokenKind.{TokenKind}
use Rattle.tw_lexer.specs.declared.token.TokenKind.TheVariants.{Ident, Keyword, Colon, Dot, LParen, RParen, LBrace, RBrace, LBracket, RBracket, End}
use Rattle.tw_lexer.proofs.Pieces.{piece-some, characters_are_utf8}
use Rattle.tw_lexer.proofs.Finds.{good, bad, seek, seek-end, between-by, between-none, percent-by, line-none, line-some, comment-none, comment-at, run-more, run-none, run-end}
use Rattle.tw_parse.specs.Words.{fixed_word, word_of, lexemes}
use Rattle.tw_parse.specs.declared.words.Word.TheVariants as words
use Rattle.law_reading_back.specs.Names.{EachIs, IsPlainCharacter, IsName}
use Rattle.law_reading_back.proofs.Lexing.{IsWord}
use Rattle.law_session_order.specs.Laws.{TokensAreSpelled}
use Rattle.law_session_order.specs.Words.{IsSpelled, AreSpelled}

plain_by : (k : Class) → is_plain_class k ≡ true → k ≡ Plain
plain_by Plain e = refl
plain_by WhiteSpace e = cc
plain_by (Mark kind) e = cc
plain_by Percent e = cc
plain_by Bad e = cc

take_append : (xs ys : List ℕ) → take (length xs) (xs ++ ys) ≡ xs
take_append [] ys = refl
take_append (x ∷ xs) ys = ap (λ zs. x ∷ zs) (take_append xs ys)

module _ (text : List ℕ) where
  -- a character that stands first, with others behind it
  joined : (i c : ℕ) (cs : List ℕ) → Begins (drop i text) c (size_at text i) → drop (i + size_at text i) text ≡ encode_utf8_all cs ++ drop (i + size_at text i + length (encode_utf8_all cs)) text
      → drop i text ≡ encode_utf8_all (c ∷ cs) ++ drop (i + length (encode_utf8_all (c ∷ cs))) text
  joined i c cs b e =
      let j = i + size_at text i in
      let n : j + length (encode_utf8_all cs) ≡ i + length (encode_utf8_all (c ∷ cs)) = omega (arith, b.width, length-append (encode_utf8 c) (encode_utf8_all cs)) in
      b.spelled
      ∙ ap (λ xs. encode_utf8 c ++ xs) (drop-drop (size_at text i) i text ∙ e)
      ∙ sym (append_assoc (encode_utf8 c) (encode_utf8_all cs) (drop (j + length (encode_utf8_all cs)) text))
      ∙ ap (λ m. encode_utf8_all (c ∷ cs) ++ drop m text) n

  -- the longest run of plain characters from a byte on
  record Run (i : ℕ) : Type 0 where
    pub characters : List ℕ
    pub plain : EachIs IsPlainCharacter characters
    pub width : run_length (pieces_from text i) ≡ length (encode_utf8_all characters)
    pub bytes : drop i text ≡ encode_utf8_all characters ++ drop (i + length (encode_utf8_all characters)) text

  no_run : (i : ℕ) → run_length (pieces_from text i) ≡ 0 → Run i
  no_run i e = let n : i ≡ i + 0 = omega arith in record { characters = []; plain = tt; width = e; bytes = ap (λ m. drop m text) n }

  begins : (i c : ℕ) → char_at text i ≡ Some c → Begins (drop i text) c (size_at text i)
  begins i c e = (characters_are_utf8 (drop i text) c (size_at text i)).0 (e, refl)

  longer : (i c : ℕ) → i < length text → char_at text i ≡ Some c → class_of c ≡ Plain → Run (i + size_at text i) → Run i
  longer i c h e k r =
      let j = i + size_at text i in
      let b = begins i c e in
      let w : i + run_length (pieces_from text i) ≡ j + run_length (pieces_from text j) = run-more text i j (Some c) h refl (sym e) (rw k refl) in
      record {
        characters = c ∷ r.characters;
        plain = (record { scalar = b.scalar; plain = k }, r.plain);
        width = omega (arith, w, b.width, r.width, length-append (encode_utf8 c) (encode_utf8_all r.characters));
        bytes = joined i c r.characters b r.bytes;
      }

  by_plain : (i c : ℕ) → i < length text → char_at text i ≡ Some c → Run (i + size_at text i) → (v : Bool) → is_plain (Some c) ≡ v → Run i
  by_plain i c h e r true p = longer i c h e (plain_by (class_of c) p) r
  by_plain i c h e r false p = no_run i (run-none text i (Some c) h (sym e) p)

  by_char : (i : ℕ) → i < length text → (i < length text → Run (i + size_at text i)) → (o : Option ℕ) → char_at text i ≡ o → Run i
  by_char i h r None e = no_run i (run-none text i None h (sym e) refl)
  by_char i h r (Some c) e = by_plain i c h e (r h) (is_plain (Some c)) refl

  by_end : (i : ℕ) → (i < length text → Run (i + size_at text i)) → (v : Bool) → ltb i (length text) ≡ v → Run i
  by_end i r true e = by_char i (ltb-true _ _ e) r (char_at text i) refl
  by_end i r false e = no_run i (run-end text i (ltb-false _ _ e))

  run_within : (n i : ℕ) → length text - i < n → Run i
  run_within zero i h = absurd (omega (arith, h))
  run_within (suc n) i h = by_end i (λ l. run_within n (i + size_at text i) (let some = piece-some text i l in omega (arith, h, l, some))) (ltb i (length text)) refl

  every_run : (i : ℕ) → Run i
  every_run i = run_within (length text - i + 1) i (omega arith)

  -- a plain character with the run behind it is a word
  word_here : (i c : ℕ) → char_at text i ≡ Some c → class_of c ≡ Plain → Run (i + size_at text i) → IsWord (slice_range text i (i + size_at text i + run_length (pieces_from text (i + size_at text i))))
  word_here i c e k r =
      let j = i + size_at text i in
      let b = begins i c e in
      let all = encode_utf8_all (c ∷ r.characters) in
      let n : j + run_length (pieces_from text j) - i ≡ length all = omega (arith, r.width, b.width, length-append (encode_utf8 c) (encode_utf8_all r.characters)) in
      record {
        first = c;
        others = r.characters;
        spelled = ap₂ take n (joined i c r.characters b r.bytes) ∙ take_append all (drop (i + length all) text);
        plain = (record { scalar = b.scalar; plain = k }, r.plain);
      }

-- an identifier is a word
pub record IsWordly (text : List ℕ) (t : Token) : Type 0 where
  pub word : t.kind ≡ Ident → IsWord (slice_range text t.from t.upto)

some_other : (text : List ℕ) (k : TokenKind) (i u : ℕ) (t : Token) → k ≢ Ident → good (token text k i u) ≡ Ok t → IsWordly text t
some_other text k i u t n e = let same : token text k i u ≡ t = cc in record { word = λ q. absurd (n (ap (λ (x : Token). x.kind) same ∙ q)) }

-- no character is an identifier by itself
abbrev is_own_word : Class → Bool
is_own_word (Mark Ident) = true
is_own_word _ = false

none_by : (a b d e f g h i j k l m n o : Bool) → is_own_word (cond a WhiteSpace (cond b Bad (cond d Percent (cond e (Mark Colon) (cond f (Mark Dot) (cond g (Mark LParen) (cond h (Mark RParen) (cond i (Mark LBrace) (cond j (Mark RBrace) (cond k (Mark LBracket) (cond l (Mark RBracket) (cond m Plain (cond n WhiteSpace (cond o Bad Plain)))))))))))))) ≡ false
none_by true b d e f g h i j k l m n o = refl
none_by false true d e f g h i j k l m n o = refl
none_by false false true e f g h i j k l m n o = refl
none_by false false false true f g h i j k l m n o = refl
none_by false false false false true g h i j k l m n o = refl
none_by false false false false false true h i j k l m n o = refl
none_by false false false false false false true i j k l m n o = refl
none_by false false false false false false false true j k l m n o = refl
none_by false false false false false false false false true k l m n o = refl
none_by false false false false false false false false false true l m n o = refl
none_by false false false false false false false false false false true m n o = refl
none_by false false false false false false false false false false false true n o = refl
none_by false false false false false false false false false false false false true o = refl
none_by false false false false false false false false false false false false false true = refl
none_by false false false false false false false false false false false false false false = refl

no_own_word : (c : ℕ) → is_own_word (class_of c) ≡ false
no_own_word c = none_by (is_white_space c) (is_bad c) (c == 37) (c == 58) (c == 46) (c == 40) (c == 41) (c == 123) (c == 125) (c == 91) (c == 93) (nat_lt c 128) (is_unicode_white_space c) (is_control (general_category c))

mark_kind : (kind : TokenKind) (c : ℕ) → Mark kind ≡ class_of c → kind ≢ Ident
mark_kind kind c e q = let clash : true ≡ false = ap is_own_word (sym (ap Mark q)) ∙ ap is_own_word e ∙ no_own_word c in cc

module _ (text : List ℕ) (t : Token) where
  at_end : (state : Search) (i : ℕ) → length text ≤ i → seek text state i ≡ Ok t → IsWordly text t
  at_end between i l r = some_other text End i i t (λ q. cc) (sym (seek-end text between i l) ∙ r)
  at_end in_line i l r = some_other text End i i t (λ q. cc) (sym (seek-end text in_line i l) ∙ r)
  at_end (in_comment begin nesting) i l r = let e : bad begin ≡ Ok t = sym (seek-end text (in_comment begin nesting) i l) ∙ r in cc

  at_none : (state : Search) (i : ℕ) → i < length text → char_at text i ≡ None → seek text state i ≡ Ok t → IsWordly text t
  at_none between i h f r = let e : bad (place_of text i) ≡ Ok t = sym (between-none text i h f) ∙ r in cc
  at_none in_line i h f r = let e : bad (place_of text i) ≡ Ok t = sym (line-none text i h f) ∙ r in cc
  at_none (in_comment begin nesting) i h f r =
      let v = is_closed nesting (pieces_from text i) in
      let e : bad (if v then place_of text i else begin) ≡ Ok t = sym (comment-none text begin nesting i v h f refl) ∙ r in cc

  module _ (i c : ℕ) (h : i < length text) (f : char_at text i ≡ Some c) (next : (state : Search) → seek text state (i + size_at text i) ≡ Ok t → IsWordly text t) where
    by_sign : (g : Sign) → Percent ≡ class_of c → g ≡ sign_of (pieces_from text (i + size_at text i)) → seek text between i ≡ Ok t → IsWordly text t
    by_sign LineComment k g r = next in_line (sym (percent-by text i (i + size_at text i) c LineComment h refl f k g) ∙ r)
    by_sign Comment k g r = next _ (sym (percent-by text i (i + size_at text i) c Comment h refl f k g) ∙ r)
    by_sign Stop k g r = some_other text End i i t (λ q. cc) (sym (percent-by text i (i + size_at text i) c Stop h refl f k g) ∙ r)
    by_sign Word k g r = some_other text Keyword i _ t (λ q. cc) (sym (percent-by text i (i + size_at text i) c Word h refl f k g) ∙ r)
    by_sign Nothing k g r = let e : bad (place_of text i) ≡ Ok t = sym (percent-by text i (i + size_at text i) c Nothing h refl f k g) ∙ r in cc

    by_class : (k : Class) → k ≡ class_of c → seek text between i ≡ Ok t → IsWordly text t
    by_class WhiteSpace k r = next between (sym (between-by text i (i + size_at text i) c WhiteSpace h refl f k) ∙ r)
    by_class (Mark kind) k r = some_other text kind i (i + size_at text i) t (mark_kind kind c k) (sym (between-by text i (i + size_at text i) c (Mark kind) h refl f k) ∙ r)
    by_class Percent k r = by_sign (sign_of (pieces_from text (i + size_at text i))) k refl r
    by_class Plain k r =
        let j = i + size_at text i in
        let u = j + run_length (pieces_from text j) in
        let e : good (token text Ident i u) ≡ Ok t = sym (between-by text i j c Plain h refl f k) ∙ r in
        let same : token text Ident i u ≡ t = cc in
        let w : IsWord (slice_range text i u) = word_here text i c f (sym k) (every_run text j) in
        record { word = λ q. subst (λ (x : Token). IsWord (slice_range text x.from x.upto)) same w }
    by_class Bad k r = let e : bad (place_of text i) ≡ Ok t = sym (between-by text i (i + size_at text i) c Bad h refl f k) ∙ r in cc

    at_some : (state : Search) → seek text state i ≡ Ok t → IsWordly text t
    at_some between r = by_class (class_of c) refl r
    at_some in_line r = next (if c == 10 then between else in_line) (sym (line-some text i (i + size_at text i) c h refl f) ∙ r)
    at_some (in_comment begin nesting) r =
        next (search_by begin (nesting_after nesting (Some c) (char_at text (i + size_at text i)))) (sym (comment-at text begin nesting i (i + size_at text i) c h refl f) ∙ r)

  -- what is known behind a character
  abbrev Behind : ℕ → Type 0
  Behind i = i < length text → (state : Search) → seek text state (i + size_at text i) ≡ Ok t → IsWordly text t

  finds_char : (state : Search) (i : ℕ) → Behind i → i < length text → seek text state i ≡ Ok t → (o : Option ℕ) → char_at text i ≡ o → IsWordly text t
  finds_char state i next h r None f = at_none state i h f r
  finds_char state i next h r (Some c) f = at_some i c h f (next h) state r

  finds_by : (state : Search) (i : ℕ) → Behind i → seek text state i ≡ Ok t → (v : Bool) → ltb i (length text) ≡ v → IsWordly text t
  finds_by state i next r true e = finds_char state i next (ltb-true _ _ e) r (char_at text i) refl
  finds_by state i next r false e = at_end state i (ltb-false _ _ e) r

  finds : (n : ℕ) (state : Search) (i : ℕ) → length text - i < n → seek text state i ≡ Ok t → IsWordly text t
  finds zero state i h r = absurd (omega (arith, h))
  finds (suc n) state i h r = finds_by state i (λ l s q. finds n s (i + size_at text i) (let some = piece-some text i l in omega (arith, h, l, some)) q) r (ltb i (length text)) refl

  first_is_wordly : (from : ℕ) → first_token text from ≡ Ok t → IsWordly text t
  first_is_wordly from r = finds (length text - from + 1) between from (omega arith) r

-- what an identifier is read as
name_by : (bs : List ℕ) → IsWord bs → fixed_word bs ≡ words.Name → IsName bs
name_by bs w e = record { first = w.first; others = w.others; spelled = w.spelled; plain = w.plain; free = e }

hole_by : (a b c d e : Bool) → cond a words.Forward (cond b words.Backward (cond c words.Underscore (cond d words.Equals (cond e words.Star words.Name)))) ≡ words.Underscore → c ≡ true
hole_by true b c d e h = cc
hole_by false true c d e h = cc
hole_by false false true d e h = refl
hole_by false false false true e h = cc
hole_by false false false false true h = cc
hole_by false false false false false h = cc

is_hole : (bs : List ℕ) → fixed_word bs ≡ words.Underscore → bs ≡ codes "_"
is_hole bs e = (bytes_decides bs (codes "_")).0 (hole_by (bytes_eq bs (codes "->")) (bytes_eq bs (codes "<-")) (bytes_eq bs (codes "_")) (bytes_eq bs (codes "=")) (bytes_eq bs (codes "type")) e)

spelled_by : (k : TokenKind) (bs : List ℕ) (at : Place) → (k ≡ Ident → IsWord bs) → IsSpelled (record { word = word_of k bs; bytes = bs; at = at })
spelled_by Ident bs at w = record { name = λ e. name_by bs (w refl) e; hole = λ e. is_hole bs e }
spelled_by Keyword bs at w = record { name = λ e. cc; hole = λ e. cc }
spelled_by Colon bs at w = record { name = λ e. cc; hole = λ e. cc }
spelled_by Dot bs at w = record { name = λ e. cc; hole = λ e. cc }
spelled_by LParen bs at w = record { name = λ e. cc; hole = λ e. cc }
spelled_by RParen bs at w = record { name = λ e. cc; hole = λ e. cc }
spelled_by LBrace bs at w = record { name = λ e. cc; hole = λ e. cc }
spelled_by RBrace bs at w = record { name = λ e. cc; hole = λ e. cc }
spelled_by LBracket bs at w = record { name = λ e. cc; hole = λ e. cc }
spelled_by RBracket bs at w = record { name = λ e. cc; hole = λ e. cc }
spelled_by End bs at w = record { name = λ e. cc; hole = λ e. cc }

behind : (text : List ℕ) (t : Token) (ts : List Token) (upto : ℕ) (b : Bool) → MatchBool b ((ts ≡ []) × (upto ≡ t.upto)) (ThroughDot text t.upto ts upto) → (ThroughDot text t.upto ts upto → AreSpelled (lexemes text ts)) → AreSpelled (lexemes text ts)
behind text t ts upto true (e, q) next = subst (λ us. AreSpelled (lexemes text us)) (sym e) tt
behind text t ts upto false h next = next h

pub tokens_spelled : TokensAreSpelled
tokens_spelled text from upto [] h = absurd h
tokens_spelled text from upto (t ∷ ts) (f, h) = (
  spelled_by t.kind (slice_range text t.from t.upto) t.at (first_is_wordly text t from f).word,
  behind text t ts upto (ends t.kind) h (λ k. tokens_spelled text t.upto upto ts k),
)
