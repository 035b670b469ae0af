-- Pieces with a space between words are lexed to their tokens.
use Rattle.std.proofs.Common.{◌≡◌, ℕ, suc, ◌+◌, ◌<◌, List, [], ◌∷◌, ◌++◌, length, drop, take, Bool, true, false, Some, Ok, refl, sym, ap, ap₂, ◌∙◌, arith, ◌⊎◌, inl, inr, length-append, length-drop, append_assoc, drop-drop}
use Rattle.std.specs.Prelude.{codes, slice_range, cond, nat_lt, encode_utf8_all}
use Rattle.std.specs.Bool.{MatchBool}
use Rattle.std.specs.Char.{IsScalar, encode_utf8, len_utf8}
use Rattle.std.proofs.lemmas.Str.{length-encode}
use Rattle.std.specs.Str.{bytes_eq}
use Rattle.std.specs.Cmp.Lexicographic.{bytes_decides}
use Rattle.tw_lexer.specs.Characters.{pieces_from, char_at, size_at}
use Rattle.tw_lexer.specs.Classes.{class_of, is_plain, run_length}
use Rattle.tw_lexer.specs.Comments.{sign_by_char}
use Rattle.tw_lexer.specs.Laws.{Begins}
use Rattle.tw_lexer.specs.Tokens as tokens
use Rattle.tw_lexer.specs.Tokens.{between, first_token, ends, ThroughDot}
use Rattle.tw_lexer.specs.declared.class.Class.{Class}
use Rattle.tw_lexer.specs.declared.class.Class.TheVariants.{WhiteSpace, Mark, Plain}
use Rattle.tw_lexer.specs.declared.comment.Sign.TheVariants as signs
use Rattle.tw_lexer.specs.declared.token.Token.{Token}
use Rattle.tw_lexer.specs.declared.token.TokenKind.{TokenKind}
use Rattle.tw_lexer.specs.declared.token.TokenKind.TheVariants.{Ident, Keyword, Colon, Dot, LParen, RParen, LBrace, RBrace, LBracket, RBracket}
use Rattle.tw_lexer.proofs.Pieces.{characters_are_utf8}
use Rattle.tw_lexer.proofs.Finds.{seek, between-by, percent-by, run-more, run-none, sign-at}
use Rattle.tw_parse.specs.Words.{fixed_word, word_of, lexeme, lexemes}
use Rattle.tw_print.specs.Pieces.{Piece, token, space, render}
use Rattle.law_reading_back.specs.Names.{EachIs, IsPlainCharacter}
use Rattle.law_reading_back.specs.Tokens.{token_word, AreTokens}

-- a word: the UTF-8 of plain characters
pub record IsWord (t : List ℕ) : Type 0 where
  pub first : ℕ
  pub others : List ℕ
  pub spelled : t ≡ encode_utf8_all (first ∷ others)
  pub plain : EachIs IsPlainCharacter (first ∷ others)

-- the tokens of one byte, without the dot
pub data Sign : Type 0 where
  colon : Sign
  open_paren : Sign
  close_paren : Sign
  open_brace : Sign
  close_brace : Sign
  open_bracket : Sign
  close_bracket : Sign

abbrev pub byte_of : Sign → ℕ
byte_of colon = 58
byte_of open_paren = 40
byte_of close_paren = 41
byte_of open_brace = 123
byte_of close_brace = 125
byte_of open_bracket = 91
byte_of close_bracket = 93

abbrev kind_of : Sign → TokenKind
kind_of colon = Colon
kind_of open_paren = LParen
kind_of close_paren = RParen
kind_of open_brace = LBrace
kind_of close_brace = RBrace
kind_of open_bracket = LBracket
kind_of close_bracket = RBracket

-- A space or a mark stands between two words. The first argument says whether a word stands just before.
abbrev pub IsSpaced : Bool → List Piece → Type 0
IsSpaced b [] = Unit {0}
IsSpaced b (space ∷ ps) = IsSpaced false ps
IsSpaced b (token t ∷ ps) = ((m : Sign) × (t ≡ byte_of m ∷ []) × IsSpaced false ps) ⊎ (IsWord t × (b ≡ false) × IsSpaced true ps)

-- drops
drop_append : (xs ys : List ℕ) → drop (length xs) (xs ++ ys) ≡ ys
drop_append [] ys = refl
drop_append (x ∷ xs) ys = drop_append xs ys

module _ (text : List ℕ) where
  pub drop_on : (i : ℕ) (xs ys : List ℕ) → drop i text ≡ xs ++ ys → drop (i + length xs) text ≡ ys
  drop_on i xs ys e = ap (λ n. drop n text) (omega arith) ∙ sym (drop-drop (length xs) i text) ∙ ap (drop (length xs)) e ∙ drop_append xs ys

  inside : (i : ℕ) (x : ℕ) (ys : List ℕ) → drop i text ≡ x ∷ ys → i < length text
  inside i x ys e = let n : length (drop i text) ≡ suc (length ys) = ap length e in omega (arith, n, length-drop i text)

  -- a character that stands in the text
  record Stands (i c : ℕ) (rest : List ℕ) : Type 0 where
    pub within : i < length text
    pub char : char_at text i ≡ Some c
    pub size : size_at text i ≡ length (encode_utf8 c)
    pub behind : drop (i + length (encode_utf8 c)) text ≡ rest

  begins : (i c : ℕ) (rest : List ℕ) → IsScalar c → drop i text ≡ encode_utf8 c ++ rest → Begins (drop i text) c (length (encode_utf8 c))
  begins i c rest s e = record { scalar = s; spelled = e ∙ ap (λ ys. encode_utf8 c ++ ys) (sym (ap (drop (length (encode_utf8 c))) e ∙ drop_append (encode_utf8 c) rest)); width = refl }

  size_some : (i c : ℕ) (rest : List ℕ) → drop i text ≡ encode_utf8 c ++ rest → 0 < length (encode_utf8 c) → i < length text
  size_some i c rest e h =
      let n : length (drop i text) ≡ length (encode_utf8 c ++ rest) = ap length e in
      omega (arith, n, h, length-drop i text, length-append (encode_utf8 c) rest)

len_some : (a b d : Bool) → 0 < cond a 1 (cond b 2 (cond d 3 4))
len_some true b d = omega arith
len_some false true d = omega arith
len_some false false true = omega arith
len_some false false false = omega arith

pub encode_some : (c : ℕ) → 0 < length (encode_utf8 c)
encode_some c = let h : 0 < len_utf8 c = len_some (nat_lt c 0x80) (nat_lt c 0x800) (nat_lt c 0x1_0000) in omega (arith, h, length-encode c)

module _ (text : List ℕ) where
  stands : (i c : ℕ) (rest : List ℕ) → IsScalar c → drop i text ≡ encode_utf8 c ++ rest → Stands text i c rest
  stands i c rest s e =
      let b = (characters_are_utf8 (drop i text) c (length (encode_utf8 c))).1 (begins text i c rest s e) in
      record { within = size_some text i c rest e (encode_some c); char = b.0; size = b.1; behind = drop_on text i (encode_utf8 c) rest e }

  -- a character of a class that stands between tokens
  by_class : (i c : ℕ) (rest : List ℕ) (k : Class) → Stands text i c rest → k ≡ class_of c
      → first_token text i ≡ tokens.token_by text i (i + length (encode_utf8 c)) (pieces_from text (i + length (encode_utf8 c))) (λ s. seek text s (i + length (encode_utf8 c))) k
  by_class i c rest k h q = between-by text i (i + length (encode_utf8 c)) c k h.within (ap (λ n. i + n) (sym h.size)) h.char q

  -- a byte of ASCII is its own character
  one_byte : (i b : ℕ) (rest : List ℕ) → IsScalar b → encode_utf8 b ≡ b ∷ [] → drop i text ≡ b ∷ rest → Stands text i b rest
  one_byte i b rest s own e = stands i b rest s (e ∙ ap (λ xs. xs ++ rest) (sym own))

  -- a run of plain characters ends before what isn't plain
  run_is : (cs : List ℕ) (i b : ℕ) (rest : List ℕ) → EachIs IsPlainCharacter cs → IsScalar b → encode_utf8 b ≡ b ∷ [] → is_plain (Some b) ≡ false → drop i text ≡ encode_utf8_all cs ++ (b ∷ rest)
      → run_length (pieces_from text i) ≡ length (encode_utf8_all cs)
  run_is [] i b rest all s own stop e =
      let h = one_byte i b rest s own e in
      run-none text i (Some b) h.within (sym h.char) stop
  run_is (c ∷ cs) i b rest (p, all) s own stop e =
      let f : drop i text ≡ encode_utf8 c ++ (encode_utf8_all cs ++ (b ∷ rest)) = e ∙ append_assoc (encode_utf8 c) (encode_utf8_all cs) (b ∷ rest) in
      let h = stands i c (encode_utf8_all cs ++ (b ∷ rest)) p.scalar f in
      let j = i + length (encode_utf8 c) in
      let more = run_more_at i j c h p.plain in
      let r = run_is cs j b rest all s own stop h.behind in
      omega (arith, more, r, length-append (encode_utf8 c) (encode_utf8_all cs))
    where
      run_more_at : (i j c : ℕ) → {rest : List ℕ} → Stands text i c rest → class_of c ≡ Plain → i + run_length (pieces_from text i) ≡ (i + length (encode_utf8 c)) + run_length (pieces_from text (i + length (encode_utf8 c)))
      run_more_at i j c h q = run-more text i (i + length (encode_utf8 c)) (Some c) h.within (ap (λ n. i + n) (sym h.size)) (sym h.char) (rw q refl)

  -- the first token where a word stands
  word_at : (i : ℕ) (t : List ℕ) (b : ℕ) (rest : List ℕ) → IsWord t → IsScalar b → encode_utf8 b ≡ b ∷ [] → is_plain (Some b) ≡ false → drop i text ≡ t ++ (b ∷ rest)
      → first_token text i ≡ Ok (tokens.token text Ident i (i + length t))
  word_at i t b rest w s own stop e =
      let f : drop i text ≡ encode_utf8 w.first ++ (encode_utf8_all w.others ++ (b ∷ rest)) =
      e ∙ ap (λ xs. xs ++ (b ∷ rest)) w.spelled ∙ append_assoc (encode_utf8 w.first) (encode_utf8_all w.others) (b ∷ rest) in
      let h = stands i w.first (encode_utf8_all w.others ++ (b ∷ rest)) w.plain.0.scalar f in
      let r = run_is w.others (i + length (encode_utf8 w.first)) b rest w.plain.1 s own stop h.behind in
      let n : (i + length (encode_utf8 w.first)) + run_length (pieces_from text (i + length (encode_utf8 w.first))) ≡ i + length t =
      omega (arith, r, ap length w.spelled, length-append (encode_utf8 w.first) (encode_utf8_all w.others)) in
      by_class i w.first (encode_utf8_all w.others ++ (b ∷ rest)) Plain h (sym w.plain.0.plain) ∙ ap (λ u. Ok (tokens.token text Ident i u)) n

  -- the first token where a mark stands, or a dot
  mark_at : (i b : ℕ) (k : TokenKind) (rest : List ℕ) → IsScalar b → encode_utf8 b ≡ b ∷ [] → Mark k ≡ class_of b → drop i text ≡ b ∷ rest → first_token text i ≡ Ok (tokens.token text k i (i + 1))
  mark_at i b k rest s own q e =
      by_class i b rest (Mark k) (one_byte i b rest s own e) q ∙ ap (λ n. Ok (tokens.token text k i (i + n))) (ap length own)

  -- a space is passed
  space_at : (i : ℕ) (rest : List ℕ) → encode_utf8 32 ≡ 32 ∷ [] → drop i text ≡ 32 ∷ rest → first_token text i ≡ first_token text (i + 1)
  space_at i rest own e = by_class i 32 rest WhiteSpace (one_byte i 32 rest refl own e) refl ∙ ap (λ n. first_token text (i + n)) (ap length own)

  -- and so is a line feed
  line_feed_at : (i : ℕ) (rest : List ℕ) → encode_utf8 10 ≡ 10 ∷ [] → drop i text ≡ 10 ∷ rest → first_token text i ≡ first_token text (i + 1)
  line_feed_at i rest own e = by_class i 10 rest WhiteSpace (one_byte i 10 rest refl own e) refl ∙ ap (λ n. first_token text (i + n)) (ap length own)

-- the bytes of marks, of a space and of a dot are characters that end a word
sign_own : (m : Sign) → encode_utf8 (byte_of m) ≡ byte_of m ∷ []
unfolding encode_utf8
sign_own colon = refl
sign_own open_paren = refl
sign_own close_paren = refl
sign_own open_brace = refl
sign_own close_brace = refl
sign_own open_bracket = refl
sign_own close_bracket = refl

dot_own : encode_utf8 46 ≡ 46 ∷ []
unfolding encode_utf8
dot_own = refl

space_own : encode_utf8 32 ≡ 32 ∷ []
unfolding encode_utf8
space_own = refl

line_feed_own : encode_utf8 10 ≡ 10 ∷ []
unfolding encode_utf8
line_feed_own = refl

pub line_feed_passed : (text : List ℕ) (i : ℕ) (rest : List ℕ) → drop i text ≡ 10 ∷ rest → first_token text i ≡ first_token text (i + 1)
line_feed_passed text i rest e = line_feed_at text i rest line_feed_own e

sign_scalar : (m : Sign) → IsScalar (byte_of m)
sign_scalar colon = refl
sign_scalar open_paren = refl
sign_scalar close_paren = refl
sign_scalar open_brace = refl
sign_scalar close_brace = refl
sign_scalar open_bracket = refl
sign_scalar close_bracket = refl

sign_class : (m : Sign) → Mark (kind_of m) ≡ class_of (byte_of m)
sign_class colon = refl
sign_class open_paren = refl
sign_class close_paren = refl
sign_class open_brace = refl
sign_class close_brace = refl
sign_class open_bracket = refl
sign_class close_bracket = refl

sign_ends : (m : Sign) → ends (kind_of m) ≡ false
sign_ends colon = refl
sign_ends open_paren = refl
sign_ends close_paren = refl
sign_ends open_brace = refl
sign_ends close_brace = refl
sign_ends open_bracket = refl
sign_ends close_bracket = refl

sign_word : (m : Sign) → word_of (kind_of m) (byte_of m ∷ []) ≡ token_word (byte_of m ∷ [])
sign_word colon = refl
sign_word open_paren = refl
sign_word close_paren = refl
sign_word open_brace = refl
sign_word close_brace = refl
sign_word open_bracket = refl
sign_word close_bracket = refl

-- a byte that ends a word
pub record IsStop (b : ℕ) : Type 0 where
  pub scalar : IsScalar b
  pub own : encode_utf8 b ≡ b ∷ []
  pub stop : is_plain (Some b) ≡ false

sign_stops : (m : Sign) → IsStop (byte_of m)
sign_stops m = record { scalar = sign_scalar m; own = sign_own m; stop = stop m }
  where
    stop : (m : Sign) → is_plain (Some (byte_of m)) ≡ false
    stop colon = refl
    stop open_paren = refl
    stop close_paren = refl
    stop open_brace = refl
    stop close_brace = refl
    stop open_bracket = refl
    stop close_bracket = refl

dot_stops : IsStop 46
dot_stops = record { scalar = refl; own = dot_own; stop = refl }

space_stops : IsStop 32
space_stops = record { scalar = refl; own = space_own; stop = refl }

-- behind a word such a byte stands
pub record Stopped (ps : List Piece) (after : List ℕ) : Type 0 where
  pub byte : ℕ
  pub rest : List ℕ
  pub stops : IsStop byte
  pub is : render ps ++ (46 ∷ after) ≡ byte ∷ rest

stopped : (ps : List Piece) (after : List ℕ) → IsSpaced true ps → Stopped ps after
stopped [] after h = record { byte = 46; rest = after; stops = dot_stops; is = refl }
stopped (space ∷ ps) after h = record { byte = 32; rest = render ps ++ (46 ∷ after); stops = space_stops; is = refl }
stopped (token t ∷ ps) after (inl (m, e, h)) = record { byte = byte_of m; rest = render ps ++ (46 ∷ after); stops = sign_stops m; is = ap (λ x. (x ++ render ps) ++ (46 ∷ after)) e }
stopped (token t ∷ ps) after (inr (w, e, h)) = absurd cc

-- the keyword of an abbreviation
percent_stops : IsStop 37
unfolding encode_utf8
percent_stops = record { scalar = refl; own = refl; stop = refl }

letters_plain : EachIs IsPlainCharacter (codes "abbrev")
letters_plain = (record { scalar = refl; plain = refl }, (record { scalar = refl; plain = refl }, (record { scalar = refl; plain = refl }, (record { scalar = refl; plain = refl }, (record { scalar = refl; plain = refl }, (record { scalar = refl; plain = refl }, tt))))))

letters_own : encode_utf8_all (codes "abbrev") ≡ codes "abbrev"
unfolding encode_utf8
letters_own = refl

letter_own : encode_utf8 97 ≡ 97 ∷ []
unfolding encode_utf8
letter_own = refl

module _ (text : List ℕ) where
  -- the first token where it stands, before a space
  keyword_at : (i : ℕ) (rest : List ℕ) → drop i text ≡ codes "%abbrev" ++ (32 ∷ rest) → first_token text i ≡ Ok (tokens.token text Keyword i (i + 7))
  keyword_at i rest e =
      let h = one_byte text i 37 (codes "abbrev" ++ (32 ∷ rest)) percent_stops.scalar percent_stops.own e in
      let j = i + length (encode_utf8 37) in
      let a = one_byte text j 97 (codes "bbrev" ++ (32 ∷ rest)) refl letter_own h.behind in
      let r : run_length (pieces_from text j) ≡ length (encode_utf8_all (codes "abbrev")) =
      run_is text (codes "abbrev") j 32 rest letters_plain refl space_own refl (h.behind ∙ ap (λ xs. xs ++ (32 ∷ rest)) (sym letters_own)) in
      let one : length (encode_utf8 37) ≡ 1 = ap length percent_stops.own in
      let six : length (encode_utf8_all (codes "abbrev")) ≡ 6 = ap length letters_own in
      percent-by text i j 37 signs.Word h.within (ap (λ n. i + n) (sym h.size)) h.char refl (sym (sign-at text j a.within ∙ ap sign_by_char a.char))
      ∙ ap (λ u. Ok (tokens.token text Keyword i u)) (omega (arith, r, one, six))

-- a word is no mark, and no such keyword
word_differs : (t : List ℕ) (b : ℕ) (rest : List ℕ) → IsWord t → IsStop b → t ≡ b ∷ rest → ⊥
word_differs t b rest w s e =
    let h = stands t 0 w.first (encode_utf8_all w.others) w.plain.0.scalar w.spelled in
    let k = one_byte (b ∷ rest) 0 b rest s.scalar s.own refl in
    let same : Some w.first ≡ Some b = sym h.char ∙ ap (λ x. char_at x 0) e ∙ k.char in
    let number : w.first ≡ b = cc in
    let q : is_plain (Some b) ≡ true = ap (λ x. is_plain (Some x)) (sym number) ∙ rw w.plain.0.plain refl in
    let clash : true ≡ false = sym q ∙ s.stop in cc

differs : (t : List ℕ) (b : ℕ) (rest : List ℕ) → IsWord t → IsStop b → bytes_eq t (b ∷ rest) ≡ false
differs t b rest w s = unlike (bytes_eq t (b ∷ rest)) (λ e. word_differs t b rest w s ((bytes_decides t (b ∷ rest)).0 e))
  where
    unlike : (v : Bool) → (v ≡ true → ⊥) → v ≡ false
    unlike true h = absurd (h refl)
    unlike false h = refl

pub word_is_fixed : (t : List ℕ) → IsWord t → token_word t ≡ fixed_word t
word_is_fixed t w =
    rw (
      differs t 40 [] w (sign_stops open_paren),
      differs t 41 [] w (sign_stops close_paren),
      differs t 123 [] w (sign_stops open_brace),
      differs t 125 [] w (sign_stops close_brace),
      differs t 91 [] w (sign_stops open_bracket),
      differs t 93 [] w (sign_stops close_bracket),
      differs t 58 [] w (sign_stops colon),
      differs t 46 [] w dot_stops,
      differs t 37 (codes "abbrev") w percent_stops,
    ) refl

take_append : (xs ys : List ℕ) → take (length xs) (xs ++ ys) ≡ xs
take_append [] ys = refl
take_append (x ∷ xs) ys = ap (λ zs. x ∷ zs) (take_append xs ys)

module _ (text : List ℕ) where
  -- the bytes of a token
  cut : (i : ℕ) (t rest : List ℕ) → drop i text ≡ t ++ rest → slice_range text i (i + length t) ≡ t
  cut i t rest e = ap₂ take (omega arith) e ∙ take_append t rest

  -- the pieces and a dot behind them are lexed from a byte on
  pub record Lexed (from : ℕ) (ps : List Piece) (upto : ℕ) : Type 0 where
    pub tokens : List Token
    pub through : ThroughDot text from tokens upto
    pub are : AreTokens (ps ++ token (codes ".") ∷ []) (lexemes text tokens)

  pub passed : (i j : ℕ) (ts : List Token) (upto : ℕ) → first_token text i ≡ first_token text j → ThroughDot text j ts upto → ThroughDot text i ts upto
  passed i j [] upto e h = absurd h
  passed i j (t ∷ ts) upto e (f, h) = (e ∙ f, h)

  one_more : (from next : ℕ) (k : TokenKind) (t : List ℕ) (ps : List Piece) (upto : ℕ) → first_token text from ≡ Ok (tokens.token text k from next) → ends k ≡ false → word_of k t ≡ token_word t → slice_range text from next ≡ t
      → Lexed next ps upto → Lexed from (token t ∷ ps) upto
  one_more from next k t ps upto f e w c h = record {
    tokens = tokens.token text k from next ∷ h.tokens;
    through = (f, not_last _ _ (ends k) e h.through);
    are = (lexeme text (tokens.token text k from next), lexemes text h.tokens, refl, ap (word_of k) c ∙ w, c, h.are);
  }
    where
      not_last : (P Q : Type 0) (b : Bool) → b ≡ false → Q → MatchBool b P Q
      not_last P Q true q x = absurd cc
      not_last P Q false q x = x

  pub lexed : (ps : List Piece) (b : Bool) (from upto : ℕ) (after : List ℕ) → IsSpaced b ps → drop from text ≡ render ps ++ (46 ∷ after) → upto ≡ from + (length (render ps) + 1) → Lexed from ps upto
  lexed [] b from upto after s e u = record {
    tokens = tokens.token text Dot from (from + 1) ∷ [];
    through = (mark_at text from 46 Dot after refl dot_own refl e, (refl, omega (arith, u)));
    are = (lexeme text (tokens.token text Dot from (from + 1)), [], refl, refl, cut from (46 ∷ []) after e, refl);
  }
  lexed (space ∷ ps) b from upto after s e u =
      let h = lexed ps false (from + 1) upto after s (drop_on text from (32 ∷ []) (render ps ++ (46 ∷ after)) e) (omega (arith, u)) in
      record { tokens = h.tokens; through = passed from (from + 1) h.tokens upto (space_at text from (render ps ++ (46 ∷ after)) space_own e) h.through; are = h.are }
  lexed (token t ∷ ps) b from upto after (inl (m, q, s)) e u =
      let f : drop from text ≡ byte_of m ∷ (render ps ++ (46 ∷ after)) = e ∙ ap (λ x. (x ++ render ps) ++ (46 ∷ after)) q in
      let h = lexed ps false (from + 1) upto after s (drop_on text from (byte_of m ∷ []) (render ps ++ (46 ∷ after)) f) (omega (arith, u, length-append t (render ps), ap length q)) in
      one_more from (from + 1) (kind_of m) t ps upto (mark_at text from (byte_of m) (kind_of m) (render ps ++ (46 ∷ after)) (sign_scalar m) (sign_own m) (sign_class m) f) (sign_ends m)
      (ap (word_of (kind_of m)) q ∙ sign_word m ∙ ap token_word (sym q)) (cut from (byte_of m ∷ []) (render ps ++ (46 ∷ after)) f ∙ sym q) h
  lexed (token t ∷ ps) b from upto after (inr (w, q, s)) e u =
      let f : drop from text ≡ t ++ (render ps ++ (46 ∷ after)) = e ∙ append_assoc t (render ps) (46 ∷ after) in
      let g = stopped ps after s in
      let h = lexed ps true (from + length t) upto after s (drop_on text from t (render ps ++ (46 ∷ after)) f) (omega (arith, u, length-append t (render ps))) in
      one_more from (from + length t) Ident t ps upto (word_at text from t g.byte g.rest w g.stops.scalar g.stops.own g.stops.stop (f ∙ ap (λ x. t ++ x) g.is)) refl
      (sym (word_is_fixed t w)) (cut from t (render ps ++ (46 ∷ after)) f) h

  -- the same behind the keyword of an abbreviation
  pub keyword_lexed : (ps : List Piece) (from upto : ℕ) (after : List ℕ) → IsSpaced false ps → drop from text ≡ render (token (codes "%abbrev") ∷ space ∷ ps) ++ (46 ∷ after) → upto ≡ from + (length (render (token (codes "%abbrev") ∷ space ∷ ps)) + 1)
      → Lexed from (token (codes "%abbrev") ∷ space ∷ ps) upto
  keyword_lexed ps from upto after s e u =
      let h = lexed (space ∷ ps) false (from + 7) upto after s (drop_on text from (codes "%abbrev") (32 ∷ (render ps ++ (46 ∷ after))) e) (omega (arith, u)) in
      one_more from (from + 7) Keyword (codes "%abbrev") (space ∷ ps) upto (keyword_at text from (render ps ++ (46 ∷ after)) e) refl refl (cut from (codes "%abbrev") (32 ∷ (render ps ++ (46 ∷ after))) e) h
