-- What stands in a text.
use Rattle.std.proofs.Common.{◌≡◌, ◌≢◌, ◌≤◌, ◌<◌, ℕ, ◌+◌, ◌-◌, List, [], ◌∷◌, ◌++◌, length, drop, refl, sym, ap, ◌∙◌, arith, length-drop, drop-drop, Some, None, Bool, true, false, ltb}
use Rattle.std.specs.declared.option.Option.{Option}
use borrow.Author.Tests.{ltb-true, ltb-false}
use Rattle.std.proofs.lemmas.List.{drop_all}
use Rattle.std.specs.Char.{IsScalar, encode_utf8}
use Rattle.bstr.specs.Utf8.{Decoded, decoded, good, pieces}
use Rattle.bstr.proofs.lemmas.PieceLemmas.{pieces-nil, pieces-step, piece-bounds, size-within}
use Rattle.bstr.proofs.lemmas.SoundLemmas.{SpellsChar, SpellsChar-decoded}
use Rattle.bstr.proofs.lemmas.EncodeLemmas.{decoded-encode}
use Rattle.tw_lexer.specs.Laws.{Begins, CharactersAreUtf8}
use Rattle.tw_lexer.specs.Characters.{first_piece, pieces_of, pieces_from, char_at, size_at, head_char}

pub piece-within : (text : List ℕ) (i : ℕ) → i ≤ length text → i + size_at text i ≤ length text
unfolding first_piece
piece-within text i h = let s = size-within (drop i text) in let l = length-drop i text in omega arith

pub piece-some : (text : List ℕ) (i : ℕ) → i < length text → 0 < size_at text i
unfolding first_piece
piece-some text i h =
    let l = length-drop i text in
    let b = piece-bounds (drop i text) (omega arith) in omega (arith, b.0)

-- the pieces from a byte on
pub pieces-at : (text : List ℕ) (i : ℕ) → i < length text → pieces_from text i ≡ first_piece (drop i text) ∷ pieces_from text (i + size_at text i)
unfolding first_piece pieces_of
pieces-at text i h =
    let l = length-drop i text in
    pieces-step (drop i text) (omega arith)
    ∙ ap (λ (bs : List ℕ). decoded (drop i text) ∷ pieces bs) (drop-drop (decoded (drop i text)).size i text)

pub pieces-end : (text : List ℕ) (i : ℕ) → length text ≤ i → pieces_from text i ≡ []
unfolding pieces_of
pieces-end text i h = ap pieces (drop_all i text h) ∙ pieces-nil

-- no character stands at the end
pub end-char : (text : List ℕ) (i : ℕ) → length text ≤ i → char_at text i ≡ None
unfolding first_piece
end-char text i h = ap (λ (bs : List ℕ). (decoded bs).char) (drop_all i text h)

-- the bytes of the character that stands somewhere
pub record Spells (text : List ℕ) (i c size : ℕ) : Type 0 where
  pub bytes : drop i text ≡ encode_utf8 c ++ drop size (drop i text)
  pub width : length (encode_utf8 c) ≡ size

pub char-spells : (text : List ℕ) (i c : ℕ) → char_at text i ≡ Some c → Spells text i c (size_at text i)
unfolding first_piece
char-spells text i c e = let s = SpellsChar-decoded (drop i text) c e in record { bytes = s.bytes; width = s.width }

pub char-inside : (text : List ℕ) (i c : ℕ) → char_at text i ≡ Some c → i < length text
char-inside text i c e = by-test (ltb i (length text)) refl
  where
    by-test : (v : Bool) → ltb i (length text) ≡ v → i < length text
    by-test true q = ltb-true _ _ q
    by-test false q = let k = end-char text i (ltb-false _ _ q) in cc

-- what stands first is the character whose UTF-8 the bytes begin with
found-Begins : (bytes : List ℕ) (c size : ℕ) → (first_piece bytes).char ≡ Some c → (first_piece bytes).size ≡ size → Begins bytes c size
unfolding first_piece
found-Begins bytes c size e q =
    let s = SpellsChar-decoded bytes c e in
    record { scalar = s.scalar; spelled = s.bytes ∙ ap (λ (n : ℕ). encode_utf8 c ++ drop n bytes) q; width = sym (s.width ∙ q) }

Begins-found : (bytes : List ℕ) (c size : ℕ) → Begins bytes c size → ((first_piece bytes).char ≡ Some c) × ((first_piece bytes).size ≡ size)
unfolding first_piece
Begins-found bytes c size b =
    let e : decoded bytes ≡ good c (length (encode_utf8 c)) = ap decoded b.spelled ∙ decoded-encode c (drop size bytes) b.scalar in
    (ap (λ (p : Decoded). p.char) e, ap (λ (p : Decoded). p.size) e ∙ sym b.width)

pub characters_are_utf8 : CharactersAreUtf8
characters_are_utf8 bytes c size = (λ h. found-Begins bytes c size h.0 h.1, Begins-found bytes c size)
