-- A good text: `o : type.`, where nothing is declared.
use Rattle.std.proofs.Common.{◌≡◌, ℕ, List, [], ◌∷◌, None, Ok, codes, drop, refl, ap, ◌∙◌, lit<, lit≤, arith, inl, inr}
use Rattle.lf.specs.Entries.{declare_family, signature_of}
use Rattle.lf.specs.Syntax.{star as lf_star}
use Rattle.tw_lexer.proofs.Pieces.{pieces-at, pieces-end}
use Rattle.tw_lexer.specs.Characters.{first_piece, pieces_from}
use Rattle.tw_lexer.specs.Tokens.{first_token, find, between, ThroughDot}
use Rattle.tw_lexer.specs.declared.place.Place.{Place}
use Rattle.tw_lexer.specs.declared.token.Token.{Token}
use Rattle.tw_lexer.specs.declared.token.TokenKind.TheVariants.{Ident, Colon, Dot, End}
use Rattle.tw_parse.proofs.Once.{once}
use Rattle.tw_parse.specs.Grammar.{atom, ReadsOnce}
use Rattle.tw_parse.specs.Outlines.{outline, none, more, leaf, a_type, empty, one_more, plain, declares}
use Rattle.tw_parse.specs.Readings.{means, no_items, one_item, a_leaf, declared}
use Rattle.tw_parse.specs.Syntax.{Declaration, declare, star}
use Rattle.tw_parse.specs.Words.{Lexeme}
use Rattle.tw_parse.specs.declared.sign.Level.TheVariants as levels
use Rattle.tw_parse.specs.declared.words.Word.TheVariants as words
use Rattle.tw_recon.specs.Causes.{BodyReachesDeep}
use Rattle.law_explicit_form.specs.Completion.{Completes}
use Rattle.tw_decl.specs.Examples.{FamilyIsGood, o_entry}

abbrev text : List ℕ
text = codes "o : type."

abbrev place : ℕ → Place
place column = record { line = 1; column = column }

-- The text's tokens

from_9 : pieces_from text 9 ≡ []
from_9 = pieces-end text 9 (lit≤ tt)

from_8 : pieces_from text 8 ≡ first_piece (drop 8 text) ∷ []
unfolding first_piece
from_8 = pieces-at text 8 (lit< tt) ∙ ap (λ ps. first_piece (drop 8 text) ∷ ps) from_9

from_7 : pieces_from text 7 ≡ first_piece (drop 7 text) ∷ first_piece (drop 8 text) ∷ []
unfolding first_piece
from_7 = pieces-at text 7 (lit< tt) ∙ ap (λ ps. first_piece (drop 7 text) ∷ ps) from_8

from_6 : pieces_from text 6 ≡ first_piece (drop 6 text) ∷ first_piece (drop 7 text) ∷ first_piece (drop 8 text) ∷ []
unfolding first_piece
from_6 = pieces-at text 6 (lit< tt) ∙ ap (λ ps. first_piece (drop 6 text) ∷ ps) from_7

from_5 : pieces_from text 5 ≡ first_piece (drop 5 text) ∷ first_piece (drop 6 text) ∷ first_piece (drop 7 text) ∷ first_piece (drop 8 text) ∷ []
unfolding first_piece
from_5 = pieces-at text 5 (lit< tt) ∙ ap (λ ps. first_piece (drop 5 text) ∷ ps) from_6

from_4 : pieces_from text 4 ≡ first_piece (drop 4 text) ∷ first_piece (drop 5 text) ∷ first_piece (drop 6 text) ∷ first_piece (drop 7 text) ∷ first_piece (drop 8 text) ∷ []
unfolding first_piece
from_4 = pieces-at text 4 (lit< tt) ∙ ap (λ ps. first_piece (drop 4 text) ∷ ps) from_5

from_3 : pieces_from text 3 ≡ first_piece (drop 3 text) ∷ first_piece (drop 4 text) ∷ first_piece (drop 5 text) ∷ first_piece (drop 6 text) ∷ first_piece (drop 7 text) ∷ first_piece (drop 8 text) ∷ []
unfolding first_piece
from_3 = pieces-at text 3 (lit< tt) ∙ ap (λ ps. first_piece (drop 3 text) ∷ ps) from_4

from_2 : pieces_from text 2 ≡ first_piece (drop 2 text) ∷ first_piece (drop 3 text) ∷ first_piece (drop 4 text) ∷ first_piece (drop 5 text) ∷ first_piece (drop 6 text) ∷ first_piece (drop 7 text) ∷ first_piece (drop 8 text) ∷ []
unfolding first_piece
from_2 = pieces-at text 2 (lit< tt) ∙ ap (λ ps. first_piece (drop 2 text) ∷ ps) from_3

from_1 : pieces_from text 1 ≡ first_piece (drop 1 text) ∷ first_piece (drop 2 text) ∷ first_piece (drop 3 text) ∷ first_piece (drop 4 text) ∷ first_piece (drop 5 text) ∷ first_piece (drop 6 text) ∷ first_piece (drop 7 text) ∷ first_piece (drop 8 text) ∷ []
unfolding first_piece
from_1 = pieces-at text 1 (lit< tt) ∙ ap (λ ps. first_piece (drop 1 text) ∷ ps) from_2

from_0 : pieces_from text 0 ≡ first_piece (drop 0 text) ∷ first_piece (drop 1 text) ∷ first_piece (drop 2 text) ∷ first_piece (drop 3 text) ∷ first_piece (drop 4 text) ∷ first_piece (drop 5 text) ∷ first_piece (drop 6 text) ∷ first_piece (drop 7 text) ∷ first_piece (drop 8 text) ∷ []
unfolding first_piece
from_0 = pieces-at text 0 (lit< tt) ∙ ap (λ ps. first_piece (drop 0 text) ∷ ps) from_1

abbrev tokens : List Token
tokens =
    record { kind = Ident; from = 0; upto = 1; at = place 1 } ∷ record { kind = Colon; from = 2; upto = 3; at = place 3 } ∷ record { kind = Ident; from = 4; upto = 8; at = place 5 } ∷ record { kind = Dot; from = 8; upto = 9; at = place 9 } ∷ []

abbrev last : Token
last = record { kind = End; from = 9; upto = 9; at = place 10 }

through : ThroughDot text 0 tokens 9
unfolding first_piece
through = (ap (λ ps. find text 0 ps between) from_0, (ap (λ ps. find text 1 ps between) from_1, (ap (λ ps. find text 3 ps between) from_3, (ap (λ ps. find text 8 ps between) from_8, (refl, refl)))))

nothing_more : first_token text 9 ≡ Ok last
nothing_more = ap (λ ps. find text 9 ps between) from_9

-- Its declaration

abbrev spelled : List Lexeme
spelled =
    record { word = words.Name; bytes = codes "o"; at = place 1 } ∷ record { word = words.Colon; bytes = codes ":"; at = place 3 } ∷ record { word = words.Star; bytes = codes "type"; at = place 5 } ∷ record { word = words.Dot; bytes = codes "."; at = place 9 } ∷ []

abbrev o_is_a_type : Declaration
o_is_a_type = declare (codes "o") (place 1) star

no_keyword : words.Name ≡ words.Keyword → ⊥
no_keyword e = cc

-- It is completed, and nothing is deep

completed : Completes [] o_is_a_type o_entry
completed = record { name = refl; body = tt; implicit = refl; hint_each = refl }

star_shallow : BodyReachesDeep (signature_of []) (declare_family lf_star) → ⊥
star_shallow (inl deep) = omega (arith, deep)
star_shallow (inr deep) = omega (arith, deep)

reads_star : ReadsOnce (atom star ∷ []) star
reads_star = once (λ x. None) (atom star ∷ []) (record { term = star; level = levels.Application }) tt refl

pub good : FamilyIsGood
good =
    record {
      words = spelled;
      end = place 10;
      next = last;
      written = record { upto = 9; written = record { tokens = tokens; through = through; few = lit≤ tt; spelled = refl; behind = refl }; follower = nothing_more };
      alone = refl;
      declaration = o_is_a_type;
      reads = record {
        begins = (λ e. absurd (no_keyword e), refl);
        reads = (declare (codes "o") (place 1) (outline (place 5) (more none (leaf star))), declares refl refl (plain (one_more empty (a_type refl))) refl, declared (means (one_item no_items a_leaf) reads_star));
      };
      good = inl (record {
        form = (refl, refl);
        entry = o_entry;
        completes = completed;
        shallow = star_shallow;
      });
    }
