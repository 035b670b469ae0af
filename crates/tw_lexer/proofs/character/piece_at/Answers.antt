use Rattle.std.proofs.Common.{◌≡◌, ℕ, ◌-◌, List, length, take, drop, take_all, length-drop, ap, ◌∙◌, arith}
use Rattle.bstr.specs.Utf8.{decoded}
use Rattle.tw_lexer.specs.Characters.{first_piece}
use Rattle.tw_lexer.proofs.Pieces.{piece-within, piece-some}
use Rattle.tw_lexer.proofs.character.piece_at.Goals as goal

-- the bytes from one on are all that are left
rest : (text : List ℕ) (from : ℕ) → take (length text - from) (drop from text) ≡ drop from text
rest text from = take_all (length text - from) (drop from text) (omega (arith, length-drop from text))

pub returns-clause-found : goal.returns-clause-found
unfolding first_piece
returns-clause-found c = c.decode.ensures.char ∙ ap (λ (bs : List ℕ). (decoded bs).char) (rest c.args.text.now c.args.from)

pub returns-clause-size : goal.returns-clause-size
unfolding first_piece
returns-clause-size c = c.decode.ensures.size ∙ ap (λ (bs : List ℕ). (decoded bs).size) (rest c.args.text.now c.args.from)

pub returns-clause-within : goal.returns-clause-within
returns-clause-within c = omega (arith, returns-clause-size c, piece-within c.args.text.now c.args.from c.requires)

pub returns-clause-some : goal.returns-clause-some
returns-clause-some c = λ h. omega (arith, returns-clause-size c, piece-some c.args.text.now c.args.from h)
