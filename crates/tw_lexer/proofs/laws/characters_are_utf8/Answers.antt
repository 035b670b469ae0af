use Rattle.tw_lexer.proofs.Pieces.{characters_are_utf8}
use Rattle.tw_lexer.proofs.laws.characters_are_utf8.Goals as goal

pub returns : goal.returns
returns c = characters_are_utf8
