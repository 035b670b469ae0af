use Rattle.std.proofs.Common.{arith, ap, sym, ◌∙◌}
use Rattle.tw_lexer.specs.Comments.{sign_by_char}
use Rattle.tw_lexer.proofs.Finds.{sign-at, sign-end}
use Rattle.tw_lexer.proofs.comment.sign_at.Goals as goal

pub returns-then-from-text : goal.returns-then-from-text
returns-then-from-text c = sym (sign-end c.args.text.now c.args.from (omega arith))

pub returns : goal.returns
returns c = c.sign_by_char.ensures ∙ ap sign_by_char c.piece_at.ensures.found ∙ sym (sign-at c.args.text.now c.args.from (omega arith))
