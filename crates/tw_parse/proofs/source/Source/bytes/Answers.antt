use Rattle.std.proofs.Common.{◌≡◌, sym, ap, Some, slice_get, arith}
use Rattle.tw_parse.specs.Words.{first_bytes}
use Rattle.std.proofs.lemmas.Grind.{common_steps}
use Rattle.std.proofs.lemmas.Option.{slice_get-get_or}
use Rattle.tw_parse.proofs.Lexemes.{lexeme_at}
use Rattle.tw_parse.proofs.source.Source.bytes.Goals as goal

pub returns-in-Some : goal.returns-in-Some
returns-in-Some c =
    let some : slice_get c.args.self.now.tokens.now c.args.number ≡ Some c.in-Some.token.now = grind (arith, common_steps, slice_get-get_or, c.in-Some.ensures.lookup) in
    sym (ap first_bytes (lexeme_at c.args.self.now.text.now c.args.self.now.tokens.now c.args.number c.in-Some.token.now some))
