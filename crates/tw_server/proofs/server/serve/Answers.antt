use Rattle.std.proofs.Common.{map}
use Rattle.std.specs.Prelude.{string_bytes}
use Rattle.tw_server.proofs.Served.{bad_words, usage_cut}
use Rattle.tw_server.proofs.server.serve.Goals as goal

pub returns-in-Err-clause-serves : goal.returns-in-Err-clause-serves
returns-in-Err-clause-serves g c = usage_cut _ (map string_bytes c.args.words.now) _ _ _ _ (bad_words (map string_bytes c.args.words.now) c.in-Err-Bad.field-0 c.in-Err-Bad.field-0-is c.in-Err-Bad.ensures) c.is_sound.ensures c.in-Err.ensures.bytes
