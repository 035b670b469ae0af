use Rattle.std.proofs.Common.{refl, inr, [], sym}
use Rattle.tw_ports.proofs.Gained.{Gains-nil}
use Rattle.tw_server.specs.Replies.{reply_bytes}
use Rattle.tw_server.specs.Words.{said_of}
use Rattle.tw_server.specs.declared.write.Unwritten.{Unwritten}
use Rattle.tw_server.proofs.Counted.{holds_refl, writes_on}
use Rattle.tw_server.proofs.Turned.{last_step, last_step_cut, says_quit}
use Rattle.tw_server.proofs.server.last_command.Goals as goal

pub returns-then-is_quit-clause-last : goal.returns-then-is_quit-clause-last
returns-then-is_quit-clause-last g c held bytes body holds line kept =
    ([], Gains-nil _, inr (says_quit (said_of body) c.say-said.result (c.say-said.ensures.says body kept) (sym c.if-is_quit.ensures), refl, refl))

pub returns-then-is_quit-clause-files : goal.returns-then-is_quit-clause-files
returns-then-is_quit-clause-files g c = holds_refl _

pub returns-in-Err-clause-last : goal.returns-in-Err-clause-last
returns-in-Err-clause-last g c held bytes body holds line kept =
    last_step_cut {E = Unwritten} held _ _ _ _ bytes body c.in-Err.error line ((c.in-Err.ensures {u = tt}).reply held (said_of body) holds (c.say-said.ensures.says body kept))

pub returns-clause-last : goal.returns-clause-last
returns-clause-last g c held bytes body holds line kept =
    let says = c.say-said.ensures.says body kept in
    last_step {E = Unwritten} held _ _ _ _ _ bytes body (reply_bytes c.last_reply.result) c.in_default.field-0 c.write_reply.result c.next.result line (c.next.ensures (said_of body) says) c.last_reply.ensures
    ((c.in_default.ensures {u = tt}).reply held (said_of body) holds says) c.write_reply.ensures.bytes

pub returns-clause-counts : goal.returns-clause-counts
returns-clause-counts g c = writes_on _ _ _ c.write_reply.result (c.in_default.ensures {u = tt}).counts c.write_reply.ensures.counts
