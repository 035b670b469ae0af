use Rattle.std.proofs.Common.{◌≡◌, refl, ◌++◌, codes}
use Rattle.tw_command.specs.Meaning.{bad_parameter, unknown}
use Rattle.tw_server.specs.Replies.{no_memory, refused}
use Rattle.tw_server.specs.Words.{meant, too_long}
use Rattle.tw_server.specs.declared.command.Said.TheVariants as heard
use Rattle.tw_server.proofs.Turned.{answered, answered_as, heard_as, wants_memory}
use Rattle.tw_server.proofs.answer.answer.Goals as goal

pub returns-in-TooLong-clause-reply : goal.returns-in-TooLong-clause-reply
returns-in-TooLong-clause-reply g c held line holds says =
    let e : c.args.said.now ≡ heard.TooLong = cc in
    answered held _ _ line too_long _ _ (codes "C5 LongLine\n" ++ refused) c.write_reply.result (heard_as line _ _ e says) (refl, refl, refl) c.write_reply.ensures.bytes

pub returns-in-Unknown-clause-reply : goal.returns-in-Unknown-clause-reply
returns-in-Unknown-clause-reply g c held line holds says =
    let e : c.args.said.now ≡ heard.Unknown = cc in
    let r = c.write_reply-in-Unknown in
    answered held _ _ line (meant unknown) _ _ (codes "C1 UnknownCommand\n" ++ refused) r.result (heard_as line _ _ e says) ((refl, refl), refl) r.ensures.bytes

pub returns-in-BadParameter-clause-reply : goal.returns-in-BadParameter-clause-reply
returns-in-BadParameter-clause-reply g c held line holds says =
    let e : c.args.said.now ≡ heard.BadParameter = cc in
    let r = c.write_reply-in-BadParameter in
    answered held _ _ line (meant bad_parameter) _ _ (codes "C6 BadParameter\n" ++ refused) r.result (heard_as line _ _ e says) ((refl, refl), refl) r.ensures.bytes

pub returns-in-NoMemory-clause-reply : goal.returns-in-NoMemory-clause-reply
returns-in-NoMemory-clause-reply g c held line holds says =
    let e : c.args.said.now ≡ heard.NoMemory = cc in
    let s = heard_as line _ heard.NoMemory e says in
    let r = c.write_reply-in-NoMemory in
    answered held _ _ line (meant s.0) _ _ (no_memory ++ refused) r.result s.2 (wants_memory held _ s.0 s.1) r.ensures.bytes

pub returns-in-Command-clause-reply : goal.returns-in-Command-clause-reply
returns-in-Command-clause-reply g c held line holds says =
    let e : c.args.said.now ≡ heard.Command c.in-Command.command = cc in
    answered_as held _ _ line _ _ _ c.carry_out.result (heard_as line _ _ e says) (c.carry_out.ensures.reply held holds)
