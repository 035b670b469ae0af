use Rattle.std.proofs.Common.{◌∙◌, ap, sym, List}
use Rattle.lf.specs.Entries.{Entry}
use Rattle.tw_server.proofs.Showing.{number_within, shown_lost, shown_none, shown_some}
use Rattle.tw_signature.specs.Names.{number_of}
use Rattle.tw_server.proofs.show.show_name.Goals as goal

pub entry_line-requires : goal.entry_line-requires
entry_line-requires g c =
    number_within c.args.session.now.signature c.args.name.now c.in-Some.id.0 (sym (c.in-Some.ensures ∙ ap (λ (es : List Entry). number_of es c.args.name.now) c.signature.ensures))

pub returns-in-None-clause-reply : goal.returns-in-None-clause-reply
returns-in-None-clause-reply g c =
    shown_none c.args.session.now c.args.name.now c.as_bytes.result.now _ _ c.refuse.result (sym (c.in-None.ensures ∙ ap (λ (es : List Entry). number_of es c.args.name.now) c.signature.ensures)) c.as_bytes.ensures c.refuse.ensures.bytes

pub returns-in-Ok-clause-reply : goal.returns-in-Ok-clause-reply
returns-in-Ok-clause-reply g c =
    shown_some c.args.session.now c.args.name.now c.in-Some.id.0 c.deref.result.now _ _ c.write_both.result (sym (c.in-Some.ensures ∙ ap (λ (es : List Entry). number_of es c.args.name.now) c.signature.ensures)) (c.deref.ensures.value ∙ c.in-Ok.ensures) c.write_both.ensures.bytes

pub returns-in-Err-clause-reply : goal.returns-in-Err-clause-reply
returns-in-Err-clause-reply g c = shown_lost c.args.session.now c.args.name.now _ _ c.write_reply.result c.write_reply.ensures.bytes
