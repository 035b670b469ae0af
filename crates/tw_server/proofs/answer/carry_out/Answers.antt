use Rattle.std.proofs.Common.{◌∙◌, refl, [], ◌++◌, codes}
use Rattle.tw_command.specs.declared.command.Command.TheVariants as commands
use Rattle.tw_server.specs.Replies.{accepted, value_of, version_line}
use Rattle.tw_server.proofs.Turned.{carried, carried_load, gathered_nil}
use Rattle.tw_server.proofs.answer.carry_out.Goals as goal

pub returns-in-ReadDecl-clause-reply : goal.returns-in-ReadDecl-clause-reply
returns-in-ReadDecl-clause-reply g c held holds =
    let a = c.answer_text.ensures.reply [] (gathered_nil _ _ c.new.ensures.lost c.new.ensures.empty) in
    carried held _ _ _ commands.ReadDecl _ _ a.0 c.answer_text.result c.in-ReadDecl.is (a.1, refl) a.2

pub returns-in-Ok-clause-reply : goal.returns-in-Ok-clause-reply
returns-in-Ok-clause-reply g c held holds =
    carried_load held _ _ _ c.in-LoadFile.name c.in-Ok.text.now _ _ c.load_file.result c.in-LoadFile.is ((c.in-Ok.ensures {u = tt}).cases.0 ∙ c.as_bytes.ensures) (c.load_file.ensures.reply held holds)

pub returns-in-Decl-clause-reply : goal.returns-in-Decl-clause-reply
returns-in-Decl-clause-reply g c held holds =
    let s = c.show_name.ensures.reply in
    carried held _ _ _ (commands.Decl c.in-Decl.name) _ _ s.0 c.show_name.result c.in-Decl.is (s.1, refl) s.2

pub returns-in-PrintSgn-clause-reply : goal.returns-in-PrintSgn-clause-reply
returns-in-PrintSgn-clause-reply g c held holds =
    let s = c.show_signature.ensures.reply in
    carried held _ _ _ commands.PrintSgn _ _ s.0 c.show_signature.result c.in-PrintSgn.is (s.1, refl) s.2

pub returns-in-PrintSubord-clause-reply : goal.returns-in-PrintSubord-clause-reply
returns-in-PrintSubord-clause-reply g c held holds =
    let s = c.show_subordination.ensures.reply in
    carried held _ _ _ commands.PrintSubord _ _ s.0 c.show_subordination.result c.in-PrintSubord.is (s.1, refl) s.2

pub returns-in-Top-clause-reply : goal.returns-in-Top-clause-reply
returns-in-Top-clause-reply g c held holds = carried held _ _ _ commands.Top _ _ [] c.write_reply.result c.in-Top.is ((refl, refl), refl) c.write_reply.ensures.bytes

pub returns-in-Reset-clause-reply : goal.returns-in-Reset-clause-reply
returns-in-Reset-clause-reply g c held holds = let r = c.write_reply-in-Reset in carried held _ _ _ commands.Reset _ _ accepted r.result c.in-Reset.is ((refl, c.reset.ensures), refl) r.ensures.bytes

pub returns-in-Set-clause-reply : goal.returns-in-Set-clause-reply
returns-in-Set-clause-reply g c held holds =
    let r = c.write_reply-in-Set in
    carried held _ _ _ (commands.Set c.in-Set.setting) _ _ accepted r.result c.in-Set.is ((refl, c.set.ensures), refl) r.ensures.bytes

pub returns-in-Get-clause-reply : goal.returns-in-Get-clause-reply
returns-in-Get-clause-reply g c held holds =
    carried held _ _ _ (commands.Get c.in-Get.parameter) _ _ ((value_of c.args.session.now c.in-Get.parameter ++ codes "\n") ++ accepted) c.show_value.result c.in-Get.is ((refl, refl), refl) c.show_value.ensures.bytes

pub returns-in-Version-clause-reply : goal.returns-in-Version-clause-reply
returns-in-Version-clause-reply g c held holds =
    let r = c.write_reply-in-Version in
    carried held _ _ _ commands.Version _ _ (version_line ++ accepted) r.result c.in-Version.is ((refl, refl), refl) r.ensures.bytes
