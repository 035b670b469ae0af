use Rattle.std.proofs.Common.{refl}
use Rattle.tw_server.specs.Phases.{a_command, a_query}
use Rattle.tw_server.specs.declared.phase.Phase.TheVariants as kept
use Rattle.tw_server.specs.declared.query.Choice.TheVariants as chosen
use Rattle.tw_server.specs.declared.reply.Reply.TheVariants as replies
use Rattle.tw_server.proofs.Rounded.{chosen_so}
use Rattle.tw_server.proofs.query.answer_choice.Goals as goal

pub returns-in-GoOn : goal.returns-in-GoOn
returns-in-GoOn c w body h k = chosen_so c.args.session.now w body c.go_on.result c.choice_of.result chosen.GoOn (c.choice_of.ensures body k) c.in-GoOn.is (c.go_on.ensures w h)

pub returns-in-Leave : goal.returns-in-Leave
returns-in-Leave c w body h k = chosen_so c.args.session.now w body (record { reply = replies.Done; next = kept.Command }) c.choice_of.result chosen.Leave (c.choice_of.ensures body k) c.in-Leave.is (a_command, tt, (refl, refl))

pub returns-in-Drop : goal.returns-in-Drop
returns-in-Drop c w body h k = chosen_so c.args.session.now w body (record { reply = replies.Nothing; next = kept.Query }) c.choice_of.result chosen.Drop (c.choice_of.ensures body k) c.in-Drop.is (a_query, tt, (refl, refl))
