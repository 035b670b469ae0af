use Rattle.std.proofs.Common.{ap, ◌∙◌}
use Rattle.tw_decl.specs.declared.parameters.Parameters.{Parameters}
use Rattle.tw_top.specs.UnderWay.{asked}
use Rattle.tw_server.proofs.Rounded.{goes_nowhere, may_go_on, played, went_on}
use Rattle.tw_server.proofs.query.go_on.Goals as goal

pub round-requires : goal.round-requires
round-requires c = (c.requires.0.standing, may_go_on c.args.session.now c.environment.result c.args.waiting.asking c.requires.0.standing c.environment.ensures c.requires.1.holds)

pub returns-in-Ok : goal.returns-in-Ok
returns-in-Ok c w h =
    let after = c.round.new.self in
    went_on c.args.session.now w (asked after) c.args.waiting.at c.behind_round.result (c.in-Ok.ensures.goal ∙ h.goal) h.place
    (c.behind_round.ensures c.args.session.now w.standing
    (played c.args.session.now c.environment.result c.args.waiting.asking after c.in-Ok.round.text.items c.in-Ok.round.pause c.parameters-steps.result.steps w.standing c.environment.ensures (ap (λ (p : Parameters). p.steps) c.parameters-steps.ensures) c.in-Ok.ensures.goal c.in-Ok.ensures.round h.holds))

pub returns-in-Err : goal.returns-in-Err
returns-in-Err c w h = goes_nowhere c.args.session.now w.goal w.at w.standing c.out_of_memory.result c.out_of_memory.ensures.reply c.out_of_memory.ensures.next
