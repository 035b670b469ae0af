use Rattle.tw_signature.specs.Goal.{goal_of}
use Rattle.tw_server.proofs.Rounded.{goal_asked, goal_may_be, nothing_asked, query_begins, query_none}
use Rattle.tw_server.proofs.query.answer_kept.Goals as goal

pub begin-requires-clause-context : goal.begin-requires-clause-context
begin-requires-clause-context c = let a = c.in-Ok-Answers in (goal_may_be c.args.session.now a.field-0 a.goal a.at a.field-0-is a.ensures.may_be_asked).context

pub begin-requires-clause-goal : goal.begin-requires-clause-goal
begin-requires-clause-goal c = let a = c.in-Ok-Answers in (goal_may_be c.args.session.now a.field-0 a.goal a.at a.field-0-is a.ensures.may_be_asked).typed

pub returns-in-Ok-Nothing : goal.returns-in-Ok-Nothing
returns-in-Ok-Nothing c = let a = c.in-Ok-Nothing in query_none c.args.session.now c.args.text.now c.requires (nothing_asked c.args.session.now c.args.text.now a.field-0 a.field-0-is a.ensures.says)

pub returns-in-Ok-Answers : goal.returns-in-Ok-Answers
returns-in-Ok-Answers c =
    let a = c.in-Ok-Answers in
    query_begins c.args.session.now c.args.text.now (goal_of a.goal) a.at c.begin.result c.requires (goal_asked c.args.session.now c.args.text.now a.field-0 a.goal a.at a.field-0-is a.ensures.says)
    (goal_may_be c.args.session.now a.field-0 a.goal a.at a.field-0-is a.ensures.may_be_asked) c.begin.ensures

pub returns-in-Err : goal.returns-in-Err
returns-in-Err c = c.refused.ensures c.args.session.now c.args.text.now c.requires c.in-Err.ensures.cause
