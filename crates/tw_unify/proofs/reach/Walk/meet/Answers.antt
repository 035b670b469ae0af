use Rattle.std.proofs.Common.{◌+◌, ap, ◌∙◌}
use Rattle.std.specs.Prelude.{if◌then◌else◌}
use Rattle.std.specs.HashSet.{hash_set_len}
use Rattle.tw_unify.specs.Reaching.{marking_of}
use Rattle.tw_unify.proofs.Reaching.{met_now}
use Rattle.tw_unify.proofs.reach.Walk.meet.Goals as goal

pub returns-in_ok-push-clause-spread : goal.returns-in_ok-push-clause-spread
returns-in_ok-push-clause-spread c =
    (met_now (marking_of c.args.self.now) (marking_of (record { marks = c.insert.new.self; due = c.push.new.self })) c.args.meta.0 (λ k. c.in_ok-insert.ensures.updates.0 k) c.in_ok-push.ensures.items (c.in_ok-insert.ensures.len ∙ ap (λ b. hash_set_len c.args.self.now.marks + (if b then 1 else 0)) c.if-branch.true)).0
