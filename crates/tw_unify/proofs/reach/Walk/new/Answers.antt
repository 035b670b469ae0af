use Rattle.tw_unify.specs.Reaching.{marking_of}
use Rattle.tw_unify.specs.declared.reach.Walk.{Walk}
use Rattle.tw_unify.proofs.Changed.{nothing_known}
use Rattle.tw_unify.proofs.Reaching.{none_marked, nothing_in}
use Rattle.tw_unify.proofs.reach.Walk.new.Goals as goal

pub returns-clause-known : goal.returns-clause-known
returns-clause-known c = λ s.
    let made : Walk = record { marks = c.new.result; due = c.new-2.result } in
    nothing_known s (marking_of made) (none_marked (marking_of made) (nothing_in c.new.result c.new.ensures.empty)) c.new-2.ensures.items
