use Rattle.std.proofs.Common.{◌∙◌, nat_eq, refl, sym}
use Rattle.std.proofs.lemmas.Bool.{not-false}
use Rattle.std.specs.HashSet.{contains}
use Rattle.tw_subord.specs.Walks.{walked}
use Rattle.tw_subord.proofs.Walks.{met_again, met_now}
use Rattle.tw_subord.proofs.closure.Walk.meet.Goals as goal

pub returns-in_ok-push : goal.returns-in_ok-push
returns-in_ok-push c =
    met_now (walked c.args.self.now) (walked (record { met = c.insert.new.self; found = c.push.new.self })) c.args.number c.requires (λ k. c.in_ok-insert.ensures.updates.0 k) c.in_ok-push.ensures.items

pub returns-else-branch : goal.returns-else-branch
returns-else-branch c =
    met_again (walked c.args.self.now) (walked (record { met = c.insert.new.self; found = c.args.self.now.found })) c.args.number c.requires (λ k. c.in_ok-insert.ensures.updates.0 k) refl (not-false (contains nat_eq c.args.self.now.met c.args.number) (sym c.in_ok-insert.ensures.added ∙ c.if-branch.false))
