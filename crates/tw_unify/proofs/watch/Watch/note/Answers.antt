use Rattle.std.proofs.Common.{◌≡◌, ◌+◌, refl, subst, arith}
use Rattle.tw_unify.specs.Watching.{Changes, diary_of}
use Rattle.tw_unify.proofs.Watching.{bound_watches, postponed_watches}
use Rattle.tw_unify.proofs.watch.Watch.note.Goals as goal

pub returns-in_ok-self-in-Bound : goal.returns-in_ok-self-in-Bound
returns-in_ok-self-in-Bound c = λ s t w h.
    let later : c.in_ok-self-in-Bound.field-0 ≡ c.args.self.now.time + 1 = grind arith in
    bound_watches s t (diary_of c.args.self.now) _ c.in-Bound.meta (subst (λ a. Changes a s t) c.in-Bound.is h) (λ k. c.in_ok-insert-in-Bound.ensures.updates.0 k) later refl w

pub returns-in_ok-push-in-Postponed : goal.returns-in_ok-push-in-Postponed
returns-in_ok-push-in-Postponed c = λ s t w h.
    let p = subst (λ a. Changes a s t) c.in-Postponed.is h in
    postponed_watches s t (diary_of c.args.self.now) _ p.0 p.1 c.in_ok-push-in-Postponed.ensures.items w
