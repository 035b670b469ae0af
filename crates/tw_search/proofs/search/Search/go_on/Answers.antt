use Rattle.std.proofs.Common.{◌≡◌, ◌+◌, ◌-◌, refl, subst, arith}
use Rattle.tw_search.specs.Standing.{Came}
use Rattle.tw_search.proofs.Standing.{gave_same}
use Rattle.tw_search.proofs.search.Search.go_on.Goals as goal

pub returns-in-Ok-clause-came : goal.returns-in-Ok-clause-came
returns-in-Ok-clause-came c = λ G len agenda w.
    let e : (c.args.self.now.tries + c.args.budget) - c.args.self.now.tries ≡ c.args.budget = omega arith in
    subst (λ b. Came c.args.signature.now G c.args.self.now c.run.new.self agenda b c.in-Ok.step) e (c.in-Ok.ensures.came G len agenda w)

pub returns-in-Err-clause-gave_out : goal.returns-in-Err-clause-gave_out
returns-in-Err-clause-gave_out c = λ agenda w. gave_same c.args.signature.now c.args.self.now c.args.self.now c.run.new.self _ agenda (c.args.self.now.tries + c.args.budget) refl refl (c.in-Err.ensures.gave_out agenda w)
