use Rattle.std.proofs.Common.{◌≡◌, ◌-◌, ◌+◌, ◌≤◌, List, length, option_map, sym, subst, arith}
use Rattle.std.proofs.lemmas.Result.{IfOk-weaker, on_err_weaker}
use Rattle.lf.specs.Syntax.{LfType}
use Rattle.lf_unification.specs.Search.{Pending}
use Rattle.tw_search.specs.Chains.{frames_of}
use Rattle.tw_search.specs.Going.{GivesOut, Goes, Nears, step_of, steps_left}
use Rattle.tw_search.specs.Standing.{Came, IsAt, PlaceStands, choices_of}
use Rattle.tw_search.proofs.Going.{came_further, still_at, went_further, went_nowhere}
use Rattle.tw_search.proofs.Standing.{gave_at_once, on_err_all, went_then_gave}
use Rattle.tw_search.proofs.search.Search.run.Goals as goal

pub steps-init : goal.steps-init
steps-init c = record {
  within = c.requires.within;
  at = c.requires.at;
  went = λ agenda w. went_nowhere c.args.signature.now c.args.self.now agenda w;
}

pub enter-requires-clause-at : goal.enter-requires-clause-at
enter-requires-clause-at c = c.steps.invariant.at

pub enter-requires-clause-within : goal.enter-requires-clause-within
enter-requires-clause-within c = c.steps.invariant.within

pub leaf-requires-clause-at : goal.leaf-requires-clause-at
leaf-requires-clause-at c = c.steps.invariant.at

pub retry-requires-clause-at : goal.retry-requires-clause-at
retry-requires-clause-at c = c.steps.invariant.at

pub retry-requires-clause-within : goal.retry-requires-clause-within
retry-requires-clause-within c = c.steps.invariant.within

pub steps-smaller-in_default : goal.steps-smaller-in_default
steps-smaller-in_default c =
    let nears = subst (λ o. Nears c.args.last c.steps.self c.enter.new.self (option_map step_of o)) c.in_default.is c.in_ok-stop-in-Some.ensures.nears in
    let fewer : steps_left c.args.last c.enter.new.self + 1 ≤ steps_left c.args.last c.steps.self = nears.0 in
    omega (arith, fewer)

pub steps-preserved-in_default : goal.steps-preserved-in_default
steps-preserved-in_default c =
    let es = c.args.signature.now in
    let old = c.steps.self in
    let new = c.enter.new.self in
    let goes = subst (λ o. Goes es c.args.last old new (option_map step_of o)) c.in_default.is c.in_ok-stop-in-Some.ensures.goes in
    let nears = subst (λ o. Nears c.args.last old new (option_map step_of o)) c.in_default.is c.in_ok-stop-in-Some.ensures.nears in
    record {
      within = nears.1;
      at = still_at es c.args.last old new goes c.steps.invariant.at;
      went = went_further es c.args.self.now old new c.steps.invariant.went c.args.last goes;
    }

pub steps-smaller : goal.steps-smaller
steps-smaller c =
    let nears = subst (λ o. Nears c.args.last c.steps.self c.retry.new.self (option_map step_of o)) c.in_default-2.is c.in_ok-stop-in-Heads.ensures.nears in
    let fewer : steps_left c.args.last c.retry.new.self + 1 ≤ steps_left c.args.last c.steps.self = nears.0 in
    omega (arith, fewer)

pub steps-preserved : goal.steps-preserved
steps-preserved c =
    let es = c.args.signature.now in
    let old = c.steps.self in
    let new = c.retry.new.self in
    let goes = subst (λ o. Goes es c.args.last old new (option_map step_of o)) c.in_default-2.is c.in_ok-stop-in-Heads.ensures.goes in
    let nears = subst (λ o. Nears c.args.last old new (option_map step_of o)) c.in_default-2.is c.in_ok-stop-in-Heads.ensures.nears in
    record {
      within = nears.1;
      at = still_at es c.args.last old new goes c.steps.invariant.at;
      went = went_further es c.args.self.now old new c.steps.invariant.went c.args.last goes;
    }

pub returns-in-Some-2-clause-came : goal.returns-in-Some-2-clause-came
returns-in-Some-2-clause-came c =
    let es = c.args.signature.now in
    let first = c.args.self.now in
    let old = c.steps.self in
    let new = c.enter.new.self in
    let goes = subst (λ o. Goes es c.args.last old new (option_map step_of o)) c.in-Some-2.is c.in_ok-stop-in-Some.ensures.goes in
    subst (λ s. (G : List LfType) → length G ≡ first.variables → (agenda : List Pending) → IsAt es first agenda → Came es G first new agenda (c.args.last - first.tries) s) (sym c.shown.ensures)
    (came_further es first old new c.steps.invariant.went c.args.last (step_of c.in-Some-2.stop) c.steps.invariant.within goes)

pub returns-in-Some-3-clause-came : goal.returns-in-Some-3-clause-came
returns-in-Some-3-clause-came c =
    let es = c.args.signature.now in
    let first = c.args.self.now in
    let old = c.steps.self in
    let new = c.retry.new.self in
    let goes = subst (λ o. Goes es c.args.last old new (option_map step_of o)) c.in-Some-3.is c.in_ok-stop-in-Heads.ensures.goes in
    subst (λ s. (G : List LfType) → length G ≡ first.variables → (agenda : List Pending) → IsAt es first agenda → Came es G first new agenda (c.args.last - first.tries) s) (sym c.shown-in-Some-3.ensures)
    (came_further es first old new c.steps.invariant.went c.args.last (step_of c.in-Some-3.stop) c.steps.invariant.within goes)

pub returns-in-None-clause-came : goal.returns-in-None-clause-came
returns-in-None-clause-came c =
    let es = c.args.signature.now in
    let first = c.args.self.now in
    let old = c.steps.self in
    let new = c.leaf.new.self in
    IfOk-weaker c.leaf.result _ (λ s. (G : List LfType) → length G ≡ first.variables → (agenda : List Pending) → IsAt es first agenda → Came es G first new agenda (c.args.last - first.tries) s)
    (λ s came. came_further es first old new c.steps.invariant.went c.args.last s c.steps.invariant.within (λ agenda w G len. came G len agenda w (c.args.last - old.tries)))
    c.leaf.ensures.came

pub returns-in_err-stop-in-Some-clause-gave_out : goal.returns-in_err-stop-in-Some-clause-gave_out
returns-in_err-stop-in-Some-clause-gave_out c =
    let es = c.args.signature.now in
    on_err_all {P = GivesOut es c.args.last c.args.self.now c.enter.new.self} _ (λ agenda w. (let v = c.steps.invariant.went agenda w in went_then_gave es c.args.self.now c.steps.self c.enter.new.self agenda c.args.last v (c.in_err-stop-in-Some.ensures.gave_out v.after v.at)))

pub returns-in_err-stop-in-Heads-clause-gave_out : goal.returns-in_err-stop-in-Heads-clause-gave_out
returns-in_err-stop-in-Heads-clause-gave_out c =
    let es = c.args.signature.now in
    on_err_all {P = GivesOut es c.args.last c.args.self.now c.retry.new.self} _ (λ agenda w. (let v = c.steps.invariant.went agenda w in went_then_gave es c.args.self.now c.steps.self c.retry.new.self agenda c.args.last v (c.in_err-stop-in-Heads.ensures.gave_out v.after v.at)))

pub returns-in-None-clause-gave_out : goal.returns-in-None-clause-gave_out
returns-in-None-clause-gave_out c =
    let es = c.args.signature.now in
    on_err_weaker c.leaf.result (λ e agenda w. (let v = c.steps.invariant.went agenda w in went_then_gave es c.args.self.now c.steps.self c.leaf.new.self agenda c.args.last v (gave_at_once es c.steps.self c.leaf.new.self v.after c.args.last e c.steps.invariant.within))) c.leaf.ensures.gave_out

pub unreachable-requires : goal.unreachable-requires
unreachable-requires c =
    let old = c.steps.self in
    let (agenda, w) = c.steps.invariant.at in
    subst (λ p. PlaceStands c.args.signature.now old.variables p old.store (frames_of old.frames) (choices_of old) agenda) c.in-Over.is w.0
