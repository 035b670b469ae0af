use Rattle.std.proofs.Common.{Some, None, option_map, refl, subst, arith}
use Rattle.std.specs.Bool.{OnTrue}
use Rattle.std.proofs.lemmas.Result.{IfOk-weaker, on_err_weaker}
use Rattle.lf.specs.Entries.{signature_of}
use Rattle.tw_terms.specs.View.{head_of}
use Rattle.tw_search.specs.Going.{GivesOutUp, GoesUp, NearsBelow, Tried, step_of}
use Rattle.tw_search.specs.Tries.{NeverFits}
use Rattle.tw_search.specs.declared.step.Choice.{Choice}
use Rattle.tw_search.specs.declared.step.Step.TheVariants as step
use Rattle.tw_search.proofs.Going.{budget_spent, heads_out}
use Rattle.tw_search.proofs.Passing.{below_after, clash_passed, gave_after, gives_out_trying, goal_stands, goes_after, goes_trying, head_is, none_below, passed_nothing, tries_grow, tries_next}
use Rattle.tw_search.proofs.Standing.{gave_at_once, on_err_all}
use Rattle.tw_search.proofs.search.Search.take_up.Goals as goal

pub heads-init : goal.heads-init
heads-init c = record {
  place = c.requires.place;
  within = c.requires.within;
  choices = refl;
  passed = λ agenda w. passed_nothing c.args.signature.now c.args.self.now c.args.choice agenda w;
}

pub returns-in-None-clause-goes : goal.returns-in-None-clause-goes
returns-in-None-clause-goes c = λ agenda w.
    let es = c.args.signature.now in
    let s = c.heads.self in
    let v = c.heads.invariant.passed agenda w in
    goes_after es c.args.last c.args.self.now s s c.heads.choice None agenda v c.heads.invariant.within (heads_out es s c.heads.choice v.after v.up c.heads.invariant.place c.in-None.ensures)

pub returns-in-None-clause-nears : goal.returns-in-None-clause-nears
returns-in-None-clause-nears c =
    let (agenda, w) = c.requires.up in
    let grow = tries_grow c.args.signature.now c.args.self.now c.heads.self c.heads.choice agenda (c.heads.invariant.passed agenda w) in
    none_below c.args.last c.args.self.now c.heads.self grow c.heads.invariant.within c.heads.invariant.choices c.heads.invariant.place

pub returns-in_err-push_choice-in-Some-clause-gave_out : goal.returns-in_err-push_choice-in-Some-clause-gave_out
returns-in_err-push_choice-in-Some-clause-gave_out c =
    let es = c.args.signature.now in
    let first = c.args.self.now in
    let s = c.heads.self in
    on_err_all {P = GivesOutUp es c.args.last first _ c.args.choice} _ (λ agenda w.
    (let v = c.heads.invariant.passed agenda w in
    gave_after es c.args.last first s _ c.heads.choice agenda v (gave_at_once es s _ v.after c.args.last refl c.heads.invariant.within)))

pub returns-then-self-last-clause-goes : goal.returns-then-self-last-clause-goes
returns-then-self-last-clause-goes c = λ agenda w.
    let es = c.args.signature.now in
    let s = c.heads.self in
    let v = c.heads.invariant.passed agenda w in
    goes_after es c.args.last c.args.self.now s _ c.heads.choice (Some step.Budget) agenda v c.heads.invariant.within (λ G len.
    budget_spent es s c.heads.choice v.after v.up c.heads.invariant.place G _ c.args.last (head_of c.in-Some.next.head) _ c.in-Some.ensures c.if-self-last.true refl refl refl refl refl c.in_ok-push_choice-in-Some.ensures c.heads.invariant.place refl)

pub heads_clash-requires-clause-goal : goal.heads_clash-requires-clause-goal
heads_clash-requires-clause-goal c =
    let (agenda, w) = c.requires.up in
    goal_stands c.args.signature.now c.args.self.now c.heads.self c.heads.choice agenda (c.heads.invariant.passed agenda w) (head_of c.in-Some.next.head) c.in-Some.next.local c.in-Some.next.constant c.in-Some.ensures

pub heads_clash-requires-clause-head : goal.heads_clash-requires-clause-head
heads_clash-requires-clause-head c =
    let (agenda, w) = c.requires.up in
    head_is c.args.signature.now c.args.self.now c.heads.self c.heads.choice agenda (c.heads.invariant.passed agenda w) (head_of c.in-Some.next.head) c.in-Some.next.local c.in-Some.next.constant c.in-Some.ensures

pub try_head-requires-clause-tries : goal.try_head-requires-clause-tries
try_head-requires-clause-tries c =
    let (agenda, w) = c.requires.up in
    tries_next c.args.signature.now c.args.self.now c.heads.self c.heads.choice agenda (c.heads.invariant.passed agenda w) (head_of c.in-Some.next.head) c.in-Some.next.local c.in-Some.next.constant c.in-Some.ensures _ refl

pub returns-else-heads_clash-clause-goes : goal.returns-else-heads_clash-clause-goes
returns-else-heads_clash-clause-goes c =
    let es = c.args.signature.now in
    let first = c.args.self.now in
    let s = c.heads.self in
    let new = c.try_head.new.self in
    let k = head_of c.in-Some.next.head in
    let behind : Choice = record c.heads.choice { local = c.in-Some.next.local; constant = c.in-Some.next.constant } in
    IfOk-weaker c.try_head.result (λ o. Tried es c.args.last s new behind k (option_map step_of o)) (λ o. GoesUp es c.args.last first new c.args.choice (option_map step_of o))
    (λ o tried agenda w. goes_trying es first s c.heads.choice agenda (c.heads.invariant.passed agenda w) k c.in-Some.next.local c.in-Some.next.constant c.in-Some.ensures behind refl c.args.last new (option_map step_of o) c.heads.invariant.within tried)
    c.try_head.ensures.tried

pub returns-else-heads_clash-clause-gave_out : goal.returns-else-heads_clash-clause-gave_out
returns-else-heads_clash-clause-gave_out c =
    let es = c.args.signature.now in
    let k = head_of c.in-Some.next.head in
    on_err_weaker c.try_head.result
    (λ gave agenda w. gives_out_trying es c.args.self.now c.heads.self c.heads.choice agenda (c.heads.invariant.passed agenda w) k c.in-Some.next.local c.in-Some.next.constant c.in-Some.ensures _ refl c.args.last c.try_head.new.self gave)
    c.try_head.ensures.gave_out

pub returns-else-heads_clash-clause-nears : goal.returns-else-heads_clash-clause-nears
returns-else-heads_clash-clause-nears c =
    let first = c.args.self.now in
    let s = c.heads.self in
    let new = c.try_head.new.self in
    let (agenda, w) = c.requires.up in
    let grow = tries_grow c.args.signature.now first s c.heads.choice agenda (c.heads.invariant.passed agenda w) in
    IfOk-weaker c.try_head.result (λ o. NearsBelow c.args.last s new (option_map step_of o)) (λ o. NearsBelow c.args.last first new (option_map step_of o)) (λ o b. below_after c.args.last first s new (option_map step_of o) grow c.heads.invariant.choices b) c.try_head.ensures.nears

pub heads-preserved : goal.heads-preserved
heads-preserved c =
    let es = c.args.signature.now in
    let s = c.heads.self in
    let k = head_of c.in-Some.next.head in
    let never = subst (λ b. OnTrue b (NeverFits (signature_of es) s.store.now c.heads.choice.goal k)) c.if-heads_clash.true c.heads_clash.ensures in
    record {
      place = c.heads.invariant.place;
      within = grind arith;
      choices = c.heads.invariant.choices;
      passed = λ agenda w. clash_passed es c.args.self.now s c.heads.choice agenda (c.heads.invariant.passed agenda w) k c.in-Some.next.local c.in-Some.next.constant c.in-Some.ensures _ refl c.is_canonical.ensures never _ refl;
    }
