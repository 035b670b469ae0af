use Rattle.std.proofs.Common.{◌+◌, ◌++◌, ◌^◌, ◌<◌, [], append-nil, arith, refl, subst, sym, true, ◌≡◌}
use Rattle.tw_print.specs.ShowEnv.{scene_of}
use Rattle.tw_search.specs.Standing.{stands}
use Rattle.tw_search.specs.declared.step.Step.TheVariants as step
use Rattle.tw_top.specs.Lines.{answer_lines, budget_lines, end_line, ended, tries_line}
use Rattle.tw_top.specs.UnderWay.{asked}
use Rattle.tw_top.specs.declared.asking.Asking.{Asking}
use Rattle.tw_top.proofs.Steps.{at_answer, at_budget, at_deep, at_end, at_outside, called, counts, typed}
use Rattle.tw_top.proofs.asking.Asking.step.Goals as goal

pub next-requires-clause-search : goal.next-requires-clause-search
next-requires-clause-search c = let (s, h) = c.requires.holds in stands (asked c.args.self.now) s.leaves s.agenda h.stands

pub overflow_add-self : goal.overflow_add-self
overflow_add-self c =
    let es = c.args.env.now.sig.now in
    let ok = c.is_canonical.ensures in
    let (s, h) = c.requires.holds in
    let w = called es ok (scene_of c.args.env.now) c.args.self.now s h c.args.last c.requires.within c.next.new.self c.tries.result c.in_ok-answer.field-0 (step.Answer c.in-Answer.answer) c.tries.ensures c.in-Answer.is c.in_ok-answer.ensures.step in
    let m : c.args.last < 2 ^ 64 = omega (arith, c.ranges.last) in
    let k : c.args.self.now.answers + 1 < 2 ^ 64 = counts es ok (scene_of c.args.env.now) c.args.self.now s h c.args.last c.requires.within c.next.new.self c.in-Answer.answer w m in
    omega (arith, k)

pub add_answer-requires-clause-answer : goal.add_answer-requires-clause-answer
add_answer-requires-clause-answer c =
    let es = c.args.env.now.sig.now in
    let ok = c.is_canonical.ensures in
    let (s, h) = c.requires.holds in
    let w = called es ok (scene_of c.args.env.now) c.args.self.now s h c.args.last c.requires.within c.next.new.self c.tries.result c.in_ok-answer.field-0 (step.Answer c.in-Answer.answer) c.tries.ensures c.in-Answer.is c.in_ok-answer.ensures.step in
    (typed es ok (scene_of c.args.env.now) c.args.self.now s h c.args.last c.requires.within c.next.new.self c.in-Answer.answer w).1.typed

pub returns-in_ok-add_answer-in-Answer-clause-adds : goal.returns-in_ok-add_answer-in-Answer-clause-adds
returns-in_ok-add_answer-in-Answer-clause-adds c = λ s h.
    let es = c.args.env.now.sig.now in
    let ok = c.is_canonical.ensures in
    let scene = scene_of c.args.env.now in
    let a = c.args.self.now in
    let x = c.in-Answer.answer in
    let w = called es ok scene a s h c.args.last c.requires.within c.next.new.self c.tries.result c.in_ok-answer.field-0 (step.Answer x) c.tries.ensures c.in-Answer.is c.in_ok-answer.ensures.step in
    let new : Asking = record { goal = a.goal; search = c.next.new.self; answers = a.answers + 1; left_over = a.left_over } in
    (answer_lines scene (asked a) (a.answers + 1) x, c.in_ok-add_answer-in-Answer.ensures, at_answer es ok scene a s h c.args.last c.requires.within c.next.new.self x w new refl refl refl refl)

pub returns-in_ok-add_outside-in-Leftover-clause-adds : goal.returns-in_ok-add_outside-in-Leftover-clause-adds
returns-in_ok-add_outside-in-Leftover-clause-adds c = λ s h.
    let es = c.args.env.now.sig.now in
    let ok = c.is_canonical.ensures in
    let scene = scene_of c.args.env.now in
    let a = c.args.self.now in
    let left = c.in-Leftover.left in
    let w = called es ok scene a s h c.args.last c.requires.within c.next.new.self c.tries.result c.in_ok-answer.field-0 (step.Leftover left) c.tries.ensures c.in-Leftover.is c.in_ok-answer.ensures.step in
    let new : Asking = record { goal = a.goal; search = c.next.new.self; answers = a.answers; left_over = true } in
    at_outside es ok scene a s h c.args.last c.requires.within c.next.new.self left w new refl refl refl refl c.args.text.now.items c.add_outside.new.text.items c.in_ok-add_outside-in-Leftover.ensures

pub returns-in_ok-add_tries-in-Exhausted-clause-adds : goal.returns-in_ok-add_tries-in-Exhausted-clause-adds
returns-in_ok-add_tries-in-Exhausted-clause-adds c = λ s h.
    let es = c.args.env.now.sig.now in
    let ok = c.is_canonical.ensures in
    let scene = scene_of c.args.env.now in
    let a = c.args.self.now in
    let n = c.tries-in-Exhausted.result in
    let w = called es ok scene a s h c.args.last c.requires.within c.next.new.self c.tries.result c.in_ok-answer.field-0 step.Exhausted c.tries.ensures c.in-Exhausted.is c.in_ok-answer.ensures.step in
    let new : Asking = record { goal = a.goal; search = c.next.new.self; answers = a.answers; left_over = a.left_over } in (
      end_line (ended a.left_over) n,
      subst (λ word. c.add_tries.new.text.items ≡ c.args.text.now.items ++ tries_line word n) c.end_word.ensures c.in_ok-add_tries-in-Exhausted.ensures,
      at_end es ok scene a s h c.args.last c.requires.within c.next.new.self w n c.tries-in-Exhausted.ensures new,
    )

pub returns-in_ok-add_budget-in-Budget-clause-adds : goal.returns-in_ok-add_budget-in-Budget-clause-adds
returns-in_ok-add_budget-in-Budget-clause-adds c = λ s h.
    let es = c.args.env.now.sig.now in
    let ok = c.is_canonical.ensures in
    let scene = scene_of c.args.env.now in
    let a = c.args.self.now in
    let n = c.tries-in-Budget.result in
    let w = called es ok scene a s h c.args.last c.requires.within c.next.new.self c.tries.result c.in_ok-answer.field-0 step.Budget c.tries.ensures c.in-Budget.is c.in_ok-answer.ensures.step in
    let new : Asking = record { goal = a.goal; search = c.next.new.self; answers = a.answers; left_over = a.left_over } in
    (budget_lines n, c.in_ok-add_budget-in-Budget.ensures, at_budget es ok scene a s h c.args.last c.requires.within c.next.new.self w n c.tries-in-Budget.ensures new refl refl refl refl)

pub returns-in-TooDeep-clause-adds : goal.returns-in-TooDeep-clause-adds
returns-in-TooDeep-clause-adds c = λ s h.
    let es = c.args.env.now.sig.now in
    let ok = c.is_canonical.ensures in
    let scene = scene_of c.args.env.now in
    let a = c.args.self.now in
    let w = called es ok scene a s h c.args.last c.requires.within c.next.new.self c.tries.result c.in_ok-answer.field-0 step.TooDeep c.tries.ensures c.in-TooDeep.is c.in_ok-answer.ensures.step in
    let new : Asking = record { goal = a.goal; search = c.next.new.self; answers = a.answers; left_over = a.left_over } in
    ([], sym (append-nil c.args.text.now.items), at_deep es ok scene a s h c.args.last c.requires.within c.next.new.self w new)
