use Rattle.std.proofs.Common.{◌≡◌, ◌∷◌, ◌++◌, [], ap, ◌∙◌, arith}
use Rattle.std.proofs.lemmas.List.{nil_from_length}
use Rattle.lf.specs.Syntax.{lambda}
use Rattle.tw_terms.specs.View.{term_of}
use Rattle.tw_terms.specs.declared.canonical.Spine.{roll-Spine}
use Rattle.tw_terms.specs.declared.canonical.Term.{Lam, Root}
use Rattle.tw_hered.specs.declared.waiting.Waiting.TheVariants.{Lambda, Argument}
use Rattle.tw_hered.proofs.Environments.{environments}
use Rattle.tw_hered.proofs.Expanded.{root_of}
use Rattle.tw_hered.proofs.Whole.{same-at-first, taken-lambda, taken-argument, next-fits, next-all-fit, next-value, next-shallow, none-wait, none-wait-shallow}
use Rattle.tw_hered.proofs.waiting.put_back.Goals as goal

pub loop-last-init : goal.loop-last-init
loop-last-init c = same-at-first c.args.waiting.now.items (term_of c.args.made) c.requires

pub loop-last-preserved-in-Lambda : goal.loop-last-preserved-in-Lambda
loop-last-preserved-in-Lambda c =
    let p : c.loop-last.waiting.items ≡ c.pop.new.self.items ++ Lambda ∷ [] = c.in-Some.ensures.items ∙ ap (λ w. c.pop.new.self.items ++ w ∷ []) c.in-Lambda.is in
    let q : term_of (Lam c.in_ok-new-in-Lambda.field-0) ≡ lambda (term_of c.loop-last.term) = grind (arith, environments) in
    taken-lambda c.loop-last.waiting.items c.pop.new.self.items c.args.waiting.now.items (term_of c.loop-last.term) (term_of (Lam c.in_ok-new-in-Lambda.field-0)) (term_of c.args.made) p q c.loop-last.invariant

pub returns-in-Some-split_first-clause-value : goal.returns-in-Some-split_first-clause-value
returns-in-Some-split_first-clause-value c =
    let p : c.loop-last.waiting.items ≡ c.pop.new.self.items ++ Argument c.in-Argument.head c.in-Argument.made c.in-Argument.rest c.in-Argument.environment ∷ [] = c.in-Some.ensures.items ∙ ap (λ w. c.pop.new.self.items ++ w ∷ []) c.in-Argument.is in
    next-value c.loop-last.waiting.items c.pop.new.self.items c.args.waiting.now.items c.in-Argument.head c.in-Argument.made c.push.new.self c.in-Argument.rest c.in-Argument.environment c.loop-last.term (term_of c.args.made) p c.in_ok-push-in-Argument.ensures.items c.loop-last.invariant c.push-in-Some-split_first.new.self.items c.in-Some-split_first.first.now c.in-Some-split_first.rest c.in-Some-split_first.ensures.cases.0 c.in_ok-push-in-Some-split_first.ensures.items

pub returns-in-Some-split_first-clause-waiting : goal.returns-in-Some-split_first-clause-waiting
returns-in-Some-split_first-clause-waiting c =
    let p : c.loop-last.waiting.items ≡ c.pop.new.self.items ++ Argument c.in-Argument.head c.in-Argument.made c.in-Argument.rest c.in-Argument.environment ∷ [] = c.in-Some.ensures.items ∙ ap (λ w. c.pop.new.self.items ++ w ∷ []) c.in-Argument.is in
    next-all-fit c.loop-last.waiting.items c.pop.new.self.items c.args.waiting.now.items c.in-Argument.head c.in-Argument.made c.push.new.self c.in-Argument.rest c.in-Argument.environment c.loop-last.term (term_of c.args.made) p c.in_ok-push-in-Argument.ensures.items c.loop-last.invariant c.push-in-Some-split_first.new.self.items c.in-Some-split_first.first.now c.in-Some-split_first.rest c.in-Some-split_first.ensures.cases.0 c.in_ok-push-in-Some-split_first.ensures.items

pub returns-in-Some-split_first-clause-fits : goal.returns-in-Some-split_first-clause-fits
returns-in-Some-split_first-clause-fits c =
    let p : c.loop-last.waiting.items ≡ c.pop.new.self.items ++ Argument c.in-Argument.head c.in-Argument.made c.in-Argument.rest c.in-Argument.environment ∷ [] = c.in-Some.ensures.items ∙ ap (λ w. c.pop.new.self.items ++ w ∷ []) c.in-Argument.is in
    next-fits c.loop-last.waiting.items c.pop.new.self.items c.args.waiting.now.items c.in-Argument.head c.in-Argument.made c.push.new.self c.in-Argument.rest c.in-Argument.environment c.loop-last.term (term_of c.args.made) p c.in_ok-push-in-Argument.ensures.items c.loop-last.invariant c.push-in-Some-split_first.new.self.items c.in-Some-split_first.first.now c.in-Some-split_first.rest c.in-Some-split_first.ensures.cases.0 c.in_ok-push-in-Some-split_first.ensures.items

pub returns-in-Some-split_first-clause-shallow : goal.returns-in-Some-split_first-clause-shallow
returns-in-Some-split_first-clause-shallow c =
    let p : c.loop-last.waiting.items ≡ c.pop.new.self.items ++ Argument c.in-Argument.head c.in-Argument.made c.in-Argument.rest c.in-Argument.environment ∷ [] = c.in-Some.ensures.items ∙ ap (λ w. c.pop.new.self.items ++ w ∷ []) c.in-Argument.is in
    next-shallow c.loop-last.waiting.items c.pop.new.self.items c.args.waiting.now.items c.in-Argument.head c.in-Argument.made c.push.new.self c.in-Argument.rest c.in-Argument.environment c.loop-last.term (term_of c.args.made) p c.in_ok-push-in-Argument.ensures.items c.loop-last.invariant c.push-in-Some-split_first.new.self.items c.in-Some-split_first.first.now c.in-Some-split_first.rest c.in-Some-split_first.ensures.cases.0 c.in_ok-push-in-Some-split_first.ensures.items

pub loop-last-preserved : goal.loop-last-preserved
loop-last-preserved c =
    let p : c.loop-last.waiting.items ≡ c.pop.new.self.items ++ Argument c.in-Argument.head c.in-Argument.made c.in-Argument.rest c.in-Argument.environment ∷ [] = c.in-Some.ensures.items ∙ ap (λ w. c.pop.new.self.items ++ w ∷ []) c.in-Argument.is in
    taken-argument c.loop-last.waiting.items c.pop.new.self.items c.args.waiting.now.items c.in-Argument.head c.in-Argument.made c.push.new.self c.in-Argument.rest c.in-Argument.environment c.loop-last.term (term_of c.args.made) p c.in_ok-push-in-Argument.ensures.items c.loop-last.invariant (term_of (Root c.in-Argument.head (roll-Spine (record { args = c.push.new.self })))) (nil_from_length c.in-Argument.rest.now c.in-None.ensures.cases) (root_of c.in-Argument.head c.push.new.self)

pub returns-clause-value : goal.returns-clause-value
returns-clause-value c = none-wait c.loop-last.waiting.items c.args.waiting.now.items (term_of c.loop-last.term) (term_of c.args.made) (grind arith) c.loop-last.invariant

pub returns-clause-shallow : goal.returns-clause-shallow
returns-clause-shallow c = none-wait-shallow c.loop-last.waiting.items c.args.waiting.now.items (term_of c.loop-last.term) (term_of c.args.made) (grind arith) c.loop-last.invariant
