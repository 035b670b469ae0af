use Rattle.std.proofs.Common.{[], Some, None, subst}
use Rattle.tw_approx.specs.Names.{IsFreeIn}
use Rattle.tw_approx.specs.Reading.{state_of, due_of, KindIsRead}
use Rattle.tw_approx.specs.Skeletons.{kind_due}
use Rattle.tw_approx.specs.Walks.{filled_all}
use Rattle.tw_parse.specs.View.{term_of}
use Rattle.tw_approx.proofs.Fitting.{all_found, none_found}
use Rattle.tw_approx.proofs.approximation.family.Goals as goal

pub returns-in-Some : goal.returns-in-Some
returns-in-Some c =
    let U = term_of c.args.term.now in
    let t = state_of c.kind_due.new.walk in
    let r = subst (λ s. KindIsRead c.args.signature.now s t U (Some c.in-Some.field-0)) c.new-walk.ensures (subst (KindIsRead c.args.signature.now (state_of c.new-walk.result) t U) c.in-Some.is c.in_ok-kind_due.ensures) in
    all_found (λ f. kind_due c.args.signature.now f [] [] U) (λ x. IsFreeIn c.args.signature.now x [] U) t (λ θ. filled_all θ (due_of c.in-Some.field-0)) r.reading

pub returns-in-None : goal.returns-in-None
returns-in-None c =
    let U = term_of c.args.term.now in
    let t = state_of c.kind_due.new.walk in
    none_found (λ f. kind_due c.args.signature.now f [] [] U) (subst (λ s. KindIsRead c.args.signature.now s t U None) c.new-walk.ensures (subst (KindIsRead c.args.signature.now (state_of c.new-walk.result) t U) c.in-None.is c.in_ok-kind_due.ensures))
