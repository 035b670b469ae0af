use Rattle.std.proofs.Common.{IfOk, MatchOption, [], sym, subst, ◌∙◌}
use Rattle.tw_approx.specs.Answer.{NeverFits}
use Rattle.tw_approx.specs.Names.{IsFreeIn}
use Rattle.tw_approx.specs.Reading.{state_of}
use Rattle.tw_approx.specs.Skeletons.{FitsClassifier}
use Rattle.tw_approx.specs.Solving.{IsFound}
use Rattle.tw_parse.specs.View.{term_of}
use Rattle.tw_approx.proofs.approximation.declared.Goals as goal

pub returns-then-ends_in_type : goal.returns-then-ends_in_type
returns-then-ends_in_type c =
    let es = c.args.signature.now in
    let U = term_of c.args.term.now in
    subst (λ b. IfOk c.family.result (λ o. MatchOption o (NeverFits (λ f o. FitsClassifier es f U o b)) (λ w. IsFound (λ f o. FitsClassifier es f U o b) (λ x. IsFreeIn es x [] U) (state_of w)))) (sym c.if-ends_in_type.true ∙ c.ends_in_type.ensures) c.family.ensures

pub returns-else-ends_in_type : goal.returns-else-ends_in_type
returns-else-ends_in_type c =
    let es = c.args.signature.now in
    let U = term_of c.args.term.now in
    subst (λ b. IfOk c.constant.result (λ o. MatchOption o (NeverFits (λ f o. FitsClassifier es f U o b)) (λ w. IsFound (λ f o. FitsClassifier es f U o b) (λ x. IsFreeIn es x [] U) (state_of w)))) (sym c.if-ends_in_type.false ∙ c.ends_in_type.ensures) c.constant.ensures
