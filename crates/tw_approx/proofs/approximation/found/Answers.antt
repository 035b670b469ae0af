use Rattle.std.proofs.Common.{IfOk, MatchOption, sym, subst}
use Rattle.tw_approx.specs.Answer.{NeverFits}
use Rattle.tw_approx.specs.Names.{IsFreeVariable}
use Rattle.tw_approx.specs.Reading.{state_of}
use Rattle.tw_approx.specs.Skeletons.{Fits}
use Rattle.tw_approx.specs.Solving.{IsFound}
use Rattle.tw_parse.specs.View.{declaration_of}
use Rattle.tw_approx.proofs.approximation.found.Goals as goal

pub returns-in-Declare : goal.returns-in-Declare
returns-in-Declare c =
    let es = c.args.signature.now in
    subst (λ d. IfOk c.declared.result (λ o. MatchOption o (NeverFits (λ f o. Fits es f o (declaration_of d))) (λ w. IsFound (λ f o. Fits es f o (declaration_of d)) (λ x. IsFreeVariable es x (declaration_of d)) (state_of w)))) (sym c.in-Declare.is) c.declared.ensures

pub returns-in-Define : goal.returns-in-Define
returns-in-Define c =
    let es = c.args.signature.now in
    subst (λ d. IfOk c.defined.result (λ o. MatchOption o (NeverFits (λ f o. Fits es f o (declaration_of d))) (λ w. IsFound (λ f o. Fits es f o (declaration_of d)) (λ x. IsFreeVariable es x (declaration_of d)) (state_of w)))) (sym c.in-Define.is) c.defined.ensures
