use Rattle.std.specs.Option.{IfSome}
use Rattle.std.proofs.lemmas.Result.{IfOk-weaker}
use Rattle.lf_unification.specs.Unifiers.{on_right}
use Rattle.tw_metas.specs.View.{equation_of}
use Rattle.tw_unify.specs.Flexible.{AllowsMove}
use Rattle.tw_unify.specs.Moving.{IsMove}
use Rattle.tw_unify.proofs.Results.{if_some_weaker}
use Rattle.tw_unify.proofs.flexible.move_at_once.Goals as goal

pub returns-in-None : goal.returns-in-None
returns-in-None c =
    let s = c.args.store.now.now in
    let e = equation_of c.args.equation.now in
    IfOk-weaker c.find_at_once-in-None.result (λ r. IfSome r (λ v. IsMove s e.local e.right e.left v)) (λ r. IfSome r (λ v. AllowsMove s e v))
    (λ r. if_some_weaker r (λ v. IsMove s e.local e.right e.left v) (λ v. AllowsMove s e v) (λ v i. record { side = on_right; move = i })) c.find_at_once-in-None.ensures
