use Rattle.lf_unification.proofs.never_goes_back.Goals as goal

pub returns : goal.returns
returns c = λ Σ G s s' k. ((λ n F β u. (let (x, y, v) = k.complete F β u in n F x v)), (λ n F β u. (let (x, y, v) = k.sound F β u in n F x v)))
