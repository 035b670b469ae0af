use Rattle.std.proofs.Common.{◌+◌, ◌∷◌, ap, sym, ◌∙◌}
use Rattle.lf_unification.specs.Lists.{followed}
use Rattle.tw_terms.proofs.Views.{head_of-Var}
use Rattle.tw_search.specs.Choosing.{constants_left, heads_left}
use Rattle.tw_search.proofs.HeadsLeft.{behind_locals}
use Rattle.tw_search.proofs.choice.next_head.Goals as goal

pub returns-in-Some : goal.returns-in-Some
returns-in-Some c =
    let es = c.args.signature.now in
    let a = c.args.family.0 in
    let D = c.args.locals.now in
    let v = c.in-Some.variable in
    ap (λ l. followed l (constants_left es a c.args.constant)) c.in-Some.ensures.next ∙ ap (λ h. h ∷ heads_left es a D (v + 1) c.args.constant) (sym (head_of-Var v))

pub returns-in-None : goal.returns-in-None
returns-in-None c = behind_locals c.args.signature.now c.args.family.0 c.args.locals.now c.args.local c.args.constant c.next_constant.result c.in-None.ensures.next c.next_constant.ensures
