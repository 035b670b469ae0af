use Rattle.std.proofs.Common.{subst}
use Rattle.std.specs.Bool.{OnTrue}
use Rattle.tw_metas.specs.View.{equation_of}
use Rattle.tw_unify.specs.Watching.{AreEarly, Known, diary_of}
use Rattle.tw_unify.proofs.Watching.{left_still}
use Rattle.tw_unify.proofs.postponed.is_left_still.Goals as goal

pub returns-then-untouched : goal.returns-then-untouched
returns-then-untouched c =
    let s = c.args.store.now.now in
    let d = diary_of c.args.watch.now in
    let e = equation_of c.args.equation.now in
    left_still s d c.in-Some.since e (subst (λ o. Known s d o e) c.in-Some.is c.requires.known) (subst (λ b. OnTrue b (AreEarly s d c.in-Some.since e)) c.if-untouched.true c.in_ok-untouched-in-Some.ensures)
