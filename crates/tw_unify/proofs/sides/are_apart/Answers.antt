use Rattle.tw_metas.specs.View.{equation_of}
use Rattle.tw_unify.proofs.Apart.{apart_by}
use Rattle.tw_unify.proofs.sides.are_apart.Goals as goal

pub returns-in-Some-Some : goal.returns-in-Some-Some
returns-in-Some-Some c =
    apart_by c.args.store.now.now (equation_of c.args.equation.now) c.in-Some-Some.left c.in-Some-Some.right c.requires c.in-Some-Some.ensures c.in-Some-Some.ensures'
