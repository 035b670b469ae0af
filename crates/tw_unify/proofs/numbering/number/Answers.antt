use Rattle.std.proofs.Common.{subst}
use Rattle.lf.specs.Subordination.{Member}
use Rattle.tw_unify.proofs.Ordering.{grows_by}
use Rattle.tw_unify.proofs.numbering.number.Goals as goal

pub returns-in_ok-push-in-None-clause-grown : goal.returns-in_ok-push-in-None-clause-grown
returns-in_ok-push-in-None-clause-grown c =
    grows_by c.args.order.now.items c.push.new.self.items c.args.meta (subst (λ xs. Member c.args.meta xs → ⊥) c.deref.ensures.value c.in-None.ensures) c.in_ok-push-in-None.ensures.items
