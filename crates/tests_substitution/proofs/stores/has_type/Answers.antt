use Rattle.std.proofs.Common.{IfOk, IsTrue, map, subst}
use Rattle.lf.specs.SkeletonTyping.{TermSkeleton}
use Rattle.tw_terms.specs.OpenView.{open_term_of}
use Rattle.tw_terms.specs.View.{skeleton_of}
use Rattle.tests_substitution.specs.Kept.{heads_of}
use Rattle.tests_substitution.proofs.stores.has_type.Goals as goal

pub returns : goal.returns
returns c = subst (λ t. IfOk c.term_has.result (λ b. IsTrue b → TermSkeleton (heads_of c.args.signature.now c.args.store.now.now) (map skeleton_of c.args.outer.now) (open_term_of c.args.value.now) t)) c.in_ok-made.ensures c.term_has.ensures
