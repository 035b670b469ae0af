use Rattle.std.proofs.Common.{IfOk, IsTrue, map, ap, ◌∙◌, subst}
use Rattle.lf.specs.SkeletonTyping.{TermSkeleton}
use Rattle.tw_terms.specs.OpenView.{open_term_of}
use Rattle.tw_terms.specs.View.{skeleton_of}
use Rattle.tests_substitution.specs.Kept.{heads_of}
use Rattle.tests_substitution.proofs.substitution.term_has_around.Goals as goal

pub returns : goal.returns
returns c = subst (λ Θ. IfOk c.term_has.result (λ b. IsTrue b → TermSkeleton (heads_of c.args.around.signature.now c.args.around.store.now.now) Θ (open_term_of c.args.term.now) (skeleton_of c.args.made.now))) (ap (map skeleton_of) c.deref.ensures.value ∙ c.in_ok-inside.ensures) c.term_has.ensures
