use Rattle.std.proofs.Common.{sym, ap, ◌∙◌, subst}
use Rattle.tw_approx.specs.Reading.{due_of, IsWhole}
use Rattle.tw_approx.specs.declared.family.FamilyShape.TheVariants.{Known}
use Rattle.tw_approx.proofs.Known.{known_whole_reads, due_refuses_whole}
use Rattle.tw_approx.proofs.Views.{due_of-Nothing, due_of-Next}
use Rattle.tw_approx.proofs.skeletons.known_whole.Goals as goal
use Rattle.tw_approx.proofs.skeletons.known_whole.Goals.{in-Nothing, in-Next}

pub returns : goal.returns
returns c = λ s h v. elim c.match-due.branch [
  | in-Nothing w ↦ subst (IsWhole s s (Known c.args.due c.args.target)) (sym w.result-is) (known_whole_reads s c.args.due c.args.target (ap due_of w.in-Nothing.is ∙ due_of-Nothing) h v.1)
  | in-Next w ↦ subst (IsWhole s s (Known c.args.due c.args.target)) (sym w.result-is) (due_refuses_whole s c.args.due c.args.target _ _ (ap due_of w.in-Next.is ∙ due_of-Next _ _))
]
