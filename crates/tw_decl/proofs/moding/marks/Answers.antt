use Rattle.std.proofs.Common.{sym, subst}
use Rattle.tw_parse_checks.specs.Checks.{check_of}
use Rattle.tw_parse_checks.specs.declared.check.ExtCheck.{ExtCheck}
use Rattle.tw_decl.specs.Obstacles.{GivesNoMarks}
use Rattle.tw_decl.proofs.Unset.{marks_fail}
use Rattle.tw_decl.proofs.moding.marks.Goals as goal

pub returns-in-Err-full-clause-cause : goal.returns-in-Err-full-clause-cause
returns-in-Err-full-clause-cause c =
    marks_fail c.args.session.now (check_of c.args.check.now) c.args.first c.args.family.0 c.requires.applied c.in-Err-full.refusal
    (subst (λ (x : ExtCheck). GivesNoMarks c.args.session.now (check_of x) c.args.first c.in-Err-full.refusal) (sym c.in-ModeFull.is) c.in-Err-full.ensures.cause)
