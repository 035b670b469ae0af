use Rattle.std.proofs.Common.{subst}
use Rattle.lf_checks.specs.Faults.{here}
use Rattle.tw_mode.specs.Groups.{NamedOutcome}
use Rattle.tw_mode.proofs.check.told.Goals as goal

pub returns-in-Some : goal.returns-in-Some
returns-in-Some c = λ Σ t n e h. here e (subst (NamedOutcome Σ t n.clause) c.in-Some.is h)
