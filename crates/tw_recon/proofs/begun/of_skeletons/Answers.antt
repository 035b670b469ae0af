use Rattle.std.proofs.Common.{subst}
use Rattle.tw_approx.specs.Answer.{HasCause}
use Rattle.tw_recon.proofs.Completed.{clash_mismatch}
use Rattle.tw_recon.proofs.begun.of_skeletons.Goals as goal

pub returns-in-Clash : goal.returns-in-Clash
returns-in-Clash c = λ es d h. let (within, o, clash) = subst (HasCause es d) c.in-Clash.is h in clash_mismatch es d o clash
