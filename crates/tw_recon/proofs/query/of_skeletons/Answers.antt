use Rattle.std.proofs.Common.{inl, subst}
use Rattle.tw_approx.specs.Answer.{HasQueryCause}
use Rattle.tw_recon.proofs.query.of_skeletons.Goals as goal

pub returns-in-Clash : goal.returns-in-Clash
returns-in-Clash c = λ es A h. inl (subst (HasQueryCause es A) c.in-Clash.is h)
