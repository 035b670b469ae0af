use Rattle.lf_checks.proofs.EndDecided.{end_decided}
use Rattle.lf_checks.proofs.end_passes_or_fails.Goals as goal

pub returns : goal.returns
returns c = end_decided
