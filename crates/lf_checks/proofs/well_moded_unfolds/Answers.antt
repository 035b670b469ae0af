use Rattle.lf_checks.proofs.Unfolds.{both_ways}
use Rattle.lf_checks.proofs.well_moded_unfolds.Goals as goal

pub returns : goal.returns
returns c = both_ways
