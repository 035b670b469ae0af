use Rattle.lf.specs.Entries.{signature_of}
use Rattle.lf_checks.specs.WorldFaults.{ClauseIsWorlded}
use Rattle.lf_checks.proofs.Joined.{group_passes}
use Rattle.lf_checks.proofs.worlded_group_is_listed.Goals as goal

pub returns : goal.returns
returns c = λ entries rows group below W. group_passes (ClauseIsWorlded (signature_of entries) rows group below W) entries W group
