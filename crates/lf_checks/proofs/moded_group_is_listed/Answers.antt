use Rattle.lf.specs.Entries.{signature_of}
use Rattle.lf_checks.specs.ModeRows.{is_moded, marks_of}
use Rattle.lf_checks.specs.Modes.{WellModed}
use Rattle.lf_checks.proofs.Joined.{group_passes}
use Rattle.lf_checks.proofs.moded_group_is_listed.Goals as goal

pub returns : goal.returns
returns c = λ entries rows W group. group_passes (WellModed (signature_of entries) (marks_of rows) (is_moded rows)) entries W group
