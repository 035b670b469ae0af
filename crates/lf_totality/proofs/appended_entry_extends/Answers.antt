use Rattle.lf_totality.proofs.Appended.{appended_extends}
use Rattle.lf_totality.proofs.appended_entry_extends.Goals as goal

pub returns : goal.returns
returns c = appended_extends
