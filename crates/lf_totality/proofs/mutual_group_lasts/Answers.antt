use Rattle.lf_totality.proofs.ExamplesGroups.{mutual_group_lasts}
use Rattle.lf_totality.proofs.mutual_group_lasts.Goals as goal

pub returns : goal.returns
returns c = mutual_group_lasts
