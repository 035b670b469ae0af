use Rattle.lf_coverage.proofs.Families.{split_items_keep_families}
use Rattle.lf_coverage.proofs.split_items_keep_families.Goals as goal

pub returns : goal.returns
returns c = split_items_keep_families
