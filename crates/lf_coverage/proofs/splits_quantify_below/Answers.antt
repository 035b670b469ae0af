use Rattle.lf_coverage.proofs.SubordinateItems.{split_items_quantify_below, outputs_quantify_below}
use Rattle.lf_coverage.proofs.SubordinateRaised.{occurring_is_below, raised_quantifies_below}
use Rattle.lf_coverage.proofs.SubordinateRuns.{solved_quantifies_below}
use Rattle.lf_coverage.proofs.splits_quantify_below.Goals as goal

pub returns-clause-occurring : goal.returns-clause-occurring
returns-clause-occurring c = occurring_is_below

pub returns-clause-raised : goal.returns-clause-raised
returns-clause-raised c = raised_quantifies_below

pub returns-clause-items : goal.returns-clause-items
returns-clause-items c = split_items_quantify_below

pub returns-clause-outputs : goal.returns-clause-outputs
returns-clause-outputs c = outputs_quantify_below

pub returns-clause-solved : goal.returns-clause-solved
returns-clause-solved c = solved_quantifies_below
