use Rattle.std.specs.Prelude.{[]}
use Rattle.lf_checks.specs.OrderFaults.{blocks_of}
use Rattle.lf_checks.proofs.Joined.{one_join, joined_blocks}
use Rattle.lf_checks.proofs.joined_blocks_are_of_families.Goals as goal

pub returns : goal.returns
returns c = λ rows families W h. ((λ V k. one_join [] (blocks_of rows families) W V h k), joined_blocks rows families W h)
