use Rattle.lf_coverage.proofs.RenumberedBack.{returned_store}
use Rattle.lf_coverage.proofs.RenumberedNumbers.{numbers_extend}
use Rattle.lf_coverage.proofs.RenumberedScope.{numbers_are_renumbering}
use Rattle.lf_coverage.proofs.numbers_extend.Goals as goal

pub returns-clause-extend : goal.returns-clause-extend
returns-clause-extend c = numbers_extend

pub returns-clause-store : goal.returns-clause-store
returns-clause-store c = numbers_are_renumbering

pub returns-clause-undone : goal.returns-clause-undone
returns-clause-undone c = returned_store
