use Rattle.tw_approx.specs.Answer.{rows_of}
use Rattle.tw_elaborate.specs.Bodies.{open_body_of}
use Rattle.tw_elaborate.specs.View.{numbers_of}
use Rattle.tw_written.specs.View.{written_body_of}
use Rattle.tw_recon.proofs.Entering.{settled}
use Rattle.tw_recon.proofs.completing.is_settled.Goals as goal

pub returns-clause-settled : goal.returns-clause-settled
returns-clause-settled c = settled c.args.signature.now c.is_canonical.ensures (rows_of c.args.solution.now.rows.items) (written_body_of c.args.solution.now.written) (numbers_of c.args.solution.now.frees.items) (open_body_of c.args.solution.now.body) c.args.solution.now.store.now c.requires.solved
