use Rattle.tw_written.specs.Dropping.{weight_left}
use Rattle.tw_written.proofs.dropping.let_go.Given as goal

abbrev pub decreases-loop-next : goal.decreases-loop-next
decreases-loop-next l = weight_left l.left
