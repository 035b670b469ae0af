use Rattle.tw_elaborate.specs.Unascribed.{IsUnascribed}
use Rattle.tw_written.specs.View.{written_type_of}
use Rattle.tw_elaborate.proofs.parts.unascribed.Given as goal

-- what is left without some of the kinds
abbrev pub invariant-loop-rest : goal.invariant-loop-rest
invariant-loop-rest l = IsUnascribed (written_type_of l.fn.written) (written_type_of l.rest)
