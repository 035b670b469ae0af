use Rattle.std.proofs.Common.{◌≡◌, None, reverse}
use Rattle.tw_names.specs.Earliest.{earliest}
use Rattle.tw_parse.specs.View.{term_of}
use Rattle.tw_recon.specs.FreeNames.{free_names}
use Rattle.tw_recon.specs.Waiting.{frees_left, work}
use Rattle.tw_recon.proofs.free.first_free.Given as goal

-- what was found so far and what waits
abbrev pub invariant-loop-next : goal.invariant-loop-next
invariant-loop-next l = earliest l.found (frees_left l.signature l.scope (reverse l.waiting.items)) ≡ earliest None (free_names l.signature l.fn.scope (term_of l.fn.term))

abbrev pub decreases-loop-next : goal.decreases-loop-next
decreases-loop-next l = work l.waiting.items
