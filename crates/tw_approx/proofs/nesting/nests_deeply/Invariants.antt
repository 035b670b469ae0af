use Rattle.std.proofs.Common.{◌≡◌, nat_le}
use Rattle.lf.specs.Depth.{depth_limit}
use Rattle.tw_approx.specs.Nested.{all_within, work}
use Rattle.tw_approx.specs.Nesting.{text_depth}
use Rattle.tw_parse.specs.View.{term_of}
use Rattle.tw_approx.proofs.nesting.nests_deeply.Given as goal

-- the text is within the limit if what waits is
abbrev pub invariant-loop-next : goal.invariant-loop-next
invariant-loop-next l = all_within l.signature l.waiting.items ≡ nat_le (text_depth l.signature (term_of l.fn.term)) depth_limit

abbrev pub decreases-loop-next : goal.decreases-loop-next
decreases-loop-next l = work l.waiting.items
