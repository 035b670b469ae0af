use Rattle.std.proofs.Common.{◌≡◌, ◌≤◌, ◌+◌, ◌&&◌, suc, true, nat_le}
use Rattle.tw_approx.specs.Nested.{all_within, work}
use Rattle.tw_approx.specs.Nesting.{is_kept, written_depth}
use Rattle.tw_names.specs.Waiting.{size}
use Rattle.tw_parse.specs.View.{term_of}
use Rattle.tw_approx.proofs.nesting.wait_for_arguments.Given as goal

-- what is left of the row is kept as well, and counts with what waits
abbrev pub invariant-loop-rest : goal.invariant-loop-rest
invariant-loop-rest l = record {
  kept : is_kept l.signature (term_of l.rest) ≡ true;
  within : (nat_le (written_depth l.signature (term_of l.rest)) (suc l.left) && all_within l.signature l.waiting.items) ≡ (nat_le (written_depth l.signature (term_of l.fn.row)) (suc l.left) && all_within l.signature l.fn.waiting.items);
  work : size (term_of l.rest) + work l.waiting.items ≤ size (term_of l.fn.row) + work l.fn.waiting.items;
}
