use Rattle.std.proofs.Common.{◌≡◌, vec_len}
use Rattle.tw_parse.specs.Piles.{settle, stack_of}
use Rattle.tw_parse.specs.View.{term_of}
use Rattle.tw_parse.proofs.pile.settle.Given as goal

abbrev pub invariant-loop-top : goal.invariant-loop-top
invariant-loop-top l = settle (stack_of l.pending.items) (record { term = term_of l.term; level = l.level }) l.next ≡ settle (stack_of l.initial.pending.items) (record { term = term_of l.initial.term; level = l.initial.level }) l.next

abbrev pub decreases-loop-top : goal.decreases-loop-top
decreases-loop-top l = vec_len l.pending
