use Rattle.std.proofs.Common.{◌≡◌, vec_len}
use Rattle.tw_parse.specs.Piles.{settle_all, stack_of}
use Rattle.tw_parse.specs.View.{term_of}
use Rattle.tw_parse.proofs.pile.settle_all.Given as goal

abbrev pub invariant-loop-top : goal.invariant-loop-top
invariant-loop-top l = settle_all (stack_of l.pending.items) (record { term = term_of l.term; level = l.level }) ≡ settle_all (stack_of l.initial.pending.items) (record { term = term_of l.initial.term; level = l.initial.level })

abbrev pub decreases-loop-top : goal.decreases-loop-top
decreases-loop-top l = vec_len l.pending
