use Rattle.tw_abstract.proofs.Noting.{argument_noted, extends_then}
use Rattle.tw_abstract.proofs.occurrences.+noting.Goals as goal

pub note_spine-loop-arg-preserved : goal.note_spine-loop-arg-preserved
note_spine-loop-arg-preserved t c = record {
  whole = argument_noted _ c.loop-arg.found c.note_term.new.found c.deref-arg-items.result.now c.loop-arg.arg-index c.arg-item.result c.loop-arg-test.true c.arg-item.is c.in_ok-note_term.ensures.noted c.loop-arg.invariant.whole;
  kept = extends_then _ c.loop-arg.found c.note_term.new.found c.loop-arg.invariant.kept c.note_term.ensures.kept;
}
