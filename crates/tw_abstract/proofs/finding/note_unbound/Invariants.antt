use Rattle.std.proofs.Common.{◌≡◌}
use Rattle.tw_abstract.specs.Occurrences.{noted}
use Rattle.tw_abstract.specs.Quantifiers.{unbound_below}
use Rattle.tw_abstract.proofs.finding.note_unbound.Given as goal

-- those below the number
abbrev pub invariant-loop-number : goal.invariant-loop-number
invariant-loop-number l = l.found ≡ noted l.fn.found (unbound_below l.store.now l.number)
