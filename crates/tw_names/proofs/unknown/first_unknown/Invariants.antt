use Rattle.std.proofs.Common.{◌≡◌, reverse}
use Rattle.tw_parse.specs.View.{term_of}
use Rattle.tw_names.specs.Earliest.{earliest}
use Rattle.tw_names.specs.Unknown.{unknown_names}
use Rattle.tw_names.specs.Waiting.{names_left, scope_left, work}
use Rattle.tw_names.proofs.unknown.first_unknown.Given as goal

abbrev pub invariant-loop-next : goal.invariant-loop-next
invariant-loop-next l = record {
  names : earliest l.found (names_left l.signature l.scope (reverse l.waiting.items)) ≡ earliest l.fn.before (unknown_names l.signature l.fn.scope (term_of l.fn.term));
  scope : scope_left l.scope (reverse l.waiting.items) ≡ l.fn.scope;
}

abbrev pub decreases-loop-next : goal.decreases-loop-next
decreases-loop-next l = work l.waiting.items
