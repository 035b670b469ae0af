use Rattle.std.proofs.Common.{◌≡◌, length, map, reverse}
use Rattle.tw_terms.specs.View.{term_of}
use Rattle.tw_search.specs.Leaves.{AreValuesRead}
use Rattle.tw_search.proofs.answer.read_values.Given as goal

-- the values so far
abbrev pub invariant-loop-variable : goal.invariant-loop-variable
invariant-loop-variable l = record {
  read : AreValuesRead l.store.now l.quantifiers.positions (reverse (map term_of l.values.items));
  count : length (reverse (map term_of l.values.items)) ≡ l.variable;
}
