use Rattle.tw_search.specs.Standing.{IsSearch}
use Rattle.tests_search.proofs.searching.searched.Given as goal

-- there is a search still
abbrev pub invariant-loop-word : goal.invariant-loop-word
invariant-loop-word l = IsSearch l.signature l.search
