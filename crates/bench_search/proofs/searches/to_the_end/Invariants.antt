use Rattle.tw_search.specs.Standing.{IsSearch}
use Rattle.bench_search.proofs.searches.to_the_end.Given as goal

-- there is a search still
abbrev pub invariant-loop : goal.invariant-loop
invariant-loop l = IsSearch l.signature l.search
