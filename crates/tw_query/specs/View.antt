-- What the values of the program stand for.
use Rattle.lf_search.specs.Bounded as search
use Rattle.tw_query.specs.declared.run.Bound.{Bound}
use Rattle.tw_query.specs.declared.run.Bound.TheVariants as bounds
use Rattle.tw_query.specs.declared.run.QueryEnd.{QueryEnd}
use Rattle.tw_query.specs.declared.run.QueryEnd.TheVariants as ends

abbrev pub bound_of : Bound → search.Bound
bound_of (bounds.Number t) = search.number t
bound_of bounds.Star = search.star

abbrev pub end_of : QueryEnd → search.QueryEnd
end_of ends.Stopped = search.stopped
end_of ends.Exhausted = search.exhausted
end_of ends.Incomplete = search.incomplete
