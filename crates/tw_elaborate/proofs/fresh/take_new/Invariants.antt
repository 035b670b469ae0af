use Rattle.tw_terms.specs.OpenView.{open_type_of}
use Rattle.tw_open.specs.Fits.{TypeStands}
use Rattle.tw_elaborate.specs.Fresh.{Keeps}
use Rattle.tw_elaborate.specs.View.{made}
use Rattle.tw_elaborate.proofs.Taking.{TakesBefore}
use Rattle.tw_elaborate.proofs.fresh.take_new.Given as goal

-- the arguments so far, and what the rest of the type gives
abbrev pub invariant-loop : goal.invariant-loop
invariant-loop l = record {
  stands : TypeStands (made l.state) l.state.locals (open_type_of l.rest);
  keeps : Keeps l.fn.state l.state;
  so_far : TakesBefore l.count l.fn.state.locals (open_type_of l.fn.ty) (made l.fn.state) l.counter (open_type_of l.rest) (made l.state) l.args.items;
}
