use Rattle.tw_open.specs.Fits.{KindStands}
use Rattle.tw_elaborate.specs.Fresh.{Keeps}
use Rattle.tw_open.specs.View.{open_kind_of}
use Rattle.tw_elaborate.specs.View.{made}
use Rattle.tw_elaborate.proofs.Taking.{KindTakesBefore}
use Rattle.tw_elaborate.proofs.fresh.kind_take_new.Given as goal

-- the arguments so far, and what the rest of the kind gives
abbrev pub invariant-loop : goal.invariant-loop
invariant-loop l = record {
  stands : KindStands (made l.state) l.state.locals (open_kind_of l.rest);
  keeps : Keeps l.fn.state l.state;
  so_far : KindTakesBefore l.count l.fn.state.locals (open_kind_of l.fn.kind) (made l.fn.state) l.counter (open_kind_of l.rest) (made l.state) l.args.items;
}
