use Rattle.std.proofs.Common.{◌≡◌, ◌+◌, suc}
use Rattle.std.specs.Prelude.{drop}
use Rattle.tw_decl.specs.Termination.{place_from}
use Rattle.tw_decl.proofs.orders.place_from.Given as goal

abbrev pub invariant-loop-other : goal.invariant-loop-other
invariant-loop-other l = record {
  counted : l.place ≡ l.implicit + l.other-index;
  left : place_from (suc l.place) (drop l.other-index l.names) l.name.name ≡ place_from (suc l.implicit) l.names l.name.name;
}
