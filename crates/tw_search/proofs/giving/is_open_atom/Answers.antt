use Rattle.std.proofs.Common.{◌≡◌, None, arith, sym}
use Rattle.tw_metas.specs.State.{value_of}
use Rattle.tw_search.proofs.GivingPairs.{open_atom}
use Rattle.tw_search.proofs.OneTry.{on_true}
use Rattle.tw_search.proofs.giving.is_open_atom.Goals as goal

pub returns-in-Some : goal.returns-in-Some
returns-in-Some c =
    let s = c.args.store.now.now in
    let m = c.args.meta.0 in
    let none : value_of s m ≡ None = grind arith in
    on_true c.is_atom.result (open_atom s m _ c.requires (sym c.in-Some.ensures) none) c.is_atom.ensures
