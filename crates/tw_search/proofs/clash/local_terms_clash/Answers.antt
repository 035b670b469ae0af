use Rattle.tw_putting.specs.Stores.{bindings_of}
use Rattle.tw_terms.specs.OpenView.{open_term_of}
use Rattle.tw_search.specs.Clashing.{rigid_of}
use Rattle.tw_search.proofs.OneTry.{on_true}
use Rattle.tw_search.proofs.RigidHeads.{apart_moved}
use Rattle.tw_search.proofs.clash.local_terms_clash.Goals as goal

pub returns-in-Some-rigid_head : goal.returns-in-Some-rigid_head
returns-in-Some-rigid_head c =
    on_true c.differ_moved.result (apart_moved (bindings_of c.args.store.now.now) c.args.binders c.args.by (open_term_of c.args.index.now) (open_term_of c.args.arg.now) (rigid_of c.in-Some-rigid_head.found) (rigid_of c.in-Some.wanted) c.in-Some-rigid_head.ensures c.in-Some.ensures) c.differ_moved.ensures
