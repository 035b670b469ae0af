use Rattle.tw_putting.specs.Stores.{bindings_of}
use Rattle.tw_terms.specs.OpenView.{open_term_of}
use Rattle.tw_terms.specs.View.{term_of}
use Rattle.tw_search.specs.Clashing.{rigid_of}
use Rattle.tw_search.proofs.OneTry.{on_true}
use Rattle.tw_search.proofs.RigidHeads.{apart_from}
use Rattle.tw_search.proofs.clash.terms_clash.Goals as goal

pub returns-in-Some-rigid_head : goal.returns-in-Some-rigid_head
returns-in-Some-rigid_head c =
    on_true c.differ.result (apart_from (bindings_of c.args.store.now.now) (open_term_of c.args.index.now) (term_of c.args.arg.now) (rigid_of c.in-Some-rigid_head.found) (rigid_of c.in-Some.wanted) c.in-Some-rigid_head.ensures c.in-Some.ensures) c.differ.ensures
