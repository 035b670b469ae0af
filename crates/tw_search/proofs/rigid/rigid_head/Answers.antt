use Rattle.tw_putting.specs.Stores.{bindings_of}
use Rattle.tw_terms.specs.OpenView.{open_term_of}
use Rattle.tw_terms.specs.View.{head_of}
use Rattle.tw_search.proofs.RigidHeads.{head_as_placed}
use Rattle.tw_search.proofs.rigid.rigid_head.Goals as goal

pub returns : goal.returns
returns c =
    head_as_placed (bindings_of c.args.store.now.now) (open_term_of c.args.term.now) (open_term_of c.in_ok-inside.inside.now) c.in_ok-inside.lambdas c.args.binders (head_of c.in_ok-outer_head.field-0) c.placed.result c.in_ok-inside.ensures c.in_ok-outer_head.ensures c.placed.ensures
