use Rattle.std.proofs.Common.{◌≡◌, arith}
use Rattle.lf.specs.Syntax.{atom}
use Rattle.tw_open.proofs.Steps.{steps}
use Rattle.tw_putting.specs.Stores.{bindings_of}
use Rattle.tw_terms.specs.OpenView.{open_spine_of, open_type_of}
use Rattle.tw_search.proofs.OneTry.{on_true}
use Rattle.tw_search.proofs.RigidHeads.{moved_clashes, passed_all, same_arguments}
use Rattle.tw_search.proofs.clash.local_clashes.Goals as goal

pub returns-in-Atom : goal.returns-in-Atom
returns-in-Atom c =
    let A = open_type_of c.args.ty.now in
    let R = open_type_of c.loop-rest.rest.now in
    let T = open_spine_of c.in-Atom.spine in
    let e : R ≡ atom c.in-Atom.field-0.0 T = grind (arith, steps) in
    on_true c.local_spines_clash.result (moved_clashes (bindings_of c.args.store.now.now) (open_spine_of c.args.indices.now) T A c.loop-rest.binders c.args.by (passed_all A R c.in-Atom.field-0.0 c.loop-rest.binders T e c.loop-rest.invariant.1) (same_arguments A R c.in-Atom.field-0.0 T e c.loop-rest.invariant.0)) c.local_spines_clash.ensures
