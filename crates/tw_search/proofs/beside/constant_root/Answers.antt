use Rattle.std.proofs.Common.{◌≡◌, arith}
use Rattle.lf.specs.Syntax.{metavariable, nil, root}
use Rattle.tw_terms.specs.OpenView.{open_spine_of, open_term_of}
use Rattle.tw_open.proofs.Steps.{steps}
use Rattle.tw_search.specs.Beside.{leads_to_itself}
use Rattle.tw_search.proofs.BesideWalks.{leads_on, leads_to_value}
use Rattle.tw_search.proofs.beside.constant_root.Goals as goal

pub loop-init : goal.loop-init
loop-init c = leads_to_itself

pub loop-preserved : goal.loop-preserved
loop-preserved c =
    let m = c.in-Root-Meta-default.meta.0 in
    let S = open_spine_of c.in-Root-Meta-default.spine in
    let e : open_term_of c.loop.here.now ≡ root (metavariable m) S = grind (arith, steps) in
    let n : S ≡ nil = grind (arith, steps) in
    leads_on c.loop.invariant (leads_to_value c.args.store.now.now m (open_term_of c.loop.here.now) (open_term_of c.in_ok-here-in-Root-Meta-default.here.now) S c.requires c.in_ok-here-in-Root-Meta-default.ensures e n)
