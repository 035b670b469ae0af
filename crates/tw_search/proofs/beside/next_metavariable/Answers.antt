use Rattle.std.proofs.Common.{◌≡◌, arith}
use Rattle.lf.specs.Syntax.{metavariable, nil, root}
use Rattle.tw_terms.specs.OpenView.{open_spine_of, open_term_of}
use Rattle.tw_open.proofs.Steps.{steps}
use Rattle.tw_search.proofs.BesideWalks.{leads_to_value}
use Rattle.tw_search.proofs.beside.next_metavariable.Goals as goal

pub returns-then-is_empty : goal.returns-then-is_empty
returns-then-is_empty c =
    let m = c.in-Root-Meta-default.meta.0 in
    let S = open_spine_of c.in-Root-Meta-default.spine in
    let e : open_term_of c.args.term.now ≡ root (metavariable m) S = grind (arith, steps) in
    let n : S ≡ nil = grind (arith, steps) in
    leads_to_value c.args.store.now.now m (open_term_of c.args.term.now) (open_term_of c.in_ok-value-in-Root-Meta-default.value.now) S c.requires c.in_ok-value-in-Root-Meta-default.ensures e n
