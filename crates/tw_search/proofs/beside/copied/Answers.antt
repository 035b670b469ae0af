use Rattle.std.proofs.Common.{◌≡◌, ap, arith, sym, ◌∙◌}
use Rattle.lf.specs.Syntax.{nil, root}
use Rattle.tw_terms.specs.OpenView.{open_args_of, open_head_of, open_spine_of, open_term_of}
use Rattle.tw_terms.specs.declared.open_terms.OpenSpine.{roll-OpenSpine}
use Rattle.tw_terms.proofs.OpenViews.{open_spine_of-roll, open_term_of-Root}
use Rattle.tw_open.proofs.Steps.{steps}
use Rattle.tw_search.proofs.beside.copied.Goals as goal

pub returns-then-is_empty : goal.returns-then-is_empty
returns-then-is_empty c =
    let h = c.in-Root.head in
    let S = open_spine_of c.in-Root.spine in
    let v = c.new.result in
    let e : open_term_of c.args.term.now ≡ root (open_head_of h) S = grind (arith, steps) in
    let n : S ≡ nil = grind (arith, steps) in
    open_term_of-Root h (roll-OpenSpine (record { args = v })) ∙ ap (root (open_head_of h)) (open_spine_of-roll v ∙ ap open_args_of c.new.ensures.items ∙ sym n) ∙ sym e
