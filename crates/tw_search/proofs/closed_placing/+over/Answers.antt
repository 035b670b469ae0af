use Rattle.std.proofs.Common.{◌≡◌, ap, arith, subst, sym, ◌∙◌}
use Rattle.lf.specs.Syntax.{lambda, nil, root}
use Rattle.tw_terms.specs.OpenView.{open_args_of, open_head_of, open_spine_of, open_term_of}
use Rattle.tw_terms.specs.View.{head_of, spine_of, term_of}
use Rattle.tw_terms.specs.declared.open_terms.Open.TheVariants.{Lam, Root}
use Rattle.tw_terms.specs.declared.open_terms.OpenSpine.{roll-OpenSpine}
use Rattle.tw_terms.proofs.OpenViews.{open_spine_of-roll, open_term_of-Root}
use Rattle.tw_search.specs.Applied.{IsStart, taken_at}
use Rattle.tw_search.proofs.Applied.{applied_to_nothing, applied_under_lambda, applying}
use Rattle.tw_search.proofs.closed_placing.+over.Goals as goal

pub closed_parts_over-returns-in_ok-new-in-Lam : goal.closed_parts_over-returns-in_ok-new-in-Lam
closed_parts_over-returns-in_ok-new-in-Lam t c =
    let M = term_of c.deref.result.now in
    let B = open_term_of c.in_ok-body-in-Lam.body in
    let e : term_of c.args.term.now ≡ lambda M = grind (arith, applying) in
    let r : open_term_of (Lam c.in_ok-new-in-Lam.field-0) ≡ lambda B = grind (arith, applying) in
    applied_under_lambda (open_spine_of c.args.arguments.now) c.args.metas.now c.args.binders c.in_ok-inside-in-Lam.inside (term_of c.args.term.now) M B _ c.in_ok-inside-in-Lam.ensures e c.in_ok-body-in-Lam.ensures r

pub closed_term_over-returns-then-is_empty-2 : goal.closed_term_over-returns-then-is_empty-2
closed_term_over-returns-then-is_empty-2 t c =
    let L = open_spine_of c.args.arguments.now in
    let ms = c.args.metas.now in
    let h = head_of c.in-Root.head in
    let g = c.alone_over-alone.result in
    let S = spine_of c.in-Root.spine in
    let v = c.new.result in
    let e : term_of c.args.term.now ≡ root h S = grind (arith, applying) in
    let z : S ≡ nil = grind (arith, applying) in
    let n : L ≡ nil = grind (arith, applying) in
    let r : open_term_of (Root g (roll-OpenSpine (record { args = v }))) ≡ root (open_head_of g) nil = open_term_of-Root g (roll-OpenSpine (record { args = v })) ∙ ap (root (open_head_of g)) (open_spine_of-roll v ∙ ap open_args_of c.new.ensures.items) in
    let alone : IsStart (taken_at L ms c.args.binders) h (open_head_of g) nil = subst (λ K. IsStart (taken_at K ms c.args.binders) h (open_head_of g) nil) (sym n) c.alone_over-alone.ensures in
    applied_to_nothing (taken_at L ms c.args.binders) h (open_head_of g) nil S (term_of c.args.term.now) _ e z alone r

pub closed_parts_over-returns-then-is_empty : goal.closed_parts_over-returns-then-is_empty
closed_parts_over-returns-then-is_empty t c =
    let start = c.in_ok-start-in-Root.start in
    let h = head_of c.in-Root.head in
    let S = spine_of c.in-Root.spine in
    let e : term_of c.args.term.now ≡ root h S = grind (arith, applying) in
    let n : S ≡ nil = grind (arith, applying) in
    let r : open_term_of (Root start.head start.arguments) ≡ root (open_head_of start.head) (open_spine_of start.arguments) = grind (arith, applying) in
    applied_to_nothing (taken_at (open_spine_of c.args.arguments.now) c.args.metas.now c.args.binders) h (open_head_of start.head) (open_spine_of start.arguments) S (term_of c.args.term.now) _ e n c.in_ok-start-in-Root.ensures r
