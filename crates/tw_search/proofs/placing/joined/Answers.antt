use Rattle.std.proofs.Common.{◌≡◌, ap, ap₂, arith, sym, ◌∙◌}
use Rattle.lf.specs.Syntax.{nil}
use Rattle.lf.specs.Eta.{append}
use Rattle.tw_terms.specs.OpenView.{open_args_of, open_spine_of}
use Rattle.tw_terms.proofs.OpenViews.{open_spine_of-roll}
use Rattle.tw_prune.proofs.Walking.{append-nil}
use Rattle.tw_search.proofs.Applied.{applying, args_joined}
use Rattle.tw_search.proofs.placing.joined.Goals as goal

pub returns : goal.returns
returns c =
    open_spine_of-roll c.append.new.self
    ∙ ap open_args_of c.in_ok-append.ensures.items
    ∙ args_joined c.args.before.args.items c.args.behind.args.items
    ∙ ap₂ append (sym (open_spine_of-roll c.args.before.args)) (sym (open_spine_of-roll c.args.behind.args))

pub returns-then-is_empty-2 : goal.returns-then-is_empty-2
returns-then-is_empty-2 c =
    let B = open_spine_of c.args.before in
    let e : open_spine_of c.args.behind ≡ nil = grind (arith, applying) in
    sym (ap (append B) e ∙ append-nil B)
