use Rattle.std.proofs.Common.{◌≡◌, ◌+◌, Some, ◌∙◌, ap, sym, drop, arith}
use Rattle.std.specs.Prelude.{option_map}
use Rattle.lf.specs.Eta.{append}
use Rattle.tw_terms.specs.OpenView.{open_args_of, open_term_of}
use Rattle.tw_prune.specs.View.{table_of}
use Rattle.tw_prune.specs.Walks.{unrenamed, unrenamed_spine}
use Rattle.tw_prune.proofs.Walking.{append-nil, next_taken_back, rest_is, walks}
use Rattle.tw_prune.proofs.unrename.+unrename.Goals as goal

pub unrename_spine-loop-arg-preserved : goal.unrename_spine-loop-arg-preserved
unrename_spine-loop-arg-preserved t c =
    let e : Some (open_term_of c.in-Some.arg) ≡ unrenamed (table_of c.args.inverse.now) c.args.binders (open_term_of c.arg-item.result) = ap (option_map open_term_of) (sym c.in-Some.is) ∙ c.in_ok-arg.ensures in
    let r = rest_is c.deref-arg-items.result.now c.loop-arg.arg-index c.arg-item.result (omega arith) c.arg-item.is in
    ap (λ ts. option_map (append (open_args_of ts)) (unrenamed_spine (table_of c.args.inverse.now) c.args.binders (open_args_of (drop (c.loop-arg.arg-index + 1) c.deref-arg-items.result.now)))) (grind (arith, walks))
    ∙ sym (next_taken_back (table_of c.args.inverse.now) c.args.binders c.loop-arg.args.items c.in-Some.arg (open_term_of c.arg-item.result) (unrenamed_spine (table_of c.args.inverse.now) c.args.binders (open_args_of (drop (c.loop-arg.arg-index + 1) c.deref-arg-items.result.now))) e)
    ∙ ap (λ R. option_map (append (open_args_of c.loop-arg.args.items)) (unrenamed_spine (table_of c.args.inverse.now) c.args.binders R)) (sym r) ∙ c.loop-arg.invariant

pub unrename_spine-returns : goal.unrename_spine-returns
unrename_spine-returns t c = grind (arith, walks, append-nil)
