use Rattle.std.proofs.Common.{◌≡◌, ◌+◌, ◌<◌, ◌≤◌, length, drop, get_or, Err, ap, sym, refl, ◌∙◌, arith, rules}
use Rattle.lf.specs.Depth.{depth_limit}
use Rattle.lf.specs.Syntax.{arrow, lambda, skeleton}
use Rattle.tw_terms.specs.OpenView.{open_args_of, open_spine_of, open_term_of, open_type_of}
use Rattle.tw_hered.specs.declared.fault.HeredFault.TheVariants.{TooDeep}
use Rattle.tw_elaborate.proofs.Naming.{argument_fits, next_spine, taken_all, taken_at, taken_deep, taken_next}
use Rattle.tw_open.proofs.Steps.{steps}
use Rattle.tw_elaborate.proofs.heads.on_arguments.Goals as goal

pub substitute-requires : goal.substitute-requires
substitute-requires c =
    let ts = c.args.spine.now.args.items in
    let i = c.loop-arg.arg-index in
    let M = open_term_of c.deref.result.now in
    let A = open_type_of c.deref-in-Lam-Pi.result.now in
    let B = open_type_of c.in-Lam-Pi.range.value in
    let m : open_term_of c.loop-arg.body ≡ lambda M = grind (arith, steps) in
    let a : skeleton (open_type_of c.loop-arg.rest.now) ≡ arrow (skeleton A) (skeleton B) = grind (arith, steps) in
    let h : i < length ts = omega arith in
    let s = next_spine ts i c.arg-item.result h (c.arg-item.is ∙ ap (λ l. get_or l i c.arg-item.result) c.deref-arg-items.ensures.value) in
    let t = taken_at depth_limit (skeleton (open_type_of c.args.ty.now)) (open_term_of c.args.term) (open_spine_of c.args.spine.now) _ _ _ _ _ _ a m s c.loop-arg.invariant in
    argument_fits (skeleton A) (skeleton B) M (open_term_of c.arg-item.result) (open_args_of (drop (i + 1) ts)) t.gives

pub returns-in_err-body-in-Lam-Pi-clause-too_deep : goal.returns-in_err-body-in-Lam-Pi-clause-too_deep
returns-in_err-body-in-Lam-Pi-clause-too_deep c = λ is.
    let ts = c.args.spine.now.args.items in
    let i = c.loop-arg.arg-index in
    let M = open_term_of c.deref.result.now in
    let A = open_type_of c.deref-in-Lam-Pi.result.now in
    let B = open_type_of c.in-Lam-Pi.range.value in
    let m : open_term_of c.loop-arg.body ≡ lambda M = grind (arith, steps) in
    let a : skeleton (open_type_of c.loop-arg.rest.now) ≡ arrow (skeleton A) (skeleton B) = grind (arith, steps) in
    let h : i < length ts = omega arith in
    let s = next_spine ts i c.arg-item.result h (c.arg-item.is ∙ ap (λ l. get_or l i c.arg-item.result) c.deref-arg-items.ensures.value) in
    let t = taken_at depth_limit (skeleton (open_type_of c.args.ty.now)) (open_term_of c.args.term) (open_spine_of c.args.spine.now) _ _ _ _ _ _ a m s c.loop-arg.invariant in
    let e : c.from_residual.result ≡ Err c.in_err-body-in-Lam-Pi.field-0.0 = search rules in
    let f : c.in_err-body-in-Lam-Pi.field-0.0 ≡ TooDeep = cc (e, is) in
    taken_deep depth_limit (skeleton (open_type_of c.args.ty.now)) (open_term_of c.args.term) (open_spine_of c.args.spine.now) (skeleton A) (skeleton B) M (open_term_of c.arg-item.result) (open_args_of (drop (i + 1) ts)) t
    (c.in_err-body-in-Lam-Pi.ensures.too_deep (ap Err f))

pub loop-arg-preserved : goal.loop-arg-preserved
loop-arg-preserved c =
    let ts = c.args.spine.now.args.items in
    let i = c.loop-arg.arg-index in
    let M = open_term_of c.deref.result.now in
    let A = open_type_of c.deref-in-Lam-Pi.result.now in
    let B = open_type_of c.deref-rest.result.now in
    let m : open_term_of c.loop-arg.body ≡ lambda M = grind (arith, steps) in
    let a : skeleton (open_type_of c.loop-arg.rest.now) ≡ arrow (skeleton A) (skeleton B) = grind (arith, steps) in
    let h : i < length ts = omega arith in
    let s = next_spine ts i c.arg-item.result h (c.arg-item.is ∙ ap (λ l. get_or l i c.arg-item.result) c.deref-arg-items.ensures.value) in
    let t = taken_at depth_limit (skeleton (open_type_of c.args.ty.now)) (open_term_of c.args.term) (open_spine_of c.args.spine.now) _ _ _ _ _ _ a m s c.loop-arg.invariant in
    let n = taken_next depth_limit (skeleton (open_type_of c.args.ty.now)) (open_term_of c.args.term) (open_spine_of c.args.spine.now) (skeleton A) (skeleton B) M (open_term_of c.arg-item.result) (open_args_of (drop (i + 1) ts)) t in
    taken_at depth_limit (skeleton (open_type_of c.args.ty.now)) (open_term_of c.args.term) (open_spine_of c.args.spine.now) _ _ _ _ _ _ refl (sym c.in_ok-body-in-Lam-Pi.ensures.ok) refl n

pub returns-clause-ok : goal.returns-clause-ok
returns-clause-ok c =
    let ts = c.args.spine.now.args.items in
    let h : length ts ≤ c.loop-arg.arg-index = omega arith in
    taken_all depth_limit (skeleton (open_type_of c.args.ty.now)) (open_term_of c.args.term) (open_spine_of c.args.spine.now) (skeleton (open_type_of c.loop-arg.rest.now)) (open_term_of c.loop-arg.body) ts c.loop-arg.arg-index h c.loop-arg.invariant
