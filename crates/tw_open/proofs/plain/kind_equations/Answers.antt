use Rattle.std.proofs.Common.{◌≡◌, ◌∙◌, length, map, min, rules, take, arith}
use Rattle.lf.specs.Syntax.{kind_pi}
use Rattle.tw_hered.specs.declared.fault.HeredFault.TheVariants.{TooDeep}
use Rattle.tw_terms.specs.OpenView.{open_args_of, open_spine_of, open_type_of}
use Rattle.tw_terms.specs.View.{kind_of, type_of}
use Rattle.tw_terms.proofs.OpenViews.{open_spine_of-args}
use Rattle.tw_open.specs.Telescope.{as_type}
use Rattle.tw_open.proofs.Faults.{fault_of_call}
use Rattle.tw_open.proofs.Steps.{steps}
use Rattle.tw_open.proofs.Telescopes.{cut_args, kind_equations_are, kind_equations_deep, takes_cut}
use Rattle.tw_open.proofs.plain.kind_equations.Goals as goal

pub domains-requires : goal.domains-requires
domains-requires c =
    let ts = c.args.left.now.args.items in
    let us = c.args.right.args.items in
    let A = type_of c.in-Pi.domain.value in
    let L = kind_of c.in-Pi.range.value in
    let S = open_spine_of c.args.left.now in
    let T = open_spine_of c.args.right in
    let k : kind_of c.args.kind.now ≡ kind_pi A L = grind (arith, steps) in
    let x : open_type_of c.in_ok-ty-in-Pi.ty ≡ as_type A L = grind (arith, steps) in
    let n : c.min-count.result ≡ min (length ts) (length us) = grind (arith, steps) in
    let v = cut_args c.min-count.result c.deref-in-Pi-2.result.now ts us S T n c.deref-in-Pi-2.ensures.value (open_spine_of-args c.args.left.now) (open_spine_of-args c.args.right) in
    takes_cut c.args.locals.now (kind_of c.args.kind.now) L A (open_type_of c.in_ok-ty-in-Pi.ty) S T (open_args_of (take c.min-count.result c.deref-in-Pi-2.result.now)) k x v c.requires

pub returns-in_err-types-in-Pi-clause-too_deep : goal.returns-in_err-types-in-Pi-clause-too_deep
returns-in_err-types-in-Pi-clause-too_deep c = λ is.
    let ts = c.args.left.now.args.items in
    let us = c.args.right.args.items in
    let A = type_of c.in-Pi.domain.value in
    let L = kind_of c.in-Pi.range.value in
    let S = open_spine_of c.args.left.now in
    let T = open_spine_of c.args.right in
    let k : kind_of c.args.kind.now ≡ kind_pi A L = grind (arith, steps) in
    let x : open_type_of c.in_ok-ty-in-Pi.ty ≡ as_type A L = grind (arith, steps) in
    let n : c.min-count.result ≡ min (length ts) (length us) = grind (arith, steps) in
    let v = cut_args c.min-count.result c.deref-in-Pi-2.result.now ts us S T n c.deref-in-Pi-2.ensures.value (open_spine_of-args c.args.left.now) (open_spine_of-args c.args.right) in
    kind_equations_deep c.args.locals.now (kind_of c.args.kind.now) L A (open_type_of c.in_ok-ty-in-Pi.ty) S T (open_args_of (take c.min-count.result c.deref-in-Pi-2.result.now)) k x v c.requires
    (c.in_err-types-in-Pi.ensures.too_deep (fault_of_call c.from_residual-in_err-types-in-Pi.result c.in_err-types-in-Pi.field-0.0 TooDeep (search rules) is))

pub returns-in_ok-typed_equations-in-Pi-clause-ok : goal.returns-in_ok-typed_equations-in-Pi-clause-ok
returns-in_ok-typed_equations-in-Pi-clause-ok c =
    let ts = c.args.left.now.args.items in
    let us = c.args.right.args.items in
    let A = type_of c.in-Pi.domain.value in
    let L = kind_of c.in-Pi.range.value in
    let S = open_spine_of c.args.left.now in
    let T = open_spine_of c.args.right in
    let k : kind_of c.args.kind.now ≡ kind_pi A L = grind (arith, steps) in
    let x : open_type_of c.in_ok-ty-in-Pi.ty ≡ as_type A L = grind (arith, steps) in
    let n : c.min-count.result ≡ min (length ts) (length us) = grind (arith, steps) in
    let v = cut_args c.min-count.result c.deref-in-Pi-2.result.now ts us S T n c.deref-in-Pi-2.ensures.value (open_spine_of-args c.args.left.now) (open_spine_of-args c.args.right) in
    c.in_ok-typed_equations-in-Pi.ensures
    ∙ kind_equations_are c.args.locals.now (kind_of c.args.kind.now) L A (open_type_of c.in_ok-ty-in-Pi.ty) S T (open_args_of (take c.min-count.result c.deref-in-Pi-2.result.now)) (map open_type_of c.in_ok-types-in-Pi.types.items) k x v c.requires c.in_ok-types-in-Pi.ensures.ok
