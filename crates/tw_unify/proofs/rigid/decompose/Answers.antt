use Rattle.std.proofs.Common.{◌≡◌, Err, ap, map, rules}
use Rattle.lf.specs.Entries.{signature_of}
use Rattle.lf.proofs.Entries.{canonical_is_signature}
use Rattle.tw_metas.specs.View.{equation_of}
use Rattle.tw_terms.specs.OpenView.{open_head_of, open_spine_of, open_type_of}
use Rattle.tw_unify.specs.Outcomes.{stacked}
use Rattle.tw_unify.proofs.Variables.{arguments_fit, blames_arguments, decomposed, function_of, head_fits, left_root, right_root}
use Rattle.tw_unify.proofs.rigid.decompose.Goals as goal

pub head_of-head-requires : goal.head_of-head-requires
head_of-head-requires c = left_root (equation_of c.args.equation) c.requires.alike

pub head_type-requires : goal.head_type-requires
head_type-requires c = head_fits (signature_of c.args.signature.now) (equation_of c.args.equation) (open_head_of c.head_of-head.result) c.requires.fits c.requires.alike c.head_of-head.ensures

pub arguments_of-left-requires : goal.arguments_of-left-requires
arguments_of-left-requires c = left_root (equation_of c.args.equation) c.requires.alike

pub arguments_of-right-requires : goal.arguments_of-right-requires
arguments_of-right-requires c = right_root (equation_of c.args.equation) c.requires.alike

pub argument_equations-requires : goal.argument_equations-requires
argument_equations-requires c =
    let e = equation_of c.args.equation in
    let A = open_type_of c.in_ok-function.function in
    let g = function_of (signature_of c.args.signature.now) e (open_head_of c.head_of-head.result) A c.requires.fits c.requires.alike c.head_of-head.ensures c.in_ok-function.ensures in
    arguments_fit (signature_of c.args.signature.now) (canonical_is_signature c.args.signature.now c.requires.canonical) e A (open_spine_of c.arguments_of-left.result) c.requires.fits g c.arguments_of-left.ensures

pub returns-in_err-arguments : goal.returns-in_err-arguments
returns-in_err-arguments c =
    let Σ = signature_of c.args.signature.now in
    let e = equation_of c.args.equation in
    let A = open_type_of c.in_ok-function.function in
    let f = c.in_err-arguments.field-0.0 in
    let r : c.from_residual-in_err-arguments.result ≡ Err f = search rules in
    let g = function_of Σ e (open_head_of c.head_of-head.result) A c.requires.fits c.requires.alike c.head_of-head.ensures c.in_ok-function.ensures in
    rw r (blames_arguments Σ e A (open_spine_of c.arguments_of-left.result) f g c.arguments_of-left.ensures (λ is. c.in_err-arguments.ensures.too_deep (ap Err is)))

pub returns : goal.returns
returns c =
    let e = equation_of c.args.equation in
    let A = open_type_of c.in_ok-function.function in
    let args = map equation_of c.in_ok-arguments.arguments.items in
    let g = function_of (signature_of c.args.signature.now) e (open_head_of c.head_of-head.result) A c.requires.fits c.requires.alike c.head_of-head.ensures c.in_ok-function.ensures in
    decomposed (signature_of c.args.signature.now) e A (open_spine_of c.arguments_of-left.result) (open_spine_of c.arguments_of-right.result) args (stacked c.args.work.now.items) (stacked c.put_on_top.new.work.items)
    g c.arguments_of-left.ensures c.arguments_of-right.ensures c.in_ok-arguments.ensures.ok c.in_ok-put_on_top.ensures
