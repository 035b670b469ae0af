use Rattle.std.proofs.Common.{◌<◌, inl, inr, arith}
use Rattle.lf.specs.Depth.{depth, type_depth}
use Rattle.lf.specs.Entries.{signature_of}
use Rattle.tw_terms.specs.View.{term_of, type_of}
use Rattle.tw_kernel.proofs.Roots.{deep_typing}
use Rattle.tw_kernel.proofs.calls.check_term.Goals as goal

pub returns-then-depth-gt-DEPTH_LIMIT-clause-too_deep : goal.returns-then-depth-gt-DEPTH_LIMIT-clause-too_deep
returns-then-depth-gt-DEPTH_LIMIT-clause-too_deep c = λ e.
    let deep : 4096 < depth (term_of c.args.term.now) = omega arith in
    deep_typing (signature_of c.args.signature.now) c.args.context.now (term_of c.args.term.now) (type_of c.args.ty.now) (inl deep)

pub returns-then-depth-gt-DEPTH_LIMIT-2-clause-too_deep : goal.returns-then-depth-gt-DEPTH_LIMIT-2-clause-too_deep
returns-then-depth-gt-DEPTH_LIMIT-2-clause-too_deep c = λ e.
    let deep : 4096 < type_depth (type_of c.args.ty.now) = omega arith in
    deep_typing (signature_of c.args.signature.now) c.args.context.now (term_of c.args.term.now) (type_of c.args.ty.now) (inr deep)
