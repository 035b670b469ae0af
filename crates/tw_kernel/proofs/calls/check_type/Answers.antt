use Rattle.std.proofs.Common.{◌<◌, arith}
use Rattle.lf.specs.Depth.{type_depth}
use Rattle.lf.specs.Entries.{signature_of}
use Rattle.tw_terms.specs.View.{type_of}
use Rattle.tw_kernel.proofs.Roots.{deep_type}
use Rattle.tw_kernel.proofs.calls.check_type.Goals as goal

pub returns-then-depth-gt-DEPTH_LIMIT-clause-too_deep : goal.returns-then-depth-gt-DEPTH_LIMIT-clause-too_deep
returns-then-depth-gt-DEPTH_LIMIT-clause-too_deep c = λ e.
    let deep : 4096 < type_depth (type_of c.args.ty.now) = omega arith in
    deep_type (signature_of c.args.signature.now) c.args.context.now (type_of c.args.ty.now) deep
