use Rattle.std.proofs.Common.{◌<◌, arith}
use Rattle.lf.specs.Depth.{kind_depth}
use Rattle.lf.specs.Entries.{signature_of}
use Rattle.tw_terms.specs.View.{kind_of}
use Rattle.tw_kernel.proofs.Roots.{deep_kind}
use Rattle.tw_kernel.proofs.calls.check_kind.Goals as goal

pub returns-then-depth-gt-DEPTH_LIMIT-clause-too_deep : goal.returns-then-depth-gt-DEPTH_LIMIT-clause-too_deep
returns-then-depth-gt-DEPTH_LIMIT-clause-too_deep c = λ e.
    let deep : 4096 < kind_depth (kind_of c.args.kind.now) = omega arith in
    deep_kind (signature_of c.args.signature.now) c.args.context.now (kind_of c.args.kind.now) deep
