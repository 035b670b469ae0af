use Rattle.std.proofs.Common.{◌≡◌, ◌+◌, ◌∙◌, arith}
use Rattle.lf.specs.Syntax.{kind_pi}
use Rattle.tw_prune.proofs.Options.{if_ok}
use Rattle.tw_terms.specs.OpenView.{open_type_of}
use Rattle.tw_open.specs.View.{open_kind_of}
use Rattle.tw_open.proofs.KindMoves.{moved_kind}
use Rattle.tw_open.proofs.Steps.{steps}
use Rattle.tw_open.proofs.kinds.+shift_kind.Goals as goal

pub returns-in_ok-range-in-Pi : goal.returns-in_ok-range-in-Pi
returns-in_ok-range-in-Pi t c =
    let A = open_type_of c.deref.result.now in
    let L = open_kind_of c.deref-in-Pi.result.now in
    let k : open_kind_of c.args.kind.now ≡ kind_pi A L = grind (arith, steps) in
    let q : c.in_ok-inside-in-Pi.inside ≡ c.args.from + 1 = grind arith in
    if_ok c.kind_pi.result _ _ (λ r e. e ∙ moved_kind c.args.from c.in_ok-inside-in-Pi.inside c.args.by (open_kind_of c.args.kind.now) L A (open_type_of c.in_ok-domain-in-Pi.domain) (open_kind_of c.in_ok-range-in-Pi.range) q k c.in_ok-domain-in-Pi.ensures c.in_ok-range-in-Pi.ensures) c.kind_pi.ensures
