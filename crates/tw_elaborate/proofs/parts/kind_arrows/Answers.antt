use Rattle.std.proofs.Common.{arith}
use Rattle.tw_terms.specs.OpenView.{open_type_of}
use Rattle.tw_open.specs.View.{open_kind_of}
use Rattle.tw_elaborate.proofs.Arrows.{kind_arrows_all, kind_arrows_more}
use Rattle.tw_elaborate.proofs.parts.kind_arrows.Goals as goal

pub loop-domain-preserved-in_ok-kind-2 : goal.loop-domain-preserved-in_ok-kind-2
loop-domain-preserved-in_ok-kind-2 c = kind_arrows_more c.args.domains.items c.loop-domain.left.items c.pop.new.self.items c.in-Some.domain c.len-in-Some.result (open_type_of c.in_ok-moved.moved) (open_kind_of c.args.end.now) (open_kind_of c.loop-domain.kind) (open_kind_of c.in_ok-kind-2.kind) c.in-Some.ensures.items (omega (arith, c.len-in-Some.ensures, c.pop.new.self.ok.0)) c.in_ok-moved.ensures c.in_ok-kind-2.ensures c.loop-domain.invariant

pub loop-domain-preserved : goal.loop-domain-preserved
loop-domain-preserved c = kind_arrows_more c.args.domains.items c.loop-domain.left.items c.pop.new.self.items c.in-Some.domain c.len-in-Some.result (open_type_of c.in_ok-moved.moved) (open_kind_of c.args.end.now) (open_kind_of c.loop-domain.kind) (open_kind_of c.in_ok-kind-2.kind) c.in-Some.ensures.items (omega (arith, c.len-in-Some.ensures, c.pop.new.self.ok.0)) c.in_ok-moved.ensures c.in_ok-kind-2.ensures c.loop-domain.invariant

pub returns : goal.returns
returns c = kind_arrows_all c.args.domains.items c.loop-domain.left.items (open_kind_of c.args.end.now) (open_kind_of c.loop-domain.kind) (omega (arith, c.in_default.ensures.cases)) c.loop-domain.invariant
