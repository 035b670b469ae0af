use Rattle.std.proofs.Common.{refl, rules}
use Rattle.lf.specs.Entries.{signature_of}
use Rattle.tw_terms.specs.OpenView.{open_type_of}
use Rattle.tw_elaborate.proofs.Compared.{comparing_on, comparing_whole, next_deep, next_found, same_compared}
use Rattle.tw_elaborate.proofs.Taking.{keeps_same, keeps_then}
use Rattle.tw_hered.specs.declared.fault.HeredFault.TheVariants.{TooDeep}
use Rattle.tw_open.proofs.DeepKinds.{fault_of_call}
use Rattle.tw_elaborate.proofs.equations.compare_in.Goals as goal

pub returns-then-same-clause-ok : goal.returns-then-same-clause-ok
returns-then-same-clause-ok c = same_compared (signature_of c.args.signature.now) c.args.context (open_type_of c.args.found.now) (open_type_of c.args.expected.now) c.args.state.now (c.if-same.ensures.0 refl)

pub returns-then-same-clause-keeps : goal.returns-then-same-clause-keeps
returns-then-same-clause-keeps c = keeps_same c.args.state.now

pub returns-in_err-push_comparison-clause-keeps : goal.returns-in_err-push_comparison-clause-keeps
returns-in_err-push_comparison-clause-keeps c = keeps_same c.args.state.now

pub loop-next-init : goal.loop-next-init
loop-next-init c = comparing_whole (signature_of c.args.signature.now) _ c.new-left.result.items c.push_comparison.new.left.items c.args.state.now (search rules) c.in_ok-push_comparison.ensures c.requires.found

pub compare_next-requires-clause-found : goal.compare_next-requires-clause-found
compare_next-requires-clause-found c = next_found (signature_of c.args.signature.now) c.loop-next.left.items c.pop.new.self.items c.in-Some.next c.in-Some.ensures.items c.loop-next.invariant

pub loop-next-preserved : goal.loop-next-preserved
loop-next-preserved c = comparing_on (signature_of c.args.signature.now) c.loop-next.left.items c.pop.new.self.items c.compare_next.new.left.items c.in-Some.next c.in-Some.ensures.items c.loop-next.invariant c.in_ok-compare_next.ensures.keeps c.in_ok-compare_next.ensures.ok

pub returns-in_err-compare_next-clause-keeps : goal.returns-in_err-compare_next-clause-keeps
returns-in_err-compare_next-clause-keeps c = keeps_then c.args.state.now c.loop-next.state c.compare_next.new.state c.loop-next.invariant.keeps c.in_err-compare_next.ensures.keeps

pub returns-in_err-compare_next-clause-too_deep : goal.returns-in_err-compare_next-clause-too_deep
returns-in_err-compare_next-clause-too_deep c = λ is.
    let h = c.in_err-compare_next.ensures.too_deep (fault_of_call c.from_residual-in_err-compare_next.result c.in_err-compare_next.field-0.0 TooDeep (search rules) is) in
    record {
      differ = λ e. let same = c.if-same.ensures.1 e in absurd cc;
      deep = next_deep (signature_of c.args.signature.now) c.loop-next.left.items c.pop.new.self.items c.in-Some.next c.in-Some.ensures.items c.loop-next.invariant h;
    }
