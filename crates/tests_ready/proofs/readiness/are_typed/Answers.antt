use Rattle.std.proofs.Common.{arith}
use Rattle.lf.specs.Entries.{signature_of}
use Rattle.tw_metas.specs.View.{equation_of}
use Rattle.tw_putting.specs.Stores.{types_of}
use Rattle.tests_ready.specs.Checked.{IsEquationTyped}
use Rattle.tests_ready.proofs.NewStores.{equations_next}
use Rattle.tests_ready.proofs.TypedTerms.{at_true}
use Rattle.tests_ready.proofs.readiness.are_typed.Goals as goal

pub loop-equation-preserved : goal.loop-equation-preserved
loop-equation-preserved c =
    let Σ = signature_of c.args.signature.now in
    let Ψ = types_of c.args.store.now.now in
    let e = c.equation-item.result in
    equations_next Σ Ψ c.args.equations.now c.loop-equation.equation-index e (omega arith) c.equation-item.is c.loop-equation.invariant (at_true c.in_ok-is_typed.field-0 (IsEquationTyped Σ Ψ (equation_of e)) c.if-not-branch.false c.in_ok-is_typed.ensures)
