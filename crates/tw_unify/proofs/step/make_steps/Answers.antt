use Rattle.std.proofs.Common.{◌≡◌, Err, rules}
use Rattle.lf.specs.Entries.{signature_of}
use Rattle.lf.proofs.Entries.{canonical_is_signature}
use Rattle.tw_metas.specs.View.{equation_of}
use Rattle.tw_unify.specs.Outcomes.{stacked}
use Rattle.tw_unify.proofs.Working.{apart_refutes, are_lambdas, decomposes_runs, explains_arguments, left_fits, never_mixed, opens_runs}
use Rattle.tw_unify.proofs.step.make_steps.Goals as goal

pub open_lambdas-requires : goal.open_lambdas-requires
open_lambdas-requires c = are_lambdas (signature_of c.args.signature.now) c.args.store.now.now (equation_of c.args.equation) (stacked c.args.work.now.items) c.requires.ready c.in-Lambdas.ensures

pub decompose-requires-clause-fits : goal.decompose-requires-clause-fits
decompose-requires-clause-fits c = left_fits (signature_of c.args.signature.now) c.args.store.now.now (equation_of c.args.equation) (stacked c.args.work.now.items) c.requires.ready

pub returns-in_ok-open_lambdas-in-Lambdas-clause-done : goal.returns-in_ok-open_lambdas-in-Lambdas-clause-done
returns-in_ok-open_lambdas-in-Lambdas-clause-done c =
    opens_runs (signature_of c.args.signature.now) c.args.store.now.now (equation_of c.args.equation) (stacked c.args.work.now.items) (stacked c.open_lambdas.new.work.items) c.in_ok-open_lambdas-in-Lambdas.ensures

pub returns-in_ok-decompose-in-Alike-clause-done : goal.returns-in_ok-decompose-in-Alike-clause-done
returns-in_ok-decompose-in-Alike-clause-done c =
    decomposes_runs (signature_of c.args.signature.now) c.args.store.now.now (equation_of c.args.equation) (stacked c.args.work.now.items) (stacked c.decompose.new.work.items) c.in_ok-decompose-in-Alike.ensures

pub returns-in_err-decompose-in-Alike-clause-done : goal.returns-in_err-decompose-in-Alike-clause-done
returns-in_err-decompose-in-Alike-clause-done c =
    let Σ = signature_of c.args.signature.now in
    let f = c.in_err-decompose-in-Alike.field-0.0 in
    let r : c.from_residual-in_err-decompose-in-Alike.result ≡ Err f = search rules in
    rw r (explains_arguments Σ c.args.store.now.now (canonical_is_signature c.args.signature.now c.requires.canonical) f (equation_of c.args.equation) (stacked c.args.work.now.items) c.requires.ready c.in_err-decompose-in-Alike.ensures)

pub returns-in-Apart-clause-done : goal.returns-in-Apart-clause-done
returns-in-Apart-clause-done c = apart_refutes (signature_of c.args.signature.now) c.args.store.now.now (equation_of c.args.equation) (stacked c.args.work.now.items) c.in-Apart.ensures

pub unreachable-requires : goal.unreachable-requires
unreachable-requires c = never_mixed (signature_of c.args.signature.now) c.args.store.now.now (equation_of c.args.equation) (stacked c.args.work.now.items) c.requires.ready c.in-Mixed.ensures
