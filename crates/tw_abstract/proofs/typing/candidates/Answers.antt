use Rattle.std.proofs.Common.{◌≡◌, Err, get_or, refl, rules}
use Rattle.tw_abstract.proofs.Loops.{next_candidate, type_blamed}
use Rattle.tw_abstract.proofs.typing.candidates.Goals as goal

pub returns-in_err-candidate : goal.returns-in_err-candidate
returns-in_err-candidate c =
    let f = c.in_err-candidate.field-0.0 in
    let x = get_or c.args.metas.now c.loop-meta.meta-index record { 0 = 0 } in
    let q : c.from_residual-in_err-candidate.result ≡ Err f = search rules in
    rw q (type_blamed c.args.store.now.now f c.args.metas.now c.loop-meta.meta-index record { 0 = 0 } x c.loop-meta-test.true refl c.in_err-candidate.ensures)

pub loop-meta-preserved : goal.loop-meta-preserved
loop-meta-preserved c =
    let x = get_or c.args.metas.now c.loop-meta.meta-index record { 0 = 0 } in
    next_candidate c.args.store.now.now c.args.metas.now c.loop-meta.meta-index record { 0 = 0 } x c.loop-meta.candidates.items c.add.new.candidates.items c.in_ok-candidate.candidate c.loop-meta-test.true refl c.loop-meta.invariant c.in_ok-candidate.ensures c.in_ok-add.ensures
