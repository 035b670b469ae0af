use Rattle.std.proofs.Common.{arith}
use Rattle.tw_abstract.specs.OrderView.{waiting_of}
use Rattle.tw_abstract.proofs.Choosing.{all_chosen, candidate_waits, entry_at, found, get_within, not_found, stand_before_more}
use Rattle.tw_abstract.proofs.order.all_stand.Goals as goal

pub loop-candidate-preserved : goal.loop-candidate-preserved
loop-candidate-preserved c =
    let s = entry_at c.args.candidates.now c.loop-candidate.candidate-index c.candidate-item.result c.loop-candidate-test.true c.candidate-item.is in
    stand_before_more c.args.chosen.now c.args.candidates.now c.loop-candidate.candidate-index c.candidate-item.result s (found c.args.chosen.now c.candidate-item.result.meta.0 c.variable.result c.variable.ensures c.if-is_none.ensures) c.loop-candidate.invariant

pub returns-then-is_none-clause-no : goal.returns-then-is_none-clause-no
returns-then-is_none-clause-no c = λ f.
    let s = entry_at c.args.candidates.now c.loop-candidate.candidate-index c.candidate-item.result c.loop-candidate-test.true c.candidate-item.is in
    (waiting_of c.candidate-item.result, candidate_waits c.args.candidates.now c.loop-candidate.candidate-index c.candidate-item.result s, not_found c.args.chosen.now c.candidate-item.result.meta.0 c.variable.result c.variable.ensures c.if-is_none.ensures)

pub returns-clause-yes : goal.returns-clause-yes
returns-clause-yes c = λ f. all_chosen c.args.chosen.now c.args.candidates.now (λ i d e. let h = get_within c.args.candidates.now i d e in c.loop-candidate.invariant i d (omega arith) e)
