use Rattle.std.proofs.Common.{◌<◌, ◌++◌, ◌∷◌, ◌∙◌, [], cond, ap, arith, length}
use Rattle.lf.specs.Variables.{same_number}
use Rattle.tw_subord.proofs.Rows.{row_linked}
use Rattle.tw_subord.proofs.links.link.Goals as goal

pub returns-clause-linked : goal.returns-clause-linked
returns-clause-linked c b =
    let grown = c.grow.new.links.items in
    let inside : c.args.pair.above < length grown = omega (arith, c.in_ok-grow.ensures.covers, c.in_ok-one_more.ensures) in
    row_linked grown c.args.pair.above c.args.pair.below c.index_mut.result.now c.push.new.self inside c.index_mut.ensures.value c.in_ok-push.ensures.items b
    ∙ ap (λ r. cond (same_number c.args.pair.above b) (r ++ c.args.pair.below ∷ []) r) (c.in_ok-grow.ensures.same b)
