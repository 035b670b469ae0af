use Rattle.std.proofs.Common.{◌+◌, ◌∷◌, ap, sym, length, ◌∙◌}
use Rattle.lf.specs.Constants.{constants_of}
use Rattle.tw_terms.proofs.Views.{head_of-Const}
use Rattle.tw_search.specs.Choosing.{constants_left}
use Rattle.tw_open.proofs.Arguments.{surely_below}
use Rattle.tw_search.proofs.HeadsLeft.{constant_found}
use Rattle.tw_search.proofs.choice.next_constant.Goals as goal

pub returns-in-Some : goal.returns-in-Some
returns-in-Some c =
    let es = c.args.signature.now in
    let us = c.constants_of.result.now in
    let i = c.args.constant in
    let l = c.in-Some.ensures.lookup in
    let f = constant_found us (constants_of es c.args.family.0) i c.in-Some.id.now c.constants_of.ensures (surely_below i (length us) l.0) l.1 in
    (f ∙ ap (λ h. h ∷ constants_left es c.args.family.0 (i + 1)) (sym (head_of-Const c.in-Some.id.now)), c.len.ensures)
