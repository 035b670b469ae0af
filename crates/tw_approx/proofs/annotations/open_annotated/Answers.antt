use Rattle.std.proofs.Common.{arith}
use Rattle.tw_approx.proofs.Nested.{nested}
use Rattle.tw_approx.proofs.annotations.open_annotated.Goals as goal

pub returns-in_ok-wait_for_annotations-in-Lam-clause-within : goal.returns-in_ok-wait_for_annotations-in-Lam-clause-within
returns-in_ok-wait_for_annotations-in-Lam-clause-within c es =
    let d = c.wait_for_domain.ensures.within es in
    let b = c.in_ok-wait_for_annotations-in-Lam.ensures.within es in
    let is = c.in-Lam.is in
    grind (arith, nested, d, b, is)

pub returns-in_ok-wait_for_annotations-in-Ascribe-clause-within : goal.returns-in_ok-wait_for_annotations-in-Ascribe-clause-within
returns-in_ok-wait_for_annotations-in-Ascribe-clause-within c es =
    let d = c.wait_for.ensures.within es in
    let b = c.in_ok-wait_for_annotations-in-Ascribe.ensures.within es in
    let is = c.in-Ascribe.is in
    grind (arith, nested, d, b, is)
