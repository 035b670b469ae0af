use Rattle.std.proofs.Common.{◌≡◌, ◌∙◌, ◌<◌, ap, length, subst, sym}
use Rattle.tw_subord.specs.View.{worlds_of_types}
use Rattle.tw_decl.specs.Steps.{entries_alone}
use Rattle.tw_decl.proofs.Alone.{same_below}
use Rattle.tw_decl.proofs.below.subordination.Goals as goal

pub returns-clause-decided : goal.returns-clause-decided
returns-clause-decided c a b =
    let blocks : worlds_of_types c.deref.result.now ≡ entries_alone c.args.session.now.checked.blocks = ap worlds_of_types c.deref.ensures.value ∙ c.in_ok-types.ensures ∙ ap entries_alone c.blocks-2.ensures in
    same_below c.signature.result.now c.args.session.now.signature (worlds_of_types c.deref.result.now) c.args.session.now.checked.blocks a b _ c.signature.ensures blocks (c.in_ok-subord.ensures.decided a b)

pub returns-clause-listed : goal.returns-clause-listed
returns-clause-listed c a b within =
    let blocks : worlds_of_types c.deref.result.now ≡ entries_alone c.args.session.now.checked.blocks = ap worlds_of_types c.deref.ensures.value ∙ c.in_ok-types.ensures ∙ ap entries_alone c.blocks-2.ensures in
    same_below c.signature.result.now c.args.session.now.signature (worlds_of_types c.deref.result.now) c.args.session.now.checked.blocks a b _ c.signature.ensures blocks (c.in_ok-subord.ensures.listed a b (subst (λ es. b < length es) (sym c.signature.ensures) within))
