use Rattle.std.proofs.Common.{◌∙◌, ap, map}
use Rattle.tw_signature.specs.Constants.{numbers_for, numbers_in}
use Rattle.tw_signature.proofs.FamilyConstants.{numbers_found, numbers_missing}
use Rattle.tw_signature.proofs.constants.Constants.of.Goals as goal

pub returns-in-Some : goal.returns-in-Some
returns-in-Some c =
    ap (map (λ d. d.0)) (c.as_slice.ensures.value) ∙ numbers_found c.deref.result.now c.args.family.0 c.get.result c.in-Some.constants c.get.ensures.lookup c.in-Some.is
    ∙ ap (λ lists. numbers_for (map numbers_in lists) c.args.family.0) c.deref.ensures.value

pub returns-in-None : goal.returns-in-None
returns-in-None c =
    numbers_missing c.deref.result.now c.args.family.0 c.get.result c.get.ensures.lookup c.in-None.is ∙ ap (λ lists. numbers_for (map numbers_in lists) c.args.family.0) c.deref.ensures.value
