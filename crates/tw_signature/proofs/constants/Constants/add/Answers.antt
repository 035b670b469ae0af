use Rattle.std.proofs.Common.{◌≡◌, ◌++◌, ◌∷◌, ◌∙◌, [], ap, rules}
use Rattle.tw_signature.proofs.FamilyConstants.{number_added}
use Rattle.tw_signature.proofs.constants.Constants.add.Goals as goal

pub returns-in-Some : goal.returns-in-Some
returns-in-Some c =
    let more : c.push.new.self.items ≡ c.index_mut.result.now.items ++ c.args.number ∷ [] = search rules in
    c.add_list.ensures
    ∙ ap (λ lists. lists ++ [] ∷ [])
    (number_added c.args.self.now.lists.items c.args.family c.in-Some.family c.args.number c.index_mut.result.now c.push.new.self c.in-Some.is c.requires.1 c.index_mut.ensures.value more)
