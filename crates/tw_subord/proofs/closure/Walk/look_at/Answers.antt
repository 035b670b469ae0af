use Rattle.std.proofs.Common.{◌∙◌, Contains, subst, List, ℕ}
use Rattle.std.proofs.lemmas.Result.{on_ok_weaker}
use Rattle.tw_subord.specs.Walks.{Adds, walked}
use Rattle.tw_subord.proofs.Rows.{row_found, row_missing}
use Rattle.tw_subord.proofs.Walks.{adds_nothing}
use Rattle.tw_subord.proofs.closure.Walk.look_at.Goals as goal

pub returns-in-Some : goal.returns-in-Some
returns-in-Some c =
    on_ok_weaker c.meet_all.result
    (subst (λ (xs : List ℕ). Adds (Contains xs) (walked c.args.self.now) (walked c.meet_all.new.self)) (c.deref.ensures.value ∙ row_found c.args.links.now c.args.number c.get.result c.in-Some.row c.get.ensures.lookup c.in-Some.is))
    c.meet_all.ensures

pub returns-in-None : goal.returns-in-None
returns-in-None c =
    subst (λ (xs : List ℕ). Adds (Contains xs) (walked c.args.self.now) (walked c.args.self.now)) (row_missing c.args.links.now c.args.number c.get.result c.get.ensures.lookup c.in-None.is) (adds_nothing (walked c.args.self.now) c.requires)
