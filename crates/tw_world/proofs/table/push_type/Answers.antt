use Rattle.std.proofs.Common.{◌∙◌, ◌∷◌, ap}
use Rattle.tw_terms.specs.View.{type_of}
use Rattle.tw_signature.proofs.Marking.{on_ok}
use Rattle.tw_world.proofs.Tables.{none_within, type_pushed}
use Rattle.tw_world.proofs.table.push_type.Goals as goal

pub returns-in_ok-copy-in-Some : goal.returns-in_ok-copy-in-Some
returns-in_ok-copy-in-Some c = on_ok c.push.result _ _ (λ f C h e. type_pushed c.args.local.now c.args.place (type_of c.in-Some.ty.now) c.args.whole.now c.push.new.self C c.in-Some.ensures e (f ∙ ap (λ A. A ∷ c.args.whole.now) c.in_ok-copy-in-Some.ensures)) c.push.ensures.ok

pub returns-in-None : goal.returns-in-None
returns-in-None c = λ C h e. absurd (none_within c.args.local.now c.args.place c.in-None.ensures h)
