use Rattle.std.proofs.Common.{rules}
use Rattle.std.proofs.lemmas.Result.{on_ok_weaker}
use Rattle.lf_unification.specs.Reach.{TypeMentions}
use Rattle.tw_putting.specs.Stores.{types_of}
use Rattle.tw_terms.specs.OpenView.{open_type_of}
use Rattle.tw_unify.specs.Reaching.{StandsInType, marking_of}
use Rattle.tw_unify.proofs.Reaching.{spread_wider}
use Rattle.tw_putting.proofs.Views.{type_told}
use Rattle.tw_unify.proofs.reach.Walk.type_of.Goals as goal

pub returns-in-Some-clause-spread : goal.returns-in-Some-clause-spread
returns-in-Some-clause-spread c =
    let s = c.args.store.now.now in
    let A = open_type_of c.in-Some.ty.now in
    on_ok_weaker c.ty.result
    (spread_wider (λ k. TypeMentions k A) (StandsInType (types_of s) c.args.meta.0) (marking_of c.args.self.now) (marking_of c.ty.new.self)
    (λ k h. (A, type_told s c.args.meta.0 c.in-Some.field-0-0.now A (search rules), h)))
    c.ty.ensures.spread
