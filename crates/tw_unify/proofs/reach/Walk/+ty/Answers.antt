use Rattle.std.proofs.Common.{◌≡◌, inl, inr, sym, subst, arith}
use Rattle.std.proofs.lemmas.Result.{on_ok_weaker}
use Rattle.lf.specs.Syntax.{pi}
use Rattle.lf_unification.specs.OpenTyping.{MetavariablesInType}
use Rattle.lf_unification.specs.Reach.{TypeMentions}
use Rattle.lf_unification.proofs.Scope.{in_weaker_type}
use Rattle.tw_terms.specs.OpenView.{open_type_of}
use Rattle.tw_terms.proofs.OpenArgs.{open_types}
use Rattle.tw_unify.specs.Reaching.{IsMarked, Spreads, marking_of}
use Rattle.tw_unify.proofs.Results.{on_ok_both}
use Rattle.tw_unify.proofs.Reaching.{spread_then}
use Rattle.tw_unify.proofs.reach.Walk.+ty.Goals as goal

pub returns-in_ok-ty-in-Pi-clause-spread : goal.returns-in_ok-ty-in-Pi-clause-spread
returns-in_ok-ty-in-Pi-clause-spread t c =
    let A = open_type_of c.deref.result.now in
    let B = open_type_of c.deref-in-Pi.result.now in
    let e : open_type_of c.args.ty.now ≡ pi A B = grind (arith, open_types) in
    on_ok_weaker c.ty-in-Pi.result
    (λ (p : Spreads (λ k. TypeMentions k B) (marking_of c.ty.new.self) (marking_of c.ty-in-Pi.new.self)).
    spread_then (λ k. TypeMentions k A) (λ k. TypeMentions k B) (λ k. TypeMentions k (open_type_of c.args.ty.now)) (marking_of c.args.self.now) (marking_of c.ty.new.self) (marking_of c.ty-in-Pi.new.self)
    (λ k h. subst (TypeMentions k) (sym e) (inl h)) (λ k h. subst (TypeMentions k) (sym e) (inr h)) c.in_ok-ty-in-Pi.ensures.spread p)
    c.ty-in-Pi.ensures.spread

pub returns-in_ok-ty-in-Pi-clause-met : goal.returns-in_ok-ty-in-Pi-clause-met
returns-in_ok-ty-in-Pi-clause-met t c =
    let A = open_type_of c.deref.result.now in
    let B = open_type_of c.deref-in-Pi.result.now in
    let e : open_type_of c.args.ty.now ≡ pi A B = grind (arith, open_types) in
    on_ok_both c.ty-in-Pi.result
    (λ (p : Spreads (λ k. TypeMentions k B) (marking_of c.ty.new.self) (marking_of c.ty-in-Pi.new.self)) (q : MetavariablesInType (IsMarked (marking_of c.ty-in-Pi.new.self)) B).
    subst (MetavariablesInType (IsMarked (marking_of c.ty-in-Pi.new.self))) (sym e) (in_weaker_type (IsMarked (marking_of c.ty.new.self)) (IsMarked (marking_of c.ty-in-Pi.new.self)) p.stay A c.in_ok-ty-in-Pi.ensures.met, q))
    c.ty-in-Pi.ensures.spread c.ty-in-Pi.ensures.met
