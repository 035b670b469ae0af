use Rattle.std.proofs.Common.{map, sym, subst, arith}
use Rattle.std.proofs.lemmas.Result.{on_ok_weaker}
use Rattle.tw_metas.specs.State.{State}
use Rattle.tw_metas.specs.View.{equation_of}
use Rattle.tw_terms.specs.OpenView.{open_term_of}
use Rattle.tw_terms.specs.View.{type_of}
use Rattle.tw_search.specs.Reducing.{GivesSides, left_takes, right_takes}
use Rattle.tw_search.proofs.GivingPairs.{adds_sides}
use Rattle.tw_search.proofs.giving.give_sides.Goals as goal

pub returns-in-Some-clause-ok : goal.returns-in-Some-clause-ok
returns-in-Some-clause-ok c =
    let M = open_term_of c.args.left in
    let N = open_term_of c.args.right in
    let A = type_of c.args.ty.now in
    let found = map equation_of c.args.found.now.items in
    let s = c.args.store.now.now in
    on_ok_weaker c.take.result (λ e. subst (λ (x : State). GivesSides M N A found s found x) (sym e) (left_takes (open_term_of c.in_ok-near.near) c.in_ok-near.ensures c.in-Some.meta c.in-Some.ensures)) c.take.ensures.ok

pub returns-in-Some-taker_of-clause-ok : goal.returns-in-Some-taker_of-clause-ok
returns-in-Some-taker_of-clause-ok c =
    let M = open_term_of c.args.left in
    let N = open_term_of c.args.right in
    let A = type_of c.args.ty.now in
    let found = map equation_of c.args.found.now.items in
    let s = c.args.store.now.now in
    on_ok_weaker c.take-in-Some-taker_of.result (λ e. subst (λ (x : State). GivesSides M N A found s found x) (sym e) (right_takes (open_term_of c.in_ok-near.near) c.in_ok-near.ensures c.in-Some-taker_of.meta c.in-Some-taker_of.ensures)) c.take-in-Some-taker_of.ensures.ok

pub returns-clause-ok : goal.returns-clause-ok
returns-clause-ok c =
    adds_sides (open_term_of c.args.left) (open_term_of c.args.right) (open_term_of c.in_ok-near.near) (type_of c.args.ty.now) c.args.found.now.items c.push.new.self.items _ c.args.store.now.now c.in_ok-push.ensures.items (grind arith) c.in_ok-near.ensures
