use Rattle.std.proofs.Common.{◌≡◌, map, sym, subst, ap, ◌∙◌}
use Rattle.std.proofs.lemmas.Result.{on_ok_weaker}
use Rattle.lf.specs.Syntax.{Spine, Term, nil}
use Rattle.lf_search.specs.AppliedHeads.{with_applied}
use Rattle.tw_metas.specs.State.{State, with_value}
use Rattle.tw_metas.specs.View.{equation_of}
use Rattle.tw_terms.specs.OpenView.{open_term_of}
use Rattle.tw_terms.specs.View.{term_of, type_of}
use Rattle.tw_search.specs.Applied.{taken_at}
use Rattle.tw_search.specs.Reducing.{GivesOne, GivesSides, gives_sides, takes_right}
use Rattle.tw_search.proofs.giving.give_one.Goals as goal

pub take-requires-clause-unbound : goal.take-requires-clause-unbound
take-requires-clause-unbound c = c.in-Some.ensures.open_atom.unbound

pub returns-in-Some-clause-ok : goal.returns-in-Some-clause-ok
returns-in-Some-clause-ok c =
    let ms = c.args.metas.now in
    let found = map equation_of c.args.found.now.items in
    let s = c.args.store.now.now in
    let q = c.args.pair in
    let N = with_applied (taken_at nil ms 0) (term_of q.right.now) in
    let right : open_term_of c.in_ok-right.right ≡ N = c.in_ok-right.ensures ∙ ap (λ (L : Spine). with_applied (taken_at L ms 0) (term_of q.right.now)) c.requires.none in
    on_ok_weaker c.take.result (λ e. subst (λ (x : State). GivesOne ms q found s found x) (sym e) (subst (λ (M : Term). GivesOne ms q found s found (with_value s c.in-Some.meta.0 M)) (sym right) (takes_right c.in-Some.meta c.in-Some.ensures))) c.take.ensures.ok

pub returns-in-None-clause-ok : goal.returns-in-None-clause-ok
returns-in-None-clause-ok c =
    let ms = c.args.metas.now in
    let found = map equation_of c.args.found.now.items in
    let more = map equation_of c.give_sides.new.found.items in
    let s = c.args.store.now.now in
    let t = c.give_sides.new.store.now in
    let q = c.args.pair in
    let N = with_applied (taken_at nil ms 0) (term_of q.right.now) in
    let right : open_term_of c.in_ok-right.right ≡ N = c.in_ok-right.ensures ∙ ap (λ (L : Spine). with_applied (taken_at L ms 0) (term_of q.right.now)) c.requires.none in
    on_ok_weaker c.give_sides.result (λ g. gives_sides (subst (λ (M : Term). GivesSides (open_term_of q.left) M (type_of q.ty.now) found s more t) right g)) c.give_sides.ensures.ok
