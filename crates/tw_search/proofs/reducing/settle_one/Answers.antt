use Rattle.std.proofs.Common.{sym, subst}
use Rattle.std.proofs.lemmas.Result.{on_ok_weaker}
use Rattle.tw_metas.specs.State.{Story}
use Rattle.tw_terms.specs.OpenView.{open_term_of}
use Rattle.tw_search.specs.Reducing.{SettlesOne, stays_pair, takes_left}
use Rattle.tw_search.proofs.Settling.{consistent_either, later_either}
use Rattle.tw_search.proofs.reducing.settle_one.Goals as goal

pub bind-requires : goal.bind-requires
bind-requires c = c.in-Some.ensures.1.unbound

pub returns-in-Some-clause-ok : goal.returns-in-Some-clause-ok
returns-in-Some-clause-ok c =
    let ms = c.args.metas.now in
    let found = c.args.found.now.items in
    on_ok_weaker c.bind.result (λ e. subst (λ (x : Story). SettlesOne ms c.args.pair found c.args.store.now.now found x.now) (sym e) (takes_left c.in-Some.meta c.in-Some.ensures)) c.bind.ensures.ok

pub returns-in-Some-clause-consistent : goal.returns-in-Some-clause-consistent
returns-in-Some-clause-consistent c = consistent_either c.bind.result c.args.store.now c.bind.new.self c.in-Some.meta.0 (open_term_of c.args.pair.left) c.requires c.in-Some.ensures.1.unbound c.bind.ensures.ok c.bind.ensures.err

pub returns-in-Some-clause-story : goal.returns-in-Some-clause-story
returns-in-Some-clause-story c = later_either c.bind.result c.args.store.now c.bind.new.self _ c.bind.ensures.ok c.bind.ensures.err

pub returns-in_ok-push-in-None-clause-ok : goal.returns-in_ok-push-in-None-clause-ok
returns-in_ok-push-in-None-clause-ok c =
    let ms = c.args.metas.now in
    let s = c.args.store.now.now in
    subst (λ l. SettlesOne ms c.args.pair c.args.found.now.items s l s) (sym c.in_ok-push-in-None.ensures.items) stays_pair
