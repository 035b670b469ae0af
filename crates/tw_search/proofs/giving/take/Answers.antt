use Rattle.std.proofs.Common.{ap, sym, subst}
use Rattle.std.proofs.lemmas.Result.{on_ok_weaker}
use Rattle.tw_metas.specs.State.{Story}
use Rattle.tw_terms.specs.OpenView.{open_term_of}
use Rattle.tw_unify.specs.Reaching.{IsKnown, marking_of}
use Rattle.tw_search.proofs.BesideTakes.{known_after}
use Rattle.tw_search.proofs.Settling.{consistent_either, later_either}
use Rattle.tw_search.proofs.giving.take.Goals as goal

pub returns-clause-ok : goal.returns-clause-ok
returns-clause-ok c = on_ok_weaker c.bind.result (λ e. ap (λ (x : Story). x.now) e) c.bind.ensures.ok

pub returns-clause-consistent : goal.returns-clause-consistent
returns-clause-consistent c = consistent_either c.bind.result c.args.store.now c.bind.new.self c.args.meta.0 (open_term_of c.args.value) c.requires.consistent c.requires.unbound c.bind.ensures.ok c.bind.ensures.err

pub returns-clause-known : goal.returns-clause-known
returns-clause-known c =
    let s = c.args.store.now.now in
    let m = c.args.meta.0 in
    let N = open_term_of c.args.value in
    let w = marking_of c.pass_over.new.met in
    on_ok_weaker c.bind.result (λ e h. subst (λ (x : Story). IsKnown x.now w) (sym e) (known_after s m N c.requires.consistent c.requires.unbound w (c.pass_over.ensures.known s h) c.pass_over.ensures.unmarked)) c.bind.ensures.ok

pub returns-clause-story : goal.returns-clause-story
returns-clause-story c = later_either c.bind.result c.args.store.now c.bind.new.self _ c.bind.ensures.ok c.bind.ensures.err
