use Rattle.std.proofs.Common.{◌≡◌, [], ◌∷◌, List, ap, arith, reverse, sym, subst, ◌∙◌}
use Rattle.std.proofs.lemmas.Grind.{common_steps}
use Rattle.std.proofs.lemmas.List.{reverse-append, reverse-reverse}
use Rattle.lf.specs.Syntax.{nil}
use Rattle.tw_unify.proofs.Stories.{later_then}
use Rattle.tw_search.specs.Applied.{taken_at}
use Rattle.tw_search.specs.Beside.{equations_at}
use Rattle.tw_search.specs.declared.beside.Pair.{Pair}
use Rattle.tw_search.proofs.Offering.{later_nothing}
use Rattle.tw_search.proofs.Settling.{Settling, known_on, settling_ends, settling_on, settling_starts}
use Rattle.tw_search.proofs.reducing.settle.Goals as goal

pub loop-pair-init : goal.loop-pair-init
loop-pair-init c = record {
  settling = λ Σ k. settling_starts Σ c.args.metas.now c.args.pairs.items (reverse c.reverse.new.self.items) (equations_at (taken_at nil c.args.metas.now 0) c.new-found.result.items) c.args.store.now.now (sym (reverse-reverse c.args.pairs.items) ∙ ap reverse (sym c.reverse.ensures.items)) (ap (equations_at (taken_at nil c.args.metas.now 0)) (sym c.new-found.ensures.items)) k;
  consistent = c.requires;
  known = λ w n h. h;
  story = later_nothing c.args.store.now;
}

pub loop-pair-preserved : goal.loop-pair-preserved
loop-pair-preserved c =
    let ms = c.args.metas.now in
    let q = c.in-Some.pair in
    let before = c.loop-pair.rest.items in
    let after = c.pop.new.self.items in
    let found = c.loop-pair.found.items in
    let more = c.settle_one.new.found.items in
    let p = taken_at nil ms 0 in
    let u = c.loop-pair.store.now in
    let v = c.settle_one.new.store.now in
    let turned : reverse before ≡ q ∷ reverse after = ap reverse c.in-Some.ensures.items ∙ reverse-append after (q ∷ []) in
    record {
      settling = λ Σ k.
          let es = equations_at (taken_at nil ms 0) c.args.pairs.items in
          let s = c.args.store.now.now in
          settling_on Σ ms es s q (reverse after) found more u v (subst (λ (qs : List Pair). Settling Σ ms es s qs (equations_at p found) u) turned (c.loop-pair.invariant.settling Σ k)) c.in_ok-settle_one.ensures.ok;
      consistent = c.in_ok-settle_one.ensures.consistent;
      known = λ w n h. known_on ms q found more u v c.loop-pair.invariant.consistent c.in_ok-settle_one.ensures.ok w n (c.loop-pair.invariant.known w n h);
      story = later_then c.args.store.now c.loop-pair.store c.settle_one.new.store c.loop-pair.invariant.story c.in_ok-settle_one.ensures.story;
    }

pub returns-in_err-settle_one-clause-story : goal.returns-in_err-settle_one-clause-story
returns-in_err-settle_one-clause-story c = later_then c.args.store.now c.loop-pair.store c.settle_one.new.store c.loop-pair.invariant.story c.in_err-settle_one.ensures.story

pub returns-clause-ok : goal.returns-clause-ok
returns-clause-ok c Σ k =
    let es = equations_at (taken_at nil c.args.metas.now 0) c.args.pairs.items in
    let left : c.loop-pair.rest.items ≡ [] = grind (arith, common_steps) in
    let none : reverse c.loop-pair.rest.items ≡ [] = ap reverse left in
    settling_ends Σ c.args.metas.now es (equations_at (taken_at nil c.args.metas.now 0) c.loop-pair.found.items) (reverse c.loop-pair.rest.items) c.args.store.now.now c.loop-pair.store.now none (c.loop-pair.invariant.settling Σ k)

pub returns-clause-consistent : goal.returns-clause-consistent
returns-clause-consistent c = c.loop-pair.invariant.consistent

pub returns-in_err-settle_one-clause-consistent : goal.returns-in_err-settle_one-clause-consistent
returns-in_err-settle_one-clause-consistent c = c.in_err-settle_one.ensures.consistent
