use Rattle.std.proofs.Common.{◌≡◌, [], ◌∷◌, List, ap, arith, map, reverse, sym, subst, ◌∙◌}
use Rattle.std.proofs.lemmas.Grind.{common_steps}
use Rattle.std.proofs.lemmas.List.{reverse-append, reverse-reverse}
use Rattle.lf.specs.Syntax.{nil}
use Rattle.tw_metas.specs.View.{equation_of}
use Rattle.tw_unify.proofs.Stories.{later_then}
use Rattle.tw_search.specs.Applied.{taken_at}
use Rattle.tw_search.specs.Beside.{equations_at}
use Rattle.tw_search.specs.declared.beside.Pair.{Pair}
use Rattle.tw_search.proofs.GivingPairs.{Giving, giving_ends, giving_on, giving_starts}
use Rattle.tw_search.proofs.Offering.{later_nothing}
use Rattle.tw_search.proofs.giving.give.Goals as goal

pub loop-pair-init : goal.loop-pair-init
loop-pair-init c = record {
  giving = λ Σ ok w. giving_starts Σ c.args.metas.now c.args.pairs.items (reverse c.reverse.new.self.items) (map equation_of c.new-found.result.items) c.args.store.now.now (sym (reverse-reverse c.args.pairs.items) ∙ ap reverse (sym c.reverse.ensures.items)) (ap (map equation_of) (sym c.new-found.ensures.items)) w;
  consistent = c.requires;
  known = λ h. h;
  story = later_nothing c.args.store.now;
}

pub loop-pair-preserved : goal.loop-pair-preserved
loop-pair-preserved c =
    let ms = c.args.metas.now in
    let q = c.in-Some.pair in
    let before = c.loop-pair.rest.items in
    let after = c.pop.new.self.items in
    let found = map equation_of c.loop-pair.found.items in
    let more = map equation_of c.give_one.new.found.items in
    let u = c.loop-pair.store.now in
    let v = c.give_one.new.store.now in
    let turned : reverse before ≡ q ∷ reverse after = ap reverse c.in-Some.ensures.items ∙ reverse-append after (q ∷ []) in
    record {
      giving = λ Σ ok w.
          let es = equations_at (taken_at nil ms 0) c.args.pairs.items in
          let s = c.args.store.now.now in
          giving_on Σ ok ms es s q (reverse after) found more u v (subst (λ (qs : List Pair). Giving Σ ms es s qs found u) turned (c.loop-pair.invariant.giving Σ ok w)) c.in_ok-give_one.ensures.ok;
      consistent = c.in_ok-give_one.ensures.consistent;
      known = λ h. c.in_ok-give_one.ensures.known (c.loop-pair.invariant.known h);
      story = later_then c.args.store.now c.loop-pair.store c.give_one.new.store c.loop-pair.invariant.story c.in_ok-give_one.ensures.story;
    }

pub returns-in_err-give_one-clause-story : goal.returns-in_err-give_one-clause-story
returns-in_err-give_one-clause-story c = later_then c.args.store.now c.loop-pair.store c.give_one.new.store c.loop-pair.invariant.story c.in_err-give_one.ensures.story

pub returns-clause-ok : goal.returns-clause-ok
returns-clause-ok c Σ ok w =
    let es = equations_at (taken_at nil c.args.metas.now 0) c.args.pairs.items in
    let left : c.loop-pair.rest.items ≡ [] = grind (arith, common_steps) in
    let none : reverse c.loop-pair.rest.items ≡ [] = ap reverse left in
    giving_ends Σ c.args.metas.now es (map equation_of c.loop-pair.found.items) (reverse c.loop-pair.rest.items) c.args.store.now.now c.loop-pair.store.now none (c.loop-pair.invariant.giving Σ ok w)
