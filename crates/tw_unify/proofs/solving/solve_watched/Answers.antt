use Rattle.std.proofs.Common.{◌≡◌, ◌∷◌, List, Err, map, refl, sym, subst, rules}
use Rattle.lf.specs.Entries.{signature_of}
use Rattle.lf.proofs.Entries.{canonical_is_signature}
use Rattle.lf_unification.specs.ReachedRuns.{ReachedRun}
use Rattle.lf_unification.specs.Steps.{CanRefute}
use Rattle.lf_unification.specs.Unifiers as unifiers
use Rattle.tw_metas.specs.View.{equation_of}
use Rattle.tw_unify.specs.Outcomes.{Advances, stacked}
use Rattle.tw_putting.specs.Whole.{whole}
use Rattle.tw_unify.specs.Reaching.{marking_of}
use Rattle.tw_unify.proofs.Changed.{known_kept}
use Rattle.tw_unify.proofs.Endings.{explains_after, none_next, refuted_answers, refuted_from, rest_told, some_next}
use Rattle.tw_unify.proofs.Orders.{both_reached, none_made}
use Rattle.tw_putting.proofs.Readiness.{ready_after}
use Rattle.tw_unify.proofs.Stories.{later_nothing, later_then, stacked_reversed}
use Rattle.tw_unify.proofs.Watching.{not_refuted}
use Rattle.tw_unify.proofs.solving.solve_watched.Goals as goal

pub loop-init : goal.loop-init
loop-init c = record {
  run = subst (λ (fs : List unifiers.Equation). ReachedRun (signature_of c.args.signature.now) (whole (map equation_of c.args.equations.items) c.args.store.now.now) (whole fs c.args.store.now.now)) (sym (stacked_reversed c.args.equations.items c.reverse.new.self.items c.reverse.ensures.items)) (none_made (signature_of c.args.signature.now));
  consistent = c.requires.ready.consistent;
  known = c.requires.known;
  watches = c.requires.watches;
  story = later_nothing c.args.store.now c.args.store.now refl;
}

pub next_equation-requires-clause-ready : goal.next_equation-requires-clause-ready
next_equation-requires-clause-ready c =
    ready_after (signature_of c.args.signature.now) (canonical_is_signature c.args.signature.now c.is_canonical.ensures) (map equation_of c.args.equations.items) (stacked c.loop.work.items) c.args.store.now.now c.loop.store.now c.requires.ready c.loop.invariant.run.run c.loop.invariant.consistent

pub returns-in_err-next-clause-answer : goal.returns-in_err-next-clause-answer
returns-in_err-next-clause-answer c =
    let f = c.in_err-next.field-0.0 in
    let e : c.from_residual.result ≡ Err f = search rules in
    rw e (explains_after (signature_of c.args.signature.now) f (whole (map equation_of c.args.equations.items) c.args.store.now.now) (whole (stacked c.loop.work.items) c.loop.store.now) c.loop.invariant.run c.in_err-next.ensures.next)

pub returns-in_err-next-clause-story : goal.returns-in_err-next-clause-story
returns-in_err-next-clause-story c = later_then c.args.store.now c.loop.store c.next_equation.new.store c.loop.invariant.story c.next_equation.ensures.story

pub returns-in-None-clause-answer : goal.returns-in-None-clause-answer
returns-in-None-clause-answer c =
    let Σ = signature_of c.args.signature.now in
    let s = c.args.store.now.now in
    let t = c.loop.store.now in
    let given = map equation_of c.args.equations.items in
    let n = none_next Σ (stacked c.loop.work.items) c.loop.store c.next_equation.new.store c.in_ok-next.next (stacked c.next_equation.new.work.items) c.in-None.is c.in_ok-next.ensures.next in
    (rest_told Σ (canonical_is_signature c.args.signature.now c.is_canonical.ensures) given s t c.requires.ready c.loop.invariant.consistent (stacked c.loop.work.items) n.0 c.loop.invariant.run n.1 c.next_equation.new.store.now n.2 c.rest.result c.rest.ensures).0

pub returns-in-None-clause-ready : goal.returns-in-None-clause-ready
returns-in-None-clause-ready c =
    let Σ = signature_of c.args.signature.now in
    let s = c.args.store.now.now in
    let t = c.loop.store.now in
    let given = map equation_of c.args.equations.items in
    let n = none_next Σ (stacked c.loop.work.items) c.loop.store c.next_equation.new.store c.in_ok-next.next (stacked c.next_equation.new.work.items) c.in-None.is c.in_ok-next.ensures.next in
    (rest_told Σ (canonical_is_signature c.args.signature.now c.is_canonical.ensures) given s t c.requires.ready c.loop.invariant.consistent (stacked c.loop.work.items) n.0 c.loop.invariant.run n.1 c.next_equation.new.store.now n.2 c.rest.result c.rest.ensures).1

pub returns-in-None-clause-sides : goal.returns-in-None-clause-sides
returns-in-None-clause-sides c =
    let Σ = signature_of c.args.signature.now in
    let s = c.args.store.now.now in
    let t = c.loop.store.now in
    let given = map equation_of c.args.equations.items in
    let n = none_next Σ (stacked c.loop.work.items) c.loop.store c.next_equation.new.store c.in_ok-next.next (stacked c.next_equation.new.work.items) c.in-None.is c.in_ok-next.ensures.next in
    (rest_told Σ (canonical_is_signature c.args.signature.now c.is_canonical.ensures) given s t c.requires.ready c.loop.invariant.consistent (stacked c.loop.work.items) n.0 c.loop.invariant.run n.1 c.next_equation.new.store.now n.2 c.rest.result c.rest.ensures).2

pub returns-in-None-clause-renews : goal.returns-in-None-clause-renews
returns-in-None-clause-renews c =
    let Σ = signature_of c.args.signature.now in
    let s = c.args.store.now.now in
    let t = c.loop.store.now in
    let given = map equation_of c.args.equations.items in
    let n = none_next Σ (stacked c.loop.work.items) c.loop.store c.next_equation.new.store c.in_ok-next.next (stacked c.next_equation.new.work.items) c.in-None.is c.in_ok-next.ensures.next in
    (rest_told Σ (canonical_is_signature c.args.signature.now c.is_canonical.ensures) given s t c.requires.ready c.loop.invariant.consistent (stacked c.loop.work.items) n.0 c.loop.invariant.run n.1 c.next_equation.new.store.now n.2 c.rest.result c.rest.ensures).3

pub advance-requires-clause-ready : goal.advance-requires-clause-ready
advance-requires-clause-ready c =
    let Σ = signature_of c.args.signature.now in
    let given = map equation_of c.args.equations.items in
    let e = equation_of c.in-Some.equation in
    let es = stacked c.next_equation.new.work.items in
    let next : ReachedRun Σ (whole (stacked c.loop.work.items) c.loop.store.now) (whole (e ∷ es) c.next_equation.new.store.now) = some_next Σ (stacked c.loop.work.items) c.loop.store c.next_equation.new.store c.in_ok-next.next es c.in-Some.equation c.in-Some.is c.in_ok-next.ensures.next in
    ready_after Σ (canonical_is_signature c.args.signature.now c.is_canonical.ensures) given (e ∷ es) c.args.store.now.now c.next_equation.new.store.now c.requires.ready (both_reached Σ c.loop.invariant.run next).run c.next_equation.ensures.consistent

pub advance-requires-clause-known : goal.advance-requires-clause-known
advance-requires-clause-known c = known_kept c.loop.store.now c.next_equation.new.store.now (marking_of c.loop.met) c.in_ok-next.ensures.keeps c.loop.invariant.known

pub returns-in-None-clause-known : goal.returns-in-None-clause-known
returns-in-None-clause-known c = known_kept c.loop.store.now c.next_equation.new.store.now (marking_of c.loop.met) c.in_ok-next.ensures.keeps c.loop.invariant.known

pub returns-in_err-outcome-in-Some-clause-answer : goal.returns-in_err-outcome-in-Some-clause-answer
returns-in_err-outcome-in-Some-clause-answer c =
    let Σ = signature_of c.args.signature.now in
    let given = map equation_of c.args.equations.items in
    let e = equation_of c.in-Some.equation in
    let es = stacked c.next_equation.new.work.items in
    let next : ReachedRun Σ (whole (stacked c.loop.work.items) c.loop.store.now) (whole (e ∷ es) c.next_equation.new.store.now) = some_next Σ (stacked c.loop.work.items) c.loop.store c.next_equation.new.store c.in_ok-next.next es c.in-Some.equation c.in-Some.is c.in_ok-next.ensures.next in
    let f = c.in_err-outcome-in-Some.field-0.0 in
    let r : c.from_residual-in_err-outcome-in-Some.result ≡ Err f = search rules in
    rw r (explains_after Σ f (whole given c.args.store.now.now) (whole (e ∷ es) c.next_equation.new.store.now) (both_reached Σ c.loop.invariant.run next) c.in_err-outcome-in-Some.ensures.done)

pub returns-in_err-outcome-in-Some-clause-story : goal.returns-in_err-outcome-in-Some-clause-story
returns-in_err-outcome-in-Some-clause-story c =
    later_then c.args.store.now c.next_equation.new.store c.advance.new.store (later_then c.args.store.now c.loop.store c.next_equation.new.store c.loop.invariant.story c.next_equation.ensures.story) c.advance.ensures.story

pub returns-in-Refuted-clause-answer : goal.returns-in-Refuted-clause-answer
returns-in-Refuted-clause-answer c =
    let Σ = signature_of c.args.signature.now in
    let given = map equation_of c.args.equations.items in
    let e = equation_of c.in-Some.equation in
    let es = stacked c.next_equation.new.work.items in
    let next : ReachedRun Σ (whole (stacked c.loop.work.items) c.loop.store.now) (whole (e ∷ es) c.next_equation.new.store.now) = some_next Σ (stacked c.loop.work.items) c.loop.store c.next_equation.new.store c.in_ok-next.next es c.in-Some.equation c.in-Some.is c.in_ok-next.ensures.next in
    let refuted : CanRefute Σ (whole (e ∷ es) c.next_equation.new.store.now) = subst (λ a. Advances a Σ (whole (e ∷ es) c.next_equation.new.store.now) (whole (stacked c.advance.new.work.items) c.advance.new.store.now)) c.in-Refuted.is c.in_ok-outcome-in-Some.ensures.done in
    refuted_answers Σ (canonical_is_signature c.args.signature.now c.is_canonical.ensures) given c.args.store.now.now c.next_equation.new.store.now c.requires.ready c.next_equation.ensures.consistent (e ∷ es) (both_reached Σ c.loop.invariant.run next) refuted

pub returns-in-Refuted-clause-renews : goal.returns-in-Refuted-clause-renews
returns-in-Refuted-clause-renews c =
    let Σ = signature_of c.args.signature.now in
    let given = map equation_of c.args.equations.items in
    let e = equation_of c.in-Some.equation in
    let es = stacked c.next_equation.new.work.items in
    let next : ReachedRun Σ (whole (stacked c.loop.work.items) c.loop.store.now) (whole (e ∷ es) c.next_equation.new.store.now) = some_next Σ (stacked c.loop.work.items) c.loop.store c.next_equation.new.store c.in_ok-next.next es c.in-Some.equation c.in-Some.is c.in_ok-next.ensures.next in
    let refuted : CanRefute Σ (whole (e ∷ es) c.next_equation.new.store.now) = subst (λ a. Advances a Σ (whole (e ∷ es) c.next_equation.new.store.now) (whole (stacked c.advance.new.work.items) c.advance.new.store.now)) c.in-Refuted.is c.in_ok-outcome-in-Some.ensures.done in
    refuted_from Σ (canonical_is_signature c.args.signature.now c.is_canonical.ensures) given c.args.store.now.now c.next_equation.new.store.now c.requires.ready c.next_equation.ensures.consistent (e ∷ es) (both_reached Σ c.loop.invariant.run next) refuted

pub returns-in-Refuted-clause-story : goal.returns-in-Refuted-clause-story
returns-in-Refuted-clause-story c =
    later_then c.args.store.now c.next_equation.new.store c.advance.new.store (later_then c.args.store.now c.loop.store c.next_equation.new.store c.loop.invariant.story c.next_equation.ensures.story) c.advance.ensures.story

pub loop-preserved : goal.loop-preserved
loop-preserved c =
    let Σ = signature_of c.args.signature.now in
    let e = equation_of c.in-Some.equation in
    let es = stacked c.next_equation.new.work.items in
    let next : ReachedRun Σ (whole (stacked c.loop.work.items) c.loop.store.now) (whole (e ∷ es) c.next_equation.new.store.now) = some_next Σ (stacked c.loop.work.items) c.loop.store c.next_equation.new.store c.in_ok-next.next es c.in-Some.equation c.in-Some.is c.in_ok-next.ensures.next in
    let s = whole (e ∷ es) c.next_equation.new.store.now in
    let t = whole (stacked c.advance.new.work.items) c.advance.new.store.now in
    let went : ReachedRun Σ s t = not_refuted c.in_ok-outcome-in-Some.outcome Σ s t c.in_default.not-Refuted c.in_ok-outcome-in-Some.ensures.done in
    record {
      run = both_reached Σ (both_reached Σ c.loop.invariant.run next) went;
      consistent = c.advance.ensures.consistent;
      known = c.in_ok-outcome-in-Some.ensures.known;
      watches = c.in_ok-note-in_default.ensures c.next_equation.new.store.now c.advance.new.store.now c.in_ok-next.ensures.watches c.in_ok-outcome-in-Some.ensures.change;
      story = later_then c.args.store.now c.next_equation.new.store c.advance.new.store (later_then c.args.store.now c.loop.store c.next_equation.new.store c.loop.invariant.story c.next_equation.ensures.story) c.advance.ensures.story;
    }

pub returns-in_err-note-in_default-clause-story : goal.returns-in_err-note-in_default-clause-story
returns-in_err-note-in_default-clause-story c =
    later_then c.args.store.now c.next_equation.new.store c.advance.new.store (later_then c.args.store.now c.loop.store c.next_equation.new.store c.loop.invariant.story c.next_equation.ensures.story) c.advance.ensures.story
