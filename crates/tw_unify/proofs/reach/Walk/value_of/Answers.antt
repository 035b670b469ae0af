use Rattle.std.proofs.Common.{◌≡◌, Some, None, sym, ap, subst, ◌∙◌, refl}
use Rattle.std.specs.List.{slice_get}
use Rattle.std.proofs.lemmas.Result.{on_ok_weaker}
use Rattle.lf_unification.specs.OpenTyping.{MetavariablesIn}
use Rattle.lf_unification.specs.Reach.{Mentions}
use Rattle.tw_metas.specs.State.{joined}
use Rattle.tw_terms.specs.OpenView.{open_term_of}
use Rattle.tw_unify.specs.Reaching.{IsMarked, StandsInValue, marking_of}
use Rattle.tw_putting.specs.Stores.{bindings_of}
use Rattle.tw_unify.proofs.Reaching.{spread_wider}
use Rattle.tw_putting.proofs.Views.{binding_of_value, value_of_binding, same_value}
use Rattle.tw_unify.proofs.reach.Walk.value_of.Goals as goal

pub returns-in-Some-clause-spread : goal.returns-in-Some-clause-spread
returns-in-Some-clause-spread c =
    let s = c.args.store.now.now in
    let m = c.args.meta.0 in
    let N = open_term_of c.in-Some.value.now in
    let is : joined (slice_get s.values m) ≡ Some N = sym c.in-Some.ensures in
    on_ok_weaker c.term.result
    (spread_wider (λ k. Mentions k N) (StandsInValue (bindings_of s) m) (marking_of c.args.self.now) (marking_of c.term.new.self)
    (λ k h. (record { of = m; value = N }, binding_of_value s.bound s.values m N (c.requires.values_are_bound m N is) is, refl, h)))
    c.term.ensures.spread

pub returns-in-Some-clause-met : goal.returns-in-Some-clause-met
returns-in-Some-clause-met c =
    let s = c.args.store.now.now in
    on_ok_weaker c.term.result
    (λ (h : MetavariablesIn (IsMarked (marking_of c.term.new.self)) (open_term_of c.in-Some.value.now)). λ b i e.
    subst (MetavariablesIn (IsMarked (marking_of c.term.new.self))) (same_value s.values c.args.meta.0 b (open_term_of c.in-Some.value.now) e (value_of_binding s.bound s.values b i) (sym c.in-Some.ensures)) h)
    c.term.ensures.met

pub returns-in-None-clause-met : goal.returns-in-None-clause-met
returns-in-None-clause-met c =
    let s = c.args.store.now.now in
    λ b i e. let no : None ≡ Some b.value = c.in-None.ensures ∙ (ap (λ j. joined (slice_get s.values j)) (sym e) ∙ value_of_binding s.bound s.values b i) in absurd cc
