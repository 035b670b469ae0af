-- Worked tuples at places of a pattern beside a case.
use Rattle.std.proofs.Common.{◌≡◌, ◌≤◌, ℕ, [], ◌∷◌, inl, inr, refl, sym, ap, ◌∙◌, arith, ◌+◌}
use Rattle.std.specs.Prelude.{None, false, Some}
use Rattle.lf.specs.Syntax.{Spine, app, nil, arrow, base, lambda, pi}
use Rattle.lf.specs.Substitution.{Image, keep, put}
use Rattle.lf_cases.specs.Cover.{InstanceIn, before}
use Rattle.lf_totality.proofs.After.{Extends-self}
use Rattle.lf_totality.proofs.Copying.{copying_ok}
use Rattle.lf_totality.specs.Examples.{Copying, copy_block, cp, cp_kind, exp, var, nat, z}
use Rattle.lf.specs.AtOnce.{in_front}
use Rattle.lf.specs.Worlds.{no_variables}
use Rattle.lf_unification.specs.Solving.{Left}
use Rattle.lf_unification.specs.Unifiers.{Store}
use Rattle.lf_coverage.specs.Examples.{two_nats}
use Rattle.lf_coverage.specs.ExamplesCopying.{copy_entry_head, copy_worlds}
use Rattle.lf_coverage.specs.ExamplesMeetings.{zeros}
use Rattle.lf_coverage.specs.ExamplesStuck.{Zeros}
use Rattle.lf_coverage.proofs.ExamplesStuck.{zeros_ok}
use Rattle.lf_coverage.proofs.ExamplesCopyingSplit.{copy_typed}
use Rattle.lf_coverage.proofs.Parts.{none_some}
use Rattle.lf_numbered.specs.EntryPatternsRuns.{HoldsByNumber}
use Rattle.lf_numbered.specs.ExamplesNumbered.{one_copy, two_copies}
use Rattle.lf_numbered.specs.MeetsAnswers.{IsPlace, HasUnifier, entries_at}
use Rattle.lf_numbered.specs.MeetsAnswersExamples.{one_of_two}
use Rattle.lf_numbered.specs.MeetsTuple.{SharesTuple}
use Rattle.lf_numbered.specs.MetEquations.{TupleStandsAt, IsMadeOf, SolvesLeft}
use Rattle.lf_numbered.specs.MetEquationsExamples.{CopiesStandAtOne, AppliedZeroSolvesLeft}
use Rattle.lf_numbered.specs.NumberedCallsExamples.{applied_zero}
use Rattle.lf_numbered.specs.NumberedCallsRows.{copy_outer}
use Rattle.lf_numbered.specs.NumberedCallsStores.{constant_beside, entry_beside, meet_store_by_number}
use Rattle.lf_numbered.proofs.MetTuples.{standing_tuple_has_unifier, standing_tuple_solves_left}
use Rattle.lf_numbered.proofs.NumberedAnswersExamples.{two_copies_are_stuck}
use Rattle.lf_numbered.proofs.NumberedCallsExamples.{applied_is_open}
use Rattle.lf_numbered.proofs.NumberedCallsRows.{copies_are_equated}
use Rattle.lf_numbered.proofs.SharedTuples.{shared_instance_has_tuple}
use Rattle.lf_numbered.proofs.SharedTuplesExamples.{applied_needs, copies_share, copy_ground, copy_instance, copy_world}

none_less : (k : ℕ) → 0 ≤ k
none_less k = omega arith

none_more : (k : ℕ) → k ≤ k
none_more k = omega arith

-- x, x, of the instance of x and u
abbrev pair : Spine
pair = app (var 1) (app (var 1) nil)

copies_hold : HoldsByNumber copy_world 4 one_copy None keep pair
copies_hold = record { instances = λ k. copy_instance; values = keep; is_ground = copy_ground; zeroth = tt; given = λ i M e. absurd (none_some e); has_arguments = (refl, (refl, tt)) }

only_instance : (φ : ℕ → Image) → InstanceIn copy_world copy_block φ → copy_instance ≡ φ
only_instance φ (inl (a, e)) = sym e
only_instance φ (inr (ψ, (υ, none, e), q)) = absurd none

copies_tuple : (t : SharesTuple Copying 4 two_copies copy_entry_head) × (t.holds.instances ≡ (λ k. copy_instance)) × (t.has.outer ≡ before [] copy_instance)
unfolding copies_hold
copies_tuple =
    let (b, k, e, v, h) = shared_instance_has_tuple Copying 4 copy_worlds two_copies copy_entry_head two_copies_are_stuck.0 copies_share copy_worlds copy_typed (λ b. false) Copying (Extends-self (λ b. false) Copying copying_ok) (cp (var 0) (var 0) ∷ exp ∷ []) copy_world None keep pair copies_hold tt in
    let (φ, i, q) = h.stands in
    (record { worlds = copy_worlds; typed = copy_typed; set = λ b. false; extension = Copying; extends = Extends-self (λ b. false) Copying copying_ok; context = cp (var 0) (var 0) ∷ exp ∷ []; world = copy_world; known = None; values = keep; tuple = pair; holds = k; is_known = λ z. absurd cc; has = h }, e, q ∙ ap (before []) (sym (only_instance φ i)))

pub copies_stand_at_one : CopiesStandAtOne
copies_stand_at_one =
    let (t, e, q) = copies_tuple in
    let x : IsPlace 4 two_copies copy_entry_head (λ k. 0) one_of_two copy_outer = record { identifies = copies_are_equated.0; oldest = none_less; beside = entry_beside copy_block [] (cp (var 0) (var 0)) (exp ∷ []) refl 0 _ refl refl (λ e. refl) } in
    let one : (j k : ℕ) → t.holds.instances j ≡ t.holds.instances k = λ j k. ap (λ θ. θ j) e ∙ sym (ap (λ θ. θ k) e) in
    let s : TupleStandsAt Copying 4 two_copies copy_entry_head t (λ k. 0) one_of_two copy_outer x = record { same = λ k b r. one 0 k; only = λ j k b c r f n y z. refl; entry = q ∙ sym (ap (λ θ. before [] (θ 0)) e) } in
    (t, x, s, (standing_tuple_has_unifier Copying 4 copy_worlds two_copies copy_entry_head two_copies_are_stuck.0 cp_kind t (λ k. 0) one_of_two copy_outer x s).0, λ y r. different (r.only 0 1 _ _ refl refl (λ e. absurd cc) refl (one 0 1)))
  where
    different : ◌≡◌ {A = ℕ} 0 1 → ⊥
    different e = omega (arith, e)

-- z, z, where F is [y] y
abbrev zero_tuple : SharesTuple Zeros 3 applied_zero zeros
zero_tuple = record {
  worlds = [];
  typed = λ B m. absurd m;
  set = λ b. false;
  extension = Zeros;
  extends = Extends-self (λ b. false) Zeros zeros_ok;
  context = [];
  world = no_variables;
  known = None;
  values = keep;
  tuple = app z (app z nil);
  holds = record {
    instances = λ k i. keep i;
    values = in_front (put (arrow (base 0) (base 0)) (lambda (var 0))) keep;
    is_ground = record { values = (lambda (var 0), keep, refl, (nat, refl, refl), refl); instances = tt };
    zeroth = tt;
    given = λ i M e. absurd (none_some e);
    has_arguments = (refl, (refl, tt));
  };
  is_known = tt;
  has = record {
    outer = keep;
    stands = tt;
    used = λ i. false;
    uses = (tt, (tt, tt));
    values = keep;
    typed = record { typed = λ i A g u. absurd g; closed = λ i A g u. absurd g };
    agrees = λ k X g. absurd g;
    given = λ i M u e. absurd (none_some e);
    terms = λ i o u. absurd cc;
    same = (refl, (refl, tt));
  };
}

zero_place : IsPlace 3 applied_zero zeros (λ k. k) applied_zero keep
zero_place = record { identifies = λ k b e. absurd (none_some e); oldest = none_more; beside = constant_beside zeros.clause.type }

zero_stands : TupleStandsAt Zeros 3 applied_zero zeros zero_tuple (λ k. k) applied_zero keep zero_place
unfolding zero_place
zero_stands = record { same = λ k b e. absurd (none_some e); only = λ j k b c e f n q z. absurd (none_some e); entry = tt }

pub applied_zero_solves_left : AppliedZeroSolvesLeft
applied_zero_solves_left = (applied_is_open.0, zero_tuple, refl, zero_place, zero_stands, λ after l. by after l (standing_tuple_solves_left Zeros 3 [] applied_zero zeros applied_needs two_nats refl zero_tuple (λ k. k) applied_zero keep zero_place zero_stands after l))
  where
    only : (n : ℕ) → n + 1 ≡ 0 + 1 → 0 + n ≡ 0
    only n e = omega (arith, e)

    by : (after : Store) (l : Left (entries_at Zeros 3 applied_zero) (meet_store_by_number (λ k. k) applied_zero zeros keep two_nats) after) → (u : HasUnifier (entries_at Zeros 3 applied_zero) (meet_store_by_number (λ k. k) applied_zero zeros keep two_nats)) × IsMadeOf zero_tuple applied_zero u.signature u.context u.filling × SolvesLeft (entries_at Zeros 3 applied_zero) (meet_store_by_number (λ k. k) applied_zero zeros keep two_nats) after l u → (u : HasUnifier (entries_at Zeros 3 applied_zero) (meet_store_by_number (λ k. k) applied_zero zeros keep two_nats)) × (u.filling 0 ≡ Some (lambda (var 0))) × SolvesLeft (entries_at Zeros 3 applied_zero) (meet_store_by_number (λ k. k) applied_zero zeros keep two_nats) after l u
    by after l (u, (n, q, w), v) = (u, ap u.filling (sym (only n q)) ∙ w.same 0 (pi nat nat) refl, v)
