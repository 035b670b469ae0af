-- Worked: equations that are left and have no typed unifier together.
use Rattle.std.proofs.Common.{◌≡◌, ◌≤◌, ℕ, zero, suc, List, [], ◌∷◌, inl, refl, sym, ◌∙◌, arith}
use Rattle.std.specs.Prelude.{Option}
use Rattle.lf.specs.Syntax.{Term, Spine, constant, metavariable, variable, root, nil, app, arrow, base, LfType, pi, star}
use Rattle.lf.specs.Substitution.{keep}
use Rattle.lf.specs.Typing.{Signature, IsType}
use Rattle.lf_unification.specs.OpenTyping.{Declares, MetavariablesIn, skeletons_of}
use Rattle.lf_unification.specs.Patterns.{pattern}
use Rattle.lf_unification.specs.Putting.{PutsIn, put_at_rigid, put_at_unbound, put_in_argument, put_nowhere}
use Rattle.lf_unification.specs.Reach.{IsInside, is_given}
use Rattle.lf_unification.specs.Solving.{Left, LeftOver, Never}
use Rattle.lf_unification.specs.Steps.{no_step}
use Rattle.lf_unification.proofs.Runs.{run_left}
use Rattle.lf_totality.specs.Examples.{nat, on_two, successor, var, z}
use Rattle.lf_coverage.specs.Examples.{two_nats}
use Rattle.lf_coverage.specs.ExamplesStuck.{Zeros}
use Rattle.lf_numbered.specs.MeetsAnswers.{IsPlace, entries_at}
use Rattle.lf_numbered.specs.NeededLeftUnsolved.{TwiceHasNoTuple, applied_is, both_left, next_head, twice_applied}
use Rattle.lf_numbered.specs.NumberedCalls.{IsFor, NumberedMatchedNeeds}
use Rattle.lf_numbered.specs.NumberedCallsStores.{constant_beside, meet_store_by_number}
use Rattle.lf_numbered.specs.OwnTerms.{TypeOnOwnTerms, own_terms}
use Rattle.lf_numbered.specs.ReadyPlaces.{IsReadyToSolve}
use Rattle.lf_numbered.specs.TypedNumbered.{IsTypedNumberedCase}
use Rattle.lf_numbered.proofs.EntryTermsInputs.{closed_is_typed}
use Rattle.lf_coverage.proofs.ExamplesStuck.{zeros_ok}
use Rattle.lf_numbered.proofs.FreeFrom.{free_from}
use Rattle.lf_numbered.proofs.MetTuples.{unsolved_left_has_no_tuple}
use Rattle.lf_numbered.proofs.NumberedNeedsFor.{head_is_for}
use Rattle.lf_coverage.proofs.Parts.{none_some}
use Rattle.lf_numbered.proofs.ReadyPlaces.{needed_places_are_ready_to_solve}
use Rattle.lf_coverage.proofs.UsedVariables.{types_of_one}

-- The case and the head have what `instance_of` needs
twice_typed : IsTypedNumberedCase Zeros 3 [] twice_applied
twice_typed = record {
  variables = record { variables = (tt, ((star, refl, tt), (star, refl, tt))); on_own_terms = types_of_one (λ i A. TypeOnOwnTerms (own_terms 3 []) A) (pi nat nat) (tt, tt); blocks = tt };
  local = (tt, ((star, refl, tt), (star, refl, tt)));
  local_on_own = tt;
  given = tt;
  given_on_own = tt;
  arguments = ((base 0, (arrow (base 0) (base 0), refl, ((base 0, refl, refl), refl))), ((base 0, (arrow (base 0) (base 0), refl, ((base 0, refl, refl), refl))), tt));
  arguments_on_own = (((tt, tt), tt), (((tt, tt), tt), tt));
}

head_typed : IsType Zeros [] (on_two 2 z (successor z))
head_typed = (two_nats, refl, ((nat, refl, refl), ((pi nat nat, refl, ((nat, refl, refl), refl)), tt)))

head_for : IsFor Zeros 3 [] twice_applied next_head
head_for = head_is_for Zeros 3 [] twice_applied next_head (closed_is_typed Zeros zeros_ok (on_two 2 z (successor z)) head_typed) tt refl (record { is_head = refl; none_given = refl; no_local = refl; kind = two_nats; of_family = refl; covered_only = (tt, (tt, tt)); tuple = app (root (variable 0) (app z nil)) (app (root (variable 0) (app z nil)) nil); at_places = (refl, (refl, tt)); typed_places = ((pi nat nat, refl, ((nat, refl, refl), refl)), ((pi nat nat, refl, ((nat, refl, refl), refl)), tt)) })

needs : NumberedMatchedNeeds Zeros 3 [] twice_applied next_head
needs = record { setting = record { signature = zeros_ok; blocks = λ B m. absurd m; free = free_from Zeros 3 (λ c. refl) (λ a. refl) }; case = twice_typed; pattern = head_for }

none_more : (k : ℕ) → k ≤ k
none_more k = omega arith

place : IsPlace 3 twice_applied next_head (λ k. k) twice_applied keep
place = record { identifies = λ k b e. absurd (none_some e); oldest = none_more; beside = constant_beside next_head.clause.type }

-- Each equation is outside the pattern fragment, since z is no variable.
abbrev types : ℕ → Option LfType
types = both_left.metavariables

no_variable : {x : ℕ} → z ≡ var x → ⊥
no_variable e = cc

first : {X Y : Term} {A B : Spine} → app X A ≡ app Y B → X ≡ Y
first e = cc

constant_fails : (xs : List ℕ) → app z nil ≡ pattern (arrow (base 0) (base 0)) xs → ⊥
constant_fails [] e = cc
constant_fails (x ∷ xs) e = no_variable (first e)

no_pattern : (m : ℕ) (xs : List ℕ) → root (metavariable 0) (app z nil) ≡ root (metavariable m) (pattern (skeletons_of types m) xs) → ⊥
no_pattern m xs e = by m (let p : 0 ≡ m = cc in p) (let q : app z nil ≡ pattern (skeletons_of types m) xs = cc in q)
  where
    by : (m : ℕ) → 0 ≡ m → app z nil ≡ pattern (skeletons_of types m) xs → ⊥
    by zero p q = constant_fails xs q
    by (suc m) p q = absurd cc

module _ (c : ℕ) (S : Spine) (puts : PutsIn types [] 0 (root (constant c) S) (root (constant c) S)) (inside : MetavariablesIn (IsInside (Declares types) []) (root (constant c) S)) where
  constant_is_none : (m : ℕ) (T : Spine) → root (constant c) S ≡ root (metavariable m) T → ⊥
  constant_is_none m T e = cc

  differs : root (metavariable 0) (app z nil) ≡ root (constant c) S → ⊥
  differs e = cc

  left_over : LeftOver types both_left (applied_is (root (constant c) S))
  left_over = record {
    shown = applied_is (root (constant c) S);
    same_local = refl;
    put_left = put_at_unbound tt (put_in_argument (put_at_rigid (constant 0) tt put_nowhere) put_nowhere);
    put_right = puts;
    inside_left = (is_given (pi nat nat, refl), (tt, tt));
    inside_right = inside;
    outside = record {
      differ = differs;
      left_root = λ h. h;
      right_root = λ h. h;
      flexible = inl tt;
      stuck_left = λ m xs p e. absurd (no_pattern m xs e);
      stuck_right = λ m xs p e. absurd (constant_is_none m _ e);
    };
  }

some_left : applied_is z ∷ applied_is (successor z) ∷ [] ≡ [] → ⊥
some_left e = cc

is_left : Left (entries_at Zeros 3 twice_applied) (meet_store_by_number (λ k. k) twice_applied next_head keep two_nats) both_left
is_left =
    let r : IsReadyToSolve (entries_at Zeros 3 twice_applied) (meet_store_by_number (λ k. k) twice_applied next_head keep two_nats) = needed_places_are_ready_to_solve Zeros 3 [] twice_applied next_head needs two_nats refl (λ k. k) twice_applied keep place in
    run_left (entries_at Zeros 3 twice_applied) r.signature r.well_formed no_step some_left (left_over 0 nil (put_at_rigid (constant 0) tt put_nowhere) tt, (left_over 1 (app z nil) (put_at_rigid (constant 1) tt (put_in_argument (put_at_rigid (constant 0) tt put_nowhere) put_nowhere)) (tt, tt), tt))

z_is_no_successor : z ≡ successor z → ⊥
z_is_no_successor e = cc

never : (Σ : Signature) → Never Σ [] both_left
never Σ F β u = z_is_no_successor (sym u.1.1.0 ∙ u.1.1.1.0)

pub twice_has_no_tuple : TwiceHasNoTuple
twice_has_no_tuple = (needs, is_left, never, λ t x s. unsolved_left_has_no_tuple Zeros 3 [] twice_applied next_head needs two_nats refl t (λ k. k) twice_applied keep x both_left is_left (λ Σ e. never Σ) s)
