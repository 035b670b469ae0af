-- Worked meetings of a case with the clause eq z z.
use Rattle.std.proofs.Common.{◌≡◌, ℕ, zero, suc, List, [], ◌∷◌, inl, inr, refl, sym, subst, arith}
use Rattle.std.specs.Prelude.{false, Option}
use Rattle.lf.specs.Syntax.{Spine, Term, LfType, app, arrow, base, constant, metavariable, nil, pi, root, star}
use Rattle.lf.specs.Subordination.{Member, AreTypedBlocks}
use Rattle.lf_unification.specs.OpenTyping.{skeletons_of}
use Rattle.lf_unification.specs.Patterns.{pattern}
use Rattle.lf_unification.specs.Putting.{put_at_rigid, put_at_unbound, put_in_argument, put_nowhere}
use Rattle.lf_unification.specs.Reach.{is_given}
use Rattle.lf_unification.specs.Solving.{Left, LeftOver, Never, Solved}
use Rattle.lf_unification.specs.Steps.{CanRefute, Run, bind, constants_differ, drop_equal, no_step, then_run}
use Rattle.lf_unification.specs.Unifiers.{Equation, Store, on_left}
use Rattle.lf_unification.proofs.Runs.{run_left, run_solved}
use Rattle.lf_unification.proofs.Solving.{solved_not_never}
use Rattle.lf_checks.specs.Clause.{constant_clause, from_constant}
use Rattle.lf_cases.specs.Case.{Case}
use Rattle.lf_totality.specs.Examples.{nat, on_two, successor, var, z}
use Rattle.lf_coverage.specs.Examples.{two_nats}
use Rattle.lf_coverage.specs.ExamplesMeetings.{MeetingsAreAnswered, SuccessorIsApart, successor_case, zeros}
use Rattle.lf_coverage.specs.ExamplesRenumbering.{exchanged}
use Rattle.lf_coverage.specs.ExamplesStuck.{Zeros, applied_case, solved_case}
use Rattle.lf_coverage.specs.Leaf.{IsTypedPattern}
use Rattle.lf_coverage.specs.MeetStore.{IsOpen, meet_store}
use Rattle.lf_coverage.specs.Renumbering.{renumbered_store}
use Rattle.lf_coverage.specs.SplitStore.{context_metavariables}
use Rattle.lf_coverage.specs.Stuck.{IsAnswered}
use Rattle.lf_coverage.specs.TypedCase.{IsTypedBeside}
use Rattle.lf_coverage.proofs.ExamplesStuck.{zeros_ok}
use Rattle.lf_coverage.proofs.ExamplesUnified.{no_argument}
use Rattle.lf_coverage.proofs.Leaves.{head_is_typed}
use Rattle.lf_coverage.proofs.RefutingNumbers.{refuted_is_apart_under_numbers, refuted_under_numbers}
use Rattle.lf_coverage.proofs.TypedCases.{meet_store_is_ready}

no_blocks : AreTypedBlocks Zeros []
no_blocks B m = absurd m

zeros_typed : IsTypedPattern Zeros zeros
zeros_typed = head_is_typed Zeros zeros_ok [] no_blocks (constant_clause (on_two 2 z z)) (from_constant 2 (on_two 2 z z) refl)

-- s X = z
never_successor : Never Zeros [] (meet_store successor_case zeros two_nats)
never_successor F β (i, (r, (e, rest))) = differ _ e
  where
    differ : (P : Term) → successor P ≡ z → ⊥
    differ P q = cc

-- eq z Y: z = z is dropped, and Y bound
solved_beside : IsTypedBeside Zeros [] solved_case zeros
solved_beside = record {
  by_skeletons = record { items = (tt, (star, refl, tt)); given = tt; arguments = ((base 0, (base 0, refl, refl)), ((base 0, (base 0, refl, refl)), tt)) };
  local_typed = (tt, (star, refl, tt));
  same_family = refl;
  kind = two_nats;
  of_family = refl;
  given = record { typed = λ i A g u. absurd g; closed = λ i A g u. absurd g };
  local = refl;
  arguments = ((nat, refl, refl), ((nat, refl, refl), tt));
}

abbrev solved_store : Store
solved_store = meet_store solved_case zeros two_nats

abbrev solved_after : Store
solved_after = record { metavariables = context_metavariables (nat ∷ []); bindings = record { of = 0; value = z } ∷ []; equations = [] }

solved_run : Run Zeros solved_store solved_after
solved_run = then_run drop_equal (then_run (bind {A = nat} on_left [] 0 [] z nat refl tt no_argument (record { inverted = record { inversion = z; is = refl }; reached = λ k. false; avoids = ((λ k A v e. absurd v), tt, λ v. v); within = tt })) no_step)

solved : Solved Zeros solved_store solved_after
solved = run_solved Zeros zeros_ok (meet_store_is_ready Zeros zeros_ok [] no_blocks solved_case zeros zeros_typed solved_beside two_nats refl) solved_run refl

-- eq z (F z): z = z is dropped, and F z = z is left
applied_beside : IsTypedBeside Zeros [] applied_case zeros
applied_beside = record {
  by_skeletons = record { items = (tt, ((star, refl, tt), (star, refl, tt))); given = tt; arguments = ((base 0, (base 0, refl, refl)), ((base 0, (arrow (base 0) (base 0), refl, ((base 0, refl, refl), refl))), tt)) };
  local_typed = (tt, ((star, refl, tt), (star, refl, tt)));
  same_family = refl;
  kind = two_nats;
  of_family = refl;
  given = record { typed = λ i A g u. absurd g; closed = λ i A g u. absurd g };
  local = refl;
  arguments = ((nat, refl, refl), ((pi nat nat, refl, ((nat, refl, refl), refl)), tt));
}

abbrev applied_types : ℕ → Option LfType
applied_types = context_metavariables (pi nat nat ∷ [])

abbrev applied_equation : Equation
applied_equation = record { local = []; left = root (metavariable 0) (app z nil); right = z; of_type = nat }

abbrev applied_after : Store
applied_after = record { metavariables = applied_types; bindings = []; equations = applied_equation ∷ [] }

-- z is no variable
no_variable : {x : ℕ} → z ≡ var x → ⊥
no_variable e = cc

first : {X Y : Term} {A B : Spine} → app X A ≡ app Y B → X ≡ Y
first e = cc

constant_fails : (xs : List ℕ) → app z nil ≡ pattern (arrow (base 0) (base 0)) xs → ⊥
constant_fails [] e = cc
constant_fails (x ∷ xs) e = no_variable (first e)

no_pattern : (m : ℕ) (xs : List ℕ) → root (metavariable 0) (app z nil) ≡ root (metavariable m) (pattern (skeletons_of applied_types m) xs) → ⊥
no_pattern m xs e = by m (let p : 0 ≡ m = cc in p) (let q : app z nil ≡ pattern (skeletons_of applied_types m) xs = cc in q)
  where
    by : (m : ℕ) → 0 ≡ m → app z nil ≡ pattern (skeletons_of applied_types m) xs → ⊥
    by zero p q = constant_fails xs q
    by (suc m) p q = absurd cc

constant_is_none : (m : ℕ) (S : Spine) → z ≡ root (metavariable m) S → ⊥
constant_is_none m S e = cc

applied_differs : root (metavariable 0) (app z nil) ≡ z → ⊥
applied_differs e = cc

applied_left_over : LeftOver applied_types applied_after applied_equation
applied_left_over = record {
  shown = applied_equation;
  same_local = refl;
  put_left = put_at_unbound tt (put_in_argument (put_at_rigid (constant 0) tt put_nowhere) put_nowhere);
  put_right = put_at_rigid (constant 0) tt put_nowhere;
  inside_left = (is_given (pi nat nat, refl), (tt, tt));
  inside_right = tt;
  outside = record {
    differ = applied_differs;
    left_root = λ h. h;
    right_root = λ h. h;
    flexible = inl tt;
    stuck_left = λ m xs p e. absurd (no_pattern m xs e);
    stuck_right = λ m xs p e. absurd (constant_is_none m _ e);
  };
}

some_left : applied_equation ∷ [] ≡ [] → ⊥
some_left e = cc

applied_left : Left Zeros (meet_store applied_case zeros two_nats) applied_after
applied_left = run_left Zeros zeros_ok (meet_store_is_ready Zeros zeros_ok [] no_blocks applied_case zeros zeros_typed applied_beside two_nats refl) (then_run drop_equal no_step) some_left (applied_left_over, tt)

applied_open : IsOpen Zeros applied_case zeros
applied_open = record { kind = two_nats; of_family = refl; no_block = tt; of_a_constant = tt; undecided = inr (applied_after, applied_left) }

pub meetings_are_answered : MeetingsAreAnswered
meetings_are_answered = (never_successor, (λ n. solved_not_never Zeros zeros_ok solved_store solved_after solved n), applied_open, each)
  where
    each : (C : Case) → Member C (successor_case ∷ solved_case ∷ applied_case ∷ []) → IsAnswered Zeros two_nats C zeros
    each C (inl e) = subst (λ D. IsAnswered Zeros two_nats D zeros) (sym e) (inl never_successor)
    each C (inr (inl e)) = subst (λ D. IsAnswered Zeros two_nats D zeros) (sym e) (inr (inl (solved_after, solved)))
    each C (inr (inr (inl e))) = subst (λ D. IsAnswered Zeros two_nats D zeros) (sym e) (inr (inr applied_open))
    each C (inr (inr (inr e))) = absurd e

-- s X = z, and Y = z
successor_beside : IsTypedBeside Zeros [] successor_case zeros
successor_beside = record {
  by_skeletons = record { items = ((tt, (star, refl, tt)), (star, refl, tt)); given = tt; arguments = ((base 0, (arrow (base 0) (base 0), refl, ((base 0, refl, refl), refl))), ((base 0, (base 0, refl, refl)), tt)) };
  local_typed = ((tt, (star, refl, tt)), (star, refl, tt));
  same_family = refl;
  kind = two_nats;
  of_family = refl;
  given = record { typed = λ i A g u. absurd g; closed = λ i A g u. absurd g };
  local = refl;
  arguments = ((pi nat nat, refl, ((nat, (nat, refl, refl), refl), refl)), ((nat, refl, refl), tt));
}

successor_refuted : CanRefute Zeros (renumbered_store exchanged (meet_store successor_case zeros two_nats))
successor_refuted = (refuted_under_numbers Zeros zeros_ok exchanged (meet_store successor_case zeros two_nats)).0 (record { reached = _; run = no_step; refuted = constants_differ apart })
  where
    apart : 1 ≡ zero → ⊥
    apart e = omega arith

pub successor_is_apart : SuccessorIsApart
successor_is_apart = (successor_refuted, refuted_is_apart_under_numbers Zeros zeros_ok [] no_blocks successor_case tt zeros zeros_typed tt successor_beside two_nats refl exchanged successor_refuted)
