-- The worked split that leaves an equation with a metavariable that solving made.
use Rattle.std.proofs.Common.{◌≡◌, ℕ, zero, suc, List, [], ◌∷◌, inl, inr, refl, subst, arith}
use Rattle.std.specs.Prelude.{Bool, false, Option, Some}
use Rattle.lf.specs.Rules.{Reduces, at_constant, at_keep, at_metavariable, at_put, beta, inside_lambda, more, none, stop}
use Rattle.lf.specs.Syntax.{Skeleton, LfType, app, arrow, base, constant, metavariable, nil, root}
use Rattle.lf.specs.Variables.{same_number}
use Rattle.lf_unification.specs.OpenTyping.{MetavariablesInType, set_at, skeletons_of}
use Rattle.lf_unification.specs.Outside.{Holds}
use Rattle.lf_unification.specs.Patterns.{pattern}
use Rattle.lf_unification.specs.Putting.{put_at_rigid, put_at_unbound, put_in_argument, put_nothing, put_nowhere, some_at_bound, some_in_argument, some_in_arguments, some_nowhere}
use Rattle.lf_unification.specs.Reach.{inside_value, is_given}
use Rattle.lf_unification.specs.Solving.{IsWellFormed, LeftOver}
use Rattle.lf_unification.specs.Steps.{Run, bind, no_step, open_lambdas, prune_inside, put_bindings, then_run}
use Rattle.lf_unification.specs.Unifiers.{Store, on_left, on_right}
use Rattle.lf_unification.proofs.Runs.{run_left}
use Rattle.lf_totality.specs.Examples.{nat, successor, var, z}
use Rattle.lf_coverage.proofs.FlexibleLeft.{some_left}
use Rattle.lf_coverage.proofs.NoArgument.{no_argument_of}
use Rattle.lf_coverage.proofs.OtherNumbers.{other_number}
use Rattle.lf_coverage.proofs.Parts.{some_same}
use Rattle.lf_numbered.specs.NeededMade.{Made, MadeBySolving, h_type, made_case, made_left, made_over, one_nat, t_kind, two_nat, v_type}
use Rattle.lf_numbered.specs.NumberedCallsOutside.{SplitLeavesByNumber}
use Rattle.lf_numbered.specs.NumberedSplits.{NumberedOffer, of_case}
use Rattle.lf_numbered.specs.OwnStores.{IsNumberedOffer, numbered_store, offer_signature}
use Rattle.lf_numbered.proofs.OwnStoresStart.{numbered_store_is_ready}
use Rattle.lf_numbered.proofs.NeededMadeStore.{Entries, applied, case_typed, entries_ok, free, h_value, locals, of_g, of_h, of_v, ok, one_kept, pruned, scoped, two_arrows, types, v_open, y_goes}

-- G x y is G' x, and G z z is G' z.
abbrev made : ℕ → Option LfType
made = set_at 3 (Some one_nat) types

abbrev left_store : Store
left_store = record { metavariables = made; bindings = of_h ∷ of_g ∷ of_v ∷ []; equations = made_left ∷ [] }

at_x : Reduces two_arrows of_g.value (app (var 1) (app (var 0) nil)) (root (metavariable 3) (app (var 1) nil))
at_x = beta (inside_lambda (at_metavariable (more (at_put refl none stop) none))) (beta (at_metavariable (more (at_keep refl none) none)) stop)

at_z : Reduces two_arrows of_g.value (app z (app z nil)) (root (metavariable 3) (app z nil))
at_z = beta (inside_lambda (at_metavariable (more (at_put refl none stop) none))) (beta (at_metavariable (more (at_constant none) none)) stop)

abbrev offer : NumberedOffer
offer = record { case = made_case; variable = 0; type = v_type 1; head = constant 2; terms = nil; left = h_type }

differ : (m n : ℕ) → same_number m n ≡ false → m ≡ n → ⊥
differ m n f e = other_number e f

-- G' z is no pattern, since z is no variable.
no_constant : (t : Skeleton) (xs : List ℕ) → app z nil ≡ pattern t xs → ⊥
no_constant (base c) xs e = cc
no_constant (arrow a b) [] e = cc
no_constant (arrow (base c) b) (x ∷ xs) e = cc
no_constant (arrow (arrow a c) b) (x ∷ xs) e = cc

no_pattern : (m : ℕ) (xs : List ℕ) → made_left.left ≡ root (metavariable m) (pattern (skeletons_of made m) xs) → ⊥
no_pattern m xs e = no_constant (skeletons_of made m) xs (let q : app z nil ≡ pattern (skeletons_of made m) xs = cc in q)

no_metavariable : (m : ℕ) (xs : List ℕ) → z ≡ root (metavariable m) (pattern (skeletons_of made m) xs) → ⊥
no_metavariable m xs e = cc

sides_differ : made_left.left ≡ made_left.right → ⊥
sides_differ e = cc

abbrev left_over : LeftOver types left_store made_left
left_over = record {
  shown = made_left;
  same_local = refl;
  put_left = put_at_unbound ((λ e. differ 3 0 refl e), ((λ e. differ 3 2 refl e), ((λ e. differ 3 1 refl e), tt))) (put_in_argument (put_at_rigid (constant 0) tt put_nowhere) put_nowhere);
  put_right = put_at_rigid (constant 0) tt put_nowhere;
  inside_left = (inside_value of_g (is_given (two_nat, refl)) (inr (inl refl)) (inl refl), (tt, tt));
  inside_right = tt;
  outside = record {
    differ = sides_differ;
    left_root = λ h. h;
    right_root = λ h. h;
    flexible = inl tt;
    stuck_left = λ m xs p e. absurd (no_pattern m xs e);
    stuck_right = λ m xs p e. absurd (no_metavariable m xs e);
  };
}

module _ (below : ℕ → ℕ → Bool) where
  is_offered : IsNumberedOffer Made 3 made_case (v_type 1) (constant 2) nil h_type
  is_offered = offer_signature 2 h_type refl refl

  abbrev store : Store
  store = numbered_store below made_case 0 (v_type 1) (constant 2) nil h_type t_kind

  ready : IsWellFormed Entries store
  ready = numbered_store_is_ready Made ok [] (λ B m. absurd m) 3 free below made_case case_typed 0 (v_type 1) refl (constant 2) nil h_type is_offered t_kind refl

  run : Run Entries store left_store
  run =
      then_run (bind {A = v_open} on_left [] 1 [] h_value v_open refl tt (no_argument_of 1) (record { inverted = record { inversion = h_value; is = refl }; reached = same_number 0; avoids = (given_in, tt, λ v. v); within = ((tt, (tt, tt)), tt) }))
      (then_run open_lambdas
      (then_run open_lambdas
      (then_run (prune_inside {A = one_nat} on_right locals 0 (1 ∷ []) applied nat refl one_kept (record { drop = y_goes; dropped = 0; is_place = refl; pruned = pruned }) ((λ e. differ 2 1 refl e), tt) 3 scoped)
      (then_run (put_bindings (some_in_arguments (constant 1) (some_in_argument (some_at_bound of_g (inl refl) (some_in_argument put_nothing (some_in_argument put_nothing some_nowhere)) at_x put_nothing) some_nowhere)) put_nothing)
      (then_run (bind {A = one_nat} on_right locals 0 (1 ∷ []) (successor (root (metavariable 3) (app (var 1) nil))) nat refl ((λ e. differ 0 2 refl e), ((λ e. differ 0 1 refl e), tt)) one_kept (record { inverted = record { inversion = successor (root (metavariable 3) (app (var 0) nil)); is = refl }; reached = same_number 3; avoids = (made_in, ((λ v. absurd v), ((λ v. absurd v), tt)), λ v. v); within = ((tt, (tt, tt)), tt) }))
      (then_run (put_bindings (some_at_bound of_g (inr (inl refl)) (some_in_argument put_nothing (some_in_argument put_nothing some_nowhere)) at_z put_nothing) put_nothing) no_step))))))
    where
      given_in : (k : ℕ) (A : LfType) → Holds (same_number 0 k) → types k ≡ Some A → MetavariablesInType (λ j. Holds (same_number 0 j)) A
      given_in zero A v e = subst (MetavariablesInType (λ j. Holds (same_number 0 j))) (some_same e) (tt, tt)
      given_in (suc k) A v e = absurd v

      made_in : (k : ℕ) (A : LfType) → Holds (same_number 3 k) → made k ≡ Some A → MetavariablesInType (λ j. Holds (same_number 3 j)) A
      made_in zero A v e = absurd v
      made_in (suc zero) A v e = absurd v
      made_in (suc (suc zero)) A v e = absurd v
      made_in (suc (suc (suc zero))) A v e = subst (MetavariablesInType (λ j. Holds (same_number 3 j))) (some_same e) (tt, tt)
      made_in (suc (suc (suc (suc k)))) A v e = absurd v

  leaves : SplitLeavesByNumber Made 3 [] below made_case 0 made_over made_left
  leaves = record { type = v_type 1; at = refl; offer = offer; is_offered = of_case (constant 2) nil h_type is_offered; is_over = refl; kind = t_kind; of_family = refl; after = left_store; left = run_left Entries entries_ok ready run some_left (left_over, tt); equation = made_left; listed = inl refl; left_over = left_over; is_shown = refl }

pub made_by_solving : MadeBySolving
made_by_solving below = (leaves below, inl refl, omega arith)
