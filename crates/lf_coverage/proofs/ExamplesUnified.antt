-- A split of the inputs of addition on which unification answers, and a head on which it never solves.
use Rattle.std.proofs.Common.{◌≡◌, ℕ, zero, suc, [], ◌∷◌, refl, sym, ap, subst, arith, inl, inr}
use Rattle.std.specs.Prelude.{true, false, Some, None, Option}
use Rattle.lf.specs.Syntax.{constant, metavariable, Term, root, nil, LfType, Kind, pi, base, star}
use Rattle.lf.specs.Variables.{FamiliesIn, KindFamiliesIn, same_number}
use Rattle.lf.specs.Subordination.{IsDeclared, SelfContained}
use Rattle.lf_unification.specs.Dependency.{IsListed}
use Rattle.lf_unification.specs.Inversion.{IsPattern}
use Rattle.lf_unification.specs.OpenTyping.{DeclarationsAreTyped, MetavariablesInType, OpenHasType, OpenIsType}
use Rattle.lf_unification.specs.Outside.{Avoids, Holds}
use Rattle.lf_unification.specs.PartialInstance.{IsFilling}
use Rattle.lf_unification.specs.Solving.{IsWellFormed, Never, Solved}
use Rattle.lf_unification.specs.Steps.{Run, bind, no_step, then_run}
use Rattle.lf_unification.specs.Unifiers.{Store, on_left}
use Rattle.lf_unification.proofs.Runs.{run_keeps_unifiers}
use Rattle.lf_unification.proofs.Solving.{solved_not_never}
use Rattle.lf_cases.specs.Missing.{AreTypedItems}
use Rattle.lf_cases.specs.Reached.{constant_head}
use Rattle.lf_totality.specs.Examples.{Addition, nat, z, successor, var, first_below_second, plus_zero_case, plus_successor_case, plus_input_goal}
use Rattle.lf_totality.specs.ExamplesGroups.{on_one, one_kind, first_three}
use Rattle.lf_totality.specs.ExamplesBlocks.{Numbered, numbered_types, numbered_kinds, a_z}
use Rattle.lf_totality.specs.ExamplesSplits.{successor_items}
use Rattle.lf_totality.proofs.Addition.{addition_ok}
use Rattle.lf_totality.proofs.ExamplesBlocks.{numbered_ok}
use Rattle.lf_cases.specs.Case.{Case}
use Rattle.lf_coverage.specs.Examples.{PlusIsSplitByUnification, SuccessorGivesNone}
use Rattle.lf_coverage.specs.ExamplesRenumbering.{successor_store, unknown}
use Rattle.lf_coverage.specs.ExamplesTyped.{SuccessorIsSplit}
use Rattle.lf_coverage.specs.Heads.{ArgumentsAreBelow, IsTypedCase}
use Rattle.lf_coverage.specs.Listed.{Listed, with_case, no_offer}
use Rattle.lf_coverage.specs.SplitStore.{split_store, context_metavariables}
use Rattle.lf_coverage.specs.UnifiedSplit.{HeadIsAnswered, IsSolvedSplit, UnifierFinds}
use Rattle.lf_coverage.proofs.Examples.{plus_offers, plus_are_offers, plus_in_order, two, each_head, goal_typed}
use Rattle.lf_coverage.proofs.NoCase.{never_gives_no_case}
use Rattle.lf_coverage.proofs.Parts.{some_same, none_some}
use Rattle.lf_coverage.proofs.SolvedSplit.{solved_splits}
use Rattle.lf_coverage.proofs.Unified.{never_gives}

-- X and Y as metavariables, and a new one before
abbrev two_types : ℕ → Option LfType
two_types m = context_metavariables (nat ∷ nat ∷ []) m

abbrev three_types : ℕ → Option LfType
three_types m = context_metavariables (nat ∷ nat ∷ nat ∷ []) m

two_nats : (m : ℕ) (A : LfType) → two_types m ≡ Some A → nat ≡ A
two_nats zero A e = some_same e
two_nats (suc zero) A e = some_same e
two_nats (suc (suc m)) A e = absurd cc

three_nats : (m : ℕ) (A : LfType) → three_types m ≡ Some A → nat ≡ A
three_nats zero A e = some_same e
three_nats (suc zero) A e = some_same e
three_nats (suc (suc zero)) A e = some_same e
three_nats (suc (suc (suc m))) A e = absurd cc

module _ (Ψ : ℕ → Option LfType) (nats : (m : ℕ) (A : LfType) → Ψ m ≡ Some A → nat ≡ A) (U : (ℕ → Option Term) → Type 0) where
  declared : DeclarationsAreTyped Addition [] Ψ U
  declared = record { outer_typed = λ i A g. absurd g; metavariables_typed = λ m A e. subst (OpenIsType Addition [] Ψ U []) (nats m A e) (star, refl, tt) }

  zero_typed : OpenHasType Addition [] Ψ U [] z nat
  zero_typed = (nat, refl, (refl, λ β u. refl))

  number_typed : (m : ℕ) → Ψ m ≡ Some nat → OpenHasType Addition [] Ψ U [] (root (metavariable m) nil) nat
  number_typed m e = (nat, (nat, e, refl), (refl, λ β u. refl))

  successor_typed : (m : ℕ) → Ψ m ≡ Some nat → OpenHasType Addition [] Ψ U [] (successor (root (metavariable m) nil)) nat
  successor_typed m e = (pi nat nat, refl, (number_typed m e, (refl, λ β u. refl)))

no_one : IsListed (record { of = 0; of_type = nat; value = None } ∷ []) 1 → ⊥
no_one (inl e) = omega arith
no_one (inr h) = h

no_two : IsListed (record { of = 1; of_type = nat; value = None } ∷ record { of = 0; of_type = nat; value = None } ∷ []) 2 → ⊥
no_two (inl e) = omega arith
no_two (inr (inl e)) = omega arith
no_two (inr (inr h)) = h

-- X = z
abbrev before_zero : Store
before_zero = split_store first_below_second 1 nat two 0 (constant 0) nat star

abbrev after_zero : Store
after_zero = record { metavariables = two_types; bindings = record { of = 1; value = z } ∷ []; equations = [] }

zero_before : IsWellFormed Addition before_zero
zero_before = record {
  order = record { of = 1; of_type = nat; value = None } ∷ record { of = 0; of_type = nat; value = None } ∷ [];
  is_order = ((tt, refl, (λ h. h), tt, (star, refl, tt), (λ ρ. refl), tt), refl, no_one, tt, (star, refl, tt), (λ ρ. refl), tt);
  all_listed = all_listed;
  bindings_listed = tt;
  values_bound = ((λ N e. absurd (none_some e)), ((λ N e. absurd (none_some e)), tt));
  typed = record {
    declarations_typed = declared two_types two_nats (IsFilling Addition [] before_zero);
    bindings_typed = tt;
    equations_typed = (record { local_typed = tt; type_typed = λ F β p u. (base 0, refl, refl); left_typed = number_typed two_types two_nats (IsFilling Addition [] before_zero) 1 refl; right_typed = zero_typed two_types two_nats (IsFilling Addition [] before_zero) }, tt);
  };
}
  where
    all_listed : (m : ℕ) (A : LfType) → two_types m ≡ Some A → IsListed (record { of = 1; of_type = nat; value = None } ∷ record { of = 0; of_type = nat; value = None } ∷ []) m
    all_listed zero A e = inr (inl refl)
    all_listed (suc zero) A e = inl refl
    all_listed (suc (suc m)) A e = absurd cc

zero_listed : (m : ℕ) (A : LfType) → two_types m ≡ Some A → IsListed (record { of = 1; of_type = nat; value = Some z } ∷ record { of = 0; of_type = nat; value = None } ∷ []) m
zero_listed zero A e = inr (inl refl)
zero_listed (suc zero) A e = inl refl
zero_listed (suc (suc m)) A e = absurd cc

abbrev zero_after : IsWellFormed Addition after_zero
zero_after = record {
  order = record { of = 1; of_type = nat; value = Some z } ∷ record { of = 0; of_type = nat; value = None } ∷ [];
  is_order = ((tt, refl, (λ h. h), tt, (star, refl, tt), (λ ρ. refl), tt), refl, no_one, tt, (star, refl, tt), (λ ρ. refl), (tt, zero_typed two_types two_nats (IsFilling Addition [] after_zero), λ ρ. refl));
  all_listed = zero_listed;
  bindings_listed = ((nat, inl refl), tt);
  values_bound = ((λ N e. inl (ap (λ X. record { of = 1; value = X }) (sym (some_same e)))), ((λ N e. absurd (none_some e)), tt));
  typed = record {
    declarations_typed = declared two_types two_nats (IsFilling Addition [] after_zero);
    bindings_typed = ((nat, refl, zero_typed two_types two_nats (IsFilling Addition [] after_zero)), tt);
    equations_typed = tt;
  };
}

pub no_argument : IsPattern [] (base 0) []
no_argument = record { places = λ Γ. tt; distinct = λ i j e. e }

zero_run : Run Addition before_zero after_zero
zero_run = then_run (bind {A = nat} on_left [] 1 [] z nat refl tt no_argument (record { inverted = record { inversion = z; is = refl }; reached = λ k. false; avoids = ((λ k A v e. absurd v), tt, λ v. v); within = tt })) no_step

abbrev zero_solved : Solved Addition before_zero after_zero
zero_solved = record { run = zero_run; keeps = run_keeps_unifiers Addition addition_ok zero_before zero_run; well_formed = zero_after; none_left = refl }

-- X = s X'
abbrev before_successor : Store
before_successor = split_store first_below_second 1 nat two 0 (constant 1) (pi nat nat) star

abbrev after_successor : Store
after_successor = record { metavariables = three_types; bindings = record { of = 2; value = successor (root (metavariable 0) nil) } ∷ []; equations = [] }

successor_before : IsWellFormed Addition before_successor
successor_before = record {
  order = record { of = 2; of_type = nat; value = None } ∷ record { of = 1; of_type = nat; value = None } ∷ record { of = 0; of_type = nat; value = None } ∷ [];
  is_order = (((tt, refl, (λ h. h), tt, (star, refl, tt), (λ ρ. refl), tt), refl, no_one, tt, (star, refl, tt), (λ ρ. refl), tt), refl, no_two, tt, (star, refl, tt), (λ ρ. refl), tt);
  all_listed = all_listed;
  bindings_listed = tt;
  values_bound = ((λ N e. absurd (none_some e)), ((λ N e. absurd (none_some e)), ((λ N e. absurd (none_some e)), tt)));
  typed = record {
    declarations_typed = declared three_types three_nats (IsFilling Addition [] before_successor);
    bindings_typed = tt;
    equations_typed = (record { local_typed = tt; type_typed = λ F β p u. (base 0, refl, refl); left_typed = number_typed three_types three_nats (IsFilling Addition [] before_successor) 2 refl; right_typed = successor_typed three_types three_nats (IsFilling Addition [] before_successor) 0 refl }, tt);
  };
}
  where
    all_listed : (m : ℕ) (A : LfType) → three_types m ≡ Some A → IsListed (record { of = 2; of_type = nat; value = None } ∷ record { of = 1; of_type = nat; value = None } ∷ record { of = 0; of_type = nat; value = None } ∷ []) m
    all_listed zero A e = inr (inr (inl refl))
    all_listed (suc zero) A e = inr (inl refl)
    all_listed (suc (suc zero)) A e = inl refl
    all_listed (suc (suc (suc m))) A e = absurd cc

successor_listed : (m : ℕ) (A : LfType) → three_types m ≡ Some A → IsListed (record { of = 2; of_type = nat; value = Some (successor (root (metavariable 0) nil)) } ∷ record { of = 1; of_type = nat; value = None } ∷ record { of = 0; of_type = nat; value = None } ∷ []) m
successor_listed zero A e = inr (inr (inl refl))
successor_listed (suc zero) A e = inr (inl refl)
successor_listed (suc (suc zero)) A e = inl refl
successor_listed (suc (suc (suc m))) A e = absurd cc

abbrev successor_after : IsWellFormed Addition after_successor
successor_after = record {
  order = record { of = 2; of_type = nat; value = Some (successor (root (metavariable 0) nil)) } ∷ record { of = 1; of_type = nat; value = None } ∷ record { of = 0; of_type = nat; value = None } ∷ [];
  is_order = (((tt, refl, (λ h. h), tt, (star, refl, tt), (λ ρ. refl), tt), refl, no_one, tt, (star, refl, tt), (λ ρ. refl), tt), refl, no_two, tt, (star, refl, tt), (λ ρ. refl), ((((inr (inl refl)), tt), tt), successor_typed three_types three_nats (IsFilling Addition [] after_successor) 0 refl, λ ρ. refl));
  all_listed = successor_listed;
  bindings_listed = ((nat, inl refl), tt);
  values_bound = ((λ N e. inl (ap (λ X. record { of = 2; value = X }) (sym (some_same e)))), ((λ N e. absurd (none_some e)), ((λ N e. absurd (none_some e)), tt)));
  typed = record {
    declarations_typed = declared three_types three_nats (IsFilling Addition [] after_successor);
    bindings_typed = ((nat, refl, successor_typed three_types three_nats (IsFilling Addition [] after_successor) 0 refl), tt);
    equations_typed = tt;
  };
}

-- X' is reached, and nothing else
only_new : Avoids three_types [] 2 (λ k. Holds (same_number 0 k))
only_new = ((λ k A v e. subst (MetavariablesInType (λ k. Holds (same_number 0 k))) (three_nats k A e) tt), tt, λ v. v)

successor_run : Run Addition before_successor after_successor
successor_run = then_run (bind {A = nat} on_left [] 2 [] (successor (root (metavariable 0) nil)) nat refl tt no_argument (record { inverted = record { inversion = successor (root (metavariable 0) nil); is = refl }; reached = λ k. same_number 0 k; avoids = only_new; within = ((tt, tt), tt) })) no_step

abbrev successor_solved : Solved Addition before_successor after_successor
successor_solved = record { run = successor_run; keeps = run_keeps_unifiers Addition addition_ok successor_before successor_run; well_formed = successor_after; none_left = refl }

pub plus_unified : PlusIsSplitByUnification
plus_unified = record {
  split = record {
    answered = record {
      type = nat;
      at = (nat, refl, refl);
      is_free = refl;
      offers = plus_offers;
      are_offers = plus_are_offers;
      in_order = plus_in_order;
      listed =
          with_case
          (record { answered = record { kind = star; of_family = refl; no_block = tt; finds = (after_zero, zero_solved, refl) }; families = (refl, (refl, tt)) })
          (with_case (record { answered = record { kind = star; of_family = refl; no_block = tt; finds = (after_successor, successor_solved, refl) }; families = (refl, (refl, (refl, tt))) }) no_offer);
    };
    takes_below = tt;
    arguments_below = each_head (λ I n h A. ArgumentsAreBelow first_below_second A) tt (refl, tt);
  };
  families = refl;
}

pub plus_solved : IsSolvedSplit Addition [] first_below_second plus_input_goal 1 (plus_zero_case ∷ plus_successor_case ∷ [])
plus_solved = record {
  answered = record {
    type = nat;
    at = (nat, refl, refl);
    is_free = refl;
    offers = plus_offers;
    are_offers = plus_are_offers;
    in_order = plus_in_order;
    listed = with_case (record { kind = star; of_family = refl; no_block = tt; finds = (after_zero, zero_solved, refl) }) (with_case (record { kind = star; of_family = refl; no_block = tt; finds = (after_successor, successor_solved, refl) }) no_offer);
  };
  takes_below = tt;
  arguments_below = each_head (λ I n h A. ArgumentsAreBelow first_below_second A) tt (refl, tt);
}

pub successor_is_split : SuccessorIsSplit
successor_is_split = solved_splits Addition addition_ok [] (λ B m. absurd m) first_below_second plus_input_goal goal_typed 1 nat (nat, refl, refl) two 0 (constant 1) (pi nat nat) (constant_head 1 (pi nat nat) refl refl) tt star after_successor successor_solved

-- s X = z
never_successor : Never Numbered [] (split_store first_below_second 0 (on_one 2 (successor (var 1))) successor_items 0 (constant 2) a_z.type one_kind)
never_successor F β (i, (r, (e, (f, t)))) = apart _ f
  where
    apart : (P : Term) → successor P ≡ z → ⊥
    apart P q = cc

three_contained : SelfContained Numbered [] first_three
three_contained = record { declared = declared; kinds_in = kinds_in; types_in = types_in; entries_in = λ B E m. absurd m }
  where
    declared : (a : ℕ) → first_three a ≡ true → IsDeclared Numbered a
    declared zero e = (star, refl)
    declared (suc zero) e = (one_kind, refl)
    declared (suc (suc zero)) e = (one_kind, refl)
    declared (suc (suc (suc a))) e = absurd cc

    kinds_in : (a : ℕ) (K : Kind) → numbered_kinds a ≡ Some K → first_three a ≡ true → KindFamiliesIn first_three K
    kinds_in zero K e s = subst (KindFamiliesIn first_three) (some_same e) tt
    kinds_in (suc zero) K e s = subst (KindFamiliesIn first_three) (some_same e) (refl, tt)
    kinds_in (suc (suc zero)) K e s = subst (KindFamiliesIn first_three) (some_same e) (refl, tt)
    kinds_in (suc (suc (suc a))) K e s = absurd cc

    types_in : (c : ℕ) (A : LfType) → numbered_types c ≡ Some A → first_three (Rattle.lf.specs.Variables.target A) ≡ true → FamiliesIn first_three A
    types_in zero A e s = subst (FamiliesIn first_three) (some_same e) refl
    types_in (suc zero) A e s = subst (FamiliesIn first_three) (some_same e) (refl, refl)
    types_in (suc (suc zero)) A e s = subst (FamiliesIn first_three) (some_same e) refl
    types_in (suc (suc (suc zero))) A e s = subst (FamiliesIn first_three) (some_same e) (refl, ((refl, (refl, refl)), refl))
    types_in (suc (suc (suc (suc n)))) A e s = absurd cc

successor_typed_items : AreTypedItems Numbered [] successor_items
successor_typed_items = ((tt, (star, refl, tt)), (one_kind, refl, ((pi nat nat, refl, ((nat, refl, refl), refl)), tt)))

abbrev split_case : Case
split_case = record { items = successor_items; given = []; local = []; family = 2; arguments = [] }

case_typed : IsTypedCase Numbered [] split_case
case_typed = record { items = successor_typed_items; given = tt; arguments = tt }

pub successor_none : SuccessorGivesNone
successor_none = (
  never_successor,
  never_gives Numbered numbered_ok [] (λ B m. absurd m) first_below_second first_three three_contained split_case case_typed 0 (on_one 2 (successor (var 1))) refl successor_items 0 (constant 2) a_z.type (constant_head 2 a_z.type refl refl) tt (refl, (refl, tt)) one_kind never_successor,
  never_gives_no_case Numbered numbered_ok [] (λ B m. absurd m) first_below_second split_case case_typed 0 (on_one 2 (successor (var 1))) refl successor_items 0 (constant 2) a_z.type (constant_head 2 a_z.type refl refl) tt one_kind never_successor,
)

-- the store is ready, and X := s X' solves it
pub successor_done : IsWellFormed Addition successor_store × (after : Store) × Solved Addition successor_store after × (after.bindings ≡ record { of = 2; value = successor (unknown 0) } ∷ [])
successor_done = (successor_before, after_successor, successor_solved, refl)

-- the stores of X with z and with s have a typed unifier
pub zero_has_unifier : Never Addition [] (split_store first_below_second 1 nat two 0 (constant 0) nat star) → ⊥
zero_has_unifier n = solved_not_never Addition addition_ok before_zero after_zero zero_solved n

pub successor_has_unifier : Never Addition [] (split_store first_below_second 1 nat two 0 (constant 1) (pi nat nat) star) → ⊥
successor_has_unifier n = solved_not_never Addition addition_ok before_successor after_successor successor_solved n

pub plus_listed : Listed (HeadIsAnswered Addition first_below_second plus_input_goal 1 nat) plus_offers (plus_zero_case ∷ plus_successor_case ∷ [])
plus_listed = with_case (record { kind = star; of_family = refl; no_block = tt; finds = (after_zero, zero_solved, refl) }) (with_case (record { kind = star; of_family = refl; no_block = tt; finds = (after_successor, successor_solved, refl) }) no_offer)

-- what unification finds for X and s
pub successor_found : UnifierFinds Addition first_below_second plus_input_goal 1 nat (record { items = two; moved = 0; head = constant 1; type = pi nat nat }) star (Some plus_successor_case)
successor_found = (after_successor, successor_solved, refl)
