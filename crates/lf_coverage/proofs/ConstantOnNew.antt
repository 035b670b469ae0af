-- The equation M = c N of a free variable M and a constant c on a new variable N, as M = s N, in which both have a family without indices: M is bound, and N
-- is free.
use Rattle.std.proofs.Common.{◌≡◌, ℕ, zero, suc, List, [], ◌∷◌, inl, inr, refl, sym, ap, subst}
use Rattle.std.specs.Prelude.{Option, Some, None}
use Rattle.lf.specs.Syntax.{constant, metavariable, Term, root, nil, app, LfType, atom, pi, star}
use Rattle.lf.specs.Typing.{IsSignature, Signature}
use Rattle.lf.specs.Variables.{same_number}
use Rattle.lf_unification.specs.Dependency.{IsDependencyOrder, IsListed, ListedMetavariable}
use Rattle.lf_unification.specs.OpenTyping.{MetavariablesInType, OpenHasType}
use Rattle.lf_unification.specs.Outside.{Holds}
use Rattle.lf_unification.specs.PartialInstance.{IsFilling}
use Rattle.lf_unification.specs.Solving.{IsWellFormed, Solved}
use Rattle.lf_unification.specs.Steps.{Run, bind, no_step, then_run}
use Rattle.lf_unification.specs.Unifiers.{Store, on_left}
use Rattle.lf_unification.proofs.Runs.{run_solved}
use Rattle.lf_coverage.specs.SplitStore.{context_metavariables}
use Rattle.lf_coverage.proofs.NoArgument.{no_argument_of}
use Rattle.lf_coverage.proofs.OtherNumbers.{not_among}
use Rattle.lf_coverage.proofs.Parts.{none_some, some_same}

-- N : d, and M : a
module _ (Σ : Signature) (ok : IsSignature Σ) (a d c : ℕ) (kind : Σ.kinds a ≡ Some star) (argument_kind : Σ.kinds d ≡ Some star) (of_type : Σ.types c ≡ Some (pi (atom d nil) (atom a nil))) where
  abbrev types : ℕ → Option LfType
  types = context_metavariables (atom d nil ∷ atom a nil ∷ [])

  abbrev value : Term
  value = root (constant c) (app (root (metavariable 0) nil) nil)

  abbrev start : Store
  start = record { metavariables = types; bindings = []; equations = record { local = []; left = root (metavariable 1) nil; right = value; of_type = atom a nil } ∷ [] }

  abbrev pub on_new_store : Store
  on_new_store = record { metavariables = types; bindings = record { of = 1; value = value } ∷ []; equations = [] }

  abbrev order : List ListedMetavariable
  order = record { of = 1; of_type = atom a nil; value = Some value } ∷ record { of = 0; of_type = atom d nil; value = None } ∷ []

  module _ (ready : IsWellFormed Σ start) where
    pub run : Run Σ start on_new_store
    run = then_run (bind {A = atom a nil} on_left [] 1 [] value (atom a nil) refl tt (no_argument_of a) (record { inverted = record { inversion = value; is = refl }; reached = same_number 0; avoids = (closed, tt, λ v. v); within = ((tt, tt), tt) })) no_step
      where
        closed : (k : ℕ) (A : LfType) → Holds (same_number 0 k) → types k ≡ Some A → MetavariablesInType (λ j. Holds (same_number 0 j)) A
        closed zero A v e = subst (MetavariablesInType (λ j. Holds (same_number 0 j))) (some_same e) tt
        closed (suc k) A v e = absurd v

    abbrev by_run : Solved Σ start on_new_store
    by_run = run_solved Σ ok ready run refl

    pub is_order : (U : (ℕ → Option Term) → Type 0) → IsDependencyOrder Σ types U order
    is_order U = ((tt, refl, (λ h. h), tt, (star, argument_kind, tt), (λ ρ. refl), tt), refl, not_among refl (λ b. b), tt, (star, kind, tt), (λ ρ. refl), (((inl refl, tt), tt), typed, λ ρ. refl))
      where
        typed : OpenHasType Σ [] types U [] value (atom a nil)
        typed = (_, of_type, ((atom d nil, (atom d nil, refl, refl), (refl, λ β u. refl)), (refl, λ β u. refl)))

    pub listed : (m : ℕ) (A : LfType) → types m ≡ Some A → IsListed order m
    listed zero A e = inr (inl refl)
    listed (suc zero) A e = inl refl
    listed (suc (suc m)) A e = absurd (none_some e)

    abbrev form : IsWellFormed Σ on_new_store
    form = record {
      order = order;
      is_order = is_order (IsFilling Σ [] on_new_store);
      all_listed = listed;
      bindings_listed = ((atom a nil, inl refl), tt);
      values_bound = ((λ N e. inl (ap (λ X. record { of = 1; value = X }) (sym (some_same e)))), ((λ N e. absurd (none_some e)), tt));
      typed = by_run.well_formed.typed;
    }

    abbrev pub on_new_is_solved : Solved Σ start on_new_store
    on_new_is_solved = record { run = run; keeps = by_run.keeps; well_formed = form; none_left = refl }
