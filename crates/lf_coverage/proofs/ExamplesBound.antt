-- A store of one metavariable, of a family without indices, which is bound: it is well formed, so a run that ends there has solved.
use Rattle.std.proofs.Common.{◌≡◌, ℕ, zero, suc, List, [], ◌∷◌, inl, refl, sym, ap, subst}
use Rattle.std.specs.Prelude.{Option, Some}
use Rattle.lf.specs.Syntax.{Term, nil, LfType, atom, star}
use Rattle.lf.specs.Typing.{Signature, IsSignature}
use Rattle.lf_unification.specs.Dependency.{IsListed, ListedMetavariable, ValueIsOrdered}
use Rattle.lf_unification.specs.OpenTyping.{DeclarationsAreTyped, OpenIsType}
use Rattle.lf_unification.specs.PartialInstance.{IsFilling}
use Rattle.lf_unification.specs.Solving.{IsWellFormed, Solved}
use Rattle.lf_unification.specs.Steps.{Run}
use Rattle.lf_unification.specs.Unifiers.{Binding, Store}
use Rattle.lf_unification.proofs.Runs.{run_keeps_unifiers}
use Rattle.lf_coverage.specs.SplitStore.{context_metavariables}
use Rattle.lf_coverage.proofs.Parts.{some_same}

abbrev pub at_zero : Term → Binding
at_zero N = record { of = 0; value = N }

module _ (Σ : Signature) (ok : IsSignature Σ) (a : ℕ) (kind : Σ.kinds a ≡ Some star) (V : Term) where
  abbrev pub bound_order : List ListedMetavariable
  bound_order = record { of = 0; of_type = atom a nil; value = Some V } ∷ []

  abbrev pub bound_store : Store
  bound_store = record { metavariables = context_metavariables (atom a nil ∷ []); bindings = at_zero V ∷ []; equations = [] }

  pub bound_declared : (U : (ℕ → Option Term) → Type 0) → DeclarationsAreTyped Σ [] (context_metavariables (atom a nil ∷ [])) U
  bound_declared U = record { outer_typed = λ i A g. absurd g; metavariables_typed = at }
    where
      at : (m : ℕ) (A : LfType) → context_metavariables (atom a nil ∷ []) m ≡ Some A → OpenIsType Σ [] (context_metavariables (atom a nil ∷ [])) U [] A
      at zero A e = subst (OpenIsType Σ [] (context_metavariables (atom a nil ∷ [])) U []) (some_same e) (star, kind, tt)
      at (suc m) A e = absurd cc

  pub bound_listed : (m : ℕ) (A : LfType) → context_metavariables (atom a nil ∷ []) m ≡ Some A → IsListed bound_order m
  bound_listed zero A e = inl refl
  bound_listed (suc m) A e = absurd cc

  pub bound_value : (N : Term) → Some V ≡ Some N → at_zero N ≡ at_zero V
  bound_value N e = ap at_zero (sym (some_same e))

  module _ (ordered : (U : (ℕ → Option Term) → Type 0) → ValueIsOrdered Σ (context_metavariables (atom a nil ∷ [])) U [] (atom a nil) (Some V)) where
    abbrev pub bound_form : IsWellFormed Σ bound_store
    bound_form = record {
      order = bound_order;
      is_order = (tt, refl, (λ h. h), tt, (star, kind, tt), (λ ρ. refl), ordered (IsFilling Σ [] bound_store));
      all_listed = bound_listed;
      bindings_listed = ((atom a nil, inl refl), tt);
      values_bound = ((λ N e. inl (bound_value N e)), tt);
      typed = record { declarations_typed = bound_declared (IsFilling Σ [] bound_store); bindings_typed = ((atom a nil, refl, (ordered (IsFilling Σ [] bound_store)).1), tt); equations_typed = tt };
    }

    abbrev pub bound_is_solved : (before : Store) → IsWellFormed Σ before → Run Σ before bound_store → Solved Σ before bound_store
    bound_is_solved before ready run = record { run = run; keeps = run_keeps_unifiers Σ ok ready run; well_formed = bound_form; none_left = refl }
