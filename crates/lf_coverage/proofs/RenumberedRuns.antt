-- A run of steps is one under other numbers. A number that is free in a store need not be so under the renumbering, since all from some number on are
-- free: a new metavariable takes one that is free there, and the others keep theirs.
use Rattle.std.proofs.Common.{◌≡◌, ℕ, ◌≤◌, List, [], ◌∷◌, refl, sym, ap, ap₂, ◌∙◌, subst, arith}
use Rattle.std.specs.Prelude.{Option, Some, None}
use Rattle.std.specs.Option.{option_map}
use Rattle.lf.specs.Syntax.{Term, LfType}
use Rattle.lf.specs.Typing.{Signature, IsSignature}
use Rattle.lf_unification.specs.Offering.{MetavariablesInLocals}
use Rattle.lf_unification.specs.OpenTyping.{Declares, MetavariablesIn, MetavariablesInType, set_at}
use Rattle.lf_unification.specs.Pruning.{pruned_store}
use Rattle.lf_unification.specs.Renewing.{renewed_store}
use Rattle.lf_unification.specs.Scope.{IsScoped, MetavariablesInBindings, MetavariablesInEquationTypes, MetavariablesInEquations}
use Rattle.lf_unification.specs.Steps.{Run, Step, bind, drop_equal, equal_heads, next_equation, no_step, on_pattern, open_lambdas, prune_both, prune_inside, put_bindings, renew, store_at, then_run}
use Rattle.lf_unification.specs.Unifiers.{Binding, Equation, Store, equation_on}
use Rattle.lf_unification.proofs.Offer.{set_other}
use Rattle.lf_unification.proofs.Scope.{in_weaker, in_weaker_type}
use Rattle.lf_coverage.specs.Renumbering.{AgreeOn, Renumbering, renumbered, renumbered_type, renumbered_locals, renumbered_equations, renumbered_bindings, renumbered_types, renumbered_store}
use Rattle.lf_coverage.specs.RenumberingLaws.{StepUnderNumbers}
use Rattle.lf_coverage.proofs.RenumberedNumbers.{is_free, others_stay, top, with_number}
use Rattle.lf_coverage.proofs.RenumberedPatterns.{store_same}
use Rattle.lf_coverage.proofs.RenumberedSteps.{NewIsFree, step_moved}
use Rattle.lf_coverage.proofs.RenumberedTyping.{agreeing, agreeing_type}
use mathlib.Core.Path.{fun_ext}

-- functions that agree on what is declared renumber alike what mentions nothing else
module _ (Ψ : ℕ → Option LfType) (f g : ℕ → ℕ) (same : (m : ℕ) → Declares Ψ m → f m ≡ g m) where
  term_alike : (M : Term) → MetavariablesIn (Declares Ψ) M → renumbered f M ≡ renumbered g M
  term_alike M v = agreeing f g M (in_weaker (Declares Ψ) (λ m. f m ≡ g m) same M v)

  pub type_alike : (A : LfType) → MetavariablesInType (Declares Ψ) A → renumbered_type f A ≡ renumbered_type g A
  type_alike A v = agreeing_type f g A (in_weaker_type (Declares Ψ) (λ m. f m ≡ g m) same A v)

  pub bindings_alike : (bs : List Binding) → MetavariablesInBindings (Declares Ψ) bs → renumbered_bindings f bs ≡ renumbered_bindings g bs
  bindings_alike [] v = refl
  bindings_alike (b ∷ bs) (d, v, w) = ap₂ (λ x xs. x ∷ xs) (ap₂ (λ m N. binding m N) (same b.of d) (term_alike b.value v)) (bindings_alike bs w)
    where
      binding : ℕ → Term → Binding
      binding m N = record { of = m; value = N }

  locals_alike : (D : List LfType) → MetavariablesInLocals (Declares Ψ) D → renumbered_locals f D ≡ renumbered_locals g D
  locals_alike [] v = refl
  locals_alike (A ∷ D) (v, w) = ap₂ (λ x xs. x ∷ xs) (type_alike A w) (locals_alike D v)

  pub equations_alike : (es : List Equation) → MetavariablesInEquations (Declares Ψ) es → MetavariablesInEquationTypes (Declares Ψ) es → renumbered_equations f es ≡ renumbered_equations g es
  equations_alike [] v w = refl
  equations_alike (e ∷ es) (l, r, v) (d, t, w) = ap₂ (λ x xs. x ∷ xs) (ap₂ (λ D C. equation D (renumbered f e.left) (renumbered f e.right) C) (locals_alike e.local d) (type_alike e.of_type t) ∙ ap₂ (λ M N. equation (renumbered_locals g e.local) M N (renumbered_type g e.of_type)) (term_alike e.left l) (term_alike e.right r)) (equations_alike es v w)
    where
      equation : List LfType → Term → Term → LfType → Equation
      equation D M N C = record { local = D; left = M; right = N; of_type = C }

-- so renumberings that agree there renumber a scoped store alike
module _ (Ψ : ℕ → Option LfType) (π ρ : Renumbering) (a : AgreeOn Ψ π ρ) where
  same_for : (m : ℕ) → Declares Ψ m → π.to m ≡ ρ.to m
  same_for m (A, e) = sym (a m A e)

  types_alike : ((m : ℕ) (A : LfType) → Ψ m ≡ Some A → MetavariablesInType (Declares Ψ) A) → renumbered_types π Ψ ≡ renumbered_types ρ Ψ
  types_alike scoped = fun_ext (λ k. each k (Ψ (π.back k)) refl (Ψ (ρ.back k)) refl)
    where
      each : (k : ℕ) (x : Option LfType) → Ψ (π.back k) ≡ x → (y : Option LfType) → Ψ (ρ.back k) ≡ y → renumbered_types π Ψ k ≡ renumbered_types ρ Ψ k
      each k (Some A) e y q =
          let same : ρ.back k ≡ π.back k = ap ρ.back (sym (a (π.back k) A e ∙ π.to_back k)) ∙ ρ.back_to (π.back k) in
          ap (option_map (renumbered_type π.to)) e ∙ ap Some (type_alike Ψ π.to ρ.to same_for A (scoped (π.back k) A e)) ∙ sym (ap (option_map (renumbered_type ρ.to)) (ap Ψ same ∙ e))
      each k None e None q = ap (option_map (renumbered_type π.to)) e ∙ sym (ap (option_map (renumbered_type ρ.to)) q)
      each k None e (Some B) q =
          let same : π.back k ≡ ρ.back k = ap π.back (sym (sym (a (ρ.back k) B q) ∙ ρ.to_back k)) ∙ π.back_to (ρ.back k) in
          let h : None ≡ Some B = sym e ∙ ap Ψ same ∙ q in
          absurd cc

  pub store_alike : (n : ℕ) (bs : List Binding) (es : List Equation) → IsScoped Ψ n bs es → renumbered_store π (record { metavariables = Ψ; bindings = bs; equations = es }) ≡ renumbered_store ρ (record { metavariables = Ψ; bindings = bs; equations = es })
  store_alike n bs es c = store_same (types_alike c.types) (bindings_alike Ψ π.to ρ.to same_for bs c.bindings) (equations_alike Ψ π.to ρ.to same_for es c.equations c.equation_types)

-- what was declared stays so
not_new : (Ψ : ℕ → Option LfType) (n : ℕ) (X : LfType) → ((m : ℕ) → n ≤ m → Ψ m ≡ None) → (m : ℕ) (A : LfType) → Ψ m ≡ Some A → set_at n (Some X) Ψ m ≡ Some A
not_new Ψ n X fresh m A e = set_other n (Some X) Ψ m (λ q. let h : Ψ m ≡ None = fresh m (omega arith) in cc) ∙ e

pub grows : {Σ : Signature} {s s' : Store} → Step Σ s s' → (m : ℕ) (A : LfType) → s.metavariables m ≡ Some A → s'.metavariables m ≡ Some A
grows (next_equation es e fs) m A h = h
grows (put_bindings p q) m A h = h
grows drop_equal m A h = h
grows open_lambdas m A h = h
grows (equal_heads k B r t) m A h = h
grows (bind side D k xs N C e u p b) m A h = h
grows (prune_inside {Ψ = Ψ} side D k xs N C e q p u n c) m A h = not_new Ψ n _ c.fresh m A h
grows (prune_both {Ψ = Ψ} side D k xs N C e q p u n c) m A h = not_new Ψ n _ c.fresh m A h
grows (renew {Ψ = Ψ} k B B' e u t p n c) m A h = not_new Ψ n B' c.fresh m A h

module _ (Σ : Signature) (ok : IsSignature Σ) where
  -- with a new metavariable
  step_new : (π : Renumbering) (Ψ : ℕ → Option LfType) (bs : List Binding) (es : List Equation) (n : ℕ) → IsScoped Ψ n bs es → (s' : Store) (p : Step Σ (record { metavariables = Ψ; bindings = bs; equations = es }) s') → (((k : ℕ) → (with_number π n (top π.to n)).to n ≤ k → renumbered_types (with_number π n (top π.to n)) Ψ k ≡ None) → NewIsFree (with_number π n (top π.to n)) p) → (ρ : Renumbering) × AgreeOn Ψ π ρ × Step Σ (renumbered_store π (record { metavariables = Ψ; bindings = bs; equations = es })) (renumbered_store ρ s')
  step_new π Ψ bs es n c s' p free =
      let ρ : Renumbering = with_number π n (top π.to n) in
      (ρ, others_stay π Ψ n c.fresh, subst (λ t. Step Σ t (renumbered_store ρ s')) (sym (store_alike Ψ π ρ (others_stay π Ψ n c.fresh) n bs es c)) (step_moved Σ ok ρ p (free (is_free π Ψ n c.fresh))))

  pub step_under : (π : Renumbering) {s s' : Store} → Step Σ s s' → (ρ : Renumbering) × AgreeOn s.metavariables π ρ × Step Σ (renumbered_store π s) (renumbered_store ρ s')
  step_under π (next_equation {Ψ = Ψ} {bs = bs} es e fs) = (π, (λ m A h. refl), step_moved Σ ok π (next_equation {Ψ = Ψ} {bs = bs} es e fs) tt)
  step_under π (put_bindings {Ψ = Ψ} {bs = bs} {es = es} {D = D} {M = M} {M' = M'} {N = N} {N' = N'} {C = C} p q) = (π, (λ m A h. refl), step_moved Σ ok π (put_bindings {Ψ = Ψ} {bs = bs} {es = es} {D = D} {M = M} {M' = M'} {N = N} {N' = N'} {C = C} p q) tt)
  step_under π (drop_equal {Ψ = Ψ} {bs = bs} {es = es} {D = D} {M = M} {C = C}) = (π, (λ m A h. refl), step_moved Σ ok π (drop_equal {Ψ = Ψ} {bs = bs} {es = es} {D = D} {M = M} {C = C}) tt)
  step_under π (open_lambdas {Ψ = Ψ} {bs = bs} {es = es} {D = D} {M = M} {N = N} {A = A} {B = B}) = (π, (λ m A h. refl), step_moved Σ ok π (open_lambdas {Ψ = Ψ} {bs = bs} {es = es} {D = D} {M = M} {N = N} {A = A} {B = B}) tt)
  step_under π (equal_heads {Ψ = Ψ} {bs = bs} {es = es} {D = D} {S = S} {T = T} {I = I} {a = a} k B r t) = (π, (λ m A h. refl), step_moved Σ ok π (equal_heads {Ψ = Ψ} {bs = bs} {es = es} {D = D} {S = S} {T = T} {I = I} {a = a} k B r t) tt)
  step_under π (bind {Ψ = Ψ} {bs = bs} {es = es} {A = A} side D k xs N C e u p b) = (π, (λ m A h. refl), step_moved Σ ok π (bind {Ψ = Ψ} {bs = bs} {es = es} {A = A} side D k xs N C e u p b) tt)
  step_under π (prune_inside {Ψ = Ψ} {bs = bs} {es = es} {A = A} side D k xs N C e q p u n c) = step_new π Ψ bs (equation_on side D (on_pattern Ψ k xs) N C ∷ es) n c (pruned_store (store_at side Ψ bs es D (on_pattern Ψ k xs) N C) p.drop.m p.dropped p.pruned n) (prune_inside {Ψ = Ψ} {bs = bs} {es = es} {A = A} side D k xs N C e q p u n c) (λ h. h)
  step_under π (prune_both {Ψ = Ψ} {bs = bs} {es = es} {A = A} side D k xs N C e q p u n c) = step_new π Ψ bs (equation_on side D (on_pattern Ψ k xs) N C ∷ es) n c (pruned_store (store_at side Ψ bs es D (on_pattern Ψ k xs) N C) k p.dropped p.pruned n) (prune_both {Ψ = Ψ} {bs = bs} {es = es} {A = A} side D k xs N C e q p u n c) (λ h. h)
  step_under π (renew {Ψ = Ψ} {bs = bs} {es = es} k B B' e u t p n c) = step_new π Ψ bs es n c (renewed_store (record { metavariables = Ψ; bindings = bs; equations = es }) k B B' n) (renew {Ψ = Ψ} {bs = bs} {es = es} k B B' e u t p n c) (λ h. h)

  pub run_under : (π : Renumbering) {s s' : Store} → Run Σ s s' → (ρ : Renumbering) × AgreeOn s.metavariables π ρ × Run Σ (renumbered_store π s) (renumbered_store ρ s')
  run_under π no_step = (π, (λ m A h. refl), no_step)
  run_under π (then_run p r) =
      let (ρ, a, q) = step_under π p in
      let (τ, b, t) = run_under ρ r in
      (τ, (λ m A h. b m A (grows p m A h) ∙ a m A h), then_run q t)

pub step_under_numbers : StepUnderNumbers
step_under_numbers Σ ok π s s' p = step_under Σ ok π p
