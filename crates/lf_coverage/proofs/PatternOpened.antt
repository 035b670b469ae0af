-- Opening a text without metavariables loses nothing.
use Rattle.std.proofs.Common.{◌≡◌, ℕ, zero, suc, ◌⊎◌, inl, inr, refl, sym, ap, ap₂, ◌∙◌}
use Rattle.lf.specs.Syntax.{constant, variable, metavariable, Term, Spine, lambda, root, nil, app, rename_head}
use Rattle.lf_unification.specs.OpenTyping.{MetavariablesIn, MetavariablesInSpine}
use Rattle.lf_coverage.specs.SplitStore.{open_spine, open_term, open_variable}
use Rattle.lf_coverage.specs.TermMatching.{over}
use Rattle.lf_coverage.proofs.PatternValues.{outer_opens}
use Rattle.lf_coverage.proofs.UnderBound.{root_head, root_spine}

-- Opening a text without metavariables loses nothing.
pub open_cases : (k i : ℕ) → (open_variable k i ≡ variable i) ⊎ ((j : ℕ) × (i ≡ over k j))
open_cases zero i = inr (i, refl)
open_cases (suc k) zero = inl refl
open_cases (suc k) (suc i) = by (open_cases k i)
  where
    by : (open_variable k i ≡ variable i) ⊎ ((j : ℕ) × (i ≡ over k j)) → (open_variable (suc k) (suc i) ≡ variable (suc i)) ⊎ ((j : ℕ) × (suc i ≡ over (suc k) j))
    by (inl e) = inl (ap (rename_head suc) e)
    by (inr (j, e)) = inr (j, ap suc e)

variable_one : {i j : ℕ} → variable i ≡ variable j → i ≡ j
variable_one e = cc

metavariable_one : {i j : ℕ} → metavariable i ≡ metavariable j → i ≡ j
metavariable_one e = cc

pub kinds_differ : {i j : ℕ} → variable i ≡ metavariable j → ⊥
kinds_differ e = cc

pub opened_as : (k i j : ℕ) → i ≡ over k j → open_variable k i ≡ metavariable j
opened_as k i j e = ap (open_variable k) e ∙ outer_opens k j

variables_same : (k i j : ℕ) → open_variable k i ≡ open_variable k j → i ≡ j
variables_same k i j e = by (open_cases k i) (open_cases k j)
  where
    by : (open_variable k i ≡ variable i) ⊎ ((l : ℕ) × (i ≡ over k l)) → (open_variable k j ≡ variable j) ⊎ ((l : ℕ) × (j ≡ over k l)) → i ≡ j
    by (inl p) (inl q) = variable_one (sym p ∙ e ∙ q)
    by (inl p) (inr (m, q)) = absurd (kinds_differ (sym p ∙ e ∙ opened_as k j m q))
    by (inr (l, p)) (inl q) = absurd (kinds_differ (sym q ∙ sym e ∙ opened_as k i l p))
    by (inr (l, p)) (inr (m, q)) = p ∙ ap (over k) (metavariable_one (sym (opened_as k i l p) ∙ e ∙ opened_as k j m q)) ∙ sym q

never_constant : (k i c : ℕ) → open_variable k i ≡ constant c → ⊥
never_constant k i c e = by (open_cases k i)
  where
    no_variable : {i c : ℕ} → variable i ≡ constant c → ⊥
    no_variable e = cc

    no_metavariable : {i c : ℕ} → metavariable i ≡ constant c → ⊥
    no_metavariable e = cc

    by : (open_variable k i ≡ variable i) ⊎ ((j : ℕ) × (i ≡ over k j)) → ⊥
    by (inl p) = no_variable (sym p ∙ e)
    by (inr (j, p)) = no_metavariable (sym (opened_as k i j p) ∙ e)

mutual
  opened_same : (k : ℕ) (M N : Term) → MetavariablesIn (λ m. ⊥) M → MetavariablesIn (λ m. ⊥) N → open_term k M ≡ open_term k N → M ≡ N
  opened_same k (lambda M) (lambda N) v w e = ap lambda (opened_same (suc k) M N v w (body e))
    where
      body : {X Y : Term} → lambda X ≡ lambda Y → X ≡ Y
      body e = cc
  opened_same k (lambda M) (root (constant d) T) v w e = absurd cc
  opened_same k (lambda M) (root (variable j) T) v w e = absurd cc
  opened_same k (lambda M) (root (metavariable m) T) v (x, w) e = absurd x
  opened_same k (root (metavariable m) S) N (x, v) w e = absurd x
  opened_same k (root (constant c) S) (lambda N) v w e = absurd cc
  opened_same k (root (variable i) S) (lambda N) v w e = absurd cc
  opened_same k (root (constant c) S) (root (metavariable m) T) v (x, w) e = absurd x
  opened_same k (root (variable i) S) (root (metavariable m) T) v (x, w) e = absurd x
  opened_same k (root (constant c) S) (root (constant d) T) v w e = ap₂ root (root_head e) (opened_spine_same k S T v w (root_spine e))
  opened_same k (root (constant c) S) (root (variable j) T) v w e = absurd (never_constant k j c (sym (root_head e)))
  opened_same k (root (variable i) S) (root (constant d) T) v w e = absurd (never_constant k i d (root_head e))
  opened_same k (root (variable i) S) (root (variable j) T) v w e = ap₂ (λ x X. root (variable x) X) (variables_same k i j (root_head e)) (opened_spine_same k S T v w (root_spine e))

  pub opened_spine_same : (k : ℕ) (S T : Spine) → MetavariablesInSpine (λ m. ⊥) S → MetavariablesInSpine (λ m. ⊥) T → open_spine k S ≡ open_spine k T → S ≡ T
  opened_spine_same k nil nil v w e = refl
  opened_spine_same k nil (app N T) v w e = absurd cc
  opened_spine_same k (app M S) nil v w e = absurd cc
  opened_spine_same k (app M S) (app N T) (v, vs) (w, ws) e = ap₂ app (opened_same k M N v w (first e)) (opened_spine_same k S T vs ws (rest e))
    where
      first : {X Y : Term} {A B : Spine} → app X A ≡ app Y B → X ≡ Y
      first e = cc

      rest : {X Y : Term} {A B : Spine} → app X A ≡ app Y B → A ≡ B
      rest e = cc
