-- What is no answer of solving: X : nat, with the equation X = z, is solved by X := z. A new h : nat -> nat with the binding X := h z leaves the
-- equation h z = z, which is outside the pattern fragment; but no steps lead there, since where no metavariable takes an argument none is added.
use Rattle.std.proofs.Common.{◌≡◌, ℕ, zero, suc, List, [], ◌∷◌, Option, Some, None, refl, sym, ap, ◌∙◌, subst}
use Rattle.lf.specs.Syntax.{Skeleton, Term, LfType, app, atom, base, constant, metavariable, nil, pi, root}
use Rattle.lf.specs.Typing.{Signature}
use Rattle.lf_unification.specs.Inversion.{ElementAt}
use Rattle.lf_unification.specs.OpenTyping.{MetavariablesInType, skeletons_of}
use Rattle.lf_unification.specs.Patterns.{PatternFits, beyond, local_skeletons, pattern_renaming}
use Rattle.lf_unification.specs.Pruning.{CanAgree, CanDrop}
use Rattle.lf_unification.specs.Putting.{Unbound}
use Rattle.lf_unification.specs.Search.{IsChild}
use Rattle.lf_unification.specs.Solving.{Left}
use Rattle.lf_unification.specs.Steps.{Run, Step, bind, drop_equal, equal_heads, next_equation, no_step, open_lambdas, prune_both, prune_inside, put_bindings, renew, then_run}
use Rattle.lf_unification.specs.Unifiers.{Store}
use Rattle.lf_unification.proofs.Scope.{in_weaker_type}

-- no metavariable takes an argument
abbrev pub TakeNone : (ℕ → Option LfType) → Type 0
TakeNone Ψ = (m : ℕ) → (c : ℕ) × (skeletons_of Ψ m ≡ base c)

no_place : (Δ : List Skeleton) (c : ℕ) (ys : List ℕ) → PatternFits Δ (base c) ys → (j x : ℕ) → ElementAt ys j x → ⊥
no_place Δ c [] p j x i = i
no_place Δ c (y ∷ ys) p j x i = p

-- so none can lose one
pub no_drop : (Ψ : ℕ → Option LfType) → TakeNone Ψ → (D : List LfType) (t : Skeleton) (xs : List ℕ) (N : Term) → CanDrop Ψ D t xs N → ⊥
no_drop Ψ f D t xs N p = no_place (local_skeletons p.drop.context []) (f p.drop.m).0 p.drop.ys
    (subst (λ a. PatternFits (local_skeletons p.drop.context []) a p.drop.ys) (f p.drop.m).1 (p.drop.is_pattern.places [])) p.drop.place p.drop.bad p.drop.nth

pub no_agreement : (Ψ : ℕ → Option LfType) → TakeNone Ψ → (D : List LfType) (m : ℕ) (xs : List ℕ) (N : Term) → CanAgree Ψ D m xs N → ⊥
no_agreement Ψ f D m xs N p = p.differ (ap (λ a. pattern_renaming a xs (beyond D) p.dropped) (f m).1 ∙ sym (ap (λ a. pattern_renaming a p.same.ys (beyond D) p.dropped) (f m).1))

-- and no type mentions a metavariable, so that none is renewed
abbrev pub TypesMentionNone : (ℕ → Option LfType) → Type 0
TypesMentionNone Ψ = (m : ℕ) (A : LfType) → Ψ m ≡ Some A → MetavariablesInType (λ k. ⊥) A

module _ (Σ : Signature) where
  -- then no step adds one
  pub step_same : {s s' : Store} → TakeNone s.metavariables → TypesMentionNone s.metavariables → Step Σ s s' → s'.metavariables ≡ s.metavariables
  step_same f g (next_equation es e fs) = refl
  step_same f g (put_bindings d e) = refl
  step_same f g drop_equal = refl
  step_same f g open_lambdas = refl
  step_same f g (equal_heads h A r t) = refl
  step_same f g (bind side D m xs N C d u p b) = refl
  step_same f g (prune_inside {Ψ = Ψ} side D m xs N C d p c u n x) = absurd (no_drop Ψ f D (skeletons_of Ψ m) xs N c)
  step_same f g (prune_both {Ψ = Ψ} side D m xs N C d p c u n x) = absurd (no_agreement Ψ f D m xs N c)
  step_same f g (renew {bs = bs} m A A' d u b p n x) = absurd (b (in_weaker_type (λ k. ⊥) (Unbound bs) (λ k h. absurd h) A (g m A d)))

  pub run_same : {s s' : Store} → TakeNone s.metavariables → TypesMentionNone s.metavariables → Run Σ s s' → s'.metavariables ≡ s.metavariables
  run_same f g no_step = refl
  run_same f g (then_run p r) = run_same (subst TakeNone (sym (step_same f g p)) f) (subst TypesMentionNone (sym (step_same f g p)) g) r ∙ step_same f g p

module _ (Σ : Signature) (nat z : ℕ) where
  abbrev z_term : Term
  z_term = root (constant z) nil

  abbrev h_z : Term
  h_z = root (metavariable 1) (app z_term nil)

  abbrev given : ℕ → Option LfType
  given zero = Some (atom nat nil)
  given (suc m) = None

  abbrev with_h : ℕ → Option LfType
  with_h zero = Some (atom nat nil)
  with_h (suc zero) = Some (pi (atom nat nil) (atom nat nil))
  with_h (suc (suc m)) = None

  abbrev pub before : Store
  before = record { metavariables = given; bindings = []; equations = record { local = []; left = root (metavariable 0) nil; right = z_term; of_type = atom nat nil } ∷ [] }

  abbrev pub after : Store
  after = record { metavariables = with_h; bindings = record { of = 0; value = h_z } ∷ []; equations = record { local = []; left = h_z; right = z_term; of_type = atom nat nil } ∷ [] }

  take_none : TakeNone given
  take_none zero = (nat, refl)
  take_none (suc m) = (0, refl)

  mention_none : TypesMentionNone given
  mention_none zero A e = (let p : atom nat nil ≡ A = cc in subst (MetavariablesInType (λ k. ⊥)) p tt)
  mention_none (suc m) A e = cc

  pub no_run : Run Σ before after → ⊥
  no_run r = (let p : Some (pi (atom nat nil) (atom nat nil)) ≡ None = ap (λ Ψ. Ψ 1) (run_same Σ take_none mention_none r) in cc)

  pub not_left : Left Σ before after → ⊥
  not_left l = no_run l.run

  pub not_child : IsChild Σ before after → ⊥
  not_child c = no_run c.run
