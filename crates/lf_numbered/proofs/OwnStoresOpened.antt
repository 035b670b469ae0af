-- A term on own terms, with metavariables for its variables, is put on own terms by each filling: those with the values put in.
use Rattle.std.proofs.Common.{◌≡◌, ℕ, zero, suc, List, [], ◌∷◌, length, ◌+◌, Option, Some, None, refl, sym, ap, ◌∙◌, subst, arith}
use Rattle.lf.specs.Syntax.{constant, variable, metavariable, Term, Spine, lambda, root, nil, app, LfType, Kind, kind_pi, star, pi, atom, Skeleton}
use Rattle.lf.specs.AtOnce.{shift_by}
use Rattle.lf.specs.Eta.{append, lambdas}
use Rattle.lf.specs.Typing.{instantiate_kind}
use Rattle.lf_unification.specs.Filling.{fill_spine, moved}
use Rattle.lf_unification.specs.Offering.{spine_equations}
use Rattle.lf_unification.specs.OpenTyping.{under_locals}
use Rattle.lf_unification.specs.Patterns.{beyond}
use Rattle.lf_unification.proofs.Filling.{fill_rename_spine}
use Rattle.lf_coverage.specs.SplitStore.{open_variable, open_term, open_spine, open_type, open_locals}
use Rattle.lf_coverage.proofs.OpenTyped.{open_renamed_spine}
use Rattle.lf_numbered.specs.OwnTerms.{weaken_own, BeginsWith, OnOwnTerms, SpineOnOwnTerms, TypeOnOwnTerms}
use Rattle.lf_numbered.specs.TypedNumbered.{own_over}
use Rattle.lf_numbered.proofs.OwnStoresSteps.{SidesOwned, own_over_is}
use Rattle.lf_numbered.proofs.OwnStoresTerms.{BeginsUpTo, IsFlexible, Owned, SpineOwned, TypeOwned, at_head, flexible_renamed}
use Rattle.lf_numbered.proofs.OwnTerms.{rename_own}
use mathlib.Core.Path.{fun_ext}

pub open_append : (k : ℕ) (U T : Spine) → open_spine k (append U T) ≡ append (open_spine k U) (open_spine k T)
open_append k nil T = refl
open_append k (app M U) T = ap (app (open_term k M)) (open_append k U T)

-- own terms under k binders, with metavariables, filled
abbrev pub filled_own : (ℕ → Skeleton) → (ℕ → Option Term) → ℕ → Option Spine → Option Spine
filled_own μ β k None = None
filled_own μ β k (Some V) = Some (fill_spine μ β (open_spine k V))

pub filled_under : (μ : ℕ → Skeleton) (β : ℕ → Option Term) (k : ℕ) (u : Option Spine) → weaken_own (filled_own μ β k u) ≡ filled_own μ (moved suc β) (suc k) (weaken_own u)
filled_under μ β k None = refl
filled_under μ β k (Some V) = ap Some (fill_rename_spine μ suc β (open_spine k V) ∙ ap (fill_spine μ (moved suc β)) (sym (open_renamed_spine k (suc k) suc (λ i. refl) V)))

module _ (μ : ℕ → Skeleton) where
  open_flexible : (k i : ℕ) → IsFlexible μ (open_variable k i)
  open_flexible zero i = tt
  open_flexible (suc k) zero = tt
  open_flexible (suc k) (suc i) = flexible_renamed μ suc (open_variable k i) (open_flexible k i)

  begins_opened : (k : ℕ) (β : ℕ → Option Term) (u v : Option Spine) (S : Spine) → v ≡ filled_own μ β k u → BeginsWith u S → BeginsUpTo μ β v (open_spine k S)
  begins_opened k β None v S e b = subst (λ z. BeginsUpTo μ β z (open_spine k S)) (sym e) tt
  begins_opened k β (Some V) v S e (T, q) = subst (λ z. BeginsUpTo μ β z (open_spine k S)) (sym e) (open_spine k V, open_spine k T, ap (open_spine k) q ∙ open_append k V T, refl)

  mutual
    pub opened : (k : ℕ) (o p : ℕ → Option Spine) (β : ℕ → Option Term) (M : Term) → ((c : ℕ) → p c ≡ filled_own μ β k (o c)) → OnOwnTerms o M → Owned μ p β (open_term k M)
    opened k o p β (lambda M) h m = opened (suc k) (λ c. weaken_own (o c)) (λ c. weaken_own (p c)) (moved suc β) M (λ c. ap weaken_own (h c) ∙ filled_under μ β k (o c)) m
    opened k o p β (root (constant c) S) h (b, s) = (begins_opened k β (o c) (p c) S (h c) b, spine_opened k o p β S h s)
    opened k o p β (root (variable i) S) h s = at_head μ p β (open_variable k i) (open_spine k S) (open_flexible k i) (spine_opened k o p β S h s)
    opened k o p β (root (metavariable m) S) h s = spine_opened k o p β S h s

    pub spine_opened : (k : ℕ) (o p : ℕ → Option Spine) (β : ℕ → Option Term) (S : Spine) → ((c : ℕ) → p c ≡ filled_own μ β k (o c)) → SpineOnOwnTerms o S → SpineOwned μ p β (open_spine k S)
    spine_opened k o p β nil h s = s
    spine_opened k o p β (app M S) h (m, s) = (opened k o p β M h m, spine_opened k o p β S h s)

  pub type_opened : (k : ℕ) (o p : ℕ → Option Spine) (β : ℕ → Option Term) (A : LfType) → ((c : ℕ) → p c ≡ filled_own μ β k (o c)) → TypeOnOwnTerms o A → TypeOwned μ p β (open_type k A)
  type_opened k o p β (pi A B) h (a, b) = (type_opened k o p β A h a, type_opened (suc k) (λ c. weaken_own (o c)) (λ c. weaken_own (p c)) (moved suc β) B (λ c. ap weaken_own (h c) ∙ filled_under μ β k (o c)) b)
  type_opened k o p β (atom a S) h s = spine_opened k o p β S h s

  -- under a local context
  pub filled_over : (D : List LfType) (o p : ℕ → Option Spine) (β : ℕ → Option Term) → ((c : ℕ) → p c ≡ filled_own μ β zero (o c)) → (c : ℕ) → own_over (open_locals D) p c ≡ filled_own μ (under_locals (open_locals D) β) (length D) (own_over D o c)
  filled_over [] o p β h c = h c
  filled_over (A ∷ D) o p β h c = ap weaken_own (filled_over D o p β h c) ∙ filled_under μ (under_locals (open_locals D) β) (length D) (own_over D o c)

  -- the equations of two spines
  pub equations_owned : (D : List LfType) (p : ℕ → Option Spine) (β : ℕ → Option Term) (K : Kind) (S T : Spine) → SpineOwned μ (own_over D p) (under_locals D β) S → SpineOwned μ (own_over D p) (under_locals D β) T → SidesOwned μ p β (spine_equations D K S T)
  equations_owned D p β (kind_pi A K) nil T s t = tt
  equations_owned D p β (kind_pi A K) (app M S) nil s t = tt
  equations_owned D p β (kind_pi A K) (app M S) (app N T) (m, s) (n, t) = ((m, n), equations_owned D p β (instantiate_kind A M K) S T s t)
  equations_owned D p β star S T s t = tt

-- own terms under a local context
pub own_over_shift : (D : List LfType) (o : ℕ → Option Spine) → own_over D (λ c. weaken_own (o c)) ≡ (λ c. weaken_own (own_over D o c))
own_over_shift [] o = refl
own_over_shift (A ∷ D) o = ap (λ f c. weaken_own (f c)) (own_over_shift D o)

pub lambdas_owned : (D : List LfType) (o : ℕ → Option Spine) (M : Term) → OnOwnTerms (own_over D o) M → OnOwnTerms o (lambdas (length D) M)
lambdas_owned [] o M m = m
lambdas_owned (A ∷ D) o M m = lambdas_owned D (λ c. weaken_own (o c)) M (subst (λ f. OnOwnTerms f M) (sym (own_over_shift D o)) m)

-- they have moved past it
pub beyond_shifts : (D : List LfType) (i : ℕ) → beyond D i ≡ i + length D
beyond_shifts [] i = none i
  where
    none : (i : ℕ) → i ≡ i + 0
    none i = omega arith
beyond_shifts (A ∷ D) i = ap suc (beyond_shifts D i) ∙ next i (length D)
  where
    next : (i n : ℕ) → suc (i + n) ≡ i + suc n
    next i n = omega arith

pub own_over_shifts : (D : List LfType) (o : ℕ → Option Spine) (c : ℕ) → own_over D o c ≡ rename_own (shift_by (length D)) (o c)
own_over_shifts D o c = own_over_is D o c ∙ ap (λ ρ. rename_own ρ (o c)) (fun_ext (beyond_shifts D))

pub over_length : (D E : List LfType) (o : ℕ → Option Spine) → length D ≡ length E → own_over D o ≡ own_over E o
over_length D E o e = fun_ext (λ c. own_over_shifts D o c ∙ ap (λ n. rename_own (shift_by n) (o c)) e ∙ sym (own_over_shifts E o c))
