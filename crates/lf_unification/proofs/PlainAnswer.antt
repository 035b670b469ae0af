-- The context and the values that are read off an order of dependency have no metavariable.
use Rattle.std.proofs.Common.{◌≡◌, ℕ, zero, suc, List, [], ◌∷◌, Option, Some, None, ◌⊎◌, inl, inr, sym, ap, ◌∙◌, subst}
use Rattle.lf.specs.Syntax.{Skeleton, Spine, Term, LfType, app, atom, constant, lambda, metavariable, nil, pi, rename, root, skeleton, variable}
use Rattle.lf.specs.Typing.{Signature, TypeAt}
use Rattle.lf_unification.specs.Dependency.{IsDependencyOrder, IsListed, ListedMetavariable, ValueIsOrdered, free_context, values}
use Rattle.lf_unification.specs.Filling.{fill, fill_metavariable, fill_spine, fill_type, moved, rename_value}
use Rattle.lf_unification.specs.OpenTyping.{MetavariablesIn, MetavariablesInSpine, MetavariablesInType, set_at}
use Rattle.lf_unification.specs.PartialInstance.{ValueIsPlain}
use Rattle.lf_unification.specs.Patterns.{eta_variable}
use Rattle.lf_unification.proofs.Agree.{set_here}
use Rattle.lf_unification.proofs.Offer.{decide, set_other}
use Rattle.lf_unification.proofs.Scope.{in_expand, in_reduced, in_rename, in_rename_type}

-- W has values, and they are plain
abbrev HasPlain : (ℕ → Type 0) → (ℕ → Option Term) → Type 0
HasPlain W β = (m : ℕ) → W m → (N : Term) × (β m ≡ Some N) × MetavariablesIn (λ k. ⊥) N

module _ (μ : ℕ → Skeleton) (W : ℕ → Type 0) where
  plain_under : (β : ℕ → Option Term) → HasPlain W β → HasPlain W (moved suc β)
  plain_under β h m w = let (N, e, i) = h m w in (rename suc N, ap (rename_value suc) e, in_rename (λ k. ⊥) suc N i)

  mutual
    plain_fill : (β : ℕ → Option Term) → HasPlain W β → (M : Term) → MetavariablesIn W M → MetavariablesIn (λ k. ⊥) (fill μ β M)
    plain_fill β h (lambda M) i = plain_fill (moved suc β) (plain_under β h) M i
    plain_fill β h (root (constant c) S) i = plain_fill_spine β h S i
    plain_fill β h (root (variable c) S) i = plain_fill_spine β h S i
    plain_fill β h (root (metavariable m) S) (w, i) = let (N, e, j) = h m w in
        subst (λ y. MetavariablesIn (λ k. ⊥) (fill_metavariable (μ m) m y (fill_spine μ β S))) (sym e) (in_reduced (λ k. ⊥) (μ m) N (fill_spine μ β S) j (plain_fill_spine β h S i))

    plain_fill_spine : (β : ℕ → Option Term) → HasPlain W β → (S : Spine) → MetavariablesInSpine W S → MetavariablesInSpine (λ k. ⊥) (fill_spine μ β S)
    plain_fill_spine β h nil i = tt
    plain_fill_spine β h (app M S) (i, j) = (plain_fill β h M i, plain_fill_spine β h S j)

  plain_fill_type : (β : ℕ → Option Term) → HasPlain W β → (A : LfType) → MetavariablesInType W A → MetavariablesInType (λ k. ⊥) (fill_type μ β A)
  plain_fill_type β h (pi A B) (i, j) = (plain_fill_type β h A i, plain_fill_type (moved suc β) (plain_under β h) B j)
  plain_fill_type β h (atom a S) i = plain_fill_spine β h S i

plain_moved : (y : Option Term) → ValueIsPlain y → ValueIsPlain (rename_value suc y)
plain_moved None p = tt
plain_moved (Some N) p = in_rename (λ k. ⊥) suc N p

pub record Plain (μ : ℕ → Skeleton) (is : List ListedMetavariable) : Type 0 where
  pub all : (m : ℕ) → ValueIsPlain (values μ is m)
  pub listed : HasPlain (IsListed is) (values μ is)
  pub context : (i : ℕ) (X : LfType) → TypeAt (free_context μ is) i X → MetavariablesInType (λ k. ⊥) X

module _ (Σ : Signature) (Ψ : ℕ → Option LfType) (U : (ℕ → Option Term) → Type 0) (μ : ℕ → Skeleton) where
  -- one more value V at n, over values β that are plain
  module _ (n : ℕ) (V : Term) (v : MetavariablesIn (λ k. ⊥) V) (β : ℕ → Option Term) (W : ℕ → Type 0) where
    put_all : ((m : ℕ) → ValueIsPlain (β m)) → (m : ℕ) → ValueIsPlain (set_at n (Some V) β m)
    put_all h m = go (decide m n)
      where
        go : (m ≡ n) ⊎ (m ≡ n → ⊥) → ValueIsPlain (set_at n (Some V) β m)
        go (inl e) = subst ValueIsPlain (sym (ap (set_at n (Some V) β) e ∙ set_here n (Some V) β)) v
        go (inr e) = subst ValueIsPlain (sym (set_other n (Some V) β m e)) (h m)

    put_listed : HasPlain W β → (m : ℕ) → (m ≡ n) ⊎ W m → (N : Term) × (set_at n (Some V) β m ≡ Some N) × MetavariablesIn (λ k. ⊥) N
    put_listed h m l = go (decide m n) l
      where
        go : (m ≡ n) ⊎ (m ≡ n → ⊥) → (m ≡ n) ⊎ W m → (N : Term) × (set_at n (Some V) β m ≡ Some N) × MetavariablesIn (λ k. ⊥) N
        go (inl e) l = (V, ap (set_at n (Some V) β) e ∙ set_here n (Some V) β, v)
        go (inr e) (inl q) = absurd (e q)
        go (inr e) (inr w) = let (N, f, i) = h m w in (N, set_other n (Some V) β m e ∙ f, i)

  pub plain : (is : List ListedMetavariable) → IsDependencyOrder Σ Ψ U is → Plain μ is
  plain [] o = record { all = λ m. tt; listed = λ m l. absurd l; context = λ i X g. absurd g }
  plain (it ∷ is) o = go it.value o.6 (plain is o.0)
    where
      go : (x : Option Term) → ValueIsOrdered Σ Ψ U is it.of_type x → Plain μ is → Plain μ (record { of = it.of; of_type = it.of_type; value = x } ∷ is)
      go None v w = record {
        all = put_all it.of (eta_variable (skeleton it.of_type) zero) eta_plain (moved suc (values μ is)) (IsListed is) (λ m. plain_moved (values μ is m) (w.all m));
        listed = put_listed it.of (eta_variable (skeleton it.of_type) zero) eta_plain (moved suc (values μ is)) (IsListed is) (plain_under μ (IsListed is) (values μ is) w.listed);
        context = at;
      }
        where
          eta_plain : MetavariablesIn (λ k. ⊥) (eta_variable (skeleton it.of_type) zero)
          eta_plain = in_expand (λ k. ⊥) (skeleton it.of_type) (variable zero) nil tt tt

          at : (i : ℕ) (X : LfType) → TypeAt (fill_type μ (values μ is) it.of_type ∷ free_context μ is) i X → MetavariablesInType (λ k. ⊥) X
          at zero X e = subst (MetavariablesInType (λ k. ⊥)) (sym e) (in_rename_type (λ k. ⊥) suc (fill_type μ (values μ is) it.of_type) (plain_fill_type μ (IsListed is) (values μ is) w.listed it.of_type o.3))
          at (suc i) X (C, g, e) = subst (MetavariablesInType (λ k. ⊥)) (sym e) (in_rename_type (λ k. ⊥) suc C (w.context i C g))
      go (Some N) v w = record {
        all = put_all it.of (fill μ (values μ is) N) (plain_fill μ (IsListed is) (values μ is) w.listed N v.0) (values μ is) (IsListed is) w.all;
        listed = put_listed it.of (fill μ (values μ is) N) (plain_fill μ (IsListed is) (values μ is) w.listed N v.0) (values μ is) (IsListed is) w.listed;
        context = w.context;
      }
