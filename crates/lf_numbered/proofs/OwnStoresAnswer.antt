-- What unification solves from a store on own terms: the values of the answer and the types of what stays free are on own terms.
use Rattle.std.proofs.Common.{◌≡◌, ℕ, List, [], ◌∷◌, Option, Some, None, inl, inr, refl, sym, ap, subst}
use Rattle.lf.specs.Subordination.{Member}
use Rattle.lf.specs.Syntax.{Spine, nil, Term, LfType, Skeleton, skeleton}
use Rattle.lf.specs.Typing.{IsSignature, Signature, TypeAt}
use Rattle.lf_unification.specs.Dependency.{IsListed, ListedMetavariable, free_context, values}
use Rattle.lf_unification.specs.OpenTyping.{ValueHasType, skeletons_of}
use Rattle.lf_unification.specs.PartialInstance.{IsFilling}
use Rattle.lf_unification.specs.Putting.{Unbound}
use Rattle.lf_unification.specs.Solving.{IsWellFormed, Solved}
use Rattle.lf_unification.specs.Unifiers.{Binding, Solution, Store}
use Rattle.lf_unification.proofs.Generic.{Fact, Facts, stage}
use Rattle.lf_unification.proofs.Solving.{binding_of, well_formed_answer}
use Rattle.lf_numbered.specs.OwnTerms.{TypeOnOwnTerms}
use Rattle.lf_numbered.proofs.OwnLong.{variable_own as own_long}
use Rattle.lf_numbered.proofs.OwnStoresFillings.{types_own, values_own}
use Rattle.lf_numbered.proofs.OwnStoresSteps.{StoreOwned}
use Rattle.lf_numbered.proofs.OwnStoresTerms.{ValueOnOwnTerms}

not_bound : (bs : List Binding) (b : Binding) → Member b bs → Unbound bs b.of → ⊥
not_bound [] b i n = i
not_bound (c ∷ bs) b (inl e) n = n.0 (ap (λ x. x.of) e)
not_bound (c ∷ bs) b (inr i) n = not_bound bs b i n.1

module _ (Σ : Signature) (ok : IsSignature Σ) (before after : Store) (form : IsWellFormed Σ before) (s : Solved Σ before after) (o : ℕ → Option Spine) (h : StoreOwned (skeletons_of after.metavariables) o (values (skeletons_of after.metavariables) s.well_formed.order) before) where
  abbrev Ψ : ℕ → Option LfType
  Ψ = after.metavariables

  abbrev μ : ℕ → Skeleton
  μ = skeletons_of after.metavariables

  abbrev U : (ℕ → Option Term) → Type 0
  U = IsFilling Σ [] after

  abbrev order : List ListedMetavariable
  order = s.well_formed.order

  abbrev F : List LfType
  F = free_context (skeletons_of after.metavariables) s.well_formed.order

  abbrev γ : ℕ → Option Term
  γ = values (skeletons_of after.metavariables) s.well_formed.order

  answer : Solution Σ [] after F γ
  answer = well_formed_answer Σ ok after s.well_formed s.none_left

  -- what stays free is a variable
  at_item : (it : ListedMetavariable) → Member it order → (x : Option Term) → it.value ≡ x → Fact Σ μ ok Ψ U F γ it.of it.of_type x → Unbound after.bindings it.of → ValueOnOwnTerms o (γ it.of)
  at_item it i None q (x, e, g) n = subst (ValueOnOwnTerms o) (sym e) (own_long o (skeleton it.of_type) x nil tt)
  at_item it i (Some N) q e n = absurd (not_bound after.bindings (record { of = it.of; value = N }) (binding_of after.bindings order s.well_formed.values_bound it i N q) n)

  at_listed : (is : List ListedMetavariable) → Facts Σ μ ok Ψ U F γ is → ((it : ListedMetavariable) → Member it is → Member it order) → (m : ℕ) → IsListed is m → Unbound after.bindings m → ValueOnOwnTerms o (γ m)
  at_listed [] f i m l n = absurd l
  at_listed (it ∷ is) (f, fs) i m (inr l) n = at_listed is fs (λ x j. i x (inr j)) m l n
  at_listed (it ∷ is) (f, fs) i m (inl e) n = subst (λ k. ValueOnOwnTerms o (γ k)) (sym e) (at_item it (i it (inl refl)) it.value refl f (subst (Unbound after.bindings) e n))

  free : (m : ℕ) → Unbound after.bindings m → ValueOnOwnTerms o (γ m)
  free m n = by (Ψ m) (γ m) refl refl (answer.0.typed m)
    where
      by : (y : Option LfType) (z : Option Term) → Ψ m ≡ y → γ m ≡ z → ValueHasType Σ F μ γ y z → ValueOnOwnTerms o (γ m)
      by None None e q v = subst (ValueOnOwnTerms o) (sym q) tt
      by None (Some N) e q v = absurd v
      by (Some A) z e q v = at_listed order (stage Σ μ ok Ψ U order s.well_formed.is_order).facts (λ it i. i) m (s.well_formed.all_listed m A e) n

  -- The values of the answer are on own terms
  pub values_owned : (m : ℕ) → ValueOnOwnTerms o (values (skeletons_of after.metavariables) s.well_formed.order m)
  values_owned = values_own Σ ok before after form s.run s.well_formed F γ answer o h free

  -- and so are the types of what stays free
  pub types_owned : (i : ℕ) (X : LfType) → TypeAt (free_context (skeletons_of after.metavariables) s.well_formed.order) i X → TypeOnOwnTerms o X
  types_owned i X g =
      let (m, A, l, d, q) = (stage Σ μ ok Ψ U order s.well_formed.is_order).entries i X g in
      subst (TypeOnOwnTerms o) (sym q) (types_own Σ ok before after form s.run s.well_formed F γ answer o h free m A d)
