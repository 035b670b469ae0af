-- A store that is solved by one binding of a pattern, and whose free metavariables can stand in no context:
-- t : nat, k : vec t -> nat, w : vec t, with the equation t = k w.
use Rattle.std.proofs.Common.{◌≡◌, ℕ, zero, suc, List, [], ◌∷◌, Option, Some, None, inl, inr, refl, sym, ap, ap₂, ◌∙◌, subst}
use Rattle.lf.specs.Syntax.{Skeleton, Spine, Term, LfType, app, arrow, atom, base, constant, lambda, metavariable, nil, pi, rename, rename_spine, root, variable, weaken}
use Rattle.lf.specs.Typing.{TypeAt, SpineType, HasType, IsSignature, Signature}
use Rattle.lf.specs.Subordination.{Member}
use Rattle.lf_unification.specs.Dependency.{IsDependencyOrder, IsListed, ListedMetavariable, ValueIsOrdered}
use Rattle.lf_unification.specs.PartialInstance.{IsFilling}
use Rattle.lf_unification.specs.Solving.{IsWellFormed}
use Rattle.lf_unification.proofs.Generic.{ordered_at}
use Rattle.lf_unification.specs.Filling.{fill_type, fill_metavariable}
use Rattle.lf_unification.specs.OpenTyping.{IsInstance, MetavariablesInType, skeletons_of}
use Rattle.lf_unification.specs.Patterns.{eta_variable}
use Rattle.lf_unification.specs.Unifiers.{KeepsUnifiers}
use Rattle.lf_unification.specs.Unifiers.{Respects, Store}
use Rattle.lf_unification.proofs.StepLemmas.{value_of}
use Rattle.lf_unification.proofs.Stores.{binding_step}

module _ (Σ : Signature) (nat vec : ℕ) where
  abbrev Nat : LfType
  Nat = atom nat nil

  abbrev Vec : Term → LfType
  Vec M = atom vec (app M nil)

  abbrev t : Term
  t = root (metavariable 0) nil

  abbrev k_w : Term
  k_w = root (metavariable 1) (app (root (metavariable 2) nil) nil)

  abbrev types : ℕ → Option LfType
  types zero = Some Nat
  types (suc zero) = Some (pi (Vec t) Nat)
  types (suc (suc zero)) = Some (Vec t)
  types (suc (suc (suc n))) = None

  abbrev before : Store
  before = record { metavariables = types; bindings = []; equations = record { local = []; left = t; right = k_w; of_type = Nat } ∷ [] }

  abbrev after : Store
  after = record { metavariables = types; bindings = record { of = 0; value = k_w } ∷ []; equations = [] }

  -- the equation is solved by a step on a pattern
  pub solved : KeepsUnifiers Σ [] before after
  solved = binding_step Σ [] types [] [] [] 0 Nat refl [] (λ Γ. tt) (λ i j e. e) k_w Nat

-- the type is `a (x ..) .. -> B`
abbrev AtVar : ℕ → Term → Type 0
AtVar x (lambda M) = ⊥
AtVar x (root (constant c) T) = ⊥
AtVar x (root (metavariable m) T) = ⊥
AtVar x (root (variable i) T) = i ≡ x

abbrev FirstVar : ℕ → Spine → Type 0
FirstVar x nil = ⊥
FirstVar x (app M S) = AtVar x M

abbrev Domain : ℕ → LfType → Type 0
Domain x (pi A B) = ⊥
Domain x (atom a S) = FirstVar x S

abbrev From : ℕ → LfType → Type 0
From x (atom a S) = ⊥
From x (pi A B) = Domain x A

-- a variable does not occur in its own type, here in this place
at_back : (x : ℕ) (M : Term) → AtVar (suc x) (rename suc M) → AtVar x M
at_back x (lambda M) h = h
at_back x (root (constant c) T) h = h
at_back x (root (metavariable m) T) h = h
at_back x (root (variable i) T) h = (let p : i ≡ x = cc in p)

at_zero : (M : Term) → AtVar zero (rename suc M) → ⊥
at_zero (lambda M) h = h
at_zero (root (constant c) T) h = h
at_zero (root (metavariable m) T) h = h
at_zero (root (variable i) T) h = cc

first_back : (x : ℕ) (S : Spine) → FirstVar (suc x) (rename_spine suc S) → FirstVar x S
first_back x nil h = h
first_back x (app M S) h = at_back x M h

first_zero : (S : Spine) → FirstVar zero (rename_spine suc S) → ⊥
first_zero nil h = h
first_zero (app M S) h = at_zero M h

from_back : (x : ℕ) (A : LfType) → From (suc x) (weaken A) → From x A
from_back x (atom a S) h = h
from_back x (pi (pi A B) C) h = h
from_back x (pi (atom a S) C) h = first_back x S h

from_zero : (A : LfType) → From zero (weaken A) → ⊥
from_zero (atom a S) h = h
from_zero (pi (pi A B) C) h = h
from_zero (pi (atom a S) C) h = first_zero S h

not_itself : (F : List LfType) (x : ℕ) (C : LfType) → TypeAt F x C → From x C → ⊥
not_itself [] x C g h = absurd g
not_itself (B ∷ F) zero C e h = from_zero B (subst (From zero) e h)
not_itself (B ∷ F) (suc x) C (D, g, e) h = not_itself F x D g (from_back x D (subst (From (suc x)) e h))

at_up : (x : ℕ) (M : Term) → AtVar x M → AtVar (suc x) (rename suc M)
at_up x (lambda M) h = h
at_up x (root (constant c) T) h = h
at_up x (root (metavariable m) T) h = h
at_up x (root (variable i) T) h = ap suc h

module _ (Σ : Signature) (nat vec : ℕ) where
  key : (F : List LfType) (x : ℕ) (M : Term) → AtVar x M → HasType Σ F (eta_variable (arrow (base vec) (base nat)) x) (pi (Vec Σ nat vec M) (Nat Σ nat vec)) → ⊥
  key F x M h (A, (C, g, e), s) = go A e s
    where
      go : (A : LfType) → A ≡ weaken C → SpineType Σ (Vec Σ nat vec M ∷ F) (app (root (variable 0) nil) nil) A (Nat Σ nat vec) → ⊥
      go (atom a T) e s = s
      go (pi (pi X Y) B) e (m, s) = m
      go (pi (atom a T) B) e ((A₀, q, r), s) = not_itself F x C g (from_back x C (subst (From (suc x)) e (subst (Domain (suc x)) (sym q ∙ r) (at_up x M h))))

  -- In no context F are k and w two variables x and y of F, under the binding of t: the type of x would be `vec (x y) -> nat`.
  -- So what was solved by a pattern has no answer, and no completion, in which what is free is quantified.
  pub no_context : (F : List LfType) (β : ℕ → Option Term) (x y : ℕ) → IsInstance Σ [] (types Σ nat vec) F β → Respects (skeletons_of (types Σ nat vec)) β (record { of = 0; value = k_w Σ nat vec } ∷ []) →
      β 1 ≡ Some (eta_variable (arrow (base vec) (base nat)) x) → β 2 ≡ Some (eta_variable (base vec) y) → ⊥
  no_context F β x y w r e f =
      let μ : ℕ → Skeleton = skeletons_of (types Σ nat vec) in
      let (V, q, v) = value_of Σ [] (types Σ nat vec) F β w 1 (pi (Vec Σ nat vec (t Σ nat vec)) (Nat Σ nat vec)) refl in
      let p : V ≡ eta_variable (arrow (base vec) (base nat)) x = cc in
      let z : β 0 ≡ Some (root (variable x) (app (root (variable y) nil) nil)) = r.0 ∙ ap₂ (λ a b. Some (fill_metavariable (arrow (base vec) (base nat)) 1 a (app (fill_metavariable (base vec) 2 b nil) nil))) e f in
      key F x (root (variable x) (app (root (variable y) nil) nil)) refl (subst (λ a. HasType Σ F (eta_variable (arrow (base vec) (base nat)) x) (pi (Vec Σ nat vec (fill_metavariable (base nat) 0 a nil)) (Nat Σ nat vec))) z (subst (λ X. HasType Σ F X (fill_type μ β (pi (Vec Σ nat vec (t Σ nat vec)) (Nat Σ nat vec)))) p v))

-- The bound store is not well formed: no order of dependency puts t behind w, whose type mentions t, and w behind t, whose value mentions w.
module _ (Σ : Signature) (ok : IsSignature Σ) (nat vec : ℕ) where
  abbrev Ψ : ℕ → Option LfType
  Ψ = types Σ nat vec

  no_order : (U : (ℕ → Option Term) → Type 0) (is : List ListedMetavariable) → IsDependencyOrder Σ Ψ U is → (A : LfType) → Member (record { of = 0; of_type = A; value = Some (k_w Σ nat vec) }) is → ⊥
  no_order U [] o A i = i
  no_order U (it ∷ is) o A (inr i) = no_order U is o.0 A i
  no_order U (it ∷ is) o A (inl e) =
      let v : ValueIsOrdered Σ Ψ U is it.of_type (Some (k_w Σ nat vec)) = subst (ValueIsOrdered Σ Ψ U is it.of_type) (sym (ap (λ x. x.value) e)) o.6 in
      let r = ordered_at Σ (skeletons_of Ψ) ok Ψ U is o.0 2 v.0.1.0.0 in
      let q : r.0 ≡ Vec Σ nat vec (t Σ nat vec) = (let p : Some r.0 ≡ Some (Vec Σ nat vec (t Σ nat vec)) = sym r.1 in cc) in
      o.2 (subst (IsListed is) (ap (λ x. x.of) e) (subst (MetavariablesInType (IsListed is)) q r.2).0.0)

  pub not_well_formed : IsWellFormed Σ (after Σ nat vec) → ⊥
  not_well_formed w = no_order (IsFilling Σ [] (after Σ nat vec)) w.order w.is_order w.bindings_listed.0.0 w.bindings_listed.0.1
