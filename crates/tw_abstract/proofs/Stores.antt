-- The walk in a well-formed store.
use Rattle.std.proofs.Common.{◌≡◌, ℕ, ◌+◌, List, [], ◌∷◌, Option, Some, inl, inr, sym, ap, ◌∙◌, subst, arith}
use Rattle.lf.specs.SkeletonTyping.{TermSkeleton}
use Rattle.lf.specs.Skeletons.{context_skeletons, family_skeletons}
use Rattle.lf.specs.Subordination.{Member}
use Rattle.lf.specs.Syntax.{Kind, LfType, Skeleton, Spine, Term, app, atom, constant, kind_pi, lambda, metavariable, nil, pi, root, skeleton, star, variable}
use Rattle.lf.specs.Typing.{IsSignature, Signature, instantiate_kind, instantiate_type}
use Rattle.lf_unification.specs.Dependency.{IsDependencyOrder, IsListed, ListedMetavariable, free_context, values}
use Rattle.lf_unification.specs.Filling.{fill, fill_type}
use Rattle.lf_unification.specs.Lists.{followed}
use Rattle.lf_unification.specs.OpenTyping.{Declares, MetavariablesIn, MetavariablesInSpine, MetavariablesInType, OpenHasType, OpenIsType, OpenSpineFitsKind, OpenSpineType, skeletons_of, under_locals}
use Rattle.lf_unification.specs.PartialInstance.{IsFilling}
use Rattle.lf_unification.specs.Patterns.{eta_variable, local_skeletons}
use Rattle.lf_unification.specs.Putting.{PutsIn, PutsInType, binders}
use Rattle.lf_unification.specs.Skeletons.{as_head_skeletons, skeleton_or_default, total_skeletons}
use Rattle.lf_unification.specs.Solving.{IsWellFormed, ValuesAreBindings}
use Rattle.lf_unification.specs.Unifiers.{Binding, Store}
use Rattle.lf_unification.proofs.Eta.{rename_id}
use Rattle.lf_unification.proofs.Generic.{Fact, Facts, open_skeletons_kind, open_skeletons_type, stage}
use Rattle.lf_unification.proofs.Putting.{typed_at}
use Rattle.lf_unification.proofs.Scope.{in_weaker, in_weaker_type}
use Rattle.tw_abstract.specs.Free.{free_metavariables}
use Rattle.tw_abstract.specs.Generalizing.{generalized, generalized_type}
use Rattle.tw_abstract.specs.Positions.{index}
use Rattle.tw_abstract.proofs.Free.{Covers, all_covered, free_variable, outer_covered, value_listed}
use Rattle.tw_abstract.proofs.Generalized.{Ready, ready_at, term_generalized, type_generalized}

module _ (Σ : Signature) (Ψ : ℕ → Option LfType) (U : (ℕ → Option Term) → Type 0) where
  -- what is typed mentions declared metavariables only
  mutual
    typed_declared : (D : List LfType) (M : Term) (A : LfType) → OpenHasType Σ [] Ψ U D M A → MetavariablesIn (Declares Ψ) M
    typed_declared D (lambda M) (pi A B) m = typed_declared (A ∷ D) M B m
    typed_declared D (lambda M) (atom a T) m = absurd m
    typed_declared D (root h S) (pi A B) m = absurd m
    typed_declared D (root (constant c) S) (atom a T) (A, g, s) = spine_declared D S A (atom a T) s
    typed_declared D (root (variable i) S) (atom a T) (A, g, s) = spine_declared D S A (atom a T) s
    typed_declared D (root (metavariable m) S) (atom a T) (A, (B, g, e), s) = ((B, g), spine_declared D S A (atom a T) s)

    spine_declared : (D : List LfType) (S : Spine) (A C : LfType) → OpenSpineType Σ [] Ψ U D S A C → MetavariablesInSpine (Declares Ψ) S
    spine_declared D nil A C s = tt
    spine_declared D (app M S) (pi A B) C (m, s) = (typed_declared D M A m, spine_declared D S (instantiate_type A M B) C s)
    spine_declared D (app M S) (atom a T) C s = absurd s

  kind_declared : (D : List LfType) (S : Spine) (K : Kind) → OpenSpineFitsKind Σ [] Ψ U D S K → MetavariablesInSpine (Declares Ψ) S
  kind_declared D nil K s = tt
  kind_declared D (app M S) (kind_pi A K) (m, s) = (typed_declared D M A m, kind_declared D S (instantiate_kind A M K) s)
  kind_declared D (app M S) star s = absurd s

  type_declared : (D : List LfType) (A : LfType) → OpenIsType Σ [] Ψ U D A → MetavariablesInType (Declares Ψ) A
  type_declared D (pi A B) (a, b) = (type_declared D A a, type_declared (A ∷ D) B b)
  type_declared D (atom a S) (K, e, s) = kind_declared D S K s

  -- and has the skeleton of its type
  has_skeleton : (ok : IsSignature Σ) (D : List LfType) (Γ : List Skeleton) (M : Term) (A : LfType) → OpenHasType Σ [] Ψ U D M A → TermSkeleton (as_head_skeletons (total_skeletons Σ (skeletons_of Ψ))) (local_skeletons D Γ) M (skeleton A)
  has_skeleton ok D Γ M A m = (open_skeletons_kind Σ (skeletons_of Ψ) ok Ψ U 0 D Γ (app M nil) (kind_pi A star) (m, tt)).0

  module _ (ok : IsSignature Σ) (bs : List Binding) (typed : (b : Binding) → Member b bs → (B : LfType) × (Ψ b.of ≡ Some B) × OpenHasType Σ [] Ψ U [] b.value B) where
    -- the value of a listed one, by the facts of the order
    fact : (F : List LfType) (β : ℕ → Option Term) (js : List ListedMetavariable) → Facts Σ (skeletons_of Ψ) ok Ψ U F β js → (m : ℕ) (A : LfType) (N : Term) → Member (record { of = m; of_type = A; value = Some N }) js → β m ≡ Some (fill (skeletons_of Ψ) β N)
    fact F β [] f m A N i = absurd i
    fact F β (j ∷ js) (f, fs) m A N (inl e) = subst (λ k. Fact Σ (skeletons_of Ψ) ok Ψ U F β k.of k.of_type k.value) (sym e) f
    fact F β (j ∷ js) (f, fs) m A N (inr i) = fact F β js fs m A N i

    abbrev Closed : List ListedMetavariable → Type 0
    Closed is = (b : Binding) → Member b bs → IsListed is b.of → MetavariablesIn (IsListed is) b.value

    pub closed_order : (is : List ListedMetavariable) → IsDependencyOrder Σ Ψ U is → Covers Σ Ψ U bs is → Closed is
    closed_order is o c b i l = let (A, k) = c b i l in value_listed Σ Ψ U bs is o b.of A b.value k

    pub ready : (is : List ListedMetavariable) (o : IsDependencyOrder Σ Ψ U is) (v : ValuesAreBindings bs is) (c : Covers Σ Ψ U bs is) → Ready Σ Ψ bs (IsListed is) (closed_order is o c) (index (free_metavariables is)) 0 (values (skeletons_of Ψ) is) (context_skeletons (free_context (skeletons_of Ψ) is))
    ready is o v c = record {
      values = (stage Σ (skeletons_of Ψ) ok Ψ U is o).by_skeletons;
      bound = λ b i l.
          let (A, k) = c b i l in
          let (B, d, t) = typed b i in (
            fact (free_context (skeletons_of Ψ) is) (values (skeletons_of Ψ) is) is (stage Σ (skeletons_of Ψ) ok Ψ U is o).facts b.of A b.value k ∙ ap (λ N. Some (fill (skeletons_of Ψ) (values (skeletons_of Ψ) is) N)) (sym (rename_id b.value)),
            subst (λ N. TermSkeleton (as_head_skeletons (total_skeletons Σ (skeletons_of Ψ))) (context_skeletons (free_context (skeletons_of Ψ) is)) N (skeletons_of Ψ b.of)) (sym (rename_id b.value))
                (subst (TermSkeleton (as_head_skeletons (total_skeletons Σ (skeletons_of Ψ))) (context_skeletons (free_context (skeletons_of Ψ) is)) b.value) (sym (ap skeleton_or_default d)) (has_skeleton ok [] (context_skeletons (free_context (skeletons_of Ψ) is)) b.value B t)),
          );
      free = λ m l u.
          let (i, e, q) = free_variable Σ Ψ U bs is o v m l u in
          let p : i ≡ 0 + i = omega arith in
          (i, e, q ∙ ap (λ x. Some (eta_variable (skeletons_of Ψ m) x)) p);
    }

module _ (Σ : Signature) (ok : IsSignature Σ) (s : Store) (w : IsWellFormed Σ s) where
  abbrev U : (ℕ → Option Term) → Type 0
  U = IsFilling Σ [] s

  abbrev Ψ : ℕ → Option LfType
  Ψ = s.metavariables

  typed : (b : Binding) → Member b s.bindings → (B : LfType) × (Ψ b.of ≡ Some B) × OpenHasType Σ [] Ψ U [] b.value B
  typed = typed_at Σ [] Ψ U s.bindings w.typed.bindings_typed

  covered : Covers Σ Ψ U s.bindings w.order
  covered b i l = all_covered Σ Ψ U s.bindings w.order s.bindings w.bindings_listed b i

  listed : (m : ℕ) → Declares Ψ m → IsListed w.order m
  listed m (A, e) = w.all_listed m A e

  pub generalized_terms : (D : List LfType) (M M' : Term) (A : LfType) → OpenHasType Σ [] Ψ U D M A → PutsIn Ψ s.bindings (binders D) M M' → generalized (index (free_metavariables w.order)) (binders D) M' ≡ Some (fill (skeletons_of Ψ) (under_locals D (values (skeletons_of Ψ) w.order)) M)
  generalized_terms D M M' A m d =
      let V : ℕ → Type 0 = IsListed w.order in
      let C = closed_order Σ Ψ U ok s.bindings typed w.order w.is_order covered in
      let Γ : List Skeleton = context_skeletons (free_context (skeletons_of Ψ) w.order) in
      term_generalized Σ Ψ s.bindings V C (index (free_metavariables w.order)) d (under_locals D (values (skeletons_of Ψ) w.order)) (local_skeletons D Γ) (skeleton A)
      (ready_at Σ Ψ s.bindings V C (index (free_metavariables w.order)) D (values (skeletons_of Ψ) w.order) Γ (ready Σ Ψ U ok s.bindings typed w.order w.is_order w.values_bound covered))
      (in_weaker (Declares Ψ) V listed M (typed_declared Σ Ψ U D M A m)) (has_skeleton Σ Ψ U ok D Γ M A m)

  pub generalized_types : (D : List LfType) (A A' : LfType) → OpenIsType Σ [] Ψ U D A → PutsInType Ψ s.bindings (binders D) A A' → generalized_type (index (free_metavariables w.order)) (binders D) A' ≡ Some (fill_type (skeletons_of Ψ) (under_locals D (values (skeletons_of Ψ) w.order)) A)
  generalized_types D A A' a d =
      let V : ℕ → Type 0 = IsListed w.order in
      let C = closed_order Σ Ψ U ok s.bindings typed w.order w.is_order covered in
      let Γ : List Skeleton = context_skeletons (free_context (skeletons_of Ψ) w.order) in
      type_generalized Σ Ψ s.bindings V C (index (free_metavariables w.order)) d (family_skeletons Σ) (under_locals D (values (skeletons_of Ψ) w.order)) (local_skeletons D Γ)
      (ready_at Σ Ψ s.bindings V C (index (free_metavariables w.order)) D (values (skeletons_of Ψ) w.order) Γ (ready Σ Ψ U ok s.bindings typed w.order w.is_order w.values_bound covered))
      (in_weaker_type (Declares Ψ) V listed A (type_declared Σ Ψ U D A a)) (open_skeletons_type Σ (skeletons_of Ψ) ok Ψ U D Γ A a)

  -- what holds of an order holds of the part behind some
  record Outer (is : List ListedMetavariable) : Type 0 where
    order : IsDependencyOrder Σ Ψ U is
    bound : ValuesAreBindings s.bindings is
    covers : Covers Σ Ψ U s.bindings is

  outer_part : (js is : List ListedMetavariable) → Outer (followed js is) → Outer is
  outer_part [] is o = o
  outer_part (j ∷ js) is o = outer_part js is (record { order = o.order.0; bound = o.bound.1; covers = outer_covered Σ Ψ U s.bindings j (followed js is) o.order o.covers })

  pub generalized_context : (js is : List ListedMetavariable) (it : ListedMetavariable) (A' : LfType) → w.order ≡ followed js (it ∷ is) → PutsInType Ψ s.bindings 0 it.of_type A' → generalized_type (index (free_metavariables is)) 0 A' ≡ Some (fill_type (skeletons_of Ψ) (values (skeletons_of Ψ) is) it.of_type)
  generalized_context js is it A' e d =
      let p : Outer (it ∷ is) = outer_part js (it ∷ is) (subst Outer e (record { order = w.is_order; bound = w.values_bound; covers = covered })) in
      let c : Covers Σ Ψ U s.bindings is = outer_covered Σ Ψ U s.bindings it is p.order p.covers in
      let Γ : List Skeleton = context_skeletons (free_context (skeletons_of Ψ) is) in
      type_generalized Σ Ψ s.bindings (IsListed is) (closed_order Σ Ψ U ok s.bindings typed is p.order.0 c) (index (free_metavariables is)) d (family_skeletons Σ) (values (skeletons_of Ψ) is) Γ
      (ready Σ Ψ U ok s.bindings typed is p.order.0 p.bound.1 c) p.order.3 (open_skeletons_type Σ (skeletons_of Ψ) ok Ψ U [] Γ it.of_type p.order.4)
