-- Renewing keeps a store well formed: the new metavariable is declared, and the renewed one is bound to it.
use Rattle.std.proofs.Common.{◌≡◌, ℕ, List, [], ◌∷◌, Option, Some, None, inl, inr, refl, sym, ap, ◌∙◌, subst}
use Rattle.lf.specs.Eta.{eta_long}
use Rattle.lf.specs.Subordination.{Member}
use Rattle.lf.specs.Syntax.{LfType, Term, metavariable, nil, skeleton}
use Rattle.lf.specs.Typing.{IsSignature, Signature}
use Rattle.lf_unification.specs.Dependency.{IsDependencyOrder, IsListed, ListedMetavariable, ValueIsOrdered}
use Rattle.lf_unification.specs.Filling.{fill_type}
use Rattle.lf_unification.specs.OpenTyping.{Declares, MetavariablesIn, MetavariablesInType, OpenHasType, OpenIsType, TypesAgree, set_at, skeletons_of}
use Rattle.lf_unification.specs.PartialInstance.{IsFilling, PartialInstance}
use Rattle.lf_unification.specs.Putting.{PutsInType, Unbound}
use Rattle.lf_unification.specs.Renewing.{renewed_store}
use Rattle.lf_unification.specs.Scope.{IsScoped}
use Rattle.lf_unification.specs.Solving.{BindingsAreListed, IsWellFormed}
use Rattle.lf_unification.specs.Unifiers.{Binding, Equation, Store}
use Rattle.lf_unification.proofs.Agree.{fill_agree_type, set_here}
use Rattle.lf_unification.proofs.Declare.{IsBehind, behind_listed, declare_form, declare_grows, fewer as restricted_fills, kept_values, new_behind, same, type_behind}
use Rattle.lf_unification.proofs.Fillings.{BindingsAreTyped-weaker, DeclarationsAreTyped-weaker, EquationsAreTyped-weaker, fillings_half}
use Rattle.lf_unification.proofs.Generic.{open_skeletons_type}
use Rattle.lf_unification.proofs.OfferForm.{own_type_behind, term_behind}
use Rattle.lf_unification.proofs.OpenEta.{expand_open}
use Rattle.lf_unification.proofs.Place.{Behind, TypeBehind, bound, bound_listed, bound_ordered}
use Rattle.lf_unification.proofs.PruneTyped.{all_of}
use Rattle.lf_unification.proofs.Putting.{put_type_skeleton, put_type_typed, put_type_within, typed_at, types_agree}
use Rattle.lf_unification.proofs.Renew.{renewed_in}
use Rattle.lf_unification.proofs.Scope.{in_expand, in_weaker}
use Rattle.lf_unification.proofs.Solving.{listed_binding}
use Rattle.lf_unification.proofs.Sound.{restrict}
use Rattle.lf_unification.proofs.StepTyping.{bound_here, closed_term, member_bound, order_weaker, values_of_bound}
use Rattle.lf_unification.proofs.SubstitutionUpTo.{convert}
use Rattle.lf_unification.proofs.Indices.{metavariables_skeletons, skeletons_U}
use Rattle.lf_unification.proofs.Typed.{OpenHasType-weaker}

-- a metavariable that is not bound is bound to a typed value of what stands behind it
module _ (Σ : Signature) (ok : IsSignature Σ) (Ψ : ℕ → Option LfType) (bs : List Binding) (es : List Equation) (m : ℕ) (A : LfType) (V : Term) (declared : Ψ m ≡ Some A) (free : Unbound bs m) (w : IsWellFormed Σ (record { metavariables = Ψ; bindings = bs; equations = es })) (typed : OpenHasType Σ [] Ψ (IsFilling Σ [] (record { metavariables = Ψ; bindings = bs; equations = es })) [] V A) (behind : Behind m V w.order) where
  abbrev Before : (ℕ → Option Term) → Type 0
  Before = IsFilling Σ [] (record { metavariables = Ψ; bindings = bs; equations = es })

  abbrev pub valued_store : Store
  valued_store = record { metavariables = Ψ; bindings = record { of = m; value = V } ∷ bs; equations = es }

  abbrev Now : (ℕ → Option Term) → Type 0
  Now = IsFilling Σ [] valued_store

  fewer : (β : ℕ → Option Term) → Now β → Before β
  fewer β (F, v, ((e, r), q)) = (F, v, (r, q))

  value_now : OpenHasType Σ [] Ψ Now [] V A
  value_now = OpenHasType-weaker Σ [] Ψ Before Now fewer [] V A typed

  moved : (cs : List Binding) → Unbound cs m → BindingsAreListed w.order cs → BindingsAreListed (bound m V w.order) cs
  moved [] u l = tt
  moved (b ∷ cs) (n, u) ((B, i), l) = ((B, member_bound m V w.order (record { of = b.of; of_type = B; value = Some b.value }) i n), moved cs u l)

  pub valued_form : IsWellFormed Σ valued_store
  valued_form = record {
    order = bound m V w.order;
    is_order = bound_ordered Σ Ψ Now m A V declared value_now (λ ρ. closed_term Σ Ψ Now [] ρ (λ i X x. absurd x) V A value_now) w.order (order_weaker Σ Ψ Before Now fewer w.order w.is_order) behind;
    all_listed = λ k B e. bound_listed m V w.order k (w.all_listed k B e);
    bindings_listed = (bound_here m V w.order (w.all_listed m A declared), moved bs free w.bindings_listed);
    values_bound = values_of_bound bs m V w.order w.values_bound;
    typed = record {
      declarations_typed = DeclarationsAreTyped-weaker Σ [] Ψ Before Now fewer w.typed.declarations_typed;
      bindings_typed = ((A, declared, value_now), BindingsAreTyped-weaker Σ [] Ψ Before Now fewer bs w.typed.bindings_typed);
      equations_typed = EquationsAreTyped-weaker Σ [] Ψ Before Now fewer es w.typed.equations_typed;
    };
  }

-- a listed value mentions only what stands behind its metavariable; so what stands behind another one is closed under values
module _ (Σ : Signature) (Ψ : ℕ → Option LfType) (U : (ℕ → Option Term) → Type 0) where
  value_listed : (is : List ListedMetavariable) → IsDependencyOrder Σ Ψ U is → (k : ℕ) (B : LfType) (N : Term) → Member (record { of = k; of_type = B; value = Some N }) is → MetavariablesIn (IsListed is) N
  value_listed [] o k B N i = absurd i
  value_listed (it ∷ is) o k B N (inr i) = in_weaker (IsListed is) (IsListed (it ∷ is)) (λ j l. inr l) N (value_listed is o.0 k B N i)
  value_listed (it ∷ is) o k B N (inl e) =
      let v : ValueIsOrdered Σ Ψ U is it.of_type (Some N) = subst (ValueIsOrdered Σ Ψ U is it.of_type) (sym (ap (λ x. x.value) e)) o.6 in
      in_weaker (IsListed is) (IsListed (it ∷ is)) (λ j l. inr l) N v.0

  value_behind : (g : ℕ) (is : List ListedMetavariable) → IsDependencyOrder Σ Ψ U is → (k : ℕ) (B : LfType) (N : Term) → IsBehind g is k → Member (record { of = k; of_type = B; value = Some N }) is → MetavariablesIn (IsBehind g is) N
  value_behind g [] o k B N b i = absurd b
  value_behind g (it ∷ is) o k B N (inl (e, l)) (inl q) = absurd (o.2 (subst (IsListed is) (ap (λ x. x.of) q) l))
  value_behind g (it ∷ is) o k B N (inr b) (inl q) = absurd (o.2 (subst (IsListed is) (ap (λ x. x.of) q) (behind_listed g is k b)))
  value_behind g (it ∷ is) o k B N (inl (e, l)) (inr i) = in_weaker (IsListed is) (IsBehind g (it ∷ is)) (λ j h. inl (e, h)) N (value_listed is o.0 k B N i)
  value_behind g (it ∷ is) o k B N (inr b) (inr i) = in_weaker (IsBehind g is) (IsBehind g (it ∷ is)) (λ j h. inr h) N (value_behind g is o.0 k B N b i)

module _ (Σ : Signature) (ok : IsSignature Σ) (s : Store) (m n : ℕ) (A A' : LfType) (declared : s.metavariables m ≡ Some A) (free : Unbound s.bindings m) (puts : PutsInType s.metavariables s.bindings 0 A A') (scoped : IsScoped s.metavariables n s.bindings s.equations) (w : IsWellFormed Σ s) where
  abbrev Ψ : ℕ → Option LfType
  Ψ = s.metavariables

  abbrev U : (ℕ → Option Term) → Type 0
  U = IsFilling Σ [] s

  listed : IsListed w.order m
  listed = w.all_listed m A declared

  new_in : MetavariablesInType (Declares s.metavariables) A'
  new_in = renewed_in Σ ok s m n A A' declared puts scoped

  bindings_typed : (b : Binding) → Member b s.bindings → (B : LfType) × (s.metavariables b.of ≡ Some B) × OpenHasType Σ [] s.metavariables (IsFilling Σ [] s) [] b.value B
  bindings_typed = typed_at Σ [] Ψ U s.bindings w.typed.bindings_typed

  old_typed : OpenIsType Σ [] s.metavariables (IsFilling Σ [] s) [] A
  old_typed = w.typed.declarations_typed.metavariables_typed m A declared

  new_typed : OpenIsType Σ [] s.metavariables (IsFilling Σ [] s) [] A'
  new_typed = put_type_typed Σ ok Ψ U w.typed.declarations_typed (fillings_half Σ [] s) s.bindings bindings_typed (λ β u. u.2.0) puts [] refl (λ i X g. absurd g) old_typed

  -- the new type mentions what stands behind m
  new_behind_old : TypeBehind m A' w.order
  new_behind_old = type_behind Σ Ψ U m A' w.order w.is_order (put_type_within puts (IsBehind m w.order)
      (λ b i l. let (B, j) = listed_binding w.order s.bindings w.bindings_listed b i in value_behind Σ Ψ U m w.order w.is_order b.of B b.value l j)
      (own_type_behind Σ Ψ U m A declared w.order w.is_order listed))

  abbrev Ψ₁ : ℕ → Option LfType
  Ψ₁ = set_at n (Some A') s.metavariables

  abbrev s₁ : Store
  s₁ = record { metavariables = set_at n (Some A') s.metavariables; bindings = s.bindings; equations = s.equations }

  abbrev U₁ : (ℕ → Option Term) → Type 0
  U₁ = IsFilling Σ [] s₁

  abbrev w₁ : IsWellFormed Σ s₁
  w₁ = declare_form Σ ok s n scoped A' new_in w new_typed m listed new_behind_old

  at_n : Ψ₁ n ≡ Some A'
  at_n = set_here n (Some A') Ψ

  at_m : Ψ₁ m ≡ Some A
  at_m = declare_grows Σ ok s n scoped A' new_in m A declared

  half₁ : (β : ℕ → Option Term) → U₁ β → (F : List LfType) × PartialInstance Σ [] Ψ₁ (λ k. ⊥) F β
  half₁ = fillings_half Σ [] s₁

  -- both types agree at each filling
  agree : TypesAgree Σ [] Ψ₁ U₁ [] A A'
  agree = (
    put_type_skeleton puts,
    λ β u.
        let same_fill : (X : LfType) → MetavariablesInType (Declares Ψ) X → fill_type (skeletons_of Ψ₁) β X ≡ fill_type (skeletons_of Ψ) (restrict Ψ β) X =
        λ X i. fill_agree_type (Declares Ψ) (skeletons_of Ψ₁) (skeletons_of Ψ) (same Σ ok s n scoped A' new_in) β (restrict Ψ β) X (kept_values Σ ok s n scoped A' new_in β) i in
        same_fill A (scoped.types m A declared)
        ∙ (types_agree Σ ok Ψ U w.typed.declarations_typed (fillings_half Σ [] s) s.bindings bindings_typed (λ β u. u.2.0) [] A A' old_typed puts).1 (restrict Ψ β) (restricted_fills Σ ok s n scoped A' new_in β u)
        ∙ sym (same_fill A' new_in),
  )

  abbrev V : Term
  V = eta_long (skeleton A) (metavariable n)

  value_typed : OpenHasType Σ [] Ψ₁ U₁ [] V A
  value_typed =
      let old : OpenIsType Σ [] Ψ₁ U₁ [] A = w₁.typed.declarations_typed.metavariables_typed m A at_m in
      let fresh : OpenIsType Σ [] Ψ₁ U₁ [] A' = w₁.typed.declarations_typed.metavariables_typed n A' at_n in
      convert Σ ok Ψ₁ U₁ (skeletons_U Σ ok [] Ψ₁ U₁ w₁.typed.declarations_typed half₁ [] tt) (λ D k B e. metavariables_skeletons Σ ok [] Ψ₁ U₁ w₁.typed.declarations_typed half₁ [] tt D k B e) [] (λ i X g. absurd g) V A A'
      (all_of Σ ok Ψ₁ U₁ w₁.typed.declarations_typed half₁ [] A old) (all_of Σ ok Ψ₁ U₁ w₁.typed.declarations_typed half₁ [] A' fresh) agree
      (expand_open Σ ok [] Ψ₁ U₁ (skeleton A) [] [] (metavariable n) nil A' A' (put_type_skeleton puts) (open_skeletons_type Σ (skeletons_of Ψ₁) ok Ψ₁ U₁ [] [] A' fresh) (A', at_n, refl) refl)

  -- THE theorem
  pub renew_keeps_form : IsWellFormed Σ (renewed_store s m A A' n)
  renew_keeps_form = valued_form Σ ok Ψ₁ s.bindings s.equations m A V at_m free w₁ value_typed
      (term_behind Σ Ψ₁ U₁ m V w₁.order w₁.is_order (in_expand (IsBehind m w₁.order) (skeleton A) (metavariable n) nil (new_behind m (record { of = n; of_type = A'; value = None }) w.order listed) tt))
