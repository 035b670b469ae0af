-- Unifiers, and what makes a store well formed, go along with new numbers for metavariables.
use Rattle.std.proofs.Common.{◌≡◌, ℕ, List, [], ◌∷◌, inl, inr, refl, sym, ap, ◌∙◌, subst}
use Rattle.std.specs.Prelude.{Option, Some, None}
use Rattle.std.specs.Option.{option_map}
use Rattle.lf.specs.SkeletonTyping.{TermSkeleton, TypeBySkeletons}
use Rattle.lf.specs.Skeletons.{context_skeletons, family_skeletons}
use Rattle.lf.specs.Subordination.{Member}
use Rattle.lf.specs.Syntax.{Term, LfType, Skeleton, skeleton}
use Rattle.lf.specs.Typing.{Signature, IsSignature, HasType}
use Rattle.lf_unification.specs.Dependency.{IsDependencyOrder, IsListed, ListedMetavariable, ValueIsOrdered}
use Rattle.lf_unification.specs.Filling.{fill_type}
use Rattle.lf_unification.specs.OpenTyping.{MetavariablesInType, ValueHasType, skeletons_of, under_locals}
use Rattle.lf_unification.specs.PartialInstance.{EquationsAreTyped, IsFilling, IsTypedStore, LocalBySkeletonsUpTo, PartialInstance, TypeBySkeletonsUpTo, ValueBySkeletons, ValueIsPlain}
use Rattle.lf_unification.specs.Patterns.{local_skeletons}
use Rattle.lf_unification.specs.Skeletons.{as_head_skeletons, total_skeletons}
use Rattle.lf_unification.specs.Solving.{BindingsAreListed, IsWellFormed, Never, ValuesAreBindings}
use Rattle.lf_unification.specs.Unifiers.{Binding, Equation, Respects, Solution, Solves, SolvesAll, Store, Unifies}
use Rattle.lf_coverage.specs.Renumbering.{Renumbering, undone, renumbered, renumbered_type, renumbered_locals, renumbered_equation, renumbered_equations, renumbered_binding, renumbered_bindings, renumbered_order, renumbered_types, renumbered_filling, renumbered_store}
use Rattle.lf_coverage.specs.RenumberingLaws.{NeverUnderNumbers, ReadyUnderNumbers}
use Rattle.lf_coverage.proofs.RenumberedBack.{declared_at, followed_filling, follows_renumbered, returned_store, returned_types, skeleton_at}
use Rattle.lf_coverage.proofs.RenumberedSyntax.{Follows, filled, filled_type, follows_locals, renamed, renamed_type, skeleton_renumbered}
use Rattle.lf_coverage.proofs.RenumberedSkeletons.{types_in}
use Rattle.lf_coverage.proofs.RenumberedTyping.{bindings_typed, context_same, declarations, declared_back, in_renumbered, in_renumbered_type, is_context, local_same, open_type, open_typed, term_skeleton, type_at_back, type_skeletons, typed}

pub member_of : {A B : Type 0} (g : A → B) (on : List A → List B) → ((x : A) (xs : List A) → on (x ∷ xs) ≡ g x ∷ on xs) → (x : A) (xs : List A) → Member x xs → Member (g x) (on xs)
member_of g on e x [] m = absurd m
member_of g on e x (y ∷ ys) (inl q) = subst (Member (g x)) (sym (e y ys)) (inl (ap g q))
member_of g on e x (y ∷ ys) (inr m) = subst (Member (g x)) (sym (e y ys)) (inr (member_of g on e x ys m))

module _ (π : Renumbering) where
  pub injective : (m n : ℕ) → π.to m ≡ π.to n → m ≡ n
  injective m n e = sym (π.back_to m) ∙ ap π.back e ∙ π.back_to n

  -- a filling that solves, and its form
  module _ (Ψ : ℕ → Option LfType) (β γ : ℕ → Option Term) (h : Follows π.to β γ) where
    pub solves : (e : Equation) → Solves (skeletons_of Ψ) β e → Solves (skeletons_of (renumbered_types π Ψ)) γ (renumbered_equation π.to e)
    solves e q =
        let k = follows_locals π.to e.local β γ h in
        sym (filled π.to (skeletons_of Ψ) (skeletons_of (renumbered_types π Ψ)) (skeleton_at π Ψ) (under_locals e.local β) (under_locals (renumbered_locals π.to e.local) γ) k e.left) ∙ ap (renumbered π.to) q ∙ filled π.to (skeletons_of Ψ) (skeletons_of (renumbered_types π Ψ)) (skeleton_at π Ψ) (under_locals e.local β) (under_locals (renumbered_locals π.to e.local) γ) k e.right

    solves_all : (es : List Equation) → SolvesAll (skeletons_of Ψ) β es → SolvesAll (skeletons_of (renumbered_types π Ψ)) γ (renumbered_equations π.to es)
    solves_all [] q = q
    solves_all (e ∷ es) (q, r) = (solves e q, solves_all es r)

    respects : (bs : List Binding) → Respects (skeletons_of Ψ) β bs → Respects (skeletons_of (renumbered_types π Ψ)) γ (renumbered_bindings π.to bs)
    respects [] q = q
    respects (b ∷ bs) (q, r) = (h b.of ∙ ap (option_map (renumbered π.to)) q ∙ ap Some (filled π.to (skeletons_of Ψ) (skeletons_of (renumbered_types π Ψ)) (skeleton_at π Ψ) β γ h b.value), respects bs r)

  unifies : (s : Store) (β : ℕ → Option Term) → Unifies s β → Unifies (renumbered_store π s) (renumbered_filling π β)
  unifies s β (r, q) = (respects s.metavariables β (renumbered_filling π β) (follows_renumbered π β) s.bindings r, solves_all s.metavariables β (renumbered_filling π β) (follows_renumbered π β) s.equations q)

  module _ (Σ : Signature) (ok : IsSignature Σ) where
    value_typed : (F : List LfType) (Ψ : ℕ → Option LfType) (β : ℕ → Option Term) (x : Option LfType) (y : Option Term) → ValueHasType Σ F (skeletons_of Ψ) β x y → ValueHasType Σ (renumbered_locals π.to F) (skeletons_of (renumbered_types π Ψ)) (renumbered_filling π β) (option_map (renumbered_type π.to) x) (option_map (renumbered π.to) y)
    value_typed F Ψ β None None v = v
    value_typed F Ψ β None (Some N) v = v
    value_typed F Ψ β (Some A) None v = v
    value_typed F Ψ β (Some A) (Some N) v = subst (HasType Σ (renumbered_locals π.to F) (renumbered π.to N)) (filled_type π.to (skeletons_of Ψ) (skeletons_of (renumbered_types π Ψ)) (skeleton_at π Ψ) β (renumbered_filling π β) (follows_renumbered π β) A) (typed π.to Σ ok F N (fill_type (skeletons_of Ψ) β A) v)

    -- a typed unifier
    pub solution : (s : Store) (F : List LfType) (β : ℕ → Option Term) → Solution Σ [] s F β → Solution Σ [] (renumbered_store π s) (renumbered_locals π.to F) (renumbered_filling π β)
    solution s F β (i, u) = (record { context = is_context π.to Σ ok F i.context; outer = λ k A h. absurd h; typed = λ m. value_typed F s.metavariables β (s.metavariables (π.back m)) (β (π.back m)) (i.typed (π.back m)) }, unifies s β u)

  -- what types and values are by skeletons
  module _ (Σ : Signature) (Ψ : ℕ → Option LfType) where
    type_has : (Γ Δ : List Skeleton) → Γ ≡ Δ → (A : LfType) → TypeBySkeletons (family_skeletons Σ) (as_head_skeletons (total_skeletons Σ (skeletons_of Ψ))) Γ A → TypeBySkeletons (family_skeletons Σ) (as_head_skeletons (total_skeletons Σ (skeletons_of (renumbered_types π Ψ)))) Δ (renumbered_type π.to A)
    type_has Γ Δ e A t = subst (λ X. TypeBySkeletons (family_skeletons Σ) (as_head_skeletons (total_skeletons Σ (skeletons_of (renumbered_types π Ψ)))) X (renumbered_type π.to A)) e (type_skeletons π.to (as_head_skeletons (total_skeletons Σ (skeletons_of Ψ))) (as_head_skeletons (total_skeletons Σ (skeletons_of (renumbered_types π Ψ)))) (λ c. refl) (λ m. ap Some (skeleton_at π Ψ m)) (family_skeletons Σ) Γ A t)

    term_has : (Γ Δ : List Skeleton) → Γ ≡ Δ → (N : Term) (a b : Skeleton) → a ≡ b → TermSkeleton (as_head_skeletons (total_skeletons Σ (skeletons_of Ψ))) Γ N a → TermSkeleton (as_head_skeletons (total_skeletons Σ (skeletons_of (renumbered_types π Ψ)))) Δ (renumbered π.to N) b
    term_has Γ Δ e N a b q t = subst (λ X. TermSkeleton (as_head_skeletons (total_skeletons Σ (skeletons_of (renumbered_types π Ψ)))) X (renumbered π.to N) b) e (subst (TermSkeleton (as_head_skeletons (total_skeletons Σ (skeletons_of (renumbered_types π Ψ)))) Γ (renumbered π.to N)) q (term_skeleton π.to (as_head_skeletons (total_skeletons Σ (skeletons_of Ψ))) (as_head_skeletons (total_skeletons Σ (skeletons_of (renumbered_types π Ψ)))) (λ c. refl) (λ m. ap Some (skeleton_at π Ψ m)) Γ N a t))

    value_has : (F : List LfType) (x : Option LfType) (y : Option Term) → ValueBySkeletons Σ F (skeletons_of Ψ) x y → ValueBySkeletons Σ (renumbered_locals π.to F) (skeletons_of (renumbered_types π Ψ)) (option_map (renumbered_type π.to) x) (option_map (renumbered π.to) y)
    value_has F None None v = v
    value_has F None (Some N) v = v
    value_has F (Some A) None v = v
    value_has F (Some A) (Some N) v = term_has (context_skeletons F) (context_skeletons (renumbered_locals π.to F)) (sym (context_same π.to F)) N (skeleton A) (skeleton (renumbered_type π.to A)) (sym (skeleton_renumbered π.to A)) v

    plain_value : (y : Option Term) → ValueIsPlain y → ValueIsPlain (option_map (renumbered π.to) y)
    plain_value None v = v
    plain_value (Some N) v = in_renumbered (λ m. ⊥) (λ m. ⊥) π.to (λ m x. x) N v

    pub partial : (F : List LfType) (β : ℕ → Option Term) → PartialInstance Σ [] Ψ (λ m. ⊥) F β → PartialInstance Σ [] (renumbered_types π Ψ) (λ m. ⊥) (renumbered_locals π.to F) (renumbered_filling π β)
    partial F β p = record {
      context = λ i A h. let (B, k, e) = type_at_back π.to F i A h in subst (TypeBySkeletons (family_skeletons Σ) (as_head_skeletons (total_skeletons Σ (skeletons_of (renumbered_types π Ψ)))) (context_skeletons (renumbered_locals π.to F))) e (type_has (context_skeletons F) (context_skeletons (renumbered_locals π.to F)) (sym (context_same π.to F)) B (p.context i B k));
      outer = λ i A h. absurd h;
      by_skeletons = λ m. value_has F (Ψ (π.back m)) (β (π.back m)) (p.by_skeletons (π.back m));
      typed = λ m v. absurd v;
      plain_context = λ i A h. let (B, k, e) = type_at_back π.to F i A h in subst (MetavariablesInType (λ m. ⊥)) e (in_renumbered_type (λ m. ⊥) (λ m. ⊥) π.to (λ m x. x) B (p.plain_context i B k));
      plain_values = λ m. plain_value (β (π.back m)) (p.plain_values (π.back m));
    }

  pub filling : (Σ : Signature) (s : Store) (β : ℕ → Option Term) → IsFilling Σ [] s β → IsFilling Σ [] (renumbered_store π s) (renumbered_filling π β)
  filling Σ s β (F, p, u) = (renumbered_locals π.to F, partial Σ s.metavariables F β p, unifies s β u)

-- and the other way
module _ (π : Renumbering) where
  partial_back : (Σ : Signature) (Ψ : ℕ → Option LfType) (F : List LfType) (γ : ℕ → Option Term) → PartialInstance Σ [] (renumbered_types π Ψ) (λ m. ⊥) F γ → PartialInstance Σ [] Ψ (λ m. ⊥) (renumbered_locals π.back F) (renumbered_filling (undone π) γ)
  partial_back Σ Ψ F γ p = subst (λ Φ. PartialInstance Σ [] Φ (λ m. ⊥) (renumbered_locals π.back F) (renumbered_filling (undone π) γ)) (returned_types π Ψ) (partial (undone π) Σ (renumbered_types π Ψ) F γ p)

  filling_back : (Σ : Signature) (s : Store) (γ : ℕ → Option Term) → IsFilling Σ [] (renumbered_store π s) γ → IsFilling Σ [] s (renumbered_filling (undone π) γ)
  filling_back Σ s γ i = subst (λ t. IsFilling Σ [] t (renumbered_filling (undone π) γ)) (returned_store π s) (filling (undone π) Σ (renumbered_store π s) γ i)

  pub follow : (Σ : Signature) (s : Store) (γ : ℕ → Option Term) → IsFilling Σ [] (renumbered_store π s) γ → (β : ℕ → Option Term) × IsFilling Σ [] s β × Follows π.to β γ
  follow Σ s γ i = (renumbered_filling (undone π) γ, filling_back Σ s γ i, followed_filling π γ)

-- what has no typed unifier
never_under : (Σ : Signature) → IsSignature Σ → (π : Renumbering) (s : Store) → Never Σ [] s → Never Σ [] (renumbered_store π s)
never_under Σ ok π s never F γ i = never (renumbered_locals π.back F) (renumbered_filling (undone π) γ) (subst (λ t. Solution Σ [] t (renumbered_locals π.back F) (renumbered_filling (undone π) γ)) (returned_store π s) (solution (undone π) Σ ok (renumbered_store π s) F γ i))

pub never_under_numbers : NeverUnderNumbers
never_under_numbers Σ ok π s = (never_under Σ ok π s, λ n. subst (Never Σ []) (returned_store π s) (never_under Σ ok (undone π) (renumbered_store π s) n))

-- a typed store
module _ (Σ : Signature) (ok : IsSignature Σ) (π : Renumbering) (s : Store) where
  abbrev Ψ : ℕ → Option LfType
  Ψ = s.metavariables

  abbrev U : (ℕ → Option Term) → Type 0
  U = IsFilling Σ [] s

  abbrev V : (ℕ → Option Term) → Type 0
  V = IsFilling Σ [] (renumbered_store π s)

  type_up_to : (D : List LfType) (A : LfType) → TypeBySkeletonsUpTo Σ [] Ψ U D A → TypeBySkeletonsUpTo Σ [] (renumbered_types π Ψ) V (renumbered_locals π.to D) (renumbered_type π.to A)
  type_up_to D A h F γ p v = type_has π Σ Ψ (local_skeletons D (context_skeletons (renumbered_locals π.back F))) (local_skeletons (renumbered_locals π.to D) (context_skeletons F)) (ap (local_skeletons D) (context_same π.back F) ∙ sym (local_same π.to D (context_skeletons F))) A (h (renumbered_locals π.back F) (renumbered_filling (undone π) γ) (partial_back π Σ Ψ F γ p) (filling_back π Σ s γ v))

  local_up_to : (D : List LfType) → LocalBySkeletonsUpTo Σ [] Ψ U D → LocalBySkeletonsUpTo Σ [] (renumbered_types π Ψ) V (renumbered_locals π.to D)
  local_up_to [] h = h
  local_up_to (A ∷ D) (h, t) = (local_up_to D h, type_up_to D A t)

  equations_typed : (es : List Equation) → EquationsAreTyped Σ [] Ψ U es → EquationsAreTyped Σ [] (renumbered_types π Ψ) V (renumbered_equations π.to es)
  equations_typed [] t = t
  equations_typed (e ∷ es) (t, r) = (
    record {
      local_typed = local_up_to e.local t.local_typed;
      type_typed = type_up_to e.local e.of_type t.type_typed;
      left_typed = open_typed Σ ok π Ψ U V (follow π Σ s) e.local e.left e.of_type t.left_typed;
      right_typed = open_typed Σ ok π Ψ U V (follow π Σ s) e.local e.right e.of_type t.right_typed;
    },
    equations_typed es r,
  )

  typed_store : IsTypedStore Σ [] s → IsTypedStore Σ [] (renumbered_store π s)
  typed_store t = record {
    declarations_typed = declarations Σ ok π Ψ U V (follow π Σ s) t.declarations_typed;
    bindings_typed = bindings_typed Σ ok π Ψ U V (follow π Σ s) s.bindings t.bindings_typed;
    equations_typed = equations_typed s.equations t.equations_typed;
  }

  -- its order of dependency
  pub listed : (is : List ListedMetavariable) (m : ℕ) → IsListed is m → IsListed (renumbered_order π.to is) (π.to m)
  listed [] m h = h
  listed (it ∷ is) m (inl e) = inl (ap π.to e)
  listed (it ∷ is) m (inr h) = inr (listed is m h)

  listed_back : (is : List ListedMetavariable) (m : ℕ) → IsListed (renumbered_order π.to is) (π.to m) → IsListed is m
  listed_back [] m h = h
  listed_back (it ∷ is) m (inl e) = inl (injective π m it.of e)
  listed_back (it ∷ is) m (inr h) = inr (listed_back is m h)

  value_ordered : (is : List ListedMetavariable) (A : LfType) (x : Option Term) → ValueIsOrdered Σ Ψ U is A x → ValueIsOrdered Σ (renumbered_types π Ψ) V (renumbered_order π.to is) (renumbered_type π.to A) (option_map (renumbered π.to) x)
  value_ordered is A None v = v
  value_ordered is A (Some N) (i, t, c) = (in_renumbered (IsListed is) (IsListed (renumbered_order π.to is)) π.to (listed is) N i, open_typed Σ ok π Ψ U V (follow π Σ s) [] N A t, λ ρ. sym (renamed π.to ρ N) ∙ ap (renumbered π.to) (c ρ))

  ordered : (is : List ListedMetavariable) → IsDependencyOrder Σ Ψ U is → IsDependencyOrder Σ (renumbered_types π Ψ) V (renumbered_order π.to is)
  ordered [] o = o
  ordered (it ∷ is) (o, e, n, i, t, c, v) = (
    ordered is o,
    declared_at π Ψ it.of it.of_type e,
    (λ h. n (listed_back is it.of h)),
    in_renumbered_type (IsListed is) (IsListed (renumbered_order π.to is)) π.to (listed is) it.of_type i,
    open_type Σ ok π Ψ U V (follow π Σ s) [] it.of_type t,
    (λ ρ. sym (renamed_type π.to ρ it.of_type) ∙ ap (renumbered_type π.to) (c ρ)),
    value_ordered is it.of_type it.value v,
  )

  all_in : (bs : List Binding) (is : List ListedMetavariable) → BindingsAreListed is bs → BindingsAreListed (renumbered_order π.to is) (renumbered_bindings π.to bs)
  all_in [] is h = h
  all_in (b ∷ bs) is ((A, m), h) = ((renumbered_type π.to A, member_of (λ it. record { of = π.to it.of; of_type = renumbered_type π.to it.of_type; value = option_map (renumbered π.to) it.value }) (renumbered_order π.to) (λ x xs. refl) (record { of = b.of; of_type = A; value = Some b.value }) is m), all_in bs is h)

  bound_value : (bs : List Binding) (m : ℕ) (x : Option Term) → ((N : Term) → x ≡ Some N → Member (record { of = m; value = N }) bs) → (N : Term) → option_map (renumbered π.to) x ≡ Some N → Member (record { of = π.to m; value = N }) (renumbered_bindings π.to bs)
  bound_value bs m None h N e = absurd cc
  bound_value bs m (Some M) h N e =
      let q : renumbered π.to M ≡ N = cc in
      subst (λ X. Member (record { of = π.to m; value = X }) (renumbered_bindings π.to bs)) q (member_of (renumbered_binding π.to) (renumbered_bindings π.to) (λ x xs. refl) (record { of = m; value = M }) bs (h M refl))

  values_in : (bs : List Binding) (is : List ListedMetavariable) → ValuesAreBindings bs is → ValuesAreBindings (renumbered_bindings π.to bs) (renumbered_order π.to is)
  values_in bs [] h = h
  values_in bs (it ∷ is) (h, k) = (bound_value bs it.of it.value h, values_in bs is k)

  pub well_formed : IsWellFormed Σ s → IsWellFormed Σ (renumbered_store π s)
  well_formed w = record {
    order = renumbered_order π.to w.order;
    is_order = ordered w.order w.is_order;
    all_listed = λ m A e. let (B, q, r) = declared_back π Ψ m A e in subst (IsListed (renumbered_order π.to w.order)) (π.to_back m) (listed w.order (π.back m) (w.all_listed (π.back m) B q));
    bindings_listed = all_in s.bindings w.order w.bindings_listed;
    values_bound = values_in s.bindings w.order w.values_bound;
    typed = typed_store w.typed;
  }

  pub order_same : (w : IsWellFormed Σ s) → (well_formed w).order ≡ renumbered_order π.to w.order
  unfolding well_formed
  order_same w = refl

pub ready_under_numbers : ReadyUnderNumbers
ready_under_numbers Σ ok π s = (well_formed Σ ok π s, types_in Σ π s.metavariables s.equations)
