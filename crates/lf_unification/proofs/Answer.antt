-- THE theorem on answers: a solved store whose metavariables have an order of dependency has a typed answer, in which each unbound
-- metavariable is a variable of the context.
use Rattle.std.proofs.Common.{◌≡◌, ℕ, List, [], ◌∷◌, Option, Some, None, ◌⊎◌, inl, inr, refl, sym, ap, ◌∙◌, subst}
use Rattle.lf.specs.Skeletons.{context_skeletons}
use Rattle.lf.specs.Syntax.{Skeleton, Term, LfType, skeleton}
use Rattle.lf.specs.Typing.{HasType, IsContext, IsSignature, IsType, Signature}
use Rattle.lf_unification.specs.Filling.{fill, fill_type}
use Rattle.lf_unification.specs.PartialInstance.{IsFilling, PartialInstance, ValueBySkeletons, IsTypedStore}
use Rattle.lf_unification.specs.OpenTyping.{DeclarationsAreTyped, ValueHasType, skeletons_of}
use Rattle.lf_unification.specs.Dependency.{ListedMetavariable, IsListed, IsDependencyOrder, free_context, values}
use Rattle.lf_unification.specs.Patterns.{eta_variable}
use Rattle.lf_unification.specs.Solving.{BindingsAreListed}
use Rattle.lf_unification.specs.Skeletons.{total_skeletons, skeleton_or_default}
use Rattle.lf.specs.Subordination.{Member}
use Rattle.lf_unification.specs.Unifiers.{Binding, Respects, Solution, SolvesAll, Store}
use Rattle.lf_unification.proofs.EtaTyped.{eta_typed}
use Rattle.lf_unification.proofs.Filling.{ValueHasSkeleton, skeleton_fill}
use Rattle.lf_unification.proofs.Generic.{Fact, Facts, Stage, ordered_at, stage}
use Rattle.lf_unification.proofs.OpenTypes.{OpenIsType-sound}
use Rattle.lf_unification.proofs.PlainAnswer.{plain}
use Rattle.lf_unification.proofs.Scope.{in_weaker_type}
use Rattle.lf_unification.proofs.Typed.{Known, values_typed}
use Rattle.lf_unification.proofs.RenamingBack.{is_context}

-- (U is the bindings' unifiers, or the store's fillings)
module _ (Σ : Signature) (ok : IsSignature Σ) (Ψ : ℕ → Option LfType) (bs : List Binding) (U : (ℕ → Option Term) → Type 0) (enough : (F : List LfType) (β : ℕ → Option Term) → PartialInstance Σ [] Ψ (λ m. ⊥) F β → Respects (skeletons_of Ψ) β bs → U β) where
  abbrev μ : ℕ → Skeleton
  μ = skeletons_of Ψ

  -- what is listed without a value
  abbrev Free : List ListedMetavariable → ℕ → Type 0
  Free is m = (A : LfType) × (Ψ m ≡ Some A) × Member (record { of = m; of_type = A; value = None }) is

  module _ (is : List ListedMetavariable) (order : IsDependencyOrder Σ Ψ U is) (all : (m : ℕ) (A : LfType) → Ψ m ≡ Some A → IsListed is m) (covered : BindingsAreListed is bs) (declarations_typed : DeclarationsAreTyped Σ [] Ψ U) where
    abbrev F : List LfType
    F = free_context μ is

    abbrev β : ℕ → Option Term
    β = values μ is

    w : Stage Σ μ ok Ψ U is
    w = stage Σ μ ok Ψ U is order

    fact : (js : List ListedMetavariable) → Facts Σ μ ok Ψ U F β js → (it : ListedMetavariable) → Member it js → Fact Σ μ ok Ψ U F β it.of it.of_type it.value
    fact [] f it i = absurd i
    fact (j ∷ js) (f, fs) it (inl e) = subst (λ k. Fact Σ μ ok Ψ U F β k.of k.of_type k.value) (sym e) f
    fact (j ∷ js) (f, fs) it (inr i) = fact js fs it i

    valued : (js : List ListedMetavariable) → Facts Σ μ ok Ψ U F β js → (m : ℕ) → IsListed js m → (V : Term) × (β m ≡ Some V)
    valued [] f m l = absurd l
    valued (j ∷ js) (f, fs) m (inr l) = valued js fs m l
    valued (j ∷ js) (f, fs) m (inl e) = go j.value f
      where
        go : (x : Option Term) → Fact Σ μ ok Ψ U F β j.of j.of_type x → (V : Term) × (β m ≡ Some V)
        go None (x, q, g) = (eta_variable (skeleton j.of_type) x, ap β e ∙ q)
        go (Some N) q = (fill μ β N, ap β e ∙ q)

    ordered_item : (js : List ListedMetavariable) → IsDependencyOrder Σ Ψ U js → (it : ListedMetavariable) → Member it js → Ψ it.of ≡ Some it.of_type
    ordered_item [] o it i = absurd i
    ordered_item (j ∷ js) o it (inl e) = subst (λ (k : ListedMetavariable). Ψ k.of ≡ Some k.of_type) (sym e) o.1
    ordered_item (j ∷ js) o it (inr i) = ordered_item js o.0 it i

    respects : (cs : List Binding) → BindingsAreListed is cs → Respects μ β cs
    respects [] c = tt
    respects (b ∷ cs) ((A, i), c) = (fact is w.facts (record { of = b.of; of_type = A; value = Some b.value }) i, respects cs c)

    not_listed : (m : ℕ) → Ψ m ≡ None → IsListed is m → ⊥
    not_listed m e l = let r = ordered_at Σ μ ok Ψ U is order m l in no (sym r.1 ∙ e)
      where
        no : {A : LfType} → Some A ≡ None → ⊥
        no e = cc

    skeletons_at : (m : ℕ) → ValueBySkeletons Σ F μ (Ψ m) (β m)
    skeletons_at m = go (Ψ m) (β m) refl refl (w.by_skeletons m)
      where
        go : (x : Option LfType) (y : Option Term) → Ψ m ≡ x → β m ≡ y → ValueHasSkeleton (total_skeletons Σ μ) (context_skeletons F) y (skeleton_or_default x) → ValueBySkeletons Σ F μ x y
        go None None e f s = tt
        go None (Some N) e f s = (let p : None ≡ Some N = sym (w.none m (not_listed m e)) ∙ f in cc)
        go (Some A) (Some N) e f s = s
        go (Some A) None e f s = let (V, q) = valued is w.facts m (all m A e) in (let p : Some V ≡ None = sym q ∙ f in cc)

    free_typed : (m : ℕ) → Free is m → ValueHasType Σ F μ β (Ψ m) (β m)
    free_typed m (A, d, i) =
        let (x, e, g) = fact is w.facts (record { of = m; of_type = A; value = None }) i in
        put A x (Ψ m) (β m) d e (subst (λ a. HasType Σ F (eta_variable a x) (fill_type μ β A)) (skeleton_fill μ β A) (eta_typed Σ μ ok F x (fill_type μ β A) (w.context x (fill_type μ β A) g) g))
      where
        put : (A : LfType) (x : ℕ) (y : Option LfType) (z : Option Term) → y ≡ Some A → z ≡ Some (eta_variable (skeleton A) x) → HasType Σ F (eta_variable (skeleton A) x) (fill_type μ β A) → ValueHasType Σ F μ β y z
        put A x y z d e h = subst (λ y. ValueHasType Σ F μ β y z) (sym d) (subst (ValueHasType Σ F μ β (Some A)) (sym e) h)

    fills : U β
    fills = enough F β (record { context = w.context; outer = λ i A g. absurd g; by_skeletons = skeletons_at; typed = λ m v. absurd v; plain_context = (plain Σ Ψ U μ is order).context; plain_values = (plain Σ Ψ U μ is order).all }) (respects bs covered)

    half : PartialInstance Σ [] Ψ (Free is) F β
    half = record { context = w.context; outer = λ i A g. absurd g; by_skeletons = skeletons_at; typed = free_typed; plain_context = (plain Σ Ψ U μ is order).context; plain_values = (plain Σ Ψ U μ is order).all }

    full : PartialInstance Σ [] Ψ (λ m. Free is m ⊎ IsListed is m) F β
    full = values_typed Σ ok Ψ U declarations_typed F β fills (Free is) is half order known
      where
        known : (it : ListedMetavariable) → Member it is → Known Σ ok Ψ U declarations_typed F β fills (Free is) it
        known it i = go it.value refl
          where
            go : (x : Option Term) → it.value ≡ x → Known Σ ok Ψ U declarations_typed F β fills (Free is) it
            go None q = let j : Member (record { of = it.of; of_type = it.of_type; value = None }) is = subst (λ x. let y : ListedMetavariable = record { of = it.of; of_type = it.of_type; value = x } in Member y is) q i in
                let r = ordered_item is order it i in inl (it.of_type, r, j)
            go (Some N) q = inr (N, q, fact is w.facts (record { of = it.of; of_type = it.of_type; value = Some N }) (subst (λ x. let y : ListedMetavariable = record { of = it.of; of_type = it.of_type; value = x } in Member y is) q i))

    context : IsContext Σ F
    context = is_context Σ ok F (λ i X g.
        let (m, A, l, d, q) = w.entries i X g in
        let (A', d', j, t, c) = ordered_at Σ μ ok Ψ U is order m l in
        let s : A' ≡ A = (let z : Some A' ≡ Some A = sym d' ∙ d in cc) in
        subst (IsType Σ F) (ap (fill_type μ β) s ∙ sym q) (OpenIsType-sound Σ ok [] Ψ U (λ m. Free is m ⊎ IsListed is m) F β full declarations_typed fills [] A' tt (in_weaker_type (IsListed is) (λ m. Free is m ⊎ IsListed is m) (λ m l. inr l) A' j) t))

    typed : (m : ℕ) → ValueHasType Σ F μ β (Ψ m) (β m)
    typed m = go (Ψ m) (β m) refl refl
      where
        go : (x : Option LfType) (y : Option Term) → Ψ m ≡ x → β m ≡ y → ValueHasType Σ F μ β x y
        go None None e f = tt
        go None (Some N) e f = (let p : None ≡ Some N = sym (w.none m (not_listed m e)) ∙ f in cc)
        go (Some A) y e f = subst (ValueHasType Σ F μ β (Some A)) f (subst (λ x. ValueHasType Σ F μ β x (β m)) e (full.typed m (inr (all m A e))))

    pub answer : Solution Σ [] (record { metavariables = Ψ; bindings = bs; equations = [] }) F β
    answer = (record { context = context; outer = λ i A g. absurd g; typed = typed }, (respects bs covered, tt))

-- THE theorem on a leaf: a solved store that is typed up to its own fillings, with an order of its metavariables
pub answer_of : (Σ : Signature) (ok : IsSignature Σ) (s : Store) → s.equations ≡ [] → (is : List ListedMetavariable) → IsDependencyOrder Σ s.metavariables (IsFilling Σ [] s) is → ((m : ℕ) (A : LfType) → s.metavariables m ≡ Some A → IsListed is m) → BindingsAreListed is s.bindings →
    IsTypedStore Σ [] s →
    Solution Σ [] s (free_context (skeletons_of s.metavariables) is) (values (skeletons_of s.metavariables) is)
answer_of Σ ok s e is order all covered w =
    let r : Solution Σ [] (record { metavariables = s.metavariables; bindings = s.bindings; equations = [] }) (free_context (skeletons_of s.metavariables) is) (values (skeletons_of s.metavariables) is)
    = answer Σ ok s.metavariables s.bindings (IsFilling Σ [] s) (λ F β h q. (F, h, (q, subst (SolvesAll (skeletons_of s.metavariables) β) (sym e) tt))) is order all covered w.declarations_typed in
    (r.0, (r.1.0, subst (SolvesAll (skeletons_of s.metavariables) (values (skeletons_of s.metavariables) is)) (sym e) tt))
