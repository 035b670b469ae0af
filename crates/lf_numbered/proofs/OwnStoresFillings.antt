-- After a run from a store on own terms each typed unifier that gives what is unbound terms on own terms gives all such terms, and types on own terms.
use Rattle.std.proofs.Common.{◌≡◌, ℕ, List, [], ◌∷◌, Option, Some, None, ◌⊎◌, inl, inr, refl, sym, ap, ◌∙◌, subst}
use Rattle.lf.specs.Skeletons.{context_skeletons}
use Rattle.lf.specs.SkeletonTyping.{TermSkeleton}
use Rattle.lf.specs.Subordination.{Member}
use Rattle.lf.specs.Syntax.{Spine, Term, LfType, Skeleton}
use Rattle.lf.specs.Typing.{IsSignature, Signature}
use Rattle.lf_unification.specs.Dependency.{IsDependencyOrder, IsListed, ListedMetavariable, ValueIsOrdered}
use Rattle.lf_unification.specs.Filling.{fill, fill_type}
use Rattle.lf_unification.specs.OpenTyping.{ValueHasType, skeletons_of}
use Rattle.lf_unification.specs.PartialInstance.{IsFilling}
use Rattle.lf_unification.specs.Putting.{Unbound}
use Rattle.lf_unification.specs.Skeletons.{as_head_skeletons, skeleton_or_default, total_skeletons}
use Rattle.lf_unification.specs.Solving.{IsWellFormed}
use Rattle.lf_unification.specs.Steps.{Run}
use Rattle.lf_unification.specs.Unifiers.{Binding, Solution, Store}
use Rattle.lf_unification.proofs.Filling.{SkeletonsFill}
use Rattle.lf_unification.proofs.Generic.{open_skeletons, ordered_at}
use Rattle.lf_unification.proofs.Offer.{decide}
use Rattle.lf_unification.proofs.OpenSound.{PartialInstance-of, skeletons_under}
use Rattle.lf_unification.proofs.Putting.{respects_at, typed_at}
use Rattle.lf_unification.proofs.Solving.{binding_of, listed_binding, listed_once}
use Rattle.lf_numbered.specs.OwnTerms.{OnOwnTerms, TypeOnOwnTerms}
use Rattle.lf_numbered.proofs.OwnStoresRuns.{Before, run_owned}
use Rattle.lf_numbered.proofs.OwnStoresSteps.{StoreOwned}
use Rattle.lf_numbered.proofs.OwnStoresTerms.{ValueOnOwnTerms, own_filled, type_filled}

-- what is not bound, or is bound
bound_or_not : (bs : List Binding) (m : ℕ) → Unbound bs m ⊎ ((b : Binding) × Member b bs × (m ≡ b.of))
bound_or_not [] m = inl tt
bound_or_not (b ∷ bs) m = go (decide m b.of) (bound_or_not bs m)
  where
    go : (m ≡ b.of) ⊎ (m ≡ b.of → ⊥) → Unbound bs m ⊎ ((c : Binding) × Member c bs × (m ≡ c.of)) → Unbound (b ∷ bs) m ⊎ ((c : Binding) × Member c (b ∷ bs) × (m ≡ c.of))
    go (inl e) r = inr (b, inl refl, e)
    go (inr n) (inl u) = inl (n, u)
    go (inr n) (inr (c, i, e)) = inr (c, inr i, e)

module _ (Σ : Signature) (ok : IsSignature Σ) (before after : Store) (form : IsWellFormed Σ before) (run : Run Σ before after) (w : IsWellFormed Σ after) (F : List LfType) (β : ℕ → Option Term) (u : Solution Σ [] after F β) (o : ℕ → Option Spine) (h : StoreOwned (skeletons_of after.metavariables) o β before) where
  abbrev Ψ : ℕ → Option LfType
  Ψ = after.metavariables

  abbrev μ : ℕ → Skeleton
  μ = skeletons_of after.metavariables

  abbrev U : (ℕ → Option Term) → Type 0
  U = IsFilling Σ [] after

  by_skeletons : SkeletonsFill (total_skeletons Σ (skeletons_of after.metavariables)) (context_skeletons F) β
  by_skeletons = skeletons_under Σ ok [] Ψ U (λ k. ⊥) F β (PartialInstance-of Σ ok [] Ψ (λ k. ⊥) F β u.0) []

  at_end : Before Σ ok Ψ o β (context_skeletons F) by_skeletons after
  at_end = record {
    grows = λ m A e. e;
    respected = λ b i. respects_at μ β after.bindings u.1.0 b i;
    skeletons = λ b i. let (A, e, t) = typed_at Σ [] Ψ U after.bindings w.typed.bindings_typed b i in subst (TermSkeleton (as_head_skeletons (total_skeletons Σ (skeletons_of after.metavariables))) (context_skeletons F) b.value) (sym (ap skeleton_or_default e)) (open_skeletons Σ μ ok Ψ U [] (context_skeletons F) b.value A t);
    declared = λ b i. let (A, e, t) = typed_at Σ [] Ψ U after.bindings w.typed.bindings_typed b i in (A, e);
  }

  owned : StoreOwned (skeletons_of after.metavariables) o β after
  owned = run_owned Σ ok Ψ o β (context_skeletons F) by_skeletons form run at_end h

  module _ (free : (m : ℕ) → Unbound after.bindings m → ValueOnOwnTerms o (β m)) where
    bound : (x : Option Term) (V : Term) → x ≡ Some V → OnOwnTerms o V → ValueOnOwnTerms o x
    bound x V e v = subst (ValueOnOwnTerms o) (sym e) v

    at_item : (it : ListedMetavariable) → Member it w.order → (is : List ListedMetavariable) (x : Option Term) → it.value ≡ x → ValueIsOrdered Σ Ψ U is it.of_type x → ((m : ℕ) → IsListed is m → ValueOnOwnTerms o (β m)) → Unbound after.bindings it.of ⊎ ((b : Binding) × Member b after.bindings × (it.of ≡ b.of)) → ValueOnOwnTerms o (β it.of)
    at_item it i is (Some N) q (v, t, c) k r =
        let j : Member (record { of = it.of; value = N }) after.bindings = binding_of after.bindings w.order w.values_bound it i N q in
        bound (β it.of) (fill μ β N) (respects_at μ β after.bindings u.1.0 (record { of = it.of; value = N }) j) (own_filled μ (IsListed is) o β N k v (owned.bindings (record { of = it.of; value = N }) j))
    at_item it i is None q v k (inl n) = free it.of n
    at_item it i is None q v k (inr (b, j, e)) =
        let (A, l) = listed_binding w.order after.bindings w.bindings_listed b j in
        let same : it ≡ record { of = b.of; of_type = A; value = Some b.value } = listed_once Σ Ψ U w.order w.is_order it (record { of = b.of; of_type = A; value = Some b.value }) i l e in
        (let r : None ≡ Some b.value = sym q ∙ ap (λ y. y.value) same in cc)

    each_value : (is : List ListedMetavariable) → IsDependencyOrder Σ Ψ U is → ((it : ListedMetavariable) → Member it is → Member it w.order) → (m : ℕ) → IsListed is m → ValueOnOwnTerms o (β m)
    each_value [] d i m l = absurd l
    each_value (it ∷ is) d i m (inr l) = each_value is d.0 (λ x j. i x (inr j)) m l
    each_value (it ∷ is) d i m (inl e) = subst (λ k. ValueOnOwnTerms o (β k)) (sym e) (at_item it (i it (inl refl)) is it.value refl d.6 (each_value is d.0 (λ x j. i x (inr j))) (bound_or_not after.bindings it.of))

    listed_own : (m : ℕ) → IsListed w.order m → ValueOnOwnTerms o (β m)
    listed_own = each_value w.order w.is_order (λ it i. i)

    -- THE lemma: all values
    pub values_own : (m : ℕ) → ValueOnOwnTerms o (β m)
    values_own m = by (Ψ m) (β m) refl refl (u.0.typed m)
      where
        by : (y : Option LfType) (z : Option Term) → Ψ m ≡ y → β m ≡ z → ValueHasType Σ F μ β y z → ValueOnOwnTerms o (β m)
        by None None e q v = subst (ValueOnOwnTerms o) (sym q) tt
        by None (Some N) e q v = absurd v
        by (Some A) z e q v = listed_own m (w.all_listed m A e)

    -- and all types
    pub types_own : (m : ℕ) (A : LfType) → after.metavariables m ≡ Some A → TypeOnOwnTerms o (fill_type (skeletons_of after.metavariables) β A)
    types_own m A e =
        let (B, d, v, t, c) = ordered_at Σ μ ok Ψ U w.order w.is_order m (w.all_listed m A e) in
        let same : B ≡ A = (let z : Some B ≡ Some A = sym d ∙ e in cc) in
        subst (λ Y. TypeOnOwnTerms o (fill_type μ β Y)) same (type_filled μ (IsListed w.order) o β B (λ k l. values_own k) v (owned.types m B d))
