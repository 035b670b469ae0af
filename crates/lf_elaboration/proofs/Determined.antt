-- A typed unifier of a solved store is determined by its terms for the metavariables that solving began with.
use Rattle.std.proofs.Common.{◌≡◌, ℕ, zero, suc, List, [], ◌∷◌, Option, Some, None, ◌⊎◌, inl, inr, refl, sym, ap, ◌∙◌, subst, arith}
use Rattle.lf.specs.Eta.{eta_long}
use Rattle.lf.specs.SkeletonTyping.{TermSkeleton}
use Rattle.lf.specs.Skeletons.{context_skeletons}
use Rattle.lf.specs.Subordination.{Member}
use Rattle.lf.specs.Syntax.{LfType, Skeleton, Term, atom, metavariable, nil, root, skeleton, variable}
use Rattle.lf.specs.Typing.{Signature, TypeAt}
use Rattle.lf.proofs.Eta.{rename_eta_expand}
use Rattle.lf.proofs.TypeLaws.{skeleton_renamed}
use Rattle.lf_unification.specs.Dependency.{IsDependencyOrder, IsListed, ListedMetavariable, add_free, free_context, values}
use Rattle.lf_unification.specs.Filling.{fill, fill_type, moved, rename_value}
use Rattle.lf_unification.specs.Offering.{pi_over}
use Rattle.lf_unification.specs.OpenTyping.{IsInstance, ValueHasType, set_at, skeletons_of}
use Rattle.lf_unification.specs.Patterns.{Injective, PatternFits, context_under, eta_variable, lambdas_of, past, pattern, pattern_renaming}
use Rattle.lf_unification.specs.PartialInstance.{IsFilling}
use Rattle.lf_unification.specs.Pruning.{PrunedType, pruned_store}
use Rattle.lf_unification.specs.Renewing.{renewed_store}
use Rattle.lf_unification.specs.Skeletons.{TotalSkeletons, as_head_skeletons, skeleton_or_default, total_skeletons}
use Rattle.lf_unification.specs.Steps.{Run, Step, bind, drop_equal, equal_heads, next_equation, no_step, open_lambdas, on_pattern, prune_both, prune_inside, put_bindings, renew, store_at, then_run}
use Rattle.lf_unification.specs.Unifiers.{Binding, Solution, Store}
use Rattle.lf_unification.proofs.Agree.{set_cases, set_here}
use Rattle.lf_unification.proofs.Filling.{SkeletonsFill, ValueHasSkeleton, skeleton_fill}
use Rattle.lf_unification.proofs.Inverse.{rename_injective}
use Rattle.lf_unification.proofs.Offer.{set_other}
use Rattle.lf_unification.proofs.Patterns.{body, fill_lambdas, lambdas_injective, left_side}
use Rattle.lf_unification.proofs.Putting.{put_type_skeleton}
use Rattle.lf_unification.proofs.Raise.{fill_raised}
use Rattle.lf_unification.proofs.Shrink.{RenamingBySkeletons-past}
use Rattle.lf_unification.proofs.ToSkeletons.{typed_has_skeleton}
use Rattle.lf_elaboration.specs.PrincipalLaws.{GivenDetermineAll, QuantifiersAreUndetermined}
use Rattle.lf_elaboration.proofs.Principal.{respects_member}

-- what the later store still has
pub record Below (s s' : Store) : Type 0 where
  pub bindings : (b : Binding) → Member b s.bindings → Member b s'.bindings
  pub grows : (m : ℕ) (A : LfType) → s.metavariables m ≡ Some A → s'.metavariables m ≡ Some A

below_itself : (s : Store) → Below s s
below_itself s = record { bindings = λ b i. i; grows = λ m A e. e }

below_then : (s s' s'' : Store) → Below s s' → Below s' s'' → Below s s''
below_then s s' s'' p q = record { bindings = λ b i. q.bindings b (p.bindings b i); grows = λ m A e. q.grows m A (p.grows m A e) }

grown : (Ψ : ℕ → Option LfType) (n : ℕ) (X : LfType) → Ψ n ≡ None → (m : ℕ) (A : LfType) → Ψ m ≡ Some A → set_at n (Some X) Ψ m ≡ Some A
grown Ψ n X new m A e = elim (set_cases n (Some X) Ψ m) [ inl h ↦ (let no : None ≡ Some A = sym new ∙ (ap Ψ (sym h) ∙ e) in absurd cc) | inr h ↦ h ∙ e ]

pruned_below : (s : Store) (k dropped : ℕ) (p : PrunedType s.metavariables k dropped) (n : ℕ) → s.metavariables n ≡ None → Below s (pruned_store s k dropped p n)
pruned_below s k dropped p n new = record { bindings = λ b i. inr i; grows = grown s.metavariables n (pi_over p.kept_local (atom p.family p.kept_indices)) new }

module _ (Σ : Signature) where
  step_below : {s s' : Store} → Step Σ s s' → Below s s'
  step_below (next_equation es e fs) = record { bindings = λ b i. i; grows = λ m A e. e }
  step_below (put_bindings p q) = record { bindings = λ b i. i; grows = λ m A e. e }
  step_below drop_equal = record { bindings = λ b i. i; grows = λ m A e. e }
  step_below open_lambdas = record { bindings = λ b i. i; grows = λ m A e. e }
  step_below (equal_heads h A r g) = record { bindings = λ b i. i; grows = λ m A e. e }
  step_below (bind side D m xs N C d u p b) = record { bindings = λ b i. inr i; grows = λ m A e. e }
  step_below (prune_inside {Ψ = Ψ} {bs = bs} {es = es} side D m xs N C d p c u n x) =
      pruned_below (store_at side Ψ bs es D (on_pattern Ψ m xs) N C) c.drop.m c.dropped c.pruned n (x.fresh n (omega arith))
  step_below (prune_both {Ψ = Ψ} {bs = bs} {es = es} side D m xs N C d p c u n x) =
      pruned_below (store_at side Ψ bs es D (on_pattern Ψ m xs) N C) m c.dropped c.pruned n (x.fresh n (omega arith))
  step_below (renew {Ψ = Ψ} m A A' d u b p n x) = record { bindings = λ b i. inr i; grows = grown Ψ n A' (x.fresh n (omega arith)) }

  run_below : {s s' : Store} → Run Σ s s' → Below s s'
  run_below (no_step {s = s}) = below_itself s
  run_below (then_run {s = s} {s' = s'} {s'' = s''} p r) = below_then s s' s'' (step_below p) (run_below r)

-- two typed unifiers of a store, over one context
module _ (Σ : Signature) (after : Store) (F : List LfType) (γ γ' : ℕ → Option Term) (u : Solution Σ [] after F γ) (u' : Solution Σ [] after F γ') where
  abbrev μ : ℕ → Skeleton
  μ = skeletons_of after.metavariables

  abbrev κ : TotalSkeletons
  κ = total_skeletons Σ μ

  abbrev Γ : List Skeleton
  Γ = context_skeletons F

  -- they have the same terms for what the store s declares
  abbrev AllSame : Store → Type 0
  AllSame s = (m : ℕ) (A : LfType) → s.metavariables m ≡ Some A → γ m ≡ γ' m

  abbrev Valued : (ℕ → Option Term) → ℕ → Type 0
  Valued δ n = (V : Term) × (δ n ≡ Some V) × TermSkeleton (as_head_skeletons κ) Γ V (μ n)

  valued : (δ : ℕ → Option Term) → IsInstance Σ [] after.metavariables F δ → (n : ℕ) (A : LfType) → after.metavariables n ≡ Some A → Valued δ n
  valued δ i n A d = go (after.metavariables n) (δ n) d refl refl (i.typed n)
    where
      go : (x : Option LfType) (y : Option Term) → x ≡ Some A → after.metavariables n ≡ x → δ n ≡ y → ValueHasType Σ F (skeletons_of after.metavariables) δ x y → Valued δ n
      go None y d f e t = absurd (cc)
      go (Some B) None d f e t = absurd t
      go (Some B) (Some N) d f e t = (N, e, subst (TermSkeleton (as_head_skeletons (total_skeletons Σ (skeletons_of after.metavariables))) (context_skeletons F) N) (skeleton_fill (skeletons_of after.metavariables) δ B ∙ sym (ap skeleton_or_default f)) (typed_has_skeleton Σ (skeletons_of after.metavariables) F N (fill_type (skeletons_of after.metavariables) δ B) t))

  skeletons_fill : (δ : ℕ → Option Term) → IsInstance Σ [] after.metavariables F δ → SkeletonsFill κ Γ δ
  skeletons_fill δ i n = go (after.metavariables n) (δ n) refl (i.typed n)
    where
      go : (x : Option LfType) (y : Option Term) → after.metavariables n ≡ x → ValueHasType Σ F (skeletons_of after.metavariables) δ x y → ValueHasSkeleton κ Γ y (skeletons_of after.metavariables n)
      go None None f t = tt
      go None (Some N) f t = absurd t
      go (Some B) None f t = absurd t
      go (Some B) (Some N) f t = subst (TermSkeleton (as_head_skeletons (total_skeletons Σ (skeletons_of after.metavariables))) (context_skeletons F) N) (skeleton_fill (skeletons_of after.metavariables) δ B ∙ sym (ap skeleton_or_default f)) (typed_has_skeleton Σ (skeletons_of after.metavariables) F N (fill_type (skeletons_of after.metavariables) δ B) t)

  -- a metavariable on a pattern, under the lambdas of a skeleton t, determines it
  module _ (n : ℕ) (t : Skeleton) (xs : List ℕ) (fits : PatternFits (context_under t Γ) (μ n) xs) (distinct : Injective (pattern_renaming (μ n) xs (past t))) where
    from_pattern : Valued γ n → Valued γ' n → fill μ γ (lambdas_of t (root (metavariable n) (pattern (μ n) xs))) ≡ fill μ γ' (lambdas_of t (root (metavariable n) (pattern (μ n) xs))) → γ n ≡ γ' n
    from_pattern (V, e, v) (V', e', v') h =
        let (M, q) = body κ Γ (μ n) V v in
        let (M', q') = body κ Γ (μ n) V' v' in
        let inner : fill μ (moved (past t) γ) (root (metavariable n) (pattern (μ n) xs)) ≡ fill μ (moved (past t) γ') (root (metavariable n) (pattern (μ n) xs))
        = lambdas_injective t _ _ (sym (fill_lambdas μ t γ (root (metavariable n) (pattern (μ n) xs))) ∙ h ∙ fill_lambdas μ t γ' (root (metavariable n) (pattern (μ n) xs))) in
        let one : M ≡ M' = rename_injective (pattern_renaming (μ n) xs (past t)) distinct M M'
        (sym (left_side κ Γ (context_under t Γ) (past t) (RenamingBySkeletons-past t Γ) n xs fits γ V e v M q) ∙ inner ∙ left_side κ Γ (context_under t Γ) (past t) (RenamingBySkeletons-past t Γ) n xs fits γ' V' e' v' M' q') in
        e ∙ ap Some (q ∙ ap (lambdas_of (μ n)) one ∙ sym q') ∙ sym e'

  pruned_same : (s : Store) (k dropped : ℕ) (p : PrunedType s.metavariables k dropped) (n : ℕ) → Below (pruned_store s k dropped p n) after → AllSame s → AllSame (pruned_store s k dropped p n)
  pruned_same s k dropped p n b f m A d = go (set_cases n (Some X) s.metavariables m)
    where
      X : LfType
      X = pi_over p.kept_local (atom p.family p.kept_indices)

      t : Skeleton
      t = skeleton (pi_over p.local (atom p.family p.indices))

      here : after.metavariables n ≡ Some (pi_over p.kept_local (atom p.family p.kept_indices))
      here = b.grows n (pi_over p.kept_local (atom p.family p.kept_indices)) (set_here n (Some (pi_over p.kept_local (atom p.family p.kept_indices))) s.metavariables)

      same_skeleton : skeletons_of after.metavariables n ≡ skeleton (pi_over p.kept_local (atom p.family p.kept_indices))
      same_skeleton = ap skeleton_or_default here

      value : Term
      value = lambdas_of (skeleton (pi_over p.local (atom p.family p.indices))) (root (metavariable n) (pattern (skeleton (pi_over p.kept_local (atom p.family p.kept_indices))) p.kept))

      some_term : {M N : Term} → Some M ≡ Some N → M ≡ N
      some_term e = cc

      filled : fill (skeletons_of after.metavariables) γ value ≡ fill (skeletons_of after.metavariables) γ' value
      filled = some_term (sym (respects_member (skeletons_of after.metavariables) γ after.bindings u.1.0 (record { of = k; value = value }) (b.bindings (record { of = k; value = value }) (inl refl)))
          ∙ f k (pi_over p.local (atom p.family p.indices)) p.declared
          ∙ respects_member (skeletons_of after.metavariables) γ' after.bindings u'.1.0 (record { of = k; value = value }) (b.bindings (record { of = k; value = value }) (inl refl)))

      go : (m ≡ n) ⊎ (set_at n (Some (pi_over p.kept_local (atom p.family p.kept_indices))) s.metavariables m ≡ s.metavariables m) → γ m ≡ γ' m
      go (inr e) = f m A (sym e ∙ d)
      go (inl e) = ap γ e ∙ from_pattern n t p.kept
          (subst (λ a. PatternFits (context_under t (context_skeletons F)) a p.kept) (sym same_skeleton) (p.places (context_skeletons F)))
          (subst (λ a. Injective (pattern_renaming a p.kept (past t))) (sym same_skeleton) p.distinct)
          (valued γ u.0 n X here) (valued γ' u'.0 n X here)
          (subst (λ a. fill (skeletons_of after.metavariables) γ (lambdas_of t (root (metavariable n) (pattern a p.kept))) ≡ fill (skeletons_of after.metavariables) γ' (lambdas_of t (root (metavariable n) (pattern a p.kept)))) (sym same_skeleton) filled)
          ∙ ap γ' (sym e)

  -- a renewed metavariable has the term of the new one
  renewed_same : (s : Store) (m n : ℕ) (A A' : LfType) → s.metavariables m ≡ Some A → skeleton A ≡ skeleton A' → Below (renewed_store s m A A' n) after → AllSame s → AllSame (renewed_store s m A A' n)
  renewed_same s m n A A' d q b f k B e = go (set_cases n (Some A') s.metavariables k)
    where
      here : after.metavariables n ≡ Some A'
      here = b.grows n A' (set_here n (Some A') s.metavariables)

      at_n : skeletons_of after.metavariables n ≡ skeleton A'
      at_n = ap skeleton_or_default here

      through : (δ : ℕ → Option Term) → Solution Σ [] after F δ → δ m ≡ δ n
      through δ v =
          let (V, g, t) = valued δ v.0 n A' here in
          respects_member (skeletons_of after.metavariables) δ after.bindings v.1.0 (record { of = m; value = eta_long (skeleton A) (metavariable n) }) (b.bindings (record { of = m; value = eta_long (skeleton A) (metavariable n) }) (inl refl))
          ∙ ap Some (ap (λ a. fill (skeletons_of after.metavariables) δ (eta_long a (metavariable n))) q ∙ fill_raised κ (context_skeletons F) δ [] A' n V (skeletons_fill δ v.0) at_n g t)
          ∙ sym g

      go : (k ≡ n) ⊎ (set_at n (Some A') s.metavariables k ≡ s.metavariables k) → γ k ≡ γ' k
      go (inr h) = f k B (sym h ∙ e)
      go (inl h) = ap γ h ∙ sym (through γ u) ∙ f m A d ∙ through γ' u' ∙ ap γ' (sym h)

  step_same : {s s' : Store} → Step Σ s s' → Below s' after → AllSame s → AllSame s'
  step_same (next_equation es e fs) b f = f
  step_same (put_bindings p q) b f = f
  step_same drop_equal b f = f
  step_same open_lambdas b f = f
  step_same (equal_heads h A r g) b f = f
  step_same (bind side D m xs N C d u p c) b f = f
  step_same (prune_inside {Ψ = Ψ} {bs = bs} {es = es} side D m xs N C d p c u n x) b f =
      pruned_same (store_at side Ψ bs es D (on_pattern Ψ m xs) N C) c.drop.m c.dropped c.pruned n b f
  step_same (prune_both {Ψ = Ψ} {bs = bs} {es = es} side D m xs N C d p c u n x) b f =
      pruned_same (store_at side Ψ bs es D (on_pattern Ψ m xs) N C) m c.dropped c.pruned n b f
  step_same (renew {Ψ = Ψ} {bs = bs} {es = es} m A A' d u c p n x) b f =
      renewed_same (record { metavariables = Ψ; bindings = bs; equations = es }) m n A A' d (put_type_skeleton p) b f

  run_same : {s s' : Store} → Run Σ s s' → Below s' after → AllSame s → AllSame s'
  run_same no_step b f = f
  run_same (then_run {s = s} {s' = s'} {s'' = s''} p r) b f = run_same r b (step_same p (below_then s' s'' after (run_below Σ r) b) f)

pub given_determine_all : GivenDetermineAll
given_determine_all Σ before after z F γ γ' u u' h = run_same Σ after F γ γ' u u' z.run (below_itself after) h

-- each quantifier is the term of a metavariable that stays free
module _ (Σ : Signature) (μ : ℕ → Skeleton) (Ψ : ℕ → Option LfType) (U : (ℕ → Option Term) → Type 0) where
  abbrev IsTermOf : List ListedMetavariable → ℕ → LfType → Type 0
  IsTermOf is x A = (m : ℕ) × (B : LfType) × Member (record { of = m; of_type = B; value = None }) is × (values μ is m ≡ Some (eta_variable (skeleton A) x))

  listed : (is : List ListedMetavariable) (it : ListedMetavariable) → Member it is → IsListed is it.of
  listed [] it i = absurd i
  listed (j ∷ is) it (inl e) = inl (ap (λ k. k.of) e)
  listed (j ∷ is) it (inr i) = inr (listed is it i)

  quantifier : (is : List ListedMetavariable) → IsDependencyOrder Σ Ψ U is → (x : ℕ) (A : LfType) → TypeAt (free_context μ is) x A → IsTermOf is x A
  quantifier [] o x A g = absurd g
  quantifier (it ∷ is) o x A g = go it.value (λ x A g. quantifier is o.0 x A g) x A g
    where
      go : (v : Option Term) → ((x : ℕ) (A : LfType) → TypeAt (free_context μ is) x A → IsTermOf is x A) → (x : ℕ) (A : LfType) → TypeAt (add_free v (fill_type μ (values μ is) it.of_type) (free_context μ is)) x A → IsTermOf (record { of = it.of; of_type = it.of_type; value = v } ∷ is) x A
      go None r zero A e = (it.of, it.of_type, inl refl, set_here it.of (Some (eta_variable (skeleton it.of_type) zero)) (moved suc (values μ is)) ∙ ap (λ a. Some (eta_variable a zero)) (sym (ap skeleton e ∙ skeleton_renamed suc (fill_type μ (values μ is) it.of_type) ∙ skeleton_fill μ (values μ is) it.of_type)))
      go None r (suc x) A (C, g, e) =
          let (m, B, i, q) = r x C g in
          let n : m ≡ it.of → ⊥ = λ h. o.2 (subst (IsListed is) h (listed is (record { of = m; of_type = B; value = None }) i)) in
          (m, B, inr i, set_other it.of (Some (eta_variable (skeleton it.of_type) zero)) (moved suc (values μ is)) m n ∙ ap (rename_value suc) q ∙ ap Some (rename_eta_expand suc (skeleton C) (variable x) nil) ∙ ap (λ a. Some (eta_variable a (suc x))) (sym (ap skeleton e ∙ skeleton_renamed suc C)))
      go (Some N) r x A g =
          let (m, B, i, q) = r x A g in
          let n : m ≡ it.of → ⊥ = λ h. o.2 (subst (IsListed is) h (listed is (record { of = m; of_type = B; value = None }) i)) in
          (m, B, inr i, set_other it.of (Some (fill μ (values μ is) N)) (values μ is) m n ∙ q)

pub quantifiers_undetermined : QuantifiersAreUndetermined
quantifiers_undetermined Σ before after z = quantifier Σ (skeletons_of after.metavariables) after.metavariables (IsFilling Σ [] after) z.well_formed.order z.well_formed.is_order
