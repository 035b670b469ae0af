-- Values of new metavariables come along: where one typed unifier gives the old metavariables what another gives them
-- with values put in, so it is with the new ones.
use Rattle.std.proofs.Common.{◌≡◌, ℕ, zero, suc, List, [], ◌∷◌, Option, Some, ◌⊎◌, inl, inr, refl, sym, ap, ◌∙◌, subst}
use Rattle.lf.specs.Eta.{eta_long}
use Rattle.lf.specs.SkeletonTyping.{SkeletonAt, TermSkeleton}
use Rattle.lf.specs.Skeletons.{context_skeletons}
use Rattle.lf.specs.Substitution.{Image, keep, put, lift, rename_image, substitute, reduce}
use Rattle.lf.specs.Syntax.{metavariable, Term, lambda, root, LfType, atom, Skeleton, base, arrow, skeleton, rename}
use Rattle.lf.specs.Typing.{Signature, IsSignature}
use Rattle.lf.proofs.AtOnce.{rename_identity}
use Rattle.lf.proofs.Renaming.{reduction_is_natural, rename_substituted, renamings_compose, substitute_renamed}
use Rattle.lf_unification.specs.Filling.{fill, fill_type}
use Rattle.lf_unification.specs.Offering.{pi_over}
use Rattle.lf_unification.specs.OpenTyping.{IsInstance, set_at, skeletons_of}
use Rattle.lf_unification.specs.Patterns.{Injective, PatternFits, context_under, extend_renaming, lambdas_of, past, pattern, pattern_renaming}
use Rattle.lf_unification.specs.Pruning.{PrunedType, pruned_store}
use Rattle.lf_unification.specs.Putting.{PutsInType}
use Rattle.lf_unification.specs.Renewing.{renewed_store}
use Rattle.lf_unification.specs.Skeletons.{TotalSkeletons, as_head_skeletons, skeleton_or_default, total_skeletons}
use Rattle.lf_unification.specs.Solving.{IsWellFormed}
use Rattle.lf_unification.specs.Steps.{Run, Step, bind, drop_equal, equal_heads, next_equation, no_step, on_pattern, open_lambdas, prune_both, prune_inside, put_bindings, renew, store_at, then_run}
use Rattle.lf_unification.specs.Unifiers.{Solution, Store}
use Rattle.lf_unification.proofs.Agree.{set_cases, set_here}
use Rattle.lf_unification.proofs.Filling.{skeleton_fill, substituted_option}
use Rattle.lf_unification.proofs.Inverse.{rename_injective}
use Rattle.lf_unification.proofs.OpenSound.{PartialInstance-of, skeletons_under}
use Rattle.lf_unification.proofs.Patterns.{body, fill_lambdas, lambdas_injective, left_side}
use Rattle.lf_unification.proofs.Putting.{put_type_skeleton}
use Rattle.lf_unification.proofs.Raise.{fill_raised}
use Rattle.lf_unification.proofs.Runs.{run_keeps_unifiers, step_form}
use Rattle.lf_unification.proofs.Shrink.{RenamingBySkeletons-past}
use Rattle.lf_unification.proofs.StepLemmas.{value_of}
use Rattle.lf_unification.proofs.Steps.{step_keeps_unifiers}
use Rattle.lf_unification.proofs.ToSkeletons.{typed_has_skeleton}
use Rattle.lf_coverage.proofs.Parts.{some_same}
use mathlib.Core.Path.{fun_ext}

-- a substitution under the lambdas of a skeleton
abbrev under : Skeleton → (ℕ → Image) → ℕ → Image
under (base c) σ = σ
under (arrow a b) σ = under b (lift σ)

substitute_under : (t : Skeleton) (σ : ℕ → Image) (M : Term) → substitute reduce σ (lambdas_of t M) ≡ lambdas_of t (substitute reduce (under t σ) M)
substitute_under (base c) σ M = refl
substitute_under (arrow a b) σ M = ap lambda (substitute_under b (lift σ) M)

bound_stays : (t : Skeleton) (Γ : List Skeleton) (σ : ℕ → Image) → ((i : ℕ) (u : Skeleton) → SkeletonAt Γ i u → σ i ≡ keep i) → (i : ℕ) (u : Skeleton) → SkeletonAt (context_under t Γ) i u → under t σ i ≡ keep i
bound_stays (base c) Γ σ h i u g = h i u g
bound_stays (arrow a b) Γ σ h i u g = bound_stays b (a ∷ Γ) (lift σ) next i u g
  where
    next : (i : ℕ) (u : Skeleton) → SkeletonAt (a ∷ Γ) i u → lift σ i ≡ keep i
    next zero u g = refl
    next (suc i) u g = ap (rename_image suc) (h i u g)

image_renamed : (ρ τ : ℕ → ℕ) (x : Image) → rename_image ρ (rename_image τ x) ≡ rename_image (λ i. ρ (τ i)) x
image_renamed ρ τ (keep i) = refl
image_renamed ρ τ (put a N) = ap (put a) (renamings_compose ρ τ N)

image_stays : (x : Image) → x ≡ rename_image (λ i. i) x
image_stays (keep i) = refl
image_stays (put a N) = ap (put a) (sym (rename_identity N))

past_under : (t : Skeleton) (σ : ℕ → Image) (i : ℕ) → rename_image (past t) (σ i) ≡ under t σ (past t i)
past_under (base c) σ i = sym (image_stays (σ i))
past_under (arrow a b) σ i = sym (image_renamed (past b) suc (σ i)) ∙ past_under b (lift σ) (suc i)

-- a substitution goes through the renaming of a pattern whose variables stay
through : (a : Skeleton) (zs : List ℕ) (Δ : List Skeleton) (τ : ℕ → ℕ) (σ θ : ℕ → Image) → PatternFits Δ a zs → ((z : ℕ) (u : Skeleton) → SkeletonAt Δ z u → θ z ≡ keep z) → ((i : ℕ) → rename_image τ (σ i) ≡ θ (τ i)) → (i : ℕ) → rename_image (pattern_renaming a zs τ) (under a σ i) ≡ θ (pattern_renaming a zs τ i)
through (base c) zs Δ τ σ θ p k h i = h i
through (arrow a b) [] Δ τ σ θ p k h i = absurd p
through (arrow a b) (z ∷ zs) Δ τ σ θ p k h i = through b zs Δ (extend_renaming z τ) (lift σ) θ p.1 k next i
  where
    next : (i : ℕ) → rename_image (extend_renaming z τ) (lift σ i) ≡ θ (extend_renaming z τ i)
    next zero = sym (k z a p.0)
    next (suc i) = image_renamed (extend_renaming z τ) suc (σ i) ∙ h i

-- What a metavariable's value makes of a pattern, and of its eta-long form
module _ (Σ : Signature) (ok : IsSignature Σ) (Ψ : ℕ → Option LfType) (n : ℕ) (A : LfType) (declared : Ψ n ≡ Some A) where
  abbrev μ : ℕ → Skeleton
  μ = skeletons_of Ψ

  abbrev κ : TotalSkeletons
  κ = total_skeletons Σ (skeletons_of Ψ)

  skeleton_is : μ n ≡ skeleton A
  skeleton_is = ap skeleton_or_default declared

  module _ (F : List LfType) (β : ℕ → Option Term) (w : IsInstance Σ [] Ψ F β) where
    value : (W : Term) × (β n ≡ Some W) × TermSkeleton (as_head_skeletons κ) (context_skeletons F) W (μ n)
    value =
        let (V, f, v) = value_of Σ [] Ψ F β w n A declared in
        (V, f, subst (TermSkeleton (as_head_skeletons κ) (context_skeletons F) V) (skeleton_fill μ β A ∙ sym skeleton_is) (typed_has_skeleton Σ μ F V (fill_type μ β A) v))

    on_pattern_of : (t : Skeleton) (zs : List ℕ) → ((Δ : List Skeleton) → PatternFits (context_under t Δ) (μ n) zs) → (B : Term) × (β n ≡ Some (lambdas_of (μ n) B)) × (fill μ β (lambdas_of t (root (metavariable n) (pattern (μ n) zs))) ≡ lambdas_of t (rename (pattern_renaming (μ n) zs (past t)) B))
    on_pattern_of t zs places =
        let (W, e, s) = value in
        let (B, q) = body κ (context_skeletons F) (μ n) W s in
        (B, e ∙ ap Some q, fill_lambdas μ t β (root (metavariable n) (pattern (μ n) zs)) ∙ ap (lambdas_of t) (left_side κ (context_skeletons F) (context_under t (context_skeletons F)) (past t) (RenamingBySkeletons-past t (context_skeletons F)) n zs (places (context_skeletons F)) β W e s B q))

    raised_value : (a : Skeleton) → a ≡ skeleton A → β n ≡ Some (fill μ β (eta_long a (metavariable n)))
    raised_value a q = let (W, e, s) = value in e ∙ ap Some (sym (ap (λ b. fill μ β (eta_long b (metavariable n))) q ∙ fill_raised κ (context_skeletons F) β [] A n W (skeletons_under Σ ok [] Ψ (λ b. Unit {0}) (λ k. Unit {0}) F β (PartialInstance-of Σ ok [] Ψ (λ k. Unit {0}) F β w) []) skeleton_is e s))

  -- so where the values of what loses arguments come along, that of n does
  module _ (F F' : List LfType) (β β' : ℕ → Option Term) (w : IsInstance Σ [] Ψ F β) (w' : IsInstance Σ [] Ψ F' β') (ι : ℕ → Image) where
    along : (t : Skeleton) (zs : List ℕ) → Injective (pattern_renaming (μ n) zs (past t)) → ((Δ : List Skeleton) → PatternFits (context_under t Δ) (μ n) zs) → fill μ β' (lambdas_of t (root (metavariable n) (pattern (μ n) zs))) ≡ substitute reduce ι (fill μ β (lambdas_of t (root (metavariable n) (pattern (μ n) zs)))) → β' n ≡ substituted_option ι (β n)
    along t zs inj places h =
        let ρ : ℕ → ℕ = pattern_renaming (μ n) zs (past t) in
        let (B, e, f) = on_pattern_of F β w t zs places in
        let (B', e', f') = on_pattern_of F' β' w' t zs places in
        let q : rename ρ B' ≡ substitute reduce (under t ι) (rename ρ B) = lambdas_injective t (rename ρ B') (substitute reduce (under t ι) (rename ρ B)) (sym f' ∙ h ∙ ap (substitute reduce ι) f ∙ substitute_under t ι (rename ρ B)) in
        let r : rename ρ B' ≡ rename ρ (substitute reduce (under (μ n) ι) B) = q ∙ substitute_renamed reduce (under t ι) ρ B ∙ ap (λ g. substitute reduce g B) (fun_ext (λ i. sym (through (μ n) zs (context_under t []) (past t) ι (under t ι) (places []) (bound_stays t [] ι (λ i u g. absurd g)) (past_under t ι) i))) ∙ sym (rename_substituted reduce reduction_is_natural ρ (under (μ n) ι) B) in
        e' ∙ ap Some (ap (lambdas_of (μ n)) (rename_injective ρ inj B' (substitute reduce (under (μ n) ι) B) r) ∙ sym (substitute_under (μ n) ι B)) ∙ sym (ap (substituted_option ι) e)

    pub pruned_along : (t : Skeleton) (zs : List ℕ) → Injective (pattern_renaming (skeleton A) zs (past t)) → ((Δ : List Skeleton) → PatternFits (context_under t Δ) (skeleton A) zs) → fill μ β' (lambdas_of t (root (metavariable n) (pattern (skeleton A) zs))) ≡ substitute reduce ι (fill μ β (lambdas_of t (root (metavariable n) (pattern (skeleton A) zs)))) → β' n ≡ substituted_option ι (β n)
    pruned_along t zs = subst (λ x. Injective (pattern_renaming x zs (past t)) → ((Δ : List Skeleton) → PatternFits (context_under t Δ) x zs) → fill μ β' (lambdas_of t (root (metavariable n) (pattern x zs))) ≡ substitute reduce ι (fill μ β (lambdas_of t (root (metavariable n) (pattern x zs)))) → β' n ≡ substituted_option ι (β n)) skeleton_is (along t zs)

    pub renewed_along : (a : Skeleton) → a ≡ skeleton A → fill μ β' (eta_long a (metavariable n)) ≡ substitute reduce ι (fill μ β (eta_long a (metavariable n))) → β' n ≡ substituted_option ι (β n)
    renewed_along a q h = raised_value F' β' w' a q ∙ ap Some h ∙ sym (ap (substituted_option ι) (raised_value F β w a q))

-- The values of β', which are those of β with ι put in
abbrev pub ComeAlong : (ℕ → Image) → (ℕ → Option LfType) → (ℕ → Option Term) → (ℕ → Option Term) → Type 0
ComeAlong ι Ψ β β' = (m : ℕ) (A : LfType) → Ψ m ≡ Some A → β' m ≡ substituted_option ι (β m)

module _ (Σ : Signature) (ok : IsSignature Σ) (F F' : List LfType) (ι : ℕ → Image) where
  with_new : (Ψ : ℕ → Option LfType) (n : ℕ) (X : LfType) (β β' : ℕ → Option Term) → β' n ≡ substituted_option ι (β n) → ComeAlong ι Ψ β β' → ComeAlong ι (set_at n (Some X) Ψ) β β'
  with_new Ψ n X β β' new h m A d = by (set_cases n (Some X) Ψ m)
    where
      by : (m ≡ n) ⊎ (set_at n (Some X) Ψ m ≡ Ψ m) → β' m ≡ substituted_option ι (β m)
      by (inl q) = ap β' q ∙ new ∙ sym (ap (λ k. substituted_option ι (β k)) q)
      by (inr q) = h m A (sym q ∙ d)

  bound : (x y : Option Term) (M N : Term) → y ≡ substituted_option ι x → x ≡ Some M → y ≡ Some N → N ≡ substitute reduce ι M
  bound x y M N h e f = some_same (sym f ∙ h ∙ ap (substituted_option ι) e)

  pruned_values : (s : Store) (n d : ℕ) (p : PrunedType s.metavariables n d) (n' : ℕ) (β β' : ℕ → Option Term) → Solution Σ [] (pruned_store s n d p n') F β → Solution Σ [] (pruned_store s n d p n') F' β' → ComeAlong ι s.metavariables β β' → ComeAlong ι (pruned_store s n d p n').metavariables β β'
  pruned_values s n d p n' β β' u u' h =
      let X : LfType = pi_over p.kept_local (atom p.family p.kept_indices) in
      with_new s.metavariables n' X β β' (pruned_along Σ ok (set_at n' (Some X) s.metavariables) n' X (set_here n' (Some X) s.metavariables) F F' β β' u.0 u'.0 ι (skeleton (pi_over p.local (atom p.family p.indices))) p.kept p.distinct p.places (bound (β n) (β' n) _ _ (h n (pi_over p.local (atom p.family p.indices)) p.declared) u.1.0.0 u'.1.0.0)) h

  renewed_values : (s : Store) (n : ℕ) (A A' : LfType) (n' : ℕ) → s.metavariables n ≡ Some A → PutsInType s.metavariables s.bindings 0 A A' → (β β' : ℕ → Option Term) → Solution Σ [] (renewed_store s n A A' n') F β → Solution Σ [] (renewed_store s n A A' n') F' β' → ComeAlong ι s.metavariables β β' → ComeAlong ι (renewed_store s n A A' n').metavariables β β'
  renewed_values s n A A' n' d p β β' u u' h = with_new s.metavariables n' A' β β' (renewed_along Σ ok (set_at n' (Some A') s.metavariables) n' A' (set_here n' (Some A') s.metavariables) F F' β β' u.0 u'.0 ι (skeleton A) (put_type_skeleton p) (bound (β n) (β' n) _ _ (h n A d) u.1.0.0 u'.1.0.0)) h

  step_values : {s s' : Store} → Step Σ s s' → (β β' : ℕ → Option Term) → Solution Σ [] s' F β → Solution Σ [] s' F' β' → ComeAlong ι s.metavariables β β' → ComeAlong ι s'.metavariables β β'
  step_values (next_equation es e fs) β β' u u' h = h
  step_values (put_bindings f g) β β' u u' h = h
  step_values drop_equal β β' u u' h = h
  step_values open_lambdas β β' u u' h = h
  step_values (equal_heads k A r t) β β' u u' h = h
  step_values (bind side D m xs N C d x p b) β β' u u' h = h
  step_values (prune_inside {Ψ = Ψ} {bs = bs} {es = es} side D m xs N C d p c x n scoped) β β' u u' h = pruned_values (store_at side Ψ bs es D (on_pattern Ψ m xs) N C) c.drop.m c.dropped c.pruned n β β' u u' h
  step_values (prune_both {Ψ = Ψ} {bs = bs} {es = es} side D m xs N C d p c x n scoped) β β' u u' h = pruned_values (store_at side Ψ bs es D (on_pattern Ψ m xs) N C) m c.dropped c.pruned n β β' u u' h
  step_values (renew {Ψ = Ψ} {bs = bs} {es = es} m A A' d x b p n scoped) β β' u u' h = renewed_values (record { metavariables = Ψ; bindings = bs; equations = es }) m A A' n d p β β' u u' h

  -- The lemma
  pub values_come_along : {s s' : Store} → IsWellFormed Σ s → Run Σ s s' → (β β' : ℕ → Option Term) → Solution Σ [] s' F β → Solution Σ [] s' F' β' → ComeAlong ι s.metavariables β β' → ComeAlong ι s'.metavariables β β'
  values_come_along w no_step β β' u u' h = h
  values_come_along w (then_run {s = s} {s' = s'} {s'' = s''} p r) β β' u u' h =
      let z : IsWellFormed Σ s' = step_form Σ ok w p in
      let (γ, x, v) = (run_keeps_unifiers Σ ok z r).sound F β u in
      let (γ', x', v') = (run_keeps_unifiers Σ ok z r).sound F' β' u' in
      values_come_along z r β β' u u' (λ m A d. x' m A d ∙ step_values p γ γ' v v' (λ k B b. let g = (step_keeps_unifiers Σ ok w.typed p).grows k B b in sym (x' k B g) ∙ h k B b ∙ ap (substituted_option ι) (x k B g)) m A d ∙ sym (ap (substituted_option ι) (x m A d)))
