-- Hereditary substitution keeps open terms that a filling puts on own terms.
use Rattle.std.proofs.Common.{◌≡◌, ℕ, zero, suc, List, ◌∷◌, Option, Some, None, refl, sym, ap, ap₂, ◌∙◌, subst}
use Rattle.lf.specs.Syntax.{constant, variable, metavariable, Term, Spine, lambda, root, nil, app, Skeleton, base, arrow}
use Rattle.lf.specs.Substitution.{Image, keep, put, rename_image, lift, single, apply_image, substitute, substitute_spine, reduce}
use Rattle.lf.specs.Eta.{append}
use Rattle.lf.specs.SkeletonTyping.{ImageSkeleton, SpineSkeleton, TermSkeleton}
use Rattle.lf.proofs.Renaming.{OnPut, Puts, Puts-lift, Puts-single, reduction_beta}
use Rattle.lf.proofs.SkeletonTyping.{single_by_skeletons, substitution_keeps_skeletons, substitution_keeps_spine_skeletons}
use Rattle.lf_unification.specs.Filling.{fill, fill_spine, moved}
use Rattle.lf_unification.specs.Skeletons.{TotalSkeletons, as_head_skeletons}
use Rattle.lf_unification.proofs.Filling.{Filled, Filled-lift, Filled-single, SkeletonsFill, fill_substituted}
use Rattle.lf_numbered.specs.OwnTerms.{weaken_own}
use Rattle.lf_numbered.proofs.OwnStoresTerms.{BeginsUpTo, Owned, SpineOwned, owned_renamed}
use Rattle.lf_numbered.proofs.OwnTerms.{own_as_renamed, substitute_append, substitute_own, substitute_under as weaken_substituted, single_under as single_weakened}

module _ (κ : TotalSkeletons) where
  -- the first arguments have skeletons
  first_arguments : (Γ : List Skeleton) (R T : Spine) (t u : Skeleton) → SpineSkeleton (as_head_skeletons κ) Γ (append R T) t u → (v : Skeleton) × SpineSkeleton (as_head_skeletons κ) Γ R t v
  first_arguments Γ nil T t u s = (t, refl)
  first_arguments Γ (app M R) T (arrow a b) u (m, s) = let (v, r) = first_arguments Γ R T b u s in (v, (m, r))
  first_arguments Γ (app M R) T (base c) u s = absurd s

  fill_substituted_spine : (Γ Δ : List Skeleton) (β β' : ℕ → Option Term) (σ σ' : ℕ → Image) (S : Spine) (t u : Skeleton) → Filled κ Γ Δ β β' σ σ' → SpineSkeleton (as_head_skeletons κ) Γ S t u → fill_spine κ.metavariable_skeleton β' (substitute_spine reduce σ S) ≡ substitute_spine reduce σ' (fill_spine κ.metavariable_skeleton β S)
  fill_substituted_spine Γ Δ β β' σ σ' nil t u w s = refl
  fill_substituted_spine Γ Δ β β' σ σ' (app M S) (arrow a b) u w (m, s) = ap₂ app (fill_substituted κ Γ Δ β β' σ σ' M a w m) (fill_substituted_spine Γ Δ β β' σ σ' S b u w s)
  fill_substituted_spine Γ Δ β β' σ σ' (app M S) (base c) u w s = absurd s

  abbrev ImageOwned : (ℕ → Option Spine) → (ℕ → Option Term) → Image → Type 0
  ImageOwned o β (keep i) = Unit {0}
  ImageOwned o β (put a N) = Owned κ.metavariable_skeleton o β N

  -- what `reduce` is to do at a skeleton
  abbrev Reduced : Skeleton → Type 0
  Reduced a = (Δ : List Skeleton) (o : ℕ → Option Spine) (β : ℕ → Option Term) (N : Term) (S : Spine) (u : Skeleton) → SkeletonsFill κ Δ β → TermSkeleton (as_head_skeletons κ) Δ N a → SpineSkeleton (as_head_skeletons κ) Δ S a u → Owned κ.metavariable_skeleton o β N → SpineOwned κ.metavariable_skeleton o β S → Owned κ.metavariable_skeleton o β (reduce a N S)

  image_under : (o : ℕ → Option Spine) (β : ℕ → Option Term) (x : Image) → ImageOwned o β x → ImageOwned (λ c. weaken_own (o c)) (moved suc β) (rename_image suc x)
  image_under o β (keep i) h = h
  image_under o β (put a N) h = owned_renamed κ.metavariable_skeleton o (λ c. weaken_own (o c)) β (moved suc β) suc N (λ c. own_as_renamed (o c)) (λ m. refl) h

  images_under : (o : ℕ → Option Spine) (β : ℕ → Option Term) (σ : ℕ → Image) → ((i : ℕ) → ImageOwned o β (σ i)) → (i : ℕ) → ImageOwned (λ c. weaken_own (o c)) (moved suc β) (lift σ i)
  images_under o β σ h zero = tt
  images_under o β σ h (suc i) = image_under o β (σ i) (h i)

  plugged : (Δ : List Skeleton) (o : ℕ → Option Spine) (β : ℕ → Option Term) (x : Image) (S : Spine) (t u : Skeleton) → OnPut Reduced x → SkeletonsFill κ Δ β → ImageSkeleton (as_head_skeletons κ) Δ x t → SpineSkeleton (as_head_skeletons κ) Δ S t u → ImageOwned o β x → SpineOwned κ.metavariable_skeleton o β S → Owned κ.metavariable_skeleton o β (apply_image reduce x S)
  plugged Δ o β (keep i) S t u k g m s h r = r
  plugged Δ o β (put a N) S t u k g (e, m) s h r = k Δ o β N S u g m (subst (λ z. SpineSkeleton (as_head_skeletons κ) Δ S z u) (sym e) s) h r

  begins_put : (Γ Δ : List Skeleton) (β β' : ℕ → Option Term) (σ σ' : ℕ → Image) (x y : Option Spine) (S : Spine) (t u : Skeleton) → Filled κ Γ Δ β β' σ σ' → SpineSkeleton (as_head_skeletons κ) Γ S t u → y ≡ substitute_own σ' x → BeginsUpTo κ.metavariable_skeleton β x S → BeginsUpTo κ.metavariable_skeleton β' y (substitute_spine reduce σ S)
  begins_put Γ Δ β β' σ σ' None y S t u w s e b = subst (λ z. BeginsUpTo κ.metavariable_skeleton β' z (substitute_spine reduce σ S)) (sym e) tt
  begins_put Γ Δ β β' σ σ' (Some V) y S t u w s e (R, T, f, g) =
      let (v, r) = first_arguments Γ R T t u (subst (λ Z. SpineSkeleton (as_head_skeletons κ) Γ Z t u) f s) in
      subst (λ z. BeginsUpTo κ.metavariable_skeleton β' z (substitute_spine reduce σ S)) (sym e) (substitute_spine reduce σ R, substitute_spine reduce σ T, ap (substitute_spine reduce σ) f ∙ substitute_append σ R T, fill_substituted_spine Γ Δ β β' σ σ' R t v w r ∙ ap (substitute_spine reduce σ') g)

  mutual
    put_owned : (Γ Δ : List Skeleton) (o o' : ℕ → Option Spine) (β β' : ℕ → Option Term) (σ σ' : ℕ → Image) (M : Term) (t : Skeleton) → Puts Reduced σ → Filled κ Γ Δ β β' σ σ' → ((c : ℕ) → o' c ≡ substitute_own σ' (o c)) → ((i : ℕ) → ImageOwned o' β' (σ i)) → TermSkeleton (as_head_skeletons κ) Γ M t → Owned κ.metavariable_skeleton o β M → Owned κ.metavariable_skeleton o' β' (substitute reduce σ M)
    put_owned Γ Δ o o' β β' σ σ' (lambda M) (arrow a b) k w h v m r = put_owned (a ∷ Γ) (a ∷ Δ) (λ c. weaken_own (o c)) (λ c. weaken_own (o' c)) (moved suc β) (moved suc β') (lift σ) (lift σ') M b (Puts-lift Reduced σ k) (Filled-lift κ a Γ Δ β β' σ σ' w) (λ c. ap weaken_own (h c) ∙ weaken_substituted σ' (o c)) (images_under o' β' σ v) m r
    put_owned Γ Δ o o' β β' σ σ' (lambda M) (base c) k w h v m r = absurd m
    put_owned Γ Δ o o' β β' σ σ' (root x S) (arrow a b) k w h v m r = absurd m
    put_owned Γ Δ o o' β β' σ σ' (root (constant c) S) (base d) k w h v (t, g, m) (b, s) = (begins_put Γ Δ β β' σ σ' (o c) (o' c) S t (base d) w m (h c) b, put_owned_spine Γ Δ o o' β β' σ σ' S t (base d) k w h v m s)
    put_owned Γ Δ o o' β β' σ σ' (root (metavariable c) S) (base d) k w h v (t, g, m) s = put_owned_spine Γ Δ o o' β β' σ σ' S t (base d) k w h v m s
    put_owned Γ Δ o o' β β' σ σ' (root (variable i) S) (base d) k w h v (t, g, m) s = plugged Δ o' β' (σ i) (substitute_spine reduce σ S) t (base d) (k i) w.fillings' (w.by_skeletons i t g) (substitution_keeps_spine_skeletons (as_head_skeletons κ) Γ Δ σ S t (base d) w.by_skeletons m) (v i) (put_owned_spine Γ Δ o o' β β' σ σ' S t (base d) k w h v m s)

    put_owned_spine : (Γ Δ : List Skeleton) (o o' : ℕ → Option Spine) (β β' : ℕ → Option Term) (σ σ' : ℕ → Image) (S : Spine) (t u : Skeleton) → Puts Reduced σ → Filled κ Γ Δ β β' σ σ' → ((c : ℕ) → o' c ≡ substitute_own σ' (o c)) → ((i : ℕ) → ImageOwned o' β' (σ i)) → SpineSkeleton (as_head_skeletons κ) Γ S t u → SpineOwned κ.metavariable_skeleton o β S → SpineOwned κ.metavariable_skeleton o' β' (substitute_spine reduce σ S)
    put_owned_spine Γ Δ o o' β β' σ σ' nil t u k w h v m s = s
    put_owned_spine Γ Δ o o' β β' σ σ' (app M S) (arrow a b) u k w h v (m, n) (r, s) = (put_owned Γ Δ o o' β β' σ σ' M a k w h v m r, put_owned_spine Γ Δ o o' β β' σ σ' S b u k w h v n s)
    put_owned_spine Γ Δ o o' β β' σ σ' (app M S) (base c) u k w h v m s = absurd m

  single_owned : (o : ℕ → Option Spine) (β : ℕ → Option Term) (a : Skeleton) (N : Term) → Owned κ.metavariable_skeleton o β N → (i : ℕ) → ImageOwned o β (single a N i)
  single_owned o β a N n zero = n
  single_owned o β a N n (suc i) = tt

  -- THE lemma
  pub reduce_owned : (a : Skeleton) → Reduced a
  reduce_owned (base c) Δ o β N S u g n s p q = p
  reduce_owned (arrow a b) Δ o β (root h T) S u g n s p q = p
  reduce_owned (arrow a b) Δ o β (lambda M) nil u g n s p q = p
  reduce_owned (arrow a b) Δ o β (lambda M) (app N S) u g n (m, s) p (q, r) =
      let ab : Term = substitute reduce (single a N) M in
      subst (Owned κ.metavariable_skeleton o β) (sym (reduction_beta a b M N S))
      (reduce_owned b Δ o β ab S u g (substitution_keeps_skeletons (as_head_skeletons κ) (a ∷ Δ) Δ (single a N) M b (single_by_skeletons (as_head_skeletons κ) a Δ N m) n) s
      (put_owned (a ∷ Δ) Δ (λ c. weaken_own (o c)) o (moved suc β) β (single a N) (single a (fill κ.metavariable_skeleton β N)) M b (Puts-single Reduced a N (reduce_owned a)) (Filled-single κ a Δ β N g m) (λ c. single_weakened a (fill κ.metavariable_skeleton β N) (o c)) (single_owned o β a N q) n p) r)
