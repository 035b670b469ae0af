-- A solved store in an order of dependency has an answer.
use Rattle.std.proofs.Common.{◌≡◌, ℕ, zero, suc, List, [], ◌∷◌, Option, Some, None, ◌⊎◌, inl, inr, refl, sym, ap, ◌∙◌, subst}
use Rattle.lf.specs.Substitution.{reduce, single}
use Rattle.lf.specs.SkeletonTyping.{SkeletonAt, SpineSkeleton, TermSkeleton, TypeBySkeletons}
use Rattle.lf.specs.Skeletons.{context_skeletons, family_skeletons, family_skeleton, type_skeleton}
use Rattle.lf.specs.Syntax.{Kind, Skeleton, Spine, Term, LfType, app, atom, base, constant, kind_pi, lambda, metavariable, nil, pi, rename, rename_type, root, skeleton, kind_skeleton, star, variable, weaken}
use Rattle.lf.specs.Typing.{TypeAt, IsSignature, Signature, instantiate_kind, instantiate_type}
use Rattle.lf.specs.Variables.{onto}
use Rattle.lf_unification.specs.Filling.{fill, fill_type, moved, rename_value}
use Rattle.lf_unification.specs.OpenTyping.{MetavariablesIn, MetavariablesInType, OpenSpineFitsKind, OpenSpineType, OpenHasType, OpenIsType, skeletons_of, set_at}
use Rattle.lf_unification.specs.Dependency.{ListedMetavariable, IsListed, IsDependencyOrder, ValueIsOrdered, free_context, values}
use Rattle.lf_unification.specs.Patterns.{local_skeletons}
use Rattle.lf_unification.specs.Patterns.{eta_variable}
use Rattle.lf_unification.specs.Skeletons.{TotalSkeletons, as_head_skeletons, total_skeletons, skeleton_or_default}
use Rattle.lf.proofs.Eta.{eta_expand_has_skeleton, rename_eta_expand}
use Rattle.lf.proofs.ToSkeletons.{kind_skeleton_substituted}
use Rattle.lf.proofs.TypeLaws.{skeleton_renamed, skeleton_substituted}
use Rattle.lf_unification.proofs.Agree.{fill_agree, fill_agree_type, set_here}
use Rattle.lf_unification.proofs.Eta.{rename_id_type}
use Rattle.lf_unification.proofs.Filling.{SkeletonsFill, SkeletonsFill-weak, ValueHasSkeleton, TermSkeleton-fill, TypeBySkeletons-fill, fill_rename, fill_rename_type, skeleton_fill}
use Rattle.lf_unification.proofs.Offer.{decide, set_other}
use Rattle.lf_unification.proofs.OpenSound.{skeleton_raise}
use Rattle.lf_unification.proofs.Patterns.{moved_id}
use Rattle.lf_unification.proofs.Scope.{in_weaker, in_weaker_type}
use Rattle.lf_unification.proofs.Substitution.{SkeletonContext, skeleton_context_push}

module _ (Σ : Signature) (μ' : ℕ → Skeleton) (ok : IsSignature Σ) (Ψ : ℕ → Option LfType) (U : (ℕ → Option Term) → Type 0) where
  abbrev μ : ℕ → Skeleton
  μ = skeletons_of Ψ

  abbrev κ : TotalSkeletons
  κ = total_skeletons Σ μ

  -- what is typed in the empty outer context is typed by skeletons over every context
  at_skeletons : (D : List LfType) (Γ : List Skeleton) (i : ℕ) (A : LfType) → TypeAt (onto D []) i A → SkeletonAt (local_skeletons D Γ) i (skeleton A)
  at_skeletons [] Γ i A g = absurd g
  at_skeletons (B ∷ D) Γ zero A e = sym (ap skeleton e ∙ skeleton_renamed suc B)
  at_skeletons (B ∷ D) Γ (suc i) A (C, g, e) = subst (SkeletonAt (local_skeletons D Γ) i) (sym (ap skeleton e ∙ skeleton_renamed suc C)) (at_skeletons D Γ i C g)

  mutual
    pub open_skeletons : (D : List LfType) (Γ : List Skeleton) (M : Term) (A : LfType) → OpenHasType Σ [] Ψ U D M A → TermSkeleton (as_head_skeletons κ) (local_skeletons D Γ) M (skeleton A)
    open_skeletons D Γ (lambda M) (pi A B) m = open_skeletons (A ∷ D) Γ M B m
    open_skeletons D Γ (lambda M) (atom a T) m = m
    open_skeletons D Γ (root h S) (pi A B) m = m
    open_skeletons D Γ (root (constant c) S) (atom a T) (A, g, s) = (skeleton A, ap type_skeleton g, open_skeletons_spine D Γ S A (atom a T) s)
    open_skeletons D Γ (root (variable i) S) (atom a T) (A, g, s) = (skeleton A, at_skeletons D Γ i A g, open_skeletons_spine D Γ S A (atom a T) s)
    open_skeletons D Γ (root (metavariable m) S) (atom a T) (A, (B, g, e), s) = (skeleton A, ap Some (sym (ap skeleton e ∙ skeleton_raise D B ∙ sym (ap skeleton_or_default g))), open_skeletons_spine D Γ S A (atom a T) s)

    pub open_skeletons_spine : (D : List LfType) (Γ : List Skeleton) (S : Spine) (A C : LfType) → OpenSpineType Σ [] Ψ U D S A C → SpineSkeleton (as_head_skeletons κ) (local_skeletons D Γ) S (skeleton A) (skeleton C)
    open_skeletons_spine D Γ nil A C e = e.0
    open_skeletons_spine D Γ (app M S) (pi A B) C (m, s) = (open_skeletons D Γ M A m, subst (λ t. SpineSkeleton (as_head_skeletons κ) (local_skeletons D Γ) S t (skeleton C)) (skeleton_substituted reduce (single (skeleton A) M) B) (open_skeletons_spine D Γ S (instantiate_type A M B) C s))
    open_skeletons_spine D Γ (app M S) (atom a T) C s = absurd s

  pub open_skeletons_kind : (a : ℕ) (D : List LfType) (Γ : List Skeleton) (S : Spine) (K : Kind) → OpenSpineFitsKind Σ [] Ψ U D S K → SpineSkeleton (as_head_skeletons κ) (local_skeletons D Γ) S (kind_skeleton a K) (base a)
  open_skeletons_kind a D Γ nil (kind_pi A K) s = absurd s
  open_skeletons_kind a D Γ nil star s = refl
  open_skeletons_kind a D Γ (app M S) (kind_pi A K) (m, s) = (open_skeletons D Γ M A m, subst (λ t. SpineSkeleton (as_head_skeletons κ) (local_skeletons D Γ) S t (base a)) (kind_skeleton_substituted a reduce (single (skeleton A) M) K) (open_skeletons_kind a D Γ S (instantiate_kind A M K) s))
  open_skeletons_kind a D Γ (app M S) star s = absurd s

  pub open_skeletons_type : (D : List LfType) (Γ : List Skeleton) (A : LfType) → OpenIsType Σ [] Ψ U D A → TypeBySkeletons (family_skeletons Σ) (as_head_skeletons κ) (local_skeletons D Γ) A
  open_skeletons_type D Γ (pi A B) (a, b) = (open_skeletons_type D Γ A a, open_skeletons_type (A ∷ D) Γ B b)
  open_skeletons_type D Γ (atom a S) (K, e, s) = (kind_skeleton a K, ap (family_skeleton a) e, open_skeletons_kind a D Γ S K s)

  -- what is known of a listed metavariable
  abbrev pub Fact : List LfType → (ℕ → Option Term) → ℕ → LfType → Option Term → Type 0
  Fact F β m A (Some N) = β m ≡ Some (fill μ β N)
  Fact F β m A None = (x : ℕ) × (β m ≡ Some (eta_variable (skeleton A) x)) × TypeAt F x (fill_type μ β A)

  abbrev pub Facts : List LfType → (ℕ → Option Term) → List ListedMetavariable → Type 0
  Facts F β [] = Unit {0}
  Facts F β (it ∷ is) = Fact F β it.of it.of_type it.value × Facts F β is

  pub record Stage (is : List ListedMetavariable) : Type 0 where
    pub by_skeletons : SkeletonsFill κ (context_skeletons (free_context μ is)) (values μ is)
    pub context : SkeletonContext Σ μ ok (free_context μ is)
    pub none : (m : ℕ) → (IsListed is m → ⊥) → values μ is m ≡ None
    pub facts : Facts (free_context μ is) (values μ is) is
    pub entries : (i : ℕ) (X : LfType) → TypeAt (free_context μ is) i X → (m : ℕ) × (A : LfType) × IsListed is m × (Ψ m ≡ Some A) × (X ≡ fill_type μ (values μ is) A)

  -- facts go along, when the values are moved by ρ and one is added
  module _ (F F' : List LfType) (β : ℕ → Option Term) (ρ : ℕ → ℕ) (w : (i : ℕ) (A : LfType) → TypeAt F i A → TypeAt F' (ρ i) (rename_type ρ A)) (n : ℕ) (V : Term) (V₀ : ℕ → Type 0) (out : V₀ n → ⊥) where
    abbrev β' : ℕ → Option Term
    β' = set_at n (Some V) (moved ρ β)

    other : (m : ℕ) → V₀ m → moved ρ β m ≡ β' m
    other m v = sym (set_other n (Some V) (moved ρ β) m (λ e. out (subst V₀ e v)))

    move_type : (A : LfType) → MetavariablesInType V₀ A → ((ρ : ℕ → ℕ) → rename_type ρ A ≡ A) → rename_type ρ (fill_type μ β A) ≡ fill_type μ β' A
    move_type A i c = fill_rename_type μ ρ β A ∙ ap (fill_type μ (moved ρ β)) (c ρ) ∙ fill_agree_type V₀ μ μ (λ m v. refl) (moved ρ β) β' A other i

    move_term : (N : Term) → MetavariablesIn V₀ N → ((ρ : ℕ → ℕ) → rename ρ N ≡ N) → rename ρ (fill μ β N) ≡ fill μ β' N
    move_term N i c = fill_rename μ ρ β N ∙ ap (fill μ (moved ρ β)) (c ρ) ∙ fill_agree V₀ μ μ (λ m v. refl) (moved ρ β) β' N other i

    move_fact : (m : ℕ) (A : LfType) (x : Option Term) → V₀ m → MetavariablesInType V₀ A → ((ρ : ℕ → ℕ) → rename_type ρ A ≡ A) → ((N : Term) → x ≡ Some N → MetavariablesIn V₀ N × ((ρ : ℕ → ℕ) → rename ρ N ≡ N)) → Fact F β m A x → Fact F' β' m A x
    move_fact m A (Some N) v i c h e = let (j, d) = h N refl in sym (other m v) ∙ ap (rename_value ρ) e ∙ ap Some (move_term N j d)
    move_fact m A None v i c h (x, e, g) = (ρ x, sym (other m v) ∙ ap (rename_value ρ) e ∙ ap Some (rename_eta_expand ρ (skeleton A) (variable x) nil), subst (TypeAt F' (ρ x)) (move_type A i c) (w x (fill_type μ β A) g))

  pub ordered_at : (is : List ListedMetavariable) → IsDependencyOrder Σ Ψ U is → (m : ℕ) → IsListed is m → (A : LfType) × (Ψ m ≡ Some A) × MetavariablesInType (IsListed is) A × OpenIsType Σ [] Ψ U [] A × ((ρ : ℕ → ℕ) → rename_type ρ A ≡ A)
  ordered_at [] o m l = absurd l
  ordered_at (it ∷ is) o m (inl e) = (it.of_type, ap Ψ e ∙ o.1, in_weaker_type (IsListed is) (IsListed (it ∷ is)) (λ k v. inr v) it.of_type o.3, o.4, o.5)
  ordered_at (it ∷ is) o m (inr l) = let (A, d, i, t, c) = ordered_at is o.0 m l in (A, d, in_weaker_type (IsListed is) (IsListed (it ∷ is)) (λ k v. inr v) A i, t, c)

  value_ok : (V₀ : ℕ → Type 0) (is : List ListedMetavariable) (A : LfType) (x : Option Term) → ((m : ℕ) → IsListed is m → V₀ m) → ValueIsOrdered Σ Ψ U is A x → (N : Term) → x ≡ Some N → MetavariablesIn V₀ N × ((ρ : ℕ → ℕ) → rename ρ N ≡ N)
  value_ok V₀ is A None s v N e = cc
  value_ok V₀ is A (Some M) s (i, t, c) N e = let q : M ≡ N = cc in subst (λ Z. MetavariablesIn V₀ Z × ((ρ : ℕ → ℕ) → rename ρ Z ≡ Z)) q (in_weaker (IsListed is) V₀ s M i, c)

  move_facts : (F F' : List LfType) (β : ℕ → Option Term) (ρ : ℕ → ℕ) (w : (i : ℕ) (A : LfType) → TypeAt F i A → TypeAt F' (ρ i) (rename_type ρ A)) (n : ℕ) (V : Term) (V₀ : ℕ → Type 0) (out : V₀ n → ⊥) (is : List ListedMetavariable) → ((m : ℕ) → IsListed is m → V₀ m) → IsDependencyOrder Σ Ψ U is → Facts F β is → Facts F' (set_at n (Some V) (moved ρ β)) is
  move_facts F F' β ρ w n V V₀ out [] s o f = tt
  move_facts F F' β ρ w n V V₀ out (it ∷ is) s o (f, fs) = (
    move_fact F F' β ρ w n V V₀ out it.of it.of_type it.value (s it.of (inl refl)) (in_weaker_type (IsListed is) V₀ (λ m l. s m (inr l)) it.of_type o.3) o.5 (value_ok V₀ is it.of_type it.value (λ m l. s m (inr l)) o.6) f,
    move_facts F F' β ρ w n V V₀ out is (λ m l. s m (inr l)) o.0 fs,
  )

  step_free : (is : List ListedMetavariable) (n : ℕ) (A : LfType) → IsDependencyOrder Σ Ψ U is → Stage is → Ψ n ≡ Some A → (IsListed is n → ⊥) → MetavariablesInType (IsListed is) A → OpenIsType Σ [] Ψ U [] A → ((ρ : ℕ → ℕ) → rename_type ρ A ≡ A) → Stage (record { of = n; of_type = A; value = None } ∷ is)
  step_free is n A o w d out i t c = record {
    by_skeletons = λ m. by_skeletons' m (decide m n);
    context = skeleton_context_push Σ μ ok F (fill_type μ β A) w.context (TypeBySkeletons-fill κ (family_skeletons Σ) (context_skeletons F) β A w.by_skeletons (open_skeletons_type [] (context_skeletons F) A t));
    none = λ m h. set_other n (Some (eta_variable (skeleton A) zero)) (moved suc β) m (λ e. h (inl e)) ∙ ap (rename_value suc) (w.none m (λ l. h (inr l)));
    facts = ((zero, set_here n (Some (eta_variable (skeleton A) zero)) (moved suc β), sym (move_type F F' β suc up_at n (eta_variable (skeleton A) zero) (IsListed is) out A i c)), move_facts F F' β suc up_at n (eta_variable (skeleton A) zero) (IsListed is) out is (λ m l. l) o w.facts);
    entries = entries';
  }
    where
      F : List LfType
      F = free_context (skeletons_of Ψ) is

      β : ℕ → Option Term
      β = values (skeletons_of Ψ) is

      F' : List LfType
      F' = fill_type (skeletons_of Ψ) (values (skeletons_of Ψ) is) A ∷ free_context (skeletons_of Ψ) is

      up_at : (i : ℕ) (X : LfType) → TypeAt (free_context (skeletons_of Ψ) is) i X → TypeAt (fill_type (skeletons_of Ψ) (values (skeletons_of Ψ) is) A ∷ free_context (skeletons_of Ψ) is) (suc i) (rename_type suc X)
      up_at i X g = (X, g, refl)

      by_skeletons' : (m : ℕ) → (m ≡ n) ⊎ (m ≡ n → ⊥) → ValueHasSkeleton κ (skeleton (fill_type (skeletons_of Ψ) (values (skeletons_of Ψ) is) A) ∷ context_skeletons (free_context (skeletons_of Ψ) is)) (set_at n (Some (eta_variable (skeleton A) zero)) (moved suc (values (skeletons_of Ψ) is)) m) (skeletons_of Ψ m)
      by_skeletons' m (inl e) = subst (λ k. ValueHasSkeleton κ (skeleton (fill_type (skeletons_of Ψ) (values (skeletons_of Ψ) is) A) ∷ context_skeletons (free_context (skeletons_of Ψ) is)) (set_at n (Some (eta_variable (skeleton A) zero)) (moved suc (values (skeletons_of Ψ) is)) k) (skeletons_of Ψ k)) (sym e)
          (subst (λ y. ValueHasSkeleton κ (skeleton (fill_type (skeletons_of Ψ) (values (skeletons_of Ψ) is) A) ∷ context_skeletons (free_context (skeletons_of Ψ) is)) y (skeletons_of Ψ n)) (sym (set_here n (Some (eta_variable (skeleton A) zero)) (moved suc (values (skeletons_of Ψ) is))))
          (subst (TermSkeleton (as_head_skeletons κ) (skeleton (fill_type (skeletons_of Ψ) (values (skeletons_of Ψ) is) A) ∷ context_skeletons (free_context (skeletons_of Ψ) is)) (eta_variable (skeleton A) zero)) (sym (ap skeleton_or_default d)) (eta_expand_has_skeleton (as_head_skeletons κ) (skeleton A) (skeleton A) (skeleton (fill_type (skeletons_of Ψ) (values (skeletons_of Ψ) is) A) ∷ context_skeletons (free_context (skeletons_of Ψ) is)) (variable zero) nil (skeleton_fill (skeletons_of Ψ) (values (skeletons_of Ψ) is) A) refl)))
      by_skeletons' m (inr h) = subst (λ y. ValueHasSkeleton κ (skeleton (fill_type (skeletons_of Ψ) (values (skeletons_of Ψ) is) A) ∷ context_skeletons (free_context (skeletons_of Ψ) is)) y (skeletons_of Ψ m)) (sym (set_other n (Some (eta_variable (skeleton A) zero)) (moved suc (values (skeletons_of Ψ) is)) m h)) (SkeletonsFill-weak κ (skeleton (fill_type (skeletons_of Ψ) (values (skeletons_of Ψ) is) A)) (context_skeletons (free_context (skeletons_of Ψ) is)) (values (skeletons_of Ψ) is) w.by_skeletons m)

      entries' : (j : ℕ) (X : LfType) → TypeAt (fill_type (skeletons_of Ψ) (values (skeletons_of Ψ) is) A ∷ free_context (skeletons_of Ψ) is) j X → (m : ℕ) × (B : LfType) × IsListed (record { of = n; of_type = A; value = None } ∷ is) m × (Ψ m ≡ Some B) × (X ≡ fill_type (skeletons_of Ψ) (set_at n (Some (eta_variable (skeleton A) zero)) (moved suc (values (skeletons_of Ψ) is))) B)
      entries' zero X e = (n, A, inl refl, d, e ∙ move_type F F' β suc up_at n (eta_variable (skeleton A) zero) (IsListed is) out A i c)
      entries' (suc j) X (C, g, e) =
          let (m, B, l, q, r) = w.entries j C g in
          let (B', d', i', t', c') = ordered_at is o m l in
          let s : B' ≡ B = (let z : Some B' ≡ Some B = sym d' ∙ q in cc) in
          (m, B, inr l, q, e ∙ ap weaken (r ∙ ap (fill_type (skeletons_of Ψ) (values (skeletons_of Ψ) is)) (sym s)) ∙ move_type F F' β suc up_at n (eta_variable (skeleton A) zero) (IsListed is) out B' i' c' ∙ ap (fill_type (skeletons_of Ψ) (set_at n (Some (eta_variable (skeleton A) zero)) (moved suc (values (skeletons_of Ψ) is)))) s)

  step_bound : (is : List ListedMetavariable) (n : ℕ) (A : LfType) (N : Term) → IsDependencyOrder Σ Ψ U is → Stage is → Ψ n ≡ Some A → (IsListed is n → ⊥) → MetavariablesIn (IsListed is) N → OpenHasType Σ [] Ψ U [] N A → ((ρ : ℕ → ℕ) → rename ρ N ≡ N) → Stage (record { of = n; of_type = A; value = Some N } ∷ is)
  step_bound is n A N o w d out i t c = record {
    by_skeletons = λ m. by_skeletons' m (decide m n);
    context = w.context;
    none = λ m h. set_other n (Some V) β m (λ e. h (inl e)) ∙ w.none m (λ l. h (inr l));
    facts = (set_here n (Some V) β ∙ ap Some (agree_term N i), subst (λ b. Facts F (set_at n (Some V) b) is) (moved_id β) (move_facts F F β (λ j. j) (λ j X g. subst (TypeAt F j) (sym (rename_id_type X)) g) n V (IsListed is) out is (λ m l. l) o w.facts));
    entries = λ j X g. let (m, B, l, q, r) = w.entries j X g in let (B', d', i', t', c') = ordered_at is o m l in let s : B' ≡ B = (let z : Some B' ≡ Some B = sym d' ∙ q in cc) in (m, B, inr l, q, r ∙ ap (fill_type μ β) (sym s) ∙ agree_type B' i' ∙ ap (fill_type μ (set_at n (Some V) β)) s);
  }
    where
      F : List LfType
      F = free_context (skeletons_of Ψ) is

      β : ℕ → Option Term
      β = values (skeletons_of Ψ) is

      V : Term
      V = fill (skeletons_of Ψ) (values (skeletons_of Ψ) is) N

      old : (m : ℕ) → IsListed is m → values (skeletons_of Ψ) is m ≡ set_at n (Some (fill (skeletons_of Ψ) (values (skeletons_of Ψ) is) N)) (values (skeletons_of Ψ) is) m
      old m l = sym (set_other n (Some (fill (skeletons_of Ψ) (values (skeletons_of Ψ) is) N)) (values (skeletons_of Ψ) is) m (λ e. out (subst (IsListed is) e l)))

      agree_term : (M : Term) → MetavariablesIn (IsListed is) M → fill (skeletons_of Ψ) (values (skeletons_of Ψ) is) M ≡ fill (skeletons_of Ψ) (set_at n (Some (fill (skeletons_of Ψ) (values (skeletons_of Ψ) is) N)) (values (skeletons_of Ψ) is)) M
      agree_term M j = fill_agree (IsListed is) (skeletons_of Ψ) (skeletons_of Ψ) (λ m v. refl) (values (skeletons_of Ψ) is) (set_at n (Some (fill (skeletons_of Ψ) (values (skeletons_of Ψ) is) N)) (values (skeletons_of Ψ) is)) M old j

      agree_type : (B : LfType) → MetavariablesInType (IsListed is) B → fill_type (skeletons_of Ψ) (values (skeletons_of Ψ) is) B ≡ fill_type (skeletons_of Ψ) (set_at n (Some (fill (skeletons_of Ψ) (values (skeletons_of Ψ) is) N)) (values (skeletons_of Ψ) is)) B
      agree_type B j = fill_agree_type (IsListed is) (skeletons_of Ψ) (skeletons_of Ψ) (λ m v. refl) (values (skeletons_of Ψ) is) (set_at n (Some (fill (skeletons_of Ψ) (values (skeletons_of Ψ) is) N)) (values (skeletons_of Ψ) is)) B old j

      by_skeletons' : (m : ℕ) → (m ≡ n) ⊎ (m ≡ n → ⊥) → ValueHasSkeleton κ (context_skeletons (free_context (skeletons_of Ψ) is)) (set_at n (Some (fill (skeletons_of Ψ) (values (skeletons_of Ψ) is) N)) (values (skeletons_of Ψ) is) m) (skeletons_of Ψ m)
      by_skeletons' m (inl e) = subst (λ k. ValueHasSkeleton κ (context_skeletons (free_context (skeletons_of Ψ) is)) (set_at n (Some (fill (skeletons_of Ψ) (values (skeletons_of Ψ) is) N)) (values (skeletons_of Ψ) is) k) (skeletons_of Ψ k)) (sym e)
          (subst (λ y. ValueHasSkeleton κ (context_skeletons (free_context (skeletons_of Ψ) is)) y (skeletons_of Ψ n)) (sym (set_here n (Some (fill (skeletons_of Ψ) (values (skeletons_of Ψ) is) N)) (values (skeletons_of Ψ) is)))
          (subst (TermSkeleton (as_head_skeletons κ) (context_skeletons (free_context (skeletons_of Ψ) is)) (fill (skeletons_of Ψ) (values (skeletons_of Ψ) is) N)) (sym (ap skeleton_or_default d)) (TermSkeleton-fill κ (context_skeletons (free_context (skeletons_of Ψ) is)) (values (skeletons_of Ψ) is) N (skeleton A) w.by_skeletons (open_skeletons [] (context_skeletons (free_context (skeletons_of Ψ) is)) N A t))))
      by_skeletons' m (inr h) = subst (λ y. ValueHasSkeleton κ (context_skeletons (free_context (skeletons_of Ψ) is)) y (skeletons_of Ψ m)) (sym (set_other n (Some (fill (skeletons_of Ψ) (values (skeletons_of Ψ) is) N)) (values (skeletons_of Ψ) is) m h)) (w.by_skeletons m)

  pub stage : (is : List ListedMetavariable) → IsDependencyOrder Σ Ψ U is → Stage is
  stage [] o = record { by_skeletons = λ m. tt; context = λ i A g. absurd g; none = λ m h. refl; facts = tt; entries = λ i X g. absurd g }
  stage (it ∷ is) o = go it.value o.6 (stage is o.0)
    where
      go : (x : Option Term) → ValueIsOrdered Σ Ψ U is it.of_type x → Stage is → Stage (record { of = it.of; of_type = it.of_type; value = x } ∷ is)
      go None v w = step_free is it.of it.of_type o.0 w o.1 o.2 o.3 o.4 o.5
      go (Some N) v w = step_bound is it.of it.of_type N o.0 w o.1 o.2 v.0 v.1 v.2
