-- A state that is met by a typed unifier, and one metavariable more.
use Rattle.std.proofs.Common.{◌≡◌, ℕ, zero, suc, List, [], ◌∷◌, Option, Some, None, refl, sym, ap, ap₂, ◌∙◌, subst, arith}
use Rattle.std.specs.Prelude.{slice_get}
use Rattle.lf.specs.Eta.{add_last, eta_expand}
use Rattle.lf.specs.SkeletonTyping.{KindBySkeletons, SkeletonAt, SpineSkeleton, TermSkeleton, TypeBySkeletons}
use Rattle.lf.specs.Skeletons.{context_skeletons, family_skeletons, type_skeleton}
use Rattle.lf.specs.Syntax.{Kind, LfType, Skeleton, Spine, Term, app, arrow, base, constant, kind_pi, lambda, metavariable, nil, pi, rename, rename_spine, skeleton, star, weaken}
use Rattle.lf.specs.Typing.{HasType, IsSignature, Signature, instantiate_kind, instantiate_type}
use Rattle.lf.specs.Variables.{onto}
use Rattle.lf.proofs.Eta.{reduce_nil}
use Rattle.lf.proofs.SkeletonTypes.{renaming_keeps_types_by_skeletons}
use Rattle.lf.proofs.SkeletonTyping.{renaming_keeps_skeletons, renaming_keeps_spine_skeletons}
use Rattle.lf_unification.specs.Filling.{fill, fill_spine, fill_type, moved, rename_value}
use Rattle.lf_unification.specs.Offering.{pi_over, raised, lambda_over}
use Rattle.lf_unification.specs.OpenTyping.{Declares, IsInstance, MetavariablesInType, fill_locals, set_at, skeletons_of, under_locals, weaken_past}
use Rattle.lf_unification.specs.Patterns.{beyond, eta_variable, local_skeletons}
use Rattle.lf_unification.specs.Skeletons.{TotalSkeletons, as_head_skeletons, skeleton_or_default, total_skeletons}
use Rattle.lf_unification.specs.Unifiers.{SolvesAll}
use Rattle.lf_unification.proofs.Agree.{fill_agree, fill_agree_spine, fill_agree_type}
use Rattle.lf_unification.proofs.EquationLemmas.{solves_agree}
use Rattle.lf_unification.proofs.Eta.{rename_id, rename_id_type}
use Rattle.lf_unification.proofs.Filling.{SkeletonsFill, ValueHasSkeleton, fill_instance, fill_rename_spine}
use Rattle.lf_unification.proofs.Offer.{Ready, inst', is_value, local_agree, same_value, under_agree}
use Rattle.lf_unification.proofs.OpenRenamingBack.{fill_moved, raise_moved}
use Rattle.lf_unification.proofs.OpenSound.{PartialInstance-of, skeletons_under}
use Rattle.lf_unification.proofs.OpenTypes.{fill_instance_kind, fill_kind}
use Rattle.lf_unification.proofs.Patterns.{fill_add, fill_expand}
use Rattle.lf_unification.proofs.Raise.{fill_eta, local_skeleton_fill}
use Rattle.lf_unification.proofs.Scope.{in_rename_type}
use Rattle.lf_unification.proofs.StepLemmas.{under_moved}
use Rattle.lf_elaboration.specs.Completions.{FreeValue}
use Rattle.lf_elaboration.specs.Skeletons.{KindHasSkeletons, LocalHasSkeletons, StateHasSkeletons, TermHasSkeleton, TypeHasSkeletons, heads_of}
use Rattle.lf_elaboration.specs.State.{State, with_metavariable}
use Rattle.lf_elaboration.proofs.Adds.{Grows, adds_metavariable}
use Rattle.lf_elaboration.proofs.Made.{declares_known, equations_declared, local_declared, term_declared, type_declared}
use Rattle.lf_elaboration.proofs.Skeletons.{local_grows, more_heads, more_heads_spine, more_heads_type, new_state, spine_mentions_known}

-- an eta-long constant, filled
pub fill_expand_constant : (μ : ℕ → Skeleton) (a : Skeleton) (β : ℕ → Option Term) (c : ℕ) (S : Spine) → fill μ β (eta_expand a (constant c) S) ≡ eta_expand a (constant c) (fill_spine μ β S)
fill_expand_constant μ (base b) β c S = refl
fill_expand_constant μ (arrow a b) β c S = ap lambda (fill_expand_constant μ b (moved suc β) c (add_last (rename_spine suc S) (eta_variable a zero))
    ∙ ap (eta_expand b (constant c)) (fill_add μ (moved suc β) (rename_spine suc S) (eta_variable a zero) ∙ ap₂ add_last (sym (fill_rename_spine μ suc β S)) (fill_expand μ a (moved suc β) zero nil)))

wider : (D : List LfType) (Γ : List Skeleton) (i : ℕ) (t : Skeleton) → SkeletonAt (local_skeletons D []) i t → SkeletonAt (local_skeletons D Γ) i t
wider [] Γ i t g = absurd g
wider (A ∷ D) Γ zero t g = g
wider (A ∷ D) Γ (suc i) t g = wider D Γ i t g

rename_id_spine : (S : Spine) → rename_spine (λ i. i) S ≡ S
rename_id_spine nil = refl
rename_id_spine (app M S) = ap₂ app (rename_id M) (rename_id_spine S)

module _ (Σ : Signature) (ok : IsSignature Σ) (F : List LfType) (frees : List ℕ) (values : List FreeValue) where
  abbrev φ : ℕ → Option Skeleton
  φ = family_skeletons Σ

  abbrev pub μ_of : State → ℕ → Skeleton
  μ_of s = skeletons_of s.metavariables

  abbrev pub κ_of : State → TotalSkeletons
  κ_of s = total_skeletons Σ (skeletons_of s.metavariables)

  abbrev pub in_scope : List LfType → List Skeleton
  in_scope D = local_skeletons D (context_skeletons F)

  -- what a type, a term, a spine, a kind in the local context is under a filling
  abbrev pub at_type : State → List LfType → (ℕ → Option Term) → LfType → LfType
  at_type s D β A = fill_type (skeletons_of s.metavariables) (under_locals D β) A

  abbrev pub at_term : State → List LfType → (ℕ → Option Term) → Term → Term
  at_term s D β M = fill (skeletons_of s.metavariables) (under_locals D β) M

  abbrev pub at_spine : State → List LfType → (ℕ → Option Term) → Spine → Spine
  at_spine s D β S = fill_spine (skeletons_of s.metavariables) (under_locals D β) S

  abbrev pub at_kind : State → List LfType → (ℕ → Option Term) → Kind → Kind
  at_kind s D β K = fill_kind (skeletons_of s.metavariables) (under_locals D β) K

  -- each free variable has its value
  abbrev pub FreesMeet : State → (ℕ → Option Term) → Type 0
  FreesMeet s β = (i m : ℕ) (v : FreeValue) → slice_get frees i ≡ Some m → slice_get values i ≡ Some v → (B : LfType) × (s.metavariables m ≡ Some B) × (β m ≡ Some v.term) × (fill_type (skeletons_of s.metavariables) β B ≡ v.of_type)

  -- a typed unifier of the state, under which the local context is E
  pub record Meets (s : State) (D : List LfType) (β : ℕ → Option Term) (E : List LfType) : Type 0 where
    pub state : StateHasSkeletons Σ s
    pub local : LocalHasSkeletons Σ s D
    pub inst : IsInstance Σ [] s.metavariables F β
    pub solved : SolvesAll (skeletons_of s.metavariables) β s.equations
    pub same_local : fill_locals (skeletons_of s.metavariables) β D ≡ E
    pub free_values : FreesMeet s β

  abbrev pub Kept : State → (ℕ → Option Term) → (ℕ → Option Term) → Type 0
  Kept s β β' = (m : ℕ) → Declares s.metavariables m → β m ≡ β' m

  -- what stood before is the same under the later filling
  module _ (s s' : State) (g : Grows s s') (w : StateHasSkeletons Σ s) (β β' : ℕ → Option Term) (h : Kept s β β') where
    same_skeletons : (m : ℕ) → Declares s.metavariables m → skeletons_of s.metavariables m ≡ skeletons_of s'.metavariables m
    same_skeletons m d = ap skeleton_or_default (d.1 ∙ sym (g.keeps m d.0 d.1))

    pub type_kept : (D : List LfType) (A : LfType) → TypeHasSkeletons Σ s D A → at_type s D β A ≡ at_type s' D β' A
    type_kept D A a = fill_agree_type (Declares s.metavariables) (μ_of s) (μ_of s') same_skeletons (under_locals D β) (under_locals D β') A (under_agree (Declares s.metavariables) D β β' h) (type_declared Σ s w D A a)

    pub term_kept : (D : List LfType) (M : Term) (A : LfType) → TermHasSkeleton Σ s D M A → at_term s D β M ≡ at_term s' D β' M
    term_kept D M A m = fill_agree (Declares s.metavariables) (μ_of s) (μ_of s') same_skeletons (under_locals D β) (under_locals D β') M (under_agree (Declares s.metavariables) D β β' h) (term_declared Σ s w D M A m)

    pub spine_kept : (D : List LfType) (S : Spine) (t u : Skeleton) → SpineSkeleton (heads_of Σ s) (local_skeletons D []) S t u → at_spine s D β S ≡ at_spine s' D β' S
    spine_kept D S t u m = fill_agree_spine (Declares s.metavariables) (μ_of s) (μ_of s') same_skeletons (under_locals D β) (under_locals D β') S (under_agree (Declares s.metavariables) D β β' h) (spine_mentions_known (heads_of Σ s) (Declares s.metavariables) (declares_known Σ s w) (local_skeletons D []) S t u m)

    pub kind_kept : (D : List LfType) (K : Kind) → KindHasSkeletons Σ s D K → at_kind s D β K ≡ at_kind s' D β' K
    kind_kept D (kind_pi A K) (a, k) = ap₂ kind_pi (type_kept D A a) (kind_kept (A ∷ D) K k)
    kind_kept D star k = refl

    pub kept_further : (s'' : State) (β'' : ℕ → Option Term) → Kept s' β' β'' → Kept s β β''
    kept_further s'' β'' k m d = h m d ∙ k m (d.0, g.keeps m d.0 d.1)

    -- met by the later filling too
    pub meets_on : (D E : List LfType) → Meets s D β E → StateHasSkeletons Σ s' → IsInstance Σ [] s'.metavariables F β' → SolvesAll (skeletons_of s'.metavariables) β' s'.equations → Meets s' D β' E
    meets_on D E x w' i e = record {
      state = w';
      local = local_grows Σ ok s s' g D x.local;
      inst = i;
      solved = e;
      same_local = sym (local_agree (Declares s.metavariables) (μ_of s) (μ_of s') same_skeletons D β β' h (local_declared Σ s w D x.local)) ∙ x.same_local;
      free_values = λ i m v p q. let (B, b, y, z) = x.free_values i m v p q in (B, g.keeps m B b, sym (h m (B, b)) ∙ y, sym (type_kept [] B (w.types m B b)) ∙ z);
    }

  -- over the free context, and for all metavariables
  total_head : (s : State) (m : ℕ) (t : Skeleton) → type_skeleton (s.metavariables m) ≡ Some t → Some (skeleton_or_default (s.metavariables m)) ≡ Some t
  total_head s m t e = go (s.metavariables m) e
    where
      go : (x : Option LfType) → type_skeleton x ≡ Some t → Some (skeleton_or_default x) ≡ Some t
      go None f = absurd (cc)
      go (Some A) f = f

  pub total_type : (s : State) (D : List LfType) (A : LfType) → TypeHasSkeletons Σ s D A → TypeBySkeletons φ (as_head_skeletons (κ_of s)) (in_scope D) A
  total_type s D A a = subst (TypeBySkeletons φ (as_head_skeletons (κ_of s)) (in_scope D)) (rename_id_type A) (renaming_keeps_types_by_skeletons φ (as_head_skeletons (κ_of s)) (local_skeletons D []) (in_scope D) (λ i. i) A (wider D (context_skeletons F)) (more_heads_type (heads_of Σ s) (as_head_skeletons (κ_of s)) (λ c t f. f) (total_head s) φ (local_skeletons D []) A a))

  pub total_term : (s : State) (D : List LfType) (M : Term) (A : LfType) → TermHasSkeleton Σ s D M A → TermSkeleton (as_head_skeletons (κ_of s)) (in_scope D) M (skeleton A)
  total_term s D M A m = subst (λ N. TermSkeleton (as_head_skeletons (κ_of s)) (in_scope D) N (skeleton A)) (rename_id M) (renaming_keeps_skeletons (as_head_skeletons (κ_of s)) (local_skeletons D []) (in_scope D) (λ i. i) M (skeleton A) (wider D (context_skeletons F)) (more_heads (heads_of Σ s) (as_head_skeletons (κ_of s)) (λ c t f. f) (total_head s) (local_skeletons D []) M (skeleton A) m))

  pub total_spine : (s : State) (D : List LfType) (S : Spine) (t u : Skeleton) → SpineSkeleton (heads_of Σ s) (local_skeletons D []) S t u → SpineSkeleton (as_head_skeletons (κ_of s)) (in_scope D) S t u
  total_spine s D S t u m = subst (λ T. SpineSkeleton (as_head_skeletons (κ_of s)) (in_scope D) T t u) (rename_id_spine S) (renaming_keeps_spine_skeletons (as_head_skeletons (κ_of s)) (local_skeletons D []) (in_scope D) (λ i. i) S t u (wider D (context_skeletons F)) (more_heads_spine (heads_of Σ s) (as_head_skeletons (κ_of s)) (λ c t f. f) (total_head s) (local_skeletons D []) S t u m))

  pub total_kind : (s : State) (D : List LfType) (K : Kind) → KindHasSkeletons Σ s D K → KindBySkeletons φ (as_head_skeletons (κ_of s)) (in_scope D) K
  total_kind s D (kind_pi A K) (a, k) = (total_type s D A a, total_kind s (A ∷ D) K k)
  total_kind s D star k = k

  pub filled : (s : State) (D : List LfType) (β : ℕ → Option Term) → IsInstance Σ [] s.metavariables F β → SkeletonsFill (κ_of s) (in_scope D) (under_locals D β)
  filled s D β i = subst (λ Γ. SkeletonsFill (κ_of s) Γ (under_locals D β)) (local_skeleton_fill (μ_of s) β D F) (skeletons_under Σ ok [] s.metavariables (λ b. Unit {0}) (λ m. Unit {0}) F β (PartialInstance-of Σ ok [] s.metavariables (λ m. Unit {0}) F β i) D)

  -- filling goes through the arguments put in
  pub instance_at : (s : State) (D : List LfType) (β : ℕ → Option Term) (A : LfType) (M : Term) (B : LfType) → IsInstance Σ [] s.metavariables F β → TermHasSkeleton Σ s D M A → TypeHasSkeletons Σ s (A ∷ D) B → at_type s D β (instantiate_type A M B) ≡ instantiate_type (at_type s D β A) (at_term s D β M) (at_type s (A ∷ D) β B)
  instance_at s D β A M B i m b = fill_instance (κ_of s) φ (in_scope D) (under_locals D β) A M B (filled s D β i) (total_term s D M A m) (total_type s (A ∷ D) B b)

  pub kind_instance_at : (s : State) (D : List LfType) (β : ℕ → Option Term) (A : LfType) (M : Term) (K : Kind) → IsInstance Σ [] s.metavariables F β → TermHasSkeleton Σ s D M A → KindHasSkeletons Σ s (A ∷ D) K → at_kind s D β (instantiate_kind A M K) ≡ instantiate_kind (at_type s D β A) (at_term s D β M) (at_kind s (A ∷ D) β K)
  kind_instance_at s D β A M K i m k = fill_instance_kind (κ_of s) φ (in_scope D) (under_locals D β) A M K (filled s D β i) (total_term s D M A m) (total_kind s (A ∷ D) K k)

  -- one metavariable more, with a value
  module _ (s : State) (D : List LfType) (β : ℕ → Option Term) (E : List LfType) (x : Meets s D β E) (A : LfType) (a : TypeHasSkeletons Σ s D A) (M : Term) (m : HasType Σ (onto E F) M (fill_type (skeletons_of s.metavariables) (under_locals D β) A)) where
    abbrev pub after : State
    after = with_metavariable D A s

    abbrev pub new_filling : ℕ → Option Term
    new_filling = set_at s.next (Some (lambda_over D M)) β

    g : Grows s after
    g = adds_metavariable D A s x.state.numbered

    ready : Ready Σ ok [] F D (pi A (weaken A)) s.metavariables s.next β
    ready =
        let i : MetavariablesInType (Declares s.metavariables) A = type_declared Σ s x.state D A a in
        let t : TypeBySkeletons φ (as_head_skeletons (κ_of s)) (in_scope D) A = total_type s D A a in
        record {
          inst = x.inst;
          fresh = x.state.numbered.fresh;
          scoped = λ k B e. type_declared Σ s x.state [] B (x.state.types k B e);
          outer_scoped = λ k B h. absurd h;
          local_scoped = local_declared Σ s x.state D x.local;
          type_scoped = (i, in_rename_type (Declares s.metavariables) suc A i);
          type_skeletons = (t, renaming_keeps_types_by_skeletons φ (as_head_skeletons (κ_of s)) (in_scope D) (skeleton A ∷ in_scope D) suc A (λ k u h. h) t);
        }

    m' : HasType Σ (onto (fill_locals (skeletons_of s.metavariables) β D) F) M (fill_type (skeletons_of s.metavariables) (under_locals D β) A)
    m' = subst (λ X. HasType Σ (onto X F) M (fill_type (skeletons_of s.metavariables) (under_locals D β) A)) (sym x.same_local) m

    pub new_kept : Kept s β new_filling
    new_kept k d = same_value s.metavariables s.next (x.state.numbered.fresh s.next (omega arith)) (pi_over D A) (lambda_over D M) β k d

    pub new_meets : Meets after D new_filling E
    new_meets = meets_on s after g x.state β new_filling new_kept D E x (new_state Σ ok D A s x.state x.local a) (inst' Σ ok [] F D A (weaken A) s.metavariables s.next β ready M m')
        (solves_agree (Declares s.metavariables) (μ_of s) (μ_of after) (same_skeletons s after g x.state β new_filling new_kept) β new_filling new_kept s.equations (equations_declared Σ s x.state s.equations x.state.equations) x.solved)

    pub new_value : at_term after D new_filling (raised D A s.next) ≡ M
    new_value = is_value Σ ok [] F D A (weaken A) s.metavariables s.next β ready M m'

  -- under a binder
  pub meets_under : (s : State) (D : List LfType) (β : ℕ → Option Term) (E : List LfType) (A X : LfType) → Meets s D β E → TypeHasSkeletons Σ s D A → at_type s D β A ≡ X → Meets s (A ∷ D) β (X ∷ E)
  meets_under s D β E A X x a e = record { state = x.state; local = (x.local, a); inst = x.inst; solved = x.solved; same_local = ap₂ (λ T L. T ∷ L) e x.same_local; free_values = x.free_values }

  pub meets_out : (s : State) (D : List LfType) (β : ℕ → Option Term) (E : List LfType) (A X : LfType) → Meets s (A ∷ D) β (X ∷ E) → Meets s D β E
  meets_out s D β E A X x = record { state = x.state; local = x.local.0; inst = x.inst; solved = x.solved; same_local = tails x.same_local; free_values = x.free_values }
    where
      tails : {T T' : LfType} {L L' : List LfType} → (T ∷ L) ≡ (T' ∷ L') → L ≡ L'
      tails e = cc

  -- a free variable, moved inside
  pub free_at : (s : State) (D : List LfType) (β : ℕ → Option Term) (m : ℕ) (B : LfType) (N : Term) → IsInstance Σ [] s.metavariables F β → s.metavariables m ≡ Some B → β m ≡ Some N → at_term s D β (eta_expand (skeleton B) (metavariable m) nil) ≡ rename (beyond D) N
  free_at s D β m B N i e f =
      let q : under_locals D β m ≡ Some (rename (beyond D) N) = ap (λ γ. γ m) (under_moved D β) ∙ ap (rename_value (beyond D)) f in
      let k : skeletons_of s.metavariables m ≡ skeleton B = ap skeleton_or_default e in
      let v : TermSkeleton (as_head_skeletons (κ_of s)) (in_scope D) (rename (beyond D) N) (skeletons_of s.metavariables m) = subst (λ y. ValueHasSkeleton (κ_of s) (in_scope D) y (skeletons_of s.metavariables m)) q (filled s D β i m) in
      fill_eta (κ_of s) (skeleton B) (in_scope D) (under_locals D β) m (rename (beyond D) N) nil (filled s D β i) q v k ∙ reduce_nil (skeletons_of s.metavariables m) (rename (beyond D) N)

  pub free_type_at : (s : State) (D : List LfType) (β : ℕ → Option Term) (B : LfType) → at_type s D β (weaken_past D B) ≡ weaken_past D (fill_type (skeletons_of s.metavariables) β B)
  free_type_at s D β B = ap (fill_type (μ_of s) (under_locals D β)) (raise_moved Σ ok [] s.metavariables (λ γ. ⊥) D B) ∙ fill_moved Σ ok [] s.metavariables (λ γ. ⊥) [] D (beyond D) β (λ i. refl) B ∙ sym (raise_moved Σ ok [] s.metavariables (λ γ. ⊥) D (fill_type (μ_of s) β B))
