-- Each inhabitant of a goal is met by a head that is offered.
use Rattle.std.proofs.Common.{◌≡◌, ℕ, zero, suc, ◌≤◌, List, [], ◌∷◌, Option, Some, None, ◌⊎◌, inl, inr, refl, sym, ap, ap₂, ◌∙◌, subst, arith}
use Rattle.lf.specs.SkeletonTyping.{TermSkeleton, TypeBySkeletons}
use Rattle.lf.specs.Skeletons.{context_skeletons, family_skeletons, type_skeleton}
use Rattle.lf.specs.Syntax.{Skeleton, Spine, Term, LfType, app, atom, nil, pi, skeleton}
use Rattle.lf.specs.Typing.{TypeAt, SpineType, HasType, IsSignature, Signature, instantiate_type}
use Rattle.lf.specs.Variables.{onto}
use Rattle.lf_unification.specs.Filling.{fill, fill_spine, fill_type, moved, rename_value}
use Rattle.lf_unification.specs.OpenTyping.{Declares, IsInstance, MetavariablesInType, ValueHasType, fill_locals, skeletons_of, set_at, under_locals}
use Rattle.lf_unification.specs.Patterns.{local_skeletons}
use Rattle.lf_unification.specs.Offering.{MetavariablesInLocals, AppliesToNew, applied_to_all, lambda_over, applied_to_next, pi_over, raised}
use Rattle.lf_unification.specs.Skeletons.{TotalSkeletons, as_head_skeletons, total_skeletons, skeleton_or_default}
use Rattle.lf_unification.specs.Unifiers.{ExtendsFilling}
use Rattle.lf.proofs.SkeletonTypes.{single_type_by_skeletons}
use Rattle.lf_unification.proofs.Agree.{TypeBySkeletons-agree, fill_agree, fill_agree_type, set_cases, set_here}
use Rattle.lf_unification.proofs.Filling.{SkeletonsFill, fill_instance, skeleton_fill}
use Rattle.lf_unification.proofs.OpenSound.{PartialInstance-of, skeletons_under}
use Rattle.lf_unification.proofs.Raise.{fill_pis, fill_raised, has_lambda, lambda_over_fill, local_skeleton_fill, skeletons_raised}
use Rattle.lf_unification.proofs.Scope.{in_instance, in_weaker_type, in_raised}
use Rattle.lf_unification.proofs.ToSkeletons.{typed_has_skeleton}

pub under_agree : (V : ℕ → Type 0) (D : List LfType) (β β' : ℕ → Option Term) → ((m : ℕ) → V m → β m ≡ β' m) → (m : ℕ) → V m → under_locals D β m ≡ under_locals D β' m
under_agree V [] β β' h m v = h m v
under_agree V (A ∷ D) β β' h m v = ap (rename_value suc) (under_agree V D β β' h m v)

pub local_agree : (V : ℕ → Type 0) (μ μ' : ℕ → Skeleton) (same : (m : ℕ) → V m → μ m ≡ μ' m) (D : List LfType) (β β' : ℕ → Option Term) → ((m : ℕ) → V m → β m ≡ β' m) → MetavariablesInLocals V D → fill_locals μ β D ≡ fill_locals μ' β' D
local_agree V μ μ' same [] β β' h i = refl
local_agree V μ μ' same (A ∷ D) β β' h (i, j) = ap₂ (λ x y. x ∷ y) (fill_agree_type V μ μ' same (under_locals D β) (under_locals D β') A (under_agree V D β β' h) j) (local_agree V μ μ' same D β β' h i)

pub in_local_weaker : (V W : ℕ → Type 0) → ((m : ℕ) → V m → W m) → (D : List LfType) → MetavariablesInLocals V D → MetavariablesInLocals W D
in_local_weaker V W h [] i = i
in_local_weaker V W h (A ∷ D) (i, j) = (in_local_weaker V W h D i, in_weaker_type V W h A j)

pub decide : (m n : ℕ) → (m ≡ n) ⊎ (m ≡ n → ⊥)
decide zero zero = inl refl
decide zero (suc n) = inr (λ e. cc)
decide (suc m) zero = inr (λ e. cc)
decide (suc m) (suc n) = go (decide m n)
  where
    go : (m ≡ n) ⊎ (m ≡ n → ⊥) → (suc m ≡ suc n) ⊎ (suc m ≡ suc n → ⊥)
    go (inl e) = inl (ap suc e)
    go (inr f) = inr (λ e. f (let p : m ≡ n = cc in p))

pub set_other : {A : Type 0} (n : ℕ) (x : A) (f : ℕ → A) (m : ℕ) → (m ≡ n → ⊥) → set_at n x f m ≡ f m
set_other n x f m h = go (set_cases n x f m)
  where
    go : (m ≡ n) ⊎ (set_at n x f m ≡ f m) → set_at n x f m ≡ f m
    go (inl e) = absurd (h e)
    go (inr e) = e

-- what is declared stays, with its value, when a new metavariable is declared
module _ (Ψ : ℕ → Option LfType) (n : ℕ) (new : Ψ n ≡ None) (X : LfType) (V : Term) (β : ℕ → Option Term) where
  abbrev pub Ψ₁ : ℕ → Option LfType
  Ψ₁ = set_at n (Some X) Ψ

  abbrev pub β₁ : ℕ → Option Term
  β₁ = set_at n (Some V) β

  pub other : (m : ℕ) → Declares Ψ m → m ≡ n → ⊥
  other m (A, e) q = let p : Ψ m ≡ Ψ n = ap Ψ q in cc

  pub same_type : (m : ℕ) → Declares Ψ m → Ψ m ≡ Ψ₁ m
  same_type m d = sym (set_other n (Some X) Ψ m (other m d))

  pub same_value : (m : ℕ) → Declares Ψ m → β m ≡ β₁ m
  same_value m d = sym (set_other n (Some V) β m (other m d))

  pub agree_skeleton : (m : ℕ) → Declares Ψ m → skeletons_of Ψ m ≡ skeletons_of Ψ₁ m
  agree_skeleton m d = ap skeleton_or_default (same_type m d)

  pub still : (m : ℕ) → Declares Ψ m → Declares Ψ₁ m
  still m d = (d.0, sym (same_type m d) ∙ d.1)

module _ (Σ : Signature) (ok : IsSignature Σ) (G F : List LfType) where
  -- an instance, and a type A under D that is about to be met
  pub record Ready (D : List LfType) (A : LfType) (Ψ : ℕ → Option LfType) (n : ℕ) (β : ℕ → Option Term) : Type 0 where
    pub inst : IsInstance Σ G Ψ F β
    pub fresh : (m : ℕ) → n ≤ m → Ψ m ≡ None
    pub scoped : (m : ℕ) (B : LfType) → Ψ m ≡ Some B → MetavariablesInType (Declares Ψ) B
    pub outer_scoped : (i : ℕ) (B : LfType) → TypeAt G i B → MetavariablesInType (Declares Ψ) B
    pub local_scoped : MetavariablesInLocals (Declares Ψ) D
    pub type_scoped : MetavariablesInType (Declares Ψ) A
    pub type_skeletons : TypeBySkeletons (family_skeletons Σ) (as_head_skeletons (total_skeletons Σ (skeletons_of Ψ))) (local_skeletons D (context_skeletons F)) A

  pub typed_agree : (Ψ : ℕ → Option LfType) (μ' : ℕ → Skeleton) (β β' : ℕ → Option Term) → ((m : ℕ) → Declares Ψ m → skeletons_of Ψ m ≡ μ' m) → ((m : ℕ) → Declares Ψ m → β m ≡ β' m) → (x : Option LfType) (y : Option Term) → ((B : LfType) → x ≡ Some B → MetavariablesInType (Declares Ψ) B) → ValueHasType Σ F (skeletons_of Ψ) β x y → ValueHasType Σ F μ' β' x y
  typed_agree Ψ μ' β β' p q None None s t = t
  typed_agree Ψ μ' β β' p q None (Some N) s t = t
  typed_agree Ψ μ' β β' p q (Some A) None s t = t
  typed_agree Ψ μ' β β' p q (Some A) (Some N) s t = subst (HasType Σ F N) (fill_agree_type (Declares Ψ) (skeletons_of Ψ) μ' p β β' A q (s A refl)) t

  module _ (D : List LfType) (B C : LfType) (Ψ : ℕ → Option LfType) (n : ℕ) (β : ℕ → Option Term) (w : Ready D (pi B C) Ψ n β) (M : Term) (m_ok : HasType Σ (onto (fill_locals (skeletons_of Ψ) β D) F) M (fill_type (skeletons_of Ψ) (under_locals D β) B)) where
    new : Ψ n ≡ None
    new = w.fresh n (omega arith)

    abbrev μ : ℕ → Skeleton
    μ = skeletons_of Ψ

    abbrev Ψ' : ℕ → Option LfType
    Ψ' = set_at n (Some (pi_over D B)) Ψ

    abbrev β' : ℕ → Option Term
    β' = set_at n (Some (lambda_over D M)) β

    abbrev μ' : ℕ → Skeleton
    μ' = skeletons_of Ψ'

    skels : (m : ℕ) → Declares Ψ m → μ m ≡ μ' m
    skels = agree_skeleton Ψ n new (pi_over D B) (lambda_over D M) β

    vals : (m : ℕ) → Declares Ψ m → β m ≡ β' m
    vals = same_value Ψ n new (pi_over D B) (lambda_over D M) β

    keeps : (m : ℕ) → Declares Ψ m → Declares Ψ' m
    keeps = still Ψ n new (pi_over D B) (lambda_over D M) β

    loc : fill_locals μ β D ≡ fill_locals μ' β' D
    loc = local_agree (Declares Ψ) μ μ' skels D β β' vals w.local_scoped

    type_under : (A : LfType) → MetavariablesInType (Declares Ψ) A → fill_type μ (under_locals D β) A ≡ fill_type μ' (under_locals D β') A
    type_under A i = fill_agree_type (Declares Ψ) μ μ' skels (under_locals D β) (under_locals D β') A (under_agree (Declares Ψ) D β β' vals) i

    here_typed : HasType Σ F (lambda_over D M) (fill_type μ' β' (pi_over D B))
    here_typed =
        subst (HasType Σ F (lambda_over D M)) (ap₂ pi_over loc (type_under B w.type_scoped.0) ∙ sym (fill_pis μ' β' D B))
        (subst (λ X. HasType Σ F X (pi_over (fill_locals μ β D) (fill_type μ (under_locals D β) B))) (lambda_over_fill μ β D M) (has_lambda Σ F (fill_locals μ β D) M (fill_type μ (under_locals D β) B) m_ok))

    put_typed : (x : Option LfType) (y : Option Term) → x ≡ Some (pi_over D B) → y ≡ Some (lambda_over D M) → ValueHasType Σ F μ' β' x y
    put_typed x y e f = subst (λ z. ValueHasType Σ F μ' β' z y) (sym e) (subst (λ z. ValueHasType Σ F μ' β' (Some (pi_over D B)) z) (sym f) here_typed)

    typed' : (m : ℕ) → ValueHasType Σ F μ' β' (Ψ' m) (β' m)
    typed' m = go (decide m n)
      where
        go : (m ≡ n) ⊎ (m ≡ n → ⊥) → ValueHasType Σ F μ' β' (Ψ' m) (β' m)
        go (inl e) = put_typed (Ψ' m) (β' m) (ap Ψ' e ∙ set_here n (Some (pi_over D B)) Ψ) (ap β' e ∙ set_here n (Some (lambda_over D M)) β)
        go (inr h) = subst (λ z. ValueHasType Σ F μ' β' z (β' m)) (sym (set_other n (Some (pi_over D B)) Ψ m h)) (subst (λ z. ValueHasType Σ F μ' β' (Ψ m) z) (sym (set_other n (Some (lambda_over D M)) β m h)) (typed_agree Ψ μ' β β' skels vals (Ψ m) (β m) (w.scoped m) (w.inst.typed m)))

    pub inst' : IsInstance Σ G Ψ' F β'
    inst' = record {
      context = w.inst.context;
      outer = λ i A g. subst (TypeAt F i) (fill_agree_type (Declares Ψ) μ μ' skels β β' A vals (w.outer_scoped i A g)) (w.inst.outer i A g);
      typed = typed';
    }

    abbrev N : Term
    N = raised D B n

    abbrev κ' : TotalSkeletons
    κ' = total_skeletons Σ μ'

    abbrev ΓF : List Skeleton
    ΓF = context_skeletons F

    skeleton_n : μ' n ≡ skeleton (pi_over D B)
    skeleton_n = ap skeleton_or_default (set_here n (Some (pi_over D B)) Ψ)

    skeletons_fill₀ : SkeletonsFill κ' ΓF β'
    skeletons_fill₀ = skeletons_under Σ ok G Ψ' (λ b. Unit {0}) (λ m. Unit {0}) F β' (PartialInstance-of Σ ok G Ψ' (λ m. Unit {0}) F β' inst') []

    skeletons_fill_D : SkeletonsFill κ' (local_skeletons D ΓF) (under_locals D β')
    skeletons_fill_D = subst (λ g. SkeletonsFill κ' g (under_locals D β')) (local_skeleton_fill μ' β' D F) (skeletons_under Σ ok G Ψ' (λ b. Unit {0}) (λ m. Unit {0}) F β' (PartialInstance-of Σ ok G Ψ' (λ m. Unit {0}) F β' inst') D)

    pub is_value : fill μ' (under_locals D β') N ≡ M
    is_value = fill_raised κ' ΓF β' D B n M skeletons_fill₀ skeleton_n (set_here n (Some (lambda_over D M)) β) (subst (TermSkeleton (as_head_skeletons κ') ΓF (lambda_over D M)) (skeleton_fill μ' β' (pi_over D B) ∙ sym skeleton_n) (typed_has_skeleton Σ μ' F (lambda_over D M) (fill_type μ' β' (pi_over D B)) here_typed))

    skeletons_C : TypeBySkeletons (family_skeletons Σ) (as_head_skeletons κ') (skeleton B ∷ local_skeletons D ΓF) C
    skeletons_C = TypeBySkeletons-agree (Declares Ψ) μ μ' skels (λ c. type_skeleton (Σ.types c)) (family_skeletons Σ) (skeleton B ∷ local_skeletons D ΓF) C w.type_scoped.1 w.type_skeletons.1

    pub next_type : fill_type μ' (under_locals D β') (instantiate_type B N C) ≡ instantiate_type (fill_type μ (under_locals D β) B) M (fill_type μ (moved suc (under_locals D β)) C)
    next_type =
        fill_instance κ' (family_skeletons Σ) (local_skeletons D ΓF) (under_locals D β') B N C skeletons_fill_D (skeletons_raised κ' D ΓF B n skeleton_n) skeletons_C
        ∙ ap (λ z. instantiate_type z (fill μ' (under_locals D β') N) (fill_type μ' (moved suc (under_locals D β')) C)) (sym (type_under B w.type_scoped.0))
        ∙ ap₂ (λ z y. instantiate_type (fill_type μ (under_locals D β) B) z y) is_value (sym (fill_agree_type (Declares Ψ) μ μ' skels (moved suc (under_locals D β)) (moved suc (under_locals D β')) C (λ m v. ap (rename_value suc) (under_agree (Declares Ψ) D β β' vals m v)) w.type_scoped.1))

    fresh' : (m : ℕ) → suc n ≤ m → Ψ' m ≡ None
    fresh' m h = set_other n (Some (pi_over D B)) Ψ m (λ e. omega arith) ∙ w.fresh m (omega arith)

    n_declared : Declares Ψ' n
    n_declared = (pi_over D B, set_here n (Some (pi_over D B)) Ψ)

    in_pis : (E : List LfType) (A : LfType) → MetavariablesInLocals (Declares Ψ') E → MetavariablesInType (Declares Ψ') A → MetavariablesInType (Declares Ψ') (pi_over E A)
    in_pis [] A l i = i
    in_pis (X ∷ E) A (l, j) i = in_pis E (pi X A) l (j, i)

    scoped' : (m : ℕ) (A : LfType) → Ψ' m ≡ Some A → MetavariablesInType (Declares Ψ') A
    scoped' m A e = go (decide m n)
      where
        go : (m ≡ n) ⊎ (m ≡ n → ⊥) → MetavariablesInType (Declares Ψ') A
        go (inl q) = let p : Ψ' n ≡ Some A = ap Ψ' (sym q) ∙ e in let r : Ψ' n ≡ Some (pi_over D B) = set_here n (Some (pi_over D B)) Ψ in let s : pi_over D B ≡ A = cc in
            subst (MetavariablesInType (Declares Ψ')) s (in_pis D B (in_local_weaker (Declares Ψ) (Declares Ψ') keeps D w.local_scoped) (in_weaker_type (Declares Ψ) (Declares Ψ') keeps B w.type_scoped.0))
        go (inr h) = in_weaker_type (Declares Ψ) (Declares Ψ') keeps A (w.scoped m A (sym (set_other n (Some (pi_over D B)) Ψ m h) ∙ e))

    pub ready' : Ready D (instantiate_type B N C) Ψ' (suc n) β'
    ready' = record {
      inst = inst';
      fresh = fresh';
      scoped = scoped';
      outer_scoped = λ i A g. in_weaker_type (Declares Ψ) (Declares Ψ') keeps A (w.outer_scoped i A g);
      local_scoped = in_local_weaker (Declares Ψ) (Declares Ψ') keeps D w.local_scoped;
      type_scoped = in_instance (Declares Ψ') B N C (in_raised (Declares Ψ') D B n n_declared) (in_weaker_type (Declares Ψ) (Declares Ψ') keeps C w.type_scoped.1);
      type_skeletons = single_type_by_skeletons (family_skeletons Σ) (as_head_skeletons κ') (skeleton B) (local_skeletons D ΓF) N C (skeletons_raised κ' D ΓF B n skeleton_n) skeletons_C;
    }

    pub next_spine : (S : Spine) (Y : LfType) → SpineType Σ (onto (fill_locals μ β D) F) S (instantiate_type (fill_type μ (under_locals D β) B) M (fill_type μ (moved suc (under_locals D β)) C)) Y → SpineType Σ (onto (fill_locals μ' β' D) F) S (fill_type μ' (under_locals D β') (instantiate_type B N C)) Y
    next_spine S Y s = subst (λ E. SpineType Σ (onto E F) S (fill_type μ' (under_locals D β') (instantiate_type B N C)) Y) loc (subst (λ z. SpineType Σ (onto (fill_locals μ β D) F) S z Y) (sym next_type) s)

    pub extends' : ExtendsFilling Ψ β β'
    extends' m A e = sym (vals m (A, e))

    pub grows' : (m : ℕ) (A : LfType) → Ψ m ≡ Some A → Ψ' m ≡ Some A
    grows' m A e = sym (same_type Ψ n new (pi_over D B) (lambda_over D M) β m (A, e)) ∙ e

  -- what is to be found for a spine S₀ that takes A, filled, to `c . T₀`: values of the new metavariables
  pub record Outcome (D : List LfType) (Ψ : ℕ → Option LfType) (β : ℕ → Option Term) (Ψ' : ℕ → Option LfType) (S : Spine) (a : ℕ) (T S₀ : Spine) (c : ℕ) (T₀ : Spine) : Type 0 where
    pub value : ℕ → Option Term
    pub inst : IsInstance Σ G Ψ' F value
    pub same : (m : ℕ) → Declares Ψ m → β m ≡ value m
    pub grows : (m : ℕ) (A : LfType) → Ψ m ≡ Some A → Ψ' m ≡ Some A
    pub spine : fill_spine (skeletons_of Ψ') (under_locals D value) S ≡ S₀
    pub family : a ≡ c
    pub indices : fill_spine (skeletons_of Ψ') (under_locals D value) T ≡ T₀

  -- one argument more
  step : (D : List LfType) (B C : LfType) (Ψ : ℕ → Option LfType) (n : ℕ) (β : ℕ → Option Term) (w : Ready D (pi B C) Ψ n β) (M : Term) (m : HasType Σ (onto (fill_locals (skeletons_of Ψ) β D) F) M (fill_type (skeletons_of Ψ) (under_locals D β) B)) (Ψ' : ℕ → Option LfType) (S : Spine) (a : ℕ) (T S₀ : Spine) (c : ℕ) (T₀ : Spine) →
      Outcome D (set_at n (Some (pi_over D B)) Ψ) (set_at n (Some (lambda_over D M)) β) Ψ' S a T S₀ c T₀ → Outcome D Ψ β Ψ' (app (raised D B n) S) a T (app M S₀) c T₀
  step D B C Ψ n β w M m Ψ' S a T S₀ c T₀ o = record {
    value = o.value;
    inst = o.inst;
    same = λ k d. same_value Ψ n (w.fresh n (omega arith)) (pi_over D B) (lambda_over D M) β k d ∙ o.same k (still Ψ n (w.fresh n (omega arith)) (pi_over D B) (lambda_over D M) β k d);
    grows = λ k A e. o.grows k A (grows' D B C Ψ n β w M m k A e);
    spine = ap₂ app (sym first ∙ is_value D B C Ψ n β w M m) o.spine;
    family = o.family;
    indices = o.indices;
  }
    where
      Ψ₁' : ℕ → Option LfType
      Ψ₁' = set_at n (Some (pi_over D B)) Ψ

      first : fill (skeletons_of (set_at n (Some (pi_over D B)) Ψ)) (under_locals D (set_at n (Some (lambda_over D M)) β)) (raised D B n) ≡ fill (skeletons_of Ψ') (under_locals D o.value) (raised D B n)
      first = fill_agree (Declares (set_at n (Some (pi_over D B)) Ψ)) (skeletons_of (set_at n (Some (pi_over D B)) Ψ)) (skeletons_of Ψ') (λ k d. ap skeleton_or_default (d.1 ∙ sym (o.grows k d.0 d.1))) (under_locals D (set_at n (Some (lambda_over D M)) β)) (under_locals D o.value) (raised D B n)
          (under_agree (Declares (set_at n (Some (pi_over D B)) Ψ)) D (set_at n (Some (lambda_over D M)) β) o.value o.same) (in_raised (Declares (set_at n (Some (pi_over D B)) Ψ)) D B n (pi_over D B, set_here n (Some (pi_over D B)) Ψ))

  -- THE theorem on a head offered: each typed spine is met
  pub offered_met : {D : List LfType} {Ψ : ℕ → Option LfType} {n : ℕ} {A : LfType} {Ψ' : ℕ → Option LfType} {n' : ℕ} {S : Spine} {a : ℕ} {T : Spine} → AppliesToNew D Ψ n A Ψ' n' S a T →
      (β : ℕ → Option Term) → Ready D A Ψ n β → (S₀ : Spine) (c : ℕ) (T₀ : Spine) → SpineType Σ (onto (fill_locals (skeletons_of Ψ) β D) F) S₀ (fill_type (skeletons_of Ψ) (under_locals D β) A) (atom c T₀) → Outcome D Ψ β Ψ' S a T S₀ c T₀
  offered_met (applied_to_all {Ψ = Ψ} {a = a} {T = T}) β w nil c T₀ s = record {
    value = β;
    inst = w.inst;
    same = λ m d. refl;
    grows = λ m A e. e;
    spine = refl;
    family = cc;
    indices = cc;
  }
  offered_met applied_to_all β w (app M S₀) c T₀ s = absurd s
  offered_met (applied_to_next o) β w nil c T₀ s = absurd (no_pi s)
    where
      no_pi : {X Y : LfType} {c : ℕ} {T : Spine} → pi X Y ≡ atom c T → ⊥
      no_pi e = cc
  offered_met {D = D} (applied_to_next {Ψ = Ψ} {Ψ' = Ψ'} {n = n} {a = a} {B = B} {C = C} {S = S} {T = T} o) β w (app M S₀) c T₀ (m, s) =
      step D B C Ψ n β w M m Ψ' S a T S₀ c T₀
      (offered_met o (set_at n (Some (lambda_over D M)) β) (ready' D B C Ψ n β w M m) S₀ c T₀ (next_spine D B C Ψ n β w M m S₀ (atom c T₀) s))
