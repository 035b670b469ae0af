-- Typing up to U goes back through an injective renaming, up to U.
use Rattle.std.proofs.Common.{◌≡◌, ℕ, zero, suc, List, [], ◌∷◌, Option, Some, refl, sym, ap, ap₂, ◌∙◌, subst}
use mathlib.Core.Path.{fun_ext}
use Rattle.lf.specs.Substitution.{reduce, single, substitute_kind}
use Rattle.lf.specs.SkeletonTyping.{KindBySkeletons, TermSkeleton, TypeBySkeletons}
use Rattle.lf.specs.Skeletons.{context_skeletons, family_skeletons}
use Rattle.lf.specs.Syntax.{Kind, Skeleton, Spine, Term, LfType, app, arrow, atom, base, constant, lambda, metavariable, nil, pi, kind_pi, rename, rename_kind, rename_spine, rename_type, root, skeleton, star, lift_renaming, variable, weaken}
use Rattle.lf.specs.Typing.{TypeAt, IsSignature, Signature, instantiate_kind, instantiate_type}
use Rattle.lf.specs.Variables.{onto}
use Rattle.lf_unification.specs.Filling.{fill, fill_type, moved}
use Rattle.lf_unification.specs.OpenTyping.{OpenIsType, OpenSpineFitsKind, OpenSpineType, OpenHasType, TypesAgree, skeletons_of, weaken_past, under_locals}
use Rattle.lf_unification.specs.Patterns.{beyond, local_skeletons}
use Rattle.lf_unification.specs.Patterns.{Injective}
use Rattle.lf_unification.specs.Skeletons.{TotalSkeletons, as_head_skeletons, total_skeletons}
use Rattle.lf.proofs.Closed.{closed_kind_renamed, closed_type_renamed}
use Rattle.lf.proofs.SkeletonTypes.{renaming_keeps_types_by_skeletons, single_kind_by_skeletons, single_type_by_skeletons}
use Rattle.lf.proofs.Strength.{rename_instance}
use Rattle.lf.proofs.Substitution.{constant_type, family_kind}
use Rattle.lf.proofs.TypeLaws.{rename_single_kind, renamings_compose_type, rename_weakened, skeleton_renamed, skeleton_substituted}
use Rattle.lf_unification.proofs.Eta.{rename_id_type}
use Rattle.lf_unification.proofs.Exhaust.{local_skeleton_context}
use Rattle.lf_unification.proofs.Filling.{SkeletonsFill, SkeletonsFill-weak, fill_instance, fill_rename_type}
use Rattle.lf_unification.proofs.Inverse.{rename_injective_type, up_injective}
use Rattle.lf_unification.proofs.Patterns.{moved_moved}
use Rattle.lf_unification.proofs.StepLemmas.{under_moved}
use Rattle.lf_unification.proofs.ToSkeletons.{kind_by_skeletons, type_by_skeletons}

module _ (Σ : Signature) (ok : IsSignature Σ) (G : List LfType) (Ψ : ℕ → Option LfType) (U : (ℕ → Option Term) → Type 0) where
  abbrev μ : ℕ → Skeleton
  μ = skeletons_of Ψ

  abbrev κ : TotalSkeletons
  κ = total_skeletons Σ μ

  abbrev Same : List LfType → LfType → LfType → Type 0
  Same D A B = TypesAgree Σ G Ψ U D A B

  -- ρ moves D' into D, and leaves the outer context
  pub record Moves (D' D : List LfType) (ρ : ℕ → ℕ) : Type 0 where
    pub distinct : Injective ρ
    pub outer : (i : ℕ) → ρ (beyond D' i) ≡ beyond D i
    pub types : (i : ℕ) (X : LfType) → TypeAt (onto D G) (ρ i) X → (Y : LfType) × TypeAt (onto D' G) i Y × Same D (rename_type ρ Y) X

  pub under_rename : (D' D : List LfType) (ρ : ℕ → ℕ) (β : ℕ → Option Term) → ((i : ℕ) → ρ (beyond D' i) ≡ beyond D i) → moved ρ (under_locals D' β) ≡ under_locals D β
  under_rename D' D ρ β h = ap (moved ρ) (under_moved D' β) ∙ moved_moved ρ (beyond D') β ∙ ap (λ f. moved f β) (fun_ext h) ∙ sym (under_moved D β)

  pub fill_moved : (D' D : List LfType) (ρ : ℕ → ℕ) (β : ℕ → Option Term) → ((i : ℕ) → ρ (beyond D' i) ≡ beyond D i) → (A : LfType) → fill_type μ (under_locals D β) (rename_type ρ A) ≡ rename_type ρ (fill_type μ (under_locals D' β) A)
  fill_moved D' D ρ β h A = ap (λ f. fill_type μ f (rename_type ρ A)) (sym (under_rename D' D ρ β h)) ∙ sym (fill_rename_type μ ρ (under_locals D' β) A)

  pub same_weak : (D : List LfType) (C A B : LfType) → Same D A B → Same (C ∷ D) (weaken A) (weaken B)
  same_weak D C A B (e, f) = (skeleton_renamed suc A ∙ e ∙ sym (skeleton_renamed suc B), λ β u. sym (fill_rename_type μ suc (under_locals D β) A) ∙ ap weaken (f β u) ∙ fill_rename_type μ suc (under_locals D β) B)

  pub Moves-lift_renaming : (D' D : List LfType) (ρ : ℕ → ℕ) (A B : LfType) → Moves D' D ρ → Same D (rename_type ρ A) B → Moves (A ∷ D') (B ∷ D) (lift_renaming ρ)
  Moves-lift_renaming D' D ρ A B w s = record {
    distinct = up_injective ρ w.distinct;
    outer = λ i. ap suc (w.outer i);
    types = go;
  }
    where
      go : (i : ℕ) (X : LfType) → TypeAt (B ∷ onto D G) (lift_renaming ρ i) X → (Y : LfType) × TypeAt (A ∷ onto D' G) i Y × Same (B ∷ D) (rename_type (lift_renaming ρ) Y) X
      go zero X e = (weaken A, refl, subst (λ Z. Same (B ∷ D) (rename_type (lift_renaming ρ) (weaken A)) Z) (sym e) (subst (λ Z. Same (B ∷ D) Z (weaken B)) (sym (rename_weakened ρ A)) (same_weak D B (rename_type ρ A) B s)))
      go (suc i) X (C, g, e) =
          let (Y, k, q) = w.types i C g in
          (weaken Y, (Y, k, refl), subst (λ Z. Same (B ∷ D) (rename_type (lift_renaming ρ) (weaken Y)) Z) (sym e) (subst (λ Z. Same (B ∷ D) Z (weaken C)) (sym (rename_weakened ρ Y)) (same_weak D B (rename_type ρ Y) C q)))

  pub raise_moved : (D : List LfType) (A : LfType) → weaken_past D A ≡ rename_type (beyond D) A
  raise_moved [] A = sym (rename_id_type A)
  raise_moved (B ∷ D) A = ap weaken (raise_moved D A) ∙ renamings_compose_type suc (beyond D) A

  same_skeleton_pi : (A B X Y : LfType) → skeleton (pi A B) ≡ skeleton (pi X Y) → (skeleton A ≡ skeleton X) × (skeleton B ≡ skeleton Y)
  same_skeleton_pi A B X Y e = ((let p : skeleton A ≡ skeleton X = cc in p), (let p : skeleton B ≡ skeleton Y = cc in p))

  -- a filling that is typed by skeletons over some outer context, as are the terms typed up to U
  pub record SkeletonsUpTo (β : ℕ → Option Term) : Type 0 where
    pub free : List LfType
    pub values : SkeletonsFill κ (context_skeletons free) β
    pub terms : (D : List LfType) (M : Term) (A : LfType) → OpenHasType Σ G Ψ U D M A → TermSkeleton (as_head_skeletons κ) (local_skeletons D (context_skeletons free)) M (skeleton A)

  pub values_under : (D : List LfType) (β : ℕ → Option Term) (Γ : List Skeleton) → SkeletonsFill κ Γ β → SkeletonsFill κ (local_skeletons D Γ) (under_locals D β)
  values_under [] β Γ g m = g m
  values_under (A ∷ D) β Γ g m = SkeletonsFill-weak κ (skeleton A) (local_skeletons D Γ) (under_locals D β) (values_under D β Γ g) m

  module _ (skeletons_U : (β : ℕ → Option Term) → U β → SkeletonsUpTo β) where
    -- a type under D, by skeletons at each filling
    abbrev pub AllSkeletonsUpTo : List LfType → LfType → Type 0
    AllSkeletonsUpTo D A = (β : ℕ → Option Term) (u : U β) → TypeBySkeletons (family_skeletons Σ) (as_head_skeletons κ) (local_skeletons D (context_skeletons (skeletons_U β u).free)) A

    same_instance : (D : List LfType) (A B X Y : LfType) (M : Term) → AllSkeletonsUpTo D (pi A B) → AllSkeletonsUpTo D (pi X Y) → OpenHasType Σ G Ψ U D M X → Same D (pi A B) (pi X Y) → Same D (instantiate_type A M B) (instantiate_type X M Y)
    same_instance D A B X Y M a x m (e, f) = (
      skeleton_substituted reduce (single (skeleton A) M) B ∙ (same_skeleton_pi A B X Y e).1 ∙ sym (skeleton_substituted reduce (single (skeleton X) M) Y),
      λ β u.
          let w : SkeletonsUpTo β = skeletons_U β u in
          let Γ : List Skeleton = local_skeletons D (context_skeletons w.free) in
          let g : SkeletonsFill κ Γ (under_locals D β) = values_under D β (context_skeletons w.free) w.values in
          let mx : TermSkeleton (as_head_skeletons κ) Γ M (skeleton X) = w.terms D M X m in
          let ma : TermSkeleton (as_head_skeletons κ) Γ M (skeleton A) = subst (TermSkeleton (as_head_skeletons κ) Γ M) (sym (same_skeleton_pi A B X Y e).0) mx in
          let r : pi (fill_type μ (under_locals D β) A) (fill_type μ (moved suc (under_locals D β)) B) ≡ pi (fill_type μ (under_locals D β) X) (fill_type μ (moved suc (under_locals D β)) Y) = f β u in
          let p : fill_type μ (under_locals D β) A ≡ fill_type μ (under_locals D β) X = cc in
          let q : fill_type μ (moved suc (under_locals D β)) B ≡ fill_type μ (moved suc (under_locals D β)) Y = cc in
          fill_instance κ (family_skeletons Σ) Γ (under_locals D β) A M B g ma (a β u).1 ∙ ap₂ (λ z y. instantiate_type z (fill μ (under_locals D β) M) y) p q ∙ sym (fill_instance κ (family_skeletons Σ) Γ (under_locals D β) X M Y g mx (x β u).1),
    )

    AllSkeletonsUpTo-weak : (D : List LfType) (B A : LfType) → AllSkeletonsUpTo D A → AllSkeletonsUpTo (B ∷ D) (weaken A)
    AllSkeletonsUpTo-weak D B A a β u = renaming_keeps_types_by_skeletons (family_skeletons Σ) (as_head_skeletons κ) (local_skeletons D (context_skeletons (skeletons_U β u).free)) (skeleton B ∷ local_skeletons D (context_skeletons (skeletons_U β u).free)) suc A (λ i t g. g) (a β u)

    -- what is known of both contexts
    pub record Known (D' D : List LfType) (ρ : ℕ → ℕ) : Type 0 where
      pub moves : Moves D' D ρ
      pub here : (i : ℕ) (X : LfType) → TypeAt (onto D G) i X → AllSkeletonsUpTo D X
      pub there : (i : ℕ) (Y : LfType) → TypeAt (onto D' G) i Y → AllSkeletonsUpTo D (rename_type ρ Y)

    pub Known-lift_renaming : (D' D : List LfType) (ρ : ℕ → ℕ) (A B : LfType) → Known D' D ρ → Same D (rename_type ρ A) B → AllSkeletonsUpTo D (rename_type ρ A) → AllSkeletonsUpTo D B → Known (A ∷ D') (B ∷ D) (lift_renaming ρ)
    Known-lift_renaming D' D ρ A B w s a b = record { moves = Moves-lift_renaming D' D ρ A B w.moves s; here = here'; there = there' }
      where
        here' : (i : ℕ) (X : LfType) → TypeAt (B ∷ onto D G) i X → AllSkeletonsUpTo (B ∷ D) X
        here' zero X e = subst (AllSkeletonsUpTo (B ∷ D)) (sym e) (AllSkeletonsUpTo-weak D B B b)
        here' (suc i) X (C, g, e) = subst (AllSkeletonsUpTo (B ∷ D)) (sym e) (AllSkeletonsUpTo-weak D B C (w.here i C g))

        there' : (i : ℕ) (Y : LfType) → TypeAt (A ∷ onto D' G) i Y → AllSkeletonsUpTo (B ∷ D) (rename_type (lift_renaming ρ) Y)
        there' zero Y e = subst (AllSkeletonsUpTo (B ∷ D)) (sym (ap (rename_type (lift_renaming ρ)) e ∙ rename_weakened ρ A)) (AllSkeletonsUpTo-weak D B (rename_type ρ A) a)
        there' (suc i) Y (C, g, e) = subst (AllSkeletonsUpTo (B ∷ D)) (sym (ap (rename_type (lift_renaming ρ)) e ∙ rename_weakened ρ C)) (AllSkeletonsUpTo-weak D B (rename_type ρ C) (w.there i C g))

    same_trans : (D : List LfType) (A B C : LfType) → Same D A B → Same D B C → Same D A C
    same_trans D A B C (e, f) (g, h) = (e ∙ g, λ β u. f β u ∙ h β u)

    same_sym : (D : List LfType) (A B : LfType) → Same D A B → Same D B A
    same_sym D A B (e, f) = (sym e, λ β u. sym (f β u))

    same_back : (D' D : List LfType) (ρ : ℕ → ℕ) (A B : LfType) → Moves D' D ρ → Same D (rename_type ρ A) (rename_type ρ B) → Same D' A B
    same_back D' D ρ A B w (e, f) = (sym (skeleton_renamed ρ A) ∙ e ∙ skeleton_renamed ρ B, λ β u. rename_injective_type ρ w.distinct (fill_type μ (under_locals D' β) A) (fill_type μ (under_locals D' β) B) (sym (fill_moved D' D ρ β w.outer A) ∙ f β u ∙ fill_moved D' D ρ β w.outer B))

    same_constant : (D : List LfType) (A : LfType) → Same D A A
    same_constant D A = (refl, λ β u. refl)

    module _ (metavariables_skeletons : (D : List LfType) (m : ℕ) (B : LfType) → Ψ m ≡ Some B → AllSkeletonsUpTo D (weaken_past D B)) where
      pub constant_by_skeletons : (D : List LfType) (c : ℕ) (A : LfType) → Σ.types c ≡ Some A → AllSkeletonsUpTo D A
      constant_by_skeletons D c A e β u = let F : List LfType = (skeletons_U β u).free in subst (λ Γ. TypeBySkeletons (family_skeletons Σ) (as_head_skeletons κ) Γ A) (local_skeleton_context D F) (type_by_skeletons Σ μ (onto D F) A (constant_type Σ ok (onto D F) c A e))

      mutual
        -- THE theorem: an inverted term is typed, up to U
        pub OpenHasType-unrename : (D' D : List LfType) (ρ : ℕ → ℕ) (M : Term) (A B : LfType) → Known D' D ρ → AllSkeletonsUpTo D (rename_type ρ A) → AllSkeletonsUpTo D B → Same D (rename_type ρ A) B → OpenHasType Σ G Ψ U D (rename ρ M) B → OpenHasType Σ G Ψ U D' M A
        OpenHasType-unrename D' D ρ (lambda M) (pi A A') (pi B B') w a b s m =
            let r : (skeleton (rename_type ρ A) ≡ skeleton B) × (skeleton (rename_type (lift_renaming ρ) A') ≡ skeleton B') = same_skeleton_pi (rename_type ρ A) (rename_type (lift_renaming ρ) A') B B' s.0 in
            let s₀ : Same D (rename_type ρ A) B = (r.0, λ β u. let q : pi (fill_type μ (under_locals D β) (rename_type ρ A)) (fill_type μ (moved suc (under_locals D β)) (rename_type (lift_renaming ρ) A')) ≡ pi (fill_type μ (under_locals D β) B) (fill_type μ (moved suc (under_locals D β)) B') = s.1 β u in cc) in
            let s₁ : Same (B ∷ D) (rename_type (lift_renaming ρ) A') B' = (r.1, λ β u. let q : pi (fill_type μ (under_locals D β) (rename_type ρ A)) (fill_type μ (moved suc (under_locals D β)) (rename_type (lift_renaming ρ) A')) ≡ pi (fill_type μ (under_locals D β) B) (fill_type μ (moved suc (under_locals D β)) B') = s.1 β u in cc) in
            OpenHasType-unrename (A ∷ D') (B ∷ D) (lift_renaming ρ) M A' B' (Known-lift_renaming D' D ρ A B w s₀ (λ β u. (a β u).0) (λ β u. (b β u).0)) (λ β u. subst (λ t. TypeBySkeletons (family_skeletons Σ) (as_head_skeletons κ) (t ∷ local_skeletons D (context_skeletons (skeletons_U β u).free)) (rename_type (lift_renaming ρ) A')) r.0 (a β u).1) (λ β u. (b β u).1) s₁ m
        OpenHasType-unrename D' D ρ (lambda M) (atom c T) (pi B B') w a b s m = absurd (no s.0)
          where
            no : {c : ℕ} {x y : Skeleton} → base c ≡ arrow x y → ⊥
            no e = cc
        OpenHasType-unrename D' D ρ (lambda M) A (atom c T) w a b s m = absurd m
        OpenHasType-unrename D' D ρ (root h S) A (pi B B') w a b s m = absurd m
        OpenHasType-unrename D' D ρ (root h S) (pi A A') (atom c T) w a b s m = absurd (no s.0)
          where
            no : {c : ℕ} {x y : Skeleton} → arrow x y ≡ base c → ⊥
            no e = cc
        OpenHasType-unrename D' D ρ (root (constant d) S) (atom c T) (atom e U') w a b s (X, g, m) = (X, g, OpenSpineType-unrename D' D ρ S X X (atom c T) (atom e U') w (subst (AllSkeletonsUpTo D) (sym (closed_type_renamed Σ ρ X (ok.types_ok d X g))) (constant_by_skeletons D d X g)) (constant_by_skeletons D d X g) (subst (λ Z. Same D Z X) (sym (closed_type_renamed Σ ρ X (ok.types_ok d X g))) (same_constant D X)) s m)
        OpenHasType-unrename D' D ρ (root (variable i) S) (atom c T) (atom e U') w a b s (X, g, m) = let (Y, k, q) = w.moves.types i X g in (Y, k, OpenSpineType-unrename D' D ρ S Y X (atom c T) (atom e U') w (w.there i Y k) (w.here (ρ i) X g) q s m)
        OpenHasType-unrename D' D ρ (root (metavariable n) S) (atom c T) (atom e U') w a b s (X, (B, g, q), m) =
            let r : rename_type ρ (weaken_past D' B) ≡ X = ap (rename_type ρ) (raise_moved D' B) ∙ renamings_compose_type ρ (beyond D') B ∙ ap (λ f. rename_type f B) (fun_ext w.moves.outer) ∙ sym (raise_moved D B) ∙ sym q in
            let x : AllSkeletonsUpTo D X = subst (AllSkeletonsUpTo D) (sym q) (metavariables_skeletons D n B g) in
            (weaken_past D' B, (B, g, refl), OpenSpineType-unrename D' D ρ S (weaken_past D' B) X (atom c T) (atom e U') w (subst (AllSkeletonsUpTo D) (sym r) x) x (subst (λ Z. Same D Z X) (sym r) (same_constant D X)) s m)

        OpenSpineType-unrename : (D' D : List LfType) (ρ : ℕ → ℕ) (S : Spine) (Y X C' C : LfType) → Known D' D ρ → AllSkeletonsUpTo D (rename_type ρ Y) → AllSkeletonsUpTo D X → Same D (rename_type ρ Y) X → Same D (rename_type ρ C') C → OpenSpineType Σ G Ψ U D (rename_spine ρ S) X C → OpenSpineType Σ G Ψ U D' S Y C'
        OpenSpineType-unrename D' D ρ nil Y X C' C w y x s t m = same_back D' D ρ Y C' w.moves (same_trans D (rename_type ρ Y) X (rename_type ρ C') s (same_trans D X C (rename_type ρ C') m (same_sym D (rename_type ρ C') C t)))
        OpenSpineType-unrename D' D ρ (app M S) (pi Y Y') (pi X X') C' C w y x s t (m, k) =
            let s₀ : Same D (rename_type ρ Y) X = ((same_skeleton_pi (rename_type ρ Y) (rename_type (lift_renaming ρ) Y') X X' s.0).0, λ β u. let q : pi (fill_type μ (under_locals D β) (rename_type ρ Y)) (fill_type μ (moved suc (under_locals D β)) (rename_type (lift_renaming ρ) Y')) ≡ pi (fill_type μ (under_locals D β) X) (fill_type μ (moved suc (under_locals D β)) X') = s.1 β u in cc) in
            let m' : OpenHasType Σ G Ψ U D' M Y = OpenHasType-unrename D' D ρ M Y X w (λ β u. (y β u).0) (λ β u. (x β u).0) s₀ m in
            let i : Same D (instantiate_type (rename_type ρ Y) (rename ρ M) (rename_type (lift_renaming ρ) Y')) (instantiate_type X (rename ρ M) X') = same_instance D (rename_type ρ Y) (rename_type (lift_renaming ρ) Y') X X' (rename ρ M) y x m s in
            let mx : (β : ℕ → Option Term) (u : U β) → TermSkeleton (as_head_skeletons κ) (local_skeletons D (context_skeletons (skeletons_U β u).free)) (rename ρ M) (skeleton X) = λ β u. (skeletons_U β u).terms D (rename ρ M) X m in (
              m',
              OpenSpineType-unrename D' D ρ S (instantiate_type Y M Y') (instantiate_type X (rename ρ M) X') C' C w
                  (λ β u. subst (TypeBySkeletons (family_skeletons Σ) (as_head_skeletons κ) (local_skeletons D (context_skeletons (skeletons_U β u).free))) (sym (rename_instance ρ Y M Y')) (single_type_by_skeletons (family_skeletons Σ) (as_head_skeletons κ) (skeleton (rename_type ρ Y)) (local_skeletons D (context_skeletons (skeletons_U β u).free)) (rename ρ M) (rename_type (lift_renaming ρ) Y') (subst (TermSkeleton (as_head_skeletons κ) (local_skeletons D (context_skeletons (skeletons_U β u).free)) (rename ρ M)) (sym s₀.0) (mx β u)) (y β u).1))
                  (λ β u. single_type_by_skeletons (family_skeletons Σ) (as_head_skeletons κ) (skeleton X) (local_skeletons D (context_skeletons (skeletons_U β u).free)) (rename ρ M) X' (mx β u) (x β u).1)
                  (subst (λ Z. Same D Z (instantiate_type X (rename ρ M) X')) (sym (rename_instance ρ Y M Y')) i) t k,
            )
        OpenSpineType-unrename D' D ρ (app M S) (atom c T) (pi X X') C' C w y x s t m = absurd (no s.0)
          where
            no : {c : ℕ} {x y : Skeleton} → base c ≡ arrow x y → ⊥
            no e = cc
        OpenSpineType-unrename D' D ρ (app M S) Y (atom c T) C' C w y x s t m = absurd m

      -- kinds, by skeletons at each filling
      abbrev AllKinds : List LfType → Kind → Type 0
      AllKinds D K = (β : ℕ → Option Term) (u : U β) → KindBySkeletons (family_skeletons Σ) (as_head_skeletons κ) (local_skeletons D (context_skeletons (skeletons_U β u).free)) K

      OpenSpineFitsKind-unrename : (D' D : List LfType) (ρ : ℕ → ℕ) (S : Spine) (K : Kind) → Known D' D ρ → AllKinds D (rename_kind ρ K) → OpenSpineFitsKind Σ G Ψ U D (rename_spine ρ S) (rename_kind ρ K) → OpenSpineFitsKind Σ G Ψ U D' S K
      OpenSpineFitsKind-unrename D' D ρ nil (kind_pi A K) w k s = absurd s
      OpenSpineFitsKind-unrename D' D ρ nil star w k s = tt
      OpenSpineFitsKind-unrename D' D ρ (app M S) star w k s = absurd s
      OpenSpineFitsKind-unrename D' D ρ (app M S) (kind_pi A K) w k (m, s) =
          let q : rename_kind ρ (instantiate_kind A M K) ≡ instantiate_kind (rename_type ρ A) (rename ρ M) (rename_kind (lift_renaming ρ) K) = rename_single_kind ρ (skeleton A) M K ∙ ap (λ t. substitute_kind reduce (single t (rename ρ M)) (rename_kind (lift_renaming ρ) K)) (sym (skeleton_renamed ρ A)) in (
            OpenHasType-unrename D' D ρ M A (rename_type ρ A) w (λ β u. (k β u).0) (λ β u. (k β u).0) (refl, λ β u. refl) m,
            OpenSpineFitsKind-unrename D' D ρ S (instantiate_kind A M K) w
                (λ β u. subst (KindBySkeletons (family_skeletons Σ) (as_head_skeletons κ) (local_skeletons D (context_skeletons (skeletons_U β u).free))) (sym q) (single_kind_by_skeletons (family_skeletons Σ) (as_head_skeletons κ) (skeleton (rename_type ρ A)) (local_skeletons D (context_skeletons (skeletons_U β u).free)) (rename ρ M) (rename_kind (lift_renaming ρ) K) ((skeletons_U β u).terms D (rename ρ M) (rename_type ρ A) m) (k β u).1))
                (subst (OpenSpineFitsKind Σ G Ψ U D (rename_spine ρ S)) (sym q) s),
          )

      closed_kind_skeletons : (D : List LfType) (ρ : ℕ → ℕ) (a : ℕ) (K : Kind) → Σ.kinds a ≡ Some K → AllKinds D (rename_kind ρ K)
      closed_kind_skeletons D ρ a K e β u =
          let F : List LfType = (skeletons_U β u).free in
          subst (KindBySkeletons (family_skeletons Σ) (as_head_skeletons κ) (local_skeletons D (context_skeletons F))) (sym (closed_kind_renamed Σ ρ K (ok.kinds_ok a K e)))
          (subst (λ Γ. KindBySkeletons (family_skeletons Σ) (as_head_skeletons κ) Γ K) (local_skeleton_context D F) (kind_by_skeletons Σ μ (onto D F) K (family_kind Σ ok (onto D F) a K e)))

      -- THE theorem: a renamed type is a type, up to U, only where the type is
      pub OpenIsType-unrename : (D' D : List LfType) (ρ : ℕ → ℕ) (A : LfType) → Known D' D ρ → AllSkeletonsUpTo D (rename_type ρ A) → OpenIsType Σ G Ψ U D (rename_type ρ A) → OpenIsType Σ G Ψ U D' A
      OpenIsType-unrename D' D ρ (pi A B) w k (a, b) = (OpenIsType-unrename D' D ρ A w (λ β u. (k β u).0) a, OpenIsType-unrename (A ∷ D') (rename_type ρ A ∷ D) (lift_renaming ρ) B (Known-lift_renaming D' D ρ A (rename_type ρ A) w (refl, λ β u. refl) (λ β u. (k β u).0) (λ β u. (k β u).0)) (λ β u. (k β u).1) b)
      OpenIsType-unrename D' D ρ (atom a S) w k (K, e, s) = (K, e, OpenSpineFitsKind-unrename D' D ρ S K w (closed_kind_skeletons D ρ a K e) (subst (OpenSpineFitsKind Σ G Ψ U D (rename_spine ρ S)) (sym (closed_kind_renamed Σ ρ K (ok.kinds_ok a K e))) s))
