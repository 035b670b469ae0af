-- THE theorem on typing and binding: what a pattern is bound to is typed, up to the unifiers.
use Rattle.std.proofs.Common.{◌≡◌, ℕ, zero, suc, List, [], ◌∷◌, Option, Some, ◌⊎◌, inl, inr, refl, sym, ap, ◌∙◌, subst}
use Rattle.lf.specs.Substitution.{reduce, single}
use Rattle.lf.specs.SkeletonTyping.{SkeletonAt, TermSkeleton, TypeBySkeletons}
use Rattle.lf.specs.Skeletons.{context_skeletons, family_skeletons}
use Rattle.lf.specs.Syntax.{Skeleton, Spine, Term, LfType, arrow, atom, base, metavariable, nil, pi, rename, rename_type, root, skeleton, variable, weaken}
use Rattle.lf.specs.Typing.{TypeAt, SpineType, IsSignature, Signature, instantiate_type}
use Rattle.lf.specs.Variables.{onto}
use Rattle.lf_unification.specs.Filling.{fill_spine, fill_type}
use Rattle.lf_unification.specs.PartialInstance.{PartialInstance, LocalBySkeletonsUpTo, TypeBySkeletonsUpTo}
use Rattle.lf_unification.specs.OpenTyping.{MetavariablesInSpine, OpenIsContext, DeclarationsAreTyped, OpenSpineType, OpenHasType, OpenIsType, TypesAgree, fill_locals, skeletons_of, weaken_past, under_locals}
use Rattle.lf_unification.specs.Patterns.{beyond, local_skeletons}
use Rattle.lf_unification.specs.Patterns.{Injective, PatternFits, eta_variable, extend_renaming, lambdas_of, pattern, pattern_renaming, context_under}
use Rattle.lf_unification.specs.Skeletons.{TotalSkeletons, as_head_skeletons, total_skeletons}
use Rattle.lf.proofs.Decidability.{variable_type_unique}
use Rattle.lf.specs.SkeletonTyping.{RenamingBySkeletons}
use Rattle.lf.proofs.SkeletonTypes.{renaming_keeps_types_by_skeletons}
use Rattle.lf.proofs.ToSkeletons.{variable_has_skeleton}
use Rattle.lf.proofs.TypeLaws.{renamings_compose_type, skeleton_renamed, skeleton_substituted}
use Rattle.lf.specs.Typing.{IsTypedRenaming}
use Rattle.lf_unification.proofs.Eta.{rename_id_type}
use Rattle.lf_unification.proofs.EtaInversion.{arguments_over, goal_of, pattern_typed}
use Rattle.lf_unification.proofs.Exhaust.{local_skeleton_context}
use Rattle.lf_unification.proofs.Filling.{TypeBySkeletons-fill, skeleton_fill}
use Rattle.lf_unification.proofs.Fillings.{at_skeletons, filled_context_skeletons, local_at_skeletons}
use Rattle.lf_unification.proofs.OpenSound.{LocalTypesBySkeletons-of, OpenSpineType-sound', OpenHasType-by_skeletons, OpenIsType-by_skeletons, local_at, skeletons_metavariable, skeletons_under, skeleton_raise}
use Rattle.lf_unification.proofs.OpenRenamingBack.{Known, OpenHasType-unrename, AllSkeletonsUpTo, SkeletonsUpTo, fill_moved, raise_moved}
use Rattle.lf_unification.proofs.Patterns.{fill_pattern}
use Rattle.lf_unification.proofs.Raise.{local_skeleton_fill}
use Rattle.lf_unification.proofs.Scope.{in_expand}
use Rattle.lf_unification.proofs.Shrink.{RenamingBySkeletons-pattern}
use Rattle.lf_unification.proofs.StepLemmas.{beyond_skeletons}
use Rattle.lf_unification.proofs.ToSkeletons.{SkeletonAt-once}

-- quantifiers and lambdas
pub local_skeleton_arguments : (D : List LfType) (A : LfType) (Γ : List Skeleton) → local_skeletons (arguments_over D A) Γ ≡ context_under (skeleton A) (local_skeletons D Γ)
local_skeleton_arguments D (pi A B) Γ = local_skeleton_arguments (A ∷ D) B Γ
local_skeleton_arguments D (atom a T) Γ = refl

pub arguments_past : (D : List LfType) (A : LfType) (xs : List ℕ) (τ : ℕ → ℕ) (Δ : List Skeleton) (i : ℕ) → PatternFits Δ (skeleton A) xs → pattern_renaming (skeleton A) xs τ (beyond (arguments_over D A) i) ≡ τ (beyond D i)
arguments_past D (pi A B) [] τ Δ i p = absurd p
arguments_past D (pi A B) (x ∷ xs) τ Δ i p = arguments_past (A ∷ D) B xs (extend_renaming x τ) Δ i p.1
arguments_past D (atom a T) xs τ Δ i p = refl

pub in_pattern : (V : ℕ → Type 0) (t : Skeleton) (xs : List ℕ) → MetavariablesInSpine V (pattern t xs)
in_pattern V (base c) xs = tt
in_pattern V (arrow a b) [] = tt
in_pattern V (arrow a b) (x ∷ xs) = (in_expand V a (variable x) nil tt tt, in_pattern V b xs)

pub at_or_outer : (E G : List LfType) (i : ℕ) → ((Y : LfType) × TypeAt (onto E G) i Y) ⊎ ((j : ℕ) × (i ≡ beyond E j))
at_or_outer [] G i = inr (i, refl)
at_or_outer (A ∷ E) G zero = inl (weaken A, refl)
at_or_outer (A ∷ E) G (suc i) = go (at_or_outer E G i)
  where
    go : ((Y : LfType) × TypeAt (onto E G) i Y) ⊎ ((j : ℕ) × (i ≡ beyond E j)) → ((Y : LfType) × TypeAt (A ∷ onto E G) (suc i) Y) ⊎ ((j : ℕ) × (suc i ≡ suc (beyond E j)))
    go (inl (Y, g)) = inl (weaken Y, (Y, g, refl))
    go (inr (j, e)) = inr (j, ap suc e)

pub at_outer : (D G : List LfType) (j : ℕ) (X : LfType) → TypeAt (onto D G) (beyond D j) X → (Z : LfType) × TypeAt G j Z
at_outer [] G j X g = (X, g)
at_outer (A ∷ D) G j X (C, g, e) = at_outer D G j C g

at_past : (E G : List LfType) (j : ℕ) (Z : LfType) → TypeAt G j Z → (Y : LfType) × TypeAt (onto E G) (beyond E j) Y
at_past [] G j Z g = (Z, g)
at_past (A ∷ E) G j Z g = let (Y, h) = at_past E G j Z g in (weaken Y, (Y, h, refl))

pub past_renames : (μ : ℕ → Skeleton) (β : ℕ → Option Term) (D F : List LfType) → IsTypedRenaming F (onto (fill_locals μ β D) F) (beyond D)
past_renames μ β [] F i A g = subst (TypeAt F i) (sym (rename_id_type A)) g
past_renames μ β (B ∷ D) F i A g = (rename_type (beyond D) A, past_renames μ β D F i A g, sym (renamings_compose_type suc (beyond D) A))

module _ (Σ : Signature) (ok : IsSignature Σ) (G : List LfType) (Ψ : ℕ → Option LfType) (U : (ℕ → Option Term) → Type 0) where
  abbrev μ : ℕ → Skeleton
  μ = skeletons_of Ψ

  abbrev κ : TotalSkeletons
  κ = total_skeletons Σ μ

  pub open_lambdas : (D : List LfType) (A : LfType) (N : Term) → OpenHasType Σ G Ψ U (arguments_over D A) N (goal_of A) → OpenHasType Σ G Ψ U D (lambdas_of (skeleton A) N) A
  open_lambdas D (pi A B) N m = open_lambdas (A ∷ D) B N m
  open_lambdas D (atom a T) N m = m

  filled_arguments : (D : List LfType) (A : LfType) → OpenIsContext Σ G Ψ U D → OpenIsType Σ G Ψ U D A → OpenIsContext Σ G Ψ U (arguments_over D A) × OpenIsType Σ G Ψ U (arguments_over D A) (goal_of A)
  filled_arguments D (pi A B) l (a, b) = filled_arguments (A ∷ D) B (l, a) b
  filled_arguments D (atom a T) l t = (l, t)

  fill_arguments : (F : List LfType) (β : ℕ → Option Term) (D : List LfType) (A : LfType) → arguments_over (onto (fill_locals μ β D) F) (fill_type μ (under_locals D β) A) ≡ onto (fill_locals μ β (arguments_over D A)) F
  fill_arguments F β D (pi A B) = fill_arguments F β (A ∷ D) B
  fill_arguments F β D (atom a T) = refl

  fill_goal : (β : ℕ → Option Term) (D : List LfType) (A : LfType) → goal_of (fill_type μ (under_locals D β) A) ≡ fill_type μ (under_locals (arguments_over D A) β) (goal_of A)
  fill_goal β D (pi A B) = fill_goal β (A ∷ D) B
  fill_goal β D (atom a T) = refl

  goal_skeleton : (D : List LfType) (A X C : LfType) (xs : List ℕ) (Δ : List Skeleton) → skeleton X ≡ skeleton A → PatternFits Δ (skeleton A) xs → OpenSpineType Σ G Ψ U D (pattern (skeleton A) xs) X C → skeleton (goal_of A) ≡ skeleton C
  goal_skeleton D (pi A B) X C [] Δ e p s = absurd p
  goal_skeleton D (pi A B) (atom a T) C (x ∷ xs) Δ e p s = absurd s
  goal_skeleton D (pi A B) (pi X Y) C (x ∷ xs) Δ e p (m, s) = goal_skeleton D B (instantiate_type X (eta_variable (skeleton A) x) Y) C xs Δ (skeleton_substituted reduce (single (skeleton X) (eta_variable (skeleton A) x)) Y ∙ (let q : skeleton Y ≡ skeleton B = cc in q)) p.1 s
  goal_skeleton D (atom a T) X C xs Δ e p s = sym e ∙ s.0

  module _ (declarations_typed : DeclarationsAreTyped Σ G Ψ U) (half : (β : ℕ → Option Term) → U β → (F : List LfType) × PartialInstance Σ G Ψ (λ m. ⊥) F β) (D : List LfType) (local_typed : LocalBySkeletonsUpTo Σ G Ψ U D) (m : ℕ) (A : LfType) (declared : Ψ m ≡ Some A) (xs : List ℕ) (places : (Γ : List Skeleton) → PatternFits (local_skeletons D Γ) (skeleton A) xs) (inj : Injective (pattern_renaming (skeleton A) xs (beyond D))) (c : ℕ) (T : Spine) (left : OpenHasType Σ G Ψ U D (root (metavariable m) (pattern (skeleton A) xs)) (atom c T)) where
    abbrev E : List LfType
    E = arguments_over [] A

    abbrev ρ : ℕ → ℕ
    ρ = pattern_renaming (skeleton A) xs (beyond D)

    A_ok : OpenIsType Σ G Ψ U [] A
    A_ok = declarations_typed.metavariables_typed m A declared

    spine_ok : OpenSpineType Σ G Ψ U D (pattern (skeleton A) xs) (weaken_past D A) (atom c T)
    spine_ok = go left
      where
        go : OpenHasType Σ G Ψ U D (root (metavariable m) (pattern (skeleton A) xs)) (atom c T) → OpenSpineType Σ G Ψ U D (pattern (skeleton A) xs) (weaken_past D A) (atom c T)
        go (X, (B, g, e), s) = subst (λ Z. OpenSpineType Σ G Ψ U D (pattern (skeleton A) xs) Z (atom c T)) (e ∙ ap (weaken_past D) (let p : Some B ≡ Some A = sym g ∙ declared in let q : B ≡ A = cc in q)) s

    abbrev skeletons_U : (β : ℕ → Option Term) → U β → SkeletonsUpTo Σ ok G Ψ U β
    skeletons_U β u = let (F, w) = half β u in record {
      free = F;
      values = skeletons_under Σ ok G Ψ U (λ k. ⊥) F β w [];
      terms = λ D M X t. subst (λ Γ. TermSkeleton (as_head_skeletons κ) Γ M (skeleton X)) (local_skeleton_fill μ β D F) (OpenHasType-by_skeletons Σ ok G Ψ U (λ k. ⊥) F β w D M X t);
    }

    skeletons_all : (D : List LfType) (X : LfType) → OpenIsType Σ G Ψ U D X → AllSkeletonsUpTo Σ ok G Ψ U skeletons_U D X
    skeletons_all D X t β u = let (F, w) = half β u in subst (λ Γ. TypeBySkeletons (family_skeletons Σ) (as_head_skeletons κ) Γ X) (local_skeleton_fill μ β D F) (OpenIsType-by_skeletons Σ ok G Ψ U (λ k. ⊥) F β w D X t)

    skeletons_local : (D : List LfType) → OpenIsContext Σ G Ψ U D → (i : ℕ) (X : LfType) → TypeAt (onto D G) i X → AllSkeletonsUpTo Σ ok G Ψ U skeletons_U D X
    skeletons_local D l i X g β u = let (F, w) = half β u in subst (λ Γ. TypeBySkeletons (family_skeletons Σ) (as_head_skeletons κ) Γ X) (local_skeleton_fill μ β D F) (LocalTypesBySkeletons-of Σ ok G Ψ U (λ k. ⊥) F β w declarations_typed u D l i X g)

    rename_skeletons : (Γ : List Skeleton) → RenamingBySkeletons (local_skeletons E Γ) (local_skeletons D Γ) ρ
    rename_skeletons Γ = subst (λ X. RenamingBySkeletons X (local_skeletons D Γ) ρ) (sym (local_skeleton_arguments [] A Γ)) (RenamingBySkeletons-pattern Γ (local_skeletons D Γ) (skeleton A) xs (beyond D) (beyond_skeletons D Γ) (places Γ))

    outer : (i : ℕ) → ρ (beyond E i) ≡ beyond D i
    outer i = arguments_past [] A xs (beyond D) (local_skeletons D []) i (places [])

    -- under each filling the pattern is typed, so its variables have the types of the quantifiers
    at_each : (β : ℕ → Option Term) (u : U β) → IsTypedRenaming (onto (fill_locals μ β E) (half β u).0) (onto (fill_locals μ β D) (half β u).0) ρ × (rename_type ρ (fill_type μ (under_locals E β) (goal_of A)) ≡ fill_type μ (under_locals D β) (atom c T))
    at_each β u = go (half β u).0 (half β u).1
      where
        go : (F : List LfType) → PartialInstance Σ G Ψ (λ k. ⊥) F β → IsTypedRenaming (onto (fill_locals μ β E) F) (onto (fill_locals μ β D) F) ρ × (rename_type ρ (fill_type μ (under_locals E β) (goal_of A)) ≡ fill_type μ (under_locals D β) (atom c T))
        go F w =
            let Δ : List LfType = onto (fill_locals μ β D) F in
            let A' : LfType = fill_type μ β A in
            let a : skeleton A' ≡ skeleton A = skeleton_fill μ β A in
            let Γ_is : context_skeletons Δ ≡ local_skeletons D (context_skeletons F) = local_skeleton_fill μ β D F in
            let sound : SpineType Σ Δ (fill_spine μ (under_locals D β) (pattern (skeleton A) xs)) (fill_type μ (under_locals D β) (weaken_past D A)) (fill_type μ (under_locals D β) (atom c T))
            = OpenSpineType-sound' Σ ok G Ψ U (λ k. ⊥) F β w declarations_typed u D (pattern (skeleton A) xs) (weaken_past D A) (atom c T) (local_at_skeletons Σ ok G Ψ U F β w declarations_typed u D local_typed) (filled_context_skeletons Σ ok G Ψ U F β w declarations_typed u D local_typed) (skeletons_metavariable Σ ok G Ψ U (λ k. ⊥) F β w declarations_typed u D m A declared) (in_pattern (λ k. ⊥) (skeleton A) xs) spine_ok in
            let top : fill_type μ (under_locals D β) (weaken_past D A) ≡ rename_type (beyond D) A' = ap (fill_type μ (under_locals D β)) (raise_moved Σ ok G Ψ U D A) ∙ fill_moved Σ ok G Ψ U [] D (beyond D) β (λ i. refl) A in
            let s₁ : SpineType Σ Δ (pattern (skeleton A) xs) (rename_type (beyond D) A') (fill_type μ (under_locals D β) (atom c T))
            = subst (λ Z. SpineType Σ Δ (pattern (skeleton A) xs) Z (fill_type μ (under_locals D β) (atom c T))) top (subst (λ S. SpineType Σ Δ S (fill_type μ (under_locals D β) (weaken_past D A)) (fill_type μ (under_locals D β) (atom c T))) (fill_pattern μ (skeleton A) (under_locals D β) xs) sound) in
            let s₂ : SpineType Σ Δ (pattern (skeleton A') xs) (rename_type (beyond D) A') (fill_type μ (under_locals D β) (atom c T)) = subst (λ t. SpineType Σ Δ (pattern t xs) (rename_type (beyond D) A') (fill_type μ (under_locals D β) (atom c T))) (sym a) s₁ in
            let r = pattern_typed Σ μ ok F Δ (beyond D) A' (fill_type μ (under_locals D β) (atom c T)) xs (filled_context_skeletons Σ ok G Ψ U F β w declarations_typed u D local_typed) (past_renames μ β D F)
            (subst (λ Γ. RenamingBySkeletons (context_skeletons F) Γ (beyond D)) (sym Γ_is) (beyond_skeletons D (context_skeletons F)))
            (TypeBySkeletons-fill κ (family_skeletons Σ) (context_skeletons F) β A (skeletons_under Σ ok G Ψ U (λ k. ⊥) F β w []) (OpenIsType-by_skeletons Σ ok G Ψ U (λ k. ⊥) F β w [] A A_ok))
            (subst (λ t. PatternFits (context_skeletons Δ) t xs) (sym a) (subst (λ Γ. PatternFits Γ (skeleton A) xs) (sym Γ_is) (places (context_skeletons F)))) s₂ in
            back F A' a r.0 r.1
          where
            back : (F : List LfType) (A' : LfType) → skeleton (fill_type μ β A) ≡ skeleton A → IsTypedRenaming (arguments_over F (fill_type μ β A)) (onto (fill_locals μ β D) F) (pattern_renaming (skeleton (fill_type μ β A)) xs (beyond D)) → rename_type (pattern_renaming (skeleton (fill_type μ β A)) xs (beyond D)) (goal_of (fill_type μ β A)) ≡ fill_type μ (under_locals D β) (atom c T) → IsTypedRenaming (onto (fill_locals μ β E) F) (onto (fill_locals μ β D) F) ρ × (rename_type ρ (fill_type μ (under_locals E β) (goal_of A)) ≡ fill_type μ (under_locals D β) (atom c T))
            back F A' a r q = (
              subst (λ X. IsTypedRenaming X (onto (fill_locals μ β D) F) ρ) (fill_arguments F β [] A) (subst (λ t. IsTypedRenaming (arguments_over F (fill_type μ β A)) (onto (fill_locals μ β D) F) (pattern_renaming t xs (beyond D))) a r),
              ap (rename_type ρ) (sym (fill_goal β [] A)) ∙ subst (λ t. rename_type (pattern_renaming t xs (beyond D)) (goal_of (fill_type μ β A)) ≡ fill_type μ (under_locals D β) (atom c T)) a q,
            )

    E_ok : OpenIsContext Σ G Ψ U E × OpenIsType Σ G Ψ U E (goal_of A)
    E_ok = filled_arguments [] A tt A_ok

    there : (i : ℕ) (X : LfType) → TypeAt (onto D G) (ρ i) X → (Y : LfType) × TypeAt (onto E G) i Y
    there i X g = go (at_or_outer E G i)
      where
        go : ((Y : LfType) × TypeAt (onto E G) i Y) ⊎ ((j : ℕ) × (i ≡ beyond E j)) → (Y : LfType) × TypeAt (onto E G) i Y
        go (inl y) = y
        go (inr (j, e)) =
            let (Z, h) = at_outer D G j X (subst (λ k. TypeAt (onto D G) k X) (ap ρ e ∙ outer j) g) in
            let (Y, y) = at_past E G j Z h in
            (Y, subst (λ k. TypeAt (onto E G) k Y) (sym e) y)

    known : Known Σ ok G Ψ U skeletons_U E D ρ
    known = record {
      moves = record { distinct = inj; outer = outer; types = types };
      here = λ i X g β u. at_skeletons Σ ok G Ψ U declarations_typed D local_typed i X g (half β u).0 β (half β u).1 u;
      there = λ i Y g β u. renaming_keeps_types_by_skeletons (family_skeletons Σ) (as_head_skeletons κ) (local_skeletons E (context_skeletons (half β u).0)) (local_skeletons D (context_skeletons (half β u).0)) ρ Y (rename_skeletons (context_skeletons (half β u).0)) (skeletons_local E E_ok.0 i Y g β u);
    }
      where
        types : (i : ℕ) (X : LfType) → TypeAt (onto D G) (ρ i) X → (Y : LfType) × TypeAt (onto E G) i Y × Rattle.lf_unification.specs.OpenTyping.TypesAgree Σ G Ψ U D (rename_type ρ Y) X
        types i X g =
            let (Y, h) = there i X g in
            let by_skeletons : skeleton Y ≡ skeleton X = SkeletonAt-once (local_skeletons D (context_skeletons G)) (ρ i) (skeleton Y) (skeleton X) (rename_skeletons (context_skeletons G) i (skeleton Y) (subst (λ Γ. SkeletonAt Γ i (skeleton Y)) (local_skeleton_context E G) (variable_has_skeleton (onto E G) i Y h))) (subst (λ Γ. SkeletonAt Γ (ρ i) (skeleton X)) (local_skeleton_context D G) (variable_has_skeleton (onto D G) (ρ i) X g)) in (
              Y,
              h,
              (
                skeleton_renamed ρ Y ∙ by_skeletons,
                λ β u.
                    let (F, w) = half β u in
                    fill_moved Σ ok G Ψ U E D ρ β outer Y
                    ∙ variable_type_unique (onto (fill_locals μ β D) F) (ρ i) (rename_type ρ (fill_type μ (under_locals E β) Y)) (fill_type μ (under_locals D β) X) ((at_each β u).0 i (fill_type μ (under_locals E β) Y) (local_at Σ ok G Ψ U (λ k. ⊥) F β w E i Y h)) (local_at Σ ok G Ψ U (λ k. ⊥) F β w D (ρ i) X g),
              ),
            )

    -- the inversion N of the other side, under its lambdas, has the type of the metavariable
    pub binding_typed : (N : Term) → TypeBySkeletonsUpTo Σ G Ψ U D (atom c T) → OpenHasType Σ G Ψ U D (rename ρ N) (atom c T) → OpenHasType Σ G Ψ U [] (lambdas_of (skeleton A) N) A
    binding_typed N of_type right =
        open_lambdas [] A N (OpenHasType-unrename Σ ok G Ψ U skeletons_U
        (λ D' k B e β u. let (F, w) = half β u in subst (λ Γ. TypeBySkeletons (family_skeletons Σ) (as_head_skeletons κ) Γ (weaken_past D' B)) (local_skeleton_fill μ β D' F) (skeletons_metavariable Σ ok G Ψ U (λ k. ⊥) F β w declarations_typed u D' k B e))
        E D ρ N (goal_of A) (atom c T) known
        (λ β u. renaming_keeps_types_by_skeletons (family_skeletons Σ) (as_head_skeletons κ) (local_skeletons E (context_skeletons (half β u).0)) (local_skeletons D (context_skeletons (half β u).0)) ρ (goal_of A) (rename_skeletons (context_skeletons (half β u).0)) (skeletons_all E (goal_of A) E_ok.1 β u))
        (λ β u. of_type (half β u).0 β (half β u).1 u)
        (skeleton_renamed ρ (goal_of A) ∙ goal_skeleton D A (weaken_past D A) (atom c T) xs (local_skeletons D []) (skeleton_raise D A) (places []) spine_ok, λ β u. fill_moved Σ ok G Ψ U E D ρ β outer (goal_of A) ∙ (at_each β u).1)
        right)
