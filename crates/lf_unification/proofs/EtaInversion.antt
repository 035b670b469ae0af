-- An eta-long variable has no type but its own; so the arguments of a typed pattern have the types of its variables.
use Rattle.std.proofs.Common.{◌≡◌, ℕ, zero, suc, List, [], ◌∷◌, Some, refl, sym, ap, ap₂, ◌∙◌, subst}
use Rattle.lf.specs.Eta.{eta_expand, add_last}
use Rattle.lf.specs.Substitution.{reduce, single, substitute_type}
use Rattle.lf.specs.SkeletonTyping.{SkeletonAt, HeadSkeleton, SpineSkeleton, TermSkeleton, TypeBySkeletons, HeadSkeletons}
use Rattle.lf.specs.Skeletons.{context_skeletons, family_skeletons}
use Rattle.lf.specs.Syntax.{Head, Skeleton, Spine, Term, LfType, app, arrow, atom, base, constant, metavariable, nil, pi, rename_head, rename_spine, rename_type, skeleton, lift_renaming, variable, weaken}
use Rattle.lf.specs.Typing.{TypeAt, HeadHasType, SpineType, HasType, IsSignature, Signature, instantiate_type}
use Rattle.lf_unification.specs.Patterns.{Injective, PatternFits, eta_variable, extend_renaming, pattern, pattern_renaming}
use Rattle.lf_unification.specs.Skeletons.{TotalSkeletons, as_head_skeletons, total_skeletons}
use Rattle.lf.proofs.Closed.{closed_type_renamed}
use Rattle.lf.specs.SkeletonTyping.{RenamingBySkeletons}
use Rattle.lf.proofs.SkeletonTyping.{renaming_keeps_spine_skeletons}
use Rattle.lf.proofs.SkeletonTypes.{renaming_keeps_types_by_skeletons}
use Rattle.lf.proofs.Strength.{rename_instance}
use Rattle.lf.proofs.Substitution.{constant_type}
use Rattle.lf.proofs.TypeLaws.{renamings_compose_type, skeleton_renamed}
use Rattle.lf.specs.Typing.{IsTypedRenaming}
use Rattle.lf_unification.proofs.Eta.{HeadSkeleton-weak, SpineSkeleton-add_last, argument_by_skeletons, skeletons_zero}
use Rattle.lf_unification.proofs.EtaTyped.{substituted_argument_type, substituted_self_type}
use Rattle.lf_unification.proofs.Inverse.{rename_injective_type}
use Rattle.lf_unification.proofs.Substitution.{SkeletonContext, skeleton_context_push, SkeletonType, SkeletonType-instance}
use Rattle.lf_unification.proofs.ToSkeletons.{HeadHasType-has_skeleton, typed_spine_has_skeleton, type_by_skeletons, SkeletonAt-once}
use Rattle.lf_unification.proofs.RenamingBack.{Back, SpineType-unrename}

-- the quantifiers of a type as a context over another, and its target
abbrev pub arguments_over : List LfType → LfType → List LfType
arguments_over F (pi A B) = arguments_over (A ∷ F) B
arguments_over F (atom a T) = F

abbrev pub goal_of : LfType → LfType
goal_of (pi A B) = goal_of B
goal_of (atom a T) = atom a T

suc_injective : Injective suc
suc_injective i j e = cc

module _ (Σ : Signature) (μ : ℕ → Skeleton) (ok : IsSignature Σ) where
  -- a renamed spine takes a renamed type to a renamed type
  spine_rename : (G : List LfType) (ρ : ℕ → ℕ) (S : Spine) (A R : LfType) → SpineType Σ G (rename_spine ρ S) (rename_type ρ A) R → (R' : LfType) × (R ≡ rename_type ρ R')
  spine_rename G ρ nil A R e = (A, sym e)
  spine_rename G ρ (app M S) (pi A B) R (m, s) = spine_rename G ρ S (instantiate_type A M B) R (subst (λ X. SpineType Σ G (rename_spine ρ S) X R) (sym (rename_instance ρ A M B)) s)
  spine_rename G ρ (app M S) (atom a T) R s = absurd s

  spine_add : (G : List LfType) (S : Spine) (N : Term) (A C : LfType) → SpineType Σ G (add_last S N) A C → (X : LfType) × (Y : LfType) × SpineType Σ G S A (pi X Y) × HasType Σ G N X × (instantiate_type X N Y ≡ C)
  spine_add G nil N (pi A B) C (n, e) = (A, B, refl, n, e)
  spine_add G nil N (atom a T) C s = absurd s
  spine_add G (app M S) N (pi A B) C (m, s) = let (X, Y, t, n, e) = spine_add G S N (instantiate_type A M B) C s in (X, Y, (m, t), n, e)
  spine_add G (app M S) N (atom a T) C s = absurd s

  spine_skeletons : (G : List LfType) (S : Spine) (A C : LfType) → SpineType Σ G S A C → SkeletonType Σ μ ok G A → SkeletonType Σ μ ok G C
  spine_skeletons G nil A C e a = subst (SkeletonType Σ μ ok G) e a
  spine_skeletons G (app M S) (pi A B) C (m, s) a = spine_skeletons G S (instantiate_type A M B) C s (SkeletonType-instance Σ μ ok G A M B m a.1)
  spine_skeletons G (app M S) (atom a T) C s k = absurd s

  back_suc : (G : List LfType) (B : LfType) → Back G (B ∷ G) suc
  back_suc G B i X (C, g, e) = (C, g, e)

  head_back : (G : List LfType) (B : LfType) (h : Head) (H : LfType) → HeadHasType Σ (B ∷ G) (rename_head suc h) H → (K : LfType) × HeadHasType Σ G h K × (H ≡ weaken K)
  head_back G B (constant c) H e = (H, e, sym (closed_type_renamed Σ suc H (ok.types_ok c H e)))
  head_back G B (variable i) H (C, g, e) = (C, g, e)
  head_back G B (metavariable m) H g = absurd g

  head_skeletons : (G : List LfType) → SkeletonContext Σ μ ok G → (h : Head) (H : LfType) → HeadHasType Σ G h H → SkeletonType Σ μ ok G H
  head_skeletons G c (constant d) H e = type_by_skeletons Σ μ G H (constant_type Σ ok G d H e)
  head_skeletons G c (variable i) H g = c i H g
  head_skeletons G c (metavariable m) H g = absurd g

  skeletons_once : (κ : HeadSkeletons) (Γ : List Skeleton) (S : Spine) (t u v : Skeleton) → SpineSkeleton κ Γ S t u → SpineSkeleton κ Γ S t v → u ≡ v
  skeletons_once κ Γ nil t u v e f = sym e ∙ f
  skeletons_once κ Γ (app M S) (arrow a b) u v (m, s) (n, s') = skeletons_once κ Γ S b u v s s'
  skeletons_once κ Γ (app M S) (base c) u v s s' = absurd s

  head_once : (κ : HeadSkeletons) (Γ : List Skeleton) (h : Head) (t u : Skeleton) → HeadSkeleton κ Γ h t → HeadSkeleton κ Γ h u → t ≡ u
  head_once κ Γ (constant c) t u g k = (let p : Some t ≡ Some u = sym g ∙ k in cc)
  head_once κ Γ (variable i) t u g k = SkeletonAt-once Γ i t u g k
  head_once κ Γ (metavariable m) t u g k = (let p : Some t ≡ Some u = sym g ∙ k in cc)

  abbrev κ : TotalSkeletons
  κ = total_skeletons Σ μ

  -- The converse of the typing of eta-expansion (v is the skeleton of the head).
  expand_inversion : (t : Skeleton) (G : List LfType) (h : Head) (v : Skeleton) (S : Spine) (A : LfType) → t ≡ skeleton A → SkeletonContext Σ μ ok G → SkeletonType Σ μ ok G A → HeadSkeleton (as_head_skeletons κ) (context_skeletons G) h v → SpineSkeleton (as_head_skeletons κ) (context_skeletons G) S v t → HasType Σ G (eta_expand t h S) A → (H : LfType) × HeadHasType Σ G h H × SpineType Σ G S H A
  expand_inversion (base c) G h v S (pi B C) e c' k y z m = cc
  expand_inversion (base c) G h v S (atom a T) e c' k y z m = m
  expand_inversion (arrow b d) G h v S (atom a T) e c' k y z m = cc
  expand_inversion (arrow b d) G h v S (pi B C) e c' (kb, kc) y z m =
      let p : b ≡ skeleton B = cc in
      let q : d ≡ skeleton C = cc in
      let Γ' : List Skeleton = skeleton B ∷ context_skeletons G in
      let c₁ : SkeletonContext Σ μ ok (B ∷ G) = skeleton_context_push Σ μ ok G B c' kb in
      let y₁ : HeadSkeleton (as_head_skeletons κ) Γ' (rename_head suc h) v = HeadSkeleton-weak (as_head_skeletons κ) (context_skeletons G) (skeleton B) h v y in
      let z₁ : SpineSkeleton (as_head_skeletons κ) Γ' (rename_spine suc S) v (arrow b d) = renaming_keeps_spine_skeletons (as_head_skeletons κ) (context_skeletons G) Γ' suc S v (arrow b d) (λ i t g. g) z in
      let z₂ : SpineSkeleton (as_head_skeletons κ) Γ' (add_last (rename_spine suc S) (eta_variable b zero)) v d = SpineSkeleton-add_last (as_head_skeletons κ) Γ' (rename_spine suc S) (eta_variable b zero) v b d z₁ (subst (λ a. TermSkeleton (as_head_skeletons κ) (a ∷ context_skeletons G) (eta_variable b zero) b) p (skeletons_zero (as_head_skeletons κ) b (context_skeletons G))) in
      let (H', g', s') = expand_inversion d (B ∷ G) (rename_head suc h) v (add_last (rename_spine suc S) (eta_variable b zero)) C q c₁ kc y₁ z₂ m in
      let (H, g, r) = head_back G B h H' g' in
      let (X, Y, s, n, i) = spine_add (B ∷ G) (rename_spine suc S) (eta_variable b zero) H' C s' in
      let w₁ : v ≡ skeleton H' = head_once (as_head_skeletons κ) Γ' (rename_head suc h) v (skeleton H') y₁ (HeadHasType-has_skeleton Σ μ (B ∷ G) (rename_head suc h) H' g') in
      let y : arrow b d ≡ arrow (skeleton X) (skeleton Y) = skeletons_once (as_head_skeletons κ) Γ' (rename_spine suc S) (skeleton H') (arrow b d) (arrow (skeleton X) (skeleton Y)) (subst (λ t. SpineSkeleton (as_head_skeletons κ) Γ' (rename_spine suc S) t (arrow b d)) w₁ z₁) (typed_spine_has_skeleton Σ μ (B ∷ G) (rename_spine suc S) H' (pi X Y) s) in
      let x_skeletons : SkeletonType Σ μ ok (B ∷ G) (pi X Y) = spine_skeletons (B ∷ G) (rename_spine suc S) H' (pi X Y) s (head_skeletons (B ∷ G) c₁ (rename_head suc h) H' g') in
      let (K, k₀, f) = expand_inversion b (B ∷ G) (variable zero) b nil X (let o : b ≡ skeleton X = cc in o) c₁ x_skeletons.0 (sym p) refl n in
      let x_is : X ≡ weaken B = sym f ∙ k₀ in
      let s₁ : SpineType Σ (B ∷ G) (rename_spine suc S) (weaken H) (pi X Y) = subst (λ Z. SpineType Σ (B ∷ G) (rename_spine suc S) Z (pi X Y)) r s in
      let (R, w) = spine_rename (B ∷ G) suc S H (pi X Y) s₁ in
      let s₂ : SpineType Σ G S H R = SpineType-unrename Σ ok G (B ∷ G) suc S H R suc_injective (back_suc G B) (subst (SpineType Σ (B ∷ G) (rename_spine suc S) (weaken H)) w s₁) in
      (H, g, finish b G S B C H X Y R p x_is w i (spine_skeletons G S H R s₂ (head_skeletons G c' h H g)) s₂)
    where
      finish : (b : Skeleton) (G : List LfType) (S : Spine) (B C H X Y R : LfType) → b ≡ skeleton B → X ≡ weaken B → pi X Y ≡ weaken R → instantiate_type X (eta_variable b zero) Y ≡ C → SkeletonType Σ μ ok G R → SpineType Σ G S H R → SpineType Σ G S H (pi B C)
      finish b G S B C H X Y (atom a T) p x w i k s = cc
      finish b G S B C H X Y (pi X' Y') p x w i (k, k') s =
          let x' : X ≡ weaken X' = cc in
          let y' : Y ≡ rename_type (lift_renaming suc) Y' = cc in
          let o : X' ≡ B = rename_injective_type suc suc_injective X' B (sym x' ∙ x) in
          let t : skeleton X ≡ b = ap skeleton x ∙ skeleton_renamed suc B ∙ sym p in
          let u : instantiate_type X (eta_variable b zero) Y ≡ Y' = ap₂ (λ a Z. substitute_type reduce (single a (eta_variable b zero)) Z) t y' ∙ substituted_self_type (family_skeletons Σ) (as_head_skeletons κ) b (context_skeletons G) Y' (subst (λ a. TypeBySkeletons (family_skeletons Σ) (as_head_skeletons κ) (a ∷ context_skeletons G) Y') (ap skeleton o ∙ sym p) k') in
          subst (SpineType Σ G S H) (ap₂ pi o (sym u ∙ i)) s

  -- an eta-long variable has its own type only
  pub eta_inversion : (G : List LfType) (x : ℕ) (A : LfType) → SkeletonContext Σ μ ok G → SkeletonType Σ μ ok G A → SkeletonAt (context_skeletons G) x (skeleton A) → HasType Σ G (eta_variable (skeleton A) x) A → TypeAt G x A
  eta_inversion G x A c k e m = let (H, g, f) = expand_inversion (skeleton A) G (variable x) (skeleton A) nil A refl c k e refl m in subst (TypeAt G x) f g

  -- A pattern that takes a type, moved there by τ: its variables have the types of the quantifiers.
  pub pattern_typed : (F G : List LfType) (τ : ℕ → ℕ) (A C : LfType) (xs : List ℕ) → SkeletonContext Σ μ ok G → IsTypedRenaming F G τ → RenamingBySkeletons (context_skeletons F) (context_skeletons G) τ → SkeletonType Σ μ ok F A → PatternFits (context_skeletons G) (skeleton A) xs → SpineType Σ G (pattern (skeleton A) xs) (rename_type τ A) C →
      IsTypedRenaming (arguments_over F A) G (pattern_renaming (skeleton A) xs τ) × (rename_type (pattern_renaming (skeleton A) xs τ) (goal_of A) ≡ C)
  pattern_typed F G τ (atom a T) C xs c r g k p s = (r, s)
  pattern_typed F G τ (pi A B) C [] c r g k p s = absurd p
  pattern_typed F G τ (pi A B) C (x ∷ xs) c r g (ka, kb) (e, p) (m, s) =
      let A' : LfType = rename_type τ A in
      let ka' : SkeletonType Σ μ ok G A' = renaming_keeps_types_by_skeletons (family_skeletons Σ) (as_head_skeletons κ) (context_skeletons F) (context_skeletons G) τ A g ka in
      let at : TypeAt G x A' = eta_inversion G x A' c ka' (subst (SkeletonAt (context_skeletons G) x) (sym (skeleton_renamed τ A)) e) (subst (λ a. HasType Σ G (eta_variable a x) A') (sym (skeleton_renamed τ A)) m) in
      let q : instantiate_type A' (eta_variable (skeleton A) x) (rename_type (lift_renaming τ) B) ≡ rename_type (extend_renaming x τ) B
      = ap (λ a. substitute_type reduce (single a (eta_variable (skeleton A) x)) (rename_type (lift_renaming τ) B)) (skeleton_renamed τ A) ∙ substituted_argument_type (family_skeletons Σ) (as_head_skeletons κ) (skeleton A) x τ (context_skeletons F) (context_skeletons G) B g e kb in
      pattern_typed (A ∷ F) G (extend_renaming x τ) B C xs c (r' at) g' kb p (subst (λ X. SpineType Σ G (pattern (skeleton B) xs) X C) q s)
    where
      g' : RenamingBySkeletons (skeleton A ∷ context_skeletons F) (context_skeletons G) (extend_renaming x τ)
      g' = argument_by_skeletons (skeleton A) x τ (context_skeletons F) (context_skeletons G) g e

      r' : TypeAt G x (rename_type τ A) → (i : ℕ) (X : LfType) → TypeAt (A ∷ F) i X → TypeAt G (extend_renaming x τ i) (rename_type (extend_renaming x τ) X)
      r' at zero X h = subst (TypeAt G x) (sym (ap (rename_type (extend_renaming x τ)) h ∙ renamings_compose_type (extend_renaming x τ) suc A)) at
      r' at (suc i) X (C, h, f) = subst (TypeAt G (τ i)) (sym (ap (rename_type (extend_renaming x τ)) f ∙ renamings_compose_type (extend_renaming x τ) suc C)) (r i C h)
