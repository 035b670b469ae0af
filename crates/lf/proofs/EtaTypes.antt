-- An eta-long variable has the variable's type alone.
use Rattle.std.proofs.Common.{◌≡◌, ℕ, zero, suc, List, ◌∷◌, refl, sym, ap, ap₂, ◌∙◌, subst}
use Rattle.std.specs.Prelude.{Bool, true, false}
use Rattle.lf.specs.Syntax.{Head, constant, variable, metavariable, Term, Spine, lambda, root, nil, app, LfType, pi, atom, Skeleton, base, arrow, skeleton, lift_renaming, rename_head, rename, rename_spine, rename_type, weaken}
use Rattle.lf.specs.Substitution.{Image, lift, single, substitute_type, reduce}
use Rattle.lf.specs.SkeletonTyping.{TypeBySkeletons, RenamingBySkeletons}
use Rattle.lf.specs.Typing.{Signature, TypeAt, instantiate_type, HasType, SpineType, IsType, IsContext, IsSignature}
use Rattle.lf.specs.Variables.{under, Uses, UsesSpine, IsTypedRenamingOn}
use Rattle.lf.specs.Eta.{add_last, eta_expand, eta_long}
use Rattle.lf.proofs.Renaming.{renamings_compose}
use Rattle.lf.proofs.TypeLaws.{skeleton_renamed, renamings_compose_type, substitute_renamed_type, substitution_as_renaming, substitution_as_renaming_type, substitute_identity_type}
use Rattle.lf.proofs.Renaming.{substitute_identity}
use Rattle.lf.specs.Skeletons.{constant_skeletons, family_skeletons, context_skeletons}
use Rattle.lf.proofs.ToSkeletons.{type_by_skeletons}
use Rattle.lf.proofs.Weakening.{declared_is_type, renaming_keeps_types, weakening_renames}
use Rattle.lf.proofs.Substitution.{instance_is_type}
use Rattle.lf.proofs.SkeletonTyping.{renaming_by_skeletons_under_binder}
use Rattle.lf.proofs.Decidability.{variable_type_unique}
use Rattle.lf.proofs.Eta.{EtaLike, EtaLike-lift, Fits, Fits-lift, eta_rename_spine, eta_both}
use Rattle.lf.proofs.Strength.{strengthening_keeps_typing, rename_instance}

-- skeletons of one form, whatever their base families
abbrev pub SameForm : Skeleton → Skeleton → Type 0
SameForm (base c) (base d) = Unit {0}
SameForm (base c) (arrow a b) = ⊥
SameForm (arrow a b) (base d) = ⊥
SameForm (arrow a b) (arrow c d) = SameForm a c × SameForm b d

pub eta_form : (a c : Skeleton) (h : Head) (S : Spine) → SameForm a c → eta_expand a h S ≡ eta_expand c h S
eta_form (base c) (base d) h S f = refl
eta_form (base c) (arrow a b) h S f = absurd f
eta_form (arrow a b) (base d) h S f = absurd f
eta_form (arrow a b) (arrow c d) h S (f, g) = ap lambda (eta_form b d (rename_head suc h) (add_last (rename_spine suc S) (eta_long a (variable zero))) g ∙ ap (λ N. eta_expand d (rename_head suc h) (add_last (rename_spine suc S) N)) (eta_form a c (variable zero) nil f))

rename_id : (M : Term) → rename (λ i. i) M ≡ M
rename_id M = sym (substitution_as_renaming reduce (λ i. i) M) ∙ substitute_identity reduce M

rename_id_type : (A : LfType) → rename_type (λ i. i) A ≡ A
rename_id_type A = sym (substitution_as_renaming_type reduce (λ i. i) A) ∙ substitute_identity_type reduce A

abbrev lower_one : ℕ → ℕ
lower_one zero = zero
lower_one (suc i) = i

pub weaken_inj : (A B : LfType) → weaken A ≡ weaken B → A ≡ B
weaken_inj A B e = sym (renamings_compose_type lower_one suc A ∙ rename_id_type A) ∙ ap (rename_type lower_one) e ∙ renamings_compose_type lower_one suc B ∙ rename_id_type B

abbrev but_first : ℕ → Bool
but_first zero = false
but_first (suc i) = true

mutual
  moved_uses : (U V : ℕ → Bool) (ρ : ℕ → ℕ) (M : Term) → ((i : ℕ) → V (ρ i) ≡ true) → Uses V (rename ρ M)
  moved_uses U V ρ (lambda M) h = moved_uses U (under V) (lift_renaming ρ) M (lifted V ρ h)
    where
      lifted : (V : ℕ → Bool) (ρ : ℕ → ℕ) → ((i : ℕ) → V (ρ i) ≡ true) → (i : ℕ) → under V (lift_renaming ρ i) ≡ true
      lifted V ρ h zero = refl
      lifted V ρ h (suc i) = h i
  moved_uses U V ρ (root (constant c) S) h = moved_uses_spine U V ρ S h
  moved_uses U V ρ (root (metavariable c) S) h = moved_uses_spine U V ρ S h
  moved_uses U V ρ (root (variable i) S) h = (h i, moved_uses_spine U V ρ S h)

  moved_uses_spine : (U V : ℕ → Bool) (ρ : ℕ → ℕ) (S : Spine) → ((i : ℕ) → V (ρ i) ≡ true) → UsesSpine V (rename_spine ρ S)
  moved_uses_spine U V ρ nil h = tt
  moved_uses_spine U V ρ (app M S) h = (moved_uses U V ρ M h, moved_uses_spine U V ρ S h)

module _ (Σ : Signature) (ok : IsSignature Σ) where
  back_renames : (X : LfType) (C : List LfType) → IsTypedRenamingOn but_first (X ∷ C) C lower_one
  back_renames X C zero A g u = absurd cc
  back_renames X C (suc i) A (D, g, e) u = subst (TypeAt C i) (sym (ap (rename_type lower_one) e ∙ renamings_compose_type lower_one suc D ∙ rename_id_type D)) g

  term_back : (X : LfType) (C : List LfType) (M : Term) (A : LfType) → HasType Σ (X ∷ C) (rename suc M) (weaken A) → HasType Σ C M A
  term_back X C M A m = subst (λ N. HasType Σ C N A) (renamings_compose lower_one suc M ∙ rename_id M) (subst (HasType Σ C (rename lower_one (rename suc M))) (renamings_compose_type lower_one suc A ∙ rename_id_type A) (strengthening_keeps_typing Σ ok but_first (X ∷ C) C lower_one (rename suc M) (weaken A) (back_renames X C) (moved_uses but_first but_first suc M (λ i. refl)) m))

  spine_back : (X : LfType) (C : List LfType) (S : Spine) (Y Z : LfType) → SpineType Σ (X ∷ C) (rename_spine suc S) (weaken Y) Z → (Z' : LfType) × (Z ≡ weaken Z') × SpineType Σ C S Y Z'
  spine_back X C nil Y Z s = (Y, sym s, refl)
  spine_back X C (app M S) (pi A B) Z (m, s) =
      let (Z', e, t) = spine_back X C S (instantiate_type A M B) Z (subst (λ T. SpineType Σ (X ∷ C) (rename_spine suc S) T Z) (sym (rename_instance suc A M B)) s) in
      (Z', e, (term_back X C M A m, t))
  spine_back X C (app M S) (atom a T) Z s = absurd s

  add_last_split : (C : List LfType) (S : Spine) (N : Term) (Y A : LfType) → SpineType Σ C (add_last S N) Y A → (Z1 : LfType) × (Z2 : LfType) × SpineType Σ C S Y (pi Z1 Z2) × HasType Σ C N Z1 × (instantiate_type Z1 N Z2 ≡ A)
  add_last_split C nil N (pi Z1 Z2) A (n, e) = (Z1, Z2, refl, n, e)
  add_last_split C nil N (atom a T) A s = absurd s
  add_last_split C (app M S) N (pi Y1 Y2) A (m, s) = let (Z1, Z2, t, n, e) = add_last_split C S N (instantiate_type Y1 M Y2) A s in (Z1, Z2, (m, t), n, e)
  add_last_split C (app M S) N (atom a T) A s = absurd s

  sp_type : (C : List LfType) (S : Spine) (Y Z : LfType) → IsContext Σ C → IsType Σ C Y → SpineType Σ C S Y Z → IsType Σ C Z
  sp_type C nil Y Z c t e = subst (IsType Σ C) e t
  sp_type C (app M S) (pi A B) Z c (a, b) (m, s) = sp_type C S (instantiate_type A M B) Z c (instance_is_type Σ ok C A M B c a b m) s
  sp_type C (app M S) (atom a T) Z c t s = absurd s

  -- types under a renaming by eta-long variables
  pub eta_type : (Γ Δ : List Skeleton) (σ : ℕ → Image) (ρ : ℕ → ℕ) (A : LfType) → EtaLike (λ c. Unit {0}) σ ρ → Fits Γ σ → RenamingBySkeletons Γ Δ ρ → TypeBySkeletons (family_skeletons Σ) (constant_skeletons Σ) Γ A → substitute_type reduce σ A ≡ rename_type ρ A
  eta_type Γ Δ σ ρ (pi A B) e f w (a, b) = ap₂ pi (eta_type Γ Δ σ ρ A e f w a) (eta_type (skeleton A ∷ Γ) (skeleton A ∷ Δ) (lift σ) (lift_renaming ρ) B (EtaLike-lift (λ c. Unit {0}) σ ρ e) (Fits-lift Γ (skeleton A) σ f) (renaming_by_skeletons_under_binder Γ Δ ρ (skeleton A) w) b)
  eta_type Γ Δ σ ρ (atom c S) e f w (t, g, s) = ap (atom c) (eta_rename_spine (constant_skeletons Σ) (λ d. Unit {0}) (λ d u. (eta_both (constant_skeletons Σ) d).0) Γ Δ σ ρ S t (base c) e f w s)

  -- the newest variable, eta-long, put in again
  pub put_back : (a : Skeleton) (C : List LfType) (A1 Z : LfType) → IsType Σ (A1 ∷ C) Z → SameForm a (skeleton A1) → substitute_type reduce (single (skeleton (weaken A1)) (eta_long a (variable zero))) (rename_type (lift_renaming suc) Z) ≡ Z
  put_back a C A1 Z z f =
      let σ : ℕ → Image = λ i. single (skeleton (weaken A1)) (eta_long a (variable zero)) (lift_renaming suc i) in
      let q : eta_long a (variable zero) ≡ eta_long (skeleton (weaken A1)) (variable zero) = eta_form a (skeleton (weaken A1)) (variable zero) nil (subst (SameForm a) (sym (skeleton_renamed suc A1)) f) in
      let like : EtaLike (λ c. Unit {0}) σ (λ i. i) = λ i. by q i in
      let fits : Fits (skeleton A1 ∷ context_skeletons C) σ = λ i t g. fit i t g in
      substitute_renamed_type reduce (single (skeleton (weaken A1)) (eta_long a (variable zero))) (lift_renaming suc) Z ∙ eta_type (skeleton A1 ∷ context_skeletons C) (skeleton A1 ∷ context_skeletons C) σ (λ i. i) Z like fits (λ i t g. g) (type_by_skeletons Σ (A1 ∷ C) Z z) ∙ rename_id_type Z
    where
      by : eta_long a (variable zero) ≡ eta_long (skeleton (weaken A1)) (variable zero) → EtaLike (λ c. Unit {0}) (λ i. single (skeleton (weaken A1)) (eta_long a (variable zero)) (lift_renaming suc i)) (λ i. i)
      by q zero = (tt, q)
      by q (suc i) = refl

      fit : Fits (skeleton A1 ∷ context_skeletons C) (λ i. single (skeleton (weaken A1)) (eta_long a (variable zero)) (lift_renaming suc i))
      fit zero t g = skeleton_renamed suc A1 ∙ g
      fit (suc i) t g = tt

  pub IsType-weakened : (C : List LfType) (X A : LfType) → IsType Σ C A → IsType Σ (X ∷ C) (weaken A)
  IsType-weakened C X A a = renaming_keeps_types Σ ok C (X ∷ C) suc A (weakening_renames C X) a

  closing : (a b : Skeleton) (C : List LfType) (S : Spine) (Y A1 A2 Z1 Z2 Z' : LfType) → pi Z1 Z2 ≡ weaken Z' → SpineType Σ C S Y Z' → IsType Σ C Z' → SameForm a (skeleton Z1) → weaken A1 ≡ Z1 → instantiate_type Z1 (eta_long a (variable zero)) Z2 ≡ A2 → SameForm b (skeleton A2) → (SameForm a (skeleton A1) × SameForm b (skeleton A2)) × SpineType Σ C S Y (pi A1 A2)
  closing a b C S Y A1 A2 Z1 Z2 (atom c T) q s z f1 w e f2 = absurd cc
  closing a b C S Y A1 A2 Z1 Z2 (pi P Q) q s (zp, zq) f1 w e f2 =
      let q1 : Z1 ≡ weaken P = cc in
      let q2 : Z2 ≡ rename_type (lift_renaming suc) Q = cc in
      let p : P ≡ A1 = sym (weaken_inj A1 P (w ∙ q1)) in
      let f : SameForm a (skeleton A1) = subst (SameForm a) (ap skeleton (sym w) ∙ skeleton_renamed suc A1) f1 in
      let r : Q ≡ A2 = sym (put_back a C A1 Q (subst (λ X. IsType Σ (X ∷ C) Q) p zq) f) ∙ ap₂ (λ X U. substitute_type reduce (single (skeleton X) (eta_long a (variable zero))) U) w (sym q2) ∙ e in
      ((f, f2), subst (SpineType Σ C S Y) (ap₂ pi p r) s)

  -- THE uniqueness
  pub eta_spine : (a : Skeleton) (C : List LfType) (y : ℕ) (S : Spine) (Y A : LfType) → IsContext Σ C → TypeAt C y Y → IsType Σ C A → HasType Σ C (eta_expand a (variable y) S) A → SameForm a (skeleton A) × SpineType Σ C S Y A
  eta_spine (base c) C y S Y (pi A1 A2) cx g t m = absurd m
  eta_spine (base c) C y S Y (atom b T) cx g t (Y', g', s) = (tt, subst (λ X. SpineType Σ C S X (atom b T)) (variable_type_unique C y Y' Y g' g) s)
  eta_spine (arrow a b) C y S Y (atom c T) cx g t m = absurd m
  eta_spine (arrow a b) C y S Y (pi A1 A2) cx g (t1, t2) m =
      let D : List LfType = A1 ∷ C in
      let dx : IsContext Σ D = (cx, t1) in
      let (f2, s2) = eta_spine b D (suc y) (add_last (rename_spine suc S) (eta_long a (variable zero))) (weaken Y) A2 dx (Y, g, refl) t2 m in
      let (Z1, Z2, s, n, e) = add_last_split D (rename_spine suc S) (eta_long a (variable zero)) (weaken Y) A2 s2 in
      let (Z', q, s') = spine_back A1 C S Y (pi Z1 Z2) s in
      let z' : IsType Σ C Z' = sp_type C S Y Z' cx (declared_is_type Σ ok C y Y cx g) s' in
      let (tz1, tz2) = subst (IsType Σ D) (sym q) (IsType-weakened C A1 Z' z') in
      let (f1, w) = eta_spine a D zero nil (weaken A1) Z1 dx refl tz1 n in
      closing a b C S Y A1 A2 Z1 Z2 Z' q s' z' f1 w e f2

  pub eta_at_type : (a : Skeleton) (C : List LfType) (y : ℕ) (S : Spine) (A : LfType) → HasType Σ C (eta_expand a (variable y) S) A → (Y : LfType) × TypeAt C y Y
  eta_at_type (base c) C y S (pi A1 A2) m = absurd m
  eta_at_type (base c) C y S (atom b T) (Y, g, s) = (Y, g)
  eta_at_type (arrow a b) C y S (atom c T) m = absurd m
  eta_at_type (arrow a b) C y S (pi A1 A2) m = let (Y, (D, h, e)) = eta_at_type b (A1 ∷ C) (suc y) (add_last (rename_spine suc S) (eta_long a (variable zero))) A2 m in (D, h)
