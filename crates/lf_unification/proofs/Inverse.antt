-- Renamings and their inverses.
use Rattle.std.proofs.Common.{◌≡◌, ℕ, zero, suc, refl, ap, ap₂}
use Rattle.lf.specs.Syntax.{Spine, Term, LfType, app, atom, constant, lambda, metavariable, nil, pi, rename, rename_spine, rename_type, root, lift_renaming, variable}
use Rattle.lf_unification.specs.Patterns.{InImage, Injective, FreeVariablesIn, FreeVariablesInSpine, LiftedSet}

pub up_injective : (ρ : ℕ → ℕ) → Injective ρ → Injective (lift_renaming ρ)
up_injective ρ h zero zero e = refl
up_injective ρ h zero (suc j) e = cc
up_injective ρ h (suc i) zero e = cc
up_injective ρ h (suc i) (suc j) e = ap suc (h i j (let p : ρ i ≡ ρ j = cc in p))

root_eq : (i j : ℕ) (S T : Spine) → i ≡ j → S ≡ T → root (variable i) S ≡ root (variable j) T
root_eq i j S T e f = ap₂ (λ k X. root (variable k) X) e f

mutual
  pub rename_injective : (ρ : ℕ → ℕ) → Injective ρ → (M N : Term) → rename ρ M ≡ rename ρ N → M ≡ N
  rename_injective ρ h (lambda M) (lambda N) e = ap lambda (rename_injective (lift_renaming ρ) (up_injective ρ h) M N cc)
  rename_injective ρ h (lambda M) (root k T) e = cc
  rename_injective ρ h (root k S) (lambda N) e = cc
  rename_injective ρ h (root (constant c) S) (root (constant d) T) e = ap₂ (λ k X. root (constant k) X) (let p : c ≡ d = cc in p) (rename_injective_spine ρ h S T cc)
  rename_injective ρ h (root (constant c) S) (root (variable j) T) e = cc
  rename_injective ρ h (root (constant c) S) (root (metavariable n) T) e = cc
  rename_injective ρ h (root (metavariable c) S) (root (constant d) T) e = cc
  rename_injective ρ h (root (metavariable c) S) (root (variable j) T) e = cc
  rename_injective ρ h (root (metavariable c) S) (root (metavariable d) T) e = ap₂ (λ k X. root (metavariable k) X) (let p : c ≡ d = cc in p) (rename_injective_spine ρ h S T cc)
  rename_injective ρ h (root (variable i) S) (root (constant d) T) e = cc
  rename_injective ρ h (root (variable i) S) (root (metavariable d) T) e = cc
  rename_injective ρ h (root (variable i) S) (root (variable j) T) e = root_eq i j S T (h i j (let p : ρ i ≡ ρ j = cc in p)) (rename_injective_spine ρ h S T cc)

  pub rename_injective_spine : (ρ : ℕ → ℕ) → Injective ρ → (S T : Spine) → rename_spine ρ S ≡ rename_spine ρ T → S ≡ T
  rename_injective_spine ρ h nil nil e = refl
  rename_injective_spine ρ h nil (app N T) e = cc
  rename_injective_spine ρ h (app M S) nil e = cc
  rename_injective_spine ρ h (app M S) (app N T) e = ap₂ app (rename_injective ρ h M N cc) (rename_injective_spine ρ h S T cc)

pub rename_injective_type : (ρ : ℕ → ℕ) → Injective ρ → (A B : LfType) → rename_type ρ A ≡ rename_type ρ B → A ≡ B
rename_injective_type ρ h (pi A B) (pi C D) e = ap₂ pi (rename_injective_type ρ h A C cc) (rename_injective_type (lift_renaming ρ) (up_injective ρ h) B D cc)
rename_injective_type ρ h (pi A B) (atom c T) e = cc
rename_injective_type ρ h (atom a S) (pi C D) e = cc
rename_injective_type ρ h (atom a S) (atom c T) e = ap₂ atom (let p : a ≡ c = cc in p) (rename_injective_spine ρ h S T cc)

-- free variables
pub LiftedSet-weaker : (P Q : ℕ → Type 0) → ((i : ℕ) → P i → Q i) → (i : ℕ) → LiftedSet P i → LiftedSet Q i
LiftedSet-weaker P Q h zero p = p
LiftedSet-weaker P Q h (suc i) p = h i p

mutual
  pub FreeVariablesIn-weaker : (P Q : ℕ → Type 0) → ((i : ℕ) → P i → Q i) → (M : Term) → FreeVariablesIn P M → FreeVariablesIn Q M
  FreeVariablesIn-weaker P Q h (lambda M) p = FreeVariablesIn-weaker (LiftedSet P) (LiftedSet Q) (LiftedSet-weaker P Q h) M p
  FreeVariablesIn-weaker P Q h (root (constant c) S) p = FreeVariablesInSpine-weaker P Q h S p
  FreeVariablesIn-weaker P Q h (root (metavariable c) S) p = FreeVariablesInSpine-weaker P Q h S p
  FreeVariablesIn-weaker P Q h (root (variable i) S) p = (h i p.0, FreeVariablesInSpine-weaker P Q h S p.1)

  pub FreeVariablesInSpine-weaker : (P Q : ℕ → Type 0) → ((i : ℕ) → P i → Q i) → (S : Spine) → FreeVariablesInSpine P S → FreeVariablesInSpine Q S
  FreeVariablesInSpine-weaker P Q h nil p = p
  FreeVariablesInSpine-weaker P Q h (app M S) p = (FreeVariablesIn-weaker P Q h M p.0, FreeVariablesInSpine-weaker P Q h S p.1)

push_image : (ρ : ℕ → ℕ) (i : ℕ) → LiftedSet (InImage ρ) i → InImage (lift_renaming ρ) i
push_image ρ zero p = (zero, refl)
push_image ρ (suc i) (j, e) = (suc j, ap suc e)

image_push : (ρ : ℕ → ℕ) (i : ℕ) → InImage (lift_renaming ρ) i → LiftedSet (InImage ρ) i
image_push ρ zero p = tt
image_push ρ (suc i) (zero, e) = cc
image_push ρ (suc i) (suc j, e) = (j, (let q : ρ j ≡ i = cc in q))

-- a term is a renamed one exactly where its free variables are in the image
mutual
  pub unren : (ρ : ℕ → ℕ) (M : Term) → FreeVariablesIn (InImage ρ) M → (N : Term) × (rename ρ N ≡ M)
  unren ρ (lambda M) p = let (N, e) = unren (lift_renaming ρ) M (FreeVariablesIn-weaker (LiftedSet (InImage ρ)) (InImage (lift_renaming ρ)) (push_image ρ) M p) in (lambda N, ap lambda e)
  unren ρ (root (constant c) S) p = let (T, e) = unrename_spine ρ S p in (root (constant c) T, ap (root (constant c)) e)
  unren ρ (root (metavariable c) S) p = let (T, e) = unrename_spine ρ S p in (root (metavariable c) T, ap (root (metavariable c)) e)
  unren ρ (root (variable i) S) ((j, q), p) = let (T, e) = unrename_spine ρ S p in (root (variable j) T, root_eq (ρ j) i (rename_spine ρ T) S q e)

  pub unrename_spine : (ρ : ℕ → ℕ) (S : Spine) → FreeVariablesInSpine (InImage ρ) S → (T : Spine) × (rename_spine ρ T ≡ S)
  unrename_spine ρ nil p = (nil, refl)
  unrename_spine ρ (app M S) (p, q) = let (N, e) = unren ρ M p in let (T, f) = unrename_spine ρ S q in (app N T, ap₂ app e f)

mutual
  pub only_rename : (ρ : ℕ → ℕ) (M : Term) → FreeVariablesIn (InImage ρ) (rename ρ M)
  only_rename ρ (lambda M) = FreeVariablesIn-weaker (InImage (lift_renaming ρ)) (LiftedSet (InImage ρ)) (image_push ρ) (rename (lift_renaming ρ) M) (only_rename (lift_renaming ρ) M)
  only_rename ρ (root (constant c) S) = only_rename_spine ρ S
  only_rename ρ (root (metavariable c) S) = only_rename_spine ρ S
  only_rename ρ (root (variable i) S) = ((i, refl), only_rename_spine ρ S)

  pub only_rename_spine : (ρ : ℕ → ℕ) (S : Spine) → FreeVariablesInSpine (InImage ρ) (rename_spine ρ S)
  only_rename_spine ρ nil = tt
  only_rename_spine ρ (app M S) = (only_rename ρ M, only_rename_spine ρ S)

-- through a renaming, free variables go back
push_back : (P : ℕ → Type 0) (ρ : ℕ → ℕ) (i : ℕ) → LiftedSet P (lift_renaming ρ i) → LiftedSet (λ j. P (ρ j)) i
push_back P ρ zero p = p
push_back P ρ (suc i) p = p

mutual
  pub only_back : (P : ℕ → Type 0) (ρ : ℕ → ℕ) (M : Term) → FreeVariablesIn P (rename ρ M) → FreeVariablesIn (λ i. P (ρ i)) M
  only_back P ρ (lambda M) p = FreeVariablesIn-weaker (λ i. LiftedSet P (lift_renaming ρ i)) (LiftedSet (λ j. P (ρ j))) (push_back P ρ) M (only_back (LiftedSet P) (lift_renaming ρ) M p)
  only_back P ρ (root (constant c) S) p = only_back_spine P ρ S p
  only_back P ρ (root (metavariable c) S) p = only_back_spine P ρ S p
  only_back P ρ (root (variable i) S) p = (p.0, only_back_spine P ρ S p.1)

  pub only_back_spine : (P : ℕ → Type 0) (ρ : ℕ → ℕ) (S : Spine) → FreeVariablesInSpine P (rename_spine ρ S) → FreeVariablesInSpine (λ i. P (ρ i)) S
  only_back_spine P ρ nil p = p
  only_back_spine P ρ (app M S) p = (only_back P ρ M p.0, only_back_spine P ρ S p.1)

-- two renamings that agree on a term agree on each of its free variables
agree_push : (ρ τ : ℕ → ℕ) (i : ℕ) → lift_renaming ρ i ≡ lift_renaming τ i → LiftedSet (λ j. ρ j ≡ τ j) i
agree_push ρ τ zero e = tt
agree_push ρ τ (suc i) e = (let p : ρ i ≡ τ i = cc in p)

mutual
  pub rename_agree : (ρ τ : ℕ → ℕ) (M : Term) → rename ρ M ≡ rename τ M → FreeVariablesIn (λ i. ρ i ≡ τ i) M
  rename_agree ρ τ (lambda M) e = FreeVariablesIn-weaker (λ i. lift_renaming ρ i ≡ lift_renaming τ i) (LiftedSet (λ j. ρ j ≡ τ j)) (agree_push ρ τ) M (rename_agree (lift_renaming ρ) (lift_renaming τ) M cc)
  rename_agree ρ τ (root (constant c) S) e = rename_agree_spine ρ τ S cc
  rename_agree ρ τ (root (metavariable c) S) e = rename_agree_spine ρ τ S cc
  rename_agree ρ τ (root (variable i) S) e = ((let p : ρ i ≡ τ i = cc in p), rename_agree_spine ρ τ S cc)

  pub rename_agree_spine : (ρ τ : ℕ → ℕ) (S : Spine) → rename_spine ρ S ≡ rename_spine τ S → FreeVariablesInSpine (λ i. ρ i ≡ τ i) S
  rename_agree_spine ρ τ nil e = tt
  rename_agree_spine ρ τ (app M S) e = (rename_agree ρ τ M cc, rename_agree_spine ρ τ S cc)
