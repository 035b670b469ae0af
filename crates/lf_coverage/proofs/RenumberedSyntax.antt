-- Renaming, substitution, filling and eta-expansion go along with new numbers for metavariables.
use Rattle.std.proofs.Common.{◌≡◌, ℕ, zero, suc, List, [], ◌∷◌, refl, sym, ap, ap₂, ◌∙◌}
use Rattle.std.specs.Prelude.{Option, Some, None}
use Rattle.std.specs.Option.{option_map}
use Rattle.lf.specs.Eta.{eta_expand, add_last}
use Rattle.lf.specs.Substitution.{Image, keep, put, rename_image, lift, single, apply_image, substitute, substitute_spine, substitute_type, substitute_kind, reduce}
use Rattle.lf.specs.Syntax.{Head, constant, variable, metavariable, Term, Spine, lambda, root, nil, app, LfType, Kind, pi, atom, kind_pi, star, Skeleton, base, arrow, skeleton, lift_renaming, rename, rename_head, rename_spine, rename_type, weaken}
use Rattle.lf.specs.Typing.{instantiate_type, instantiate_kind}
use Rattle.lf_unification.specs.Filling.{fill, fill_metavariable, fill_spine, fill_type, moved, rename_value}
use Rattle.lf_unification.specs.OpenTyping.{MetavariablesIn, MetavariablesInSpine, MetavariablesInType, under_locals, weaken_past}
use Rattle.lf_unification.specs.Patterns.{lambdas_of, pattern}
use Rattle.lf_coverage.specs.Renumbering.{renumbered_head, renumbered, renumbered_spine, renumbered_type, renumbered_locals}
use mathlib.Core.Path.{fun_ext}

-- a kind
abbrev pub renumbered_kind : (ℕ → ℕ) → Kind → Kind
renumbered_kind f (kind_pi A K) = kind_pi (renumbered_type f A) (renumbered_kind f K)
renumbered_kind f star = star

abbrev pub renumbered_image : (ℕ → ℕ) → Image → Image
renumbered_image f (keep i) = keep i
renumbered_image f (put a N) = put a (renumbered f N)

-- one function after another; the same numbers; no new numbers
module _ (f g h : ℕ → ℕ) where
  mutual
    pub composed : (M : Term) → MetavariablesIn (λ m. f (g m) ≡ h m) M → renumbered f (renumbered g M) ≡ renumbered h M
    composed (lambda M) v = ap lambda (composed M v)
    composed (root (constant c) S) v = ap (root (constant c)) (composed_spine S v)
    composed (root (variable c) S) v = ap (root (variable c)) (composed_spine S v)
    composed (root (metavariable m) S) (e, v) = ap₂ root (ap metavariable e) (composed_spine S v)

    pub composed_spine : (S : Spine) → MetavariablesInSpine (λ m. f (g m) ≡ h m) S → renumbered_spine f (renumbered_spine g S) ≡ renumbered_spine h S
    composed_spine nil v = refl
    composed_spine (app M S) (v, w) = ap₂ app (composed M v) (composed_spine S w)

  pub composed_type : (A : LfType) → MetavariablesInType (λ m. f (g m) ≡ h m) A → renumbered_type f (renumbered_type g A) ≡ renumbered_type h A
  composed_type (pi A B) (v, w) = ap₂ pi (composed_type A v) (composed_type B w)
  composed_type (atom a S) v = ap (atom a) (composed_spine S v)

mutual
  pub identical : (M : Term) → renumbered (λ m. m) M ≡ M
  identical (lambda M) = ap lambda (identical M)
  identical (root (constant c) S) = ap (root (constant c)) (identical_spine S)
  identical (root (variable c) S) = ap (root (variable c)) (identical_spine S)
  identical (root (metavariable c) S) = ap (root (metavariable c)) (identical_spine S)

  pub identical_spine : (S : Spine) → renumbered_spine (λ m. m) S ≡ S
  identical_spine nil = refl
  identical_spine (app M S) = ap₂ app (identical M) (identical_spine S)

pub identical_type : (A : LfType) → renumbered_type (λ m. m) A ≡ A
identical_type (pi A B) = ap₂ pi (identical_type A) (identical_type B)
identical_type (atom a S) = ap (atom a) (identical_spine S)

pub skeleton_renumbered : (f : ℕ → ℕ) (A : LfType) → skeleton (renumbered_type f A) ≡ skeleton A
skeleton_renumbered f (pi A B) = ap₂ arrow (skeleton_renumbered f A) (skeleton_renumbered f B)
skeleton_renumbered f (atom a S) = refl

module _ (f : ℕ → ℕ) where
  head_renamed : (ρ : ℕ → ℕ) (h : Head) → renumbered_head f (rename_head ρ h) ≡ rename_head ρ (renumbered_head f h)
  head_renamed ρ (constant c) = refl
  head_renamed ρ (variable i) = refl
  head_renamed ρ (metavariable m) = refl

  mutual
    pub renamed : (ρ : ℕ → ℕ) (M : Term) → renumbered f (rename ρ M) ≡ rename ρ (renumbered f M)
    renamed ρ (lambda M) = ap lambda (renamed (lift_renaming ρ) M)
    renamed ρ (root h S) = ap₂ root (head_renamed ρ h) (renamed_spine ρ S)

    pub renamed_spine : (ρ : ℕ → ℕ) (S : Spine) → renumbered_spine f (rename_spine ρ S) ≡ rename_spine ρ (renumbered_spine f S)
    renamed_spine ρ nil = refl
    renamed_spine ρ (app M S) = ap₂ app (renamed ρ M) (renamed_spine ρ S)

  pub renamed_type : (ρ : ℕ → ℕ) (A : LfType) → renumbered_type f (rename_type ρ A) ≡ rename_type ρ (renumbered_type f A)
  renamed_type ρ (pi A B) = ap₂ pi (renamed_type ρ A) (renamed_type (lift_renaming ρ) B)
  renamed_type ρ (atom a S) = ap (atom a) (renamed_spine ρ S)

  pub image_renamed : (ρ : ℕ → ℕ) (x : Image) → renumbered_image f (rename_image ρ x) ≡ rename_image ρ (renumbered_image f x)
  image_renamed ρ (keep i) = refl
  image_renamed ρ (put a N) = ap (put a) (renamed ρ N)

  pub image_lifted : (σ : ℕ → Image) (i : ℕ) → renumbered_image f (lift σ i) ≡ lift (λ j. renumbered_image f (σ j)) i
  image_lifted σ zero = refl
  image_lifted σ (suc i) = image_renamed suc (σ i)

  pub image_single : (a : Skeleton) (N : Term) (i : ℕ) → renumbered_image f (single a N i) ≡ single a (renumbered f N) i
  image_single a N zero = refl
  image_single a N (suc i) = refl

  abbrev GoesAlong : (Skeleton → Term → Spine → Term) → Type 0
  GoesAlong r = (a : Skeleton) (N : Term) (S : Spine) → renumbered f (r a N S) ≡ r a (renumbered f N) (renumbered_spine f S)

  plug : (r : Skeleton → Term → Spine → Term) → GoesAlong r → (x : Image) (S : Spine) → renumbered f (apply_image r x S) ≡ apply_image r (renumbered_image f x) (renumbered_spine f S)
  plug r h (keep i) S = refl
  plug r h (put a N) S = h a N S

  mutual
    substituted_by : (r : Skeleton → Term → Spine → Term) → GoesAlong r → (σ : ℕ → Image) (M : Term) → renumbered f (substitute r σ M) ≡ substitute r (λ i. renumbered_image f (σ i)) (renumbered f M)
    substituted_by r h σ (lambda M) = ap lambda (substituted_by r h (lift σ) M ∙ ap (λ τ. substitute r τ (renumbered f M)) (fun_ext (image_lifted σ)))
    substituted_by r h σ (root (constant c) S) = ap (root (constant c)) (substituted_spine_by r h σ S)
    substituted_by r h σ (root (metavariable c) S) = ap (root (metavariable (f c))) (substituted_spine_by r h σ S)
    substituted_by r h σ (root (variable i) S) = plug r h (σ i) (substitute_spine r σ S) ∙ ap (apply_image r (renumbered_image f (σ i))) (substituted_spine_by r h σ S)

    substituted_spine_by : (r : Skeleton → Term → Spine → Term) → GoesAlong r → (σ : ℕ → Image) (S : Spine) → renumbered_spine f (substitute_spine r σ S) ≡ substitute_spine r (λ i. renumbered_image f (σ i)) (renumbered_spine f S)
    substituted_spine_by r h σ nil = refl
    substituted_spine_by r h σ (app M S) = ap₂ app (substituted_by r h σ M) (substituted_spine_by r h σ S)

  pub reduced : GoesAlong reduce
  reduced (base c) N S = refl
  reduced (arrow a b) (root h T) S = refl
  reduced (arrow a b) (lambda M) nil = refl
  reduced (arrow a b) (lambda M) (app N S) = reduced b (substitute (λ c. reduce a) (single a N) M) S ∙ ap (λ X. reduce b X (renumbered_spine f S)) (substituted_by (λ c. reduce a) (λ c. reduced a) (single a N) M ∙ ap (λ τ. substitute (λ c. reduce a) τ (renumbered f M)) (fun_ext (image_single a N)))

  substituted_type : (σ : ℕ → Image) (A : LfType) → renumbered_type f (substitute_type reduce σ A) ≡ substitute_type reduce (λ i. renumbered_image f (σ i)) (renumbered_type f A)
  substituted_type σ (pi A B) = ap₂ pi (substituted_type σ A) (substituted_type (lift σ) B ∙ ap (λ τ. substitute_type reduce τ (renumbered_type f B)) (fun_ext (image_lifted σ)))
  substituted_type σ (atom a S) = ap (atom a) (substituted_spine_by reduce reduced σ S)

  substituted_kind : (σ : ℕ → Image) (K : Kind) → renumbered_kind f (substitute_kind reduce σ K) ≡ substitute_kind reduce (λ i. renumbered_image f (σ i)) (renumbered_kind f K)
  substituted_kind σ (kind_pi A K) = ap₂ kind_pi (substituted_type σ A) (substituted_kind (lift σ) K ∙ ap (λ τ. substitute_kind reduce τ (renumbered_kind f K)) (fun_ext (image_lifted σ)))
  substituted_kind σ star = refl

  single_is : (A : LfType) (M : Term) → (λ i. renumbered_image f (single (skeleton A) M i)) ≡ single (skeleton (renumbered_type f A)) (renumbered f M)
  single_is A M = fun_ext (image_single (skeleton A) M) ∙ ap (λ a. single a (renumbered f M)) (sym (skeleton_renumbered f A))

  pub instantiated : (A : LfType) (M : Term) (B : LfType) → renumbered_type f (instantiate_type A M B) ≡ instantiate_type (renumbered_type f A) (renumbered f M) (renumbered_type f B)
  instantiated A M B = substituted_type (single (skeleton A) M) B ∙ ap (λ τ. substitute_type reduce τ (renumbered_type f B)) (single_is A M)

  pub instantiated_kind : (A : LfType) (M : Term) (K : Kind) → renumbered_kind f (instantiate_kind A M K) ≡ instantiate_kind (renumbered_type f A) (renumbered f M) (renumbered_kind f K)
  instantiated_kind A M K = substituted_kind (single (skeleton A) M) K ∙ ap (λ τ. substitute_kind reduce τ (renumbered_kind f K)) (single_is A M)

  pub weakened_past : (D : List LfType) (A : LfType) → renumbered_type f (weaken_past D A) ≡ weaken_past (renumbered_locals f D) (renumbered_type f A)
  weakened_past [] A = refl
  weakened_past (B ∷ D) A = renamed_type suc (weaken_past D A) ∙ ap weaken (weakened_past D A)

  last_added : (S : Spine) (N : Term) → renumbered_spine f (add_last S N) ≡ add_last (renumbered_spine f S) (renumbered f N)
  last_added nil N = refl
  last_added (app M S) N = ap (app (renumbered f M)) (last_added S N)

  pub eta_expanded : (a : Skeleton) (h : Head) (S : Spine) → renumbered f (eta_expand a h S) ≡ eta_expand a (renumbered_head f h) (renumbered_spine f S)
  eta_expanded (base c) h S = refl
  eta_expanded (arrow a b) h S = ap lambda (eta_expanded b (rename_head suc h) (add_last (rename_spine suc S) (eta_expand a (variable zero) nil)) ∙ ap₂ (eta_expand b) (head_renamed suc h) (last_added (rename_spine suc S) (eta_expand a (variable zero) nil) ∙ ap₂ add_last (renamed_spine suc S) (eta_expanded a (variable zero) nil)))

  pub pattern_renumbered : (t : Skeleton) (xs : List ℕ) → renumbered_spine f (pattern t xs) ≡ pattern t xs
  pattern_renumbered (base c) xs = refl
  pattern_renumbered (arrow a b) [] = refl
  pattern_renumbered (arrow a b) (x ∷ xs) = ap₂ app (eta_expanded a (variable x) nil) (pattern_renumbered b xs)

  pub under_lambdas : (t : Skeleton) (M : Term) → renumbered f (lambdas_of t M) ≡ lambdas_of t (renumbered f M)
  under_lambdas (base c) M = refl
  under_lambdas (arrow a b) M = ap lambda (under_lambdas b M)

  -- a filling whose values are those of another one, each at its new number
  abbrev pub Follows : (ℕ → Option Term) → (ℕ → Option Term) → Type 0
  Follows β γ = (m : ℕ) → γ (f m) ≡ option_map (renumbered f) (β m)

  pub follows_moved : (β γ : ℕ → Option Term) → Follows β γ → Follows (moved suc β) (moved suc γ)
  follows_moved β γ h m = ap (rename_value suc) (h m) ∙ value (β m)
    where
      value : (x : Option Term) → rename_value suc (option_map (renumbered f) x) ≡ option_map (renumbered f) (rename_value suc x)
      value None = refl
      value (Some N) = ap Some (sym (renamed suc N))

  pub follows_locals : (D : List LfType) (β γ : ℕ → Option Term) → Follows β γ → Follows (under_locals D β) (under_locals (renumbered_locals f D) γ)
  follows_locals [] β γ h = h
  follows_locals (A ∷ D) β γ h = follows_moved (under_locals D β) (under_locals (renumbered_locals f D) γ) (follows_locals D β γ h)

  -- the skeletons, each at its new number
  module _ (μ ν : ℕ → Skeleton) (same : (m : ℕ) → ν (f m) ≡ μ m) where
    at_metavariable : (m : ℕ) (x y : Option Term) → y ≡ option_map (renumbered f) x → (S : Spine) → renumbered f (fill_metavariable (μ m) m x S) ≡ fill_metavariable (ν (f m)) (f m) y (renumbered_spine f S)
    at_metavariable m None y e S = ap (λ z. fill_metavariable (ν (f m)) (f m) z (renumbered_spine f S)) (sym e)
    at_metavariable m (Some N) y e S = reduced (μ m) N S ∙ ap (λ a. reduce a (renumbered f N) (renumbered_spine f S)) (sym (same m)) ∙ ap (λ z. fill_metavariable (ν (f m)) (f m) z (renumbered_spine f S)) (sym e)

    mutual
      pub filled : (β γ : ℕ → Option Term) → Follows β γ → (M : Term) → renumbered f (fill μ β M) ≡ fill ν γ (renumbered f M)
      filled β γ h (lambda M) = ap lambda (filled (moved suc β) (moved suc γ) (follows_moved β γ h) M)
      filled β γ h (root (constant c) S) = ap (root (constant c)) (filled_spine β γ h S)
      filled β γ h (root (variable c) S) = ap (root (variable c)) (filled_spine β γ h S)
      filled β γ h (root (metavariable m) S) = at_metavariable m (β m) (γ (f m)) (h m) (fill_spine μ β S) ∙ ap (fill_metavariable (ν (f m)) (f m) (γ (f m))) (filled_spine β γ h S)

      pub filled_spine : (β γ : ℕ → Option Term) → Follows β γ → (S : Spine) → renumbered_spine f (fill_spine μ β S) ≡ fill_spine ν γ (renumbered_spine f S)
      filled_spine β γ h nil = refl
      filled_spine β γ h (app M S) = ap₂ app (filled β γ h M) (filled_spine β γ h S)

    pub filled_type : (β γ : ℕ → Option Term) → Follows β γ → (A : LfType) → renumbered_type f (fill_type μ β A) ≡ fill_type ν γ (renumbered_type f A)
    filled_type β γ h (pi A B) = ap₂ pi (filled_type β γ h A) (filled_type (moved suc β) (moved suc γ) (follows_moved β γ h) B)
    filled_type β γ h (atom a S) = ap (atom a) (filled_spine β γ h S)
