-- Heads in place of variables go through renaming, through hereditary substitution, and depend only on the variables that occur.
use Rattle.std.proofs.Common.{◌≡◌, ℕ, zero, suc, refl, sym, ap, ap₂, ◌∙◌}
use mathlib.Core.Path.{fun_ext}
use Rattle.lf.specs.Substitution.{Image, keep, put, rename_image, lift, single, apply_image, substitute, substitute_kind, substitute_spine, substitute_type, reduce}
use Rattle.lf.specs.Syntax.{Head, Kind, LfType, Skeleton, Spine, Term, app, arrow, atom, base, constant, kind_pi, lambda, lift_renaming, metavariable, nil, pi, rename, rename_head, rename_spine, rename_type, root, skeleton, star, variable, weaken}
use Rattle.lf.specs.Typing.{instantiate_kind, instantiate_type}
use Rattle.lf_unification.specs.OpenTyping.{MetavariablesIn, MetavariablesInSpine, MetavariablesInType}
use Rattle.lf_unification.specs.Patterns.{FreeVariablesIn, FreeVariablesInSpine, LiftedSet}
use Rattle.lf_unification.proofs.Scope.{HeadIn}
use Rattle.lf_unification.proofs.Within.{FreeVariablesInType}
use Rattle.lf_search.specs.Goals.{under_head, with_heads, spine_with_heads, type_with_heads}

-- the same in a kind
abbrev pub kind_with_heads : (ℕ → Head) → Kind → Kind
kind_with_heads h (kind_pi A K) = kind_pi (type_with_heads h A) (kind_with_heads (under_head h) K)
kind_with_heads h star = star

pub skeleton_with_heads : (h : ℕ → Head) (A : LfType) → skeleton (type_with_heads h A) ≡ skeleton A
skeleton_with_heads h (pi A B) = ap₂ arrow (skeleton_with_heads h A) (skeleton_with_heads (under_head h) B)
skeleton_with_heads h (atom a S) = refl

-- Renaming before.
under_renaming : (h : ℕ → Head) (ρ : ℕ → ℕ) (i : ℕ) → under_head h (lift_renaming ρ i) ≡ under_head (λ j. h (ρ j)) i
under_renaming h ρ zero = refl
under_renaming h ρ (suc i) = refl

mutual
  pub heads_of_renamed : (h : ℕ → Head) (ρ : ℕ → ℕ) (M : Term) → with_heads h (rename ρ M) ≡ with_heads (λ i. h (ρ i)) M
  heads_of_renamed h ρ (lambda M) = ap lambda (heads_of_renamed (under_head h) (lift_renaming ρ) M ∙ ap (λ f. with_heads f M) (fun_ext (under_renaming h ρ)))
  heads_of_renamed h ρ (root (constant c) S) = ap (root (constant c)) (heads_of_renamed_spine h ρ S)
  heads_of_renamed h ρ (root (metavariable m) S) = ap (root (metavariable m)) (heads_of_renamed_spine h ρ S)
  heads_of_renamed h ρ (root (variable i) S) = ap (root (h (ρ i))) (heads_of_renamed_spine h ρ S)

  heads_of_renamed_spine : (h : ℕ → Head) (ρ : ℕ → ℕ) (S : Spine) → spine_with_heads h (rename_spine ρ S) ≡ spine_with_heads (λ i. h (ρ i)) S
  heads_of_renamed_spine h ρ nil = refl
  heads_of_renamed_spine h ρ (app M S) = ap₂ app (heads_of_renamed h ρ M) (heads_of_renamed_spine h ρ S)

pub heads_of_renamed_type : (h : ℕ → Head) (ρ : ℕ → ℕ) (A : LfType) → type_with_heads h (rename_type ρ A) ≡ type_with_heads (λ i. h (ρ i)) A
heads_of_renamed_type h ρ (pi A B) = ap₂ pi (heads_of_renamed_type h ρ A) (heads_of_renamed_type (under_head h) (lift_renaming ρ) B ∙ ap (λ f. type_with_heads f B) (fun_ext (under_renaming h ρ)))
heads_of_renamed_type h ρ (atom a S) = ap (atom a) (heads_of_renamed_spine h ρ S)

-- Renaming after.
head_twice : (ρ : ℕ → ℕ) (g : Head) → rename_head (lift_renaming ρ) (rename_head suc g) ≡ rename_head suc (rename_head ρ g)
head_twice ρ (constant c) = refl
head_twice ρ (variable i) = refl
head_twice ρ (metavariable m) = refl

renamed_under : (ρ : ℕ → ℕ) (h : ℕ → Head) (i : ℕ) → rename_head (lift_renaming ρ) (under_head h i) ≡ under_head (λ j. rename_head ρ (h j)) i
renamed_under ρ h zero = refl
renamed_under ρ h (suc i) = head_twice ρ (h i)

mutual
  pub renamed_heads : (ρ : ℕ → ℕ) (h : ℕ → Head) (M : Term) → rename ρ (with_heads h M) ≡ with_heads (λ i. rename_head ρ (h i)) M
  renamed_heads ρ h (lambda M) = ap lambda (renamed_heads (lift_renaming ρ) (under_head h) M ∙ ap (λ f. with_heads f M) (fun_ext (renamed_under ρ h)))
  renamed_heads ρ h (root (constant c) S) = ap (root (constant c)) (renamed_heads_spine ρ h S)
  renamed_heads ρ h (root (metavariable m) S) = ap (root (metavariable m)) (renamed_heads_spine ρ h S)
  renamed_heads ρ h (root (variable i) S) = ap (root (rename_head ρ (h i))) (renamed_heads_spine ρ h S)

  renamed_heads_spine : (ρ : ℕ → ℕ) (h : ℕ → Head) (S : Spine) → rename_spine ρ (spine_with_heads h S) ≡ spine_with_heads (λ i. rename_head ρ (h i)) S
  renamed_heads_spine ρ h nil = refl
  renamed_heads_spine ρ h (app M S) = ap₂ app (renamed_heads ρ h M) (renamed_heads_spine ρ h S)

pub renamed_heads_type : (ρ : ℕ → ℕ) (h : ℕ → Head) (A : LfType) → rename_type ρ (type_with_heads h A) ≡ type_with_heads (λ i. rename_head ρ (h i)) A
renamed_heads_type ρ h (pi A B) = ap₂ pi (renamed_heads_type ρ h A) (renamed_heads_type (lift_renaming ρ) (under_head h) B ∙ ap (λ f. type_with_heads f B) (fun_ext (renamed_under ρ h)))
renamed_heads_type ρ h (atom a S) = ap (atom a) (renamed_heads_spine ρ h S)

pub heads_of_weakened : (h : ℕ → Head) (A : LfType) → type_with_heads (under_head h) (weaken A) ≡ weaken (type_with_heads h A)
heads_of_weakened h A = heads_of_renamed_type (under_head h) suc A ∙ sym (renamed_heads_type suc h A)

-- Substitution. A head under a substitution stays a head, or a term is put for it.
data Standing : Type 0 where
  as_head : Head → Standing
  as_put : Skeleton → Term → Standing

abbrev applied : (Skeleton → Term → Spine → Term) → Standing → Spine → Term
applied r (as_head g) S = root g S
applied r (as_put a N) S = r a N S

abbrev of_image : Image → Standing
of_image (keep j) = as_head (variable j)
of_image (put a N) = as_put a N

abbrev of_head : (ℕ → Image) → Head → Standing
of_head σ (constant c) = as_head (constant c)
of_head σ (metavariable m) = as_head (metavariable m)
of_head σ (variable i) = of_image (σ i)

abbrev image_with_heads : (ℕ → Head) → Image → Standing
image_with_heads h (keep j) = as_head (h j)
image_with_heads h (put a N) = as_put a (with_heads h N)

abbrev moved_standing : Standing → Standing
moved_standing (as_head g) = as_head (rename_head suc g)
moved_standing (as_put a N) = as_put a (rename suc N)

substituted_root : (r : Skeleton → Term → Spine → Term) (σ : ℕ → Image) (g : Head) (S : Spine) → substitute r σ (root g S) ≡ applied r (of_head σ g) (substitute_spine r σ S)
substituted_root r σ (constant c) S = refl
substituted_root r σ (metavariable m) S = refl
substituted_root r σ (variable i) S = go (σ i)
  where
    go : (x : Image) → apply_image r x (substitute_spine r σ S) ≡ applied r (of_image x) (substitute_spine r σ S)
    go (keep j) = refl
    go (put a N) = refl

-- h before the substitution σ' is h' after σ
abbrev Goes : (ℕ → Head) → (ℕ → Head) → (ℕ → Image) → (ℕ → Image) → Type 0
Goes h h' σ σ' = (i : ℕ) → of_head σ' (h i) ≡ image_with_heads h' (σ i)

of_moved : (σ : ℕ → Image) (g : Head) → of_head (lift σ) (rename_head suc g) ≡ moved_standing (of_head σ g)
of_moved σ (constant c) = refl
of_moved σ (metavariable m) = refl
of_moved σ (variable i) = go (σ i)
  where
    go : (x : Image) → of_image (rename_image suc x) ≡ moved_standing (of_image x)
    go (keep j) = refl
    go (put a N) = refl

image_moved : (h : ℕ → Head) (x : Image) → image_with_heads (under_head h) (rename_image suc x) ≡ moved_standing (image_with_heads h x)
image_moved h (keep j) = refl
image_moved h (put a N) = ap (as_put a) (heads_of_renamed (under_head h) suc N ∙ sym (renamed_heads suc h N))

goes_under : (h h' : ℕ → Head) (σ σ' : ℕ → Image) → Goes h h' σ σ' → Goes (under_head h) (under_head h') (lift σ) (lift σ')
goes_under h h' σ σ' w zero = refl
goes_under h h' σ σ' w (suc i) = of_moved σ' (h i) ∙ ap moved_standing (w i) ∙ sym (image_moved h' (σ i))

-- what is done with a spine goes along with heads
abbrev Through : (Skeleton → Term → Spine → Term) → Type 0
Through r = (a : Skeleton) (h : ℕ → Head) (N : Term) (S : Spine) → with_heads h (r a N S) ≡ r a (with_heads h N) (spine_with_heads h S)

with_applied : (r : Skeleton → Term → Spine → Term) → Through r → (h : ℕ → Head) (x : Image) (S : Spine) → with_heads h (apply_image r x S) ≡ applied r (image_with_heads h x) (spine_with_heads h S)
with_applied r t h (keep j) S = refl
with_applied r t h (put a N) S = t a h N S

mutual
  heads_through : (r : Skeleton → Term → Spine → Term) → Through r → (h h' : ℕ → Head) (σ σ' : ℕ → Image) → Goes h h' σ σ' → (M : Term) → with_heads h' (substitute r σ M) ≡ substitute r σ' (with_heads h M)
  heads_through r t h h' σ σ' w (lambda M) = ap lambda (heads_through r t (under_head h) (under_head h') (lift σ) (lift σ') (goes_under h h' σ σ' w) M)
  heads_through r t h h' σ σ' w (root (constant c) S) = ap (root (constant c)) (heads_through_spine r t h h' σ σ' w S)
  heads_through r t h h' σ σ' w (root (metavariable m) S) = ap (root (metavariable m)) (heads_through_spine r t h h' σ σ' w S)
  heads_through r t h h' σ σ' w (root (variable i) S) =
      with_applied r t h' (σ i) (substitute_spine r σ S)
      ∙ ap (applied r (image_with_heads h' (σ i))) (heads_through_spine r t h h' σ σ' w S)
      ∙ ap (λ x. applied r x (substitute_spine r σ' (spine_with_heads h S))) (sym (w i))
      ∙ sym (substituted_root r σ' (h i) (spine_with_heads h S))

  heads_through_spine : (r : Skeleton → Term → Spine → Term) → Through r → (h h' : ℕ → Head) (σ σ' : ℕ → Image) → Goes h h' σ σ' → (S : Spine) → spine_with_heads h' (substitute_spine r σ S) ≡ substitute_spine r σ' (spine_with_heads h S)
  heads_through_spine r t h h' σ σ' w nil = refl
  heads_through_spine r t h h' σ σ' w (app M S) = ap₂ app (heads_through r t h h' σ σ' w M) (heads_through_spine r t h h' σ σ' w S)

heads_through_type : (r : Skeleton → Term → Spine → Term) → Through r → (h h' : ℕ → Head) (σ σ' : ℕ → Image) → Goes h h' σ σ' → (A : LfType) → type_with_heads h' (substitute_type r σ A) ≡ substitute_type r σ' (type_with_heads h A)
heads_through_type r t h h' σ σ' w (pi A B) = ap₂ pi (heads_through_type r t h h' σ σ' w A) (heads_through_type r t (under_head h) (under_head h') (lift σ) (lift σ') (goes_under h h' σ σ' w) B)
heads_through_type r t h h' σ σ' w (atom a S) = ap (atom a) (heads_through_spine r t h h' σ σ' w S)

heads_through_kind : (r : Skeleton → Term → Spine → Term) → Through r → (h h' : ℕ → Head) (σ σ' : ℕ → Image) → Goes h h' σ σ' → (K : Kind) → kind_with_heads h' (substitute_kind r σ K) ≡ substitute_kind r σ' (kind_with_heads h K)
heads_through_kind r t h h' σ σ' w (kind_pi A K) = ap₂ kind_pi (heads_through_type r t h h' σ σ' w A) (heads_through_kind r t (under_head h) (under_head h') (lift σ) (lift σ') (goes_under h h' σ σ' w) K)
heads_through_kind r t h h' σ σ' w star = refl

goes_single : (h : ℕ → Head) (a : Skeleton) (N : Term) → Goes (under_head h) h (single a N) (single a (with_heads h N))
goes_single h a N zero = refl
goes_single h a N (suc i) = go (h i)
  where
    go : (g : Head) → of_head (single a (with_heads h N)) (rename_head suc g) ≡ as_head g
    go (constant c) = refl
    go (variable j) = refl
    go (metavariable m) = refl

reduction_goes : Through reduce
reduction_goes (base c) h N S = refl
reduction_goes (arrow a b) h (root (constant c) T) S = refl
reduction_goes (arrow a b) h (root (variable c) T) S = refl
reduction_goes (arrow a b) h (root (metavariable c) T) S = refl
reduction_goes (arrow a b) h (lambda M) nil = refl
reduction_goes (arrow a b) h (lambda M) (app N S) =
    reduction_goes b h (substitute (λ c. reduce a) (single a N) M) S
    ∙ ap (λ X. reduce b X (spine_with_heads h S)) (heads_through (λ c. reduce a) (λ c. reduction_goes a) (under_head h) h (single a N) (single a (with_heads h N)) (goes_single h a N) M)

-- so an instance has the heads of its parts
pub heads_of_instance : (h : ℕ → Head) (A : LfType) (M : Term) (B : LfType) → type_with_heads h (instantiate_type A M B) ≡ instantiate_type (type_with_heads h A) (with_heads h M) (type_with_heads (under_head h) B)
heads_of_instance h A M B =
    heads_through_type reduce reduction_goes (under_head h) h (single (skeleton A) M) (single (skeleton A) (with_heads h M)) (goes_single h (skeleton A) M) B
    ∙ ap (λ a. substitute_type reduce (single a (with_heads h M)) (type_with_heads (under_head h) B)) (sym (skeleton_with_heads h A))

pub heads_of_instance_kind : (h : ℕ → Head) (A : LfType) (M : Term) (K : Kind) → kind_with_heads h (instantiate_kind A M K) ≡ instantiate_kind (type_with_heads h A) (with_heads h M) (kind_with_heads (under_head h) K)
heads_of_instance_kind h A M K =
    heads_through_kind reduce reduction_goes (under_head h) h (single (skeleton A) M) (single (skeleton A) (with_heads h M)) (goes_single h (skeleton A) M) K
    ∙ ap (λ a. substitute_kind reduce (single a (with_heads h M)) (kind_with_heads (under_head h) K)) (sym (skeleton_with_heads h A))

-- Only the heads of the variables that occur matter.
abbrev Same : (ℕ → Type 0) → (ℕ → Head) → (ℕ → Head) → Type 0
Same P h k = (i : ℕ) → P i → h i ≡ k i

same_under : (P : ℕ → Type 0) (h k : ℕ → Head) → Same P h k → Same (LiftedSet P) (under_head h) (under_head k)
same_under P h k w zero p = refl
same_under P h k w (suc i) p = ap (rename_head suc) (w i p)

mutual
  pub same_heads : (P : ℕ → Type 0) (h k : ℕ → Head) → Same P h k → (M : Term) → FreeVariablesIn P M → with_heads h M ≡ with_heads k M
  same_heads P h k w (lambda M) o = ap lambda (same_heads (LiftedSet P) (under_head h) (under_head k) (same_under P h k w) M o)
  same_heads P h k w (root (constant c) S) o = ap (root (constant c)) (same_heads_spine P h k w S o)
  same_heads P h k w (root (metavariable m) S) o = ap (root (metavariable m)) (same_heads_spine P h k w S o)
  same_heads P h k w (root (variable i) S) (p, o) = ap₂ root (w i p) (same_heads_spine P h k w S o)

  same_heads_spine : (P : ℕ → Type 0) (h k : ℕ → Head) → Same P h k → (S : Spine) → FreeVariablesInSpine P S → spine_with_heads h S ≡ spine_with_heads k S
  same_heads_spine P h k w nil o = refl
  same_heads_spine P h k w (app M S) (o, p) = ap₂ app (same_heads P h k w M o) (same_heads_spine P h k w S p)

pub same_heads_type : (P : ℕ → Type 0) (h k : ℕ → Head) → Same P h k → (A : LfType) → FreeVariablesInType P A → type_with_heads h A ≡ type_with_heads k A
same_heads_type P h k w (pi A B) (a, b) = ap₂ pi (same_heads_type P h k w A a) (same_heads_type (LiftedSet P) (under_head h) (under_head k) (same_under P h k w) B b)
same_heads_type P h k w (atom a S) o = ap (atom a) (same_heads_spine P h k w S o)

abbrev pub FreeVariablesInKind : (ℕ → Type 0) → Kind → Type 0
FreeVariablesInKind P (kind_pi A K) = FreeVariablesInType P A × FreeVariablesInKind (LiftedSet P) K
FreeVariablesInKind P star = Unit {0}

pub same_heads_kind : (P : ℕ → Type 0) (h k : ℕ → Head) → Same P h k → (K : Kind) → FreeVariablesInKind P K → kind_with_heads h K ≡ kind_with_heads k K
same_heads_kind P h k w (kind_pi A K) (a, b) = ap₂ kind_pi (same_heads_type P h k w A a) (same_heads_kind (LiftedSet P) (under_head h) (under_head k) (same_under P h k w) K b)
same_heads_kind P h k w star o = refl

-- each variable as itself
under_itself : (i : ℕ) → under_head variable i ≡ variable i
under_itself zero = refl
under_itself (suc i) = refl

mutual
  heads_themselves : (M : Term) → with_heads variable M ≡ M
  heads_themselves (lambda M) = ap lambda (ap (λ f. with_heads f M) (fun_ext under_itself) ∙ heads_themselves M)
  heads_themselves (root (constant c) S) = ap (root (constant c)) (heads_themselves_spine S)
  heads_themselves (root (metavariable m) S) = ap (root (metavariable m)) (heads_themselves_spine S)
  heads_themselves (root (variable i) S) = ap (root (variable i)) (heads_themselves_spine S)

  heads_themselves_spine : (S : Spine) → spine_with_heads variable S ≡ S
  heads_themselves_spine nil = refl
  heads_themselves_spine (app M S) = ap₂ app (heads_themselves M) (heads_themselves_spine S)

pub heads_themselves_type : (A : LfType) → type_with_heads variable A ≡ A
heads_themselves_type (pi A B) = ap₂ pi (heads_themselves_type A) (ap (λ f. type_with_heads f B) (fun_ext under_itself) ∙ heads_themselves_type B)
heads_themselves_type (atom a S) = ap (atom a) (heads_themselves_spine S)

pub heads_themselves_kind : (K : Kind) → kind_with_heads variable K ≡ K
heads_themselves_kind (kind_pi A K) = ap₂ kind_pi (heads_themselves_type A) (ap (λ f. kind_with_heads f K) (fun_ext under_itself) ∙ heads_themselves_kind K)
heads_themselves_kind star = refl

-- Metavariables of the heads of the variables that occur.
module _ (V : ℕ → Type 0) where
  abbrev HeadsIn : (ℕ → Type 0) → (ℕ → Head) → Type 0
  HeadsIn P h = (i : ℕ) → P i → HeadIn V (h i)

  in_moved : (g : Head) → HeadIn V g → HeadIn V (rename_head suc g)
  in_moved (constant c) p = p
  in_moved (variable i) p = p
  in_moved (metavariable m) p = p

  in_under : (P : ℕ → Type 0) (h : ℕ → Head) → HeadsIn P h → HeadsIn (LiftedSet P) (under_head h)
  in_under P h w zero p = tt
  in_under P h w (suc i) p = in_moved (h i) (w i p)

  in_root : (g : Head) (S : Spine) → HeadIn V g → MetavariablesInSpine V S → MetavariablesIn V (root g S)
  in_root (constant c) S p s = s
  in_root (variable i) S p s = s
  in_root (metavariable m) S p s = (p, s)

  mutual
    pub in_with_heads : (P : ℕ → Type 0) (h : ℕ → Head) → HeadsIn P h → (M : Term) → FreeVariablesIn P M → MetavariablesIn V M → MetavariablesIn V (with_heads h M)
    in_with_heads P h w (lambda M) o i = in_with_heads (LiftedSet P) (under_head h) (in_under P h w) M o i
    in_with_heads P h w (root (constant c) S) o i = in_with_heads_spine P h w S o i
    in_with_heads P h w (root (metavariable m) S) o (v, i) = (v, in_with_heads_spine P h w S o i)
    in_with_heads P h w (root (variable j) S) (p, o) i = in_root (h j) (spine_with_heads h S) (w j p) (in_with_heads_spine P h w S o i)

    in_with_heads_spine : (P : ℕ → Type 0) (h : ℕ → Head) → HeadsIn P h → (S : Spine) → FreeVariablesInSpine P S → MetavariablesInSpine V S → MetavariablesInSpine V (spine_with_heads h S)
    in_with_heads_spine P h w nil o i = tt
    in_with_heads_spine P h w (app M S) (o, p) (i, j) = (in_with_heads P h w M o i, in_with_heads_spine P h w S p j)

  pub in_type_with_heads : (P : ℕ → Type 0) (h : ℕ → Head) → HeadsIn P h → (A : LfType) → FreeVariablesInType P A → MetavariablesInType V A → MetavariablesInType V (type_with_heads h A)
  in_type_with_heads P h w (pi A B) (a, b) (i, j) = (in_type_with_heads P h w A a i, in_type_with_heads (LiftedSet P) (under_head h) (in_under P h w) B b j)
  in_type_with_heads P h w (atom a S) o i = in_with_heads_spine P h w S o i
