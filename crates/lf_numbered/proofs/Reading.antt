-- Reading of terms over entry constants goes through renaming and hereditary substitution.
use Rattle.std.proofs.Common.{◌≡◌, ℕ, zero, suc, List, ◌∷◌, Option, Some, None, refl, sym, ap, ap₂, ◌∙◌}
use Rattle.lf.specs.Syntax.{constant, variable, metavariable, Term, Spine, lambda, root, nil, app, LfType, Kind, pi, atom, kind_pi, star, Skeleton, base, arrow, skeleton, lift_renaming, rename, rename_spine, rename_type, weaken}
use Rattle.lf.specs.Substitution.{Image, keep, put, rename_image, lift, single, apply_image, substitute, substitute_spine, substitute_type, reduce}
use Rattle.lf.specs.Typing.{Signature, HasType, SpineType, SpineFitsKind, IsType, instantiate_type, instantiate_kind}
use Rattle.lf.proofs.Renaming.{OnPut, Puts, Puts-lift, Puts-single, OnPut-all, reduction_beta}
use Rattle.lf_numbered.specs.Reading.{drop_arguments, weaken_read, read_constant, read, read_spine, read_type}
use mathlib.Core.Path.{fun_ext}

abbrev pub under_read : (ℕ → Option (ℕ × ℕ)) → ℕ → Option (ℕ × ℕ)
under_read f = λ c. weaken_read (f c)

-- Renaming
abbrev pub rename_read : (ℕ → ℕ) → Option (ℕ × ℕ) → Option (ℕ × ℕ)
rename_read ρ None = None
rename_read ρ (Some (n, v)) = Some (n, ρ v)

pub drop_renamed : (ρ : ℕ → ℕ) (n : ℕ) (S : Spine) → drop_arguments n (rename_spine ρ S) ≡ rename_spine ρ (drop_arguments n S)
drop_renamed ρ zero S = refl
drop_renamed ρ (suc n) nil = refl
drop_renamed ρ (suc n) (app M S) = drop_renamed ρ n S

read_under : (ρ : ℕ → ℕ) (x : Option (ℕ × ℕ)) → weaken_read (rename_read ρ x) ≡ rename_read (lift_renaming ρ) (weaken_read x)
read_under ρ None = refl
read_under ρ (Some (n, v)) = refl

constant_renamed : (ρ : ℕ → ℕ) (x : Option (ℕ × ℕ)) (c : ℕ) (S : Spine) → read_constant (rename_read ρ x) c (rename_spine ρ S) ≡ rename ρ (read_constant x c S)
constant_renamed ρ None c S = refl
constant_renamed ρ (Some (n, v)) c S = ap (root (variable (ρ v))) (drop_renamed ρ n S)

mutual
  pub read_renamed : (f g : ℕ → Option (ℕ × ℕ)) (ρ : ℕ → ℕ) (M : Term) → ((c : ℕ) → g c ≡ rename_read ρ (f c)) → read g (rename ρ M) ≡ rename ρ (read f M)
  read_renamed f g ρ (lambda M) h = ap lambda (read_renamed (under_read f) (under_read g) (lift_renaming ρ) M (λ c. ap weaken_read (h c) ∙ read_under ρ (f c)))
  read_renamed f g ρ (root (constant c) S) h = ap₂ (λ x T. read_constant x c T) (h c) (read_spine_renamed f g ρ S h) ∙ constant_renamed ρ (f c) c (read_spine f S)
  read_renamed f g ρ (root (variable i) S) h = ap (root (variable (ρ i))) (read_spine_renamed f g ρ S h)
  read_renamed f g ρ (root (metavariable m) S) h = ap (root (metavariable m)) (read_spine_renamed f g ρ S h)

  pub read_spine_renamed : (f g : ℕ → Option (ℕ × ℕ)) (ρ : ℕ → ℕ) (S : Spine) → ((c : ℕ) → g c ≡ rename_read ρ (f c)) → read_spine g (rename_spine ρ S) ≡ rename_spine ρ (read_spine f S)
  read_spine_renamed f g ρ nil h = refl
  read_spine_renamed f g ρ (app M S) h = ap₂ app (read_renamed f g ρ M h) (read_spine_renamed f g ρ S h)

pub read_type_renamed : (f g : ℕ → Option (ℕ × ℕ)) (ρ : ℕ → ℕ) (A : LfType) → ((c : ℕ) → g c ≡ rename_read ρ (f c)) → read_type g (rename_type ρ A) ≡ rename_type ρ (read_type f A)
read_type_renamed f g ρ (pi A B) h = ap₂ pi (read_type_renamed f g ρ A h) (read_type_renamed (under_read f) (under_read g) (lift_renaming ρ) B (λ c. ap weaken_read (h c) ∙ read_under ρ (f c)))
read_type_renamed f g ρ (atom a S) h = ap (atom a) (read_spine_renamed f g ρ S h)

pub weakened_read : (x : Option (ℕ × ℕ)) → weaken_read x ≡ rename_read suc x
weakened_read None = refl
weakened_read (Some (n, v)) = refl

-- one more variable in front
pub read_weakened : (f : ℕ → Option (ℕ × ℕ)) (A : LfType) → read_type (under_read f) (weaken A) ≡ weaken (read_type f A)
read_weakened f A = read_type_renamed f (under_read f) suc A (λ c. weakened_read (f c))

pub skeleton_read : (f : ℕ → Option (ℕ × ℕ)) (A : LfType) → skeleton (read_type f A) ≡ skeleton A
skeleton_read f (pi A B) = ap₂ arrow (skeleton_read f A) (skeleton_read (under_read f) B)
skeleton_read f (atom a S) = refl

-- each constant that occurs is one of P
abbrev mutual
  pub OnlyConstants : (ℕ → Type 0) → Term → Type 0
  OnlyConstants P (lambda M) = OnlyConstants P M
  OnlyConstants P (root (constant c) S) = P c × SpineOnlyConstants P S
  OnlyConstants P (root (variable i) S) = SpineOnlyConstants P S
  OnlyConstants P (root (metavariable m) S) = SpineOnlyConstants P S

  pub SpineOnlyConstants : (ℕ → Type 0) → Spine → Type 0
  SpineOnlyConstants P nil = Unit {0}
  SpineOnlyConstants P (app M S) = OnlyConstants P M × SpineOnlyConstants P S

abbrev pub TypeOnlyConstants : (ℕ → Type 0) → LfType → Type 0
TypeOnlyConstants P (pi A B) = TypeOnlyConstants P A × TypeOnlyConstants P B
TypeOnlyConstants P (atom a S) = SpineOnlyConstants P S

mutual
  pub any_constants : (M : Term) → OnlyConstants (λ c. Unit {0}) M
  any_constants (lambda M) = any_constants M
  any_constants (root (constant c) S) = (tt, any_spine S)
  any_constants (root (variable i) S) = any_spine S
  any_constants (root (metavariable m) S) = any_spine S

  any_spine : (S : Spine) → SpineOnlyConstants (λ c. Unit {0}) S
  any_spine nil = tt
  any_spine (app M S) = (any_constants M, any_spine S)

pub any_type : (A : LfType) → TypeOnlyConstants (λ c. Unit {0}) A
any_type (pi A B) = (any_type A, any_type B)
any_type (atom a S) = any_spine S

-- a constant of the signature
abbrev pub IsOld : Signature → ℕ → Type 0
IsOld Σ c = (A : LfType) × (Σ.types c ≡ Some A)

module _ (Σ : Signature) where
  mutual
    pub typed_only : (G : List LfType) (M : Term) (A : LfType) → HasType Σ G M A → OnlyConstants (IsOld Σ) M
    typed_only G (lambda M) (pi A B) m = typed_only (A ∷ G) M B m
    typed_only G (lambda M) (atom a T) m = absurd m
    typed_only G (root h S) (pi A B) m = absurd m
    typed_only G (root (constant c) S) (atom a T) (A, g, s) = ((A, g), typed_spine_only G S A (atom a T) s)
    typed_only G (root (variable i) S) (atom a T) (A, g, s) = typed_spine_only G S A (atom a T) s
    typed_only G (root (metavariable m) S) (atom a T) (A, g, s) = typed_spine_only G S A (atom a T) s

    typed_spine_only : (G : List LfType) (S : Spine) (A C : LfType) → SpineType Σ G S A C → SpineOnlyConstants (IsOld Σ) S
    typed_spine_only G nil A C s = tt
    typed_spine_only G (app M S) (pi A B) C (m, s) = (typed_only G M A m, typed_spine_only G S (instantiate_type A M B) C s)
    typed_spine_only G (app M S) (atom a T) C s = absurd s

  kind_spine_only : (G : List LfType) (S : Spine) (K : Kind) → SpineFitsKind Σ G S K → SpineOnlyConstants (IsOld Σ) S
  kind_spine_only G nil K s = tt
  kind_spine_only G (app M S) (kind_pi A K) (m, s) = (typed_only G M A m, kind_spine_only G S (instantiate_kind A M K) s)
  kind_spine_only G (app M S) star s = absurd s

  pub type_only : (G : List LfType) (A : LfType) → IsType Σ G A → TypeOnlyConstants (IsOld Σ) A
  type_only G (pi A B) (a, b) = (type_only G A a, type_only (A ∷ G) B b)
  type_only G (atom a S) (K, e, s) = kind_spine_only G S K s

-- what has no entry is read as it is
mutual
  pub none_read : (P : ℕ → Type 0) (f : ℕ → Option (ℕ × ℕ)) (M : Term) → ((c : ℕ) → P c → f c ≡ None) → OnlyConstants P M → read f M ≡ M
  none_read P f (lambda M) h m = ap lambda (none_read P (under_read f) M (λ c p. ap weaken_read (h c p)) m)
  none_read P f (root (constant c) S) h (p, s) = ap₂ (λ x T. read_constant x c T) (h c p) (none_read_spine P f S h s)
  none_read P f (root (variable i) S) h s = ap (root (variable i)) (none_read_spine P f S h s)
  none_read P f (root (metavariable i) S) h s = ap (root (metavariable i)) (none_read_spine P f S h s)

  none_read_spine : (P : ℕ → Type 0) (f : ℕ → Option (ℕ × ℕ)) (S : Spine) → ((c : ℕ) → P c → f c ≡ None) → SpineOnlyConstants P S → read_spine f S ≡ S
  none_read_spine P f nil h s = refl
  none_read_spine P f (app M S) h (m, s) = ap₂ app (none_read P f M h m) (none_read_spine P f S h s)

pub none_read_type : (P : ℕ → Type 0) (f : ℕ → Option (ℕ × ℕ)) (A : LfType) → ((c : ℕ) → P c → f c ≡ None) → TypeOnlyConstants P A → read_type f A ≡ A
none_read_type P f (pi A B) h (a, b) = ap₂ pi (none_read_type P f A h a) (none_read_type P (under_read f) B (λ c p. ap weaken_read (h c p)) b)
none_read_type P f (atom a S) h s = ap (atom a) (none_read_spine P f S h s)

-- Substitution
abbrev pub read_image : (ℕ → Option (ℕ × ℕ)) → Image → Image
read_image f (keep j) = keep j
read_image f (put a N) = put a (read f N)

-- what an entry is read as before and after values are put in
abbrev pub FollowsRead : (ℕ → Image) → Option (ℕ × ℕ) → Option (ℕ × ℕ) → Type 0
FollowsRead σ None None = Unit {0}
FollowsRead σ None (Some y) = ⊥
FollowsRead σ (Some x) None = ⊥
FollowsRead σ (Some (n, v)) (Some (m, u)) = (n ≡ m) × (σ v ≡ keep u)

pub follows_under : (σ : ℕ → Image) (x y : Option (ℕ × ℕ)) → FollowsRead σ x y → FollowsRead (lift σ) (weaken_read x) (weaken_read y)
follows_under σ None None h = tt
follows_under σ None (Some y) h = absurd h
follows_under σ (Some x) None h = absurd h
follows_under σ (Some (n, v)) (Some (m, u)) (e, q) = (e, ap (rename_image suc) q)

follows_single : (a : Skeleton) (N : Term) (x : Option (ℕ × ℕ)) → FollowsRead (single a N) (weaken_read x) x
follows_single a N None = tt
follows_single a N (Some (n, v)) = (refl, refl)

abbrev RedRead : Skeleton → Type 0
RedRead a = (f : ℕ → Option (ℕ × ℕ)) (N : Term) (S : Spine) → read f (reduce a N S) ≡ reduce a (read f N) (read_spine f S)

pub image_read_under : (f : ℕ → Option (ℕ × ℕ)) (x : Image) → rename_image suc (read_image f x) ≡ read_image (under_read f) (rename_image suc x)
image_read_under f (keep j) = refl
image_read_under f (put a N) = ap (put a) (sym (read_renamed f (under_read f) suc N (λ c. weakened_read (f c))))

images_read_under : (f : ℕ → Option (ℕ × ℕ)) (σ : ℕ → Image) (i : ℕ) → lift (λ j. read_image f (σ j)) i ≡ read_image (under_read f) (lift σ i)
images_read_under f σ zero = refl
images_read_under f σ (suc i) = image_read_under f (σ i)

drop_put : (σ : ℕ → Image) (n : ℕ) (S : Spine) → drop_arguments n (substitute_spine reduce σ S) ≡ substitute_spine reduce σ (drop_arguments n S)
drop_put σ zero S = refl
drop_put σ (suc n) nil = refl
drop_put σ (suc n) (app M S) = drop_put σ n S

constant_put : (σ τ : ℕ → Image) (x y : Option (ℕ × ℕ)) (c : ℕ) (S : Spine) → ((v u : ℕ) → σ v ≡ keep u → τ v ≡ keep u) → FollowsRead σ x y → read_constant y c (substitute_spine reduce τ S) ≡ substitute reduce τ (read_constant x c S)
constant_put σ τ None None c S k h = refl
constant_put σ τ None (Some y) c S k h = absurd h
constant_put σ τ (Some x) None c S k h = absurd h
constant_put σ τ (Some (n, v)) (Some (m, u)) c S k (e, q) = ap (root (variable u)) (ap (λ z. drop_arguments z (substitute_spine reduce τ S)) (sym e) ∙ drop_put τ n S) ∙ sym (ap (λ z. apply_image reduce z (substitute_spine reduce τ (drop_arguments n S))) (k v u q))

plug_read : (f : ℕ → Option (ℕ × ℕ)) (x : Image) (T T' : Spine) → OnPut RedRead x → read_spine f T ≡ T' → read f (apply_image reduce x T) ≡ apply_image reduce (read_image f x) T'
plug_read f (keep j) T T' k e = ap (root (variable j)) e
plug_read f (put a N) T T' k e = k f N T ∙ ap (reduce a (read f N)) e

mutual
  read_put : (P : ℕ → Type 0) (f g : ℕ → Option (ℕ × ℕ)) (σ : ℕ → Image) (M : Term) → Puts RedRead σ → ((c : ℕ) → P c → FollowsRead σ (f c) (g c)) → OnlyConstants P M → read g (substitute reduce σ M) ≡ substitute reduce (λ i. read_image g (σ i)) (read f M)
  read_put P f g σ (lambda M) k h m = ap lambda (read_put P (under_read f) (under_read g) (lift σ) M (Puts-lift RedRead σ k) (λ c p. follows_under σ (f c) (g c) (h c p)) m ∙ ap (λ τ. substitute reduce τ (read (under_read f) M)) (sym (fun_ext (images_read_under g σ))))
  read_put P f g σ (root (constant c) S) k h (p, s) = ap (read_constant (g c) c) (read_put_spine P f g σ S k h s) ∙ constant_put σ (λ i. read_image g (σ i)) (f c) (g c) c (read_spine f S) (λ v u e. ap (read_image g) e) (h c p)
  read_put P f g σ (root (metavariable c) S) k h s = ap (root (metavariable c)) (read_put_spine P f g σ S k h s)
  read_put P f g σ (root (variable i) S) k h s = plug_read g (σ i) (substitute_spine reduce σ S) (substitute_spine reduce (λ i. read_image g (σ i)) (read_spine f S)) (k i) (read_put_spine P f g σ S k h s)

  read_put_spine : (P : ℕ → Type 0) (f g : ℕ → Option (ℕ × ℕ)) (σ : ℕ → Image) (S : Spine) → Puts RedRead σ → ((c : ℕ) → P c → FollowsRead σ (f c) (g c)) → SpineOnlyConstants P S → read_spine g (substitute_spine reduce σ S) ≡ substitute_spine reduce (λ i. read_image g (σ i)) (read_spine f S)
  read_put_spine P f g σ nil k h s = refl
  read_put_spine P f g σ (app M S) k h (m, s) = ap₂ app (read_put P f g σ M k h m) (read_put_spine P f g σ S k h s)

single_read : (f : ℕ → Option (ℕ × ℕ)) (a : Skeleton) (N : Term) (i : ℕ) → read_image f (single a N i) ≡ single a (read f N) i
single_read f a N zero = refl
single_read f a N (suc i) = refl

root_stays : (a b : Skeleton) (x : Option (ℕ × ℕ)) (c : ℕ) (T S : Spine) → read_constant x c T ≡ reduce (arrow a b) (read_constant x c T) S
root_stays a b None c T S = refl
root_stays a b (Some (n, v)) c T S = refl

reduce_read : (a : Skeleton) → RedRead a
reduce_read (base c) f N S = refl
reduce_read (arrow a b) f (root (constant c) T) S = root_stays a b (f c) c (read_spine f T) (read_spine f S)
reduce_read (arrow a b) f (root (variable i) T) S = refl
reduce_read (arrow a b) f (root (metavariable m) T) S = refl
reduce_read (arrow a b) f (lambda M) nil = refl
reduce_read (arrow a b) f (lambda M) (app N S) =
    ap (read f) (reduction_beta a b M N S)
    ∙ reduce_read b f (substitute reduce (single a N) M) S
    ∙ ap (λ X. reduce b X (read_spine f S)) (read_put (λ c. Unit {0}) (under_read f) f (single a N) M (Puts-single RedRead a N (reduce_read a)) (λ c p. follows_single a N (f c)) (any_constants M) ∙ ap (λ τ. substitute reduce τ (read (under_read f) M)) (fun_ext (single_read f a N)))
    ∙ sym (reduction_beta a b (read (under_read f) M) (read f N) (read_spine f S))

pub read_substituted : (P : ℕ → Type 0) (f g : ℕ → Option (ℕ × ℕ)) (σ : ℕ → Image) (M : Term) → ((c : ℕ) → P c → FollowsRead σ (f c) (g c)) → OnlyConstants P M → read g (substitute reduce σ M) ≡ substitute reduce (λ i. read_image g (σ i)) (read f M)
read_substituted P f g σ M = read_put P f g σ M (λ i. OnPut-all RedRead reduce_read (σ i))

pub read_spine_substituted : (P : ℕ → Type 0) (f g : ℕ → Option (ℕ × ℕ)) (σ : ℕ → Image) (S : Spine) → ((c : ℕ) → P c → FollowsRead σ (f c) (g c)) → SpineOnlyConstants P S → read_spine g (substitute_spine reduce σ S) ≡ substitute_spine reduce (λ i. read_image g (σ i)) (read_spine f S)
read_spine_substituted P f g σ S = read_put_spine P f g σ S (λ i. OnPut-all RedRead reduce_read (σ i))

pub read_type_substituted : (P : ℕ → Type 0) (f g : ℕ → Option (ℕ × ℕ)) (σ : ℕ → Image) (A : LfType) → ((c : ℕ) → P c → FollowsRead σ (f c) (g c)) → TypeOnlyConstants P A → read_type g (substitute_type reduce σ A) ≡ substitute_type reduce (λ i. read_image g (σ i)) (read_type f A)
read_type_substituted P f g σ (pi A B) h (a, b) = ap₂ pi (read_type_substituted P f g σ A h a) (read_type_substituted P (under_read f) (under_read g) (lift σ) B (λ c p. follows_under σ (f c) (g c) (h c p)) b ∙ ap (λ τ. substitute_type reduce τ (read_type (under_read f) B)) (sym (fun_ext (images_read_under g σ))))
read_type_substituted P f g σ (atom a S) h s = ap (atom a) (read_spine_substituted P f g σ S h s)

-- the instance of a type
pub read_instance : (f : ℕ → Option (ℕ × ℕ)) (A : LfType) (M : Term) (B : LfType) → read_type f (instantiate_type A M B) ≡ instantiate_type (read_type f A) (read f M) (read_type (under_read f) B)
read_instance f A M B =
    read_type_substituted (λ c. Unit {0}) (under_read f) f (single (skeleton A) M) B (λ c p. follows_single (skeleton A) M (f c)) (any_type B)
    ∙ ap (λ τ. substitute_type reduce τ (read_type (under_read f) B)) (fun_ext (single_read f (skeleton A) M))
    ∙ ap (λ a. substitute_type reduce (single a (read f M)) (read_type (under_read f) B)) (sym (skeleton_read f A))
