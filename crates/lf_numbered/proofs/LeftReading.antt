-- Reading entries as variables goes through fillings: what a filled term is read as is the term, read, filled with what
-- the values are read as.
use Rattle.std.proofs.Common.{◌≡◌, ℕ, zero, suc, List, ◌∷◌, Option, Some, None, refl, sym, ap, ap₂, ◌∙◌}
use Rattle.lf.specs.Syntax.{constant, variable, metavariable, Term, Spine, lambda, root, nil, app, LfType, pi, atom, Skeleton, base, arrow, skeleton, lift_renaming, rename, rename_spine, rename_type}
use Rattle.lf.specs.Substitution.{single, substitute, substitute_spine, reduce}
use Rattle.lf.specs.SkeletonTyping.{HeadSkeletons, SkeletonAt, TermSkeleton, SpineSkeleton, TypeBySkeletons}
use Rattle.lf.proofs.Renaming.{reduction_is_natural, renamings_compose, substitute_weakened}
use Rattle.lf_unification.specs.Filling.{moved, fill, fill_spine, fill_type, fill_metavariable, rename_value}
use Rattle.lf_coverage.proofs.Parts.{none_some}
use Rattle.lf_numbered.specs.NumberedInstance.{move, move_spine, move_type}
use Rattle.lf_numbered.specs.Reading.{drop_arguments, weaken_read, read_constant, read, read_spine, read_type}
use Rattle.lf_numbered.specs.WritingRoom.{move_image}
use Rattle.lf_numbered.proofs.Reading.{FollowsRead, any_constants, drop_renamed, read_image, read_renamed, read_spine_renamed, read_substituted, rename_read, under_read, weakened_read}
use Rattle.lf_numbered.proofs.WritingMove.{move_renamed, move_spine_renamed, move_substituted}
use mathlib.Core.Path.{fun_ext}

-- Reduction as a substitution, so that what goes through substitution goes through it.
spine_back : (a : Skeleton) (N : Term) (S : Spine) → substitute_spine reduce (single a N) (rename_spine suc S) ≡ S
spine_back a N nil = refl
spine_back a N (app M S) = ap₂ app (substitute_weakened reduce a N M) (spine_back a N S)

reduction_is : (a : Skeleton) (N : Term) (S : Spine) → substitute reduce (single a N) (root (variable 0) (rename_spine suc S)) ≡ reduce a N S
reduction_is a N S = ap (reduce a N) (spine_back a N S)

single_follows : (a : Skeleton) (N : Term) (x : Option (ℕ × ℕ)) → FollowsRead (single a N) (weaken_read x) x
single_follows a N None = tt
single_follows a N (Some (n, v)) = (refl, refl)

single_read : (f : ℕ → Option (ℕ × ℕ)) (a : Skeleton) (N : Term) (i : ℕ) → read_image f (single a N i) ≡ single a (read f N) i
single_read f a N zero = refl
single_read f a N (suc i) = refl

pub read_reduced : (f : ℕ → Option (ℕ × ℕ)) (a : Skeleton) (N : Term) (S : Spine) → read f (reduce a N S) ≡ reduce a (read f N) (read_spine f S)
read_reduced f a N S =
    ap (read f) (sym (reduction_is a N S))
    ∙ read_substituted (λ c. Unit {0}) (under_read f) f (single a N) (root (variable 0) (rename_spine suc S)) (λ c p. single_follows a N (f c)) (any_constants (root (variable 0) (rename_spine suc S)))
    ∙ ap₂ (λ σ T. substitute reduce σ (root (variable 0) T)) (fun_ext (single_read f a N)) (read_spine_renamed f (under_read f) suc S (λ c. weakened_read (f c)))
    ∙ reduction_is a (read f N) (read_spine f S)

single_moved : (δ : ℕ → ℕ) (a : Skeleton) (N : Term) (i : ℕ) → move_image δ (single a N i) ≡ single a (move δ N) i
single_moved δ a N zero = refl
single_moved δ a N (suc i) = refl

move_reduced : (δ : ℕ → ℕ) (a : Skeleton) (N : Term) (S : Spine) → move δ (reduce a N S) ≡ reduce a (move δ N) (move_spine δ S)
move_reduced δ a N S =
    ap (move δ) (sym (reduction_is a N S))
    ∙ move_substituted δ (single a N) (root (variable 0) (rename_spine suc S))
    ∙ ap₂ (λ σ T. substitute reduce σ (root (variable 0) T)) (fun_ext (single_moved δ a N)) (move_spine_renamed δ suc S)
    ∙ reduction_is a (move δ N) (move_spine δ S)

-- dropped arguments
drop_moved : (δ : ℕ → ℕ) (n : ℕ) (S : Spine) → move_spine δ (drop_arguments n S) ≡ drop_arguments n (move_spine δ S)
drop_moved δ zero S = refl
drop_moved δ (suc n) nil = refl
drop_moved δ (suc n) (app M S) = drop_moved δ n S

drop_filled : (μ : ℕ → Skeleton) (β : ℕ → Option Term) (n : ℕ) (S : Spine) → fill_spine μ β (drop_arguments n S) ≡ drop_arguments n (fill_spine μ β S)
drop_filled μ β zero S = refl
drop_filled μ β (suc n) nil = refl
drop_filled μ β (suc n) (app M S) = drop_filled μ β n S

-- A term is read by f, its variables are renamed by ν, and its constants are moved by δ.
abbrev pub carried : (ℕ → ℕ) → (ℕ → Option (ℕ × ℕ)) → (ℕ → ℕ) → Term → Term
carried δ f ν M = move δ (rename ν (read f M))

abbrev pub carried_spine : (ℕ → ℕ) → (ℕ → Option (ℕ × ℕ)) → (ℕ → ℕ) → Spine → Spine
carried_spine δ f ν S = move_spine δ (rename_spine ν (read_spine f S))

abbrev pub carried_type : (ℕ → ℕ) → (ℕ → Option (ℕ × ℕ)) → (ℕ → ℕ) → LfType → LfType
carried_type δ f ν A = move_type δ (rename_type ν (read_type f A))

abbrev pub carried_value : (ℕ → ℕ) → (ℕ → Option (ℕ × ℕ)) → (ℕ → ℕ) → Option Term → Option Term
carried_value δ f ν None = None
carried_value δ f ν (Some N) = Some (carried δ f ν N)

pub carried_under : (δ : ℕ → ℕ) (f : ℕ → Option (ℕ × ℕ)) (ν : ℕ → ℕ) (x y : Option Term) → y ≡ carried_value δ f ν x → rename_value suc y ≡ carried_value δ (under_read f) (lift_renaming ν) (rename_value suc x)
carried_under δ f ν None y e = ap (rename_value suc) e
carried_under δ f ν (Some N) y e =
    ap (rename_value suc) e
    ∙ ap Some (sym (move_renamed δ suc (rename ν (read f N))) ∙ ap (move δ) (renamings_compose suc ν (read f N) ∙ sym (renamings_compose (lift_renaming ν) suc (read f N)) ∙ ap (rename (lift_renaming ν)) (sym (read_renamed f (under_read f) suc N (λ c. weakened_read (f c))))))

under_none : (x : Option (ℕ × ℕ)) → weaken_read x ≡ None → x ≡ None
under_none None e = refl
under_none (Some y) e = absurd (none_some (sym e))

under_renamed : (ν : ℕ → ℕ) (x : Option (ℕ × ℕ)) → weaken_read (rename_read ν x) ≡ rename_read (lift_renaming ν) (weaken_read x)
under_renamed ν None = refl
under_renamed ν (Some (n, v)) = refl

module _ (δ : ℕ → ℕ) (κ : HeadSkeletons) (μ : ℕ → Skeleton) where
  -- g reads each constant as f does, renamed, and those that aren't read don't move
  abbrev pub Reads : (ℕ → Option (ℕ × ℕ)) → (ℕ → Option (ℕ × ℕ)) → (ℕ → ℕ) → Type 0
  Reads f g ν = (c : ℕ) (t : Skeleton) → κ.constant_skeleton c ≡ Some t → (g c ≡ rename_read ν (f c)) × (f c ≡ None → δ c ≡ c)

  pub reads_under : (f g : ℕ → Option (ℕ × ℕ)) (ν : ℕ → ℕ) → Reads f g ν → Reads (under_read f) (under_read g) (lift_renaming ν)
  reads_under f g ν h c t e = let (p, q) = h c t e in (ap weaken_read p ∙ under_renamed ν (f c), λ z. q (under_none (f c) z))

  -- local variables stay
  abbrev pub Stay : List Skeleton → (ℕ → ℕ) → Type 0
  Stay Γ ν = (i : ℕ) (t : Skeleton) → SkeletonAt Γ i t → ν i ≡ i

  pub stay_under : (Γ : List Skeleton) (a : Skeleton) (ν : ℕ → ℕ) → Stay Γ ν → Stay (a ∷ Γ) (lift_renaming ν)
  stay_under Γ a ν h zero t e = refl
  stay_under Γ a ν h (suc i) t e = ap suc (h i t e)

  constant_filled : (f : ℕ → Option (ℕ × ℕ)) (ν : ℕ → ℕ) (γ : ℕ → Option Term) (x y : Option (ℕ × ℕ)) (c : ℕ) (R T : Spine) → y ≡ rename_read ν x → (x ≡ None → δ c ≡ c) → move_spine δ (rename_spine ν R) ≡ fill_spine μ γ T → move δ (rename ν (read_constant x c R)) ≡ fill μ γ (read_constant y c T)
  constant_filled f ν γ None y c R T e q s = ap₂ (λ d S. root (constant d) S) (q refl) s ∙ ap (λ z. fill μ γ (read_constant z c T)) (sym e)
  constant_filled f ν γ (Some (n, v)) y c R T e q s =
      ap (root (variable (ν v))) (ap (move_spine δ) (sym (drop_renamed ν n R)) ∙ drop_moved δ n (rename_spine ν R) ∙ ap (drop_arguments n) s ∙ sym (drop_filled μ γ n T)) ∙ ap (λ z. fill μ γ (read_constant z c T)) (sym e)

  metavariable_filled : (f : ℕ → Option (ℕ × ℕ)) (ν : ℕ → ℕ) (a : Skeleton) (m : ℕ) (x y : Option Term) (R T : Spine) → y ≡ carried_value δ f ν x → carried_spine δ f ν R ≡ T → carried δ f ν (fill_metavariable a m x R) ≡ fill_metavariable a m y T
  metavariable_filled f ν a m None y R T e s = ap (root (metavariable m)) s ∙ ap (λ z. fill_metavariable a m z T) (sym e)
  metavariable_filled f ν a m (Some N) y R T e s =
      ap (λ M. move δ (rename ν M)) (read_reduced f a N R)
      ∙ ap (move δ) (reduction_is_natural a ν (read f N) (read_spine f R))
      ∙ move_reduced δ a (rename ν (read f N)) (rename_spine ν (read_spine f R))
      ∙ ap (reduce a (carried δ f ν N)) s
      ∙ ap (λ z. fill_metavariable a m z T) (sym e)

  mutual
    pub fill_read : (Γ : List Skeleton) (f g : ℕ → Option (ℕ × ℕ)) (ν : ℕ → ℕ) (β γ : ℕ → Option Term) → Reads f g ν → Stay Γ ν → ((m : ℕ) → γ m ≡ carried_value δ f ν (β m)) → (M : Term) (t : Skeleton) → TermSkeleton κ Γ M t → carried δ f ν (fill μ β M) ≡ fill μ γ (read g M)
    fill_read Γ f g ν β γ h s v (lambda M) (arrow a b) m = ap lambda (fill_read (a ∷ Γ) (under_read f) (under_read g) (lift_renaming ν) (moved suc β) (moved suc γ) (reads_under f g ν h) (stay_under Γ a ν s) (λ n. carried_under δ f ν (β n) (γ n) (v n)) M b m)
    fill_read Γ f g ν β γ h s v (lambda M) (base c) m = absurd m
    fill_read Γ f g ν β γ h s v (root k S) (arrow a b) m = absurd m
    fill_read Γ f g ν β γ h s v (root (constant c) S) (base d) (t, e, m) = let (p, q) = h c t e in constant_filled f ν γ (f c) (g c) c (read_spine f (fill_spine μ β S)) (read_spine g S) p q (fill_spine_read Γ f g ν β γ h s v S t (base d) m)
    fill_read Γ f g ν β γ h s v (root (variable i) S) (base d) (t, e, m) = ap₂ (λ j T. root (variable j) T) (s i t e) (fill_spine_read Γ f g ν β γ h s v S t (base d) m)
    fill_read Γ f g ν β γ h s v (root (metavariable n) S) (base d) (t, e, m) = metavariable_filled f ν (μ n) n (β n) (γ n) (fill_spine μ β S) (fill_spine μ γ (read_spine g S)) (v n) (fill_spine_read Γ f g ν β γ h s v S t (base d) m)

    pub fill_spine_read : (Γ : List Skeleton) (f g : ℕ → Option (ℕ × ℕ)) (ν : ℕ → ℕ) (β γ : ℕ → Option Term) → Reads f g ν → Stay Γ ν → ((m : ℕ) → γ m ≡ carried_value δ f ν (β m)) → (S : Spine) (t u : Skeleton) → SpineSkeleton κ Γ S t u → carried_spine δ f ν (fill_spine μ β S) ≡ fill_spine μ γ (read_spine g S)
    fill_spine_read Γ f g ν β γ h s v nil t u m = refl
    fill_spine_read Γ f g ν β γ h s v (app M S) (arrow a b) u (m, n) = ap₂ app (fill_read Γ f g ν β γ h s v M a m) (fill_spine_read Γ f g ν β γ h s v S b u n)
    fill_spine_read Γ f g ν β γ h s v (app M S) (base d) u m = absurd m

  pub fill_type_read : (φ : ℕ → Option Skeleton) (Γ : List Skeleton) (f g : ℕ → Option (ℕ × ℕ)) (ν : ℕ → ℕ) (β γ : ℕ → Option Term) → Reads f g ν → Stay Γ ν → ((m : ℕ) → γ m ≡ carried_value δ f ν (β m)) → (A : LfType) → TypeBySkeletons φ κ Γ A → carried_type δ f ν (fill_type μ β A) ≡ fill_type μ γ (read_type g A)
  fill_type_read φ Γ f g ν β γ h s v (pi A B) (a, b) = ap₂ pi (fill_type_read φ Γ f g ν β γ h s v A a) (fill_type_read φ (skeleton A ∷ Γ) (under_read f) (under_read g) (lift_renaming ν) (moved suc β) (moved suc γ) (reads_under f g ν h) (stay_under Γ (skeleton A) ν s) (λ n. carried_under δ f ν (β n) (γ n) (v n)) B b)
  fill_type_read φ Γ f g ν β γ h s v (atom a S) (t, e, m) = ap (atom a) (fill_spine_read Γ f g ν β γ h s v S t (base a) m)
