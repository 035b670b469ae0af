-- What is read has the skeletons of what it is read from.
use Rattle.std.proofs.Common.{◌≡◌, ℕ, zero, suc, List, [], ◌∷◌, ◌≤◌, length, Option, Some, None, refl, sym, ap, ◌∙◌, subst, arith}
use Rattle.lf.specs.Syntax.{constant, variable, metavariable, Term, Spine, lambda, root, nil, app, LfType, pi, atom, Skeleton, base, arrow, skeleton}
use Rattle.lf.specs.Eta.{append}
use Rattle.lf.specs.SkeletonTyping.{HeadSkeletons, SkeletonAt, TermSkeleton, SpineSkeleton, TypeBySkeletons}
use Rattle.lf_unification.specs.Offering.{pi_over}
use Rattle.lf_checks.specs.ModeForms.{argument_count}
use Rattle.lf_coverage.proofs.HeadItems.{length_renamed as count_renamed}
use Rattle.lf_numbered.specs.OwnTerms.{weaken_own, BeginsWith, OnOwnTerms, SpineOnOwnTerms, TypeOnOwnTerms}
use Rattle.lf_numbered.specs.Reading.{drop_arguments, weaken_read, read_constant, read, read_spine, read_type}
use Rattle.lf_numbered.proofs.Reading.{under_read, skeleton_read}

-- what is left of a skeleton behind n arguments
abbrev pub behind_arguments : ℕ → Skeleton → Skeleton
behind_arguments zero t = t
behind_arguments (suc n) (arrow a b) = behind_arguments n b
behind_arguments (suc n) (base c) = base c

pub count_read : (f : ℕ → Option (ℕ × ℕ)) (S : Spine) → argument_count (read_spine f S) ≡ argument_count S
count_read f nil = refl
count_read f (app M S) = ap suc (count_read f S)

count_append : (U T : Spine) → argument_count U ≤ argument_count (append U T)
count_append nil T = omega arith
count_append (app M U) T = let l = count_append U T in omega arith

drop_skeleton : (κ : HeadSkeletons) (Γ : List Skeleton) (n : ℕ) (S : Spine) (t u : Skeleton) → n ≤ argument_count S → SpineSkeleton κ Γ S t u → SpineSkeleton κ Γ (drop_arguments n S) (behind_arguments n t) u
drop_skeleton κ Γ zero S t u l s = s
drop_skeleton κ Γ (suc n) nil t u l s = absurd (omega (arith, l))
drop_skeleton κ Γ (suc n) (app M S) (arrow a b) u l (m, s) = drop_skeleton κ Γ n S b u (omega (arith, l)) s
drop_skeleton κ Γ (suc n) (app M S) (base c) u l s = absurd s

-- A constant is read as itself, with its skeleton; or, on own terms, as a variable that has what is left behind them.
abbrev pub ReadsSkeleton : HeadSkeletons → List Skeleton → Option (ℕ × ℕ) → Option Spine → ℕ → Skeleton → Type 0
ReadsSkeleton κ Θ None u c t = κ.constant_skeleton c ≡ Some t
ReadsSkeleton κ Θ (Some (n, v)) None c t = ⊥
ReadsSkeleton κ Θ (Some (n, v)) (Some U) c t = (argument_count U ≡ n) × SkeletonAt Θ v (behind_arguments n t)

pub skeleton_under : (κ : HeadSkeletons) (Θ : List Skeleton) (a : Skeleton) (x : Option (ℕ × ℕ)) (u : Option Spine) (c : ℕ) (t : Skeleton) → ReadsSkeleton κ Θ x u c t → ReadsSkeleton κ (a ∷ Θ) (weaken_read x) (weaken_own u) c t
skeleton_under κ Θ a None None c t h = h
skeleton_under κ Θ a None (Some U) c t h = h
skeleton_under κ Θ a (Some (n, v)) None c t h = absurd h
skeleton_under κ Θ a (Some (n, v)) (Some U) c t (e, g) = (count_renamed suc U ∙ e, g)

module _ (κ κ' : HeadSkeletons) (no : (m : ℕ) (t : Skeleton) → κ.metavariable_skeleton m ≡ Some t → ⊥) where
  abbrev pub Reads : List Skeleton → (ℕ → Option (ℕ × ℕ)) → (ℕ → Option Spine) → Type 0
  Reads Θ f o = (c : ℕ) (t : Skeleton) → κ.constant_skeleton c ≡ Some t → ReadsSkeleton κ' Θ (f c) (o c) c t

  abbrev pub Inside : List Skeleton → List Skeleton → Type 0
  Inside Γ Θ = (i : ℕ) (t : Skeleton) → SkeletonAt Γ i t → SkeletonAt Θ i t

  inside_under : (Γ Θ : List Skeleton) (a : Skeleton) → Inside Γ Θ → Inside (a ∷ Γ) (a ∷ Θ)
  inside_under Γ Θ a h zero t e = e
  inside_under Γ Θ a h (suc i) t e = h i t e

  read_head : (Θ : List Skeleton) (x : Option (ℕ × ℕ)) (u : Option Spine) (f : ℕ → Option (ℕ × ℕ)) (c : ℕ) (t : Skeleton) (d : ℕ) (S : Spine) → ReadsSkeleton κ' Θ x u c t → BeginsWith u S → SpineSkeleton κ' Θ (read_spine f S) t (base d) → TermSkeleton κ' Θ (read_constant x c (read_spine f S)) (base d)
  read_head Θ None u f c t d S h b s = (t, h, s)
  read_head Θ (Some (n, v)) None f c t d S h b s = absurd h
  read_head Θ (Some (n, v)) (Some U) f c t d S (e, g) (T, q) s = (behind_arguments n t, g, drop_skeleton κ' Θ n (read_spine f S) t (base d) (let l = count_append U T in let r = ap argument_count q in let m = count_read f S in omega arith) s)

  mutual
    pub read_has_skeleton : (Γ Θ : List Skeleton) (f : ℕ → Option (ℕ × ℕ)) (o : ℕ → Option Spine) (M : Term) (t : Skeleton) → Inside Γ Θ → Reads Θ f o → TermSkeleton κ Γ M t → OnOwnTerms o M → TermSkeleton κ' Θ (read f M) t
    read_has_skeleton Γ Θ f o (lambda M) (arrow a b) i h m own = read_has_skeleton (a ∷ Γ) (a ∷ Θ) (under_read f) (λ c. weaken_own (o c)) M b (inside_under Γ Θ a i) (λ c t e. skeleton_under κ' Θ a (f c) (o c) c t (h c t e)) m own
    read_has_skeleton Γ Θ f o (lambda M) (base d) i h m own = absurd m
    read_has_skeleton Γ Θ f o (root k S) (arrow a b) i h m own = absurd m
    read_has_skeleton Γ Θ f o (root (constant c) S) (base d) i h (t, g, s) (b, own) = read_head Θ (f c) (o c) f c t d S (h c t g) b (read_spine_has_skeleton Γ Θ f o S t (base d) i h s own)
    read_has_skeleton Γ Θ f o (root (variable j) S) (base d) i h (t, g, s) own = (t, i j t g, read_spine_has_skeleton Γ Θ f o S t (base d) i h s own)
    read_has_skeleton Γ Θ f o (root (metavariable m) S) (base d) i h (t, g, s) own = absurd (no m t g)

    pub read_spine_has_skeleton : (Γ Θ : List Skeleton) (f : ℕ → Option (ℕ × ℕ)) (o : ℕ → Option Spine) (S : Spine) (t u : Skeleton) → Inside Γ Θ → Reads Θ f o → SpineSkeleton κ Γ S t u → SpineOnOwnTerms o S → SpineSkeleton κ' Θ (read_spine f S) t u
    read_spine_has_skeleton Γ Θ f o nil t u i h s own = s
    read_spine_has_skeleton Γ Θ f o (app M S) (arrow a b) u i h (m, s) (p, own) = (read_has_skeleton Γ Θ f o M a i h m p, read_spine_has_skeleton Γ Θ f o S b u i h s own)
    read_spine_has_skeleton Γ Θ f o (app M S) (base d) u i h s own = absurd s

  pub read_type_has_skeletons : (φ φ' : ℕ → Option Skeleton) (Γ Θ : List Skeleton) (f : ℕ → Option (ℕ × ℕ)) (o : ℕ → Option Spine) (A : LfType) → ((a : ℕ) (t : Skeleton) → φ a ≡ Some t → φ' a ≡ Some t) → Inside Γ Θ → Reads Θ f o → TypeBySkeletons φ κ Γ A → TypeOnOwnTerms o A → TypeBySkeletons φ' κ' Θ (read_type f A)
  read_type_has_skeletons φ φ' Γ Θ f o (pi A B) k i h (a, b) (p, q) = (read_type_has_skeletons φ φ' Γ Θ f o A k i h a p, subst (λ s. TypeBySkeletons φ' κ' (s ∷ Θ) (read_type (under_read f) B)) (sym (skeleton_read f A)) (read_type_has_skeletons φ φ' (skeleton A ∷ Γ) (skeleton A ∷ Θ) (under_read f) (λ c. weaken_own (o c)) B k (inside_under Γ Θ (skeleton A) i) (λ c t e. skeleton_under κ' Θ (skeleton A) (f c) (o c) c t (h c t e)) b q))
  read_type_has_skeletons φ φ' Γ Θ f o (atom a S) k i h (t, g, s) own = (t, k a t g, read_spine_has_skeleton Γ Θ f o S t (base a) i h s own)

-- what is left of the skeleton of a type that is closed over others
more_behind : (n : ℕ) (t a b : Skeleton) → behind_arguments n t ≡ arrow a b → behind_arguments (suc n) t ≡ b
more_behind zero (base c) a b e = absurd cc
more_behind zero (arrow c d) a b e = cc
more_behind (suc n) (base c) a b e = absurd cc
more_behind (suc n) (arrow c d) a b e = more_behind n d a b e

pub behind_pis : (O : List LfType) (T : LfType) → behind_arguments (length O) (skeleton (pi_over O T)) ≡ skeleton T
behind_pis [] T = refl
behind_pis (A ∷ O) T = more_behind (length O) (skeleton (pi_over O (pi A T))) (skeleton A) (skeleton T) (behind_pis O (pi A T))
