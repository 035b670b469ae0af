-- What an environment has for a variable is what its substitution gives, and fits where the environment does.
use Rattle.std.proofs.Common.{◌≡◌, ℕ, zero, suc, ◌+◌, ◌-◌, ◌<◌, ◌≤◌, List, [], ◌∷◌, drop, refl, sym, ap, ◌∙◌, subst, arith, add-one}
use mathlib.Core.Path.{fun_ext}
use Rattle.lf.specs.Syntax.{Term, Skeleton, rename}
use Rattle.lf.specs.Substitution.{Image, keep, put, rename_image, lift, substitute, reduce}
use Rattle.lf.specs.AtOnce.{shift_by, in_front, lift_by}
use Rattle.lf.specs.SkeletonTyping.{HeadSkeletons, SkeletonAt, TermSkeleton, ImageSkeleton, SubstitutionBySkeletons, RenamingBySkeletons}
use Rattle.lf.proofs.Renaming.{renamings_compose}
use Rattle.lf.proofs.SkeletonTyping.{renaming_keeps_skeletons, lift_by_skeletons, substitution_keeps_skeletons}
use Rattle.lf.proofs.AtOnce.{shift_zero, shifts_add, drop_by_skeletons}
use Rattle.lf_closures.specs.Environments.{Environment, outside, under, moved, extended, substitution_in, under_one_more, move_by, Found, stays, closure, found_under, stays_or, found, image_of_found, value_in}
use Rattle.lf_closures.specs.Typing.{SameNewest, EnvironmentFits, FoundFits}

suc_is_shift : (i : ℕ) → suc i ≡ shift_by 1 i
suc_is_shift i = omega arith

by_one : (x : Image) → rename_image suc x ≡ rename_image (shift_by 1) x
by_one x = ap (λ ρ. rename_image ρ x) (fun_ext suc_is_shift)

pub image_of_found_under : (n : ℕ) (x : Found) → rename_image (shift_by n) (image_of_found x) ≡ image_of_found (found_under n x)
image_of_found_under n (stays i) = refl
image_of_found_under n (closure a N c m) = ap (put a) (shifts_add n m (substitute reduce (substitution_in c) N))

image_of_stays_or : (n : ℕ) (f : ℕ → Found) (σ : ℕ → Image) (i : ℕ) → ((j : ℕ) → σ j ≡ image_of_found (f j)) → lift_by n σ i ≡ image_of_found (stays_or n f i)
image_of_stays_or zero f σ i h = h i
image_of_stays_or (suc n) f σ zero h = refl
image_of_stays_or (suc n) f σ (suc i) h = ap (rename_image suc) (image_of_stays_or n f σ i h) ∙ by_one (image_of_found (stays_or n f i)) ∙ image_of_found_under 1 (stays_or n f i)

-- THE law of looking up
pub image_found : (e : Environment) (i : ℕ) → substitution_in e i ≡ image_of_found (found e i)
image_found outside i = refl
image_found (under n e) i = image_of_stays_or n (found e) (substitution_in e) i (image_found e)
image_found (moved n e) i = ap (rename_image (shift_by n)) (image_found e i) ∙ image_of_found_under n (found e i)
image_found (extended a N c e) zero = ap (put a) (sym (shift_zero (value_in c N)))
image_found (extended a N c e) (suc i) = image_found e i

-- looking up, case by case
pub stays_or_newest : (n i : ℕ) (f : ℕ → Found) → i < n → stays_or n f i ≡ stays i
stays_or_newest zero i f h = absurd (omega arith)
stays_or_newest (suc n) zero f h = refl
stays_or_newest (suc n) (suc i) f h = let k : i < n = omega arith in let e : i + 1 ≡ suc i = omega arith in ap (found_under 1) (stays_or_newest n i f k) ∙ ap stays e

found_under_zero : (x : Found) → x ≡ found_under 0 x
found_under_zero (stays i) = let e : i ≡ i + 0 = omega arith in ap stays e
found_under_zero (closure a N c m) = let e : m ≡ m + 0 = omega arith in ap (closure a N c) e

pub found_under_twice : (m n : ℕ) (x : Found) → found_under n (found_under m x) ≡ found_under (m + n) x
found_under_twice m n (stays i) = let e : i + m + n ≡ i + (m + n) = omega arith in ap stays e
found_under_twice m n (closure a N c k) = let e : k + m + n ≡ k + (m + n) = omega arith in ap (closure a N c) e

pub stays_or_other : (n i : ℕ) (f : ℕ → Found) → stays_or n f (i + n) ≡ found_under n (f i)
stays_or_other zero i f = let e : i + 0 ≡ i = omega arith in ap f e ∙ found_under_zero (f i)
stays_or_other (suc n) i f =
    let e : i + suc n ≡ suc (i + n) = omega arith in
    let k : n + 1 ≡ suc n = omega arith in
    ap (stays_or (suc n) f) e ∙ ap (found_under 1) (stays_or_other n i f) ∙ found_under_twice n 1 (f i) ∙ ap (λ m. found_under m (f i)) k

-- What the two builders stand for.
one_more : (n : ℕ) (σ : ℕ → Image) → lift_by (n + 1) σ ≡ lift (lift_by n σ)
one_more n σ = ap (λ k. lift_by k σ) (add-one n)

pub under_one_more_lifts : (e : Environment) → substitution_in (under_one_more e) ≡ lift (substitution_in e)
under_one_more_lifts outside = refl
under_one_more_lifts (under n e) = one_more n (substitution_in e)
under_one_more_lifts (moved n e) = refl
under_one_more_lifts (extended a N c e) = refl

rename_image_zero : (x : Image) → x ≡ rename_image (shift_by 0) x
rename_image_zero (keep i) = let e : i ≡ shift_by 0 i = omega arith in ap keep e
rename_image_zero (put a N) = ap (put a) (sym (shift_zero N))

rename_image_twice : (m n : ℕ) (x : Image) → rename_image (shift_by (m + n)) x ≡ rename_image (shift_by n) (rename_image (shift_by m) x)
rename_image_twice m n (keep i) = let e : i + (m + n) ≡ i + m + n = omega arith in ap keep e
rename_image_twice m n (put a N) = ap (put a) (sym (shifts_add n m N))

pub move_by_moves : (n : ℕ) (e : Environment) → substitution_in (move_by n e) ≡ substitution_in (moved n e)
move_by_moves zero e = fun_ext (λ i. rename_image_zero (substitution_in e i))
move_by_moves (suc n) outside = refl
move_by_moves (suc n) (under m e) = refl
move_by_moves (suc n) (moved m e) = fun_ext (λ i. rename_image_twice m (suc n) (substitution_in e i))
move_by_moves (suc n) (extended a N c e) = refl

-- Contexts.
pub compose_renamings : (Γ Ξ Δ : List Skeleton) (m n : ℕ) → RenamingBySkeletons Γ Ξ (shift_by m) → RenamingBySkeletons Ξ Δ (shift_by n) → RenamingBySkeletons Γ Δ (shift_by (m + n))
compose_renamings Γ Ξ Δ m n g h i t k = let e : i + m + n ≡ i + (m + n) = omega arith in subst (λ j. SkeletonAt Δ j t) e (h (i + m) t (g i t k))

pub drop_reflects : (n : ℕ) (Δ : List Skeleton) (i : ℕ) (t : Skeleton) → SkeletonAt Δ (shift_by n i) t → SkeletonAt (drop n Δ) i t
drop_reflects zero Δ i t g = let e : i + 0 ≡ i = omega arith in subst (λ j. SkeletonAt Δ j t) e g
drop_reflects (suc n) [] i t g = absurd g
drop_reflects (suc n) (a ∷ Δ) i t g = let e : i + suc n ≡ suc (i + n) = omega arith in drop_reflects n Δ i t (subst (λ j. SkeletonAt (a ∷ Δ) j t) e g)

no_shift : (Δ Ξ : List Skeleton) → RenamingBySkeletons Δ Ξ (shift_by 0) → RenamingBySkeletons Δ Ξ (λ i. i)
no_shift Δ Ξ h i t g = let e : i + 0 ≡ i = omega arith in subst (λ j. SkeletonAt Ξ j t) e (h i t g)

drop_keeps : (n : ℕ) (Δ Ξ : List Skeleton) → RenamingBySkeletons Δ Ξ (λ i. i) → RenamingBySkeletons (drop n Δ) (drop n Ξ) (λ i. i)
drop_keeps n Δ Ξ h i t g = drop_reflects n Ξ i t (h (shift_by n i) t (drop_by_skeletons n Δ i t g))

module _ (κ : HeadSkeletons) where
  -- a larger target does
  pub fits_wider : (e : Environment) (Γ Δ Ξ : List Skeleton) → RenamingBySkeletons Δ Ξ (λ i. i) → EnvironmentFits κ e Γ Δ → EnvironmentFits κ e Γ Ξ
  fits_wider outside Γ Δ Ξ h f = λ i t g. h i t (f i t g)
  fits_wider (under n e) Γ Δ Ξ h (s, f) = ((λ i t l g. h i t (s i t l g)), fits_wider e (drop n Γ) (drop n Δ) (drop n Ξ) (drop_keeps n Δ Ξ h) f)
  fits_wider (moved n e) Γ Δ Ξ h (Θ, r, f) = (Θ, (λ i t g. h (shift_by n i) t (r i t g)), f)
  fits_wider (extended a N c e) [] Δ Ξ h f = f
  fits_wider (extended a N c e) (b ∷ Γ) Δ Ξ h (q, (Θ, g, m), f) = (q, (Θ, fits_wider c Θ Δ Ξ h g, m), fits_wider e Γ Δ Ξ h f)

  pub move_by_fits : (n : ℕ) (e : Environment) (Γ Ξ Δ : List Skeleton) → RenamingBySkeletons Ξ Δ (shift_by n) → EnvironmentFits κ e Γ Ξ → EnvironmentFits κ (move_by n e) Γ Δ
  move_by_fits zero e Γ Ξ Δ r f = fits_wider e Γ Ξ Δ (no_shift Ξ Δ r) f
  move_by_fits (suc n) outside Γ Ξ Δ r f = (Ξ, r, f)
  move_by_fits (suc n) (under m e) Γ Ξ Δ r f = (Ξ, r, f)
  move_by_fits (suc n) (moved m e) Γ Ξ Δ r (Θ, s, f) = (Θ, compose_renamings Θ Ξ Δ m (suc n) s r, f)
  move_by_fits (suc n) (extended a N c e) Γ Ξ Δ r f = (Ξ, r, f)

  under_more : (n : ℕ) (e : Environment) (a : Skeleton) (Γ Δ : List Skeleton) → EnvironmentFits κ (under n e) Γ Δ → EnvironmentFits κ (under (suc n) e) (a ∷ Γ) (a ∷ Δ)
  under_more n e a Γ Δ (s, f) = (newest, f)
    where
      newest : SameNewest (suc n) (a ∷ Γ) (a ∷ Δ)
      newest zero t l g = g
      newest (suc i) t l g = s i t (omega arith) g

  under_none : (e : Environment) (Γ Δ : List Skeleton) → EnvironmentFits κ e Γ Δ → EnvironmentFits κ (under 0 e) Γ Δ
  under_none e Γ Δ f = ((λ i t l g. absurd (omega arith)), f)

  pub under_one_more_fits : (e : Environment) (a : Skeleton) (Γ Δ : List Skeleton) → EnvironmentFits κ e Γ Δ → EnvironmentFits κ (under_one_more e) (a ∷ Γ) (a ∷ Δ)
  under_one_more_fits outside a Γ Δ f = under_more 0 outside a Γ Δ (under_none outside Γ Δ f)
  under_one_more_fits (under n e) a Γ Δ f = subst (λ k. EnvironmentFits κ (under k e) (a ∷ Γ) (a ∷ Δ)) (sym (add-one n)) (under_more n e a Γ Δ f)
  under_one_more_fits (moved n e) a Γ Δ f = under_more 0 (moved n e) a Γ Δ (under_none (moved n e) Γ Δ f)
  under_one_more_fits (extended b N c e) a Γ Δ f = under_more 0 (extended b N c e) a Γ Δ (under_none (extended b N c e) Γ Δ f)

  -- What is found fits.
  found_under_fits : (n : ℕ) (x : Found) (Ξ Δ : List Skeleton) (t : Skeleton) → RenamingBySkeletons Ξ Δ (shift_by n) → FoundFits κ x Ξ t → FoundFits κ (found_under n x) Δ t
  found_under_fits n (stays i) Ξ Δ t r g = r i t g
  found_under_fits n (closure a N c m) Ξ Δ t r (q, (Θ, s, g)) = (q, (Θ, compose_renamings Θ Ξ Δ m n s r, g))

  stays_or_fits : (n : ℕ) (f : ℕ → Found) (Γ Δ : List Skeleton) (i : ℕ) (t : Skeleton) → SameNewest n Γ Δ → ((j : ℕ) (u : Skeleton) → SkeletonAt (drop n Γ) j u → FoundFits κ (f j) (drop n Δ) u) → SkeletonAt Γ i t → FoundFits κ (stays_or n f i) Δ t
  stays_or_fits zero f Γ Δ i t s h g = h i t g
  stays_or_fits (suc n) f [] Δ i t s h g = absurd g
  stays_or_fits (suc n) f (a ∷ Γ) Δ zero t s h g = s 0 t (omega arith) g
  stays_or_fits (suc n) f (a ∷ Γ) [] (suc i) t s h g = absurd (s 0 a (omega arith) refl)
  stays_or_fits (suc n) f (a ∷ Γ) (b ∷ Δ) (suc i) t s h g = found_under_fits 1 (stays_or n f i) Δ (b ∷ Δ) t (drop_by_skeletons 1 (b ∷ Δ)) (stays_or_fits n f Γ Δ i t (λ j u l. s (suc j) u (omega arith)) h g)

  pub found_fits : (e : Environment) (Γ Δ : List Skeleton) (i : ℕ) (t : Skeleton) → EnvironmentFits κ e Γ Δ → SkeletonAt Γ i t → FoundFits κ (found e i) Δ t
  found_fits outside Γ Δ i t f g = f i t g
  found_fits (under n e) Γ Δ i t (s, f) g = stays_or_fits n (found e) Γ Δ i t s (λ j u k. found_fits e (drop n Γ) (drop n Δ) j u f k) g
  found_fits (moved n e) Γ Δ i t (Ξ, r, f) g = found_under_fits n (found e i) Ξ Δ t r (found_fits e Γ Ξ i t f g)
  found_fits (extended a N c e) [] Δ i t f g = absurd g
  found_fits (extended a N c e) (b ∷ Γ) Δ zero t (q, (Θ, h, m), f) g = (q ∙ g, (Δ, (λ j u k. drop_by_skeletons 0 Δ j u k), (Θ, h, m)))
  found_fits (extended a N c e) (b ∷ Γ) Δ (suc i) t (q, k, f) g = found_fits e Γ Δ i t f g

  -- The substitution of an environment keeps skeletons.
  image_moved : (Ξ Δ : List Skeleton) (ρ : ℕ → ℕ) (x : Image) (t : Skeleton) → RenamingBySkeletons Ξ Δ ρ → ImageSkeleton κ Ξ x t → ImageSkeleton κ Δ (rename_image ρ x) t
  image_moved Ξ Δ ρ (keep i) t r g = r i t g
  image_moved Ξ Δ ρ (put a N) t r (q, m) = (q, renaming_keeps_skeletons κ Ξ Δ ρ N a r m)

  lifted_by_skeletons : (n : ℕ) (Γ Δ : List Skeleton) (σ : ℕ → Image) → SameNewest n Γ Δ → SubstitutionBySkeletons κ (drop n Γ) (drop n Δ) σ → SubstitutionBySkeletons κ Γ Δ (lift_by n σ)
  lifted_by_skeletons zero Γ Δ σ s w i t g = w i t g
  lifted_by_skeletons (suc n) [] Δ σ s w i t g = absurd g
  lifted_by_skeletons (suc n) (a ∷ Γ) Δ σ s w zero t g = s 0 t (omega arith) g
  lifted_by_skeletons (suc n) (a ∷ Γ) [] σ s w (suc i) t g = absurd (s 0 a (omega arith) refl)
  lifted_by_skeletons (suc n) (a ∷ Γ) (b ∷ Δ) σ s w (suc i) t g = image_moved Δ (b ∷ Δ) suc (lift_by n σ i) t (λ j u k. k) (lifted_by_skeletons n Γ Δ σ (λ j u l. s (suc j) u (omega arith)) w i t g)

  pub environment_by_skeletons : (e : Environment) (Γ Δ : List Skeleton) → EnvironmentFits κ e Γ Δ → SubstitutionBySkeletons κ Γ Δ (substitution_in e)
  environment_by_skeletons outside Γ Δ f i t g = f i t g
  environment_by_skeletons (under n e) Γ Δ (s, f) i t g = lifted_by_skeletons n Γ Δ (substitution_in e) s (environment_by_skeletons e (drop n Γ) (drop n Δ) f) i t g
  environment_by_skeletons (moved n e) Γ Δ (Ξ, r, f) i t g = image_moved Ξ Δ (shift_by n) (substitution_in e i) t r (environment_by_skeletons e Γ Ξ f i t g)
  environment_by_skeletons (extended a N c e) [] Δ f i t g = absurd g
  environment_by_skeletons (extended a N c e) (b ∷ Γ) Δ (q, (Θ, h, m), f) zero t g = (q ∙ g, substitution_keeps_skeletons κ Θ Δ (substitution_in c) N a (environment_by_skeletons c Θ Δ h) m)
  environment_by_skeletons (extended a N c e) (b ∷ Γ) Δ (q, k, f) (suc i) t g = environment_by_skeletons e Γ Δ f i t g

-- Steps of a lookup, where what is found is still to be moved over b binders.
pub newest_found : (b n i : ℕ) (e : Environment) → i < n → stays (i + b) ≡ found_under b (found (under n e) i)
newest_found b n i e h = ap (found_under b) (sym (stays_or_newest n i (found e) h))

pub found_past : (b n i : ℕ) (e : Environment) → n ≤ i → found_under (b + n) (found e (i - n)) ≡ found_under b (found (under n e) i)
found_past b n i e h =
    let k : b + n ≡ n + b = omega arith in
    let l : i - n + n ≡ i = omega arith in
    ap (λ m. found_under m (found e (i - n))) k ∙ sym (found_under_twice n b (found e (i - n))) ∙ ap (found_under b) (sym (stays_or_other n (i - n) (found e)) ∙ ap (stays_or n (found e)) l)

pub found_moved : (b n i : ℕ) (e : Environment) → found_under (b + n) (found e i) ≡ found_under b (found (moved n e) i)
found_moved b n i e = let k : b + n ≡ n + b = omega arith in ap (λ m. found_under m (found e i)) k ∙ sym (found_under_twice n b (found e i))

pub found_next : (b i : ℕ) (a : Skeleton) (N : Term) (c e : Environment) → 0 < i → found_under b (found e (i - 1)) ≡ found_under b (found (extended a N c e) i)
found_next b zero a N c e h = absurd (omega arith)
found_next b (suc i) a N c e h = let k : suc i - 1 ≡ i = omega arith in ap (λ j. found_under b (found e j)) k

pub found_newest : (b : ℕ) (a : Skeleton) (N : Term) (c e : Environment) → closure a N c b ≡ found_under b (found (extended a N c e) 0)
found_newest b a N c e = let k : b ≡ 0 + b = omega arith in ap (closure a N c) k

pub found_unmoved : (e : Environment) (i : ℕ) → found_under 0 (found e i) ≡ found e i
found_unmoved e i = sym (found_under_zero (found e i))

pub ruleset lookups = (newest_found, found_past, found_moved, found_next, found_newest, found_unmoved)
