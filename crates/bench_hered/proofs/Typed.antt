-- The terms are typed by skeletons.
use Rattle.std.proofs.Common.{◌≡◌, ℕ, zero, suc, List, [], ◌∷◌, refl, sym, ap, ◌∙◌, subst}
use Rattle.lf.specs.Syntax.{constant, variable, Term, lambda, root, nil, app, Skeleton, arrow}
use Rattle.lf.specs.Substitution.{single}
use Rattle.lf.specs.SkeletonTyping.{SkeletonAt, TermSkeleton, ImageSkeleton, SubstitutionBySkeletons}
use Rattle.tw_hered.specs.Fits.{put_at, TermFits}
use Rattle.bench_hered.specs.Trees.{heads, number}

abbrev pub IsTree : Term → Type 0
IsTree M = TermSkeleton heads (number ∷ []) M number

abbrev pub IsNested : Term → Type 0
IsNested M = TermSkeleton heads (arrow number number ∷ []) M number

abbrev pub IsFunction : Term → Type 0
IsFunction M = TermSkeleton heads [] M (arrow number number)

pub leaf_typed : (M : Term) → M ≡ root (variable 0) nil → IsTree M
leaf_typed M e = subst IsTree (sym e) (number, refl, refl)

pub pair_typed : (M R : Term) → R ≡ root (constant 2) (app M (app M nil)) → IsTree M → IsTree R
pair_typed M R e h = subst IsTree (sym e) (_, refl, (h, (h, refl)))

pub zero_typed : (M : Term) → M ≡ root (constant 0) nil → IsNested M
zero_typed M e = subst IsNested (sym e) (number, refl, refl)

pub applied_typed : (M R : Term) → R ≡ root (variable 0) (app M nil) → IsNested M → IsNested R
applied_typed M R e h = subst IsNested (sym e) (arrow number number, refl, (h, refl))

pub identity_typed : (R M : Term) → R ≡ lambda M → M ≡ root (variable 0) nil → IsFunction R
identity_typed R M e k = subst IsFunction (sym (e ∙ ap lambda k)) (number, refl, refl)

pub successor_typed : (R M : Term) → R ≡ lambda M → M ≡ root (constant 1) (app (root (variable 0) nil) nil) → IsFunction R
successor_typed R M e k = subst IsFunction (sym (e ∙ ap lambda k)) (arrow number number, refl, ((number, refl, refl), refl))

-- a closed term for the newest variable
alone : (b : Skeleton) (N : Term) → TermSkeleton heads [] N b → SubstitutionBySkeletons heads (b ∷ []) [] (single b N)
alone b N n zero t h = (h, n)
alone b N n (suc i) t h = absurd h

pub closed_fits : (N M : Term) (a b : Skeleton) → a ≡ b → TermSkeleton heads [] N b → TermSkeleton heads (b ∷ []) M number → TermFits (put_at 0 a N) M
closed_fits N M a b k n h = subst (λ (s : Skeleton). TermFits (put_at 0 s N) M) (sym k) (record {
  heads = heads;
  context = b ∷ [];
  target = [];
  term_skeleton = number;
  substitution_typed = alone b N n;
  term_typed = h;
})

pub put_in_fits : (N M : Term) (a : Skeleton) → N ≡ root (constant 0) nil → a ≡ number → IsTree M → TermFits (put_at 0 a N) M
put_in_fits N M a e k h = closed_fits N M a number k (subst (λ (x : Term). TermSkeleton heads [] x number) (sym e) (number, refl, refl)) h
