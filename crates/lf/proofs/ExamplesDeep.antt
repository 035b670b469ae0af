-- Terms above a limit of depth in derivations of hereditary substitution.
use Rattle.std.proofs.Common.{◌≡◌, ℕ, zero, suc, ◌<◌, ◌≤◌, ◌⊎◌, [], ◌∷◌, refl, sym, ap, ◌∙◌, subst, inl, inr, arith}
use Rattle.lf.specs.Syntax.{rename, Term, variable, lambda, root, Skeleton, base, arrow}
use Rattle.lf.specs.Substitution.{Image, keep, put, rename_image, lift, single, substitute, reduce}
use Rattle.lf.specs.SkeletonTyping.{HeadSkeletons, TermSkeleton}
use Rattle.lf.specs.AtOnce.{images_then_shift}
use Rattle.lf.specs.Depth.{depth}
use Rattle.lf.specs.Rules.{Substitutes, Reduces, inside_lambda, at_constant, at_keep, at_put, none, more, stop, beta}
use Rattle.lf.specs.Deep.{PutsDeep, HasDeep, ReductionHasDeep, DeepReduction}
use Rattle.lf.specs.Skeletons.{constant_skeletons}
use Rattle.lf.proofs.Depth.{renaming_keeps_depth}
use Rattle.lf.proofs.Deep.{deep_in_beta, deep_result}
use Rattle.lf.proofs.SkeletonTyping.{single_by_skeletons}
use Rattle.lf.proofs.ExampleSignature.{Σ₀, v, z, s, one_argument, two_arguments}

abbrev n : Skeleton
n = base 0

-- [f] [g] g (f (f z)), applied to [x] s (s x) and [y] z, is z; on the way stands [g] g (s (s (s (s z)))), of depth 7
abbrev twice : Term
twice = lambda (root (variable 0) (one_argument (root (variable 1) (one_argument (root (variable 1) (one_argument z))))))

pub result_is_low : reduce (arrow (arrow n n) (arrow (arrow n n) n)) (lambda twice) (two_arguments (lambda (s (s (v 0)))) (lambda z)) ≡ z
result_is_low = refl

abbrev κ₀ : HeadSkeletons
κ₀ = constant_skeletons Σ₀

two_more : TermSkeleton κ₀ [] (lambda (s (s (v 0)))) (arrow n n)
two_more = (_, refl, ((_, refl, ((_, refl, refl), refl)), refl))

twice_typed : TermSkeleton κ₀ (arrow n n ∷ []) twice (arrow (arrow n n) n)
twice_typed = (_, refl, ((_, refl, ((_, refl, ((_, refl, refl), refl)), refl)), refl))

low_typed : TermSkeleton κ₀ [] (lambda z) (arrow n n)
low_typed = (_, refl, refl)

pub deep_on_the_way : DeepReduction 6 (arrow (arrow n n) (arrow (arrow n n) n)) (lambda twice) (two_arguments (lambda (s (s (v 0)))) (lambda z))
deep_on_the_way =
    deep_in_beta κ₀ 6 [] (arrow n n) (arrow (arrow n n) n) twice (lambda (s (s (v 0)))) (one_argument (lambda z)) 0 twice_typed (two_more, (low_typed, refl))
    (deep_result κ₀ 6 (arrow n n ∷ []) [] (single (arrow n n) (lambda (s (s (v 0))))) (single_by_skeletons κ₀ (arrow n n) [] (lambda (s (s (v 0)))) two_more) twice (arrow (arrow n n) n) twice_typed (omega arith))

-- A term that only stands in the substitution of all arguments at once is none of the derivation: [x] [y] x (s y), applied to
-- [u] z and a term of depth 6, is z. With both put in at once the argument of x has depth 7, yet the rules put y in when x is gone.
abbrev six : Term
six = s (s (s (s (s z))))

abbrev first_gone : Substitutes (single (arrow n n) (lambda z)) (lambda (root (variable 1) (one_argument (s (v 0))))) (lambda z)
first_gone = inside_lambda (at_put refl (more (at_constant (more (at_keep refl none) none)) none) (beta (at_constant none) stop))

abbrev both_gone : Reduces (arrow (arrow n n) (arrow n n)) (lambda (lambda (root (variable 1) (one_argument (s (v 0)))))) (two_arguments (lambda z) six) z
both_gone = beta first_gone (beta (at_constant none) stop)

low : (m : ℕ) → m ≤ 6 → 6 < m → ⊥
low m l h = absurd (omega arith)

or : {A B : Type 0} → (A → ⊥) → (B → ⊥) → A ⊎ B → ⊥
or f g (inl a) = f a
or f g (inr b) = g b

single_low : (a : Skeleton) (N : Term) → depth N ≤ 6 → PutsDeep 6 (single a N) → ⊥
single_low a N l (zero, b, P, e, h) = let f : N ≡ P = cc in low (depth P) (subst (λ X. depth X ≤ 6) f l) h
single_low a N l (suc i, b, P, e, h) = absurd (cc)

lifted_low : (σ : ℕ → Image) → (PutsDeep 6 σ → ⊥) → PutsDeep 6 (lift σ) → ⊥
lifted_low σ k (zero, b, P, e, h) = absurd (cc)
lifted_low σ k (suc i, b, P, e, h) = from (σ i) refl e
  where
    from : (x : Image) → σ i ≡ x → rename_image suc x ≡ put b P → ⊥
    from (keep j) q f = absurd (cc)
    from (put a N) q f = let g : rename suc N ≡ P = cc in k (i, a, N, q, subst (λ m. 6 < m) (ap depth (sym g) ∙ renaming_keeps_depth suc N) h)

pub deep_only_at_once : (6 < depth (substitute reduce (images_then_shift (put n six ∷ put (arrow n n) (lambda z) ∷ []) 0) (s (v 0)))) × (ReductionHasDeep 6 both_gone → ⊥)
deep_only_at_once = (omega arith, or (low 5 (omega arith)) (or (low 2 (omega arith)) (or (low 1 (omega arith)) (or in_first in_second))))
  where
    puts : PutsDeep 6 (single (arrow n n) (lambda z)) → ⊥
    puts = single_low (arrow n n) (lambda z) (omega arith)

    lifted : PutsDeep 6 (lift (single (arrow n n) (lambda z))) → ⊥
    lifted = lifted_low (single (arrow n n) (lambda z)) puts

    put_variable : PutsDeep 6 (single n (s (v 0))) → ⊥
    put_variable = single_low n (s (v 0)) (omega arith)

    in_first : HasDeep 6 first_gone → ⊥
    in_first =
        or (low 4 (omega arith)) (or (low 2 (omega arith)) (or puts
        (or (low 3 (omega arith)) (or (low 1 (omega arith)) (or lifted (or
        (or (or (low 2 (omega arith)) (or (low 2 (omega arith)) (or lifted (or (or (low 1 (omega arith)) (or (low 1 (omega arith)) (or lifted (λ h. h)))) (λ h. h))))) (λ h. h))
        (or (low 2 (omega arith)) (or (low 2 (omega arith)) (or (low 1 (omega arith)) (or (or (low 1 (omega arith)) (or (low 1 (omega arith)) (or put_variable (λ h. h)))) (low 1 (omega arith))))))))))))

    in_second : ReductionHasDeep 6 (beta {a = n} {b = n} {N = six} (at_constant {c = 3} none) stop) → ⊥
    in_second = or (low 2 (omega arith)) (or (low 6 (omega arith)) (or (low 1 (omega arith)) (or (or (low 1 (omega arith)) (or (low 1 (omega arith)) (or (single_low n six (omega arith)) (λ h. h)))) (low 1 (omega arith)))))
