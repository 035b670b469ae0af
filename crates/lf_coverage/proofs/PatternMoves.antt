-- What a pattern makes of the variables under its lambdas.
use Rattle.std.proofs.Common.{◌≡◌, ℕ, zero, suc, List, [], ◌∷◌, length, refl, sym, ap, ◌∙◌}
use Rattle.lf.specs.Syntax.{LfType, Skeleton, base, arrow}
use Rattle.lf_unification.specs.Patterns.{Injective, PatternFits, beyond, context_under, local_skeletons, past, pattern_renaming}
use Rattle.lf_unification.specs.Putting.{binders}
use Rattle.lf_unification.specs.Rigid.{past_binders}
use Rattle.lf_unification.proofs.Patterns.{past_rename}
use Rattle.lf_unification.proofs.Prune.{SkeletonsBack}
use Rattle.lf_coverage.specs.TermMatching.{over}
use Rattle.lf_coverage.proofs.PatternTerms.{Moves}

-- what stands outside, seen from inside
pub over_suc : (n i : ℕ) → over n (suc i) ≡ suc (over n i)
over_suc zero i = refl
over_suc (suc n) i = ap suc (over_suc n i)

pub past_is : (k i : ℕ) → past_binders k i ≡ over k i
past_is zero i = refl
past_is (suc k) i = past_is k (suc i) ∙ over_suc k i

pub length_local : (D : List LfType) → length (local_skeletons D []) ≡ binders D
length_local [] = refl
length_local (A ∷ D) = ap suc (length_local D)

pub beyond_is : (D : List LfType) (i : ℕ) → beyond D i ≡ over (length (local_skeletons D [])) i
beyond_is [] i = refl
beyond_is (A ∷ D) i = ap suc (beyond_is D i)

pub past_over : (t : Skeleton) (Γ : List Skeleton) (i : ℕ) → past t (over (length Γ) i) ≡ over (length (context_under t Γ)) i
past_over (base c) Γ i = refl
past_over (arrow a b) Γ i = past_over b (a ∷ Γ) i

pub none_outside : (Γ : List Skeleton) → SkeletonsBack [] Γ (over (length Γ))
none_outside [] i t h = h
none_outside (a ∷ Γ) i t h = none_outside Γ i t h

-- what a pattern makes of the variables under the lambdas
pub pattern_moves : (Γ : List Skeleton) (t : Skeleton) (xs : List ℕ) → PatternFits Γ t xs → Injective (pattern_renaming t xs (over (length Γ))) → Moves (context_under t []) Γ (pattern_renaming t xs (over (length Γ)))
pattern_moves Γ t xs p d = record {
  distinct = d;
  outer = λ i. sym (past_rename Γ t xs (over (length Γ)) i p) ∙ ap (pattern_renaming t xs (over (length Γ))) (past_over t [] i);
}
