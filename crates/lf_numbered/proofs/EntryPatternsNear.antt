-- Variables that are among the newest, and those behind them; entries before another are constants.
use Rattle.std.proofs.Common.{◌≡◌, ℕ, zero, suc, ◌+◌, ◌<◌, List, [], ◌∷◌, length, refl, sym, ap, ◌∙◌, subst, arith, inl, inr, true≢false}
use Rattle.std.specs.Prelude.{true, false, ◌⊎◌}
use Rattle.lf.specs.Syntax.{constant, Spine, LfType, Skeleton, skeleton, pi, atom}
use Rattle.lf.specs.Substitution.{Image, put, reduce}
use Rattle.lf.specs.Entries.{quantifiers}
use Rattle.lf.specs.Eta.{eta_expand}
use Rattle.lf.specs.SkeletonTyping.{SkeletonAt}
use Rattle.lf.specs.Skeletons.{context_skeletons}
use Rattle.lf.specs.Variables.{binders, onto, everything}
use Rattle.lf.specs.Worlds.{lift_over, instance}
use Rattle.lf.proofs.TypeLaws.{skeleton_substituted}
use Rattle.lf_checks.specs.Clause.{among, outside}
use Rattle.lf_cases.specs.Cover.{before}
use Rattle.lf_totality.proofs.Core.{out_index, outside_at}
use Rattle.lf_coverage.specs.TermMatching.{bound}
use Rattle.lf_coverage.proofs.ClauseValues.{out_sum}
use Rattle.lf_coverage.proofs.Forms.{binders_length}
use Rattle.lf_numbered.specs.EntryConstants.{entry_images}
use Rattle.lf_totality.proofs.Theorem.{outside_from}
use Rattle.lf_coverage.proofs.Choices.{decided}
use Rattle.lf_coverage.proofs.NearOrFar.{near_or_far}

pub bound_near : (n i : ℕ) → i < n → bound n i ≡ true
bound_near zero i l = absurd (omega (arith, l))
bound_near (suc n) zero l = refl
bound_near (suc n) (suc i) l = bound_near n i (omega (arith, l))

pub bound_far : (n i : ℕ) → bound n (i + n) ≡ false
bound_far zero i = refl
bound_far (suc n) i = ap (bound (suc n)) (next i n) ∙ bound_far n i
  where
    next : (i n : ℕ) → i + suc n ≡ suc (i + n)
    next i n = omega arith

pub binders_count : (T : LfType) → length (binders [] T) ≡ quantifiers T
binders_count (pi A B) = let l = binders_length B (A ∷ []) in let k = binders_count B in omega (arith, l, k)
binders_count (atom a S) = refl

pub out_far : (T : LfType) (l : ℕ) → out_index T l ≡ l + length (binders [] T)
out_far T l = out_sum T l ∙ ap (λ n. l + n) (sym (binders_count T))

-- skeletons of a local context with values put in
pub to_instance : (D G X : List LfType) (φ : ℕ → Image) (i : ℕ) (t : Skeleton) → i < length D → SkeletonAt (context_skeletons (onto D G)) i t → SkeletonAt (context_skeletons (onto (instance D φ) X)) i t
to_instance [] G X φ i t l g = absurd (omega (arith, l))
to_instance (A ∷ D) G X φ zero t l g = skeleton_substituted reduce (lift_over D φ) A ∙ g
to_instance (A ∷ D) G X φ (suc i) t l g = to_instance D G X φ i t (omega (arith, l)) g

pub from_instance : (D G X : List LfType) (φ : ℕ → Image) (i : ℕ) (t : Skeleton) → i < length D → SkeletonAt (context_skeletons (onto (instance D φ) X)) i t → SkeletonAt (context_skeletons (onto D G)) i t
from_instance [] G X φ i t l g = absurd (omega (arith, l))
from_instance (A ∷ D) G X φ zero t l g = sym (skeleton_substituted reduce (lift_over D φ) A) ∙ g
from_instance (A ∷ D) G X φ (suc i) t l g = from_instance D G X φ i t (omega (arith, l)) g

pub behind_skeleton : (D X : List LfType) (i : ℕ) (t : Skeleton) → SkeletonAt (context_skeletons (onto D X)) (i + length D) t → SkeletonAt (context_skeletons X) i t
behind_skeleton [] X i t g = subst (λ j. SkeletonAt (context_skeletons X) j t) (none i) g
  where
    none : (i : ℕ) → i + 0 ≡ i
    none i = omega arith
behind_skeleton (A ∷ D) X i t g = behind_skeleton D X i t (subst (λ j. SkeletonAt (context_skeletons (onto (A ∷ D) X)) j t) (next i (length D)) g)
  where
    next : (i n : ℕ) → i + suc n ≡ suc (i + n)
    next i n = omega arith

-- an entry before another is a constant, eta-long
abbrev pub AConstant : Image → Type 0
AConstant y = (a : Skeleton) × (d : ℕ) × (U : Spine) × (y ≡ put a (eta_expand a (constant d) U))

pub entry_constant_is : (m : ℕ) (U : Spine) (es : List LfType) (η : ℕ → Image) (j : ℕ) → among es j ≡ true → AConstant (entry_images m U es η j)
entry_constant_is m U [] η j e = absurd cc
entry_constant_is m U (E ∷ es) η zero e = (skeleton E, m + length es, U, refl)
entry_constant_is m U (E ∷ es) η (suc j) e = entry_constant_is m U es η j e

pub before_images : (m : ℕ) (U : Spine) (later : List LfType) (E : LfType) (es : List LfType) (η : ℕ → Image) (j : ℕ) → before later (entry_images m U (onto later (E ∷ es)) η) j ≡ entry_images m U es η j
before_images m U [] E es η j = refl
before_images m U (D ∷ ds) E es η j = before_images m U ds E es η j

-- A clause's own variables are the newest.
pub own_near : (T : LfType) (i : ℕ) → outside T everything i ≡ false → i < length (binders [] T)
own_near T i o = by (near_or_far (length (binders [] T)) i)
  where
    by : (i < length (binders [] T)) ⊎ ((l : ℕ) × (i ≡ l + length (binders [] T))) → i < length (binders [] T)
    by (inl n) = n
    by (inr (l, e)) = absurd (true≢false (sym (outside_at T everything l) ∙ ap (outside T everything) (out_far T l ∙ sym e) ∙ o))

pub near_own : (T : LfType) (i : ℕ) → i < length (binders [] T) → outside T everything i ≡ false
near_own T i n = decided (outside T everything i) (λ o. let (l, e, z) = outside_from T everything i o in absurd (never l (e ∙ out_far T l))) (λ o. o)
  where
    never : (l : ℕ) → i ≡ l + length (binders [] T) → ⊥
    never l e = omega (arith, e, n)
