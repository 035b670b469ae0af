-- Types without indices let go each argument.
use Rattle.std.proofs.Common.{◌≡◌, ℕ, zero, suc, List, [], ◌∷◌, length, refl, sym, ap, ap₂, ◌∙◌, subst, arith}
use Rattle.std.specs.Prelude.{◌+◌, ◌<◌, Option, Some}
use Rattle.lf.specs.Eta.{arity}
use Rattle.lf.specs.SkeletonTyping.{SkeletonAt, RenamingBySkeletons}
use Rattle.lf.specs.Syntax.{nil, LfType, pi, atom, Skeleton, base, arrow, skeleton, lift_renaming, rename_spine, rename_type, weaken}
use Rattle.lf.specs.Typing.{TypeAt}
use Rattle.lf.specs.Variables.{binders, onto, target, target_arguments}
use Rattle.lf.proofs.TypeLaws.{renamings_compose_type}
use Rattle.lf_unification.specs.Inversion.{ElementAt}
use Rattle.lf_unification.specs.Offering.{pi_over}
use Rattle.lf_unification.specs.Patterns.{Injective, PatternFits, beyond, context_under, extend_renaming, local_skeletons, past, pattern_renaming}
use Rattle.lf_unification.specs.Pruning.{IsPartOf, PrunedType, kept_renaming}
use Rattle.lf_unification.proofs.Patterns.{past_rename}
use Rattle.lf_coverage.specs.TermMatching.{over}
use Rattle.lf_coverage.proofs.Forms.{as_pis}
use Rattle.lf_coverage.proofs.PatternEta.{countdown, counted, fits_eta, past_zero}
use Rattle.lf_coverage.proofs.PatternMoves.{beyond_is, past_over}
use Rattle.lf_coverage.proofs.PatternPruned.{over_under}
use Rattle.lf_coverage.proofs.PatternTerms.{fits_renamed, renamed_all, renaming_renamed}
use mathlib.Core.Path.{fun_ext}

-- no family of the type has indices
abbrev pub PlainType : LfType → Type 0
PlainType (pi A B) = PlainType A × PlainType B
PlainType (atom a S) = S ≡ nil

abbrev pub AllPlain : List LfType → Type 0
AllPlain [] = Unit {0}
AllPlain (A ∷ L) = PlainType A × AllPlain L

pub plain_renamed : (ρ : ℕ → ℕ) (A : LfType) → PlainType A → rename_type ρ A ≡ A
plain_renamed ρ (pi A B) (a, b) = ap₂ pi (plain_renamed ρ A a) (plain_renamed (lift_renaming ρ) B b)
plain_renamed ρ (atom a S) e = ap (λ T. atom a (rename_spine ρ T)) e ∙ sym (ap (atom a) e)

pub plain_kept : (ρ : ℕ → ℕ) (A : LfType) → PlainType A → PlainType (rename_type ρ A)
plain_kept ρ (pi A B) (a, b) = (plain_kept ρ A a, plain_kept (lift_renaming ρ) B b)
plain_kept ρ (atom a S) e = ap (rename_spine ρ) e

plain_binders : (L : List LfType) (A : LfType) → AllPlain L → PlainType A → AllPlain (binders L A)
plain_binders L (pi A B) l (a, b) = plain_binders (A ∷ L) B (a, l) b
plain_binders L (atom a S) l e = l

plain_target : (A : LfType) → PlainType A → target_arguments A ≡ nil
plain_target (pi A B) (a, b) = plain_target B b
plain_target (atom a S) e = e

-- the variables without i
abbrev pub skip : ℕ → ℕ → ℕ
skip zero j = suc j
skip (suc i) zero = zero
skip (suc i) (suc j) = suc (skip i j)

abbrev pub without : ℕ → List LfType → List LfType
without i [] = []
without zero (A ∷ L) = L
without (suc i) (A ∷ L) = A ∷ without i L

one_less : (j k : ℕ) → suc j ≡ suc k → j ≡ k
one_less j k e = omega (arith, e)

none_next : {A : Type 0} (k : ℕ) → zero ≡ suc k → A
none_next k e = absurd (no e)
  where
    no : zero ≡ suc k → ⊥
    no e = omega (arith, e)

skip_distinct : (i : ℕ) → Injective (skip i)
skip_distinct zero j k e = one_less j k e
skip_distinct (suc i) zero zero e = refl
skip_distinct (suc i) zero (suc k) e = none_next (skip i k) e
skip_distinct (suc i) (suc j) zero e = none_next (skip i j) (sym e)
skip_distinct (suc i) (suc j) (suc k) e = ap suc (skip_distinct i j k (one_less (skip i j) (skip i k) e))

skip_avoids : (i k : ℕ) → skip i k ≡ i → ⊥
skip_avoids zero k e = none_next k (sym e)
skip_avoids (suc i) zero e = none_next i e
skip_avoids (suc i) (suc k) e = skip_avoids i k (one_less (skip i k) i e)

unskip : (i j : ℕ) → (j ≡ i → ⊥) → (k : ℕ) × (skip i k ≡ j)
unskip zero zero h = absurd (h refl)
unskip zero (suc j) h = (j, refl)
unskip (suc i) zero h = (zero, refl)
unskip (suc i) (suc j) h = let (k, e) = unskip i j (λ q. h (ap suc q)) in (suc k, ap suc e)

less : (i n : ℕ) → suc i < suc n → i < n
less i n l = omega (arith, l)

never_less : {A : Type 0} (i : ℕ) → i < zero → A
never_less i l = absurd (no l)
  where
    no : i < zero → ⊥
    no l = omega (arith, l)

skip_beyond : (i : ℕ) (L : List LfType) → i < length L → (j : ℕ) → beyond L j ≡ skip i (beyond (without i L) j)
skip_beyond i [] l j = never_less i l
skip_beyond zero (A ∷ L) l j = refl
skip_beyond (suc i) (A ∷ L) l j = ap suc (skip_beyond i L (less i (length L) l) j)

skip_fits : (i : ℕ) (L : List LfType) (Γ : List Skeleton) → i < length L → RenamingBySkeletons (local_skeletons (without i L) Γ) (local_skeletons L Γ) (skip i)
skip_fits i [] Γ l j t g = never_less i l
skip_fits zero (A ∷ L) Γ l j t g = g
skip_fits (suc i) (A ∷ L) Γ l zero t g = g
skip_fits (suc i) (A ∷ L) Γ l (suc j) t g = skip_fits i L Γ (less i (length L) l) j t g

skip_types : (i : ℕ) (L : List LfType) → i < length L → AllPlain L → (j : ℕ) (Y : LfType) → TypeAt (onto (without i L) []) j Y → TypeAt (onto L []) (skip i j) (rename_type (skip i) Y)
skip_types i [] l p j Y g = never_less i l
skip_types zero (A ∷ L) l p j Y g = (Y, g, refl)
skip_types (suc i) (A ∷ L) l (a, p) zero Y e = ap (rename_type (skip (suc i))) e ∙ plain_renamed (skip (suc i)) (weaken A) (plain_kept suc A a)
skip_types (suc i) (A ∷ L) l (a, p) (suc j) Y (B, g, e) = (rename_type (skip i) B, skip_types i L (less i (length L) l) p j B g, ap (rename_type (skip (suc i))) e ∙ renamings_compose_type (skip (suc i)) suc B ∙ sym (renamings_compose_type suc (skip i) B))

past_is_beyond : (a : ℕ) (L : List LfType) (j : ℕ) → past (skeleton (pi_over L (atom a nil))) j ≡ beyond L j
past_is_beyond a L j = past_over (skeleton (pi_over L (atom a nil))) [] j ∙ ap (λ Γ. over (length Γ) j) (over_under L (atom a nil) []) ∙ sym (beyond_is L j)

module _ (Ψ : ℕ → Option LfType) (n : ℕ) (A : LfType) (e : Ψ n ≡ Some A) (p : PlainType A) (i : ℕ) (l : i < length (binders [] A)) where
  abbrev L : List LfType
  L = binders [] A

  abbrev X : LfType
  X = pi_over (binders [] A) (atom (target A) nil)

  abbrev X' : LfType
  X' = pi_over (without i (binders [] A)) (atom (target A) nil)

  abbrev kept : List ℕ
  kept = renamed_all (skip i) (countdown (skeleton (pi_over (without i (binders [] A)) (atom (target A) nil))))

  skips : (j : ℕ) → kept_renaming X X' kept j ≡ skip i j
  skips j = renaming_renamed (skip i) (skeleton X') (countdown (skeleton X')) (past (skeleton X')) (past (skeleton X)) (λ k. past_is_beyond (target A) L k ∙ skip_beyond i L l k ∙ ap (skip i) (sym (past_is_beyond (target A) (without i L) k))) j ∙ ap (skip i) (counted (skeleton X') j)

  fits : (Γ : List Skeleton) → RenamingBySkeletons (context_under (skeleton X') Γ) (context_under (skeleton X) Γ) (skip i)
  fits Γ j t g = subst (λ Δ. SkeletonAt Δ (skip i j) t) (sym (over_under L (atom (target A) nil) Γ)) (skip_fits i L Γ l j t (subst (λ Δ. SkeletonAt Δ j t) (over_under (without i L) (atom (target A) nil) Γ) g))

  is_part : IsPartOf (without i L) L (skip i)
  is_part = record { outer = λ j. sym (skip_beyond i L l j); types = skip_types i L l (plain_binders [] A tt p) }

  pub plain_pruned : PrunedType Ψ n i
  plain_pruned = record {
    local = L;
    family = target A;
    indices = nil;
    declared = e ∙ ap Some (as_pis A [] ∙ ap (λ S. pi_over L (atom (target A) S)) (plain_target A p));
    kept_local = without i L;
    kept_indices = nil;
    kept = kept;
    distinct = λ j k q. skip_distinct i j k (sym (skips j) ∙ q ∙ skips k);
    places = λ Γ. fits_renamed (context_under (skeleton X') Γ) (context_under (skeleton X) Γ) (skip i) (skeleton X') (countdown (skeleton X')) (fits Γ) (fits_eta (skeleton X') Γ);
    part = subst (IsPartOf (without i L) L) (sym (fun_ext skips)) is_part;
    same_target = refl;
    others_stay = λ j h. let (k, q) = unskip i j h in (k, skips k ∙ q);
    is_lost = λ z. skip_avoids i z.0 (sym (skips z.0) ∙ z.1);
  }

-- the variable, under the lambdas of a skeleton, that the argument at a place stands for
abbrev pub index_of : Skeleton → ℕ → ℕ
index_of (base c) j = zero
index_of (arrow a b) zero = arity b
index_of (arrow a b) (suc j) = index_of b j

pub at_index : (Γ : List Skeleton) (t : Skeleton) (ys : List ℕ) (τ : ℕ → ℕ) (j x : ℕ) → PatternFits Γ t ys → ElementAt ys j x → pattern_renaming t ys τ (index_of t j) ≡ x
at_index Γ (base c) [] τ j x f g = absurd g
at_index Γ (base c) (y ∷ ys) τ j x f g = absurd f
at_index Γ (arrow a b) [] τ j x f g = absurd f
at_index Γ (arrow a b) (y ∷ ys) τ zero x (h, f) g = ap (pattern_renaming b ys (extend_renaming y τ)) (sym (past_zero b)) ∙ past_rename Γ b ys (extend_renaming y τ) zero f ∙ g
at_index Γ (arrow a b) (y ∷ ys) τ (suc j) x (h, f) g = at_index Γ b ys (extend_renaming y τ) j x f g

index_less : (Γ : List Skeleton) (t : Skeleton) (ys : List ℕ) (j x : ℕ) → PatternFits Γ t ys → ElementAt ys j x → index_of t j < arity t
index_less Γ (base c) [] j x f g = absurd g
index_less Γ (base c) (y ∷ ys) j x f g = absurd f
index_less Γ (arrow a b) [] j x f g = absurd f
index_less Γ (arrow a b) (y ∷ ys) zero x (h, f) g = itself (arity b)
  where
    itself : (n : ℕ) → n < suc n
    itself n = omega arith
index_less Γ (arrow a b) (y ∷ ys) (suc j) x (h, f) g = further (index_of b j) (arity b) (index_less Γ b ys j x f g)
  where
    further : (m n : ℕ) → m < n → m < suc n
    further m n l = omega (arith, l)

arity_binders : (L : List LfType) (A : LfType) → length (binders L A) ≡ length L + arity (skeleton A)
arity_binders L (pi A B) = arity_binders (A ∷ L) B ∙ next (length L) (arity (skeleton B))
  where
    next : (m n : ℕ) → suc m + n ≡ m + suc n
    next m n = omega arith
arity_binders L (atom a S) = none (length L)
  where
    none : (n : ℕ) → n ≡ n + zero
    none n = omega arith

pub index_inside : (Γ : List Skeleton) (A : LfType) (t : Skeleton) (ys : List ℕ) (j x : ℕ) → t ≡ skeleton A → PatternFits Γ t ys → ElementAt ys j x → index_of t j < length (binders [] A)
index_inside Γ A t ys j x e f g = subst (λ n. index_of t j < n) (ap arity e ∙ none (arity (skeleton A)) ∙ sym (arity_binders [] A)) (index_less Γ t ys j x f g)
  where
    none : (n : ℕ) → n ≡ zero + n
    none n = omega arith
