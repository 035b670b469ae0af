-- A type without one of its arguments: the arguments that stay, and the renaming of the variables under its lambdas.
use Rattle.std.proofs.Common.{◌≡◌, ℕ, zero, suc, ◌+◌, ◌-◌, ◌<◌, ◌≤◌, List, [], ◌∷◌, length, Option, Some, None, ◌⊎◌, inl, inr, refl, sym, ap, ap₂, ◌∙◌, subst, arith}
use mathlib.Core.Path.{fun_ext}
use Rattle.std.proofs.lemmas.Bool.Decides.{eqb_tells}
use Rattle.std.specs.Prelude.{slice_get, nat_lt, nat_eq, true, false, option_map, if◌then◌else◌}
use Rattle.lf.specs.AtOnce.{lift_renaming_by}
use Rattle.lf.specs.Eta.{arity, eta_arguments}
use Rattle.lf.specs.SkeletonTyping.{SkeletonAt}
use Rattle.lf.specs.Syntax.{LfType, Skeleton, app, arrow, atom, base, pi, rename_type, skeleton}
use Rattle.lf.proofs.TypeLaws.{skeleton_renamed}
use Rattle.lf_unification.specs.Patterns.{InImage, Injective, PatternFits, context_under, eta_variable, extend_renaming, past, pattern, pattern_renaming}
use Rattle.tw_prune.specs.Kept.{kept_arguments}
use Rattle.tw_prune.specs.Tables.{IsTableOf}
use Rattle.tw_prune.specs.Walks.{Table, place_of, place_or, unrenamed_type, without_argument}
use Rattle.tw_prune.proofs.Options.{lt_tells, map_some, some_not_none}
use Rattle.tw_prune.proofs.Recognizing.{under_forth}
use Rattle.tw_prune.proofs.Tables.{IsInverse, get_below, get_some_below, lift_high, lift_low}
use Rattle.tw_prune.proofs.Unrenaming.{unrenamed_type_back, unrenamed_type_sound}

-- Y is X without its argument at the place, which nothing after it mentions
abbrev pub IsWithout : ℕ → LfType → LfType → Type 0
IsWithout k (atom a S) Y = ⊥
IsWithout zero (pi A B) Y = rename_type suc Y ≡ B
IsWithout (suc k) (pi A B) (atom a S) = ⊥
IsWithout (suc k) (pi A B) (pi A' B') = (A' ≡ A) × IsWithout k B B'

suc_injective : Injective suc
suc_injective i j e = cc

-- the table for the pattern of no variables, of a local context of one
pub newest_inverse : (T : Table) → IsTableOf [] 1 T → IsInverse T suc
newest_inverse T table = record { found = found; lacking = lacking }
  where
    found : (v j : ℕ) → place_of T v ≡ Some j → suc j ≡ v
    found v j e = go (slice_get T.places v) refl
      where
        past_end : slice_get T.places v ≡ None → v < length T.places → ⊥
        past_end f l = let (x, g) = get_below T.places v l in some_not_none (slice_get T.places v) x g f

        go : (o : Option (Option ℕ)) → slice_get T.places v ≡ o → suc j ≡ v
        go None f = at (lt_tells v (length T.places))
          where
            at : ((nat_lt v (length T.places) ≡ true) × (v < length T.places)) ⊎ ((nat_lt v (length T.places) ≡ false) × (length T.places ≤ v)) → suc j ≡ v
            at (inl (x, l)) = absurd (past_end f l)
            at (inr (x, l)) =
                let r : Some (v - length T.places + T.arity) ≡ Some j = sym (ap (λ o. place_or o (v - length T.places + T.arity)) f) ∙ e in
                let q : v - length T.places + T.arity ≡ j = cc in
                let s = table.size in
                let n = table.lambdas in
                omega (arith, q, s, n, l)
        go (Some None) f = let r : None ≡ Some j = sym (ap (λ o. place_or o (v - length T.places + T.arity)) f) ∙ e in cc
        go (Some (Some i)) f = let (k, q, g) = table.sound v i f in absurd (omega (arith, q))

    lacking : (v : ℕ) → place_of T v ≡ None → InImage suc v → ⊥
    lacking v e (j, h) = go (slice_get T.places v) refl
      where
        go : (o : Option (Option ℕ)) → slice_get T.places v ≡ o → ⊥
        go None f = let r : Some (v - length T.places + T.arity) ≡ None = sym (ap (λ o. place_or o (v - length T.places + T.arity)) f) ∙ e in cc
        go (Some (Some i)) f = let r : Some i ≡ None = sym (ap (λ o. place_or o (v - length T.places + T.arity)) f) ∙ e in cc
        go (Some None) f = below f
          where
            below : slice_get T.places v ≡ Some None → ⊥
            below f =
                let s = table.size in
                let l = get_some_below T.places v None f in
                omega (arith, s, l, h)

not_zero : (k : ℕ) → nat_eq (suc k) 0 ≡ false
not_zero k = go (eqb_tells (suc k) 0)
  where
    go : ((nat_eq (suc k) 0 ≡ true) × (suc k ≡ 0)) ⊎ ((nat_eq (suc k) 0 ≡ false) × (suc k ≡ 0 → ⊥)) → nat_eq (suc k) 0 ≡ false
    go (inl (e, z)) = absurd (omega arith)
    go (inr (e, n)) = e

module _ (T : Table) (inverse : IsInverse T suc) where
  next_argument : (k : ℕ) (A B : LfType) → without_argument T (suc k) (pi A B) ≡ option_map (pi A) (without_argument T k B)
  next_argument k A B =
      let p : suc k - 1 ≡ k = omega arith in
      ap (λ b. if b then unrenamed_type T 0 B else option_map (pi A) (without_argument T (suc k - 1) B)) (not_zero k) ∙ ap (λ n. option_map (pi A) (without_argument T n B)) p

  pub without_sound : (k : ℕ) (X Y : LfType) → without_argument T k X ≡ Some Y → IsWithout k X Y
  without_sound k (atom a S) Y e = cc
  without_sound zero (pi A B) Y e = unrenamed_type_sound T suc inverse 0 B Y e
  without_sound (suc k) (pi A B) Y e =
      let (B', f, q) = map_some (pi A) (without_argument T k B) Y (sym (next_argument k A B) ∙ e) in
      subst (IsWithout (suc k) (pi A B)) q (refl, without_sound k B B' f)

  pub without_back : (k : ℕ) (X Y : LfType) → IsWithout k X Y → without_argument T k X ≡ Some Y
  without_back k (atom a S) Y w = absurd w
  without_back zero (pi A B) Y w = subst (λ Z. unrenamed_type T 0 Z ≡ Some Y) w (unrenamed_type_back T suc inverse suc_injective 0 Y)
  without_back (suc k) (pi A B) (atom a S) w = absurd w
  without_back (suc k) (pi A B) (pi A' B') (e, w) = next_argument k A B ∙ ap (option_map (pi A)) (without_back k B B' w) ∙ ap (λ Z. Some (pi Z B')) (sym e)

-- the variables that stay
abbrev pub all_of : Skeleton → List ℕ
all_of (base c) = []
all_of (arrow a b) = arity b ∷ all_of b

abbrev pub kept_of : ℕ → Skeleton → List ℕ
kept_of k (base c) = []
kept_of zero (arrow a b) = all_of b
kept_of (suc k) (arrow a b) = arity b ∷ kept_of k b

abbrev pub without_skeleton : ℕ → Skeleton → Skeleton
without_skeleton k (base c) = base c
without_skeleton zero (arrow a b) = b
without_skeleton (suc k) (arrow a b) = arrow a (without_skeleton k b)

pub skeleton_without : (k : ℕ) (X Y : LfType) → IsWithout k X Y → skeleton Y ≡ without_skeleton k (skeleton X)
skeleton_without k (atom a S) Y w = absurd w
skeleton_without zero (pi A B) Y w = sym (skeleton_renamed suc Y) ∙ ap skeleton w
skeleton_without (suc k) (pi A B) (atom a S) w = absurd w
skeleton_without (suc k) (pi A B) (pi A' B') (e, w) = ap₂ arrow (ap skeleton e) (skeleton_without k B B' w)

all_arguments : (b : Skeleton) → pattern b (all_of b) ≡ eta_arguments b
all_arguments (base c) = refl
all_arguments (arrow a b) = ap (app (eta_variable a (arity b))) (all_arguments b)

pub kept_pattern : (k : ℕ) (X : LfType) → pattern (without_skeleton k (skeleton X)) (kept_of k (skeleton X)) ≡ kept_arguments k X
kept_pattern k (atom a S) = refl
kept_pattern zero (pi A B) = all_arguments (skeleton B)
kept_pattern (suc k) (pi A B) =
    let p : k ≡ suc k - 1 = omega arith in
    ap (app (eta_variable (skeleton A) (arity (skeleton B)))) (kept_pattern k B ∙ ap (λ n. kept_arguments n B) p)
    ∙ ap (λ b. if b then eta_arguments (skeleton B) else app (eta_variable (skeleton A) (arity (skeleton B))) (kept_arguments (suc k - 1) B)) (sym (not_zero k))

newest_at : (a b : Skeleton) (Γ : List Skeleton) → SkeletonAt (context_under b (a ∷ Γ)) (arity b) a
newest_at a b Γ = let z : 0 + arity b ≡ arity b = omega arith in subst (λ i. SkeletonAt (context_under b (a ∷ Γ)) i a) z (under_forth b (a ∷ Γ) 0 a refl)

all_fit : (b : Skeleton) (Γ : List Skeleton) → PatternFits (context_under b Γ) b (all_of b)
all_fit (base c) Γ = tt
all_fit (arrow a b) Γ = (newest_at a b Γ, all_fit b (a ∷ Γ))

pub kept_fit : (k : ℕ) (t : Skeleton) (Γ : List Skeleton) → PatternFits (context_under t Γ) (without_skeleton k t) (kept_of k t)
kept_fit k (base c) Γ = tt
kept_fit zero (arrow a b) Γ = all_fit b (a ∷ Γ)
kept_fit (suc k) (arrow a b) Γ = (newest_at a b Γ, kept_fit k b (a ∷ Γ))

-- their renaming
all_high : (b : Skeleton) (τ : ℕ → ℕ) (i : ℕ) → pattern_renaming b (all_of b) τ (i + arity b) ≡ τ i
all_high (base c) τ i = let z : i + 0 ≡ i = omega arith in ap τ z
all_high (arrow a b) τ i = let z : i + suc (arity b) ≡ suc i + arity b = omega arith in ap (pattern_renaming b (all_of b) (extend_renaming (arity b) τ)) z ∙ all_high b (extend_renaming (arity b) τ) (suc i)

all_low : (b : Skeleton) (τ : ℕ → ℕ) (j : ℕ) → j < arity b → pattern_renaming b (all_of b) τ j ≡ j
all_low (base c) τ j l = absurd (omega arith)
all_low (arrow a b) τ j l = go (lt_tells j (arity b)) (all_low b (extend_renaming (arity b) τ) j)
  where
    go : ((nat_lt j (arity b) ≡ true) × (j < arity b)) ⊎ ((nat_lt j (arity b) ≡ false) × (arity b ≤ j)) → (j < arity b → pattern_renaming b (all_of b) (extend_renaming (arity b) τ) j ≡ j) → pattern_renaming b (all_of b) (extend_renaming (arity b) τ) j ≡ j
    go (inl (e, h)) low = low h
    go (inr (e, h)) low =
        let z : j ≡ 0 + arity b = omega arith in
        let y : arity b ≡ j = omega arith in
        ap (pattern_renaming b (all_of b) (extend_renaming (arity b) τ)) z ∙ all_high b (extend_renaming (arity b) τ) 0 ∙ y

kept_low : (k : ℕ) (t : Skeleton) (τ : ℕ → ℕ) (v j : ℕ) → v + k + 1 ≡ arity t → j < v → pattern_renaming (without_skeleton k t) (kept_of k t) τ j ≡ j
kept_low k (base c) τ v j e l = absurd (omega arith)
kept_low zero (arrow a b) τ v j e l = all_low b τ j (omega arith)
kept_low (suc k) (arrow a b) τ v j e l = kept_low k b (extend_renaming (arity b) τ) v j (omega arith) l

kept_high : (k : ℕ) (t : Skeleton) (τ : ℕ → ℕ) (v i : ℕ) → v + k + 1 ≡ arity t → pattern_renaming (without_skeleton k t) (kept_of k t) τ (i + (arity t - 1)) ≡ τ i
kept_high k (base c) τ v i e = absurd (omega arith)
kept_high zero (arrow a b) τ v i e =
    let z : i + (suc (arity b) - 1) ≡ i + arity b = omega arith in
    ap (pattern_renaming b (all_of b) τ) z ∙ all_high b τ i
kept_high (suc k) (arrow a b) τ v i e =
    let z : i + (suc (arity b) - 1) ≡ suc i + (arity b - 1) = omega arith in
    ap (pattern_renaming (without_skeleton k b) (kept_of k b) (extend_renaming (arity b) τ)) z ∙ kept_high k b (extend_renaming (arity b) τ) v (suc i) (omega arith)

kept_mid : (k : ℕ) (t : Skeleton) (τ : ℕ → ℕ) (v j : ℕ) → v + k + 1 ≡ arity t → v ≤ j → j + 1 < arity t → pattern_renaming (without_skeleton k t) (kept_of k t) τ j ≡ j + 1
kept_mid k (base c) τ v j e l m = absurd (omega arith)
kept_mid zero (arrow a b) τ v j e l m = absurd (omega arith)
kept_mid (suc k) (arrow a b) τ v j e l m = go (lt_tells (j + 1) (arity b)) (kept_mid k b (extend_renaming (arity b) τ) v j (omega arith) l)
  where
    go : ((nat_lt (j + 1) (arity b) ≡ true) × (j + 1 < arity b)) ⊎ ((nat_lt (j + 1) (arity b) ≡ false) × (arity b ≤ j + 1)) → (j + 1 < arity b → pattern_renaming (without_skeleton k b) (kept_of k b) (extend_renaming (arity b) τ) j ≡ j + 1) → pattern_renaming (without_skeleton k b) (kept_of k b) (extend_renaming (arity b) τ) j ≡ j + 1
    go (inl (f, h)) mid = mid h
    go (inr (f, h)) mid =
        let z : j ≡ 0 + (arity b - 1) = omega arith in
        let y : arity b ≡ j + 1 = omega arith in
        let u : v + k + 1 ≡ arity b = omega arith in
        ap (pattern_renaming (without_skeleton k b) (kept_of k b) (extend_renaming (arity b) τ)) z ∙ kept_high k b (extend_renaming (arity b) τ) v 0 u ∙ y

pub past_is : (t : Skeleton) (i : ℕ) → past t i ≡ i + arity t
past_is (base c) i = omega arith
past_is (arrow a b) i = let e = past_is b (suc i) in omega (arith, e)

-- it is that over one more variable, the one that is dropped
pub kept_renaming_is : (k : ℕ) (t : Skeleton) (v : ℕ) → v + k + 1 ≡ arity t → pattern_renaming (without_skeleton k t) (kept_of k t) (past t) ≡ lift_renaming_by v suc
kept_renaming_is k t v e = fun_ext at
  where
    high : (j : ℕ) → v ≤ j → lift_renaming_by v suc j ≡ j + 1
    high j l =
        let z : (j - v) + v ≡ j = omega arith in
        let y : suc (j - v) + v ≡ j + 1 = omega arith in
        subst (λ x. lift_renaming_by v suc x ≡ j + 1) z (lift_high v suc (j - v) ∙ y)

    at : (j : ℕ) → pattern_renaming (without_skeleton k t) (kept_of k t) (past t) j ≡ lift_renaming_by v suc j
    at j = go (lt_tells j v) (lt_tells (j + 1) (arity t))
      where
        go : ((nat_lt j v ≡ true) × (j < v)) ⊎ ((nat_lt j v ≡ false) × (v ≤ j)) → ((nat_lt (j + 1) (arity t) ≡ true) × (j + 1 < arity t)) ⊎ ((nat_lt (j + 1) (arity t) ≡ false) × (arity t ≤ j + 1)) → pattern_renaming (without_skeleton k t) (kept_of k t) (past t) j ≡ lift_renaming_by v suc j
        go (inl (f, l)) h = kept_low k t (past t) v j e l ∙ sym (lift_low v suc j l)
        go (inr (f, l)) (inl (g, m)) = kept_mid k t (past t) v j e l m ∙ sym (high j l)
        go (inr (f, l)) (inr (g, m)) =
            let i : ℕ = j + 1 - arity t in
            let z : j ≡ (j + 1 - arity t) + (arity t - 1) = omega arith in
            let y : (j + 1 - arity t) + arity t ≡ j + 1 = omega arith in
            ap (pattern_renaming (without_skeleton k t) (kept_of k t) (past t)) z ∙ kept_high k t (past t) v (j + 1 - arity t) e ∙ past_is t (j + 1 - arity t) ∙ y ∙ sym (high j l)
