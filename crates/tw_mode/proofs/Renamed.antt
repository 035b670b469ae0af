-- Strict occurrences where the variables that occur get other numbers, each another one.
use Rattle.std.proofs.Common.{◌≡◌, ℕ, zero, suc, ◌<◌, List, [], ◌∷◌, Bool, true, false, Option, Some, None, refl, sym, ap, ap₂, ◌∙◌, arith}
use Rattle.std.specs.Prelude.{map, not, option_map}
use Rattle.lf.specs.AtOnce.{lift_renaming_by}
use Rattle.lf.specs.Syntax.{Term, Spine, nil, app, root, constant, variable, metavariable, lambda, LfType, pi, atom, lift_renaming, rename, rename_spine, rename_type}
use Rattle.lf.specs.Variables.{Uses, UsesSpine, UsesType, hide, nothing, same_number, under}
use Rattle.lf_checks.specs.Strict.{eta_at, head_variable, is_bound, lower, new_arguments, pattern_arguments, strict, strict_at, strict_goal, strict_spine, with_seen}
use Rattle.lf_checks.specs.Tests.{both, either, is_in}

-- the variables of V get different numbers
abbrev pub Apart : (ℕ → Bool) → (ℕ → ℕ) → Type 0
Apart V ρ = (i j : ℕ) → V i ≡ true → V j ≡ true → same_number (ρ i) (ρ j) ≡ same_number i j

-- of the variables of V those in the set U are, renamed, those in the set W
abbrev pub Agree : (ℕ → Bool) → (ℕ → ℕ) → (ℕ → Bool) → (ℕ → Bool) → Type 0
Agree V ρ U W = (i : ℕ) → V i ≡ true → W (ρ i) ≡ U i

apart_under : (V : ℕ → Bool) (ρ : ℕ → ℕ) → Apart V ρ → Apart (under V) (lift_renaming ρ)
apart_under V ρ a zero zero u v = refl
apart_under V ρ a zero (suc j) u v = refl
apart_under V ρ a (suc i) zero u v = refl
apart_under V ρ a (suc i) (suc j) u v = a i j u v

agree_under : (V : ℕ → Bool) (ρ : ℕ → ℕ) (U W : ℕ → Bool) → Agree V ρ U W → Agree (under V) (lift_renaming ρ) (under U) (under W)
agree_under V ρ U W g zero v = refl
agree_under V ρ U W g (suc i) v = g i v

agree_hide : (V : ℕ → Bool) (ρ : ℕ → ℕ) (U W : ℕ → Bool) → Agree V ρ U W → Agree (under V) (lift_renaming ρ) (hide U) (hide W)
agree_hide V ρ U W g zero v = refl
agree_hide V ρ U W g (suc i) v = g i v

-- The eta-long variables: n of V are the newest, and stay.
abbrev Stay : (ℕ → Bool) → (ℕ → ℕ) → ℕ → Type 0
Stay V ρ n = (i : ℕ) → i < n → (V i ≡ true) × (ρ i ≡ i)

stay_under : (V : ℕ → Bool) (ρ : ℕ → ℕ) (n : ℕ) → Stay V ρ n → Stay (under V) (lift_renaming ρ) (suc n)
stay_under V ρ n s zero l = (refl, refl)
stay_under V ρ n s (suc i) l = let (v, e) = s i (omega (arith, l)) in (v, ap suc e)

mutual
  eta_renamed : (V : ℕ → Bool) (ρ : ℕ → ℕ) (n y : ℕ) (M : Term) → Apart V ρ → Stay V ρ n → V y ≡ true → Uses V M → eta_at n (ρ y) (rename ρ M) ≡ eta_at n y M
  eta_renamed V ρ n y (lambda M) a s v u = eta_renamed (under V) (lift_renaming ρ) (suc n) (suc y) M (apart_under V ρ a) (stay_under V ρ n s) v u
  eta_renamed V ρ n y (root (constant c) S) a s v u = refl
  eta_renamed V ρ n y (root (metavariable m) S) a s v u = refl
  eta_renamed V ρ n y (root (variable j) S) a s v u = ap₂ both (a j y u.0 v) (new_renamed V ρ n S a s u.1)

  new_renamed : (V : ℕ → Bool) (ρ : ℕ → ℕ) (n : ℕ) (S : Spine) → Apart V ρ → Stay V ρ n → UsesSpine V S → new_arguments n (rename_spine ρ S) ≡ new_arguments n S
  new_renamed V ρ zero nil a s u = refl
  new_renamed V ρ zero (app M S) a s u = refl
  new_renamed V ρ (suc n) nil a s u = refl
  new_renamed V ρ (suc n) (app M S) a s u =
      let (v, e) = s n (omega arith) in
      ap₂ both (ap (λ k. eta_at zero k (rename ρ M)) (sym e) ∙ eta_renamed V ρ zero n M a (λ i l. absurd (omega (arith, l))) v u.0) (new_renamed V ρ n S a (λ i l. s i (omega (arith, l))) u.1)

-- The variable at the head.
lower_renamed : (ρ : ℕ → ℕ) (n j : ℕ) → lower n (lift_renaming_by n ρ j) ≡ option_map ρ (lower n j)
lower_renamed ρ zero j = refl
lower_renamed ρ (suc n) zero = refl
lower_renamed ρ (suc n) (suc j) = lower_renamed ρ n j

head_renamed : (ρ : ℕ → ℕ) (n : ℕ) (M : Term) → head_variable n (rename (lift_renaming_by n ρ) M) ≡ option_map ρ (head_variable n M)
head_renamed ρ n (lambda M) = head_renamed ρ (suc n) M
head_renamed ρ n (root (constant c) S) = refl
head_renamed ρ n (root (metavariable m) S) = refl
head_renamed ρ n (root (variable j) S) = lower_renamed ρ n j

abbrev under_by : ℕ → (ℕ → Bool) → ℕ → Bool
under_by zero V = V
under_by (suc n) V = under (under_by n V)

some_equal : (i j : ℕ) → Some i ≡ Some j → i ≡ j
some_equal i j e = cc

lower_used : (V : ℕ → Bool) (n j y : ℕ) → under_by n V j ≡ true → lower n j ≡ Some y → V y ≡ true
lower_used V zero j y v e = ap V (sym (some_equal j y e)) ∙ v
lower_used V (suc n) zero y v e = absurd cc
lower_used V (suc n) (suc j) y v e = lower_used V n j y v e

head_used : (V : ℕ → Bool) (n y : ℕ) (M : Term) → Uses (under_by n V) M → head_variable n M ≡ Some y → V y ≡ true
head_used V n y (lambda M) u e = head_used V (suc n) y M u e
head_used V n y (root (constant c) S) u e = absurd cc
head_used V n y (root (metavariable m) S) u e = absurd cc
head_used V n y (root (variable j) S) u e = lower_used V n j y u.0 e

abbrev AllIn : (ℕ → Bool) → List ℕ → Type 0
AllIn V [] = Unit {0}
AllIn V (x ∷ xs) = (V x ≡ true) × AllIn V xs

seen_renamed : (V : ℕ → Bool) (ρ : ℕ → ℕ) (y : ℕ) (xs : List ℕ) → Apart V ρ → V y ≡ true → AllIn V xs → is_in (ρ y) (map ρ xs) ≡ is_in y xs
seen_renamed V ρ y [] a v h = refl
seen_renamed V ρ y (x ∷ xs) a v (w, h) = ap₂ either (a y x v w) (seen_renamed V ρ y xs a v h)

pattern_renamed : (V : ℕ → Bool) (ρ : ℕ → ℕ) (B B' : ℕ → Bool) (seen : List ℕ) (S : Spine) → Apart V ρ → Agree V ρ B B' → AllIn V seen → UsesSpine V S → pattern_arguments B' (map ρ seen) (rename_spine ρ S) ≡ pattern_arguments B seen S
pattern_renamed V ρ B B' seen nil a b h u = refl
pattern_renamed V ρ B B' seen (app M S) a b h u =
    ap (λ o. both (is_bound B' (map ρ seen) (rename ρ M) o) (pattern_arguments B' (with_seen o (map ρ seen)) (rename_spine ρ S))) (head_renamed ρ zero M)
    ∙ by (head_variable zero M) refl (λ xs k. pattern_renamed V ρ B B' xs S a b k u.1)
  where
    by : (o : Option ℕ) → head_variable zero M ≡ o → ((xs : List ℕ) → AllIn V xs → pattern_arguments B' (map ρ xs) (rename_spine ρ S) ≡ pattern_arguments B xs S) → both (is_bound B' (map ρ seen) (rename ρ M) (option_map ρ o)) (pattern_arguments B' (with_seen (option_map ρ o) (map ρ seen)) (rename_spine ρ S)) ≡ both (is_bound B seen M o) (pattern_arguments B (with_seen o seen) S)
    by None e f = refl
    by (Some y) e f =
        let v = head_used V zero y M u.0 e in
        ap₂ both (ap₂ both (eta_renamed V ρ zero y M a (λ i l. absurd (omega (arith, l))) v u.0) (ap₂ (λ p q. both p (not q)) (b y v) (seen_renamed V ρ y seen a v h))) (f (y ∷ seen) (v, h))

-- Strict occurrences.
record Kept (V : ℕ → Bool) (ρ : ℕ → ℕ) (B F B' F' : ℕ → Bool) : Type 0 where
  apart : Apart V ρ
  bound : Agree V ρ B B'
  fixed : Agree V ρ F F'

kept_under : (V : ℕ → Bool) (ρ : ℕ → ℕ) (B F B' F' : ℕ → Bool) → Kept V ρ B F B' F' → Kept (under V) (lift_renaming ρ) (under B) (hide F) (under B') (hide F')
kept_under V ρ B F B' F' k = record { apart = apart_under V ρ k.apart; bound = agree_under V ρ B B' k.bound; fixed = agree_hide V ρ F F' k.fixed }

mutual
  strict_renamed : (V : ℕ → Bool) (ρ : ℕ → ℕ) (B F B' F' : ℕ → Bool) (x : ℕ) (M : Term) → Kept V ρ B F B' F' → V x ≡ true → Uses V M → strict B' F' (ρ x) (rename ρ M) ≡ strict B F x M
  strict_renamed V ρ B F B' F' x (lambda M) k v u = strict_renamed (under V) (lift_renaming ρ) (under B) (hide F) (under B') (hide F') (suc x) M (kept_under V ρ B F B' F' k) v u
  strict_renamed V ρ B F B' F' x (root (constant c) S) k v u = strict_spine_renamed V ρ B F B' F' x S k v u
  strict_renamed V ρ B F B' F' x (root (metavariable m) S) k v u = refl
  strict_renamed V ρ B F B' F' x (root (variable j) S) k v (w, u) =
      ap₂ either (ap₂ both (k.apart j x w v) (pattern_renamed V ρ B B' [] S k.apart k.bound tt u)) (ap₂ both (ap₂ either (k.bound j w) (k.fixed j w)) (strict_spine_renamed V ρ B F B' F' x S k v u))

  strict_spine_renamed : (V : ℕ → Bool) (ρ : ℕ → ℕ) (B F B' F' : ℕ → Bool) (x : ℕ) (S : Spine) → Kept V ρ B F B' F' → V x ≡ true → UsesSpine V S → strict_spine B' F' (ρ x) (rename_spine ρ S) ≡ strict_spine B F x S
  strict_spine_renamed V ρ B F B' F' x nil k v u = refl
  strict_spine_renamed V ρ B F B' F' x (app M S) k v (w, u) = ap₂ either (strict_renamed V ρ B F B' F' x M k v w) (strict_spine_renamed V ρ B F B' F' x S k v u)

places_kept : (m : List Bool) (V : ℕ → Bool) (ρ : ℕ → ℕ) (B F B' F' : ℕ → Bool) (x : ℕ) (S : Spine) → Kept V ρ B F B' F' → V x ≡ true → UsesSpine V S → strict_at m B' F' (ρ x) (rename_spine ρ S) ≡ strict_at m B F x S
places_kept [] V ρ B F B' F' x S k v u = refl
places_kept (b ∷ m) V ρ B F B' F' x nil k v u = refl
places_kept (true ∷ m) V ρ B F B' F' x (app M S) k v (w, u) = ap₂ either (strict_renamed V ρ B F B' F' x M k v w) (places_kept m V ρ B F B' F' x S k v u)
places_kept (false ∷ m) V ρ B F B' F' x (app M S) k v (w, u) = places_kept m V ρ B F B' F' x S k v u

goal_kept : (m : List Bool) (V : ℕ → Bool) (ρ : ℕ → ℕ) (B F B' F' : ℕ → Bool) (x : ℕ) (A : LfType) → Kept V ρ B F B' F' → V x ≡ true → UsesType V A → strict_goal m B' F' (ρ x) (rename_type ρ A) ≡ strict_goal m B F x A
goal_kept m V ρ B F B' F' x (pi A C) k v (w, u) = goal_kept m (under V) (lift_renaming ρ) (under B) (hide F) (under B') (hide F') (suc x) C (kept_under V ρ B F B' F' k) v u
goal_kept m V ρ B F B' F' x (atom a S) k v u = places_kept m V ρ B F B' F' x S k v u

-- where no variable is bound outside
module _ (m : List Bool) (V : ℕ → Bool) (ρ : ℕ → ℕ) (F F' : ℕ → Bool) (a : Apart V ρ) (f : Agree V ρ F F') where
  pub places_renamed : (x : ℕ) (S : Spine) → V x ≡ true → UsesSpine V S → strict_at m nothing F' (ρ x) (rename_spine ρ S) ≡ strict_at m nothing F x S
  places_renamed x S v u = places_kept m V ρ nothing F nothing F' x S (record { apart = a; bound = λ i w. refl; fixed = f }) v u

  pub goal_renamed : (x : ℕ) (A : LfType) → V x ≡ true → UsesType V A → strict_goal m nothing F' (ρ x) (rename_type ρ A) ≡ strict_goal m nothing F x A
  goal_renamed x A v u = goal_kept m V ρ nothing F nothing F' x A (record { apart = a; bound = λ i w. refl; fixed = f }) v u
