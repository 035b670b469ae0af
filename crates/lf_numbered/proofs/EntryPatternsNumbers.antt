-- Block variables among the items of a case, and their numbers: which stands for which instance, and when they stand for different ones.
use Rattle.std.proofs.Common.{◌≡◌, ℕ, zero, suc, List, [], ◌∷◌, ◌++◌, length, ◌+◌, ◌<◌, refl, sym, ap, ◌∙◌, subst, inl, inr, arith}
use Rattle.std.specs.Prelude.{Bool, true, false, Some, None, ◌⊎◌}
use Rattle.lf.specs.Syntax.{LfType, rename_spine}
use Rattle.lf.specs.Substitution.{Image}
use Rattle.lf.specs.Typing.{Signature}
use Rattle.lf.specs.Subordination.{Block}
use Rattle.lf.specs.Worlds.{World}
use Rattle.lf_checks.specs.Tests.{choose}
use Rattle.lf_cases.specs.Case.{Item, free_variable, block_variable, Case, IsGroundInstance}
use Rattle.lf_cases.specs.Pattern.{has_block_variable, FirstInstance, FirstIs, Known}
use Rattle.lf_cases.specs.Split.{StandsFor, IsDistinct}
use Rattle.lf_coverage.proofs.Parts.{some_same}
use Rattle.lf_numbered.specs.EntryPatternsRuns.{ZerothIs}
use Rattle.lf_numbered.specs.NumberedInstance.{block_at}
use Rattle.lf_numbered.specs.Numbering.{numbering, numbered, own_spine}
use Rattle.lf_numbered.specs.OwnTerms.{BlockVariable, blocks_of, rename_blocks}
use Rattle.lf_numbered.proofs.Numbering.{first_is_zero, no_number}
use Rattle.lf_numbered.proofs.NumberingSteps.{HasInstances}

-- Lists of block variables
pub renamed_at : (ρ : ℕ → ℕ) (bs : List BlockVariable) (k : ℕ) (b : BlockVariable) → block_at bs k ≡ Some b → (d : BlockVariable) × (block_at (rename_blocks ρ bs) k ≡ Some d) × (d.block ≡ b.block)
renamed_at ρ [] k b e = absurd cc
renamed_at ρ (c ∷ bs) zero b e = (record { block = c.block; terms = rename_spine ρ c.terms }, refl, ap (λ (d : BlockVariable). d.block) (some_same e))
renamed_at ρ (c ∷ bs) (suc k) b e = renamed_at ρ bs k b e

at_renamed : (ρ : ℕ → ℕ) (bs : List BlockVariable) (k : ℕ) (b : BlockVariable) → block_at (rename_blocks ρ bs) k ≡ Some b → (d : BlockVariable) × (block_at bs k ≡ Some d) × (d.block ≡ b.block)
at_renamed ρ [] k b e = absurd cc
at_renamed ρ (c ∷ bs) zero b e = (c, refl, ap (λ (d : BlockVariable). d.block) (some_same e))
at_renamed ρ (c ∷ bs) (suc k) b e = at_renamed ρ bs k b e

pub earlier_at : (bs cs : List BlockVariable) (k : ℕ) (b : BlockVariable) → block_at bs k ≡ Some b → block_at (bs ++ cs) k ≡ Some b
earlier_at [] cs k b e = absurd cc
earlier_at (c ∷ bs) cs zero b e = e
earlier_at (c ∷ bs) cs (suc k) b e = earlier_at bs cs k b e

pub last_at : (bs : List BlockVariable) (b : BlockVariable) → block_at (bs ++ b ∷ []) (length bs) ≡ Some b
last_at [] b = refl
last_at (c ∷ bs) b = last_at bs b

pub old_or_last : (bs : List BlockVariable) (n : BlockVariable) (k : ℕ) (b : BlockVariable) → block_at (bs ++ n ∷ []) k ≡ Some b → (block_at bs k ≡ Some b) ⊎ ((k ≡ length bs) × (b ≡ n))
old_or_last [] n zero b e = inr (refl, sym (some_same e))
old_or_last [] n (suc k) b e = absurd cc
old_or_last (c ∷ bs) n zero b e = inl e
old_or_last (c ∷ bs) n (suc k) b e = by (old_or_last bs n k b e)
  where
    by : (block_at bs k ≡ Some b) ⊎ ((k ≡ length bs) × (b ≡ n)) → (block_at bs k ≡ Some b) ⊎ ((suc k ≡ suc (length bs)) × (b ≡ n))
    by (inl q) = inl q
    by (inr (q, r)) = inr (ap suc q, r)

pub inside_list : (bs : List BlockVariable) (k : ℕ) (b : BlockVariable) → block_at bs k ≡ Some b → k < length bs
inside_list [] k b e = absurd cc
inside_list (c ∷ bs) zero b e = omega arith
inside_list (c ∷ bs) (suc k) b e = let l = inside_list bs k b e in omega (arith, l)

blocks_length : (bs : List BlockVariable) → zero + length (blocks_of bs) ≡ length bs
blocks_length [] = refl
blocks_length (b ∷ bs) = let l = blocks_length bs in omega (arith, l)

-- The block variable of a number stands for the instance φ of B.
abbrev HasNumber : (ℕ → ℕ → Image) → List BlockVariable → Block → (ℕ → Image) → Type 0
HasNumber θ bs B φ = (k : ℕ) × (b : BlockVariable) × (block_at bs k ≡ Some b) × (b.block ≡ B) × (θ k ≡ φ)

module _ (θ : ℕ → ℕ → Image) (first : ℕ) {Σ : Signature} {W : List Block} {S : ℕ → Bool} {G : List LfType} (w : World Σ W S G) where
  number_of : (I : List Item) (σ : ℕ → Image) (g : IsGroundInstance w I σ) → HasInstances θ first w I σ g → (B : Block) (φ : ℕ → Image) → StandsFor w I σ g B φ → HasNumber θ (numbering first I).blocks B φ
  number_of [] σ g h B φ s = absurd s
  number_of (free_variable A ∷ I) σ (N, τ, g, n, e) h B φ s =
      let (k, b, p, q, t) = number_of I τ g h B φ s in
      let (d, r, z) = renamed_at suc (numbering first I).blocks k b p in
      (k, d, r, z ∙ q, t)
  number_of (block_variable D υ ∷ I) σ (ψ, τ, g, i, r, e) (q, h) B φ (inl (p, s)) =
      let b : BlockVariable = record { block = D; terms = own_spine D υ (numbering first I) } in
      (length (numbering first I).blocks, b, last_at (numbering first I).blocks b, p, ap θ (sym (blocks_length (numbering first I).blocks)) ∙ sym q ∙ s)
  number_of (block_variable D υ ∷ I) σ (ψ, τ, g, i, r, e) (q, h) B φ (inr s) =
      let (k, b, p, z, t) = number_of I τ g h B φ s in
      (k, b, earlier_at (numbering first I).blocks (record { block = D; terms = own_spine D υ (numbering first I) } ∷ []) k b p, z, t)

  of_number : (I : List Item) (σ : ℕ → Image) (g : IsGroundInstance w I σ) → HasInstances θ first w I σ g → (k : ℕ) (b : BlockVariable) → block_at (numbering first I).blocks k ≡ Some b → StandsFor w I σ g b.block (θ k)
  of_number [] σ g h k b p = absurd cc
  of_number (free_variable A ∷ I) σ (N, τ, g, n, e) h k b p =
      let (d, q, r) = at_renamed suc (numbering first I).blocks k b p in
      subst (λ B. StandsFor w I τ g B (θ k)) r (of_number I τ g h k d q)
  of_number (block_variable D υ ∷ I) σ (ψ, τ, g, i, r, e) (q, h) k b p = by (λ z. of_number I τ g h k b z) (old_or_last (numbering first I).blocks (record { block = D; terms = own_spine D υ (numbering first I) }) k b p)
    where
      by : (block_at (numbering first I).blocks k ≡ Some b → StandsFor w I τ g b.block (θ k)) → (block_at (numbering first I).blocks k ≡ Some b) ⊎ ((k ≡ length (numbering first I).blocks) × (b ≡ record { block = D; terms = own_spine D υ (numbering first I) })) → ((D ≡ b.block) × (ψ ≡ θ k)) ⊎ StandsFor w I τ g b.block (θ k)
      by ih (inl z) = inr (ih z)
      by ih (inr (z, t)) = inl (ap (λ (d : BlockVariable). d.block) (sym t), q ∙ ap θ (blocks_length (numbering first I).blocks ∙ sym z))

  -- different instances for different block variables
  abbrev ApartIn : List BlockVariable → Type 0
  ApartIn bs = (j k : ℕ) (b c : BlockVariable) → block_at bs j ≡ Some b → block_at bs k ≡ Some c → b.block ≡ c.block → θ j ≡ θ k → j ≡ k

  pub distinct_apart : (I : List Item) (σ : ℕ → Image) (g : IsGroundInstance w I σ) → HasInstances θ first w I σ g → IsDistinct w I σ g → ApartIn (numbering first I).blocks
  distinct_apart [] σ g h d j k b c p q r t = absurd cc
  distinct_apart (free_variable A ∷ I) σ (N, τ, g, n, e) h d j k b c p q r t =
      let (b', p', u) = at_renamed suc (numbering first I).blocks j b p in
      let (c', q', v) = at_renamed suc (numbering first I).blocks k c q in
      distinct_apart I τ g h d j k b' c' p' q' (u ∙ r ∙ sym v) t
  distinct_apart (block_variable D υ ∷ I) σ (ψ, τ, g, i, s, e) (z, h) (new, d) j k b c p q r t = by (λ m m'. distinct_apart I τ g h d j k b c m m' r t) (stands j b) (stands k c) (old_or_last bs last j b p) (old_or_last bs last k c q)
    where
      bs : List BlockVariable
      bs = (numbering first I).blocks

      last : BlockVariable
      last = record { block = D; terms = own_spine D υ (numbering first I) }

      at_last : (l : ℕ) → l ≡ length bs → ψ ≡ θ l
      at_last l m = z ∙ ap θ (blocks_length bs ∙ sym m)

      stands : (l : ℕ) (f : BlockVariable) → block_at bs l ≡ Some f → f.block ≡ D → θ l ≡ ψ → ⊥
      stands l f m u v = new (subst (λ B. StandsFor w I τ g B ψ) u (subst (StandsFor w I τ g f.block) v (of_number I τ g h l f m)))

      by : (block_at bs j ≡ Some b → block_at bs k ≡ Some c → j ≡ k) → (block_at bs j ≡ Some b → b.block ≡ D → θ j ≡ ψ → ⊥) → (block_at bs k ≡ Some c → c.block ≡ D → θ k ≡ ψ → ⊥) → (block_at bs j ≡ Some b) ⊎ ((j ≡ length bs) × (b ≡ last)) → (block_at bs k ≡ Some c) ⊎ ((k ≡ length bs) × (c ≡ last)) → j ≡ k
      by ih on_j on_k (inl m) (inl m') = ih m m'
      by ih on_j on_k (inl m) (inr (m', u)) = absurd (on_j m (r ∙ ap (λ (f : BlockVariable). f.block) u) (t ∙ sym (at_last k m')))
      by ih on_j on_k (inr (m, u)) (inl m') = absurd (on_k m' (sym r ∙ ap (λ (f : BlockVariable). f.block) u) (sym t ∙ sym (at_last j m)))
      by ih on_j on_k (inr (m, u)) (inr (m', u')) = m ∙ sym m'

  pub apart_distinct : (I : List Item) (σ : ℕ → Image) (g : IsGroundInstance w I σ) → HasInstances θ first w I σ g → ApartIn (numbering first I).blocks → IsDistinct w I σ g
  apart_distinct [] σ g h d = tt
  apart_distinct (free_variable A ∷ I) σ (N, τ, g, n, e) h d = apart_distinct I τ g h (λ j k b c p q r t.
      let (b', p', u) = renamed_at suc (numbering first I).blocks j b p in
      let (c', q', v) = renamed_at suc (numbering first I).blocks k c q in
      d j k b' c' p' q' (u ∙ r ∙ sym v) t)
  apart_distinct (block_variable D υ ∷ I) σ (ψ, τ, g, i, s, e) (z, h) d = (
    λ t. let (k, b, p, q, r) = number_of I τ g h D ψ t in
        let m = d k (length bs) b last (earlier_at bs (last ∷ []) k b p) (last_at bs last) q (r ∙ z ∙ ap θ (blocks_length bs)) in
        let l = inside_list bs k b p in
        omega (arith, m, l),
    apart_distinct I τ g h (λ j k b c p q. d j k b c (earlier_at bs (last ∷ []) j b p) (earlier_at bs (last ∷ []) k c q)),
  )
    where
      bs : List BlockVariable
      bs = (numbering first I).blocks

      last : BlockVariable
      last = record { block = D; terms = own_spine D υ (numbering first I) }

  -- the first block variable has the number 0
  first_at : (I : List Item) (σ : ℕ → Image) (g : IsGroundInstance w I σ) (B : Block) (φ : ℕ → Image) → FirstInstance w I σ g B φ → (b : BlockVariable) × (block_at (numbering first I).blocks zero ≡ Some b) × (b.block ≡ B)
  first_at [] σ g B φ f = absurd f
  first_at (free_variable A ∷ I) σ (N, τ, g, n, e) B φ f =
      let (b, p, q) = first_at I τ g B φ f in
      let (d, r, t) = renamed_at suc (numbering first I).blocks zero b p in
      (d, r, t ∙ q)
  first_at (block_variable D υ ∷ I) σ (ψ, τ, g, i, s, e) B φ f = by (λ k. first_at I τ g B φ k) (has_block_variable I) refl f
    where
      bs : List BlockVariable
      bs = (numbering first I).blocks

      last : BlockVariable
      last = record { block = D; terms = own_spine D υ (numbering first I) }

      none : (cs : List BlockVariable) → length (blocks_of cs) ≡ 0 → block_at (cs ++ last ∷ []) zero ≡ Some last
      none [] l = refl
      none (c ∷ cs) l = absurd cc

      by : (FirstInstance w I τ g B φ → (b : BlockVariable) × (block_at bs zero ≡ Some b) × (b.block ≡ B)) → (c : Bool) → has_block_variable I ≡ c → choose c (FirstInstance w I τ g B φ) ((D ≡ B) × (ψ ≡ φ)) → (b : BlockVariable) × (block_at (bs ++ last ∷ []) zero ≡ Some b) × (b.block ≡ B)
      by ih true c k = let (b, p, q) = ih k in (b, earlier_at bs (last ∷ []) zero b p, q)
      by ih false c (p, q) = (last, none bs (no_number first I c), p)

  pub zeroth_is : (C : Case) (σ : ℕ → Image) (g : IsGroundInstance w C.items σ) → HasInstances θ first w C.items σ g → (F : Known) → FirstIs w C.items σ g F → ZerothIs (numbered first C) θ F
  zeroth_is C σ g h None f = tt
  zeroth_is C σ g h (Some (B, φ)) f =
      let (b, p, q) = first_at C.items σ g B φ f in
      (b, p, q, sym (first_is_zero θ first w C.items σ g h B φ f))

  -- one is the first, where there is any
  first_exists : (I : List Item) (σ : ℕ → Image) (g : IsGroundInstance w I σ) → (b : BlockVariable) → block_at (numbering first I).blocks zero ≡ Some b → (B : Block) × (φ : ℕ → Image) × FirstInstance w I σ g B φ
  first_exists [] σ g b p = absurd cc
  first_exists (free_variable A ∷ I) σ (N, τ, g, n, e) b p = let (d, q, r) = at_renamed suc (numbering first I).blocks zero b p in first_exists I τ g d q
  first_exists (block_variable D υ ∷ I) σ (ψ, τ, g, i, s, e) b p = by (first_of I τ g) (has_block_variable I) refl
    where
      first_of : (I : List Item) (τ : ℕ → Image) (g : IsGroundInstance w I τ) → has_block_variable I ≡ true → (B : Block) × (φ : ℕ → Image) × FirstInstance w I τ g B φ
      first_of [] τ g c = absurd cc
      first_of (free_variable A ∷ I) τ (N, τ', g, n, e) c = first_of I τ' g c
      first_of (block_variable D υ ∷ I) τ (ψ, τ', g, i, s, e) c = here (first_of I τ' g) (has_block_variable I) refl
        where
          here : (has_block_variable I ≡ true → (B : Block) × (φ : ℕ → Image) × FirstInstance w I τ' g B φ) → (y : Bool) → has_block_variable I ≡ y → (B : Block) × (φ : ℕ → Image) × choose y (FirstInstance w I τ' g B φ) ((D ≡ B) × (ψ ≡ φ))
          here ih true y = ih y
          here ih false y = (D, ψ, (refl, refl))

      by : (has_block_variable I ≡ true → (B : Block) × (φ : ℕ → Image) × FirstInstance w I τ g B φ) → (y : Bool) → has_block_variable I ≡ y → (B : Block) × (φ : ℕ → Image) × choose y (FirstInstance w I τ g B φ) ((D ≡ B) × (ψ ≡ φ))
      by ih true y = ih y
      by ih false y = (D, ψ, (refl, refl))

  pub first_is : (C : Case) (σ : ℕ → Image) (g : IsGroundInstance w C.items σ) → HasInstances θ first w C.items σ g → (F : Known) → ZerothIs (numbered first C) θ F → FirstIs w C.items σ g F
  first_is C σ g h None z = tt
  first_is C σ g h (Some (B, φ)) (b, p, q, r) =
      let (D, ψ, f) = first_exists C.items σ g b p in
      let (c, t, u) = first_at C.items σ g D ψ f in
      let same : D ≡ B = sym u ∙ ap (λ (d : BlockVariable). d.block) (some_same (sym t ∙ p)) ∙ q in
      subst (λ E. FirstInstance w C.items σ g E φ) same (subst (FirstInstance w C.items σ g D) (first_is_zero θ first w C.items σ g h D ψ f ∙ r) f)
