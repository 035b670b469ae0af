-- Whether block variables are one by numbers is decided, and block variables are searched.
use Rattle.std.proofs.Common.{◌≡◌, ℕ, zero, suc, ◌⊎◌, List, [], ◌∷◌, inl, inr, refl, sym, ◌∙◌, subst}
use Rattle.std.specs.Prelude.{Bool, true, false, Option, Some, None}
use Rattle.lf_coverage.proofs.Parts.{none_some, some_same}
use Rattle.lf_numbered.specs.NumberedCallsStores.{Identifies}
use Rattle.lf_numbered.specs.NumberedCase.{NumberedCase}
use Rattle.lf_numbered.specs.NumberedInstance.{block_at}
use Rattle.lf_numbered.specs.OwnTerms.{BlockVariable}
use Rattle.lf_numbered.proofs.EntryTermsDecided.{same_block}
use native.Mathlib.Decide.{ℕ_discrete}

-- each of the block variables is so, or not
each_block : (bs : List BlockVariable) (P : ℕ → BlockVariable → Type 0) → ((k : ℕ) (b : BlockVariable) → Dec (P k b)) → Dec ((k : ℕ) (b : BlockVariable) → block_at bs k ≡ Some b → P k b)
each_block [] P d = yes (λ k b e. absurd (none_some e))
each_block (c ∷ bs) P d = by (d zero c) (each_block bs (λ k. P (suc k)) (λ k b. d (suc k) b))
  where
    all : P zero c → ((k : ℕ) (b : BlockVariable) → block_at bs k ≡ Some b → P (suc k) b) → (k : ℕ) (b : BlockVariable) → block_at (c ∷ bs) k ≡ Some b → P k b
    all q r zero b e = subst (P zero) (some_same e) q
    all q r (suc k) b e = r k b e

    by : Dec (P zero c) → Dec ((k : ℕ) (b : BlockVariable) → block_at bs k ≡ Some b → P (suc k) b) → Dec ((k : ℕ) (b : BlockVariable) → block_at (c ∷ bs) k ≡ Some b → P k b)
    by (yes q) (yes r) = yes (all q r)
    by (no n) r = no (λ h. n (h zero c refl))
    by (yes q) (no n) = no (λ h. n (λ k b e. h (suc k) b e))

pub both_decided : {A B : Type 0} → Dec A → Dec B → Dec (A × B)
both_decided (yes a) (yes b) = yes (a, b)
both_decided (no n) b = no (λ h. n h.0)
both_decided (yes a) (no n) = no (λ h. n h.1)

pub is_false : (b : Bool) → Dec (b ≡ false)
is_false true = no (λ e. cc)
is_false false = yes refl

pub identifies_decided : (C : NumberedCase) (f : ℕ → ℕ) → Dec (Identifies C f)
identifies_decided C f = each_block C.blocks (λ k b. (c : BlockVariable) × (block_at C.blocks (f k) ≡ Some c) × (c.block ≡ b.block) × (f (f k) ≡ f k)) (λ k b. by k b (block_at C.blocks (f k)) refl)
  where
    by : (k : ℕ) (b : BlockVariable) (x : Option BlockVariable) → block_at C.blocks (f k) ≡ x → Dec ((c : BlockVariable) × (block_at C.blocks (f k) ≡ Some c) × (c.block ≡ b.block) × (f (f k) ≡ f k))
    by k b None e = no (λ (c, q, r, z). none_some (sym e ∙ q))
    by k b (Some c) e = found (both_decided (same_block c.block b.block) (ℕ_discrete (f (f k)) (f k)))
      where
        found : Dec ((c.block ≡ b.block) × (f (f k) ≡ f k)) → Dec ((d : BlockVariable) × (block_at C.blocks (f k) ≡ Some d) × (d.block ≡ b.block) × (f (f k) ≡ f k))
        found (yes (q, r)) = yes (c, e, q, r)
        found (no n) = no (λ (d, q, r, z). n (subst (λ (x : BlockVariable). x.block ≡ b.block) (some_same (sym q ∙ e)) r, z))

-- all block variables that are so have A, or one has B
abbrev pub AllOrOne : List BlockVariable → (P A B : ℕ → BlockVariable → Type 0) → Type 0
AllOrOne bs P A B = ((k : ℕ) (b : BlockVariable) → block_at bs k ≡ Some b → P k b → A k b) ⊎ ((k : ℕ) × (b : BlockVariable) × (block_at bs k ≡ Some b) × P k b × B k b)

pub search_blocks : (bs : List BlockVariable) (P A B : ℕ → BlockVariable → Type 0) → ((k : ℕ) (b : BlockVariable) → Dec (P k b)) → ((k : ℕ) (b : BlockVariable) → block_at bs k ≡ Some b → P k b → A k b ⊎ B k b) → AllOrOne bs P A B
search_blocks [] P A B d h = inl (λ k b e q. absurd (none_some e))
search_blocks (c ∷ bs) P A B d h = by (d zero c) (search_blocks bs (λ k. P (suc k)) (λ k. A (suc k)) (λ k. B (suc k)) (λ k b. d (suc k) b) (λ k b e. h (suc k) b e))
  where
    all : (P zero c → A zero c) → ((k : ℕ) (b : BlockVariable) → block_at bs k ≡ Some b → P (suc k) b → A (suc k) b) → (k : ℕ) (b : BlockVariable) → block_at (c ∷ bs) k ≡ Some b → P k b → A k b
    all a r zero b e q = subst (A zero) (some_same e) (a (subst (P zero) (sym (some_same e)) q))
    all a r (suc k) b e q = r k b e q

    more : (P zero c → A zero c) → AllOrOne bs (λ k. P (suc k)) (λ k. A (suc k)) (λ k. B (suc k)) → AllOrOne (c ∷ bs) P A B
    more a (inl r) = inl (all a r)
    more a (inr (k, b, e, q, z)) = inr (suc k, b, e, q, z)

    one : P zero c → A zero c ⊎ B zero c → AllOrOne bs (λ k. P (suc k)) (λ k. A (suc k)) (λ k. B (suc k)) → AllOrOne (c ∷ bs) P A B
    one q (inl a) r = more (λ x. a) r
    one q (inr z) r = inr (zero, c, refl, q, z)

    by : Dec (P zero c) → AllOrOne bs (λ k. P (suc k)) (λ k. A (suc k)) (λ k. B (suc k)) → AllOrOne (c ∷ bs) P A B
    by (yes q) r = one q (h zero c refl q) r
    by (no n) r = more (λ q. absurd (n q)) r
