-- A new block variable for an instance for which none stood keeps block variables apart.
use Rattle.std.proofs.Common.{◌≡◌, ℕ, zero, suc, List, [], ◌∷◌, ◌++◌, ◌≤◌, length, inl, inr, refl, sym, ap, ◌∙◌, arith}
use Rattle.std.specs.Prelude.{◌⊎◌, Some, cond}
use Rattle.lf.specs.AtOnce.{shift_by}
use Rattle.lf.specs.Variables.{same_number}
use Rattle.lf.proofs.Checker.{number_itself}
use Rattle.lf_unification.specs.Offering.{local_arguments}
use Rattle.lf_coverage.proofs.Parts.{some_same}
use Rattle.lf_numbered.specs.NewInstance.{NewInstanceStaysApart, with_instance}
use Rattle.lf_numbered.specs.NumberedInstance.{block_at}
use Rattle.lf_numbered.specs.OwnTerms.{BlockVariable, rename_blocks}
use Rattle.lf_numbered.proofs.EntrySignature.{not_same}

-- a block variable of the longer list is an old one, renamed, or the new one
abbrev OldOrNew : List BlockVariable → BlockVariable → ℕ → BlockVariable → Type 0
OldOrNew bs n j b = ((d : BlockVariable) × (block_at bs j ≡ Some d) × (d.block ≡ b.block) × (suc j ≤ length bs)) ⊎ ((j ≡ length bs) × (b.block ≡ n.block))

old_or_new : (ρ : ℕ → ℕ) (n : BlockVariable) (bs : List BlockVariable) (j : ℕ) (b : BlockVariable) → block_at (rename_blocks ρ bs ++ n ∷ []) j ≡ Some b → OldOrNew bs n j b
old_or_new ρ n [] zero b e = inr (refl, ap (λ d. d.block) (sym (some_same e)))
old_or_new ρ n [] (suc j) b e = absurd cc
old_or_new ρ n (d ∷ bs) zero b e = inl (d, refl, ap (λ c. c.block) (some_same e), omega arith)
old_or_new ρ n (d ∷ bs) (suc j) b e = by (old_or_new ρ n bs j b e)
  where
    by : ((c : BlockVariable) × (block_at bs j ≡ Some c) × (c.block ≡ b.block) × (suc j ≤ length bs)) ⊎ ((j ≡ length bs) × (b.block ≡ n.block)) → ((c : BlockVariable) × (block_at bs j ≡ Some c) × (c.block ≡ b.block) × (suc (suc j) ≤ suc (length bs))) ⊎ ((suc j ≡ suc (length bs)) × (b.block ≡ n.block))
    by (inl (c, q, p, l)) = inl (c, q, p, omega (arith, l))
    by (inr (q, p)) = inr (ap suc q, p)

pub new_instance_stays_apart : NewInstanceStaysApart
new_instance_stays_apart C θ apart B φ new j k b c e f p q = by (old_or_new (shift_by (length B.some)) (record { block = B; terms = local_arguments B.some }) C.blocks j b e) (old_or_new (shift_by (length B.some)) (record { block = B; terms = local_arguments B.some }) C.blocks k c f)
  where
    old : (i : ℕ) → suc i ≤ length C.blocks → with_instance (length C.blocks) φ θ i ≡ θ i
    old i l = ap (λ y. cond y φ (θ i)) (not_same i (length C.blocks) (λ e. omega (arith, e, l)))

    last : (i : ℕ) → i ≡ length C.blocks → with_instance (length C.blocks) φ θ i ≡ φ
    last i e = ap (λ y. cond y φ (θ i)) (ap (same_number i) (sym e) ∙ number_itself i)

    by : ((d : BlockVariable) × (block_at C.blocks j ≡ Some d) × (d.block ≡ b.block) × (suc j ≤ length C.blocks)) ⊎ ((j ≡ length C.blocks) × (b.block ≡ B)) → ((d : BlockVariable) × (block_at C.blocks k ≡ Some d) × (d.block ≡ c.block) × (suc k ≤ length C.blocks)) ⊎ ((k ≡ length C.blocks) × (c.block ≡ B)) → j ≡ k
    by (inl (d, g, r, l)) (inl (d', g', r', l')) = apart j k d d' g g' (r ∙ p ∙ sym r') (sym (old j l) ∙ q ∙ old k l')
    by (inl (d, g, r, l)) (inr (z, r')) = absurd (new j d g (r ∙ p ∙ r') (sym (old j l) ∙ q ∙ last k z))
    by (inr (z, r)) (inl (d', g', r', l')) = absurd (new k d' g' (r' ∙ sym p ∙ r) (sym (old k l') ∙ sym q ∙ last j z))
    by (inr (z, r)) (inr (z', r')) = z ∙ sym z'
