-- A new block variable beside those of a case, with the number of one of an instance's that none of the case has: block variables that are one have one number.
use Rattle.std.proofs.Common.{◌≡◌, ℕ, length, inl, inr, sym, ap, ◌∙◌}
use Rattle.std.specs.Prelude.{Some}
use Rattle.lf.specs.Subordination.{Block}
use Rattle.lf_numbered.specs.NewBlock.{with_new_block}
use Rattle.lf_numbered.specs.NumberedCallsStores.{Identifies}
use Rattle.lf_numbered.specs.NumberedCase.{NumberedCase}
use Rattle.lf_numbered.specs.NumberedInstance.{block_at}
use Rattle.lf_numbered.specs.OwnTerms.{BlockVariable}
use Rattle.lf_numbered.proofs.EntryPatternsNumbers.{inside_list}
use Rattle.lf_numbered.proofs.IdentifiedNewBlock.{IsOldOrNew, which}
use Rattle.lf_numbered.proofs.MeetsInstanceFront.{with_number, number_new, number_other}

module _ (first : ℕ) (C : NumberedCase) (B : Block) (π : ℕ → ℕ) (i : Identifies C π) (next : π (length C.blocks) ≡ length C.blocks) (ν : ℕ → ℕ) (j : ℕ) (same : (k : ℕ) → ν (π k) ≡ ν k) (only : (k l : ℕ) (b c : BlockVariable) → block_at C.blocks k ≡ Some b → block_at C.blocks l ≡ Some c → ν k ≡ ν l → π k ≡ π l) (other : (k : ℕ) (b : BlockVariable) → block_at C.blocks k ≡ Some b → ν k ≡ j → ⊥) where
  abbrev ν' : ℕ → ℕ
  ν' = with_number (length C.blocks) j ν

  old_number : (k : ℕ) (b : BlockVariable) → block_at C.blocks k ≡ Some b → ν' k ≡ ν k
  old_number k b e = number_other (length C.blocks) j ν k (inside_list C.blocks k b e)

  pub same_new : (k : ℕ) (b : BlockVariable) → block_at (with_new_block B C).blocks k ≡ Some b → with_number (length C.blocks) j ν (π k) ≡ with_number (length C.blocks) j ν k
  same_new k b e = by (which first C B π i next k b e)
    where
      by : IsOldOrNew C B k b → ν' (π k) ≡ ν' k
      by (inl (d, at, r)) = let (c, q, s, t) = i k d at in old_number (π k) c q ∙ same k ∙ sym (old_number k d at)
      by (inr (q, z)) = ap ν' (ap π q ∙ next ∙ sym q)

  pub only_new : (k l : ℕ) (b c : BlockVariable) → block_at (with_new_block B C).blocks k ≡ Some b → block_at (with_new_block B C).blocks l ≡ Some c → with_number (length C.blocks) j ν k ≡ with_number (length C.blocks) j ν l → π k ≡ π l
  only_new k l b c e f q = by (which first C B π i next k b e) (which first C B π i next l c f)
    where
      by : IsOldOrNew C B k b → IsOldOrNew C B l c → π k ≡ π l
      by (inl (d, at, r)) (inl (g, to, s)) = only k l d g at to (sym (old_number k d at) ∙ q ∙ old_number l g to)
      by (inl (d, at, r)) (inr (s, z)) = absurd (other k d at (sym (old_number k d at) ∙ q ∙ ap ν' s ∙ number_new (length C.blocks) j ν))
      by (inr (r, y)) (inl (g, to, s)) = absurd (other l g to (sym (old_number l g to) ∙ sym q ∙ ap ν' r ∙ number_new (length C.blocks) j ν))
      by (inr (r, y)) (inr (s, z)) = ap π (r ∙ sym s)
