-- A case with a new block variable for an instance of the context: its block variables are one as they were, and the new one is itself.
use Rattle.std.proofs.Common.{◌≡◌, ℕ, zero, ◌<◌, ◌≤◌, length, inl, inr, sym, ap, ◌∙◌, arith}
use Rattle.std.specs.Prelude.{true, cond, Some}
use Rattle.lf.specs.Substitution.{Image, keep}
use Rattle.lf.specs.Variables.{same_number}
use Rattle.lf.specs.Subordination.{Block}
use Rattle.lf.proofs.Checker.{number_itself}
use Rattle.lf_checks.specs.Clause.{among}
use Rattle.lf_numbered.specs.NewBlock.{with_new_block}
use Rattle.lf_numbered.specs.NewInstance.{with_instance}
use Rattle.lf_numbered.specs.NumberedCallsStores.{Identifies}
use Rattle.lf_numbered.specs.NumberedCase.{NumberedCase}
use Rattle.lf_numbered.specs.NumberedInstance.{block_at}
use Rattle.lf_numbered.specs.OwnTerms.{BlockVariable}
use Rattle.lf_numbered.proofs.EntryPatternsNumbers.{inside_list}
use Rattle.lf_numbered.proofs.EntrySignature.{not_same}
use Rattle.lf_numbered.proofs.IdentifiedNewBlock.{IsOldOrNew, identifies_new, which}
use Rattle.lf_numbered.proofs.MeetsTupleWriting.{AreOne}

module _ (first : ℕ) (C : NumberedCase) (B : Block) (π : ℕ → ℕ) (i : Identifies C π) (below : (k : ℕ) → π k ≤ k) (stays : π (length C.blocks) ≡ length C.blocks) where
  less_old : (j : ℕ) → j < length C.blocks → π j < length C.blocks
  less_old j l = let m = below j in omega (arith, l, m)

  pub one_new : (θ : ℕ → ℕ → Image) (φ : ℕ → Image) → AreOne C θ π → ((k : ℕ) (b : BlockVariable) → block_at C.blocks k ≡ Some b → b.block ≡ B → (v : ℕ) → among b.block.entries zero ≡ true → θ k zero ≡ keep v → φ zero ≡ keep v → ⊥) → AreOne (with_new_block B C) (with_instance (length C.blocks) φ θ) π
  one_new θ φ one none = record { identifies = identifies_new first C B π i stays; same = same; only = only }
    where
      θ₂ : ℕ → ℕ → Image
      θ₂ = with_instance (length C.blocks) φ θ

      old : (j : ℕ) → j < length C.blocks → with_instance (length C.blocks) φ θ j ≡ θ j
      old j l = ap (λ b. cond b φ (θ j)) (not_same j (length C.blocks) (λ e. omega (arith, e, l)))

      last : (j : ℕ) → j ≡ length C.blocks → with_instance (length C.blocks) φ θ j ≡ φ
      last j e = ap (λ b. cond b φ (θ j)) (ap (same_number j) (sym e) ∙ number_itself j)

      same : (k : ℕ) (b : BlockVariable) → block_at (with_new_block B C).blocks k ≡ Some b → with_instance (length C.blocks) φ θ (π k) ≡ with_instance (length C.blocks) φ θ k
      same k b e = by (which first C B π i stays k b e)
        where
          by : IsOldOrNew C B k b → with_instance (length C.blocks) φ θ (π k) ≡ with_instance (length C.blocks) φ θ k
          by (inl (d, at, q)) = let l = inside_list C.blocks k d at in old (π k) (less_old k l) ∙ one.same k d at ∙ sym (old k l)
          by (inr (q, p)) = ap (with_instance (length C.blocks) φ θ) (ap π q ∙ stays ∙ sym q)

      only : (j k : ℕ) (b c : BlockVariable) → block_at (with_new_block B C).blocks j ≡ Some b → block_at (with_new_block B C).blocks k ≡ Some c → among b.block.entries zero ≡ true → c.block ≡ b.block → (v : ℕ) → with_instance (length C.blocks) φ θ j zero ≡ keep v → with_instance (length C.blocks) φ θ k zero ≡ keep v → π j ≡ π k
      only j k b c e f a q v x y = by (which first C B π i stays j b e) (which first C B π i stays k c f)
        where
          by : IsOldOrNew C B j b → IsOldOrNew C B k c → π j ≡ π k
          by (inl (d, at, p)) (inl (d', at', p')) = one.only j k d d' at at' (ap (λ (D : Block). among D.entries zero) (sym p) ∙ a) (sym p' ∙ q ∙ p) v (ap (λ ψ. ψ zero) (sym (old j (inside_list C.blocks j d at))) ∙ x) (ap (λ ψ. ψ zero) (sym (old k (inside_list C.blocks k d' at'))) ∙ y)
          by (inl (d, at, p)) (inr (z, p')) = absurd (none j d at (sym p ∙ sym q ∙ ap (λ (b : BlockVariable). b.block) p') v (ap (λ (D : Block). among D.entries zero) (sym p) ∙ a) (ap (λ ψ. ψ zero) (sym (old j (inside_list C.blocks j d at))) ∙ x) (ap (λ ψ. ψ zero) (sym (last k z)) ∙ y))
          by (inr (z, p)) (inl (d', at', p')) = absurd (none k d' at' (sym p' ∙ q ∙ ap (λ (b : BlockVariable). b.block) p) v (ap (λ (D : Block). among D.entries zero) (sym p' ∙ q) ∙ a) (ap (λ ψ. ψ zero) (sym (old k (inside_list C.blocks k d' at'))) ∙ y) (ap (λ ψ. ψ zero) (sym (last j z)) ∙ x))
          by (inr (z, p)) (inr (z', p')) = ap π (z ∙ sym z')
