-- A head that is an entry of a new instance is that of the new block variable's constant.
use Rattle.std.proofs.Common.{◌≡◌, ℕ, zero, List, [], ◌∷◌, ◌+◌, ◌≤◌, length, inl, inr, sym, ap, ◌∙◌, subst, arith}
use Rattle.std.specs.Prelude.{◌⊎◌, Some, cond}
use Rattle.lf.specs.Syntax.{Head, variable, LfType}
use Rattle.lf.specs.Substitution.{Image, keep, reduce}
use Rattle.lf.specs.Typing.{Signature}
use Rattle.lf.specs.Variables.{onto, target}
use Rattle.lf.specs.Subordination.{Block}
use Rattle.lf.proofs.Checker.{number_itself}
use Rattle.lf.proofs.Target.{target_of}
use Rattle.lf_unification.specs.Offering.{local_arguments}
use Rattle.lf_cases.specs.Cover.{place_of}
use Rattle.lf_cases.specs.Reached.{taken}
use Rattle.lf_coverage.specs.OrElse.{or_else}
use Rattle.lf_numbered.specs.EntryConstants.{IsFreeFrom, entry_constant, entry_constant_type, entry_images, entry_type, with_entries}
use Rattle.lf_numbered.specs.NewBlock.{with_new_block}
use Rattle.lf_numbered.specs.NewInstance.{HeadsAreOverEntries, with_instance}
use Rattle.lf_numbered.specs.NumberedCase.{NumberedCase}
use Rattle.lf_numbered.specs.NumberedHeads.{IsNumberedHead, of_entry}
use Rattle.lf_numbered.specs.Numbering.{entries_of}
use Rattle.lf_numbered.specs.OwnTerms.{blocks_of}
use Rattle.lf_numbered.specs.Reading.{entry_reading, read_entry, variable_past}
use Rattle.lf_numbered.proofs.NewInstance.{as_many, new_blocks_are, new_instance_is_of_new_block}
use Rattle.lf_numbered.proofs.NumberedHeads.{left_zero, numbered_heads_are_all, target_over}
use Rattle.lf_numbered.proofs.NumberingBlocks.{entry_behind}
use Rattle.lf_numbered.proofs.StaysApart.{new_instance_stays_apart}

behind_first : (a b c : ℕ) → a ≤ (a + b) + c
behind_first a b c = omega arith

-- the constant of the entry
module _ (Σ : Signature) (first : ℕ) (free : IsFreeFrom Σ first) (C : NumberedCase) (θ : ℕ → ℕ → Image) (n a : ℕ) (B : Block) (later : List LfType) (E : LfType) (es : List LfType) (φ : ℕ → Image) (v : ℕ) (q : onto later (E ∷ es) ≡ B.entries) (t : target E ≡ a) (k : φ (place_of later) ≡ keep v) where
  abbrev Bs : List Block
  Bs = blocks_of C.blocks

  abbrev Bs₂ : List Block
  Bs₂ = blocks_of (with_new_block B C).blocks

  abbrev θ₂ : ℕ → ℕ → Image
  θ₂ = with_instance (length C.blocks) φ θ

  abbrev c : ℕ
  c = (first + entries_of (blocks_of C.blocks)) + length es

  pub found : entry_constant zero first Bs₂ c ≡ Some (record { number = zero + length Bs; block = B; from = first + entries_of Bs; place = place_of later; entry = E; before = es })
  found = ap (λ Ds. entry_constant zero first Ds c) (new_blocks_are B C) ∙ entry_behind zero first Bs B [] later E es q

  pub of_type : (with_entries Σ first Bs₂).types c ≡ Some (entry_constant_type (first + entries_of Bs) B.some es E)
  of_type = ap (λ z. or_else z (entry_type (entry_constant zero first Bs₂ c))) (free.types_free c (behind_first first (entries_of Bs) (length es))) ∙ ap entry_type found

  last : θ₂ (zero + length Bs) ≡ φ
  last = ap θ₂ (left_zero (length Bs) ∙ as_many C.blocks) ∙ ap (λ b. cond b φ (θ (length C.blocks))) (number_itself (length C.blocks))

  pub reads : entry_reading first Bs₂ θ₂ n c ≡ Some (length B.some, v + n)
  reads = ap (read_entry θ₂ n) found ∙ ap (λ z. Some (length B.some, variable_past n z)) (ap (λ ψ. ψ (place_of later)) last ∙ k)

  new_head : IsNumberedHead Σ first (with_new_block B C) θ₂ n a (variable (v + n))
  new_head = of_entry c (length B.some) (v + n) (entry_constant_type (first + entries_of Bs) B.some es E) of_type (target_over B.some (Rattle.lf.specs.Substitution.substitute_type reduce (entry_images (first + entries_of Bs) (local_arguments B.some) es keep) E) ∙ target_of reduce (entry_images (first + entries_of Bs) (local_arguments B.some) es keep) E ∙ t) reads

pub heads_are_over_entries : HeadsAreOverEntries
heads_are_over_entries Σ Σ' ok S x W typed first free C tv G w θ σ i apart y A at s =
    let (N, h, T, e, q, r) = numbered_heads_are_all Σ Σ' ok S x W typed first free C G w θ σ i y A at s in
    (N, h, T, e, q, by h r)
  where
    by : (h : Head) → IsNumberedHead Σ first C θ (length (taken A)) (target A) h ⊎ Rattle.lf_numbered.specs.NumberedHeads.IsNewEntry w C θ (length (taken A)) (target A) h → IsNumberedHead Σ first C θ (length (taken A)) (target A) h ⊎ ((B : Block) × (φ : ℕ → Image) × (ρ : ℕ → Image) × Rattle.lf.specs.Subordination.Member B W × Rattle.lf_numbered.specs.NumberedCase.IsNumberedInstance w first (with_new_block B C) (with_instance (length C.blocks) φ θ) ρ × ((i : ℕ) → ρ (i + length B.some) ≡ σ i) × Rattle.lf_numbered.specs.NewInstance.AreApart (with_new_block B C) (with_instance (length C.blocks) φ θ) × IsNumberedHead Σ first (with_new_block B C) (with_instance (length C.blocks) φ θ) (length (taken A)) (target A) h)
    by h (inl o) = inl o
    by h (inr z) =
        let (ρ, j, p) = new_instance_is_of_new_block Σ Σ' ok S x W typed first free C tv G w θ σ i z.block z.of_worlds z.instance z.in_context in
        inr (z.block, z.instance, ρ, z.of_worlds, j, p, new_instance_stays_apart C θ apart z.block z.instance z.is_new, subst (IsNumberedHead Σ first (with_new_block z.block C) (with_instance (length C.blocks) z.instance θ) (length (taken A)) (target A)) (sym z.is_head) (new_head Σ first free C θ (length (taken A)) (target A) z.block z.later z.entry z.before z.instance z.number z.entries z.family z.at))
