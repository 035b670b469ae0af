-- The places of a pattern beside a case whose block variables are one by given numbers are searched: the case itself, each block variable that is of the
-- entry's block, and a new one.
use Rattle.std.proofs.Common.{◌≡◌, ℕ, zero, ◌⊎◌, List, ◌∷◌, length, inl, inr, refl, sym, ap, ◌∙◌, subst}
use Rattle.std.specs.Prelude.{Bool, true, false, Some}
use Rattle.lf.specs.Syntax.{Spine, LfType}
use Rattle.lf.specs.AtOnce.{shift_by}
use Rattle.lf.specs.Substitution.{Image, keep}
use Rattle.lf.specs.Variables.{onto}
use Rattle.lf.specs.Subordination.{Block}
use Rattle.lf_unification.specs.Offering.{local_arguments}
use Rattle.lf_checks.specs.Clause.{Clause, entry_clause, constant_clause}
use Rattle.lf_checks.proofs.SmallerDecided.{is_true}
use Rattle.lf_cases.specs.Cover.{before}
use Rattle.lf_cases.specs.Pattern.{Origin, of_constant, of_entry}
use Rattle.lf_coverage.proofs.MatchInstance.{implied}
use Rattle.lf_coverage.proofs.Parts.{some_same}
use Rattle.lf_numbered.specs.EntryPatterns.{variable_images}
use Rattle.lf_numbered.specs.NewBlock.{with_new_block}
use Rattle.lf_numbered.specs.NumberedCallsStores.{IsPutBeside, constant_beside, entry_beside, new_beside}
use Rattle.lf_numbered.specs.NumberedCase.{NumberedCase}
use Rattle.lf_numbered.specs.NumberedInstance.{block_at}
use Rattle.lf_numbered.specs.OwnTerms.{BlockVariable, rename_blocks}
use Rattle.lf_numbered.proofs.EntryPatternsNumbers.{last_at}
use Rattle.lf_numbered.proofs.EntryTermsDecided.{same_block, three_decided}
use native.Mathlib.Decide.{ℕ_discrete}
use Rattle.lf_numbered.proofs.MeetsAnswersDecided.{both_decided, is_false, search_blocks}
use Rattle.lf_numbered.proofs.RenamedBlocks.{renamed_length}

-- What a place is.
module _ (first : ℕ) (E : NumberedCase) (f : ℕ → ℕ) (b : Bool) where
  abbrev pub by_block : Block → List LfType → NumberedCase → ℕ → Spine → ℕ → Image
  by_block B later J k U = before later (variable_images first J.blocks k B U)

  abbrev pub IsThere : {c : Clause} → Origin c → NumberedCase → (ℕ → Image) → Type 0
  IsThere (of_constant U) J φ = (J ≡ E) × (φ ≡ keep)
  IsThere (of_entry B later F es e) J φ = ((k : ℕ) × (U : Spine) × (block_at E.blocks k ≡ Some (record { block = B; terms = U })) × (f k ≡ k) × (b ≡ true → k ≡ f zero) × (J ≡ E) × (φ ≡ by_block B later E k U)) ⊎ ((U : Spine) × (b ≡ false) × (f (length E.blocks) ≡ length E.blocks) × (block_at (with_new_block B E).blocks (length E.blocks) ≡ Some (record { block = B; terms = U })) × (J ≡ with_new_block B E) × (φ ≡ by_block B later (with_new_block B E) (length E.blocks) U))

  pub is_there : {c : Clause} {o : Origin c} {J : NumberedCase} {φ : ℕ → Image} → IsPutBeside first E f b c o J φ → IsThere o J φ
  is_there (constant_beside U) = (refl, refl)
  is_there (entry_beside B later F es e k U at fixed z) = inl (k, U, at, fixed, z, refl, refl)
  is_there (new_beside B later F es e U n fixed at) = inr (U, n, fixed, at, refl, refl)

  -- all places have R, or one has S
  module _ (R S : NumberedCase → (ℕ → Image) → Type 0) where
    abbrev Searched : (c : Clause) → Origin c → Type 0
    Searched c o = ((J : NumberedCase) (φ : ℕ → Image) → IsPutBeside first E f b c o J φ → R J φ) ⊎ ((J : NumberedCase) × (φ : ℕ → Image) × IsPutBeside first E f b c o J φ × S J φ)

    abbrev Answers : (c : Clause) → Origin c → Type 0
    Answers c o = (J : NumberedCase) (φ : ℕ → Image) → IsPutBeside first E f b c o J φ → R J φ ⊎ S J φ

    of_constants : (U : LfType) → Answers (constant_clause U) (of_constant U) → Searched (constant_clause U) (of_constant U)
    of_constants U h = by (h E keep (constant_beside U))
      where
        by : R E keep ⊎ S E keep → Searched (constant_clause U) (of_constant U)
        by (inl r) = inl (λ J φ x. let (e, q) : IsThere (of_constant U) J φ = is_there x in subst (λ D. R D φ) (sym e) (subst (R E) (sym q) r))
        by (inr s) = inr (E, keep, constant_beside U, s)

    module _ (B : Block) (later : List LfType) (F : LfType) (es : List LfType) (e : onto later (F ∷ es) ≡ B.entries) (h : Answers (entry_clause B es F) (of_entry B later F es e)) where
      abbrev c : Clause
      c = entry_clause B es F

      abbrev o : Origin (entry_clause B es F)
      o = of_entry B later F es e

      abbrev P : ℕ → BlockVariable → Type 0
      P k v = (v.block ≡ B) × (f k ≡ k) × (b ≡ true → k ≡ f zero)

      beside : (k : ℕ) (v : BlockVariable) → block_at E.blocks k ≡ Some v → P k v → IsPutBeside first E f b c o E (by_block B later E k v.terms)
      beside k v at (q, fixed, z) = entry_beside B later F es e k v.terms (at ∙ ap (λ D. Some (record { block = D; terms = v.terms })) q) fixed z

      of_case : ((k : ℕ) (v : BlockVariable) → block_at E.blocks k ≡ Some v → P k v → R E (by_block B later E k v.terms)) ⊎ ((k : ℕ) × (v : BlockVariable) × (block_at E.blocks k ≡ Some v) × P k v × S E (by_block B later E k v.terms))
      of_case = search_blocks E.blocks P (λ k v. R E (by_block B later E k v.terms)) (λ k v. S E (by_block B later E k v.terms)) (λ k v. three_decided (same_block v.block B) (ℕ_discrete (f k) k) (implied (is_true b) (ℕ_discrete k (f zero)))) (λ k v at q. h E (by_block B later E k v.terms) (beside k v at q))

      -- the new block variable's place
      abbrev N : NumberedCase
      N = with_new_block B E

      abbrev n : ℕ
      n = length E.blocks

      abbrev L : Spine
      L = local_arguments B.some

      new_at : block_at N.blocks n ≡ Some (record { block = B; terms = L })
      new_at = ap (block_at N.blocks) (sym (renamed_length (shift_by (length B.some)) E.blocks)) ∙ last_at (rename_blocks (shift_by (length B.some)) E.blocks) (record { block = B; terms = L })

      abbrev IsNew : Type 0
      IsNew = (b ≡ false) × (f n ≡ n)

      new_place : IsNew → IsPutBeside first E f b c o N (by_block B later N n L)
      new_place (r, fixed) = new_beside B later F es e L r fixed new_at

      of_new : (IsNew → R N (by_block B later N n L)) ⊎ (IsNew × S N (by_block B later N n L))
      of_new = by (both_decided (is_false b) (ℕ_discrete (f n) n))
        where
          answer : IsNew → R N (by_block B later N n L) ⊎ S N (by_block B later N n L) → (IsNew → R N (by_block B later N n L)) ⊎ (IsNew × S N (by_block B later N n L))
          answer i (inl r) = inl (λ j. r)
          answer i (inr s) = inr (i, s)

          by : Dec IsNew → (IsNew → R N (by_block B later N n L)) ⊎ (IsNew × S N (by_block B later N n L))
          by (yes i) = answer i (h N (by_block B later N n L) (new_place i))
          by (no m) = inl (λ i. absurd (m i))

      all_refuted : ((k : ℕ) (v : BlockVariable) → block_at E.blocks k ≡ Some v → P k v → R E (by_block B later E k v.terms)) → (IsNew → R N (by_block B later N n L)) → (J : NumberedCase) (φ : ℕ → Image) → IsThere o J φ → R J φ
      all_refuted r s J φ (inl (k, U, at, fixed, z, q, w)) = subst (λ D. R D φ) (sym q) (subst (R E) (sym w) (r k (record { block = B; terms = U }) at (refl, fixed, z)))
      all_refuted r s J φ (inr (U, x, fixed, at, q, w)) = subst (λ D. R D φ) (sym q) (subst (R N) (sym (w ∙ ap (by_block B later N n) (ap (λ (v : BlockVariable). v.terms) (some_same (sym at ∙ new_at))))) (s (x, fixed)))

      of_entries : Searched (entry_clause B es F) (of_entry B later F es e)
      of_entries = by of_case of_new
        where
          by : ((k : ℕ) (v : BlockVariable) → block_at E.blocks k ≡ Some v → P k v → R E (by_block B later E k v.terms)) ⊎ ((k : ℕ) × (v : BlockVariable) × (block_at E.blocks k ≡ Some v) × P k v × S E (by_block B later E k v.terms)) → (IsNew → R N (by_block B later N n L)) ⊎ (IsNew × S N (by_block B later N n L)) → Searched c o
          by (inl r) (inl s) = inl (λ J φ x. all_refuted r s J φ (is_there x))
          by (inr (k, v, at, q, s)) y = inr (E, by_block B later E k v.terms, beside k v at q, s)
          by (inl r) (inr (i, s)) = inr (N, by_block B later N n L, new_place i, s)

    pub search : (c : Clause) (o : Origin c) → Answers c o → Searched c o
    search c (of_constant U) h = of_constants U h
    search c (of_entry B later F es e) h = of_entries B later F es e h
