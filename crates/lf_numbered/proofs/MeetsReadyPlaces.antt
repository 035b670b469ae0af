-- Beside each place of a pattern a typed case, with block variables one and perhaps a new one, is typed, and so is what stands outside the pattern's clause.
use Rattle.std.proofs.Common.{◌≡◌, ℕ, ◌⊎◌, List, ◌∷◌, length, inl, inr, refl, sym, ap, ◌∙◌, subst, Some}
use Rattle.std.specs.Prelude.{Bool}
use Rattle.lf.specs.Syntax.{Spine, LfType}
use Rattle.lf.specs.Substitution.{Image}
use Rattle.lf.specs.Typing.{Signature, IsSignature, IsTypedSubstitution}
use Rattle.lf.specs.Variables.{onto}
use Rattle.lf.specs.Subordination.{Block, AreTypedBlocks, Member}
use Rattle.lf_checks.specs.Clause.{Clause}
use Rattle.lf_cases.specs.Cover.{before}
use Rattle.lf_cases.specs.Missing.{blocks_with}
use Rattle.lf_cases.specs.Pattern.{Origin}
use Rattle.lf_cases.proofs.BlockEntries.{onto_onto}
use Rattle.lf_coverage.proofs.ItemsContext.{outer_context}
use Rattle.lf_coverage.proofs.Parts.{some_same}
use Rattle.lf_coverage.proofs.Standing.{before_typed}
use Rattle.lf_numbered.specs.EntryConstants.{IsFreeFrom, with_entries}
use Rattle.lf_numbered.specs.EntryPatterns.{variable_images}
use Rattle.lf_numbered.specs.MeetsReady.{IsPlainlyTyped, PlacedCaseIsTyped}
use Rattle.lf_numbered.specs.NewBlock.{with_new_block}
use Rattle.lf_numbered.specs.NumberedCallsStores.{Identifies, IsPutBeside, constant_beside, entry_beside, new_beside, identified}
use Rattle.lf_numbered.specs.NumberedCase.{NumberedCase}
use Rattle.lf_numbered.specs.NumberedInstance.{block_at}
use Rattle.lf_numbered.specs.OwnTerms.{BlockVariable, blocks_of}
use Rattle.lf_numbered.specs.TypedNumbered.{IsTypedNumberedCase}
use Rattle.lf_numbered.proofs.IdentifiedNewBlock.{identifies_new, same_identified}
use Rattle.lf_numbered.proofs.MeetsReadyIdentified.{plain, variable_typed}
use Rattle.lf_numbered.proofs.MoreWorlds.{case_with_more}
use Rattle.lf_numbered.proofs.MovedConstants.{blocks_stay, moved_from}
use Rattle.lf_numbered.proofs.OwnStoresNewBlock.{new_block_stays_typed}
use Rattle.lf_numbered.proofs.RenamedBlocks.{moved_length}

-- The case that has become J by identifying block variables: C itself, or C with a new block variable; and what stands outside the clause.
pub record Placed (Σ : Signature) (first : ℕ) (V : List Block) (C : NumberedCase) (π : ℕ → ℕ) (c : Clause) (J : NumberedCase) (φ : ℕ → Image) : Type 0 where
  pub from : NumberedCase
  pub comes : (from ≡ C) ⊎ ((B : Block) × Member B V × (from ≡ with_new_block B C))
  pub typed : IsTypedNumberedCase Σ first V from
  pub identifies : Identifies from π
  pub becomes : identified first π from ≡ J
  pub outer : IsTypedSubstitution (with_entries Σ first (blocks_of from.blocks)) c.outer J.variables φ

module _ (Σ : Signature) (ok : IsSignature Σ) (W : List Block) (first : ℕ) (free : IsFreeFrom Σ first) (C : NumberedCase) (tc : IsTypedNumberedCase Σ first W C) (π : ℕ → ℕ) (is : Identifies C π) where
  -- an entry of a block variable that stays itself
  entry_values : (V : List Block) → AreTypedBlocks Σ V → (D : NumberedCase) → IsTypedNumberedCase Σ first V D → Identifies D π → (B : Block) (later : List LfType) (E : LfType) (es : List LfType) → onto later (E ∷ es) ≡ B.entries → (k : ℕ) (U : Spine) → block_at (identified first π D).blocks k ≡ Some (record { block = B; terms = U }) → π k ≡ k → IsTypedSubstitution (with_entries Σ first (blocks_of D.blocks)) (onto es B.some) (identified first π D).variables (before later (variable_images first (identified first π D).blocks k B U))
  entry_values V typed D td id B later E es e k U at fixed =
      let Σ₁ : Signature = with_entries Σ first (blocks_of D.blocks) in
      let G : List LfType = (identified first π D).variables in
      let shape : onto B.entries B.some ≡ onto later (E ∷ onto es B.some) = ap (λ L. onto L B.some) (sym e) ∙ onto_onto later (E ∷ es) B.some in
      before_typed Σ₁ G later E (onto es B.some) (variable_images first (identified first π D).blocks k B U) (subst (λ L. IsTypedSubstitution Σ₁ L G (variable_images first (identified first π D).blocks k B U)) shape (variable_typed Σ ok V typed first free D td π id k B U at fixed))

  pub settled : (c : Clause) (o : Origin c) (b : Bool) → AreTypedBlocks Σ (blocks_with o W) → (J : NumberedCase) (φ : ℕ → Image) → IsPutBeside first (identified first π C) π b c o J φ → Placed Σ first (blocks_with o W) C π c J φ
  settled c o b typed J φ (constant_beside U) = record { from = C; comes = inl refl; typed = tc; identifies = is; becomes = refl; outer = λ i A g. absurd g }
  settled c o b typed J φ (entry_beside B later E es e k U at fixed z) =
      let V : List Block = B ∷ W in
      let td : IsTypedNumberedCase Σ first V C = case_with_more Σ first W V (λ D m. inr m) C tc in
      record { from = C; comes = inl refl; typed = td; identifies = is; becomes = refl; outer = entry_values V typed C td is B later E es e k U at fixed }
  settled c o b typed J φ (new_beside B later E es e U n fixed at) =
      let V : List Block = B ∷ W in
      let td : IsTypedNumberedCase Σ first V C = case_with_more Σ first W V (λ D m. inr m) C tc in
      let l : length (identified first π C).blocks ≡ length C.blocks = moved_length _ C.blocks in
      let f : π (length C.blocks) ≡ length C.blocks = ap π (sym l) ∙ fixed ∙ l in
      let D : NumberedCase = with_new_block B C in
      let tn : IsTypedNumberedCase Σ first V D = new_block_stays_typed Σ ok V typed first free C td B (inl refl) in
      let id : Identifies D π = identifies_new first C B π is f in
      let same : with_new_block B (identified first π C) ≡ identified first π D = sym (same_identified first C B π is f Σ free (outer_context Σ B.entries B.some (typed B (inl refl)))) in
      let k : ℕ = length (identified first π C).blocks in
      record {
        from = D;
        comes = inr (B, inl refl, refl);
        typed = tn;
        identifies = id;
        becomes = sym same;
        outer = subst (λ (H : NumberedCase). IsTypedSubstitution (with_entries Σ first (blocks_of D.blocks)) (onto es B.some) H.variables (before later (variable_images first H.blocks k B U))) (sym same) (entry_values V typed D tn id B later E es e k U (subst (λ (H : NumberedCase). block_at H.blocks k ≡ Some (record { block = B; terms = U })) same at) fixed);
      }

  pub placed_case : (c : Clause) (o : Origin c) (b : Bool) → AreTypedBlocks Σ (blocks_with o W) → (J : NumberedCase) (φ : ℕ → Image) → IsPutBeside first (identified first π C) π b c o J φ → IsPlainlyTyped (with_entries Σ first (blocks_of J.blocks)) (blocks_with o W) J × IsTypedSubstitution (with_entries Σ first (blocks_of J.blocks)) c.outer J.variables φ
  placed_case c o b typed J φ x =
      let s : Placed Σ first (blocks_with o W) C π c J φ = settled c o b typed J φ x in
      let D : NumberedCase = s.from in
      let same : blocks_of D.blocks ≡ blocks_of J.blocks = sym (blocks_stay _ D.blocks) ∙ ap (λ (H : NumberedCase). blocks_of H.blocks) s.becomes in (
        subst (λ Bs. IsPlainlyTyped (with_entries Σ first Bs) (blocks_with o W) J) same (subst (IsPlainlyTyped (with_entries Σ first (blocks_of D.blocks)) (blocks_with o W)) s.becomes (plain Σ ok (blocks_with o W) typed first free D s.typed π s.identifies)),
        subst (λ Bs. IsTypedSubstitution (with_entries Σ first Bs) c.outer J.variables φ) same s.outer,
      )

  -- block variables that are one have one block
  pub placed_same : (c : Clause) (o : Origin c) (b : Bool) → AreTypedBlocks Σ (blocks_with o W) → (J : NumberedCase) (φ : ℕ → Image) → IsPutBeside first (identified first π C) π b c o J φ → (k : ℕ) (d e : BlockVariable) → block_at J.blocks k ≡ Some d → block_at J.blocks (π k) ≡ Some e → e.block ≡ d.block
  placed_same c o b typed J φ x k d e p q =
      let s : Placed Σ first (blocks_with o W) C π c J φ = settled c o b typed J φ x in
      let D : NumberedCase = s.from in
      let (d', pd, rd) = moved_from _ D.blocks k d (ap (λ (H : NumberedCase). block_at H.blocks k) s.becomes ∙ p) in
      let (e', pe, re) = moved_from _ D.blocks (π k) e (ap (λ (H : NumberedCase). block_at H.blocks (π k)) s.becomes ∙ q) in
      let (e2, pe2, same, f) = s.identifies k d' pd in
      ap (λ (h : BlockVariable). h.block) re ∙ ap (λ (h : BlockVariable). h.block) (some_same (sym pe ∙ pe2)) ∙ same ∙ sym (ap (λ (h : BlockVariable). h.block) rd)

pub placed_case_is_typed : PlacedCaseIsTyped
placed_case_is_typed Σ ok W first free C tc π is c o b typed J φ x = placed_case Σ ok W first free C tc π is c o b typed J φ x
