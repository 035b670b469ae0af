-- A typed case with block variables one is typed over the signature with entries, and so is what a block variable of it gives the variables of its block.
use Rattle.std.proofs.Common.{◌≡◌, ℕ, List, Some, sym, ap, ◌∙◌, subst}
use Rattle.lf.specs.Syntax.{Spine, LfType, Kind}
use Rattle.lf.specs.Substitution.{Image, substitute_type, reduce}
use Rattle.lf.specs.Skeletons.{constant_skeletons, context_skeletons}
use Rattle.lf.specs.Typing.{Signature, ImageHasType, IsContext, IsSignature, IsTypedSubstitution}
use Rattle.lf.specs.Variables.{onto}
use Rattle.lf.specs.Subordination.{Block, AreTypedBlocks, Member}
use Rattle.lf.proofs.Weakening.{declared_is_type}
use Rattle.lf_coverage.specs.Heads.{HaveSkeletons}
use Rattle.lf_coverage.proofs.ItemsContext.{outer_context}
use Rattle.lf_numbered.specs.EntryConstants.{IsFreeFrom, with_entries}
use Rattle.lf_numbered.specs.EntryPatterns.{some_images, variable_images}
use Rattle.lf_numbered.specs.MeetsReady.{IsPlainlyTyped, IdentifiedIsTyped}
use Rattle.lf_numbered.specs.NumberedCallsStores.{Identifies, identified}
use Rattle.lf_numbered.specs.NumberedCase.{NumberedCase, AreSomeTerms}
use Rattle.lf_numbered.specs.NumberedInstance.{block_at, first_constant, moved_constant, move_spine, move_type, move_types}
use Rattle.lf_numbered.specs.OwnTerms.{BlockVariable, blocks_of}
use Rattle.lf_numbered.specs.TypedNumbered.{IsTypedNumberedCase}
use Rattle.lf_numbered.specs.WritingRoom.{move_image, move_kind}
use Rattle.lf_numbered.proofs.EntryPatternsTyped.{typed_at, variable_is_typed}
use Rattle.lf_numbered.proofs.IdentifiedConstants.{kinds_stay, old_stays, types_stay, variable_stays}
use Rattle.lf_numbered.proofs.MovedConstants.{all_kept, blocks_stay, context_moved, contexts_kept, moved_from, onto_moved}
use Rattle.lf_numbered.proofs.Reading.{IsOld}
use Rattle.lf_numbered.proofs.WritingGap.{same_old, some_moved}
use Rattle.lf_numbered.proofs.WritingMove.{move_type_substituted, moved_image}
use mathlib.Core.Path.{fun_ext}

module _ (Σ : Signature) (ok : IsSignature Σ) (W : List Block) (typed : AreTypedBlocks Σ W) (first : ℕ) (free : IsFreeFrom Σ first) (C : NumberedCase) (tc : IsTypedNumberedCase Σ first W C) (π : ℕ → ℕ) (is : Identifies C π) where
  abbrev Bs : List Block
  Bs = blocks_of C.blocks

  abbrev Σ₁ : Signature
  Σ₁ = with_entries Σ first (blocks_of C.blocks)

  abbrev γ : ℕ → ℕ
  γ = moved_constant first (blocks_of C.blocks) (blocks_of C.blocks) π

  pub types : (c : ℕ) (A : LfType) → (with_entries Σ first (blocks_of C.blocks)).types c ≡ Some A → (with_entries Σ first (blocks_of C.blocks)).types (γ c) ≡ Some (move_type γ A)
  types = types_stay Σ ok W typed first free C tc.variables π is

  pub kinds : (a : ℕ) (K : Kind) → (with_entries Σ first (blocks_of C.blocks)).kinds a ≡ Some K → (with_entries Σ first (blocks_of C.blocks)).kinds a ≡ Some (move_kind γ K)
  kinds = kinds_stay Σ ok W typed first free C tc.variables π is

  old : (c : ℕ) → IsOld Σ c → γ c ≡ c
  old = old_stays Σ ok W typed first free C tc.variables π is

  -- values for the variables of a context of the signature itself
  pub values_moved : (G X : List LfType) (θ : ℕ → Image) → IsContext Σ G → IsTypedSubstitution Σ₁ G X θ → IsTypedSubstitution Σ₁ G (move_types γ X) (λ i. move_image γ (θ i))
  values_moved G X θ c s i A g = subst (ImageHasType Σ₁ (move_types γ X) (move_image γ (θ i))) (move_type_substituted γ θ A ∙ ap (substitute_type reduce (λ i. move_image γ (θ i))) (same_old Σ γ G A old (declared_is_type Σ ok G i A c g))) (moved_image γ Σ₁ Σ₁ types kinds X (θ i) (substitute_type reduce θ A) (s i A g))

  pub same_blocks : blocks_of (identified first π C).blocks ≡ blocks_of C.blocks
  same_blocks = blocks_stay γ C.blocks

  pub plain : IsPlainlyTyped (with_entries Σ first (blocks_of C.blocks)) W (identified first π C)
  plain = record {
    variables = context_moved γ Σ₁ Σ₁ types kinds C.variables tc.variables.variables;
    blocks = λ k d e.
        let (b, at, q) = moved_from γ C.blocks k d e in
        let (m, (υ, s, t), o) = typed_at Σ₁ W C.variables _ C.blocks tc.variables.blocks k b at in
        subst (λ (c : BlockVariable). Member c.block W × AreSomeTerms Σ₁ (move_types γ C.variables) c.block.some c.terms) (sym q) (
          m,
          ((λ i. move_image γ (υ i)), values_moved b.block.some C.variables υ (outer_context Σ b.block.entries b.block.some (typed b.block m)) s, ap (move_spine γ) t ∙ some_moved γ b.block.some υ),
        );
    local = subst (IsContext Σ₁) (onto_moved γ C.local C.variables) (context_moved γ Σ₁ Σ₁ types kinds (onto C.local C.variables) tc.local);
    given = subst (λ Γ. HaveSkeletons (constant_skeletons Σ₁) Γ (identified first π C).given) (sym (contexts_kept γ C.variables)) (all_kept γ Σ₁ Σ₁ types (context_skeletons C.variables) C.given tc.given);
    arguments = subst (λ Γ. HaveSkeletons (constant_skeletons Σ₁) Γ (identified first π C).arguments) (sym (contexts_kept γ (onto C.local C.variables)) ∙ ap context_skeletons (onto_moved γ C.local C.variables)) (all_kept γ Σ₁ Σ₁ types (context_skeletons (onto C.local C.variables)) C.arguments tc.arguments);
  }

  -- A block variable that stays itself gives what it gave, moved.
  pub variable_moved : (k : ℕ) (B : Block) (U : Spine) → block_at C.blocks k ≡ Some (record { block = B; terms = U }) → π k ≡ k → (i : ℕ) → move_image γ (variable_images first C.blocks k B U i) ≡ variable_images first (identified first π C).blocks k B (move_spine γ U) i
  variable_moved k B U at fixed i =
      variable_stays Σ ok W typed first free C tc.variables π is k B U at fixed i
      ∙ ap (λ Cs. variable_images_of Cs i) (sym same_blocks)
    where
      variable_images_of : List Block → ℕ → Image
      variable_images_of Cs = Rattle.lf_numbered.specs.EntryConstants.entry_images (first_constant first Cs k) (move_spine γ U) B.entries (some_images B.some (move_spine γ U))

  pub variable_typed : (k : ℕ) (B : Block) (U : Spine) → block_at (identified first π C).blocks k ≡ Some (record { block = B; terms = U }) → π k ≡ k → IsTypedSubstitution Σ₁ (onto B.entries B.some) (move_types γ C.variables) (variable_images first (identified first π C).blocks k B U)
  variable_typed k B U e fixed =
      let (b, at, q) = moved_from γ C.blocks k (record { block = B; terms = U }) e in
      let m : Member b.block W = (typed_at Σ₁ W C.variables _ C.blocks tc.variables.blocks k b at).0 in
      subst (λ (d : BlockVariable). IsTypedSubstitution Σ₁ (onto d.block.entries d.block.some) (move_types γ C.variables) (variable_images first (identified first π C).blocks k d.block d.terms)) (sym q)
      (subst (IsTypedSubstitution Σ₁ (onto b.block.entries b.block.some) (move_types γ C.variables)) (fun_ext (variable_moved k b.block b.terms at fixed)) (values_moved (onto b.block.entries b.block.some) C.variables (variable_images first C.blocks k b.block b.terms) (typed b.block m) (variable_is_typed Σ ok W typed first free C tc.variables k b.block b.terms at).0))

pub identified_is_typed : IdentifiedIsTyped
identified_is_typed Σ ok W typed first free C tc π is = subst (λ Cs. IsPlainlyTyped (with_entries Σ first Cs) W (identified first π C)) (sym (blocks_stay (moved_constant first (blocks_of C.blocks) (blocks_of C.blocks) π) C.blocks)) (plain Σ ok W typed first free C tc π is)
