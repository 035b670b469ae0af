-- The store of a case by number and a pattern at its place is well formed, where both are typed and the case is typed beside the pattern.
use Rattle.std.proofs.Common.{◌≡◌, ℕ, zero, List, [], length, sym, ap, ◌∙◌, subst, arith, ◌+◌}
use Rattle.std.specs.Prelude.{Some}
use Rattle.lf.specs.Syntax.{LfType, Kind, rename_spine, rename_type}
use Rattle.lf.specs.Substitution.{Image, keep, put, rename_image, substitute_type, reduce}
use Rattle.lf.specs.AtOnce.{shift_by, lift_renaming_by}
use Rattle.lf.specs.Entries.{quantifiers}
use Rattle.lf.specs.Typing.{Signature, ImageHasType, IsType, IsContext, IsSignature, IsTypedRenaming, IsTypedSubstitution}
use Rattle.lf.specs.Variables.{target, binders, onto}
use Rattle.lf.specs.Subordination.{Block, AreTypedBlocks}
use Rattle.lf.specs.Worlds.{lift_over, instance}
use Rattle.lf.proofs.Renaming.{reduction_is_natural}
use Rattle.lf.proofs.TypeLaws.{rename_substituted_type, skeleton_renamed}
use Rattle.lf.proofs.Weakening.{renaming_keeps_typing}
use Rattle.lf.proofs.Substitution.{skeleton_context_of, substitution_keeps_types}
use Rattle.lf.proofs.Target.{target_of}
use Rattle.lf_unification.specs.OpenTyping.{skeletons_of}
use Rattle.lf_unification.specs.PartialInstance.{IsFilling}
use Rattle.lf_unification.specs.Solving.{IsWellFormed}
use Rattle.lf_unification.specs.Unifiers.{Equation}
use Rattle.lf_unification.proofs.EquationLemmas.{solves_first}
use Rattle.lf_checks.specs.Clause.{scope}
use Rattle.lf_cases.specs.OutputGoal.{renumber}
use Rattle.lf_cases.specs.Pattern.{Pattern}
use Rattle.lf_cases.proofs.Local.{binders_substituted}
use Rattle.lf_cases.proofs.OutputItems.{length_instance}
use Rattle.lf_totality.proofs.RaisedOutputs.{binders_over}
use Rattle.lf_coverage.specs.Leaf.{IsTypedPattern}
use Rattle.lf_coverage.specs.SplitStore.{context_metavariables}
use Rattle.lf_coverage.proofs.GivenValues.{far_renames}
use Rattle.lf_coverage.proofs.ItemsContext.{outer_context}
use Rattle.lf_numbered.specs.EntryPatternsMatching.{placed_type}
use Rattle.lf_numbered.specs.MeetsReady.{IsPlainlyTyped, IsTypedAtPlace, PlacedStoreIsReady}
use Rattle.lf_numbered.specs.NewBlock.{rename_all}
use Rattle.lf_numbered.specs.NumberedCallsStores.{identity_equations, meet_store_by_number}
use Rattle.lf_numbered.specs.NumberedCase.{NumberedCase, AreSomeTerms}
use Rattle.lf_numbered.specs.NumberedInstance.{block_at}
use Rattle.lf_numbered.specs.OwnTerms.{BlockVariable, rename_blocks}
use Rattle.lf_numbered.proofs.EntryPatternsNear.{binders_count}
use Rattle.lf_numbered.proofs.MeetsReadyIdentities.{identities_typed}
use Rattle.lf_numbered.proofs.MeetsReadyPlaced.{placed_ready}
use Rattle.lf_numbered.proofs.OwnForms.{rename_some}
use Rattle.lf_numbered.proofs.OwnStoresCase.{local_typed}
use Rattle.lf_numbered.proofs.RenamedBlocks.{renamed_from}

pub renamed_substitution : (Σ : Signature) → IsSignature Σ → (G C D : List LfType) (θ : ℕ → Image) (ρ : ℕ → ℕ) → IsTypedRenaming C D ρ → IsTypedSubstitution Σ G C θ → IsTypedSubstitution Σ G D (λ i. rename_image ρ (θ i))
renamed_substitution Σ ok G C D θ ρ r s i A g = subst (ImageHasType Σ D (rename_image ρ (θ i))) (rename_substituted_type reduce reduction_is_natural ρ θ A) (by (θ i) (substitute_type reduce θ A) (s i A g))
  where
    by : (x : Image) (Z : LfType) → ImageHasType Σ C x Z → ImageHasType Σ D (rename_image ρ x) (rename_type ρ Z)
    by (keep j) Z t = r j Z t
    by (put a N) Z (e, t) = (skeleton_renamed ρ Z ∙ e, renaming_keeps_typing Σ ok C D ρ N Z r t)

-- A pattern's type at its place is one over the clause's own variables in front of those of the case.
module _ (Σ : Signature) (ok : IsSignature Σ) (V : List LfType) (cv : IsContext Σ V) (p : Pattern) (tp : IsTypedPattern Σ p) (φ : ℕ → Image) (φ_typed : IsTypedSubstitution Σ p.clause.outer V φ) where
  abbrev Q : List LfType
  Q = binders [] p.clause.type

  abbrev X : List LfType
  X = binders V (substitute_type reduce φ p.clause.type)

  pub placed_context_is : X ≡ onto (instance Q φ) V
  placed_context_is = binders_substituted p.clause.type φ V

  scope_is : scope p.clause ≡ onto Q p.clause.outer
  scope_is = binders_over [] p.clause.type p.clause.outer

  own_context : IsContext Σ (onto Q p.clause.outer)
  own_context = subst (IsContext Σ) scope_is tp.clause_typed

  pub placed_context : IsContext Σ X
  placed_context = subst (IsContext Σ) (sym placed_context_is) (local_typed Σ ok p.clause.outer V φ tp.outer_typed cv φ_typed Q own_context).0

  pub placed_values : IsTypedSubstitution Σ (onto Q p.clause.outer) X (lift_over Q φ)
  placed_values = subst (λ L. IsTypedSubstitution Σ (onto Q p.clause.outer) L (lift_over Q φ)) (sym placed_context_is) (local_typed Σ ok p.clause.outer V φ tp.outer_typed cv φ_typed Q own_context).1

  pub placed_typed : IsType Σ X (placed_type p φ)
  placed_typed = substitution_keeps_types Σ ok (onto Q p.clause.outer) X (lift_over Q φ) p.type (record { typed = placed_values; source_skeletons = skeleton_context_of Σ ok (onto Q p.clause.outer) own_context; target_skeletons = skeleton_context_of Σ ok X placed_context }) (subst (λ L. IsType Σ L p.type) scope_is tp.type_typed)

  pub placed_behind : IsTypedRenaming V X (shift_by (quantifiers p.clause.type))
  placed_behind = subst (λ L. IsTypedRenaming V L (shift_by (quantifiers p.clause.type))) (sym placed_context_is) (subst (λ m. IsTypedRenaming V (onto (instance Q φ) V) (shift_by m)) (length_instance Q φ ∙ binders_count p.clause.type) (far_renames (instance Q φ) V))

-- The context, and the block variables with their terms in it
module _ (Σ : Signature) (ok : IsSignature Σ) (W : List Block) (typed : AreTypedBlocks Σ W) (J : NumberedCase) (tj : IsPlainlyTyped Σ W J) (p : Pattern) (tp : IsTypedPattern Σ p) (φ : ℕ → Image) (φ_typed : IsTypedSubstitution Σ p.clause.outer J.variables φ) (π : ℕ → ℕ) (same : (k : ℕ) (b c : BlockVariable) → block_at J.blocks k ≡ Some b → block_at J.blocks (π k) ≡ Some c → c.block ≡ b.block) where
  abbrev Y : List LfType
  Y = binders J.variables (substitute_type reduce φ p.clause.type)

  abbrev n : ℕ
  n = quantifiers p.clause.type

  abbrev bs : List BlockVariable
  bs = rename_blocks (shift_by (quantifiers p.clause.type)) J.blocks

  abbrev ids : List Equation
  ids = identity_equations π bs zero bs

  pub joint : IsContext Σ Y
  joint = placed_context Σ ok J.variables tj.variables p tp φ φ_typed

  behind : IsTypedRenaming J.variables Y (shift_by n)
  behind = placed_behind Σ ok J.variables tj.variables p tp φ φ_typed

  pub blocks_typed : (k : ℕ) (d : BlockVariable) → block_at bs k ≡ Some d → IsContext Σ d.block.some × AreSomeTerms Σ Y d.block.some d.terms
  blocks_typed k d e =
      let (b, at, q) = renamed_from (shift_by n) J.blocks k d e in
      let (m, (υ, s, t)) = tj.blocks k b at in
      subst (λ (c : BlockVariable). IsContext Σ c.block.some × AreSomeTerms Σ Y c.block.some c.terms) (sym q) (
        outer_context Σ b.block.entries b.block.some (typed b.block m),
        ((λ i. rename_image (shift_by n) (υ i)), renamed_substitution Σ ok b.block.some J.variables Y υ (shift_by n) behind s, ap (rename_spine (shift_by n)) t ∙ rename_some (shift_by n) b.block.some υ),
      )

  pub blocks_same : (k : ℕ) (b c : BlockVariable) → block_at bs k ≡ Some b → block_at bs (π k) ≡ Some c → c.block ≡ b.block
  blocks_same k b c e f =
      let (b', at, q) = renamed_from (shift_by n) J.blocks k b e in
      let (c', bt, r) = renamed_from (shift_by n) J.blocks (π k) c f in
      ap (λ (d : BlockVariable). d.block) r ∙ same k b' c' at bt ∙ sym (ap (λ (d : BlockVariable). d.block) q)

  -- The lemma
  module _ (K : Kind) (of_family : Σ.kinds (target p.type) ≡ Some K) (beside : IsTypedAtPlace Σ J p φ K) where
    pub store_ready : IsWellFormed Σ (meet_store_by_number π J p φ K)
    store_ready = placed_ready Σ ok Y joint ids (renumber (shift_by n) J.local) (rename_all (shift_by n) J.given) (rename_all (lift_renaming_by (length J.local) (shift_by n)) J.arguments) (placed_type p φ) (placed_typed Σ ok J.variables tj.variables p tp φ φ_typed) K (ap Σ.kinds (target_of reduce (lift_over (binders [] p.clause.type) φ) p.type) ∙ of_family) beside
        (identities_typed Σ ok Y joint (IsFilling Σ [] (meet_store_by_number π J p φ K)) (λ β u. (u.0, u.1)) π bs blocks_typed blocks_same bs zero (λ i. ap (block_at bs) (none i)) (λ β u. solves_first (skeletons_of (context_metavariables Y)) β ids _ u.2.1))
      where
        none : (i : ℕ) → i ≡ i + zero
        none i = omega arith

pub placed_store_is_ready : PlacedStoreIsReady
placed_store_is_ready Σ ok W typed J tj p tp φ t K e b π s = store_ready Σ ok W typed J tj p tp φ t π s K e b
