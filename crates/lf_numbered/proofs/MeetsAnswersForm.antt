-- A pattern that is put beside a case whose block variables are one: it is typed over the clause's own variables and the case's; and all that stands there is
-- moved from what is on own terms.
use Rattle.std.proofs.Common.{◌≡◌, ℕ, zero, List, [], ◌∷◌, length, refl, sym, ap, ap₂, ◌∙◌, subst}
use Rattle.std.specs.Prelude.{Option, None, false}
use Rattle.lf.specs.Syntax.{Spine, LfType, Kind}
use Rattle.lf.specs.Entries.{quantifiers}
use Rattle.lf.specs.Substitution.{Image, lift, substitute_type, reduce}
use Rattle.lf.specs.AtOnce.{shift_by, lift_renaming_by}
use Rattle.lf.specs.Typing.{Signature, TypeAt, ImageHasType, IsType, IsContext, IsSignature, IsTypedSubstitution}
use Rattle.lf.specs.Variables.{target_arguments, binders, onto}
use Rattle.lf.specs.Subordination.{Block, AreTypedBlocks}
use Rattle.lf.specs.Worlds.{lift_over, instance}
use Rattle.lf.proofs.Substitution.{skeleton_context_of, substitution_keeps_types}
use Rattle.lf.proofs.Weakening.{declared_is_type}
use Rattle.lf_unification.specs.Lists.{followed}
use Rattle.lf_unification.specs.Unifiers.{Store}
use Rattle.lf_checks.specs.Clause.{scope}
use Rattle.lf_cases.specs.Pattern.{Pattern}
use Rattle.lf_cases.proofs.Local.{binders_substituted}
use Rattle.lf_cases.proofs.OutputItems.{length_instance}
use Rattle.lf_totality.proofs.RaisedOutputs.{binders_over}
use Rattle.lf_coverage.specs.Leaf.{IsTypedPattern}
use Rattle.lf_coverage.specs.MeetStore.{open_arguments, place_equations, given_equations}
use Rattle.lf_coverage.specs.SplitStore.{open_spine, open_locals, context_metavariables}
use Rattle.lf_numbered.specs.EntryConstants.{with_entries, IsFreeFrom}
use Rattle.lf_numbered.specs.EntryPatternsMatching.{placed_type}
use Rattle.lf_numbered.specs.EntryTerms.{IsTried}
use Rattle.lf_numbered.specs.NewBlock.{rename_all}
use Rattle.lf_numbered.specs.NumberedCallsStores.{Identifies, identified, identity_equations, meet_store_by_number}
use Rattle.lf_numbered.specs.NumberedCase.{NumberedCase}
use Rattle.lf_numbered.specs.NumberedInstance.{moved_constant, move_type, move_types}
use Rattle.lf_numbered.specs.OwnTerms.{BlockVariable, blocks_of, own_terms, rename_blocks, weaken_own, TypeOnOwnTerms}
use Rattle.lf_numbered.specs.TypedNumbered.{IsTypedNumberedCase, own_over, LocalOnOwnTerms}
use Rattle.lf_numbered.specs.WritingRoom.{move_image}
use Rattle.lf_numbered.proofs.EntryPatternsMatching.{more_context, more_type}
use Rattle.lf_numbered.proofs.EntryPatternsNear.{binders_count}
use Rattle.lf_numbered.proofs.EntryTermsTried.{OuterFacts, tried_facts}
use Rattle.lf_numbered.proofs.IdentifiedConstants.{context_stays, kinds_stay, old_stays, types_stay}
use Rattle.lf_numbered.proofs.MovedConstants.{onto_moved}
use Rattle.lf_numbered.proofs.NumberedTyped.{put_old_type}
use Rattle.lf_numbered.proofs.NumberedTypedFree.{old_own}
use Rattle.lf_numbered.proofs.OwnStoresCase.{local_typed, over_images}
use Rattle.lf_numbered.proofs.OwnStoresEntry.{ok₁}
use Rattle.lf_numbered.proofs.OwnStoresOffers.{at_own}
use Rattle.lf_numbered.proofs.Reading.{IsOld}
use Rattle.lf_numbered.proofs.WritingGap.{same_old}
use Rattle.lf_numbered.proofs.WritingMove.{lift_moved, move_type_substituted, moved_image}
use mathlib.Core.Path.{fun_ext}

lift_over_moved : (γ : ℕ → ℕ) (D : List LfType) (φ : ℕ → Image) → lift_over D (λ i. move_image γ (φ i)) ≡ (λ i. move_image γ (lift_over D φ i))
lift_over_moved γ [] φ = refl
lift_over_moved γ (A ∷ D) φ = ap lift (lift_over_moved γ D φ) ∙ fun_ext (lift_moved γ (lift_over D φ))

own_over_old : (Σ : Signature) (D : List LfType) (o : ℕ → Option Spine) → ((c : ℕ) → IsOld Σ c → o c ≡ None) → (c : ℕ) → IsOld Σ c → own_over D o c ≡ None
own_over_old Σ [] o h c p = h c p
own_over_old Σ (A ∷ D) o h c p = ap weaken_own (own_over_old Σ D o h c p)

-- the store, for its variables
abbrev pub placed_store : (ℕ → ℕ) → NumberedCase → Kind → ℕ → LfType → List LfType → Store
placed_store π J K n T X =
    let D : List LfType = binders [] T in
    let bs : List BlockVariable = rename_blocks (shift_by n) J.blocks in
    record {
      metavariables = context_metavariables X;
      bindings = [];
      equations = followed (identity_equations π bs zero bs) (followed (given_equations X zero (rename_all (shift_by n) J.given)) (place_equations (open_locals D) (open_arguments (length D) (rename_all (lift_renaming_by (length J.local) (shift_by n)) J.arguments)) (open_spine (length D) (target_arguments T)) K));
    }

module _ (Σ : Signature) (ok : IsSignature Σ) (W : List Block) (typed : AreTypedBlocks Σ W) (first : ℕ) (free : IsFreeFrom Σ first) (C : NumberedCase) (tc : IsTypedNumberedCase Σ first W C) (p : Pattern) (tp : IsTypedPattern Σ p) (π : ℕ → ℕ) (ids : Identifies C π) (φ₀ : ℕ → Image) (tried : IsTried first C p.origin false φ₀) where
  abbrev Σ₁ : Signature
  Σ₁ = with_entries Σ first (blocks_of C.blocks)

  abbrev γ : ℕ → ℕ
  γ = moved_constant first (blocks_of C.blocks) (blocks_of C.blocks) π

  abbrev V : List LfType
  V = move_types γ C.variables

  abbrev Q : List LfType
  Q = binders [] p.clause.type

  abbrev pub φ : ℕ → Image
  φ i = move_image (moved_constant first (blocks_of C.blocks) (blocks_of C.blocks) π) (φ₀ i)

  abbrev pub ρ : ℕ → Image
  ρ = lift_over (binders [] p.clause.type) φ

  abbrev pub n : ℕ
  n = quantifiers p.clause.type

  abbrev pub P : List LfType
  P = instance (binders [] p.clause.type) φ

  abbrev pub X : List LfType
  X = onto P (move_types (moved_constant first (blocks_of C.blocks) (blocks_of C.blocks) π) C.variables)

  abbrev pub T : LfType
  T = placed_type p φ

  facts : OuterFacts Σ ok W typed first free C tc p.clause φ₀
  facts = tried_facts Σ ok W typed first free C tc p.origin false φ₀ tried

  known : IsSignature Σ₁
  known = ok₁ Σ ok W typed first free C tc.variables

  old : (c : ℕ) → IsOld Σ c → γ c ≡ c
  old = old_stays Σ ok W typed first free C tc.variables π ids

  scope_is : scope p.clause ≡ onto Q p.clause.outer
  scope_is = binders_over [] p.clause.type p.clause.outer

  old_scope : IsContext Σ (onto Q p.clause.outer)
  old_scope = subst (IsContext Σ) scope_is tp.clause_typed

  old_type : IsType Σ (onto Q p.clause.outer) p.type
  old_type = subst (λ G. IsType Σ G p.type) scope_is tp.type_typed

  pub case_context : IsContext (with_entries Σ first (blocks_of C.blocks)) (move_types (moved_constant first (blocks_of C.blocks) (blocks_of C.blocks) π) C.variables)
  case_context = context_stays Σ ok W typed first free C tc.variables π ids C.variables tc.variables.variables

  pub outer_context : IsContext (with_entries Σ first (blocks_of C.blocks)) p.clause.outer
  outer_context = more_context Σ ok W typed first free C tc p.clause.outer tp.outer_typed

  pub scope_context : IsContext (with_entries Σ first (blocks_of C.blocks)) (scope p.clause)
  scope_context = more_context Σ ok W typed first free C tc (scope p.clause) tp.clause_typed

  pub outer_typed : IsTypedSubstitution (with_entries Σ first (blocks_of C.blocks)) p.clause.outer (move_types (moved_constant first (blocks_of C.blocks) (blocks_of C.blocks) π) C.variables) φ
  outer_typed i A g = subst (ImageHasType Σ₁ V (φ i)) (move_type_substituted γ φ₀ A ∙ ap (substitute_type reduce φ) (same_old Σ γ p.clause.outer A old (declared_is_type Σ ok p.clause.outer i A tp.outer_typed g))) (moved_image γ Σ₁ Σ₁ (types_stay Σ ok W typed first free C tc.variables π ids) (kinds_stay Σ ok W typed first free C tc.variables π ids) C.variables (φ₀ i) (substitute_type reduce φ₀ A) (facts.outer_typed i A g))

  both : IsContext Σ₁ X × IsTypedSubstitution Σ₁ (onto Q p.clause.outer) X ρ
  both = local_typed Σ₁ known p.clause.outer V φ outer_context case_context outer_typed Q (subst (IsContext Σ₁) scope_is scope_context)

  pub context : IsContext (with_entries Σ first (blocks_of C.blocks)) X
  context = both.0

  pub placed_typed : IsTypedSubstitution (with_entries Σ first (blocks_of C.blocks)) (scope p.clause) X ρ
  placed_typed = subst (λ G. IsTypedSubstitution Σ₁ G X ρ) (sym scope_is) both.1

  pub type_typed : IsType (with_entries Σ first (blocks_of C.blocks)) X T
  type_typed = substitution_keeps_types Σ₁ known (scope p.clause) X ρ p.type (record { typed = placed_typed; source_skeletons = skeleton_context_of Σ₁ known (scope p.clause) scope_context; target_skeletons = skeleton_context_of Σ₁ known X context }) (more_type Σ ok W typed first free C tc (scope p.clause) p.type tp.type_typed)

  -- it is moved
  instance_moved : (D : List LfType) → IsContext Σ (onto D p.clause.outer) → instance D φ ≡ move_types γ (instance D φ₀)
  instance_moved [] c = refl
  instance_moved (A ∷ D) (c, a) = ap₂ (λ B E. B ∷ E) (ap₂ (λ f B. substitute_type reduce f B) (lift_over_moved γ D φ₀) (sym (same_old Σ γ (onto D p.clause.outer) A old a)) ∙ sym (move_type_substituted γ (lift_over D φ₀) A)) (instance_moved D c)

  pub variables_moved : X ≡ move_types (moved_constant first (blocks_of C.blocks) (blocks_of C.blocks) π) (onto (instance (binders [] p.clause.type) φ₀) C.variables)
  variables_moved = ap (λ D. onto D V) (instance_moved Q old_scope) ∙ sym (onto_moved γ (instance Q φ₀) C.variables)

  pub type_moved : T ≡ move_type (moved_constant first (blocks_of C.blocks) (blocks_of C.blocks) π) (placed_type p φ₀)
  type_moved = ap₂ (λ f B. substitute_type reduce f B) (lift_over_moved γ Q φ₀) (sym (same_old Σ γ (onto Q p.clause.outer) p.type old old_type)) ∙ sym (move_type_substituted γ (lift_over Q φ₀) p.type)

  pub own_length : length (instance (binders [] p.clause.type) φ₀) ≡ n
  own_length = length_instance Q φ₀ ∙ binders_count p.clause.type

  pub placed_length : length P ≡ n
  placed_length = length_instance Q φ ∙ binders_count p.clause.type

  -- from what is on own terms
  local_own : (D : List LfType) → IsContext Σ (onto D p.clause.outer) → LocalOnOwnTerms (own_terms first C.blocks) (instance D φ₀)
  local_own [] c = tt
  local_own (A ∷ D) (c, a) = (local_own D c, put_old_type Σ (onto D p.clause.outer) (own_over (instance D φ₀) (own_terms first C.blocks)) (lift_over D φ₀) A (own_over_old Σ (instance D φ₀) (own_terms first C.blocks) (old_own Σ ok W typed first free C.blocks)) (λ i B g. over_images D φ₀ (own_terms first C.blocks) facts.own i) a)

  pub variables_own : (i : ℕ) (Y : LfType) → TypeAt (onto (instance (binders [] p.clause.type) φ₀) C.variables) i Y → TypeOnOwnTerms (own_over (instance (binders [] p.clause.type) φ₀) (own_terms first C.blocks)) Y
  variables_own = at_own (own_terms first C.blocks) C.variables (instance Q φ₀) tc.variables.on_own_terms (local_own Q old_scope)

  pub type_own : TypeOnOwnTerms (own_over (instance (binders [] p.clause.type) φ₀) (own_terms first C.blocks)) (placed_type p φ₀)
  type_own = put_old_type Σ (onto Q p.clause.outer) (own_over (instance Q φ₀) (own_terms first C.blocks)) (lift_over Q φ₀) p.type (own_over_old Σ (instance Q φ₀) (own_terms first C.blocks) (old_own Σ ok W typed first free C.blocks)) (λ i B g. over_images Q φ₀ (own_terms first C.blocks) facts.own i) old_type

  -- the store is of this form
  pub store_is : (K : Kind) → meet_store_by_number π (identified first π C) p φ K ≡ placed_store π (identified first π C) K n T X
  store_is K = ap (placed_store π (identified first π C) K n T) (binders_substituted p.clause.type φ V)
