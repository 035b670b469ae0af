-- A type of a case under its instance, and then written, is the type with its constants moved and the written values put in; and these values are typed.
use Rattle.std.proofs.Common.{◌≡◌, Bool, ℕ, List, [], length, Option, Some, None, refl, sym, ap, ◌∙◌, subst}
use Rattle.lf.specs.Syntax.{Spine, LfType, Kind, Skeleton, skeleton}
use Rattle.lf.specs.Substitution.{Image, keep, put, substitute, substitute_image, substitute_type, reduce, after}
use Rattle.lf.specs.SkeletonTyping.{HeadSkeletons, TypeBySkeletons}
use Rattle.lf.specs.Skeletons.{constant_skeletons, family_skeleton, family_skeletons, context_skeletons}
use Rattle.lf.specs.Typing.{Signature, TypeAt, HasType, ImageHasType, IsType, IsContext}
use Rattle.lf.specs.Variables.{onto}
use Rattle.lf.specs.Subordination.{Block}
use Rattle.lf.specs.Worlds.{World}
use Rattle.lf.proofs.Growth.{growth_keeps_typing}
use Rattle.lf.proofs.SkeletonTypes.{substitutions_compose_type, substitution_keeps_types_by_skeletons}
use Rattle.lf.proofs.Substitution.{TypedSubstitution, skeleton_context_of, substitution_keeps_typing}
use Rattle.lf.proofs.ToSkeletons.{typed_has_skeleton, type_by_skeletons}
use Rattle.lf.proofs.TypeLaws.{skeleton_substituted}
use Rattle.lf.proofs.Weakening.{declared_is_type}
use Rattle.lf.proofs.Worlds.{world_is_context}
use Rattle.lf_coverage.proofs.MoreConstants.{type_more}
use Rattle.lf_coverage.proofs.Parts.{none_some}
use Rattle.lf_numbered.specs.EntryConstants.{with_entries}
use Rattle.lf_numbered.specs.NumberedCase.{NumberedCase, type_in}
use Rattle.lf_numbered.specs.NumberedInstance.{move_type}
use Rattle.lf_numbered.specs.OwnTerms.{blocks_of, own_terms, TypeOnOwnTerms}
use Rattle.lf_numbered.specs.Reading.{read_type, entry_reading}
use Rattle.lf_numbered.specs.WritingLaws.{IsInstanceWithRoom, ValuesAreWritten}
use Rattle.lf_numbered.proofs.EntrySignature.{grown_contexts}
use Rattle.lf_numbered.proofs.NumberedCallsOwn.{unmoved, unmoved_type}
use Rattle.lf_numbered.proofs.ReadBlocks.{ok₁}
use Rattle.lf_numbered.proofs.ReadInstance.{type_known}
use Rattle.lf_numbered.proofs.ReadSkeletons.{read_type_has_skeletons}
use Rattle.lf_numbered.proofs.ReadValues.{values_fit, values_typed}
use Rattle.lf_numbered.proofs.WritingInstance.{written_signature, own_types}
use Rattle.lf_numbered.proofs.WritingRead.{WritesAs, both_fit, inside, itself, no, over_written, reads, values_fit_more, writes, writing_fits}
use Rattle.lf_numbered.proofs.WritingSame.{read_moved_type}

module _ (Σ Σ' : Signature) {W : List Block} {S : ℕ → Bool} {G : List LfType} (w : World Σ' W S G) (first : ℕ) (C : NumberedCase) (θ : ℕ → ℕ → Image) (σ : ℕ → Image) (r : IsInstanceWithRoom Σ w first C θ σ) {γ : ℕ → ℕ} (F : List LfType) (ρ : ℕ → Image) (h : WritesAs Σ' first (blocks_of C.blocks) θ γ G F ρ) where
  abbrev X : List LfType
  X = C.variables

  abbrev Σ₁ : Signature
  Σ₁ = with_entries Σ first (blocks_of C.blocks)

  abbrev Σe : Signature
  Σe = with_entries Σ' first (blocks_of C.blocks)

  abbrev f : ℕ → Option (ℕ × ℕ)
  f = entry_reading first (blocks_of C.blocks) θ (length C.variables)

  abbrev o : ℕ → Option Spine
  o = own_terms first C.blocks

  abbrev κ : HeadSkeletons
  κ = constant_skeletons Σ₁

  abbrev κe : HeadSkeletons
  κe = constant_skeletons Σe

  abbrev Θ : List Skeleton
  Θ = context_skeletons (onto C.variables G)

  -- a type
  pub type_written : (A : LfType) → IsType (with_entries Σ first (blocks_of C.blocks)) C.variables A → TypeOnOwnTerms (own_terms first C.blocks) A → substitute_type reduce ρ (type_in first C θ σ A) ≡ substitute_type reduce (after ρ σ) (move_type γ A)
  type_written A a p =
      let s = type_by_skeletons Σ₁ X A a in
      substitutions_compose_type (family_skeletons Σ') κe Θ (context_skeletons G) (context_skeletons F) σ ρ (read_type f A) (values_fit_more Σ Σ' w first C θ σ r F ρ h) (writing_fits Σ Σ' w first C θ σ r F ρ h) (read_type_has_skeletons κ κe (no Σ Σ' w first C θ σ r F ρ h) (family_skeletons Σ₁) (family_skeletons Σ') (context_skeletons X) Θ f o A family_more (inside Σ Σ' w first C θ σ r F ρ h) (reads Σ Σ' w first C θ σ r F ρ h) s p)
      ∙ read_moved_type γ κ κe (no Σ Σ' w first C θ σ r F ρ h) (family_skeletons Σ₁) (context_skeletons X) Θ (context_skeletons F) f o (after ρ σ) A (inside Σ Σ' w first C θ σ r F ρ h) (reads Σ Σ' w first C θ σ r F ρ h) (writes Σ Σ' w first C θ σ r F ρ h) (both_fit Σ Σ' w first C θ σ r F ρ h) s p
    where
      family_more : (a : ℕ) (t : Skeleton) → family_skeletons Σ₁ a ≡ Some t → family_skeletons Σ' a ≡ Some t
      family_more a t q = by (Σ.kinds a) refl q
        where
          by : (y : Option Kind) → Σ.kinds a ≡ y → family_skeleton a y ≡ Some t → family_skeletons Σ' a ≡ Some t
          by None e p = absurd (none_some p)
          by (Some K) e p = ap (family_skeleton a) (r.extends.kinds_stay a K e) ∙ p

  pub more_context : IsContext (with_entries Σ' first (blocks_of C.blocks)) G
  more_context = grown_contexts Σ' Σe (own_types Σ Σ' w first C θ σ r) (λ a K e. e) G (world_is_context w)

  pub writing_typed : TypedSubstitution (with_entries Σ' first (blocks_of C.blocks)) (written_signature Σ Σ' w first C θ σ r) G F ρ
  writing_typed = record { typed = h.typed; source_skeletons = skeleton_context_of Σe (written_signature Σ Σ' w first C θ σ r) G more_context; target_skeletons = skeleton_context_of Σe (written_signature Σ Σ' w first C θ σ r) F h.context }

  -- the written values
  pub value_is_typed : (i : ℕ) (A : LfType) → TypeAt C.variables i A → ImageHasType (with_entries Σ' first (blocks_of C.blocks)) F (after ρ σ i) (substitute_type reduce (after ρ σ) (move_type γ A))
  value_is_typed i A g = by (σ i) (values_typed Σ' r.extends.ok G first (blocks_of C.blocks) θ C.variables σ r.is_instance.values i A g)
    where
      is_type : IsType Σ₁ C.variables A
      is_type = declared_is_type Σ₁ (ok₁ Σ Σ' r.signature S r.extends W r.blocks first r.free C r.variables w θ σ r.is_instance) C.variables i A r.variables.variables g

      same : substitute_type reduce ρ (type_in first C θ σ A) ≡ substitute_type reduce (after ρ σ) (move_type γ A)
      same = type_written A is_type (r.variables.on_own_terms i A g)

      known : TypeBySkeletons (family_skeletons Σe) (constant_skeletons Σe) (context_skeletons G) (type_in first C θ σ A)
      known = known_more (type_in first C θ σ A) (substitution_keeps_types_by_skeletons (family_skeletons Σ') (constant_skeletons Σ') (context_skeletons (onto C.variables G)) (context_skeletons G) σ (read_type f A) (values_fit Σ' r.extends.ok G first (blocks_of C.blocks) θ C.variables σ r.is_instance.values) (type_known Σ Σ' r.signature S r.extends W r.blocks first r.free C r.variables w θ σ r.is_instance A is_type (r.variables.on_own_terms i A g)))
        where
          known_more : (B : LfType) → TypeBySkeletons (family_skeletons Σ') (constant_skeletons Σ') (context_skeletons G) B → TypeBySkeletons (family_skeletons Σe) (constant_skeletons Σe) (context_skeletons G) B
          known_more B k = type_more Σ' Σe (own_types Σ Σ' w first C θ σ r) (family_skeletons Σ') (context_skeletons G) B k

      by : (y : Image) → ImageHasType Σ' G y (type_in first C θ σ A) → ImageHasType (with_entries Σ' first (blocks_of C.blocks)) F (substitute_image ρ y) (substitute_type reduce (after ρ σ) (move_type γ A))
      by (keep j) t = subst (ImageHasType Σe F (ρ j)) same (h.typed j (type_in first C θ σ A) t)
      by (put a N) (e, n) = (ap skeleton (sym same) ∙ skeleton_substituted reduce ρ (type_in first C θ σ A) ∙ e, subst (HasType Σe F (substitute reduce ρ N)) same (substitution_keeps_typing Σe (written_signature Σ Σ' w first C θ σ r) G F ρ N (type_in first C θ σ A) writing_typed known (growth_keeps_typing Σ' Σe (own_types Σ Σ' w first C θ σ r) (λ b K z. z) G N (type_in first C θ σ A) n)))

pub values_are_written : ValuesAreWritten
values_are_written Σ Σ' W S G w first C θ σ r F ρ back h = (
  λ M A m p. over_written Σ Σ' w first C θ σ r F ρ (itself h) [] M (skeleton A) (typed_has_skeleton (with_entries Σ first (blocks_of C.blocks)) C.variables M A m) p ∙ ap (substitute reduce (after ρ σ)) (unmoved M),
  λ A a p. type_written Σ Σ' w first C θ σ r F ρ (itself h) A a p ∙ ap (substitute_type reduce (after ρ σ)) (unmoved_type A),
)
