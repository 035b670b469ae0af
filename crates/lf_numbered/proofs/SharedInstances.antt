-- Each ground instance of an instance of a case is one of the case, which holds there what the instance holds.
use Rattle.std.proofs.Common.{◌≡◌, ℕ, zero, suc, ◌+◌, List, [], ◌∷◌, length, refl, sym, ap, ◌∙◌, subst, arith}
use Rattle.std.specs.Prelude.{Bool, Option, Some, None}
use Rattle.lf.specs.Syntax.{Term, Spine, nil, app, LfType, atom, Skeleton, base, skeleton, weaken}
use Rattle.lf.specs.Substitution.{Image, keep, put, substitute, substitute_image, substitute_type, reduce}
use Rattle.lf.specs.AtOnce.{in_front}
use Rattle.lf.specs.SkeletonTyping.{SpineSkeleton}
use Rattle.lf.specs.Skeletons.{constant_skeletons, context_skeletons}
use Rattle.lf.specs.Typing.{Signature, TypeAt, HasType, IsSignature}
use Rattle.lf.specs.Variables.{onto}
use Rattle.lf.specs.Subordination.{Block, AreTypedBlocks}
use Rattle.lf.specs.Worlds.{World, lift_over}
use Rattle.lf.specs.Extension.{Extends}
use Rattle.lf.proofs.Substitution.{typed_substitution_by_skeletons}
use Rattle.lf.proofs.TypeLaws.{skeleton_renamed, substitute_renamed_type}
use Rattle.lf.proofs.Weakening.{declared_is_type}
use Rattle.lf_unification.specs.Offering.{pi_over}
use Rattle.lf_cases.specs.Case.{as_term, HasArguments}
use Rattle.lf_cases.specs.Missing.{put_in}
use Rattle.lf_cases.specs.Pattern.{given_at}
use Rattle.lf_coverage.specs.Heads.{HaveSkeletons}
use Rattle.lf_coverage.proofs.Forms.{lift_same}
use Rattle.lf_coverage.proofs.Parts.{some_same}
use Rattle.lf_coverage.proofs.Transfer.{lift_instance}
use Rattle.lf_numbered.specs.EntryConstants.{with_entries, IsFreeFrom}
use Rattle.lf_numbered.specs.NumberedArguments.{read_over, read_all}
use Rattle.lf_numbered.specs.NumberedCase.{NumberedCase, AreGroundValues, AreInstances, AreTypedBlockVariables, AreTypedVariables, IsNumberedInstance}
use Rattle.lf_numbered.specs.NumberedInstance.{IsNumberedInstanceOf, block_at, moved_constant, move_all, move_type, move_types}
use Rattle.lf_numbered.specs.OwnTerms.{BlockVariable, blocks_of, own_terms, AllOnOwnTerms}
use Rattle.lf_numbered.specs.Reading.{read, read_type, weaken_read, entry_reading}
use Rattle.lf_numbered.specs.SharedInstances.{HoldsAsInstance, InstanceHoldsBack}
use Rattle.lf_numbered.specs.TypedNumbered.{IsTypedNumberedCase, own_over}
use Rattle.lf_numbered.proofs.EntryPatternsOutside.{known}
use Rattle.lf_numbered.proofs.EntrySignature.{with_entries_is_signature}
use Rattle.lf_numbered.proofs.MeetsInstanceLists.{blocks_typed}
use Rattle.lf_numbered.proofs.MeetsTupleRoom.{blocks_here}
use Rattle.lf_numbered.proofs.MovedConstants.{length_moved}
use Rattle.lf_numbered.proofs.NumberedArguments.{over_instance}
use Rattle.lf_numbered.proofs.ReadBlocks.{ok₁}
use Rattle.lf_numbered.proofs.ReadInstance.{reads_into}
use Rattle.lf_numbered.proofs.ReadTyped.{reads_typed}
use Rattle.lf_numbered.proofs.ReadValues.{reading_next, value_past}
use Rattle.lf_numbered.proofs.Reading.{rename_read, read_image, read_type_renamed}
use Rattle.lf_numbered.proofs.SharedReading.{case_blocks, put_values, spine_put, term_over, type_known, type_put, values_at, values_past}
use Rattle.lf_numbered.proofs.WritingSame.{some_skeleton}
use mathlib.Core.Path.{fun_ext}

-- typed terms for the variables of a context, and what stands behind it, are ground values
ground : (Σ' : Signature) (G : List LfType) (f : ℕ → ℕ → Option (ℕ × ℕ)) (next : (n c : ℕ) → f (suc n) c ≡ rename_read suc (f n c)) (X : List LfType) (σ : ℕ → Image) → ((i : ℕ) (A : LfType) → TypeAt X i A → (N : Term) × (σ i ≡ put (skeleton A) N) × HasType Σ' G N (substitute_type reduce σ (read_type (f (length X)) A))) → ((i : ℕ) → σ (i + length X) ≡ keep i) → AreGroundValues Σ' G f X σ
ground Σ' G f next [] σ h past = fun_ext (λ i. ap σ (none i) ∙ past i)
  where
    none : (i : ℕ) → i ≡ i + 0
    none i = omega arith
ground Σ' G f next (A ∷ X) σ h past =
    let (N, e, n) = h zero (weaken A) refl in (
      N,
      (λ i. σ (suc i)),
      ground Σ' G f next X (λ i. σ (suc i)) (λ i B g. let (M, q, m) = h (suc i) (weaken B) (B, g, refl) in (M, q ∙ ap (λ a. put a M) (skeleton_renamed suc B), subst (HasType Σ' G M) (behind B) m)) (λ i. ap σ (step i (length X)) ∙ past i),
      subst (HasType Σ' G N) (behind A) n,
      fun_ext (front N (e ∙ ap (λ a. put a N) (skeleton_renamed suc A))),
    )
  where
    step : (i n : ℕ) → suc (i + n) ≡ i + suc n
    step i n = omega arith

    behind : (B : LfType) → substitute_type reduce σ (read_type (f (suc (length X))) (weaken B)) ≡ substitute_type reduce (λ i. σ (suc i)) (read_type (f (length X)) B)
    behind B = ap (substitute_type reduce σ) (read_type_renamed (f (length X)) (f (suc (length X))) suc B (next (length X))) ∙ substitute_renamed_type reduce σ suc (read_type (f (length X)) B)

    front : (N : Term) → σ zero ≡ put (skeleton A) N → (i : ℕ) → σ i ≡ in_front (put (skeleton A) N) (λ j. σ (suc j)) i
    front N e zero = e
    front N e (suc i) = refl

-- reading under a local context that is moved
over_moved : (γ : ℕ → ℕ) (L : List LfType) (f : ℕ → Option (ℕ × ℕ)) → read_over (move_types γ L) f ≡ read_over L f
over_moved γ [] f = refl
over_moved γ (A ∷ L) f = ap (λ g c. weaken_read (g c)) (over_moved γ L f)

module _ (Σ Σ' : Signature) (ok : IsSignature Σ) (S : ℕ → Bool) (x : Extends S Σ Σ') (W V : List Block) (typed : AreTypedBlocks Σ V) (first : ℕ) (free : IsFreeFrom Σ first) (C J : NumberedCase) (tc : IsTypedNumberedCase Σ first W C) (tj : AreTypedVariables Σ first V J) (π : ℕ → ℕ) (σ : ℕ → Image) (h : IsNumberedInstanceOf Σ first J C π σ) {G : List LfType} (w : World Σ' V S G) (θ : ℕ → ℕ → Image) (ρ : ℕ → Image) (inst : IsNumberedInstance w first J θ ρ) where
  abbrev X : List LfType
  X = C.variables

  abbrev Y : List LfType
  Y = J.variables

  abbrev Σ₁ : Signature
  Σ₁ = with_entries Σ first (blocks_of C.blocks)

  abbrev Σ₂ : Signature
  Σ₂ = with_entries Σ first (blocks_of J.blocks)

  abbrev γ : ℕ → ℕ
  γ = moved_constant first (blocks_of C.blocks) (blocks_of J.blocks) π

  abbrev χ : ℕ → ℕ → Image
  χ k = θ (π k)

  abbrev f : ℕ → Option (ℕ × ℕ)
  f = entry_reading first (blocks_of C.blocks) (λ k. θ (π k)) (length C.variables)

  abbrev g : ℕ → Option (ℕ × ℕ)
  g = entry_reading first (blocks_of J.blocks) θ (length J.variables)

  abbrev o : ℕ → Option Spine
  o = own_terms first C.blocks

  abbrev τ : ℕ → Image
  τ = put_values Σ Σ' ok S x W V typed first free C J tc tj π σ h.is_instance w θ ρ inst

  signature : IsSignature Σ₁
  signature = with_entries_is_signature Σ ok first free (blocks_of C.blocks) (blocks_typed Σ C.blocks (case_blocks Σ Σ' ok S x W V typed first free C J tc tj π σ h.is_instance w θ ρ inst))

  value_there : (i : ℕ) (A : LfType) → TypeAt X i A → (N : Term) × (σ i ≡ put (skeleton A) N) × HasType Σ' G (substitute reduce ρ (read g N)) (substitute_type reduce τ (read_type f A))
  value_there i A at =
      let (N, e, m, own) = values_at Σ₂ Y (own_terms first J.blocks) γ X σ h.is_instance.values i A at in
      let t = declared_is_type Σ₁ signature X i A tc.variables.variables at in
      let u = tc.variables.on_own_terms i A at in (
        N,
        e,
        subst (HasType Σ' G (substitute reduce ρ (read g N))) (type_put Σ Σ' ok S x W V typed first free C J tc tj π σ h.is_instance w θ ρ inst A t u) (reads_typed Σ Σ₂ Σ' ok (ok₁ Σ Σ' ok S x V typed first free J tj w θ ρ inst) x.ok x.types_stay Y G g (own_terms first J.blocks) ρ (context_skeletons (onto Y G)) (reads_into Σ Σ' ok S x V typed first free J tj w θ ρ inst) N (substitute_type reduce σ (move_type γ A)) (type_known Σ Σ' ok S x W V typed first free C J tc tj π σ h.is_instance w θ ρ inst A t u) m own),
      )

  past_there : (i : ℕ) → τ (i + length X) ≡ keep i
  past_there i = ap (λ y. substitute_image ρ (read_image g y)) (values_past Σ₂ Y (own_terms first J.blocks) γ X σ h.is_instance.values i) ∙ value_past Σ' x.ok G first (blocks_of J.blocks) θ Y ρ inst.values i

  ground_values : AreGroundValues Σ' G (entry_reading first (blocks_of C.blocks) χ) X τ
  ground_values = ground Σ' G (entry_reading first (blocks_of C.blocks) χ) (reading_next first (blocks_of C.blocks) χ) X τ (λ i A at. let (N, e, m) = value_there i A at in (substitute reduce ρ (read g N), ap (λ y. substitute_image ρ (read_image g y)) e, m)) past_there

  instances_there : (k : ℕ) (bs : List BlockVariable) → AreTypedBlockVariables Σ₁ W X o bs → ((j : ℕ) (b : BlockVariable) → block_at bs j ≡ Some b → block_at C.blocks (k + j) ≡ Some b) → AreInstances w f τ χ k bs
  instances_there k [] t at = tt
  instances_there k (b ∷ bs) (m, (υ, s, e), own, t) at =
      let K = known Σ Σ' ok S x V typed first free J tj w θ ρ inst (π k) _ (h.is_instance.blocks k b (ap (block_at C.blocks) (none k) ∙ at zero b refl)) in
      let a : Skeleton = skeleton (pi_over b.block.some (atom zero nil)) in
      let u : SpineSkeleton (constant_skeletons Σ₁) (context_skeletons X) b.terms a (base zero) = subst (λ U. SpineSkeleton (constant_skeletons Σ₁) (context_skeletons X) U a (base zero)) (sym e) (some_skeleton (constant_skeletons Σ₁) b.block.some (context_skeletons X) υ (atom zero nil) (typed_substitution_by_skeletons Σ₁ signature b.block.some X υ s)) in
      (K.3, K.4 ∙ spine_put Σ Σ' ok S x W V typed first free C J tc tj π σ h.is_instance w θ ρ inst b.terms a (base zero) u own, instances_there (suc k) bs t (λ j c z. ap (block_at C.blocks) (next k j) ∙ at (suc j) c z))
    where
      none : (k : ℕ) → k ≡ k + 0
      none k = omega arith

      next : (k j : ℕ) → suc k + j ≡ k + suc j
      next k j = omega arith

  arguments_there : (L : List LfType) (Ms : List (Option Term)) (T : Spine) → HaveSkeletons (constant_skeletons Σ₁) (context_skeletons (onto L X)) Ms → AllOnOwnTerms (own_over L o) Ms → HasArguments (lift_over L ρ) (read_all (read_over L g) (put_in (lift_over L σ) (move_all γ Ms))) T → HasArguments (lift_over L τ) (read_all (read_over L f) Ms) T
  arguments_there L [] nil s own k = tt
  arguments_there L [] (app N T) s own k = k
  arguments_there L (Some M ∷ Ms) nil s own k = k
  arguments_there L (None ∷ Ms) nil s own k = k
  arguments_there L (Some M ∷ Ms) (app N T) ((t, m), s) (p, own) (e, k) = (e ∙ term_over Σ Σ' ok S x W V typed first free C J tc tj π σ h.is_instance w θ ρ inst L M t m p, arguments_there L Ms T s own k)
  arguments_there L (None ∷ Ms) (app N T) s own k = arguments_there L Ms T s own k

  given_there : (Ms : List (Option Term)) → HaveSkeletons (constant_skeletons Σ₁) (context_skeletons X) Ms → AllOnOwnTerms o Ms → (i : ℕ) (M : Term) → given_at (read_all f Ms) i ≡ Some M → (Q : Term) × (given_at (read_all g (put_in σ (move_all γ Ms))) i ≡ Some Q) × (substitute reduce ρ Q ≡ substitute reduce τ M)
  given_there [] s own i M e = absurd cc
  given_there (Some N ∷ Ms) ((t, n), s) (p, own) zero M e = (_, refl, term_over Σ Σ' ok S x W V typed first free C J tc tj π σ h.is_instance w θ ρ inst [] N t n p ∙ ap (substitute reduce τ) (some_same e))
  given_there (None ∷ Ms) s own zero M e = absurd cc
  given_there (Some N ∷ Ms) (n, s) (p, own) (suc i) M e = given_there Ms s own i M e
  given_there (None ∷ Ms) s own (suc i) M e = given_there Ms s own i M e

  -- The lemma
  pub held_back : HoldsAsInstance w first J θ ρ C π σ
  held_back = record {
    values = τ;
    is_ground = record { values = ground_values; instances = instances_there zero C.blocks tc.variables.blocks (λ j b e. ap (block_at C.blocks) (left j) ∙ e) };
    put = λ i A at. let (N, e, m) = value_there i A at in ap (λ y. as_term (skeleton A) (substitute_image ρ (read_image g y))) e ∙ ap (λ y. substitute reduce ρ (read g (as_term (skeleton A) y))) (sym e);
    arguments = λ T k. arguments_there C.local C.arguments T tc.arguments tc.arguments_on_own (subst (λ Ms. HasArguments (lift_over C.local ρ) (read_all (read_over C.local g) Ms) T) h.arguments (subst (λ q. HasArguments (lift_over C.local ρ) (read_all q J.arguments) T) reads (subst (λ q. HasArguments q (read_all (read_over J.local g) J.arguments) T) lifts k)));
    given = λ υ k i M e. let (Q, q, r) = given_there C.given tc.given tc.given_on_own i M e in let (a, z) = k i Q (ap (λ Ms. given_at (read_all g Ms) i) h.given ∙ q) in (a, z ∙ ap (put a) r);
  }
    where
      left : (j : ℕ) → zero + j ≡ j
      left j = omega arith

      lifts : lift_over J.local ρ ≡ lift_over C.local ρ
      lifts = ap (λ L. lift_over L ρ) h.local ∙ lift_instance (move_types γ C.local) σ ρ ∙ lift_same (move_types γ C.local) C.local ρ (length_moved γ C.local)

      reads : read_over J.local g ≡ read_over C.local g
      reads = ap (λ L. read_over L g) h.local ∙ over_instance (move_types γ C.local) σ g ∙ over_moved γ C.local g

-- What is typed in some worlds is so in those of a context with an instance of it.
pub variables_here : (Σ : Signature) (X V : List Block) (first : ℕ) (J : NumberedCase) → AreTypedVariables Σ first X J → {Σ' : Signature} {S : ℕ → Bool} {G : List LfType} (w : World Σ' V S G) (θ : ℕ → ℕ → Image) (ρ : ℕ → Image) → IsNumberedInstance w first J θ ρ → AreTypedVariables Σ first V J
variables_here Σ X V first J tj w θ ρ i = record { variables = tj.variables; on_own_terms = tj.on_own_terms; blocks = blocks_here w (with_entries Σ first (blocks_of J.blocks)) X J.variables (own_terms first J.blocks) (entry_reading first (blocks_of J.blocks) θ (length J.variables)) ρ θ zero J.blocks tj.blocks i.instances }

pub instance_holds_back : InstanceHoldsBack
instance_holds_back Σ Σ' ok W X first free C tc J tj π σ h V typed S x G w θ ρ inst = held_back Σ Σ' ok S x W V typed first free C J tc (variables_here Σ X V first J tj w θ ρ inst) π σ h w θ ρ inst
