-- The case that a solved store gives is typed, and an instance of the case: the answer's values put in, where block variables are one.
use Rattle.std.proofs.Common.{◌≡◌, ℕ, ◌+◌, ◌++◌, List, [], ◌∷◌, length, Option, Some, None, refl, sym, ap, ◌∙◌, subst}
use Rattle.std.specs.Prelude.{false}
use Rattle.lf.specs.Syntax.{Term, Spine, LfType, Kind, Skeleton, skeleton, rename_type}
use Rattle.lf.specs.Substitution.{Image, put, substitute_spine, substitute_type, after, reduce}
use Rattle.lf.specs.AtOnce.{shift_by}
use Rattle.lf.specs.Skeletons.{constant_skeletons, context_skeletons}
use Rattle.lf.specs.Typing.{Signature, TypeAt, HasType, ImageHasType, IsContext, IsSignature, IsTypedSubstitution}
use Rattle.lf.specs.Variables.{binders}
use Rattle.lf.specs.Subordination.{Block, AreTypedBlocks, Member}
use Rattle.lf.specs.Worlds.{lift_over, instance}
use Rattle.lf.proofs.Substitution.{typed_substitution_by_skeletons}
use Rattle.lf.proofs.TypeLaws.{skeleton_renamed, substitute_renamed_type}
use Rattle.lf.proofs.Weakening.{declared_is_type}
use Rattle.lf_unification.specs.OpenTyping.{skeletons_of}
use Rattle.lf_unification.specs.Solving.{IsWellFormed, Solved}
use Rattle.lf_unification.specs.Unifiers.{Store}
use Rattle.lf_cases.specs.Missing.{put_in}
use Rattle.lf_cases.specs.Pattern.{Pattern}
use Rattle.lf_coverage.specs.Leaf.{IsTypedPattern}
use Rattle.lf_coverage.specs.SplitStore.{answer_image}
use Rattle.lf_coverage.proofs.Carried.{carry}
use Rattle.lf_coverage.proofs.Forms.{far_type}
use Rattle.lf_coverage.proofs.ItemsContext.{outer_context}
use Rattle.lf_numbered.specs.EntryConstants.{with_entries, IsFreeFrom}
use Rattle.lf_numbered.specs.EntryTerms.{IsTried}
use Rattle.lf_numbered.specs.NumberedCallsStores.{Identifies, identified, move_blocks}
use Rattle.lf_numbered.specs.NumberedCase.{NumberedCase, AreTypedBlockVariables, AreTypedVariables}
use Rattle.lf_numbered.specs.NumberedInstance.{IsNumberedInstanceOf, moved_constant, move_all, move_spine, move_type, move_types}
use Rattle.lf_numbered.specs.OwnTerms.{BlockVariable, blocks_of, own_terms, put_in_blocks, ImageOnOwnTerms, OnOwnTerms}
use Rattle.lf_numbered.specs.TypedNumbered.{IsTypedNumberedCase}
use Rattle.lf_numbered.specs.WritingRoom.{move_image}
use Rattle.lf_numbered.proofs.EntryPatternsMatching.{more_context}
use Rattle.lf_numbered.proofs.EntryValues.{put_some}
use Rattle.lf_numbered.proofs.IdentifiedConstants.{kinds_stay, old_stays, types_stay}
use Rattle.lf_numbered.proofs.MeetsAnswersForm.{P, X, T, n, case_context, context, placed_length, placed_store}
use Rattle.lf_numbered.proofs.MeetsAnswersInstance.{put_in_is_instance}
use Rattle.lf_numbered.proofs.MeetsAnswersOwn.{spine_put_moved}
use Rattle.lf_numbered.proofs.MeetsAnswersSame.{O, answer, declared, found, known, own_after, own_is, same, υ, values_typed, σ as answer_of}
use Rattle.lf_numbered.proofs.MeetsAnswersSides.{owned}
use Rattle.lf_numbered.proofs.MovedConstants.{blocks_stay}
use Rattle.lf_numbered.proofs.OwnStoresAnswer.{types_owned, values_owned}
use Rattle.lf_numbered.proofs.OwnStoresSteps.{StoreOwned}
use Rattle.lf_numbered.proofs.OwnStoresTerms.{ValueOnOwnTerms}
use Rattle.lf_numbered.proofs.OwnStoresValues.{value, value_is}
use Rattle.lf_numbered.proofs.OwnTerms.{put_in_keeps}
use Rattle.lf_numbered.proofs.WritingGap.{same_old, some_moved}
use Rattle.lf_numbered.proofs.WritingMove.{move_type_substituted, moved_at, moved_image, skeleton_moved}
use Rattle.lf_numbered.proofs.WritingTyped.{typed_after}

pub nothing_behind : (bs : List BlockVariable) → bs ≡ bs ++ []
nothing_behind [] = refl
nothing_behind (b ∷ bs) = ap (λ cs. b ∷ cs) (nothing_behind bs)

module _ (Σ : Signature) (ok : IsSignature Σ) (W : List Block) (typed : AreTypedBlocks Σ W) (first : ℕ) (free : IsFreeFrom Σ first) (C : NumberedCase) (tc : IsTypedNumberedCase Σ first W C) (p : Pattern) (tp : IsTypedPattern Σ p) (π : ℕ → ℕ) (ids : Identifies C π) (φ₀ : ℕ → Image) (tried : IsTried first C p.origin false φ₀) (K : Kind) (finish : Store) (s : Solved (with_entries Σ first (blocks_of C.blocks)) (placed_store π (identified first π C) K (n Σ ok W typed first free C tc p tp π ids φ₀ tried) (T Σ ok W typed first free C tc p tp π ids φ₀ tried) (X Σ ok W typed first free C tc p tp π ids φ₀ tried)) finish) (size : length C.local ≡ length (binders [] p.type)) (form : IsWellFormed (with_entries Σ first (blocks_of C.blocks)) (placed_store π (identified first π C) K (n Σ ok W typed first free C tc p tp π ids φ₀ tried) (T Σ ok W typed first free C tc p tp π ids φ₀ tried) (X Σ ok W typed first free C tc p tp π ids φ₀ tried))) where
  abbrev Σ₁ : Signature
  Σ₁ = with_entries Σ first (blocks_of C.blocks)

  abbrev γ : ℕ → ℕ
  γ = moved_constant first (blocks_of C.blocks) (blocks_of C.blocks) π

  abbrev k : ℕ
  k = n Σ ok W typed first free C tc p tp π ids φ₀ tried

  abbrev Y : List LfType
  Y = X Σ ok W typed first free C tc p tp π ids φ₀ tried

  abbrev V : List LfType
  V = move_types γ C.variables

  abbrev F : List LfType
  F = O Σ ok W typed first free C tc p tp π ids φ₀ tried K finish s

  abbrev μ : ℕ → Skeleton
  μ = skeletons_of finish.metavariables

  abbrev o : ℕ → Option Spine
  o = own_after Σ ok W typed first free C tc p tp π ids φ₀ tried K finish s

  abbrev α : ℕ → Option Term
  α = found Σ ok W typed first free C tc p tp π ids φ₀ tried K finish s

  abbrev σ : ℕ → Image
  σ = answer_of Σ ok W typed first free C tc p tp π ids φ₀ tried K finish s

  abbrev χ : ℕ → Image
  χ = υ Σ ok W typed first free C tc p tp π ids φ₀ tried K finish s

  ok₁ : IsSignature Σ₁
  ok₁ = known Σ ok W typed first free C tc p tp π ids φ₀ tried K finish s

  -- the case with the answer's values put in
  abbrev pub read_case : NumberedCase
  read_case = record {
    blocks = put_in_blocks (υ Σ ok W typed first free C tc p tp π ids φ₀ tried K finish s) (move_blocks (moved_constant first (blocks_of C.blocks) (blocks_of C.blocks) π) C.blocks);
    variables = O Σ ok W typed first free C tc p tp π ids φ₀ tried K finish s;
    given = put_in (υ Σ ok W typed first free C tc p tp π ids φ₀ tried K finish s) (move_all (moved_constant first (blocks_of C.blocks) (blocks_of C.blocks) π) C.given);
    local = instance (move_types (moved_constant first (blocks_of C.blocks) (blocks_of C.blocks) π) C.local) (υ Σ ok W typed first free C tc p tp π ids φ₀ tried K finish s);
    family = C.family;
    arguments = put_in (lift_over C.local (υ Σ ok W typed first free C tc p tp π ids φ₀ tried K finish s)) (move_all (moved_constant first (blocks_of C.blocks) (blocks_of C.blocks) π) C.arguments);
  }

  pub blocks_same : blocks_of read_case.blocks ≡ blocks_of C.blocks
  blocks_same = put_in_keeps χ (move_blocks γ C.blocks) ∙ blocks_stay γ C.blocks

  start : StoreOwned μ o α (placed_store π (identified first π C) K k (T Σ ok W typed first free C tc p tp π ids φ₀ tried) Y)
  start = owned Σ ok W typed first free C tc p tp π ids φ₀ tried K finish s size

  -- the values are on own terms
  pub image_own : (i : ℕ) → ImageOnOwnTerms (own_after Σ ok W typed first free C tc p tp π ids φ₀ tried K finish s) (answer_of Σ ok W typed first free C tc p tp π ids φ₀ tried K finish s i)
  image_own i = of_image (μ i) (α i) (values_owned Σ₁ ok₁ (placed_store π (identified first π C) K k (T Σ ok W typed first free C tc p tp π ids φ₀ tried) Y) finish form s o start i)
    where
      of_image : (a : Skeleton) (y : Option Term) → ValueOnOwnTerms o y → ImageOnOwnTerms o (answer_image a y)
      of_image a None v = tt
      of_image a (Some N) v = v

  pub answer_context : IsContext (with_entries Σ first (blocks_of C.blocks)) (O Σ ok W typed first free C tc p tp π ids φ₀ tried K finish s)
  answer_context = (answer Σ ok W typed first free C tc p tp π ids φ₀ tried K finish s).0.context

  cv : IsContext Σ₁ V
  cv = case_context Σ ok W typed first free C tc p tp π ids φ₀ tried

  -- a variable of the case stands behind the clause's own
  behind : (i : ℕ) (A : LfType) → TypeAt V i A → TypeAt Y (i + k) (rename_type (shift_by k) A)
  behind i A g = subst (λ m. TypeAt Y (i + m) (rename_type (shift_by m) A)) (placed_length Σ ok W typed first free C tc p tp π ids φ₀ tried) (far_type (P Σ ok W typed first free C tc p tp π ids φ₀ tried) V i A g)

  pub case_typed : IsTypedSubstitution (with_entries Σ first (blocks_of C.blocks)) (move_types (moved_constant first (blocks_of C.blocks) (blocks_of C.blocks) π) C.variables) (O Σ ok W typed first free C tc p tp π ids φ₀ tried K finish s) (υ Σ ok W typed first free C tc p tp π ids φ₀ tried K finish s)
  case_typed i A g = subst (ImageHasType Σ₁ F (σ (i + k))) (substitute_renamed_type reduce σ (shift_by k) A) (values_typed Σ ok W typed first free C tc p tp π ids φ₀ tried K finish s (i + k) (rename_type (shift_by k) A) (behind i A g))

  terms : (i : ℕ) (A : LfType) → TypeAt C.variables i A → (N : Term) × (χ i ≡ put (skeleton A) N) × HasType Σ₁ F N (substitute_type reduce χ (move_type γ A)) × OnOwnTerms o N
  terms i A g =
      let B : LfType = rename_type (shift_by k) (move_type γ A) in
      let h : TypeAt Y (i + k) B = behind i (move_type γ A) (moved_at γ C.variables i A g) in
      let cy : IsContext Σ₁ Y = context Σ ok W typed first free C tc p tp π ids φ₀ tried in
      let N : Term = (value Σ₁ ok₁ Y cy finish s.well_formed.order (answer Σ ok W typed first free C tc p tp π ids φ₀ tried K finish s) (declared Σ ok W typed first free C tc p tp π ids φ₀ tried K finish s) (i + k) B h).0 in
      let q : σ (i + k) ≡ put (skeleton B) N = value_is Σ₁ ok₁ Y cy finish s.well_formed.order (answer Σ ok W typed first free C tc p tp π ids φ₀ tried K finish s) (declared Σ ok W typed first free C tc p tp π ids φ₀ tried K finish s) (i + k) B h in (
        N,
        q ∙ ap (λ a. put a N) (skeleton_renamed (shift_by k) (move_type γ A) ∙ skeleton_moved γ A),
        (subst (λ y. ImageHasType Σ₁ F y (substitute_type reduce χ (move_type γ A))) q (case_typed i (move_type γ A) (moved_at γ C.variables i A g))).1,
        subst (ImageOnOwnTerms o) q (image_own (i + k)),
      )

  -- The case is typed
  some_moved_typed : (B : Block) → Member B W → (τ : ℕ → Image) → IsTypedSubstitution Σ₁ B.some C.variables τ → IsTypedSubstitution Σ₁ B.some V (λ i. move_image γ (τ i))
  some_moved_typed B m τ u i A g =
      let c : IsContext Σ B.some = outer_context Σ B.entries B.some (typed B m) in
      subst (ImageHasType Σ₁ V (move_image γ (τ i))) (move_type_substituted γ τ A ∙ ap (substitute_type reduce (λ j. move_image γ (τ j))) (same_old Σ γ B.some A (old_stays Σ ok W typed first free C tc.variables π ids) (declared_is_type Σ ok B.some i A c g))) (moved_image γ Σ₁ Σ₁ (types_stay Σ ok W typed first free C tc.variables π ids) (kinds_stay Σ ok W typed first free C tc.variables π ids) C.variables (τ i) (substitute_type reduce τ A) (u i A g))

  blocks_typed : (bs : List BlockVariable) → AreTypedBlockVariables Σ₁ W C.variables (own_terms first C.blocks) bs → AreTypedBlockVariables Σ₁ W F o (put_in_blocks χ (move_blocks γ bs))
  blocks_typed [] t = tt
  blocks_typed (b ∷ bs) (m, (τ, u, z), w, t) =
      let B : Block = b.block in
      let τ₁ : ℕ → Image = λ i. move_image γ (τ i) in
      let u₁ : IsTypedSubstitution Σ₁ B.some V τ₁ = some_moved_typed B m τ u in
      let c : IsContext Σ₁ B.some = more_context Σ ok W typed first free C tc B.some (outer_context Σ B.entries B.some (typed B m)) in (
        m,
        (after χ τ₁, typed_after Σ₁ ok₁ B.some V F τ₁ χ c cv answer_context u₁ case_typed, ap (λ U. substitute_spine reduce χ (move_spine γ U)) z ∙ ap (substitute_spine reduce χ) (some_moved γ B.some τ) ∙ put_some (constant_skeletons Σ₁) B.some (context_skeletons V) (context_skeletons F) τ₁ χ (typed_substitution_by_skeletons Σ₁ ok₁ B.some V τ₁ u₁) (typed_substitution_by_skeletons Σ₁ ok₁ V F χ case_typed)),
        spine_put_moved γ (own_terms first C.blocks) o χ b.terms (own_is Σ ok W typed first free C tc p tp π ids φ₀ tried K finish s) (λ i. image_own (i + k)) w,
        blocks_typed bs t,
      )

  pub read_typed : AreTypedVariables Σ first W read_case
  read_typed = record {
    variables = subst (λ Bs. IsContext (with_entries Σ first Bs) F) (sym blocks_same) answer_context;
    on_own_terms = types_owned Σ₁ ok₁ (placed_store π (identified first π C) K k (T Σ ok W typed first free C tc p tp π ids φ₀ tried) Y) finish form s o start;
    blocks = subst (λ Bs. AreTypedBlockVariables (with_entries Σ first Bs) W F o (put_in_blocks χ (move_blocks γ C.blocks))) (sym blocks_same) (blocks_typed C.blocks tc.variables.blocks);
  }

  -- the terms for the variables, over the entries of that case
  pub read_terms : (i : ℕ) (A : LfType) → TypeAt C.variables i A → (N : Term) × (υ Σ ok W typed first free C tc p tp π ids φ₀ tried K finish s i ≡ put (skeleton A) N) × HasType (with_entries Σ first (blocks_of read_case.blocks)) read_case.variables N (substitute_type reduce (υ Σ ok W typed first free C tc p tp π ids φ₀ tried K finish s) (move_type (moved_constant first (blocks_of C.blocks) (blocks_of C.blocks) π) A)) × OnOwnTerms (own_terms first read_case.blocks) N
  read_terms i A g = let (N, q, t, w) = terms i A g in (N, q, subst (λ Bs. HasType (with_entries Σ first Bs) F N (substitute_type reduce χ (move_type γ A))) (sym blocks_same) t, w)

  -- It is an instance
  pub read_is_instance : IsNumberedInstanceOf Σ first read_case C π (carry C.variables read_case.variables (υ Σ ok W typed first free C tc p tp π ids φ₀ tried K finish s))
  read_is_instance = put_in_is_instance Σ ok W typed first free C tc π ids read_case χ [] (nothing_behind (put_in_blocks χ (move_blocks γ C.blocks))) (same Σ ok W typed first free C tc p tp π ids φ₀ tried K finish s) refl refl refl refl read_terms
