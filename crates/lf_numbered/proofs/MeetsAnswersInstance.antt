-- A case whose block variables are one by π, with typed values put in, is an instance of the case.
use Rattle.std.proofs.Common.{◌≡◌, ℕ, zero, suc, ◌+◌, ◌++◌, List, [], ◌∷◌, length, refl, sym, ap, ap₂, ◌∙◌, subst, arith}
use Rattle.std.specs.Prelude.{Option, Some, None}
use Rattle.lf.specs.Syntax.{Term, Spine, LfType, Skeleton, skeleton, weaken, variable}
use Rattle.lf.specs.Substitution.{Image, keep, put, substitute, substitute_spine, substitute_type, reduce}
use Rattle.lf.specs.AtOnce.{in_front}
use Rattle.lf.specs.SkeletonTyping.{ImageSkeleton, TermSkeleton, SubstitutionBySkeletons}
use Rattle.lf.specs.Skeletons.{constant_skeletons, context_skeletons}
use Rattle.lf.specs.Typing.{Signature, TypeAt, HasType, IsContext, IsSignature}
use Rattle.lf.specs.Variables.{onto}
use Rattle.lf.specs.Subordination.{Block, AreTypedBlocks}
use Rattle.lf.specs.Worlds.{lift_over, instance}
use Rattle.lf.proofs.AtOnce.{eta_long_has_skeleton}
use Rattle.lf.proofs.Closed.{agree_type}
use Rattle.lf.proofs.Substitution.{typed_substitution_by_skeletons}
use Rattle.lf.proofs.ToSkeletons.{skeleton_has_variable, variable_has_skeleton}
use Rattle.lf.proofs.TypeLaws.{skeleton_renamed, substitute_renamed_type}
use Rattle.lf.proofs.Weakening.{declared_is_type}
use Rattle.lf_cases.specs.Case.{as_term}
use Rattle.lf_cases.specs.Missing.{put_in}
use Rattle.lf_totality.proofs.OutputCases.{in_covers}
use Rattle.lf_coverage.proofs.Carried.{carry, carry_same}
use Rattle.lf_coverage.proofs.Parts.{none_some, some_same}
use Rattle.lf_coverage.proofs.StayTyped.{instance_agree}
use Rattle.lf_coverage.proofs.Transfer.{SameIn, same_in, same_over}
use Rattle.lf_numbered.specs.EntryConstants.{EntryConstant, entry_constant, with_entries, IsFreeFrom}
use Rattle.lf_numbered.specs.NumberedCallsStores.{Identifies, move_blocks}
use Rattle.lf_numbered.specs.NumberedCase.{NumberedCase, AreTypedBlockVariables, some_spine}
use Rattle.lf_numbered.specs.NumberedInstance.{AreTypedValues, IsNumberedInstanceOf, block_at, first_constant, moved_entry, moved_constant, move_spine, move_type, move_types, move_all}
use Rattle.lf_numbered.specs.OwnTerms.{BlockVariable, blocks_of, own_terms, OnOwnTerms, put_in_blocks}
use Rattle.lf_numbered.specs.TypedNumbered.{IsTypedNumberedCase}
use Rattle.lf_numbered.specs.WritingRoom.{move_image}
use Rattle.lf_numbered.proofs.EntryPatternsSplits.{carry_past, put_same}
use Rattle.lf_numbered.proofs.EntryValues.{put_add as put_last}
use Rattle.lf_numbered.proofs.IdentifiedConstants.{all_stay, context_stays, term_stays}
use Rattle.lf_numbered.proofs.MovedConstants.{onto_moved, type_from}
use Rattle.lf_numbered.proofs.OwnStoresEntry.{ok₁}
use Rattle.lf_numbered.proofs.OwnValuesInstances.{some_mapped}
use Rattle.lf_numbered.proofs.WritingChoice.{from_is}
use Rattle.lf_numbered.proofs.WritingGap.{some_moved}
use Rattle.lf_numbered.proofs.WritingMove.{move_type_renamed, moved_at}
use mathlib.Core.Path.{fun_ext}

-- typed terms on own terms for each variable, and past them the variables behind, are typed values, also with moved constants
typed_values : (Σ : Signature) (Y : List LfType) (o : ℕ → Option Spine) (γ : ℕ → ℕ) (X : List LfType) (σ : ℕ → Image) → ((i : ℕ) (A : LfType) → TypeAt X i A → (N : Term) × (σ i ≡ put (skeleton A) N) × HasType Σ Y N (substitute_type reduce σ (move_type γ A)) × OnOwnTerms o N) → ((i : ℕ) → σ (i + length X) ≡ keep (i + length Y)) → AreTypedValues Σ Y o γ X σ
typed_values Σ Y o γ [] σ h past = fun_ext (λ i. ap σ (none i) ∙ past i)
  where
    none : (i : ℕ) → i ≡ i + 0
    none i = omega arith
typed_values Σ Y o γ (A ∷ X) σ h past =
    let (N, e, n, own) = h zero (weaken A) refl in (
      N,
      (λ i. σ (suc i)),
      typed_values Σ Y o γ X (λ i. σ (suc i)) (λ i B g. let (M, q, m, w) = h (suc i) (weaken B) (B, g, refl) in (M, q ∙ ap (λ a. put a M) (skeleton_renamed suc B), subst (HasType Σ Y M) (shorter B) m, w)) (λ i. ap σ (next i (length X)) ∙ past i),
      subst (HasType Σ Y N) (shorter A) n,
      own,
      fun_ext (front N (e ∙ ap (λ a. put a N) (skeleton_renamed suc A))),
    )
  where
    next : (i n : ℕ) → suc (i + n) ≡ i + suc n
    next i n = omega arith

    shorter : (B : LfType) → substitute_type reduce σ (move_type γ (weaken B)) ≡ substitute_type reduce (λ i. σ (suc i)) (move_type γ B)
    shorter B = ap (substitute_type reduce σ) (move_type_renamed γ suc B) ∙ substitute_renamed_type reduce σ suc (move_type γ B)

    front : (N : Term) → σ zero ≡ put (skeleton A) N → (i : ℕ) → σ i ≡ in_front (put (skeleton A) N) (λ j. σ (suc j)) i
    front N e zero = e
    front N e (suc i) = refl

first_stays : (n : ℕ) (υ : ℕ → Image) (γ : ℕ → ℕ) (bs ds : List BlockVariable) (k : ℕ) (b : BlockVariable) → block_at bs k ≡ Some b → first_constant n (blocks_of (put_in_blocks υ (move_blocks γ bs) ++ ds)) k ≡ first_constant n (blocks_of bs) k
first_stays n υ γ [] ds k b e = absurd (none_some e)
first_stays n υ γ (c ∷ bs) ds zero b e = refl
first_stays n υ γ (c ∷ bs) ds (suc k) b e = first_stays (n + length c.block.entries) υ γ bs ds k b e

there : (υ : ℕ → Image) (γ : ℕ → ℕ) (bs ds : List BlockVariable) (k : ℕ) (b : BlockVariable) → block_at bs k ≡ Some b → block_at (put_in_blocks υ (move_blocks γ bs) ++ ds) k ≡ Some (record { block = b.block; terms = substitute_spine reduce υ (move_spine γ b.terms) })
there υ γ [] ds k b e = absurd (none_some e)
there υ γ (d ∷ bs) ds zero b e = ap (λ (c : BlockVariable). Some (record { block = c.block; terms = substitute_spine reduce υ (move_spine γ c.terms) })) (some_same e)
there υ γ (d ∷ bs) ds (suc k) b e = there υ γ bs ds k b e

module _ (Σ : Signature) (ok : IsSignature Σ) (W : List Block) (typed : AreTypedBlocks Σ W) (first : ℕ) (free : IsFreeFrom Σ first) (C : NumberedCase) (tc : IsTypedNumberedCase Σ first W C) (π : ℕ → ℕ) (ids : Identifies C π) where
  abbrev γ : ℕ → ℕ
  γ = moved_constant first (blocks_of C.blocks) (blocks_of C.blocks) π

  abbrev X : List LfType
  X = C.variables

  abbrev Σ₁ : Signature
  Σ₁ = with_entries Σ first (blocks_of C.blocks)

  known : IsSignature Σ₁
  known = ok₁ Σ ok W typed first free C tc.variables

  moves_same : (υ : ℕ → Image) (ds : List BlockVariable) → moved_constant first (blocks_of C.blocks) (blocks_of (put_in_blocks υ (move_blocks γ C.blocks) ++ ds)) π ≡ γ
  moves_same υ ds = fun_ext (λ c. by c (entry_constant zero first (blocks_of C.blocks) c) refl)
    where
      none : (j : ℕ) → zero + j ≡ j
      none j = omega arith

      by : (c : ℕ) (e : Option EntryConstant) → entry_constant zero first (blocks_of C.blocks) c ≡ e → moved_entry first (blocks_of (put_in_blocks υ (move_blocks γ C.blocks) ++ ds)) π c e ≡ moved_entry first (blocks_of C.blocks) π c e
      by c None q = refl
      by c (Some e) q =
          let (j, b, at, number, block, from, place, later, entries, rest) = from_is zero first C.blocks c e q in
          let (d, to, same, fixed) = ids j b at in
          ap (λ k. first_constant first (blocks_of (put_in_blocks υ (move_blocks γ C.blocks) ++ ds)) (π k) + length e.before) (number ∙ none j)
          ∙ ap (λ n. n + length e.before) (first_stays first υ γ C.blocks ds (π j) d to)
          ∙ ap (λ k. first_constant first (blocks_of C.blocks) (π k) + length e.before) (sym (number ∙ none j))

  module _ (D : NumberedCase) (υ : ℕ → Image) (ds : List BlockVariable) (blocks : D.blocks ≡ put_in_blocks υ (move_blocks γ C.blocks) ++ ds) (same : (k : ℕ) (b c : BlockVariable) → block_at C.blocks k ≡ Some b → block_at C.blocks (π k) ≡ Some c → substitute_spine reduce υ (move_spine γ b.terms) ≡ substitute_spine reduce υ (move_spine γ c.terms)) (given : D.given ≡ put_in υ (move_all γ C.given)) (local : D.local ≡ instance (move_types γ C.local) υ) (family : D.family ≡ C.family) (arguments : D.arguments ≡ put_in (lift_over C.local υ) (move_all γ C.arguments)) (terms : (i : ℕ) (A : LfType) → TypeAt C.variables i A → (N : Term) × (υ i ≡ put (skeleton A) N) × HasType (with_entries Σ first (blocks_of D.blocks)) D.variables N (substitute_type reduce υ (move_type γ A)) × OnOwnTerms (own_terms first D.blocks) N) where
    abbrev Y : List LfType
    Y = D.variables

    abbrev σ : ℕ → Image
    σ = carry C.variables D.variables υ

    stays : moved_constant first (blocks_of C.blocks) (blocks_of D.blocks) π ≡ γ
    stays = ap (λ bs. moved_constant first (blocks_of C.blocks) (blocks_of bs) π) blocks ∙ moves_same υ ds

    near : (i : ℕ) (A : LfType) → TypeAt X i A → υ i ≡ σ i
    near i A g = sym (carry_same X Y υ i (in_covers X i A g))

    near_moved : (i : ℕ) (B : LfType) → TypeAt (move_types γ X) i B → υ i ≡ σ i
    near_moved i B g = let (A, h, q) = type_from γ X i B g in near i A h

    near_skeletons : SameIn (context_skeletons X) υ σ
    near_skeletons i t g = let (A, h, e) = skeleton_has_variable X i t g in near i A h

    context : IsContext Σ₁ (move_types γ X)
    context = context_stays Σ ok W typed first free C tc.variables π ids X tc.variables.variables

    value_at : (i : ℕ) (A : LfType) → TypeAt X i A → (N : Term) × (σ i ≡ put (skeleton A) N) × HasType (with_entries Σ first (blocks_of D.blocks)) Y N (substitute_type reduce σ (move_type γ A)) × OnOwnTerms (own_terms first D.blocks) N
    value_at i A g =
        let (N, e, n, m) = terms i A g in
        (N, sym (near i A g) ∙ e, subst (HasType (with_entries Σ first (blocks_of D.blocks)) Y N) (agree_type Σ₁ reduce (move_types γ X) υ σ (move_type γ A) near_moved (declared_is_type Σ₁ known (move_types γ X) i (move_type γ A) context (moved_at γ X i A g))) n, m)

    moved_fits : (O : List LfType) (τ : ℕ → Image) → SubstitutionBySkeletons (constant_skeletons Σ₁) (context_skeletons O) (context_skeletons X) τ → SubstitutionBySkeletons (constant_skeletons Σ₁) (context_skeletons O) (context_skeletons X) (λ i. move_image γ (τ i))
    moved_fits O τ s i t g = by (τ i) (s i t g)
      where
        by : (y : Image) → ImageSkeleton (constant_skeletons Σ₁) (context_skeletons X) y t → ImageSkeleton (constant_skeletons Σ₁) (context_skeletons X) (move_image γ y) t
        by (keep j) h = h
        by (put a N) (e, n) = (e, term_stays Σ ok W typed first free C tc.variables π ids (context_skeletons X) N a n)

    some_same_values : (O : List LfType) (τ : ℕ → Image) → SubstitutionBySkeletons (constant_skeletons Σ₁) (context_skeletons O) (context_skeletons X) τ → substitute_spine reduce υ (some_spine O τ) ≡ substitute_spine reduce σ (some_spine O τ)
    some_same_values O τ s = some_mapped (substitute_spine reduce υ) (substitute_spine reduce σ) (substitute reduce υ) (substitute reduce σ) refl (put_last υ) (put_last σ) O τ (λ i A h. same_in (constant_skeletons Σ₁) (context_skeletons X) υ σ near_skeletons (as_term (skeleton A) (τ i)) (skeleton A) (term_fits (skeleton A) (τ i) (s i (skeleton A) (variable_has_skeleton O i A h))))
      where
        term_fits : (a : Skeleton) (x : Image) → ImageSkeleton (constant_skeletons Σ₁) (context_skeletons X) x a → TermSkeleton (constant_skeletons Σ₁) (context_skeletons X) (as_term a x) a
        term_fits a (keep j) g = eta_long_has_skeleton (constant_skeletons Σ₁) (context_skeletons X) a (variable j) g
        term_fits a (put b N) (e, n) = subst (TermSkeleton (constant_skeletons Σ₁) (context_skeletons X) N) e n

    -- the terms of a block variable
    terms_same : (bs : List BlockVariable) → AreTypedBlockVariables Σ₁ W X (own_terms first C.blocks) bs → (k : ℕ) (b : BlockVariable) → block_at bs k ≡ Some b → substitute_spine reduce υ (move_spine γ b.terms) ≡ substitute_spine reduce σ (move_spine γ b.terms)
    terms_same [] t k b e = absurd (none_some e)
    terms_same (d ∷ bs) (m, (τ, u, z), w, t) zero b e = subst (λ (c : BlockVariable). substitute_spine reduce υ (move_spine γ c.terms) ≡ substitute_spine reduce σ (move_spine γ c.terms)) (some_same e) (ap (substitute_spine reduce υ) (ap (move_spine γ) z ∙ some_moved γ d.block.some τ) ∙ some_same_values d.block.some (λ i. move_image γ (τ i)) (moved_fits d.block.some τ (typed_substitution_by_skeletons Σ₁ known d.block.some X τ u)) ∙ ap (substitute_spine reduce σ) (sym (ap (move_spine γ) z ∙ some_moved γ d.block.some τ)))
    terms_same (d ∷ bs) (m, s, w, t) (suc k) b e = terms_same bs t k b e

    block_there : (k : ℕ) (b : BlockVariable) → block_at C.blocks k ≡ Some b → block_at D.blocks (π k) ≡ Some (record { block = b.block; terms = substitute_spine reduce σ (move_spine γ b.terms) })
    block_there k b e =
        let (c, to, q, fixed) = ids k b e in
        ap (λ bs. block_at bs (π k)) blocks
        ∙ there υ γ C.blocks ds (π k) c to
        ∙ ap₂ (λ B U. Some (record { block = B; terms = U })) q (sym (same k b c e to) ∙ terms_same C.blocks tc.variables.blocks k b e)

    over : IsContext Σ₁ (onto (move_types γ C.local) (move_types γ X))
    over = subst (IsContext Σ₁) (onto_moved γ C.local X) (context_stays Σ ok W typed first free C tc.variables π ids (onto C.local X) tc.local)

    -- The lemma
    pub put_in_is_instance : IsNumberedInstanceOf Σ first D C π (carry C.variables D.variables υ)
    put_in_is_instance = record {
      is_instance = record {
        blocks = λ k b e. block_there k b e ∙ ap (λ g. Some (record { block = b.block; terms = substitute_spine reduce σ (move_spine g b.terms) })) (sym stays);
        values = subst (λ g. AreTypedValues (with_entries Σ first (blocks_of D.blocks)) Y (own_terms first D.blocks) g X σ) (sym stays) (typed_values (with_entries Σ first (blocks_of D.blocks)) Y (own_terms first D.blocks) γ X σ value_at (carry_past X Y υ));
      };
      family = family;
      given = given ∙ put_same (constant_skeletons Σ₁) (context_skeletons X) υ σ near_skeletons (move_all γ C.given) (all_stay Σ ok W typed first free C tc.variables π ids (context_skeletons X) C.given tc.given) ∙ ap (λ g. put_in σ (move_all g C.given)) (sym stays);
      local = local ∙ (instance_agree Σ₁ (move_types γ C.local) (move_types γ X) υ σ over near_moved).0 ∙ ap (λ g. instance (move_types g C.local) σ) (sym stays);
      arguments = arguments ∙ put_same (constant_skeletons Σ₁) (context_skeletons (onto C.local X)) (lift_over C.local υ) (lift_over C.local σ) (same_over C.local X υ σ near_skeletons) (move_all γ C.arguments) (all_stay Σ ok W typed first free C tc.variables π ids (context_skeletons (onto C.local X)) C.arguments tc.arguments) ∙ ap (λ g. put_in (lift_over C.local σ) (move_all g C.arguments)) (sym stays);
    }
