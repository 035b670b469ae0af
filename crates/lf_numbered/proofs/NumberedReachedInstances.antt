-- A case that unification gives by number is a typed instance of the case that the head is offered to.
use Rattle.std.proofs.Common.{◌≡◌, ℕ, zero, suc, ◌+◌, ◌++◌, List, [], ◌∷◌, length, refl, sym, ap, ap₂, ◌∙◌, subst, arith}
use Rattle.std.specs.Prelude.{Bool, Option, Some, None}
use Rattle.lf.specs.Syntax.{Head, Term, Spine, LfType, Kind, skeleton, weaken, rename_type}
use Rattle.lf.specs.Substitution.{Image, keep, put, rename_image, substitute, substitute_spine, substitute_type, reduce}
use Rattle.lf.specs.AtOnce.{in_front, shift_by, lift_renaming_by}
use Rattle.lf.specs.SkeletonTyping.{SubstitutionBySkeletons}
use Rattle.lf.specs.Skeletons.{constant_skeletons, context_skeletons}
use Rattle.lf.specs.Typing.{Signature, TypeAt, HasType, IsSignature}
use Rattle.lf.specs.Variables.{target}
use Rattle.lf.specs.Subordination.{Block, AreTypedBlocks, Member}
use Rattle.lf.specs.Worlds.{lift_over, instance}
use Rattle.lf.proofs.Agreement.{agree_on_type}
use Rattle.lf.proofs.Kept.{typed_uses_type}
use Rattle.lf.proofs.Renaming.{substitute_renamed, substitute_renamed_spine}
use Rattle.lf.proofs.Substitution.{typed_substitution_by_skeletons}
use Rattle.lf.proofs.ToSkeletons.{skeleton_has_variable, variable_has_skeleton}
use Rattle.lf.proofs.TypeLaws.{skeleton_renamed, substitute_renamed_type}
use Rattle.lf.proofs.Weakening.{declared_is_type}
use Rattle.lf_unification.specs.Offering.{local_arguments}
use Rattle.lf_unification.specs.Solving.{Solved}
use Rattle.lf_unification.specs.Unifiers.{Store}
use Rattle.lf_cases.specs.Case.{as_term}
use Rattle.lf_cases.specs.Reached.{arguments_count}
use Rattle.lf_totality.proofs.OutputCases.{in_context, in_covers}
use Rattle.lf_numbered.specs.EntryConstants.{EntryConstant, entry_constant, with_entries, IsFreeFrom}
use Rattle.lf_cases.specs.Missing.{put_in}
use Rattle.lf_cases.specs.OutputGoal.{renumber}
use Rattle.lf_coverage.specs.SplitStore.{answer_values}
use Rattle.lf_coverage.proofs.Carried.{carry, carry_same}
use Rattle.lf_coverage.proofs.Forms.{far_type}
use Rattle.lf_coverage.proofs.Parts.{none_some, some_same}
use Rattle.lf_coverage.proofs.StayTyped.{instance_agree}
use Rattle.lf_coverage.proofs.Transfer.{SameIn, same_in, same_over}
use Rattle.lf_numbered.specs.NewBlock.{rename_all, with_new_block}
use Rattle.lf_numbered.specs.NumberedCase.{NumberedCase, AreTypedBlockVariables, some_spine}
use Rattle.lf_numbered.specs.NumberedInstance.{AreTypedValues, IsNumberedInstanceOf, block_at, first_constant, moved_entry, moved_constant, move_spine, move_types, move_all}
use Rattle.lf_numbered.specs.NumberedReachedInstances.{SplitCaseIsNumberedInstance, ListedIsNumberedInstance}
use Rattle.lf_numbered.specs.OwnStores.{IsNumberedOffer, numbered_store, solved_numbered}
use Rattle.lf_numbered.specs.OwnTerms.{BlockVariable, blocks_of, own_terms, OnOwnTerms, put_in_blocks, rename_blocks}
use Rattle.lf_numbered.specs.TypedNumbered.{IsTypedNumberedCase}
use Rattle.lf_numbered.specs.NumberedSplits.{NumberedOffer, IsOfferTo, of_case, of_new_block, NumberedUnifierFinds}
use Rattle.lf_numbered.proofs.EntryPatternsSplits.{carry_past, put_same}
use Rattle.lf_numbered.proofs.EntryValues.{put_add as put_last}
use Rattle.lf_numbered.proofs.NumberedCallsOwn.{unmoved_spine, unmoved_type, unmoved_types, unmoved_all}
use Rattle.lf_numbered.proofs.OwnStoresNewBlock.{new_block_stays_typed}
use Rattle.lf_numbered.proofs.WritingChoice.{from_is}
use Rattle.lf_numbered.proofs.NumberedReachedSplit.{are_put_terms}
use Rattle.lf_numbered.proofs.NumberedSplitCases.{unified_case}
use Rattle.lf_numbered.proofs.OwnStoresEntry.{ok₁}
use Rattle.lf_numbered.proofs.OwnValuesInstances.{some_mapped, term_fits}
use mathlib.Core.Path.{fun_ext}

-- typed terms on own terms for each variable, and past them the variables behind, are typed values
typed_values : (Σ : Signature) (Y : List LfType) (o : ℕ → Option Spine) (X : List LfType) (σ : ℕ → Image) → ((i : ℕ) (A : LfType) → TypeAt X i A → (N : Term) × (σ i ≡ put (skeleton A) N) × HasType Σ Y N (substitute_type reduce σ A) × OnOwnTerms o N) → ((i : ℕ) → σ (i + length X) ≡ keep (i + length Y)) → AreTypedValues Σ Y o (λ c. c) X σ
typed_values Σ Y o [] σ h past = fun_ext (λ i. ap σ (none i) ∙ past i)
  where
    none : (i : ℕ) → i ≡ i + 0
    none i = omega arith
typed_values Σ Y o (A ∷ X) σ h past =
    let (N, e, n, own) = h zero (weaken A) refl in (
      N,
      (λ i. σ (suc i)),
      typed_values Σ Y o X (λ i. σ (suc i)) (λ i B g. let (M, q, m, w) = h (suc i) (weaken B) (B, g, refl) in (M, q ∙ ap (λ a. put a M) (skeleton_renamed suc B), subst (HasType Σ Y M) (substitute_renamed_type reduce σ suc B) m, w)) (λ i. ap σ (next i (length X)) ∙ past i),
      subst (HasType Σ Y N) (substitute_renamed_type reduce σ suc A ∙ ap (substitute_type reduce (λ i. σ (suc i))) (sym (unmoved_type A))) n,
      own,
      fun_ext (front N (e ∙ ap (λ a. put a N) (skeleton_renamed suc A))),
    )
  where
    next : (i n : ℕ) → suc (i + n) ≡ i + suc n
    next i n = omega arith

    front : (N : Term) → σ zero ≡ put (skeleton A) N → (i : ℕ) → σ i ≡ in_front (put (skeleton A) N) (λ j. σ (suc j)) i
    front N e zero = e
    front N e (suc i) = refl

-- where constants are block variables', each stays behind whatever is put in, and before whatever comes behind
first_stays : (n : ℕ) (υ : ℕ → Image) (bs ds : List BlockVariable) (k : ℕ) (b : BlockVariable) → block_at bs k ≡ Some b → first_constant n (blocks_of (put_in_blocks υ bs ++ ds)) k ≡ first_constant n (blocks_of bs) k
first_stays n υ [] ds k b e = absurd (none_some e)
first_stays n υ (c ∷ bs) ds zero b e = refl
first_stays n υ (c ∷ bs) ds (suc k) b e = first_stays (n + length c.block.entries) υ bs ds k b e

constant_stays : (first : ℕ) (υ : ℕ → Image) (bs ds : List BlockVariable) (c : ℕ) → moved_constant first (blocks_of bs) (blocks_of (put_in_blocks υ bs ++ ds)) (λ k. k) c ≡ c
constant_stays first υ bs ds c = by (entry_constant zero first (blocks_of bs) c) refl
  where
    none : (j : ℕ) → zero + j ≡ j
    none j = omega arith

    by : (e : Option EntryConstant) → entry_constant zero first (blocks_of bs) c ≡ e → moved_entry first (blocks_of (put_in_blocks υ bs ++ ds)) (λ k. k) c e ≡ c
    by None q = refl
    by (Some e) q =
        let (j, b, at, number, block, from, place, later, entries, rest) = from_is zero first bs c e q in
        ap (λ k. first_constant first (blocks_of (put_in_blocks υ bs ++ ds)) k + length e.before) (number ∙ none j) ∙ ap (λ n. n + length e.before) (first_stays first υ bs ds j b at ∙ sym from) ∙ sym place

-- typed terms, on own terms, for the variables of C
abbrev AreNumberedTerms : Signature → ℕ → NumberedCase → NumberedCase → (ℕ → Image) → Type 0
AreNumberedTerms Σ first C D υ = (i : ℕ) (A : LfType) → TypeAt C.variables i A → (N : Term) × (υ i ≡ put (skeleton A) N) × HasType (with_entries Σ first (blocks_of D.blocks)) D.variables N (substitute_type reduce υ A) × OnOwnTerms (own_terms first D.blocks) N

-- a block variable of the block on these terms
abbrev on_terms : Block → Spine → BlockVariable
on_terms B U = record { block = B; terms = U }

-- what is renamed before
blocks_renamed : (ρ : ℕ → ℕ) (υ : ℕ → Image) (bs ds : List BlockVariable) → put_in_blocks υ (rename_blocks ρ bs ++ ds) ≡ put_in_blocks (λ i. υ (ρ i)) bs ++ put_in_blocks υ ds
blocks_renamed ρ υ [] ds = refl
blocks_renamed ρ υ (b ∷ bs) ds = ap₂ (λ U cs. on_terms b.block U ∷ cs) (substitute_renamed_spine reduce υ ρ b.terms) (blocks_renamed ρ υ bs ds)

all_renamed : (ρ : ℕ → ℕ) (υ τ : ℕ → Image) → ((i : ℕ) → υ (ρ i) ≡ τ i) → (Ms : List (Option Term)) → put_in υ (rename_all ρ Ms) ≡ put_in τ Ms
all_renamed ρ υ τ h [] = refl
all_renamed ρ υ τ h (Some M ∷ Ms) = ap₂ (λ N Ns. Some N ∷ Ns) (substitute_renamed reduce υ ρ M ∙ ap (λ f. substitute reduce f M) (fun_ext h)) (all_renamed ρ υ τ h Ms)
all_renamed ρ υ τ h (None ∷ Ms) = ap (λ Ns. None ∷ Ns) (all_renamed ρ υ τ h Ms)

pub over_renamed : (ρ : ℕ → ℕ) (υ : ℕ → Image) (L : List LfType) (i : ℕ) → lift_over (renumber ρ L) υ (lift_renaming_by (length L) ρ i) ≡ lift_over L (λ j. υ (ρ j)) i
over_renamed ρ υ [] i = refl
over_renamed ρ υ (A ∷ L) zero = refl
over_renamed ρ υ (A ∷ L) (suc i) = ap (rename_image suc) (over_renamed ρ υ L i)

local_renamed : (ρ : ℕ → ℕ) (υ : ℕ → Image) (L : List LfType) → instance (renumber ρ L) υ ≡ instance L (λ j. υ (ρ j))
local_renamed ρ υ [] = refl
local_renamed ρ υ (A ∷ L) = ap₂ (λ B M. B ∷ M) (substitute_renamed_type reduce (lift_over (renumber ρ L) υ) (lift_renaming_by (length L) ρ) A ∙ ap (λ f. substitute_type reduce f A) (fun_ext (over_renamed ρ υ L))) (local_renamed ρ υ L)

module _ (Σ : Signature) (W : List Block) (first : ℕ) (C D : NumberedCase) (ok₁ : IsSignature (with_entries Σ first (blocks_of C.blocks))) (tc : IsTypedNumberedCase Σ first W C) (υ : ℕ → Image) (ds : List BlockVariable) (blocks : D.blocks ≡ put_in_blocks υ C.blocks ++ ds) (given : D.given ≡ put_in υ C.given) (local : D.local ≡ instance C.local υ) (family : D.family ≡ C.family) (arguments : D.arguments ≡ put_in (lift_over C.local υ) C.arguments) (terms : AreNumberedTerms Σ first C D υ) where
  abbrev X : List LfType
  X = C.variables

  abbrev Y : List LfType
  Y = D.variables

  abbrev Σ₁ : Signature
  Σ₁ = with_entries Σ first (blocks_of C.blocks)

  abbrev γ : ℕ → ℕ
  γ = moved_constant first (blocks_of C.blocks) (blocks_of D.blocks) (λ k. k)

  abbrev σ : ℕ → Image
  σ = carry C.variables D.variables υ

  stays : γ ≡ (λ c. c)
  stays = ap (λ bs. moved_constant first (blocks_of C.blocks) (blocks_of bs) (λ k. k)) blocks ∙ fun_ext (constant_stays first υ C.blocks ds)

  near : (i : ℕ) (A : LfType) → TypeAt X i A → υ i ≡ σ i
  near i A g = sym (carry_same X Y υ i (in_covers X i A g))

  near_skeletons : SameIn (context_skeletons X) υ σ
  near_skeletons i t g = let (A, h, e) = skeleton_has_variable X i t g in near i A h

  value_at : (i : ℕ) (A : LfType) → TypeAt X i A → (N : Term) × (σ i ≡ put (skeleton A) N) × HasType (with_entries Σ first (blocks_of D.blocks)) Y N (substitute_type reduce σ A) × OnOwnTerms (own_terms first D.blocks) N
  value_at i A g =
      let (N, e, n, m) = terms i A g in
      (N, sym (near i A g) ∙ e, subst (HasType (with_entries Σ first (blocks_of D.blocks)) Y N) (agree_on_type reduce (in_context X) υ σ A (λ j q. sym (carry_same X Y υ j q)) (typed_uses_type Σ₁ X (in_context X) A (in_covers X) (declared_is_type Σ₁ ok₁ X i A tc.variables.variables g))) n, m)

  some_same_values : (O : List LfType) (τ : ℕ → Image) → SubstitutionBySkeletons (constant_skeletons Σ₁) (context_skeletons O) (context_skeletons X) τ → substitute_spine reduce υ (some_spine O τ) ≡ substitute_spine reduce σ (some_spine O τ)
  some_same_values O τ s = some_mapped (substitute_spine reduce υ) (substitute_spine reduce σ) (substitute reduce υ) (substitute reduce σ) refl (put_last υ) (put_last σ) O τ (λ i A h. same_in (constant_skeletons Σ₁) (context_skeletons X) υ σ near_skeletons (as_term (skeleton A) (τ i)) (skeleton A) (term_fits (constant_skeletons Σ₁) (context_skeletons X) (skeleton A) (τ i) (s i (skeleton A) (variable_has_skeleton O i A h))))

  block_there : (bs : List BlockVariable) → AreTypedBlockVariables Σ₁ W X (own_terms first C.blocks) bs → (k : ℕ) (b : BlockVariable) → block_at bs k ≡ Some b → block_at (put_in_blocks υ bs ++ ds) k ≡ Some (on_terms b.block (substitute_spine reduce σ b.terms))
  block_there [] t k b e = absurd (none_some e)
  block_there (d ∷ bs) (m, (τ, u, z), w, t) zero b e = subst (λ (c : BlockVariable). Some (on_terms d.block (substitute_spine reduce υ d.terms)) ≡ Some (on_terms c.block (substitute_spine reduce σ c.terms))) (some_same e) (ap (λ U. Some (on_terms d.block U)) (ap (substitute_spine reduce υ) z ∙ some_same_values d.block.some τ (typed_substitution_by_skeletons Σ₁ ok₁ d.block.some X τ u) ∙ ap (substitute_spine reduce σ) (sym z)))
  block_there (d ∷ bs) (m, s, w, t) (suc k) b e = block_there bs t k b e

  -- The lemma
  pub put_in_is_instance : IsNumberedInstanceOf Σ first D C (λ k. k) (carry C.variables D.variables υ)
  put_in_is_instance = record {
    is_instance = record {
      blocks = λ k b e. ap (λ bs. block_at bs k) blocks ∙ block_there C.blocks tc.variables.blocks k b e ∙ ap (λ U. Some (on_terms b.block (substitute_spine reduce σ U))) (sym (ap (λ g. move_spine g b.terms) stays ∙ unmoved_spine b.terms));
      values = subst (λ g. AreTypedValues (with_entries Σ first (blocks_of D.blocks)) Y (own_terms first D.blocks) g X σ) (sym stays) (typed_values (with_entries Σ first (blocks_of D.blocks)) Y (own_terms first D.blocks) X σ value_at (carry_past X Y υ));
    };
    family = family;
    given = given ∙ put_same (constant_skeletons Σ₁) (context_skeletons X) υ σ near_skeletons C.given tc.given ∙ ap (put_in σ) (sym (ap (λ g. move_all g C.given) stays ∙ unmoved_all C.given));
    local = local ∙ (instance_agree Σ₁ C.local X υ σ tc.local near).0 ∙ ap (λ L. instance L σ) (sym (ap (λ g. move_types g C.local) stays ∙ unmoved_types C.local));
    arguments = arguments ∙ put_same (constant_skeletons Σ₁) (context_skeletons (Rattle.lf.specs.Variables.onto C.local X)) (lift_over C.local υ) (lift_over C.local σ) (same_over C.local X υ σ near_skeletons) C.arguments tc.arguments ∙ ap (put_in (lift_over C.local σ)) (sym (ap (λ g. move_all g C.arguments) stays ∙ unmoved_all C.arguments));
  }

pub nothing_behind : (bs : List BlockVariable) → bs ≡ bs ++ []
nothing_behind [] = refl
nothing_behind (b ∷ bs) = ap (λ cs. b ∷ cs) (nothing_behind bs)

-- from unification, for a head of the case itself or of the case with a new block variable
module _ (Σ : Signature) (ok : IsSignature Σ) (W : List Block) (typed : AreTypedBlocks Σ W) (first : ℕ) (free : IsFreeFrom Σ first) (below : ℕ → ℕ → Bool) (C : NumberedCase) (tc : IsTypedNumberedCase Σ first W C) where
  of_itself : (x : ℕ) (X : LfType) → TypeAt C.variables x X → (h : Head) (U : Spine) (A : LfType) → IsNumberedOffer Σ first C X h U A → (K : Kind) → Σ.kinds (target X) ≡ Some K → (finish : Store) (s : Solved (with_entries Σ first (blocks_of C.blocks)) (numbered_store below C x X h U A K) finish) → (σ : ℕ → Image) × IsNumberedInstanceOf Σ first (solved_numbered C (arguments_count A) finish s.well_formed.order) C (λ k. k) σ
  of_itself x X at h U A offer K q finish s =
      let υ : ℕ → Image = λ i. answer_values finish s.well_formed.order (i + arguments_count A) in
      let D : NumberedCase = solved_numbered C (arguments_count A) finish s.well_formed.order in (
        carry C.variables D.variables υ,
        put_in_is_instance Σ W first C D (ok₁ Σ ok W typed first free C tc.variables) tc υ [] (nothing_behind (put_in_blocks υ C.blocks)) refl refl refl refl (λ i Y g. let (N, e, n, t, own, m) = are_put_terms Σ ok W typed first free below C tc x X at h U A offer K q finish s i Y g in (N, e, n, m)),
      )

  of_new : (B : Block) → Member B W → (x : ℕ) (X : LfType) → TypeAt (with_new_block B C).variables x X → (h : Head) (U : Spine) (A : LfType) → IsNumberedOffer Σ first (with_new_block B C) X h U A → (K : Kind) → Σ.kinds (target X) ≡ Some K → (finish : Store) (s : Solved (with_entries Σ first (blocks_of (with_new_block B C).blocks)) (numbered_store below (with_new_block B C) x X h U A K) finish) → (σ : ℕ → Image) × IsNumberedInstanceOf Σ first (solved_numbered (with_new_block B C) (arguments_count A) finish s.well_formed.order) C (λ k. k) σ
  of_new B b x X at h U A offer K q finish s =
      let ρ : ℕ → ℕ = shift_by (length B.some) in
      let υ : ℕ → Image = λ i. answer_values finish s.well_formed.order (i + arguments_count A) in
      let D : NumberedCase = solved_numbered (with_new_block B C) (arguments_count A) finish s.well_formed.order in
      let te : IsTypedNumberedCase Σ first W (with_new_block B C) = new_block_stays_typed Σ ok W typed first free C tc B b in
      let new : List BlockVariable = on_terms B (local_arguments B.some) ∷ [] in
      let values : ℕ → Image = λ i. υ (i + length B.some) in (
        carry C.variables D.variables values,
        put_in_is_instance Σ W first C D (ok₁ Σ ok W typed first free C tc.variables) tc values (put_in_blocks υ new) (blocks_renamed ρ υ C.blocks new) (all_renamed ρ υ values (λ i. refl) C.given) (local_renamed ρ υ C.local) refl (all_renamed (lift_renaming_by (length C.local) ρ) (lift_over (renumber ρ C.local) υ) (lift_over C.local values) (over_renamed ρ υ C.local) C.arguments) (λ i Y g. let (N, e, n, t, own, m) = are_put_terms Σ ok W typed first free below (with_new_block B C) te x X at h U A offer K q finish s (i + length B.some) (rename_type ρ Y) (far_type B.some C.variables i Y g) in (N, e ∙ ap (λ a. put a N) (skeleton_renamed ρ Y), subst (HasType (with_entries Σ first (blocks_of D.blocks)) D.variables N) (substitute_renamed_type reduce υ ρ Y) n, m)),
      )

pub split_case_is_numbered_instance : SplitCaseIsNumberedInstance
split_case_is_numbered_instance Σ ok W typed first free below C tc x D sp = (by sp.offer sp.is_offered sp.kind sp.of_family sp.finds, λ j k l m e. e)
  where
    by : (o : NumberedOffer) → IsOfferTo Σ first W C x sp.type o → (K : Kind) → Σ.kinds (target o.type) ≡ Some K → NumberedUnifierFinds Σ first below o K (Some D) → (σ : ℕ → Image) × IsNumberedInstanceOf Σ first D C (λ k. k) σ
    by o (of_case h U A f) K q (after0, d, z) = subst (λ E. (σ : ℕ → Image) × IsNumberedInstanceOf Σ first E C (λ k. k) σ) (sym z) (of_itself Σ ok W typed first free below C tc x sp.type sp.at h U A f K q after0 d)
    by o (of_new_block B c U A b n f) K q (after0, d, z) = subst (λ E. (σ : ℕ → Image) × IsNumberedInstanceOf Σ first E C (λ k. k) σ) (sym z) (of_new Σ ok W typed first free below C tc B b o.variable o.type (far_type B.some C.variables x sp.type sp.at) o.head U A f K q after0 d)

pub listed_is_numbered_instance : ListedIsNumberedInstance
listed_is_numbered_instance Σ ok W typed first free below C tc x Cs l D m = split_case_is_numbered_instance Σ ok W typed first free below C tc x D (unified_case Σ first W below C x Cs l.unified D m)
