-- The case that is read off a solved split store of a typed case by number is typed, and on own terms.
use Rattle.std.proofs.Common.{◌≡◌, ℕ, zero, List, [], ◌+◌, Option, Some, None, refl, sym, ap, ◌∙◌, subst}
use Rattle.std.specs.Prelude.{Bool}
use Rattle.lf.specs.Syntax.{Head, Term, Spine, LfType, Kind, Skeleton, skeleton, rename_spine, rename_type}
use Rattle.lf.specs.Substitution.{Image, substitute_type, reduce}
use Rattle.lf.specs.SkeletonTyping.{SkeletonAt, SpineSkeleton, SubstitutionBySkeletons}
use Rattle.lf.specs.Skeletons.{constant_skeletons, context_skeletons}
use Rattle.lf.specs.AtOnce.{shift_by}
use Rattle.lf.specs.Typing.{Signature, TypeAt, ImageHasType, IsTypedSubstitution, IsContext, IsSignature}
use Rattle.lf.specs.Variables.{target, onto}
use Rattle.lf.specs.Subordination.{Block, Member, AreTypedBlocks}
use Rattle.lf.specs.Worlds.{lift_over, instance}
use Rattle.lf.proofs.Renaming.{substitute_renamed_spine}
use Rattle.lf.proofs.SkeletonTyping.{renaming_keeps_spine_skeletons}
use Rattle.lf.proofs.Substitution.{typed_substitution_by_skeletons}
use Rattle.lf.proofs.ToSkeletons.{skeleton_has_variable, typed_spine_has_skeleton, variable_has_skeleton}
use Rattle.lf.proofs.TypeLaws.{skeleton_renamed, substitute_renamed_type}
use Rattle.lf_unification.specs.Dependency.{ListedMetavariable, free_context, values}
use Rattle.lf_unification.specs.Offering.{pi_over}
use Rattle.lf_unification.specs.OpenTyping.{skeletons_of}
use Rattle.lf_unification.specs.Solving.{IsWellFormed, Solved}
use Rattle.lf_unification.specs.Unifiers.{Solution, Store}
use Rattle.lf_unification.proofs.Solving.{well_formed_answer}
use Rattle.lf_cases.specs.Case.{items_context}
use Rattle.lf_cases.specs.OutputGoal.{free_variables}
use Rattle.lf_cases.specs.Missing.{put_in}
use Rattle.lf_cases.specs.Reached.{arguments_count, head_masks, taken, split_items}
use Rattle.lf_cases.proofs.OutputItems.{lifted}
use Rattle.lf_coverage.specs.Heads.{HaveSkeletons}
use Rattle.lf_coverage.specs.SplitStore.{open_some, open_type, answer_image, answer_values}
use Rattle.lf_coverage.proofs.ItemsContext.{outer_context}
use Rattle.lf_coverage.proofs.OpenTerms.{fill_open_spine}
use Rattle.lf_coverage.proofs.SolvedCase.{behind_types, free_context_is}
use Rattle.lf_coverage.proofs.StoreSolution.{looked_up}
use Rattle.lf_numbered.specs.EntryConstants.{with_entries, IsFreeFrom}
use Rattle.lf_numbered.specs.NumberedCase.{NumberedCase, AreTypedBlockVariables}
use Rattle.lf_numbered.specs.OwnStores.{numbered_store, solved_numbered, IsNumberedOffer, NumberedSplitStaysTyped}
use Rattle.lf_numbered.specs.OwnTerms.{blocks_of, own_terms, ImageOnOwnTerms, put_in_blocks}
use Rattle.lf_numbered.specs.TypedNumbered.{IsTypedNumberedCase}
use Rattle.lf_numbered.proofs.EntrySignature.{grown_contexts, entries_kept}
use Rattle.lf_numbered.proofs.OwnStoresAnswer.{types_owned, values_owned}
use Rattle.lf_numbered.proofs.OwnStoresCase.{all_put, blocks_put, local_put, local_typed, put_skeletons}
use Rattle.lf_numbered.proofs.OwnStoresEntry.{OwnHead, ok₁, own_head}
use Rattle.lf_numbered.proofs.OwnStoresOpened.{filled_own}
use Rattle.lf_numbered.proofs.OwnStoresStart.{numbered_context, numbered_owned, numbered_ready}
use Rattle.lf_numbered.proofs.OwnStoresSteps.{StoreOwned}
use Rattle.lf_numbered.proofs.OwnStoresTerms.{ValueOnOwnTerms}
use Rattle.lf_numbered.proofs.OwnStoresValues.{fits, stand, value_typed}
use Rattle.lf_numbered.proofs.OwnTerms.{put_in_keeps as same_blocks, put_in_own, rename_own, substitute_own}

module _ (Σ : Signature) (ok : IsSignature Σ) (W : List Block) (typed : AreTypedBlocks Σ W) (first : ℕ) (free : IsFreeFrom Σ first) (below : ℕ → ℕ → Bool) (C : NumberedCase) (tc : IsTypedNumberedCase Σ first W C) (x : ℕ) (X : LfType) (at : TypeAt C.variables x X) (h : Head) (U : Spine) (A : LfType) (offer : IsNumberedOffer Σ first C X h U A) (K : Kind) (of_family : Σ.kinds (target X) ≡ Some K) (finish : Store) (s : Solved (with_entries Σ first (blocks_of C.blocks)) (numbered_store below C x X h U A K) finish) where
  abbrev Σ₁ : Signature
  Σ₁ = with_entries Σ first (blocks_of C.blocks)

  abbrev V : List LfType
  V = C.variables

  abbrev k : ℕ
  k = arguments_count A

  abbrev Cc : List LfType
  Cc = items_context (split_items below X (free_variables C.variables) zero A)

  abbrev μ : ℕ → Skeleton
  μ = skeletons_of finish.metavariables

  abbrev order : List ListedMetavariable
  order = s.well_formed.order

  abbrev O : List LfType
  O = free_context (skeletons_of finish.metavariables) s.well_formed.order

  abbrev γ : ℕ → Option Term
  γ = values (skeletons_of finish.metavariables) s.well_formed.order

  abbrev σ : ℕ → Image
  σ = answer_values finish s.well_formed.order

  abbrev σ' : ℕ → Image
  σ' i = answer_values finish s.well_formed.order (i + arguments_count A)

  abbrev oC : ℕ → Option Spine
  oC = own_terms first C.blocks

  abbrev o : ℕ → Option Spine
  o = own_terms first (put_in_blocks (λ i. answer_values finish s.well_formed.order (i + arguments_count A)) C.blocks)

  okE : IsSignature Σ₁
  okE = ok₁ Σ ok W typed first free C tc.variables

  answer : Solution Σ₁ [] finish O γ
  answer = well_formed_answer Σ₁ okE finish s.well_formed s.none_left

  pub context : IsContext Σ₁ O
  context = answer.0.context

  items_known : IsContext Σ₁ Cc
  items_known = numbered_context Σ ok W typed first free below C tc.variables x X at h U A offer K of_family

  pub declared : (i : ℕ) (B : LfType) → TypeAt Cc i B → finish.metavariables i ≡ Some (open_type zero B)
  declared i B g = s.keeps.grows i (open_type zero B) (ap open_some (looked_up Cc i B g))

  -- the variables of the case stand behind those of the head
  behind : (i : ℕ) (Y : LfType) → TypeAt V i Y → TypeAt Cc (i + k) (rename_type (shift_by k) Y)
  behind i Y g = behind_types (head_masks below (taken (rename_type (shift_by zero) X)) k A) (taken (rename_type (shift_by zero) X)) k A (free_variables V) refl i Y (subst (λ L. TypeAt L i Y) (sym (free_context_is V)) g)

  pub values_typed : IsTypedSubstitution Σ₁ V O σ'
  values_typed i Y g = subst (ImageHasType Σ₁ O (σ (i + k))) (substitute_renamed_type reduce σ (shift_by k) Y) (value_typed Σ₁ okE Cc items_known finish order answer declared (i + k) (rename_type (shift_by k) Y) (behind i Y g))

  moves : (i : ℕ) (t : Skeleton) → SkeletonAt (context_skeletons V) i t → SkeletonAt (context_skeletons Cc) (shift_by k i) t
  moves i t g = let (B, b, e) = skeleton_has_variable V i t g in subst (SkeletonAt (context_skeletons Cc) (i + k)) (skeleton_renamed (shift_by k) B ∙ e) (variable_has_skeleton Cc (i + k) (rename_type (shift_by k) B) (behind i B b))

  -- the own terms, with the values put in
  pub put_own : (c : ℕ) → o c ≡ substitute_own σ' (oC c)
  put_own c = put_in_own first C.blocks σ' c

  filled : (c : ℕ) → o c ≡ filled_own μ γ zero (rename_own (shift_by k) (oC c))
  filled c = put_own c ∙ by (oC c) refl
    where
      by : (u : Option Spine) → own_terms first C.blocks c ≡ u → substitute_own σ' u ≡ filled_own μ γ zero (rename_own (shift_by k) u)
      by None q = refl
      by (Some S) q =
          let w : OwnHead Σ ok W typed first free C tc.variables c S = own_head Σ ok W typed first free C tc.variables c S q in
          let Q : LfType = pi_over w.some w.inner in
          let R : LfType = substitute_type reduce w.values w.inner in
          let m : SpineSkeleton (constant_skeletons Σ₁) (context_skeletons Cc) (rename_spine (shift_by k) S) (skeleton Q) (skeleton R) = renaming_keeps_spine_skeletons (constant_skeletons Σ₁) (context_skeletons V) (context_skeletons Cc) (shift_by k) S (skeleton Q) (skeleton R) moves (typed_spine_has_skeleton Σ₁ V S Q R w.spine_typed) in
          ap Some (sym (fill_open_spine Σ₁ μ zero (context_skeletons Cc) (context_skeletons O) σ γ (stand Σ₁ okE Cc items_known finish order answer declared) (fits Σ₁ okE Cc items_known finish order answer declared) (rename_spine (shift_by k) S) (skeleton Q) (skeleton R) m ∙ substitute_renamed_spine reduce σ (shift_by k) S))

  start : StoreOwned μ o γ (numbered_store below C x X h U A K)
  start = numbered_owned Σ ok W typed first free below C tc.variables x X at h U A offer K of_family μ γ o filled

  form : IsWellFormed Σ₁ (numbered_store below C x X h U A K)
  form = numbered_ready Σ ok W typed first free below C tc.variables x X at h U A offer K of_family

  -- the values are on own terms
  pub image_own : (i : ℕ) → ImageOnOwnTerms o (σ i)
  image_own i = of_image (μ i) (γ i) (values_owned Σ₁ okE (numbered_store below C x X h U A K) finish form s o start i)
    where
      of_image : (a : Skeleton) (y : Option Term) → ValueOnOwnTerms o y → ImageOnOwnTerms o (answer_image a y)
      of_image a None v = tt
      of_image a (Some N) v = v

  blocks_same : blocks_of (put_in_blocks σ' C.blocks) ≡ blocks_of C.blocks
  blocks_same = same_blocks σ' C.blocks

  some_context : (B : Block) → Member B W → IsContext Σ₁ B.some
  some_context B m = grown_contexts Σ Σ₁ (entries_kept Σ first (blocks_of C.blocks)) (λ a L e. e) B.some (outer_context Σ B.entries B.some (typed B m))

  local : IsContext Σ₁ (onto (instance C.local σ') O) × IsTypedSubstitution Σ₁ (onto C.local V) (onto (instance C.local σ') O) (lift_over C.local σ')
  local = local_typed Σ₁ okE V O σ' tc.variables.variables context values_typed C.local tc.local

  pub shown : SubstitutionBySkeletons (constant_skeletons Σ₁) (context_skeletons V) (context_skeletons O) σ'
  shown = typed_substitution_by_skeletons Σ₁ okE V O σ' values_typed

  -- The lemma
  pub stays_typed : IsTypedNumberedCase Σ first W (solved_numbered C (arguments_count A) finish s.well_formed.order)
  stays_typed =
      record {
        variables = record {
          variables = subst (λ Bs. IsContext (with_entries Σ first Bs) O) (sym blocks_same) context;
          on_own_terms = types_owned Σ₁ okE (numbered_store below C x X h U A K) finish form s o start;
          blocks = subst (λ Bs. AreTypedBlockVariables (with_entries Σ first Bs) W O o (put_in_blocks σ' C.blocks)) (sym blocks_same) (blocks_put Σ₁ okE W V O σ' tc.variables.variables context values_typed oC o put_own (λ i. image_own (i + k)) some_context C.blocks tc.variables.blocks);
        };
        local = subst (λ Bs. IsContext (with_entries Σ first Bs) (onto (instance C.local σ') O)) (sym blocks_same) local.0;
        local_on_own = local_put σ' oC o put_own (λ i. image_own (i + k)) C.local tc.local_on_own;
        given = subst (λ Bs. HaveSkeletons (constant_skeletons (with_entries Σ first Bs)) (context_skeletons O) (put_in σ' C.given)) (sym blocks_same) (put_skeletons Σ₁ (context_skeletons V) (context_skeletons O) σ' shown C.given tc.given);
        given_on_own = all_put σ' oC o put_own (λ i. image_own (i + k)) [] C.given tc.given_on_own;
        arguments = subst (λ Bs. HaveSkeletons (constant_skeletons (with_entries Σ first Bs)) (context_skeletons (onto (instance C.local σ') O)) (put_in (lift_over C.local σ') C.arguments)) (sym blocks_same) (put_skeletons Σ₁ (context_skeletons (onto C.local V)) (context_skeletons (onto (instance C.local σ') O)) (lift_over C.local σ') (lifted Σ₁ C.local V O σ' shown) C.arguments tc.arguments);
        arguments_on_own = all_put σ' oC o put_own (λ i. image_own (i + k)) C.local C.arguments tc.arguments_on_own;
      }

pub numbered_split_stays_typed : NumberedSplitStaysTyped
numbered_split_stays_typed Σ ok W typed first free below C tc x X at h U A offer K f finish s = stays_typed Σ ok W typed first free below C tc x X at h U A offer K f finish s
