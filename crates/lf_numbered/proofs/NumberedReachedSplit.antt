-- The values that a split by number puts in are typed terms.
use Rattle.std.proofs.Common.{◌≡◌, ℕ, zero, ◌+◌, List, [], refl, sym, ap, ◌∙◌, subst}
use Rattle.std.specs.Prelude.{Bool, Some}
use Rattle.lf.specs.Syntax.{Head, Term, Spine, LfType, Kind, skeleton, rename_type}
use Rattle.lf.specs.Substitution.{Image, put, substitute_type, reduce}
use Rattle.lf.specs.AtOnce.{shift_by}
use Rattle.lf.specs.Typing.{Signature, TypeAt, HasType, IsType, IsTypedSubstitution, ImageHasType, IsContext, IsSignature}
use Rattle.lf.specs.Variables.{target, everything}
use Rattle.lf.specs.Subordination.{Block, AreTypedBlocks}
use Rattle.lf.proofs.Partial.{uses_type_all}
use Rattle.lf.proofs.TypeLaws.{skeleton_renamed}
use Rattle.lf.proofs.Weakening.{declared_is_type}
use Rattle.lf_unification.specs.Dependency.{free_context, values}
use Rattle.lf_unification.specs.OpenTyping.{skeletons_of}
use Rattle.lf_unification.specs.Solving.{Solved}
use Rattle.lf_unification.specs.Unifiers.{Solution, Store}
use Rattle.lf_unification.proofs.Solving.{well_formed_answer}
use Rattle.lf_cases.specs.Case.{items_context}
use Rattle.lf_cases.specs.OutputGoal.{free_variables}
use Rattle.lf_cases.specs.Reached.{arguments_count, head_masks, taken, split_items}
use Rattle.lf_coverage.specs.SplitStore.{answer_values}
use Rattle.lf_coverage.proofs.SolvedCase.{behind_types, free_context_is}
use Rattle.lf_coverage.proofs.StayTyped.{value_type}
use Rattle.lf_numbered.specs.EntryConstants.{with_entries, IsFreeFrom}
use Rattle.lf_numbered.specs.NumberedCase.{NumberedCase}
use Rattle.lf_numbered.specs.OwnStores.{IsNumberedOffer, numbered_store, solved_numbered}
use Rattle.lf_numbered.specs.OwnTerms.{blocks_of, own_terms, ImageOnOwnTerms, OnOwnTerms, TypeOnOwnTerms}
use Rattle.lf_numbered.specs.TypedNumbered.{IsTypedNumberedCase}
use Rattle.lf_numbered.proofs.OwnStoresEntry.{ok₁}
use Rattle.lf_numbered.proofs.OwnStoresSplit.{context, declared, values_typed, put_own, image_own}
use Rattle.lf_numbered.proofs.OwnStoresStart.{numbered_context}
use Rattle.lf_numbered.proofs.OwnStoresValues.{value, value_is}
use Rattle.lf_numbered.proofs.OwnTerms.{put_in_keeps, type_substituted}

-- Values that are put in: each is a typed term on own terms, and its type is on own terms.
abbrev pub ArePutTerms : Signature → ℕ → NumberedCase → NumberedCase → (ℕ → Image) → Type 0
ArePutTerms Σ first C D υ = (i : ℕ) (A : LfType) → TypeAt C.variables i A → (N : Term) × (υ i ≡ put (skeleton A) N) × HasType (with_entries Σ first (blocks_of D.blocks)) D.variables N (substitute_type reduce υ A) × IsType (with_entries Σ first (blocks_of D.blocks)) D.variables (substitute_type reduce υ A) × TypeOnOwnTerms (own_terms first D.blocks) (substitute_type reduce υ A) × OnOwnTerms (own_terms first D.blocks) N

module _ (Σ : Signature) (ok : IsSignature Σ) (W : List Block) (typed : AreTypedBlocks Σ W) (first : ℕ) (free : IsFreeFrom Σ first) (below : ℕ → ℕ → Bool) (C : NumberedCase) (tc : IsTypedNumberedCase Σ first W C) (x : ℕ) (X : LfType) (at : TypeAt C.variables x X) (h : Head) (U : Spine) (A : LfType) (offer : IsNumberedOffer Σ first C X h U A) (K : Kind) (of_family : Σ.kinds (target X) ≡ Some K) (finish : Store) (s : Solved (with_entries Σ first (blocks_of C.blocks)) (numbered_store below C x X h U A K) finish) where
  abbrev Σ₁ : Signature
  Σ₁ = with_entries Σ first (blocks_of C.blocks)

  abbrev V : List LfType
  V = C.variables

  abbrev k : ℕ
  k = arguments_count A

  abbrev Cc : List LfType
  Cc = items_context (split_items below X (free_variables C.variables) zero A)

  abbrev O : List LfType
  O = free_context (skeletons_of finish.metavariables) s.well_formed.order

  abbrev put_value : ℕ → Image
  put_value i = answer_values finish s.well_formed.order (i + arguments_count A)

  abbrev D : NumberedCase
  D = solved_numbered C (arguments_count A) finish s.well_formed.order

  okE : IsSignature Σ₁
  okE = ok₁ Σ ok W typed first free C tc.variables

  answer : Solution Σ₁ [] finish O (values (skeletons_of finish.metavariables) s.well_formed.order)
  answer = well_formed_answer Σ₁ okE finish s.well_formed s.none_left

  items_known : IsContext Σ₁ Cc
  items_known = numbered_context Σ ok W typed first free below C tc.variables x X at h U A offer K of_family

  behind : (i : ℕ) (Y : LfType) → TypeAt V i Y → TypeAt Cc (i + k) (rename_type (shift_by k) Y)
  behind i Y g = behind_types (head_masks below (taken (rename_type (shift_by zero) X)) k A) (taken (rename_type (shift_by zero) X)) k A (free_variables V) refl i Y (subst (λ L. TypeAt L i Y) (sym (free_context_is V)) g)

  known : (i : ℕ) (B : LfType) → TypeAt Cc i B → finish.metavariables i ≡ Some (Rattle.lf_coverage.specs.SplitStore.open_type zero B)
  known = declared Σ ok W typed first free below C tc x X at h U A offer K of_family finish s

  is_put : (i : ℕ) (Y : LfType) → TypeAt V i Y → (N : Term) × (put_value i ≡ put (skeleton Y) N)
  is_put i Y g =
      let q : TypeAt Cc (i + k) (rename_type (shift_by k) Y) = behind i Y g in
      ((value Σ₁ okE Cc items_known finish s.well_formed.order answer known (i + k) (rename_type (shift_by k) Y) q).0, value_is Σ₁ okE Cc items_known finish s.well_formed.order answer known (i + k) (rename_type (shift_by k) Y) q ∙ ap (λ a. put a (value Σ₁ okE Cc items_known finish s.well_formed.order answer known (i + k) (rename_type (shift_by k) Y) q).0) (skeleton_renamed (shift_by k) Y))

  all_typed : IsTypedSubstitution Σ₁ V O put_value
  all_typed = values_typed Σ ok W typed first free below C tc x X at h U A offer K of_family finish s

  own_image : (i : ℕ) → ImageOnOwnTerms (own_terms first D.blocks) (put_value i)
  own_image i = image_own Σ ok W typed first free below C tc x X at h U A offer K of_family finish s (i + k)

  back : blocks_of C.blocks ≡ blocks_of D.blocks
  back = sym (put_in_keeps put_value C.blocks)

  pub are_put_terms : ArePutTerms Σ first C D put_value
  are_put_terms i Y g =
      let (N, e) = is_put i Y g in
      let (q, n) = subst (λ y. ImageHasType Σ₁ O y (substitute_type reduce put_value Y)) e (all_typed i Y g) in (
        N,
        e,
        subst (λ Bs. HasType (with_entries Σ first Bs) O N (substitute_type reduce put_value Y)) back n,
        subst (λ Bs. IsType (with_entries Σ first Bs) O (substitute_type reduce put_value Y)) back (value_type Σ₁ okE everything V O put_value Y tc.variables.variables (context Σ ok W typed first free below C tc x X at h U A offer K of_family finish s) (record { typed = λ j B b u. all_typed j B b; closed = λ j B b u. uses_type_all everything B (λ l. refl) }) (declared_is_type Σ₁ okE V i Y tc.variables.variables g) (uses_type_all everything Y (λ l. refl))),
        type_substituted (own_terms first C.blocks) (own_terms first D.blocks) put_value Y (put_own Σ ok W typed first free below C tc x X at h U A offer K of_family finish s) own_image (tc.variables.on_own_terms i Y g),
        subst (ImageOnOwnTerms (own_terms first D.blocks)) e (own_image i),
      )
