-- The answer of a solved store of a case and a pattern that is put beside it: block variables that are one have the same terms under the answer, and each
-- constant of an entry has as its own terms those of its own block variable under the answer.
use Rattle.std.proofs.Common.{◌≡◌, ℕ, zero, ◌+◌, ◌⊎◌, List, [], length, inl, inr, refl, sym, ap, ◌∙◌, subst, arith}
use Rattle.std.specs.Prelude.{false, Option, Some, None}
use Rattle.lf.specs.Syntax.{Term, Spine, nil, LfType, atom, Kind, star, Skeleton, base, skeleton, rename_spine}
use Rattle.lf.specs.Substitution.{Image, substitute_spine, substitute_type, reduce}
use Rattle.lf.specs.AtOnce.{shift_by}
use Rattle.lf.specs.SkeletonTyping.{SkeletonAt, SpineSkeleton, SubstitutionBySkeletons}
use Rattle.lf.specs.Skeletons.{constant_skeletons, context_skeletons}
use Rattle.lf.specs.Typing.{Signature, TypeAt, IsSignature, IsTypedSubstitution, IsContext}
use Rattle.lf.specs.Variables.{binders}
use Rattle.lf.specs.Subordination.{Block, AreTypedBlocks}
use Rattle.lf.specs.Worlds.{instance}
use Rattle.lf.proofs.Renaming.{substitute_renamed_spine}
use Rattle.lf.proofs.SkeletonTyping.{renaming_keeps_spine_skeletons}
use Rattle.lf.proofs.Substitution.{typed_substitution_by_skeletons}
use Rattle.lf.proofs.ToSkeletons.{typed_spine_has_skeleton}
use Rattle.lf_unification.specs.Dependency.{ListedMetavariable, free_context, values}
use Rattle.lf_unification.specs.Filling.{fill_spine}
use Rattle.lf_unification.specs.Offering.{pi_over, spine_equations}
use Rattle.lf_unification.specs.OpenTyping.{skeletons_of}
use Rattle.lf_unification.specs.Skeletons.{skeleton_or_default}
use Rattle.lf_unification.specs.Solving.{Solved}
use Rattle.lf_unification.specs.Unifiers.{ExtendsFilling, Solution, SolvesAll, Store}
use Rattle.lf_unification.proofs.EquationLemmas.{solves_first}
use Rattle.lf_unification.proofs.Solving.{well_formed_answer}
use Rattle.lf_checks.specs.ModeForms.{argument_count}
use Rattle.lf_cases.specs.Case.{as_term}
use Rattle.lf_cases.specs.Pattern.{Pattern}
use Rattle.lf_coverage.specs.Leaf.{IsTypedPattern}
use Rattle.lf_coverage.specs.SplitStore.{answer_values, context_metavariables, open_some, open_spine, open_type}
use Rattle.lf_coverage.proofs.HeadItems.{length_renamed}
use Rattle.lf_coverage.proofs.Meeting.{stand_under}
use Rattle.lf_coverage.proofs.OpenTerms.{fill_open_spine}
use Rattle.lf_coverage.proofs.Parts.{some_same}
use Rattle.lf_coverage.proofs.StoreSolution.{looked_up, skeleton_open}
use Rattle.lf_coverage.proofs.Transfer.{onto_skeleton}
use Rattle.lf_numbered.specs.EntryConstants.{EntryConstant, entry_constant, with_entries, IsFreeFrom}
use Rattle.lf_numbered.specs.EntryTerms.{IsTried}
use Rattle.lf_numbered.specs.NumberedCallsStores.{Identifies, identified, identity_equations, move_blocks, some_kind, terms_equations}
use Rattle.lf_numbered.specs.NumberedCase.{NumberedCase}
use Rattle.lf_numbered.specs.NumberedInstance.{block_at, first_constant, moved_constant, moved_entry, move_spine, move_types}
use Rattle.lf_numbered.specs.OwnTerms.{BlockVariable, blocks_of, own_terms, put_in_blocks, rename_blocks, terms_at, terms_of_entry}
use Rattle.lf_numbered.specs.TypedNumbered.{IsTypedNumberedCase, own_over}
use Rattle.lf_numbered.proofs.EntryPatternsOutside.{found_at_number}
use Rattle.lf_numbered.proofs.EntryPatternsTyped.{typed_at, terms_of_block}
use Rattle.lf_numbered.proofs.EntryValues.{count_some}
use Rattle.lf_numbered.proofs.IdentifiedConstants.{spine_stays}
use Rattle.lf_numbered.proofs.MeetsAnswersForm.{P, X, T, n, context, own_length, placed_length, placed_store}
use Rattle.lf_numbered.proofs.MeetsAnswersOwn.{move_own}
use Rattle.lf_numbered.proofs.MovedConstants.{contexts_kept, blocks_stay}
use Rattle.lf_numbered.proofs.OwnStoresEntry.{OwnHead, ok₁, own_head}
use Rattle.lf_numbered.proofs.OwnStoresOpened.{filled_own, own_over_shifts}
use Rattle.lf_numbered.proofs.OwnStoresValues.{fits, skeleton_at, value, value_is, value_typed}
use Rattle.lf_numbered.proofs.OwnTerms.{put_in_own, rename_own, substitute_own}
use Rattle.lf_numbered.proofs.WritingChoice.{from_is}
use Rattle.lf_numbered.proofs.WritingMove.{move_spine_renamed}
use Rattle.lf_numbered.proofs.WritingSame.{some_skeleton}
use Rattle.lf_numbered.proofs.MeetsAnswersEquations.{count_moved, count_opened, identity_read, made_at, moved_terms, some_star, spine_solved}

module _ (Σ : Signature) (ok : IsSignature Σ) (W : List Block) (typed : AreTypedBlocks Σ W) (first : ℕ) (free : IsFreeFrom Σ first) (C : NumberedCase) (tc : IsTypedNumberedCase Σ first W C) (p : Pattern) (tp : IsTypedPattern Σ p) (π : ℕ → ℕ) (ids : Identifies C π) (φ₀ : ℕ → Image) (tried : IsTried first C p.origin false φ₀) (K : Kind) (finish : Store) (s : Solved (with_entries Σ first (blocks_of C.blocks)) (placed_store π (identified first π C) K (n Σ ok W typed first free C tc p tp π ids φ₀ tried) (T Σ ok W typed first free C tc p tp π ids φ₀ tried) (X Σ ok W typed first free C tc p tp π ids φ₀ tried)) finish) where
  abbrev Σ₁ : Signature
  Σ₁ = with_entries Σ first (blocks_of C.blocks)

  abbrev γ : ℕ → ℕ
  γ = moved_constant first (blocks_of C.blocks) (blocks_of C.blocks) π

  abbrev Y : List LfType
  Y = X Σ ok W typed first free C tc p tp π ids φ₀ tried

  abbrev k : ℕ
  k = n Σ ok W typed first free C tc p tp π ids φ₀ tried

  abbrev D₀ : List LfType
  D₀ = instance (binders [] p.clause.type) φ₀

  abbrev μ : ℕ → Skeleton
  μ = skeletons_of finish.metavariables

  abbrev ν : ℕ → Skeleton
  ν = skeletons_of (context_metavariables (X Σ ok W typed first free C tc p tp π ids φ₀ tried))

  abbrev order : List ListedMetavariable
  order = s.well_formed.order

  abbrev pub O : List LfType
  O = free_context (skeletons_of finish.metavariables) s.well_formed.order

  abbrev pub found : ℕ → Option Term
  found = values (skeletons_of finish.metavariables) s.well_formed.order

  abbrev pub σ : ℕ → Image
  σ = answer_values finish s.well_formed.order

  -- what stands for the case's variables
  abbrev pub υ : ℕ → Image
  υ i = answer_values finish s.well_formed.order (i + n Σ ok W typed first free C tc p tp π ids φ₀ tried)

  abbrev pub own_after : ℕ → Option Spine
  own_after = own_terms first (put_in_blocks υ (move_blocks (moved_constant first (blocks_of C.blocks) (blocks_of C.blocks) π) C.blocks))

  pub known : IsSignature (with_entries Σ first (blocks_of C.blocks))
  known = ok₁ Σ ok W typed first free C tc.variables

  cy : IsContext Σ₁ Y
  cy = context Σ ok W typed first free C tc p tp π ids φ₀ tried

  pub answer : Solution (with_entries Σ first (blocks_of C.blocks)) [] finish O found
  answer = well_formed_answer Σ₁ known finish s.well_formed s.none_left

  pub declared : (i : ℕ) (B : LfType) → TypeAt (X Σ ok W typed first free C tc p tp π ids φ₀ tried) i B → finish.metavariables i ≡ Some (open_type zero B)
  declared i B g = s.keeps.grows i (open_type zero B) (ap open_some (looked_up Y i B g))

  before : (β : ℕ → Option Term) × ExtendsFilling (context_metavariables Y) β found × Solution Σ₁ [] (placed_store π (identified first π C) K k (T Σ ok W typed first free C tc p tp π ids φ₀ tried) Y) O β
  before = s.keeps.sound O found answer

  pub β : ℕ → Option Term
  β = before.0

  pub solves : SolvesAll ν β (placed_store π (identified first π C) K (n Σ ok W typed first free C tc p tp π ids φ₀ tried) (T Σ ok W typed first free C tc p tp π ids φ₀ tried) (X Σ ok W typed first free C tc p tp π ids φ₀ tried)).equations
  unfolding β
  solves = before.2.1.1

  pub values_typed : IsTypedSubstitution (with_entries Σ first (blocks_of C.blocks)) (X Σ ok W typed first free C tc p tp π ids φ₀ tried) O σ
  values_typed = value_typed Σ₁ known Y cy finish order answer declared

  pub values_fit : SubstitutionBySkeletons (constant_skeletons (with_entries Σ first (blocks_of C.blocks))) (context_skeletons (X Σ ok W typed first free C tc p tp π ids φ₀ tried)) (context_skeletons O) σ
  values_fit = fits Σ₁ known Y cy finish order answer declared

  -- the answer gives each variable its value
  pub stands_after : (i : ℕ) (A : LfType) → TypeAt (X Σ ok W typed first free C tc p tp π ids φ₀ tried) i A → (μ i ≡ skeleton A) × (found i ≡ Some (as_term (skeleton A) (σ i)))
  stands_after i A g = (
    skeleton_at Σ₁ known Y cy finish order answer declared i A g,
    (value Σ₁ known Y cy finish order answer declared i A g).1 ∙ ap (λ y. Some (as_term (skeleton A) y)) (sym (value_is Σ₁ known Y cy finish order answer declared i A g)),
  )

  pub stands_before : (i : ℕ) (A : LfType) → TypeAt (X Σ ok W typed first free C tc p tp π ids φ₀ tried) i A → (ν i ≡ skeleton A) × (β i ≡ Some (as_term (skeleton A) (σ i)))
  unfolding β
  stands_before i A g = (ap skeleton_or_default (ap open_some (looked_up Y i A g)) ∙ skeleton_open zero A, sym (before.1 i (open_type zero A) (ap open_some (looked_up Y i A g))) ∙ (stands_after i A g).1)

  -- the case's variables stand behind the clause's own
  pub moves : (i : ℕ) (t : Skeleton) → SkeletonAt (context_skeletons C.variables) i t → SkeletonAt (context_skeletons (X Σ ok W typed first free C tc p tp π ids φ₀ tried)) (shift_by (n Σ ok W typed first free C tc p tp π ids φ₀ tried) i) t
  moves i t g = subst (λ m. SkeletonAt (context_skeletons Y) (i + m) t) (placed_length Σ ok W typed first free C tc p tp π ids φ₀ tried) (onto_skeleton (P Σ ok W typed first free C tc p tp π ids φ₀ tried) (move_types γ C.variables) i t (subst (λ Γ. SkeletonAt Γ i t) (sym (contexts_kept γ C.variables)) g))

  -- arguments over the case's variables, filled
  spine_there : (U : Spine) (t u : Skeleton) → SpineSkeleton (constant_skeletons Σ₁) (context_skeletons C.variables) U t u → SpineSkeleton (constant_skeletons Σ₁) (context_skeletons Y) (rename_spine (shift_by k) (move_spine γ U)) t u
  spine_there U t u m = renaming_keeps_spine_skeletons (constant_skeletons Σ₁) (context_skeletons C.variables) (context_skeletons Y) (shift_by k) (move_spine γ U) t u moves (spine_stays Σ ok W typed first free C tc.variables π ids (context_skeletons C.variables) U t u m)

  filled_after : (U : Spine) (t u : Skeleton) → SpineSkeleton (constant_skeletons Σ₁) (context_skeletons C.variables) U t u → fill_spine μ found (open_spine zero (rename_spine (shift_by k) (move_spine γ U))) ≡ substitute_spine reduce υ (move_spine γ U)
  filled_after U t u m = fill_open_spine Σ₁ μ zero (context_skeletons Y) (context_skeletons O) σ found (stand_under Σ₁ μ found Y O σ values_fit stands_after []) values_fit (rename_spine (shift_by k) (move_spine γ U)) t u (spine_there U t u m) ∙ substitute_renamed_spine reduce σ (shift_by k) (move_spine γ U)

  filled_before : (U : Spine) (t u : Skeleton) → SpineSkeleton (constant_skeletons Σ₁) (context_skeletons C.variables) U t u → fill_spine ν β (open_spine zero (rename_spine (shift_by k) (move_spine γ U))) ≡ substitute_spine reduce υ (move_spine γ U)
  filled_before U t u m = fill_open_spine Σ₁ ν zero (context_skeletons Y) (context_skeletons O) σ β (stand_under Σ₁ ν β Y O σ values_fit stands_before []) values_fit (rename_spine (shift_by k) (move_spine γ U)) t u (spine_there U t u m) ∙ substitute_renamed_spine reduce σ (shift_by k) (move_spine γ U)

  -- the terms of a block variable
  pub block_skeleton : (j : ℕ) (b : BlockVariable) → block_at C.blocks j ≡ Some b → SpineSkeleton (constant_skeletons (with_entries Σ first (blocks_of C.blocks))) (context_skeletons C.variables) b.terms (skeleton (pi_over b.block.some (atom 0 nil))) (base 0)
  block_skeleton j b e = let (m, (τ, u, z), o) = typed_at Σ₁ W C.variables (own_terms first C.blocks) C.blocks tc.variables.blocks j b e in subst (λ U. SpineSkeleton (constant_skeletons Σ₁) (context_skeletons C.variables) U (skeleton (pi_over b.block.some (atom 0 nil))) (base 0)) (sym z) (some_skeleton (constant_skeletons Σ₁) b.block.some (context_skeletons C.variables) τ (atom 0 nil) (typed_substitution_by_skeletons Σ₁ known b.block.some C.variables τ u))

  block_count : (j : ℕ) (b : BlockVariable) → block_at C.blocks j ≡ Some b → argument_count (open_spine zero (rename_spine (shift_by k) (move_spine γ b.terms))) ≡ length b.block.some
  block_count j b e = let (m, (τ, u, z), o) = typed_at Σ₁ W C.variables (own_terms first C.blocks) C.blocks tc.variables.blocks j b e in count_opened zero (rename_spine (shift_by k) (move_spine γ b.terms)) ∙ length_renamed (shift_by k) (move_spine γ b.terms) ∙ count_moved γ b.terms ∙ ap argument_count z ∙ count_some b.block.some τ

  -- Block variables that are one have the same terms.
  pub same : (j : ℕ) (b c : BlockVariable) → block_at C.blocks j ≡ Some b → block_at C.blocks (π j) ≡ Some c → substitute_spine reduce υ (move_spine (moved_constant first (blocks_of C.blocks) (blocks_of C.blocks) π) b.terms) ≡ substitute_spine reduce υ (move_spine (moved_constant first (blocks_of C.blocks) (blocks_of C.blocks) π) c.terms)
  same j b c e q =
      let bs : List BlockVariable = rename_blocks (shift_by k) (move_blocks γ C.blocks) in
      let (d, to, block, fixed) = ids j b e in
      by block (some_same (sym to ∙ q)) (subst (λ i. (π i ≡ i) ⊎ SolvesAll ν β (terms_equations (record { block = b.block; terms = rename_spine (shift_by k) (move_spine γ b.terms) }) (terms_at bs (π i)))) (none j) (identity_read ν β π bs zero bs (solves_first ν β (identity_equations π bs zero bs) _ solves) j _ (made_at (shift_by k) γ C.blocks j b e).0))
    where
      none : (j : ℕ) → j + 0 ≡ j
      none j = omega arith

      by : {d : BlockVariable} → d.block ≡ b.block → d ≡ c → (π j ≡ j) ⊎ SolvesAll ν β (terms_equations (record { block = b.block; terms = rename_spine (shift_by k) (move_spine γ b.terms) }) (terms_at (rename_blocks (shift_by k) (move_blocks γ C.blocks)) (π j))) → substitute_spine reduce υ (move_spine γ b.terms) ≡ substitute_spine reduce υ (move_spine γ c.terms)
      by block z (inl r) = ap (λ (x : BlockVariable). substitute_spine reduce υ (move_spine γ x.terms)) (some_same (sym e ∙ ap (block_at C.blocks) (sym r) ∙ q))
      by block z (inr h) =
          let U : Spine = rename_spine (shift_by k) (move_spine γ b.terms) in
          let V : Spine = rename_spine (shift_by k) (move_spine γ c.terms) in
          let h1 : SolvesAll ν β (spine_equations [] (some_kind b.block.some star) (open_spine zero U) (open_spine zero V)) = subst (λ y. SolvesAll ν β (terms_equations (record { block = b.block; terms = U }) y)) (made_at (shift_by k) γ C.blocks (π j) c q).1 h in
          sym (filled_before b.terms _ _ (block_skeleton j b e))
          ∙ spine_solved ν β (some_kind b.block.some star) (open_spine zero U) (open_spine zero V) h1 (block_count j b e ∙ sym (some_star b.block.some)) (block_count (π j) c q ∙ ap (λ (B : Block). length B.some) (ap (λ (x : BlockVariable). x.block) (sym z) ∙ block) ∙ sym (some_star b.block.some))
          ∙ filled_before c.terms _ _ (block_skeleton (π j) c q)

  -- The own terms of a constant that is moved
  pub own_is : (c : ℕ) → own_after (moved_constant first (blocks_of C.blocks) (blocks_of C.blocks) π c) ≡ substitute_own υ (move_own (moved_constant first (blocks_of C.blocks) (blocks_of C.blocks) π) (own_terms first C.blocks c))
  own_is c = put_in_own first (move_blocks γ C.blocks) υ (γ c) ∙ ap (λ Bs. substitute_own υ (terms_of_entry (move_blocks γ C.blocks) (entry_constant zero first Bs (γ c)))) (blocks_stay γ C.blocks) ∙ by (entry_constant zero first (blocks_of C.blocks) c) refl
    where
      none : (j : ℕ) → zero + j ≡ j
      none j = omega arith

      by : (e : Option EntryConstant) → entry_constant zero first (blocks_of C.blocks) c ≡ e → substitute_own υ (terms_of_entry (move_blocks γ C.blocks) (entry_constant zero first (blocks_of C.blocks) (moved_entry first (blocks_of C.blocks) π c e))) ≡ substitute_own υ (move_own γ (terms_of_entry C.blocks e))
      by None q = ap (λ e. substitute_own υ (terms_of_entry (move_blocks γ C.blocks) e)) q
      by (Some e) q =
          let (j, b, at, number, block, from, place, later, entries, rest) = from_is zero first C.blocks c e q in
          let (d, there, block_same, fixed) = ids j b at in
          let here = found_at_number zero first C.blocks (π j) d there later e.entry e.before (entries ∙ ap (λ (B : Block). B.entries) (sym block_same)) in
          ap (λ i. substitute_own υ (terms_of_entry (move_blocks γ C.blocks) (entry_constant zero first (blocks_of C.blocks) (first_constant first (blocks_of C.blocks) (π i) + length e.before)))) (number ∙ none j)
          ∙ ap (λ x. substitute_own υ (terms_of_entry (move_blocks γ C.blocks) x)) here
          ∙ ap (λ i. substitute_own υ (terms_at (move_blocks γ C.blocks) i)) (none (π j))
          ∙ ap (substitute_own υ) (moved_terms γ C.blocks (π j) d there)
          ∙ ap Some (sym (same j b d at there))
          ∙ ap (λ x. substitute_own υ (move_own γ x)) (sym (ap (terms_at C.blocks) (number ∙ none j) ∙ terms_of_block C.blocks j b at))

  -- so it is where the answer is put in by filling
  pub own_filled : (c : ℕ) → own_after (moved_constant first (blocks_of C.blocks) (blocks_of C.blocks) π c) ≡ filled_own μ found zero (move_own (moved_constant first (blocks_of C.blocks) (blocks_of C.blocks) π) (own_over (instance (binders [] p.clause.type) φ₀) (own_terms first C.blocks) c))
  own_filled c = own_is c ∙ by (own_terms first C.blocks c) refl ∙ ap (λ u. filled_own μ found zero (move_own γ u)) (sym (own_over_shifts D₀ (own_terms first C.blocks) c ∙ ap (λ m. rename_own (shift_by m) (own_terms first C.blocks c)) (own_length Σ ok W typed first free C tc p tp π ids φ₀ tried)))
    where
      by : (u : Option Spine) → own_terms first C.blocks c ≡ u → substitute_own υ (move_own γ u) ≡ filled_own μ found zero (move_own γ (rename_own (shift_by k) u))
      by None q = refl
      by (Some U) q =
          let w : OwnHead Σ ok W typed first free C tc.variables c U = own_head Σ ok W typed first free C tc.variables c U q in
          ap Some (sym (ap (λ V. fill_spine μ found (open_spine zero V)) (move_spine_renamed γ (shift_by k) U) ∙ filled_after U _ _ (typed_spine_has_skeleton Σ₁ C.variables U (pi_over w.some w.inner) (substitute_type reduce w.values w.inner) w.spine_typed)))
