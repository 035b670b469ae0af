-- A typed instance of a case by number, over a signature with the block variables of both: the case's constants keep their numbers, block variables that become
-- one are one, and what else the instance has comes behind.
use Rattle.std.proofs.Common.{◌≡◌, ℕ, zero, suc, List, [], ◌∷◌, ◌++◌, length, refl, sym, ap, ap₂, ◌∙◌, subst}
use Rattle.std.specs.Prelude.{Option, Some, None}
use Rattle.lf.specs.Syntax.{Term, Spine, nil, app, LfType, Kind, skeleton}
use Rattle.lf.specs.Substitution.{Image, put, substitute, substitute_spine, substitute_type, reduce}
use Rattle.lf.specs.Skeletons.{constant_skeletons, context_skeletons}
use Rattle.lf.specs.AtOnce.{in_front}
use Rattle.lf.specs.Typing.{Signature, HasType, IsTypedSubstitution, IsContext, IsSignature}
use Rattle.lf.specs.Variables.{onto, nothing}
use Rattle.lf.specs.Subordination.{Block, AreTypedBlocks}
use Rattle.lf.specs.Extension.{Extends}
use Rattle.lf.specs.Worlds.{lift_over}
use Rattle.lf.proofs.TypeLaws.{skeleton_substituted}
use Rattle.lf_cases.specs.Case.{HasArguments}
use Rattle.lf_cases.specs.Missing.{put_in}
use Rattle.lf_coverage.specs.Heads.{HaveSkeletons}
use Rattle.lf_coverage.specs.Matching.{ArePlaces}
use Rattle.lf_coverage.proofs.Forms.{lift_same}
use Rattle.lf_coverage.proofs.GroundTyped.{front_typed}
use Rattle.lf_coverage.proofs.ItemsContext.{outer_context}
use Rattle.lf_coverage.proofs.Parts.{some_same}
use Rattle.lf_numbered.specs.EntryConstants.{with_entries, IsFreeFrom}
use Rattle.lf_numbered.specs.NumberedCallsStores.{Identifies, identified}
use Rattle.lf_numbered.specs.NumberedCase.{NumberedCase, AreSomeTerms, AreTypedVariables}
use Rattle.lf_numbered.specs.NumberedInstance.{AreTypedValues, IsTypedInstanceOf, block_at, moved_constant, move, move_all, move_spine, move_type, move_types}
use Rattle.lf_numbered.specs.OwnTerms.{BlockVariable, blocks_of, own_terms}
use Rattle.lf_numbered.specs.WritingRoom.{move_image}
use Rattle.lf_numbered.proofs.EntryPatternsTyped.{typed_at}
use Rattle.lf_numbered.proofs.EntrySignature.{earlier_kept, with_entries_is_signature}
use Rattle.lf_numbered.proofs.MeetsInstanceNumbers.{renumbering, renumbering_keeps, constants_agree, both_moved, both_moved_spine, both_moved_type}
use Rattle.lf_numbered.proofs.MovedBlocks.{KeepBlocks, AreTypedIn, old_stay, types_moved, kinds_moved}
use Rattle.lf_numbered.proofs.MovedConstants.{context_moved, blocks_stay, moved_from, contexts_kept, onto_moved, length_moved, all_kept, lifts_moved}
use Rattle.lf_numbered.proofs.NumberedArguments.{skeleton_only}
use Rattle.lf_numbered.proofs.OwnTerms.{blocks_append}
use Rattle.lf_numbered.proofs.Reading.{IsOld, type_only}
use Rattle.lf_numbered.proofs.WritingGap.{some_moved}
use Rattle.lf_numbered.proofs.WritingMove.{move_substituted, move_spine_substituted, move_type_substituted, moved_typed, skeleton_moved}
use Rattle.lf_numbered.proofs.MeetsInstanceLists.{blocks_typed, both_typed, some_only, some_kept}
use mathlib.Core.Path.{fun_ext}

module _ (Σ : Signature) (ok : IsSignature Σ) (first : ℕ) (free : IsFreeFrom Σ first) (W V : List Block) (typed : AreTypedBlocks Σ W) (typed_more : AreTypedBlocks Σ V) (C M : NumberedCase) (tc : AreTypedVariables Σ first W C) (tm : AreTypedVariables Σ first V M) (ν : ℕ → ℕ) (σ : ℕ → Image) (h : IsTypedInstanceOf Σ first M C ν σ) (π : ℕ → ℕ) (i : Identifies C π) (same : (k : ℕ) (b : BlockVariable) → block_at C.blocks k ≡ Some b → ν (π k) ≡ ν k) (only : (j k : ℕ) (b c : BlockVariable) → block_at C.blocks j ≡ Some b → block_at C.blocks k ≡ Some c → ν j ≡ ν k → π j ≡ π k) where
  abbrev pub all_blocks : List BlockVariable
  all_blocks = C.blocks ++ M.blocks

  abbrev Σ₁ : Signature
  Σ₁ = with_entries Σ first (blocks_of C.blocks)

  abbrev Σm : Signature
  Σm = with_entries Σ first (blocks_of M.blocks)

  abbrev pub Σe : Signature
  Σe = with_entries Σ first (blocks_of (C.blocks ++ M.blocks))

  abbrev ε : ℕ → ℕ
  ε = moved_constant first (blocks_of C.blocks) (blocks_of M.blocks) ν

  abbrev pub δ : ℕ → ℕ
  δ = moved_constant first (blocks_of M.blocks) (blocks_of (C.blocks ++ M.blocks)) (renumbering ν π (length C.blocks))

  abbrev γ : ℕ → ℕ
  γ = moved_constant first (blocks_of C.blocks) (blocks_of C.blocks) π

  pub keeps : KeepBlocks C.blocks M.blocks ν
  keeps k b e = (_, h.blocks k b e, refl)

  pub ones : KeepBlocks C.blocks C.blocks π
  ones k b e = let (c, q, r, s) = i k b e in (c, q, r)

  pub case_blocks : AreTypedIn Σ C.blocks
  case_blocks k b e = typed b.block (typed_at Σ₁ W C.variables (own_terms first C.blocks) C.blocks tc.blocks k b e).0

  pub instance_blocks : AreTypedIn Σ M.blocks
  instance_blocks k b e = typed_more b.block (typed_at Σm V M.variables (own_terms first M.blocks) M.blocks tm.blocks k b e).0

  pub ok₁ : IsSignature (with_entries Σ first (blocks_of C.blocks))
  ok₁ = with_entries_is_signature Σ ok first free (blocks_of C.blocks) (blocks_typed Σ C.blocks case_blocks)

  pub okm : IsSignature (with_entries Σ first (blocks_of M.blocks))
  okm = with_entries_is_signature Σ ok first free (blocks_of M.blocks) (blocks_typed Σ M.blocks instance_blocks)

  pub oke : IsSignature (with_entries Σ first (blocks_of (C.blocks ++ M.blocks)))
  oke = with_entries_is_signature Σ ok first free (blocks_of (C.blocks ++ M.blocks)) (blocks_typed Σ (C.blocks ++ M.blocks) (both_typed Σ C.blocks M.blocks case_blocks instance_blocks))

  pub more : (c : ℕ) (A : LfType) → (with_entries Σ first (blocks_of C.blocks)).types c ≡ Some A → (with_entries Σ first (blocks_of (C.blocks ++ M.blocks))).types c ≡ Some A
  more c A e = subst (λ Bs. (with_entries Σ first Bs).types c ≡ Some A) (sym (blocks_append C.blocks M.blocks)) (earlier_kept Σ first (blocks_of C.blocks) (blocks_of M.blocks) c A e)

  pub grows : Extends nothing (with_entries Σ first (blocks_of (identified first π C).blocks)) (with_entries Σ first (blocks_of (C.blocks ++ M.blocks)))
  grows = subst (λ Bs. Extends nothing (with_entries Σ first Bs) Σe) (sym (blocks_stay γ C.blocks)) (record { ok = oke; types_stay = more; kinds_stay = λ a K e. e; no_new = λ c A e q. absurd (no q) })
    where
      no : Rattle.std.specs.Prelude.false ≡ Rattle.std.specs.Prelude.true → ⊥
      no e = cc

  -- constants of the instance
  pub old_kept : (c : ℕ) → IsOld Σ c → δ c ≡ c
  old_kept = old_stay Σ ok first free M.blocks all_blocks (renumbering ν π (length C.blocks)) (renumbering_keeps C.blocks M.blocks ν π keeps ones only) instance_blocks

  pub instance_types : (c : ℕ) (A : LfType) → (with_entries Σ first (blocks_of M.blocks)).types c ≡ Some A → (with_entries Σ first (blocks_of (C.blocks ++ M.blocks))).types (δ c) ≡ Some (move_type δ A)
  instance_types = types_moved Σ ok first free M.blocks all_blocks (renumbering ν π (length C.blocks)) (renumbering_keeps C.blocks M.blocks ν π keeps ones only) instance_blocks

  pub instance_kinds : (a : ℕ) (K : Kind) → (with_entries Σ first (blocks_of M.blocks)).kinds a ≡ Some K → (with_entries Σ first (blocks_of (C.blocks ++ M.blocks))).kinds a ≡ Some (Rattle.lf_numbered.specs.WritingRoom.move_kind δ K)
  instance_kinds = kinds_moved Σ ok first free M.blocks all_blocks (renumbering ν π (length C.blocks)) (renumbering_keeps C.blocks M.blocks ν π keeps ones only) instance_blocks

  pub instance_context : IsContext (with_entries Σ first (blocks_of (C.blocks ++ M.blocks))) (move_types δ M.variables)
  instance_context = context_moved δ Σm Σe instance_types instance_kinds M.variables tm.variables

  -- constants of the case, with block variables one
  pub case_old : (c : ℕ) → IsOld Σ c → γ c ≡ c
  case_old = old_stay Σ ok first free C.blocks C.blocks π ones case_blocks

  pub case_types : (c : ℕ) (A : LfType) → (with_entries Σ first (blocks_of C.blocks)).types c ≡ Some A → (with_entries Σ first (blocks_of (C.blocks ++ M.blocks))).types (γ c) ≡ Some (move_type γ A)
  case_types c A e = more (γ c) (move_type γ A) (types_moved Σ ok first free C.blocks C.blocks π ones case_blocks c A e)

  pub case_kinds : (a : ℕ) (K : Kind) → (with_entries Σ first (blocks_of C.blocks)).kinds a ≡ Some K → (with_entries Σ first (blocks_of (C.blocks ++ M.blocks))).kinds a ≡ Some (Rattle.lf_numbered.specs.WritingRoom.move_kind γ K)
  case_kinds = kinds_moved Σ ok first free C.blocks C.blocks π ones case_blocks

  pub case_context : IsContext (with_entries Σ first (blocks_of (C.blocks ++ M.blocks))) (move_types γ C.variables)
  case_context = context_moved γ Σ₁ Σe case_types case_kinds C.variables tc.variables

  pub agree : (c : ℕ) → IsOld (with_entries Σ first (blocks_of C.blocks)) c → δ (ε c) ≡ γ c
  agree = constants_agree C.blocks M.blocks ν π keeps ones only Σ ok first free case_blocks instance_blocks

  -- the values
  abbrev pub ψ : ℕ → Image
  ψ k = move_image δ (σ k)

  abbrev turned : (ℕ → Image) → ℕ → Image
  turned τ k = move_image δ (τ k)

  values_moved : (X : List LfType) → IsContext (with_entries Σ first (blocks_of C.blocks)) X → (τ : ℕ → Image) → AreTypedValues (with_entries Σ first (blocks_of M.blocks)) M.variables (own_terms first M.blocks) ε X τ → IsTypedSubstitution (with_entries Σ first (blocks_of (C.blocks ++ M.blocks))) (move_types γ X) (move_types δ M.variables) (λ k. move_image δ (τ k))
  values_moved [] c τ v = λ k A g. absurd g
  values_moved (A ∷ X) (c, a) τ (N, υ, v, n, own, e) =
      let E : ℕ → Image = λ k. move_image δ (υ k) in
      let type : move_type δ (substitute_type reduce υ (move_type ε A)) ≡ substitute_type reduce E (move_type γ A) = move_type_substituted δ υ (move_type ε A) ∙ ap (substitute_type reduce E) (both_moved_type (IsOld Σ₁) δ ε γ agree A (type_only Σ₁ X A a)) in
      subst (IsTypedSubstitution Σe (move_type γ A ∷ move_types γ X) (move_types δ M.variables)) (sym (ap turned e ∙ fun_ext front)) (front_typed Σe oke [] (λ B m. absurd m) (move_types γ X) (move_types δ M.variables) (move_type γ A) (put (skeleton A) (move δ N)) E (values_moved X c υ v) (skeleton_substituted reduce E (move_type γ A) ∙ skeleton_moved γ A, subst (HasType Σe (move_types δ M.variables) (move δ N)) type (moved_typed δ Σm Σe instance_types instance_kinds M.variables N (substitute_type reduce υ (move_type ε A)) n)))
    where
      front : (k : ℕ) → move_image δ (in_front (put (skeleton A) N) υ k) ≡ in_front (put (skeleton A) (move δ N)) (λ j. move_image δ (υ j)) k
      front zero = refl
      front (suc k) = refl

  pub case_values : IsTypedSubstitution (with_entries Σ first (blocks_of (C.blocks ++ M.blocks))) (move_types γ C.variables) (move_types δ M.variables) ψ
  case_values = values_moved C.variables tc.variables σ h.values

  -- the terms of block variables
  pub some_terms : (k : ℕ) (b : BlockVariable) → block_at C.blocks k ≡ Some b → AreSomeTerms (with_entries Σ first (blocks_of C.blocks)) C.variables b.block.some b.terms
  some_terms k b e = (typed_at Σ₁ W C.variables (own_terms first C.blocks) C.blocks tc.blocks k b e).1

  pub some_identified : (k : ℕ) (d : BlockVariable) → block_at (identified first π C).blocks k ≡ Some d → AreSomeTerms (with_entries Σ first (blocks_of (C.blocks ++ M.blocks))) (move_types γ C.variables) d.block.some d.terms
  some_identified k d e =
      let (b, at, q) = moved_from γ C.blocks k d e in
      let (υ, t, s) = some_terms k b at in
      subst (λ (x : BlockVariable). AreSomeTerms Σe (move_types γ C.variables) x.block.some x.terms) (sym q) (
        (λ j. move_image γ (υ j)),
        some_kept γ Σ Σ₁ Σe ok case_old case_types case_kinds b.block.some C.variables υ (outer_context Σ b.block.entries b.block.some (case_blocks k b at)) t,
        ap (move_spine γ) s ∙ some_moved γ b.block.some υ,
      )

  pub terms_put : (k : ℕ) (b d : BlockVariable) → block_at C.blocks k ≡ Some b → block_at M.blocks (ν k) ≡ Some d → substitute_spine reduce ψ (move_spine γ b.terms) ≡ move_spine δ d.terms
  terms_put k b d at to =
      ap (substitute_spine reduce ψ) (sym (both_moved_spine (IsOld Σ₁) δ ε γ agree b.terms (some_only Σ₁ ok₁ C.variables b.block.some b.terms (some_terms k b at))))
      ∙ sym (move_spine_substituted δ σ (move_spine ε b.terms))
      ∙ ap (λ (x : BlockVariable). move_spine δ x.terms) (some_same (sym (h.blocks k b at) ∙ to))

  pub terms_one : (k : ℕ) (b c : BlockVariable) → block_at (identified first π C).blocks k ≡ Some b → block_at (identified first π C).blocks (π k) ≡ Some c → substitute_spine reduce ψ b.terms ≡ substitute_spine reduce ψ c.terms
  terms_one k b c e q =
      let (x, at, r) = moved_from γ C.blocks k b e in
      let (y, to, s) = moved_from γ C.blocks (π k) c q in
      let d : BlockVariable = record { block = x.block; terms = substitute_spine reduce σ (move_spine ε x.terms) } in
      ap (λ (z : BlockVariable). substitute_spine reduce ψ z.terms) r
      ∙ terms_put k x d at (h.blocks k x at)
      ∙ sym (terms_put (π k) y d to (ap (block_at M.blocks) (same k x at) ∙ h.blocks k x at))
      ∙ ap (λ (z : BlockVariable). substitute_spine reduce ψ z.terms) (sym s)

  -- the arguments
  pub arguments_typed : (L : List LfType) (Ms : List (Option Term)) → HaveSkeletons (constant_skeletons (with_entries Σ first (blocks_of C.blocks))) (context_skeletons (onto L C.variables)) Ms → HaveSkeletons (constant_skeletons (with_entries Σ first (blocks_of (C.blocks ++ M.blocks)))) (context_skeletons (onto (move_types γ L) (move_types γ C.variables))) (move_all γ Ms)
  arguments_typed L Ms s = subst (λ Γ. HaveSkeletons (constant_skeletons Σe) Γ (move_all γ Ms)) (sym (ap context_skeletons (sym (onto_moved γ L C.variables)) ∙ contexts_kept γ (onto L C.variables))) (all_kept γ Σ₁ Σe case_types (context_skeletons (onto L C.variables)) Ms s)

  pub arguments_put : (L : List LfType) (Ms : List (Option Term)) (T : Spine) → HaveSkeletons (constant_skeletons (with_entries Σ first (blocks_of C.blocks))) (context_skeletons (onto L C.variables)) Ms → ArePlaces (put_in (lift_over L σ) (move_all ε Ms)) T → HasArguments (lift_over (move_types γ L) ψ) (move_all γ Ms) (move_spine δ T)
  arguments_put L [] nil s a = tt
  arguments_put L [] (app N T) s a = absurd a
  arguments_put L (Some P ∷ Ms) nil s a = absurd a
  arguments_put L (None ∷ Ms) nil s a = absurd a
  arguments_put L (Some P ∷ Ms) (app N T) ((t, m), s) (e, a) = (
    ap (move δ) (sym e)
        ∙ move_substituted δ (lift_over L σ) (move ε P)
        ∙ ap₂ (λ f Q. substitute reduce f Q) (lifts_moved δ L σ ∙ lift_same L (move_types γ L) ψ (sym (length_moved γ L))) (both_moved (IsOld Σ₁) δ ε γ agree P (skeleton_only Σ₁ (context_skeletons (onto L C.variables)) P t m)),
    arguments_put L Ms T s a,
  )
  arguments_put L (None ∷ Ms) (app N T) s a = arguments_put L Ms T s a
