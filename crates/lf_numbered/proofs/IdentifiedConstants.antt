-- Where block variables of a case are one, each constant is moved to one of its type: so what is typed over the entries stays typed, and has its skeletons.
use Rattle.std.proofs.Common.{◌≡◌, ℕ, ◌+◌, List, length, ap, ◌∙◌}
use Rattle.std.specs.Prelude.{Option, Some}
use Rattle.lf.specs.Syntax.{Term, Spine, LfType, Kind, Skeleton}
use Rattle.lf.specs.SkeletonTyping.{TermSkeleton, SpineSkeleton}
use Rattle.lf.specs.Skeletons.{constant_skeletons}
use Rattle.lf.specs.Typing.{Signature, IsContext, IsSignature}
use Rattle.lf.specs.Subordination.{Block, AreTypedBlocks}
use Rattle.lf_coverage.specs.Heads.{HaveSkeletons}
use Rattle.lf_numbered.specs.EntryConstants.{entry_images, with_entries, IsFreeFrom}
use Rattle.lf_numbered.specs.EntryPatterns.{some_images, variable_images}
use Rattle.lf_numbered.specs.NumberedCallsStores.{Identifies}
use Rattle.lf_numbered.specs.NumberedCase.{NumberedCase, AreTypedVariables}
use Rattle.lf_numbered.specs.NumberedInstance.{block_at, first_constant, moved_constant, move, move_all, move_spine, move_type, move_types}
use Rattle.lf_numbered.specs.OwnTerms.{blocks_of, own_terms}
use Rattle.lf_numbered.specs.WritingRoom.{move_image, move_kind}
use Rattle.lf_numbered.proofs.EntryPatternsTyped.{typed_at}
use Rattle.lf_numbered.proofs.MovedBlocks.{AreTypedIn, KeepBlocks, entry_moved, kinds_moved, old_stay, types_moved}
use Rattle.lf_numbered.proofs.MovedConstants.{all_kept, block_images_moved, context_moved, spine_kept, term_kept}
use Rattle.lf_numbered.proofs.Reading.{IsOld}

-- the blocks of typed block variables are typed
pub case_blocks : (Σ : Signature) (W : List Block) → AreTypedBlocks Σ W → (first : ℕ) (C : NumberedCase) → AreTypedVariables Σ first W C → AreTypedIn Σ C.blocks
case_blocks Σ W typed first C tv k b e = typed b.block (typed_at (with_entries Σ first (blocks_of C.blocks)) W C.variables (own_terms first C.blocks) C.blocks tv.blocks k b e).0

module _ (Σ : Signature) (ok : IsSignature Σ) (W : List Block) (typed : AreTypedBlocks Σ W) (first : ℕ) (free : IsFreeFrom Σ first) (C : NumberedCase) (tv : AreTypedVariables Σ first W C) (π : ℕ → ℕ) (i : Identifies C π) where
  abbrev Σ₁ : Signature
  Σ₁ = with_entries Σ first (blocks_of C.blocks)

  abbrev γ : ℕ → ℕ
  γ = moved_constant first (blocks_of C.blocks) (blocks_of C.blocks) π

  ones : KeepBlocks C.blocks C.blocks π
  ones k b e = let (c, q, r, s) = i k b e in (c, q, r)

  blocks : AreTypedIn Σ C.blocks
  blocks = case_blocks Σ W typed first C tv

  pub old_stays : (c : ℕ) → IsOld Σ c → γ c ≡ c
  old_stays = old_stay Σ ok first free C.blocks C.blocks π ones blocks

  pub types_stay : (c : ℕ) (A : LfType) → (with_entries Σ first (blocks_of C.blocks)).types c ≡ Some A → (with_entries Σ first (blocks_of C.blocks)).types (γ c) ≡ Some (move_type γ A)
  types_stay = types_moved Σ ok first free C.blocks C.blocks π ones blocks

  pub kinds_stay : (a : ℕ) (K : Kind) → (with_entries Σ first (blocks_of C.blocks)).kinds a ≡ Some K → (with_entries Σ first (blocks_of C.blocks)).kinds a ≡ Some (move_kind γ K)
  kinds_stay = kinds_moved Σ ok first free C.blocks C.blocks π ones blocks

  pub context_stays : (G : List LfType) → IsContext (with_entries Σ first (blocks_of C.blocks)) G → IsContext (with_entries Σ first (blocks_of C.blocks)) (move_types γ G)
  context_stays = context_moved γ Σ₁ Σ₁ types_stay kinds_stay

  pub term_stays : (Γ : List Skeleton) (M : Term) (t : Skeleton) → TermSkeleton (constant_skeletons (with_entries Σ first (blocks_of C.blocks))) Γ M t → TermSkeleton (constant_skeletons (with_entries Σ first (blocks_of C.blocks))) Γ (move γ M) t
  term_stays = term_kept γ Σ₁ Σ₁ types_stay

  pub spine_stays : (Γ : List Skeleton) (S : Spine) (t u : Skeleton) → SpineSkeleton (constant_skeletons (with_entries Σ first (blocks_of C.blocks))) Γ S t u → SpineSkeleton (constant_skeletons (with_entries Σ first (blocks_of C.blocks))) Γ (move_spine γ S) t u
  spine_stays = spine_kept γ Σ₁ Σ₁ types_stay

  pub all_stay : (Γ : List Skeleton) (Ms : List (Option Term)) → HaveSkeletons (constant_skeletons (with_entries Σ first (blocks_of C.blocks))) Γ Ms → HaveSkeletons (constant_skeletons (with_entries Σ first (blocks_of C.blocks))) Γ (move_all γ Ms)
  all_stay = all_kept γ Σ₁ Σ₁ types_stay

  -- A block variable that stays itself gives what it gave, moved.
  pub variable_stays : (k : ℕ) (B : Block) (U : Spine) → block_at C.blocks k ≡ Some (record { block = B; terms = U }) → π k ≡ k → (l : ℕ) → move_image γ (variable_images first C.blocks k B U l) ≡ entry_images (first_constant first (blocks_of C.blocks) k) (move_spine γ U) B.entries (some_images B.some (move_spine γ U)) l
  variable_stays k B U at fixed = block_images_moved γ (first_constant first (blocks_of C.blocks) k) (first_constant first (blocks_of C.blocks) k) U B.some B.entries (λ later E es e. entry_moved Σ ok first free C.blocks C.blocks π ones blocks k (record { block = B; terms = U }) at later E es e ∙ ap (λ j. first_constant first (blocks_of C.blocks) j + length es) fixed)
