-- Room for entry constants. An extension of the signature may use their numbers, so its constants from the first of these on move up past them. Then a
-- ground instance over it is one over an extension that leaves the numbers free.
use Rattle.std.specs.Prelude.{◌≡◌, ℕ, zero, suc, ◌+◌, List, Bool, Option, Some, None}
use Rattle.lf.specs.Syntax.{Term, LfType, Kind, kind_pi, star}
use Rattle.lf.specs.Substitution.{Image, keep, put}
use Rattle.lf.specs.Typing.{Signature, IsSignature}
use Rattle.lf.specs.Subordination.{Block, AreTypedBlocks}
use Rattle.lf.specs.Worlds.{World}
use Rattle.lf.specs.Extension.{Extends}
use Rattle.lf_cases.specs.Cover.{InstanceIn}
use Rattle.lf_numbered.specs.EntryConstants.{IsFreeFrom}
use Rattle.lf_numbered.specs.NewInstance.{AreApart}
use Rattle.lf_numbered.specs.NumberedCase.{NumberedCase, AreTypedVariables, IsNumberedInstance}
use Rattle.lf_numbered.specs.NumberedInstance.{block_at, move, move_type, move_types}
use Rattle.lf_numbered.specs.Numbering.{entries_of}
use Rattle.lf_numbered.specs.OwnTerms.{BlockVariable, blocks_of}
use Rattle.lf_numbered.specs.WritingLaws.{IsInstanceWithRoom}

-- the numbers from k on, moved up by n
abbrev pub past_gap : ℕ → ℕ → ℕ → ℕ
past_gap zero n c = c + n
past_gap (suc k) n zero = zero
past_gap (suc k) n (suc c) = suc (past_gap k n c)

-- and back
abbrev pub gap_back : ℕ → ℕ → ℕ → ℕ
gap_back zero zero c = c
gap_back zero (suc n) zero = zero
gap_back zero (suc n) (suc c) = gap_back zero n c
gap_back (suc k) n zero = zero
gap_back (suc k) n (suc c) = suc (gap_back k n c)

-- a table with n empty places from k on
abbrev pub with_gap : {A : Type 0} → ℕ → ℕ → (ℕ → Option A) → ℕ → Option A
with_gap zero zero f c = f c
with_gap zero (suc n) f zero = None
with_gap zero (suc n) f (suc c) = with_gap zero n f c
with_gap (suc k) n f zero = f zero
with_gap (suc k) n f (suc c) = with_gap k n (λ i. f (suc i)) c

-- types and kinds with other constants, and what stands for a variable
abbrev pub move_kind : (ℕ → ℕ) → Kind → Kind
move_kind γ (kind_pi A K) = kind_pi (move_type γ A) (move_kind γ K)
move_kind γ star = star

abbrev pub move_declared : (ℕ → ℕ) → Option LfType → Option LfType
move_declared γ None = None
move_declared γ (Some A) = Some (move_type γ A)

abbrev pub move_declared_kind : (ℕ → ℕ) → Option Kind → Option Kind
move_declared_kind γ None = None
move_declared_kind γ (Some K) = Some (move_kind γ K)

abbrev pub move_image : (ℕ → ℕ) → Image → Image
move_image γ (keep i) = keep i
move_image γ (put a N) = put a (move γ N)

-- the signature with n numbers left free from `first` on
abbrev pub leave_room : ℕ → ℕ → Signature → Signature
leave_room first n Σ = record { types = λ c. move_declared (past_gap first n) (with_gap first n Σ.types c); kinds = λ a. move_declared_kind (past_gap first n) (Σ.kinds a) }

-- Each ground instance of a typed case, in whatever extension, is moved into one with room for the entries. Its terms are the same but for the constants
-- that the extension has beside those of the signature, and block variables that are apart stay so.
abbrev pub RoomIsMade : Type 0
RoomIsMade = (Σ Σ' : Signature) → IsSignature Σ → (S : ℕ → Bool) → Extends S Σ Σ' → (W : List Block) → AreTypedBlocks Σ W → (first : ℕ) → IsFreeFrom Σ first → (C : NumberedCase) → AreTypedVariables Σ first W C → (G : List LfType) (w : World Σ' W S G) (θ : ℕ → ℕ → Image) (σ : ℕ → Image) → IsNumberedInstance w first C θ σ → (v : World (leave_room first (entries_of (blocks_of C.blocks)) Σ') W S (move_types (past_gap first (entries_of (blocks_of C.blocks))) G)) × IsInstanceWithRoom Σ v first C (λ k i. move_image (past_gap first (entries_of (blocks_of C.blocks))) (θ k i)) (λ i. move_image (past_gap first (entries_of (blocks_of C.blocks))) (σ i)) × (AreApart C θ → AreApart C (λ k i. move_image (past_gap first (entries_of (blocks_of C.blocks))) (θ k i)))

-- And back: a ground instance of a typed case over such an extension, whose block variables stand for instances that are moved from the context, is one of
-- the context when its constants move down again; terms that were moved up are what they were.
abbrev pub RoomIsLeft : Type 0
RoomIsLeft = (Σ Σ' : Signature) → IsSignature Σ → (S : ℕ → Bool) → Extends S Σ Σ' → (W : List Block) → AreTypedBlocks Σ W → (first n : ℕ) → IsFreeFrom Σ first → (D : NumberedCase) → AreTypedVariables Σ first W D → (G : List LfType) (w : World Σ' W S G) (v : World (leave_room first n Σ') W S (move_types (past_gap first n) G)) (θ : ℕ → ℕ → Image) (τ : ℕ → Image) → IsNumberedInstance v first D (λ k i. move_image (past_gap first n) (θ k i)) τ → ((k : ℕ) (b : BlockVariable) → block_at D.blocks k ≡ Some b → InstanceIn w b.block (θ k)) → IsNumberedInstance w first D θ (λ i. move_image (gap_back first n) (τ i)) × ((N : Term) → move (gap_back first n) (move (past_gap first n) N) ≡ N)
