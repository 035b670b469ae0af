-- A worked example of writing.
use Rattle.std.specs.Prelude.{◌≡◌, ℕ, zero, suc, ◌+◌, List, [], ◌∷◌, Option, Some, None, false}
use Rattle.lf.specs.Syntax.{constant, Term, root, nil, LfType, pi, base}
use Rattle.lf.specs.Substitution.{Image, keep, put, substitute_type, reduce}
use Rattle.lf.specs.AtOnce.{in_front}
use Rattle.lf.specs.Variables.{nothing}
use Rattle.lf.specs.Worlds.{World}
use Rattle.lf_unification.specs.Unifiers.{Solution, Store}
use Rattle.lf_cases.specs.Case.{free_variable}
use Rattle.lf_totality.specs.Examples.{Copying, copy_block, cp, exp, nat, successor, var, z}
use Rattle.lf_totality.specs.ExamplesGroups.{on_one, one_kind}
use Rattle.lf_totality.specs.ExamplesBlocks.{Numbered, numbered_block}
use Rattle.lf_coverage.specs.SplitStore.{split_store}
use Rattle.lf_numbered.specs.EntryConstants.{with_entries}
use Rattle.lf_numbered.specs.ExamplesEntries.{copy_entry_case, entry_on, on_z}
use Rattle.lf_numbered.specs.OwnTerms.{own_terms, OnOwnTerms}
use Rattle.lf_numbered.specs.Writing.{IsWriting, read_back}
use Rattle.lf_numbered.specs.WritingInstances.{AreValuesOver}
use Rattle.lf_numbered.specs.WritingRoom.{past_gap, gap_back, with_gap}

-- The context {x:exp} {u:cp x x} {y:exp}, where the block variable b of cp b.x _ stands for the instance of x and u. Of b.x = 4 and b.u = 5.
abbrev pub copy_then_one : List LfType
copy_then_one = exp ∷ cp (var 0) (var 0) ∷ exp ∷ []

abbrev pub one_behind : ℕ → ℕ → Image
one_behind k i = keep (suc i)

-- x is written as b.x, and u as b.u; y stays, and is alone in the context.
abbrev pub copy_written : ℕ → Image
copy_written = in_front (keep 0) (in_front (put (base 1) (root (constant 5) nil)) (in_front (put (base 0) (root (constant 4) nil)) (λ i. keep (suc i))))

abbrev pub CopyIsWritten : Type 0
CopyIsWritten = IsWriting Copying 4 (copy_block ∷ []) one_behind copy_then_one (exp ∷ []) copy_written (λ u. u) × (substitute_type reduce copy_written (cp (var 2) (var 0)) ≡ cp (root (constant 4) nil) (var 0)) × (read_back 4 (copy_block ∷ []) one_behind (exp ∷ []) (λ u. u) (root (constant 4) nil) ≡ var 2)

-- b is a block variable of some {n:nat} block {x:t n} {u:a n} on z. A variable of t N, where N : nat, is split by b.x on a new variable, as if its constant
-- were offered with its whole type. The store has a unifier that makes both b.x (s z) and N s z, which isn't on b's terms: that the new variable is z the store doesn't say.
abbrev pub entry_split : Store
entry_split = split_store (λ a b. false) 0 (on_one 1 (var 1)) (free_variable (on_one 1 (var 0)) ∷ free_variable nat ∷ []) 0 (constant 4) (pi nat (on_one 1 (var 0))) one_kind

abbrev pub other_filling : ℕ → Option Term
other_filling zero = Some (successor z)
other_filling (suc zero) = Some (entry_on (successor z))
other_filling (suc (suc zero)) = Some (successor z)
other_filling (suc (suc (suc m))) = None

abbrev pub HeadIsOnOtherTerms : Type 0
HeadIsOnOtherTerms = Solution (with_entries Numbered 4 (numbered_block ∷ [])) [] entry_split [] other_filling × (OnOwnTerms (own_terms 4 on_z) (entry_on (successor z)) → ⊥)

-- Room for two entries from 4 on: the constant 3 stays, 4 moves to 6 and back, and 4 and 5 are free.
abbrev pub RoomIsFree : Type 0
RoomIsFree = (past_gap 4 2 3 ≡ 3) × (past_gap 4 2 4 ≡ 6) × (gap_back 4 2 6 ≡ 4) × (with_gap 4 2 (λ c. Some c) 4 ≡ None) × (with_gap 4 2 (λ c. Some c) 5 ≡ None) × (with_gap 4 2 (λ c. Some c) 6 ≡ Some 4)

-- cp b.x _, on the values of that context, is itself: without free variables its values are those of the context, and they are read back to a ground instance.
abbrev pub CopyHasValues : Type 0
CopyHasValues = (w : World Copying (copy_block ∷ []) nothing copy_then_one) → AreValuesOver Copying w 4 copy_entry_case keep (exp ∷ []) copy_written copy_entry_case (λ i. keep (i + 1))
