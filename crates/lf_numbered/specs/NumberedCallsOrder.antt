-- The order of heads that are offered by number: constants in order of declaration; the entries of the blocks in the order of the worlds, each as that of a
-- new block variable and then as that of each block variable of the case, the oldest first; then the variables that the split variable takes.
use Rattle.std.specs.Prelude.{◌≡◌, ℕ, zero, suc, ◌-◌, List, [], ◌∷◌, length, cond, Some, None}
use Rattle.lf.specs.Syntax.{constant, variable}
use Rattle.lf.specs.Variables.{same_number}
use Rattle.lf.specs.Subordination.{Block}
use Rattle.lf_cases.specs.ClauseOrder.{StandsAt, ComesBefore}
use Rattle.lf_cases.specs.Reached.{taken}
use Rattle.lf_numbered.specs.EntryConstants.{EntryConstant, entry_constant}
use Rattle.lf_numbered.specs.NumberedCase.{NumberedCase}
use Rattle.lf_numbered.specs.NumberedSplits.{NumberedOffer}
use Rattle.lf_numbered.specs.OwnTerms.{blocks_of}

-- The place of an offer to the case C in the order, as a list of numbers. A block variable that C doesn't have is new. The entry of a block that stands twice in W
-- has two.
pub data HasNumberedRank (first : ℕ) (W : List Block) (C : NumberedCase) (o : NumberedOffer) : List ℕ → Type 0 where
  signature_rank : (k : ℕ) → o.head ≡ constant k → entry_constant zero first (blocks_of o.case.blocks) k ≡ None → HasNumberedRank first W C o (0 ∷ k ∷ [])
  entry_rank : (c w : ℕ) (e : EntryConstant) → o.head ≡ constant c → entry_constant zero first (blocks_of o.case.blocks) c ≡ Some e → StandsAt w e.block W → HasNumberedRank first W C o (1 ∷ w ∷ length e.before ∷ cond (same_number e.number (length C.blocks)) zero (suc e.number) ∷ [])
  taken_rank : (j : ℕ) → o.head ≡ variable j → HasNumberedRank first W C o (2 ∷ (length (taken o.type) - suc j) ∷ [])

-- The offers have these places, each before the next.
pub data AreInNumberedOrder (first : ℕ) (W : List Block) (C : NumberedCase) : List NumberedOffer → List (List ℕ) → Type 0 where
  none_in_order : AreInNumberedOrder first W C [] []
  one_in_order : {o : NumberedOffer} {r : List ℕ} → HasNumberedRank first W C o r → AreInNumberedOrder first W C (o ∷ []) (r ∷ [])
  next_in_order : {o q : NumberedOffer} {r s : List ℕ} {os : List NumberedOffer} {rs : List (List ℕ)} → HasNumberedRank first W C o r → ComesBefore r s → AreInNumberedOrder first W C (q ∷ os) (s ∷ rs) → AreInNumberedOrder first W C (o ∷ q ∷ os) (r ∷ s ∷ rs)
