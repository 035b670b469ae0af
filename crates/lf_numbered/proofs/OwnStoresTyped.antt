-- Each case that comes from a typed case by number by new block variables and by splits is typed, and on own terms.
use Rattle.std.proofs.Common.{ℕ, List}
use Rattle.std.specs.Prelude.{Bool}
use Rattle.lf.specs.Typing.{Signature, IsSignature}
use Rattle.lf.specs.Subordination.{Block, AreTypedBlocks}
use Rattle.lf_numbered.specs.EntryConstants.{IsFreeFrom}
use Rattle.lf_numbered.specs.NumberedCase.{NumberedCase}
use Rattle.lf_numbered.specs.OwnStores.{ComesByNumbers, no_split, then_block, then_split, NumberedRunStaysTyped}
use Rattle.lf_numbered.specs.TypedNumbered.{IsTypedNumberedCase}
use Rattle.lf_numbered.proofs.OwnStoresNewBlock.{new_block_stays_typed}
use Rattle.lf_numbered.proofs.OwnStoresSplit.{numbered_split_stays_typed}

module _ (Σ : Signature) (ok : IsSignature Σ) (W : List Block) (typed : AreTypedBlocks Σ W) (first : ℕ) (free : IsFreeFrom Σ first) (below : ℕ → ℕ → Bool) (C : NumberedCase) (tc : IsTypedNumberedCase Σ first W C) where
  come_typed : {D : NumberedCase} → ComesByNumbers Σ W first below C D → IsTypedNumberedCase Σ first W D
  come_typed no_split = tc
  come_typed (then_block {D = D} B r m) = new_block_stays_typed Σ ok W typed first free D (come_typed r) B m
  come_typed (then_split {D = D} x X h U A K after r at offer f s) = numbered_split_stays_typed Σ ok W typed first free below D (come_typed r) x X at h U A offer K f after s

pub numbered_run_stays_typed : NumberedRunStaysTyped
numbered_run_stays_typed Σ ok W typed first free below C tc D r = come_typed Σ ok W typed first free below C tc r
