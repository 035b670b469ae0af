-- Splits by number at a variable of which it is known what it takes.
use Rattle.std.proofs.Common.{inl, inr, refl, sym, subst}
use Rattle.lf.specs.Subordination.{Member}
use Rattle.lf_numbered.specs.NumberedCallsReached.{numbered_first, past_numbered_meeting, past_numbered_apart}
use Rattle.lf_numbered.specs.NumberedCandidatesRuns.{FirstIsCandidateByNumber, TakerByNumberIsSplit, UnifiedTakerIsAnswered}
use Rattle.lf_numbered.proofs.NumberedBeside.{taker_answered}
use Rattle.lf_numbered.proofs.NumberedSplits.{is_split}

pub first_is_candidate_by_number : FirstIsCandidateByNumber
first_is_candidate_by_number Σ first W C x _ (numbered_first {p = p} {ps = ps} xs m e) = (p, inl refl, subst (Member x) (sym e) (inl refl))
first_is_candidate_by_number Σ first W C x _ (past_numbered_meeting {p = p} {ps = ps} m e h) = let (q, i, c) = first_is_candidate_by_number Σ first W C x ps h in (q, inr i, c)
first_is_candidate_by_number Σ first W C x _ (past_numbered_apart {p = p} {ps = ps} a h) = let (q, i, c) = first_is_candidate_by_number Σ first W C x ps h in (q, inr i, c)

pub taker_by_number_is_split : TakerByNumberIsSplit
taker_by_number_is_split Σ ok W typed below s S sc first free C tc x Cs sp takes = is_split Σ ok W typed below s S sc first free C tc x Cs sp takes

pub unified_taker_is_answered : UnifiedTakerIsAnswered
unified_taker_is_answered Σ ok W typed below test first free C tc x Cs sp k = taker_answered Σ ok W typed below test first free C tc x Cs sp k
