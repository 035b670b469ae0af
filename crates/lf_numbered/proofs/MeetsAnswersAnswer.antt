-- What `instance_of` is to answer of a case by number and a pattern, from what unification answers at their places.
use Rattle.std.proofs.Common.{◌≡◌, ℕ, ◌⊎◌, List, [], ◌∷◌, inl, inr, refl}
use Rattle.lf.specs.Typing.{Signature}
use Rattle.lf.specs.Subordination.{Block}
use Rattle.lf_cases.specs.Pattern.{Pattern}
use Rattle.lf_coverage.specs.Calls.{Matched, instance, apart, candidates, stuck}
use Rattle.lf_numbered.specs.EntryPatterns.{IsInstanceOfPattern}
use Rattle.lf_numbered.specs.MeetsAnswers.{IsMet, IsMetByNumber, IsRefutedByNumber, MetIsMeeting, MeetingByNumberIsAnswered, entries_at}
use Rattle.lf_numbered.specs.NumberedCalls.{NumberedMatchedIs}
use Rattle.lf_numbered.specs.NumberedCallsReached.{numbered_candidates}
use Rattle.lf_numbered.specs.NumberedCallsStores.{MeetsByNumber, meet_store_by_number}
use Rattle.lf_numbered.specs.NumberedCase.{NumberedCase}
use Rattle.lf_numbered.proofs.MeetsAnswersShares.{solved_by_number_shares}

pub met_is_meeting : MetIsMeeting
met_is_meeting Σ ok W typed first free C tc p tp K f ready m = by m.met
  where
    by : IsMet (entries_at Σ first m.case) (meet_store_by_number m.numbers m.case p m.outer K) → MeetsByNumber Σ first W C p
    by (inl (after, s)) = inl (solved_by_number_shares Σ ok W typed first free C tc p tp K f m.numbers m.case m.outer m.place (ready m.numbers m.case m.outer m.place) after s)
    by (inr undecided) = inr (record { kind = K; of_family = f.of_family; numbers = m.numbers; identifies = m.place.identifies; case = m.case; outer = m.outer; beside = m.place.beside; undecided = undecided })

-- a pattern that meets the case, which is no instance, has candidates or not
pub meeting_answer : (Σ : Signature) (first : ℕ) (W : List Block) (C : NumberedCase) (p : Pattern) → (IsInstanceOfPattern Σ first C p → ⊥) → MeetsByNumber Σ first W C p → (m : Matched) × NumberedMatchedIs Σ first W C p m
meeting_answer Σ first W C p n h = by (numbered_candidates first C p) refl
  where
    by : (xs : List ℕ) → numbered_candidates first C p ≡ xs → (m : Matched) × NumberedMatchedIs Σ first W C p m
    by [] e = (stuck, (n, h, e))
    by (x ∷ xs) e = (candidates (x ∷ xs), (n, h, e, λ q. absurd cc))

pub meeting_by_number_is_answered : MeetingByNumberIsAnswered
meeting_by_number_is_answered Σ ok W typed first free C tc p tp K f ready d answer refuted = by d answer
  where
    by : Dec (IsInstanceOfPattern Σ first C p) → IsRefutedByNumber Σ first C p K ⊎ IsMetByNumber Σ first C p K → (m : Matched) × NumberedMatchedIs Σ first W C p m
    by (yes i) a = (instance, i)
    by (no n) (inl r) = (apart, refuted r)
    by (no n) (inr m) = meeting_answer Σ first W C p n (met_is_meeting Σ ok W typed first free C tc p tp K f ready m)
