-- Counts of faults over several calls.
use Rattle.std.proofs.Common.{◌≡◌, ℕ, refl, subst, None, Some}
use Rattle.std.specs.declared.result.Result.{Result}
use Rattle.std.specs.declared.option.Option.{Option}
use Rattle.tw_ports.specs.Files.{Held, HoldsOn}
use Rattle.tw_server.specs.Counts.{CountsWrites, StatusCounts, TurnCounts}
use Rattle.tw_server.specs.declared.status.Status.{Status}

-- a turn after reads that didn't fail
pub turn_counts_on : {T : Type 0} (a b c w x : ℕ) (result : Result T Status) → b ≡ a → TurnCounts b c w x result → TurnCounts a c w x result
turn_counts_on a b c w x result e h = subst (λ n. TurnCounts n c w x result) e h

-- a status after turns without a fault
pub status_counts_on : (a b c w x y : ℕ) (status : Status) → b ≡ a → x ≡ w → StatusCounts b c x y status → StatusCounts a c w y status
status_counts_on a b c w x y status e f h = subst (λ n. StatusCounts a c n y status) f (subst (λ n. StatusCounts n c x y status) e h)

-- files that are left alone hold what they held
pub holds_refl : (a : Option Held) → HoldsOn a a
holds_refl None = tt
holds_refl (Some files) = refl

pub holds_trans : (a b c : Option Held) → HoldsOn a b → HoldsOn b c → HoldsOn a c
holds_trans None b c h k = tt
holds_trans (Some files) b c h k = subst (λ (x : Option Held). HoldsOn x c) h k

-- a write after writes that didn't fail
pub writes_on : {T E : Type 0} (a b c : ℕ) (result : Result T E) → b ≡ a → CountsWrites b c result → CountsWrites a c result
writes_on a b c result e h = subst (λ n. CountsWrites n c result) e h
