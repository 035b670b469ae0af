-- The stores at places of shared instances are well formed.
use Rattle.std.proofs.Common.{◌≡◌, ◌≤◌, ℕ, zero, arith}
use Rattle.lf_numbered.specs.MeetsReady.{SharedInputStoreIsReady, SharedGivenStoreIsReady}
use Rattle.lf_numbered.proofs.MeetsReadyGivenMeets.{given_meet_store_is_ready}
use Rattle.lf_numbered.proofs.MeetsReadyInputs.{input_meet_store_is_ready}

pub shared_input_store_is_ready : SharedInputStoreIsReady
shared_input_store_is_ready Σ ok W first free C tc none p tp typed closed local K e h s π J φ at = input_meet_store_is_ready Σ ok W first free C tc none p tp typed closed local K e h π at.identifies J φ at.beside

none_below : (n : ℕ) → n ≤ zero → n ≡ zero
none_below n l = omega (arith, l)

pub shared_given_store_is_ready : SharedGivenStoreIsReady
shared_given_store_is_ready Σ ok W typed first free C p tp f b own K e s π J φ at = given_meet_store_is_ready Σ ok W typed first free C p tp f b own K e π at.identifies (none_below (π zero) (at.oldest zero)) J φ at.beside
