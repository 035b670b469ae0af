-- A signature is free from the number n on if it declares neither n nor any later number, as `Σ.types (suc (suc c)) ≡ None` says for n = 2.
use Rattle.std.proofs.Common.{◌≡◌, ℕ, zero, suc, ◌≤◌, arith}
use Rattle.std.specs.Prelude.{None}
use Rattle.lf.specs.Typing.{Signature}
use Rattle.lf_numbered.specs.EntryConstants.{IsFreeFrom}

-- c numbers later than n, by the successors of c, so that it computes where n alone is known
abbrev pub later_than : ℕ → ℕ → ℕ
later_than zero c = c
later_than (suc n) c = suc (later_than n c)

from_number : (P : ℕ → Type 0) (n : ℕ) → ((c : ℕ) → P (later_than n c)) → (c : ℕ) → n ≤ c → P c
from_number P zero h c l = h c
from_number P (suc n) h zero l = absurd (omega (l, arith))
from_number P (suc n) h (suc c) l = from_number (λ m. P (suc m)) n h c (omega (l, arith))

pub free_from : (Σ : Signature) (n : ℕ) → ((c : ℕ) → Σ.types (later_than n c) ≡ None) → ((a : ℕ) → Σ.kinds (later_than n a) ≡ None) → IsFreeFrom Σ n
free_from Σ n ts ks = record { types_free = from_number (λ c. Σ.types c ≡ None) n ts; kinds_free = from_number (λ a. Σ.kinds a ≡ None) n ks }
