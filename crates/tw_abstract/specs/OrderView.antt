-- The candidates of the program.
use Rattle.std.specs.Prelude.{◌≡◌, ℕ, ◌<◌, ◌≤◌, List, length, map, Some, slice_get, slice_index}
use Rattle.lf.specs.Subordination.{Member}
use Rattle.tw_terms.specs.declared.canonical.MetaId.{MetaId}
use Rattle.tw_abstract.specs.Order.{Waiting}
use Rattle.tw_abstract.specs.declared.order.Candidate.{Candidate}

abbrev pub waiting_of : Candidate → Waiting
waiting_of c = record { of = c.meta.0; needs = map (λ n. n.0) c.needs.items }

-- the first `count` of these are chosen
abbrev pub AreChosen : List ℕ → List MetaId → ℕ → Type 0
AreChosen chosen needs count = (k : ℕ) (n : MetaId) → k < count → slice_get needs k ≡ Some n → Member n.0 chosen

-- of each candidate so many of the needs are chosen
abbrev pub AreMet : List ℕ → List Candidate → List ℕ → Type 0
AreMet chosen cs met = (i : ℕ) (c : Candidate) → slice_get cs i ≡ Some c → (slice_index met i ≤ length c.needs.items) × AreChosen chosen c.needs.items (slice_index met i)
