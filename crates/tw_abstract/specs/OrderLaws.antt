-- What the order of quantifiers is good for.
use Rattle.std.specs.Prelude.{◌≡◌, ℕ, List, ◌∷◌, ◌++◌}
use Rattle.lf.specs.Subordination.{Member}
use Rattle.tw_abstract.specs.Order.{IsOrder, IsStuck, Waiting}

-- each in the order is a candidate, comes once, and after what it needs
abbrev pub EachFollowsItsNeeds : Type 0
EachFollowsItsNeeds = (es : List Waiting) (ms : List ℕ) → IsOrder es ms → (before behind : List ℕ) (m : ℕ) → ms ≡ before ++ m ∷ behind → (Member m before → ⊥) × ((e : Waiting) × Member e es × (e.of ≡ m) × ((n : ℕ) → Member n e.needs → Member n before))

-- in the list each candidate comes after all that it needs
abbrev pub RespectsNeeds : List Waiting → List ℕ → Type 0
RespectsNeeds es ms = (before behind : List ℕ) (m : ℕ) → ms ≡ before ++ m ∷ behind → (e : Waiting) → Member e es → e.of ≡ m → (n : ℕ) → Member n e.needs → Member n before

-- where choosing is stuck, no list of all candidates, and of nothing else, respects the needs
abbrev pub StuckHasNoOrder : Type 0
StuckHasNoOrder = (es : List Waiting) → IsStuck es → (ms : List ℕ) → ((e : Waiting) → Member e es → Member e.of ms) → ((m : ℕ) → Member m ms → (e : Waiting) × Member e es × (e.of ≡ m)) → RespectsNeeds es ms → ⊥
