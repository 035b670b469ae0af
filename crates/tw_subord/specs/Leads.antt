-- Links between numbers, and where they lead.
use Rattle.std.specs.Prelude.{ℕ, List, Contains}
use Rattle.tw_subord.specs.Rows.{row}

-- From a links lead to b: a is b, or it is in the row of a number from which links lead to b.
pub data Leads (rows : List (List ℕ)) : ℕ → ℕ → Type 0 where
  leads_itself : {a : ℕ} → Leads rows a a
  leads_on : {a b : ℕ} (c : ℕ) → Contains (row rows c) a → Leads rows c b → Leads rows a b
