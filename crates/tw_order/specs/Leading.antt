-- Equal calls between families, as a list.
use Rattle.std.specs.Prelude.{ℕ, List}
use Rattle.lf.specs.Subordination.{Member}
use Rattle.tw_order.specs.declared.leading.Edge.{Edge}

-- the call from a to b
abbrev pub edge : ℕ → ℕ → Edge
edge a b = record { caller = a; callee = b }

-- the list has it
abbrev pub HasEdge : List Edge → ℕ → ℕ → Type 0
HasEdge edges a b = Member (edge a b) edges

-- they lead from a to b
pub data Leads (edges : List Edge) : ℕ → ℕ → Type 0 where
  arrived : {a : ℕ} → Leads edges a a
  by_call : {a b c : ℕ} → HasEdge edges a b → Leads edges b c → Leads edges a c

-- a call of the list with a caller that is reached
abbrev pub IsDue : List Edge → List ℕ → Edge → Type 0
IsDue left reached e = Member e left × Member e.caller reached
