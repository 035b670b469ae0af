-- What `%terminates` asks of its families, the orders that it gives them, and its line.
use Rattle.std.specs.Prelude.{◌≡◌, ℕ, suc, List, [], ◌∷◌, ◌++◌, map as each, Bool, Option, None, Some, codes, slice_get, if◌then◌else◌}
use Rattle.std.specs.Str.{bytes_eq}
use Rattle.lf.specs.Entries.{Entry, signature_of}
use Rattle.lf.specs.Subordination.{Block}
use Rattle.lf_checks.specs.Clauses.{ClauseName}
use Rattle.lf_checks.specs.Descent.{GroupDescends}
use Rattle.lf_checks.specs.Marks.{input_places}
use Rattle.lf_checks.specs.ModeRows.{first_unmoded, is_moded, marks_of}
use Rattle.lf_checks.specs.Order as plain
use Rattle.lf_checks.specs.OrderFaults.{AreJoined, GroupOrderFault}
use Rattle.tw_clause.specs.Orders.{order_of}
use Rattle.tw_clause.specs.declared.order.Order.{Order}
use Rattle.tw_mode.specs.ModeTables.{mode_rows}
use Rattle.tw_order.specs.Rows.{families_of, orders_by}
use Rattle.tw_parse.specs.declared.decl.ExtName.{ExtName}
use Rattle.tw_signature.specs.Names.{number_of}
use Rattle.tw_parse_checks.specs.Checks as written
use Rattle.tw_parse_checks.specs.Checks.{Call, terminates}
use Rattle.tw_terms.specs.declared.canonical.ConstId.{ConstId}
use Rattle.tw_decl.specs.Applications.{Application, IsApplied, families_named}
use Rattle.tw_decl.specs.Operators.{newest, spaced}
use Rattle.tw_decl.specs.View.{View}

-- how many of an entry's arguments are implicit
abbrev pub implicit_in : Option Entry → ℕ
implicit_in (Some e) = e.implicit
implicit_in None = 0

-- the number of the first of the names that is this one, where the first of them has the number n; 0 where none is
abbrev pub place_from : ℕ → List ExtName → List ℕ → ℕ
place_from n [] name = 0
place_from n (x ∷ xs) name = if bytes_eq x.name name then n else place_from (suc n) xs name

abbrev pub place_of : ℕ → List ExtName → Option ExtName → ℕ
place_of n names (Some x) = place_from n names x.name
place_of n names None = 0

-- The order of the family of call pattern k, whose first explicit argument has the number n: variable k of each list is its place. With `(X Y)` the pattern `e X` has the place of X, and the next one,
-- `o Y`, that of Y.
abbrev mutual
  pub order_at : ℕ → ℕ → List ExtName → written.Order → plain.Order
  order_at k n names (written.each xs) = plain.place (place_of n names (slice_get xs k))
  order_at k n names (written.lexicographic Os) = plain.lexicographic (orders_at k n names Os)
  order_at k n names (written.simultaneous Os) = plain.simultaneous (orders_at k n names Os)

  pub orders_at : ℕ → ℕ → List ExtName → written.Orders → plain.Orders
  orders_at k n names written.no_order = plain.no_order
  orders_at k n names (written.next_order O Os) = plain.next_order (order_at k n names O) (orders_at k n names Os)

-- the order that a call pattern gives its family
abbrev pub order_by : List Entry → ℕ → written.Order → Call → plain.Order
order_by es k O p = order_at k (suc (implicit_in (newest es p.family.name))) p.names O

-- those of call patterns, the first of which has the number k
abbrev pub orders_given : List Entry → ℕ → written.Order → List Call → List plain.Order
orders_given es k O [] = []
orders_given es k O (p ∷ ps) = order_by es k O p ∷ orders_given es (suc k) O ps

-- which places of a family are inputs
abbrev pub inputs_of : View → ℕ → List Bool
inputs_of v f = input_places (marks_of (mode_rows v.checked.modes) f)

-- each place of the order is an input of the family
abbrev pub IsAtInputs : View → Option ℕ → plain.Order → Type 0
IsAtInputs v (Some f) P = plain.IsAtPlaces (inputs_of v f) P
IsAtInputs v None P = ⊥

-- the same of the orders of call patterns, the first of which has the number k
abbrev pub AreAtInputs : View → ℕ → written.Order → List Call → Type 0
AreAtInputs v k O [] = Unit {0}
AreAtInputs v k O (p ∷ ps) = IsAtInputs v (number_of v.signature p.family.name) (order_by v.signature k O p) × AreAtInputs v (suc k) O ps

-- The declaration names these families, with all their arguments, and each has a mode.
pub record NamesModed (v : View) (O : written.Order) (ps : List Call) (families : List ℕ) : Type 0 where
  pub applied : IsApplied v (terminates O ps) families
  pub moded : first_unmoded (is_moded (mode_rows v.checked.modes)) families ≡ None

-- these are the orders that it gives them, and each place of them is an input
pub record GivesOrders (v : View) (O : written.Order) (ps : List Call) (rows : List (ConstId × Order)) : Type 0 where
  pub named : NamesModed v O ps (families_of rows)
  pub orders : each (λ r. order_of r.1) rows ≡ orders_given v.signature 0 O ps
  pub at_inputs : AreAtInputs v 0 O ps

-- their calls descend, in the blocks of the worlds of all of them, each once
abbrev pub Descend : View → List (ConstId × Order) → Type 0
Descend v rows = (W : List Block) × AreJoined v.checked.worlds (families_of rows) W × GroupDescends (signature_of v.signature) W (orders_by rows) (families_of rows)

-- this is the first call that doesn't
abbrev pub IsFirstCall : View → List (ConstId × Order) → ClauseName → ℕ → Type 0
IsFirstCall v rows name k = (W : List Block) × AreJoined v.checked.worlds (families_of rows) W × GroupOrderFault v.signature W (orders_by rows) (families_of rows) name k

-- the keyword and the families
abbrev pub termination_line : List Application → List ℕ
termination_line xs = (codes "%terminates" ++ spaced (families_named xs)) ++ codes ".\n"
