-- What a sequence is read as so far: a stack of signs that wait for their right sides.
use Rattle.std.specs.Prelude.{◌≡◌, List, [], ◌∷◌, map, reverse, Bool, true, false, ◌&&◌, Option, None, Some, if◌then◌else◌}
use Rattle.std.specs.Option.{option_map}
use Rattle.tw_lexer.specs.declared.place.Place.{Place}
use Rattle.tw_parse.specs.Syntax.{Term, star, application}
use Rattle.tw_parse.specs.View.{term_of}
use Rattle.tw_parse.specs.Signs.{fits, level_of, left_of, right_of}
use Rattle.tw_parse.specs.Grammar.{Item, atom, sign, joined, applied}
use Rattle.tw_parse.specs.declared.parts.Part.{Part}
use Rattle.tw_parse.specs.declared.parts.Part.TheVariants as parts
use Rattle.tw_parse.specs.declared.sign.Sign.{Sign}
use Rattle.tw_parse.specs.declared.sign.Level.{Level}
use Rattle.tw_parse.specs.declared.sign.Level.TheVariants as levels
use Rattle.tw_parse.specs.declared.sign.Side.{Side}
use Rattle.tw_parse.specs.declared.sign.Side.TheVariants.{Absent, Above, From}
use Rattle.tw_parse.specs.declared.pile.Pending.{Pending}
use Rattle.tw_parse.specs.declared.pile.Operand.{Operand}
use Rattle.tw_parse.specs.declared.pile.Pile.{Pile}

-- a sign that waits for its right side, with its left one, if it has one
pub record Waiting : Type 0 where
  pub left : Option Term
  pub by : Sign

-- what is read last, with its level
pub record Settled : Type 0 where
  pub term : Term
  pub level : Level

-- whether the sign s can wait while t takes what stands between, and whether t can have what s makes on its left
abbrev pub waits : Sign → Sign → Bool
waits s t = fits (right_of s) (level_of s) (level_of t)

abbrev pub yields : Sign → Sign → Bool
yields s t = fits (left_of t) (level_of t) (level_of s)

abbrev pub made : Option Term → Sign → Term → Term
made None s N = applied s N
made (Some M) s N = joined s M N

-- the waiting sign with its right side
abbrev pub closed : Waiting → Settled → Settled
closed w x = record { term = made w.left w.by x.term; level = level_of w.by }

abbrev pub takes : Waiting → Level → Bool
takes w l = fits (right_of w.by) (level_of w.by) l

-- the signs that don't wait for the next one get their right sides; none where both could stand, or neither
abbrev pub settle : List Waiting → Settled → Sign → Option (List Waiting × Settled)
settle [] x t = Some ([], x)
settle (w ∷ ws) x t =
    if waits w.by t then (if yields w.by t then None else Some (w ∷ ws, x)) else
    if yields w.by t && takes w x.level then settle ws (closed w x) t else
    None

-- all waiting signs get their right sides
abbrev pub settle_all : List Waiting → Settled → Option Settled
settle_all [] x = Some x
settle_all (w ∷ ws) x = if takes w x.level then settle_all ws (closed w x) else None

-- the waiting signs, the newest first, and what is read last, if it has begun; none where the sequence has not one reading
abbrev pub State : Type 0
State = Option (List Waiting × Option Settled)

abbrev pub is_application : Level → Bool
is_application levels.Application = true
is_application _ = false

abbrev pub with_atom : List Waiting → Option Settled → Term → State
with_atom ws None N = Some (ws, Some (record { term = N; level = levels.Application }))
with_atom ws (Some x) N = if is_application x.level then Some (ws, Some (record { term = application x.term N; level = levels.Application })) else None

abbrev pub is_absent : Side → Bool
is_absent Absent = true
is_absent Above = false
is_absent From = false

-- whether the newest sign can have a term of this level on its right
abbrev pub newest_takes : List Waiting → Level → Bool
newest_takes [] l = true
newest_takes (w ∷ ws) l = takes w l

-- the sign behind what is read last
abbrev pub behind_side : Sign → Option (List Waiting × Settled) → State
behind_side t None = None
behind_side t (Some (ws, x)) =
    if fits (left_of t) (level_of t) x.level then
    (if is_absent (right_of t) then Some (ws, Some (record { term = applied t x.term; level = level_of t })) else
    Some (record { left = Some x.term; by = t } ∷ ws, None)) else
    None

abbrev pub with_sign : List Waiting → Option Settled → Sign → State
with_sign ws None t = if is_absent (left_of t) && newest_takes ws (level_of t) then Some (record { left = None; by = t } ∷ ws, None) else None
with_sign ws (Some x) t = behind_side t (settle ws x t)

abbrev pub step : State → Item → State
step None i = None
step (Some (ws, x)) (atom N) = with_atom ws x N
step (Some (ws, x)) (sign t) = with_sign ws x t

-- what the items are read as, from this state on
abbrev pub run : State → List Item → State
run state [] = state
run state (i ∷ is) = run (step state i) is

abbrev pub outcome : State → Option Settled
outcome None = None
outcome (Some (ws, None)) = None
outcome (Some (ws, Some x)) = settle_all ws x

-- what the items are read as
abbrev pub reading : List Item → Option Settled
reading items = outcome (run (Some ([], None)) items)

-- what the values of the program stand for
abbrev pub waiting_of : Pending → Waiting
waiting_of p = record { left = option_map term_of p.left; by = p.by }

abbrev pub side_of : Operand → Settled
side_of x = record { term = term_of x.term; level = x.level }

abbrev pub stack_of : List Pending → List Waiting
stack_of ps = reverse (map waiting_of ps)

abbrev pub state_of : Pile → State
state_of pile = if pile.at_fault then None else Some (stack_of pile.pending.items, option_map side_of pile.current)

-- the term that stands for a part, which is any term where the part is at fault
abbrev pub term_for : Part → Term
term_for (parts.Term t) = term_of t
term_for (parts.AtFault place) = star

-- the first fault of the parts so far and of one more
abbrev pub first_fault : Option Place → Part → Option Place
first_fault (Some place) part = Some place
first_fault None (parts.Term t) = None
first_fault None (parts.AtFault place) = Some place

-- the part that a pile with these faults makes, where its sequence begins here
abbrev pub Concludes : Place → Option Place → Option Settled → Part → Type 0
Concludes first inner None part = part ≡ parts.AtFault first
Concludes first (Some place) (Some x) part = part ≡ parts.AtFault place
Concludes first None (Some x) (parts.Term t) = term_of t ≡ x.term
Concludes first None (Some x) (parts.AtFault place) = ⊥

-- what settling gives, where the program's stack and term stand for these
abbrev pub settled_of : List Pending → Option Operand → Option (List Waiting × Settled)
settled_of ps None = None
settled_of ps (Some x) = Some (stack_of ps, side_of x)
