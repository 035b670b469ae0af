-- The answers to what is offered, each a case or none, make a list of cases, in the same order: of heads over items and of heads by number alike.
use Rattle.std.specs.Prelude.{List, [], ◌∷◌, Option, Some, None}

-- Three heads, of which the second gives no case, make the list of the first's case and the third's.
pub data Listed {Head Found : Type 0} (Answer : Head → Option Found → Type 0) : List Head → List Found → Type 0 where
  no_offer : Listed Answer [] []
  with_case : {h : Head} {D : Found} {hs : List Head} {Cs : List Found} → Answer h (Some D) → Listed Answer hs Cs → Listed Answer (h ∷ hs) (D ∷ Cs)
  without_case : {h : Head} {hs : List Head} {Cs : List Found} → Answer h None → Listed Answer hs Cs → Listed Answer (h ∷ hs) Cs
