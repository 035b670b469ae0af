-- What a call of a search comes to.
use Rattle.std.proofs.Common.{◌≡◌, ℕ, List, length, Result, Ok, Err, sym, subst}
use Rattle.std.specs.Result.{IfOk, OnErr}
use Rattle.std.specs.declared.alloc.AllocError.{AllocError}
use Rattle.lf.specs.Entries.{Entry}
use Rattle.lf.specs.Syntax.{LfType}
use Rattle.lf_unification.specs.Search.{Node, Pending}
use Rattle.tw_signature.specs.Goal.{Goal}
use Rattle.tw_search.specs.Chains.{frames_of}
use Rattle.tw_search.specs.Going.{GivesOut}
use Rattle.tw_search.specs.Standing.{Came, GaveOut, IsAt, IsOver, IsSearch, PlaceStands, Stands, StandsAfter, StepIs, choices_of, is_over, stands}
use Rattle.tw_search.specs.declared.search.Search.{Search}
use Rattle.tw_search.specs.declared.step.End.{End}
use Rattle.tw_search.specs.declared.step.End.TheVariants as end
use Rattle.tw_search.specs.declared.step.Place.TheVariants as place
use Rattle.tw_search.specs.declared.step.Step.{Step}
use Rattle.tw_search.specs.declared.step.Step.TheVariants as step
use Rattle.tw_search.proofs.Leaving.{step_is}

-- a search that is somewhere isn't over
at_node_not_over : (s : Search) (list : ℕ) → s.place ≡ place.Node list → (e : End) → IsOver e s → ⊥
at_node_not_over s list p e o = cc

at_heads_not_over : (s : Search) → s.place ≡ place.Heads → (e : End) → IsOver e s → ⊥
at_heads_not_over s p e o = cc

-- a step of the search of the goal
pub call_is : (es : List Entry) (old new : Search) (budget : ℕ) (s : Step) → ((G : List LfType) → length G ≡ old.variables → (agenda : List Pending) → IsAt es old agenda → Came es G old new agenda budget s) →
    (g : Goal) (leaves : List Node) (agenda : List Pending) → Stands es g old leaves agenda → StepIs es g old new leaves agenda budget s
call_is es old new budget s came g leaves agenda w = step_is es g agenda budget old new leaves w s (came g.variables (sym w.variables) agenda w.at)

-- memory gave out in such a call
pub call_gave_out : (es : List Entry) (old new : Search) (last : ℕ) → GivesOut es last old new → (g : Goal) (leaves : List Node) (agenda : List Pending) → Stands es g old leaves agenda → GaveOut es old new agenda last
call_gave_out es old new last out g leaves agenda w = out agenda w.at

-- a search that is over stands nowhere
pub over_stands : (es : List Entry) (s : Search) (e : End) → IsOver e s → (g : Goal) (leaves : List Node) (agenda : List Pending) → Stands es g s leaves agenda → ⊥
over_stands es s e o g leaves agenda w = subst (λ p. PlaceStands es s.variables p s.store (frames_of s.frames) (choices_of s) agenda) o w.at.0

-- and behind it there is a search again
after_step : (es : List Entry) (g : Goal) (s : Step) (new : Search) (leaves : List Node) (agenda : List Pending) → StandsAfter es g s new leaves agenda → IsSearch es new
after_step es g (step.Answer a) new leaves agenda (l, r, w) = stands g _ agenda w
after_step es g (step.Leftover e) new leaves agenda (l, r, w) = stands g _ agenda w
after_step es g step.Exhausted new leaves agenda o = is_over end.Exhausted o
after_step es g step.Budget new leaves agenda w = stands g leaves agenda w
after_step es g step.TooDeep new leaves agenda o = is_over end.TooDeep o

search_again : (es : List Entry) (old new : Search) (budget : ℕ) (r : Result Step AllocError) → ((e : End) → IsOver e old → ⊥) → IfOk r (λ s. (G : List LfType) → length G ≡ old.variables → (agenda : List Pending) → IsAt es old agenda → Came es G old new agenda budget s) →
    OnErr r (IsOver end.NoMemory new) → IsSearch es old → IsSearch es new
search_again es old new budget (Ok s) n came o (stands g leaves agenda w) = let v = call_is es old new budget s came g leaves agenda w in after_step es g s new leaves v.after v.then_stands
search_again es old new budget (Ok s) n came o (is_over e x) = absurd (n e x)
search_again es old new budget (Err e) n came o w = is_over end.NoMemory o

pub node_again : (es : List Entry) (old new : Search) (budget : ℕ) (list : ℕ) (r : Result Step AllocError) → old.place ≡ place.Node list → IfOk r (λ s. (G : List LfType) → length G ≡ old.variables → (agenda : List Pending) → IsAt es old agenda → Came es G old new agenda budget s) →
    OnErr r (IsOver end.NoMemory new) → IsSearch es old → IsSearch es new
node_again es old new budget list r p came o w = search_again es old new budget r (at_node_not_over old list p) came o w

pub heads_again : (es : List Entry) (old new : Search) (budget : ℕ) (r : Result Step AllocError) → old.place ≡ place.Heads → IfOk r (λ s. (G : List LfType) → length G ≡ old.variables → (agenda : List Pending) → IsAt es old agenda → Came es G old new agenda budget s) →
    OnErr r (IsOver end.NoMemory new) → IsSearch es old → IsSearch es new
heads_again es old new budget r p came o w = search_again es old new budget r (at_heads_not_over old p) came o w
