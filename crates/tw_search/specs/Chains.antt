-- Lists of goals that share their tails.
use Rattle.std.specs.Prelude.{◌≡◌, ◌++◌, ℕ, zero, suc, List, [], ◌∷◌, Option, Some, None, slice_get}
use Rattle.tw_search.specs.declared.frames.Frame.{Frame}
use Rattle.tw_search.specs.declared.frames.Frames.{Frames}

abbrev pub frames_of : Frames → List Frame
frames_of f = f.frames.items

-- The goals of a list, which is named by a number: 0 is the empty one, and any other is the frame at one place less, in front of the list that it names.
pub data GoalsAre (fs : List Frame) : ℕ → List ℕ → Type 0 where
  no_goal : GoalsAre fs zero []
  one_goal : {k : ℕ} {f : Frame} {gs : List ℕ} → slice_get fs k ≡ Some f → GoalsAre fs f.next gs → GoalsAre fs (suc k) (f.hole.0 ∷ gs)

-- the first goal of the list, and the list behind it; none only of the empty one
abbrev pub IsFirst : List Frame → ℕ → Option Frame → Type 0
IsFirst fs n None = (gs : List ℕ) → GoalsAre fs n gs → gs ≡ []
IsFirst fs n (Some f) = (gs : List ℕ) → GoalsAre fs n gs → (hs : List ℕ) × (gs ≡ f.hole.0 ∷ hs) × GoalsAre fs f.next hs

-- frames came behind the others
abbrev pub IsGrown : List Frame → List Frame → Type 0
IsGrown old new = (more : List Frame) × (new ≡ old ++ more)
