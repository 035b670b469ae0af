-- Marks of a family's places, the first place first, and what is said of the places with a mark.
use Rattle.std.specs.Prelude.{◌≡◌, ℕ, List, [], ◌∷◌, Bool, true, false, map, Some}
use Rattle.lf.specs.Syntax.{Spine, nil, app, LfType, Kind, kind_pi, star, skeleton}
use Rattle.lf.specs.Substitution.{Image, keep, put, substitute_type, reduce}
use Rattle.lf.specs.AtOnce.{in_front}
use Rattle.lf.specs.Typing.{Signature, HasType}
use Rattle.lf.specs.Variables.{under, hide, nothing, Uses, UsesType}

-- `+`, `-` and `*`
pub data Mark : Type 0 where
  input : Mark
  output : Mark
  free : Mark
  deriving Discrete as Mark-discrete

-- it is `+`
abbrev pub is_input : Mark → Bool
is_input input = true
is_input output = false
is_input free = false

-- it is `-`
abbrev pub is_output : Mark → Bool
is_output input = false
is_output output = true
is_output free = false

-- it is `*`
abbrev pub is_free : Mark → Bool
is_free input = false
is_free output = false
is_free free = true

-- the places with a mark
abbrev pub input_places : List Mark → List Bool
input_places m = map is_input m

abbrev pub output_places : List Mark → List Bool
output_places m = map is_output m

abbrev pub free_places : List Mark → List Bool
free_places m = map is_free m

-- There are as many marks as places, and the type of an input place mentions no output place. V has the places before that are
-- no outputs.
abbrev pub AreSound : (ℕ → Bool) → List Mark → Kind → Type 0
AreSound V (input ∷ m) (kind_pi A K) = UsesType V A × AreSound (under V) m K
AreSound V (output ∷ m) (kind_pi A K) = AreSound (hide V) m K
AreSound V (free ∷ m) (kind_pi A K) = AreSound (under V) m K
AreSound V [] (kind_pi A K) = ⊥
AreSound V [] star = Unit {0}
AreSound V (b ∷ m) star = ⊥

-- the family is declared, and its marks are sound
abbrev pub HasSoundMarks : Signature → ℕ → List Mark → Type 0
HasSoundMarks Σ f m = (K : Kind) × (Σ.kinds f ≡ Some K) × AreSound nothing m K

-- each place is an input or an output
abbrev pub NoneFree : List Mark → Type 0
NoneFree [] = Unit {0}
NoneFree (input ∷ m) = NoneFree m
NoneFree (output ∷ m) = NoneFree m
NoneFree (free ∷ m) = ⊥

-- every place is an input
abbrev pub AllInputs : List Mark → Type 0
AllInputs [] = Unit {0}
AllInputs (input ∷ m) = AllInputs m
AllInputs (output ∷ m) = ⊥
AllInputs (free ∷ m) = ⊥

-- The types of the chosen places mention chosen places only. V has those before.
abbrev pub MentionChosenOnly : (ℕ → Bool) → List Bool → Kind → Type 0
MentionChosenOnly V (true ∷ m) (kind_pi A K) = UsesType V A × MentionChosenOnly (under V) m K
MentionChosenOnly V (false ∷ m) (kind_pi A K) = MentionChosenOnly (hide V) m K
MentionChosenOnly V [] (kind_pi A K) = ⊥
MentionChosenOnly V [] star = Unit {0}
MentionChosenOnly V (b ∷ m) star = ⊥

-- The chosen places hold typed terms, where θ stands for the places before. What stands at the other places is of no meaning where
-- the types of the chosen places mention chosen places only, as those of inputs do by sound marks without `*`.
abbrev pub TypedPlacesFrom : Signature → List Bool → List LfType → (ℕ → Image) → Spine → Kind → Type 0
TypedPlacesFrom Σ (true ∷ m) G θ (app M S) (kind_pi A K) = HasType Σ G M (substitute_type reduce θ A) × TypedPlacesFrom Σ m G (in_front (put (skeleton A) M) θ) S K
TypedPlacesFrom Σ (false ∷ m) G θ (app M S) (kind_pi A K) = TypedPlacesFrom Σ m G (in_front (put (skeleton A) M) θ) S K
TypedPlacesFrom Σ [] G θ nil star = Unit {0}
TypedPlacesFrom Σ [] G θ nil (kind_pi A K) = ⊥
TypedPlacesFrom Σ (b ∷ m) G θ nil K = ⊥
TypedPlacesFrom Σ [] G θ (app M S) K = ⊥
TypedPlacesFrom Σ (b ∷ m) G θ (app M S) star = ⊥

-- a tuple for a family of this kind, typed at the chosen places
abbrev pub TypedPlaces : Signature → List Bool → List LfType → Spine → Kind → Type 0
TypedPlaces Σ m G S K = TypedPlacesFrom Σ m G keep S K

-- two tuples have the same terms at the chosen places, and as many places
abbrev pub SamePlaces : List Bool → Spine → Spine → Type 0
SamePlaces [] nil nil = Unit {0}
SamePlaces [] nil (app N T) = ⊥
SamePlaces [] (app M S) T = ⊥
SamePlaces (b ∷ m) nil T = ⊥
SamePlaces (b ∷ m) (app M S) nil = ⊥
SamePlaces (true ∷ m) (app M S) (app N T) = (M ≡ N) × SamePlaces m S T
SamePlaces (false ∷ m) (app M S) (app N T) = SamePlaces m S T

-- every variable of a chosen place is one of U
abbrev pub UsesPlaces : (ℕ → Bool) → List Bool → Spine → Type 0
UsesPlaces U [] S = Unit {0}
UsesPlaces U (b ∷ m) nil = Unit {0}
UsesPlaces U (true ∷ m) (app M S) = Uses U M × UsesPlaces U m S
UsesPlaces U (false ∷ m) (app M S) = UsesPlaces U m S
