-- Places of free variables, by their numbers.
use Rattle.std.specs.Prelude.{◌≡◌, ℕ, ◌<◌, List, length, Option, None, option_map, slice_index_or}
use Rattle.lf_elaboration.specs.Sites.{Site, first_place}
use Rattle.tw_lexer.specs.declared.place.Place.{Place}
use Rattle.tw_written.specs.View.{place_of}

-- the places at which n free variables first stand, of these
pub record AreFirstPlaces (fs : List Site) (n : ℕ) (places : List (Option Place)) : Type 0 where
  pub all : length places ≡ n
  pub first : (i : ℕ) → i < n → option_map place_of (slice_index_or places i None) ≡ first_place i fs
