-- The list of variables that are shown misses none.
use Rattle.std.specs.Prelude.{◌≡◌, ℕ, List, [], ◌∷◌, Option, slice_get}
use Rattle.lf.specs.Syntax.{Term, LfType}
use Rattle.tw_print.specs.Names.{Scene}
use Rattle.tw_print.specs.Shown.{parts}
use Rattle.tw_fixity.specs.Names.{Names as Scope, is_in_scope}
use Rattle.tw_shown.specs.Shown.{shown_within}

-- these variables have the same names in both scopes
abbrev pub AreNamedAlike : Scope → Scope → List ℕ → Type 0
AreNamedAlike ns ms [] = Unit {0}
AreNamedAlike ns ms (i ∷ is) = (slice_get ns i ≡ slice_get ms i) × AreNamedAlike ns ms is

-- the same names are in both scopes
abbrev pub HaveSameNames : Scope → Scope → Type 0
HaveSameNames ns ms = (x : List ℕ) → is_in_scope ns x ≡ is_in_scope ms x

-- Which variables have which names doesn't matter to a text, but for those that it shows.
pub record OnlyShownNamesMatter (s : Scene) (n : ℕ) (G : List LfType) (ns ms : Scope) : Type 0 where
  pub of_term : (M : Term) (t : Option LfType) → AreNamedAlike ns ms ((shown_within s n).term G M t) → (parts s n).term G ns M t ≡ (parts s n).term G ms M t
  pub of_type : (A : LfType) → AreNamedAlike ns ms ((shown_within s n).type G A) → (parts s n).type G ns A ≡ (parts s n).type G ms A

abbrev pub TextsShowWhatIsListed : Type 0
TextsShowWhatIsListed = (s : Scene) (n : ℕ) (G : List LfType) (ns ms : Scope) → HaveSameNames ns ms → OnlyShownNamesMatter s n G ns ms
