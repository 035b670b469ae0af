-- A map from names to numbers, by the bytes of the name.
use Rattle.std.specs.Prelude.{ℕ, List, Option, Vec}
use Rattle.std.specs.Str.{bytes_eq}
use Rattle.std.specs.HashMap.{HashMap, get_by}

-- the number that the map has for a name
abbrev pub number_at : {A S : Type 0} → HashMap (Vec ℕ A) ℕ S → List ℕ → Option ℕ
number_at m name = get_by (λ k. bytes_eq name k.items) m
