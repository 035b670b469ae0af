-- What a call that writes in parts leaves.
use Rattle.std.specs.Prelude.{◌≡◌, ◌≢◌, [], ℕ, List, ◌++◌, Bool, Ok, Err}
use Rattle.std.specs.declared.option.Option.{Option}
use Rattle.std.specs.declared.result.Result.{Result}
use Rattle.tw_ports.specs.Ports.{Gains}

-- the sink gained the first of these bytes, perhaps none, and not all
abbrev pub GainsFront : Option (List ℕ) → Option (List ℕ) → List ℕ → Type 0
GainsFront old new all = (part rest : List ℕ) × (all ≡ part ++ rest) × Gains old new part × (rest ≢ [])

-- the sink gained all of the bytes, or as much of them as it took
abbrev pub GainsReply : {E : Type 0} → Option (List ℕ) → Option (List ℕ) → List ℕ → Result (Unit {0}) E → Type 0
GainsReply old new all (Ok done) = Gains old new all
GainsReply old new all (Err e) = GainsFront old new all

-- the same of lines, with whether all went well
abbrev pub GainsLines : {E : Type 0} → Option (List ℕ) → Option (List ℕ) → List ℕ → Bool → Result Bool E → Type 0
GainsLines old new all well (Ok told) = (told ≡ well) × Gains old new all
GainsLines old new all well (Err e) = GainsFront old new all
