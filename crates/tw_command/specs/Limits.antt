-- The limits on what may be asked for.
use Rattle.std.specs.Prelude.{ℕ}

-- of the tries that a search may be given: 1,000,000,000
abbrev pub steps_limit : ℕ
steps_limit = 1000000000
