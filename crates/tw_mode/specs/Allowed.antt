-- The set of variables that a term may use.
use Rattle.std.specs.Prelude.{ℕ, Bool}
use Rattle.lf_checks.specs.Tests.{either}
use Rattle.tw_clause.specs.Patterns.{newest}
use Rattle.tw_mode.specs.Scopes.{in_marks}
use Rattle.tw_mode.specs.declared.uses.Allowed.{Allowed}

-- the newest, and those that are marked
abbrev pub allowed_in : Allowed → ℕ → Bool
allowed_in a i = either (newest a.bound i) (in_marks a.other a.depth a.marks.now i)
