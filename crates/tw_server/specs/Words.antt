-- What the command lines say.
use Rattle.std.specs.Prelude.{ℕ, List, length, nat_lt, if◌then◌else◌}
use Rattle.tw_command.specs.Meaning.{Meaning, line_means}
use Rattle.tw_server.specs.Limits.{line_limit}

-- a line is longer than a command line may be, or has a meaning
pub data Said : Type 0 where
  too_long : Said
  meant : Meaning → Said

-- what a line's body says; it may have 65,536 bytes
abbrev pub said_of : List ℕ → Said
said_of body = if nat_lt line_limit (length body) then too_long else meant (line_means body)
