-- The limits on what is read, in bytes.
use Rattle.std.specs.Prelude.{ℕ, ◌^◌}

-- of a file, and of a declaration's text with its last line feed: 16,777,216
abbrev pub text_limit : ℕ
text_limit = 2 ^ 24

-- of a command's line without its line feed
abbrev pub line_limit : ℕ
line_limit = 65536

-- of a whole input
abbrev pub input_limit : ℕ
input_limit = 2 ^ 40
