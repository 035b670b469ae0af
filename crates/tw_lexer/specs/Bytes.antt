-- White space among bytes.
use Rattle.std.specs.Prelude.{ℕ, Bool, nat_le, ◌==◌, ◌||◌, ◌&&◌}

-- space, tab, line feed, vertical tab, form feed and carriage return
abbrev pub is_white_space : ℕ → Bool
is_white_space b = (b == 32) || (nat_le 9 b && nat_le b 13)
