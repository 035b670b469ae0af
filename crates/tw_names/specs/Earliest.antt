-- The earliest of some mentions.
use Rattle.std.specs.Prelude.{List, [], ◌∷◌, Option, None, Some, if◌then◌else◌}
use Rattle.tw_names.specs.Unknown.{is_no_later}
use Rattle.tw_names.specs.declared.unknown.Mention.{Mention}

-- of one that was found before and another
abbrev pub earlier : Option Mention → Mention → Mention
earlier None n = n
earlier (Some m) n = if is_no_later m.at n.at then m else n

-- of one that was found before and some others
abbrev pub earliest : Option Mention → List Mention → Option Mention
earliest m [] = m
earliest m (n ∷ ns) = earliest (Some (earlier m n)) ns
