-- The renamings that the program makes.
use Rattle.std.specs.Prelude.{ℕ}
use Rattle.tw_world.specs.Finding.{nearer, to_front}
use Rattle.tw_world.specs.declared.moving.Change.{Change}
use Rattle.tw_world.specs.declared.moving.Change.TheVariants.{Front, Nearer}

abbrev pub change_of : Change → ℕ → ℕ
change_of (Front y) = to_front y
change_of (Nearer n) = nearer n
