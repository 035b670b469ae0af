-- What the values of the program stand for.
use Rattle.std.specs.Prelude.{ℕ}
use Rattle.tw_prune.specs.Walks.{Table}
use Rattle.tw_prune.specs.declared.inverse.Inverse.{Inverse}
use Rattle.tw_prune.specs.declared.drops.Loss.{Loss}

-- the table that an inverse holds
abbrev pub table_of : Inverse → Table
table_of i = record { places = i.places.items; arity = i.arity }

-- a loss as a pair of numbers
abbrev pub loss_of : Loss → ℕ × ℕ
loss_of l = (l.meta.0, l.place)
