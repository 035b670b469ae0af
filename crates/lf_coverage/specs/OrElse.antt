-- The first of two, if there is one, or else the second. Of None and Some 2 it is Some 2; of Some 1 and Some 2 it is
-- Some 1, and not Some 2.
use Rattle.std.specs.Prelude.{Option, Some, None}

abbrev pub or_else : {A : Type 0} → Option A → Option A → Option A
or_else None y = y
or_else (Some x) y = Some x
