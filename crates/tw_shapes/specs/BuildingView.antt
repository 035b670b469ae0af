-- What the arrows that the program has begun stand for.
use Rattle.std.specs.Prelude.{List, map, reverse}
use Rattle.tw_shapes.specs.Building as plain
use Rattle.tw_shapes.specs.View.{shape_of}
use Rattle.tw_shapes.specs.declared.building.Begun.{Begun}
use Rattle.tw_shapes.specs.declared.building.Begun.TheVariants.{Domain, Range}
use Rattle.tw_shapes.specs.declared.building.Built.{Built}
use Rattle.tw_shapes.specs.declared.building.Built.TheVariants.{Whole, Next}

abbrev pub begun_of : Begun → plain.Begun
begun_of (Domain T) = plain.before (shape_of T.now)
begun_of (Range S) = plain.behind (shape_of S)

-- the innermost in front
abbrev pub arrows_of : List Begun → List plain.Begun
arrows_of bs = map begun_of (reverse bs)

abbrev pub built_of : Built → plain.Built
built_of (Whole S) = plain.whole (shape_of S)
built_of (Next T) = plain.next (shape_of T.now)
