-- What a value of the program has left of the list.
use Rattle.std.specs.Prelude.{List, map, reverse}
use Rattle.lf.specs.Syntax.{Skeleton}
use Rattle.tw_resolve.specs.declared.resolving.Resolving.{Resolving}
use Rattle.tw_terms.specs.View.{skeleton_of}

-- the skeletons of what isn't written from here on
abbrev pub rest_of : Resolving → List Skeleton
rest_of r = reverse (map skeleton_of r.omitted.items)
