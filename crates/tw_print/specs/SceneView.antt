-- The scene of the program's values.
use Rattle.std.specs.Prelude.{◌∷◌, Option, Some, None}
use Rattle.std.specs.Borrow.{Bor}
use Rattle.std.specs.FinMap as map
use Rattle.tw_signature.specs.View.{entry_of}
use Rattle.tw_signature.specs.declared.entry.Entry.{Entry}
use Rattle.tw_print.specs.Names.{Scene}
use Rattle.tw_print.specs.declared.scene.Scene.{Scene as RustScene}

-- with an entry in front, and without the row of its name
abbrev pub with_newest : Scene → Option (Bor Entry) → Scene
with_newest s None = s
with_newest s (Some e) = record { entries = entry_of e.now ∷ s.entries; rows = map.remove s.rows e.now.name; names = s.names; implicit = s.implicit }

abbrev pub scene_before : RustScene → Scene
scene_before s = record { entries = s.signature.now; rows = s.fixities.now; names = s.names.now; implicit = s.implicit }

abbrev pub scene_in : RustScene → Scene
scene_in s = with_newest (scene_before s) s.newest
