-- The scene of a call.
use Rattle.tw_print.specs.Names.{Scene}
use Rattle.tw_print.specs.declared.show.ShowEnv.{ShowEnv}

abbrev pub scene_of : ShowEnv → Scene
scene_of e = record { entries = e.sig.now; rows = e.fixities.now; names = e.names.now; implicit = e.implicit }
