-- The text of an equation that is left.
use Rattle.std.specs.Prelude.{List, ℕ, map as each}
use Rattle.tw_equation.specs.Text.{equation_text}
use Rattle.tw_metas.specs.Named.{shown_type_of}
use Rattle.tw_metas.specs.View.{equation_of}
use Rattle.tw_metas.specs.declared.left.LeftEquation.{LeftEquation}
use Rattle.tw_decl.specs.View.{View, scene_of}

abbrev pub left_text : View → LeftEquation → List ℕ
left_text v left = equation_text (scene_of v) (each shown_type_of left.metas.items) left.names.items (equation_of left.equation)
