-- What the values of the program stand for.
use Rattle.std.specs.Prelude.{ℕ}
use Rattle.lf.specs.Syntax.{LfType}
use Rattle.tw_terms.specs.View.{type_of}
use Rattle.tw_terms.specs.declared.canonical.MetaId.{MetaId}
use Rattle.tw_terms.specs.declared.canonical.Ty.{Ty}
use Rattle.tw_equation.specs.Text as text
use Rattle.tw_equation.specs.declared.laid.Laid.{Laid}

abbrev pub laid_of : Laid → text.Laid
laid_of l = record { order = l.positions; context = l.context }

abbrev pub placed_of : MetaId × Ty → ℕ × LfType
placed_of m = (m.0.0, type_of m.1)
