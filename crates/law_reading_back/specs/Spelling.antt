-- What external terms a sketch is written as, and what is asked of it.
use Rattle.std.specs.Prelude.{◌≡◌, zero}
use Rattle.lf.specs.Entries.{entry}
use Rattle.lf.specs.Syntax.{Head, constant, variable, metavariable}
use Rattle.std.specs.Prelude.{true}
use Rattle.tw_lexer.specs.declared.place.Place.{Place}
use Rattle.tw_parse.specs.Syntax as syntax
use Rattle.tw_print.specs.Names.{Scene, is_plain}
use Rattle.tw_print.specs.Arguments.{implicit_in}
use Rattle.law_reading_back.specs.Sketches.{Sketch, Sketches, applied, arrow, quantified, abstracted, kind, too_deep, untyped, none, more}

abbrev mutual
  -- the external term is that of the sketch, wherever its parts stand in a text
  pub Spells : Sketch → syntax.Term → Type 0
  Spells (applied h word fix xs) P = (at : Place) × SpellsArguments (syntax.identifier word at) xs P
  Spells (arrow m t u) P = (U : syntax.Term) × (V : syntax.Term) × Spells t U × Spells u V × (P ≡ syntax.arrow U V)
  Spells (quantified x t u) P = (at : Place) × (U : syntax.Term) × (V : syntax.Term) × Spells t U × Spells u V × (P ≡ syntax.pi x at (syntax.typed U) V)
  Spells (abstracted x t u) P = (at : Place) × (U : syntax.Term) × (M : syntax.Term) × Spells t U × Spells u M × (P ≡ syntax.lambda x at (syntax.typed U) M)
  Spells kind P = P ≡ syntax.star
  Spells too_deep P = ⊥
  Spells untyped P = ⊥

  -- the same of a term that is applied to the sketched ones, one after the other
  pub SpellsArguments : syntax.Term → Sketches → syntax.Term → Type 0
  SpellsArguments M none P = P ≡ M
  SpellsArguments M (more m t ts) P = (N : syntax.Term) × Spells t N × SpellsArguments (syntax.application M N) ts P

-- A constant's name is read as this constant: it is the newest of its name, and none of its arguments is hidden.
abbrev pub IsOpen : Scene → Head → Type 0
IsOpen s (constant c) = (is_plain s c ≡ true) × (implicit_in (entry s.entries c) ≡ zero)
IsOpen s (variable i) = Unit {0}
IsOpen s (metavariable m) = Unit {0}

abbrev mutual
  -- each constant that is shown is one of these
  pub IsUnhidden : Scene → Sketch → Type 0
  IsUnhidden s (applied h word fix xs) = IsOpen s h × AreUnhidden s xs
  IsUnhidden s (arrow m t u) = IsUnhidden s t × IsUnhidden s u
  IsUnhidden s (quantified x t u) = IsUnhidden s t × IsUnhidden s u
  IsUnhidden s (abstracted x t u) = IsUnhidden s t × IsUnhidden s u
  IsUnhidden s kind = Unit {0}
  IsUnhidden s too_deep = Unit {0}
  IsUnhidden s untyped = Unit {0}

  pub AreUnhidden : Scene → Sketches → Type 0
  AreUnhidden s none = Unit {0}
  AreUnhidden s (more m t ts) = IsUnhidden s t × AreUnhidden s ts
