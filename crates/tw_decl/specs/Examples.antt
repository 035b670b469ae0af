-- Worked texts that have to be accepted.
use Rattle.std.specs.Prelude.{[], ◌∷◌, codes}
use Rattle.lf.specs.Entries.{Entry, declare_constant, declare_family}
use Rattle.lf.specs.Syntax.{atom, nil, star}
use Rattle.tw_decl.specs.View.{View, IsSound, empty_view}
use Rattle.tw_decl.specs.Laws.{IsGood}

-- `o : type.` is one, where nothing is declared.
abbrev pub FamilyIsGood : Type 0
FamilyIsGood = IsGood empty_view (codes "o : type.")

abbrev pub o_entry : Entry
o_entry = record { name = codes "o"; body = declare_family star; implicit = 0; hints = [] }

abbrev pub c_entry : Entry
c_entry = record { name = codes "c"; body = declare_constant (atom 0 nil); implicit = 0; hints = [] }

-- the view behind `o : type.` and `c : o.`
abbrev pub with_constant : View
with_constant = record empty_view { signature = c_entry ∷ o_entry ∷ [] }

-- There `d = c.` is one, whose type isn't written.
abbrev pub DefinitionIsGood : Type 0
DefinitionIsGood = IsSound with_constant × IsGood with_constant (codes "d = c.")
