-- The plain entry that an entry of the program stands for.
use Rattle.std.specs.Prelude.{List, map, reverse}
use Rattle.lf.specs.Entries as lf
use Rattle.tw_terms.specs.View.{term_of, type_of, kind_of}
use Rattle.tw_signature.specs.declared.entry.Body.{Body}
use Rattle.tw_signature.specs.declared.entry.Body.TheVariants.{Family, Constant, Defined}
use Rattle.tw_signature.specs.declared.entry.Entry.{Entry}

abbrev pub body_of : Body → lf.Body
body_of (Family k) = lf.declare_family (kind_of k)
body_of (Constant a) = lf.declare_constant (type_of a)
body_of (Defined m a b) = lf.declare_definition (term_of m) (type_of a) b

abbrev pub entry_of : Entry → lf.Entry
entry_of e = record { name = e.name; body = body_of e.body; implicit = e.implicit; hints = e.hints.items }

-- the entries, the newest first, of a list that has the oldest first
abbrev pub entries_of : List Entry → List lf.Entry
entries_of es = reverse (map entry_of es)
