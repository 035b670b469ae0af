-- The marks of a declared constant, as a signature keeps them: which quantifiers of its type are variables.
use Rattle.std.specs.Prelude.{◌≡◌, List, [], Bool, map, Vec}
use Rattle.std.specs.Global.{Global}
use Rattle.lf.specs.Entries.{Body, declare_family, declare_constant, declare_definition}
use Rattle.lf_checks.specs.Parts.{shape}
use Rattle.tw_signature.specs.View.{body_of}
use Rattle.tw_signature.specs.declared.entry.Entry.{Entry}

abbrev pub marks_of : Body → List Bool
marks_of (declare_family K) = []
marks_of (declare_constant A) = shape A
marks_of (declare_definition M A d) = []

-- for each entry, the oldest first, its marks
abbrev pub MarksAreKept : List (Vec Bool Global) → List Entry → Type 0
MarksAreKept marks entries = map (λ m. m.items) marks ≡ map (λ e. marks_of (body_of e.body)) entries
