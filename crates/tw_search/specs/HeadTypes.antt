-- The type of a head that is offered, a constant's or a local variable's, and its parts.
use Rattle.lf.specs.Syntax.{LfType, Spine, atom, pi}
use Rattle.tw_terms.specs.OpenView.{open_spine_of, open_type_of}
use Rattle.tw_terms.specs.View.{spine_of, type_of}
use Rattle.tw_search.specs.declared.head_type.HeadType.{HeadType}
use Rattle.tw_search.specs.declared.head_type.Arguments.{Arguments}
use Rattle.tw_search.specs.declared.head_type.Part.{Part}

abbrev pub head_type_of : HeadType → LfType
head_type_of (HeadType.Closed a) = type_of a.now
head_type_of (HeadType.Open a) = open_type_of a.now

abbrev pub arguments_of : Arguments → Spine
arguments_of (Arguments.Closed s) = spine_of s.now
arguments_of (Arguments.Open s) = open_spine_of s.now

abbrev pub part_of : Part → LfType
part_of (Part.Pi a b) = pi (head_type_of a) (head_type_of b)
part_of (Part.Atom c s) = atom c.0 (arguments_of s)
