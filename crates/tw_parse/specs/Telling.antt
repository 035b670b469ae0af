-- What a part of a sequence says of its outline.
use Rattle.tw_parse.specs.Grammar.{atom}
use Rattle.tw_parse.specs.Outlines.{Outline, Node}
use Rattle.tw_parse.specs.Readings.{Means, IsItem, FirstFault, FaultWithin}
use Rattle.tw_parse.specs.View.{term_of}
use Rattle.tw_parse.specs.declared.parts.Part.{Part}
use Rattle.tw_parse.specs.declared.parts.Part.TheVariants.{Term, AtFault}

-- the part is what the outline means, or its first fault
abbrev pub Tells : Outline → Part → Type 0
Tells O (Term t) = Means O (term_of t)
Tells O (AtFault place) = FirstFault O place

abbrev pub TellsNode : Node → Part → Type 0
TellsNode n (Term t) = IsItem n (atom (term_of t))
TellsNode n (AtFault place) = FaultWithin n place
