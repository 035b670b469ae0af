-- The blocks that types of entries stand for.
use Rattle.std.specs.Prelude.{List, [], map}
use Rattle.lf.specs.Subordination.{Block}
use Rattle.tw_terms.specs.View.{type_of}
use Rattle.tw_subord.specs.declared.subord.BlockTypes.{BlockTypes}

-- a block with these entries; its label and its `some` variables matter to no family
abbrev pub block_of_types : BlockTypes → Block
block_of_types b = record { label = []; some = []; entries = map type_of b.types.items }

abbrev pub worlds_of_types : List BlockTypes → List Block
worlds_of_types bs = map block_of_types bs
