use Rattle.std.proofs.Common.{◌≡◌, ◌-◌, ◌∙◌, Some, length, sym, ap, arith}
use Rattle.std.specs.Prelude.{slice_get}
use Rattle.tw_terms.specs.View.{type_of}
use Rattle.tw_terms.proofs.Args.{types}
use Rattle.tw_clause.specs.View.{block_of}
use Rattle.tw_clause.proofs.Entries.{entry_found}
use Rattle.tw_clause.proofs.reading.clause_of_entry.Goals as goal

pub returns-clause-parts : goal.returns-clause-parts
returns-clause-parts c =
    let es = c.args.block.now.entries in
    let first = c.requires.first in
    let last = c.requires.last in
    let there : slice_get es (length es - c.args.entry) ≡ Some (type_of c.in-Some.ty.now) = grind (arith, types) in
    entry_found (block_of c.args.block.now) es c.args.entry (length es - c.args.entry) (type_of c.in-Some.ty.now) first (omega (arith, last)) there ∙ ap Some (sym c.in_ok-clause-in-Some.ensures.parts)
