use Rattle.tw_terms.specs.OpenView.{open_type_of}
use Rattle.tw_terms.specs.View.{type_of}
use Rattle.tw_abstract.proofs.Contexts.{type_has_reading}
use Rattle.tw_abstract.proofs.Loops.{some_there, there_told}
use Rattle.tw_abstract.proofs.Standing.{type_fits}
use Rattle.tw_abstract.proofs.reading.read_type.Goals as goal

pub put_in_type-requires : goal.put_in_type-requires
put_in_type-requires c = type_fits c.args.store.now.now c.args.binders (open_type_of c.args.ty.now) c.requires.stands

pub unwrap-requires : goal.unwrap-requires
unwrap-requires c =
    let (B, e) = type_has_reading c.args.store.now.now c.args.binders (open_type_of c.args.ty.now) (open_type_of c.in_ok-put.put) c.args.quantifiers.now.positions c.args.quantifiers.now.context c.requires.stands c.requires.quantifiers c.in_ok-put.ensures.ok in
    some_there type_of c.in_ok-read.read _ B c.in_ok-read.ensures e

pub returns-clause-read : goal.returns-clause-read
returns-clause-read c = (open_type_of c.in_ok-put.put, c.in_ok-put.ensures.ok, there_told type_of c.in_ok-read.read _ c.unwrap.result c.in_ok-read.ensures c.unwrap.ensures)
