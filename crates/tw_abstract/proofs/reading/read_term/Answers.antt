use Rattle.tw_terms.specs.OpenView.{open_term_of}
use Rattle.tw_terms.specs.View.{term_of}
use Rattle.tw_abstract.proofs.Contexts.{term_has_reading}
use Rattle.tw_abstract.proofs.Loops.{some_there, there_told}
use Rattle.tw_abstract.proofs.Standing.{term_fits}
use Rattle.tw_abstract.proofs.reading.read_term.Goals as goal

pub put_in-requires : goal.put_in-requires
put_in-requires c = term_fits c.args.store.now.now c.args.binders (open_term_of c.args.term.now) c.requires.stands

pub unwrap-requires : goal.unwrap-requires
unwrap-requires c =
    let (N, e) = term_has_reading c.args.store.now.now c.args.binders (open_term_of c.args.term.now) (open_term_of c.in_ok-put.put) c.args.quantifiers.now.positions c.args.quantifiers.now.context c.requires.stands c.requires.quantifiers c.in_ok-put.ensures.ok in
    some_there term_of c.in_ok-read.read _ N c.in_ok-read.ensures e

pub returns-clause-read : goal.returns-clause-read
returns-clause-read c = (open_term_of c.in_ok-put.put, c.in_ok-put.ensures.ok, there_told term_of c.in_ok-read.read _ c.unwrap.result c.in_ok-read.ensures c.unwrap.ensures)
