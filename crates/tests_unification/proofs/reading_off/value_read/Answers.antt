use Rattle.std.proofs.Common.{sym}
use Rattle.tw_terms.specs.OpenView.{open_term_of}
use Rattle.tw_abstract.proofs.Standing.{value_stands}
use Rattle.tests_unification.proofs.reading_off.value_read.Goals as goal

pub read_term-requires-clause-stands : goal.read_term-requires-clause-stands
read_term-requires-clause-stands c = value_stands c.args.store.now.now c.requires.settled c.args.meta (open_term_of c.in-Some.value.now) (sym c.in-Some.ensures)
