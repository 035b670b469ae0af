use Rattle.tw_terms.specs.OpenView.{open_term_of}
use Rattle.tw_search.proofs.LeafReading.{value_stands}
use Rattle.tw_search.proofs.answer.read_value.Goals as goal

pub read_term-requires-clause-quantifiers : goal.read_term-requires-clause-quantifiers
read_term-requires-clause-quantifiers c = (c.requires.can.sites, c.requires.can.are_quantifiers)

pub read_term-requires-clause-stands : goal.read_term-requires-clause-stands
read_term-requires-clause-stands c = value_stands c.args.store.now.now c.args.variables c.requires.can.leaf c.args.meta.0 (open_term_of c.in-Some.value.now) c.in-Some.ensures
