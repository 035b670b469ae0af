use Rattle.tw_written.specs.View.{written_of, written_type_of}
use Rattle.tw_elaborate.proofs.Nesting.{no_term_within, no_type_within}
use Rattle.tw_elaborate.proofs.plain.+nesting.Goals as goal

pub term_nests_within-returns-in_default : goal.term_nests_within-returns-in_default
term_nests_within-returns-in_default t c = no_term_within c.args.levels (written_of c.args.term.now) c.in_default.ensures

pub type_nests_within-returns-in_default : goal.type_nests_within-returns-in_default
type_nests_within-returns-in_default t c = no_type_within c.args.levels (written_type_of c.args.ty.now) c.in_default.ensures
