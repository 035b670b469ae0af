use Rattle.std.proofs.Common.{map}
use Rattle.tw_terms.specs.View.{term_of, type_of}
use Rattle.tw_reorder.proofs.Steps.{noted_in_turn}
use Rattle.tw_reorder.proofs.reordering.noted.Goals as goal

pub returns : goal.returns
returns c =
    noted_in_turn (type_of c.args.ty.now) (term_of c.args.term.now) (map term_of c.args.others.now) c.new-found.result c.note_type.new.found c.note_term.new.found c.note_terms.new.found c.new-found.ensures c.in_ok-note_type.ensures c.in_ok-note_term.ensures
    c.in_ok-note_terms.ensures
