use Rattle.tw_terms.specs.View.{term_of}
use Rattle.tw_signature.proofs.Marking.{on_ok}
use Rattle.tw_mode.proofs.Mentioning.{chosen_one, not_chosen}
use Rattle.tw_mode.proofs.mentions.mark_if.Goals as goal

pub returns-then-chosen : goal.returns-then-chosen
returns-then-chosen c = on_ok c.mark_term.result _ _ (chosen_one c.args.depth c.args.chosen (term_of c.args.term.now) c.args.marks.now c.mark_term.new.marks c.if-chosen.true) c.mark_term.ensures

pub returns-else-chosen : goal.returns-else-chosen
returns-else-chosen c = not_chosen c.args.depth c.args.chosen (term_of c.args.term.now) c.args.marks.now c.if-chosen.false
