use Rattle.tw_mode.specs.Scopes.{bound_in, fixed_in}
use Rattle.tw_terms.specs.View.{term_of}
use Rattle.tw_signature.proofs.Marking.{on_ok}
use Rattle.tw_mode.proofs.Strictness.{chosen_one, not_chosen}
use Rattle.tw_mode.proofs.places.mark_strict_if.Goals as goal

pub returns-then-chosen : goal.returns-then-chosen
returns-then-chosen c =
    let s = c.args.scope.now in
    on_ok c.mark_strict.result _ _ (chosen_one (bound_in s) (fixed_in s) s.depth c.args.chosen (term_of c.args.term.now) c.args.marks.now c.mark_strict.new.marks c.if-chosen.true) c.mark_strict.ensures

pub returns-else-chosen : goal.returns-else-chosen
returns-else-chosen c =
    let s = c.args.scope.now in
    not_chosen (bound_in s) (fixed_in s) s.depth c.args.chosen (term_of c.args.term.now) c.args.marks.now c.if-chosen.false
