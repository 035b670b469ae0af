use Rattle.std.proofs.Common.{ap, map, subst, sym, ◌∙◌}
use Rattle.std.specs.Option.{option_map}
use Rattle.lf.specs.Entries.{signature_of}
use Rattle.tw_print.proofs.Typed.{context_showable}
use Rattle.tw_signature.specs.Goal.{goal_of}
use Rattle.tw_terms.specs.View.{term_of}
use Rattle.tw_query.specs.Rows.{AreShowable, row_of}
use Rattle.tw_query.proofs.Values.{answer_fits, rows_shown}
use Rattle.tw_query.proofs.text.show_answer.Goals as goal

pub rows-requires : goal.rows-requires
rows-requires c = (signature_of c.args.env.now.sig.now, c.args.answer.now.free, answer_fits (signature_of c.args.env.now.sig.now) (goal_of c.args.goal.now) c.args.answer.now.free (map term_of c.args.answer.now.values.items) c.requires.answer.proof c.requires.context c.requires.goal c.requires.answer.is_answer)

pub free_names-requires-clause-context : goal.free_names-requires-clause-context
free_names-requires-clause-context c = context_showable (signature_of c.args.env.now.sig.now) c.args.answer.now.free c.requires.answer.is_answer.context

pub free_names-requires-clause-rows : goal.free_names-requires-clause-rows
free_names-requires-clause-rows c =
    subst (AreShowable (signature_of c.args.env.now.sig.now) c.args.answer.now.free) (sym (ap (map row_of) c.deref.ensures.value ∙ c.in_ok-rows.ensures))
    (rows_shown (signature_of c.args.env.now.sig.now) (goal_of c.args.goal.now) c.args.answer.now.free (map term_of c.args.answer.now.values.items) c.requires.answer.proof c.requires.context c.requires.goal c.requires.answer.is_answer (option_map term_of c.args.answer.now.proof) c.requires.answer.has_proof)

pub add_lines-requires-clause-context : goal.add_lines-requires-clause-context
add_lines-requires-clause-context c = context_showable (signature_of c.args.env.now.sig.now) c.args.answer.now.free c.requires.answer.is_answer.context

pub add_lines-requires-clause-rows : goal.add_lines-requires-clause-rows
add_lines-requires-clause-rows c =
    subst (AreShowable (signature_of c.args.env.now.sig.now) c.args.answer.now.free) (sym (ap (map row_of) c.deref-3.ensures.value ∙ c.in_ok-rows.ensures))
    (rows_shown (signature_of c.args.env.now.sig.now) (goal_of c.args.goal.now) c.args.answer.now.free (map term_of c.args.answer.now.values.items) c.requires.answer.proof c.requires.context c.requires.goal c.requires.answer.is_answer (option_map term_of c.args.answer.now.proof) c.requires.answer.has_proof)
