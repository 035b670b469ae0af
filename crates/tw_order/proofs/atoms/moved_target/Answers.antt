use Rattle.std.proofs.Common.{◌∙◌, ap, sym}
use Rattle.lf.specs.AtOnce.{shift_by}
use Rattle.lf.specs.Entries.{quantifiers}
use Rattle.lf.specs.Syntax.{atom, rename_spine, rename_type}
use Rattle.lf.specs.Variables.{target, target_arguments}
use Rattle.tw_terms.specs.View.{type_of}
use Rattle.tw_order.proofs.Arguments.{past_shift}
use Rattle.tw_order.proofs.Deciding.{on_value}
use Rattle.tw_order.proofs.atoms.moved_target.Goals as goal

pub returns : goal.returns
returns c =
    let T = type_of c.args.clause.now in
    let A = type_of c.args.goal.now in
    on_value c.weaken.result _ _ (λ a e. e ∙ ap (λ n. rename_type (shift_by n) (type_of c.target_atom.result.now)) c.in_ok-count_quantifiers.ensures ∙ ap (rename_type (shift_by (quantifiers A))) c.target_atom.ensures ∙ ap (λ ρ. atom (target T) (rename_spine ρ (target_arguments T))) (sym (past_shift A))) c.weaken.ensures
