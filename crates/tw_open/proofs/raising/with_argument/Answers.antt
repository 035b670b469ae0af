use Rattle.std.proofs.Common.{ap, sym, ◌∙◌}
use Rattle.lf.specs.Eta.{add_last}
use Rattle.tw_terms.specs.OpenView.{open_args_of, open_term_of}
use Rattle.tw_terms.proofs.OpenViews.{open_spine_of-args, open_spine_of-roll}
use Rattle.tw_open.proofs.Expanding.{push_last}
use Rattle.tw_open.proofs.raising.with_argument.Goals as goal

pub returns : goal.returns
returns c = open_spine_of-roll c.push.new.self ∙ ap open_args_of c.in_ok-push.ensures.items ∙ push_last c.args.spine.args.items c.args.arg ∙ ap (λ S. add_last S (open_term_of c.args.arg)) (sym (open_spine_of-args c.args.spine))
