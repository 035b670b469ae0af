use Rattle.std.proofs.Common.{◌≡◌, ◌∙◌, arith}
use Rattle.lf.specs.Eta.{append, eta_arguments}
use Rattle.lf.specs.Syntax.{skeleton}
use Rattle.tw_terms.specs.OpenView.{open_args_of, open_head_of, open_spine_of, open_term_of, open_type_of}
use Rattle.tw_terms.specs.declared.open_terms.Open.{Root}
use Rattle.tw_terms.specs.declared.open_terms.OpenSpine.{roll-OpenSpine}
use Rattle.tw_prune.proofs.Options.{if_ok}
use Rattle.tw_open.proofs.Expanding.{expanded_form, root_of}
use Rattle.tw_open.proofs.Steps.{steps}
use Rattle.tw_open.proofs.raising.expanded_function.Goals as goal

pub returns : goal.returns
returns c =
    let a = skeleton (open_type_of c.args.ty.now) in
    let n = c.in_ok-count.count in
    let T = open_spine_of c.in_ok-shifted.shifted in
    let U = open_args_of c.push_newest.new.args.items in
    let u : U ≡ append T (eta_arguments a) = grind (arith, steps) in
    let M = open_term_of (Root c.in_ok-head.head (roll-OpenSpine (record { args = c.push_newest.new.args }))) in
    if_ok c.lambdas_over.result _ _ (λ r e. e ∙ expanded_form a (open_head_of c.args.head) (open_head_of c.in_ok-head.head) n (open_spine_of c.args.spine.now) T U M c.in_ok-count.ensures c.in_ok-head.ensures c.in_ok-shifted.ensures u (root_of c.in_ok-head.head c.push_newest.new.args)) c.lambdas_over.ensures
