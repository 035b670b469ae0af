use Rattle.std.proofs.Common.{◌≡◌, ◌+◌, ◌-◌, ◌++◌, ◌∷◌, [], ◌∙◌, ap, sym, arith}
use Rattle.lf.specs.Eta.{append, arity, eta_arguments}
use Rattle.lf.specs.Syntax.{arrow, root, skeleton, variable}
use Rattle.tw_terms.specs.OpenView.{open_args_of, open_term_of, open_type_of}
use Rattle.tw_terms.specs.declared.open_terms.Open.{Root}
use Rattle.tw_terms.specs.declared.open_terms.OpenHead.TheVariants.{Var}
use Rattle.tw_terms.specs.declared.open_terms.OpenSpine.{roll-OpenSpine}
use Rattle.lf_unification.specs.Patterns.{eta_variable}
use Rattle.tw_prune.proofs.Options.{if_ok}
use Rattle.tw_prune.proofs.Walking.{eta_parts, expanding, next_newest, root_of}
use Rattle.tw_prune.proofs.expand.+eta.Goals as goal

pub expand_variable-returns : goal.expand_variable-returns
expand_variable-returns t c =
    let s : open_args_of c.push_newest.new.args.items ≡ eta_arguments (skeleton (open_type_of c.args.ty.now)) = grind (arith, expanding) in
    let m : open_term_of (Root (Var c.in_ok-moved.field-0) (roll-OpenSpine (record { args = c.push_newest.new.args }))) ≡ root (variable (c.args.variable + c.in_ok-count.count)) (open_args_of c.push_newest.new.args.items) = root_of c.in_ok-moved.field-0 c.push_newest.new.args ∙ ap (λ v. root (variable v) (open_args_of c.push_newest.new.args.items)) c.in_ok-moved.ensures in
    if_ok c.lambdas_over.result _ _ (λ r e. e ∙ eta_parts (skeleton (open_type_of c.args.ty.now)) c.args.variable c.in_ok-count.count (open_args_of c.push_newest.new.args.items) (open_term_of (Root (Var c.in_ok-moved.field-0) (roll-OpenSpine (record { args = c.push_newest.new.args })))) c.in_ok-count.ensures s m) c.lambdas_over.ensures

pub push_newest-returns-in_ok-push-in-Pi : goal.push_newest-returns-in_ok-push-in-Pi
push_newest-returns-in_ok-push-in-Pi t c =
    let k : skeleton (open_type_of c.args.ty.now) ≡ arrow (skeleton (open_type_of c.in-Pi.domain.value)) (skeleton (open_type_of c.in-Pi.range.value)) = grind (arith, expanding) in
    let n : c.args.count ≡ arity (arrow (skeleton (open_type_of c.in-Pi.domain.value)) (skeleton (open_type_of c.in-Pi.range.value))) = c.requires ∙ ap arity k in
    let f : open_term_of c.in_ok-expand_variable-in-Pi.field-0 ≡ eta_variable (skeleton (open_type_of c.in-Pi.domain.value)) (c.args.count - 1) = grind (arith, expanding) in
    if_ok c.push_newest.result _ _ (λ x e.
    let g : open_args_of c.push_newest.new.args.items ≡ append (open_args_of (c.args.args.now.items ++ c.in_ok-expand_variable-in-Pi.field-0 ∷ [])) (eta_arguments (skeleton (open_type_of c.in-Pi.range.value))) = grind (arith, expanding, e) in
    next_newest (skeleton (open_type_of c.in-Pi.domain.value)) (skeleton (open_type_of c.in-Pi.range.value)) c.args.count c.args.args.now.items c.in_ok-expand_variable-in-Pi.field-0 c.push_newest.new.args.items n f g ∙ ap (λ u. append (open_args_of c.args.args.now.items) (eta_arguments u)) (sym k)) c.push_newest.ensures
