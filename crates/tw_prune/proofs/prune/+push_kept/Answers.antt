use Rattle.std.proofs.Common.{◌≡◌, ◌-◌, ◌++◌, ◌∷◌, [], ◌∙◌, ap, sym, arith}
use Rattle.lf.specs.Eta.{append, arity}
use Rattle.lf.specs.Syntax.{pi, skeleton}
use Rattle.tw_terms.specs.OpenView.{open_args_of, open_term_of, open_type_of}
use Rattle.lf_unification.specs.Patterns.{eta_variable}
use Rattle.tw_prune.specs.Kept.{kept_arguments}
use Rattle.tw_prune.proofs.Options.{if_ok}
use Rattle.tw_prune.proofs.Walking.{expanding, next_kept}
use Rattle.tw_prune.proofs.prune.+push_kept.Goals as goal

pub returns-in_ok-push-in-Pi : goal.returns-in_ok-push-in-Pi
returns-in_ok-push-in-Pi t c =
    let k : open_type_of c.args.ty.now ≡ pi (open_type_of c.in-Pi.domain.value) (open_type_of c.in-Pi.range.value) = grind (arith, expanding) in
    let n : c.args.count ≡ arity (skeleton (pi (open_type_of c.in-Pi.domain.value) (open_type_of c.in-Pi.range.value))) = c.requires ∙ ap (λ X. arity (skeleton X)) k in
    let f : open_term_of c.in_ok-expand_variable-in-Pi.field-0 ≡ eta_variable (skeleton (open_type_of c.in-Pi.domain.value)) (c.args.count - 1) = grind (arith, expanding) in
    if_ok c.push_kept.result _ _ (λ x e.
    let g : open_args_of c.push_kept.new.args.items ≡ append (open_args_of (c.args.args.now.items ++ c.in_ok-expand_variable-in-Pi.field-0 ∷ [])) (kept_arguments (c.args.place - 1) (open_type_of c.in-Pi.range.value)) = grind (arith, expanding, e) in
    next_kept (open_type_of c.in-Pi.domain.value) (open_type_of c.in-Pi.range.value) c.args.count c.args.place c.args.args.now.items c.in_ok-expand_variable-in-Pi.field-0 c.push_kept.new.args.items n (λ z. omega arith) f g ∙ ap (λ X. append (open_args_of c.args.args.now.items) (kept_arguments c.args.place X)) (sym k)) c.push_kept.ensures
