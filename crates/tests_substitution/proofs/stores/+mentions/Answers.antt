use Rattle.std.proofs.Common.{◌≡◌, None, sym, ap, ◌∙◌, arith}
use Rattle.std.specs.Option.{option_map}
use Rattle.lf.specs.Syntax.{metavariable, root}
use Rattle.tw_metas.specs.State.{value_of}
use Rattle.tw_terms.specs.OpenView.{open_spine_of, open_term_of}
use Rattle.tw_putting.proofs.Environments.{environments}
use Rattle.tests_substitution.proofs.Bindings.{at_other}
use Rattle.tests_substitution.proofs.stores.+mentions.Goals as goal

pub mentions_others-returns-in-None : goal.mentions_others-returns-in-None
mentions_others-returns-in-None t c =
    let s = c.args.store.now.now in
    let other = c.in-Root-Meta-default.other in
    let spine = c.in-Root-Meta-default.spine in
    let m : open_term_of c.args.term.now ≡ root (metavariable other.0) (open_spine_of spine) = grind (arith, environments) in
    let v : value_of s other.0 ≡ None = sym c.value.ensures ∙ ap (λ o. option_map (λ x. open_term_of x.now) o) c.in-None.is in
    let d : other.0 ≡ c.args.meta.0 → ⊥ = grind (arith, environments) in
    λ x. at_other s c.args.meta.0 other.0 (open_term_of c.args.term.now) (open_spine_of spine) m d v (c.spine_mentions_others.ensures x)
