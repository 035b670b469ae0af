use Rattle.std.proofs.Common.{◌≡◌, ◌↔◌, ◌∙◌, ◌<◌, ℕ, Some, None, true, option_map, ap, sym, subst}
use Rattle.lf.specs.Variables.{nothing}
use Rattle.lf_checks.specs.Strict.{strict_type}
use Rattle.lf_checks.specs.Worlded.{IsStrictBlock}
use Rattle.tw_clause.specs.View.{block_of}
use Rattle.tw_terms.specs.View.{type_of}
use Rattle.tw_world.specs.Instances.{as_type}
use Rattle.tw_world.proofs.Joining.{strict_block, strict_empty, take_whole}
use Rattle.tw_clause.proofs.Patterns.{on_value}
use Rattle.tw_world.proofs.blocks.is_strict_block.Goals as goal

pub returns-in-Some : goal.returns-in-Some
returns-in-Some c =
    let B = block_of c.args.block.now in
    let P = type_of c.in-Some.pattern in
    let p : as_type B.entries ≡ Some P = ap as_type (sym (take_whole B.entries c.len.result c.len.ensures)) ∙ sym c.in_ok-pattern.ensures ∙ ap (option_map type_of) c.in-Some.is in
    let s = subst (λ n. ((x : ℕ) → x < n → strict_type nothing nothing x P ≡ true) ↔ IsStrictBlock B) (sym c.len-in-Some.ensures) (strict_block B P p) in
    on_value c.are_strict.result _ _ (λ b q. (λ w. s.0 (q.0 w), λ w. q.1 (s.1 w))) c.are_strict.ensures

pub returns-in-None : goal.returns-in-None
returns-in-None c =
    let B = block_of c.args.block.now in
    let p : None ≡ as_type B.entries = sym (ap as_type (sym (take_whole B.entries c.len.result c.len.ensures)) ∙ sym c.in_ok-pattern.ensures ∙ ap (option_map type_of) c.in-None.is) in
    let s = strict_empty B p in
    let q = c.is_empty.ensures in
    (λ w. s.0 (q.0 w), λ w. q.1 (s.1 w))
