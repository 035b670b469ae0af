use Rattle.std.proofs.Common.{◌≡◌, ◌∙◌, Some, option_map, length, drop, take, ap, sym, subst}
use Rattle.lf.specs.Entries.{signature_of}
use Rattle.lf.specs.Typing.{IsType}
use Rattle.lf.proofs.Entries.{canonical_is_signature}
use Rattle.lf_unification.specs.Offering.{pi_over}
use Rattle.tw_clause.specs.View.{block_of}
use Rattle.tw_terms.specs.View.{type_of}
use Rattle.tw_world.specs.Instances.{as_type}
use Rattle.tw_world.proofs.Joining.{block_anywhere, instance_settled, length_taken, take_whole}
use Rattle.tw_clause.proofs.Patterns.{on_value}
use Rattle.tw_world.proofs.blocks.is_instance.Goals as goal

pub settle-requires-clause-rest : goal.settle-requires-clause-rest
settle-requires-clause-rest c =
    let Σ = signature_of c.args.sig.now in
    let B = block_of c.args.block.now in
    let p : as_type B.entries ≡ Some (type_of c.in-Some.pattern) = ap as_type (sym (take_whole B.entries c.len-size.result c.len-size.ensures)) ∙ sym c.in_ok-pattern.ensures ∙ ap (option_map type_of) c.in-Some.is in
    let e : type_of c.in_ok-closed.closed ≡ pi_over B.some (type_of c.in-Some.pattern) = c.in_ok-closed.ensures ∙ ap (λ X. pi_over X (type_of c.in_ok-copy.field-0)) (take_whole B.some c.len-count.result c.len-count.ensures) ∙ ap (pi_over B.some) c.in_ok-copy.ensures in
    subst (IsType Σ c.args.outer.now) (sym e) (block_anywhere Σ (canonical_is_signature c.args.sig.now c.is_canonical.ensures) B c.requires.block c.requires.strict c.args.outer.now (type_of c.in-Some.pattern) p)

pub returns-clause-decided : goal.returns-clause-decided
returns-clause-decided c =
    let Σ = signature_of c.args.sig.now in
    let B = block_of c.args.block.now in
    let xs = take (length B.entries) (drop c.args.newest c.args.local.now) in
    let p : as_type B.entries ≡ Some (type_of c.in-Some.pattern) = ap as_type (sym (take_whole B.entries c.len-size.result c.len-size.ensures)) ∙ sym c.in_ok-pattern.ensures ∙ ap (option_map type_of) c.in-Some.is in
    let q : as_type xs ≡ Some (type_of c.in-Some-2.instance) = ap (λ n. as_type (take n (drop c.args.newest c.args.local.now))) (sym c.len-size.ensures) ∙ sym c.in_ok-instance.ensures ∙ ap (option_map type_of) c.in-Some-2.is in
    let e : type_of c.in_ok-closed.closed ≡ pi_over B.some (type_of c.in-Some.pattern) = c.in_ok-closed.ensures ∙ ap (λ X. pi_over X (type_of c.in_ok-copy.field-0)) (take_whole B.some c.len-count.result c.len-count.ensures) ∙ ap (pi_over B.some) c.in_ok-copy.ensures in
    on_value c.settle.result _ _ (λ b s. instance_settled Σ (canonical_is_signature c.args.sig.now c.is_canonical.ensures) B c.requires.block c.requires.strict c.args.outer.now xs (type_of c.in-Some.pattern) (type_of c.in-Some-2.instance) (type_of c.in_ok-closed.closed) c.len-count.result b p q (length_taken (length B.entries) (drop c.args.newest c.args.local.now) c.requires.within) e c.len-count.ensures s) c.settle.ensures.settled
