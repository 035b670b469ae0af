use Rattle.std.proofs.Common.{◌∙◌, ◌-◌, None, Some, option_map, subst, sym, ap, arith}
use Rattle.lf.specs.Entries.{signature_of}
use Rattle.lf.proofs.Entries.{canonical_is_signature}
use Rattle.tw_terms.specs.View.{term_of, type_of}
use Rattle.tw_world.specs.Instances.{Takes}
use Rattle.tw_world.proofs.Instances.{settled_done, settled_next, settled_none, settled_refused, taken_is_type}
use Rattle.tw_clause.proofs.Patterns.{on_value}
use Rattle.tw_world.proofs.matching.+settle.Goals as goal

pub returns-then-left-eq0-clause-settled : goal.returns-then-left-eq0-clause-settled
returns-then-left-eq0-clause-settled t c = settled_done (signature_of c.args.sig.now) (canonical_is_signature c.args.sig.now c.is_canonical.ensures) c.args.outer.now (type_of c.args.pattern.now) (type_of c.args.instance.now) c.args.left (type_of c.args.rest.now) c.same.result c.if-left-eq0.true c.same.ensures

pub returns-in_default-clause-settled : goal.returns-in_default-clause-settled
returns-in_default-clause-settled t c = settled_none (signature_of c.args.sig.now) (canonical_is_signature c.args.sig.now c.is_canonical.ensures) c.args.outer.now (type_of c.args.pattern.now) (type_of c.args.instance.now) c.args.left (c.args.left - 1) (type_of c.args.rest.now) (omega arith) (sym c.in_ok-value.ensures ∙ ap (option_map term_of) c.in_default.is)

pub settle-requires : goal.settle-requires
settle-requires t c =
    let Σ = signature_of c.args.sig.now in
    let V = term_of c.in-Some.value in
    let k : Takes Σ c.args.outer.now (type_of c.args.rest.now) V (Some (type_of c.in-Some-2.next)) = subst (λ r. Takes Σ c.args.outer.now (type_of c.args.rest.now) V (option_map type_of r)) c.in-Some-2.is c.in_ok-next.ensures.takes in
    (omega arith, (c.requires.context, taken_is_type Σ (canonical_is_signature c.args.sig.now c.is_canonical.ensures) c.args.outer.now (type_of c.args.rest.now) V (type_of c.in-Some-2.next) c.requires.context c.requires.rest k))

pub returns-in-Some-2-clause-settled : goal.returns-in-Some-2-clause-settled
returns-in-Some-2-clause-settled t c =
    let Σ = signature_of c.args.sig.now in
    let V = term_of c.in-Some.value in
    let v = sym c.in_ok-value.ensures ∙ ap (option_map term_of) c.in-Some.is in
    let k : Takes Σ c.args.outer.now (type_of c.args.rest.now) V (Some (type_of c.in-Some-2.next)) = subst (λ r. Takes Σ c.args.outer.now (type_of c.args.rest.now) V (option_map type_of r)) c.in-Some-2.is c.in_ok-next.ensures.takes in
    on_value c.settle.result _ _ (λ b s. settled_next Σ (canonical_is_signature c.args.sig.now c.is_canonical.ensures) c.args.outer.now (type_of c.args.pattern.now) (type_of c.args.instance.now) c.args.left (c.args.left - 1) (type_of c.args.rest.now) V (type_of c.in-Some-2.next) b (omega arith) v k s) c.settle.ensures.settled

pub returns-clause-settled : goal.returns-clause-settled
returns-clause-settled t c =
    let Σ = signature_of c.args.sig.now in
    let V = term_of c.in-Some.value in
    let v = sym c.in_ok-value.ensures ∙ ap (option_map term_of) c.in-Some.is in
    let k : Takes Σ c.args.outer.now (type_of c.args.rest.now) V None = subst (λ r. Takes Σ c.args.outer.now (type_of c.args.rest.now) V (option_map type_of r)) c.in-None.is c.in_ok-next.ensures.takes in
    settled_refused Σ (canonical_is_signature c.args.sig.now c.is_canonical.ensures) c.args.outer.now (type_of c.args.pattern.now) (type_of c.args.instance.now) c.args.left (c.args.left - 1) (type_of c.args.rest.now) V (omega arith) v k
