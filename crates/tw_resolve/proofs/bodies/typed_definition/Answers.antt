use Rattle.std.proofs.Common.{◌∙◌}
use Rattle.lf_elaboration.specs.Principal.{written_definition_of}
use Rattle.tw_parse.specs.View.{term_of}
use Rattle.tw_written.specs.View.{written_of, written_type_of as type_of}
use Rattle.tw_resolve.specs.Rest.{rest_of}
use Rattle.tw_resolve.specs.Resolving.{made, resolved_term, resolved_type}
use Rattle.tw_resolve.proofs.Answering.{both_given, second_missing, with_names}
use Rattle.tw_resolve.proofs.bodies.typed_definition.Goals as goal

pub returns-in_default-2 : goal.returns-in_default-2
returns-in_default-2 c =
    let es = c.args.signature.now in
    let free = c.args.resolving.now.free in
    let N = c.args.resolving.now.scope in
    let p = rest_of c.resolve_type.new.resolving in
    let q = rest_of c.resolve_term.new.resolving in
    let second = c.in_ok-term.ensures.read ∙ with_names (λ f n. resolved_term es f n (term_of c.args.term.now) p) c.resolve_type.new.resolving.free free c.resolve_type.new.resolving.scope N c.in_ok-ty.ensures.free c.in_ok-ty.ensures.scope in
    second_missing type_of written_of (made (λ U M. written_definition_of M U c.args.abbreviated)) (resolved_type es free N (term_of c.args.ty.now) (rest_of c.args.resolving.now)) (resolved_term es free N (term_of c.args.term.now)) c.in_ok-ty.field-0 c.in-Some.ty p c.in_ok-term.field-0 q c.in-Some.is c.in_ok-ty.ensures.read c.in_default-2.is second

pub returns : goal.returns
returns c =
    let es = c.args.signature.now in
    let free = c.args.resolving.now.free in
    let N = c.args.resolving.now.scope in
    let p = rest_of c.resolve_type.new.resolving in
    let q = rest_of c.resolve_term.new.resolving in
    let second = c.in_ok-term.ensures.read ∙ with_names (λ f n. resolved_term es f n (term_of c.args.term.now) p) c.resolve_type.new.resolving.free free c.resolve_type.new.resolving.scope N c.in_ok-ty.ensures.free c.in_ok-ty.ensures.scope in
    both_given type_of written_of (made (λ U M. written_definition_of M U c.args.abbreviated)) (resolved_type es free N (term_of c.args.ty.now) (rest_of c.args.resolving.now)) (resolved_term es free N (term_of c.args.term.now)) c.in_ok-ty.field-0 c.in-Some.ty p c.in_ok-term.field-0 c.in-Some-2.term q c.in-Some.is c.in_ok-ty.ensures.read c.in-Some-2.is second
