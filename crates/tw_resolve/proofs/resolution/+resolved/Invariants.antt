use Rattle.std.proofs.Common.{◌≡◌, ◌+◌, ◌*◌, Some, vec_len}
use Rattle.tw_parse.specs.Applied.{written_terms}
use Rattle.tw_parse.specs.View.{term_of}
use Rattle.lf_elaboration.specs.Written.{ascribed}
use Rattle.tw_resolve.specs.Resolving.{made, on_argument, of_kind, resolved_term, resolved_type, resolved_kind}
use Rattle.tw_resolve.specs.Rows.{read_on, rows_read}
use Rattle.tw_resolve.specs.Rest.{rest_of}
use Rattle.tw_written.specs.View.{written_of, written_type_of as type_of}
use Rattle.tw_resolve.proofs.resolution.+resolved.Given as goal

abbrev pub decreases-resolved_term : goal.decreases-resolved_term
decreases-resolved_term l = 10 * l.frames

abbrev pub decreases-resolved_type : goal.decreases-resolved_type
decreases-resolved_type l = 10 * l.frames

abbrev pub decreases-resolved_kind : goal.decreases-resolved_kind
decreases-resolved_kind l = 10 * l.frames

abbrev pub decreases-resolved_domain : goal.decreases-resolved_domain
decreases-resolved_domain l = 10 * l.frames + 1

abbrev pub decreases-function : goal.decreases-function
decreases-function l = 10 * l.frames + 2

abbrev pub decreases-application : goal.decreases-application
decreases-application l = 10 * l.frames + 2

abbrev pub decreases-ascribed_term : goal.decreases-ascribed_term
decreases-ascribed_term l = 10 * l.frames + 2

abbrev pub decreases-ascribed_type : goal.decreases-ascribed_type
decreases-ascribed_type l = 10 * l.frames + 2

abbrev pub decreases-quantifier : goal.decreases-quantifier
decreases-quantifier l = 10 * l.frames + 2

abbrev pub decreases-applied_family : goal.decreases-applied_family
decreases-applied_family l = 10 * l.frames + 2

abbrev pub decreases-kind_quantifier : goal.decreases-kind_quantifier
decreases-kind_quantifier l = 10 * l.frames + 2

-- the rows that wait, and the term that is next
abbrev pub invariant-application-loop : goal.invariant-application-loop
invariant-application-loop l =
    (rows_read l.signature l.fn.resolving.free l.fn.resolving.scope l.waiting.items (resolved_term l.signature l.fn.resolving.free l.fn.resolving.scope (term_of l.next) (rest_of l.resolving)) ≡ resolved_term l.signature l.fn.resolving.free l.fn.resolving.scope (term_of l.fn.term) (rest_of l.fn.resolving))
    × (l.resolving.scope ≡ l.fn.resolving.scope) × (l.resolving.free ≡ l.fn.resolving.free)

-- the term so far, and the types that are left
abbrev pub invariant-ascribed_term-loop-ty : goal.invariant-ascribed_term-loop-ty
invariant-ascribed_term-loop-ty l =
    (read_on (made ascribed) (resolved_type l.signature l.fn.resolving.free l.fn.resolving.scope) (written_terms l.types.items) (Some (written_of l.found, rest_of l.resolving)) ≡ resolved_term l.signature l.fn.resolving.free l.fn.resolving.scope (term_of l.fn.term) (rest_of l.fn.resolving))
    × (l.resolving.scope ≡ l.fn.resolving.scope) × (l.resolving.free ≡ l.fn.resolving.free)

abbrev pub decreases-ascribed_term-loop-ty : goal.decreases-ascribed_term-loop-ty
decreases-ascribed_term-loop-ty l = vec_len l.types

-- the type so far, and the kinds that are left
abbrev pub invariant-ascribed_type-loop-kind : goal.invariant-ascribed_type-loop-kind
invariant-ascribed_type-loop-kind l =
    (read_on of_kind (resolved_kind l.signature l.fn.resolving.free l.fn.resolving.scope) (written_terms l.kinds.items) (Some (type_of l.family, rest_of l.resolving)) ≡ resolved_type l.signature l.fn.resolving.free l.fn.resolving.scope (term_of l.fn.term) (rest_of l.fn.resolving))
    × (l.resolving.scope ≡ l.fn.resolving.scope) × (l.resolving.free ≡ l.fn.resolving.free)

abbrev pub decreases-ascribed_type-loop-kind : goal.decreases-ascribed_type-loop-kind
decreases-ascribed_type-loop-kind l = vec_len l.kinds

abbrev pub invariant-applied_family-loop-argument : goal.invariant-applied_family-loop-argument
invariant-applied_family-loop-argument l =
    (read_on on_argument (resolved_term l.signature l.fn.resolving.free l.fn.resolving.scope) (written_terms l.arguments.items) (Some (type_of l.family, rest_of l.resolving)) ≡ resolved_type l.signature l.fn.resolving.free l.fn.resolving.scope (term_of l.fn.term) (rest_of l.fn.resolving))
    × (l.resolving.scope ≡ l.fn.resolving.scope) × (l.resolving.free ≡ l.fn.resolving.free)

abbrev pub decreases-applied_family-loop-argument : goal.decreases-applied_family-loop-argument
decreases-applied_family-loop-argument l = vec_len l.arguments
