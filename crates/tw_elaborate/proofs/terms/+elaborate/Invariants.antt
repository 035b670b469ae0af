use Rattle.std.proofs.Common.{◌+◌, ◌*◌, map, vec_len}
use Rattle.tw_elaborate.specs.FamilyRows.{FamilyReached}
use Rattle.tw_elaborate.specs.Fresh.{Keeps}
use Rattle.tw_elaborate.specs.Operators.{written_terms}
use Rattle.tw_elaborate.specs.View.{made, numbers_of}
use Rattle.tw_open.specs.View.{open_kind_of}
use Rattle.tw_terms.specs.OpenView.{open_spine_of, open_term_of, open_type_of}
use Rattle.tw_written.specs.View.{written_kind_of, written_of, written_type_of}
use Rattle.tw_elaborate.proofs.Arrows.{DomainsOf, KindDomainsOf}
use Rattle.tw_elaborate.proofs.Ascriptions.{Found, Under}
use Rattle.tw_elaborate.proofs.FamilyAscriptions.{FamilyFound, UnderKinds}
use Rattle.tw_elaborate.proofs.Rows.{RowsOf}
use Rattle.tw_elaborate.proofs.terms.+elaborate.Given as goal

-- an arm that is a function of its own comes between two counts of the frames
abbrev pub decreases-infer : goal.decreases-infer
decreases-infer l = 4 * l.frames

abbrev pub decreases-infer_ascribed : goal.decreases-infer_ascribed
decreases-infer_ascribed l = 4 * l.frames + 2

abbrev pub decreases-infer_function : goal.decreases-infer_function
decreases-infer_function l = 4 * l.frames + 2

abbrev pub decreases-infer_applied : goal.decreases-infer_applied
decreases-infer_applied l = 4 * l.frames + 3

abbrev pub decreases-begin : goal.decreases-begin
decreases-begin l = 4 * l.frames + 2

abbrev pub decreases-elaborate_operator : goal.decreases-elaborate_operator
decreases-elaborate_operator l = 4 * l.frames + 1

abbrev pub decreases-check : goal.decreases-check
decreases-check l = 4 * l.frames

abbrev pub decreases-check_function : goal.decreases-check_function
decreases-check_function l = 4 * l.frames + 3

abbrev pub decreases-check_domain : goal.decreases-check_domain
decreases-check_domain l = 4 * l.frames + 2

abbrev pub decreases-lambda_domain : goal.decreases-lambda_domain
decreases-lambda_domain l = 4 * l.frames + 1

abbrev pub decreases-elaborate_type : goal.decreases-elaborate_type
decreases-elaborate_type l = 4 * l.frames + 1

abbrev pub decreases-elaborate_bare_type : goal.decreases-elaborate_bare_type
decreases-elaborate_bare_type l = 4 * l.frames

abbrev pub decreases-elaborate_quantified : goal.decreases-elaborate_quantified
decreases-elaborate_quantified l = 4 * l.frames + 2

abbrev pub decreases-elaborate_domain : goal.decreases-elaborate_domain
decreases-elaborate_domain l = 4 * l.frames

abbrev pub decreases-elaborate_family : goal.decreases-elaborate_family
decreases-elaborate_family l = 4 * l.frames

abbrev pub decreases-elaborate_family_head : goal.decreases-elaborate_family_head
decreases-elaborate_family_head l = 4 * l.frames + 2

abbrev pub decreases-elaborate_ascribed_family : goal.decreases-elaborate_ascribed_family
decreases-elaborate_ascribed_family l = 4 * l.frames + 1

abbrev pub decreases-elaborate_kind : goal.decreases-elaborate_kind
decreases-elaborate_kind l = 4 * l.frames

abbrev pub decreases-elaborate_arrows : goal.decreases-elaborate_arrows
decreases-elaborate_arrows l = 4 * l.frames + 2

abbrev pub decreases-elaborate_kind_arrows : goal.decreases-elaborate_kind_arrows
decreases-elaborate_kind_arrows l = 4 * l.frames + 2

-- the rows that wait, and the arguments that are left of the one that is begun
abbrev pub invariant-infer_applied-loop : goal.invariant-infer_applied-loop
invariant-infer_applied-loop l = RowsOf l.signature (numbers_of l.frees) l.fn.state.locals l.waiting l.begun l.fn.state l.state (written_of l.fn.written)

-- the domains so far, and what is left of the chain
abbrev pub invariant-elaborate_arrows-loop-rest : goal.invariant-elaborate_arrows-loop-rest
invariant-elaborate_arrows-loop-rest l = DomainsOf l.signature (numbers_of l.frees) l.fn.state.locals (written_type_of l.fn.written) (made l.fn.state) (written_type_of l.rest) (made l.state) (map open_type_of l.domains.items) × Keeps l.fn.state l.state

abbrev pub invariant-elaborate_kind_arrows-loop-rest : goal.invariant-elaborate_kind_arrows-loop-rest
invariant-elaborate_kind_arrows-loop-rest l = KindDomainsOf l.signature (numbers_of l.frees) l.fn.state.locals (written_kind_of l.fn.written) (made l.fn.state) (written_kind_of l.rest) (made l.state) (map open_type_of l.domains.items) × Keeps l.fn.state l.state

-- the arguments that are left of a family's row
abbrev pub invariant-elaborate_family-loop-next : goal.invariant-elaborate_family-loop-next
invariant-elaborate_family-loop-next l =
    FamilyReached l.signature (numbers_of l.frees) l.fn.state.locals (written_type_of l.fn.written) (made l.fn.state) (written_terms l.left.items) (made l.state) l.family.0 (open_spine_of l.spine) (open_kind_of l.kind) × Keeps l.fn.state l.state

abbrev pub decreases-elaborate_family-loop-next : goal.decreases-elaborate_family-loop-next
decreases-elaborate_family-loop-next l = vec_len l.left

-- the types so far, and what is left of the ascriptions
abbrev pub invariant-infer_ascribed-loop-rest : goal.invariant-infer_ascribed-loop-rest
invariant-infer_ascribed-loop-rest l =
    Under l.signature (numbers_of l.frees) l.fn.state.locals (map open_type_of l.types.items) (written_of l.fn.written) (made l.fn.state) (written_of l.rest) (made l.state) × Keeps l.fn.state l.state

-- the type so far, and those that are left
abbrev pub invariant-infer_ascribed-loop-expected : goal.invariant-infer_ascribed-loop-expected
invariant-infer_ascribed-loop-expected l =
    Found l.signature (numbers_of l.frees) l.fn.state.locals (map open_type_of l.types.items) (written_of l.fn.written) (made l.fn.state) (made l.state) (open_term_of l.term) (open_type_of l.found) × Keeps l.fn.state l.state

abbrev pub decreases-infer_ascribed-loop-expected : goal.decreases-infer_ascribed-loop-expected
decreases-infer_ascribed-loop-expected l = vec_len l.types

-- the kinds so far, and what is left behind them
abbrev pub invariant-elaborate_ascribed_family-loop-rest : goal.invariant-elaborate_ascribed_family-loop-rest
invariant-elaborate_ascribed_family-loop-rest l =
    UnderKinds l.signature (numbers_of l.frees) l.fn.state.locals (map open_kind_of l.kinds.items) (written_type_of l.fn.written) (made l.fn.state) (written_type_of l.rest) (made l.state) × Keeps l.fn.state l.state

-- the kinds that are left to be compared
abbrev pub invariant-elaborate_ascribed_family-loop-expected : goal.invariant-elaborate_ascribed_family-loop-expected
invariant-elaborate_ascribed_family-loop-expected l =
    FamilyFound l.signature (numbers_of l.frees) l.fn.state.locals (map open_kind_of l.kinds.items) (written_type_of l.fn.written) (made l.fn.state) (made l.state) l.family.0 (open_spine_of l.spine) (open_kind_of l.found) × Keeps l.fn.state l.state

abbrev pub decreases-elaborate_ascribed_family-loop-expected : goal.decreases-elaborate_ascribed_family-loop-expected
decreases-elaborate_ascribed_family-loop-expected l = vec_len l.kinds
