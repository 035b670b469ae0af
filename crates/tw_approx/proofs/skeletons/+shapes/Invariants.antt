use Rattle.std.proofs.Common.{◌+◌, ◌*◌, vec_len}
use Rattle.tw_parse.specs.Applied.{written_terms}
use Rattle.tw_approx.specs.Reading.{state_of}
use Rattle.tw_parse.specs.View.{term_of}
use Rattle.tw_shapes.specs.View.{shape_of}
use Rattle.tw_approx.proofs.Applying.{IsAscribing, IsFamilyApplying, IsFamilyAscribing}
use Rattle.tw_approx.proofs.WaitingRows.{RowsOf}
use Rattle.tw_approx.proofs.skeletons.+shapes.Given as goal

abbrev pub decreases-term_shape : goal.decreases-term_shape
decreases-term_shape l = 10 * l.frames

abbrev pub decreases-type_shape : goal.decreases-type_shape
decreases-type_shape l = 10 * l.frames

abbrev pub decreases-family_shape : goal.decreases-family_shape
decreases-family_shape l = 10 * l.frames

abbrev pub decreases-kind_due : goal.decreases-kind_due
decreases-kind_due l = 10 * l.frames

abbrev pub decreases-domain_shape : goal.decreases-domain_shape
decreases-domain_shape l = 10 * l.frames + 1

abbrev pub decreases-range_shape : goal.decreases-range_shape
decreases-range_shape l = 10 * l.frames + 1

abbrev pub decreases-rest_due : goal.decreases-rest_due
decreases-rest_due l = 10 * l.frames + 1

abbrev pub decreases-lambda_shape : goal.decreases-lambda_shape
decreases-lambda_shape l = 10 * l.frames + 2

abbrev pub decreases-application_shape : goal.decreases-application_shape
decreases-application_shape l = 10 * l.frames + 2

abbrev pub decreases-begin : goal.decreases-begin
decreases-begin l = 10 * l.frames + 1

abbrev pub decreases-ascription_shape : goal.decreases-ascription_shape
decreases-ascription_shape l = 10 * l.frames + 2

abbrev pub decreases-arrow_shape : goal.decreases-arrow_shape
decreases-arrow_shape l = 10 * l.frames + 2

abbrev pub decreases-pi_shape : goal.decreases-pi_shape
decreases-pi_shape l = 10 * l.frames + 2

abbrev pub decreases-applied_family : goal.decreases-applied_family
decreases-applied_family l = 10 * l.frames + 2

abbrev pub decreases-ascribed_family : goal.decreases-ascribed_family
decreases-ascribed_family l = 10 * l.frames + 2

-- the rows that wait, and the one that is read
abbrev pub invariant-application_shape-loop : goal.invariant-application_shape-loop
invariant-application_shape-loop l = RowsOf l.signature l.waiting.items l.row (term_of l.fn.term) (state_of l.fn.walk) (state_of l.walk)

abbrev pub invariant-applied_family-loop-argument : goal.invariant-applied_family-loop-argument
invariant-applied_family-loop-argument l = IsFamilyApplying l.signature (state_of l.fn.walk) (state_of l.walk) (term_of l.fn.term) (written_terms l.arguments.items) l.family

abbrev pub decreases-applied_family-loop-argument : goal.decreases-applied_family-loop-argument
decreases-applied_family-loop-argument l = vec_len l.arguments

-- the types that are left
abbrev pub invariant-ascription_shape-loop-ty : goal.invariant-ascription_shape-loop-ty
invariant-ascription_shape-loop-ty l = IsAscribing l.signature (state_of l.fn.walk) (state_of l.walk) (term_of l.fn.term) (written_terms l.types.items) (shape_of l.shape)

abbrev pub decreases-ascription_shape-loop-ty : goal.decreases-ascription_shape-loop-ty
decreases-ascription_shape-loop-ty l = vec_len l.types

-- the kinds that are left
abbrev pub invariant-ascribed_family-loop-kind : goal.invariant-ascribed_family-loop-kind
invariant-ascribed_family-loop-kind l = IsFamilyAscribing l.signature (state_of l.fn.walk) (state_of l.walk) (term_of l.fn.term) (written_terms l.kinds.items) l.family

abbrev pub decreases-ascribed_family-loop-kind : goal.decreases-ascribed_family-loop-kind
decreases-ascribed_family-loop-kind l = vec_len l.kinds
