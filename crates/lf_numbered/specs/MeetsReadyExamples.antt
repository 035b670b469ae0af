-- Worked stores of cases by number and patterns that are handed to unification, and some that can't be.
use Rattle.std.specs.Prelude.{◌≡◌, ℕ, [], ◌∷◌, length, false, true, Some, None}
use Rattle.lf.specs.Syntax.{app, constant, nil, root, LfType, pi, Kind, kind_pi, star}
use Rattle.lf.specs.Substitution.{Image, keep}
use Rattle.lf.specs.Typing.{Signature}
use Rattle.lf.specs.Variables.{binders, nothing}
use Rattle.lf.specs.Extension.{Extends}
use Rattle.lf_unification.specs.Solving.{IsWellFormed}
use Rattle.lf_checks.specs.Clause.{constant_clause}
use Rattle.lf_cases.specs.Pattern.{Pattern, head_pattern, of_constant}
use Rattle.lf_totality.specs.Examples.{Copying, cp_kind, exp, on_two, var}
use Rattle.lf_totality.specs.ExamplesGroups.{on_one}
use Rattle.lf_coverage.specs.ExamplesCopying.{copy_app_head, copy_entry_head}
use Rattle.lf_coverage.specs.Leaf.{IsTypedPattern}
use Rattle.lf_numbered.specs.EntryConstants.{with_entries}
use Rattle.lf_numbered.specs.ExamplesNumbered.{Turning, first_block, two_copies}
use Rattle.lf_numbered.specs.NumberedCallsRows.{copy_outer}
use Rattle.lf_numbered.specs.NumberedCallsStores.{Identifies, IsPutBeside, identified, meet_store_by_number}
use Rattle.lf_numbered.specs.NumberedCase.{NumberedCase}
use Rattle.lf_numbered.specs.OwnTerms.{blocks_of}
use Rattle.lf_numbered.specs.TypedNumbered.{IsTypedNumberedCase}

-- Each store of cp b.x c.x with the entry u : cp x x and with the head of cp-app is well formed, as b's entry, as c's and as that of a new block variable, where b
-- and c are apart and where they are one.
abbrev pub CopyStoresAreReady : Type 0
CopyStoresAreReady = ((π : ℕ → ℕ) → Identifies two_copies π → (J : NumberedCase) (φ : ℕ → Image) → IsPutBeside 4 (identified 4 π two_copies) π false copy_entry_head.clause copy_entry_head.origin J φ → (Σ : Signature) → Extends nothing (with_entries Copying 4 (blocks_of J.blocks)) Σ → IsWellFormed Σ (meet_store_by_number π J copy_entry_head φ cp_kind)) × ((π : ℕ → ℕ) → Identifies two_copies π → (J : NumberedCase) (φ : ℕ → Image) → IsPutBeside 4 (identified 4 π two_copies) π false copy_app_head.clause copy_app_head.origin J φ → (Σ : Signature) → Extends nothing (with_entries Copying 4 (blocks_of J.blocks)) Σ → IsWellFormed Σ (meet_store_by_number π J copy_app_head φ cp_kind))

-- So are those of the equations b.x = b.x and c.x = b.x, which clash, and of b.x = b.x twice.
abbrev pub TwoCopiesAreReady : Type 0
TwoCopiesAreReady = IsWellFormed (with_entries Copying 4 (blocks_of two_copies.blocks)) (meet_store_by_number (λ k. k) two_copies copy_entry_head copy_outer cp_kind) × IsWellFormed (with_entries Copying 4 (blocks_of two_copies.blocks)) (meet_store_by_number (λ k. 0) (identified 4 (λ k. 0) two_copies) copy_entry_head copy_outer cp_kind) × IsWellFormed (with_entries Copying 4 (blocks_of two_copies.blocks)) (meet_store_by_number (λ k. k) two_copies copy_app_head keep cp_kind)

-- The case f _ D with D : t a, and the head f N Y of {N:exp} {Y:t N}, of families t : exp -> type and f : {N:exp} t N -> type.
abbrev pub loose_case : NumberedCase
loose_case = record { blocks = []; variables = on_one 1 (root (constant 0) nil) ∷ []; given = []; local = []; family = 2; arguments = None ∷ Some (var 0) ∷ [] }

abbrev pub loose_type : LfType
loose_type = pi exp (pi (on_one 1 (var 0)) (on_two 2 (var 1) (var 0)))

abbrev pub loose_head : Pattern
loose_head = head_pattern (constant_clause (pi exp (pi (on_one 1 (var 0)) (on_two 2 (var 1) (var 0))))) (of_constant (pi exp (pi (on_one 1 (var 0)) (on_two 2 (var 1) (var 0)))))

abbrev pub loose_kind : Kind
loose_kind = kind_pi exp (kind_pi (on_one 1 (var 0)) star)

-- Its argument has a skeleton, and the type t a, but not the type t N of its place. So the equation D = Y : t N isn't typed, and the store isn't well formed: that
-- a case is typed by skeletons is not enough.
abbrev pub SkeletonsAreNotEnough : Type 0
SkeletonsAreNotEnough = IsTypedNumberedCase Turning 1 [] loose_case × IsTypedPattern Turning loose_head × (IsWellFormed (with_entries Turning 1 (blocks_of loose_case.blocks)) (meet_store_by_number (λ k. k) loose_case loose_head keep loose_kind) → ⊥)

-- The case f Y c.y of b on X and c on Y, of some {n:exp} block {y:t n}. Where b is c it is f Y (b.y Y), which is typed; but b is on X, so that b.y doesn't stand on
-- its own terms. Only the equation X = Y makes it a typed case.
abbrev pub two_turned : NumberedCase
two_turned = record { blocks = record { block = first_block; terms = app (var 1) nil } ∷ record { block = first_block; terms = app (var 0) nil } ∷ []; variables = exp ∷ exp ∷ []; given = []; local = []; family = 2; arguments = Some (var 0) ∷ Some (root (constant 2) (app (var 0) nil)) ∷ [] }

abbrev pub IdentifiedLeavesOwnTerms : Type 0
IdentifiedLeavesOwnTerms = IsTypedNumberedCase Turning 1 (first_block ∷ []) two_turned × Identifies two_turned (λ k. 0) × (IsTypedNumberedCase Turning 1 (first_block ∷ []) (identified 1 (λ k. 0) two_turned) → ⊥)

-- The case t x under {x:exp}, and the subgoal {y:t a} t a of a constant's clause.
abbrev pub under_exp : NumberedCase
under_exp = record { blocks = []; variables = []; given = []; local = exp ∷ []; family = 1; arguments = Some (var 0) ∷ [] }

abbrev pub under_other : Pattern
under_other = record { clause = constant_clause exp; origin = of_constant exp; type = pi (on_one 1 (root (constant 0) nil)) (on_one 1 (root (constant 0) nil)); at_first = true }

-- Both have one local variable, but of different types: so the equation x = a, under y, isn't typed, and the store isn't well formed. That local contexts are of
-- equal length is not enough.
abbrev pub LengthsAreNotEnough : Type 0
LengthsAreNotEnough = IsTypedNumberedCase Turning 1 [] under_exp × IsTypedPattern Turning under_other × (length under_exp.local ≡ length (binders [] under_other.type)) × (IsWellFormed (with_entries Turning 1 (blocks_of under_exp.blocks)) (meet_store_by_number (λ k. k) under_exp under_other keep (kind_pi exp star)) → ⊥)
