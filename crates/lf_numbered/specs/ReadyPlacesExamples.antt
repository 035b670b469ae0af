-- Worked: stores at the places of a pattern that may be handed to solving, and one that may not.
use Rattle.std.specs.Prelude.{◌≡◌, ℕ, [], ◌∷◌, Some}
use Rattle.lf.specs.Syntax.{app, constant, metavariable, nil, root}
use Rattle.lf.specs.Substitution.{Image, keep}
use Rattle.lf_totality.specs.Examples.{Copying, cp_kind, exp, var}
use Rattle.lf_totality.specs.ExamplesGroups.{on_one}
use Rattle.lf_coverage.specs.ExamplesCopying.{copy_entry_head}
use Rattle.lf_coverage.specs.StoreSkeletons.{StoreHasSkeletons}
use Rattle.lf_numbered.specs.EntryConstants.{with_entries}
use Rattle.lf_numbered.specs.ExamplesNumbered.{Turning, first_block, two_copies}
use Rattle.lf_numbered.specs.MeetsAnswers.{IsPlace, entries_at}
use Rattle.lf_numbered.specs.MeetsReadyExamples.{loose_case, loose_head, loose_kind}
use Rattle.lf_numbered.specs.NumberedCallsStores.{identified, meet_store_by_number}
use Rattle.lf_numbered.specs.NumberedCase.{NumberedCase}
use Rattle.lf_numbered.specs.OwnTerms.{blocks_of}
use Rattle.lf_numbered.specs.ReadyPlaces.{IsReadyToSolve}

-- Solving may be called at each of the five places of u : cp x x beside cp b.x c.x: as b's entry, as c's and as that of
-- a new block variable, with b and c apart, and as b's and as that of a new one where c is b.
abbrev pub CopyPlacesAreReadyToSolve : Type 0
CopyPlacesAreReadyToSolve = (π : ℕ → ℕ) (J : NumberedCase) (φ : ℕ → Image) → IsPlace 4 two_copies copy_entry_head π J φ → IsReadyToSolve (entries_at Copying 4 J) (meet_store_by_number π J copy_entry_head φ cp_kind)

-- The case f Y c.y of b on X and c on Y, for b and c of some {n:exp} block {y:t n}: b.y is the constant 3, and c.y is 4.
abbrev pub two_on : NumberedCase
two_on = record { blocks = record { block = first_block; terms = app (var 1) nil } ∷ record { block = first_block; terms = app (var 0) nil } ∷ []; variables = exp ∷ exp ∷ []; given = []; local = []; family = 2; arguments = Some (var 0) ∷ Some (root (constant 4) (app (var 0) nil)) ∷ [] }

-- Solving may be called at both of its places beside f N Y, of {N:exp} {Y:t N}. Where c is b there is also the equation
-- Y = X : exp of their terms, in front of Y = N : exp and b.y Y = Y' : t N, where Y' is the pattern's Y.
abbrev pub OnePlaceHasItsTerms : Type 0
OnePlaceHasItsTerms =
    ((π : ℕ → ℕ) (J : NumberedCase) (φ : ℕ → Image) → IsPlace 3 two_on loose_head π J φ → IsReadyToSolve (entries_at Turning 3 J) (meet_store_by_number π J loose_head φ loose_kind))
    × ((meet_store_by_number (λ k. 0) (identified 3 (λ k. 0) two_on) loose_head keep loose_kind).equations ≡
    record { local = []; left = root (metavariable 2) nil; right = root (metavariable 3) nil; of_type = exp }
    ∷ record { local = []; left = root (metavariable 2) nil; right = root (metavariable 1) nil; of_type = exp }
    ∷ record { local = []; left = root (constant 3) (app (root (metavariable 2) nil) nil); right = root (metavariable 0) nil; of_type = on_one 1 (root (metavariable 1) nil) }
    ∷ [])

-- Skeletons type what D = Y : t N stands in, in the store of f _ D, where D : t a, and f N Y. But D isn't of the type t
-- N, so solving may not be called.
abbrev pub LooseIsNotReadyToSolve : Type 0
LooseIsNotReadyToSolve = StoreHasSkeletons (with_entries Turning 1 (blocks_of loose_case.blocks)) (meet_store_by_number (λ k. k) loose_case loose_head keep loose_kind) × (IsReadyToSolve (with_entries Turning 1 (blocks_of loose_case.blocks)) (meet_store_by_number (λ k. k) loose_case loose_head keep loose_kind) → ⊥)
