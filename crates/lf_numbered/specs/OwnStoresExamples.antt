-- Worked: a variable that is split by an entry whose type doesn't determine the `some` terms of its block variable.
use Rattle.std.specs.Prelude.{◌≡◌, ℕ, List, [], ◌∷◌, Bool, true, Some}
use Rattle.lf.specs.Syntax.{constant, metavariable, Term, root, nil, app, pi, star}
use Rattle.lf.specs.Subordination.{Block}
use Rattle.lf_unification.specs.Dependency.{ListedMetavariable}
use Rattle.lf_unification.specs.Solving.{Solved}
use Rattle.lf_unification.specs.Unifiers.{Store}
use Rattle.lf_cases.specs.OutputGoal.{free_variables}
use Rattle.lf_totality.specs.Examples.{nat, successor, var, z}
use Rattle.lf_totality.specs.ExamplesBlocks.{Numbered}
use Rattle.lf_coverage.specs.SplitStore.{context_metavariables, split_store}
use Rattle.lf_numbered.specs.EntryConstants.{with_entries}
use Rattle.lf_numbered.specs.NumberedCase.{NumberedCase}
use Rattle.lf_numbered.specs.OwnStores.{IsNumberedOffer, numbered_store, solved_numbered}
use Rattle.lf_numbered.specs.TypedNumbered.{IsTypedNumberedCase}

-- b is a block variable of some {n:nat} block {y:nat} on z, and the case is a X.
abbrev pub loose_block : Block
loose_block = record { label = 98 ∷ []; some = nat ∷ []; entries = nat ∷ [] }

abbrev pub loose_case : NumberedCase
loose_case = record { blocks = record { block = loose_block; terms = app z nil } ∷ []; variables = nat ∷ []; given = []; local = []; family = 2; arguments = Some (var 0) ∷ [] }

-- The constant of y, 4, is offered to X on z, where it has the type nat; it isn't offered on s z.
abbrev pub EntryIsOffered : Type 0
EntryIsOffered = IsNumberedOffer Numbered 4 loose_case nat (constant 4) (app z nil) nat × (IsNumberedOffer Numbered 4 loose_case nat (constant 4) (app (successor z) nil) nat → ⊥)

-- So the store has X = b.y z and no new variable. That of the constant with its whole type has X = b.y N for a new N, which nothing determines.
abbrev pub each_below : ℕ → ℕ → Bool
each_below a b = true

abbrev pub entry_on_z : Term
entry_on_z = root (constant 4) (app z nil)

abbrev pub StoreIsOnOwnTerms : Type 0
StoreIsOnOwnTerms =
    (numbered_store each_below loose_case 0 nat (constant 4) (app z nil) nat star ≡ record { metavariables = context_metavariables (nat ∷ []); bindings = []; equations = record { local = []; left = root (metavariable 0) nil; right = entry_on_z; of_type = nat } ∷ [] })
    × (split_store each_below 0 nat (free_variables (nat ∷ [])) 0 (constant 4) (pi nat nat) star ≡ record { metavariables = context_metavariables (nat ∷ nat ∷ []); bindings = []; equations = record { local = []; left = root (metavariable 1) nil; right = root (constant 4) (app (root (metavariable 0) nil) nil); of_type = nat } ∷ [] })

-- With X bound to b.y z the case is a b.y, and b is on z still.
abbrev pub loose_solved : Store
loose_solved = record { metavariables = context_metavariables (nat ∷ []); bindings = record { of = 0; value = entry_on_z } ∷ []; equations = [] }

abbrev pub loose_order : List ListedMetavariable
loose_order = record { of = 0; of_type = nat; value = Some entry_on_z } ∷ []

abbrev pub CaseIsReadOff : Type 0
CaseIsReadOff = solved_numbered loose_case 0 loose_solved loose_order ≡ record { blocks = record { block = loose_block; terms = app z nil } ∷ []; variables = []; given = []; local = []; family = 2; arguments = Some entry_on_z ∷ [] }

-- The case is typed, unification solves its store so, and what is read off is typed.
abbrev pub OwnEntryIsSplit : Type 0
OwnEntryIsSplit = IsTypedNumberedCase Numbered 4 (loose_block ∷ []) loose_case × (s : Solved (with_entries Numbered 4 (loose_block ∷ [])) (numbered_store each_below loose_case 0 nat (constant 4) (app z nil) nat star) loose_solved) × (s.well_formed.order ≡ loose_order) × IsTypedNumberedCase Numbered 4 (loose_block ∷ []) (solved_numbered loose_case 0 loose_solved s.well_formed.order)
