use Rattle.std.proofs.Common.{drop, ℕ, suc, Option}
use Rattle.tw_terms.specs.View.{args_of}
use Rattle.tw_mode.specs.Allowed.{allowed_in}
use Rattle.tw_mode.proofs.Needing.{PlacesOutcome}
use Rattle.tw_mode.proofs.inputs.first_outside.Given as goal

abbrev pub invariant-loop-place : goal.invariant-loop-place
invariant-loop-place l = (o : Option ℕ) → PlacesOutcome (allowed_in l.allowed) (suc l.place) (drop l.place l.places) (args_of (drop l.place l.spine.args.items)) o → PlacesOutcome (allowed_in l.allowed) 1 l.places (args_of l.spine.args.items) o
