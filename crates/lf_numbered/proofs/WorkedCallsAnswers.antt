-- The worked runs as answers by number.
use Rattle.std.proofs.Common.{◌≡◌, ℕ, [], ◌∷◌, sym, subst, arith}
use Rattle.std.specs.Prelude.{Bool, true, false}
use Rattle.lf_totality.specs.Examples.{Copying, copy_heads, cp_kind}
use Rattle.lf_totality.proofs.Copying.{copying_ok}
use Rattle.lf_coverage.specs.Calls.{PlacesIn}
use Rattle.lf_coverage.specs.ExamplesCopying.{copy_goal, copy_worlds}
use Rattle.lf_coverage.specs.ExamplesTwins.{Twins, check_kind, twin_goal, twin_head, twin_worlds}
use Rattle.lf_coverage.proofs.ExamplesCopyingSplit.{copy_typed}
use Rattle.lf_coverage.proofs.ExamplesTwinsRun.{twins_ok, twins_typed}
use Rattle.lf_coverage.proofs.Parts.{some_same}
use Rattle.lf_numbered.specs.NumberedCalls.{IsBesideByNumber}
use Rattle.lf_numbered.specs.Numbering.{numbered}
use Rattle.lf_numbered.specs.WorkedCallsAnswers.{WorkedRunsAreAnswers}
use Rattle.lf_numbered.proofs.CopyingByNumber.{copying_free}
use Rattle.lf_numbered.proofs.EntryPatternsCopying.{copy_run_by_number}
use Rattle.lf_numbered.proofs.EntryPatternsForms.{numbered_run_covers}
use Rattle.lf_numbered.proofs.EntryPatternsTwins.{twin_run_by_number}
use Rattle.lf_numbered.proofs.WorkedCallsTwins.{free}

-- the families of the places
of_check : (S : ℕ → Bool) → IsBesideByNumber Twins twin_worlds S (numbered 3 twin_goal) → (S 0 ≡ true) × (S 1 ≡ true)
of_check S b = let p : PlacesIn S (true ∷ true ∷ true ∷ []) check_kind = subst (PlacesIn S (true ∷ true ∷ true ∷ [])) (sym (some_same b.of_family)) b.places in (p.0, p.1.1.0)

of_copy : (S : ℕ → Bool) → IsBesideByNumber Copying copy_worlds S (numbered 4 copy_goal) → S 0 ≡ true
of_copy S b = let p : PlacesIn S (true ∷ false ∷ []) cp_kind = subst (PlacesIn S (true ∷ false ∷ [])) (sym (some_same b.of_family)) b.places in p.0

pub worked_runs_are_answers : WorkedRunsAreAnswers
worked_runs_are_answers below = (
  (λ S b. numbered_run_covers Twins twins_ok twin_worlds twins_typed S 3 free (twin_head ∷ []) (numbered 3 twin_goal) (omega arith) (twin_run_by_number S b.self_contained (of_check S b).0 (of_check S b).1).0),
  (λ S b. numbered_run_covers Copying copying_ok copy_worlds copy_typed S 4 copying_free copy_heads (numbered 4 copy_goal) (omega arith) (copy_run_by_number S b.self_contained (of_copy S b))),
)
