-- Worked places where unification of a case by number with an entry is solved: cp X Y and cp b.x c.x beside u : cp x x.
use Rattle.std.specs.Prelude.{ℕ, [], ◌∷◌, Some}
use Rattle.lf.specs.Syntax.{nil}
use Rattle.lf.specs.Substitution.{Image}
use Rattle.lf_unification.specs.Solving.{Solved}
use Rattle.lf_unification.specs.Steps.{CanRefute}
use Rattle.lf_unification.specs.Unifiers.{Store}
use Rattle.lf_cases.specs.Cover.{before}
use Rattle.lf_totality.specs.Examples.{Copying, copy_block, cp_kind, exp, var}
use Rattle.lf_coverage.specs.ExamplesCopying.{copy_app_head, copy_entry_head, copy_worlds}
use Rattle.lf_numbered.specs.EntryPatterns.{variable_images}
use Rattle.lf_numbered.specs.ExamplesNumbered.{one_copy, two_copies}
use Rattle.lf_numbered.specs.MeetsAnswers.{IsPlace, IsRefutedByNumber, entries_at}
use Rattle.lf_numbered.specs.NewBlock.{with_new_block}
use Rattle.lf_numbered.specs.NumberedCallsMeeting.{SharesInstance}
use Rattle.lf_numbered.specs.NumberedCallsRows.{copy_outer}
use Rattle.lf_numbered.specs.NumberedCallsStores.{identified, meet_store_by_number}
use Rattle.lf_numbered.specs.NumberedCase.{NumberedCase}

-- cp X Y, and the same with a new block variable b
abbrev pub open_copies : NumberedCase
open_copies = record { blocks = []; variables = exp ∷ exp ∷ []; given = []; local = []; family = 1; arguments = Some (var 1) ∷ Some (var 0) ∷ [] }

abbrev pub beside_copy : NumberedCase
beside_copy = with_new_block copy_block open_copies

abbrev pub new_outer : ℕ → Image
new_outer = before [] (variable_images 4 beside_copy.blocks 0 copy_block nil)

-- Beside the new block variable b the equations X = b.x and Y = b.x are solved. So cp X Y and u share cp b.x b.x.
abbrev pub OpenCopiesShare : Type 0
OpenCopiesShare = IsPlace 4 open_copies copy_entry_head (λ k. k) beside_copy new_outer × ((after : Store) × Solved (entries_at Copying 4 beside_copy) (meet_store_by_number (λ k. k) beside_copy copy_entry_head new_outer cp_kind) after) × SharesInstance Copying 4 copy_worlds open_copies copy_entry_head

-- Where b and c are one, the store of cp b.x c.x and u is solved, so they share cp b.x b.x; where they are different, steps refute it beside b.
abbrev pub one_of_two : NumberedCase
one_of_two = identified 4 (λ k. 0) two_copies

abbrev pub TwoCopiesShare : Type 0
TwoCopiesShare = IsPlace 4 two_copies copy_entry_head (λ k. 0) one_of_two copy_outer × ((after : Store) × Solved (entries_at Copying 4 one_of_two) (meet_store_by_number (λ k. 0) one_of_two copy_entry_head copy_outer cp_kind) after) × SharesInstance Copying 4 copy_worlds two_copies copy_entry_head × IsPlace 4 two_copies copy_entry_head (λ k. k) two_copies copy_outer × CanRefute (entries_at Copying 4 two_copies) (meet_store_by_number (λ k. k) two_copies copy_entry_head copy_outer cp_kind)

-- cp b.x b.x and the head of cp-app have one place, and steps refute the store: b.x = app E1 E2 clashes.
abbrev pub OneCopyIsRefuted : Type 0
OneCopyIsRefuted = IsRefutedByNumber Copying 4 one_copy copy_app_head cp_kind
