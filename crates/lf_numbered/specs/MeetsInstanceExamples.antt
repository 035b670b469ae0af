-- A worked row: what a case with two block variables and a pattern don't share, by unification in each of their stores.
use Rattle.std.specs.Prelude.{ℕ, zero, suc}
use Rattle.lf.specs.Substitution.{keep}
use Rattle.lf_unification.specs.Steps.{CanRefute}
use Rattle.lf_unification.specs.Unifiers.{Store}
use Rattle.lf_totality.specs.Examples.{Copying, cp_kind}
use Rattle.lf_coverage.specs.ExamplesCopying.{copy_app_head, copy_worlds}
use Rattle.lf_numbered.specs.EntryConstants.{with_entries}
use Rattle.lf_numbered.specs.ExamplesNumbered.{two_copies}
use Rattle.lf_numbered.specs.NumberedCallsMeeting.{SharesInstance}
use Rattle.lf_numbered.specs.NumberedCallsStores.{identified, meet_store_by_number}
use Rattle.lf_numbered.specs.OwnTerms.{blocks_of}

-- block variable 1 is that of this number, and each other stays itself
abbrev pub second_is : ℕ → ℕ → ℕ
second_is b zero = 0
second_is b (suc zero) = b
second_is b (suc (suc k)) = suc (suc k)

abbrev pub copies_store : ℕ → Store
copies_store b = meet_store_by_number (second_is b) (identified 4 (second_is b) two_copies) copy_app_head keep cp_kind

-- cp b.x c.x shares nothing with the head of cp-app: steps refute b.x = app E1 E2, where b and c are apart, and also where c is b. So no typed instance of it,
-- whatever block variables become one there, is one of cp-app.
abbrev pub TwoCopiesShareNone : Type 0
TwoCopiesShareNone = CanRefute (with_entries Copying 4 (blocks_of two_copies.blocks)) (copies_store 1) × CanRefute (with_entries Copying 4 (blocks_of two_copies.blocks)) (copies_store 0) × (SharesInstance Copying 4 copy_worlds two_copies copy_app_head → ⊥)
