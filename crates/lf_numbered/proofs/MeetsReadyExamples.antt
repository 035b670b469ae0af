-- Worked stores of cases by number and patterns.
use Rattle.std.proofs.Common.{[], ◌∷◌, inl, refl}
use Rattle.lf.specs.Syntax.{constant, nil, app, root}
use Rattle.lf.specs.Substitution.{keep}
use Rattle.lf.specs.Typing.{IsSignature}
use Rattle.lf.specs.Variables.{nothing}
use Rattle.lf.specs.Extension.{Extends}
use Rattle.lf_checks.specs.Clause.{from_entry}
use Rattle.lf_totality.specs.Examples.{Copying, copy_block, copy_entry, cp, cp_app, cp_kind, exp, var}
use Rattle.lf_totality.proofs.After.{Extends-self}
use Rattle.lf_totality.proofs.Copying.{copying_ok}
use Rattle.lf_coverage.specs.ExamplesCopying.{copy_app_head, copy_entry_head, copy_worlds}
use Rattle.lf_coverage.proofs.ExamplesCopyingSplit.{copy_typed}
use Rattle.lf_numbered.specs.EntryConstants.{with_entries}
use Rattle.lf_numbered.specs.ExamplesNumbered.{two_copies}
use Rattle.lf_numbered.specs.MeetsReady.{HasTypedPlaces}
use Rattle.lf_numbered.specs.MeetsReadyExamples.{CopyStoresAreReady, TwoCopiesAreReady}
use Rattle.lf_numbered.specs.NumberedCallsRows.{copy_outer}
use Rattle.lf_numbered.specs.NumberedCallsStores.{constant_beside, entry_beside, identified}
use Rattle.lf_numbered.specs.OwnTerms.{blocks_of}
use Rattle.lf_numbered.proofs.CopyingByNumber.{copying_free, two_copies_typed, app_head_typed, entry_head_typed}
use Rattle.lf_numbered.proofs.EntryPatternsMatching.{entries_signature}
use Rattle.lf_numbered.proofs.MeetsReadyInputs.{input_meet_store_is_ready}
use Rattle.lf_numbered.proofs.MeetsReadyRuns.{all_stay, clause_blocks}
use Rattle.lf_numbered.proofs.NumberedCallsRows.{copies_are_equated}

two_places : HasTypedPlaces (with_entries Copying 4 (blocks_of two_copies.blocks)) two_copies cp_kind
two_places = record { mention = (tt, (tt, tt)); tuple = app (root (constant 4) nil) (app (root (constant 6) nil) nil); are = (refl, (refl, tt)); typed = ((exp, refl, refl), ((exp, refl, refl), tt)) }

pub copy_stores_are_ready : CopyStoresAreReady
copy_stores_are_ready = (
  (λ π is J φ at. input_meet_store_is_ready Copying copying_ok copy_worlds 4 copying_free two_copies two_copies_typed refl copy_entry_head entry_head_typed (clause_blocks Copying copy_worlds copy_typed copy_entry (from_entry copy_block [] (cp (var 0) (var 0)) (exp ∷ []) (inl refl) refl)) tt refl cp_kind refl two_places π is J φ at),
  (λ π is J φ at. input_meet_store_is_ready Copying copying_ok copy_worlds 4 copying_free two_copies two_copies_typed refl copy_app_head app_head_typed copy_typed tt refl cp_kind refl two_places π is J φ at),
)

two_signature : IsSignature (with_entries Copying 4 (blocks_of two_copies.blocks))
two_signature = entries_signature Copying copying_ok copy_worlds copy_typed 4 copying_free two_copies two_copies_typed

here : Extends nothing (with_entries Copying 4 (blocks_of two_copies.blocks)) (with_entries Copying 4 (blocks_of two_copies.blocks))
here = Extends-self nothing (with_entries Copying 4 (blocks_of two_copies.blocks)) two_signature

pub two_copies_are_ready : TwoCopiesAreReady
two_copies_are_ready = (
  copy_stores_are_ready.0 (λ k. k) (all_stay two_copies) two_copies copy_outer (entry_beside copy_block [] (cp (var 0) (var 0)) (exp ∷ []) refl 0 nil refl refl (λ e. refl)) (with_entries Copying 4 (blocks_of two_copies.blocks)) here,
  copy_stores_are_ready.0 (λ k. 0) copies_are_equated.0 (identified 4 (λ k. 0) two_copies) copy_outer copies_are_equated.1 (with_entries Copying 4 (blocks_of two_copies.blocks)) here,
  copy_stores_are_ready.1 (λ k. k) (all_stay two_copies) two_copies keep (constant_beside cp_app.type) (with_entries Copying 4 (blocks_of two_copies.blocks)) here,
)
