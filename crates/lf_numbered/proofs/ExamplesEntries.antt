-- Worked examples of block variables as constants.
use Rattle.std.proofs.Common.{◌≡◌, ℕ, zero, suc, refl, inl, arith}
use Rattle.std.specs.Prelude.{◌≤◌, None}
use Rattle.lf.specs.Syntax.{Spine, nil, app}
use Rattle.lf.specs.Eta.{append}
use Rattle.lf.specs.Substitution.{keep}
use Rattle.lf_totality.specs.Examples.{successor, z}
use Rattle.lf_totality.specs.ExamplesBlocks.{numbered_types, numbered_kinds}
use Rattle.lf_numbered.specs.ExamplesEntries.{CopyEntriesHaveTypes, SomeEntriesHaveTypes, LaterEntryHasType, EntryStandsOnItsTerms, EntryIsRead, EntryCaseIsTyped, NewBlockComesLast}

pub copy_entries_have_types : CopyEntriesHaveTypes
copy_entries_have_types = (refl, refl, refl, refl, refl)

pub some_entries_have_types : SomeEntriesHaveTypes
some_entries_have_types = (refl, refl)

pub later_entry_has_type : LaterEntryHasType
later_entry_has_type = refl

no_constant : (c : ℕ) → 4 ≤ c → numbered_types c ≡ None
no_constant zero h = absurd (omega (arith, h))
no_constant (suc zero) h = absurd (omega (arith, h))
no_constant (suc (suc zero)) h = absurd (omega (arith, h))
no_constant (suc (suc (suc zero))) h = absurd (omega (arith, h))
no_constant (suc (suc (suc (suc c)))) h = refl

no_family : (a : ℕ) → 4 ≤ a → numbered_kinds a ≡ None
no_family zero h = absurd (omega (arith, h))
no_family (suc zero) h = absurd (omega (arith, h))
no_family (suc (suc zero)) h = absurd (omega (arith, h))
no_family (suc (suc (suc a))) h = refl

-- z and s z begin no spine together
begins_otherwise : (T : Spine) → app (successor z) nil ≡ append (app z nil) T → ⊥
begins_otherwise T e = cc

pub entry_stands_on_its_terms : EntryStandsOnItsTerms
entry_stands_on_its_terms = (((nil, refl), ((tt, tt), tt)), (λ o. begins_otherwise o.0.0 o.0.1), record { types_free = no_constant; kinds_free = no_family })

pub entry_is_read : EntryIsRead
entry_is_read = (refl, refl)

pub entry_case_is_typed : EntryCaseIsTyped
entry_case_is_typed = (record { variables = tt; on_own_terms = λ i A g. absurd g; blocks = (inl refl, (keep, (λ i A g. absurd g), refl), tt, tt) }, λ w i. record { values = refl; instances = (i, refl, tt) })

pub new_block_comes_last : NewBlockComesLast
new_block_comes_last = (refl, refl)
