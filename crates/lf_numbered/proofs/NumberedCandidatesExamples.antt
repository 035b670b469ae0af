-- The worked split at a candidate in worlds with a `some` variable.
use Rattle.std.proofs.Common.{ℕ, [], ◌∷◌, inl, refl}
use Rattle.std.specs.Prelude.{Bool, false, Some}
use Rattle.lf.specs.Syntax.{constant, nil, app, pi, star}
use Rattle.lf.specs.Typing.{Signature, IsSignature}
use Rattle.lf.specs.Variables.{FamiliesIn, same_number}
use Rattle.lf_unification.specs.Solving.{IsWellFormed, Solved}
use Rattle.lf_unification.specs.Unifiers.{Store}
use Rattle.lf_coverage.specs.Listed.{with_case, no_offer}
use Rattle.lf_numbered.specs.EntryConstants.{with_entries}
use Rattle.lf_numbered.specs.NumberedBeside.{IsUnifiedByNumber}
use Rattle.lf_numbered.specs.NumberedCandidatesExamples.{Judged, judged_block, judged_entry, judged_goal, JudgedIsSplit, RaisedMayBeOutside}
use Rattle.lf_numbered.specs.NumberedSplitsExamples.{exp, has}
use Rattle.lf_totality.specs.Examples.{var}
use Rattle.lf_coverage.proofs.ConstantOnNew.{on_new_is_solved, on_new_store}
use Rattle.lf_numbered.specs.NumberedSplits.{NumberedUnifierFinds}
use Rattle.lf_numbered.specs.OwnStores.{numbered_store}
use Rattle.lf_numbered.specs.TypedNumbered.{IsTypedNumberedCase}
use Rattle.lf_numbered.proofs.EntrySignature.{with_entries_is_signature}
use Rattle.lf_numbered.proofs.OwnStoresNewBlock.{new_block_stays_typed}
use Rattle.lf_numbered.proofs.OwnStoresSplit.{numbered_split_stays_typed}
use Rattle.lf_numbered.proofs.OwnStoresStart.{numbered_store_is_ready}
use Rattle.lf_numbered.proofs.NumberedCandidatesExamplesOffer.{blocks_typed, each, entry_offered, every, free, goal_typed, judged_ok, new_case, the_offer, worlds}

-- X is bound to the entry on T.
abbrev Entries : Signature
Entries = with_entries Judged 4 worlds

entries_ok : IsSignature Entries
entries_ok = with_entries_is_signature Judged judged_ok 4 free worlds blocks_typed

abbrev after_store : Store
after_store = on_new_store Entries entries_ok 0 2 4 refl refl refl

module _ (below : ℕ → ℕ → Bool) where
  abbrev store : Store
  store = numbered_store below new_case 1 exp (constant 4) (app (var 0) nil) exp star

  ready : IsWellFormed Entries store
  ready = numbered_store_is_ready Judged judged_ok worlds blocks_typed 4 free below new_case (new_block_stays_typed Judged judged_ok worlds blocks_typed 4 free judged_goal goal_typed judged_block (inl refl)) 1 exp (exp, refl, refl) (constant 4) (app (var 0) nil) exp entry_offered star refl

  abbrev solved : Solved Entries store after_store
  solved = on_new_is_solved Entries entries_ok 0 2 4 refl refl refl ready

  entry_found : NumberedUnifierFinds Judged 4 below the_offer star (Some judged_entry)
  entry_found = (after_store, solved, refl)

  pub judged_unified : IsUnifiedByNumber Judged 4 worlds below judged_goal 0 (judged_entry ∷ [])
  judged_unified = record {
    type = exp;
    at = refl;
    offers = the_offer ∷ [];
    each = each;
    every = every;
    listed = with_case (record { kind = star; of_family = refl; finds = entry_found }) no_offer;
  }

abbrev none_below : ℕ → ℕ → Bool
none_below a b = false

pub entry_case_typed : IsTypedNumberedCase Judged 4 worlds judged_entry
entry_case_typed = numbered_split_stays_typed Judged judged_ok worlds blocks_typed 4 free none_below new_case (new_block_stays_typed Judged judged_ok worlds blocks_typed 4 free judged_goal goal_typed judged_block (inl refl)) 1 exp (exp, refl, refl) (constant 4) (app (var 0) nil) exp entry_offered star refl after_store (solved none_below)

pub judged_is_split : JudgedIsSplit
judged_is_split = (refl, judged_unified)

pub raised_may_be_outside : RaisedMayBeOutside
raised_may_be_outside = (((λ e. absurd cc), refl), (λ h. absurd cc), λ h. no (h.0 refl))
  where
    no : FamiliesIn (same_number 1) (pi exp (has (var 0))) → ⊥
    no h = absurd cc
