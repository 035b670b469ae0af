-- The worked split at an entry whose type doesn't determine its block variable's terms.
use Rattle.std.proofs.Common.{◌≡◌, ℕ, zero, suc, [], ◌∷◌, inl, inr, refl, sym, subst}
use Rattle.std.specs.Prelude.{false, Option, Some}
use Rattle.lf.specs.Syntax.{Head, constant, Spine, Term, nil, app, LfType, pi, base, star, rename_spine}
use Rattle.lf.specs.Substitution.{put, substitute_type, reduce}
use Rattle.lf.specs.AtOnce.{shift_by}
use Rattle.lf.specs.Typing.{Signature, TypeAt, ImageHasType, IsTypedSubstitution, IsSignature}
use Rattle.lf.specs.Subordination.{AreTypedBlocks, IsTypedBlock}
use Rattle.lf_unification.specs.Dependency.{ValueIsOrdered}
use Rattle.lf_unification.specs.Solving.{IsWellFormed, Solved}
use Rattle.lf_unification.specs.Steps.{Run, bind, no_step, then_run}
use Rattle.lf_unification.specs.Unifiers.{Store, on_left}
use Rattle.lf_totality.specs.Examples.{nat, successor, z}
use Rattle.lf_totality.specs.ExamplesBlocks.{Numbered}
use Rattle.lf_totality.proofs.ExamplesBlocks.{numbered_ok}
use Rattle.lf_coverage.specs.SplitStore.{context_metavariables}
use Rattle.lf_coverage.proofs.ExamplesBound.{bound_is_solved}
use Rattle.lf_coverage.proofs.ExamplesUnified.{no_argument}
use Rattle.lf_coverage.proofs.Parts.{some_same}
use Rattle.lf_numbered.specs.EntryConstants.{with_entries, IsFreeFrom}
use Rattle.lf_numbered.specs.OwnStores.{IsNumberedOffer, offer_signature, offer_taken, offer_entry, numbered_store}
use Rattle.lf_numbered.specs.OwnStoresExamples.{loose_block, loose_case, each_below, entry_on_z, loose_solved, EntryIsOffered, StoreIsOnOwnTerms, CaseIsReadOff, OwnEntryIsSplit}
use Rattle.lf_numbered.specs.OwnTerms.{own_terms, TypeOnOwnTerms}
use Rattle.lf_numbered.specs.TypedNumbered.{IsTypedNumberedCase}
use Rattle.lf_numbered.proofs.EntrySignature.{with_entries_is_signature}
use Rattle.lf_numbered.proofs.ExamplesEntries.{entry_stands_on_its_terms}
use Rattle.lf_numbered.proofs.OwnStoresSplit.{numbered_split_stays_typed}
use Rattle.lf_numbered.proofs.OwnStoresStart.{numbered_store_is_ready}

same_constant : {c d : ℕ} → constant c ≡ constant d → c ≡ d
same_constant e = cc

no_other : (h : Head) (U : Spine) (A : LfType) → IsNumberedOffer Numbered 4 loose_case nat h U A → h ≡ constant 4 → U ≡ app (successor z) nil → ⊥
no_other h U A (offer_signature k V e t) p q = cc
no_other h U A (offer_taken j B l g t) p q = cc
no_other h U A (offer_entry c S V o e t) p q =
    let s : app z nil ≡ S = some_same (subst (λ d. own_terms 4 loose_case.blocks d ≡ Some S) (same_constant p) o) in
    let r : app z nil ≡ app (successor z) nil = subst (λ T. rename_spine (shift_by 0) T ≡ app (successor z) nil) (sym s) q in
    cc

pub entry_is_offered : EntryIsOffered
entry_is_offered = (offer_entry 4 (app z nil) (pi nat nat) refl refl refl, λ o. no_other (constant 4) (app (successor z) nil) nat o refl refl)

pub store_is_on_own_terms : StoreIsOnOwnTerms
store_is_on_own_terms = (refl, refl)

pub case_is_read_off : CaseIsReadOff
case_is_read_off = refl

-- The case is typed.
blocks_typed : AreTypedBlocks Numbered (loose_block ∷ [])
blocks_typed B (inl e) = subst (λ D. IsTypedBlock Numbered D) (sym e) ((tt, (star, refl, tt)), (star, refl, tt))
blocks_typed B (inr m) = absurd m

free : IsFreeFrom Numbered 4
free = entry_stands_on_its_terms.2

abbrev Loose : Signature
Loose = with_entries Numbered 4 (loose_block ∷ [])

loose_ok : IsSignature Loose
loose_ok = with_entries_is_signature Numbered numbered_ok 4 free (loose_block ∷ []) blocks_typed

loose_typed : IsTypedNumberedCase Numbered 4 (loose_block ∷ []) loose_case
loose_typed = record {
  variables = record { variables = (tt, (star, refl, tt)); on_own_terms = own; blocks = (inl refl, ((λ i. put (base 0) z), values, refl), ((tt, tt), tt), tt) };
  local = (tt, (star, refl, tt));
  local_on_own = tt;
  given = tt;
  given_on_own = tt;
  arguments = ((base 0, (base 0, refl, refl)), tt);
  arguments_on_own = (tt, tt);
}
  where
    own : (i : ℕ) (A : LfType) → TypeAt (nat ∷ []) i A → TypeOnOwnTerms (own_terms 4 loose_case.blocks) A
    own zero A e = subst (TypeOnOwnTerms (own_terms 4 loose_case.blocks)) (sym e) tt
    own (suc i) A (B, g, e) = absurd g

    values : IsTypedSubstitution Loose (nat ∷ []) (nat ∷ []) (λ i. put (base 0) z)
    values zero A e = subst (λ Y. ImageHasType Loose (nat ∷ []) (put (base 0) z) (substitute_type reduce (λ i. put (base 0) z) Y)) (sym e) (refl, (nat, refl, refl))
    values (suc i) A (B, g, e) = absurd g

-- X is bound to the entry.
abbrev loose_store : Store
loose_store = numbered_store each_below loose_case 0 nat (constant 4) (app z nil) nat star

loose_ready : IsWellFormed Loose loose_store
loose_ready = numbered_store_is_ready Numbered numbered_ok (loose_block ∷ []) blocks_typed 4 free each_below loose_case loose_typed 0 nat refl (constant 4) (app z nil) nat entry_is_offered.0 star refl

loose_run : Run Loose loose_store loose_solved
loose_run = then_run (bind {A = nat} on_left [] 0 [] entry_on_z nat refl tt no_argument (record { inverted = record { inversion = entry_on_z; is = refl }; reached = λ k. false; avoids = ((λ k A v e. absurd v), tt, λ v. v); within = (tt, tt) })) no_step

entry_ordered : (U : (ℕ → Option Term) → Type 0) → ValueIsOrdered Loose (context_metavariables (nat ∷ [])) U [] nat (Some entry_on_z)
entry_ordered U = ((tt, tt), (pi nat nat, refl, ((nat, refl, (refl, λ β u. refl)), (refl, λ β u. refl))), λ ρ. refl)

abbrev loose_is_solved : Solved Loose loose_store loose_solved
loose_is_solved = bound_is_solved Loose loose_ok 0 refl entry_on_z entry_ordered loose_store loose_ready loose_run

pub own_entry_is_split : OwnEntryIsSplit
own_entry_is_split = (loose_typed, loose_is_solved, refl, numbered_split_stays_typed Numbered numbered_ok (loose_block ∷ []) blocks_typed 4 free each_below loose_case loose_typed 0 nat refl (constant 4) (app z nil) nat entry_is_offered.0 star refl loose_solved loose_is_solved)
