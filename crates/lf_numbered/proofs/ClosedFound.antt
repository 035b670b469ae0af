-- A case with one free variable, of a family without indices, which a closed constant is offered to: unification solves it so.
use Rattle.std.proofs.Common.{ℕ, List, [], ◌∷◌, refl}
use Rattle.std.specs.Prelude.{◌≡◌, Bool, false, Option, Some}
use Rattle.lf.specs.Syntax.{constant, Term, root, nil, atom, star}
use Rattle.lf.specs.Typing.{Signature, IsSignature}
use Rattle.lf.specs.Subordination.{Block, AreTypedBlocks}
use Rattle.lf_unification.specs.Dependency.{ValueIsOrdered}
use Rattle.lf_unification.specs.Steps.{Run, bind, no_step, then_run}
use Rattle.lf_unification.specs.Unifiers.{on_left}
use Rattle.lf_coverage.specs.SplitStore.{context_metavariables}
use Rattle.lf_coverage.proofs.ExamplesBound.{bound_is_solved, bound_order, bound_store}
use Rattle.lf_coverage.proofs.NoArgument.{no_argument_of}
use Rattle.lf_numbered.specs.EntryConstants.{IsFreeFrom, with_entries}
use Rattle.lf_numbered.specs.NumberedCase.{NumberedCase}
use Rattle.lf_numbered.specs.NumberedSplits.{NumberedOffer, NumberedUnifierFinds}
use Rattle.lf_numbered.specs.OwnStores.{IsNumberedOffer, numbered_store, solved_numbered}
use Rattle.lf_numbered.specs.OwnTerms.{BlockVariable, blocks_of}
use Rattle.lf_numbered.specs.TypedNumbered.{IsTypedNumberedCase}
use Rattle.lf_numbered.proofs.EntrySignature.{with_entries_is_signature}
use Rattle.lf_numbered.proofs.OwnStoresStart.{numbered_store_is_ready}

module _ (Σ : Signature) (ok : IsSignature Σ) (W : List Block) (typed : AreTypedBlocks Σ W) (first : ℕ) (free : IsFreeFrom Σ first) (below : ℕ → ℕ → Bool) (a : ℕ) (kind : Σ.kinds a ≡ Some star) (bs : List BlockVariable) (f : ℕ) (Ms : List (Option Term)) where
  abbrev pub one_variable : NumberedCase
  one_variable = record { blocks = bs; variables = atom a nil ∷ []; given = []; local = []; family = f; arguments = Ms }

  module _ (case_typed : IsTypedNumberedCase Σ first W one_variable) (among : AreTypedBlocks Σ (blocks_of bs)) (c : ℕ) (of_type : (with_entries Σ first (blocks_of bs)).types c ≡ Some (atom a nil)) (offered : IsNumberedOffer Σ first one_variable (atom a nil) (constant c) nil (atom a nil)) where
    abbrev pub closed_offer : NumberedOffer
    closed_offer = record { case = one_variable; variable = 0; type = atom a nil; head = constant c; terms = nil; left = atom a nil }

    abbrev Entries : Signature
    Entries = with_entries Σ first (blocks_of bs)

    abbrev value : Term
    value = root (constant c) nil

    ordered : (U : (ℕ → Option Term) → Type 0) → ValueIsOrdered Entries (context_metavariables (atom a nil ∷ [])) U [] (atom a nil) (Some value)
    ordered U = (tt, (atom a nil, of_type, (refl, λ β u. refl)), λ ρ. refl)

    pub entries_ok : IsSignature Entries
    entries_ok = with_entries_is_signature Σ ok first free (blocks_of bs) among

    run : Run Entries (numbered_store below one_variable 0 (atom a nil) (constant c) nil (atom a nil) star) (bound_store Entries entries_ok a kind value)
    run = then_run (bind {A = atom a nil} on_left [] 0 [] value (atom a nil) refl tt (no_argument_of a) (record { inverted = record { inversion = value; is = refl }; reached = λ k. false; avoids = ((λ k A v e. absurd v), tt, λ v. v); within = tt })) no_step

    pub closed_found : NumberedUnifierFinds Σ first below closed_offer star (Some (solved_numbered one_variable 0 (bound_store Entries entries_ok a kind value) (bound_order Entries entries_ok a kind value)))
    closed_found = (bound_store Entries entries_ok a kind value, bound_is_solved Entries entries_ok a kind value ordered (numbered_store below one_variable 0 (atom a nil) (constant c) nil (atom a nil) star) (numbered_store_is_ready Σ ok W typed first free below one_variable case_typed 0 (atom a nil) refl (constant c) nil (atom a nil) offered star kind) run, refl)
