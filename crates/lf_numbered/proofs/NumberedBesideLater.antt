-- The goal q N D is split by the entry w of a new block variable.
use Rattle.std.proofs.Common.{◌≡◌, ℕ, zero, suc, List, [], ◌∷◌, inl, inr, refl, sym, ap, subst, arith}
use Rattle.std.specs.Prelude.{Bool, true, false, Option, Some, ◌⊎◌}
use Rattle.lf.specs.Syntax.{constant, metavariable, Term, root, nil, app, LfType, atom, kind_pi, star, base}
use Rattle.lf.specs.Typing.{Signature, IsSignature}
use Rattle.lf.specs.Variables.{FamiliesIn}
use Rattle.lf.specs.Subordination.{Block, Member}
use Rattle.lf_unification.specs.Dependency.{IsDependencyOrder, IsListed, ListedMetavariable}
use Rattle.lf_unification.specs.Filling.{fill_metavariable}
use Rattle.lf_unification.specs.Inversion.{IsPattern}
use Rattle.lf_unification.specs.OpenTyping.{OpenHasType}
use Rattle.lf_unification.specs.Putting.{Unbound}
use Rattle.lf_unification.specs.PartialInstance.{IsFilling}
use Rattle.lf_unification.specs.Solving.{IsWellFormed, Solved}
use Rattle.lf_unification.specs.Steps.{Run, bind, no_step, then_run}
use Rattle.lf_unification.specs.Unifiers.{Store, on_left}
use Rattle.lf_unification.proofs.Runs.{run_solved}
use Rattle.lf_totality.specs.Examples.{exp, var}
use Rattle.lf_totality.specs.ExamplesGroups.{on_one}
use Rattle.lf_coverage.specs.Heads.{ArgumentsAreBelow}
use Rattle.lf_coverage.specs.Listed.{with_case, no_offer}
use Rattle.lf_coverage.specs.SplitStore.{context_metavariables}
use Rattle.lf_coverage.proofs.ExamplesUnified.{no_argument}
use Rattle.lf_coverage.proofs.Parts.{some_same}
use Rattle.lf_numbered.specs.EntryConstants.{with_entries}
use Rattle.lf_numbered.specs.EntryPatternsExamples.{Laters, later_worlds, asking_block, answering_block, asked_goal, answered_case}
use Rattle.lf_numbered.specs.NumberedBesideLater.{AskedIsSplit}
use Rattle.lf_numbered.specs.NumberedSplits.{NumberedOffer, IsAnsweredByNumber}
use Rattle.lf_numbered.specs.OwnStores.{ComesByNumbers, no_split, then_block, then_split, numbered_store}
use Rattle.lf_numbered.proofs.EntryPatternsGoals.{ok, blocks, free}
use Rattle.lf_numbered.proofs.EntrySignature.{with_entries_is_signature}
use Rattle.lf_numbered.proofs.NumberedBesideOffers.{asked_typed, each, entry_offered, every, new_case, of_entry_x, of_variable, the_offer, zero_not_one}
use Rattle.lf_numbered.proofs.OwnStoresNewBlock.{new_block_stays_typed}
use Rattle.lf_numbered.proofs.OwnStoresStart.{numbered_store_is_ready}

-- D is bound to b.w, and N to b.x.
abbrev Entries : Signature
Entries = with_entries Laters 4 (asking_block ∷ answering_block ∷ [])

among : (B : Block) → Member B (asking_block ∷ answering_block ∷ []) → Rattle.lf.specs.Subordination.IsTypedBlock Laters B
among B m = blocks B m

entries_ok : IsSignature Entries
entries_ok = with_entries_is_signature Laters ok 4 free (asking_block ∷ answering_block ∷ []) among

abbrev types : ℕ → Option LfType
types m = context_metavariables (on_one 1 (var 0) ∷ exp ∷ []) m

abbrev of_number : LfType
of_number = on_one 1 (root (metavariable 1) nil)

no_argument_one : IsPattern [] (base 1) []
no_argument_one = record { places = λ Γ. tt; distinct = λ i j e. e }

module _ (below : ℕ → ℕ → Bool) where
  abbrev store : Store
  store = numbered_store below new_case 0 of_variable (constant 6) nil of_entry_x (kind_pi exp star)

  abbrev solved_store : Store
  solved_store = record { metavariables = context_metavariables (on_one 1 (var 0) ∷ exp ∷ []); bindings = record { of = 1; value = root (constant 5) nil } ∷ record { of = 0; value = root (constant 6) nil } ∷ []; equations = [] }

  abbrev solved_order : List ListedMetavariable
  solved_order = record { of = 0; of_type = of_number; value = Some (root (constant 6) nil) } ∷ record { of = 1; of_type = exp; value = Some (root (constant 5) nil) } ∷ []

  ready : IsWellFormed Entries store
  ready = numbered_store_is_ready Laters ok later_worlds blocks 4 free below new_case (new_block_stays_typed Laters ok later_worlds blocks 4 free asked_goal asked_typed answering_block (inr (inl refl))) 0 of_variable refl (constant 6) nil of_entry_x entry_offered (kind_pi exp star) refl

  run : Run Entries store solved_store
  run =
      then_run (bind {A = of_number} on_left [] 0 [] (root (constant 6) nil) of_number refl tt no_argument_one (record { inverted = record { inversion = root (constant 6) nil; is = refl }; reached = λ k. false; avoids = ((λ k A v e. absurd v), tt, λ v. v); within = tt }))
      (then_run (bind {A = exp} on_left [] 1 [] (root (constant 5) nil) exp refl unbound no_argument (record { inverted = record { inversion = root (constant 5) nil; is = refl }; reached = λ k. false; avoids = ((λ k A v e. absurd v), ((λ v. absurd v), tt), λ v. v); within = tt })) no_step)
    where
      unbound : Unbound (record { of = 0; value = root (constant 6) nil } ∷ []) 1
      unbound = ((λ e. omega (arith, e)), tt)

  abbrev by_run : Solved Entries store solved_store
  by_run = run_solved Entries entries_ok ready run refl

  module _ (U : (ℕ → Option Term) → Type 0) (holds : (β : ℕ → Option Term) → U β → β 1 ≡ Some (root (constant 5) nil)) where
    number_typed : OpenHasType Entries [] types U [] (root (metavariable 1) nil) exp
    number_typed = (exp, (exp, refl, refl), (refl, λ β u. refl))

    x_typed : OpenHasType Entries [] types U [] (root (constant 5) nil) exp
    x_typed = (exp, refl, (refl, λ β u. refl))

    w_typed : OpenHasType Entries [] types U [] (root (constant 6) nil) of_number
    w_typed = (of_entry_x, refl, (refl, λ β u. ap (λ y. atom 1 (app (fill_metavariable (base 0) 1 y nil) nil)) (sym (holds β u))))

    is_order : IsDependencyOrder Entries types U solved_order
    is_order = ((tt, refl, (λ h. h), tt, (star, refl, tt), (λ ρ. refl), (tt, x_typed, λ ρ. refl)), refl, not_listed, ((inl refl, tt), tt), (kind_pi exp star, refl, (number_typed, tt)), (λ ρ. refl), (tt, w_typed, λ ρ. refl))
      where
        not_listed : (zero ≡ suc zero) ⊎ ⊥ → ⊥
        not_listed (inl e) = zero_not_one e
        not_listed (inr b) = b

  listed : (m : ℕ) (A : LfType) → types m ≡ Some A → IsListed solved_order m
  listed zero A e = inl refl
  listed (suc zero) A e = inr (inl refl)
  listed (suc (suc m)) A e = absurd cc

  abbrev form : IsWellFormed Entries solved_store
  form = record {
    order = solved_order;
    is_order = is_order (IsFilling Entries [] solved_store) (λ β u. u.2.0.0);
    all_listed = listed;
    bindings_listed = ((exp, inr (inl refl)), ((of_number, inl refl), tt));
    values_bound = ((λ N e. inr (inl (ap (λ X. record { of = 0; value = X }) (sym (some_same e))))), ((λ N e. inl (ap (λ X. record { of = 1; value = X }) (sym (some_same e)))), tt));
    typed = by_run.well_formed.typed;
  }

  abbrev is_solved : Solved Entries store solved_store
  is_solved = record { run = run; keeps = by_run.keeps; well_formed = form; none_left = refl }

  asked_is_answered : IsAnsweredByNumber Laters 4 later_worlds below asked_goal 0 (answered_case ∷ [])
  asked_is_answered = record {
    type = of_variable;
    at = refl;
    takes_below = tt;
    offers = the_offer ∷ [];
    each = each;
    every = every;
    arguments_below = λ o f. subst (λ (p : NumberedOffer). ArgumentsAreBelow below p.left) (sym (the_only o (every o f))) tt;
    listed = with_case (record { kind = kind_pi exp star; of_family = refl; finds = (solved_store, is_solved, refl) }) no_offer;
  }
    where
      the_only : (o : NumberedOffer) → Member o (the_offer ∷ []) → o ≡ the_offer
      the_only o (inl e) = e
      the_only o (inr m) = absurd m

  pub asked_family : (S : ℕ → Bool) → S 1 ≡ true → (sp : IsAnsweredByNumber Laters 4 later_worlds below asked_goal 0 (answered_case ∷ [])) × FamiliesIn S sp.type
  unfolding asked_is_answered
  asked_family S e = (asked_is_answered, e)

  pub asked_comes : ComesByNumbers Laters later_worlds 4 below asked_goal answered_case
  asked_comes = then_split 0 of_variable (constant 6) nil of_entry_x (kind_pi exp star) solved_store (then_block answering_block no_split (inr (inl refl))) refl entry_offered refl is_solved

pub asked_is_split : AskedIsSplit
asked_is_split below = asked_is_answered below
