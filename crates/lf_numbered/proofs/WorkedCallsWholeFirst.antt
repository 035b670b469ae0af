-- The first split of the worked run with candidates: by a constant and an entry.
use Rattle.std.proofs.Common.{◌≡◌, ℕ, zero, suc, List, [], ◌∷◌, length, inl, inr, refl, sym, ap, subst, arith}
use Rattle.std.specs.Prelude.{Bool, Option, Some, None}
use Rattle.lf.specs.Syntax.{constant, metavariable, Kind, Term, root, nil, app, LfType, kind_pi, pi, star}
use Rattle.lf.specs.Typing.{IsKind, IsSignature, IsType, Signature}
use Rattle.lf.specs.Variables.{same_number}
use Rattle.lf.specs.Subordination.{AreTypedBlocks, Block, IsTypedBlock, Member}
use Rattle.lf_unification.specs.Dependency.{IsDependencyOrder, IsListed, ListedMetavariable}
use Rattle.lf_unification.specs.OpenTyping.{MetavariablesInType, OpenHasType}
use Rattle.lf_unification.specs.Outside.{Holds}
use Rattle.lf_unification.specs.PartialInstance.{IsFilling}
use Rattle.lf_unification.specs.Putting.{Unbound}
use Rattle.lf_unification.specs.Solving.{IsWellFormed, Solved}
use Rattle.lf_unification.specs.Steps.{Run, bind, no_step, then_run}
use Rattle.lf_unification.specs.Unifiers.{Store, on_left}
use Rattle.lf_unification.proofs.Runs.{run_solved}
use Rattle.lf_cases.specs.ClauseOrder.{StandsAt}
use Rattle.lf_totality.specs.Examples.{exp, var}
use Rattle.lf_totality.specs.ExamplesGroups.{on_one}
use Rattle.lf_coverage.specs.Listed.{Listed, with_case, no_offer}
use Rattle.lf_coverage.specs.SplitStore.{context_metavariables}
use Rattle.lf_coverage.proofs.ExamplesUnified.{no_argument}
use Rattle.lf_coverage.proofs.NoArgument.{no_argument_of}
use Rattle.lf_coverage.proofs.OtherNumbers.{not_among}
use Rattle.lf_coverage.proofs.Parts.{none_some, some_same}
use Rattle.lf_numbered.specs.EntryConstants.{IsFreeFrom, with_entries}
use Rattle.lf_numbered.specs.ExamplesNumbered.{first_block, second_block, turning_kinds}
use Rattle.lf_numbered.specs.NewBlock.{with_new_block}
use Rattle.lf_numbered.specs.NumberedCalls.{ListsCases}
use Rattle.lf_numbered.specs.NumberedCallsOrder.{HasNumberedRank, entry_rank, next_in_order, one_in_order, signature_rank}
use Rattle.lf_numbered.specs.NumberedCase.{NumberedCase}
use Rattle.lf_numbered.specs.NumberedSplits.{IsOfferTo, NumberedAnswer, NumberedOffer, NumberedUnifierFinds, of_case, of_new_block}
use Rattle.lf_numbered.specs.OwnStores.{IsNumberedOffer, offer_entry, offer_signature}
use Rattle.lf_numbered.specs.TypedNumbered.{IsTypedNumberedCase}
use Rattle.lf_numbered.specs.WorkedCallsWhole.{Whole, d_case, t_all, whole_types, y_case, a, b_of, turning_goal}
use Rattle.lf_numbered.proofs.EntrySignature.{with_entries_is_signature}
use Rattle.lf_numbered.proofs.FreeFrom.{free_from}
use Rattle.lf_numbered.proofs.OffersListed.{ConstantsAreIn, NewEntriesAreIn, entry_member, heads_are_in, offer_with, other_target}
use Rattle.lf_numbered.proofs.OwnStoresNewBlock.{new_block_stays_typed}
use Rattle.lf_numbered.proofs.OwnStoresStart.{numbered_store_is_ready}
use Rattle.lf_numbered.proofs.RanksListed.{entry_rank_in, signature_rank_in}
use Rattle.lf_numbered.proofs.VariableTyped.{index_is_typed}

abbrev pub worlds : List Block
worlds = first_block ∷ second_block ∷ []

pub ok : IsSignature Whole
ok = record { types_ok = types; kinds_ok = kinds }
  where
    types : (c : ℕ) (A : LfType) → whole_types c ≡ Some A → IsType Whole [] A
    types zero A e = subst (IsType Whole []) (some_same e) (star, refl, tt)
    types (suc zero) A e = subst (IsType Whole []) (some_same e) ((star, refl, tt), (_, refl, ((exp, refl, refl), tt)))
    types (suc (suc zero)) A e = subst (IsType Whole []) (some_same e) ((star, refl, tt), (_, refl, ((exp, refl, refl), ((t_all, refl, ((exp, refl, refl), refl)), tt))))
    types (suc (suc (suc zero))) A e = subst (IsType Whole []) (some_same e) ((_, refl, ((exp, refl, refl), tt)), (_, refl, ((exp, refl, refl), ((on_one 1 a, refl, refl), tt))))
    types (suc (suc (suc (suc zero)))) A e = subst (IsType Whole []) (some_same e) ((star, refl, tt), (star, refl, tt))
    types (suc (suc (suc (suc (suc zero))))) A e = subst (IsType Whole []) (some_same e) ((star, refl, tt), ((_, refl, ((pi exp exp, refl, ((exp, refl, refl), refl)), tt)), (_, refl, ((pi exp exp, refl, ((exp, (exp, refl, refl), refl), refl)), ((on_one 1 (b_of (var 1)), refl, refl), tt)))))
    types (suc (suc (suc (suc (suc (suc c)))))) A e = absurd (none_some e)

    kinds : (f : ℕ) (K : Kind) → turning_kinds f ≡ Some K → IsKind Whole [] K
    kinds zero K e = subst (IsKind Whole []) (some_same e) tt
    kinds (suc zero) K e = subst (IsKind Whole []) (some_same e) ((star, refl, tt), tt)
    kinds (suc (suc zero)) K e = subst (IsKind Whole []) (some_same e) ((star, refl, tt), ((_, refl, ((exp, refl, refl), tt)), tt))
    kinds (suc (suc (suc f))) K e = absurd (none_some e)

pub blocks : AreTypedBlocks Whole worlds
blocks B (inl e) = subst (IsTypedBlock Whole) (sym e) ((tt, (star, refl, tt)), (_, refl, ((exp, refl, refl), tt)))
blocks B (inr (inl e)) = subst (IsTypedBlock Whole) (sym e) ((tt, (star, refl, tt)), ((_, refl, ((exp, refl, refl), tt)), (_, refl, ((exp, (exp, refl, refl), refl), ((on_one 1 (var 1), refl, refl), tt)))))
blocks B (inr (inr m)) = absurd m

pub free : IsFreeFrom Whole 6
free = free_from Whole 6 (λ c. refl) (λ a. refl)

pub goal_typed : IsTypedNumberedCase Whole 6 worlds turning_goal
goal_typed = index_is_typed Whole 6 worlds 0 1 2 refl refl

-- Y : t N, before and behind the new variable n
abbrev pub of_number : LfType
of_number = on_one 1 (var 1)

abbrev of_later : LfType
of_later = on_one 1 (var 2)

abbrev new_case : NumberedCase
new_case = with_new_block first_block turning_goal

abbrev d_offer : NumberedOffer
d_offer = record { case = turning_goal; variable = 0; type = of_number; head = constant 1; terms = nil; left = t_all }

abbrev y_offer : NumberedOffer
y_offer = record { case = new_case; variable = 1; type = of_later; head = constant 6; terms = app (var 0) nil; left = on_one 1 (var 0) }

abbrev pub goal_offers : List NumberedOffer
goal_offers = d_offer ∷ y_offer ∷ []

d_offered : IsNumberedOffer Whole 6 turning_goal of_number (constant 1) nil t_all
d_offered = offer_signature 1 t_all refl refl

y_offered : IsNumberedOffer Whole 6 new_case of_later (constant 6) (app (var 0) nil) (on_one 1 (var 0))
y_offered = offer_entry 6 (app (var 0) nil) _ refl refl refl

pub goal_each : (o : NumberedOffer) → Member o goal_offers → IsOfferTo Whole 6 worlds turning_goal 0 of_number o
goal_each o (inl e) = subst (IsOfferTo Whole 6 worlds turning_goal 0 of_number) (sym e) (of_case (constant 1) nil t_all d_offered)
goal_each o (inr (inl e)) = subst (IsOfferTo Whole 6 worlds turning_goal 0 of_number) (sym e) (of_new_block first_block 6 (app (var 0) nil) (on_one 1 (var 0)) (inl refl) refl y_offered)
goal_each o (inr (inr m)) = absurd m

constants : ConstantsAreIn Whole 6 turning_goal 0 of_number goal_offers
constants zero V e t = absurd (other_target e t refl)
constants (suc zero) V e t = subst (λ A. Member (offer_with turning_goal 0 of_number (constant 1) nil A) goal_offers) (some_same e) (inl refl)
constants (suc (suc zero)) V e t = absurd (other_target e t refl)
constants (suc (suc (suc zero))) V e t = absurd (other_target e t refl)
constants (suc (suc (suc (suc zero)))) V e t = absurd (other_target e t refl)
constants (suc (suc (suc (suc (suc zero))))) V e t = absurd (other_target e t refl)
constants (suc (suc (suc (suc (suc (suc k)))))) V e t = absurd (none_some e)

first_entries : NewEntriesAreIn Whole 6 turning_goal 0 of_number goal_offers first_block
first_entries zero U V n o e t = absurd (none_some o)
first_entries (suc zero) U V n o e t = absurd (none_some o)
first_entries (suc (suc zero)) U V n o e t = absurd (none_some o)
first_entries (suc (suc (suc zero))) U V n o e t = absurd (none_some o)
first_entries (suc (suc (suc (suc zero)))) U V n o e t = absurd (none_some o)
first_entries (suc (suc (suc (suc (suc zero))))) U V n o e t = absurd (none_some o)
first_entries (suc (suc (suc (suc (suc (suc zero)))))) U V n o e t = entry_member new_case 1 of_later goal_offers 6 _ U _ V o e (inr (inl refl))
first_entries (suc (suc (suc (suc (suc (suc (suc c))))))) U V n o e t = absurd (none_some o)

second_entries : NewEntriesAreIn Whole 6 turning_goal 0 of_number goal_offers second_block
second_entries zero U V n o e t = absurd (none_some o)
second_entries (suc zero) U V n o e t = absurd (none_some o)
second_entries (suc (suc zero)) U V n o e t = absurd (none_some o)
second_entries (suc (suc (suc zero))) U V n o e t = absurd (none_some o)
second_entries (suc (suc (suc (suc zero)))) U V n o e t = absurd (none_some o)
second_entries (suc (suc (suc (suc (suc zero))))) U V n o e t = absurd (none_some o)
second_entries (suc (suc (suc (suc (suc (suc zero)))))) U V n o e t = absurd (other_target e t refl)
second_entries (suc (suc (suc (suc (suc (suc (suc zero))))))) U V n o e t = absurd (other_target e t refl)
second_entries (suc (suc (suc (suc (suc (suc (suc (suc c)))))))) U V n o e t = absurd (none_some o)

pub goal_every : (o : NumberedOffer) → IsOfferTo Whole 6 worlds turning_goal 0 of_number o → Member o goal_offers
goal_every = heads_are_in Whole 6 turning_goal 0 of_number goal_offers worlds refl constants (λ c V B p e t. absurd (none_some p)) (first_entries, (second_entries, tt))

other_label : first_block ≡ second_block → ⊥
other_label e = (let p : suc zero ≡ suc (suc zero) = ap (λ (B : Block). length B.entries) e in omega (arith, p))

stands_first : (w : ℕ) → StandsAt w first_block worlds → w ≡ 0
stands_first zero s = refl
stands_first (suc zero) s = absurd (other_label s)
stands_first (suc (suc w)) s = absurd s

abbrev ranks : List (List ℕ)
ranks = (0 ∷ 1 ∷ []) ∷ (1 ∷ 0 ∷ 0 ∷ 0 ∷ []) ∷ []

every_rank : (o : NumberedOffer) (r : List ℕ) → Member o goal_offers → HasNumberedRank 6 worlds turning_goal o r → Member r ranks
every_rank o r (inl e) h = signature_rank_in 6 worlds turning_goal o 1 e refl refl ranks (inl refl) r h
every_rank o r (inr (inl e)) h = entry_rank_in 6 worlds turning_goal o 6 _ e refl refl ranks (λ w s. subst (λ v. Member (1 ∷ v ∷ 0 ∷ 0 ∷ []) ranks) (sym (stands_first w s)) (inr (inl refl))) r h
every_rank o r (inr (inr m)) h = absurd m

-- Y = c n and N = n are solved, for the constant c of d or of e.y.
abbrev types : ℕ → Option LfType
types = context_metavariables (exp ∷ on_one 1 (var 0) ∷ exp ∷ [])

abbrev n : Term
n = root (metavariable 0) nil

abbrev on_n : ℕ → Term
on_n c = root (constant c) (app n nil)

abbrev y_type : LfType
y_type = on_one 1 (root (metavariable 2) nil)

abbrev start : ℕ → Store
start c = record { metavariables = types; bindings = []; equations = record { local = []; left = root (metavariable 1) nil; right = on_n c; of_type = y_type } ∷ record { local = []; left = root (metavariable 2) nil; right = n; of_type = exp } ∷ [] }

abbrev solved_store : ℕ → Store
solved_store c = record { metavariables = types; bindings = record { of = 2; value = n } ∷ record { of = 1; value = on_n c } ∷ []; equations = [] }

abbrev solved_order : ℕ → List ListedMetavariable
solved_order c = record { of = 1; of_type = y_type; value = Some (on_n c) } ∷ record { of = 2; of_type = exp; value = Some n } ∷ record { of = 0; of_type = exp; value = None } ∷ []

module _ (Σ : Signature) (signed : IsSignature Σ) (kind : Σ.kinds 0 ≡ Some star) (c : ℕ) (ready : IsWellFormed Σ (start c)) where
  run : Run Σ (start c) (solved_store c)
  run =
      then_run (bind {A = y_type} on_left [] 1 [] (on_n c) y_type refl tt (no_argument_of 1) (record { inverted = record { inversion = on_n c; is = refl }; reached = same_number 0; avoids = (closed, tt, λ v. v); within = ((tt, tt), tt) }))
      (then_run (bind {A = exp} on_left [] 2 [] n exp refl unbound no_argument (record { inverted = record { inversion = n; is = refl }; reached = same_number 0; avoids = (closed, ((λ v. absurd v), tt), λ v. v); within = (tt, tt) })) no_step)
    where
      closed : (k : ℕ) (A : LfType) → Holds (same_number 0 k) → types k ≡ Some A → MetavariablesInType (λ j. Holds (same_number 0 j)) A
      closed zero A v e = subst (MetavariablesInType (λ j. Holds (same_number 0 j))) (some_same e) tt
      closed (suc k) A v e = absurd v

      unbound : Unbound (record { of = 1; value = on_n c } ∷ []) 2
      unbound = ((λ e. omega (arith, e)), tt)

  abbrev by_run : Solved Σ (start c) (solved_store c)
  by_run = run_solved Σ signed ready run refl

  is_order : IsDependencyOrder Σ types (IsFilling Σ [] (solved_store c)) (solved_order c)
  is_order = (
    ((tt, refl, (λ h. h), tt, (star, kind, tt), (λ ρ. refl), tt), refl, not_among refl (λ b. b), tt, (star, kind, tt), (λ ρ. refl), ((inl refl, tt), (exp, (exp, refl, refl), (refl, λ β u. refl)), λ ρ. refl)),
    refl,
    not_among refl (not_among refl (λ b. b)),
    ((inl refl, tt), tt),
    by_run.well_formed.typed.declarations_typed.metavariables_typed 1 y_type refl,
    (λ ρ. refl),
    (((inr (inl refl), tt), tt), value_typed, λ ρ. refl),
  )
    where
      value_typed : OpenHasType Σ [] types (IsFilling Σ [] (solved_store c)) [] (on_n c) y_type
      value_typed = let (A, e, h) = by_run.well_formed.typed.bindings_typed.1.0 in subst (OpenHasType Σ [] types (IsFilling Σ [] (solved_store c)) [] (on_n c)) (sym (some_same e)) h

  listed : (m : ℕ) (A : LfType) → types m ≡ Some A → IsListed (solved_order c) m
  listed zero A e = inr (inr (inl refl))
  listed (suc zero) A e = inl refl
  listed (suc (suc zero)) A e = inr (inl refl)
  listed (suc (suc (suc m))) A e = absurd (none_some e)

  abbrev form : IsWellFormed Σ (solved_store c)
  form = record {
    order = solved_order c;
    is_order = is_order;
    all_listed = listed;
    bindings_listed = ((exp, inr (inl refl)), ((y_type, inl refl), tt));
    values_bound = ((λ N e. inr (inl (ap (λ X. record { of = 1; value = X }) (sym (some_same e))))), ((λ N e. inl (ap (λ X. record { of = 2; value = X }) (sym (some_same e)))), ((λ N e. absurd (none_some e)), tt)));
    typed = by_run.well_formed.typed;
  }

  abbrev is_solved : Solved Σ (start c) (solved_store c)
  is_solved = record { run = run; keeps = by_run.keeps; well_formed = form; none_left = refl }

pub first_alone : AreTypedBlocks Whole (first_block ∷ [])
first_alone B (inl e) = blocks B (inl e)
first_alone B (inr m) = absurd m

none_typed : AreTypedBlocks Whole []
none_typed B m = absurd m

abbrev plain_ok : IsSignature (with_entries Whole 6 [])
plain_ok = with_entries_is_signature Whole ok 6 free [] none_typed

abbrev entries_ok : IsSignature (with_entries Whole 6 (first_block ∷ []))
entries_ok = with_entries_is_signature Whole ok 6 free (first_block ∷ []) first_alone

d_found : (below : ℕ → ℕ → Bool) → NumberedUnifierFinds Whole 6 below d_offer (kind_pi exp star) (Some d_case)
d_found below = (solved_store 1, is_solved (with_entries Whole 6 []) plain_ok refl 1 (numbered_store_is_ready Whole ok worlds blocks 6 free below turning_goal goal_typed 0 of_number refl (constant 1) nil t_all d_offered (kind_pi exp star) refl), refl)

y_found : (below : ℕ → ℕ → Bool) → NumberedUnifierFinds Whole 6 below y_offer (kind_pi exp star) (Some y_case)
y_found below = (solved_store 6, is_solved (with_entries Whole 6 (first_block ∷ [])) entries_ok refl 6 (numbered_store_is_ready Whole ok worlds blocks 6 free below new_case (new_block_stays_typed Whole ok worlds blocks 6 free turning_goal goal_typed first_block (inl refl)) 1 of_later (of_number, refl, refl) (constant 6) (app (var 0) nil) (on_one 1 (var 0)) y_offered (kind_pi exp star) refl), refl)

pub goal_listed : (below : ℕ → ℕ → Bool) → Listed (NumberedAnswer Whole 6 below) goal_offers (d_case ∷ y_case ∷ [])
goal_listed below = with_case (record { kind = kind_pi exp star; of_family = refl; finds = d_found below }) (with_case (record { kind = kind_pi exp star; of_family = refl; finds = y_found below }) no_offer)

pub goal_lists : (below : ℕ → ℕ → Bool) → ListsCases Whole 6 worlds below turning_goal 0 (d_case ∷ y_case ∷ [])
goal_lists below = record {
  unified = record { type = of_number; at = refl; offers = goal_offers; each = goal_each; every = goal_every; listed = goal_listed below };
  ranks = ranks;
  in_order = next_in_order (signature_rank 1 refl refl) (inl (omega arith)) (one_in_order (entry_rank 6 0 _ refl refl refl));
  every_rank = λ o r f h. every_rank o r (goal_every o f) h;
}
