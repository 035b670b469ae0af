-- The split of the worked goal with a local context: k alone is offered, and its argument is raised over y.
use Rattle.std.proofs.Common.{◌≡◌, ℕ, zero, suc, ◌<◌, List, [], ◌∷◌, inl, inr, refl, sym, ap, ◌∙◌, subst, arith}
use Rattle.std.specs.Prelude.{Option, Some, None}
use Rattle.lf.specs.Syntax.{Head, constant, lambda, metavariable, Term, root, Spine, nil, app, LfType, pi, arrow, base, star, weaken}
use Rattle.lf.specs.Typing.{IsSignature, Signature, TypeAt}
use Rattle.lf.specs.Variables.{binders, same_number, target}
use Rattle.lf.specs.Subordination.{Member}
use Rattle.lf_unification.specs.Dependency.{IsDependencyOrder, IsListed, ListedMetavariable}
use Rattle.lf_unification.specs.Inversion.{IsPattern}
use Rattle.lf_unification.specs.OpenTyping.{MetavariablesInType, OpenHasType}
use Rattle.lf_unification.specs.Outside.{Holds}
use Rattle.lf_unification.specs.PartialInstance.{IsFilling}
use Rattle.lf_unification.specs.Patterns.{beyond, pattern_renaming}
use Rattle.lf_unification.specs.Solving.{IsWellFormed, Solved}
use Rattle.lf_unification.specs.Steps.{Run, bind, no_step, open_lambdas, then_run}
use Rattle.lf_unification.specs.Unifiers.{Store, on_left}
use Rattle.lf_unification.proofs.Runs.{run_solved}
use Rattle.lf_coverage.specs.Listed.{with_case, no_offer}
use Rattle.lf_coverage.specs.SplitStore.{context_metavariables}
use Rattle.lf_coverage.proofs.OtherNumbers.{not_among}
use Rattle.lf_coverage.proofs.Parts.{none_some, some_same}
use Rattle.lf_numbered.specs.EntryConstants.{with_entries}
use Rattle.lf_numbered.specs.NumberedCalls.{ListsCases}
use Rattle.lf_numbered.specs.NumberedCallsOrder.{HasNumberedRank, one_in_order, signature_rank}
use Rattle.lf_numbered.specs.NumberedSplits.{IsOfferTo, NumberedOffer, NumberedUnifierFinds, of_case, of_new_block}
use Rattle.lf_numbered.specs.OwnStores.{IsNumberedOffer, numbered_store, offer_entry, offer_signature, offer_taken}
use Rattle.lf_numbered.specs.OwnTerms.{TypeOnOwnTerms, own_terms}
use Rattle.lf_numbered.specs.TypedNumbered.{IsTypedNumberedCase}
use Rattle.lf_numbered.specs.WorkedCallsLocals.{Locals, fam_c, fam_d, k_type, local_below, local_goal, raised_case, the_y, w_type, y_type}
use Rattle.lf_numbered.proofs.EntrySignature.{with_entries_is_signature}
use Rattle.lf_numbered.proofs.OffersListed.{offer_with}
use Rattle.lf_numbered.proofs.OwnStoresStart.{numbered_store_is_ready}
use Rattle.lf_numbered.proofs.RanksListed.{signature_rank_in}
use Rattle.lf_numbered.proofs.WorkedCallsLocalsBelow.{setting}

-- Y : {v:d} {y:{u:d} a} c
abbrev pub of_y : LfType
of_y = pi fam_d (pi y_type fam_c)

-- The goal is typed.
pub goal_typed : IsTypedNumberedCase Locals 5 [] local_goal
goal_typed = record {
  variables = record { variables = (tt, ((star, refl, tt), (((star, refl, tt), (star, refl, tt)), (star, refl, tt)))); on_own_terms = own; blocks = tt };
  local = (((tt, ((star, refl, tt), (((star, refl, tt), (star, refl, tt)), (star, refl, tt)))), (star, refl, tt)), ((star, refl, tt), (star, refl, tt)));
  local_on_own = ((tt, tt), (tt, tt));
  given = tt;
  given_on_own = tt;
  arguments = ((base 1, (arrow (base 3) (arrow (arrow (base 3) (base 0)) (base 1)), refl, ((base 3, refl, refl), ((arrow (base 3) (base 0), refl, ((base 3, refl, refl), refl)), refl)))), tt);
  arguments_on_own = ((tt, ((tt, tt), tt)), tt);
}
  where
    own : (i : ℕ) (A : LfType) → TypeAt (of_y ∷ []) i A → TypeOnOwnTerms (own_terms 5 []) A
    own zero A e = subst (TypeOnOwnTerms (own_terms 5 [])) (sym e) (tt, ((tt, tt), tt))
    own (suc i) A (B, g, e) = absurd g

-- k alone is offered.
abbrev the_offer : NumberedOffer
the_offer = record { case = local_goal; variable = 0; type = of_y; head = constant 0; terms = nil; left = k_type }

abbrev offers : List NumberedOffer
offers = the_offer ∷ []

k_offered : IsNumberedOffer Locals 5 local_goal of_y (constant 0) nil k_type
k_offered = offer_signature 0 k_type refl refl

each : (o : NumberedOffer) → Member o offers → IsOfferTo Locals 5 [] local_goal 0 of_y o
each o (inl e) = subst (IsOfferTo Locals 5 [] local_goal 0 of_y) (sym e) (of_case (constant 0) nil k_type k_offered)
each o (inr m) = absurd m

no_taken : (j : ℕ) (B : LfType) → j < 2 → TypeAt (binders local_goal.variables of_y) j B → target B ≡ 1 → ⊥
no_taken zero B l g t = by (ap target g) t
  where
    by : {n : ℕ} → n ≡ 0 → n ≡ 1 → ⊥
    by e f = omega (e, f, arith)
no_taken (suc zero) B l (C, g, e) t = by (ap target (e ∙ ap weaken g)) t
  where
    by : {n : ℕ} → n ≡ 3 → n ≡ 1 → ⊥
    by e f = omega (e, f, arith)
no_taken (suc (suc j)) B l g t = omega (l, arith)

of_this : (h : Head) (U : Spine) (A : LfType) → IsNumberedOffer Locals 5 local_goal of_y h U A → Member (offer_with local_goal 0 of_y h U A) offers
of_this h U A (offer_signature zero V e t) = subst (λ B. Member (offer_with local_goal 0 of_y (constant 0) nil B) offers) (some_same e) (inl refl)
of_this h U A (offer_signature (suc k) V e t) = absurd (none_some e)
of_this h U A (offer_taken j B l g t) = absurd (no_taken j B l g t)
of_this h U A (offer_entry c S V o e t) = absurd (none_some o)

every : (o : NumberedOffer) → IsOfferTo Locals 5 [] local_goal 0 of_y o → Member o offers
every o (of_case h U A f) = of_this h U A f
every o (of_new_block B c U A m n f) = absurd m

every_rank : (o : NumberedOffer) (r : List ℕ) → Member o offers → HasNumberedRank 5 [] local_goal o r → Member r ((0 ∷ 0 ∷ []) ∷ [])
every_rank o r (inl e) h = signature_rank_in 5 [] local_goal o 0 e refl refl ((0 ∷ 0 ∷ []) ∷ []) (inl refl) r h
every_rank o r (inr m) h = absurd m

-- Y v y = k (Z y) is solved.
abbrev Entries : Signature
Entries = with_entries Locals 5 []

entries_ok : IsSignature Entries
entries_ok = with_entries_is_signature Locals setting.signature 5 setting.free [] (λ B m. absurd m)

abbrev types : ℕ → Option LfType
types = context_metavariables (w_type ∷ of_y ∷ [])

abbrev body : Term
body = root (constant 0) (app (root (metavariable 0) (app the_y nil)) nil)

abbrev y_value : Term
y_value = lambda (lambda body)

abbrev solved_store : Store
solved_store = record { metavariables = types; bindings = record { of = 1; value = y_value } ∷ []; equations = [] }

abbrev solved_order : List ListedMetavariable
solved_order = record { of = 1; of_type = of_y; value = Some y_value } ∷ record { of = 0; of_type = w_type; value = None } ∷ []

both_kept : IsPattern (y_type ∷ fam_d ∷ []) (arrow (base 3) (arrow (arrow (base 3) (base 0)) (base 1))) (1 ∷ 0 ∷ [])
both_kept = record { places = λ Γ. (refl, (refl, tt)); distinct = apart }
  where
    apart : (i j : ℕ) → pattern_renaming (arrow (base 3) (arrow (arrow (base 3) (base 0)) (base 1))) (1 ∷ 0 ∷ []) (beyond (y_type ∷ fam_d ∷ [])) i ≡ pattern_renaming (arrow (base 3) (arrow (arrow (base 3) (base 0)) (base 1))) (1 ∷ 0 ∷ []) (beyond (y_type ∷ fam_d ∷ [])) j → i ≡ j
    apart zero zero e = refl
    apart zero (suc zero) e = absurd (omega (arith, e))
    apart zero (suc (suc j)) e = absurd (omega (arith, e))
    apart (suc zero) zero e = absurd (omega (arith, e))
    apart (suc zero) (suc zero) e = refl
    apart (suc zero) (suc (suc j)) e = absurd (omega (arith, e))
    apart (suc (suc i)) zero e = absurd (omega (arith, e))
    apart (suc (suc i)) (suc zero) e = absurd (omega (arith, e))
    apart (suc (suc i)) (suc (suc j)) e = e

abbrev store : Store
store = numbered_store local_below local_goal 0 of_y (constant 0) nil k_type star

ready : IsWellFormed Entries store
ready = numbered_store_is_ready Locals setting.signature [] setting.blocks 5 setting.free local_below local_goal goal_typed 0 of_y refl (constant 0) nil k_type k_offered star refl

run : Run Entries store solved_store
run =
    then_run open_lambdas
    (then_run open_lambdas
    (then_run (bind {A = of_y} on_left (y_type ∷ fam_d ∷ []) 1 (1 ∷ 0 ∷ []) body fam_c refl tt both_kept (record { inverted = record { inversion = body; is = refl }; reached = same_number 0; avoids = (closed, tt, λ v. v); within = ((tt, ((tt, tt), tt)), tt) })) no_step))
  where
    closed : (k : ℕ) (A : LfType) → Holds (same_number 0 k) → types k ≡ Some A → MetavariablesInType (λ j. Holds (same_number 0 j)) A
    closed zero A v e = subst (MetavariablesInType (λ j. Holds (same_number 0 j))) (some_same e) ((tt, tt), tt)
    closed (suc k) A v e = absurd v

abbrev by_run : Solved Entries store solved_store
by_run = run_solved Entries entries_ok ready run refl

is_order : IsDependencyOrder Entries types (IsFilling Entries [] solved_store) solved_order
is_order = (
  (tt, refl, (λ h. h), ((tt, tt), tt), (((star, refl, tt), (star, refl, tt)), (star, refl, tt)), (λ ρ. refl), tt),
  refl,
  not_among refl (λ b. b),
  (tt, ((tt, tt), tt)),
  ((star, refl, tt), (((star, refl, tt), (star, refl, tt)), (star, refl, tt))),
  (λ ρ. refl),
  (((inl refl, ((tt, tt), tt)), tt), value_typed, λ ρ. refl),
)
  where
    value_typed : OpenHasType Entries [] types (IsFilling Entries [] solved_store) [] y_value of_y
    value_typed = let (A, e, h) = by_run.well_formed.typed.bindings_typed.0 in subst (OpenHasType Entries [] types (IsFilling Entries [] solved_store) [] y_value) (sym (some_same e)) h

listed : (m : ℕ) (A : LfType) → types m ≡ Some A → IsListed solved_order m
listed zero A e = inr (inl refl)
listed (suc zero) A e = inl refl
listed (suc (suc m)) A e = absurd (none_some e)

abbrev form : IsWellFormed Entries solved_store
form = record {
  order = solved_order;
  is_order = is_order;
  all_listed = listed;
  bindings_listed = ((of_y, inl refl), tt);
  values_bound = ((λ N e. inl (ap (λ X. record { of = 1; value = X }) (sym (some_same e)))), ((λ N e. absurd (none_some e)), tt));
  typed = by_run.well_formed.typed;
}

abbrev is_solved : Solved Entries store solved_store
is_solved = record { run = run; keeps = by_run.keeps; well_formed = form; none_left = refl }

k_found : NumberedUnifierFinds Locals 5 local_below the_offer star (Some raised_case)
k_found = (solved_store, is_solved, refl)

pub lists : ListsCases Locals 5 [] local_below local_goal 0 (raised_case ∷ [])
lists = record {
  unified = record {
    type = of_y;
    at = refl;
    offers = offers;
    each = each;
    every = every;
    listed = with_case (record { kind = star; of_family = refl; finds = k_found }) no_offer;
  };
  ranks = (0 ∷ 0 ∷ []) ∷ [];
  in_order = one_in_order (signature_rank 0 refl refl);
  every_rank = λ o r f h. every_rank o r (every o f) h;
}
