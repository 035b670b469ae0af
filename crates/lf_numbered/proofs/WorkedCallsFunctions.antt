-- A worked clash of an entry that is a function with a constant.
use Rattle.std.proofs.Common.{◌≡◌, ℕ, zero, suc, ◌+◌, ◌≤◌, List, [], ◌∷◌, length, inl, inr, refl, sym, ap, ◌∙◌, subst, arith}
use Rattle.std.specs.Prelude.{Bool, true, Some, None}
use Rattle.lf.specs.Syntax.{constant, variable, Kind, Spine, Term, root, nil, app, LfType, arrow, base, kind_pi, pi, star}
use Rattle.lf.specs.AtOnce.{in_front}
use Rattle.lf.specs.Substitution.{Image, apply_image, keep, put, substitute_type, reduce}
use Rattle.lf.specs.Typing.{IsKind, IsType, IsSignature}
use Rattle.lf.specs.Variables.{target_arguments}
use Rattle.lf.specs.Subordination.{Block, AreTypedBlocks, IsTypedBlock, Member}
use Rattle.lf_unification.specs.Steps.{constants_differ, next_equation, no_step, then_run}
use Rattle.lf_checks.specs.Marks.{SamePlaces}
use Rattle.lf_totality.specs.Examples.{nat, var}
use Rattle.lf_totality.specs.ExamplesGroups.{on_one}
use Rattle.lf_totality.specs.ExamplesReached.{head_of}
use Rattle.lf_coverage.specs.Listed.{without_case, no_offer}
use Rattle.lf_coverage.specs.Matching.{ArePlaces}
use Rattle.lf_coverage.proofs.Parts.{none_some, some_same}
use Rattle.lf_coverage.proofs.UsedVariables.{types_of_two}
use Rattle.lf_numbered.specs.EntryConstants.{IsFreeFrom}
use Rattle.lf_numbered.specs.NumberedCallsMeeting.{IsApartByNumber}
use Rattle.lf_numbered.specs.NumberedCallsOrder.{AreInNumberedOrder, HasNumberedRank, one_in_order, signature_rank}
use Rattle.lf_numbered.specs.NumberedArguments.{HasNumberedArguments}
use Rattle.lf_numbered.specs.NumberedInstance.{first_constant}
use Rattle.lf_numbered.specs.NumberedSplits.{IsOfferTo, NumberedOffer, NumberedUnifierFinds, of_case}
use Rattle.lf_numbered.specs.OwnStores.{offer_signature}
use Rattle.lf_numbered.specs.OwnTerms.{blocks_of, own_terms, TypeOnOwnTerms}
use Rattle.lf_numbered.specs.Reading.{variable_past}
use Rattle.lf_numbered.specs.WorkedCallsFunctions.{FunctionEntryClashes, Rising, applied_entry, entry_of, index_entry, rising, rising_block, rising_kinds, rising_types}
use Rattle.lf_numbered.specs.TypedNumbered.{IsTypedNumberedCase}
use Rattle.lf_numbered.proofs.FreeFrom.{free_from}
use Rattle.lf_numbered.proofs.NumberedCallsLaws.{answered_by_number_is_split_answer}
use Rattle.lf_numbered.proofs.OffersListed.{ConstantsAreIn, EntriesAreIn, NewEntriesAreIn, heads_are_in, offer_with, other_target}
use Rattle.lf_numbered.proofs.RanksListed.{signature_rank_in}

abbrev worlds : List Block
worlds = rising_block ∷ []

ok : IsSignature Rising
ok = record { types_ok = types; kinds_ok = kinds }
  where
    types : (c : ℕ) (A : LfType) → rising_types c ≡ Some A → IsType Rising [] A
    types zero A e = subst (IsType Rising []) (some_same e) ((star, refl, tt), (star, refl, tt))
    types (suc zero) A e = subst (IsType Rising []) (some_same e) ((star, refl, tt), (_, refl, ((pi nat nat, refl, ((nat, refl, refl), refl)), tt)))
    types (suc (suc c)) A e = absurd cc

    kinds : (a : ℕ) (K : Kind) → rising_kinds a ≡ Some K → IsKind Rising [] K
    kinds zero K e = subst (IsKind Rising []) (some_same e) tt
    kinds (suc zero) K e = subst (IsKind Rising []) (some_same e) ((star, refl, tt), tt)
    kinds (suc (suc zero)) K e = subst (IsKind Rising []) (some_same e) ((star, refl, tt), ((_, refl, ((nat, refl, refl), tt)), tt))
    kinds (suc (suc (suc a))) K e = absurd cc

blocks : AreTypedBlocks Rising worlds
blocks B (inl e) = subst (IsTypedBlock Rising) (sym e) (tt, ((star, refl, tt), (star, refl, tt)))
blocks B (inr m) = absurd m

free : IsFreeFrom Rising 3
free = free_from Rising 3 (λ c. refl) (λ a. refl)

-- a (b.h X)
abbrev of_entry_type : LfType
of_entry_type = on_one 1 (entry_of (var 0))

abbrev at_zero : LfType
at_zero = on_one 1 (entry_of (var 1))

entry_typed : IsTypedNumberedCase Rising 3 worlds applied_entry
entry_typed = record {
  variables = record { variables = ((tt, (star, refl, tt)), (_, refl, ((pi nat nat, refl, ((nat, refl, refl), refl)), tt))); on_own_terms = types_of_two (λ i A. TypeOnOwnTerms (own_terms 3 applied_entry.blocks) A) of_entry_type nat ((((_, refl), (tt, tt)), tt)) tt; blocks = (inl refl, (keep, (λ i A g. absurd g), refl), tt, tt) };
  local = ((tt, (star, refl, tt)), (_, refl, ((pi nat nat, refl, ((nat, refl, refl), refl)), tt)));
  local_on_own = tt;
  given = tt;
  given_on_own = tt;
  arguments = ((base 0, (arrow (base 0) (base 0), refl, ((base 0, refl, refl), refl))), ((base 1, (base 1, refl, refl)), tt));
  arguments_on_own = ((((_, refl), (tt, tt)), (tt, tt)));
}

-- a-s alone is offered to Y.
abbrev the_offer : NumberedOffer
the_offer = record { case = applied_entry; variable = 0; type = at_zero; head = constant 1; terms = nil; left = rising }

abbrev offers : List NumberedOffer
offers = the_offer ∷ []

each : (o : NumberedOffer) → Member o offers → IsOfferTo Rising 3 worlds applied_entry 0 at_zero o
each o (inl e) = subst (IsOfferTo Rising 3 worlds applied_entry 0 at_zero) (sym e) (of_case (constant 1) nil rising (offer_signature 1 rising refl refl))
each o (inr m) = absurd m

constants : ConstantsAreIn Rising 3 applied_entry 0 at_zero offers
constants zero V e t = absurd (other_target e t refl)
constants (suc zero) V e t = subst (λ A. Member (offer_with applied_entry 0 at_zero (constant 1) nil A) offers) (some_same e) (inl refl)
constants (suc (suc k)) V e t = absurd (none_some e)

old_entries : EntriesAreIn Rising 3 applied_entry 0 at_zero offers
old_entries zero U V o e t = absurd (none_some o)
old_entries (suc zero) U V o e t = absurd (none_some o)
old_entries (suc (suc zero)) U V o e t = absurd (none_some o)
old_entries (suc (suc (suc zero))) U V o e t = absurd (other_target e t refl)
old_entries (suc (suc (suc (suc c)))) U V o e t = absurd (none_some o)

new_entries : NewEntriesAreIn Rising 3 applied_entry 0 at_zero offers rising_block
new_entries zero U V n o e t = absurd (none_some o)
new_entries (suc zero) U V n o e t = absurd (none_some o)
new_entries (suc (suc zero)) U V n o e t = absurd (none_some o)
new_entries (suc (suc (suc zero))) U V n o e t = absurd (other_target e t refl)
new_entries (suc (suc (suc (suc zero)))) U V n o e t = absurd (other_target e t refl)
new_entries (suc (suc (suc (suc (suc c))))) U V n o e t = absurd (none_some o)

every : (o : NumberedOffer) → IsOfferTo Rising 3 worlds applied_entry 0 at_zero o → Member o offers
every = heads_are_in Rising 3 applied_entry 0 at_zero offers worlds refl constants old_entries (new_entries, tt)

in_order : AreInNumberedOrder 3 worlds applied_entry offers ((0 ∷ 1 ∷ []) ∷ [])
in_order = one_in_order (signature_rank 1 refl refl)

every_rank : (o : NumberedOffer) (r : List ℕ) → Member o offers → HasNumberedRank 3 worlds applied_entry o r → Member r ((0 ∷ 1 ∷ []) ∷ [])
every_rank o r (inl e) h = signature_rank_in 3 worlds applied_entry o 1 e refl refl ((0 ∷ 1 ∷ []) ∷ []) (inl refl) r h
every_rank o r (inr m) h = absurd m

differ : ◌≡◌ {A = ℕ} 3 0 → ⊥
differ e = omega (arith, e)

-- b.h X = s N
refuted : (below : ℕ → ℕ → Bool) → NumberedUnifierFinds Rising 3 below the_offer (kind_pi nat star) None
refuted below = record { reached = _; run = then_run (next_equation (_ ∷ []) _ []) no_step; refuted = constants_differ differ }

-- a (b.h X) is apart from a (s N): also where b's entry is a variable of a context.
from_first : (n : ℕ) (Bs : List Block) (k : ℕ) → n ≤ first_constant n Bs k
from_first n [] k = omega arith
from_first n (B ∷ Bs) zero = omega arith
from_first n (B ∷ Bs) (suc k) = omega (from_first (n + length B.entries) Bs k, arith)

no_successor : {c d : ℕ} {S T : Spine} → root (constant c) S ≡ root (constant d) T → c ≡ d
no_successor e = cc

no_variable : {i c : ℕ} {S T : Spine} → root (variable i) S ≡ root (constant c) T → ⊥
no_variable e = cc

-- what is behind one free variable stays
behind_stays : (M : Image) (σ : ℕ → Image) → σ ≡ in_front M keep → (x : Image) (S T P : Spine) (c : ℕ) → apply_image reduce (σ (variable_past 1 x)) S ≡ root (constant c) T → ⊥
behind_stays M σ e (keep v) S T P c q = no_variable (subst (λ y. apply_image reduce y S ≡ root (constant c) T) (ap σ (plus_one v) ∙ ap (λ (f : ℕ → Image). f (suc v)) e) q)
  where
    plus_one : (v : ℕ) → v + 1 ≡ suc v
    plus_one v = omega arith
behind_stays M σ e (put a N) S T P c q = no_variable (subst (λ y. apply_image reduce y S ≡ root (constant c) T) (ap (λ (f : ℕ → Image). f 1) e) q)

no_entry : (θ : ℕ → ℕ → Image) (σ : ℕ → Image) (M : Image) → σ ≡ in_front M keep → (T : Spine) → HasNumberedArguments 3 index_entry θ σ T → (N : Term) → SamePlaces (true ∷ []) T (app (root (constant 0) (app N nil)) nil) → ⊥
no_entry θ σ M e nil h N s = h
no_entry θ σ M e (app P T) h N s = behind_stays M σ e (θ 0 0) _ _ nil 0 (sym h.0 ∙ s.0)

apart : IsApartByNumber Rising 3 worlds index_entry (head_of rising)
apart = record {
  no_instance = λ s. above_zero (from_first 3 (blocks_of s.common.blocks) (s.numbers 0)) (no_successor ((subst (λ Ms. ArePlaces Ms (target_arguments (substitute_type reduce s.of_pattern.values (head_of rising).type))) s.of_case.arguments s.of_pattern.same).0));
  no_tuple = λ V typed S Σ' x G w F σ T h k t.
      let (N, τ, is_keep, _, same) = h.is_ground.values in
      no_entry h.instances h.values _ (same ∙ ap (in_front _) is_keep) T h.has_arguments _ t.same;
}
  where
    above_zero : {n : ℕ} → 3 ≤ n → n + 0 ≡ 0 → ⊥
    above_zero l e = omega (l, e, arith)

pub function_entry_clashes : FunctionEntryClashes
function_entry_clashes = (
  (λ below s. answered_by_number_is_split_answer Rising ok worlds blocks below s 3 free applied_entry entry_typed 0 [] (record {
    unified = record {
      type = at_zero;
      at = refl;
      offers = offers;
      each = each;
      every = every;
      listed = without_case (record { kind = kind_pi nat star; of_family = refl; finds = refuted below }) no_offer;
    };
    ranks = (0 ∷ 1 ∷ []) ∷ [];
    in_order = in_order;
    every_rank = λ o r f h. every_rank o r (every o f) h;
  })),
  apart,
)
