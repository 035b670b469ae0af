-- A pruned metavariable over an entry's constant: its value stands on own terms.
use Rattle.std.proofs.Common.{◌≡◌, ℕ, zero, suc, ◌≤◌, ◌<◌, List, [], ◌∷◌, Option, Some, None, inl, inr, refl, sym, ap, ◌∙◌, subst, arith}
use Rattle.lf.specs.Eta.{append}
use Rattle.lf.specs.Syntax.{metavariable, Term, Spine, lambda, nil, app, LfType, pi, star, base, arrow, rename, root}
use Rattle.lf.specs.Typing.{TypeAt, HasType, IsType, IsSignature}
use Rattle.lf.specs.Subordination.{Block, Member, IsTypedBlock}
use Rattle.lf_unification.specs.Filling.{fill_metavariable, rename_value}
use Rattle.lf_unification.specs.Inversion.{Allowed, ElementAt, IsPattern}
use Rattle.lf_unification.specs.OpenTyping.{Declares, MetavariablesInType, set_at, ValueHasType, skeletons_of}
use Rattle.lf_unification.specs.Patterns.{InImage, Injective, beyond, pattern_renaming}
use Rattle.lf_unification.specs.Pruning.{CanDrop, PrunedType}
use Rattle.lf_unification.specs.Rigid.{here}
use Rattle.lf_unification.specs.Scope.{IsScoped}
use Rattle.lf_unification.specs.Steps.{Step, prune_inside}
use Rattle.lf_unification.specs.Unifiers.{ExtendsFilling, Solution, on_left}
use Rattle.lf_unification.proofs.Inverse.{rename_injective}
use Rattle.lf_unification.proofs.StepLemmas.{value_of}
use Rattle.lf_totality.specs.Examples.{nat, var}
use Rattle.lf_totality.specs.ExamplesGroups.{on_one, one_kind}
use Rattle.lf_totality.specs.ExamplesBlocks.{Numbered, numbered_block}
use Rattle.lf_totality.proofs.ExamplesBlocks.{numbered_ok}
use Rattle.lf_coverage.proofs.Parts.{none_some, some_same}
use Rattle.lf_numbered.specs.OwnTerms.{OnOwnTerms}
use Rattle.lf_numbered.specs.OwnValues.{ValuesOnOwnTerms}
use Rattle.lf_numbered.specs.ExamplesEntries.{entry_on}
use Rattle.lf_numbered.specs.OwnValuesExamples.{Entries, given_number, three_types, four_types, unpruned, once_pruned, entry_filling, on_k, PrunedStaysOnOwnTerms}
use Rattle.lf_numbered.proofs.EntrySignature.{with_entries_is_signature}
use Rattle.lf_numbered.proofs.ExamplesEntries.{entry_stands_on_its_terms}
use Rattle.lf_numbered.proofs.OwnValuesSteps.{step_values}

next_distinct : Injective suc
next_distinct i j e = omega arith

-- y loses its place
abbrev pruned : PrunedType three_types 2 0
pruned = record {
  local = nat ∷ [];
  family = 1;
  indices = app given_number nil;
  declared = refl;
  kept_local = [];
  kept_indices = app given_number nil;
  kept = [];
  distinct = next_distinct;
  places = λ Γ. tt;
  part = record { outer = λ i. refl; types = λ i Y g. absurd g };
  same_target = refl;
  others_stay = others;
  is_lost = λ i. absurd (no_zero i.0 i.1);
}
  where
    others : (i : ℕ) → (i ≡ 0 → ⊥) → InImage suc i
    others zero n = absurd (n refl)
    others (suc i) n = (i, refl)

    no_zero : (j : ℕ) → suc j ≡ 0 → ⊥
    no_zero j e = omega arith

on_y : IsPattern (nat ∷ []) (arrow (base 0) (base 1)) (0 ∷ [])
on_y = record { places = λ Γ. (refl, tt); distinct = distinct }
  where
    distinct : Injective (pattern_renaming (arrow (base 0) (base 1)) (0 ∷ []) (beyond (nat ∷ [])))
    distinct zero zero e = refl
    distinct zero (suc j) e = absurd (omega (arith, e))
    distinct (suc i) zero e = absurd (omega (arith, e))
    distinct (suc i) (suc j) e = e

abbrev can_drop : CanDrop three_types (nat ∷ []) (base 1) [] (root (metavariable 2) (app (var 0) nil))
can_drop = record {
  drop = record {
    m = 2;
    depth = 0;
    context = nat ∷ [];
    context_is = refl;
    ys = 0 ∷ [];
    is_pattern = on_y;
    at = here;
    place = 0;
    bad = 0;
    nth = refl;
    is_bad = bad;
    last = last;
  };
  dropped = 0;
  is_place = refl;
  pruned = pruned;
}
  where
    bad : Allowed (nat ∷ []) (base 1) [] 0 0 → ⊥
    bad (j, e) = no_zero e
      where
        no_zero : suc j ≡ 0 → ⊥
        no_zero e = omega arith

    last : (j y : ℕ) → 0 < j → ElementAt (0 ∷ []) j y → Allowed (nat ∷ []) (base 1) [] 0 y
    last zero y l e = absurd (omega (arith, l))
    last (suc j) y l e = absurd e

-- what is declared
declared_types : (m : ℕ) (A : LfType) → three_types m ≡ Some A → MetavariablesInType (Declares three_types) A
declared_types zero A e = subst (MetavariablesInType (Declares three_types)) (some_same e) tt
declared_types (suc zero) A e = subst (MetavariablesInType (Declares three_types)) (some_same e) (((nat, refl), tt), tt)
declared_types (suc (suc zero)) A e = subst (MetavariablesInType (Declares three_types)) (some_same e) (tt, (((nat, refl), tt), tt))
declared_types (suc (suc (suc m))) A e = absurd (none_some e)

scoped : IsScoped three_types 3 [] unpruned.equations
scoped = record {
  fresh = fresh;
  types = declared_types;
  bindings = tt;
  equations = (((on_one 1 given_number, refl), tt), ((pi nat (on_one 1 given_number), refl), (tt, tt)), tt);
  equation_types = ((tt, tt), (((nat, refl), tt), tt), tt);
}
  where
    fresh : (m : ℕ) → 3 ≤ m → three_types m ≡ None
    fresh zero l = absurd (omega (arith, l))
    fresh (suc zero) l = absurd (omega (arith, l))
    fresh (suc (suc zero)) l = absurd (omega (arith, l))
    fresh (suc (suc (suc m))) l = refl

step : Step Entries unpruned once_pruned
step = prune_inside {A = on_one 1 given_number} on_left (nat ∷ []) 1 [] (root (metavariable 2) (app (var 0) nil)) (on_one 1 given_number) refl (record { places = λ Γ. tt; distinct = next_distinct }) can_drop tt 3 scoped

-- the typed unifier that is given, and that of the pruned store
nat_known : IsType Entries [] nat
nat_known = (star, refl, tt)

-- b.x of an outer variable
entry_typed : (G : List LfType) (i : ℕ) → TypeAt G i nat → HasType Entries G (entry_on (var i)) (on_one 1 (var i))
entry_typed G i g = (pi nat (on_one 1 (var 0)), refl, ((nat, g, refl), refl))

solution : Solution Entries [] unpruned (nat ∷ []) entry_filling
solution = (record { context = (tt, nat_known); outer = λ i A g. absurd g; typed = typed }, (tt, (refl, tt)))
  where
    typed : (m : ℕ) → ValueHasType Entries (nat ∷ []) (skeletons_of three_types) entry_filling (three_types m) (entry_filling m)
    typed zero = (nat, refl, refl)
    typed (suc zero) = entry_typed (nat ∷ []) 0 refl
    typed (suc (suc zero)) = entry_typed (nat ∷ nat ∷ []) 1 (nat, refl, refl)
    typed (suc (suc (suc m))) = tt

abbrev extended : ℕ → Option Term
extended = set_at 3 (Some (entry_on (var 0))) entry_filling

extends : ExtendsFilling three_types entry_filling extended
extends zero A e = refl
extends (suc zero) A e = refl
extends (suc (suc zero)) A e = refl
extends (suc (suc (suc m))) A e = absurd (none_some e)

pruned_solution : Solution Entries [] once_pruned (nat ∷ []) extended
pruned_solution = (record { context = (tt, nat_known); outer = λ i A g. absurd g; typed = typed }, ((refl, tt), (refl, tt)))
  where
    typed : (m : ℕ) → ValueHasType Entries (nat ∷ []) (skeletons_of four_types) extended (four_types m) (extended m)
    typed zero = (nat, refl, refl)
    typed (suc zero) = entry_typed (nat ∷ []) 0 refl
    typed (suc (suc zero)) = entry_typed (nat ∷ nat ∷ []) 1 (nat, refl, refl)
    typed (suc (suc (suc zero))) = entry_typed (nat ∷ []) 0 refl
    typed (suc (suc (suc (suc m)))) = tt

own_values : ValuesOnOwnTerms on_k three_types entry_filling
own_values zero A N d e = subst (OnOwnTerms on_k) (some_same e) tt
own_values (suc zero) A N d e = subst (OnOwnTerms on_k) (some_same e) ((nil, refl), (tt, tt))
own_values (suc (suc zero)) A N d e = subst (OnOwnTerms on_k) (some_same e) ((nil, refl), (tt, tt))
own_values (suc (suc (suc m))) A N d e = absurd (none_some e)

-- the new metavariable is the body of M's value
is_body : (y : Option Term) (W : Term) → y ≡ Some W → Some (lambda (entry_on (var 1))) ≡ Some (lambda (fill_metavariable (base 1) 3 (rename_value suc y) nil)) → y ≡ Some (entry_on (var 0))
is_body None W e q = absurd (none_some e)
is_body (Some V) W e q = ap Some (rename_injective suc next_distinct V (entry_on (var 0)) (let h : lambda (entry_on (var 1)) ≡ lambda (rename suc V) = some_same q in cc))

only_value : (β : ℕ → Option Term) → ExtendsFilling three_types entry_filling β → Solution Entries [] once_pruned (nat ∷ []) β → β 3 ≡ Some (entry_on (var 0))
only_value β x u =
    let (W, e, v) = value_of Entries [] four_types (nat ∷ []) β u.0 3 (on_one 1 given_number) refl in
    is_body (β 3) W e (sym (x 2 (pi nat (on_one 1 given_number)) refl) ∙ u.1.0.0)

-- Entries is a signature
pub entries_ok : IsSignature Entries
entries_ok = with_entries_is_signature Numbered numbered_ok 4 entry_stands_on_its_terms.2 (numbered_block ∷ []) typed
  where
    typed : (B : Block) → Member B (numbered_block ∷ []) → IsTypedBlock Numbered B
    typed B (inl e) = subst (IsTypedBlock Numbered) (sym e) (((tt, (star, refl, tt)), (one_kind, refl, ((nat, refl, refl), tt))), (one_kind, refl, ((nat, (nat, refl, refl), refl), tt)))
    typed B (inr m) = absurd m

on_other : (T : Spine) → app (var 0) nil ≡ append (app (var 1) nil) T → ⊥
on_other T e = (let q : var 0 ≡ var 1 = cc in cc)

pub pruned_stays_on_own_terms : PrunedStaysOnOwnTerms
pruned_stays_on_own_terms = (
  step,
  solution,
  own_values,
  λ β x u. (only_value β x u, step_values Entries entries_ok (nat ∷ []) on_k step β u (λ m A N d e. own_values m A N d (sym (x m A d) ∙ e))),
  (extended, extends, pruned_solution),
  λ o. on_other o.0.0 o.0.1,
)
