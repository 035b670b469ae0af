-- Worked needs of the calls by number: what is refused.
use Rattle.std.proofs.Common.{◌≡◌, ℕ, zero, suc, ◌≤◌, [], ◌∷◌, inl, inr, refl, sym, ap, ◌∙◌, subst, arith}
use Rattle.std.specs.Prelude.{true, false, Some, None, ◌⊎◌}
use Rattle.lf.specs.Syntax.{constant, Spine, root, nil, app, LfType, Kind, star, atom, base}
use Rattle.lf.specs.Substitution.{Image, keep, put, apply_image, substitute_type, reduce}
use Rattle.lf.specs.AtOnce.{in_front}
use Rattle.lf.specs.Typing.{TypeAt, HasType, ImageHasType, IsType, IsKind, IsSignature}
use Rattle.lf.specs.Variables.{UsesType, same_number, target}
use Rattle.lf_checks.specs.Marks.{TypedPlaces}
use Rattle.lf_cases.specs.Cover.{AreTerms}
use Rattle.lf_cases.specs.Pattern.{Pattern, ground_in, head_pattern, of_constant, subgoal_pattern}
use Rattle.lf_totality.specs.Examples.{var}
use Rattle.lf_totality.specs.ExamplesReached.{open_case, open_clause}
use Rattle.lf_coverage.specs.Leaf.{IsTypedPattern}
use Rattle.lf_coverage.specs.Matching.{ArePlaces}
use Rattle.lf_coverage.proofs.Parts.{none_some, some_same}
use Rattle.lf_numbered.specs.EntryConstants.{IsFreeFrom, with_entries}
use Rattle.lf_numbered.specs.EntryPatterns.{IsInstanceOfPattern}
use Rattle.lf_numbered.specs.EntryTerms.{MatchesByNumber, own_values}
use Rattle.lf_numbered.specs.EntryTermsInputs.{closed_head}
use Rattle.lf_numbered.specs.NumberedCalls.{HasTypedBlock, IsHeadFor, IsSubgoalFor}
use Rattle.lf_numbered.specs.NumberedNeeds.{AreTypedHeads}
use Rattle.lf_numbered.specs.NumberedNeedsExamples.{OpenSubgoalIsRefused, OtherFamilyIsRefused, OtherTypeIsRefused, Sorts, other_case, p_all, q_all, sort_goal, sort_kind, sort_type, sorts_kinds, sorts_types}
use Rattle.lf_numbered.specs.Numbering.{numbered}
use Rattle.lf_numbered.specs.OwnTerms.{ImageOnOwnTerms, own_terms}
use Rattle.lf_numbered.proofs.EntryTermsInputs.{closed_is_typed}
use Rattle.lf_numbered.proofs.NumberedBesideLaterRuns.{open_is_not_beside}
use Rattle.lf_numbered.proofs.NumberedNeedsGoals.{input_goal_has_needs}

no : false ≡ true → ⊥
no e = cc

-- The signature of a, b, p and q
sorts_ok : IsSignature Sorts
sorts_ok = record { types_ok = types; kinds_ok = kinds }
  where
    types : (c : ℕ) (A : LfType) → sorts_types c ≡ Some A → IsType Sorts [] A
    types zero A e = subst (IsType Sorts []) (some_same e) (star, refl, tt)
    types (suc zero) A e = subst (IsType Sorts []) (some_same e) ((star, refl, tt), (sort_kind, refl, ((sort_type, refl, refl), tt)))
    types (suc (suc zero)) A e = subst (IsType Sorts []) (some_same e) ((star, refl, tt), (sort_kind, refl, ((sort_type, refl, refl), tt)))
    types (suc (suc (suc c))) A e = absurd (none_some e)

    kinds : (a : ℕ) (K : Kind) → sorts_kinds a ≡ Some K → IsKind Sorts [] K
    kinds zero K e = subst (IsKind Sorts []) (some_same e) tt
    kinds (suc zero) K e = subst (IsKind Sorts []) (some_same e) tt
    kinds (suc (suc zero)) K e = subst (IsKind Sorts []) (some_same e) ((star, refl, tt), tt)
    kinds (suc (suc (suc zero))) K e = subst (IsKind Sorts []) (some_same e) ((star, refl, tt), tt)
    kinds (suc (suc (suc (suc a)))) K e = absurd (none_some e)

sorts_free : IsFreeFrom Sorts 4
sorts_free = record { types_free = types; kinds_free = kinds }
  where
    types : (c : ℕ) → 4 ≤ c → sorts_types c ≡ None
    types zero l = absurd (omega (arith, l))
    types (suc zero) l = absurd (omega (arith, l))
    types (suc (suc zero)) l = absurd (omega (arith, l))
    types (suc (suc (suc c))) l = refl

    kinds : (a : ℕ) → 4 ≤ a → sorts_kinds a ≡ None
    kinds zero l = absurd (omega (arith, l))
    kinds (suc zero) l = absurd (omega (arith, l))
    kinds (suc (suc zero)) l = absurd (omega (arith, l))
    kinds (suc (suc (suc zero))) l = absurd (omega (arith, l))
    kinds (suc (suc (suc (suc a)))) l = refl

p_typed : IsTypedPattern Sorts (closed_head p_all)
p_typed = closed_is_typed Sorts sorts_ok p_all ((star, refl, tt), (sort_kind, refl, ((sort_type, refl, refl), tt)))

only_p : AreTypedHeads Sorts 2 (closed_head p_all ∷ [])
only_p r (inl e) = subst (λ (q : Pattern). IsTypedPattern Sorts q × (q ≡ head_pattern q.clause q.origin) × (target q.type ≡ 2) × HasTypedBlock Sorts q.origin) (sym e) (p_typed, refl, refl, tt)
only_p r (inr m) = absurd m

-- p X would be an instance of q-all, with X for X.
goal_fits : IsInstanceOfPattern Sorts 4 sort_goal (closed_head q_all)
goal_fits = record {
  used = same_number 0;
  values = in_front (put (base 0) (var 0)) keep;
  typed = record { typed = typed; closed = closed };
  on_own_terms = own;
  uses = ((refl, tt), tt);
  strict = ((refl, tt), tt);
  terms = terms;
  given = λ i M u e. absurd cc;
  stands = tt;
  same = (refl, tt);
}
  where
    typed : (i : ℕ) (A : LfType) → TypeAt (sort_type ∷ []) i A → same_number 0 i ≡ true → ImageHasType (with_entries Sorts 4 []) (sort_type ∷ []) (in_front (put (base 0) (var 0)) keep i) (substitute_type reduce (in_front (put (base 0) (var 0)) keep) A)
    typed zero A e u = subst (λ B. ImageHasType (with_entries Sorts 4 []) (sort_type ∷ []) (put (base 0) (var 0)) (substitute_type reduce (in_front (put (base 0) (var 0)) keep) B)) (sym e) (refl, (sort_type, refl, refl))
    typed (suc i) A (B, g, e) u = absurd g

    closed : (i : ℕ) (A : LfType) → TypeAt (sort_type ∷ []) i A → same_number 0 i ≡ true → UsesType (same_number 0) A
    closed zero A e u = subst (UsesType (same_number 0)) (sym e) tt
    closed (suc i) A (B, g, e) u = absurd g

    own : (i : ℕ) → same_number 0 i ≡ true → ImageOnOwnTerms (own_terms 4 []) (in_front (put (base 0) (var 0)) keep i)
    own zero u = tt
    own (suc i) u = absurd (no u)

    terms : AreTerms (closed_head q_all).clause (same_number 0) (in_front (put (base 0) (var 0)) keep)
    terms zero o u = tt
    terms (suc i) o u = absurd (no u)

other_number : ◌≡◌ {A = ℕ} 3 2 → ⊥
other_number e = cc

pub other_family_is_refused : OtherFamilyIsRefused
other_family_is_refused = (λ below test. (input_goal_has_needs Sorts 4 [] (record { signature = sorts_ok; blocks = λ B m. absurd m; free = sorts_free }) below test 2 (true ∷ []) sort_kind (record { signature = sorts_ok; free = sorts_free; of_family = refl; chosen_only = (tt, tt) }) sort_goal refl (closed_head p_all ∷ []) only_p, λ n. other_number (n.patterns (closed_head q_all) (inl refl)).same_family), goal_fits)

-- c is of the type b, and not of a.
other_sort : atom 1 nil ≡ sort_type → ⊥
other_sort e = cc

c_is_other : HasType (with_entries Sorts 4 []) [] (root (constant 0) nil) sort_type → ⊥
c_is_other (A, e, s) = other_sort (some_same e ∙ s)

pub other_type_is_refused : OtherTypeIsRefused
other_type_is_refused = (λ n. refused n.pattern.beside, matches, none)
  where
    refused : IsHeadFor Sorts 4 other_case (closed_head p_all) ⊎ IsSubgoalFor Sorts 4 [] other_case (closed_head p_all) → ⊥
    refused (inl h) = by h.kind h.of_family h.tuple h.at_places h.typed_places
      where
        by : (K : Kind) → Some sort_kind ≡ Some K → (T : Spine) → ArePlaces (Some (root (constant 0) nil) ∷ []) T → TypedPlaces (with_entries Sorts 4 []) (true ∷ []) [] T K → ⊥
        by K e nil a t = absurd a
        by K e (app M T) (q, a) t = c_is_other (subst (λ N. HasType (with_entries Sorts 4 []) [] N sort_type) (sym q) (subst (TypedPlaces (with_entries Sorts 4 []) (true ∷ []) [] (app M T)) (sym (some_same e)) t).0)
    refused (inr s) = no s.at_first

    matches : MatchesByNumber 4 other_case (closed_head p_all)
    matches = (keep, refl, (((refl, tt), tt), terms, (refl, tt)))
      where
        terms : AreTerms (closed_head p_all).clause (ground_in (closed_head p_all) (true ∷ []) []) (own_values other_case (closed_head p_all) keep)
        terms zero o u = tt
        terms (suc i) o u = absurd cc

    none : IsInstanceOfPattern Sorts 4 other_case (closed_head p_all) → ⊥
    none i = by (i.values 0) (i.typed.typed 0 sort_type refl i.uses.0.0) i.same.0
      where
        by : (y : Image) → ImageHasType (with_entries Sorts 4 []) [] y sort_type → root (constant 0) nil ≡ apply_image reduce y nil → ⊥
        by (keep j) h e = absurd h
        by (put a N) (s, n) e = c_is_other (subst (λ M. HasType (with_entries Sorts 4 []) [] M sort_type) (sym (subst (λ b. root (constant 0) nil ≡ reduce b N nil) (sym s) e)) n)

pub open_subgoal_is_refused : OpenSubgoalIsRefused
open_subgoal_is_refused Σ first n = refused n.pattern.beside
  where
    turned : true ≡ false → ⊥
    turned e = cc

    refused : IsHeadFor Σ first (numbered first open_case) (subgoal_pattern open_clause (of_constant open_clause.type) (atom 3 (app (var 1) nil))) ⊎ IsSubgoalFor Σ first [] (numbered first open_case) (subgoal_pattern open_clause (of_constant open_clause.type) (atom 3 (app (var 1) nil))) → ⊥
    refused (inl h) = turned (ap (λ (r : Pattern). r.at_first) h.is_head)
    refused (inr s) = open_is_not_beside Σ first s.typed_beside
