-- A mutual group lasts, and a group that calls it under other worlds.
use Rattle.std.proofs.Common.{◌≡◌, ℕ, zero, suc, List, [], ◌∷◌, refl, sym, ap, ◌∙◌, subst, arith, inl, inr, true≢false}
use Rattle.std.specs.Prelude.{Bool, true, false, ◌⊎◌, Some}
use Rattle.lf.specs.Syntax.{constant, variable, metavariable, Term, Spine, lambda, root, nil, app, LfType, Kind, pi, star, base}
use Rattle.lf.specs.Substitution.{Image, keep, put, substitute_type, reduce}
use Rattle.lf.specs.Typing.{Signature, TypeAt, HasType, SpineType, IsType, IsKind, IsSignature, ImageHasType}
use Rattle.lf.specs.Variables.{target, target_arguments, binders, Values, UsesType, FamiliesIn, KindFamiliesIn, Within, everything, nothing, onto}
use Rattle.lf.specs.Subordination.{Block, Member, IsDeclared, IsTypedBlock, SelfContained}
use Rattle.lf.specs.Worlds.{World, no_variables, single_variable, whole_instance}
use Rattle.lf.specs.Extension.{Extends}
use Rattle.lf.proofs.Decidability.{variable_type_unique}
use Rattle.lf.proofs.Target.{target_renamed}
use Rattle.lf_checks.specs.Tests.{is_in}
use Rattle.lf_checks.specs.Clause.{Clause, IsClause, IsSubgoal, among, constant_clause, entry_clause, from_constant, from_entry, outside, scope, variables}
use Rattle.lf_checks.specs.Marks.{HasSoundMarks, TypedPlaces, input_places, free_places}
use Rattle.lf_checks.specs.Ground.{Subgoals, UsesGoal, ground_first, ground_after}
use Rattle.lf_checks.specs.Modes.{AllGround, EachHypothesis, InFreePlace, WellModed, WellModedTo, occurs_at}
use Rattle.lf_checks.specs.Worlded.{WellWorlded, IsSequence, IsStrictBlock, IsTerm, BlocksServe, no_instance, next_instance, past_types}
use Rattle.lf_checks.specs.Strict.{strict_type}
use Rattle.lf_checks.specs.Order.{IsAtPlaces, equal, first_argument, place, under_constant}
use Rattle.lf_checks.specs.Descent.{CallDescends, SameCall, LeadsTo, no_call, after_call}
use Rattle.lf_cases.specs.Cover.{AreTerms, CoveredBy, CoveredInputs, CoveredOutputs, by_constant}
use Rattle.lf_totality.specs.Total.{HasTotalMarks}
use Rattle.lf_totality.specs.Group.{Checked, GroupChecked, IsCallee, IsRight}
use Rattle.lf_totality.specs.Examples.{var, nat, z, successor, first_place}
use Rattle.lf_totality.specs.ExamplesGroups.{Parity, parity_types, parity_kinds, parity_marks, parity_record, guard_record, guard_block, number_block, on_one, one_kind, call_type, first_three, first_four, MutualGroupLasts, CallerOfRecordLasts, strict_block, weak_block, strict_clause, StrictBlockServes}
use Rattle.lf_totality.proofs.Addition.{spine_target}
use Rattle.lf_totality.proofs.After.{record_made}
use Rattle.lf_totality.proofs.ExampleLemmas.{step}
use Rattle.lf_totality.proofs.Low.{no_outputs}

some_type : {A B : LfType} → Some A ≡ Some B → A ≡ B
some_type e = cc

some_kind : {A B : Kind} → Some A ≡ Some B → A ≡ B
some_kind e = cc

nat_ok : (G : List LfType) → IsType Parity G nat
nat_ok G = (star, refl, tt)

call_ok : (a b : ℕ) (t : Bool) → Parity.kinds a ≡ Some one_kind → Parity.kinds b ≡ Some one_kind → IsType Parity [] (call_type a b t)
call_ok a b true p q = (nat_ok [], ((one_kind, q, ((nat, refl, refl), tt)), (one_kind, p, ((nat, (nat, refl, refl), refl), tt))))
call_ok a b false p q = (nat_ok [], ((one_kind, q, ((nat, refl, refl), tt)), (one_kind, p, ((pi nat nat, refl, ((nat, (nat, refl, refl), refl), refl)), tt))))

parity_ok : IsSignature Parity
parity_ok = record { types_ok = types; kinds_ok = kinds }
  where
    types : (c : ℕ) (A : LfType) → parity_types c ≡ Some A → IsType Parity [] A
    types zero A e = subst (IsType Parity []) (some_type e) (nat_ok [])
    types (suc zero) A e = subst (IsType Parity []) (some_type e) (nat_ok [], nat_ok (nat ∷ []))
    types (suc (suc zero)) A e = subst (IsType Parity []) (some_type e) (call_ok 1 2 true refl refl)
    types (suc (suc (suc zero))) A e = subst (IsType Parity []) (some_type e) (one_kind, refl, ((nat, refl, refl), tt))
    types (suc (suc (suc (suc zero)))) A e = subst (IsType Parity []) (some_type e) (call_ok 2 1 false refl refl)
    types (suc (suc (suc (suc (suc zero))))) A e = subst (IsType Parity []) (some_type e) (call_ok 3 1 true refl refl)
    types (suc (suc (suc (suc (suc (suc n)))))) A e = absurd cc

    kinds : (a : ℕ) (K : Kind) → parity_kinds a ≡ Some K → IsKind Parity [] K
    kinds zero K e = subst (IsKind Parity []) (some_kind e) tt
    kinds (suc zero) K e = subst (IsKind Parity []) (some_kind e) (nat_ok [], tt)
    kinds (suc (suc zero)) K e = subst (IsKind Parity []) (some_kind e) (nat_ok [], tt)
    kinds (suc (suc (suc zero))) K e = subst (IsKind Parity []) (some_kind e) (nat_ok [], tt)
    kinds (suc (suc (suc (suc n)))) K e = absurd cc

-- a set with nat and the families of a clause
three_contained : SelfContained Parity [] first_three
three_contained = record { declared = declared; kinds_in = kinds_in; types_in = types_in; entries_in = λ B E m. absurd m }
  where
    declared : (a : ℕ) → first_three a ≡ true → IsDeclared Parity a
    declared zero e = (star, refl)
    declared (suc zero) e = (one_kind, refl)
    declared (suc (suc zero)) e = (one_kind, refl)
    declared (suc (suc (suc a))) e = absurd cc

    kinds_in : (a : ℕ) (K : Kind) → parity_kinds a ≡ Some K → first_three a ≡ true → KindFamiliesIn first_three K
    kinds_in zero K e s = subst (KindFamiliesIn first_three) (some_kind e) tt
    kinds_in (suc zero) K e s = subst (KindFamiliesIn first_three) (some_kind e) (refl, tt)
    kinds_in (suc (suc zero)) K e s = subst (KindFamiliesIn first_three) (some_kind e) (refl, tt)
    kinds_in (suc (suc (suc a))) K e s = absurd cc

    types_in : (c : ℕ) (A : LfType) → parity_types c ≡ Some A → first_three (target A) ≡ true → FamiliesIn first_three A
    types_in zero A e s = subst (FamiliesIn first_three) (some_type e) refl
    types_in (suc zero) A e s = subst (FamiliesIn first_three) (some_type e) (refl, refl)
    types_in (suc (suc zero)) A e s = subst (FamiliesIn first_three) (some_type e) (refl, (refl, refl))
    types_in (suc (suc (suc zero))) A e s = subst (FamiliesIn first_three) (some_type e) refl
    types_in (suc (suc (suc (suc zero)))) A e s = subst (FamiliesIn first_three) (some_type e) (refl, (refl, refl))
    types_in (suc (suc (suc (suc (suc zero))))) A e s = absurd (true≢false (sym s ∙ sym (ap (λ X. first_three (target X)) (some_type e))))
    types_in (suc (suc (suc (suc (suc (suc n)))))) A e s = absurd cc

four_contained : SelfContained Parity [] first_four
four_contained = record { declared = declared; kinds_in = kinds_in; types_in = types_in; entries_in = λ B E m. absurd m }
  where
    declared : (a : ℕ) → first_four a ≡ true → IsDeclared Parity a
    declared zero e = (star, refl)
    declared (suc zero) e = (one_kind, refl)
    declared (suc (suc zero)) e = (one_kind, refl)
    declared (suc (suc (suc zero))) e = (one_kind, refl)
    declared (suc (suc (suc (suc a)))) e = absurd cc

    kinds_in : (a : ℕ) (K : Kind) → parity_kinds a ≡ Some K → first_four a ≡ true → KindFamiliesIn first_four K
    kinds_in zero K e s = subst (KindFamiliesIn first_four) (some_kind e) tt
    kinds_in (suc zero) K e s = subst (KindFamiliesIn first_four) (some_kind e) (refl, tt)
    kinds_in (suc (suc zero)) K e s = subst (KindFamiliesIn first_four) (some_kind e) (refl, tt)
    kinds_in (suc (suc (suc zero))) K e s = subst (KindFamiliesIn first_four) (some_kind e) (refl, tt)
    kinds_in (suc (suc (suc (suc a)))) K e s = absurd cc

    types_in : (c : ℕ) (A : LfType) → parity_types c ≡ Some A → first_four (target A) ≡ true → FamiliesIn first_four A
    types_in zero A e s = subst (FamiliesIn first_four) (some_type e) refl
    types_in (suc zero) A e s = subst (FamiliesIn first_four) (some_type e) (refl, refl)
    types_in (suc (suc zero)) A e s = subst (FamiliesIn first_four) (some_type e) (refl, (refl, refl))
    types_in (suc (suc (suc zero))) A e s = subst (FamiliesIn first_four) (some_type e) refl
    types_in (suc (suc (suc (suc zero)))) A e s = subst (FamiliesIn first_four) (some_type e) (refl, (refl, refl))
    types_in (suc (suc (suc (suc (suc zero))))) A e s = subst (FamiliesIn first_four) (some_type e) (refl, (refl, refl))
    types_in (suc (suc (suc (suc (suc (suc n)))))) A e s = absurd cc

-- A clause with one call: {X:nat} b X -> a H.
abbrev call : ℕ → ℕ → Bool → Clause
call a b t = constant_clause (call_type (suc a) (suc b) t)

abbrev the_call : ℕ → LfType
the_call b = on_one (suc b) (var 1)

sound : (a : ℕ) → Parity.kinds (suc a) ≡ Some one_kind → HasSoundMarks Parity (suc a) (parity_marks (suc a))
sound a e = (one_kind, e, (tt, tt))

the_subgoal : (a b : ℕ) (t : Bool) (i : ℕ) (A : LfType) → IsSubgoal (call a b t) i A → A ≡ the_call b
the_subgoal a b true zero A (v, g) = g
the_subgoal a b true (suc zero) A (v, g) = absurd cc
the_subgoal a b true (suc (suc i)) A (v, (C, (D, g, e), f)) = absurd g
the_subgoal a b false zero A (v, g) = g
the_subgoal a b false (suc zero) A (v, g) = absurd cc
the_subgoal a b false (suc (suc i)) A (v, (C, (D, g, e), f)) = absurd g

moded : (a b : ℕ) (t : Bool) (group : ℕ → Bool) → Parity.kinds (suc a) ≡ Some one_kind → Parity.kinds (suc b) ≡ Some one_kind → WellModed Parity parity_marks group (call a b t)
moded a b t group p q zero = tt
moded a b true group p q (suc n) = (sound a p, step parity_marks (call a b true) (λ U A. HasSoundMarks Parity (target A) (parity_marks (target A)) × UsesGoal U (input_places (parity_marks (target A))) A × EachHypothesis (WellModedTo n Parity parity_marks group) group (scope (call a b true)) (outside (call a b true).type (call a b true).fixed) U A) (λ U. AllGround parity_marks (call a b true) U) 1 0 (ground_first parity_marks (call a b true)) (the_call b) refl ((sound b q, ((refl, tt), tt), tt), (tt, ground)))
  where
    ground : (x : ℕ) → variables (call a b true) x ≡ true → outside (call a b true).type everything x ≡ false → (ground_after parity_marks (call a b true) (the_call b) (ground_first parity_marks (call a b true)) x ≡ true) ⊎ (occurs_at (free_places (parity_marks (suc a))) x (target_arguments (call a b true).type) ≡ true) ⊎ InFreePlace parity_marks (call a b true) x
    ground zero e o = absurd cc
    ground (suc zero) e o = inl refl
    ground (suc (suc x)) e o = absurd cc
moded a b false group p q (suc n) = (sound a p, step parity_marks (call a b false) (λ U A. HasSoundMarks Parity (target A) (parity_marks (target A)) × UsesGoal U (input_places (parity_marks (target A))) A × EachHypothesis (WellModedTo n Parity parity_marks group) group (scope (call a b false)) (outside (call a b false).type (call a b false).fixed) U A) (λ U. AllGround parity_marks (call a b false) U) 1 0 (ground_first parity_marks (call a b false)) (the_call b) refl ((sound b q, ((refl, tt), tt), tt), (tt, ground)))
  where
    ground : (x : ℕ) → variables (call a b false) x ≡ true → outside (call a b false).type everything x ≡ false → (ground_after parity_marks (call a b false) (the_call b) (ground_first parity_marks (call a b false)) x ≡ true) ⊎ (occurs_at (free_places (parity_marks (suc a))) x (target_arguments (call a b false).type) ≡ true) ⊎ InFreePlace parity_marks (call a b false) x
    ground zero e o = absurd cc
    ground (suc zero) e o = inl refl
    ground (suc (suc x)) e o = absurd cc

-- o-z
abbrev zero_clause : Clause
zero_clause = constant_clause (on_one 2 z)

zero_moded : (group : ℕ → Bool) → WellModed Parity parity_marks group zero_clause
zero_moded group zero = tt
zero_moded group (suc n) = (sound 1 refl, (tt, λ x e o. absurd cc))

outputs : (W : List Block) (S : ℕ → Bool) (a b : ℕ) (t : Bool) → Subgoals parity_marks (call a b t) (λ U A. CoveredOutputs Parity parity_marks W S (call a b t) U A) (λ U. Unit {0})
outputs W S a b true = step parity_marks (call a b true) (λ U A. CoveredOutputs Parity parity_marks W S (call a b true) U A) (λ U. Unit {0}) 1 0 (ground_first parity_marks (call a b true)) (the_call b) refl (no_outputs Parity parity_marks W S (call a b true) (ground_first parity_marks (call a b true)) (the_call b) tt ((refl, tt), tt), tt)
outputs W S a b false = step parity_marks (call a b false) (λ U A. CoveredOutputs Parity parity_marks W S (call a b false) U A) (λ U. Unit {0}) 1 0 (ground_first parity_marks (call a b false)) (the_call b) refl (no_outputs Parity parity_marks W S (call a b false) (ground_first parity_marks (call a b false)) (the_call b) tt ((refl, tt), tt), tt)

worlded : (W : List Block) (a b : ℕ) (t : Bool) → WellWorlded Parity W (call a b t)
worlded W a b t i A h = subst (λ X. IsSequence Parity W (scope (call a b t)) (binders [] X)) (sym (the_subgoal a b t i A h)) no_instance

no_subgoal : (i : ℕ) (A : LfType) → IsSubgoal zero_clause i A → ⊥
no_subgoal i A (v, g) = g

-- the value of X
abbrev images : Term → ℕ → Image
images N zero = keep 0
images N (suc zero) = put (base 0) N
images N (suc (suc i)) = keep i

call_values : (Σ : Signature) (G : List LfType) (a b : ℕ) (t : Bool) (N : Term) → HasType Σ G N nat → Values Σ (ground_first parity_marks (call a b t)) (scope (call a b t)) G (images N)
call_values Σ G a b true N n = record { typed = typed; closed = closed }
  where
    typed : (i : ℕ) (A : LfType) → TypeAt (scope (call a b true)) i A → ground_first parity_marks (call a b true) i ≡ true → ImageHasType Σ G (images N i) (substitute_type reduce (images N) A)
    typed zero A g u = absurd cc
    typed (suc zero) A g u = subst (λ X. ImageHasType Σ G (put (base 0) N) (substitute_type reduce (images N) X)) (sym (variable_type_unique (scope (call a b true)) 1 A nat g (nat, refl, refl))) (refl, n)
    typed (suc (suc i)) A (C, (D, g, e), f) u = absurd g

    closed : (i : ℕ) (A : LfType) → TypeAt (scope (call a b true)) i A → ground_first parity_marks (call a b true) i ≡ true → UsesType (ground_first parity_marks (call a b true)) A
    closed zero A g u = absurd cc
    closed (suc zero) A g u = subst (UsesType (ground_first parity_marks (call a b true))) (sym (variable_type_unique (scope (call a b true)) 1 A nat g (nat, refl, refl))) tt
    closed (suc (suc i)) A (C, (D, g, e), f) u = absurd g
call_values Σ G a b false N n = record { typed = typed; closed = closed }
  where
    typed : (i : ℕ) (A : LfType) → TypeAt (scope (call a b false)) i A → ground_first parity_marks (call a b false) i ≡ true → ImageHasType Σ G (images N i) (substitute_type reduce (images N) A)
    typed zero A g u = absurd cc
    typed (suc zero) A g u = subst (λ X. ImageHasType Σ G (put (base 0) N) (substitute_type reduce (images N) X)) (sym (variable_type_unique (scope (call a b false)) 1 A nat g (nat, refl, refl))) (refl, n)
    typed (suc (suc i)) A (C, (D, g, e), f) u = absurd g

    closed : (i : ℕ) (A : LfType) → TypeAt (scope (call a b false)) i A → ground_first parity_marks (call a b false) i ≡ true → UsesType (ground_first parity_marks (call a b false)) A
    closed zero A g u = absurd cc
    closed (suc zero) A g u = subst (UsesType (ground_first parity_marks (call a b false))) (sym (variable_type_unique (scope (call a b false)) 1 A nat g (nat, refl, refl))) tt
    closed (suc (suc i)) A (C, (D, g, e), f) u = absurd g

call_terms : (a b : ℕ) (t : Bool) (N : Term) → AreTerms (call a b t) (ground_first parity_marks (call a b t)) (images N)
call_terms a b true N zero o u = absurd cc
call_terms a b true N (suc zero) o u = tt
call_terms a b true N (suc (suc i)) o u = absurd cc
call_terms a b false N zero o u = absurd cc
call_terms a b false N (suc zero) o u = tt
call_terms a b false N (suc (suc i)) o u = absurd cc

-- the family of a clause {X:nat} b X -> a X has its inputs covered
any_covered : (W : List Block) (S : ℕ → Bool) (k a b : ℕ) → Parity.types k ≡ Some (call_type (suc a) (suc b) true) → Parity.kinds (suc a) ≡ Some one_kind → CoveredInputs Parity parity_marks W S (suc a)
any_covered W S k a b e q Σ x G w T K p t = go T (subst (TypedPlaces Σ (true ∷ []) G T) (some_kind (sym p ∙ x.kinds_stay (suc a) one_kind q)) t)
  where
    go : (T : Spine) → TypedPlaces Σ (true ∷ []) G T one_kind → CoveredBy w (true ∷ []) (suc a) T
    go nil t = absurd t
    go (app M nil) (m, i) = record { head = constant k; clause = call a b true; outer = keep; values = images M; offered = by_constant k (call_type (suc a) (suc b) true) (x.types_stay k (call_type (suc a) (suc b) true) e); family = refl; typed = call_values Σ G a b true M m; agrees = λ j X g. absurd g; terms = call_terms a b true M; same = (sym (Rattle.lf.proofs.Eta.reduce_nil (base 0) M), tt); uses = ((refl, tt), tt) }
    go (app M (app N T)) t = absurd t.1

-- a number is zero or a successor, in each extension and context of no blocks
abbrev NatForm : Signature → List LfType → Term → Type 0
NatForm Σ G M = (M ≡ z) ⊎ ((N : Term) × (M ≡ successor N) × HasType Σ G N nat)

module _ (Σ : Signature) (x : Extends first_three Parity Σ) (G : List LfType) (w : World Σ [] first_three G) where
  no_variable : {G : List LfType} → World Σ [] first_three G → (j : ℕ) (A : LfType) → TypeAt G j A → first_three (target A) ≡ true → ⊥
  no_variable no_variables j A g q = g
  no_variable (single_variable {A = B} w t n) zero A g q = true≢false (sym q ∙ ap first_three (ap target g ∙ target_renamed suc B) ∙ n)
  no_variable (single_variable {A = B} w t n) (suc j) A (C, g, e) q = no_variable w j C g (sym (ap first_three (ap target e ∙ target_renamed suc C)) ∙ q)
  no_variable (whole_instance B i e o) j A g q = absurd i

  not_nat : {n : ℕ} → suc n ≡ zero → ⊥
  not_nat e = omega arith

  zero_arguments : (T : Spine) → SpineType Σ G T nat nat → NatForm Σ G (root (constant 0) T)
  zero_arguments nil r = inl refl
  zero_arguments (app M T) r = absurd r

  one_argument : (T : Spine) → SpineType Σ G T (pi nat nat) nat → NatForm Σ G (root (constant 1) T)
  one_argument nil r = absurd cc
  one_argument (app M nil) (m, r) = inr (M, refl, m)
  one_argument (app M (app N T)) (m, r) = absurd r

  constant_form : (c : ℕ) (A : LfType) (T : Spine) → parity_types c ≡ Some A → target A ≡ 0 → SpineType Σ G T A nat → NatForm Σ G (root (constant c) T)
  constant_form zero A T e t r = zero_arguments T (subst (λ X. SpineType Σ G T X nat) (sym (some_type e)) r)
  constant_form (suc zero) A T e t r = one_argument T (subst (λ X. SpineType Σ G T X nat) (sym (some_type e)) r)
  constant_form (suc (suc zero)) A T e t r = absurd (not_nat (ap target (some_type e) ∙ t))
  constant_form (suc (suc (suc zero))) A T e t r = absurd (not_nat (ap target (some_type e) ∙ t))
  constant_form (suc (suc (suc (suc zero)))) A T e t r = absurd (not_nat (ap target (some_type e) ∙ t))
  constant_form (suc (suc (suc (suc (suc zero))))) A T e t r = absurd (not_nat (ap target (some_type e) ∙ t))
  constant_form (suc (suc (suc (suc (suc (suc n)))))) A T e t r = absurd cc

  nat_form : (M : Term) → HasType Σ G M nat → NatForm Σ G M
  nat_form (lambda M) m = absurd m
  nat_form (root (constant c) T) (A, e, r) = let t : target A ≡ 0 = spine_target Σ G T A nat r in constant_form c A T (x.no_new c A e (ap first_three t)) t r
  nat_form (root (metavariable c) T) (A, e, r) = absurd e
  nat_form (root (variable j) T) (A, g, r) = absurd (no_variable w j A g (ap first_three (spine_target Σ G T A nat r)))

  odd_case : (T : Spine) → TypedPlaces Σ (true ∷ []) G T one_kind → CoveredBy w (true ∷ []) 2 T
  odd_case nil t = absurd t
  odd_case (app M nil) (m, i) = by (nat_form M m)
    where
      by : NatForm Σ G M → CoveredBy w (true ∷ []) 2 (app M nil)
      by (inl e) = record { head = constant 3; clause = zero_clause; outer = keep; values = keep; offered = by_constant 3 (on_one 2 z) (x.types_stay 3 (on_one 2 z) refl); family = refl; typed = record { typed = λ i A g u. absurd g; closed = λ i A g u. absurd g }; agrees = λ j X g. absurd g; terms = λ i o u. absurd cc; same = (e, tt); uses = (tt, tt) }
      by (inr (N, e, n)) = record { head = constant 4; clause = call 1 0 false; outer = keep; values = images N; offered = by_constant 4 (call_type 2 1 false) (x.types_stay 4 (call_type 2 1 false) refl); family = refl; typed = call_values Σ G 1 0 false N n; agrees = λ j X g. absurd g; terms = call_terms 1 0 false N; same = (e, tt); uses = (((refl, tt), tt), tt) }
  odd_case (app M (app N T)) t = absurd t.1

odd_covered : CoveredInputs Parity parity_marks [] first_three 2
odd_covered Σ x G w T K p t = odd_case Σ x G w T (subst (TypedPlaces Σ (true ∷ []) G T) (some_kind (sym p ∙ x.kinds_stay 2 one_kind refl)) t)

-- The group of e and o.
two_families : (P : ℕ → Type 0) → P 1 → P 2 → (f : ℕ) → Member f (1 ∷ 2 ∷ []) → P f
two_families P a b f (inl e) = subst P (sym e) a
two_families P a b f (inr (inl e)) = subst P (sym e) b
two_families P a b f (inr (inr m)) = absurd m

parity_clauses : (P : Clause → Type 0) → P (call 0 1 true) → P zero_clause → P (call 1 0 false) → (c : Clause) → IsClause Parity [] c → Member (target c.type) (1 ∷ 2 ∷ []) → P c
parity_clauses P a b d c (from_entry B later E es i q) g = absurd i
parity_clauses P a b d c (from_constant k U e) g = by k U e g
  where
    wrong : (U V : LfType) → Some U ≡ Some V → (Member (target U) (1 ∷ 2 ∷ []) → ⊥) → Member (target V) (1 ∷ 2 ∷ []) → ⊥
    wrong U V e n g = n (subst (λ X. Member (target X) (1 ∷ 2 ∷ [])) (sym (some_type e)) g)

    no_zero : Member {A = ℕ} 0 (1 ∷ 2 ∷ []) → ⊥
    no_zero (inl e) = omega arith
    no_zero (inr (inl e)) = omega arith
    no_zero (inr (inr m)) = m

    no_three : Member {A = ℕ} 3 (1 ∷ 2 ∷ []) → ⊥
    no_three (inl e) = omega arith
    no_three (inr (inl e)) = omega arith
    no_three (inr (inr m)) = m

    by : (k : ℕ) (U : LfType) → parity_types k ≡ Some U → Member (target U) (1 ∷ 2 ∷ []) → P (constant_clause U)
    by zero U e g = absurd (wrong nat U e no_zero g)
    by (suc zero) U e g = absurd (wrong (pi nat nat) U e no_zero g)
    by (suc (suc zero)) U e g = subst (λ X. P (constant_clause X)) (some_type e) a
    by (suc (suc (suc zero))) U e g = subst (λ X. P (constant_clause X)) (some_type e) b
    by (suc (suc (suc (suc zero)))) U e g = subst (λ X. P (constant_clause X)) (some_type e) d
    by (suc (suc (suc (suc (suc zero))))) U e g = absurd (wrong (call_type 3 1 true) U e no_three g)
    by (suc (suc (suc (suc (suc (suc n)))))) U e g = absurd cc

callee_in : (f b : ℕ) → Member b (1 ∷ 2 ∷ []) → IsCallee parity_record [] f b
callee_in f b m = (((λ i j h. h), λ Q q. absurd q), inl m)

-- no equal call leads from o
some_term : {M N : Term} → Some M ≡ Some N → M ≡ N
some_term e = cc

abbrev NoEqual : Clause → Type 0
NoEqual c = target c.type ≡ 2 → (i : ℕ) (A : LfType) → IsSubgoal c i A → SameCall first_place c A → ⊥

none_equal : (c : Clause) → IsClause Parity [] c → Member (target c.type) (1 ∷ 2 ∷ []) → NoEqual c
none_equal = parity_clauses NoEqual (λ e i A h s. omega arith) (λ e i A h s. no_subgoal i A h) (λ e i A h s. differ (subst (SameCall first_place (call 1 0 false)) (the_subgoal 1 0 false i A h) s))
  where
    differ : SameCall first_place (call 1 0 false) (the_call 0) → ⊥
    differ (M, p, q) = let r : var 1 ≡ successor (var 1) = some_term (p ∙ sym q) in absurd cc

from_odd : (a : ℕ) → LeadsTo Parity [] first_place (1 ∷ 2 ∷ []) 2 a → a ≡ 2
from_odd a no_call = refl
from_odd a (after_call k l) = absurd (none_equal k.clause k.is_clause (inr (inl k.caller)) k.caller k.index k.subgoal k.is_subgoal k.same)

parity_checked : GroupChecked Parity parity_record first_place []
parity_checked = record {
  marked = two_families (λ f. HasTotalMarks Parity f (parity_marks f)) (sound 0 refl, tt) (sound 1 refl, tt);
  blocks_typed = λ B i. absurd i;
  same_before = λ Q q. absurd q;
  itself_below = two_families (λ f. first_three f ≡ true) refl refl;
  self_contained = λ f i. three_contained;
  frozen = record { families_frozen = two_families (λ f. first_three f ≡ true) refl refl; targets_frozen = λ B E m. absurd m; below_frozen = λ f i b h. h; self_contained = three_contained };
  orders_at_inputs = two_families (λ f. IsAtPlaces (input_places (parity_marks f)) (place 1)) refl refl;
  well_moded = parity_clauses (WellModed Parity parity_marks (λ f. is_in f (1 ∷ 2 ∷ []))) (moded 0 1 true (λ f. is_in f (1 ∷ 2 ∷ [])) refl refl) (zero_moded (λ f. is_in f (1 ∷ 2 ∷ []))) (moded 1 0 false (λ f. is_in f (1 ∷ 2 ∷ [])) refl refl);
  well_worlded = parity_clauses (WellWorlded Parity []) (worlded [] 0 1 true) (λ i A h. absurd (no_subgoal i A h)) (worlded [] 1 0 false);
  callees = parity_clauses (λ c. (i : ℕ) (A : LfType) → IsSubgoal c i A → IsCallee parity_record [] (target c.type) (target A)) (λ i A h. callee_in 1 (target A) (inr (inl (ap target (the_subgoal 0 1 true i A h))))) (λ i A h. absurd (no_subgoal i A h)) (λ i A h. callee_in 2 (target A) (inl (ap target (the_subgoal 1 0 false i A h))));
  descending = parity_clauses (λ c. (i : ℕ) (A : LfType) → IsSubgoal c i A → Member (target A) (1 ∷ 2 ∷ []) → CallDescends Parity [] first_place (1 ∷ 2 ∷ []) c A) (λ i A h m. subst (CallDescends Parity [] first_place (1 ∷ 2 ∷ []) (call 0 1 true)) (sym (the_subgoal 0 1 true i A h)) (tt, inr ((var 1, refl, refl), λ l. let q : ◌≡◌ {A = ℕ} 1 2 = from_odd 1 l in omega arith))) (λ i A h. absurd (no_subgoal i A h)) (λ i A h m. subst (CallDescends Parity [] first_place (1 ∷ 2 ∷ []) (call 1 0 false)) (sym (the_subgoal 1 0 false i A h)) (tt, inl (var 1, successor (var 1), refl, refl, one_kind, refl, nat, refl, under_constant refl (first_argument equal))));
  covered_inputs = two_families (λ f. CoveredInputs Parity parity_marks [] first_three f) (any_covered [] first_three 2 0 1 refl refl) odd_covered;
  covered_outputs = parity_clauses (λ c. Subgoals parity_marks c (λ U A. CoveredOutputs Parity parity_marks [] first_three c U A) (λ U. Unit {0})) (outputs [] first_three 0 1 true) tt (outputs [] first_three 1 0 false);
}

pub mutual_group_lasts : MutualGroupLasts
mutual_group_lasts = record_made Parity parity_ok parity_record first_place [] parity_checked (λ Q i. absurd i)

-- The group of g, beside the record of e and o.
one_family : (P : ℕ → Type 0) → P 3 → (f : ℕ) → Member f (3 ∷ []) → P f
one_family P a f (inl e) = subst P (sym e) a
one_family P a f (inr m) = absurd m

abbrev Guarded : List Block
Guarded = guard_block ∷ []

-- the block's entry, as a clause
abbrev entry_g : Clause
entry_g = entry_clause guard_block [] (on_one 3 z)

guard_clauses : (P : Clause → Type 0) → P (call 2 0 true) → P entry_g → (c : Clause) → IsClause Parity Guarded c → Member (target c.type) (3 ∷ []) → P c
guard_clauses P a b c (from_entry B later E es (inr i) q) g = absurd i
guard_clauses P a b c (from_entry B later E es (inl i) q) g = subst (λ C. P (entry_clause C es E)) (sym i) (by later (q ∙ ap (λ C. C.entries) i))
  where
    by : (later : List LfType) → onto later (E ∷ es) ≡ on_one 3 z ∷ [] → P (entry_clause guard_block es E)
    by [] q =
        let e : E ≡ on_one 3 z = cc in
        let r : es ≡ [] = cc in
        subst (λ X. P (entry_clause guard_block es X)) (sym e) (subst (λ ds. P (entry_clause guard_block ds (on_one 3 z))) (sym r) b)
    by (D ∷ []) q = absurd cc
    by (D ∷ (F ∷ later)) q = absurd cc
guard_clauses P a b c (from_constant k U e) (inr m) = absurd m
guard_clauses P a b c (from_constant k U e) (inl g) = by k U e g
  where
    by : (k : ℕ) (U : LfType) → parity_types k ≡ Some U → target U ≡ 3 → P (constant_clause U)
    by zero U e g = let q : ◌≡◌ {A = ℕ} 0 3 = ap target (some_type e) ∙ g in absurd (omega arith)
    by (suc zero) U e g = let q : ◌≡◌ {A = ℕ} 0 3 = ap target (some_type e) ∙ g in absurd (omega arith)
    by (suc (suc zero)) U e g = let q : ◌≡◌ {A = ℕ} 1 3 = ap target (some_type e) ∙ g in absurd (omega arith)
    by (suc (suc (suc zero))) U e g = let q : ◌≡◌ {A = ℕ} 2 3 = ap target (some_type e) ∙ g in absurd (omega arith)
    by (suc (suc (suc (suc zero)))) U e g = let q : ◌≡◌ {A = ℕ} 2 3 = ap target (some_type e) ∙ g in absurd (omega arith)
    by (suc (suc (suc (suc (suc zero))))) U e g = subst (λ X. P (constant_clause X)) (some_type e) a
    by (suc (suc (suc (suc (suc (suc n)))))) U e g = absurd cc

no_entry_subgoal : (i : ℕ) (A : LfType) → IsSubgoal entry_g i A → ⊥
no_entry_subgoal i A (v, g) = g

entry_moded : (group : ℕ → Bool) → WellModed Parity parity_marks group entry_g
entry_moded group zero = tt
entry_moded group (suc n) = (sound 2 refl, (tt, λ x e o. absurd cc))

-- what has its only entry at the block
the_entry : (P : Block → LfType → Type 0) → P guard_block (on_one 3 z) → (B : Block) (E : LfType) → Member B Guarded → Member E B.entries → P B E
the_entry P p B E (inl i) m = subst (λ C. P C E) (sym i) (by (subst (λ C. Member E C.entries) i m))
  where
    by : Member E (on_one 3 z ∷ []) → P guard_block E
    by (inl e) = subst (P guard_block) (sym e) p
    by (inr m) = absurd m
the_entry P p B E (inr i) m = absurd i

-- the block's entry is of no family below e
guard_serves : BlocksServe Guarded [] first_three
guard_serves B i = inr (λ E m. the_entry (λ B E. first_three (target E) ≡ false) refl B E i m)

number_does_not : BlocksServe (number_block ∷ []) [] first_three → ⊥
number_does_not h = by (h number_block (inl refl))
  where
    by : Member number_block [] ⊎ ((E : LfType) → Member E (nat ∷ []) → first_three (target E) ≡ false) → ⊥
    by (inl m) = m
    by (inr n) = true≢false (n nat (inl refl))

guarded_contained : SelfContained Parity Guarded first_four
guarded_contained = record { declared = four_contained.declared; kinds_in = four_contained.kinds_in; types_in = four_contained.types_in; entries_in = λ B E i m s. the_entry (λ B E. FamiliesIn first_four E) refl B E i m }

three_in_four : Within first_three first_four
three_in_four zero h = refl
three_in_four (suc zero) h = refl
three_in_four (suc (suc zero)) h = refl
three_in_four (suc (suc (suc n))) h = absurd cc

-- e is of the earlier record, and not of this group
earlier_callee : (b : ℕ) → b ≡ 1 → IsCallee guard_record (parity_record ∷ []) 3 b
earlier_callee b e = ((own, earlier), inr (parity_record, inl refl, inl e, refl, guard_serves))
  where
    own : Member b guard_record.families → Within (guard_record.below b) (guard_record.below 3)
    own i j h = h

    earlier : (Q : Checked) → Member Q (parity_record ∷ []) → Member b Q.families → Within (Q.below b) (guard_record.below 3)
    earlier Q (inl q) m = subst (λ R. Within (R.below b) first_four) (sym q) three_in_four
    earlier Q (inr q) m = absurd q

disjoint : (f : ℕ) → Member f (3 ∷ []) → Member f (1 ∷ 2 ∷ []) → ⊥
disjoint f (inl e) (inl g) = omega arith
disjoint f (inl e) (inr (inl g)) = omega arith
disjoint f (inl e) (inr (inr m)) = m
disjoint f (inr m) g = m

guard_checked : GroupChecked Parity guard_record first_place (parity_record ∷ [])
guard_checked = record {
  marked = one_family (λ f. HasTotalMarks Parity f (parity_marks f)) (sound 2 refl, tt);
  blocks_typed = blocks_typed;
  same_before = same_before;
  itself_below = one_family (λ f. first_four f ≡ true) refl;
  self_contained = λ f i. guarded_contained;
  frozen = record { families_frozen = one_family (λ f. first_four f ≡ true) refl; targets_frozen = λ B E i m. the_entry (λ B E. first_four (target E) ≡ true) refl B E i m; below_frozen = λ f i b h. h; self_contained = guarded_contained };
  orders_at_inputs = one_family (λ f. IsAtPlaces (input_places (parity_marks f)) (place 1)) refl;
  well_moded = guard_clauses (WellModed Parity parity_marks (λ f. is_in f (3 ∷ []))) (moded 2 0 true (λ f. is_in f (3 ∷ [])) refl refl) (entry_moded (λ f. is_in f (3 ∷ [])));
  well_worlded = guard_clauses (WellWorlded Parity Guarded) (worlded Guarded 2 0 true) (λ i A h. absurd (no_entry_subgoal i A h));
  callees = guard_clauses (λ c. (i : ℕ) (A : LfType) → IsSubgoal c i A → IsCallee guard_record (parity_record ∷ []) (target c.type) (target A)) (λ i A h. earlier_callee (target A) (ap target (the_subgoal 2 0 true i A h))) (λ i A h. absurd (no_entry_subgoal i A h));
  descending = guard_clauses (λ c. (i : ℕ) (A : LfType) → IsSubgoal c i A → Member (target A) (3 ∷ []) → CallDescends Parity Guarded first_place (3 ∷ []) c A) (λ i A h m. absurd (not_called (target A) m (ap target (the_subgoal 2 0 true i A h)))) (λ i A h m. absurd (no_entry_subgoal i A h));
  covered_inputs = one_family (λ f. CoveredInputs Parity parity_marks Guarded first_four f) (any_covered Guarded first_four 5 2 0 refl refl);
  covered_outputs = guard_clauses (λ c. Subgoals parity_marks c (λ U A. CoveredOutputs Parity parity_marks Guarded first_four c U A) (λ U. Unit {0})) (outputs Guarded first_four 2 0 true) tt;
}
  where
    blocks_typed : (B : Block) → Member B Guarded → IsTypedBlock Parity B
    blocks_typed B (inl e) = subst (IsTypedBlock Parity) (sym e) (tt, (one_kind, refl, ((nat, refl, refl), tt)))
    blocks_typed B (inr i) = absurd i

    same_before : (Q : Checked) → Member Q (parity_record ∷ []) → (f : ℕ) → Member f (3 ∷ []) → Member f Q.families → (Q.marks f ≡ parity_marks f) × (Q.worlds ≡ Guarded)
    same_before Q (inl q) f i m = absurd (disjoint f i (subst (λ R. Member f R.families) q m))
    same_before Q (inr q) f i m = absurd q

    not_called : (b : ℕ) → Member b (3 ∷ []) → b ≡ 1 → ⊥
    not_called b (inl e) q = omega arith
    not_called b (inr m) q = m

pub caller_of_record_lasts : CallerOfRecordLasts
caller_of_record_lasts = (record_made Parity parity_ok guard_record first_place (parity_record ∷ []) guard_checked earlier_right, guard_serves, number_does_not)
  where
    earlier_right : (Q : Checked) → Member Q (parity_record ∷ []) → IsRight Parity Q
    earlier_right Q (inl q) = subst (IsRight Parity) (sym q) mutual_group_lasts
    earlier_right Q (inr q) = absurd q

-- A block with a strict `some` variable.
abbrev inner : LfType
inner = pi (on_one 4 (var 1)) (on_one 5 (var 2))

is_strict : IsStrictBlock strict_block
is_strict zero A g = ([], on_one 4 (var 0), [], refl, refl)
is_strict (suc x) A (C, g, e) = absurd g

weak_is_not : IsStrictBlock weak_block → ⊥
weak_is_not h = by (h 0 nat refl)
  where
    by : (later : List LfType) × (E : LfType) × (es : List LfType) × (onto later (E ∷ es) ≡ nat ∷ []) × (strict_type (among es) nothing (past_types es 0) E ≡ true) → ⊥
    by ([], E, es, p, q) =
        let a : E ≡ nat = cc in
        let b : es ≡ [] = cc in
        let r : false ≡ true = sym (ap (λ X. strict_type (among es) nothing (past_types es 0) X) a ∙ ap (λ ds. strict_type (among ds) nothing (past_types ds 0) nat) b) ∙ q in
        absurd cc
    by (D ∷ [], E, es, p, q) = absurd cc
    by (D ∷ (F ∷ later), E, es, p, q) = absurd cc

abbrev one_value : ℕ → Image
one_value zero = put (base 0) (var 1)
one_value (suc i) = keep i

block_values : (Σ : Signature) → Values Σ everything (nat ∷ []) (scope strict_clause) one_value
block_values Σ = record { typed = typed; closed = closed }
  where
    typed : (i : ℕ) (A : LfType) → TypeAt (nat ∷ []) i A → everything i ≡ true → ImageHasType Σ (scope strict_clause) (one_value i) (substitute_type reduce one_value A)
    typed zero A g u = subst (λ X. ImageHasType Σ (scope strict_clause) (put (base 0) (var 1)) (substitute_type reduce one_value X)) (sym g) (refl, (nat, (nat, refl, refl), refl))
    typed (suc i) A (C, g, e) u = absurd g

    closed : (i : ℕ) (A : LfType) → TypeAt (nat ∷ []) i A → everything i ≡ true → UsesType everything A
    closed zero A g u = subst (UsesType everything) (sym g) tt
    closed (suc i) A (C, g, e) u = absurd g

block_terms : (i : ℕ) (A : LfType) → TypeAt (nat ∷ []) i A → IsTerm (one_value i)
block_terms zero A g = tt
block_terms (suc i) A (C, g, e) = absurd g

strict_served : (Σ : Signature) → WellWorlded Σ (strict_block ∷ []) strict_clause
strict_served Σ zero A (v, g) = subst (λ X. IsSequence Σ (strict_block ∷ []) (scope strict_clause) (binders [] X)) (sym g) (next_instance strict_block one_value no_instance (inl refl) is_strict (block_values Σ) block_terms)
strict_served Σ (suc zero) A (v, g) = absurd cc
strict_served Σ (suc (suc i)) A (v, (C, (D, g, e), f)) = absurd g

pub strict_serves : StrictBlockServes
strict_serves = (strict_served, weak_is_not)
