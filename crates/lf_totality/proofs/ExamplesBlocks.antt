-- A group whose block has a strict `some` variable lasts.
use Rattle.std.proofs.Common.{◌≡◌, ℕ, zero, suc, List, [], ◌∷◌, refl, sym, ap, ◌∙◌, subst, arith, inl, inr, true≢false}
use Rattle.std.specs.Prelude.{Bool, true, false, ◌⊎◌, Some}
use Rattle.lf.specs.Syntax.{constant, variable, metavariable, Term, Spine, lambda, root, nil, app, LfType, Kind, pi, star, base}
use Rattle.lf.specs.Substitution.{Image, keep, put, substitute_type, reduce}
use Rattle.lf.specs.Typing.{Signature, TypeAt, HasType, SpineType, SpineFitsKind, IsType, IsKind, IsContext, IsSignature, ImageHasType}
use Rattle.lf.specs.Variables.{target, target_arguments, binders, Values, UsesType, FamiliesIn, KindFamiliesIn, everything, nothing, onto, under}
use Rattle.lf.specs.Subordination.{Block, Member, IsDeclared, SelfContained}
use Rattle.lf.specs.Worlds.{World}
use Rattle.lf.specs.Extension.{Extends}
use Rattle.lf.proofs.Decidability.{variable_type_unique}
use Rattle.lf_checks.specs.Tests.{is_in}
use Rattle.lf_checks.specs.Clause.{Clause, IsClause, IsSubgoal, among, constant_clause, entry_clause, from_constant, from_entry, outside, scope, variables}
use Rattle.lf_checks.specs.Marks.{HasSoundMarks, SamePlaces, TypedPlaces, input_places, free_places}
use Rattle.lf_checks.specs.Ground.{Subgoals, UsesGoal, ground_first, ground_after}
use Rattle.lf_checks.specs.Modes.{AllGround, EachHypothesis, InFreePlace, WellModed, WellModedTo, occurs_at}
use Rattle.lf_checks.specs.Worlded.{WellWorlded, IsSequence, IsStrictBlock, IsTerm, no_instance, next_instance}
use Rattle.lf_checks.specs.Order.{IsAtPlaces, equal, first_argument, place, under_constant}
use Rattle.lf_checks.specs.Descent.{CallDescends}
use Rattle.lf_cases.specs.Cover.{AreTerms, CoveredBy, CoveredInputs, CoveredOutputs, InstanceIn, by_constant}
use Rattle.lf_totality.specs.Total.{HasTotalMarks, Total}
use Rattle.lf_totality.specs.Group.{GroupChecked, IsCallee}
use Rattle.lf_totality.specs.Examples.{var, nat, z, successor, first_place}
use Rattle.lf_totality.specs.ExamplesGroups.{on_one, one_kind, first_three}
use Rattle.lf_totality.specs.ExamplesBlocks.{Numbered, numbered_types, numbered_kinds, numbered_marks, numbered_block, numbered_entry, numbered_record, a_s, a_z, StrictBlockLasts, NumbersHaveDerivations}
use Rattle.lf_totality.proofs.Addition.{spine_target}
use Rattle.lf_totality.proofs.After.{record_made, lasting_total}
use Rattle.lf_totality.proofs.ExampleLemmas.{step}
use Rattle.lf_cases.proofs.Instances.{entry_of, EntryAt, instance_typed}
use Rattle.lf_totality.proofs.Low.{no_outputs}

some_type : {A B : LfType} → Some A ≡ Some B → A ≡ B
some_type e = cc

some_kind : {A B : Kind} → Some A ≡ Some B → A ≡ B
some_kind e = cc

abbrev Blocks : List Block
Blocks = numbered_block ∷ []

nat_ok : (G : List LfType) → IsType Numbered G nat
nat_ok G = (star, refl, tt)

one_ok : (G : List LfType) (a : ℕ) (M : Term) → numbered_kinds a ≡ Some one_kind → HasType Numbered G M nat → IsType Numbered G (on_one a M)
one_ok G a M e m = (one_kind, e, (m, tt))

a_s_ok : IsType Numbered [] a_s.type
a_s_ok =
    let g1 : List LfType = nat ∷ [] in
    let g2 : List LfType = on_one 1 (var 0) ∷ g1 in
    let g3 : List LfType = on_one 2 (var 1) ∷ g2 in
    let goal : LfType = pi (on_one 1 (var 0)) (pi (on_one 2 (var 1)) (on_one 2 (var 2))) in
    (nat_ok [], ((one_ok g1 1 (var 0) refl (nat, refl, refl), (one_ok g2 2 (var 1) refl (nat, (nat, refl, refl), refl), one_ok g3 2 (var 2) refl (nat, (nat, (nat, refl, refl), refl), refl))), one_ok (goal ∷ g1) 2 (successor (var 1)) refl (pi nat nat, refl, ((nat, (nat, refl, refl), refl), refl))))

pub numbered_ok : IsSignature Numbered
numbered_ok = record { types_ok = types; kinds_ok = kinds }
  where
    types : (c : ℕ) (A : LfType) → numbered_types c ≡ Some A → IsType Numbered [] A
    types zero A e = subst (IsType Numbered []) (some_type e) (nat_ok [])
    types (suc zero) A e = subst (IsType Numbered []) (some_type e) (nat_ok [], nat_ok (nat ∷ []))
    types (suc (suc zero)) A e = subst (IsType Numbered []) (some_type e) (one_kind, refl, ((nat, refl, refl), tt))
    types (suc (suc (suc zero))) A e = subst (IsType Numbered []) (some_type e) a_s_ok
    types (suc (suc (suc (suc n)))) A e = absurd cc

    kinds : (a : ℕ) (K : Kind) → numbered_kinds a ≡ Some K → IsKind Numbered [] K
    kinds zero K e = subst (IsKind Numbered []) (some_kind e) tt
    kinds (suc zero) K e = subst (IsKind Numbered []) (some_kind e) (nat_ok [], tt)
    kinds (suc (suc zero)) K e = subst (IsKind Numbered []) (some_kind e) (nat_ok [], tt)
    kinds (suc (suc (suc n))) K e = absurd cc

block_ok : IsContext Numbered (onto numbered_block.entries numbered_block.some)
block_ok = (((tt, nat_ok []), one_ok (nat ∷ []) 1 (var 0) refl (nat, refl, refl)), one_ok (on_one 1 (var 0) ∷ nat ∷ []) 2 (var 1) refl (nat, (nat, refl, refl), refl))

-- the families, which are self-contained
entry_in : (B : Block) (E : LfType) → Member B Blocks → Member E B.entries → (first_three (target E) ≡ true) × FamiliesIn first_three E
entry_in B E (inr m) i = absurd m
entry_in B E (inl e) i = by (subst (λ D. Member E D.entries) e i)
  where
    by : Member E numbered_block.entries → (first_three (target E) ≡ true) × FamiliesIn first_three E
    by (inl q) = subst (λ X. (first_three (target X) ≡ true) × FamiliesIn first_three X) (sym q) (refl, refl)
    by (inr (inl q)) = subst (λ X. (first_three (target X) ≡ true) × FamiliesIn first_three X) (sym q) (refl, refl)
    by (inr (inr m)) = absurd m

three_contained : SelfContained Numbered Blocks first_three
three_contained = record { declared = declared; kinds_in = kinds_in; types_in = types_in; entries_in = λ B E m i s. (entry_in B E m i).1 }
  where
    declared : (a : ℕ) → first_three a ≡ true → IsDeclared Numbered a
    declared zero e = (star, refl)
    declared (suc zero) e = (one_kind, refl)
    declared (suc (suc zero)) e = (one_kind, refl)
    declared (suc (suc (suc a))) e = absurd cc

    kinds_in : (a : ℕ) (K : Kind) → numbered_kinds a ≡ Some K → first_three a ≡ true → KindFamiliesIn first_three K
    kinds_in zero K e s = subst (KindFamiliesIn first_three) (some_kind e) tt
    kinds_in (suc zero) K e s = subst (KindFamiliesIn first_three) (some_kind e) (refl, tt)
    kinds_in (suc (suc zero)) K e s = subst (KindFamiliesIn first_three) (some_kind e) (refl, tt)
    kinds_in (suc (suc (suc a))) K e s = absurd cc

    types_in : (c : ℕ) (A : LfType) → numbered_types c ≡ Some A → first_three (target A) ≡ true → FamiliesIn first_three A
    types_in zero A e s = subst (FamiliesIn first_three) (some_type e) refl
    types_in (suc zero) A e s = subst (FamiliesIn first_three) (some_type e) (refl, refl)
    types_in (suc (suc zero)) A e s = subst (FamiliesIn first_three) (some_type e) refl
    types_in (suc (suc (suc zero))) A e s = subst (FamiliesIn first_three) (some_type e) (refl, ((refl, (refl, refl)), refl))
    types_in (suc (suc (suc (suc n)))) A e s = absurd cc

-- the one subgoal
abbrev goal : LfType
goal = pi (on_one 1 (var 1)) (pi (on_one 2 (var 2)) (on_one 2 (var 3)))

s_subgoal : (i : ℕ) (A : LfType) → IsSubgoal a_s i A → A ≡ goal
s_subgoal zero A (v, g) = g
s_subgoal (suc zero) A (v, g) = absurd cc
s_subgoal (suc (suc i)) A (v, (C, (D, g, e), f)) = absurd g

z_subgoal : (i : ℕ) (A : LfType) → IsSubgoal a_z i A → ⊥
z_subgoal i A (v, g) = g

u_subgoal : (i : ℕ) (A : LfType) → IsSubgoal numbered_entry i A → ⊥
u_subgoal zero A (v, g) = absurd cc
u_subgoal (suc zero) A (v, g) = absurd cc
u_subgoal (suc (suc i)) A (v, (C, (D, g, e), f)) = absurd g

-- modes

sound : HasSoundMarks Numbered 2 (numbered_marks 2)
sound = (one_kind, refl, (tt, tt))

abbrev Moded : ℕ → (ℕ → Bool) → LfType → Type 0
Moded n U A = HasSoundMarks Numbered (target A) (numbered_marks (target A)) × UsesGoal U (input_places (numbered_marks (target A))) A × EachHypothesis (WellModedTo n Numbered numbered_marks (λ f. is_in f (2 ∷ []))) (λ f. is_in f (2 ∷ [])) (scope a_s) (outside a_s.type a_s.fixed) U A

uses_goal : UsesGoal (ground_first numbered_marks a_s) (input_places (numbered_marks 2)) goal
uses_goal = (((refl, tt), tt), (((refl, tt), tt), ((refl, tt), tt)))

-- the hypothesis u, as a clause
hypothesis_moded : (n : ℕ) → WellModedTo n Numbered numbered_marks (λ f. is_in f (2 ∷ [])) (under (ground_first numbered_marks a_s)) (record { outer = on_one 1 (var 1) ∷ scope a_s; fixed = under (outside a_s.type nothing); type = on_one 2 (var 2) })
hypothesis_moded zero = tt
hypothesis_moded (suc n) = (sound, (tt, λ x v o. absurd (true≢false o)))

s_moded : (n : ℕ) → WellModedTo n Numbered numbered_marks (λ f. is_in f (2 ∷ [])) everything a_s
s_moded zero = tt
s_moded (suc n) = (sound, step numbered_marks a_s (Moded n) (λ U. AllGround numbered_marks a_s U) 1 0 (ground_first numbered_marks a_s) goal refl ((sound, uses_goal, (tt, (hypothesis_moded n, tt))), (tt, ground)))
  where
    ground : (x : ℕ) → variables a_s x ≡ true → outside a_s.type everything x ≡ false → (ground_after numbered_marks a_s goal (ground_first numbered_marks a_s) x ≡ true) ⊎ (occurs_at (free_places (numbered_marks 2)) x (target_arguments a_s.type) ≡ true) ⊎ InFreePlace numbered_marks a_s x
    ground zero e o = absurd cc
    ground (suc zero) e o = inl refl
    ground (suc (suc x)) e o = absurd cc

z_moded : (n : ℕ) → WellModedTo n Numbered numbered_marks (λ f. is_in f (2 ∷ [])) everything a_z
z_moded zero = tt
z_moded (suc n) = (sound, (tt, λ x e o. absurd (true≢false o)))

u_moded : (n : ℕ) → WellModedTo n Numbered numbered_marks (λ f. is_in f (2 ∷ [])) everything numbered_entry
u_moded zero = tt
u_moded (suc n) = (sound, (tt, λ x e o. absurd (true≢false o)))

-- the local context is an instance of the block: N for n
is_strict : IsStrictBlock numbered_block
is_strict zero A g = (on_one 2 (var 1) ∷ [], on_one 1 (var 0), [], refl, refl)
is_strict (suc x) A (C, g, e) = absurd g

abbrev one_value : ℕ → Image
one_value zero = put (base 0) (var 1)
one_value (suc i) = keep i

block_values : Values Numbered everything (nat ∷ []) (scope a_s) one_value
block_values = record { typed = typed; closed = closed }
  where
    typed : (i : ℕ) (A : LfType) → TypeAt (nat ∷ []) i A → everything i ≡ true → ImageHasType Numbered (scope a_s) (one_value i) (substitute_type reduce one_value A)
    typed zero A g u = subst (λ X. ImageHasType Numbered (scope a_s) (put (base 0) (var 1)) (substitute_type reduce one_value X)) (sym g) (refl, (nat, (nat, refl, refl), refl))
    typed (suc i) A (C, g, e) u = absurd g

    closed : (i : ℕ) (A : LfType) → TypeAt (nat ∷ []) i A → everything i ≡ true → UsesType everything A
    closed zero A g u = subst (UsesType everything) (sym g) tt
    closed (suc i) A (C, g, e) u = absurd g

block_terms : (i : ℕ) (A : LfType) → TypeAt (nat ∷ []) i A → IsTerm (one_value i)
block_terms zero A g = tt
block_terms (suc i) A (C, g, e) = absurd g

goal_local : IsSequence Numbered Blocks (scope a_s) (binders [] goal)
goal_local = next_instance numbered_block one_value no_instance (inl refl) is_strict block_values block_terms

-- the call is at N, and the head at s N
descends : CallDescends Numbered Blocks first_place (2 ∷ []) a_s goal
descends = (tt, inl (var 3, successor (var 3), refl, refl, one_kind, refl, nat, refl, under_constant refl (first_argument equal)))

-- for each clause of the group
clauses_of : (P : Clause → Type 0) → P a_z → P a_s → P numbered_entry → (c : Clause) → IsClause Numbered Blocks c → Member (target c.type) (2 ∷ []) → P c
clauses_of P a b u c k (inr m) = absurd m
clauses_of P a b u c (from_constant k U e) (inl g) = by k U e g
  where
    by : (k : ℕ) (U : LfType) → numbered_types k ≡ Some U → target U ≡ 2 → P (constant_clause U)
    by zero U e g = let q : ◌≡◌ {A = ℕ} 0 2 = ap target (some_type e) ∙ g in absurd (omega arith)
    by (suc zero) U e g = let q : ◌≡◌ {A = ℕ} 0 2 = ap target (some_type e) ∙ g in absurd (omega arith)
    by (suc (suc zero)) U e g = subst (λ X. P (constant_clause X)) (some_type e) a
    by (suc (suc (suc zero))) U e g = subst (λ X. P (constant_clause X)) (some_type e) b
    by (suc (suc (suc (suc n)))) U e g = absurd cc
clauses_of P a b u c (from_entry B later E es (inr i) q) (inl g) = absurd i
clauses_of P a b u c (from_entry B later E es (inl b') q) (inl g) = by later E es (q ∙ ap (λ D. D.entries) b') g
  where
    by : (later : List LfType) (E : LfType) (es : List LfType) → onto later (E ∷ es) ≡ numbered_block.entries → target E ≡ 2 → P (entry_clause B es E)
    by [] E es q g =
        let e : E ≡ on_one 2 (var 1) = cc in
        let f : es ≡ on_one 1 (var 0) ∷ [] = cc in
        subst (λ D. P (entry_clause D es E)) (sym b') (subst (λ X. P (entry_clause numbered_block es X)) (sym e) (subst (λ X. P (entry_clause numbered_block X (on_one 2 (var 1)))) (sym f) u))
    by (D ∷ []) E es q g = let e : E ≡ on_one 1 (var 0) = cc in let r : ◌≡◌ {A = ℕ} 1 2 = sym (ap target e) ∙ g in absurd (omega arith)
    by (D ∷ (D' ∷ [])) E es q g = absurd cc
    by (D ∷ (D' ∷ (D'' ∷ ds))) E es q g = absurd cc

-- a number is zero or a successor: no entry is a number
abbrev NatForm : Signature → List LfType → Term → Type 0
NatForm Σ G M = (M ≡ z) ⊎ ((N : Term) × (M ≡ successor N) × HasType Σ G N nat)

-- the value of N
abbrev images : Term → ℕ → Image
images N zero = keep 0
images N (suc zero) = put (base 0) N
images N (suc (suc i)) = keep i

s_values : (Σ : Signature) (G : List LfType) (N : Term) → HasType Σ G N nat → Values Σ (ground_first numbered_marks a_s) (scope a_s) G (images N)
s_values Σ G N n = record { typed = typed; closed = closed }
  where
    typed : (i : ℕ) (A : LfType) → TypeAt (scope a_s) i A → ground_first numbered_marks a_s i ≡ true → ImageHasType Σ G (images N i) (substitute_type reduce (images N) A)
    typed zero A g u = absurd cc
    typed (suc zero) A g u = subst (λ X. ImageHasType Σ G (put (base 0) N) (substitute_type reduce (images N) X)) (sym (variable_type_unique (scope a_s) 1 A nat g (nat, refl, refl))) (refl, n)
    typed (suc (suc i)) A (C, (D, g, e), f) u = absurd g

    closed : (i : ℕ) (A : LfType) → TypeAt (scope a_s) i A → ground_first numbered_marks a_s i ≡ true → UsesType (ground_first numbered_marks a_s) A
    closed zero A g u = absurd cc
    closed (suc zero) A g u = subst (UsesType (ground_first numbered_marks a_s)) (sym (variable_type_unique (scope a_s) 1 A nat g (nat, refl, refl))) tt
    closed (suc (suc i)) A (C, (D, g, e), f) u = absurd g

s_terms : (N : Term) → AreTerms a_s (ground_first numbered_marks a_s) (images N)
s_terms N zero o u = absurd cc
s_terms N (suc zero) o u = tt
s_terms N (suc (suc i)) o u = absurd cc

module _ (Σ : Signature) (x : Extends first_three Numbered Σ) (G : List LfType) (w : World Σ Blocks first_three G) where
  different : {m n : ℕ} → m ≡ suc n → m ≡ zero → ⊥
  different e f = omega arith

  no_variable : (i : ℕ) (A : LfType) → TypeAt G i A → target A ≡ 0 → ⊥
  no_variable i A g t = go (entry_of Σ x.ok w i A g (ap first_three t))
    where
      go : EntryAt Σ x.ok w i → ⊥
      go (B, inr m, θ, b, k, a, q) = absurd m
      go (B, inl e, θ, b, k, a, q) = at k (subst (λ D. among D.entries k ≡ true) e a) q
        where
          typed : Values Σ everything (onto numbered_block.entries numbered_block.some) G θ
          typed = (instance_typed Σ x.ok w numbered_block θ (subst (λ D. InstanceIn w D θ) e b)).typed

          at : (k : ℕ) → among numbered_block.entries k ≡ true → θ k ≡ keep i → ⊥
          at zero a q =
              let h : TypeAt G i (substitute_type reduce θ (on_one 2 (var 2))) = subst (λ y. ImageHasType Σ G y (substitute_type reduce θ (on_one 2 (var 2)))) q (typed.typed 0 (on_one 2 (var 2)) refl refl) in
              different (sym (ap target (variable_type_unique G i (substitute_type reduce θ (on_one 2 (var 2))) A h g))) t
          at (suc zero) a q =
              let h : TypeAt G i (substitute_type reduce θ (on_one 1 (var 2))) = subst (λ y. ImageHasType Σ G y (substitute_type reduce θ (on_one 1 (var 2)))) q (typed.typed 1 (on_one 1 (var 2)) (on_one 1 (var 1), refl, refl) refl) in
              different (sym (ap target (variable_type_unique G i (substitute_type reduce θ (on_one 1 (var 2))) A h g))) t
          at (suc (suc k)) a q = absurd cc

  zero_arguments : (T : Spine) → SpineType Σ G T nat nat → NatForm Σ G (root (constant 0) T)
  zero_arguments nil r = inl refl
  zero_arguments (app M T) r = absurd r

  one_argument : (T : Spine) → SpineType Σ G T (pi nat nat) nat → NatForm Σ G (root (constant 1) T)
  one_argument nil r = absurd cc
  one_argument (app M nil) (m, r) = inr (M, refl, m)
  one_argument (app M (app N T)) (m, r) = absurd r

  constant_form : (c : ℕ) (A : LfType) (T : Spine) → numbered_types c ≡ Some A → target A ≡ 0 → SpineType Σ G T A nat → NatForm Σ G (root (constant c) T)
  constant_form zero A T e t r = zero_arguments T (subst (λ X. SpineType Σ G T X nat) (sym (some_type e)) r)
  constant_form (suc zero) A T e t r = one_argument T (subst (λ X. SpineType Σ G T X nat) (sym (some_type e)) r)
  constant_form (suc (suc zero)) A T e t r = absurd (different (sym (ap target (some_type e))) t)
  constant_form (suc (suc (suc zero))) A T e t r = absurd (different (sym (ap target (some_type e))) t)
  constant_form (suc (suc (suc (suc n)))) A T e t r = absurd cc

  nat_form : (M : Term) → HasType Σ G M nat → NatForm Σ G M
  nat_form (lambda M) m = absurd m
  nat_form (root (constant c) T) (A, e, r) = let t : target A ≡ 0 = spine_target Σ G T A nat r in constant_form c A T (x.no_new c A e (ap first_three t)) t r
  nat_form (root (metavariable c) T) (A, e, r) = absurd e
  nat_form (root (variable j) T) (A, g, r) = absurd (no_variable j A g (spine_target Σ G T A nat r))

  covered : (T : Spine) → TypedPlaces Σ (true ∷ []) G T one_kind → CoveredBy w (true ∷ []) 2 T
  covered nil t = absurd t
  covered (app M nil) (m, i) = by (nat_form M m)
    where
      by : NatForm Σ G M → CoveredBy w (true ∷ []) 2 (app M nil)
      by (inl e) = record { head = constant 2; clause = a_z; outer = keep; values = keep; offered = by_constant 2 a_z.type (x.types_stay 2 a_z.type refl); family = refl; typed = record { typed = λ i A g u. absurd g; closed = λ i A g u. absurd g }; agrees = λ j X g. absurd g; terms = λ i o u. absurd cc; same = (e, tt); uses = (tt, tt) }
      by (inr (N, e, n)) = record { head = constant 3; clause = a_s; outer = keep; values = images N; offered = by_constant 3 a_s.type (x.types_stay 3 a_s.type refl); family = refl; typed = s_values Σ G N n; agrees = λ j X g. absurd g; terms = s_terms N; same = (e, tt); uses = (((refl, tt), tt), tt) }
  covered (app M (app N T)) t = absurd t.1

inputs_covered : CoveredInputs Numbered numbered_marks Blocks first_three 2
inputs_covered Σ x G w T K p t = covered Σ x G w T (subst (TypedPlaces Σ (true ∷ []) G T) (some_kind (sym p ∙ x.kinds_stay 2 one_kind refl)) t)

-- the group
one_family : (P : ℕ → Type 0) → P 2 → (f : ℕ) → Member f (2 ∷ []) → P f
one_family P a f (inl e) = subst P (sym e) a
one_family P a f (inr m) = absurd m

numbered_checked : GroupChecked Numbered numbered_record first_place []
numbered_checked = record {
  marked = one_family (λ f. HasTotalMarks Numbered f (numbered_marks f)) (sound, tt);
  blocks_typed = blocks;
  same_before = λ Q q. absurd q;
  itself_below = one_family (λ f. first_three f ≡ true) refl;
  self_contained = λ f i. three_contained;
  frozen = record { families_frozen = one_family (λ f. first_three f ≡ true) refl; targets_frozen = λ B E m i. (entry_in B E m i).0; below_frozen = λ f i b h. h; self_contained = three_contained };
  orders_at_inputs = one_family (λ f. IsAtPlaces (input_places (numbered_marks f)) (place 1)) refl;
  well_moded = clauses_of (λ c. WellModed Numbered numbered_marks (λ f. is_in f (2 ∷ [])) c) z_moded s_moded u_moded;
  well_worlded = clauses_of (λ c. WellWorlded Numbered Blocks c) (λ i A h. absurd (z_subgoal i A h)) (λ i A h. subst (λ X. IsSequence Numbered Blocks (scope a_s) (binders [] X)) (sym (s_subgoal i A h)) goal_local) (λ i A h. absurd (u_subgoal i A h));
  callees = clauses_of (λ c. (i : ℕ) (A : LfType) → IsSubgoal c i A → IsCallee numbered_record [] (target c.type) (target A)) (λ i A h. absurd (z_subgoal i A h)) (λ i A h. (((λ j k b. b), λ Q q. absurd q), inl (inl (ap target (s_subgoal i A h))))) (λ i A h. absurd (u_subgoal i A h));
  descending = clauses_of (λ c. (i : ℕ) (A : LfType) → IsSubgoal c i A → Member (target A) (2 ∷ []) → CallDescends Numbered Blocks first_place (2 ∷ []) c A) (λ i A h m. absurd (z_subgoal i A h)) (λ i A h m. subst (CallDescends Numbered Blocks first_place (2 ∷ []) a_s) (sym (s_subgoal i A h)) descends) (λ i A h m. absurd (u_subgoal i A h));
  covered_inputs = one_family (λ f. CoveredInputs Numbered numbered_marks Blocks first_three f) inputs_covered;
  covered_outputs = clauses_of (λ c. Subgoals numbered_marks c (λ U A. CoveredOutputs Numbered numbered_marks Blocks first_three c U A) (λ U. Unit {0})) tt (step numbered_marks a_s (λ U A. CoveredOutputs Numbered numbered_marks Blocks first_three a_s U A) (λ U. Unit {0}) 1 0 (ground_first numbered_marks a_s) goal refl (no_outputs Numbered numbered_marks Blocks first_three a_s (ground_first numbered_marks a_s) goal tt uses_goal, tt)) tt;
}
  where
    blocks : (B : Block) → Member B Blocks → IsContext Numbered (onto B.entries B.some)
    blocks B (inl e) = subst (λ D. IsContext Numbered (onto D.entries D.some)) (sym e) block_ok
    blocks B (inr i) = absurd i

pub strict_block_lasts : StrictBlockLasts
strict_block_lasts = record_made Numbered numbered_ok numbered_record first_place [] numbered_checked (λ Q i. absurd i)

pub numbers_have_derivations : NumbersHaveDerivations
numbers_have_derivations G w M m = by (total.1 G w one_kind (app M nil) refl (m, tt))
  where
    total : Total Numbered 2 (numbered_marks 2) Blocks
    total = lasting_total Numbered 2 (numbered_marks 2) Blocks first_three numbered_ok (strict_block_lasts.lasts 2 (inl refl))

    by : (T : Spine) × (D : Term) × SamePlaces (input_places (numbered_marks 2)) (app M nil) T × SpineFitsKind Numbered G T one_kind × HasType Numbered G D (Rattle.lf.specs.Syntax.atom 2 T) → (D : Term) × HasType Numbered G D (on_one 2 M)
    by (nil, D, s, f, d) = absurd s
    by (app N nil, D, (e, s), f, d) = (D, subst (λ X. HasType Numbered G D (on_one 2 X)) (sym e) d)
    by (app N (app P T), D, s, f, d) = absurd f.1
