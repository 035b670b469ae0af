-- The theorem at work: addition of natural numbers lasts.
use Rattle.lf_checks.specs.Ground.{Subgoals, UsesGoal, ground_after, ground_first}
use Rattle.lf_checks.specs.Worlded.{IsSequence, WellWorlded, no_instance}
use Rattle.lf_checks.specs.Order.{IsAtPlaces, equal, first_argument, place, under_constant}
use Rattle.lf_totality.specs.Total.{HasTotalMarks, Total}
use Rattle.lf_checks.specs.Marks.{HasSoundMarks, SamePlaces, TypedPlaces, free_places, input_places}
use Rattle.lf_totality.specs.Group.{GroupChecked, IsCallee}
use Rattle.lf_checks.specs.Clause.{Clause, IsClause, IsSubgoal, constant_clause, from_constant, from_entry, outside, scope, variables}
use Rattle.lf_checks.specs.Descent.{CallDescends}
use Rattle.lf_cases.specs.Cover.{AreTerms, CoveredBy, CoveredInputs, CoveredOutputs, OutputsCovered, by_constant}
use Rattle.lf_checks.specs.Modes.{AllGround, EachHypothesis, InFreePlace, WellModed, WellModedTo, occurs_at}
use Rattle.lf_totality.specs.Examples.{Addition, AdditionLasts, AdditionStaysChecked, Later, later_kinds, later_types, addition_kinds, addition_marks, addition_record, addition_types, first_below_second, first_place, nat, on_three, plus_kind, plus_s, plus_z, successor, var, z, NumbersHaveSums}
use Rattle.std.proofs.Common.{◌≡◌, ℕ, zero, suc, List, [], ◌∷◌, ◌<◌, refl, sym, ap, ap₂, ◌∙◌, subst, arith, inl, inr, true≢false}
use Rattle.std.specs.Prelude.{Bool, true, false, ◌⊎◌, Some}
use Rattle.lf.specs.Syntax.{constant, variable, metavariable, Term, Spine, lambda, root, nil, app, LfType, Kind, pi, atom, star, base}
use Rattle.lf.specs.Substitution.{Image, keep, put, substitute_type, reduce}
use Rattle.lf.specs.Typing.{Signature, TypeAt, HasType, SpineType, SpineFitsKind, IsType, IsKind, IsSignature, instantiate_type, ImageHasType}
use Rattle.lf.specs.Variables.{target, target_arguments, binders, Values, SameOn, UsesType, FamiliesIn, KindFamiliesIn, everything}
use Rattle.lf.specs.Subordination.{Member, IsDeclared, SelfContained}
use Rattle.lf.specs.Worlds.{World, no_variables, single_variable, whole_instance}
use Rattle.lf.specs.Extension.{Extends}
use Rattle.lf.proofs.Target.{target_of, target_renamed}
use Rattle.lf.proofs.Decidability.{variable_type_unique}
use Rattle.lf_totality.proofs.After.{record_made, lasting_total}
use Rattle.lf_totality.proofs.Stays.{stays_checked}
use Rattle.lf_totality.proofs.ExampleLemmas.{step, below_itself, same_below, in_group}

abbrev pub plus_goal : LfType
plus_goal = on_three 1 (var 3) (var 2) (var 1)

some_type : {A B : LfType} → Some A ≡ Some B → A ≡ B
some_type e = cc

some_kind : {A B : Kind} → Some A ≡ Some B → A ≡ B
some_kind e = cc

-- a signature with the declarations of addition
module _ (Σ : Signature) (k0 : Σ.kinds 0 ≡ Some star) (k1 : Σ.kinds 1 ≡ Some plus_kind) (t0 : Σ.types 0 ≡ Some nat) (t1 : Σ.types 1 ≡ Some (pi nat nat)) where
  nat_ok : (G : List LfType) → IsType Σ G nat
  nat_ok G = (star, k0, tt)

  plus_ok : (G : List LfType) (M N P : Term) → HasType Σ G M nat → HasType Σ G N nat → HasType Σ G P nat → IsType Σ G (on_three 1 M N P)
  plus_ok G M N P m n p = (plus_kind, k1, (m, (n, (p, tt))))

  var_ok : (G : List LfType) (i : ℕ) → TypeAt G i nat → HasType Σ G (var i) nat
  var_ok G i g = (nat, g, refl)

  pub s_ok : (G : List LfType) (M : Term) → HasType Σ G M nat → HasType Σ G (successor M) nat
  s_ok G M m = (pi nat nat, t1, (m, refl))

  types_ok : (c : ℕ) (A : LfType) → addition_types c ≡ Some A → IsType Σ [] A
  types_ok zero A e = subst (IsType Σ []) (some_type e) (nat_ok [])
  types_ok (suc zero) A e = subst (IsType Σ []) (some_type e) (nat_ok [], nat_ok (nat ∷ []))
  types_ok (suc (suc zero)) A e = subst (IsType Σ []) (some_type e) (nat_ok [], plus_ok (nat ∷ []) z (var 0) (var 0) (nat, t0, refl) (var_ok (nat ∷ []) 0 refl) (var_ok (nat ∷ []) 0 refl))
  types_ok (suc (suc (suc zero))) A e =
      let g3 : List LfType = nat ∷ nat ∷ nat ∷ [] in
      let g4 : List LfType = on_three 1 (var 2) (var 1) (var 0) ∷ g3 in
      subst (IsType Σ []) (some_type e) (
        nat_ok [],
        (
          nat_ok (nat ∷ []),
          (
            nat_ok (nat ∷ nat ∷ []),
            (
              plus_ok g3 (var 2) (var 1) (var 0) (var_ok g3 2 (nat, (nat, refl, refl), refl)) (var_ok g3 1 (nat, refl, refl)) (var_ok g3 0 refl),
              plus_ok g4 (successor (var 3)) (var 2) (successor (var 1)) (s_ok g4 (var 3) (var_ok g4 3 (nat, (nat, (nat, refl, refl), refl), refl))) (var_ok g4 2 (nat, (nat, refl, refl), refl)) (s_ok g4 (var 1) (var_ok g4 1 (nat, refl, refl))),
            ),
          ),
        ),
      )
  types_ok (suc (suc (suc (suc n)))) A e = absurd cc

  kinds_ok : (a : ℕ) (K : Kind) → addition_kinds a ≡ Some K → IsKind Σ [] K
  kinds_ok zero K e = subst (IsKind Σ []) (some_kind e) tt
  kinds_ok (suc zero) K e = subst (IsKind Σ []) (some_kind e) (nat_ok [], (nat_ok (nat ∷ []), (nat_ok (nat ∷ nat ∷ []), tt)))
  kinds_ok (suc (suc n)) K e = absurd cc

pub addition_ok : IsSignature Addition
addition_ok = record { types_ok = types_ok Addition refl refl refl refl; kinds_ok = kinds_ok Addition refl refl refl refl }

-- families below plus
abbrev pub S : ℕ → Bool
S b = first_below_second 1 b

-- in a context of no blocks, no variable has a family of S
no_variable : {Σ : Signature} {G : List LfType} → World Σ [] S G → (j : ℕ) (A : LfType) → TypeAt G j A → S (target A) ≡ true → ⊥
no_variable no_variables j A g q = g
no_variable (single_variable {A = B} w t n) zero A g q = true≢false (sym q ∙ ap S (ap target g ∙ target_renamed suc B) ∙ n)
no_variable (single_variable {A = B} w t n) (suc j) A (C, g, e) q = no_variable w j C g (sym (ap S (ap target e ∙ target_renamed suc C)) ∙ q)
no_variable (whole_instance B i e o) j A g q = absurd i

-- the target of a head's type is that of the term
pub spine_target : (Σ : Signature) (G : List LfType) (T : Spine) (A C : LfType) → SpineType Σ G T A C → target A ≡ target C
spine_target Σ G nil A C e = ap target e
spine_target Σ G (app M T) (pi A B) C (m, r) = sym (target_of reduce _ B) ∙ spine_target Σ G T (instantiate_type A M B) C r
spine_target Σ G (app M T) (atom a U) C r = absurd r

one_zero : {n : ℕ} → suc n ≡ zero → ⊥
one_zero e = omega arith

abbrev pub NatForm : Signature → List LfType → Term → Type 0
NatForm Σ G M = (M ≡ z) ⊎ ((N : Term) × (M ≡ successor N) × HasType Σ G N nat)

module _ (Σ : Signature) (x : Extends S Addition Σ) (G : List LfType) (w : World Σ [] S G) where
  constant_form : (c : ℕ) (A : LfType) (T : Spine) → addition_types c ≡ Some A → target A ≡ 0 → SpineType Σ G T A nat → NatForm Σ G (root (constant c) T)
  constant_form zero A T e t r = zero_arguments T (subst (λ X. SpineType Σ G T X nat) (sym (some_type e)) r)
    where
      zero_arguments : (T : Spine) → SpineType Σ G T nat nat → NatForm Σ G (root (constant 0) T)
      zero_arguments nil r = inl refl
      zero_arguments (app M T) r = absurd r
  constant_form (suc zero) A T e t r = one_argument T (subst (λ X. SpineType Σ G T X nat) (sym (some_type e)) r)
    where
      one_argument : (T : Spine) → SpineType Σ G T (pi nat nat) nat → NatForm Σ G (root (constant 1) T)
      one_argument nil r = absurd cc
      one_argument (app M nil) (m, r) = inr (M, refl, m)
      one_argument (app M (app N T)) (m, r) = absurd r
  constant_form (suc (suc zero)) A T e t r = absurd (one_zero (ap target (some_type e) ∙ t))
  constant_form (suc (suc (suc zero))) A T e t r = absurd (one_zero (ap target (some_type e) ∙ t))
  constant_form (suc (suc (suc (suc n)))) A T e t r = absurd cc

  pub nat_form : (M : Term) → HasType Σ G M nat → NatForm Σ G M
  nat_form (lambda M) m = absurd m
  nat_form (root (constant c) T) (A, e, r) =
      let t : target A ≡ 0 = spine_target Σ G T A nat r in
      constant_form c A T (x.no_new c A e (ap S t)) t r
  nat_form (root (metavariable c) T) (A, e, r) = absurd e
  nat_form (root (variable j) T) (A, g, r) = absurd (no_variable w j A g (ap S (spine_target Σ G T A nat r)))

abbrev pub z_images : Term → ℕ → Image
z_images N zero = put (base 0) N
z_images N (suc i) = keep i

abbrev pub s_images : Term → Term → ℕ → Image
s_images M N zero = keep 0
s_images M N (suc zero) = keep 0
s_images M N (suc (suc zero)) = put (base 0) N
s_images M N (suc (suc (suc zero))) = put (base 0) M
s_images M N (suc (suc (suc (suc i)))) = keep i

scope_s_at : (i : ℕ) (A : LfType) → TypeAt (scope plus_s) (suc i) A → (i < 3 → A ≡ nat)
scope_s_at zero A g l = variable_type_unique (scope plus_s) 1 A nat g (nat, refl, refl)
scope_s_at (suc zero) A g l = variable_type_unique (scope plus_s) 2 A nat g (nat, (nat, refl, refl), refl)
scope_s_at (suc (suc zero)) A g l = variable_type_unique (scope plus_s) 3 A nat g (nat, (nat, (nat, refl, refl), refl), refl)
scope_s_at (suc (suc (suc i))) A g l = absurd (omega arith)

is_nat : (Σ : Signature) (G : List LfType) (M : Term) (A : LfType) (σ : ℕ → Image) → A ≡ nat → HasType Σ G M nat → ImageHasType Σ G (put (base 0) M) (substitute_type reduce σ A)
is_nat Σ G M A σ e m = subst (λ X. ImageHasType Σ G (put (base 0) M) (substitute_type reduce σ X)) (sym e) (refl, m)

pub z_values : (Σ : Signature) (G : List LfType) (N : Term) → HasType Σ G N nat → Values Σ (ground_first addition_marks plus_z) (scope plus_z) G (z_images N)
z_values Σ G N n = record { typed = typed; closed = closed }
  where
    typed : (i : ℕ) (A : LfType) → TypeAt (nat ∷ []) i A → ground_first addition_marks plus_z i ≡ true → ImageHasType Σ G (z_images N i) (substitute_type reduce (z_images N) A)
    typed zero A g u = is_nat Σ G N A (z_images N) g n
    typed (suc i) A (C, g, e) u = absurd g

    closed : (i : ℕ) (A : LfType) → TypeAt (nat ∷ []) i A → ground_first addition_marks plus_z i ≡ true → UsesType (ground_first addition_marks plus_z) A
    closed zero A g u = subst (UsesType (ground_first addition_marks plus_z)) (sym g) tt
    closed (suc i) A (C, g, e) u = absurd g

abbrev pub s_first : ℕ → Bool
s_first = ground_first addition_marks plus_s

pub s_values : (Σ : Signature) (G : List LfType) (M N : Term) → HasType Σ G M nat → HasType Σ G N nat → Values Σ s_first (scope plus_s) G (s_images M N)
s_values Σ G M N m n = record { typed = typed; closed = closed }
  where
    typed : (i : ℕ) (A : LfType) → TypeAt (scope plus_s) i A → s_first i ≡ true → ImageHasType Σ G (s_images M N i) (substitute_type reduce (s_images M N) A)
    typed zero A g u = absurd cc
    typed (suc zero) A g u = absurd cc
    typed (suc (suc zero)) A g u = is_nat Σ G N A (s_images M N) (scope_s_at 1 A g (omega arith)) n
    typed (suc (suc (suc zero))) A g u = is_nat Σ G M A (s_images M N) (scope_s_at 2 A g (omega arith)) m
    typed (suc (suc (suc (suc i)))) A (C, (D, (E, (F, g, e), e1), e2), e3) u = absurd g

    closed : (i : ℕ) (A : LfType) → TypeAt (scope plus_s) i A → s_first i ≡ true → UsesType s_first A
    closed zero A g u = absurd cc
    closed (suc zero) A g u = absurd cc
    closed (suc (suc zero)) A g u = subst (UsesType s_first) (sym (scope_s_at 1 A g (omega arith))) tt
    closed (suc (suc (suc zero))) A g u = subst (UsesType s_first) (sym (scope_s_at 2 A g (omega arith))) tt
    closed (suc (suc (suc (suc i)))) A (C, (D, (E, (F, g, e), e1), e2), e3) u = absurd g

same_kind : (Σ : Signature) → Extends S Addition Σ → (K : Kind) → Σ.kinds 1 ≡ Some K → plus_kind ≡ K
same_kind Σ x K e = some_kind (sym (x.kinds_stay 1 plus_kind refl) ∙ e)

pub z_terms : (N : Term) → AreTerms plus_z (ground_first addition_marks plus_z) (z_images N)
z_terms N zero o u = tt
z_terms N (suc i) o u = absurd cc

pub s_terms : (M N : Term) → AreTerms plus_s s_first (s_images M N)
s_terms M N zero o u = absurd cc
s_terms M N (suc zero) o u = absurd cc
s_terms M N (suc (suc zero)) o u = tt
s_terms M N (suc (suc (suc zero))) o u = tt
s_terms M N (suc (suc (suc (suc i)))) o u = absurd cc

pub inputs_case : (Σ : Signature) → Extends S Addition Σ → (G : List LfType) (w : World Σ [] S G) (T : Spine) → TypedPlaces Σ (input_places (addition_marks 1)) G T plus_kind → CoveredBy w (input_places (addition_marks 1)) 1 T
inputs_case Σ x G w (app M (app N (app P nil))) (m, (n, i)) = by M (nat_form Σ x G w M m)
  where
    by : (M : Term) → NatForm Σ G M → CoveredBy w (input_places (addition_marks 1)) 1 (app M (app N (app P nil)))
    by M (inl e) = record { head = constant 2; clause = plus_z; outer = keep; values = z_images N; offered = by_constant 2 plus_z.type (x.types_stay 2 plus_z.type refl); family = refl; typed = z_values Σ G N n; agrees = λ k X g. absurd g; terms = z_terms N; same = (e, (refl, tt)); uses = (tt, ((refl, tt), tt)) }
    by M (inr (M', e, m')) = record { head = constant 3; clause = plus_s; outer = keep; values = s_images M' N; offered = by_constant 3 plus_s.type (x.types_stay 3 plus_s.type refl); family = refl; typed = s_values Σ G M' N m' n; agrees = λ k X g. absurd g; terms = s_terms M' N; same = (e, (refl, tt)); uses = (((refl, tt), tt), ((refl, tt), tt)) }
inputs_case Σ x G w nil i = absurd i
inputs_case Σ x G w (app M nil) i = absurd i.1
inputs_case Σ x G w (app M (app N nil)) i = absurd i.1.1
inputs_case Σ x G w (app M (app N (app P (app Q T)))) i = absurd i.1.1

plus_inputs : CoveredInputs Addition addition_marks [] S 1
plus_inputs Σ x G w T K e i = inputs_case Σ x G w T (subst (TypedPlaces Σ (input_places (addition_marks 1)) G T) (sym (same_kind Σ x K e)) i)

-- the outputs of the subgoal
abbrev s_next : ℕ → Bool
s_next = ground_after addition_marks plus_s plus_goal s_first

abbrev with_output : Term → (ℕ → Image) → ℕ → Image
with_output P σ zero = σ zero
with_output P σ (suc zero) = put (base 0) P
with_output P σ (suc (suc i)) = σ (suc (suc i))

out_values : (Σ : Signature) (G : List LfType) (P : Term) (σ : ℕ → Image) → HasType Σ G P nat → Values Σ s_first (scope plus_s) G σ → Values Σ s_next (scope plus_s) G (with_output P σ)
out_values Σ G P σ p v = record { typed = typed; closed = closed }
  where
    kept : (i : ℕ) (A : LfType) → TypeAt (scope plus_s) (suc (suc i)) A → A ≡ nat → s_first (suc (suc i)) ≡ true → ImageHasType Σ G (σ (suc (suc i))) (substitute_type reduce (with_output P σ) A)
    kept i A g e u = subst (λ X. ImageHasType Σ G (σ (suc (suc i))) (substitute_type reduce (with_output P σ) X)) (sym e) (subst (λ X. ImageHasType Σ G (σ (suc (suc i))) (substitute_type reduce σ X)) e (v.typed (suc (suc i)) A g u))

    typed : (i : ℕ) (A : LfType) → TypeAt (scope plus_s) i A → s_next i ≡ true → ImageHasType Σ G (with_output P σ i) (substitute_type reduce (with_output P σ) A)
    typed zero A g u = absurd cc
    typed (suc zero) A g u = is_nat Σ G P A (with_output P σ) (scope_s_at 0 A g (omega arith)) p
    typed (suc (suc zero)) A g u = kept 0 A g (scope_s_at 1 A g (omega arith)) refl
    typed (suc (suc (suc zero))) A g u = kept 1 A g (scope_s_at 2 A g (omega arith)) refl
    typed (suc (suc (suc (suc i)))) A (C, (D, (E, (F, g, e), e1), e2), e3) u = absurd g

    closed : (i : ℕ) (A : LfType) → TypeAt (scope plus_s) i A → s_next i ≡ true → UsesType s_next A
    closed zero A g u = absurd cc
    closed (suc zero) A g u = subst (UsesType s_next) (sym (scope_s_at 0 A g (omega arith))) tt
    closed (suc (suc zero)) A g u = subst (UsesType s_next) (sym (scope_s_at 1 A g (omega arith))) tt
    closed (suc (suc (suc zero))) A g u = subst (UsesType s_next) (sym (scope_s_at 2 A g (omega arith))) tt
    closed (suc (suc (suc (suc i)))) A (C, (D, (E, (F, g, e), e1), e2), e3) u = absurd g

out_same : (P : Term) (σ : ℕ → Image) → SameOn s_first σ (with_output P σ)
out_same P σ zero u = refl
out_same P σ (suc zero) u = absurd cc
out_same P σ (suc (suc i)) u = refl

out_terms : (P : Term) (σ : ℕ → Image) → AreTerms plus_s s_first σ → AreTerms plus_s s_next (with_output P σ)
out_terms P σ t zero o u = absurd cc
out_terms P σ t (suc zero) o u = tt
out_terms P σ t (suc (suc zero)) o u = t 2 refl refl
out_terms P σ t (suc (suc (suc zero))) o u = t 3 refl refl
out_terms P σ t (suc (suc (suc (suc i)))) o u = absurd cc

plus_outputs : CoveredOutputs Addition addition_marks [] S plus_s s_first plus_goal
plus_outputs Σ x G w h θ off σ v o ts T K e p k = go T p (subst (SpineFitsKind Σ G T) (sym (same_kind Σ x K e)) k)
  where
    go : (T : Spine) → SamePlaces (input_places (addition_marks 1)) (target_arguments (substitute_type reduce σ plus_goal)) T → SpineFitsKind Σ G T plus_kind → OutputsCovered Σ addition_marks plus_s s_first plus_goal G σ T
    go nil p k = absurd p
    go (app M nil) p k = absurd p.1
    go (app M (app N nil)) p k = absurd p.1.1
    go (app M (app N (app P nil))) (q, (r, p)) (m, (n, (l, k))) = record { values = with_output P σ; typed = out_values Σ G P σ l v; same = out_same P σ; terms = out_terms P σ ts; uses = ((refl, tt), ((refl, tt), ((refl, tt), tt))); is_instance = ap₂ (λ A B. on_three 1 A B P) q r }
    go (app M (app N (app P (app Q T)))) p k = absurd p.1.1

sound : HasSoundMarks Addition 1 (addition_marks 1)
sound = (plus_kind, refl, (tt, (tt, tt)))

-- plus-z and plus-s are well-moded, each call descends
z_moded : (n : ℕ) → WellModedTo n Addition addition_marks in_group everything plus_z
z_moded zero = tt
z_moded (suc n) = (sound, (((refl, tt), tt), ground))
  where
    ground : (x : ℕ) → variables plus_z x ≡ true → outside plus_z.type everything x ≡ false → (ground_first addition_marks plus_z x ≡ true) ⊎ (occurs_at (free_places (addition_marks 1)) x (target_arguments plus_z.type) ≡ true) ⊎ InFreePlace addition_marks plus_z x
    ground zero e o = inl refl
    ground (suc x) e o = absurd cc

s_moded : (n : ℕ) → WellModedTo n Addition addition_marks in_group everything plus_s
s_moded zero = tt
s_moded (suc n) = (sound, step addition_marks plus_s (λ U A. HasSoundMarks Addition (target A) (addition_marks (target A)) × UsesGoal U (input_places (addition_marks (target A))) A × EachHypothesis (WellModedTo n Addition addition_marks in_group) in_group (scope plus_s) (outside plus_s.type plus_s.fixed) U A) (λ U. AllGround addition_marks plus_s U) 3 0 s_first plus_goal refl ((sound, ((refl, tt), ((refl, tt), tt)), tt), ((((refl, tt), tt), tt), ground)))
  where
    ground : (x : ℕ) → variables plus_s x ≡ true → outside plus_s.type everything x ≡ false → (s_next x ≡ true) ⊎ (occurs_at (free_places (addition_marks 1)) x (target_arguments plus_s.type) ≡ true) ⊎ InFreePlace addition_marks plus_s x
    ground zero e o = absurd cc
    ground (suc zero) e o = inl refl
    ground (suc (suc zero)) e o = inl refl
    ground (suc (suc (suc zero))) e o = inl refl
    ground (suc (suc (suc (suc x)))) e o = absurd cc

-- the subgoals of plus-z and plus-s
no_subgoal : (i : ℕ) (A : LfType) → IsSubgoal plus_z i A → ⊥
no_subgoal zero A (v, g) = absurd cc
no_subgoal (suc i) A (v, (C, g, e)) = g

the_subgoal : (i : ℕ) (A : LfType) → IsSubgoal plus_s i A → A ≡ plus_goal
the_subgoal zero A (v, g) = g
the_subgoal (suc zero) A (v, g) = absurd cc
the_subgoal (suc (suc zero)) A (v, g) = absurd cc
the_subgoal (suc (suc (suc zero))) A (v, g) = absurd cc
the_subgoal (suc (suc (suc (suc i)))) A (v, (C, (D, (E, (F, g, e), e1), e2), e3)) = absurd g

plus_descends : CallDescends Addition [] first_place (1 ∷ []) plus_s plus_goal
plus_descends = (tt, inl (var 3, successor (var 3), refl, refl, plus_kind, refl, nat, refl, under_constant refl (first_argument equal)))

-- for each clause of plus
clauses_of : (P : Clause → Type 0) → P plus_z → P plus_s → (c : Clause) → IsClause Addition [] c → Member (target c.type) (1 ∷ []) → P c
clauses_of P a b c (from_constant k U e) (inl g) = by k U e g
  where
    by : (k : ℕ) (U : LfType) → addition_types k ≡ Some U → target U ≡ 1 → P (constant_clause U)
    by zero U e g = absurd (one_zero (sym g ∙ sym (ap target (some_type e))))
    by (suc zero) U e g = absurd (one_zero (sym g ∙ sym (ap target (some_type e))))
    by (suc (suc zero)) U e g = subst (λ X. P (constant_clause X)) (some_type e) a
    by (suc (suc (suc zero))) U e g = subst (λ X. P (constant_clause X)) (some_type e) b
    by (suc (suc (suc (suc n)))) U e g = absurd cc
clauses_of P a b c (from_constant k U e) (inr m) = absurd m
clauses_of P a b c (from_entry B later E es i q) g = absurd i

-- the families below the second are self-contained
pub self_contained : SelfContained Addition [] (first_below_second 1)
self_contained = record {
  declared = declared;
  kinds_in = kinds_in;
  types_in = types_in;
  entries_in = λ B E m. absurd m;
}
  where
    declared : (a : ℕ) → first_below_second 1 a ≡ true → IsDeclared Addition a
    declared zero e = (star, refl)
    declared (suc zero) e = (plus_kind, refl)
    declared (suc (suc a)) e = absurd cc

    kinds_in : (a : ℕ) (K : Kind) → addition_kinds a ≡ Some K → first_below_second 1 a ≡ true → KindFamiliesIn (first_below_second 1) K
    kinds_in zero K e s = subst (KindFamiliesIn (first_below_second 1)) (some_kind e) tt
    kinds_in (suc zero) K e s = subst (KindFamiliesIn (first_below_second 1)) (some_kind e) (refl, (refl, (refl, tt)))
    kinds_in (suc (suc a)) K e s = absurd cc

    types_in : (c : ℕ) (A : LfType) → addition_types c ≡ Some A → first_below_second 1 (target A) ≡ true → FamiliesIn (first_below_second 1) A
    types_in zero A e s = subst (FamiliesIn (first_below_second 1)) (some_type e) refl
    types_in (suc zero) A e s = subst (FamiliesIn (first_below_second 1)) (some_type e) (refl, refl)
    types_in (suc (suc zero)) A e s = subst (FamiliesIn (first_below_second 1)) (some_type e) (refl, refl)
    types_in (suc (suc (suc zero))) A e s = subst (FamiliesIn (first_below_second 1)) (some_type e) (refl, (refl, (refl, (refl, refl))))
    types_in (suc (suc (suc (suc n)))) A e s = absurd cc

group_is_one : {f : ℕ} → Member f (1 ∷ []) → f ≡ 1
group_is_one (inl e) = e
group_is_one (inr m) = absurd m

to_group : {f : ℕ} → f ≡ 1 → IsCallee addition_record [] 1 f
to_group e = ((λ i. same_below e, λ Q q. absurd q), inl (inl e))

marked : HasTotalMarks Addition 1 (addition_marks 1)
marked = (sound, tt)

plus_checked : GroupChecked Addition addition_record first_place []
plus_checked = record {
  marked = λ f i. subst (λ a. HasTotalMarks Addition a (addition_marks a)) (sym (group_is_one i)) marked;
  blocks_typed = λ B i. absurd i;
  same_before = λ Q q. absurd q;
  itself_below = λ f i. below_itself f;
  self_contained = λ f i. subst (λ a. SelfContained Addition [] (first_below_second a)) (sym (group_is_one i)) self_contained;
  frozen = record {
    families_frozen = λ f i. ap (first_below_second 1) (group_is_one i);
    targets_frozen = λ B E m. absurd m;
    below_frozen = λ f i b e. ap (λ a. first_below_second a b) (sym (group_is_one i)) ∙ e;
    self_contained = self_contained;
  };
  orders_at_inputs = λ f i. subst (λ a. IsAtPlaces (input_places (addition_marks a)) (place 1)) (sym (group_is_one i)) refl;
  well_moded = clauses_of (λ c. WellModed Addition addition_marks in_group c) z_moded s_moded;
  well_worlded = clauses_of (λ c. WellWorlded Addition [] c) (λ i A h. absurd (no_subgoal i A h)) (λ i A h. subst (λ X. IsSequence Addition [] (scope plus_s) (binders [] X)) (sym (the_subgoal i A h)) no_instance);
  callees = clauses_of (λ c. (i : ℕ) (A : LfType) → IsSubgoal c i A → IsCallee addition_record [] (target c.type) (target A)) (λ i A h. absurd (no_subgoal i A h)) (λ i A h. to_group (ap target (the_subgoal i A h)));
  descending = clauses_of (λ c. (i : ℕ) (A : LfType) → IsSubgoal c i A → Member (target A) (1 ∷ []) → CallDescends Addition [] first_place (1 ∷ []) c A) (λ i A h. absurd (no_subgoal i A h)) (λ i A h m. subst (CallDescends Addition [] first_place (1 ∷ []) plus_s) (sym (the_subgoal i A h)) plus_descends);
  covered_inputs = λ f i. subst (λ a. CoveredInputs Addition addition_marks [] (first_below_second a) a) (sym (group_is_one i)) plus_inputs;
  covered_outputs = clauses_of (λ c. Subgoals addition_marks c (λ U A. CoveredOutputs Addition addition_marks [] (first_below_second (target c.type)) c U A) (λ U. Unit {0})) tt (step addition_marks plus_s (λ U A. CoveredOutputs Addition addition_marks [] S plus_s U A) (λ U. Unit {0}) 3 0 s_first plus_goal refl (plus_outputs, tt));
}

pub addition_lasts : AdditionLasts
addition_lasts = record_made Addition addition_ok addition_record first_place [] plus_checked (λ Q i. absurd i)

-- later declarations
later_ok : IsSignature Later
later_ok = record { types_ok = types; kinds_ok = kinds }
  where
    types : (c : ℕ) (A : LfType) → later_types c ≡ Some A → IsType Later [] A
    types zero A e = types_ok Later refl refl refl refl 0 A e
    types (suc zero) A e = types_ok Later refl refl refl refl 1 A e
    types (suc (suc zero)) A e = types_ok Later refl refl refl refl 2 A e
    types (suc (suc (suc zero))) A e = types_ok Later refl refl refl refl 3 A e
    types (suc (suc (suc (suc zero)))) A e = subst (IsType Later []) (some_type e) ((star, refl, tt), (star, refl, tt))
    types (suc (suc (suc (suc (suc n))))) A e = absurd cc

    kinds : (a : ℕ) (K : Kind) → later_kinds a ≡ Some K → IsKind Later [] K
    kinds zero K e = kinds_ok Later refl refl refl refl 0 K e
    kinds (suc zero) K e = kinds_ok Later refl refl refl refl 1 K e
    kinds (suc (suc zero)) K e = subst (IsKind Later []) (some_kind e) tt
    kinds (suc (suc (suc n))) K e = absurd cc

later_extends : Extends (first_below_second 1) Addition Later
later_extends = record { ok = later_ok; types_stay = types; kinds_stay = kinds; no_new = no_new }
  where
    types : (c : ℕ) (A : LfType) → addition_types c ≡ Some A → later_types c ≡ Some A
    types zero A e = e
    types (suc zero) A e = e
    types (suc (suc zero)) A e = e
    types (suc (suc (suc zero))) A e = e
    types (suc (suc (suc (suc n)))) A e = absurd cc

    kinds : (a : ℕ) (K : Kind) → addition_kinds a ≡ Some K → later_kinds a ≡ Some K
    kinds zero K e = e
    kinds (suc zero) K e = e
    kinds (suc (suc n)) K e = absurd cc

    no_new : (c : ℕ) (A : LfType) → later_types c ≡ Some A → first_below_second 1 (target A) ≡ true → addition_types c ≡ Some A
    no_new zero A e s = e
    no_new (suc zero) A e s = e
    no_new (suc (suc zero)) A e s = e
    no_new (suc (suc (suc zero))) A e s = e
    no_new (suc (suc (suc (suc zero)))) A e s = absurd (true≢false (sym s ∙ sym (ap (λ X. first_below_second 1 (target X)) (some_type e))))
    no_new (suc (suc (suc (suc (suc n))))) A e s = absurd cc

pub stays_after : AdditionStaysChecked
stays_after = stays_checked Addition Later addition_record first_place [] later_extends plus_checked

pub sums : NumbersHaveSums
sums M N m n = by (total.1 [] no_variables plus_kind (app M (app N (app z nil))) refl (m, (n, tt)))
  where
    total : Total Addition 1 (addition_marks 1) []
    total = lasting_total Addition 1 (addition_marks 1) [] (first_below_second 1) addition_ok (addition_lasts.lasts 1 (inl refl))

    by : (T : Spine) × (D : Term) × SamePlaces (input_places (addition_marks 1)) (app M (app N (app z nil))) T × SpineFitsKind Addition [] T plus_kind × HasType Addition [] D (atom 1 T) → (P : Term) × (D : Term) × HasType Addition [] D (on_three 1 M N P)
    by (nil, D, s, f, d) = absurd s
    by (app M' nil, D, s, f, d) = absurd s.1
    by (app M' (app N' nil), D, s, f, d) = absurd s.1.1
    by (app M' (app N' (app P nil)), D, (e, (q, s)), f, d) = (P, D, subst (λ X. HasType Addition [] D (on_three 1 X N P)) (sym e) (subst (λ Y. HasType Addition [] D (on_three 1 M' Y P)) (sym q) d))
    by (app M' (app N' (app P (app Q T))), D, s, f, d) = absurd s.1.1
