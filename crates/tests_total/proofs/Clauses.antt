-- The clauses of these tests: their subgoals, modes and worlds, over blocks whose only entry is of the family t.
use Rattle.std.proofs.Common.{◌≡◌, ℕ, zero, suc, List, [], ◌∷◌, refl, sym, ap, ◌∙◌, subst, inl, inr, arith}
use Rattle.std.specs.Prelude.{◌⊎◌, Bool, true, false}
use Rattle.lf.specs.Syntax.{LfType, star, variable, root, nil}
use Rattle.lf.specs.Variables.{target, target_arguments, binders, onto, everything}
use Rattle.lf.specs.Subordination.{Block, Member, AreTypedBlocks, IsTypedBlock}
use Rattle.lf_checks.specs.Clause.{Clause, IsClause, IsSubgoal, constant_clause, from_constant, from_entry, outside, scope, variables}
use Rattle.lf_checks.specs.Ground.{UsesGoal, ground_after, ground_first}
use Rattle.lf_checks.specs.Marks.{HasSoundMarks, Mark, free_places, input_places}
use Rattle.lf_checks.specs.Modes.{AllGround, EachHypothesis, InFreePlace, WellModed, WellModedTo, occurs_at}
use Rattle.lf_checks.specs.ModeRows.{marks_of}
use Rattle.lf_checks.specs.Worlded.{WellWorlded, IsSequence, no_instance}
use Rattle.lf_totality.proofs.ExampleLemmas.{step}
use Rattle.tests_total.specs.Declared.{t_type, ok_c_type, yes_c_type, on, predicate_kind}
use Rattle.tests_total.specs.Groups.{block_named, mode_rows}
use Rattle.tests_total.proofs.Entries.{Declarations, each_constant}

abbrev pub ok_c : Clause
ok_c = constant_clause ok_c_type

abbrev pub yes_c : Clause
yes_c = constant_clause yes_c_type

abbrev pub ok_x : LfType
ok_x = on 3 (root (variable 1) nil)

abbrev pub marks : ℕ → List Mark
marks = marks_of mode_rows

-- blocks whose only entry is of the family t
abbrev pub ArePlain : List Block → Type 0
ArePlain W = (B : Block) → Member B W → (l : ℕ) × (B ≡ block_named l)

pub plain_typed : (W : List Block) → ArePlain W → AreTypedBlocks Declarations W
plain_typed W p B i = let (l, e) = p B i in subst (IsTypedBlock Declarations) (sym e) (tt, (star, refl, tt))

-- such an entry is t
pub only_entry : (later : List LfType) (E : LfType) (es : List LfType) → onto later (E ∷ es) ≡ t_type ∷ [] → E ≡ t_type
only_entry [] E es q = first_is q
  where
    first_is : {E X : LfType} {es xs : List LfType} → E ∷ es ≡ X ∷ xs → E ≡ X
    first_is q = cc
only_entry (D ∷ later) E es q = absurd (some_left later E es (rest_is q))
  where
    rest_is : {E X : LfType} {es xs : List LfType} → E ∷ es ≡ X ∷ xs → es ≡ xs
    rest_is q = cc

    some_left : (later : List LfType) (E : LfType) (es : List LfType) → onto later (E ∷ es) ≡ [] → ⊥
    some_left [] E es q = cc
    some_left (D ∷ later) E es q = cc

pub plain_entry : (W : List Block) → ArePlain W → (B : Block) → Member B W → (later : List LfType) (E : LfType) (es : List LfType) → onto later (E ∷ es) ≡ B.entries → E ≡ t_type
plain_entry W p B i later E es q = let (l, e) = p B i in only_entry later E es (q ∙ ap (λ X. X.entries) e)

-- for each clause of a group of one family, which is ok or yes
pub each_clause : (W : List Block) → ArePlain W → (P : Clause → Type 0) (f : ℕ) → (f ≡ 0 → ⊥) → (f ≡ 2 → ⊥) → (f ≡ 3 → P ok_c) → (f ≡ 5 → P yes_c) → (c : Clause) → IsClause Declarations W c → Member (target c.type) (f ∷ []) → P c
each_clause W p P f n0 n2 a b c (from_constant k U e) (inl g) = each_constant (λ k U. target U ≡ f → P (constant_clause U)) (λ q. absurd (n0 (sym q))) (λ q. a (sym q)) (λ q. b (sym q)) k U e g
each_clause W p P f n0 n2 a b c (from_constant k U e) (inr g) = absurd g
each_clause W p P f n0 n2 a b c (from_entry B later E es i q) (inl g) = absurd (n2 (sym g ∙ ap target (plain_entry W p B i later E es q)))
each_clause W p P f n0 n2 a b c (from_entry B later E es i q) (inr g) = absurd g

pub of_ok : (W : List Block) → ArePlain W → (P : Clause → Type 0) → P ok_c → (c : Clause) → IsClause Declarations W c → Member (target c.type) (3 ∷ []) → P c
of_ok W p P a = each_clause W p P 3 (λ e. omega arith) (λ e. omega arith) (λ e. a) (λ e. absurd (differ e))
  where
    differ : ◌≡◌ {A = ℕ} 3 5 → ⊥
    differ e = omega arith

pub of_yes : (W : List Block) → ArePlain W → (P : Clause → Type 0) → P yes_c → (c : Clause) → IsClause Declarations W c → Member (target c.type) (5 ∷ []) → P c
of_yes W p P a = each_clause W p P 5 (λ e. omega arith) (λ e. omega arith) (λ e. absurd (differ e)) (λ e. a)
  where
    differ : ◌≡◌ {A = ℕ} 5 3 → ⊥
    differ e = omega arith

-- the subgoals
pub no_subgoal : (i : ℕ) (A : LfType) → IsSubgoal ok_c i A → ⊥
no_subgoal i A (v, g) = g

pub the_subgoal : (i : ℕ) (A : LfType) → IsSubgoal yes_c i A → A ≡ ok_x
the_subgoal zero A (v, g) = g
the_subgoal (suc zero) A (v, g) = absurd cc
the_subgoal (suc (suc i)) A (v, (C, (D, g, e), f)) = absurd g

-- both clauses are well-moded and well-worlded
pub ok_sound : HasSoundMarks Declarations 3 (marks 3)
ok_sound = (predicate_kind, refl, (tt, tt))

pub yes_sound : HasSoundMarks Declarations 5 (marks 5)
yes_sound = (predicate_kind, refl, (tt, tt))

pub ok_moded : (group : ℕ → Bool) → WellModed Declarations marks group ok_c
ok_moded group zero = tt
ok_moded group (suc n) = (ok_sound, (tt, λ x e o. absurd cc))

pub yes_moded : (group : ℕ → Bool) → WellModed Declarations marks group yes_c
yes_moded group zero = tt
yes_moded group (suc n) = (yes_sound, step marks yes_c (λ U A. HasSoundMarks Declarations (target A) (marks (target A)) × UsesGoal U (input_places (marks (target A))) A × EachHypothesis (WellModedTo n Declarations marks group) group (scope yes_c) (outside yes_c.type yes_c.fixed) U A) (λ U. AllGround marks yes_c U) 1 0 (ground_first marks yes_c) ok_x refl ((ok_sound, ((refl, tt), tt), tt), (tt, ground)))
  where
    ground : (x : ℕ) → variables yes_c x ≡ true → outside yes_c.type everything x ≡ false → (ground_after marks yes_c ok_x (ground_first marks yes_c) x ≡ true) ⊎ (occurs_at (free_places (marks 5)) x (target_arguments yes_c.type) ≡ true) ⊎ InFreePlace marks yes_c x
    ground zero e o = absurd cc
    ground (suc zero) e o = inl refl
    ground (suc (suc x)) e o = absurd cc

pub ok_worlded : (W : List Block) → WellWorlded Declarations W ok_c
ok_worlded W i A h = absurd (no_subgoal i A h)

pub yes_worlded : (W : List Block) → WellWorlded Declarations W yes_c
yes_worlded W i A h = subst (λ X. IsSequence Declarations W (scope yes_c) (binders [] X)) (sym (the_subgoal i A h)) no_instance
