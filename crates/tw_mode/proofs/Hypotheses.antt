-- The hypotheses of a subgoal, one after the other, and what a subgoal and a clause come to.
use Rattle.std.proofs.Common.{◌≡◌, ℕ, zero, suc, ◌+◌, ◌-◌, ◌≤◌, List, [], ◌∷◌, ◌++◌, Bool, true, false, length, length-append, refl, sym, ap, ap₂, ◌∙◌, subst, arith}
use Rattle.std.specs.Prelude.{cond, Option, Some, None, Decides, is_none, is_some}
use Rattle.lf.specs.Syntax.{LfType, pi, atom}
use Rattle.lf.specs.Typing.{Signature}
use Rattle.lf.specs.Variables.{same_number, target, under}
use Rattle.lf_checks.specs.Clause.{Clause, scope}
use Rattle.lf_checks.specs.Ground.{UsesGoal}
use Rattle.lf_checks.specs.Marks.{HasSoundMarks, input_places}
use Rattle.lf_checks.specs.ModeFaults.{HasUnsoundMarks, unsound_marks, unground_type, unground_input, wrong_hypothesis}
use Rattle.lf_checks.specs.Modes.{EachHypothesis, WellModedFrom}
use Rattle.lf_checks.specs.Tests.{choose}
use Rattle.lf_checks.proofs.ModeRefuted.{mode_refuted}
use Rattle.tw_mode.specs.Checks.{Outcome}
use Rattle.tw_mode.specs.Outcomes.{ClauseOutcome, NeedsFault, NeedsOutcome, SubgoalOutcome, in_input, in_type, plain_place}
use Rattle.tw_mode.specs.Rows.{marks_in, moded_in}
use Rattle.tw_mode.specs.Scopes.{in_marks}
use Rattle.tw_mode.specs.Solved.{clause_in, ground_outside, with_hidden}
use Rattle.tw_mode.specs.declared.clause.Place.{Place}
use Rattle.tw_mode.specs.declared.outside.Outside.{Outside}
use Rattle.tw_mode.specs.declared.table.Table.{Table}
use Rattle.tw_mode.proofs.Sets.{newest_under, pushed_set}
use Rattle.tw_mode.proofs.Using.{decides_no, decides_same, decides_yes, no_of}
use mathlib.Core.Path.{fun_ext}

-- one more mark that says yes
pub pushed_under : (b : Bool) (ms ns : List Bool) → ns ≡ ms ++ true ∷ [] → in_marks b (length ns) ns ≡ under (in_marks b (length ms) ms)
pushed_under b ms ns e =
    ap (λ n. in_marks b n ns) longer
    ∙ ap (in_marks b (suc (length ms))) e
    ∙ pushed_set b true (length ms) ms refl
    ∙ newest_under (in_marks b (length ms) ms)
  where
    longer : length ns ≡ suc (length ms)
    longer = let l = length-append ms (true ∷ []) in let n = ap length e in omega (arith, l, n)

module _ (P : (ℕ → Bool) → Clause → Type 0) (moded : ℕ → Bool) where
  abbrev pub OneHypothesis : List LfType → (ℕ → Bool) → (ℕ → Bool) → LfType → Type 0
  OneHypothesis C F U A = choose (moded (target A)) (P U (record { outer = C; fixed = F; type = A })) (Unit {0})

  pub hypothesis_fails : (a : Bool) (C : List LfType) (F U : ℕ → Bool) (T A B : LfType) → T ≡ pi A B → a ≡ false → Decides a (OneHypothesis C F U A) → Decides false (EachHypothesis P moded C F U T)
  hypothesis_fails a C F U T A B e f d = subst (λ X. Decides false (EachHypothesis P moded C F U X)) (sym e) (decides_no (λ h. no_of a f d h.0))

  pub hypothesis_passes : (a b : Bool) (C : List LfType) (F F' U U' : ℕ → Bool) (T A B : LfType) → T ≡ pi A B → a ≡ true → F' ≡ under F → U' ≡ under U → Decides a (OneHypothesis C F U A) → Decides b (EachHypothesis P moded (A ∷ C) F' U' B) → Decides b (EachHypothesis P moded C F U T)
  hypothesis_passes a b C F F' U U' T A B e t f u d k =
      subst (λ X. Decides b (EachHypothesis P moded C F U X)) (sym e)
      (decides_same b (λ h. (d.0 t, h)) (λ h. h.1)
      (subst (λ W. Decides b (EachHypothesis P moded (A ∷ C) (under F) W B)) u
      (subst (λ W. Decides b (EachHypothesis P moded (A ∷ C) W U' B)) f k)))

  pub no_hypothesis : (C : List LfType) (F U : ℕ → Bool) (T : LfType) (a : ℕ) (S : _) → T ≡ atom a S → Decides true (EachHypothesis P moded C F U T)
  no_hypothesis C F U T a S e = subst (λ X. Decides true (EachHypothesis P moded C F U X)) (sym e) (decides_yes tt)

pub unmoded_decided : (P : Type 0) (t : Bool) → t ≡ false → Decides true (choose t P (Unit {0}))
unmoded_decided P true e = absurd cc
unmoded_decided P false e = decides_yes tt

moded_decided : (P Q : Type 0) (t r : Bool) → t ≡ true → Decides r P → Decides r (choose t P Q)
moded_decided P Q true r e d = d
moded_decided P Q false r e d = absurd cc

-- a hypothesis of a moded family, by what its check as a clause comes to
hypothesis_decided : (Σ : Signature) (t : Table) (o : Outside) (A : LfType) (f : Option Place) (r : Bool) → r ≡ is_none f → moded_in t (target A) ≡ true → ClauseOutcome Σ t o A f → (C : List LfType) → Decides r (choose (moded_in t (target A)) (WellModedFrom Σ (marks_in t) (moded_in t) (ground_outside o) (clause_in C o A)) (Unit {0}))
hypothesis_decided Σ t o A None r e m h C = moded_decided _ _ (moded_in t (target A)) r m (subst (λ b. Decides b (WellModedFrom Σ (marks_in t) (moded_in t) (ground_outside o) (clause_in C o A))) (sym e) (decides_yes (h C)))
hypothesis_decided Σ t o A (Some p) r e m h C = moded_decided _ _ (moded_in t (target A)) r m (subst (λ b. Decides b (WellModedFrom Σ (marks_in t) (moded_in t) (ground_outside o) (clause_in C o A))) (sym e) (decides_no (mode_refuted Σ (marks_in t) (moded_in t) (ground_outside o) (clause_in C o A) (plain_place p) (h C))))

-- the same by the sets of its marks
pub hypothesis_there : (Σ : Signature) (t : Table) (o : Outside) (A : LfType) (f : Option Place) (r : Bool) → r ≡ is_none f → moded_in t (target A) ≡ true → ClauseOutcome Σ t o A f → (C : List LfType) (F U : ℕ → Bool) → in_marks false o.depth o.fixed.now ≡ F → in_marks true o.depth o.ground.now ≡ U → Decides r (choose (moded_in t (target A)) (WellModedFrom Σ (marks_in t) (moded_in t) U (record { outer = C; fixed = F; type = A })) (Unit {0}))
hypothesis_there Σ t o A f r e m h C F U p q =
    subst (λ V. Decides r (choose (moded_in t (target A)) (WellModedFrom Σ (marks_in t) (moded_in t) V (record { outer = C; fixed = F; type = A })) (Unit {0}))) q
    (subst (λ G. Decides r (choose (moded_in t (target A)) (WellModedFrom Σ (marks_in t) (moded_in t) (ground_outside o) (record { outer = C; fixed = G; type = A })) (Unit {0}))) p
    (hypothesis_decided Σ t o A f r e m h C))

cond_false : (t : Bool) → cond t false false ≡ false
cond_false true = refl
cond_false false = refl

none_marked : (d i : ℕ) → in_marks false d [] i ≡ false
none_marked zero i = refl
none_marked (suc d) i = refl

pushed_nothing : (d i : ℕ) (ms : List Bool) → in_marks false d (ms ++ false ∷ []) i ≡ in_marks false d ms i
pushed_nothing zero i ms = refl
pushed_nothing (suc d) i [] = ap (cond (same_number i d) false) (none_marked d i) ∙ cond_false (same_number i d)
pushed_nothing (suc d) i (m ∷ ms) = ap (cond (same_number i d) m) (pushed_nothing d i ms)

-- marks that say no behind others change no set
hidden_nothing : (n d : ℕ) (ms : List Bool) → length ms + n ≤ d → in_marks false d (with_hidden ms n) ≡ in_marks false d ms
hidden_nothing zero d ms h = refl
hidden_nothing (suc n) d ms h = hidden_nothing n d (ms ++ false ∷ []) (let l = length-append ms (false ∷ []) in omega (arith, h, l)) ∙ fun_ext (λ i. pushed_nothing d i ms)

pub filled : (fs ms : List Bool) (d : ℕ) → length ms ≤ d → length fs ≡ d → fs ≡ with_hidden ms (d - length ms) → in_marks false (length fs) fs ≡ in_marks false d ms
filled fs ms d h l e = ap₂ (λ n xs. in_marks false n xs) l e ∙ hidden_nothing (d - length ms) d ms (omega (arith, h))

-- A subgoal.
module _ (Σ : Signature) (t : Table) (F U : ℕ → Bool) (A : LfType) where
  pub subgoal_unsound : (r : Option ℕ) → is_some r ≡ true → Outcome (HasSoundMarks Σ (target A) (marks_in t (target A))) (HasUnsoundMarks Σ (target A) (marks_in t (target A))) r → SubgoalOutcome Σ t F U A r
  subgoal_unsound None q h c e = absurd cc
  subgoal_unsound (Some j) q h c e = unsound_marks h

  pub subgoal_sound : (r : Option ℕ) → is_some r ≡ false → Outcome (HasSoundMarks Σ (target A) (marks_in t (target A))) (HasUnsoundMarks Σ (target A) (marks_in t (target A))) r → HasSoundMarks Σ (target A) (marks_in t (target A))
  subgoal_sound None q h = h
  subgoal_sound (Some j) q h = absurd cc

  pub needs_sound : (r : Option ℕ) → is_some r ≡ false → NeedsOutcome (marks_in t) U A r → UsesGoal U (input_places (marks_in t (target A))) A
  needs_sound None q h = h
  needs_sound (Some j) q h = absurd cc

  subgoal_needs : (j : ℕ) → HasSoundMarks Σ (target A) (marks_in t (target A)) → NeedsFault (marks_in t) U A j → SubgoalOutcome Σ t F U A (Some j)
  subgoal_needs j s (in_type n) c e = unground_type s n
  subgoal_needs j s (in_input h f) c e = unground_input s h f

  pub subgoal_unground : (r : Option ℕ) → is_some r ≡ true → HasSoundMarks Σ (target A) (marks_in t (target A)) → NeedsOutcome (marks_in t) U A r → SubgoalOutcome Σ t F U A r
  subgoal_unground None q s h = absurd cc
  subgoal_unground (Some j) q s h = subgoal_needs j s h

  pub subgoal_decided : (b : Bool) → HasSoundMarks Σ (target A) (marks_in t (target A)) → UsesGoal U (input_places (marks_in t (target A))) A → ((C : List LfType) → Decides b (EachHypothesis (WellModedFrom Σ (marks_in t) (moded_in t)) (moded_in t) C F U A)) → (b ≡ true → SubgoalOutcome Σ t F U A None) × (b ≡ false → SubgoalOutcome Σ t F U A (Some 0))
  subgoal_decided b s u d = (yes, no)
    where
      yes : b ≡ true → SubgoalOutcome Σ t F U A None
      yes e c f = record { sound = s; ground = u; hypotheses = subst (λ W. EachHypothesis (WellModedFrom Σ (marks_in t) (moded_in t)) (moded_in t) (scope c) W U A) (sym f) ((d (scope c)).0 e) }

      no : b ≡ false → SubgoalOutcome Σ t F U A (Some 0)
      no e c f = wrong_hypothesis s u (λ h. no_of b e (d (scope c)) (subst (λ W. EachHypothesis (WellModedFrom Σ (marks_in t) (moded_in t)) (moded_in t) (scope c) W U A) f h))
