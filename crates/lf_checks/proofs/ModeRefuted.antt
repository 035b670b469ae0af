-- A clause with a fault of modes isn't well-moded, and it has one first fault.
use Rattle.std.proofs.Common.{◌≡◌, ℕ, suc, ◌<◌, List, [], ◌∷◌, refl, sym, ap, ◌∙◌, subst, inl, inr, true≢false}
use Rattle.std.specs.Prelude.{Bool, true, false, Some, ◌⊎◌, ◌↔◌}
use Rattle.lf.specs.Syntax.{constant, variable, metavariable, Term, Spine, lambda, root, nil, app, LfType, Kind, pi, atom, kind_pi, star}
use Rattle.lf.specs.Typing.{Signature, TypeAt}
use Rattle.lf.specs.Variables.{target, target_arguments, under, hide, nothing, Uses, UsesSpine, same_number}
use Rattle.lf.proofs.Decidability.{variable_type_unique}
use Rattle.lf_unification.specs.Search.{occurs, occurs_spine}
use Rattle.lf_checks.specs.Clause.{Clause, scope, outside, IsSubgoal}
use Rattle.lf_checks.specs.Descent.{inside}
use Rattle.lf_checks.specs.Ground.{UsesGoal}
use Rattle.lf_checks.specs.GroundUntil.{ground_until, ground_at_end}
use Rattle.lf_checks.specs.Marks.{Mark, input, output, free, input_places, output_places, free_places, AreSound, HasSoundMarks, UsesPlaces}
use Rattle.lf_checks.specs.ModeFaults.{FirstUnsound, HasUnsoundMarks, FirstOutside, HypothesesUse, SubgoalIsModed, SubgoalFault, unsound_marks, unground_type, unground_input, wrong_hypothesis, MustBeGround, FirstLost, EndFault, at_none, at_argument, Place, place_of, ModeFaultFrom, of_head, of_subgoal, of_end}
use Rattle.lf_checks.specs.Modes.{occurs_at, InFreePlace, EachHypothesis, AllGround, WellModedFrom}
use Rattle.lf_checks.specs.Parts.{subgoal_at}
use Rattle.lf_checks.proofs.Numbered.{walked, one_number, three_ways, subgoal_inside}
use Rattle.lf_checks.proofs.StrictTypes.{either_cases}
use Rattle.lf_checks.proofs.Reach.{number_equal}
use Rattle.lf_checks.proofs.Unfolds.{both_ways}

-- A variable that occurs is used.
mutual
  pub used : (U : ℕ → Bool) (x : ℕ) (M : Term) → Uses U M → occurs x M ≡ true → U x ≡ true
  used U x (lambda M) u o = used (under U) (suc x) M u o
  used U x (root (constant c) S) u o = used_spine U x S u o
  used U x (root (metavariable m) S) u o = used_spine U x S u o
  used U x (root (variable i) S) (v, u) o = by (either_cases (same_number x i) (occurs_spine x S) o) (used_spine U x S u)
    where
      by : (same_number x i ≡ true) ⊎ (occurs_spine x S ≡ true) → (occurs_spine x S ≡ true → U x ≡ true) → U x ≡ true
      by (inl e) f = subst (λ j. U j ≡ true) (sym (number_equal x i e)) v
      by (inr e) f = f e

  used_spine : (U : ℕ → Bool) (x : ℕ) (S : Spine) → UsesSpine U S → occurs_spine x S ≡ true → U x ≡ true
  used_spine U x nil u o = absurd cc
  used_spine U x (app M S) (u, v) o = by (either_cases (occurs x M) (occurs_spine x S) o) (used U x M u) (used_spine U x S v)
    where
      by : (occurs x M ≡ true) ⊎ (occurs_spine x S ≡ true) → (occurs x M ≡ true → U x ≡ true) → (occurs_spine x S ≡ true → U x ≡ true) → U x ≡ true
      by (inl e) f g = f e
      by (inr e) f g = g e

-- Marks.
unsound_refutes : (n : ℕ) (V : ℕ → Bool) (m : List Mark) (K : Kind) (j : ℕ) → FirstUnsound n V m K j → AreSound V m K → ⊥
unsound_refutes n V (input ∷ m) (kind_pi A K) j (inl (f, e)) s = f s.0
unsound_refutes n V (input ∷ m) (kind_pi A K) j (inr (u, f)) s = unsound_refutes (suc n) (under V) m K j f s.1
unsound_refutes n V (output ∷ m) (kind_pi A K) j f s = unsound_refutes (suc n) (hide V) m K j f s
unsound_refutes n V (free ∷ m) (kind_pi A K) j f s = unsound_refutes (suc n) (under V) m K j f s
unsound_refutes n V [] (kind_pi A K) j f s = s
unsound_refutes n V [] star j f s = f
unsound_refutes n V (b ∷ m) star j f s = s

one_unsound : (n : ℕ) (V : ℕ → Bool) (m : List Mark) (K : Kind) (j l : ℕ) → FirstUnsound n V m K j → FirstUnsound n V m K l → j ≡ l
one_unsound n V (input ∷ m) (kind_pi A K) j l (inl (f, e)) (inl (g, q)) = e ∙ sym q
one_unsound n V (input ∷ m) (kind_pi A K) j l (inl (f, e)) (inr (u, g)) = absurd (f u)
one_unsound n V (input ∷ m) (kind_pi A K) j l (inr (u, f)) (inl (g, q)) = absurd (g u)
one_unsound n V (input ∷ m) (kind_pi A K) j l (inr (u, f)) (inr (v, g)) = one_unsound (suc n) (under V) m K j l f g
one_unsound n V (output ∷ m) (kind_pi A K) j l f g = one_unsound (suc n) (hide V) m K j l f g
one_unsound n V (free ∷ m) (kind_pi A K) j l f g = one_unsound (suc n) (under V) m K j l f g
one_unsound n V [] (kind_pi A K) j l f g = f ∙ sym g
one_unsound n V [] star j l f g = absurd f
one_unsound n V (b ∷ m) star j l f g = f ∙ sym g

module _ (Σ : Signature) where
  one_kind : (f : ℕ) (K L : Kind) → Σ.kinds f ≡ Some K → Σ.kinds f ≡ Some L → K ≡ L
  one_kind f K L e q = cc

  marks_refuted : (f : ℕ) (m : List Mark) (j : ℕ) → HasUnsoundMarks Σ f m j → HasSoundMarks Σ f m → ⊥
  marks_refuted f m j h (K, e, s) = unsound_refutes 1 nothing m h.kind j h.first (subst (AreSound nothing m) (one_kind f K h.kind e h.is_kind) s)

  one_mark : (f : ℕ) (m : List Mark) (j l : ℕ) → HasUnsoundMarks Σ f m j → HasUnsoundMarks Σ f m l → j ≡ l
  one_mark f m j l h k = one_unsound 1 nothing m h.kind j l h.first (subst (λ K. FirstUnsound 1 nothing m K l) (one_kind f k.kind h.kind k.is_kind h.is_kind) k.first)

-- Inputs.
outside_refutes : (n : ℕ) (U : ℕ → Bool) (m : List Bool) (S : Spine) (j : ℕ) → FirstOutside n U m S j → UsesPlaces U m S → ⊥
outside_refutes n U [] S j f u = f
outside_refutes n U (b ∷ m) nil j f u = f
outside_refutes n U (true ∷ m) (app M S) j (inl (f, e)) u = f u.0
outside_refutes n U (true ∷ m) (app M S) j (inr (v, f)) u = outside_refutes (suc n) U m S j f u.1
outside_refutes n U (false ∷ m) (app M S) j f u = outside_refutes (suc n) U m S j f u

one_outside : (n : ℕ) (U : ℕ → Bool) (m : List Bool) (S : Spine) (j l : ℕ) → FirstOutside n U m S j → FirstOutside n U m S l → j ≡ l
one_outside n U [] S j l f g = absurd f
one_outside n U (b ∷ m) nil j l f g = absurd f
one_outside n U (true ∷ m) (app M S) j l (inl (f, e)) (inl (g, q)) = e ∙ sym q
one_outside n U (true ∷ m) (app M S) j l (inl (f, e)) (inr (v, g)) = absurd (f v)
one_outside n U (true ∷ m) (app M S) j l (inr (u, f)) (inl (g, q)) = absurd (g u)
one_outside n U (true ∷ m) (app M S) j l (inr (u, f)) (inr (v, g)) = one_outside (suc n) U m S j l f g
one_outside n U (false ∷ m) (app M S) j l f g = one_outside (suc n) U m S j l f g

goal_types : (U : ℕ → Bool) (m : List Bool) (A : LfType) → UsesGoal U m A → HypothesesUse U A
goal_types U m (pi A B) (a, b) = (a, goal_types (under U) m B b)
goal_types U m (atom a S) u = tt

goal_places : (U : ℕ → Bool) (m : List Bool) (A : LfType) → UsesGoal U m A → UsesPlaces (inside A U) m (target_arguments A)
goal_places U m (pi A B) (a, b) = goal_places (under U) m B b
goal_places U m (atom a S) u = u

module _ (Σ : Signature) (m : ℕ → List Mark) (moded : ℕ → Bool) (c : Clause) where
  subgoal_refuted : (U : ℕ → Bool) (A : LfType) (j : ℕ) → SubgoalFault Σ m moded c U A j → SubgoalIsModed Σ m moded c U A → ⊥
  subgoal_refuted U A j (unsound_marks h) s = marks_refuted Σ (target A) (m (target A)) j h s.sound
  subgoal_refuted U A j (unground_type h n) s = n (goal_types U (input_places (m (target A))) A s.ground)
  subgoal_refuted U A j (unground_input h t f) s = outside_refutes 1 (inside A U) (input_places (m (target A))) (target_arguments A) j f (goal_places U (input_places (m (target A))) A s.ground)
  subgoal_refuted U A j (wrong_hypothesis h t n) s = n s.hypotheses

  one_argument : (U : ℕ → Bool) (A : LfType) (j l : ℕ) → SubgoalFault Σ m moded c U A j → SubgoalFault Σ m moded c U A l → j ≡ l
  one_argument U A j l (unsound_marks h) (unsound_marks k) = one_mark Σ (target A) (m (target A)) j l h k
  one_argument U A j l (unsound_marks h) (unground_type k n) = absurd (marks_refuted Σ (target A) (m (target A)) j h k)
  one_argument U A j l (unsound_marks h) (unground_input k t g) = absurd (marks_refuted Σ (target A) (m (target A)) j h k)
  one_argument U A j l (unsound_marks h) (wrong_hypothesis k t n) = absurd (marks_refuted Σ (target A) (m (target A)) j h k)
  one_argument U A j l (unground_type h n) (unsound_marks k) = absurd (marks_refuted Σ (target A) (m (target A)) l k h)
  one_argument U A j l (unground_type h n) (unground_type k n') = refl
  one_argument U A j l (unground_type h n) (unground_input k t g) = absurd (n t)
  one_argument U A j l (unground_type h n) (wrong_hypothesis k t g) = refl
  one_argument U A j l (unground_input h t f) (unsound_marks k) = absurd (marks_refuted Σ (target A) (m (target A)) l k h)
  one_argument U A j l (unground_input h t f) (unground_type k n) = absurd (n t)
  one_argument U A j l (unground_input h t f) (unground_input k t' g) = one_outside 1 (inside A U) (input_places (m (target A))) (target_arguments A) j l f g
  one_argument U A j l (unground_input h t f) (wrong_hypothesis k t' g) = absurd (outside_refutes 1 (inside A U) (input_places (m (target A))) (target_arguments A) j f (goal_places U (input_places (m (target A))) A t'))
  one_argument U A j l (wrong_hypothesis h t n) (unsound_marks k) = absurd (marks_refuted Σ (target A) (m (target A)) l k h)
  one_argument U A j l (wrong_hypothesis h t n) (unground_type k n') = refl
  one_argument U A j l (wrong_hypothesis h t n) (unground_input k t' g) = absurd (outside_refutes 1 (inside A U) (input_places (m (target A))) (target_arguments A) l g (goal_places U (input_places (m (target A))) A t))
  one_argument U A j l (wrong_hypothesis h t n) (wrong_hypothesis k t' n') = refl

-- The end.
module _ (m : ℕ → List Mark) (c : Clause) (U : ℕ → Bool) where
  must_refuted : (x : ℕ) → MustBeGround m c x → U x ≡ false → AllGround m c U → ⊥
  must_refuted x must u (o, all) = by (all x must.is_variable must.own)
    where
      by : (U x ≡ true) ⊎ (occurs_at (free_places (m (target c.type))) x (target_arguments c.type) ≡ true) ⊎ InFreePlace m c x → ⊥
      by (inl e) = true≢false (sym e ∙ u)
      by (inr (inl e)) = true≢false (sym e ∙ must.in_head)
      by (inr (inr e)) = must.in_subgoal e

  lost_refuted : (n : ℕ) (bs : List Mark) (S : Spine) (j : ℕ) → AllGround m c U → UsesPlaces U (output_places bs) S → FirstLost m c U n bs S j → ⊥
  lost_refuted n [] S j g u f = f
  lost_refuted n (b ∷ bs) nil j g u f = f
  lost_refuted n (input ∷ bs) (app M S) j g u (inl (f, e)) = elim f.matters [ inl q ↦ absurd cc | inr (q, r) ↦ must_refuted f.lost q f.unground g ]
  lost_refuted n (input ∷ bs) (app M S) j g u (inr (f, h)) = lost_refuted (suc n) bs S j g u h
  lost_refuted n (output ∷ bs) (app M S) j g u (inl (f, e)) = true≢false (sym (used U f.lost M u.0 f.stands) ∙ f.unground)
  lost_refuted n (output ∷ bs) (app M S) j g u (inr (f, h)) = lost_refuted (suc n) bs S j g u.1 h
  lost_refuted n (free ∷ bs) (app M S) j g u (inl (f, e)) = elim f.matters [ inl q ↦ absurd cc | inr (q, r) ↦ must_refuted f.lost q f.unground g ]
  lost_refuted n (free ∷ bs) (app M S) j g u (inr (f, h)) = lost_refuted (suc n) bs S j g u h

  end_refuted : (j : ℕ) → EndFault m c U j → AllGround m c U → ⊥
  end_refuted j (at_none l) g = must_refuted l.lost l.must l.unground g
  end_refuted j (at_argument n f) g = lost_refuted 1 (m (target c.type)) (target_arguments c.type) j g g.0 f

  one_lost : (n : ℕ) (bs : List Mark) (S : Spine) (j l : ℕ) → FirstLost m c U n bs S j → FirstLost m c U n bs S l → j ≡ l
  one_lost n [] S j l f g = absurd f
  one_lost n (b ∷ bs) nil j l f g = absurd f
  one_lost n (b ∷ bs) (app M S) j l (inl (f, e)) (inl (g, q)) = e ∙ sym q
  one_lost n (b ∷ bs) (app M S) j l (inl (f, e)) (inr (g, h)) = absurd (g f)
  one_lost n (b ∷ bs) (app M S) j l (inr (f, h)) (inl (g, q)) = absurd (f g)
  one_lost n (b ∷ bs) (app M S) j l (inr (f, h)) (inr (g, k)) = one_lost (suc n) bs S j l h k

  one_end : (j l : ℕ) → EndFault m c U j → EndFault m c U l → j ≡ l
  one_end j l (at_none x) (at_none y) = refl
  one_end j l (at_none x) (at_argument n f) = absurd (n x)
  one_end j l (at_argument n f) (at_none y) = absurd (n y)
  one_end j l (at_argument n f) (at_argument n' g) = one_lost 1 (m (target c.type)) (target_arguments c.type) j l f g

-- The whole clause.
module _ (Σ : Signature) (m : ℕ → List Mark) (moded V : ℕ → Bool) (c : Clause) where
  -- what is asked of a clause, said of each subgoal by what is ground before it
  pub moded_parts : WellModedFrom Σ m moded V c ↔ (HasSoundMarks Σ (target c.type) (m (target c.type)) × ((i : ℕ) (A : LfType) → IsSubgoal c i A → SubgoalIsModed Σ m moded c (ground_until V m c i) A) × AllGround m c (ground_at_end V m c))
  moded_parts = (there, back)
    where
      there : WellModedFrom Σ m moded V c → HasSoundMarks Σ (target c.type) (m (target c.type)) × ((i : ℕ) (A : LfType) → IsSubgoal c i A → SubgoalIsModed Σ m moded c (ground_until V m c i) A) × AllGround m c (ground_at_end V m c)
      there h =
          let (s, w) = (both_ways Σ m moded V c).0 h in
          let (f, q) = (walked V m c (λ U A. HasSoundMarks Σ (target A) (m (target A)) × UsesGoal U (input_places (m (target A))) A × EachHypothesis (WellModedFrom Σ m moded) moded (scope c) (outside c.type c.fixed) U A) (λ U. AllGround m c U)).0 w in
          (s, (λ i A g. let (a, b, d) = f i A g in record { sound = a; ground = b; hypotheses = d }), q)

      back : HasSoundMarks Σ (target c.type) (m (target c.type)) × ((i : ℕ) (A : LfType) → IsSubgoal c i A → SubgoalIsModed Σ m moded c (ground_until V m c i) A) × AllGround m c (ground_at_end V m c) → WellModedFrom Σ m moded V c
      back (s, f, q) = (both_ways Σ m moded V c).1 (s, (walked V m c (λ U A. HasSoundMarks Σ (target A) (m (target A)) × UsesGoal U (input_places (m (target A))) A × EachHypothesis (WellModedFrom Σ m moded) moded (scope c) (outside c.type c.fixed) U A) (λ U. AllGround m c U)).1 ((λ i A g. let p : SubgoalIsModed Σ m moded c (ground_until V m c i) A = f i A g in (p.sound, p.ground, p.hypotheses)), q))

  pub mode_refuted : (at : Place) → ModeFaultFrom Σ m moded V c at → WellModedFrom Σ m moded V c → ⊥
  mode_refuted at (of_head {j = j} h) w = let (s, f, q) = moded_parts.0 w in marks_refuted Σ (target c.type) (m (target c.type)) j h s
  mode_refuted at (of_subgoal {k = k} {j = j} i A s e g b f) w = let (s', p, q) = moded_parts.0 w in subgoal_refuted Σ m moded c (ground_until V m c i) A j f (p i A g)
  mode_refuted at (of_end {j = j} s b f) w = let (s', p, q) = moded_parts.0 w in end_refuted m c (ground_at_end V m c) j f q

  one_type : (i j : ℕ) (A B : LfType) → i ≡ j → TypeAt (scope c) i A → TypeAt (scope c) j B → A ≡ B
  one_type i j A B e s t = variable_type_unique (scope c) j A B (subst (λ n. TypeAt (scope c) n A) e s) t

  pub one_place : (at at' : Place) → ModeFaultFrom Σ m moded V c at → ModeFaultFrom Σ m moded V c at' → at ≡ at'
  one_place at at' (of_head {j = j} h) (of_head {j = l} k) = ap (λ n. place_of 0 n) (one_mark Σ (target c.type) (m (target c.type)) j l h k)
  one_place at at' (of_head {j = j} h) (of_subgoal i A s e g b f) = absurd (marks_refuted Σ (target c.type) (m (target c.type)) j h s)
  one_place at at' (of_head {j = j} h) (of_end s b f) = absurd (marks_refuted Σ (target c.type) (m (target c.type)) j h s)
  one_place at at' (of_subgoal i A s e g b f) (of_head {j = l} k) = absurd (marks_refuted Σ (target c.type) (m (target c.type)) l k s)
  one_place at at' (of_subgoal {k = k} {j = j} i A s e g b f) (of_subgoal {k = k'} {j = l} i' A' s' e' g' b' f') = by (three_ways i i')
    where
      by : (i < i') ⊎ (i ≡ i') ⊎ (i' < i) → place_of k j ≡ record { subgoal = k'; argument = l }
      by (inl u) = absurd (subgoal_refuted Σ m moded c (ground_until V m c i) A j f (b' i A u g))
      by (inr (inl q)) =
          let r : k ≡ k' = one_number c k k' i e (subst (λ n. subgoal_at c k' ≡ Some n) (sym q) e') in
          let t : A' ≡ A = one_type i' i A' A (sym q) g'.1 g.1 in
          let f2 : SubgoalFault Σ m moded c (ground_until V m c i) A l = subst (λ X. SubgoalFault Σ m moded c (ground_until V m c i) X l) t (subst (λ n. SubgoalFault Σ m moded c (ground_until V m c n) A' l) (sym q) f') in
          let w : j ≡ l = one_argument Σ m moded c (ground_until V m c i) A j l f f2 in cc
      by (inr (inr u)) = absurd (subgoal_refuted Σ m moded c (ground_until V m c i') A' l f' (b i' A' u g'))
  one_place at at' (of_subgoal {k = k} {j = j} i A s e g b f) (of_end s' b' f') = absurd (subgoal_refuted Σ m moded c (ground_until V m c i) A j f (b' i A (subgoal_inside c i g.0) g))
  one_place at at' (of_end s b f) (of_head {j = l} k) = absurd (marks_refuted Σ (target c.type) (m (target c.type)) l k s)
  one_place at at' (of_end s b f) (of_subgoal {k = k} {j = l} i A s' e g b' f') = absurd (subgoal_refuted Σ m moded c (ground_until V m c i) A l f' (b i A (subgoal_inside c i g.0) g))
  one_place at at' (of_end {j = j} s b f) (of_end {j = l} s' b' f') = ap (λ n. place_of 0 n) (one_end m c (ground_at_end V m c) j l f f')
