-- A walk over the subgoals of a clause.
use Rattle.std.proofs.Common.{◌≡◌, ℕ, zero, suc, ◌+◌, ◌-◌, ◌<◌, ◌≤◌, List, [], ◌∷◌, ◌++◌, Bool, true, false, length, length-append, map, take, get_or, refl, sym, ap, ap₂, ◌∙◌, subst, arith, inl, inr, true≢false}
use Rattle.std.specs.Prelude.{not, cond, Option, Some, None, ◌↔◌}
use Rattle.std.proofs.lemmas.List.{append_assoc}
use Rattle.lf.specs.Entries.{quantifiers}
use Rattle.lf.specs.Syntax.{LfType, pi, atom}
use Rattle.lf.specs.Typing.{Signature, TypeAt}
use Rattle.lf.specs.Variables.{everything, hide, nothing, target, target_arguments}
use Rattle.lf_unification.specs.Search.{occurs_type}
use Rattle.lf_checks.specs.Clause.{Clause, IsSubgoal, is_variable, outside, scope, variables, with_newest}
use Rattle.lf_checks.specs.Ground.{ground_from}
use Rattle.lf_checks.specs.GroundUntil.{ground_past, ground_until, ground_at_end}
use Rattle.lf_checks.specs.Marks.{Mark, HasSoundMarks, free_places, input_places, output_places}
use Rattle.lf_checks.specs.ModeFaults.{ModedBefore, ModeFaultFrom, MustBeGround, SubgoalFault, SubgoalIsModed, of_subgoal}
use Rattle.lf_checks.specs.Modes.{AllGround, InFreePlace, WellModedFrom, occurs_at, occurs_goal}
use Rattle.lf_checks.specs.Parts.{count_below, shape, subgoal_at, type_at}
use Rattle.lf_checks.specs.Strict.{strict_at, strict_goal}
use Rattle.lf_checks.specs.Tests.{either}
use Rattle.lf_checks.proofs.ModeRefuted.{moded_parts}
use Rattle.lf_checks.proofs.Numbered.{past_variable, subgoal_inside, type_both}
use Rattle.lf_checks.proofs.PartTypes.{counted_number}
use Rattle.tw_signature.specs.Marks.{marked}
use Rattle.tw_clause.proofs.Walks.{shape_length}
use Rattle.tw_mode.specs.Ends.{AreAllTrue}
use Rattle.tw_mode.specs.Scopes.{in_marks}
use Rattle.tw_mode.specs.Solved.{FirstFaulty, GoesPast, Stands, after, after_all, excused, free_past, with_free, with_hidden}
use Rattle.tw_mode.specs.declared.clause.Walk.{Walk}
use Rattle.tw_mode.proofs.Ending.{all_in}
use Rattle.tw_mode.proofs.Quantified.{below_or}
use Rattle.tw_mode.proofs.Sets.{marked_set, pushed_set}
use Rattle.tw_mode.proofs.Strictness.{either_false}
use Rattle.tw_mode.proofs.Until.{head_ground, one_past, outside_fixed, outside_ground}
use mathlib.Core.Path.{fun_ext}

either_no : (a b : Bool) → either a b ≡ false → (a ≡ false) × (b ≡ false)
either_no true b e = absurd cc
either_no false b e = (refl, e)

-- What stands outside and is no variable, as marks.
newest_two : (o : Bool) (V W : ℕ → Bool) → with_newest (not o) (λ x. either (V x) (not (W x))) ≡ (λ x. either (hide V x) (not (with_newest o W x)))
newest_two o V W = fun_ext at
  where
    at : (i : ℕ) → with_newest (not o) (λ x. either (V x) (not (W x))) i ≡ either (hide V i) (not (with_newest o W i))
    at zero = refl
    at (suc i) = refl

shape_set : (T : LfType) (V W : ℕ → Bool) (d : ℕ) (ms : List Bool) → length ms ≡ d → in_marks true d ms ≡ (λ x. either (V x) (not (W x))) → in_marks true (d + quantifiers T) (ms ++ map not (shape T)) ≡ (λ x. either (outside T V x) (not (is_variable W T x)))
shape_set (pi A B) V W d ms l h =
    ap₂ (λ n xs. in_marks true n xs) (let q : d + suc (quantifiers B) ≡ suc d + quantifiers B = omega arith in q) (sym (append_assoc ms (not o ∷ []) (map not (shape B))))
    ∙ shape_set B (hide V) (with_newest o W) (suc d) (ms ++ not o ∷ []) (let k = length-append ms (not o ∷ []) in omega (arith, k, l)) (pushed_set true (not o) d ms l ∙ ap (with_newest (not o)) h ∙ newest_two o V W)
  where
    o : Bool
    o = occurs_type zero B
shape_set (atom a S) V W d ms l h = ap₂ (λ n xs. in_marks true n xs) (let q : d + zero ≡ d = omega arith in q) (nothing_behind ms) ∙ h
  where
    nothing_behind : (xs : List Bool) → xs ++ [] ≡ xs
    nothing_behind [] = refl
    nothing_behind (x ∷ xs) = ap (λ ys. x ∷ ys) (nothing_behind xs)

in_front : (d : ℕ) (xs : List Bool) → after_all d xs ≡ after_all d [] ++ xs
in_front zero xs = refl
in_front (suc d) xs = ap (λ ys. true ∷ ys) (in_front d xs)

all_count : (d : ℕ) → length (after_all d []) ≡ d
all_count zero = refl
all_count (suc d) = ap suc (all_count d)

all_true : (d : ℕ) → AreAllTrue (after_all d [])
all_true zero = tt
all_true (suc d) = (refl, all_true d)

pub not_variables_set : (T : LfType) (d : ℕ) → in_marks true (d + quantifiers T) (after_all d (map not (shape T))) ≡ (λ x. either (outside T everything x) (not (is_variable everything T x)))
not_variables_set T d = ap (in_marks true (d + quantifiers T)) (in_front d (map not (shape T))) ∙ shape_set T everything everything d (after_all d []) (all_count d) (fun_ext (λ i. all_in d i (after_all d []) (all_true d)))

all_more : (d : ℕ) → after_all d [] ++ true ∷ [] ≡ after_all (suc d) []
all_more zero = refl
all_more (suc d) = ap (λ ys. true ∷ ys) (all_more d)

pub all_pushed : (d : ℕ) (ms ns : List Bool) → ms ≡ after_all d [] → ns ≡ ms ++ true ∷ [] → ns ≡ after_all (d + 1) []
all_pushed d ms ns e h = h ∙ ap (λ ys. ys ++ true ∷ []) e ∙ all_more d ∙ ap (λ n. after_all n []) (let q : suc d ≡ d + 1 = omega arith in q)

behind_all : (d : ℕ) (xs ys : List Bool) → after_all d xs ++ ys ≡ after_all d (xs ++ ys)
behind_all zero xs ys = refl
behind_all (suc d) xs ys = ap (λ zs. true ∷ zs) (behind_all d xs ys)

not_more : (xs : List Bool) (k : ℕ) → k < length xs → map not (take k xs) ++ not (get_or xs k false) ∷ [] ≡ map not (take (suc k) xs)
not_more [] k h = absurd (omega (arith, h))
not_more (x ∷ xs) zero h = refl
not_more (x ∷ xs) (suc k) h = ap (λ zs. not x ∷ zs) (not_more xs k (omega (arith, h)))

pub not_pushed : (d k : ℕ) (xs ms ns : List Bool) → k < length xs → ms ≡ after_all d (map not (take k xs)) → ns ≡ ms ++ not (get_or xs k false) ∷ [] → ns ≡ after_all d (map not (take (k + 1) xs))
not_pushed d k xs ms ns l e h = h ∙ ap (λ ys. ys ++ not (get_or xs k false) ∷ []) e ∙ behind_all d (map not (take k xs)) (not (get_or xs k false) ∷ []) ∙ ap (after_all d) (not_more xs k l ∙ ap (λ n. map not (take n xs)) (let q : suc k ≡ k + 1 = omega arith in q))

pub marks_after_all : (d : ℕ) (xs : List Bool) → length (after_all d xs) ≡ d + length xs
marks_after_all zero xs = omega arith
marks_after_all (suc d) xs = let k = marks_after_all d xs in omega (arith, k)

pub not_variables_count : (T : LfType) (d : ℕ) (bs ms : List Bool) → bs ≡ shape T → ms ≡ after_all d (map not bs) → length ms ≡ d + quantifiers T
not_variables_count T d bs ms b e = ap length e ∙ marks_after_all d (map not bs) ∙ ap (λ n. d + n) (as_long bs ∙ ap length b ∙ shape_length T)
  where
    as_long : (xs : List Bool) → length (map not xs) ≡ length xs
    as_long [] = refl
    as_long (x ∷ xs) = ap suc (as_long xs)

-- The head.
pub head_first : (m : ℕ → List Mark) (C : List LfType) (T : LfType) (d D : ℕ) (fs gs hs : List Bool) → length fs ≤ d → length gs ≡ d → D ≡ d + quantifiers T → hs ≡ marked D (λ i. strict_at (input_places (m (target T))) nothing (in_marks false D fs) i (target_arguments T)) (with_hidden gs (D - length gs)) → in_marks true D hs ≡ ground_from (in_marks true d gs) m (record { outer = C; fixed = in_marks false d fs; type = T })
head_first m C T d D fs gs hs f g e h = head_ground m c V (in_marks false D fs) nothing D (input_places (m (target T))) (target_arguments T) (with_hidden gs (D - length gs)) hs hidden_is fixed_is refl refl refl h
  where
    c : Clause
    c = record { outer = C; fixed = in_marks false d fs; type = T }

    V : ℕ → Bool
    V = in_marks true d gs

    fixed_is : in_marks false D fs ≡ outside T (in_marks false d fs)
    fixed_is = ap (λ x. in_marks false x fs) e ∙ outside_fixed T d fs f

    hidden_is : in_marks true D (with_hidden gs (D - length gs)) ≡ outside T V
    hidden_is =
        ap (λ x. in_marks true D (with_hidden gs x)) (let q : D - length gs ≡ quantifiers T = omega (arith, e, g) in q)
        ∙ ap (λ x. in_marks true x (with_hidden gs (quantifiers T))) e
        ∙ outside_ground T d gs g

pub head_excuses : (m : ℕ → List Mark) (C : List LfType) (F : ℕ → Bool) (T : LfType) (d D : ℕ) (ms ns : List Bool) → D ≡ d + quantifiers T → ms ≡ after_all d (map not (shape T)) → ns ≡ marked D (λ i. occurs_at (free_places (m (target T))) i (target_arguments T)) ms → in_marks true D ns ≡ excused m (record { outer = C; fixed = F; type = T }) 0
head_excuses m C F T d D ms ns e h k =
    ap (in_marks true D) k
    ∙ marked_set (λ i. occurs_at (free_places (m (target T))) i (target_arguments T)) D ms
    ∙ ap (λ X i. either (X i) (occurs_at (free_places (m (target T))) i (target_arguments T))) (ap₂ (λ n xs. in_marks true n xs) e h ∙ not_variables_set T d)

-- A subgoal.
pub free_marked : (m : ℕ → List Mark) (d : ℕ) (A : LfType) (ps ms ns : List Bool) → ps ≡ free_places (m (target A)) → ns ≡ marked d (λ i. occurs_goal ps i A) ms → in_marks true d ns ≡ with_free m A (in_marks true d ms)
free_marked m d A ps ms ns p k = ap (in_marks true d) k ∙ marked_set (λ i. occurs_goal ps i A) d ms ∙ ap (λ q i. either (in_marks true d ms i) (occurs_goal q i A)) p

pub outputs_marked : (m : ℕ → List Mark) (F B : ℕ → Bool) (d : ℕ) (A : LfType) (ps ms ns : List Bool) → ps ≡ output_places (m (target A)) → B ≡ nothing → ns ≡ marked d (λ i. strict_goal ps B F i A) ms → in_marks true d ns ≡ after m F A (in_marks true d ms)
outputs_marked m F B d A ps ms ns p b k = ap (in_marks true d) k ∙ marked_set (λ i. strict_goal ps B F i A) d ms ∙ ap₂ (λ q X i. either (in_marks true d ms i) (strict_goal q X F i A)) p b

-- One quantifier.
module _ (m : ℕ → List Mark) (V : ℕ → Bool) (c : Clause) (depth : ℕ) where
  pub stands_past_variable : (w : Walk) (i : ℕ) → variables c i ≡ true → Stands m V c depth w i → Stands m V c depth w (suc i)
  stands_past_variable w i e s = record {
    ground = s.ground ∙ sym (past_variable V m c i e);
    excuses = s.excuses ∙ fun_ext (λ x. sym (ap (λ b. either (excused m c i x) (free_past m b (type_at (scope c) i) x)) e ∙ either_false (excused m c i x)));
    met = s.met ∙ sym (ap (λ b. cond (not b) (suc (count_below (λ j. not (variables c j)) i)) (count_below (λ j. not (variables c j)) i)) e);
    each_ground = s.each_ground;
    each_excused = s.each_excused;
  }

  pub met_past_goal : (w : Walk) (n i : ℕ) → variables c i ≡ false → Stands m V c depth w i → n ≡ suc w.subgoals → n ≡ count_below (λ j. not (variables c j)) (suc i)
  met_past_goal w n i e s q = q ∙ ap suc s.met ∙ sym (ap (λ b. cond (not b) (suc (count_below (λ j. not (variables c j)) i)) (count_below (λ j. not (variables c j)) i)) e)

  pub stands_past_goal : (F : ℕ → Bool) (A : LfType) (old new : Walk) (i : ℕ) → variables c i ≡ false → type_at (scope c) i ≡ Some A → outside c.type c.fixed ≡ F → ((x : ℕ) → occurs_type x A ≡ true → variables c x ≡ true) → Stands m V c depth old i → GoesPast m F depth A old new → new.subgoals ≡ suc old.subgoals → Stands m V c depth new (suc i)
  stands_past_goal F A old new i e t f u s g q = record {
    ground =
        g.ground
        ∙ ap (after m F A) s.ground
        ∙ ap (λ X. after m X A (ground_until V m c i)) (sym f)
        ∙ one_past m c false A (ground_until V m c i) u
        ∙ ap (λ o. ground_past m c false o (ground_until V m c i)) (sym t)
        ∙ ap (λ b. ground_past m c b (type_at (scope c) i) (ground_until V m c i)) (sym e);
    excuses =
        g.excuses
        ∙ ap (λ X x. either (X x) (occurs_goal (free_places (m (target A))) x A)) s.excuses
        ∙ ap (λ o x. either (excused m c i x) (free_past m false o x)) (sym t)
        ∙ ap (λ b x. either (excused m c i x) (free_past m b (type_at (scope c) i) x)) (sym e);
    met = met_past_goal old new.subgoals i e s q;
    each_ground = g.each_ground ∙ s.each_ground;
    each_excused = g.each_excused ∙ s.each_excused;
  }

module _ (Σ : Signature) (m : ℕ → List Mark) (moded V : ℕ → Bool) (c : Clause) where
  pub before_past_variable : (i : ℕ) → variables c i ≡ true → ModedBefore Σ m moded V c i → ModedBefore Σ m moded V c (suc i)
  before_past_variable i e h j A l s = elim (below_or j i l) [ inl k ↦ h j A k s | inr q ↦ absurd (true≢false (sym e ∙ ap (variables c) (sym q) ∙ s.0)) ]

  same_type : (i : ℕ) (A B : LfType) → type_at (scope c) i ≡ Some A → TypeAt (scope c) i B → A ≡ B
  same_type i A B e t = some_type (sym e ∙ (type_both (scope c) i B).0 t)
    where
      some_type : Some A ≡ Some B → A ≡ B
      some_type q = cc

  pub before_past_goal : (i : ℕ) (A : LfType) → type_at (scope c) i ≡ Some A → SubgoalIsModed Σ m moded c (ground_until V m c i) A → ModedBefore Σ m moded V c i → ModedBefore Σ m moded V c (suc i)
  before_past_goal i A e g h j B l s = elim (below_or j i l) [ inl k ↦ h j B k s | inr q ↦ subst (λ n. SubgoalIsModed Σ m moded c (ground_until V m c n) B) (sym q) (subst (SubgoalIsModed Σ m moded c (ground_until V m c i)) (same_type i A B e (subst (λ n. TypeAt (scope c) n B) q s.1)) g) ]

  pub is_subgoal_at : (i : ℕ) (A : LfType) → variables c i ≡ false → type_at (scope c) i ≡ Some A → IsSubgoal c i A
  is_subgoal_at i A e t = (e, (type_both (scope c) i A).1 t)

  pub first_faulty : (i : ℕ) (A : LfType) (k j : ℕ) → IsSubgoal c i A → k ≡ count_below (λ x. not (variables c x)) (suc i) → ModedBefore Σ m moded V c i → SubgoalFault Σ m moded c (ground_until V m c i) A j → FirstFaulty Σ m moded V c k j
  first_faulty i A k j s e h f = record {
    index = i;
    subgoal = A;
    stands = subst (λ n. subgoal_at c n ≡ Some i) (sym (e ∙ ap (λ b. cond (not b) (suc (count_below (λ x. not (variables c x)) i)) (count_below (λ x. not (variables c x)) i)) s.0)) (counted_number c i A s);
    is_subgoal = s;
    before = h;
    fault = f;
  }

  pub passes : HasSoundMarks Σ (target c.type) (m (target c.type)) → ModedBefore Σ m moded V c (quantifiers c.type) → AllGround m c (ground_at_end V m c) → WellModedFrom Σ m moded V c
  passes s h g = (moded_parts Σ m moded V c).1 (s, (λ i A t. h i A (subgoal_inside c i t.0) t), g)

  pub fault_of_subgoal : HasSoundMarks Σ (target c.type) (m (target c.type)) → (k j : ℕ) → FirstFaulty Σ m moded V c k j → ModeFaultFrom Σ m moded V c (record { subgoal = k; argument = j })
  fault_of_subgoal s k j f = of_subgoal f.index f.subgoal s f.stands f.is_subgoal f.before f.fault

-- What isn't excused at the end must be ground.
module _ (m : ℕ → List Mark) (c : Clause) (x : ℕ) where
  excused_before : (n : ℕ) → excused m c n x ≡ false → (excused m c 0 x ≡ false) × ((i : ℕ) → i < n → free_past m (variables c i) (type_at (scope c) i) x ≡ false)
  excused_before zero e = (e, λ i l. absurd (omega (arith, l)))
  excused_before (suc n) e =
      let (a, b) = either_no (excused m c n x) (free_past m (variables c n) (type_at (scope c) n) x) e in
      let (f, g) = excused_before n a in
      (f, λ i l. elim (below_or i n l) [ inl k ↦ g i k | inr q ↦ subst (λ j. free_past m (variables c j) (type_at (scope c) j) x ≡ false) (sym q) b ])

  not_false : (b : Bool) → not b ≡ false → b ≡ true
  not_false true e = refl
  not_false false e = absurd cc

  excuses_nothing : MustBeGround m c x → (i : ℕ) → free_past m (variables c i) (type_at (scope c) i) x ≡ false
  excuses_nothing must i = by (variables c i) refl (type_at (scope c) i) refl
    where
      by : (b : Bool) → variables c i ≡ b → (o : Option LfType) → type_at (scope c) i ≡ o → free_past m b o x ≡ false
      by true e o t = refl
      by false e None t = refl
      by false e (Some A) t = at (occurs_goal (free_places (m (target A))) x A) refl
        where
          at : (q : Bool) → occurs_goal (free_places (m (target A))) x A ≡ q → q ≡ false
          at true r = absurd (must.in_subgoal (record { index = i; subgoal = A; is_subgoal = (e, (type_both (scope c) i A).1 t); occurs_there = r }))
          at false r = refl

  must_be : MustBeGround m c x → (n : ℕ) → excused m c n x ≡ false
  must_be must zero = ap₂ either (ap₂ either must.own (ap not must.is_variable)) must.in_head
  must_be must (suc n) = ap₂ either (must_be must n) (excuses_nothing must n)

  pub excused_means : (excused m c (quantifiers c.type) x ≡ false) ↔ MustBeGround m c x
  excused_means = (there, λ must. must_be must (quantifiers c.type))
    where
      found : (p : InFreePlace m c x) → free_past m (variables c p.index) (type_at (scope c) p.index) x ≡ true
      found p = ap₂ (λ b o. free_past m b o x) p.is_subgoal.0 ((type_both (scope c) p.index p.subgoal).0 p.is_subgoal.1) ∙ p.occurs_there

      there : excused m c (quantifiers c.type) x ≡ false → MustBeGround m c x
      there e =
          let (f, g) = excused_before (quantifiers c.type) e in
          let (a, b) = either_no (either (outside c.type everything x) (not (variables c x))) (occurs_at (free_places (m (target c.type))) x (target_arguments c.type)) f in
          let (o, v) = either_no (outside c.type everything x) (not (variables c x)) a in
          record {
            is_variable = not_false (variables c x) v;
            own = o;
            in_head = b;
            in_subgoal = λ p. true≢false (sym (found p) ∙ g p.index (subgoal_inside c p.index p.is_subgoal.0));
          }
