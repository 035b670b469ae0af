-- One step of a walk over the quantifiers of a type, from the last one on.
use Rattle.std.proofs.Common.{◌≡◌, ℕ, suc, ◌+◌, ◌-◌, ◌<◌, ◌≤◌, List, [], ◌∷◌, Bool, true, false, Some, None, Option, length, get_or, map, refl, sym, ap, ap₂, ◌∙◌, subst, arith}
use Rattle.std.specs.Prelude.{is_some, option_map}
use Rattle.lf.specs.AtOnce.{shift_by}
use Rattle.lf.specs.Entries.{kind_quantifiers, quantifiers}
use Rattle.lf.specs.Syntax.{LfType, atom, nil, rename_type}
use Rattle.lf.specs.Typing.{Signature}
use Rattle.lf.specs.Variables.{everything, target, target_arguments}
use Rattle.lf_unification.specs.Search.{occurs_type}
use Rattle.lf_checks.specs.Clause.{outside, scope, variables}
use Rattle.lf_checks.specs.GroundUntil.{ground_at_end, ground_until}
use Rattle.lf_checks.specs.Marks.{HasSoundMarks}
use Rattle.lf_checks.specs.ModeFaults.{EndFault, HasUnsoundMarks, ModeFaultFrom, ModedBefore, SubgoalFault, SubgoalIsModed, of_end, of_head, place_of}
use Rattle.lf_checks.specs.ModeForms.{argument_count}
use Rattle.lf_checks.specs.Modes.{AllGround, WellModedFrom}
use Rattle.lf_checks.specs.Parts.{shape, type_at}
use Rattle.tw_mode.specs.Checks.{Fits, Outcome}
use Rattle.tw_mode.specs.Outcomes.{ClauseOutcome, EndOutcome, QuantifierOutcome, SubgoalOutcome, SubgoalsOutcome, plain_place}
use Rattle.tw_mode.specs.Rows.{marks_in, moded_in}
use Rattle.tw_mode.specs.Scopes.{in_marks}
use Rattle.tw_mode.specs.Solved.{GoesPast, Stands, clause_in, domain_types, ground_outside}
use Rattle.tw_mode.specs.declared.clause.Place.{Place}
use Rattle.tw_mode.specs.declared.clause.Walk.{Walk}
use Rattle.tw_mode.specs.declared.outside.Outside.{Outside}
use Rattle.tw_mode.specs.declared.table.Table.{Table}
use Rattle.tw_mode.proofs.Quantified.{domain_at, domain_uses, domains_count, fits_target, shape_at, sound_count}
use Rattle.tw_mode.proofs.Until.{outside_fixed}
use Rattle.tw_mode.proofs.Walking.{before_past_goal, before_past_variable, excused_means, fault_of_subgoal, first_faulty, is_subgoal_at, met_past_goal, passes, stands_past_goal, stands_past_variable}

as_long : {A B : Type 0} (f : A → B) (xs : List A) → length xs ≡ length (map f xs)
as_long f [] = refl
as_long f (x ∷ xs) = ap suc (as_long f xs)

pub listed_domains : {A : Type 0} (f : A → LfType) (ds : List A) (T : LfType) → map f ds ≡ domain_types T → length ds ≡ quantifiers T
listed_domains f ds T e = as_long f ds ∙ ap length e ∙ domains_count T

-- The quantifier with so many left before it.
module _ (C : List LfType) (o : Outside) (T : LfType) (left : ℕ) (h : left < quantifiers T) where
  abbrev Here : ℕ
  Here = quantifiers T - suc left

  next : quantifiers T - left ≡ suc Here
  next = omega (arith, h)

  place : quantifiers T - 1 - Here ≡ left
  place = omega (arith, h)

  inside : Here < quantifiers T
  inside = omega (arith, h)

  is_variable_here : (b : Bool) → get_or (shape T) left false ≡ b → variables (clause_in C o T) Here ≡ b
  is_variable_here b e = shape_at T everything Here inside ∙ ap (λ k. get_or (shape T) k false) place ∙ e

  type_here : (D A : LfType) → A ≡ rename_type (shift_by (quantifiers T - left)) (get_or (domain_types T) left D) → type_at (scope (clause_in C o T)) Here ≡ Some A
  type_here D A e = domain_at T C Here D inside ∙ ap₂ (λ n k. Some (rename_type (shift_by n) (get_or (domain_types T) k D))) (sym next) place ∙ ap Some (sym e)

  uses_here : (D A : LfType) → A ≡ rename_type (shift_by (quantifiers T - left)) (get_or (domain_types T) left D) → (x : ℕ) → occurs_type x A ≡ true → variables (clause_in C o T) x ≡ true
  uses_here D A e x q = domain_uses T everything Here D x (λ j r. refl) inside (ap₂ (λ n k. occurs_type x (rename_type (shift_by n) (get_or (domain_types T) k D))) (sym next) place ∙ ap (occurs_type x) (sym e) ∙ q)

module _ (Σ : Signature) (t : Table) (o : Outside) (T : LfType) (depth : ℕ) (f : length o.fixed.now ≤ o.depth) (d : depth ≡ o.depth + quantifiers T) where
  abbrev AllStand : Walk → ℕ → Type 0
  AllStand w i = (C : List LfType) → Stands (marks_in t) (ground_outside o) (clause_in C o T) depth w i

  abbrev AllBefore : ℕ → Type 0
  AllBefore i = (C : List LfType) → ModedBefore Σ (marks_in t) (moded_in t) (ground_outside o) (clause_in C o T) i

  same_fixed : outside T (in_marks false o.depth o.fixed.now) ≡ in_marks false depth o.fixed.now
  same_fixed = sym (ap (λ n. in_marks false n o.fixed.now) d ∙ outside_fixed T o.depth o.fixed.now f)

  module _ (left : ℕ) (h : left < quantifiers T) where
    walked_variable : (w : Walk) → get_or (shape T) left false ≡ true → AllStand w (quantifiers T - suc left) → AllStand w (quantifiers T - left)
    walked_variable w e s C = subst (Stands (marks_in t) (ground_outside o) (clause_in C o T) depth w) (sym (next C o T left h)) (stands_past_variable (marks_in t) (ground_outside o) (clause_in C o T) depth w (quantifiers T - suc left) (is_variable_here C o T left h true e) (s C))

    before_variable : get_or (shape T) left false ≡ true → AllBefore (quantifiers T - suc left) → AllBefore (quantifiers T - left)
    before_variable e b C = subst (ModedBefore Σ (marks_in t) (moded_in t) (ground_outside o) (clause_in C o T)) (sym (next C o T left h)) (before_past_variable Σ (marks_in t) (moded_in t) (ground_outside o) (clause_in C o T) (quantifiers T - suc left) (is_variable_here C o T left h true e) (b C))

    module _ (D A : LfType) (e : get_or (shape T) left false ≡ false) (a : A ≡ rename_type (shift_by (quantifiers T - left)) (get_or (domain_types T) left D)) where
      walked_goal : (old new : Walk) → AllStand old (quantifiers T - suc left) → GoesPast (marks_in t) (in_marks false depth o.fixed.now) depth A old new → new.subgoals ≡ suc old.subgoals → AllStand new (quantifiers T - left)
      walked_goal old new s g q C = subst (Stands (marks_in t) (ground_outside o) (clause_in C o T) depth new) (sym (next C o T left h)) (stands_past_goal (marks_in t) (ground_outside o) (clause_in C o T) depth (in_marks false depth o.fixed.now) A old new (quantifiers T - suc left) (is_variable_here C o T left h false e) (type_here C o T left h D A a) same_fixed (uses_here C o T left h D A a) (s C) g q)

      outcome_here : (w : Walk) (r : Option ℕ) → AllStand w (quantifiers T - suc left) → SubgoalOutcome Σ t (in_marks false depth o.fixed.now) (in_marks true depth w.ground.items) A r → (C : List LfType) → Outcome (SubgoalIsModed Σ (marks_in t) (moded_in t) (clause_in C o T) (ground_until (ground_outside o) (marks_in t) (clause_in C o T) (quantifiers T - suc left)) A) (SubgoalFault Σ (marks_in t) (moded_in t) (clause_in C o T) (ground_until (ground_outside o) (marks_in t) (clause_in C o T) (quantifiers T - suc left)) A) r
      outcome_here w r s g C = let x : Stands (marks_in t) (ground_outside o) (clause_in C o T) depth w (quantifiers T - suc left) = s C in subst (λ U. Outcome (SubgoalIsModed Σ (marks_in t) (moded_in t) (clause_in C o T) U A) (SubgoalFault Σ (marks_in t) (moded_in t) (clause_in C o T) U A) r) x.ground (g (clause_in C o T) same_fixed)

      pub before_goal : (w : Walk) → AllStand w (quantifiers T - suc left) → SubgoalOutcome Σ t (in_marks false depth o.fixed.now) (in_marks true depth w.ground.items) A None → AllBefore (quantifiers T - suc left) → AllBefore (quantifiers T - left)
      before_goal w s g b C = subst (ModedBefore Σ (marks_in t) (moded_in t) (ground_outside o) (clause_in C o T)) (sym (next C o T left h)) (before_past_goal Σ (marks_in t) (moded_in t) (ground_outside o) (clause_in C o T) (quantifiers T - suc left) A (type_here C o T left h D A a) (outcome_here w None s g C) (b C))

      pub faulty_goal : (old new : Walk) (j : ℕ) → AllStand old (quantifiers T - suc left) → SubgoalOutcome Σ t (in_marks false depth o.fixed.now) (in_marks true depth old.ground.items) A (Some j) → AllBefore (quantifiers T - suc left) → new.subgoals ≡ suc old.subgoals → SubgoalsOutcome Σ t o T depth new (Some j)
      faulty_goal old new j s g b q C =
          first_faulty Σ (marks_in t) (moded_in t) (ground_outside o) (clause_in C o T) (quantifiers T - suc left) A new.subgoals j
          (is_subgoal_at Σ (marks_in t) (moded_in t) (ground_outside o) (clause_in C o T) (quantifiers T - suc left) A (is_variable_here C o T left h false e) (type_here C o T left h D A a))
          (met_past_goal (marks_in t) (ground_outside o) (clause_in C o T) depth old new.subgoals (quantifiers T - suc left) (is_variable_here C o T left h false e) (s C) q)
          (b C) (outcome_here old (Some j) s g C)

  module _ (left : ℕ) (h : left < quantifiers T) (D A : LfType) (a : A ≡ rename_type (shift_by (quantifiers T - left)) (get_or (domain_types T) left D)) (old new : Walk) (s : AllStand old (quantifiers T - suc left)) (b : AllBefore (quantifiers T - suc left)) where
    pub quantifier_walked : (v : Bool) (r : Option ℕ) → get_or (shape T) left false ≡ v → is_some r ≡ false → QuantifierOutcome Σ t (in_marks false depth o.fixed.now) depth v A old new r → AllStand new (quantifiers T - left) × AllBefore (quantifiers T - left)
    quantifier_walked v (Some j) e q x = absurd cc
    quantifier_walked true None e q x = (subst (λ w. AllStand w (quantifiers T - left)) (sym x.1) (walked_variable left h old e s), before_variable left h e b)
    quantifier_walked false None e q x = (walked_goal left h D A e a old new s (x.2 refl) x.1, before_goal left h D A e a old s x.0 b)

    pub quantifier_faulty : (v : Bool) (r : Option ℕ) → get_or (shape T) left false ≡ v → is_some r ≡ true → QuantifierOutcome Σ t (in_marks false depth o.fixed.now) depth v A old new r → SubgoalsOutcome Σ t o T depth new r
    quantifier_faulty v None e q x = absurd cc
    quantifier_faulty true (Some j) e q x = absurd (some_none x.0)
      where
        some_none : Some j ≡ None → ⊥
        some_none z = absurd cc
    quantifier_faulty false (Some j) e q x = faulty_goal left h D A e a old new j s x.0 b x.1

  -- the same as the loop has it: of n domains so many are left, and the quantifier stands inside the others
  pub loop_walked : (sf : List Bool) (n left inside : ℕ) (dom : LfType) (v : Bool) (old new : Walk) (r : Option ℕ) → sf ≡ o.fixed.now → n ≡ quantifiers T → left < n → inside ≡ n - left → dom ≡ get_or (domain_types T) left (atom 0 nil) → v ≡ get_or (shape T) left false → AllStand old (n - suc left) → AllBefore (n - suc left) → QuantifierOutcome Σ t (in_marks false depth sf) depth v (rename_type (shift_by inside) dom) old new r → (is_some r ≡ false → AllStand new (n - left) × AllBefore (n - left)) × (is_some r ≡ true → SubgoalsOutcome Σ t o T depth new r)
  loop_walked sf n left inside dom v old new r x e h i q y s b g =
      ((λ z. let (p, w) = quantifier_walked left l (atom 0 nil) A a old new s' b' v r (sym y) z g' in (subst (AllStand new) (sym (ap (λ k. k - left) e)) p, subst AllBefore (sym (ap (λ k. k - left) e)) w)), λ z. quantifier_faulty left l (atom 0 nil) A a old new s' b' v r (sym y) z g')
    where
      A : LfType
      A = rename_type (shift_by inside) dom

      l : left < quantifiers T
      l = subst (λ k. left < k) e h

      a : A ≡ rename_type (shift_by (quantifiers T - left)) (get_or (domain_types T) left (atom 0 nil))
      a = ap₂ (λ k X. rename_type (shift_by k) X) (i ∙ ap (λ k. k - left) e) q

      s' : AllStand old (quantifiers T - suc left)
      s' = subst (AllStand old) (ap (λ k. k - suc left) e) s

      b' : AllBefore (quantifiers T - suc left)
      b' = subst AllBefore (ap (λ k. k - suc left) e) b

      g' : QuantifierOutcome Σ t (in_marks false depth o.fixed.now) depth v A old new r
      g' = subst (λ xs. QuantifierOutcome Σ t (in_marks false depth xs) depth v A old new r) x g

  pub all_walked : (w : Walk) (n : ℕ) → n ≡ quantifiers T → AllStand w n → AllBefore n → SubgoalsOutcome Σ t o T depth w None
  all_walked w n e s b C = (subst (Stands (marks_in t) (ground_outside o) (clause_in C o T) depth w) e (s C), subst (ModedBefore Σ (marks_in t) (moded_in t) (ground_outside o) (clause_in C o T)) e (b C))

  -- What a type as a clause comes to.
  fault_at : (k : ℕ) (r : Option ℕ) (p : Option Place) → option_map plain_place p ≡ option_map (place_of k) r → (C : List LfType) → Outcome (WellModedFrom Σ (marks_in t) (moded_in t) (ground_outside o) (clause_in C o T)) (λ j. ModeFaultFrom Σ (marks_in t) (moded_in t) (ground_outside o) (clause_in C o T) (place_of k j)) r → Outcome (WellModedFrom Σ (marks_in t) (moded_in t) (ground_outside o) (clause_in C o T)) (ModeFaultFrom Σ (marks_in t) (moded_in t) (ground_outside o) (clause_in C o T)) (option_map plain_place p)
  fault_at k r p e C h = subst (Outcome (WellModedFrom Σ (marks_in t) (moded_in t) (ground_outside o) (clause_in C o T)) (ModeFaultFrom Σ (marks_in t) (moded_in t) (ground_outside o) (clause_in C o T))) (sym e) (by r h)
    where
      by : (r : Option ℕ) → Outcome (WellModedFrom Σ (marks_in t) (moded_in t) (ground_outside o) (clause_in C o T)) (λ j. ModeFaultFrom Σ (marks_in t) (moded_in t) (ground_outside o) (clause_in C o T) (place_of k j)) r → Outcome (WellModedFrom Σ (marks_in t) (moded_in t) (ground_outside o) (clause_in C o T)) (ModeFaultFrom Σ (marks_in t) (moded_in t) (ground_outside o) (clause_in C o T)) (option_map (place_of k) r)
      by None h = h
      by (Some j) h = h

  pub clause_unsound : (r : Option ℕ) (p : Option Place) → is_some r ≡ true → option_map plain_place p ≡ option_map (place_of 0) r → Outcome (HasSoundMarks Σ (target T) (marks_in t (target T))) (HasUnsoundMarks Σ (target T) (marks_in t (target T))) r → ClauseOutcome Σ t o T p
  clause_unsound None p e q h C = absurd cc
  clause_unsound (Some j) p e q h C = fault_at 0 (Some j) p q C (of_head h)

  pub sound_of : (r : Option ℕ) → is_some r ≡ false → Outcome (HasSoundMarks Σ (target T) (marks_in t (target T))) (HasUnsoundMarks Σ (target T) (marks_in t (target T))) r → HasSoundMarks Σ (target T) (marks_in t (target T))
  sound_of None e h = h
  sound_of (Some j) e h = absurd cc

  pub clause_faulty : (w : Walk) (r : Option ℕ) (p : Option Place) → is_some r ≡ true → option_map plain_place p ≡ option_map (place_of w.subgoals) r → HasSoundMarks Σ (target T) (marks_in t (target T)) → SubgoalsOutcome Σ t o T depth w r → ClauseOutcome Σ t o T p
  clause_faulty w None p e q s h C = absurd cc
  clause_faulty w (Some j) p e q s h C = fault_at w.subgoals (Some j) p q C (fault_of_subgoal Σ (marks_in t) (moded_in t) (ground_outside o) (clause_in C o T) s w.subgoals j (h C))

  pub walked_of : (w : Walk) (r : Option ℕ) → is_some r ≡ false → SubgoalsOutcome Σ t o T depth w r → SubgoalsOutcome Σ t o T depth w None
  walked_of w None e h = h
  walked_of w (Some j) e h = absurd cc

  pub ground_count : (w : Walk) → SubgoalsOutcome Σ t o T depth w None → length w.ground.items ≡ depth
  ground_count w h = let x : Stands (marks_in t) (ground_outside o) (clause_in [] o T) depth w (quantifiers T) = (h []).0 in x.each_ground

  pub excused_count : (w : Walk) → SubgoalsOutcome Σ t o T depth w None → length w.excused.items ≡ depth
  excused_count w h = let x : Stands (marks_in t) (ground_outside o) (clause_in [] o T) depth w (quantifiers T) = (h []).0 in x.each_excused

  module _ (w : Walk) (s : HasSoundMarks Σ (target T) (marks_in t (target T))) (fits : Fits Σ T) (walked : SubgoalsOutcome Σ t o T depth w None) where
    as_many : length (marks_in t (target T)) ≡ argument_count (target_arguments T)
    as_many = let (K, k, n) = fits_target Σ T fits in let (L, l, m) = s in let q : L ≡ K = one (sym l ∙ k) in sound_count _ (marks_in t (target T)) L m ∙ ap kind_quantifiers q ∙ n
      where
        one : {X : Type 0} {x y : X} → Some x ≡ Some y → x ≡ y
        one e = cc

    pub ended : (r : Option ℕ) → EndOutcome t (in_marks true depth w.ground.items) (in_marks true depth w.excused.items) (target T) (target_arguments T) r → (C : List LfType) → Outcome (AllGround (marks_in t) (clause_in C o T) (ground_at_end (ground_outside o) (marks_in t) (clause_in C o T))) (EndFault (marks_in t) (clause_in C o T) (ground_at_end (ground_outside o) (marks_in t) (clause_in C o T))) r
    ended r g C =
        let x : Stands (marks_in t) (ground_outside o) (clause_in C o T) depth w (quantifiers T) = (walked C).0 in
        subst (λ U. Outcome (AllGround (marks_in t) (clause_in C o T) U) (EndFault (marks_in t) (clause_in C o T) U) r) x.ground
        (g (clause_in C o T) refl refl as_many (λ y. ((λ e. (excused_means (marks_in t) (clause_in C o T) y).0 (sym (ap (λ X. X y) x.excuses) ∙ e)), (λ m. ap (λ X. X y) x.excuses ∙ (excused_means (marks_in t) (clause_in C o T) y).1 m))))

    pub clause_ends : (r : Option ℕ) (p : Option Place) → option_map plain_place p ≡ option_map (place_of 0) r → EndOutcome t (in_marks true depth w.ground.items) (in_marks true depth w.excused.items) (target T) (target_arguments T) r → ClauseOutcome Σ t o T p
    clause_ends r p q g C = fault_at 0 r p q C (by r (ended r g C))
      where
        by : (r : Option ℕ) → Outcome (AllGround (marks_in t) (clause_in C o T) (ground_at_end (ground_outside o) (marks_in t) (clause_in C o T))) (EndFault (marks_in t) (clause_in C o T) (ground_at_end (ground_outside o) (marks_in t) (clause_in C o T))) r → Outcome (WellModedFrom Σ (marks_in t) (moded_in t) (ground_outside o) (clause_in C o T)) (λ j. ModeFaultFrom Σ (marks_in t) (moded_in t) (ground_outside o) (clause_in C o T) (place_of 0 j)) r
        by None h = passes Σ (marks_in t) (moded_in t) (ground_outside o) (clause_in C o T) s (walked C).1 h
        by (Some j) h = of_end s (walked C).1 h
