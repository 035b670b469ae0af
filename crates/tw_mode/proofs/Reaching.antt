-- What is ground before a subgoal, by the parts of a clause: its variables have their numbers among the variables alone.
use Rattle.std.proofs.Common.{◌≡◌, ℕ, zero, suc, ◌+◌, ◌-◌, ◌<◌, ◌≤◌, List, [], ◌∷◌, Bool, true, false, Some, length, drop, get_or, map, length-drop, refl, sym, ap, ap₂, ◌∙◌, arith, inl, inr}
use Rattle.std.specs.Prelude.{cond, not, ◌⊎◌}
use Rattle.lf.specs.Entries.{quantifiers}
use Rattle.lf.specs.Syntax.{Spine, LfType, pi, atom, nil, rename_spine, rename_type}
use Rattle.lf.specs.Typing.{TypeAt}
use Rattle.lf.specs.Variables.{UsesSpine, UsesType, everything, hide, nothing, same_number, target, target_arguments, under, binders}
use Rattle.lf.proofs.Partial.{uses_type_all}
use Rattle.lf_unification.specs.Offering.{pi_over}
use Rattle.lf_checks.specs.Clause.{Clause as PlainClause, outside, scope, variables}
use Rattle.lf_checks.specs.GroundUntil.{ground_until}
use Rattle.lf_checks.specs.Marks.{Mark, input_places, output_places}
use Rattle.lf_checks.specs.Parts.{count_below, kept_types, numbered, parts, past_first, variable_number}
use Rattle.lf_checks.specs.Strict.{strict_at, strict_goal}
use Rattle.lf_checks.specs.Tests.{both, either}
use Rattle.lf_checks.proofs.Numbered.{all_outside, number_of, one_number, part_found, past_subgoal, past_variable, subgoal_inside, subgoal_type, three_ways}
use Rattle.lf_checks.proofs.PartTypes.{counted_number}
use Rattle.lf_checks.proofs.Shape.{shape, shape_head}
use Rattle.tw_signature.specs.Marks.{marked}
use Rattle.tw_clause.specs.Patterns.{newest}
use Rattle.tw_clause.specs.View.{subgoal_of}
use Rattle.tw_clause.specs.declared.clause.Clause.{Clause}
use Rattle.tw_signature.proofs.Marking.{same_not, same_self}
use Rattle.tw_terms.specs.View.{spine_of}
use Rattle.tw_mode.specs.Before.{AreGroundBefore, IsClauseOf, IsGroundBefore, older_entries}
use Rattle.tw_mode.specs.Scopes.{in_marks}
use Rattle.tw_mode.specs.Solved.{after, with_hidden, with_shown}
use Rattle.tw_mode.proofs.Entries.{all_set, shown_count, shown_more}
use Rattle.tw_mode.proofs.Quantified.{below_or}
use Rattle.tw_mode.proofs.Renamed.{Agree, Apart, goal_renamed, places_renamed}
use Rattle.tw_mode.proofs.Sets.{hidden, in_marks_at, marked_set, newest_under, pushed_set}
use Rattle.tw_mode.proofs.Strictness.{goal_inside}
use Rattle.tw_mode.proofs.Until.{hidden_by, hidden_marks, hidden_pushed, outside_hidden}
use Rattle.tw_mode.proofs.Walking.{outputs_marked}
use mathlib.Core.Path.{fun_ext}

-- How many variables of a set are newer than one.
module _ (V : ℕ → Bool) where
  count_yes : (i : ℕ) → V i ≡ true → count_below V (suc i) ≡ suc (count_below V i)
  count_yes i v = ap (λ b. cond b (suc (count_below V i)) (count_below V i)) v

  one_more : (b : Bool) (n : ℕ) → n ≤ cond b (suc n) n
  one_more true n = omega arith
  one_more false n = omega arith

  count_grows : (i d : ℕ) → count_below V i ≤ count_below V (d + i)
  count_grows i zero = let e : count_below V i ≡ count_below V (zero + i) = ap (count_below V) (let q : i ≡ zero + i = omega arith in q) in omega (arith, e)
  count_grows i (suc d) =
      let h = count_grows i d in
      let l = one_more (V (d + i)) (count_below V (d + i)) in
      let e : count_below V (suc (d + i)) ≡ count_below V (suc d + i) = ap (count_below V) (let q : suc (d + i) ≡ suc d + i = omega arith in q) in
      omega (arith, h, l, e)

  count_less : (i j : ℕ) → V i ≡ true → i < j → count_below V i < count_below V j
  count_less i j v l =
      let h = count_grows (suc i) (j - suc i) in
      let e = count_yes i v in
      let q : count_below V (j - suc i + suc i) ≡ count_below V j = ap (count_below V) (let r : j - suc i + suc i ≡ j = omega (arith, l) in r) in
      omega (arith, h, e, q)

  counts_apart : Apart V (count_below V)
  counts_apart i j v w = elim (three_ways i j) [
    | inl l ↦ let h = count_less i j v l in same_not (count_below V i) (count_below V j) (λ e. omega (arith, h, e)) ∙ sym (same_not i j (λ e. omega (arith, l, e)))
    | inr (inl e) ↦ ap (λ k. same_number (count_below V i) (count_below V k)) (sym e) ∙ same_self (count_below V i) ∙ sym (ap (same_number i) (sym e) ∙ same_self i)
    | inr (inr l) ↦ let h = count_less j i w l in same_not (count_below V i) (count_below V j) (λ e. omega (arith, h, e)) ∙ sym (same_not i j (λ e. omega (arith, l, e)))
  ]

-- A set of what stands outside, under quantifiers.
hidden_past : (n : ℕ) (U : ℕ → Bool) (j : ℕ) → hidden_by n U (n + j) ≡ U j
hidden_past zero U j = ap U (let q : zero + j ≡ j = omega arith in q)
hidden_past (suc n) U j = ap (hidden_by n (hide U)) (let q : suc n + j ≡ n + suc j = omega arith in q) ∙ hidden_past n (hide U) (suc j)

hidden_inside : (n : ℕ) (U : ℕ → Bool) (i : ℕ) → i < n → hidden_by n U i ≡ false
hidden_inside zero U i h = absurd (omega (arith, h))
hidden_inside (suc n) U i h = elim (below_or i n h) [ inl l ↦ hidden_inside n (hide U) i l | inr e ↦ ap (hidden_by n (hide U)) (let q : i ≡ n + zero = omega (arith, e) in q) ∙ hidden_past n (hide U) zero ]

some_equal : (A B : LfType) → Some A ≡ Some B → A ≡ B
some_equal A B e = cc

target_renamed : (ρ : ℕ → ℕ) (A : LfType) → target (rename_type ρ A) ≡ target A
target_renamed ρ (pi A B) = target_renamed _ B
target_renamed ρ (atom a S) = refl

-- The numbers of a clause's variables.
module _ (c : PlainClause) where
  abbrev quantified : ℕ
  quantified = quantifiers c.type

  abbrev inner : ℕ
  inner = variable_number c (quantifiers c.type)

  past_number : (j : ℕ) → variable_number c (quantified + j) ≡ inner + j
  past_number zero = ap (variable_number c) (let e : quantified + zero ≡ quantified = omega arith in e) ∙ (let e : inner ≡ inner + zero = omega arith in e)
  past_number (suc j) =
      ap (variable_number c) (let e : quantified + suc j ≡ suc (quantified + j) = omega arith in e)
      ∙ count_yes (variables c) (quantified + j) (all_outside c.type everything zero (λ k l. refl) (quantified + j) (omega arith))
      ∙ ap suc (past_number j)
      ∙ (let e : suc (inner + j) ≡ inner + suc j = omega arith in e)

  number_inside : (x : ℕ) → variables c x ≡ true → x < quantified → variable_number c x < inner
  number_inside x v l = count_less (variables c) x quantified v l

  -- of what stands outside the same is in a set, by the numbers
  outer_agrees : (U : ℕ → Bool) → Agree (variables c) (variable_number c) (outside c.type U) (hidden_by inner U)
  outer_agrees U x v = by (three_ways x quantified) ∙ sym (ap (λ W. W x) (outside_hidden c.type U))
    where
      past : (j : ℕ) → x ≡ quantified + j → hidden_by inner U (variable_number c x) ≡ hidden_by quantified U x
      past j e =
          ap (λ k. hidden_by inner U (variable_number c k)) e
          ∙ ap (hidden_by inner U) (past_number j)
          ∙ hidden_past inner U j
          ∙ sym (ap (hidden_by quantified U) e ∙ hidden_past quantified U j)

      by : (x < quantified) ⊎ (x ≡ quantified) ⊎ (quantified < x) → hidden_by inner U (variable_number c x) ≡ hidden_by quantified U x
      by (inl l) = hidden_inside inner U (variable_number c x) (number_inside x v l) ∙ sym (hidden_inside quantified U x l)
      by (inr (inl e)) = past zero (let r : x ≡ quantified + zero = omega (arith, e) in r)
      by (inr (inr l)) = past (x - quantified) (let r : x ≡ quantified + (x - quantified) = omega (arith, l) in r)

  subgoal_uses : (i : ℕ) (A : LfType) → TypeAt (scope c) i A → UsesType (variables c) A
  subgoal_uses i A t = shape c.type c.outer everything (λ j X s. uses_type_all everything X (λ k. refl)) (uses_type_all everything c.type (λ k. refl)) i A t

  head_uses : UsesSpine (variables c) (target_arguments c.type)
  head_uses = shape_head c.type everything (uses_type_all everything c.type (λ k. refl))

  -- how many subgoals come before an index
  abbrev met : ℕ → ℕ
  met = count_below (λ j. not (variables c j))

  met_variable : (i : ℕ) → variables c i ≡ true → met (suc i) ≡ met i
  met_variable i v = ap (λ b. cond (not b) (suc (met i)) (met i)) v

  met_subgoal : (i : ℕ) → variables c i ≡ false → met (suc i) ≡ suc (met i)
  met_subgoal i v = ap (λ b. cond (not b) (suc (met i)) (met i)) v

  module _ (m : ℕ → List Mark) where
    -- The set G has the variables that are ground after k subgoals, wherever one stands there.
    abbrev pub IsGroundAfter : ℕ → (ℕ → Bool) → Type 0
    IsGroundAfter k G = (i x : ℕ) → i ≤ quantifiers c.type → count_below (λ j. not (variables c j)) i ≡ k → variables c x ≡ true → G (variable_number c x) ≡ ground_until everything m c i x

    past_a_variable : (k i x : ℕ) (b : Bool) → variables c i ≡ true → met (suc i) ≡ k → (met i ≡ k → b ≡ ground_until everything m c i x) → b ≡ ground_until everything m c (suc i) x
    past_a_variable k i x b w e h = h (sym (met_variable i w) ∙ e) ∙ sym (ap (λ W. W x) (past_variable everything m c i w))

    module _ (F : ℕ → Bool) (f : F ≡ hidden_by inner c.fixed) where
      ground_at_first : (U G : ℕ → Bool) (a : ℕ) (S : Spine) → U ≡ hidden_by inner everything → target c.type ≡ a → S ≡ rename_spine (variable_number c) (target_arguments c.type) → G ≡ (λ y. either (U y) (strict_at (input_places (m a)) nothing F y S)) → IsGroundAfter 0 G
      ground_at_first U G a S u t s g zero x l e v =
          ap (λ W. W (variable_number c x)) g
          ∙ ap (λ p. either (U (variable_number c x)) (strict_at (input_places (m p)) nothing F (variable_number c x) S)) (sym t)
          ∙ ap₂ either (ap (λ W. W (variable_number c x)) u ∙ outer_agrees everything x v) (ap₂ (λ W T. strict_at ins nothing W (variable_number c x) T) f s ∙ places_renamed ins (variables c) (variable_number c) (outside c.type c.fixed) (hidden_by inner c.fixed) (counts_apart (variables c)) (outer_agrees c.fixed) x (target_arguments c.type) v head_uses)
          ∙ ap (λ b. either (outside c.type everything x) (both b (strict_at ins nothing (outside c.type c.fixed) x (target_arguments c.type)))) (sym v)
        where
          ins : List Bool
          ins = input_places (m (target c.type))
      ground_at_first U G a S u t s g (suc i) x l e v = by (variables c i) refl (λ n. ground_at_first U G a S u t s g i x (omega (arith, l)) n v)
        where
          by : (b : Bool) → variables c i ≡ b → (met i ≡ 0 → G (variable_number c x) ≡ ground_until everything m c i x) → G (variable_number c x) ≡ ground_until everything m c (suc i) x
          by true w h = past_a_variable 0 i x (G (variable_number c x)) w e h
          by false w h = let n = met_subgoal i w in absurd (omega (arith, e, n))

      ground_next : (G H : ℕ → Bool) (k : ℕ) (B : LfType) → numbered (parts c).subgoals (suc k) ≡ Some B → H ≡ after m F B G → IsGroundAfter k G → IsGroundAfter (suc k) H
      ground_next G H k B n h g zero x l e v = absurd (omega (arith, e))
      ground_next G H k B n h g (suc i) x l e v = by (variables c i) refl (λ r. ground_next G H k B n h g i x (omega (arith, l)) r v)
        where
          by : (b : Bool) → variables c i ≡ b → (met i ≡ suc k → H (variable_number c x) ≡ ground_until everything m c i x) → H (variable_number c x) ≡ ground_until everything m c (suc i) x
          by true w j = past_a_variable (suc k) i x (H (variable_number c x)) w e j
          by false w j =
              let (A, t) = subgoal_type c i (omega (arith, l)) in
              let r = met_subgoal i w in
              let z : met i ≡ k = omega (arith, e, r) in
              let a : B ≡ rename_type (variable_number c) A = some_equal B (rename_type (variable_number c) A) (sym n ∙ ap (λ j. numbered (parts c).subgoals (suc j)) (sym z) ∙ part_found c (suc (met i)) i A (counted_number c i A (w, t)) t) in
              ap (λ W. W (variable_number c x)) h
              ∙ ap₂ (λ W X. either (G (variable_number c x)) (strict_goal (output_places (m (target X))) nothing W (variable_number c x) X)) f a
              ∙ ap (λ p. either (G (variable_number c x)) (strict_goal (output_places (m p)) nothing (hidden_by inner c.fixed) (variable_number c x) (rename_type (variable_number c) A))) (target_renamed (variable_number c) A)
              ∙ ap₂ either (g i x (omega (arith, l)) z v) (goal_renamed (output_places (m (target A))) (variables c) (variable_number c) (outside c.type c.fixed) (hidden_by inner c.fixed) (counts_apart (variables c)) (outer_agrees c.fixed) x A v (subgoal_uses i A t))
              ∙ ap (λ b. either (ground_until everything m c i x) (both b (strict_goal (output_places (m (target A))) nothing (outside c.type c.fixed) x A))) (sym v)
              ∙ sym (ap (λ W. W x) (past_subgoal everything m c i A w t))

    -- before a subgoal, where k come before it
    ground_there : (k number : ℕ) (G : ℕ → Bool) → IsGroundAfter k G → ((B : LfType) → numbered (parts c).subgoals number ≡ Some B → number ≡ suc k) → IsGroundBefore m c number G
    ground_there k number G g there i x s h v =
        let (p, (A, t)) = number_of c number i s in
        let n : suc (met i) ≡ number = one_number c (suc (met i)) number i (counted_number c i A t) s in
        let a : number ≡ suc k = there (rename_type (variable_number c) A) (part_found c number i A s t.1) in
        let l = subgoal_inside c i t.0 in
        g i x (omega (arith, l)) (omega (arith, n, a)) v

-- As many variables as there are among the parts.
count_first : (W : ℕ → Bool) (d : ℕ) → count_below W (suc d) ≡ cond (W zero) (suc (count_below (past_first W) d)) (count_below (past_first W) d)
count_first W zero = refl
count_first W (suc d) = ap (λ n. cond (W (suc d)) (suc n) n) (count_first W d) ∙ two (W zero) (W (suc d)) (count_below (past_first W) d)
  where
    two : (a b : Bool) (n : ℕ) → cond b (suc (cond a (suc n) n)) (cond a (suc n) n) ≡ cond a (suc (cond b (suc n) n)) (cond b (suc n) n)
    two true true n = refl
    two true false n = refl
    two false true n = refl
    two false false n = refl

kept_count : (V : ℕ → Bool) (n : ℕ) (G : List LfType) → n ≤ length G → length (kept_types V n G) ≡ count_below V n
kept_count V zero G l = refl
kept_count V (suc n) [] l = absurd (omega (arith, l))
kept_count V (suc n) (A ∷ G) l = by (V zero) (kept_count (past_first V) n G (omega (arith, l))) ∙ sym (count_first V n)
  where
    by : (b : Bool) → length (kept_types (past_first V) n G) ≡ count_below (past_first V) n → length (cond b (rename_type (count_below (past_first V)) A ∷ kept_types (past_first V) n G) (kept_types (past_first V) n G)) ≡ cond b (suc (count_below (past_first V) n)) (count_below (past_first V) n)
    by true h = ap suc h
    by false h = h

scope_count : (A : LfType) (G : List LfType) → length (binders G A) ≡ quantifiers A + length G
scope_count (pi A B) G = scope_count B (A ∷ G) ∙ (let q : quantifiers B + suc (length G) ≡ suc (quantifiers B) + length G = omega arith in q)
scope_count (atom a S) G = let q : length G ≡ zero + length G = omega arith in q

-- Marks of the entries before a clause and of its variables.
shown_newest : (n : ℕ) → in_marks false n (with_shown [] n) ≡ newest n
shown_newest zero = fun_ext (λ i. refl)
shown_newest (suc n) = ap (in_marks false (suc n)) (shown_more [] n) ∙ pushed_set false true n (with_shown [] n) (let k = shown_count [] n in omega (arith, k)) ∙ newest_under (in_marks false n (with_shown [] n)) ∙ ap under (shown_newest n)

numbered_at : (gs : List LfType) (k : ℕ) (A : LfType) → k < length gs → numbered gs (suc k) ≡ Some (get_or gs k A)
numbered_at [] k A h = absurd (omega (arith, h))
numbered_at (B ∷ gs) zero A h = refl
numbered_at (B ∷ gs) (suc k) A h = numbered_at gs k A (omega (arith, h))

numbered_within : (gs : List LfType) (k : ℕ) (A : LfType) → numbered gs k ≡ Some A → (0 < k) × (k ≤ length gs)
numbered_within [] k A e = absurd cc
numbered_within (B ∷ gs) zero A e = absurd cc
numbered_within (B ∷ gs) (suc zero) A e = (omega arith, omega arith)
numbered_within (B ∷ gs) (suc (suc k)) A e = let (p, l) = numbered_within gs (suc k) A e in (omega arith, omega (arith, l))

as_long : {X : Type 0} (f : X → LfType) (xs : List X) → length (map f xs) ≡ length xs
as_long f [] = refl
as_long f (x ∷ xs) = ap suc (as_long f xs)

get_dropped : (xs : List Bool) (s j : ℕ) → get_or (drop s xs) j false ≡ get_or xs (s + j) false
get_dropped [] zero j = refl
get_dropped [] (suc s) j = refl
get_dropped (x ∷ xs) zero j = ap (λ k. get_or (x ∷ xs) k false) (let q : j ≡ zero + j = omega arith in q)
get_dropped (x ∷ xs) (suc s) j = get_dropped xs s j ∙ ap (λ k. get_or (x ∷ xs) k false) (let q : suc (s + j) ≡ suc s + j = omega arith in q)

module _ (d : Clause) (c : PlainClause) (is : IsClauseOf d c) (m : ℕ → List Mark) where
  own_count : length d.variables ≡ variable_number c (quantifiers c.type)
  own_count = sym (ap (λ p. length p.variables) is.parts) ∙ kept_count (variables c) (quantifiers c.type) (scope c) (let k = scope_count c.type c.outer in omega (arith, k))

  module _ (es : List Bool) (depth : ℕ) (e : es ≡ with_shown [] (older_entries d.origin)) (n : depth ≡ length es + length d.variables) where
    depth_is : depth ≡ length es + inner c
    depth_is = n ∙ ap (λ k. length es + k) own_count

    older_is : length es ≡ older_entries d.origin
    older_is = let k = shown_count [] (older_entries d.origin) in let l = ap length e in omega (arith, k, l)

    fixed_is : in_marks false depth es ≡ hidden_by (inner c) c.fixed
    fixed_is =
        ap (λ k. in_marks false k es) depth_is
        ∙ hidden_marks (inner c) (length es) es (omega arith)
        ∙ ap (hidden_by (inner c)) (ap₂ (λ k xs. in_marks false k xs) older_is e ∙ shown_newest (older_entries d.origin) ∙ sym is.fixed)

    ground_is : in_marks true depth (with_hidden es (depth - length es)) ≡ hidden_by (inner c) everything
    ground_is =
        ap₂ (λ k l. in_marks true k (with_hidden es l)) depth_is (let q = depth_is in let r : depth - length es ≡ inner c = omega (arith, q) in r)
        ∙ hidden_pushed (inner c) (length es) es refl
        ∙ ap (hidden_by (inner c)) (ap₂ (λ k xs. in_marks true k xs) older_is e ∙ all_set (older_entries d.origin))

    pub first_ground : (vs : List Bool) → vs ≡ marked depth (λ i. strict_at (input_places (m d.family.0)) nothing (in_marks false depth es) i (spine_of d.head)) (with_hidden es (depth - length es)) → IsGroundAfter c m 0 (in_marks true depth vs)
    first_ground vs h = ground_at_first c m (in_marks false depth es) fixed_is (in_marks true depth (with_hidden es (depth - length es))) (in_marks true depth vs) d.family.0 (spine_of d.head) ground_is (ap (λ p. p.family) is.parts) (sym (ap (λ p. p.head) is.parts)) (ap (in_marks true depth) h ∙ marked_set (λ i. strict_at (input_places (m d.family.0)) nothing (in_marks false depth es) i (spine_of d.head)) depth (with_hidden es (depth - length es)))

    pub next_ground : (k : ℕ) (A : LfType) (ms ns : List Bool) → k < length d.subgoals.items → A ≡ get_or (map subgoal_of d.subgoals.items) k (atom 0 nil) → in_marks true depth ns ≡ after m (in_marks false depth es) A (in_marks true depth ms) → IsGroundAfter c m k (in_marks true depth ms) → IsGroundAfter c m (suc k) (in_marks true depth ns)
    next_ground k A ms ns l a h g = ground_next c m (in_marks false depth es) fixed_is (in_marks true depth ms) (in_marks true depth ns) k A (ap (λ p. numbered p.subgoals (suc k)) is.parts ∙ numbered_at (map subgoal_of d.subgoals.items) k (atom 0 nil) (let q = as_long subgoal_of d.subgoals.items in omega (arith, l, q)) ∙ ap Some (sym a)) h g

  pub ground_at_number : (k number : ℕ) (G : ℕ → Bool) → (0 < number → number ≤ length d.subgoals.items → suc k ≡ number) → IsGroundAfter c m k G → IsGroundBefore m c number G
  ground_at_number k number G h g = ground_there c m k number G g there
    where
      there : (B : LfType) → numbered (parts c).subgoals number ≡ Some B → number ≡ suc k
      there B e = let (p, l) = numbered_within (map subgoal_of d.subgoals.items) number B (sym (ap (λ p. numbered p.subgoals number) is.parts) ∙ e) in let q = as_long subgoal_of d.subgoals.items in sym (h p (omega (arith, l, q)))

  pub own_ground : (es ms vs : List Bool) (number : ℕ) → length ms ≡ length es + length d.variables → vs ≡ drop (length es) ms → IsGroundBefore m c number (in_marks true (length ms) ms) → AreGroundBefore m c number vs
  own_ground es ms vs number n e g = record { each = each; exact = λ i x s l v. same x l v ∙ g i x s l v }
    where
      each : length vs ≡ variable_number c (quantifiers c.type)
      each = let k = length-drop (length es) ms in let l = ap length e in let o = own_count in omega (arith, k, l, n, o)

      same : (x : ℕ) → x < quantifiers c.type → variables c x ≡ true → in_marks false (length vs) vs (variable_number c x) ≡ in_marks true (length ms) ms (variable_number c x)
      same x l v =
          let b = number_inside c x v l in
          let a = each in
          let o = own_count in
          let j : ℕ = inner c - 1 - variable_number c x in
          in_marks_at false (length vs) (variable_number c x) j vs (omega (arith, a, b)) (omega (arith, a, b))
          ∙ ap (λ xs. get_or xs j false) e
          ∙ get_dropped ms (length es) j
          ∙ sym (in_marks_at true (length ms) (variable_number c x) (length es + j) ms (omega (arith, n, o, b)) (omega (arith, n, o, b)))

-- A subgoal as data: under its local context.
target_over : (G : List LfType) (T : LfType) → target (pi_over G T) ≡ target T
target_over [] T = refl
target_over (A ∷ G) T = target_over G (pi A T)

local_marks : (ps : List Bool) (G : List LfType) (T : LfType) (b d : ℕ) (fs ms : List Bool) → length fs ≤ d → length ms ≤ d → marked (d + length G) (λ i. strict_goal ps (newest (b + length G)) (in_marks false (d + length G) fs) i T) ms ≡ marked d (λ i. strict_goal ps (newest b) (in_marks false d fs) i (pi_over G T)) ms
local_marks ps [] T b d fs ms f h = ap₂ (λ k l. marked k (λ i. strict_goal ps (newest l) (in_marks false k fs) i T) ms) (let q : d + zero ≡ d = omega arith in q) (let q : b + zero ≡ b = omega arith in q)
local_marks ps (A ∷ G) T b d fs ms f h =
    ap₂ (λ k l. marked k (λ i. strict_goal ps (newest l) (in_marks false k fs) i T) ms) (let q : d + suc (length G) ≡ suc (d + length G) = omega arith in q) (let q : b + suc (length G) ≡ suc (b + length G) = omega arith in q)
    ∙ goal_inside ps (newest (b + length G)) (in_marks false (d + length G) fs) (newest (suc (b + length G))) (in_marks false (suc (d + length G)) fs) (d + length G) (suc (d + length G)) (pi A T) A T ms (marked (suc (d + length G)) (λ i. strict_goal ps (newest (suc (b + length G))) (in_marks false (suc (d + length G)) fs) i T) ms) refl refl refl (hidden (d + length G) fs (omega (arith, f))) (omega (arith, h)) refl
    ∙ local_marks ps G (pi A T) b d fs ms f h

pub solved_marked : (m : ℕ → List Mark) (ps : List Bool) (G : List LfType) (a : ℕ) (S : Spine) (fs fs' : List Bool) (d d' b' : ℕ) (ms ns : List Bool) → ps ≡ output_places (m a) → d' ≡ d + length G → b' ≡ 0 + length G → fs' ≡ fs → length fs ≤ d → length ms ≤ d → ns ≡ marked d' (λ i. strict_at ps (newest b') (in_marks false d' fs') i S) ms → in_marks true d ns ≡ after m (in_marks false d fs) (pi_over G (atom a S)) (in_marks true d ms)
solved_marked m ps G a S fs fs' d d' b' ms ns p q b e f h k =
    outputs_marked m (in_marks false d fs) nothing d (pi_over G (atom a S)) ps ms ns (p ∙ ap (λ x. output_places (m x)) (sym (target_over G (atom a S)))) refl
    (k
    ∙ ap (λ n. marked n (λ i. strict_at ps (newest b') (in_marks false n fs') i S) ms) q
    ∙ ap₂ (λ n xs. marked (d + length G) (λ i. strict_at ps (newest n) (in_marks false (d + length G) xs) i S) ms) b e
    ∙ local_marks ps G (atom a S) 0 d fs ms f h)
