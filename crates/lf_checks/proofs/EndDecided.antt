-- At the end of a clause all is ground, or there is a fault.
use Rattle.std.proofs.Common.{◌≡◌, ℕ, zero, suc, ◌+◌, ◌<◌, ◌≤◌, List, [], ◌∷◌, length, refl, sym, ◌∙◌, subst, arith, inl, inr, true≢false}
use Rattle.std.specs.Prelude.{Bool, true, false, Option, Some, None, ◌⊎◌}
use Rattle.lf.specs.Syntax.{constant, variable, metavariable, Term, Spine, lambda, root, nil, app, LfType, pi, atom}
use Rattle.lf.specs.Entries.{quantifiers}
use Rattle.lf.specs.Variables.{target, target_arguments, under, hide, everything, Uses, UsesSpine, same_number}
use Rattle.lf_unification.specs.Search.{occurs, occurs_spine}
use Rattle.lf_checks.specs.Clause.{Clause, scope, variables, outside, IsSubgoal}
use Rattle.lf_checks.specs.Marks.{Mark, input, output, free, is_output, output_places, free_places, UsesPlaces}
use Rattle.lf_checks.specs.Tests.{either}
use Rattle.lf_checks.specs.ModeFaults.{MustBeGround, IsLostNowhere, IsLostAt, FirstLost, EndFault, at_none, at_argument}
use Rattle.lf_checks.specs.ModeForms.{argument_count}
use Rattle.lf_checks.specs.Modes.{occurs_at, occurs_goal, InFreePlace, AllGround}
use Rattle.lf_checks.specs.Parts.{type_at}
use Rattle.lf_checks.proofs.Listed.{same_self}
use Rattle.lf_checks.proofs.ModeRefuted.{used}
use Rattle.lf_checks.proofs.Numbered.{type_both, subgoal_inside}
use Rattle.lf_checks.proofs.SmallerDecided.{found_below, is_true}
use Rattle.lf_checks.proofs.StrictTypes.{either_cases}

either_l : (a b : Bool) → a ≡ true → either a b ≡ true
either_l true b e = refl
either_l false b e = absurd cc

either_r : (a b : Bool) → b ≡ true → either a b ≡ true
either_r true b e = refl
either_r false b e = e

is_false : (b : Bool) → Dec (b ≡ false)
is_false true = no (λ e. true≢false e)
is_false false = yes refl

both_decided : {A B : Type 0} → Dec A → Dec B → Dec (A × B)
both_decided (yes a) (yes b) = yes (a, b)
both_decided (yes a) (no n) = no (λ h. n h.1)
both_decided (no n) d = no (λ h. n h.0)

-- A term uses variables of U only, or one outside U occurs.
abbrev Unused : (ℕ → Bool) → Term → Type 0
Unused U M = (x : ℕ) × (occurs x M ≡ true) × (U x ≡ false)

abbrev UnusedSpine : (ℕ → Bool) → Spine → Type 0
UnusedSpine U S = (x : ℕ) × (occurs_spine x S ≡ true) × (U x ≡ false)

lower : (U : ℕ → Bool) (M : Term) → Unused (under U) M → Unused U (lambda M)
lower U M (zero, o, f) = absurd (true≢false f)
lower U M (suc x, o, f) = (x, o, f)

mutual
  uses_or : (U : ℕ → Bool) (M : Term) → Uses U M ⊎ Unused U M
  uses_or U (lambda M) = elim (uses_or (under U) M) [ inl u ↦ inl u | inr h ↦ inr (lower U M h) ]
  uses_or U (root (constant c) S) = uses_or_spine U S
  uses_or U (root (metavariable c) S) = uses_or_spine U S
  uses_or U (root (variable i) S) = by (U i) refl (uses_or_spine U S)
    where
      by : (b : Bool) → U i ≡ b → UsesSpine U S ⊎ UnusedSpine U S → ((U i ≡ true) × UsesSpine U S) ⊎ Unused U (root (variable i) S)
      by true e (inl u) = inl (e, u)
      by true e (inr (x, o, f)) = inr (x, either_r (same_number x i) (occurs_spine x S) o, f)
      by false e s = inr (i, either_l (same_number i i) (occurs_spine i S) (same_self i), e)

  uses_or_spine : (U : ℕ → Bool) (S : Spine) → UsesSpine U S ⊎ UnusedSpine U S
  uses_or_spine U nil = inl tt
  uses_or_spine U (app M S) = by (uses_or U M) (uses_or_spine U S)
    where
      by : Uses U M ⊎ Unused U M → UsesSpine U S ⊎ UnusedSpine U S → (Uses U M × UsesSpine U S) ⊎ UnusedSpine U (app M S)
      by (inl u) (inl w) = inl (u, w)
      by (inr (x, o, f)) w = inr (x, either_l (occurs x M) (occurs_spine x S) o, f)
      by (inl u) (inr (x, o, f)) = inr (x, either_r (occurs x M) (occurs_spine x S) o, f)

used_at : (U : ℕ → Bool) (m : List Bool) (S : Spine) (x : ℕ) → UsesPlaces U m S → occurs_at m x S ≡ true → U x ≡ true
used_at U [] S x u o = absurd cc
used_at U (b ∷ m) nil x u o = absurd cc
used_at U (true ∷ m) (app M S) x (u, w) o = elim (either_cases (occurs x M) (occurs_at m x S) o) [ inl e ↦ used U x M u e | inr e ↦ used_at U m S x w e ]
used_at U (false ∷ m) (app M S) x u o = used_at U m S x u o

-- what stands outside is no variable of the clause itself
outside_far : (A : LfType) (V : ℕ → Bool) (p : ℕ) → ((j : ℕ) → p ≤ j → V j ≡ true) → (i : ℕ) → p + quantifiers A ≤ i → outside A V i ≡ true
outside_far (pi A B) V p h i l = outside_far B (hide V) (suc p) past i (let q : p + suc (quantifiers B) ≤ i = l in omega arith)
  where
    past : (j : ℕ) → suc p ≤ j → hide V j ≡ true
    past zero l = absurd (omega arith)
    past (suc j) l = h j (omega arith)
outside_far (atom a S) V p h i l = h i (omega arith)

module _ (m : ℕ → List Mark) (c : Clause) where
  own_below : (x : ℕ) → outside c.type everything x ≡ false → x < quantifiers c.type
  own_below x e = elim (below_or x (quantifiers c.type)) [ inl l ↦ l | inr l ↦ absurd (true≢false (sym (outside_far c.type everything zero (λ j k. refl) x (omega arith)) ∙ e)) ]
    where
      below_or : (i n : ℕ) → (i < n) ⊎ (n ≤ i)
      below_or i zero = inr (omega arith)
      below_or zero (suc n) = inl (omega arith)
      below_or (suc i) (suc n) = elim (below_or i n) [ inl l ↦ inl (omega arith) | inr l ↦ inr (omega arith) ]

  abbrev FreeAt : ℕ → ℕ → Type 0
  FreeAt x i = (A : LfType) × IsSubgoal c i A × (occurs_goal (free_places (m (target A))) x A ≡ true)

  free_decided : (x : ℕ) → Dec (InFreePlace m c x)
  free_decided x = elim (found_below (FreeAt x) at (quantifiers c.type)) [ yes (i, l, (A, s, o)) ↦ yes (record { index = i; subgoal = A; is_subgoal = s; occurs_there = o }) | no n ↦ no (λ f. n (f.index, subgoal_inside c f.index f.is_subgoal.0, (f.subgoal, f.is_subgoal, f.occurs_there))) ]
    where
      at : (i : ℕ) → Dec (FreeAt x i)
      at i = by (type_at (scope c) i) refl
        where
          some_type : {A B : LfType} → Some A ≡ Some B → A ≡ B
          some_type e = cc

          by : (o : Option LfType) → type_at (scope c) i ≡ o → Dec (FreeAt x i)
          by None e = no (λ (A, s, o). let q : type_at (scope c) i ≡ Some A = (type_both (scope c) i A).0 s.1 in absurd cc)
          by (Some A) e = elim (both_decided (is_false (variables c i)) (is_true (occurs_goal (free_places (m (target A))) x A))) [ yes (v, o) ↦ yes (A, (v, (type_both (scope c) i A).1 e), o) | no n ↦ no (λ (B, s, o). n (s.0, subst (λ X. occurs_goal (free_places (m (target X))) x X ≡ true) (some_type (sym ((type_both (scope c) i B).0 s.1) ∙ e)) o)) ]

  must_decided : (x : ℕ) → Dec (MustBeGround m c x)
  must_decided x = by (is_true (variables c x)) (is_false (outside c.type everything x)) (is_false (occurs_at (free_places (m (target c.type))) x (target_arguments c.type))) (free_decided x)
    where
      by : Dec (variables c x ≡ true) → Dec (outside c.type everything x ≡ false) → Dec (occurs_at (free_places (m (target c.type))) x (target_arguments c.type) ≡ false) → Dec (InFreePlace m c x) → Dec (MustBeGround m c x)
      by (yes v) (yes o) (yes f) (no g) = yes (record { is_variable = v; own = o; in_head = f; in_subgoal = g })
      by (yes v) (yes o) (yes f) (yes g) = no (λ h. h.in_subgoal g)
      by (yes v) (yes o) (no f) g = no (λ h. f h.in_head)
      by (yes v) (no o) f g = no (λ h. o h.own)
      by (no v) o f g = no (λ h. v h.is_variable)

  module _ (U : ℕ → Bool) where
    nowhere_decided : Dec (IsLostNowhere m c U)
    nowhere_decided = elim (found_below (λ x. MustBeGround m c x × (U x ≡ false) × (occurs_spine x (target_arguments c.type) ≡ false)) at (quantifiers c.type)) [ yes (x, l, (g, u, o)) ↦ yes (record { lost = x; must = g; unground = u; nowhere = o }) | no n ↦ no (λ h. n (h.lost, own_below h.lost h.must.own, (h.must, h.unground, h.nowhere))) ]
      where
        three : {P Q S : Type 0} → Dec P → Dec Q → Dec S → Dec (P × Q × S)
        three (yes p) (yes q) (yes s) = yes (p, q, s)
        three (yes p) (yes q) (no n) = no (λ h. n h.2)
        three (yes p) (no n) d = no (λ h. n h.1)
        three (no n) d e = no (λ h. n h.0)

        at : (x : ℕ) → Dec (MustBeGround m c x × (U x ≡ false) × (occurs_spine x (target_arguments c.type) ≡ false))
        at x = three (must_decided x) (is_false (U x)) (is_false (occurs_spine x (target_arguments c.type)))

    abbrev Outputs : ℕ → Bool
    Outputs x = occurs_at (output_places (m (target c.type))) x (target_arguments c.type)

    abbrev LostOwn : Term → ℕ → Type 0
    LostOwn M x = (occurs x M ≡ true) × (U x ≡ false) × MustBeGround m c x × (Outputs x ≡ false)

    own_decided : (M : Term) → Dec ((x : ℕ) × (x < quantifiers c.type) × LostOwn M x)
    own_decided M = found_below (LostOwn M) at (quantifiers c.type)
      where
        four : {P Q R S : Type 0} → Dec P → Dec Q → Dec R → Dec S → Dec (P × Q × R × S)
        four (yes p) (yes q) (yes r) (yes s) = yes (p, q, r, s)
        four (yes p) (yes q) (yes r) (no n) = no (λ h. n h.3)
        four (yes p) (yes q) (no n) d = no (λ h. n h.2)
        four (yes p) (no n) d e = no (λ h. n h.1)
        four (no n) d e f = no (λ h. n h.0)

        at : (x : ℕ) → Dec (LostOwn M x)
        at x = four (is_true (occurs x M)) (is_false (U x)) (must_decided x) (is_false (Outputs x))

    lost_decided : (b : Mark) (M : Term) → Dec (IsLostAt m c U b M)
    lost_decided b M = by (is_output b) refl (uses_or U M) (own_decided M)
      where
        by : (t : Bool) → is_output b ≡ t → Uses U M ⊎ Unused U M → Dec ((x : ℕ) × (x < quantifiers c.type) × LostOwn M x) → Dec (IsLostAt m c U b M)
        by true e (inl u) d = no (λ h. true≢false (sym (used U h.lost M u h.stands) ∙ h.unground))
        by true e (inr (x, o, f)) d = yes (record { lost = x; stands = o; unground = f; matters = inl e })
        by false e w (yes (x, l, (o, f, g, n))) = yes (record { lost = x; stands = o; unground = f; matters = inr (g, n) })
        by false e w (no n) = no (λ h. elim h.matters [ inl q ↦ true≢false (sym q ∙ e) | inr (g, o) ↦ n (h.lost, own_below h.lost g.own, (h.stands, h.unground, g, o)) ])

    abbrev NoneLost : List Mark → Spine → Type 0
    NoneLost [] S = Unit {0}
    NoneLost (b ∷ bs) nil = Unit {0}
    NoneLost (b ∷ bs) (app M S) = (IsLostAt m c U b M → ⊥) × NoneLost bs S

    none_or : (n : ℕ) (bs : List Mark) (S : Spine) → NoneLost bs S ⊎ ((j : ℕ) × FirstLost m c U n bs S j)
    none_or n [] S = inl tt
    none_or n (b ∷ bs) nil = inl tt
    none_or n (b ∷ bs) (app M S) = by (lost_decided b M) (none_or (suc n) bs S)
      where
        by : Dec (IsLostAt m c U b M) → NoneLost bs S ⊎ ((j : ℕ) × FirstLost m c U (suc n) bs S j) → NoneLost (b ∷ bs) (app M S) ⊎ ((j : ℕ) × FirstLost m c U n (b ∷ bs) (app M S) j)
        by (yes h) d = inr (n, inl (h, refl))
        by (no f) (inl h) = inl (f, h)
        by (no f) (inr (j, h)) = inr (j, inr (f, h))

    outputs_used : (bs : List Mark) (S : Spine) → NoneLost bs S → UsesPlaces U (output_places bs) S
    outputs_used [] S h = tt
    outputs_used (b ∷ bs) nil h = tt
    outputs_used (input ∷ bs) (app M S) (f, h) = outputs_used bs S h
    outputs_used (output ∷ bs) (app M S) (f, h) = (elim (uses_or U M) [ inl u ↦ u | inr (x, o, e) ↦ absurd (f (record { lost = x; stands = o; unground = e; matters = inl refl })) ], outputs_used bs S h)
    outputs_used (free ∷ bs) (app M S) (f, h) = outputs_used bs S h

    lost_somewhere : (bs : List Mark) (S : Spine) (x : ℕ) → length bs ≡ argument_count S → NoneLost bs S → MustBeGround m c x → U x ≡ false → Outputs x ≡ false → occurs_spine x S ≡ true → ⊥
    lost_somewhere [] nil x l h g u n o = true≢false (sym o)
    lost_somewhere [] (app M S) x l h g u n o = absurd (omega arith)
    lost_somewhere (b ∷ bs) nil x l h g u n o = true≢false (sym o)
    lost_somewhere (b ∷ bs) (app M S) x l (f, h) g u n o = elim (either_cases (occurs x M) (occurs_spine x S) o) [ inl e ↦ f (record { lost = x; stands = e; unground = u; matters = inr (g, n) }) | inr e ↦ lost_somewhere bs S x (let q : suc (length bs) ≡ suc (argument_count S) = l in omega arith) h g u n e ]

    -- The lemma: where the head has as many arguments as its family has marks
    pub end_decided : length (m (target c.type)) ≡ argument_count (target_arguments c.type) → AllGround m c U ⊎ ((j : ℕ) × EndFault m c U j)
    end_decided l = by nowhere_decided (none_or 1 (m (target c.type)) (target_arguments c.type))
      where
        ground : (IsLostNowhere m c U → ⊥) → NoneLost (m (target c.type)) (target_arguments c.type) → (x : ℕ) → variables c x ≡ true → outside c.type everything x ≡ false → (U x ≡ true) ⊎ (occurs_at (free_places (m (target c.type))) x (target_arguments c.type) ≡ true) ⊎ InFreePlace m c x
        ground n h x v o = at (U x) refl (occurs_at (free_places (m (target c.type))) x (target_arguments c.type)) refl (free_decided x)
          where
            at : (t : Bool) → U x ≡ t → (w : Bool) → occurs_at (free_places (m (target c.type))) x (target_arguments c.type) ≡ w → Dec (InFreePlace m c x) → (U x ≡ true) ⊎ (occurs_at (free_places (m (target c.type))) x (target_arguments c.type) ≡ true) ⊎ InFreePlace m c x
            at true e w f d = inl e
            at false e true f d = inr (inl f)
            at false e false f (yes p) = inr (inr p)
            at false e false f (no p) = absurd (lost (record { is_variable = v; own = o; in_head = f; in_subgoal = p }) (occurs_spine x (target_arguments c.type)) refl (Outputs x) refl)
              where
                lost : MustBeGround m c x → (w : Bool) → occurs_spine x (target_arguments c.type) ≡ w → (t : Bool) → Outputs x ≡ t → ⊥
                lost g false q t r = n (record { lost = x; must = g; unground = e; nowhere = q })
                lost g true q true r = true≢false (sym (used_at U (output_places (m (target c.type))) (target_arguments c.type) x (outputs_used (m (target c.type)) (target_arguments c.type) h) r) ∙ e)
                lost g true q false r = lost_somewhere (m (target c.type)) (target_arguments c.type) x l h g e r q

        by : Dec (IsLostNowhere m c U) → NoneLost (m (target c.type)) (target_arguments c.type) ⊎ ((j : ℕ) × FirstLost m c U 1 (m (target c.type)) (target_arguments c.type) j) → AllGround m c U ⊎ ((j : ℕ) × EndFault m c U j)
        by (yes h) d = inr (0, at_none h)
        by (no n) (inr (j, f)) = inr (j, at_argument n f)
        by (no n) (inl h) = inl (outputs_used (m (target c.type)) (target_arguments c.type) h, ground n h)
