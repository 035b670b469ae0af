-- The end of a clause, by what is ground and what needn't be.
use Rattle.std.proofs.Common.{◌≡◌, ℕ, zero, suc, ◌+◌, ◌<◌, ◌≤◌, List, [], ◌∷◌, ◌++◌, length, drop, get_or, take, refl, sym, ap, ap₂, ◌∙◌, subst, arith, inl, inr, true≢false}
use Rattle.std.specs.Prelude.{Bool, true, false, cond, Option, Some, None, Decides, ◌⊎◌, ◌↔◌}
use Rattle.std.proofs.Math.ListN.{drop_of_length-le}
use Rattle.lf.specs.Syntax.{constant, variable, metavariable, Term, Spine, lambda, root, nil, app}
use Rattle.lf.specs.Variables.{target, target_arguments, under, same_number, Uses, UsesSpine}
use Rattle.lf_unification.specs.Search.{occurs, occurs_spine}
use Rattle.lf_checks.specs.Clause.{Clause}
use Rattle.lf_checks.specs.Marks.{Mark, input, output, free, is_output, output_places}
use Rattle.lf_checks.specs.ModeFaults.{EndFault, FirstLost, IsLostAt, IsLostNowhere, MustBeGround, at_argument, at_none}
use Rattle.lf_checks.specs.ModeForms.{argument_count}
use Rattle.lf_checks.specs.Modes.{AllGround, occurs_at}
use Rattle.lf_checks.specs.Tests.{either}
use Rattle.lf_checks.proofs.EndDecided.{end_decided}
use Rattle.lf_checks.proofs.ModeRefuted.{used}
use Rattle.tw_signature.specs.Marks.{marked}
use Rattle.tw_signature.proofs.Marking.{marked_length}
use Rattle.tw_terms.specs.View.{args_of}
use Rattle.tw_terms.specs.declared.canonical.Term.{Term as RustTerm}
use Rattle.tw_mode.specs.Checks.{Outcome}
use Rattle.tw_mode.specs.Ends.{AreAllTrue, FirstUnsettled, NoneUnsettled, Unsettled, either_of}
use Rattle.tw_mode.specs.Outcomes.{EndOutcome}
use Rattle.tw_mode.specs.Rows.{marks_in}
use Rattle.tw_mode.specs.Scopes.{in_marks}
use Rattle.tw_mode.specs.declared.table.Table.{Table}
use Rattle.lf.proofs.Checker.{number_is}
use Rattle.tw_signature.proofs.Marking.{same_self}
use Rattle.tw_mode.proofs.Sets.{in_marks_past, marked_set}
use mathlib.Core.Path.{fun_ext}

either_no : (a b : Bool) → either a b ≡ false → (a ≡ false) × (b ≡ false)
either_no true b e = absurd cc
either_no false b e = (refl, e)

either_right : (a b : Bool) → b ≡ true → either a b ≡ true
either_right true b e = refl
either_right false b e = e

both_no : (a b : Bool) → a ≡ false → b ≡ false → either a b ≡ false
both_no a b e f = ap₂ either e f

-- The set of two lists of marks together.
cond_either : (t x y a b : Bool) → cond t (either x y) (either a b) ≡ either (cond t x a) (cond t y b)
cond_either true x y a b = refl
cond_either false x y a b = refl

either_set_at : (d i : ℕ) (xs ys : List Bool) → length xs ≡ length ys → in_marks true d (either_of xs ys) i ≡ either (in_marks true d xs i) (in_marks true d ys i)
either_set_at zero i xs ys h = refl
either_set_at (suc d) i [] ys h = refl
either_set_at (suc d) i (x ∷ xs) [] h = absurd (omega (arith, h))
either_set_at (suc d) i (x ∷ xs) (y ∷ ys) h = ap (cond (same_number i d) (either x y)) (either_set_at d i xs ys (omega (arith, h))) ∙ cond_either (same_number i d) x y (in_marks true d xs i) (in_marks true d ys i)

pub either_set : (d : ℕ) (xs ys : List Bool) → length xs ≡ length ys → in_marks true d (either_of xs ys) ≡ (λ i. either (in_marks true d xs i) (in_marks true d ys i))
either_set d xs ys h = fun_ext (λ i. either_set_at d i xs ys h)

pub either_length : (xs ys : List Bool) → length (either_of xs ys) ≡ length xs
either_length [] ys = refl
either_length (x ∷ xs) [] = refl
either_length (x ∷ xs) (y ∷ ys) = ap suc (either_length xs ys)

either_more : (xs ys : List Bool) (k : ℕ) → k < length xs → k < length ys → either_of (take k xs) (take k ys) ++ either (get_or xs k false) (get_or ys k false) ∷ [] ≡ either_of (take (suc k) xs) (take (suc k) ys)
either_more [] ys k h l = absurd (omega (arith, h))
either_more (x ∷ xs) [] k h l = absurd (omega (arith, l))
either_more (x ∷ xs) (y ∷ ys) zero h l = refl
either_more (x ∷ xs) (y ∷ ys) (suc k) h l = ap (λ zs. either x y ∷ zs) (either_more xs ys k (omega (arith, h)) (omega (arith, l)))

pub either_pushed : (xs ys ms ns : List Bool) (k : ℕ) → k < length xs → k < length ys → ms ≡ either_of (take k xs) (take k ys) → ns ≡ ms ++ either (get_or xs k false) (get_or ys k false) ∷ [] → ns ≡ either_of (take (k + 1) xs) (take (k + 1) ys)
either_pushed xs ys ms ns k h l e q = q ∙ ap (λ zs. zs ++ either (get_or xs k false) (get_or ys k false) ∷ []) e ∙ either_more xs ys k h l ∙ ap (λ n. either_of (take n xs) (take n ys)) (let r : suc k ≡ k + 1 = omega arith in r)

-- Marks that all say yes.
cond_true : (t : Bool) → cond t true true ≡ true
cond_true true = refl
cond_true false = refl

pub all_in : (d i : ℕ) (ms : List Bool) → AreAllTrue ms → in_marks true d ms i ≡ true
all_in zero i ms h = refl
all_in (suc d) i [] h = refl
all_in (suc d) i (m ∷ ms) (e, h) = ap₂ (cond (same_number i d)) e (all_in d i ms h) ∙ cond_true (same_number i d)

pub one_out : (d : ℕ) (ms : List Bool) → length ms ≤ d → (AreAllTrue ms → ⊥) → (i : ℕ) × (in_marks true d ms i ≡ false)
one_out d [] h n = absurd (n tt)
one_out zero (m ∷ ms) h n = absurd (omega (arith, h))
one_out (suc d) (false ∷ ms) h n = (d, ap (λ t. cond t false (in_marks true d ms d)) (same_self d))
one_out (suc d) (true ∷ ms) h n = let (i, e) = one_out d ms (omega (arith, h)) (λ a. n (refl, a)) in (i, by i e (same_number i d) refl)
  where
    by : (i : ℕ) → in_marks true d ms i ≡ false → (t : Bool) → same_number i d ≡ t → in_marks true (suc d) (true ∷ ms) i ≡ false
    by i e true q = absurd (true≢false (sym (in_marks_past true d i ms (let r : i ≡ d = number_is i d q in omega (arith, r))) ∙ e))
    by i e false q = ap (λ t. cond t true (in_marks true d ms i)) q ∙ e

pub all_next : (ms : List Bool) (k : ℕ) → k < length ms → get_or ms k false ≡ true → AreAllTrue (drop (suc k) ms) → AreAllTrue (drop k ms)
all_next [] k h e a = absurd (omega (arith, h))
all_next (m ∷ ms) zero h e a = (e, a)
all_next (m ∷ ms) (suc k) h e a = all_next ms k (omega (arith, h)) e a

pub all_fails : (ms : List Bool) (k : ℕ) → k < length ms → get_or ms k false ≡ false → AreAllTrue (drop k ms) → ⊥
all_fails [] k h e a = omega (arith, h)
all_fails (m ∷ ms) zero h e a = true≢false (sym a.0 ∙ e)
all_fails (m ∷ ms) (suc k) h e a = all_fails ms k (omega (arith, h)) e a

pub all_behind : (ms : List Bool) (k : ℕ) → k < length ms → AreAllTrue (drop k ms) → AreAllTrue (drop (suc k) ms)
all_behind [] k h a = absurd (omega (arith, h))
all_behind (m ∷ ms) zero h a = a.1
all_behind (m ∷ ms) (suc k) h a = all_behind ms k (omega (arith, h)) a

pub all_stable : (ms : List Bool) → ((AreAllTrue ms → ⊥) → ⊥) → AreAllTrue ms
all_stable [] h = tt
all_stable (true ∷ ms) h = (refl, all_stable ms (λ n. h (λ a. n a.1)))
all_stable (false ∷ ms) h = absurd (h (λ a. true≢false (sym a.0)))

-- A term uses variables of a set only, or one outside it occurs.
abbrev Unused : (ℕ → Bool) → Term → Type 0
Unused U M = (x : ℕ) × (occurs x M ≡ true) × (U x ≡ false)

abbrev UnusedSpine : (ℕ → Bool) → Spine → Type 0
UnusedSpine U S = (x : ℕ) × (occurs_spine x S ≡ true) × (U x ≡ false)

lower : (U : ℕ → Bool) (M : Term) → Unused (under U) M → Unused U (lambda M)
lower U M (zero, o, f) = absurd (true≢false f)
lower U M (suc x, o, f) = (x, o, f)

either_left : (a b : Bool) → a ≡ true → either a b ≡ true
either_left true b e = refl
either_left false b e = absurd cc

mutual
  uses_or : (U : ℕ → Bool) (M : Term) → Uses U M ⊎ Unused U M
  uses_or U (lambda M) = elim (uses_or (under U) M) [ inl u ↦ inl u | inr h ↦ inr (lower U M h) ]
  uses_or U (root (constant c) S) = uses_or_spine U S
  uses_or U (root (metavariable c) S) = uses_or_spine U S
  uses_or U (root (variable i) S) = by (U i) refl (uses_or_spine U S)
    where
      by : (b : Bool) → U i ≡ b → UsesSpine U S ⊎ UnusedSpine U S → ((U i ≡ true) × UsesSpine U S) ⊎ Unused U (root (variable i) S)
      by true e (inl u) = inl (e, u)
      by true e (inr (x, o, f)) = inr (x, either_right (same_number x i) (occurs_spine x S) o, f)
      by false e s = inr (i, either_left (same_number i i) (occurs_spine i S) (same_self i), e)

  uses_or_spine : (U : ℕ → Bool) (S : Spine) → UsesSpine U S ⊎ UnusedSpine U S
  uses_or_spine U nil = inl tt
  uses_or_spine U (app M S) = by (uses_or U M) (uses_or_spine U S)
    where
      by : Uses U M ⊎ Unused U M → UsesSpine U S ⊎ UnusedSpine U S → (Uses U M × UsesSpine U S) ⊎ UnusedSpine U (app M S)
      by (inl u) (inl w) = inl (u, w)
      by (inr (x, o, f)) w = inr (x, either_left (occurs x M) (occurs_spine x S) o, f)
      by (inl u) (inr (x, o, f)) = inr (x, either_right (occurs x M) (occurs_spine x S) o, f)

unused_of : (U : ℕ → Bool) (M : Term) → (Uses U M → ⊥) → Unused U M
unused_of U M n = elim (uses_or U M) [ inl u ↦ absurd (n u) | inr h ↦ h ]

-- Where what isn't in E must be ground.
module _ (m : ℕ → List Mark) (c : Clause) (U E : ℕ → Bool) (must : (x : ℕ) → (E x ≡ false) ↔ MustBeGround m c x) where
  abbrev Settled : ℕ → Bool
  Settled x = either (U x) (E x)

  abbrev Outputs : ℕ → Bool
  Outputs x = occurs_at (output_places (m (target c.type))) x (target_arguments c.type)

  abbrev Allowed : ℕ → Bool
  Allowed x = either (Settled x) (Outputs x)

  pub lost_nowhere : (x : ℕ) → either (Settled x) (occurs_spine x (target_arguments c.type)) ≡ false → IsLostNowhere m c U
  lost_nowhere x e =
      let (s, o) = either_no (Settled x) (occurs_spine x (target_arguments c.type)) e in
      let (u, f) = either_no (U x) (E x) s in
      record { lost = x; must = (must x).0 f; unground = u; nowhere = o }

  pub none_nowhere : ((x : ℕ) → either (Settled x) (occurs_spine x (target_arguments c.type)) ≡ true) → IsLostNowhere m c U → ⊥
  none_nowhere all l = true≢false (sym (all l.lost) ∙ both_no (Settled l.lost) (occurs_spine l.lost (target_arguments c.type)) (both_no (U l.lost) (E l.lost) l.unground ((must l.lost).1 l.must)) l.nowhere)

  lost_free : (b : Mark) (M : Term) → (Uses Allowed M → ⊥) → IsLostAt m c U b M
  lost_free b M n =
      let (x, o, f) = unused_of Allowed M n in
      let (s, p) = either_no (Settled x) (Outputs x) f in
      let (u, e) = either_no (U x) (E x) s in
      record { lost = x; stands = o; unground = u; matters = inr ((must x).0 e, p) }

  lost : (b : Mark) (M : Term) → Unsettled U Allowed b M → IsLostAt m c U b M
  lost input M n = lost_free input M n
  lost free M n = lost_free free M n
  lost output M n = let (x, o, f) = unused_of U M n in record { lost = x; stands = o; unground = f; matters = inl refl }

  unsettled_free : (b : Mark) (M : Term) → is_output b ≡ false → IsLostAt m c U b M → Uses Allowed M → ⊥
  unsettled_free b M q l u = elim l.matters [
    | inl e ↦ true≢false (sym e ∙ q)
    | inr (g, o) ↦ true≢false (sym (used Allowed l.lost M u l.stands) ∙ both_no (Settled l.lost) (Outputs l.lost) (both_no (U l.lost) (E l.lost) l.unground ((must l.lost).1 g)) o)
  ]

  unsettled : (b : Mark) (M : Term) → IsLostAt m c U b M → Unsettled U Allowed b M
  unsettled input M l = λ u. unsettled_free input M refl l u
  unsettled free M l = λ u. unsettled_free free M refl l u
  unsettled output M l = λ u. true≢false (sym (used U l.lost M u l.stands) ∙ l.unground)

  first_lost : (n : ℕ) (bs : List Mark) (S : Spine) (j : ℕ) → FirstUnsettled U Allowed n bs S j → FirstLost m c U n bs S j
  first_lost n [] S j f = f
  first_lost n (b ∷ bs) nil j f = f
  first_lost n (b ∷ bs) (app M S) j (inl (f, e)) = inl (lost b M f, e)
  first_lost n (b ∷ bs) (app M S) j (inr (f, h)) = inr ((λ l. f (unsettled b M l)), first_lost (suc n) bs S j h)

  none_lost : (n : ℕ) (bs : List Mark) (S : Spine) (j : ℕ) → NoneUnsettled U Allowed bs S → FirstLost m c U n bs S j → ⊥
  none_lost n [] S j f h = h
  none_lost n (b ∷ bs) nil j f h = h
  none_lost n (b ∷ bs) (app M S) j (f, g) (inl (l, e)) = f (unsettled b M l)
  none_lost n (b ∷ bs) (app M S) j (f, g) (inr (l, h)) = none_lost (suc n) bs S j g h

  pub end_of : (o : Option ℕ) → length (m (target c.type)) ≡ argument_count (target_arguments c.type) → (IsLostNowhere m c U → ⊥) → Outcome (NoneUnsettled U Allowed (m (target c.type)) (target_arguments c.type)) (FirstUnsettled U Allowed 1 (m (target c.type)) (target_arguments c.type)) o → Outcome (AllGround m c U) (EndFault m c U) o
  end_of (Some j) l n f = at_argument n (first_lost 1 (m (target c.type)) (target_arguments c.type) j f)
  end_of None l n f = elim (end_decided m c U l) [ inl g ↦ g | inr (j, h) ↦ absurd (none j h) ]
    where
      none : (j : ℕ) → EndFault m c U j → ⊥
      none j (at_none h) = n h
      none j (at_argument k h) = none_lost 1 (m (target c.type)) (target_arguments c.type) j f h

-- One argument after the other.
abbrev pub LostOutcome : (ℕ → Bool) → (ℕ → Bool) → ℕ → List Mark → Spine → Option ℕ → Type 0
LostOutcome U L n bs S o = Outcome (NoneUnsettled U L bs S) (FirstUnsettled U L n bs S) o

pub argument_passes : (U L : ℕ → Bool) (n : ℕ) (bs : List Mark) (b : Mark) (rest : List Mark) (S R : Spine) (M : Term) (o : Option ℕ) → bs ≡ b ∷ rest → S ≡ app M R → (Unsettled U L b M → ⊥) → LostOutcome U L (suc n) rest R o → LostOutcome U L n bs S o
argument_passes U L n bs b rest S R M o e f u h = subst (λ xs. LostOutcome U L n xs S o) (sym e) (subst (λ X. LostOutcome U L n (b ∷ rest) X o) (sym f) (by o h))
  where
    by : (o : Option ℕ) → LostOutcome U L (suc n) rest R o → LostOutcome U L n (b ∷ rest) (app M R) o
    by None h = (u, h)
    by (Some j) h = inr (u, h)

pub argument_fails : (U L : ℕ → Bool) (n : ℕ) (bs : List Mark) (b : Mark) (rest : List Mark) (S R : Spine) (M : Term) → bs ≡ b ∷ rest → S ≡ app M R → Unsettled U L b M → LostOutcome U L n bs S (Some n)
argument_fails U L n bs b rest S R M e f u = subst (λ xs. FirstUnsettled U L n xs S n) (sym e) (subst (λ X. FirstUnsettled U L n (b ∷ rest) X n) (sym f) (inl (u, refl)))

pub no_marks_left : (U L : ℕ → Bool) (n : ℕ) (bs : List Mark) (S : Spine) → bs ≡ [] → LostOutcome U L n bs S None
no_marks_left U L n bs S e = subst (λ xs. NoneUnsettled U L xs S) (sym e) tt

no_arguments : (U L : ℕ → Bool) (bs : List Mark) → NoneUnsettled U L bs nil
no_arguments U L [] = tt
no_arguments U L (b ∷ bs) = tt

pub no_arguments_left : (U L : ℕ → Bool) (n k : ℕ) (bs : List Mark) (ts : List RustTerm) → length ts ≤ k → LostOutcome U L n bs (args_of (drop k ts)) None
no_arguments_left U L n k bs ts h = subst (λ xs. NoneUnsettled U L bs (args_of xs)) (sym (drop_of_length-le ts h)) (no_arguments U L bs)

-- an argument at an output, and at another place
pub output_decided : (U L : ℕ → Bool) (b : Mark) (M : Term) (t : Bool) → is_output b ≡ true → Decides t (Uses U M → ⊥) → Decides t (Unsettled U L b M)
output_decided U L input M t e d = absurd cc
output_decided U L output M t e d = d
output_decided U L free M t e d = absurd cc

pub other_decided : (U L : ℕ → Bool) (b : Mark) (M : Term) (t : Bool) → is_output b ≡ false → Decides t (Uses L M → ⊥) → Decides t (Unsettled U L b M)
other_decided U L input M t e d = d
other_decided U L output M t e d = absurd cc
other_decided U L free M t e d = d

-- the opposite of a test
pub decides_not : {P : Type 0} (b r : Bool) → r ≡ cond b false true → Decides b P → Decides r (P → ⊥)
decides_not true r e d = (λ q. absurd (true≢false (sym q ∙ e)), λ n. absurd (n (d.0 refl)))
decides_not false r e d = (λ q p. true≢false (sym (d.1 p)), λ n. e)

-- The end by marks: what is ground, what needn't be, and both together.
module _ (t : Table) (d a : ℕ) (S : Spine) (gs es ss : List Bool) (g : length gs ≡ d) (l : length es ≡ d) (s : ss ≡ either_of gs es) where
  settled_set : in_marks true d ss ≡ (λ i. either (in_marks true d gs i) (in_marks true d es i))
  settled_set = ap (in_marks true d) s ∙ either_set d gs es (g ∙ sym l)

  pub settled_count : length ss ≡ d
  settled_count = ap length s ∙ either_length gs es ∙ g

  seen_set : (x : ℕ) → in_marks true d (marked d (λ i. occurs_spine i S) ss) x ≡ either (either (in_marks true d gs x) (in_marks true d es x)) (occurs_spine x S)
  seen_set x = ap (λ X. X x) (marked_set (λ i. occurs_spine i S) d ss ∙ ap (λ X i. either (X i) (occurs_spine i S)) settled_set)

  pub end_nowhere : (AreAllTrue (marked d (λ i. occurs_spine i S) ss) → ⊥) → EndOutcome t (in_marks true d gs) (in_marks true d es) a S (Some 0)
  end_nowhere n c e q k must =
      let c1 : length (marked d (λ i. occurs_spine i S) ss) ≡ d = marked_length d (λ i. occurs_spine i S) ss ∙ settled_count in
      let (x, o) = one_out d (marked d (λ i. occurs_spine i S) ss) (omega (arith, c1)) n in
      at_none (lost_nowhere (marks_in t) c (in_marks true d gs) (in_marks true d es) must x (ap (λ X. either (either (in_marks true d gs x) (in_marks true d es x)) (occurs_spine x X)) q ∙ sym (seen_set x) ∙ o))

  pub end_somewhere : AreAllTrue (marked d (λ i. occurs_spine i S) ss) → (os rs : List Bool) (L : ℕ → Bool) (o : Option ℕ) → os ≡ output_places (marks_in t a) → rs ≡ marked d (λ i. occurs_at os i S) ss → L ≡ in_marks true d rs → Outcome (NoneUnsettled (in_marks true d gs) L (marks_in t a) S) (FirstUnsettled (in_marks true d gs) L 1 (marks_in t a) S) o → EndOutcome t (in_marks true d gs) (in_marks true d es) a S o
  end_somewhere all os rs L o p r w h c e q k must =
      end_of (marks_in t) c (in_marks true d gs) (in_marks true d es) must o
      (ap (λ f. length (marks_in t f)) e ∙ k ∙ ap argument_count (sym q))
      (none_nowhere (marks_in t) c (in_marks true d gs) (in_marks true d es) must (λ x. ap (λ X. either (either (in_marks true d gs x) (in_marks true d es x)) (occurs_spine x X)) q ∙ sym (seen_set x) ∙ all_in d x (marked d (λ i. occurs_spine i S) ss) all))
      (subst (λ X. LostOutcome (in_marks true d gs) (Allowed (marks_in t) c (in_marks true d gs) (in_marks true d es) must) 1 (marks_in t (target c.type)) X o) (sym q)
      (subst (λ f. LostOutcome (in_marks true d gs) (Allowed (marks_in t) c (in_marks true d gs) (in_marks true d es) must) 1 (marks_in t f) S o) (sym e)
      (subst (λ X. LostOutcome (in_marks true d gs) X 1 (marks_in t a) S o) same h)))
    where
      same : L ≡ Allowed (marks_in t) c (in_marks true d gs) (in_marks true d es) must
      same =
          w
          ∙ ap (in_marks true d) r
          ∙ marked_set (λ i. occurs_at os i S) d ss
          ∙ ap (λ X i. either (X i) (occurs_at os i S)) settled_set
          ∙ ap (λ ps i. either (either (in_marks true d gs i) (in_marks true d es i)) (occurs_at ps i S)) (p ∙ ap (λ f. output_places (marks_in t f)) (sym e))
          ∙ ap (λ X i. either (either (in_marks true d gs i) (in_marks true d es i)) (occurs_at (output_places (marks_in t (target c.type))) i X)) (sym q)
