-- What is known of the postponed equations, while metavariables are bound and equations come and go.
use Rattle.std.proofs.Common.{Box, Global, ◌≡◌, ℕ, zero, suc, ◌+◌, ◌<◌, ◌≤◌, List, [], ◌∷◌, ◌++◌, length, map, take, get_or, true, false, Option, Some, None, ◌⊎◌, inl, inr, refl, sym, ap, ◌∙◌, subst, arith}
use Rattle.std.specs.Prelude.{nat_eq, if◌then◌else◌, replicate, slice_get, slice_set}
use Rattle.std.specs.HashMap.{HashMap, IsEmpty, get}
use Rattle.std.specs.List.{remove}
use Rattle.std.specs.Map.{lookup}
use Rattle.std.specs.Option.{MatchOption}
use Rattle.std.proofs.lemmas.List.{length-map}
use Rattle.std.proofs.lemmas.Bool.{eq-eqb}
use Rattle.std.proofs.lemmas.Bool.Decides.{eqb_tells}
use Rattle.lf.specs.Subordination.{Member}
use Rattle.lf.specs.Syntax.{LfType, Term}
use Rattle.lf.specs.Typing.{IsSignature, Signature}
use Rattle.lf_unification.specs.Lists.{followed}
use Rattle.lf_unification.specs.OpenTyping.{Declares, MetavariablesIn}
use Rattle.lf_unification.specs.Outside.{IsStuck}
use Rattle.lf_unification.specs.Putting.{Unbound}
use Rattle.lf_unification.specs.Reach.{IsInside, IsReached, in_term, in_type, in_value, is_given}
use Rattle.lf_unification.specs.Scope.{MetavariablesInBindings, MetavariablesInEquationTypes, MetavariablesInEquations}
use Rattle.lf_unification.specs.Solving.{AllLeftOver, LeftOver}
use Rattle.lf_unification.specs.ReachedRuns.{ReachedRun}
use Rattle.lf_unification.specs.Unifiers.{Binding, Equation, Store}
use Rattle.lf_unification.proofs.Putting.{put_some, some_within}
use Rattle.lf_unification.proofs.Scope.{in_weaker}
use Rattle.lf_unification.proofs.Waking.{left_over_stays}
use Rattle.tw_metas.specs.State.{State, with_equation, without_equation}
use Rattle.tw_metas.specs.View.{kept_equation_of}
use Rattle.tw_metas.specs.declared.equation.Equation.{Equation as RustEquation}
use Rattle.tw_terms.specs.declared.canonical.MetaId.{MetaId}
use Rattle.tw_putting.specs.Ready.{AllScoped, IsReady}
use Rattle.tw_putting.specs.Stores.{bindings_of, types_of}
use Rattle.tw_putting.specs.Whole.{whole}
use Rattle.tw_putting.proofs.Readiness.{ready_scoped}
use Rattle.tw_unify.specs.Flexible.{IsReachedFrom}
use Rattle.tw_unify.specs.Laws.{AllLeftOverAreLeft}
use Rattle.tw_unify.specs.Outcomes.{Advances}
use Rattle.tw_unify.specs.Sides.{AllLeft, IsLeft, with_sides}
use Rattle.tw_unify.specs.Watching.{AllKnown, AreEarly, BindsOne, CanGoOver, Diary, IsLeftAt, IsPast, Known, StandsLeft, WasLeft, Watches}
use Rattle.tw_unify.specs.declared.work.Advance.{Advance}
use Rattle.tw_unify.specs.declared.work.Advance.TheVariants.{Bound, Postponed, Refuted, Went}
use Rattle.tw_unify.proofs.Leaving.{all_may_be_left}

-- what is left over is left
pub left_over_is_left : (given : ℕ → Option LfType) (s : State) (e : Equation) → LeftOver given (whole [] s) e → IsLeft s e
left_over_is_left given s e l =
    let o = l.outside in
    record {
      left = l.shown.left;
      right = l.shown.right;
      puts = (l.put_left, l.put_right);
      outside = record {
        differ = o.differ;
        left_root = o.left_root;
        right_root = o.right_root;
        flexible = o.flexible;
        stuck_left = subst (λ D. IsStuck (types_of s) (bindings_of s) D l.shown.left l.shown.right) l.same_local o.stuck_left;
        stuck_right = subst (λ D. IsStuck (types_of s) (bindings_of s) D l.shown.right l.shown.left) l.same_local o.stuck_right;
      };
    }

left_overs : (given : ℕ → Option LfType) (s : State) (es : List Equation) → AllLeftOver given (whole [] s) es → AllLeft s es
left_overs given s [] l = tt
left_overs given s (e ∷ es) (l, ls) = (left_over_is_left given s e l, left_overs given s es ls)

pub left_overs_are_left : AllLeftOverAreLeft
left_overs_are_left given s l = left_overs given s s.equations l

side_of : (V : ℕ → Type 0) (es : List Equation) → MetavariablesInEquations V es → (e : Equation) → Member e es → MetavariablesIn V e.left × MetavariablesIn V e.right
side_of V [] i e j = absurd j
side_of V (d ∷ es) (x, y, i) e (inl q) = (subst (λ (z : Equation). MetavariablesIn V z.left) (sym q) x, subst (λ (z : Equation). MetavariablesIn V z.right) (sym q) y)
side_of V (d ∷ es) (x, y, i) e (inr j) = side_of V es i e j

value_in : (V : ℕ → Type 0) (bs : List Binding) → MetavariablesInBindings V bs → (b : Binding) → Member b bs → MetavariablesIn V b.value
value_in V [] i b j = absurd j
value_in V (c ∷ bs) (x, y, i) b (inl q) = subst (λ (z : Binding). MetavariablesIn V z.value) (sym q) y
value_in V (c ∷ bs) (x, y, i) b (inr j) = value_in V bs i b j

-- and what is left is left over
module _ (s : State) (e : Equation) (l : IsLeft s e) (scoped : AllScoped [] s) (member : Member e s.equations) where
  abbrev Ψ : ℕ → Option LfType
  Ψ = types_of s

  sides : MetavariablesIn (Declares Ψ) e.left × MetavariablesIn (Declares Ψ) e.right
  sides = side_of (Declares Ψ) s.equations scoped.equations e member

  values : (b : Binding) → Member b (bindings_of s) → Declares Ψ b.of → MetavariablesIn (Declares Ψ) b.value
  values b i d = value_in (Declares Ψ) (bindings_of s) scoped.bindings b i

  inside : (M : Term) → MetavariablesIn (Declares Ψ) M → MetavariablesIn (IsInside (Declares Ψ) (bindings_of s)) M
  inside M i = in_weaker (Declares Ψ) (IsInside (Declares Ψ) (bindings_of s)) (λ m d. is_given d) M i

  pub stands_left : StandsLeft s e
  stands_left = record {
    given = Ψ;
    left = record {
      shown = with_sides e l.left l.right;
      same_local = refl;
      put_left = l.puts.0;
      put_right = l.puts.1;
      inside_left = inside l.left (some_within (put_some l.puts.0) (Declares Ψ) values sides.0);
      inside_right = inside l.right (some_within (put_some l.puts.1) (Declares Ψ) values sides.1);
      outside = l.outside;
    };
    scoped = scoped;
    member = member;
  }

old_member : (new bs : List Binding) (b : Binding) → Member b bs → Member b (followed new bs)
old_member [] bs b i = i
old_member (c ∷ new) bs b i = inr (old_member new bs b i)

-- what was reached is reached
reached_still : (Ψ Ψ' : ℕ → Option LfType) (bs new : List Binding) → ((m : ℕ) (A : LfType) → Ψ m ≡ Some A → Ψ' m ≡ Some A) → (N : Term) (k : ℕ) → IsReached Ψ bs N k → IsReached Ψ' (followed new bs) N k
reached_still Ψ Ψ' bs new grows N k (in_term h) = in_term h
reached_still Ψ Ψ' bs new grows N k (in_type {k = j} {A = A} r e h) = in_type (reached_still Ψ Ψ' bs new grows N j r) (grows j A e) h
reached_still Ψ Ψ' bs new grows N k (in_value b r i h) = in_value b (reached_still Ψ Ψ' bs new grows N b.of r) (old_member new bs b i) h

unbound_by : (news : List Binding) (k : ℕ) → ((b : Binding) → Member b news → b.of ≡ k → ⊥) → Unbound news k
unbound_by [] k f = tt
unbound_by (b ∷ news) k f = (λ e. f b (inl refl) (sym e), unbound_by news k (λ c i. f c (inr i)))

module _ (s : State) (d : Diary) (c : ℕ) (e : Equation) (w : WasLeft s d c e) (early : AreEarly s d c e) where
  reached_now : (N : Term) (k : ℕ) → IsReached (types_of w.before) (bindings_of w.before) N k → IsReached (types_of s) (bindings_of s) N k
  reached_now N k r = subst (λ bs. IsReached (types_of s) bs N k) (sym w.bindings) (reached_still (types_of w.before) (types_of s) (bindings_of w.before) w.news w.grows N k r)

  from_now : (k : ℕ) → IsReachedFrom w.before e.left e.right k → IsReachedFrom s e.left e.right k
  from_now k (inl r) = inl (reached_now e.left k r)
  from_now k (inr r) = inr (reached_now e.right k r)

  free : (k : ℕ) → IsReachedFrom w.before e.left e.right k → Unbound w.news k
  free k r = unbound_by w.news k (λ b i is.
      let at = w.since b i in
      let before_c : at.0 < c = early k (from_now k r) at.0 (ap d.bound (sym is) ∙ at.1) in
      absurd (omega (arith, before_c, at.2)))

  -- it is left still
  pub left_still : IsLeft s e
  left_still = left_over_is_left w.left.given s e
      (left_over_stays w.left.given (whole [] w.before) (whole [] s) w.news (length w.before.declared) w.grows w.bindings w.left.scoped e w.left.member free w.left.left)

-- what was found now was left now
pub left_now : (s : State) (d : Diary) (e : Equation) → StandsLeft s e → WasLeft s d d.time e
left_now s d e l = record { not_later = omega arith; before = s; left = l; grows = λ k A h. h; news = []; bindings = refl; since = λ b i. absurd i }

-- The same is known of each equation of a list.
module _ (s t : State) (d f : Diary) (same : (c : ℕ) (e : Equation) → WasLeft s d c e → WasLeft t f c e) where
  known_still : (o : Option ℕ) (e : Equation) → Known s d o e → Known t f o e
  known_still (Some c) e k = same c e k
  known_still None e k = tt

  pub all_still : (os : List (Option ℕ)) (es : List Equation) → AllKnown s d os es → AllKnown t f os es
  all_still [] [] a = tt
  all_still [] (e ∷ es) a = absurd a
  all_still (o ∷ os) [] a = absurd a
  all_still (o ∷ os) (e ∷ es) (k, a) = (known_still o e k, all_still os es a)

  pub all_postponed : (os : List (Option ℕ)) (es : List Equation) (e : Equation) → AllKnown s d os es → AllKnown t f (os ++ None ∷ []) (es ++ e ∷ [])
  all_postponed [] [] e a = (tt, tt)
  all_postponed [] (x ∷ es) e a = absurd a
  all_postponed (o ∷ os) [] e a = absurd a
  all_postponed (o ∷ os) (x ∷ es) e (k, a) = (known_still o x k, all_postponed os es e a)

  pub all_without : (os : List (Option ℕ)) (es : List Equation) (i : ℕ) → AllKnown s d os es → AllKnown t f (remove os i) (remove es i)
  all_without [] [] zero a = tt
  all_without [] [] (suc i) a = tt
  all_without [] (e ∷ es) i a = absurd a
  all_without (o ∷ os) [] i a = absurd a
  all_without (o ∷ os) (e ∷ es) zero (k, a) = all_still os es a
  all_without (o ∷ os) (e ∷ es) (suc i) (k, a) = (known_still o e k, all_without os es i a)

  pub all_set : (os : List (Option ℕ)) (es : List Equation) (i c : ℕ) (e : Equation) → slice_get es i ≡ Some e → WasLeft t f c e → AllKnown s d os es → AllKnown t f (slice_set os i (Some c)) es
  all_set [] [] i c e h w a = tt
  all_set [] (x ∷ es) i c e h w a = absurd a
  all_set (o ∷ os) [] i c e h w a = absurd a
  all_set (o ∷ os) (x ∷ es) zero c e h w (k, a) = (subst (WasLeft t f c) (let q : Some x ≡ Some e = h in cc) w, all_still os es a)
  all_set (o ∷ os) (x ∷ es) (suc i) c e h w (k, a) = (known_still o x k, all_set os es i c e h w a)

pub same_length : (s : State) (d : Diary) (os : List (Option ℕ)) (es : List Equation) → AllKnown s d os es → length os ≡ length es
same_length s d [] [] a = refl
same_length s d [] (e ∷ es) a = absurd a
same_length s d (o ∷ os) [] a = absurd a
same_length s d (o ∷ os) (e ∷ es) (k, a) = ap suc (same_length s d os es a)

pub known_at : (s : State) (d : Diary) (os : List (Option ℕ)) (es : List Equation) (i : ℕ) (o : Option ℕ) (e : Equation) → slice_get os i ≡ Some o → slice_get es i ≡ Some e → AllKnown s d os es → Known s d o e
known_at s d [] [] i o e h g a = absurd cc
known_at s d [] (x ∷ es) i o e h g a = absurd a
known_at s d (p ∷ os) [] i o e h g a = absurd a
known_at s d (p ∷ os) (x ∷ es) zero o e h g (k, a) = subst (λ y. Known s d o y) (let q : Some x ≡ Some e = g in cc) (subst (λ q. Known s d q x) (let q : Some p ≡ Some o = h in cc) k)
known_at s d (p ∷ os) (x ∷ es) (suc i) o e h g (k, a) = known_at s d os es i o e h g a

-- At the start the same is known of all.
pub all_start : (s : State) (d : Diary) (o : Option ℕ) (es : List Equation) → ((e : Equation) → Member e es → Known s d o e) → AllKnown s d (replicate (length es) o) es
all_start s d o [] f = tt
all_start s d o (e ∷ es) f = (f e (inl refl), all_start s d o es (λ x i. f x (inr i)))

pub each_left : (s : State) (es : List Equation) → AllLeft s es → (e : Equation) → Member e es → IsLeft s e
each_left s [] a e i = absurd i
each_left s (x ∷ es) (l, a) e (inl h) = subst (IsLeft s) (sym h) l
each_left s (x ∷ es) (l, a) e (inr i) = each_left s es a e i

-- A metavariable is bound at the time of the diary.
module _ (s t : State) (d f : Diary) (m : MetaId) (b : BindsOne s m t) (bound : (k : ℕ) → f.bound k ≡ (if nat_eq m.0 k then Some d.time else d.bound k)) (time : f.time ≡ d.time + 1) where
  at_this : (k : ℕ) → nat_eq m.0 k ≡ true → f.bound k ≡ Some d.time
  at_this k e = bound k ∙ ap (λ x. if x then Some d.time else d.bound k) e

  at_others : (k : ℕ) → nat_eq m.0 k ≡ false → f.bound k ≡ d.bound k
  at_others k e = bound k ∙ ap (λ x. if x then Some d.time else d.bound k) e

  pub bound_left : (c : ℕ) (e : Equation) → WasLeft s d c e → WasLeft t f c e
  bound_left c e w = record {
    not_later = omega (arith, w.not_later, time);
    before = w.before;
    left = w.left;
    grows = λ k A h. b.grows k A (w.grows k A h);
    news = record { of = m.0; value = b.value } ∷ w.news;
    bindings = b.bindings ∙ ap (λ bs. record { of = m.0; value = b.value } ∷ bs) w.bindings;
    since = since;
  }
    where
      told : (x : Binding) → ((nat_eq m.0 x.of ≡ true) × (m.0 ≡ x.of)) ⊎ ((nat_eq m.0 x.of ≡ false) × (m.0 ≡ x.of → ⊥)) → (i : ℕ) × (d.bound x.of ≡ Some i) × (c ≤ i) → (i : ℕ) × (f.bound x.of ≡ Some i) × (c ≤ i)
      told x (inl (q, h)) (i, at, le) = (d.time, at_this x.of q, w.not_later)
      told x (inr (q, h)) (i, at, le) = (i, at_others x.of q ∙ at, le)

      since : (x : Binding) → Member x (record { of = m.0; value = b.value } ∷ w.news) → (i : ℕ) × (f.bound x.of ≡ Some i) × (c ≤ i)
      since x (inl h) = (d.time, at_this x.of (ap (nat_eq m.0) (ap (λ (y : Binding). y.of) h) ∙ eq-eqb m.0 m.0 refl), w.not_later)
      since x (inr h) = told x (eqb_tells m.0 x.of) (w.since x h)

  pub bound_past : IsPast d → IsPast f
  bound_past p k i h = go (eqb_tells m.0 k)
    where
      go : ((nat_eq m.0 k ≡ true) × (m.0 ≡ k)) ⊎ ((nat_eq m.0 k ≡ false) × (m.0 ≡ k → ⊥)) → i < f.time
      go (inl (q, e)) = let is : Some d.time ≡ Some i = sym (at_this k q) ∙ h in let n : d.time ≡ i = cc in omega (arith, n, time)
      go (inr (q, e)) = omega (arith, p k i (sym (at_others k q) ∙ h), time)

  pub bound_watches : f.found ≡ d.found → Watches s d → Watches t f
  bound_watches g w = record {
    all = subst (λ os. AllKnown t f os t.equations) (sym g) (subst (AllKnown t f d.found) (sym b.equations) (all_still s t d f bound_left d.found s.equations w.all));
    past = bound_past w.past;
  }

-- a ready store can be gone over
pub can_go_over : (Σ : Signature) → IsSignature Σ → (s : State) → IsReady Σ [] s → CanGoOver s
can_go_over Σ ok s r = record { consistent = r.consistent; may_be_left = all_may_be_left Σ ok s r; scoped = ready_scoped Σ [] s r }

-- The same store with other equations, and what is found of them.
module _ (s : State) (es : List Equation) (d : Diary) (os : List (Option ℕ)) where
  abbrev pub with_equations : State
  with_equations = record { declared = s.declared; values = s.values; bound = s.bound; equations = es }

  abbrev pub with_found : Diary
  with_found = record { found = os; bound = d.bound; time = d.time }

  pub kept_left : (c : ℕ) (x : Equation) → WasLeft s d c x → WasLeft with_equations with_found c x
  kept_left c x w = record { not_later = w.not_later; before = w.before; left = w.left; grows = w.grows; news = w.news; bindings = w.bindings; since = w.since }

-- an equation is postponed
pub postponed_watches : (s t : State) (d : Diary) (os : List (Option ℕ)) (e : Equation) → t ≡ with_equation s e → os ≡ d.found ++ None ∷ [] → Watches s d → Watches t (record { found = os; bound = d.bound; time = d.time })
postponed_watches s t d os e is g w =
    let es = s.equations ++ e ∷ [] in
    let ps = d.found ++ None ∷ [] in
    subst (λ (u : State). Watches u (record { found = os; bound = d.bound; time = d.time })) (sym is)
    (subst (λ qs. Watches (with_equation s e) (record { found = qs; bound = d.bound; time = d.time })) (sym g)
    (record { all = all_postponed s (with_equation s e) d (record { found = ps; bound = d.bound; time = d.time }) (kept_left s es d ps) d.found s.equations e w.all; past = w.past }))

-- one is taken out
pub without_watches : (s : State) (d : Diary) (os : List (Option ℕ)) (i : ℕ) → os ≡ remove d.found i → Watches s d → Watches (without_equation s i) (record { found = os; bound = d.bound; time = d.time })
without_watches s d os i g w =
    let ps = remove d.found i in
    subst (λ qs. Watches (without_equation s i) (record { found = qs; bound = d.bound; time = d.time })) (sym g)
    (record { all = all_without s (without_equation s i) d (record { found = ps; bound = d.bound; time = d.time }) (kept_left s (remove s.equations i) d ps) d.found s.equations i w.all; past = w.past })

-- one is found to be left
pub renewed_watches : (s : State) (d : Diary) (os : List (Option ℕ)) (i : ℕ) → os ≡ slice_set d.found i (Some d.time) → Watches s d → IsLeftAt s i → Watches s (record { found = os; bound = d.bound; time = d.time })
renewed_watches s d os i g w (e, at, l) =
    let ps = slice_set d.found i (Some d.time) in
    let f : Diary = record { found = ps; bound = d.bound; time = d.time } in
    subst (λ qs. Watches s (record { found = qs; bound = d.bound; time = d.time })) (sym g)
    (record { all = all_set s s d f (kept_left s s.equations d ps) d.found s.equations i d.time e at (left_now s f e l) w.all; past = w.past })

-- at the start
pub start_watches : (s : State) (d : Diary) (o : Option ℕ) → d.found ≡ replicate (length s.equations) o → ((k : ℕ) → d.bound k ≡ None) → ((e : Equation) → Member e s.equations → Known s d o e) → Watches s d
start_watches s d o g n f = record {
  all = subst (λ os. AllKnown s d os s.equations) (sym g) (all_start s d o s.equations f);
  past = λ k i h. (let q : None ≡ Some i = sym (n k) ∙ h in absurd cc);
}

-- of equations that stand and are left
pub known_left : (s : State) (d : Diary) → d.time ≡ 0 → AllScoped [] s → AllLeft s s.equations → (e : Equation) → Member e s.equations → Known s d (Some 0) e
known_left s d t r l e i = subst (λ c. WasLeft s d c e) t (left_now s d e (stands_left s e (each_left s s.equations l e i) r i))

equations_behind : (V : ℕ → Type 0) (given es : List Equation) → MetavariablesInEquations V (followed given es) → MetavariablesInEquations V es
equations_behind V [] es h = h
equations_behind V (e ∷ given) es (l, r, h) = equations_behind V given es h

equation_types_behind : (V : ℕ → Type 0) (given es : List Equation) → MetavariablesInEquationTypes V (followed given es) → MetavariablesInEquationTypes V es
equation_types_behind V [] es h = h
equation_types_behind V (e ∷ given) es (l, r, h) = equation_types_behind V given es h

-- the postponed equations alone
pub scoped_alone : (s : State) (given : List Equation) → AllScoped given s → AllScoped [] s
scoped_alone s given r = record {
  fresh = r.fresh;
  types = r.types;
  bindings = r.bindings;
  equations = equations_behind (Declares (types_of s)) given s.equations r.equations;
  equation_types = equation_types_behind (Declares (types_of s)) given s.equations r.equation_types;
}

-- a place of a list of equations
pub length_told : (items : List (Box RustEquation Global)) (es : List Equation) → map kept_equation_of items ≡ es → length items ≡ length es
length_told items es is = sym (length-map items kept_equation_of) ∙ ap length is

pub same_count : (o : Option ℕ) (items : List (Box RustEquation Global)) (es : List Equation) (os : List (Option ℕ)) → map kept_equation_of items ≡ es → os ≡ replicate (length items) o → os ≡ replicate (length es) o
same_count o items es os is h = h ∙ ap (λ n. replicate n o) (length_told items es is)

pub nothing_bound : {S : Type 0} (m : HashMap ℕ ℕ S) → IsEmpty m → (k : ℕ) → get nat_eq m k ≡ None
nothing_bound m e k = ap (lookup (nat_eq k)) e

pub watched_length : (s : State) (d : Diary) → Watches s d → length d.found ≡ length s.equations
watched_length s d w = same_length s d d.found s.equations w.all

-- what is known at a place
pub known_there : (s : State) (d : Diary) (es : List Equation) (i : ℕ) (o : Option ℕ) (e : Equation) → s.equations ≡ es → o ≡ get_or d.found i o → slice_get es i ≡ Some e → Watches s d → Known s d o e
known_there s d es i o e is h g w = found_there d.found s.equations i h (subst (λ xs. slice_get xs i ≡ Some e) (sym is) g) w.all
  where
    found_there : (os : List (Option ℕ)) (xs : List Equation) (j : ℕ) → o ≡ get_or os j o → slice_get xs j ≡ Some e → AllKnown s d os xs → Known s d o e
    found_there [] [] j h g a = absurd cc
    found_there [] (x ∷ xs) j h g a = absurd a
    found_there (p ∷ os) [] j h g a = absurd a
    found_there (p ∷ os) (x ∷ xs) zero h g (k, a) = subst (λ y. Known s d o y) (let q : Some x ≡ Some e = g in cc) (subst (λ q. Known s d q x) (sym h) k)
    found_there (p ∷ os) (x ∷ xs) (suc j) h g (k, a) = found_there os xs j h g a

-- what starts at the first place is said of all
pub from_nought : {T : Type 0} (r : Option T) (P : Type 0) (Q : T → Type 0) → MatchOption r (zero ≡ zero → P) Q → MatchOption r P Q
from_nought None P Q f = f refl
from_nought (Some x) P Q q = q

-- a place among them
pub here_in : (items : List (Box RustEquation Global)) (es : List Equation) (i : ℕ) → map kept_equation_of items ≡ es → i < length items → i < length es
here_in items es i is h = subst (λ n. i < n) (length_told items es is) h

pub member_at : (es : List Equation) (i : ℕ) (e : Equation) → slice_get es i ≡ Some e → Member e es
member_at [] i e h = absurd cc
member_at (x ∷ es) zero e h = inl (let q : Some x ≡ Some e = h in cc)
member_at (x ∷ es) (suc i) e h = inr (member_at es i e h)

take_past : (items : List (Box RustEquation Global)) (n : ℕ) → length items ≤ n → take n items ≡ items
take_past [] zero h = refl
take_past [] (suc n) h = refl
take_past (x ∷ items) zero h = absurd (omega (arith, h))
take_past (x ∷ items) (suc n) h = ap (λ xs. x ∷ xs) (take_past items n (omega (arith, h)))

pub all_taken : (s : State) (items : List (Box RustEquation Global)) (es : List Equation) (n : ℕ) → map kept_equation_of items ≡ es → length items ≤ n → AllLeft s (map kept_equation_of (take n items)) → AllLeft s es
all_taken s items es n is h a = subst (AllLeft s) is (subst (λ xs. AllLeft s (map kept_equation_of xs)) (take_past items n h) a)

-- what comes of an equation that is not refuted
pub not_refuted : (a : Advance) (Σ : Signature) (s t : Store) → (a ≡ Refuted → ⊥) → Advances a Σ s t → ReachedRun Σ s t
not_refuted Went Σ s t n r = r
not_refuted (Bound m) Σ s t n r = r
not_refuted Postponed Σ s t n r = r
not_refuted Refuted Σ s t n r = absurd (n refl)
