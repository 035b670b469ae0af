-- The walk to the metavariables that are reached.
use Rattle.std.proofs.Common.{◌≡◌, ℕ, ◌+◌, ◌*◌, ◌-◌, ◌^◌, ◌<◌, ◌≤◌, List, [], ◌∷◌, ◌++◌, length, length-append, Bool, true, false, Option, Some, ◌⊎◌, inl, inr, refl, sym, ap, ap₂, ◌∙◌, subst, arith}
use Rattle.std.specs.Prelude.{nat_eq, if◌then◌else◌}
use Rattle.std.specs.HashSet.{HashSet, IsEmpty, contains}
use Rattle.std.specs.List.{list_any}
use Rattle.std.proofs.lemmas.Bool.{eq-eqb}
use Rattle.std.proofs.lemmas.Bool.Decides.{eqb_tells}
use Rattle.std.specs.Bool.{MatchBool}
use Rattle.lf.specs.Subordination.{Member}
use Rattle.lf.specs.Syntax.{Term, Spine, LfType, app, atom, constant, lambda, metavariable, nil, pi, root, variable}
use Rattle.lf_unification.specs.OpenTyping.{MetavariablesIn, MetavariablesInSpine, MetavariablesInType}
use Rattle.lf_unification.specs.Outside.{Holds, ValuesIn}
use Rattle.lf_unification.specs.Reach.{IsReached, Mentions, SpineMentions, TypeMentions, in_term, in_type, in_value}
use Rattle.lf_unification.specs.Unifiers.{Binding}
use Rattle.lf_unification.proofs.Scope.{in_weaker, in_weaker_type}
use Rattle.tw_unify.specs.Reaching.{IsAvoided, IsClosed, IsMarked, Marking, Spreads, StandsInType, StandsInValue, TypeIsMet, ValueIsMet}

pub member_front : {A : Type 0} (x : A) (xs ys : List A) → Member x xs → Member x (xs ++ ys)
member_front x [] ys h = absurd h
member_front x (y ∷ xs) ys (inl e) = inl e
member_front x (y ∷ xs) ys (inr h) = inr (member_front x xs ys h)

pub member_last : {A : Type 0} (x : A) (xs : List A) → Member x (xs ++ x ∷ [])
member_last x [] = inl refl
member_last x (y ∷ xs) = inr (member_last x xs)

pub member_of_both : {A : Type 0} (x : A) (xs ys : List A) → Member x (xs ++ ys) → Member x xs ⊎ Member x ys
member_of_both x [] ys h = inr h
member_of_both x (y ∷ xs) ys (inl e) = inl (inl e)
member_of_both x (y ∷ xs) ys (inr h) = elim (member_of_both x xs ys h) [ inl g ↦ inl (inr g) | inr g ↦ inr g ]

-- what a set of marks has after one is set
abbrev pub IsSetAt : (ℕ → Bool) → (ℕ → Bool) → ℕ → Type 0
IsSetAt old new m = (k : ℕ) → new k ≡ (if nat_eq m k then true else old k)

module _ (old new : Marking) (m : ℕ) (set : IsSetAt old.marks new.marks m) where
  was_or_is : (k : ℕ) → IsMarked new k → IsMarked old k ⊎ (k ≡ m)
  was_or_is k h = go (eqb_tells m k)
    where
      go : ((nat_eq m k ≡ true) × (m ≡ k)) ⊎ ((nat_eq m k ≡ false) × (m ≡ k → ⊥)) → IsMarked old k ⊎ (k ≡ m)
      go (inl (e, q)) = inr (sym q)
      go (inr (e, n)) = inl (subst Holds (set k ∙ ap (λ b. if b then true else old.marks k) e) h)

  stays_marked : (k : ℕ) → IsMarked old k → IsMarked new k
  stays_marked k h = subst Holds (sym (set k)) (go (nat_eq m k))
    where
      go : (b : Bool) → Holds (if b then true else old.marks k)
      go true = tt
      go false = h

  marked_now : IsMarked new m
  marked_now = subst Holds (sym (set m ∙ ap (λ b. if b then true else old.marks m) (eq-eqb m m refl))) tt

  -- m was met before
  pub met_before : IsMarked old m → new.due ≡ old.due → new.count ≡ old.count → Spreads (λ k. k ≡ m) old new × IsMarked new m
  met_before h d n = (
    record {
      stay = stays_marked;
      due_stay = λ k i. subst (Member k) (sym d) i;
      marked_are_due = λ k i. elim (was_or_is k i) [ inl g ↦ inl g | inr e ↦ inl (subst (IsMarked old) (sym e) h) ];
      due_are_mentioned = λ k i. inl (subst (Member k) d i);
      more = subst (λ c. old.count ≤ c) (sym n) (omega arith);
      all_due = ap₂ (λ a b. a + b) (sym n) (ap length d);
    },
    marked_now,
  )

  -- m is met now
  pub met_now : new.due ≡ old.due ++ m ∷ [] → new.count ≡ old.count + 1 → Spreads (λ k. k ≡ m) old new × IsMarked new m
  met_now d n = (
    record {
      stay = stays_marked;
      due_stay = λ k i. subst (Member k) (sym d) (member_front k old.due (m ∷ []) i);
      marked_are_due = λ k i. elim (was_or_is k i) [ inl g ↦ inl g | inr e ↦ inr (subst (λ j. Member j new.due) (sym e) (subst (Member m) (sym d) (member_last m old.due))) ];
      due_are_mentioned = λ k i. elim (member_of_both k old.due (m ∷ []) (subst (Member k) d i)) [ inl g ↦ inl g | inr (inl e) ↦ inr e | inr (inr z) ↦ absurd z ];
      more = omega (arith, n);
      all_due = (let l : length new.due ≡ length old.due + 1 = ap length d ∙ length-append old.due (m ∷ []) in omega (arith, n, l));
    },
    marked_now,
  )

module _ (P : ℕ → Type 0) (w : Marking) where
  pub spread_nothing : Spreads P w w
  spread_nothing = record { stay = λ k h. h; due_stay = λ k h. h; marked_are_due = λ k h. inl h; due_are_mentioned = λ k h. inl h; more = omega arith; all_due = refl }

module _ (P Q R : ℕ → Type 0) (u v w : Marking) where
  pub spread_then : ((k : ℕ) → P k → R k) → ((k : ℕ) → Q k → R k) → Spreads P u v → Spreads Q v w → Spreads R u w
  spread_then f g p q = record {
    stay = λ k h. q.stay k (p.stay k h);
    due_stay = λ k h. q.due_stay k (p.due_stay k h);
    marked_are_due = λ k h. elim (q.marked_are_due k h) [ inl a ↦ elim (p.marked_are_due k a) [ inl b ↦ inl b | inr b ↦ inr (q.due_stay k b) ] | inr a ↦ inr a ];
    due_are_mentioned = λ k h. elim (q.due_are_mentioned k h) [ inl a ↦ elim (p.due_are_mentioned k a) [ inl b ↦ inl b | inr b ↦ inr (f k b) ] | inr a ↦ inr (g k a) ];
    more = omega (arith, p.more, q.more);
    all_due = omega (arith, p.all_due, q.all_due);
  }

module _ (P R : ℕ → Type 0) (u v : Marking) where
  pub spread_wider : ((k : ℕ) → P k → R k) → Spreads P u v → Spreads R u v
  spread_wider f p = spread_then P P R u v v f f p (spread_nothing P v)

-- The walk through the spine S has come so far that T is left.
pub record SpineWalk (old now : Marking) (S T : Spine) : Type 0 where
  pub spread : Spreads (λ k. SpineMentions k S) old now
  pub mentions : (k : ℕ) → SpineMentions k T → SpineMentions k S
  pub met : (V : Marking) → ((k : ℕ) → IsMarked now k → IsMarked V k) → MetavariablesInSpine (IsMarked V) T → MetavariablesInSpine (IsMarked V) S

pub walk_start : (w : Marking) (S : Spine) → SpineWalk w w S S
walk_start w S = record { spread = spread_nothing (λ k. SpineMentions k S) w; mentions = λ k h. h; met = λ V f h. h }

pub walk_step : (old v w : Marking) (S T : Spine) (M : Term) → SpineWalk old v S (app M T) → Spreads (λ k. Mentions k M) v w → MetavariablesIn (IsMarked w) M → SpineWalk old w S T
walk_step old v w S T M s p m = record {
  spread = spread_then (λ k. SpineMentions k S) (λ k. Mentions k M) (λ k. SpineMentions k S) old v w (λ k h. h) (λ k h. s.mentions k (inl h)) s.spread p;
  mentions = λ k h. s.mentions k (inr h);
  met = λ V f h. s.met V (λ k i. f k (p.stay k i)) (in_weaker (IsMarked w) (IsMarked V) f M m, h);
}

pub walk_met : (old now : Marking) (S : Spine) → SpineWalk old now S nil → MetavariablesInSpine (IsMarked now) S
walk_met old now S s = s.met now (λ k h. h) tt

-- what stands in a term of the set is in the set
mutual
  mentioned_in : (V : ℕ → Type 0) (k : ℕ) (M : Term) → MetavariablesIn V M → Mentions k M → V k
  mentioned_in V k (lambda M) m h = mentioned_in V k M m h
  mentioned_in V k (root (constant c) S) m h = mentioned_in_spine V k S m h
  mentioned_in V k (root (variable i) S) m h = mentioned_in_spine V k S m h
  mentioned_in V k (root (metavariable n) S) (v, m) (inl e) = subst V (sym e) v
  mentioned_in V k (root (metavariable n) S) (v, m) (inr h) = mentioned_in_spine V k S m h

  mentioned_in_spine : (V : ℕ → Type 0) (k : ℕ) (S : Spine) → MetavariablesInSpine V S → SpineMentions k S → V k
  mentioned_in_spine V k nil m h = absurd h
  mentioned_in_spine V k (app M S) (m, n) (inl h) = mentioned_in V k M m h
  mentioned_in_spine V k (app M S) (m, n) (inr h) = mentioned_in_spine V k S n h

mentioned_in_type : (V : ℕ → Type 0) (k : ℕ) (A : LfType) → MetavariablesInType V A → TypeMentions k A → V k
mentioned_in_type V k (pi A B) (a, b) (inl h) = mentioned_in_type V k A a h
mentioned_in_type V k (pi A B) (a, b) (inr h) = mentioned_in_type V k B b h
mentioned_in_type V k (atom a S) m h = mentioned_in_spine V k S m h

module _ (Ψ : ℕ → Option LfType) (bs : List Binding) where
  -- The search from N, beside what is marked in o: what is marked besides is reached, and its type and value are met or due.
  pub record IsSearch (o : Marking) (N : Term) (w : Marking) : Type 0 where
    pub met : MetavariablesIn (IsMarked w) N
    pub marked_reached : (k : ℕ) → IsMarked w k → IsMarked o k ⊎ IsReached Ψ bs N k
    pub due_reached : (k : ℕ) → Member k w.due → IsReached Ψ bs N k
    pub closed : (k : ℕ) → IsMarked w k → Member k w.due ⊎ (TypeIsMet Ψ k w × ValueIsMet bs k w)

  still_met : (w v : Marking) (k : ℕ) → ((j : ℕ) → IsMarked w j → IsMarked v j) → TypeIsMet Ψ k w × ValueIsMet bs k w → TypeIsMet Ψ k v × ValueIsMet bs k v
  still_met w v k f (t, u) = (λ A d. in_weaker_type (IsMarked w) (IsMarked v) f A (t A d), λ b h e. in_weaker (IsMarked w) (IsMarked v) f b.value (u b h e))

  pub search_start : (o : Marking) (N : Term) (v : Marking) → IsClosed Ψ bs o → Spreads (λ k. Mentions k N) o v → MetavariablesIn (IsMarked v) N → IsSearch o N v
  search_start o N v c p m =
      let reached : (k : ℕ) → Member k v.due → IsReached Ψ bs N k = λ k h. elim (p.due_are_mentioned k h) [ inl a ↦ absurd (subst (Member k) c.nothing_due a) | inr a ↦ in_term a ] in
      record {
        met = m;
        marked_reached = λ k h. elim (p.marked_are_due k h) [ inl a ↦ inl a | inr a ↦ inr (reached k a) ];
        due_reached = reached;
        closed = λ k h. elim (p.marked_are_due k h) [ inl a ↦ inr (still_met o v k p.stay (c.types k a, c.values k a)) | inr a ↦ inl a ];
      }

  -- metavariable k, which was due last, is looked up
  pub search_step : (o : Marking) (N : Term) (w w' u v : Marking) (k : ℕ) → w.marks ≡ w'.marks → w.due ≡ w'.due ++ k ∷ [] → IsSearch o N w → Spreads (StandsInType Ψ k) w' u → TypeIsMet Ψ k u → Spreads (StandsInValue bs k) u v → ValueIsMet bs k v → IsSearch o N v
  search_step o N w w' u v k same is s p t q x =
      let marked : (j : ℕ) → IsMarked w j → IsMarked w' j = λ j h. subst (λ ms. IsMarked (record { marks = ms; count = w.count; due = w.due }) j) same h in
      let back : (j : ℕ) → IsMarked w' j → IsMarked w j = λ j h. subst (λ ms. IsMarked (record { marks = ms; count = w.count; due = w.due }) j) (sym same) h in
      let k_reached : IsReached Ψ bs N k = s.due_reached k (subst (Member k) (sym is) (member_last k w'.due)) in
      let stays : (j : ℕ) → IsMarked w j → IsMarked v j = λ j h. q.stay j (p.stay j (marked j h)) in
      let due_w : (j : ℕ) → Member j w'.due → Member j w.due = λ j h. subst (Member j) (sym is) (member_front j w'.due (k ∷ []) h) in
      let reached_u : (j : ℕ) → Member j u.due → IsReached Ψ bs N j = λ j h. elim (p.due_are_mentioned j h) [ inl a ↦ s.due_reached j (due_w j a) | inr (A, d, m) ↦ in_type k_reached d m ] in
      let value_reached : (j : ℕ) → StandsInValue bs k j → IsReached Ψ bs N j = λ j (b, h, e, m). in_value b (subst (IsReached Ψ bs N) (sym e) k_reached) h m in
      let reached_v : (j : ℕ) → Member j v.due → IsReached Ψ bs N j = λ j h. elim (q.due_are_mentioned j h) [ inl a ↦ reached_u j a | inr m ↦ value_reached j m ] in
      let here : TypeIsMet Ψ k v × ValueIsMet bs k v = (λ A d. in_weaker_type (IsMarked u) (IsMarked v) (λ j h. q.stay j h) A (t A d), x) in
      let from_w : (j : ℕ) → IsMarked w j → Member j v.due ⊎ (TypeIsMet Ψ j v × ValueIsMet bs j v) = λ j h. elim (s.closed j h) [
        | inl a ↦ elim (member_of_both j w'.due (k ∷ []) (subst (Member j) is a)) [
          | inl b ↦ inl (q.due_stay j (p.due_stay j b))
          | inr (inl e) ↦ inr (subst (λ i. TypeIsMet Ψ i v × ValueIsMet bs i v) (sym e) here)
          | inr (inr z) ↦ absurd z
        ]
        | inr a ↦ inr (still_met w v j stays a)
      ] in
      record {
        met = in_weaker (IsMarked w) (IsMarked v) stays N s.met;
        marked_reached = λ j h. elim (q.marked_are_due j h) [ inl a ↦ elim (p.marked_are_due j a) [ inl b ↦ s.marked_reached j (back j b) | inr b ↦ inr (reached_u j b) ] | inr a ↦ inr (reached_v j a) ];
        due_reached = reached_v;
        closed = λ j h. elim (q.marked_are_due j h) [ inl a ↦ elim (p.marked_are_due j a) [ inl b ↦ from_w j (back j b) | inr b ↦ inl (q.due_stay j b) ] | inr a ↦ inl a ];
      }

  pub values_in : (V : ℕ → Type 0) (cs : List Binding) → ((b : Binding) → Member b cs → V b.of → MetavariablesIn V b.value) → ValuesIn V cs
  values_in V [] f = tt
  values_in V (b ∷ cs) f = (λ v. f b (inl refl) v, values_in V cs (λ c h v. f c (inr h) v))

  -- at the end nothing is due
  pub search_closed : (o : Marking) (N : Term) (w : Marking) → IsSearch o N w → w.due ≡ [] → IsClosed Ψ bs w
  search_closed o N w s e = record { nothing_due = e; types = λ k h. (at k h).0; values = λ k h. (at k h).1 }
    where
      at : (k : ℕ) → IsMarked w k → TypeIsMet Ψ k w × ValueIsMet bs k w
      at k h = elim (s.closed k h) [ inl a ↦ absurd (subst (Member k) e a) | inr a ↦ a ]

  pub nothing_closed : (w : Marking) → ((k : ℕ) → IsMarked w k → ⊥) → w.due ≡ [] → IsClosed Ψ bs w
  nothing_closed w none e = record { nothing_due = e; types = λ k h. absurd (none k h); values = λ k h. absurd (none k h) }

  -- what isn't marked isn't reached
  closed_avoids : (N : Term) (w : Marking) (m : ℕ) → IsClosed Ψ bs w → MetavariablesIn (IsMarked w) N → (IsMarked w m → ⊥) → IsAvoided Ψ bs N m
  closed_avoids N w m c i n = record {
    reached = w.marks;
    avoids = (
      λ k A h d. c.types k h A d,
      values_in (IsMarked w) bs (λ b g h. c.values b.of h b g refl),
      n,
    );
    within = i;
  }

  -- what wasn't marked at first is reached where it is marked now
  pub search_answer : (o : Marking) (N : Term) (w : Marking) (m : ℕ) (b : Bool) → (IsMarked o m → ⊥) → IsClosed Ψ bs w → MetavariablesIn (IsMarked w) N → ((k : ℕ) → IsMarked w k → IsMarked o k ⊎ IsReached Ψ bs N k) →
      MatchBool b (IsMarked w m) (IsMarked w m → ⊥) → MatchBool b (IsReached Ψ bs N m) (IsAvoided Ψ bs N m)
  search_answer o N w m true n c i r h = elim (r m h) [ inl a ↦ absurd (n a) | inr a ↦ a ]
  search_answer o N w m false n c i r h = closed_avoids N w m c i h

-- The search from two terms: what is marked is reached from one of them, its type and value are met or due, and what is not due any more passes the test.
module _ (Ψ : ℕ → Option LfType) (bs : List Binding) (P : ℕ → Type 0) where
  abbrev pub IsReachedFromOne : Term → Term → ℕ → Type 0
  IsReachedFromOne M N k = IsReached Ψ bs M k ⊎ IsReached Ψ bs N k

  pub record IsSearchOfTwo (M N : Term) (w : Marking) : Type 0 where
    pub met_left : MetavariablesIn (IsMarked w) M
    pub met_right : MetavariablesIn (IsMarked w) N
    pub due_reached : (k : ℕ) → Member k w.due → IsReachedFromOne M N k
    pub closed : (k : ℕ) → IsMarked w k → Member k w.due ⊎ (P k × TypeIsMet Ψ k w × ValueIsMet bs k w)

  pub two_start : (M N : Term) (w u v : Marking) → ((k : ℕ) → IsMarked w k → ⊥) → ((k : ℕ) → Member k w.due → ⊥) → Spreads (λ k. Mentions k M) w u → MetavariablesIn (IsMarked u) M → Spreads (λ k. Mentions k N) u v → MetavariablesIn (IsMarked v) N → IsSearchOfTwo M N v
  two_start M N w u v none no_due p m q n = record {
    met_left = in_weaker (IsMarked u) (IsMarked v) q.stay M m;
    met_right = n;
    due_reached = λ k h. elim (q.due_are_mentioned k h) [ inl a ↦ elim (p.due_are_mentioned k a) [ inl b ↦ absurd (no_due k b) | inr b ↦ inl (in_term b) ] | inr a ↦ inr (in_term a) ];
    closed = λ k h. elim (q.marked_are_due k h) [ inl a ↦ elim (p.marked_are_due k a) [ inl b ↦ absurd (none k b) | inr b ↦ inl (q.due_stay k b) ] | inr a ↦ inl a ];
  }

  from_type : (M N : Term) (k j : ℕ) (A : LfType) → Ψ k ≡ Some A → TypeMentions j A → IsReachedFromOne M N k → IsReachedFromOne M N j
  from_type M N k j A d m (inl r) = inl (in_type r d m)
  from_type M N k j A d m (inr r) = inr (in_type r d m)

  from_value : (M N : Term) (k j : ℕ) → StandsInValue bs k j → IsReachedFromOne M N k → IsReachedFromOne M N j
  from_value M N k j (b, h, e, m) (inl r) = inl (in_value b (subst (IsReached Ψ bs M) (sym e) r) h m)
  from_value M N k j (b, h, e, m) (inr r) = inr (in_value b (subst (IsReached Ψ bs N) (sym e) r) h m)

  -- metavariable k, which was due last and passes the test, is looked up
  pub two_step : (M N : Term) (w w' u v : Marking) (k : ℕ) → w.marks ≡ w'.marks → w.due ≡ w'.due ++ k ∷ [] → IsSearchOfTwo M N w → P k → Spreads (StandsInType Ψ k) w' u → TypeIsMet Ψ k u → Spreads (StandsInValue bs k) u v → ValueIsMet bs k v → IsSearchOfTwo M N v
  two_step M N w w' u v k same is s good p t q x =
      let marked : (j : ℕ) → IsMarked w j → IsMarked w' j = λ j h. subst (λ ms. IsMarked (record { marks = ms; count = w.count; due = w.due }) j) same h in
      let back : (j : ℕ) → IsMarked w' j → IsMarked w j = λ j h. subst (λ ms. IsMarked (record { marks = ms; count = w.count; due = w.due }) j) (sym same) h in
      let k_reached : IsReachedFromOne M N k = s.due_reached k (subst (Member k) (sym is) (member_last k w'.due)) in
      let stays : (j : ℕ) → IsMarked w j → IsMarked v j = λ j h. q.stay j (p.stay j (marked j h)) in
      let due_w : (j : ℕ) → Member j w'.due → Member j w.due = λ j h. subst (Member j) (sym is) (member_front j w'.due (k ∷ []) h) in
      let reached_u : (j : ℕ) → Member j u.due → IsReachedFromOne M N j = λ j h. elim (p.due_are_mentioned j h) [ inl a ↦ s.due_reached j (due_w j a) | inr (A, d, m) ↦ from_type M N k j A d m k_reached ] in
      let reached_v : (j : ℕ) → Member j v.due → IsReachedFromOne M N j = λ j h. elim (q.due_are_mentioned j h) [ inl a ↦ reached_u j a | inr m ↦ from_value M N k j m k_reached ] in
      let here : TypeIsMet Ψ k v × ValueIsMet bs k v = (λ A d. in_weaker_type (IsMarked u) (IsMarked v) (λ j h. q.stay j h) A (t A d), x) in
      let from_w : (j : ℕ) → IsMarked w j → Member j v.due ⊎ (P j × TypeIsMet Ψ j v × ValueIsMet bs j v) = λ j h. elim (s.closed j h) [
        | inl a ↦ elim (member_of_both j w'.due (k ∷ []) (subst (Member j) is a)) [
          | inl b ↦ inl (q.due_stay j (p.due_stay j b))
          | inr (inl e) ↦ inr (subst (λ i. P i × TypeIsMet Ψ i v × ValueIsMet bs i v) (sym e) (good, here.0, here.1))
          | inr (inr z) ↦ absurd z
        ]
        | inr a ↦ inr (a.0, (λ A d. in_weaker_type (IsMarked w) (IsMarked v) stays A (a.1 A d)), (λ b g e. in_weaker (IsMarked w) (IsMarked v) stays b.value (a.2 b g e)))
      ] in
      record {
        met_left = in_weaker (IsMarked w) (IsMarked v) stays M s.met_left;
        met_right = in_weaker (IsMarked w) (IsMarked v) stays N s.met_right;
        due_reached = reached_v;
        closed = λ j h. elim (q.marked_are_due j h) [ inl a ↦ elim (p.marked_are_due j a) [ inl b ↦ from_w j (back j b) | inr b ↦ inl (q.due_stay j b) ] | inr a ↦ inl a ];
      }

  none_due_of_two : (M N : Term) (w : Marking) → IsSearchOfTwo M N w → w.due ≡ [] → (k : ℕ) → IsMarked w k → P k × TypeIsMet Ψ k w × ValueIsMet bs k w
  none_due_of_two M N w s e k h = elim (s.closed k h) [ inl a ↦ absurd (subst (Member k) e a) | inr a ↦ a ]

  reached_marked : (M N : Term) (w : Marking) → IsSearchOfTwo M N w → w.due ≡ [] → (L : Term) → MetavariablesIn (IsMarked w) L → (k : ℕ) → IsReached Ψ bs L k → IsMarked w k
  reached_marked M N w s e L m k (in_term h) = mentioned_in (IsMarked w) k L m h
  reached_marked M N w s e L m k (in_type {k = j} {A = A} r d h) = mentioned_in_type (IsMarked w) k A ((none_due_of_two M N w s e j (reached_marked M N w s e L m j r)).1 A d) h
  reached_marked M N w s e L m k (in_value b r i h) = mentioned_in (IsMarked w) k b.value ((none_due_of_two M N w s e b.of (reached_marked M N w s e L m b.of r)).2 b i refl) h

  -- at the end, all that is reached passes the test
  pub two_end : (M N : Term) (w : Marking) → IsSearchOfTwo M N w → w.due ≡ [] → ((k : ℕ) → IsReached Ψ bs M k → P k) × ((k : ℕ) → IsReached Ψ bs N k → P k)
  two_end M N w s e = (
    λ k r. (none_due_of_two M N w s e k (reached_marked M N w s e M s.met_left k r)).0,
    λ k r. (none_due_of_two M N w s e k (reached_marked M N w s e N s.met_right k r)).0,
  )

pub none_marked : (w : Marking) → ((k : ℕ) → w.marks k ≡ false) → (k : ℕ) → IsMarked w k → ⊥
none_marked w e k h = subst Holds (e k) h

pub nothing_in : {S : Type 0} (s : HashSet ℕ S) → IsEmpty s → (k : ℕ) → contains nat_eq s k ≡ false
nothing_in s e k = ap (λ ks. list_any (nat_eq k) ks) e

-- what is closed stays so where a metavariable is bound that wasn't met, or is bound to something that was
pub closed_bound : (Ψ : ℕ → Option LfType) (bs : List Binding) (b : Binding) (w : Marking) → IsClosed Ψ bs w → (IsMarked w b.of → MetavariablesIn (IsMarked w) b.value) → IsClosed Ψ (b ∷ bs) w
closed_bound Ψ bs b w c i = record {
  nothing_due = c.nothing_due;
  types = c.types;
  values = λ k h d m e. elim m [ inl q ↦ subst (λ (x : Binding). MetavariablesIn (IsMarked w) x.value) (sym q) (i (subst (IsMarked w) (sym e ∙ ap (λ (x : Binding). x.of) q) h)) | inr j ↦ c.values k h d j e ];
}

-- What is left of a walk: each turn takes one that is due away, and as many come to be due as are newly marked.
abbrev pub work_left : Marking → ℕ
work_left w = 2 * (2 ^ 63 - w.count) + length w.due

pub less_work : (P Q : ℕ → Type 0) (w w' u v : Marking) → w'.count ≡ w.count → length w.due ≡ length w'.due + 1 → Spreads P w' u → Spreads Q u v → v.count < 2 ^ 63 → work_left v < work_left w
less_work P Q w w' u v c d p q few = omega (arith, c, d, p.more, p.all_due, q.more, q.all_due, few)
