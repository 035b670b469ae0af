-- The ends of a search within its bounds, and the heads that it passes over.
use Rattle.std.proofs.Common.{◌≡◌, ℕ, zero, suc, ◌+◌, ◌≤◌, ◌<◌, List, [], ◌∷◌, length, ◌⊎◌, inl, inr, refl, sym, ap, ◌∙◌, subst, arith}
use Rattle.lf.specs.Entries.{Entry, signature_of}
use Rattle.lf.specs.Syntax.{Head, LfType, Spine}
use Rattle.lf.specs.Typing.{Signature}
use Rattle.lf_unification.specs.Lists.{followed}
use Rattle.lf_unification.specs.Query.{Query, Searches, at_last, none_asked, start}
use Rattle.lf_unification.specs.Search.{Node, Pending, SearchRun, SearchStep, TryIsDue, answer_leaves, at_heads, at_node, begin_search, child, declared_constants, no_child, no_head, other_target, search_on, take_goal, take_leaf, without_equations}
use Rattle.lf_unification.specs.Unifiers.{Equation}
use Rattle.lf_unification.proofs.Due.{due_is_tried, tried_is_due}
use Rattle.lf_search.specs.Bounded.{AsManyAs, Bound, FewerThan, QueryEnd, QueryRuns, RunsOut, Stand, StandsAt, answers_among, at_bound, at_budget, at_end, end_by, ends, number, stand_of, star, stops, unless_left}
use Rattle.lf_search.specs.Heads.{AreOffered, is_offered, none_offered, not_offered}

-- Runs one after another.
pub followed_after : {A : Type 0} (xs ys zs : List A) → followed (followed xs ys) zs ≡ followed xs (followed ys zs)
followed_after [] ys zs = refl
followed_after (x ∷ xs) ys zs = ap (λ l. x ∷ l) (followed_after xs ys zs)

pub followed_none : {A : Type 0} (xs : List A) → followed xs [] ≡ xs
followed_none [] = refl
followed_none (x ∷ xs) = ap (λ l. x ∷ l) (followed_none xs)

module _ (Σ : Signature) (cs : List ℕ) where
  pub search_then : {agenda agenda' agenda'' : List Pending} {ls ls' : List Node} {k k' : ℕ} → SearchRun Σ cs agenda ls k agenda' → SearchRun Σ cs agenda' ls' k' agenda'' → SearchRun Σ cs agenda (followed ls ls') (k + k') agenda''
  search_then {agenda = ag} {agenda'' = ag''} {ls' = ls'} {k' = k'} begin_search r = subst (λ n. SearchRun Σ cs ag ls' n ag'') (omega arith) r
  search_then {agenda = ag} {agenda'' = ag''} {ls' = ls'} {k' = k'} (search_on {leaves = l₁} {leaves' = l₂} {tries = n₁} {tries' = n₂} p q) r =
      subst (λ n. SearchRun Σ cs ag (followed (followed l₁ l₂) ls') n ag'') (omega arith) (subst (λ ls. SearchRun Σ cs ag ls (n₁ + (n₂ + k')) ag'') (sym (followed_after l₁ l₂ ls')) (search_on p (search_then q r)))

  pub one_step : {agenda agenda' : List Pending} {ls : List Node} {k : ℕ} → SearchStep Σ cs agenda ls k agenda' → SearchRun Σ cs agenda ls k agenda'
  one_step {agenda = ag} {agenda' = ag'} {ls = ls} {k = k} p = subst (λ n. SearchRun Σ cs ag ls n ag') (omega arith) (subst (λ l. SearchRun Σ cs ag l (k + 0) ag') (followed_none ls) (search_on p begin_search))

  -- heads of other targets are passed over without a try
  pub heads_are_skipped : (node : Node) (g : ℕ) (gs : List ℕ) (D : List LfType) (a : ℕ) (T : Spine) (rest : List Pending) (hs : List Head) → AreOffered Σ D a hs [] → SearchRun Σ cs (at_heads node g gs D a T hs ∷ rest) [] 0 rest
  heads_are_skipped node g gs D a T rest [] none_offered = search_on no_head begin_search
  heads_are_skipped node g gs D a T rest (h ∷ hs) (not_offered o r) = search_on (other_target o) (heads_are_skipped node g gs D a T rest hs r)

  pub heads_are_reached : (node : Node) (g : ℕ) (gs : List ℕ) (D : List LfType) (a : ℕ) (T : Spine) (rest : List Pending) (hs : List Head) (k : Head) (ks : List Head) → AreOffered Σ D a hs (k ∷ ks) →
      (later : List Head) × SearchRun Σ cs (at_heads node g gs D a T hs ∷ rest) [] 0 (at_heads node g gs D a T (k ∷ later) ∷ rest) × AreOffered Σ D a later ks
  heads_are_reached node g gs D a T rest [] k ks o = elim o [ ]
  heads_are_reached node g gs D a T rest (h ∷ hs) k ks (not_offered o r) = let (later, run, w) = heads_are_reached node g gs D a T rest hs k ks r in (later, search_on (other_target o) run, w)
  heads_are_reached node g gs D a T rest (h ∷ hs) k ks (is_offered A t e r) = (hs, begin_search, r)

  -- from an empty agenda, and from where a try is due
  run_of_none : {agenda' : List Pending} {ls : List Node} {k : ℕ} → SearchRun Σ cs [] ls k agenda' → (ls ≡ []) × (k ≡ 0) × (agenda' ≡ [])
  run_of_none begin_search = (refl, refl, refl)
  run_of_none (search_on p r) = elim p [ ]

  run_of_due : {agenda agenda' : List Pending} {ls : List Node} {k : ℕ} → SearchRun Σ cs agenda ls k agenda' → TryIsDue Σ agenda → k ≡ 0 → (ls ≡ []) × (agenda' ≡ agenda)
  run_of_due begin_search d e = (refl, refl)
  run_of_due (search_on {tries = n} {tries' = n'} p r) d e = (let q : n ≡ 1 = due_is_tried Σ cs p d in absurd (omega arith))

  none_due : TryIsDue Σ [] → ⊥
  none_due d = elim d [ ]

-- Counting answers.
pub without_length : (l : Node) (es : List Equation) (ls : List Node) → (length (without_equations l es ls) ≡ length ls) ⊎ (length (without_equations l es ls) ≡ suc (length ls))
without_length l [] ls = inr refl
without_length l (e ∷ es) ls = inl refl

pub more_answers : (ls ls' : List Node) → answers_among ls ≤ answers_among (followed ls ls')
more_answers [] ls' = omega arith
more_answers (l ∷ ls) ls' = go l.store.equations (more_answers ls ls')
  where
    go : (es : List Equation) → answers_among ls ≤ answers_among (followed ls ls') → length (without_equations l es (answer_leaves ls)) ≤ length (without_equations l es (answer_leaves (followed ls ls')))
    go [] h = omega arith
    go (e ∷ es) h = h

one_more : (ls : List Node) (l : Node) → (answers_among (followed ls (l ∷ [])) ≡ answers_among ls) ⊎ (answers_among (followed ls (l ∷ [])) ≡ suc (answers_among ls))
one_more [] l = without_length l l.store.equations []
one_more (x ∷ ls) l = go x.store.equations (one_more ls l)
  where
    go : (es : List Equation) → (answers_among (followed ls (l ∷ [])) ≡ answers_among ls) ⊎ (answers_among (followed ls (l ∷ [])) ≡ suc (answers_among ls)) →
        (length (without_equations x es (answer_leaves (followed ls (l ∷ [])))) ≡ length (without_equations x es (answer_leaves ls))) ⊎ (length (without_equations x es (answer_leaves (followed ls (l ∷ [])))) ≡ suc (length (without_equations x es (answer_leaves ls))))
    go [] (inl e) = inl (ap suc e)
    go [] (inr e) = inr (ap suc e)
    go (d ∷ es) h = h

pub last_answer : (ls : List Node) (l : Node) → l.store.equations ≡ [] → answers_among (followed ls (l ∷ [])) ≡ suc (answers_among ls)
last_answer [] l e = ap (λ es. length (without_equations l es [])) e
last_answer (x ∷ ls) l e = go x.store.equations (last_answer ls l e)
  where
    go : (es : List Equation) → answers_among (followed ls (l ∷ [])) ≡ suc (answers_among ls) → length (without_equations x es (answer_leaves (followed ls (l ∷ [])))) ≡ suc (length (without_equations x es (answer_leaves ls)))
    go [] h = ap suc h
    go (d ∷ es) h = h

never_both : (bound : Bound) (k k' : ℕ) → AsManyAs bound k → FewerThan bound k' → k ≤ k' → ⊥
never_both star k k' a f h = a
never_both (number t) k k' a f h = (let q : k ≡ t = a in let r : k' < t = f in omega arith)

fewer_before : (bound : Bound) (k k' : ℕ) → FewerThan bound k' → k ≤ k' → FewerThan bound k
fewer_before star k k' f h = tt
fewer_before (number t) k k' f h = (let r : k' < t = f in omega arith)

-- THE theorem, that there is one end
module _ (Σ : Signature) (cs : List ℕ) (budget : ℕ) (bound : Bound) where
  pub one_end : (ls ls' : List Node) (n n' : ℕ) (agenda agenda' : List Pending) (x y : Stand) → SearchRun Σ cs agenda ls' n' agenda' → StandsAt Σ budget bound ls n agenda x → StandsAt Σ budget bound (followed ls ls') (n + n') agenda' y → x ≡ y
  one_end ls ls' n n' agenda agenda' at_bound at_bound r s t = refl
  one_end ls ls' n n' agenda agenda' at_end at_end r s t = refl
  one_end ls ls' n n' agenda agenda' at_budget at_budget r s t = refl
  one_end ls ls' n n' agenda agenda' at_bound at_end r s t = absurd (never_both bound (answers_among ls) (answers_among (followed ls ls')) s.0 t.1 (more_answers ls ls'))
  one_end ls ls' n n' agenda agenda' at_bound at_budget r s t = absurd (never_both bound (answers_among ls) (answers_among (followed ls ls')) s.0 t.1 (more_answers ls ls'))
  one_end ls ls' n n' agenda agenda' at_end at_bound r s t =
      let (e, k, q) = run_of_none Σ cs (subst (λ ag. SearchRun Σ cs ag ls' n' agenda') s.0 r) in
      absurd (never_both bound (answers_among (followed ls ls')) (answers_among ls) t.0 s.1 (subst (λ l. answers_among (followed ls l) ≤ answers_among ls) (sym e) (subst (λ l. answers_among l ≤ answers_among ls) (sym (followed_none ls)) (omega arith))))
  one_end ls ls' n n' agenda agenda' at_end at_budget r s t =
      let (e, k, q) = run_of_none Σ cs (subst (λ ag. SearchRun Σ cs ag ls' n' agenda') s.0 r) in
      absurd (none_due Σ cs (subst (TryIsDue Σ) q t.0))
  one_end ls ls' n n' agenda agenda' at_budget at_bound r s t =
      let e₀ : n ≡ budget = s.2 in
      let h₀ : n + n' ≤ budget = t.1 in
      let (e, q) = run_of_due Σ cs r s.0 (omega arith) in
      absurd (never_both bound (answers_among (followed ls ls')) (answers_among ls) t.0 s.1 (subst (λ l. answers_among (followed ls l) ≤ answers_among ls) (sym e) (subst (λ l. answers_among l ≤ answers_among ls) (sym (followed_none ls)) (omega arith))))
  one_end ls ls' n n' agenda agenda' at_budget at_end r s t =
      let e₀ : n ≡ budget = s.2 in
      let h₀ : n + n' ≤ budget = t.2 in
      let (e, q) = run_of_due Σ cs r s.0 (omega arith) in
      absurd (none_due Σ cs (subst (TryIsDue Σ) (sym q ∙ t.0) s.0))

  -- a step makes one try or none, and gives one leaf or none
  step_tries : {agenda agenda' : List Pending} {ls : List Node} {k : ℕ} → SearchStep Σ cs agenda ls k agenda' → (k ≡ 0) ⊎ (k ≡ 1)
  step_tries (take_leaf e) = inl refl
  step_tries (take_goal e f) = inl refl
  step_tries no_head = inl refl
  step_tries (other_target f) = inl refl
  step_tries (no_child o d) = inr refl
  step_tries (child o u w g) = inr refl

  step_leaves : {agenda agenda' : List Pending} {ls : List Node} {k : ℕ} → SearchStep Σ cs agenda ls k agenda' → (ls ≡ []) ⊎ ((l : Node) × (ls ≡ l ∷ []))
  step_leaves (take_leaf {node = node} e) = inr (node, refl)
  step_leaves (take_goal e f) = inl refl
  step_leaves no_head = inl refl
  step_leaves (other_target f) = inl refl
  step_leaves (no_child o d) = inl refl
  step_leaves (child o u w g) = inl refl

  one_or_more : (k k' : ℕ) (b : Bound) → FewerThan b k → (k' ≡ k) ⊎ (k' ≡ suc k) → FewerThan b k' ⊎ AsManyAs b k'
  one_or_more k k' star f e = inl tt
  one_or_more k k' (number t) f (inl e) = inl (let q : k < t = f in omega arith)
  one_or_more k k' (number t) f (inr e) = let q : k < t = f in go (compared k' t (omega arith))
    where
      compared : (a b : ℕ) → a ≤ b → (a < b) ⊎ (a ≡ b)
      compared zero zero h = inr refl
      compared zero (suc b) h = inl (omega arith)
      compared (suc a) zero h = absurd (omega arith)
      compared (suc a) (suc b) h = up (compared a b (omega arith))
        where
          up : (a < b) ⊎ (a ≡ b) → (suc a < suc b) ⊎ (suc a ≡ suc b)
          up (inl q) = inl (omega arith)
          up (inr q) = inr (ap suc q)

      go : (k' < t) ⊎ (k' ≡ t) → (k' < t) ⊎ (k' ≡ t)
      go x = x

  below_or_at : (a b : ℕ) → a ≤ b → (a < b) ⊎ (a ≡ b)
  below_or_at zero zero h = inr refl
  below_or_at zero (suc b) h = inl (omega arith)
  below_or_at (suc a) zero h = absurd (omega arith)
  below_or_at (suc a) (suc b) h = up (below_or_at a b (omega arith))
    where
      up : (a < b) ⊎ (a ≡ b) → (suc a < suc b) ⊎ (suc a ≡ suc b)
      up (inl q) = inl (omega arith)
      up (inr q) = inr (ap suc q)

  -- within its bounds, a search whose next step leaves them is at the end of its budget
  pub stays_within : (ls ls' : List Node) (n k : ℕ) (agenda agenda' : List Pending) → n ≤ budget → FewerThan bound (answers_among ls) → SearchStep Σ cs agenda ls' k agenda' →
      StandsAt Σ budget bound ls n agenda at_budget ⊎ ((n + k ≤ budget) × (FewerThan bound (answers_among (followed ls ls')) ⊎ AsManyAs bound (answers_among (followed ls ls'))))
  stays_within ls ls' n k agenda agenda' h f p = go (step_tries p) (below_or_at n budget h)
    where
      counted : (answers_among (followed ls ls') ≡ answers_among ls) ⊎ (answers_among (followed ls ls') ≡ suc (answers_among ls))
      counted = at (step_leaves p)
        where
          at : (ls' ≡ []) ⊎ ((l : Node) × (ls' ≡ l ∷ [])) → (answers_among (followed ls ls') ≡ answers_among ls) ⊎ (answers_among (followed ls ls') ≡ suc (answers_among ls))
          at (inl e) = inl (ap (λ l. answers_among (followed ls l)) e ∙ ap answers_among (followed_none ls))
          at (inr (l, e)) = subst (λ x. (answers_among (followed ls x) ≡ answers_among ls) ⊎ (answers_among (followed ls x) ≡ suc (answers_among ls))) (sym e) (one_more ls l)

      go : (k ≡ 0) ⊎ (k ≡ 1) → (n < budget) ⊎ (n ≡ budget) → StandsAt Σ budget bound ls n agenda at_budget ⊎ ((n + k ≤ budget) × (FewerThan bound (answers_among (followed ls ls')) ⊎ AsManyAs bound (answers_among (followed ls ls'))))
      go (inl e) q = inr (omega arith, one_or_more (answers_among ls) (answers_among (followed ls ls')) bound f counted)
      go (inr e) (inl q) = inr (omega arith, one_or_more (answers_among ls) (answers_among (followed ls ls')) bound f counted)
      go (inr e) (inr q) = inl (tried_is_due Σ cs p e, f, q)

ends_at : (ls : List Node) → stand_of (end_by ls) ≡ at_end
ends_at [] = refl
ends_at (l ∷ ls) = go l.store.equations (ends_at ls)
  where
    go : (es : List Equation) → stand_of (end_by ls) ≡ at_end → stand_of (unless_left es (end_by ls)) ≡ at_end
    go [] e = e
    go (d ∷ es) e = refl

pub query_stands : (entries : List Entry) (q : Query) (budget : ℕ) {bound : Bound} {ls : List Node} {end : QueryEnd} {n : ℕ} → QueryRuns entries q budget bound ls end n → (agenda : List Pending) × Searches entries q ls n agenda × StandsAt (signature_of entries) budget bound ls n agenda (stand_of end)
query_stands entries q budget (stops none_asked h) = (at_node (start q) ∷ [], begin_search, (refl, h))
query_stands entries q budget (stops (at_last {earlier = earlier} {last = last} {tries = n} {agenda = agenda} r e f) h) = (
  agenda,
  subst (λ k. Searches entries q (followed earlier (last ∷ [])) k agenda) (omega arith) (search_then (signature_of entries) (declared_constants entries) r (one_step (signature_of entries) (declared_constants entries) (take_leaf e))),
  (last_answer earlier last f, h),
)
query_stands entries q budget {bound = bound} (ends {leaves = ls} {tries = n} r h f) = ([], r, subst (StandsAt (signature_of entries) budget bound ls n []) (sym (ends_at ls)) (refl, f, h))

pub out_stands : (entries : List Entry) (q : Query) (budget : ℕ) (bound : Bound) (ls : List Node) → RunsOut entries q budget bound ls → (agenda : List Pending) × Searches entries q ls budget agenda × StandsAt (signature_of entries) budget bound ls budget agenda at_budget
out_stands entries q budget bound ls r = (r.out.reached, r.out.run, (r.out.due, r.fewer, refl))
