-- The stack of waiting signs finds each reading, or fails where there is another one.
use Rattle.std.proofs.Common.{◌≡◌, ℕ, List, [], ◌∷◌, ◌++◌, Bool, true, false, Option, None, Some, refl, sym, ap, subst, ◌∙◌, ◌⊎◌, inl, inr, ⊎_elim, append_assoc}
use Rattle.std.proofs.lemmas.Bool.{cases_Bool}
use Rattle.tw_fixity.specs.declared.table.Fix.{Fix}
use Rattle.tw_parse.specs.Grammar.{Item, atom, sign, joined, applied, Reads, alone, apply, between, before, behind}
use Rattle.tw_parse.specs.Laws.{HasRow, HaveRows}
use Rattle.tw_parse.specs.Piles.{Waiting, Settled, State, made, settle, settle_all, step, run, behind_side, with_sign, newest_takes}
use Rattle.tw_parse.specs.Signs.{is_from, fits, level_of, left_of, right_of, outer_level}
use Rattle.tw_parse.specs.Syntax.{Term, application}
use Rattle.tw_parse.specs.declared.sign.Level.TheVariants as levels
use Rattle.tw_parse.specs.declared.sign.Level.{Level}
use Rattle.tw_parse.specs.declared.sign.Sign.{Sign}
use Rattle.tw_parse.specs.declared.sign.Side.{Side}
use Rattle.tw_parse.specs.declared.sign.Side.TheVariants.{Absent, Above, From}
use Rattle.tw_parse.proofs.Different.{LeftIs, applied_alike, joined_left, made_alike}
use Rattle.tw_parse.proofs.Machine.{run_append, run_none, fails_on, goes_on, AllFrom, NoneTakes, SomeTakes, settle_all_append, settle_all_one, settle_stop, settle_through, settle_meets, settle_below}
use Rattle.tw_parse.proofs.Order.{from_refl, from_trans, fits_from, fits_up, above_not, not_above_itself, clean_left, takes_down, takes_not_below, no_application}
use Rattle.tw_parse.proofs.Turning.{Another, rows_before, rows_behind, rows_moved, could_yield, Builds, turn_right, IsOpen, BuildsBehind, RightIs, ended, turn_left}

-- the items are read from this state on, and then waiting signs stand above the stack which give the term
pub record Tracked (start : State) (ws : List Waiting) (f : Option Sign) (items : List Item) (M : Term) : Type 0 where
  pub signs : List Waiting
  pub side : Settled
  pub runs : run start items ≡ Some (signs ++ ws, Some side)
  pub settles : settle_all signs side ≡ Some (record { term = M; level = outer_level f })
  pub from : AllFrom (outer_level f) signs
  pub ends : NoneTakes (outer_level f) signs ⊎ (SomeTakes (outer_level f) signs × IsOpen f)

-- whether the newest sign could be on the left of the outermost form
abbrev pub clash : List Waiting → Option Sign → Bool
clash [] f = false
clash (w ∷ ws) f = could_yield w.by f

abbrev pub Finds : State → List Waiting → Option Sign → List Item → Term → Type 0
Finds start ws f items M = Tracked start ws f items M ⊎ (Another f items M × (run start items ≡ None))

abbrev pub Follows : State → List Waiting → Option Sign → List Item → Term → Type 0
Follows start ws f items M = (clash ws f ≡ false → Finds start ws f items M) × (clash ws f ≡ true → run start items ≡ None)

no_clash : (ws : List Waiting) → clash ws None ≡ true → ⊥
no_clash [] e = cc
no_clash (w ∷ ws) e = cc

no_clash_before : (ws : List Waiting) (t : Sign) → left_of t ≡ Absent → clash ws (Some t) ≡ true → ⊥
no_clash_before [] t absent e = cc
no_clash_before (w ∷ ws) t absent e = let clash : false ≡ true = sym (ap (λ S. fits S (level_of t) (level_of w.by)) absent) ∙ e in cc

-- Applications

nothing_above : (ws : List Waiting) → AllFrom levels.Application ws → ws ≡ []
nothing_above [] h = refl
nothing_above (w ∷ ws) h = absurd (no_application w.by h.0)

no_outer : (f : Option Sign) → is_from levels.Application (outer_level f) ≡ true → f ≡ None
no_outer None e = refl
no_outer (Some s) e = absurd (no_application s e)

settled_nothing : (ws : List Waiting) (x y : Settled) → ws ≡ [] → settle_all ws x ≡ Some y → x ≡ y
settled_nothing ws x y none e = let f : Some x ≡ Some y = sym (ap (λ vs. settle_all vs x) none) ∙ e in cc

finds_application : (ws : List Waiting) {items row : List Item} {M : Term} (N : Term) → items ≡ row ++ atom N ∷ [] → Finds (Some (ws, None)) ws None row M → Finds (Some (ws, None)) ws None items (application M N)
finds_application ws {items = items} {row = row} {M = M} N e (inl t) =
    let start : State = Some (ws, None) in
    let function : Settled = record { term = M; level = levels.Application } in
    let none : t.signs ≡ [] = nothing_above t.signs t.from in
    let same : t.side ≡ function = settled_nothing t.signs t.side function none t.settles in
    let runs : run start row ≡ Some (ws, Some function) = t.runs ∙ ap (λ vs. Some (vs ++ ws, Some t.side)) none ∙ ap (λ s. Some (ws, Some s)) same in
    inl (record {
      signs = [];
      side = record { term = application M N; level = levels.Application };
      runs = ap (run start) e ∙ goes_on start (Some (ws, Some function)) row (atom N ∷ []) runs;
      settles = refl;
      from = tt;
      ends = inl tt;
    })
finds_application ws {items = items} {row = row} {M = M} N e (inr h) =
    let other = h.0 in
    let P : Option Sign → Type 0 = λ f. Reads f row other.term in
    inr (
      record {
        outer = None;
        term = application other.term N;
        level = refl;
        reads = apply e (subst P (no_outer other.outer other.level) other.reads);
        differs = λ same. other.differs (let part : other.term ≡ M = cc in part);
      },
      ap (run (Some (ws, None))) e ∙ fails_on (Some (ws, None)) row (atom N ∷ []) h.1,
    )

-- Right sides

all_from_append : (a : Level) (qs ws : List Waiting) → AllFrom a qs → AllFrom a ws → AllFrom a (qs ++ ws)
all_from_append a [] ws h k = k
all_from_append a (q ∷ qs) ws h k = (h.0, all_from_append a qs ws h.1 k)

all_from_down : (a b : Level) (qs : List Waiting) → is_from a b ≡ true → AllFrom b qs → AllFrom a qs
all_from_down a b [] e h = tt
all_from_down a b (q ∷ qs) e h = (from_trans a b (level_of q.by) e h.0, all_from_down a b qs e h.1)

none_takes_append : (a : Level) (qs ws : List Waiting) → NoneTakes a qs → NoneTakes a ws → NoneTakes a (qs ++ ws)
none_takes_append a [] ws h k = k
none_takes_append a (q ∷ qs) ws h k = (h.0, none_takes_append a qs ws h.1 k)

some_takes_append : (a : Level) (qs ws : List Waiting) → SomeTakes a ws → SomeTakes a (qs ++ ws)
some_takes_append a [] ws k = k
some_takes_append a (q ∷ qs) ws k = inr (some_takes_append a qs ws k)

-- none takes a level that isn't above one below them
none_takes_not_below : (a t : Level) (qs : List Waiting) → AllFrom a qs → is_from a t ≡ false → NoneTakes t qs
none_takes_not_below a t [] h e = tt
none_takes_not_below a t (q ∷ qs) h e = (takes_not_below (right_of q.by) (level_of q.by) t a h.0 e, none_takes_not_below a t qs h.1 e)

none_takes_down : (a t : Level) (qs : List Waiting) → NoneTakes a qs → is_from t a ≡ true → NoneTakes t qs
none_takes_down a t [] h e = tt
none_takes_down a t (q ∷ qs) h e = (takes_down (right_of q.by) (level_of q.by) t a h.0 e, none_takes_down a t qs h.1 e)

some_takes_up : (a t : Level) (qs : List Waiting) → SomeTakes a qs → is_from a t ≡ true → SomeTakes t qs
some_takes_up a t [] h e = h
some_takes_up a t (q ∷ qs) h e = ⊎_elim (λ k. inl (fits_up (right_of q.by) (level_of q.by) a t k e)) (λ k. inr (some_takes_up a t qs k e)) h

-- what a waiting sign does to its own level, by its right side
own_end : (t : Sign) (l : Option Term) (qs : List Waiting) (b : Level) (S : Side) → right_of t ≡ S → AllFrom b qs → fits S (level_of t) b ≡ true
    → NoneTakes (level_of t) (qs ++ record { left = l; by = t } ∷ []) ⊎ (SomeTakes (level_of t) (qs ++ record { left = l; by = t } ∷ []) × IsOpen (Some t))
own_end t l qs b Absent e h fit = cc
own_end t l qs b Above e h fit =
    inl (none_takes_append (level_of t) qs (record { left = l; by = t } ∷ []) (none_takes_not_below b (level_of t) qs h (above_not (level_of t) b fit))
    (ap (λ S. fits S (level_of t) (level_of t)) e ∙ not_above_itself (level_of t), tt))
own_end t l qs b From e h fit =
    inr (some_takes_append (level_of t) qs (record { left = l; by = t } ∷ []) (inl (ap (λ S. fits S (level_of t) (level_of t)) e ∙ from_refl (level_of t))), (t, refl, e))

finds_right : (rows : List ℕ → Option Fix) (t : Sign) (l : Option Term) (ws : List Waiting) (lead : List Item) {g : Option Sign} {right : List Item} {N : Term} → Builds t l lead → LeftIs t l → HasRow rows t → HaveRows rows right
    → Reads g right N → fits (right_of t) (level_of t) (outer_level g) ≡ true → Follows (Some (record { left = l; by = t } ∷ ws, None)) (record { left = l; by = t } ∷ ws) g right N
    → Tracked (Some (record { left = l; by = t } ∷ ws, None)) ws (Some t) right (made l t N)
    ⊎ (Another (Some t) (lead ++ sign t ∷ right) (made l t N) × (run (Some (record { left = l; by = t } ∷ ws, None)) right ≡ None))
finds_right rows t l ws lead {g = g} {right = right} {N = N} build left row have D fit follows =
    let w : Waiting = record { left = l; by = t } in
    let start : State = Some (w ∷ ws, None) in
    ⊎_elim
    (λ clashes. inr (turn_right rows t l lead build left row have D clashes fit, follows.1 clashes))
    (λ clean. ⊎_elim
    (λ (k : Tracked start (w ∷ ws) g right N). inl (record {
      signs = k.signs ++ w ∷ [];
      side = k.side;
      runs = k.runs ∙ ap (λ vs. Some (vs, Some k.side)) (sym (append_assoc k.signs (w ∷ []) ws));
      settles = settle_all_append k.signs (w ∷ []) k.side (record { term = N; level = outer_level g }) k.settles ∙ settle_all_one w (record { term = N; level = outer_level g }) fit;
      from = all_from_append (level_of t) k.signs (w ∷ []) (all_from_down (level_of t) (outer_level g) k.signs (fits_from (right_of t) (level_of t) (outer_level g) fit) k.from) (from_refl (level_of t), tt);
      ends = own_end t l k.signs (outer_level g) (right_of t) refl k.from fit;
    }))
    (λ (h : Another g right N × (run start right ≡ None)).
    let other = h.0 in
    inr (
      record {
        outer = Some t;
        term = made l t other.term;
        level = from_refl (level_of t);
        reads = build other.outer right other.term other.reads (fits_up (right_of t) (level_of t) (outer_level g) (outer_level other.outer) fit other.level);
        differs = λ same. other.differs (made_alike l t other.term N same);
      },
      h.1,
    ))
    (follows.0 clean))
    (cases_Bool (could_yield t g))

-- Left sides

-- what comes of a tracked left side when a sign comes: it is settled, or both could stand
left_settles : (ws : List Waiting) (t : Sign) {f : Option Sign} {left : List Item} {M : Term} → (k : Tracked (Some (ws, None)) ws f left M) → fits (left_of t) (level_of t) (outer_level f) ≡ true
    → newest_takes ws (level_of t) ≡ true → clash ws (Some t) ≡ false
    → (settle (k.signs ++ ws) k.side t ≡ Some (ws, record { term = M; level = outer_level f })) ⊎ ((settle (k.signs ++ ws) k.side t ≡ None) × (is_from (outer_level f) (level_of t) ≡ true) × IsOpen f)
left_settles ws t {f = f} {M = M} k fit newest clean =
    let done : Settled = record { term = M; level = outer_level f } in
    let low : is_from (level_of t) (outer_level f) ≡ true = fits_from (left_of t) (level_of t) (outer_level f) fit in
    let stops = λ (none : NoneTakes (level_of t) k.signs). settle_through k.signs ws k.side done t (outer_level f) k.from fit none k.settles ∙ stays ws done t newest clean in
    ⊎_elim
    (λ none. inl (stops (none_takes_down (outer_level f) (level_of t) k.signs none low)))
    (λ (some : SomeTakes (outer_level f) k.signs × IsOpen f). ⊎_elim
    (λ level. inr (settle_meets k.signs ws k.side done t (outer_level f) k.from fit (some_takes_up (outer_level f) (level_of t) k.signs some.0 level) k.settles, level, some.1))
    (λ above. inl (stops (none_takes_not_below (outer_level f) (level_of t) k.signs k.from above)))
    (cases_Bool (is_from (outer_level f) (level_of t))))
    k.ends
  where
    stays : (ws : List Waiting) (x : Settled) (t : Sign) → newest_takes ws (level_of t) ≡ true → clash ws (Some t) ≡ false → settle ws x t ≡ Some (ws, x)
    stays [] x t e f = refl
    stays (w ∷ ws) x t e f = settle_stop w ws x t e f

left_clashes : (ws : List Waiting) (t : Sign) {f : Option Sign} {left : List Item} {M : Term} → (k : Tracked (Some (ws, None)) ws f left M) → fits (left_of t) (level_of t) (outer_level f) ≡ true
    → newest_takes ws (level_of t) ≡ true → clash ws (Some t) ≡ true → settle (k.signs ++ ws) k.side t ≡ None
left_clashes [] t k fit newest e = cc
left_clashes (w ∷ ws) t {f = f} {M = M} k fit newest e = settle_below k.signs w ws k.side (record { term = M; level = outer_level f }) t (outer_level f) k.from fit k.settles newest e

newest_up : (ws : List Waiting) (a b : Level) → newest_takes ws a ≡ true → is_from a b ≡ true → newest_takes ws b ≡ true
newest_up [] a b e f = refl
newest_up (w ∷ ws) a b e f = fits_up (right_of w.by) (level_of w.by) a b e f

clean_inside : (ws : List Waiting) (t : Sign) (f : Option Sign) → newest_takes ws (level_of t) ≡ true → fits (left_of t) (level_of t) (outer_level f) ≡ true → clash ws (Some t) ≡ false → clash ws f ≡ false
clean_inside [] t f newest fit e = refl
clean_inside (w ∷ ws) t None newest fit e = refl
clean_inside (w ∷ ws) t (Some u) newest fit e =
    clean_left (left_of t) (left_of u) (level_of w.by) (level_of t) (level_of u) (fits_from (right_of w.by) (level_of w.by) (level_of t) newest) fit e

-- what comes of a left side and then a sign: the side stands before it, or all fails where there is another reading
finds_left : (rows : List ℕ → Option Fix) (ws : List Waiting) (t : Sign) (r : Option Term) (trail : List Item) {f : Option Sign} {left : List Item} {M : Term} → BuildsBehind t r trail → RightIs t r → HasRow rows t → HaveRows rows left
    → Reads f left M → fits (left_of t) (level_of t) (outer_level f) ≡ true → newest_takes ws (level_of t) ≡ true → clash ws (Some t) ≡ false → Follows (Some (ws, None)) ws f left M
    → (step (run (Some (ws, None)) left) (sign t) ≡ behind_side t (Some (ws, record { term = M; level = outer_level f })))
    ⊎ (Another (Some t) (left ++ trail) (ended r t M) × (step (run (Some (ws, None)) left) (sign t) ≡ None))
finds_left rows ws t r trail {f = f} {left = left} {M = M} build right row have D fit newest clean follows =
    ⊎_elim
    (λ (k : Tracked (Some (ws, None)) ws f left M). ⊎_elim
    (λ settled. inl (ap (λ s. step s (sign t)) k.runs ∙ ap (behind_side t) settled))
    (λ (h : (settle (k.signs ++ ws) k.side t ≡ None) × (is_from (outer_level f) (level_of t) ≡ true) × IsOpen f). inr (turn_left rows t r trail build right row have D fit h.1 h.2, ap (λ s. step s (sign t)) k.runs ∙ ap (behind_side t) h.0))
    (left_settles ws t k fit newest clean))
    (λ (h : Another f left M × (run (Some (ws, None)) left ≡ None)).
    let other = h.0 in
    inr (
      record {
        outer = Some t;
        term = ended r t other.term;
        level = from_refl (level_of t);
        reads = build other.outer left other.term other.reads (fits_up (left_of t) (level_of t) (outer_level f) (outer_level other.outer) fit other.level);
        differs = λ same. other.differs (alike r t other.term M same);
      },
      ap (λ s. step s (sign t)) h.1,
    ))
    (follows.0 (clean_inside ws t f newest fit clean))
  where
    alike : (r : Option Term) (t : Sign) (M N : Term) → ended r t M ≡ ended r t N → M ≡ N
    alike None t M N e = applied_alike t M N e
    alike (Some A) t M N e = joined_left t A M N e

-- the same where all fails before
fails_left : (ws : List Waiting) (t : Sign) {f : Option Sign} {left : List Item} {M : Term} → fits (left_of t) (level_of t) (outer_level f) ≡ true → newest_takes ws (level_of t) ≡ true → clash ws (Some t) ≡ true
    → Follows (Some (ws, None)) ws f left M → step (run (Some (ws, None)) left) (sign t) ≡ None
fails_left ws t {f = f} {left = left} {M = M} fit newest clashes follows =
    ⊎_elim
    (λ early. ap (λ s. step s (sign t)) (follows.1 early))
    (λ clean. ⊎_elim
    (λ (k : Tracked (Some (ws, None)) ws f left M). ap (λ s. step s (sign t)) k.runs ∙ ap (behind_side t) (left_clashes ws t k fit newest clashes))
    (λ (h : Another f left M × (run (Some (ws, None)) left ≡ None)). ap (λ s. step s (sign t)) h.1)
    (follows.0 clean))
    (cases_Bool (clash ws f))

-- the side before a sign with a right side, and before one without
stands_before : (ws : List Waiting) (x : Settled) (t : Sign) (S : Side) (b : Level) → fits (left_of t) (level_of t) x.level ≡ true → right_of t ≡ S → fits S (level_of t) b ≡ true
    → behind_side t (Some (ws, x)) ≡ Some (record { left = Some x.term; by = t } ∷ ws, None)
stands_before ws x t Absent b fit e g = cc
stands_before ws x t Above b fit e g = rw (fit, e) refl
stands_before ws x t From b fit e g = rw (fit, e) refl

stands_behind : (ws : List Waiting) (x : Settled) (t : Sign) → fits (left_of t) (level_of t) x.level ≡ true → right_of t ≡ Absent
    → behind_side t (Some (ws, x)) ≡ Some (ws, Some (record { term = applied t x.term; level = level_of t }))
stands_behind ws x t fit e = rw (fit, e) refl

leads : (ws : List Waiting) (t : Sign) → left_of t ≡ Absent → newest_takes ws (level_of t) ≡ true → with_sign ws None t ≡ Some (record { left = None; by = t } ∷ ws, None)
leads ws t e f = rw (e, f) refl

retracked : (start start' : State) (ws : List Waiting) (f : Option Sign) (items items' : List Item) (M : Term) → run start' items' ≡ run start items → Tracked start ws f items M → Tracked start' ws f items' M
retracked start start' ws f items items' M e k = record { signs = k.signs; side = k.side; runs = e ∙ k.runs; settles = k.settles; from = k.from; ends = k.ends }

another_of : (f : Option Sign) (items items' : List Item) (M : Term) → items' ≡ items → Another f items M → Another f items' M
another_of f items items' M e h = let P : List Item → Type 0 = λ is. Reads h.outer is h.term in record { outer = h.outer; term = h.term; level = h.level; reads = subst P (sym e) h.reads; differs = h.differs }

run_sign : (st : State) (left right : List Item) (t : Sign) → run st (left ++ sign t ∷ right) ≡ run (step (run st left) (sign t)) right
run_sign st left right t = run_append st left (sign t ∷ right)

-- each reading is tracked
pub track : (rows : List ℕ → Option Fix) {f : Option Sign} {items : List Item} {M : Term} → Reads f items M → HaveRows rows items → (ws : List Waiting) → newest_takes ws (outer_level f) ≡ true → Follows (Some (ws, None)) ws f items M
track rows (alone {M = M}) have ws newest =
    (λ c. inl (record { signs = []; side = record { term = M; level = levels.Application }; runs = refl; settles = refl; from = tt; ends = inl tt }), λ c. absurd (no_clash ws c))
track rows (apply {items = items} {row = row} {M = M} {N = N} e D) have ws newest =
    let inner : Follows (Some (ws, None)) ws None row M = track rows D (rows_before rows row (atom N ∷ []) (rows_moved rows items (row ++ atom N ∷ []) e have)) ws newest in
    (λ c. finds_application ws N e (inner.0 c), λ c. absurd (no_clash ws c))
track rows (before t {g = g} {items = items} {right = right} {N = N} e absent D fit) have ws newest =
    let w : Waiting = record { left = None; by = t } in
    let mine : HaveRows rows (sign t ∷ right) = rows_moved rows items (sign t ∷ right) e have in
    let inner : Follows (Some (w ∷ ws, None)) (w ∷ ws) g right N = track rows D mine.1 (w ∷ ws) fit in
    let build : Builds t None [] = λ h part P read fits. before t refl absent read fits in
    let enter : run (Some (ws, None)) items ≡ run (Some (w ∷ ws, None)) right = ap (run (Some (ws, None))) e ∙ ap (λ s. run s right) (leads ws t absent newest) in (
      λ c. ⊎_elim
          (λ (k : Tracked (Some (w ∷ ws, None)) ws (Some t) right (made None t N)). inl (retracked (Some (w ∷ ws, None)) (Some (ws, None)) ws (Some t) right items (applied t N) enter k))
          (λ (h : Another (Some t) ([] ++ sign t ∷ right) (made None t N) × (run (Some (w ∷ ws, None)) right ≡ None)). inr (another_of (Some t) (sign t ∷ right) items (applied t N) e h.0, enter ∙ h.1))
          (finds_right rows t None ws [] build absent mine.0 mine.1 D fit inner),
      λ c. absurd (no_clash_before ws t absent c),
    )
track rows (between t {f = f} {g = g} {items = items} {left = left} {right = right} {M = M} {N = N} e D1 fl D2 fr) have ws newest =
    let w : Waiting = record { left = Some M; by = t } in
    let parts : HaveRows rows (left ++ sign t ∷ right) = rows_moved rows items (left ++ sign t ∷ right) e have in
    let mine : HaveRows rows (sign t ∷ right) = rows_behind rows left (sign t ∷ right) parts in
    let before_it : HaveRows rows left = rows_before rows left (sign t ∷ right) parts in
    let first : Follows (Some (ws, None)) ws f left M = track rows D1 before_it ws (newest_up ws (level_of t) (outer_level f) newest (fits_from (left_of t) (level_of t) (outer_level f) fl)) in
    let second : Follows (Some (w ∷ ws, None)) (w ∷ ws) g right N = track rows D2 mine.1 (w ∷ ws) fr in
    let build : Builds t (Some M) left = λ h part P read fits. between t refl D1 fl read fits in
    let build_left : BuildsBehind t (Some N) (sign t ∷ right) = λ h part P read fits. between t refl read fits D2 fr in
    let side : Settled = record { term = M; level = outer_level f } in
    let through : run (Some (ws, None)) items ≡ run (step (run (Some (ws, None)) left) (sign t)) right = ap (run (Some (ws, None))) e ∙ run_sign (Some (ws, None)) left right t in
    let stops = λ (none : step (run (Some (ws, None)) left) (sign t) ≡ None). through ∙ ap (λ s. run s right) none ∙ run_none right in (
      λ c. ⊎_elim
          (λ stands.
          let enter : run (Some (ws, None)) items ≡ run (Some (w ∷ ws, None)) right = through ∙ ap (λ s. run s right) (stands ∙ stands_before ws side t (right_of t) (outer_level g) fl refl fr) in
          ⊎_elim
          (λ (k : Tracked (Some (w ∷ ws, None)) ws (Some t) right (made (Some M) t N)). inl (retracked (Some (w ∷ ws, None)) (Some (ws, None)) ws (Some t) right items (joined t M N) enter k))
          (λ (h : Another (Some t) (left ++ sign t ∷ right) (made (Some M) t N) × (run (Some (w ∷ ws, None)) right ≡ None)). inr (another_of (Some t) (left ++ sign t ∷ right) items (joined t M N) e h.0, enter ∙ h.1))
          (finds_right rows t (Some M) ws left build tt mine.0 mine.1 D2 fr second))
          (λ (h : Another (Some t) (left ++ sign t ∷ right) (ended (Some N) t M) × (step (run (Some (ws, None)) left) (sign t) ≡ None)). inr (another_of (Some t) (left ++ sign t ∷ right) items (joined t M N) e h.0, stops h.1))
          (finds_left rows ws t (Some N) (sign t ∷ right) build_left tt mine.0 before_it D1 fl newest c first),
      λ c. stops (fails_left ws t fl newest c first),
    )
track rows (behind t {f = f} {items = items} {left = left} {M = M} e absent D fl) have ws newest =
    let parts : HaveRows rows (left ++ sign t ∷ []) = rows_moved rows items (left ++ sign t ∷ []) e have in
    let mine : HaveRows rows (sign t ∷ []) = rows_behind rows left (sign t ∷ []) parts in
    let before_it : HaveRows rows left = rows_before rows left (sign t ∷ []) parts in
    let first : Follows (Some (ws, None)) ws f left M = track rows D before_it ws (newest_up ws (level_of t) (outer_level f) newest (fits_from (left_of t) (level_of t) (outer_level f) fl)) in
    let build_left : BuildsBehind t None (sign t ∷ []) = λ h part P read fits. behind t refl absent read fits in
    let side : Settled = record { term = M; level = outer_level f } in
    let through : run (Some (ws, None)) items ≡ step (run (Some (ws, None)) left) (sign t) = ap (run (Some (ws, None))) e ∙ run_sign (Some (ws, None)) left [] t in (
      λ c. ⊎_elim
          (λ stands. inl (record {
            signs = [];
            side = record { term = applied t M; level = level_of t };
            runs = through ∙ stands ∙ stands_behind ws side t fl absent;
            settles = refl;
            from = tt;
            ends = inl tt;
          }))
          (λ (h : Another (Some t) (left ++ sign t ∷ []) (ended None t M) × (step (run (Some (ws, None)) left) (sign t) ≡ None)). inr (another_of (Some t) (left ++ sign t ∷ []) items (applied t M) e h.0, through ∙ h.1))
          (finds_left rows ws t None (sign t ∷ []) build_left absent mine.0 before_it D fl newest c first),
      λ c. through ∙ fails_left ws t fl newest c first,
    )
