-- What the stack of waiting signs gives is a reading.
use Rattle.std.proofs.Common.{◌≡◌, List, [], ◌∷◌, ◌++◌, Bool, true, false, ◌&&◌, Option, None, Some, if◌then◌else◌, refl, sym, ap, subst, ◌∙◌, append_assoc, append-nil}
use Rattle.tw_parse.specs.Grammar.{Item, atom, sign, applied, Reads, alone, apply, between, before, behind}
use Rattle.tw_parse.specs.Piles.{Waiting, Settled, State, waits, yields, made, takes, closed, settle, settle_all, with_atom, with_sign, behind_side, step, run, outcome, reading, is_application, is_absent, newest_takes}
use Rattle.tw_parse.specs.Signs.{is_from, fits, level_of, left_of, right_of, outer_level}
use Rattle.tw_parse.specs.Syntax.{Term, application}
use Rattle.tw_parse.specs.declared.sign.Sign.{Sign}
use Rattle.tw_parse.specs.declared.sign.Level.{Level}
use Rattle.tw_parse.specs.declared.sign.Level.TheVariants as levels
use Rattle.tw_parse.specs.declared.sign.Side.{Side}
use Rattle.tw_parse.specs.declared.sign.Side.TheVariants.{Absent, Above, From}
use Rattle.tw_parse.proofs.Order.{no_application}

-- the items are read as the side
abbrev pub IsSide : Settled → List Item → Type 0
IsSide x items = (f : Option Sign) × (outer_level f ≡ x.level) × Reads f items x.term

-- the items are the left side of a sign, if it has one
abbrev IsLeft : Sign → Option Term → List Item → Type 0
IsLeft s None items = (items ≡ []) × (left_of s ≡ Absent)
IsLeft s (Some M) items = (f : Option Sign) × Reads f items M × (fits (left_of s) (level_of s) (outer_level f) ≡ true)

-- the items are the left sides of the waiting signs with their signs, the newest last
abbrev Stacked : List Waiting → List Item → Type 0
Stacked [] items = items ≡ []
Stacked (w ∷ ws) items = (lower : List Item) × (left : List Item) × (items ≡ lower ++ (left ++ sign w.by ∷ [])) × Stacked ws lower × IsLeft w.by w.left left

abbrev Holds : List Waiting → Settled → List Item → Type 0
Holds ws x items = (lower : List Item) × (mine : List Item) × (items ≡ lower ++ mine) × Stacked ws lower × IsSide x mine

abbrev Last : List Waiting → Option Settled → List Item → Type 0
Last ws None items = Stacked ws items
Last ws (Some x) items = Holds ws x items

abbrev Stands : State → List Item → Type 0
Stands None items = Unit {0}
Stands (Some (ws, x)) items = Last ws x items

close_left : (w : Waiting) (l : Option Term) (x : Settled) (left mine : List Item) → IsLeft w.by l left → IsSide x mine → takes w x.level ≡ true → IsSide (record { term = made l w.by x.term; level = level_of w.by }) ((left ++ sign w.by ∷ []) ++ mine)
close_left w None x left mine h s fit =
    let all : (left ++ sign w.by ∷ []) ++ mine ≡ sign w.by ∷ mine = ap (λ l. (l ++ sign w.by ∷ []) ++ mine) h.0 in
    (Some w.by, refl, before w.by all h.1 s.2 (ap (λ l. fits (right_of w.by) (level_of w.by) l) s.1 ∙ fit))
close_left w (Some M) x left mine h s fit =
    (Some w.by, refl, between w.by (append_assoc left (sign w.by ∷ []) mine) h.1 h.2 s.2 (ap (λ l. fits (right_of w.by) (level_of w.by) l) s.1 ∙ fit))

close : (w : Waiting) (ws : List Waiting) (x : Settled) (items : List Item) → Holds (w ∷ ws) x items → takes w x.level ≡ true → Holds ws (closed w x) items
close w ws x items h fit =
    let top = h.3 in (
      top.0,
      (top.1 ++ sign w.by ∷ []) ++ h.1,
      h.2 ∙ ap (λ lower. lower ++ h.1) top.2 ∙ append_assoc top.0 (top.1 ++ sign w.by ∷ []) h.1,
      top.3,
      close_left w w.left x top.1 h.1 top.4 h.4 fit,
    )

settles_all : (ws : List Waiting) (x y : Settled) (items : List Item) → settle_all ws x ≡ Some y → Holds ws x items → IsSide y items
settles_all [] x y items e h =
    let same : x ≡ y = cc in
    let P : List Item → Type 0 = λ is. IsSide x is in
    let Q : Settled → Type 0 = λ z. IsSide z items in
    subst Q same (subst P (sym (h.2 ∙ ap (λ lower. lower ++ h.1) h.3)) h.4)
settles_all (w ∷ ws) x y items e h =
    let P : Bool → Type 0 = λ b. takes w x.level ≡ b → (if b then settle_all ws (closed w x) else None) ≡ Some y → IsSide y items in
    let go : P (takes w x.level) = elim (takes w x.level) as P [ true ↦ λ fit f. settles_all ws (closed w x) y items f (close w ws x items h fit) | false ↦ λ fit f. cc ] in
    go refl e

-- what is settled before a sign
abbrev Settles : Option (List Waiting × Settled) → List Item → Type 0
Settles None items = Unit {0}
Settles (Some p) items = Holds p.0 p.1 items

settles : (ws : List Waiting) (x : Settled) (t : Sign) (items : List Item) → Holds ws x items → Settles (settle ws x t) items
settles [] x t items h = h
settles (w ∷ ws) x t items h =
    let P : Bool → Type 0 = λ b. Settles (if b then (if yields w.by t then None else Some (w ∷ ws, x)) else if yields w.by t && takes w x.level then settle ws (closed w x) t else None) items in
    let stays : P true =
    let Q : Bool → Type 0 = λ b. Settles (if b then None else Some (w ∷ ws, x)) items in
    elim (yields w.by t) as Q [ true ↦ tt | false ↦ h ] in
    let goes : P false =
    let Q : Bool → Type 0 = λ b. Settles (if b && takes w x.level then settle ws (closed w x) t else None) items in
    let R : Bool → Type 0 = λ b. takes w x.level ≡ b → Settles (if b then settle ws (closed w x) t else None) items in
    let inner : R (takes w x.level) = elim (takes w x.level) as R [ true ↦ λ fit. settles ws (closed w x) t items (close w ws x items h fit) | false ↦ λ fit. tt ] in
    elim (yields w.by t) as Q [ true ↦ inner refl | false ↦ tt ] in
    elim (waits w.by t) as P [ true ↦ stays | false ↦ goes ]

is_none : (f : Option Sign) (l : Level) → outer_level f ≡ l → is_application l ≡ true → f ≡ None
is_none None l e a = refl
is_none (Some s) levels.Application e a = absurd (no_application s (ap (is_from levels.Application) e))
is_none (Some s) levels.Ascription e a = cc
is_none (Some s) levels.Backward e a = cc
is_none (Some s) levels.Forward e a = cc
is_none (Some s) (levels.Operator p) e a = cc

stands_atom : (ws : List Waiting) (x : Option Settled) (N : Term) (items : List Item) → Last ws x items → Stands (with_atom ws x N) (items ++ atom N ∷ [])
stands_atom ws None N items h = (items, atom N ∷ [], refl, h, (None, refl, alone))
stands_atom ws (Some x) N items h =
    let P : Bool → Type 0 = λ b. is_application x.level ≡ b → Stands (if b then Some (ws, Some (record { term = application x.term N; level = levels.Application })) else None) (items ++ atom N ∷ []) in
    let Q : Option Sign → Type 0 = λ f. Reads f h.1 x.term in
    let go : P (is_application x.level) =
    elim (is_application x.level) as P [
      | true ↦ λ is. (h.0, h.1 ++ atom N ∷ [], ap (λ all. all ++ atom N ∷ []) h.2 ∙ append_assoc h.0 h.1 (atom N ∷ []), h.3, (None, refl, apply refl (subst Q (is_none h.4.0 x.level h.4.1 is) h.4.2)))
      | false ↦ λ is. tt
    ] in
    go refl

absent_is : (S : Side) → is_absent S ≡ true → S ≡ Absent
absent_is Absent e = refl
absent_is Above e = cc
absent_is From e = cc

stands_behind : (t : Sign) (o : Option (List Waiting × Settled)) (items : List Item) → Settles o items → Stands (behind_side t o) (items ++ sign t ∷ [])
stands_behind t None items h = tt
stands_behind t (Some p) items h =
    let ws = p.0 in
    let x = p.1 in
    let closing : State = Some (ws, Some (record { term = applied t x.term; level = level_of t })) in
    let waiting : State = Some (record { left = Some x.term; by = t } ∷ ws, None) in
    let all : items ++ sign t ∷ [] ≡ h.0 ++ (h.1 ++ sign t ∷ []) = ap (λ is. is ++ sign t ∷ []) h.2 ∙ append_assoc h.0 h.1 (sign t ∷ []) in
    let fits_it = λ (fit : fits (left_of t) (level_of t) x.level ≡ true). ap (fits (left_of t) (level_of t)) h.4.1 ∙ fit in
    let P : Bool → Type 0 = λ b. fits (left_of t) (level_of t) x.level ≡ b → Stands (if b then (if is_absent (right_of t) then closing else waiting) else None) (items ++ sign t ∷ []) in
    let inner = λ (fit : fits (left_of t) (level_of t) x.level ≡ true).
    let Q : Bool → Type 0 = λ b. is_absent (right_of t) ≡ b → Stands (if b then closing else waiting) (items ++ sign t ∷ []) in
    let go : Q (is_absent (right_of t)) =
    elim (is_absent (right_of t)) as Q [
      | true ↦ λ absent. (h.0, h.1 ++ sign t ∷ [], all, h.3, (Some t, refl, behind t refl (absent_is (right_of t) absent) h.4.2 (fits_it fit)))
      | false ↦ λ present. (h.0, h.1, all, h.3, (h.4.0, h.4.2, fits_it fit))
    ] in
    go refl in
    let go : P (fits (left_of t) (level_of t) x.level) = elim (fits (left_of t) (level_of t) x.level) as P [ true ↦ inner | false ↦ λ fit. tt ] in
    go refl

and_left : (x y : Bool) → x && y ≡ true → x ≡ true
and_left true y e = refl
and_left false y e = e

stands_sign : (ws : List Waiting) (x : Option Settled) (t : Sign) (items : List Item) → Last ws x items → Stands (with_sign ws x t) (items ++ sign t ∷ [])
stands_sign ws None t items h =
    let b = is_absent (left_of t) && newest_takes ws (level_of t) in
    let P : Bool → Type 0 = λ c. b ≡ c → Stands (if c then Some (record { left = None; by = t } ∷ ws, None) else None) (items ++ sign t ∷ []) in
    let go : P b =
    elim b as P [
      | true ↦ λ e. (items, [], refl, h, (refl, absent_is (left_of t) (and_left (is_absent (left_of t)) (newest_takes ws (level_of t)) e)))
      | false ↦ λ e. tt
    ] in
    go refl
stands_sign ws (Some x) t items h = stands_behind t (settle ws x t) items (settles ws x t items h)

stands_step : (st : State) (i : Item) (items : List Item) → Stands st items → Stands (step st i) (items ++ i ∷ [])
stands_step None i items h = tt
stands_step (Some p) (atom N) items h = stands_atom p.0 p.1 N items h
stands_step (Some p) (sign t) items h = stands_sign p.0 p.1 t items h

stands_run : (more items : List Item) (st : State) → Stands st items → Stands (run st more) (items ++ more)
stands_run [] items st h = let P : List Item → Type 0 = λ is. Stands st is in subst P (sym (append-nil items)) h
stands_run (i ∷ more) items st h =
    let P : List Item → Type 0 = λ is. Stands (run (step st i) more) is in
    subst P (append_assoc items (i ∷ []) more) (stands_run more (items ++ i ∷ []) (step st i) (stands_step st i items h))

outcome_is : (st : State) (y : Settled) (items : List Item) → outcome st ≡ Some y → Stands st items → IsSide y items
outcome_is None y items e h = cc
outcome_is (Some (ws, None)) y items e h = cc
outcome_is (Some (ws, Some x)) y items e h = settles_all ws x y items e h

pub reading_is : (items : List Item) (y : Settled) → reading items ≡ Some y → IsSide y items
reading_is items y e = outcome_is (run (Some ([], None)) items) y items e (stands_run items [] (Some ([], None)) refl)
