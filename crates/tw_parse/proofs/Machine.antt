-- How the stack of waiting signs runs.
use Rattle.std.proofs.Common.{◌≡◌, List, [], ◌∷◌, ◌++◌, Bool, true, false, ◌&&◌, Option, None, Some, if◌then◌else◌, refl, ap, ◌∙◌, ◌⊎◌, ⊎_elim}
use Rattle.std.proofs.lemmas.Bool.{cases_Bool}
use Rattle.tw_parse.specs.Grammar.{Item}
use Rattle.tw_parse.specs.Piles.{Waiting, Settled, State, waits, yields, takes, closed, settle, settle_all, step, run}
use Rattle.tw_parse.specs.Signs.{is_from, fits, level_of, left_of}
use Rattle.tw_parse.specs.declared.sign.Sign.{Sign}
use Rattle.tw_parse.specs.declared.sign.Level.{Level}
use Rattle.tw_parse.proofs.Order.{fits_up, both}

pub run_append : (st : State) (xs ys : List Item) → run st (xs ++ ys) ≡ run (run st xs) ys
run_append st [] ys = refl
run_append st (x ∷ xs) ys = run_append (step st x) xs ys

pub run_none : (xs : List Item) → run None xs ≡ None
run_none [] = refl
run_none (x ∷ xs) = run_none xs

-- a run that has failed stays so
pub fails_on : (st : State) (xs ys : List Item) → run st xs ≡ None → run st (xs ++ ys) ≡ None
fails_on st xs ys e = run_append st xs ys ∙ ap (λ s. run s ys) e ∙ run_none ys

pub goes_on : (st new : State) (xs ys : List Item) → run st xs ≡ new → run st (xs ++ ys) ≡ run new ys
goes_on st new xs ys e = run_append st xs ys ∙ ap (λ s. run s ys) e

-- each waiting sign is of this level or above it
abbrev pub AllFrom : Level → List Waiting → Type 0
AllFrom a [] = Unit {0}
AllFrom a (w ∷ ws) = (is_from a (level_of w.by) ≡ true) × AllFrom a ws

-- no waiting sign takes a term of this level, and some sign does
abbrev pub NoneTakes : Level → List Waiting → Type 0
NoneTakes a [] = Unit {0}
NoneTakes a (w ∷ ws) = (takes w a ≡ false) × NoneTakes a ws

abbrev pub SomeTakes : Level → List Waiting → Type 0
SomeTakes a [] = ⊥
SomeTakes a (w ∷ ws) = (takes w a ≡ true) ⊎ SomeTakes a ws

-- one step of settling all
settle_all_step : (w : Waiting) (ws : List Waiting) (x y : Settled) → settle_all (w ∷ ws) x ≡ Some y → (takes w x.level ≡ true) × (settle_all ws (closed w x) ≡ Some y)
settle_all_step w ws x y e =
    let P : Bool → Type 0 = λ b. (if b then settle_all ws (closed w x) else None) ≡ Some y → (b ≡ true) × (settle_all ws (closed w x) ≡ Some y) in
    let step : P (takes w x.level) = elim (takes w x.level) as P [ true ↦ λ f. (refl, f) | false ↦ λ f. cc ] in
    step e

pub settle_all_append : (qs ws : List Waiting) (x y : Settled) → settle_all qs x ≡ Some y → settle_all (qs ++ ws) x ≡ settle_all ws y
settle_all_append [] ws x y e = let same : x ≡ y = cc in ap (settle_all ws) same
settle_all_append (q ∷ qs) ws x y e =
    let s = settle_all_step q qs x y e in
    rw s.0 (settle_all_append qs ws (closed q x) y s.1)

pub settle_all_one : (w : Waiting) (x : Settled) → takes w x.level ≡ true → settle_all (w ∷ []) x ≡ Some (closed w x)
settle_all_one w x e = rw e refl

-- one step of settling
abbrev Settling : Bool → Bool → Bool → List Waiting → Settled → Option (List Waiting × Settled) → Option (List Waiting × Settled)
Settling b c d all x rest = if b then (if c then None else Some (all, x)) else if c && d then rest else None

settle_stays : (b c d : Bool) (all : List Waiting) (x : Settled) (rest : Option (List Waiting × Settled)) → b ≡ true → c ≡ false → Settling b c d all x rest ≡ Some (all, x)
settle_stays true false d all x rest e f = refl
settle_stays true true d all x rest e f = cc
settle_stays false c d all x rest e f = cc

settle_clashes : (b c d : Bool) (all : List Waiting) (x : Settled) (rest : Option (List Waiting × Settled)) → b ≡ true → c ≡ true → Settling b c d all x rest ≡ None
settle_clashes true true d all x rest e f = refl
settle_clashes true false d all x rest e f = cc
settle_clashes false c d all x rest e f = cc

settle_closes : (b c d : Bool) (all : List Waiting) (x : Settled) (rest : Option (List Waiting × Settled)) → b ≡ false → c ≡ true → d ≡ true → Settling b c d all x rest ≡ rest
settle_closes false true true all x rest e f g = refl
settle_closes false true false all x rest e f g = cc
settle_closes false false d all x rest e f g = cc
settle_closes true c d all x rest e f g = cc

-- a waiting sign whose left sign can't be on the left of the next one stays
pub settle_stop : (w : Waiting) (ws : List Waiting) (x : Settled) (t : Sign) → waits w.by t ≡ true → yields w.by t ≡ false → settle (w ∷ ws) x t ≡ Some (w ∷ ws, x)
settle_stop w ws x t e f = settle_stays (waits w.by t) (yields w.by t) (takes w x.level) (w ∷ ws) x (settle ws (closed w x) t) e f

pub settle_clash : (w : Waiting) (ws : List Waiting) (x : Settled) (t : Sign) → waits w.by t ≡ true → yields w.by t ≡ true → settle (w ∷ ws) x t ≡ None
settle_clash w ws x t e f = settle_clashes (waits w.by t) (yields w.by t) (takes w x.level) (w ∷ ws) x (settle ws (closed w x) t) e f

settle_close : (w : Waiting) (ws : List Waiting) (x : Settled) (t : Sign) → waits w.by t ≡ false → yields w.by t ≡ true → takes w x.level ≡ true → settle (w ∷ ws) x t ≡ settle ws (closed w x) t
settle_close w ws x t e f g = settle_closes (waits w.by t) (yields w.by t) (takes w x.level) (w ∷ ws) x (settle ws (closed w x) t) e f g

-- signs none of which waits are settled, where all can stand on the left of the next one
pub settle_through : (qs ws : List Waiting) (x y : Settled) (t : Sign) (a : Level) → AllFrom a qs → fits (left_of t) (level_of t) a ≡ true → NoneTakes (level_of t) qs → settle_all qs x ≡ Some y
    → settle (qs ++ ws) x t ≡ settle ws y t
settle_through [] ws x y t a from fit none e = let same : x ≡ y = cc in ap (λ z. settle ws z t) same
settle_through (q ∷ qs) ws x y t a from fit none e =
    let s = settle_all_step q qs x y e in
    settle_close q (qs ++ ws) x t none.0 (fits_up (left_of t) (level_of t) a (level_of q.by) fit from.0) s.0
    ∙ settle_through qs ws (closed q x) y t a from.1 fit none.1 s.1

-- where some sign waits too, or the one below them all clashes, nothing is settled
pub settle_meets : (qs ws : List Waiting) (x y : Settled) (t : Sign) (a : Level) → AllFrom a qs → fits (left_of t) (level_of t) a ≡ true → SomeTakes (level_of t) qs → settle_all qs x ≡ Some y
    → settle (qs ++ ws) x t ≡ None
settle_meets [] ws x y t a from fit some e = absurd some
settle_meets (q ∷ qs) ws x y t a from fit some e =
    let s = settle_all_step q qs x y e in
    let goes : yields q.by t ≡ true = fits_up (left_of t) (level_of t) a (level_of q.by) fit from.0 in
    ⊎_elim
    (λ stays. settle_clash q (qs ++ ws) x t stays goes)
    (λ leaves. settle_close q (qs ++ ws) x t leaves goes s.0 ∙ settle_meets qs ws (closed q x) y t a from.1 fit (⊎_elim (λ h. absurd (both (takes q (level_of t)) h leaves)) (λ h. h) some) s.1)
    (cases_Bool (waits q.by t))

pub settle_below : (qs : List Waiting) (w : Waiting) (ws : List Waiting) (x y : Settled) (t : Sign) (a : Level) → AllFrom a qs → fits (left_of t) (level_of t) a ≡ true → settle_all qs x ≡ Some y
    → waits w.by t ≡ true → yields w.by t ≡ true → settle (qs ++ w ∷ ws) x t ≡ None
settle_below [] w ws x y t a from fit e stays goes = settle_clash w ws x t stays goes
settle_below (q ∷ qs) w ws x y t a from fit e stays goes =
    let s = settle_all_step q qs x y e in
    let out : yields q.by t ≡ true = fits_up (left_of t) (level_of t) a (level_of q.by) fit from.0 in
    ⊎_elim
    (λ waits_too. settle_clash q (qs ++ w ∷ ws) x t waits_too out)
    (λ leaves. settle_close q (qs ++ w ∷ ws) x t leaves out s.0 ∙ settle_below qs w ws (closed q x) y t a from.1 fit s.1 stays goes)
    (cases_Bool (waits q.by t))
