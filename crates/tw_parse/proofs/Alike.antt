-- Whether items are read hangs on their signs alone.
use Rattle.std.proofs.Common.{◌≡◌, List, [], ◌∷◌, map, Bool, true, false, ◌&&◌, Option, None, Some, if◌then◌else◌, refl, sym, ap, ◌∙◌}
use Rattle.std.specs.Option.{option_map}
use Rattle.tw_parse.specs.Grammar.{Item, atom, sign}
use Rattle.tw_parse.specs.Piles.{Waiting, Settled, State, waits, yields, takes, closed, settle, settle_all, with_atom, with_sign, behind_side, step, run, outcome, reading, is_application, is_absent, newest_takes}
use Rattle.tw_parse.specs.Readings.{sign_in}
use Rattle.tw_parse.specs.Signs.{fits, level_of, left_of, right_of}
use Rattle.tw_parse.specs.Syntax.{Term}
use Rattle.tw_parse.specs.declared.sign.Sign.{Sign}
use Rattle.tw_parse.specs.declared.sign.Level.{Level}
use Rattle.tw_parse.specs.declared.sign.Level.TheVariants as levels

-- the signs and levels of what is read
abbrev by_of : Waiting → Sign
by_of w = w.by

abbrev level_in : Settled → Level
level_in x = x.level

abbrev Frame : Type 0
Frame = Option (List Sign × Level)

abbrev frame_of : Option (List Waiting × Settled) → Frame
frame_of None = None
frame_of (Some p) = Some (map by_of p.0, p.1.level)

abbrev Shape : Type 0
Shape = Option (List Sign × Option Level)

abbrev shape_of : State → Shape
shape_of None = None
shape_of (Some p) = Some (map by_of p.0, option_map level_in p.1)

abbrev takes_level : Sign → Level → Bool
takes_level s l = fits (right_of s) (level_of s) l

settle_shape : List Sign → Level → Sign → Frame
settle_shape [] l t = Some ([], l)
settle_shape (s ∷ ss) l t = if waits s t then (if yields s t then None else Some (s ∷ ss, l)) else if yields s t && takes_level s l then settle_shape ss (level_of s) t else None

settle_all_shape : List Sign → Level → Bool
settle_all_shape [] l = true
settle_all_shape (s ∷ ss) l = if takes_level s l then settle_all_shape ss (level_of s) else false

newest_shape : List Sign → Level → Bool
newest_shape [] l = true
newest_shape (s ∷ ss) l = takes_level s l

atom_shape : List Sign → Option Level → Shape
atom_shape ss None = Some (ss, Some levels.Application)
atom_shape ss (Some l) = if is_application l then Some (ss, Some levels.Application) else None

behind_shape : Sign → Frame → Shape
behind_shape t None = None
behind_shape t (Some p) = if fits (left_of t) (level_of t) p.1 then (if is_absent (right_of t) then Some (p.0, Some (level_of t)) else Some (t ∷ p.0, None)) else None

sign_shape : List Sign → Option Level → Sign → Shape
sign_shape ss None t = if is_absent (left_of t) && newest_shape ss (level_of t) then Some (t ∷ ss, None) else None
sign_shape ss (Some l) t = behind_shape t (settle_shape ss l t)

item_shape : List Sign → Option Level → Option Sign → Shape
item_shape ss l None = atom_shape ss l
item_shape ss l (Some t) = sign_shape ss l t

step_shape : Shape → Option Sign → Shape
step_shape None i = None
step_shape (Some p) i = item_shape p.0 p.1 i

run_shape : Shape → List (Option Sign) → Shape
run_shape st [] = st
run_shape st (i ∷ is) = run_shape (step_shape st i) is

outcome_shape : Shape → Bool
outcome_shape None = false
outcome_shape (Some (ss, None)) = false
outcome_shape (Some (ss, Some l)) = settle_all_shape ss l

-- whether there is a reading
abbrev pub is_read : Option Settled → Bool
is_read None = false
is_read (Some x) = true

settle_frames : (b c d : Bool) (all : List Waiting) (x : Settled) (rest : Option (List Waiting × Settled)) (rest' : Frame) → frame_of rest ≡ rest'
    → frame_of (if b then (if c then None else Some (all, x)) else if c && d then rest else None) ≡ (if b then (if c then None else Some (map by_of all, x.level)) else if c && d then rest' else None)
settle_frames true true d all x rest rest' e = refl
settle_frames true false d all x rest rest' e = refl
settle_frames false true true all x rest rest' e = e
settle_frames false true false all x rest rest' e = refl
settle_frames false false d all x rest rest' e = refl

settle_alike : (ws : List Waiting) (x : Settled) (t : Sign) → frame_of (settle ws x t) ≡ settle_shape (map by_of ws) x.level t
unfolding settle_shape
settle_alike [] x t = refl
settle_alike (w ∷ ws) x t = settle_frames (waits w.by t) (yields w.by t) (takes w x.level) (w ∷ ws) x (settle ws (closed w x) t) (settle_shape (map by_of ws) (level_of w.by) t) (settle_alike ws (closed w x) t)

read_if : (b : Bool) (rest : Option Settled) (rest' : Bool) → is_read rest ≡ rest' → is_read (if b then rest else None) ≡ (if b then rest' else false)
read_if true rest rest' e = e
read_if false rest rest' e = refl

settle_all_alike : (ws : List Waiting) (x : Settled) → is_read (settle_all ws x) ≡ settle_all_shape (map by_of ws) x.level
unfolding settle_all_shape
settle_all_alike [] x = refl
settle_all_alike (w ∷ ws) x = read_if (takes w x.level) (settle_all ws (closed w x)) (settle_all_shape (map by_of ws) (level_of w.by)) (settle_all_alike ws (closed w x))

shape_if : (b : Bool) (st : State) (st' : Shape) → shape_of st ≡ st' → shape_of (if b then st else None) ≡ (if b then st' else None)
shape_if true st st' e = e
shape_if false st st' e = refl

shape_either : (b : Bool) (st tu : State) → shape_of (if b then st else tu) ≡ (if b then shape_of st else shape_of tu)
shape_either true st tu = refl
shape_either false st tu = refl

atom_alike : (ws : List Waiting) (x : Option Settled) (N : Term) → shape_of (with_atom ws x N) ≡ atom_shape (map by_of ws) (option_map level_in x)
unfolding atom_shape
atom_alike ws None N = refl
atom_alike ws (Some x) N = shape_if (is_application x.level) _ (Some (map by_of ws, Some levels.Application)) refl

behind_alike : (t : Sign) (o : Option (List Waiting × Settled)) → shape_of (behind_side t o) ≡ behind_shape t (frame_of o)
unfolding behind_shape
behind_alike t None = refl
behind_alike t (Some p) =
    shape_if (fits (left_of t) (level_of t) p.1.level) _ (if is_absent (right_of t) then Some (map by_of p.0, Some (level_of t)) else Some (t ∷ map by_of p.0, None)) (shape_either (is_absent (right_of t)) _ _)

newest_alike : (ws : List Waiting) (l : Level) → newest_takes ws l ≡ newest_shape (map by_of ws) l
unfolding newest_shape
newest_alike [] l = refl
newest_alike (w ∷ ws) l = refl

sign_alike : (ws : List Waiting) (x : Option Settled) (t : Sign) → shape_of (with_sign ws x t) ≡ sign_shape (map by_of ws) (option_map level_in x) t
unfolding sign_shape
sign_alike ws None t =
    shape_if (is_absent (left_of t) && newest_takes ws (level_of t)) _ (Some (t ∷ map by_of ws, None)) refl
    ∙ ap (λ b. if is_absent (left_of t) && b then Some (t ∷ map by_of ws, None) else None) (newest_alike ws (level_of t))
sign_alike ws (Some x) t = behind_alike t (settle ws x t) ∙ ap (behind_shape t) (settle_alike ws x t)

step_alike : (st : State) (i : Item) → shape_of (step st i) ≡ step_shape (shape_of st) (sign_in i)
unfolding step_shape item_shape
step_alike None i = refl
step_alike (Some p) (atom N) = atom_alike p.0 p.1 N
step_alike (Some p) (sign t) = sign_alike p.0 p.1 t

run_alike : (st : State) (items : List Item) → shape_of (run st items) ≡ run_shape (shape_of st) (map sign_in items)
unfolding run_shape
run_alike st [] = refl
run_alike st (i ∷ is) = run_alike (step st i) is ∙ ap (λ s. run_shape s (map sign_in is)) (step_alike st i)

outcome_alike : (st : State) → is_read (outcome st) ≡ outcome_shape (shape_of st)
unfolding outcome_shape
outcome_alike None = refl
outcome_alike (Some (ws, None)) = refl
outcome_alike (Some (ws, Some x)) = settle_all_alike ws x

reading_shape : (items : List Item) → is_read (reading items) ≡ outcome_shape (run_shape (Some ([], None)) (map sign_in items))
reading_shape items = outcome_alike (run (Some ([], None)) items) ∙ ap outcome_shape (run_alike (Some ([], None)) items)

pub reading_alike : (items others : List Item) → map sign_in others ≡ map sign_in items → is_read (reading others) ≡ is_read (reading items)
reading_alike items others e = reading_shape others ∙ ap (λ signs. outcome_shape (run_shape (Some ([], None)) signs)) e ∙ sym (reading_shape items)
