-- Environments, which give each variable of a term a meaning without putting it in: substitutions that are not yet carried out.
use Rattle.std.specs.Prelude.{ℕ, zero, suc, ◌+◌}
use Rattle.lf.specs.Syntax.{Term, Spine, LfType, Skeleton, rename}
use Rattle.lf.specs.Substitution.{Image, keep, put, rename_image, substitute, substitute_spine, substitute_type, reduce}
use Rattle.lf.specs.AtOnce.{shift_by, in_front, lift_by}

-- What stands for the variables of a term: `outside` keeps each; `under n e` keeps the n newest, with e outside them; in `moved n e` what e
-- gives is moved over n more binders; `extended a N c e` gives the newest variable the closure of the term N, of the skeleton a, in c, and e gives the others.
pub data Environment : Type 0 where
  outside : Environment
  under : ℕ → Environment → Environment
  moved : ℕ → Environment → Environment
  extended : Skeleton → Term → Environment → Environment → Environment

-- the substitution that an environment stands for
abbrev pub substitution_in : Environment → ℕ → Image
substitution_in outside = keep
substitution_in (under n e) = lift_by n (substitution_in e)
substitution_in (moved n e) = λ i. rename_image (shift_by n) (substitution_in e i)
substitution_in (extended a N c e) = in_front (put a (substitute reduce (substitution_in c) N)) (substitution_in e)

-- e with one more binder around what it gives
abbrev pub under_one_more : Environment → Environment
under_one_more outside = under 1 outside
under_one_more (under n e) = under (n + 1) e
under_one_more (moved n e) = under 1 (moved n e)
under_one_more (extended a N c e) = under 1 (extended a N c e)

-- e moved over n binders, with no move on a move
abbrev pub move_by : ℕ → Environment → Environment
move_by zero e = e
move_by (suc n) outside = moved (suc n) outside
move_by (suc n) (under m e) = moved (suc n) (under m e)
move_by (suc n) (moved m e) = moved (m + suc n) e
move_by (suc n) (extended a N c e) = moved (suc n) (extended a N c e)

-- What an environment has for a variable: a variable, or a closure that is still to be moved over n binders.
pub data Found : Type 0 where
  stays : ℕ → Found
  closure : Skeleton → Term → Environment → ℕ → Found

-- the same, moved over n more binders
abbrev pub found_under : ℕ → Found → Found
found_under n (stays i) = stays (i + n)
found_under n (closure a N c m) = closure a N c (m + n)

-- the n newest variables stay, and f has the others, from outside
abbrev pub stays_or : ℕ → (ℕ → Found) → ℕ → Found
stays_or zero f i = f i
stays_or (suc n) f zero = stays zero
stays_or (suc n) f (suc i) = found_under 1 (stays_or n f i)

abbrev pub found : Environment → ℕ → Found
found outside i = stays i
found (under n e) i = stays_or n (found e) i
found (moved n e) i = found_under n (found e i)
found (extended a N c e) zero = closure a N c 0
found (extended a N c e) (suc i) = found e i

-- the image that it stands for
abbrev pub image_of_found : Found → Image
image_of_found (stays i) = keep i
image_of_found (closure a N c n) = put a (rename (shift_by n) (substitute reduce (substitution_in c) N))

-- the canonical form of a term in an environment
abbrev pub value_in : Environment → Term → Term
value_in e M = substitute reduce (substitution_in e) M

abbrev pub spine_value_in : Environment → Spine → Spine
spine_value_in e S = substitute_spine reduce (substitution_in e) S

-- that of the term N, of the skeleton a, in e, applied to the spine S in c
abbrev pub applied_in : Skeleton → Term → Environment → Spine → Environment → Term
applied_in a N e S c = reduce a (value_in e N) (spine_value_in c S)

abbrev pub type_value_in : Environment → LfType → LfType
type_value_in e A = substitute_type reduce (substitution_in e) A
