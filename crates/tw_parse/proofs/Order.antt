-- The order of levels, and what fits on the side of a sign.
use Rattle.std.proofs.Common.{◌≡◌, ℕ, Bool, true, false, not, ◌&&◌, nat_le, refl, ⊎_elim, arith}
use Rattle.std.proofs.lemmas.Bool.{cases_Bool}
use Rattle.std.proofs.lemmas.Bool.Decides.{nat_tests}
use Rattle.tw_parse.specs.Signs.{is_from, is_above, fits, level_of}
use Rattle.tw_parse.specs.declared.sign.Sign.{Sign}
use Rattle.tw_parse.specs.declared.sign.Sign.TheVariants.{Separator, Operator}
use Rattle.tw_parse.specs.declared.sign.Level.{Level}
use Rattle.tw_parse.specs.declared.sign.Level.TheVariants as levels
use Rattle.tw_parse.specs.declared.sign.Side.{Side}
use Rattle.tw_parse.specs.declared.sign.Side.TheVariants.{Absent, Above, From}
use Rattle.tw_parse.specs.declared.words.Separator.TheVariants.{Forward, Backward, Colon}
use Rattle.tw_fixity.specs.declared.table.Fix.TheVariants.{Infix, Prefix, Postfix}

le_trans : (p q r : ℕ) → nat_le p q ≡ true → nat_le q r ≡ true → nat_le p r ≡ true
le_trans p q r e f = grind (arith, nat_tests)

le_refl : (p : ℕ) → nat_le p p ≡ true
le_refl p = grind (arith, nat_tests)

pub from_refl : (l : Level) → is_from l l ≡ true
from_refl levels.Ascription = refl
from_refl levels.Forward = refl
from_refl levels.Backward = refl
from_refl (levels.Operator p) = le_refl p
from_refl levels.Application = refl

pub from_trans : (a b c : Level) → is_from a b ≡ true → is_from b c ≡ true → is_from a c ≡ true
from_trans levels.Ascription b c e f = refl
from_trans levels.Forward levels.Ascription c e f = cc
from_trans levels.Forward levels.Forward levels.Ascription e f = cc
from_trans levels.Forward levels.Forward levels.Forward e f = refl
from_trans levels.Forward levels.Forward levels.Backward e f = cc
from_trans levels.Forward levels.Forward (levels.Operator r) e f = refl
from_trans levels.Forward levels.Forward levels.Application e f = refl
from_trans levels.Forward levels.Backward c e f = cc
from_trans levels.Forward (levels.Operator q) levels.Ascription e f = cc
from_trans levels.Forward (levels.Operator q) levels.Forward e f = cc
from_trans levels.Forward (levels.Operator q) levels.Backward e f = cc
from_trans levels.Forward (levels.Operator q) (levels.Operator r) e f = refl
from_trans levels.Forward (levels.Operator q) levels.Application e f = refl
from_trans levels.Forward levels.Application levels.Ascription e f = cc
from_trans levels.Forward levels.Application levels.Forward e f = cc
from_trans levels.Forward levels.Application levels.Backward e f = cc
from_trans levels.Forward levels.Application (levels.Operator r) e f = cc
from_trans levels.Forward levels.Application levels.Application e f = refl
from_trans levels.Backward levels.Ascription c e f = cc
from_trans levels.Backward levels.Forward c e f = cc
from_trans levels.Backward levels.Backward levels.Ascription e f = cc
from_trans levels.Backward levels.Backward levels.Forward e f = cc
from_trans levels.Backward levels.Backward levels.Backward e f = refl
from_trans levels.Backward levels.Backward (levels.Operator r) e f = refl
from_trans levels.Backward levels.Backward levels.Application e f = refl
from_trans levels.Backward (levels.Operator q) levels.Ascription e f = cc
from_trans levels.Backward (levels.Operator q) levels.Forward e f = cc
from_trans levels.Backward (levels.Operator q) levels.Backward e f = cc
from_trans levels.Backward (levels.Operator q) (levels.Operator r) e f = refl
from_trans levels.Backward (levels.Operator q) levels.Application e f = refl
from_trans levels.Backward levels.Application levels.Ascription e f = cc
from_trans levels.Backward levels.Application levels.Forward e f = cc
from_trans levels.Backward levels.Application levels.Backward e f = cc
from_trans levels.Backward levels.Application (levels.Operator r) e f = cc
from_trans levels.Backward levels.Application levels.Application e f = refl
from_trans (levels.Operator p) levels.Ascription c e f = cc
from_trans (levels.Operator p) levels.Forward c e f = cc
from_trans (levels.Operator p) levels.Backward c e f = cc
from_trans (levels.Operator p) (levels.Operator q) levels.Ascription e f = cc
from_trans (levels.Operator p) (levels.Operator q) levels.Forward e f = cc
from_trans (levels.Operator p) (levels.Operator q) levels.Backward e f = cc
from_trans (levels.Operator p) (levels.Operator q) (levels.Operator r) e f = le_trans p q r e f
from_trans (levels.Operator p) (levels.Operator q) levels.Application e f = refl
from_trans (levels.Operator p) levels.Application levels.Ascription e f = cc
from_trans (levels.Operator p) levels.Application levels.Forward e f = cc
from_trans (levels.Operator p) levels.Application levels.Backward e f = cc
from_trans (levels.Operator p) levels.Application (levels.Operator r) e f = cc
from_trans (levels.Operator p) levels.Application levels.Application e f = refl
from_trans levels.Application levels.Ascription c e f = cc
from_trans levels.Application levels.Forward c e f = cc
from_trans levels.Application levels.Backward c e f = cc
from_trans levels.Application (levels.Operator q) c e f = cc
from_trans levels.Application levels.Application levels.Ascription e f = cc
from_trans levels.Application levels.Application levels.Forward e f = cc
from_trans levels.Application levels.Application levels.Backward e f = cc
from_trans levels.Application levels.Application (levels.Operator r) e f = cc
from_trans levels.Application levels.Application levels.Application e f = refl

and_left : (x y : Bool) → x && y ≡ true → x ≡ true
and_left true y e = refl
and_left false y e = e

and_right : (x y : Bool) → x && y ≡ true → y ≡ true
and_right true y e = e
and_right false y e = cc

not_true : (x : Bool) → not x ≡ true → x ≡ false
not_true true e = cc
not_true false e = refl

and_not : (x y : Bool) → x ≡ true → y ≡ false → x && not y ≡ true
and_not true false e f = refl
and_not true true e f = cc
and_not false y e f = cc

pub both : (b : Bool) → b ≡ true → b ≡ false → ⊥
both true e f = cc
both false e f = cc

-- what can't be true is false
pub is_false : (b : Bool) → (b ≡ true → ⊥) → b ≡ false
is_false true h = absurd (h refl)
is_false false h = refl

pub above_from : (a l : Level) → is_above a l ≡ true → is_from a l ≡ true
above_from a l e = and_left (is_from a l) (not (is_from l a)) e

pub above_not : (a l : Level) → is_above a l ≡ true → is_from l a ≡ false
above_not a l e = not_true (is_from l a) (and_right (is_from a l) (not (is_from l a)) e)

above_of : (a l : Level) → is_from a l ≡ true → is_from l a ≡ false → is_above a l ≡ true
above_of a l e f = and_not (is_from a l) (is_from l a) e f

pub fits_from : (S : Side) (a l : Level) → fits S a l ≡ true → is_from a l ≡ true
fits_from Absent a l e = cc
fits_from Above a l e = above_from a l e
fits_from From a l e = e

-- what fits still fits where it is of a higher level
pub fits_up : (S : Side) (a l m : Level) → fits S a l ≡ true → is_from l m ≡ true → fits S a m ≡ true
fits_up Absent a l m e f = cc
fits_up Above a l m e f =
    above_of a m (from_trans a l m (above_from a l e) f) (is_false (is_from m a) (λ g. both (is_from l a) (from_trans l m a f g) (above_not a l e)))
fits_up From a l m e f = from_trans a l m e f

-- a sign to the left of t that doesn't have it on its left doesn't have what t takes there either
pub clean_left : (L M : Side) (w t u : Level) → is_from w t ≡ true → fits L t u ≡ true → fits L t w ≡ false → fits M u w ≡ false
clean_left Absent M w t u e f g = cc
clean_left Above M w t u e f g = is_false (fits M u w) (λ h.
    let above : is_from u w ≡ true = fits_from M u w h in
    let on : is_from t w ≡ true = from_trans t u w (above_from t u f) above in
    ⊎_elim
    (λ k. both (is_from u t) (from_trans u w t above k) (above_not t u f))
    (λ k. both (fits Above t w) (above_of t w on k) g)
    (cases_Bool (is_from w t)))
clean_left From M w t u e f g = is_false (fits M u w) (λ h. both (is_from t w) (from_trans t u w f (fits_from M u w h)) g)

-- a sign that doesn't take a level doesn't take a lower one
pub takes_down : (R : Side) (q t a : Level) → fits R q a ≡ false → is_from t a ≡ true → fits R q t ≡ false
takes_down R q t a e f = is_false (fits R q t) (λ g. both (fits R q a) (fits_up R q t a g f) e)

-- nor one that isn't above a level below its own
pub takes_not_below : (R : Side) (q t a : Level) → is_from a q ≡ true → is_from a t ≡ false → fits R q t ≡ false
takes_not_below R q t a e f = is_false (fits R q t) (λ g. both (is_from a t) (from_trans a q t e (fits_from R q t g)) f)

pub not_above_itself : (l : Level) → is_above l l ≡ false
not_above_itself l = is_false (is_above l l) (λ e. both (is_from l l) (from_refl l) (above_not l l e))

-- no sign has the level of an application
pub no_application : (s : Sign) → is_from levels.Application (level_of s) ≡ true → ⊥
no_application (Separator Forward) e = cc
no_application (Separator Backward) e = cc
no_application (Separator Colon) e = cc
no_application (Operator x at (Infix side p)) e = cc
no_application (Operator x at (Prefix p)) e = cc
no_application (Operator x at (Postfix p)) e = cc
