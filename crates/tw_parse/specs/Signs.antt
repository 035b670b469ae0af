-- The levels of terms, and what may stand on the sides of a sign.
use Rattle.std.specs.Prelude.{Bool, true, false, not, ◌&&◌, Option, None, Some, nat_le}
use Rattle.tw_fixity.specs.declared.table.Assoc.TheVariants.{Left, Right}
use Rattle.tw_fixity.specs.declared.table.Fix.TheVariants.{Infix, Prefix, Postfix}
use Rattle.tw_parse.specs.declared.words.Separator.TheVariants.{Forward, Backward, Colon}
use Rattle.tw_parse.specs.declared.sign.Sign.{Sign}
use Rattle.tw_parse.specs.declared.sign.Sign.TheVariants.{Separator, Operator}
use Rattle.tw_parse.specs.declared.sign.Level.{Level}
use Rattle.tw_parse.specs.declared.sign.Level.TheVariants as levels
use Rattle.tw_parse.specs.declared.sign.Side.{Side}
use Rattle.tw_parse.specs.declared.sign.Side.TheVariants.{Absent, Above, From}

-- `is_from own level`: the level is this one or above it. An ascription is below all; the two arrows stand side by side above it;
-- above both are the operators by their precedences; and above all is application
abbrev pub is_from : Level → Level → Bool
is_from levels.Ascription level = true
is_from levels.Forward levels.Forward = true
is_from levels.Forward (levels.Operator q) = true
is_from levels.Forward levels.Application = true
is_from levels.Forward _ = false
is_from levels.Backward levels.Backward = true
is_from levels.Backward (levels.Operator q) = true
is_from levels.Backward levels.Application = true
is_from levels.Backward _ = false
is_from (levels.Operator p) (levels.Operator q) = nat_le p q
is_from (levels.Operator p) levels.Application = true
is_from (levels.Operator p) _ = false
is_from levels.Application levels.Application = true
is_from levels.Application _ = false

-- a level above this one
abbrev pub is_above : Level → Level → Bool
is_above own level = is_from own level && not (is_from level own)

-- whether a term of this level may stand on such a side of a sign with its own level
abbrev pub fits : Side → Level → Level → Bool
fits Absent own level = false
fits Above own level = is_above own level
fits From own level = is_from own level

-- The table of signs. Their levels:
abbrev pub level_of : Sign → Level
level_of (Separator Forward) = levels.Forward
level_of (Separator Backward) = levels.Backward
level_of (Separator Colon) = levels.Ascription
level_of (Operator x at (Infix side p)) = levels.Operator p
level_of (Operator x at (Prefix p)) = levels.Operator p
level_of (Operator x at (Postfix p)) = levels.Operator p

-- what stands on the left: `a <- b <- c`, `a : b : c` and left infix operators go on there
abbrev pub left_of : Sign → Side
left_of (Separator Forward) = Above
left_of (Separator Backward) = From
left_of (Separator Colon) = From
left_of (Operator x at (Infix Left p)) = From
left_of (Operator x at (Infix side p)) = Above
left_of (Operator x at (Prefix p)) = Absent
left_of (Operator x at (Postfix p)) = From

-- what stands on the right: `a -> b -> c`, right infix operators and prefix operators go on there
abbrev pub right_of : Sign → Side
right_of (Separator Forward) = From
right_of (Separator Backward) = Above
right_of (Separator Colon) = Above
right_of (Operator x at (Infix Right p)) = From
right_of (Operator x at (Infix side p)) = Above
right_of (Operator x at (Prefix p)) = From
right_of (Operator x at (Postfix p)) = Absent

-- the level of a term, by the sign of its outermost form; an atom and an application have none
abbrev pub outer_level : Option Sign → Level
outer_level None = levels.Application
outer_level (Some s) = level_of s
