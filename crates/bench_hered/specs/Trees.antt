-- The constants of the terms: a number, the one after a number, and a pair of two.
use Rattle.std.specs.Prelude.{ℕ, zero, suc, Option, Some, None}
use Rattle.lf.specs.Syntax.{Skeleton, base, arrow}
use Rattle.lf.specs.SkeletonTyping.{HeadSkeletons}

abbrev pub number : Skeleton
number = base 0

abbrev pub constant_skeleton : ℕ → Option Skeleton
constant_skeleton zero = Some number
constant_skeleton (suc zero) = Some (arrow number number)
constant_skeleton (suc (suc c)) = Some (arrow number (arrow number number))

abbrev pub heads : HeadSkeletons
heads = record { constant_skeleton = constant_skeleton; metavariable_skeleton = λ m. None }
