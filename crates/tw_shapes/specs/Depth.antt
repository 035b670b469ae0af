-- How deep skeletons are.
use Rattle.std.specs.Prelude.{ℕ, suc, max}
use Rattle.lf.specs.Syntax.{Skeleton, base, arrow}

-- How many arrows and bases stand inside one another, at most. A type is as deep as its skeleton, or deeper by its indices.
abbrev pub skeleton_depth : Skeleton → ℕ
skeleton_depth (base c) = 1
skeleton_depth (arrow k l) = suc (max (skeleton_depth k) (skeleton_depth l))
