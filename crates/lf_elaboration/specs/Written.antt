-- What is written, with its names resolved and told the skeletons of what isn't written, and where in the text each thing stands that may make a metavariable.
use Rattle.std.specs.Prelude.{ℕ}
use Rattle.lf.specs.Syntax.{Skeleton}

-- a place of a text, by line and column
pub record Place : Type 0 where
  pub line : ℕ
  pub column : ℕ

mutual
  -- a free variable, by its place among them; a variable in scope, the newest first; a constant or a definition; a hole for a term of a type of this skeleton;
  -- [x] M; M P; M : A
  pub data Written : Type 0 where
    free : ℕ → Place → Written
    bound : ℕ → Written
    declared : ℕ → Place → Written
    hole : Skeleton → Place → Written
    function : WrittenDomain → Written → Written
    applied : Written → Written → Written
    ascribed : Written → WrittenType → Written

  -- the type at a binder, or the skeleton that it has where it isn't written, with the place of its bracket
  pub data WrittenDomain : Type 0 where
    of_skeleton : Skeleton → Place → WrittenDomain
    of_type : WrittenType → WrittenDomain

  -- A hole for a type of this skeleton; U -> V, whose variable isn't in scope in V; {x:D} V; a family; a family on an argument; a family or type : K
  pub data WrittenType : Type 0 where
    type_hole : Skeleton → Place → WrittenType
    arrow : WrittenType → WrittenType → WrittenType
    quantified : WrittenDomain → WrittenType → WrittenType
    family : ℕ → Place → WrittenType
    family_applied : WrittenType → Written → WrittenType
    family_ascribed : WrittenType → WrittenKind → WrittenType

  pub data WrittenKind : Type 0 where
    written_star : WrittenKind
    kind_arrow : WrittenType → WrittenKind → WrittenKind
    kind_quantified : WrittenDomain → WrittenKind → WrittenKind
