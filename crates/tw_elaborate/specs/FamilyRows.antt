-- Rows of arguments of a family, elaborated one after another.
use Rattle.std.specs.Prelude.{◌≡◌, ℕ, List, [], ◌∷◌}
use Rattle.lf.specs.Entries.{Entry}
use Rattle.lf.specs.Syntax.{Kind, LfType, Spine}
use Rattle.lf_elaboration.specs.Elaboration.{ElaboratesFamily}
use Rattle.lf_elaboration.specs.State.{State}
use Rattle.lf_elaboration.specs.Written.{Written, WrittenType, family_applied}

-- what is written on arguments, the last one first
abbrev pub family_applied_to : WrittenType → List Written → WrittenType
family_applied_to U [] = U
family_applied_to U (P ∷ Ps) = family_applied (family_applied_to U Ps) P

-- of W, all but the arguments Ps is elaborated: the family a on S, with the kind K that is left
pub record FamilyReached (es : List Entry) (frees : List ℕ) (D : List LfType) (W : WrittenType) (s : State) (Ps : List Written) (s' : State) (a : ℕ) (S : Spine) (K : Kind) : Type 0 where
  pub so_far : WrittenType
  pub is : family_applied_to so_far Ps ≡ W
  pub elaborated : ElaboratesFamily es frees D so_far s s' a S K
