-- Where the innermost variable of a name stands.
use Rattle.std.specs.Prelude.{◌≡◌, ℕ, List, [], ◌∷◌, length, Option, Some, None, cond}
use Rattle.tw_fixity.specs.Names.{is_name}
use Rattle.tw_fixity.specs.declared.scope.Binder.{Binder}

-- how many variables stand outside it, in a scope with the innermost in front
abbrev pub place_of : List Binder → List ℕ → Option ℕ
place_of [] x = None
place_of (b ∷ bs) x = cond (is_name b.name x) (Some (length bs)) (place_of bs x)

-- where the next variable of a name stands
abbrev pub place_behind : Option (List ℕ) → List Binder → Option ℕ
place_behind (Some x) bs = place_of bs x
place_behind None bs = None

-- each variable knows the next one of its name
abbrev pub AreShadowed : List Binder → Type 0
AreShadowed [] = Unit {0}
AreShadowed (b ∷ bs) = (b.shadowed ≡ place_behind b.name bs) × AreShadowed bs
