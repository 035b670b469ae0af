-- The values of the metavariables with all bindings put in, and terms in environments with these values put in.
use Rattle.std.specs.Prelude.{ℕ, zero, suc, List, [], ◌∷◌, length, Option, Some, None, option_map, nat_eq, if◌then◌else◌}
use Rattle.lf.specs.AtOnce.{shift_by}
use Rattle.lf.specs.Syntax.{Term, Spine, LfType, Skeleton}
use Rattle.lf_closures.specs.Environments.{Environment, value_in, spine_value_in, type_value_in}
use Rattle.lf_unification.specs.Filling.{fill, fill_spine, fill_type, moved}
use Rattle.lf_unification.specs.OpenTyping.{skeletons_of}
use Rattle.lf_unification.specs.Unifiers.{Binding}
use Rattle.tw_metas.specs.State.{State}
use Rattle.tw_putting.specs.Stores.{types_of, bindings_of}

-- the value that a list of bindings has for a metavariable
abbrev pub bound_to : List Binding → ℕ → Option Term
bound_to [] m = None
bound_to (b ∷ bs) m = if nat_eq b.of m then Some b.value else bound_to bs m

-- the values, with values put in n levels down
unfoldable pub values_to : (ℕ → Skeleton) → List Binding → ℕ → ℕ → Option Term
values_to μ bs zero m = None
values_to μ bs (suc n) m = option_map (fill μ (values_to μ bs n)) (bound_to bs m)

-- All values, moved over k binders. No value goes down more levels than there are bindings.
unfoldable pub values_under : State → ℕ → ℕ → Option Term
values_under s k = moved (shift_by k) (values_to (skeletons_of (types_of s)) (bindings_of s) (length (bindings_of s)))

-- the term in the environment, with the values put in, under k binders
unfoldable pub put_value : State → ℕ → Environment → Term → Term
put_value s k e M = fill (skeletons_of (types_of s)) (values_under s k) (value_in e M)

unfoldable pub put_spine_value : State → ℕ → Environment → Spine → Spine
put_spine_value s k e S = fill_spine (skeletons_of (types_of s)) (values_under s k) (spine_value_in e S)

unfoldable pub put_type_value : State → ℕ → Environment → LfType → LfType
put_type_value s k e A = fill_type (skeletons_of (types_of s)) (values_under s k) (type_value_in e A)
