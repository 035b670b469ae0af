-- The store of unification that a state of the metavariables stands for.
use Rattle.std.specs.Prelude.{◌≡◌, ℕ, ◌<◌, List, [], ◌∷◌, Option, Some, None, slice_get}
use Rattle.std.specs.Option.{option_map}
use Rattle.lf.specs.Depth.{depth, spine_depth, type_depth, depth_limit}
use Rattle.lf.specs.Subordination.{Member}
use Rattle.lf.specs.Syntax.{Term, Spine, LfType}
use Rattle.lf_unification.specs.OpenTyping.{MetavariablesIn, MetavariablesInSpine, MetavariablesInType}
use Rattle.lf_unification.specs.Putting.{PutsIn, PutsInSpine, PutsInType, Unbound}
use Rattle.lf_unification.specs.Unifiers.{Binding, Store}
use Rattle.tw_metas.specs.State.{State, joined, value_of}

-- the types of the metavariables
abbrev pub types_of : State → ℕ → Option LfType
types_of s m = option_map (λ d. d.of_type) (slice_get s.declared m)

-- one binding more, where there is a value
abbrev pub with_binding : ℕ → Option Term → List Binding → List Binding
with_binding m None bs = bs
with_binding m (Some N) bs = record { of = m; value = N } ∷ bs

-- the bindings of these metavariables, in order
abbrev pub bindings_from : List ℕ → List (Option Term) → List Binding
bindings_from [] vs = []
bindings_from (m ∷ ms) vs = with_binding m (joined (slice_get vs m)) (bindings_from ms vs)

-- all bindings, the newest in front
abbrev pub bindings_of : State → List Binding
bindings_of s = bindings_from s.bound s.values

abbrev pub store_of : State → Store
store_of s = record { metavariables = types_of s; bindings = bindings_of s; equations = s.equations }

-- what has a value is one of those that were bound
abbrev pub ValuesAreBound : State → Type 0
ValuesAreBound s = (m : ℕ) (N : Term) → value_of s m ≡ Some N → Member m s.bound

-- and what was bound has a value
abbrev pub BoundHaveValues : State → Type 0
BoundHaveValues s = (m : ℕ) → Member m s.bound → (N : Term) × (value_of s m ≡ Some N)

-- no metavariable of the term is bound
unfoldable pub AllIn : State → Term → Type 0
AllIn s M = MetavariablesIn (Unbound (bindings_of s)) M

unfoldable pub SpineAllIn : State → Spine → Type 0
SpineAllIn s S = MetavariablesInSpine (Unbound (bindings_of s)) S

unfoldable pub TypeAllIn : State → LfType → Type 0
TypeAllIn s A = MetavariablesInType (Unbound (bindings_of s)) A

-- the bindings of the state, put into a term under k binders, give M'
abbrev pub Puts : State → ℕ → Term → Term → Type 0
Puts s k M M' = PutsIn (types_of s) (bindings_of s) k M M'

abbrev pub PutsSpine : State → ℕ → Spine → Spine → Type 0
PutsSpine s k S S' = PutsInSpine (types_of s) (bindings_of s) k S S'

abbrev pub PutsType : State → ℕ → LfType → LfType → Type 0
PutsType s k A A' = PutsInType (types_of s) (bindings_of s) k A A'

-- what they give is deeper than 4,096
abbrev pub PutsDeep : State → ℕ → Term → Type 0
PutsDeep s k M = (M' : Term) × Puts s k M M' × (depth_limit < depth M')

abbrev pub PutsDeepSpine : State → ℕ → Spine → Type 0
PutsDeepSpine s k S = (S' : Spine) × PutsSpine s k S S' × (depth_limit < spine_depth S')

abbrev pub PutsDeepType : State → ℕ → LfType → Type 0
PutsDeepType s k A = (A' : LfType) × PutsType s k A A' × (depth_limit < type_depth A')
