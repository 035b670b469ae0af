-- The text of an equation that is left. Its metavariables are shown as variables of a context: the types of some may mention others, so these come first.
use Rattle.std.specs.Prelude.{ℕ, zero, suc, List, [], ◌∷◌, ◌++◌, length, map, Option, Some, None, is_some, cond, slice_get}
use Rattle.std.specs.Option.{option_map}
use Rattle.lf.specs.Syntax.{LfType, Term}
use Rattle.tw_abstract.specs.Generalizing.{both, generalized, generalized_type}
use Rattle.tw_abstract.specs.Positions.{first_of, index}
use Rattle.tw_print.specs.Names.{Scene, lower_base}
use Rattle.tw_print.specs.Shown.{equal_text, hint_in, quantifier_name}
use Rattle.tw_fixity.specs.Names.{Names as Scope}
use Rattle.tw_shown.specs.Naming.{named}
use Rattle.tw_shown.specs.Shown.{is_shown, outer, outside, shown_in_term}
use Rattle.lf_unification.specs.Unifiers.{Equation}

-- metavariables as variables: their numbers, the outermost first, and their types, the innermost first
pub record Laid : Type 0 where
  pub order : List ℕ
  pub context : List LfType

-- the type of metavariable k, if this is not laid out and the type mentions only such as are
abbrev pub ready_type : List ℕ → ℕ → LfType → Option LfType
ready_type order k A = cond (is_some (index order k)) None (generalized_type (index order) zero A)

-- the first of which this holds, from number k on, with its type
abbrev pub next_one : List ℕ → ℕ → List (List LfType × LfType) → Option (ℕ × LfType)
next_one order k [] = None
next_one order k (m ∷ ms) = first_of (option_map (λ B. (k, B)) (ready_type order k m.1)) (next_one order (suc k) ms)

abbrev pub with_one : Laid → ℕ × LfType → Laid
with_one l m = record { order = l.order ++ m.0 ∷ []; context = m.1 ∷ l.context }

-- so many more, one after the other; none where one can't be found
abbrev pub laid_out : ℕ → List (List LfType × LfType) → Laid → Option Laid
laid_out zero metas l = Some l
laid_out (suc n) metas l =
    elim (next_one l.order zero metas) [
      | Some m ↦ laid_out n metas (with_one l m)
      | None ↦ None
    ]

-- the names, each in front of those before it
abbrev pub onto : List (Option (List ℕ)) → Scope → Scope
onto [] ns = ns
onto (x ∷ xs) ns = onto xs (x ∷ ns)

-- the given names of metavariables in this order
abbrev pub given_names : List (Option (List ℕ)) → List ℕ → Scope
given_names names order = onto (map (λ k. hint_in (slice_get names k)) order) []

-- Their names once these variables are shown: one without a given name takes a name when it is first shown. Given names are taken.
abbrev pub meta_names : Scene → Laid → List (Option (List ℕ)) → List ℕ → Scope
meta_names s l names shown = named s l.context (record { names = given_names names l.order; taken = onto names [] }) shown

-- the types of the local context, with variables for metavariables
abbrev pub local_types : (ℕ → Option ℕ) → List LfType → Option (List LfType)
local_types f [] = Some []
local_types f (A ∷ D) = both (λ B E. B ∷ E) (generalized_type f (length D) A) (local_types f D)

-- Local variables that are shown have names like any other variable, the outermost first.
abbrev pub with_locals : Scene → List LfType → List ℕ → Scope → Scope
with_locals s [] shown ns = ns
with_locals s (A ∷ E) shown ns = let further_out = with_locals s E (outer shown) ns in quantifier_name s further_out (is_shown zero shown) (lower_base s A) ∷ further_out

abbrev pub or_nothing : {A : Type 0} → Option A → (A → List ℕ) → List ℕ
or_nothing None f = []
or_nothing (Some x) f = f x

-- the variables that the text shows, from the left
abbrev pub shown_in_sides : Scene → List LfType → Term → Term → LfType → List ℕ
shown_in_sides s G M N T = shown_in_term s G M T ++ shown_in_term s G N T

-- `M = N`, where all metavariables are laid out. Who isn't shown and has no given name has none.
abbrev pub text_of : Scene → Laid → List (Option (List ℕ)) → List LfType → Term → Term → LfType → List ℕ
text_of s l names E M N T =
    let G = E ++ l.context in
    let shown = shown_in_sides s G M N T in
    equal_text s G (with_locals s E shown (meta_names s l names (outside (length E) shown))) M N T

-- `M = N`. There is none where metavariables need each other, which those of a store don't.
unfoldable pub equation_text : Scene → List (List LfType × LfType) → List (Option (List ℕ)) → Equation → List ℕ
equation_text s metas names e =
    or_nothing (laid_out (length metas) metas (record { order = []; context = [] })) (λ l.
    or_nothing (local_types (index l.order) e.local) (λ E.
    or_nothing (generalized (index l.order) (length e.local) e.left) (λ M.
    or_nothing (generalized (index l.order) (length e.local) e.right) (λ N.
    or_nothing (generalized_type (index l.order) (length e.local) e.of_type) (λ T.
    text_of s l names E M N T)))))
