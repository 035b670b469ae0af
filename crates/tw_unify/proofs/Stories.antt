-- Stories with changes that are not taken back, and stacks of equations.
use Rattle.std.proofs.Common.{◌≡◌, ℕ, zero, suc, ◌<◌, List, [], ◌∷◌, ◌++◌, length, map, reverse, append_assoc, None, refl, sym, ap, ◌∙◌, subst, arith}
use Rattle.std.proofs.lemmas.List.{map-append, reverse-append}
use Rattle.std.specs.List.{slice_get}
use Rattle.std.specs.Option.{option_map}
use Rattle.lf.specs.Syntax.{LfType, Spine, Term, metavariable, root}
use Rattle.lf_unification.specs.Lists.{followed}
use Rattle.lf_unification.specs.OpenTyping.{skeletons_of}
use Rattle.lf_unification.specs.Patterns.{lambdas_of}
use Rattle.lf_unification.specs.Skeletons.{skeleton_or_default}
use Rattle.tw_metas.specs.State.{Declaration, IsUnbound, State, Story, changed, states, with_declared, with_value}
use Rattle.tw_metas.specs.View.{equation_of}
use Rattle.tw_metas.specs.declared.equation.Equation.{Equation}
use Rattle.tw_putting.specs.Stores.{types_of}
use Rattle.tw_unify.specs.Flexible.{pruned_state}
use Rattle.tw_unify.specs.Outcomes.{stacked}
use Rattle.tw_putting.specs.Ready.{IsLater}
use Rattle.tw_putting.specs.Whole.{IsConsistent}
use Rattle.tw_putting.proofs.Changes.{within}

pub later_nothing : (a b : Story) → b ≡ a → IsLater a b
later_nothing a b e = ([], ap states e)

pub later_changed : (a b : Story) (t : State) → b ≡ changed a t → IsLater a b
later_changed a b t e = (t ∷ [], ap states e)

pub later_then : (a b c : Story) → IsLater a b → IsLater b c → IsLater a c
later_then a b c (ms, e) (ns, f) = (ns ++ ms, f ∙ ap (λ xs. ns ++ xs) e ∙ sym (append_assoc ns ms (states a)))

pub stacked_push : (es fs : List Equation) (e : Equation) → fs ≡ es ++ e ∷ [] → stacked fs ≡ equation_of e ∷ stacked es
stacked_push es fs e h = ap stacked h ∙ ap reverse (map-append equation_of es (e ∷ [])) ∙ reverse-append (map equation_of es) (equation_of e ∷ [])

front_same : {A : Type 0} (xs ys : List A) (k : ℕ) → k < length xs → slice_get (xs ++ ys) k ≡ slice_get xs k
front_same [] ys k h = absurd (omega arith)
front_same (x ∷ xs) ys zero h = refl
front_same (x ∷ xs) ys (suc k) h = front_same xs ys k (omega arith)

-- a metavariable bound to a new one
pub pruned_by : (s f : State) (m n : ℕ) (Y : LfType) (S : Spine) (G : List LfType) (V : Term) → IsConsistent s → IsUnbound s m → G ≡ [] → f ≡ with_declared s G Y → n ≡ length s.declared
    → V ≡ lambdas_of (skeletons_of (types_of f) m) (root (metavariable n) S) → with_value f m V ≡ pruned_state s m Y S
pruned_by s f m n Y S G V c u g e k v =
    let place : m < length s.declared = subst (λ j. m < j) c.places (within s.values m None u) in
    let state : f ≡ with_declared s [] Y = e ∙ ap (λ D. with_declared s D Y) g in
    let same : types_of (with_declared s [] Y) m ≡ types_of s m = ap (option_map (λ (d : Declaration). d.of_type)) (front_same s.declared (record { context = []; of_type = Y } ∷ []) m place) in
    let shape : skeletons_of (types_of f) m ≡ skeletons_of (types_of s) m = ap (λ (t : State). skeletons_of (types_of t) m) state ∙ ap skeleton_or_default same in
    let value : V ≡ lambdas_of (skeletons_of (types_of s) m) (root (metavariable (length s.declared)) S) =
    v ∙ ap (λ t. lambdas_of t (root (metavariable n) S)) shape ∙ ap (λ j. lambdas_of (skeletons_of (types_of s) m) (root (metavariable j) S)) k in
    ap (λ t. with_value t m V) state ∙ ap (with_value (with_declared s [] Y) m) value

joined_followed : {A : Type 0} (xs ys : List A) → xs ++ ys ≡ followed xs ys
joined_followed [] ys = refl
joined_followed (x ∷ xs) ys = ap (λ zs. x ∷ zs) (joined_followed xs ys)

reverse_first : {A : Type 0} (x : A) (xs : List A) → reverse (x ∷ xs) ≡ reverse xs ++ x ∷ []
reverse_first x xs = reverse-append (x ∷ []) xs

map_reverse : {A B : Type 0} (f : A → B) (xs : List A) → map f (reverse xs) ≡ reverse (map f xs)
map_reverse f [] = refl
map_reverse f (x ∷ xs) = ap (map f) (reverse_first x xs) ∙ map-append f (reverse xs) (x ∷ []) ∙ ap (λ ys. ys ++ f x ∷ []) (map_reverse f xs) ∙ sym (reverse_first (f x) (map f xs))

reversed_twice : {A : Type 0} (xs : List A) → reverse (reverse xs) ≡ xs
reversed_twice [] = refl
reversed_twice (x ∷ xs) = ap reverse (reverse_first x xs) ∙ reverse-append (reverse xs) (x ∷ []) ∙ ap (λ ys. x ∷ ys) (reversed_twice xs)

-- a stack made of the equations in order
pub stacked_reversed : (es fs : List Equation) → fs ≡ reverse es → stacked fs ≡ map equation_of es
stacked_reversed es fs e = ap stacked e ∙ ap reverse (map_reverse equation_of es) ∙ reversed_twice (map equation_of es)

-- all on top, the first one first
pub stacked_all : (old new put : List Equation) → new ≡ old ++ reverse put → stacked new ≡ followed (map equation_of put) (stacked old)
stacked_all old new put e =
    ap stacked e
    ∙ ap reverse (map-append equation_of old (reverse put))
    ∙ reverse-append (map equation_of old) (map equation_of (reverse put))
    ∙ ap (λ xs. reverse xs ++ stacked old) (map_reverse equation_of put)
    ∙ ap (λ xs. xs ++ stacked old) (reversed_twice (map equation_of put))
    ∙ joined_followed (map equation_of put) (stacked old)
