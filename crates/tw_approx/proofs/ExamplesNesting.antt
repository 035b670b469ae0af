-- How deep some texts nest.
use Rattle.std.proofs.Common.{◌≡◌, zero, List, [], ◌∷◌, codes, false, refl}
use Rattle.lf.specs.Entries.{Entry, declare_constant, declare_definition}
use Rattle.lf.specs.Syntax.{atom, lambda as lf_lambda, nil, root, variable}
use Rattle.tw_lexer.specs.declared.place.Place.{Place}
use Rattle.tw_parse.specs.Syntax.{Term, application, arrow, ascription, identifier, lambda, pi, typed}
use Rattle.tw_approx.specs.Nesting.{annotation_depth, text_depth, written_depth}

abbrev place : Place
place = record { line = 1; column = 1 }

abbrev x : Term
x = identifier (codes "x") place

abbrev s : Term
s = identifier (codes "s") place

abbrev d : Term
d = identifier (codes "d") place

-- The names s and x are declared, and d is defined.
abbrev entries : List Entry
entries =
    record { name = codes "d"; body = declare_definition (lf_lambda (root (variable zero) nil)) (atom zero nil) false; implicit = zero; hints = [] }
    ∷ record { name = codes "s"; body = declare_constant (atom zero nil); implicit = zero; hints = [] }
    ∷ record { name = codes "x"; body = declare_constant (atom zero nil); implicit = zero; hints = [] }
    ∷ []

-- of `s x x` the row is one level, and of `s (s x)` there are two rows in one another
row : written_depth entries (application (application s x) x) ≡ 2
row = refl

rows : written_depth entries (application s (application s x)) ≡ 3
rows = refl

-- nothing counts that stands on the arguments of a definition, as in `d (s (s x))`, or of a free variable
of_definition : written_depth entries (application d (application s (application s x))) ≡ 1
of_definition = refl

-- but it does beside them: `s (d x)`
on_definition : written_depth entries (application s (application d x)) ≡ 2
on_definition = refl

-- an arrow to an arrow nests as it stands: `x -> x -> x`
arrows : written_depth entries (arrow x (arrow x x)) ≡ 3
arrows = refl

-- An annotation counts by itself: the type at a lambda, as in `[x : x -> x -> x] x`, and an ascribed type, as in `s x : x -> x -> x`.
abbrev function : Term
function = lambda (codes "x") place (typed (arrow x (arrow x x))) x

abbrev ascribed : Term
ascribed = ascription (application s x) (arrow x (arrow x x))

beside_function : (written_depth entries function ≡ 2) × (annotation_depth entries function ≡ 3)
beside_function = (refl, refl)

beside_ascribed : (written_depth entries ascribed ≡ 2) × (annotation_depth entries ascribed ≡ 3)
beside_ascribed = (refl, refl)

-- so it does on the arguments of a definition: `d (s x : x -> x -> x)`
argument : text_depth entries (application d ascribed) ≡ 3
argument = refl

-- and in the domain of a quantifier: `{x : s (s x : x -> x -> x)} x`
domain : annotation_depth entries (pi (codes "x") place (typed (application s ascribed)) x) ≡ 3
domain = refl

-- but inside of an annotation another one doesn't: `[x : s (s x : x -> x -> x)] x`
inside : annotation_depth entries (lambda (codes "x") place (typed (application s ascribed)) x) ≡ 3
inside = refl
