-- The rulesets.
use Rattle.std.proofs.Common.{◌≡◌, [], ◌∷◌, Box, Global, rules}
use Rattle.tw_parse.proofs.Views.{views}
use Rattle.tw_terms.proofs.Args.{types_and_skeletons}
use Rattle.tw_shapes.proofs.Views.{shape_views}
use Rattle.tw_shapes.specs.View.{shape_of}
use Rattle.tw_shapes.specs.declared.shape.Shape.{Shape}
use Rattle.tw_approx.specs.Reading.{due_of}
use Rattle.tw_approx.specs.declared.family.Due.{Due, Nothing, Next, the_lemmas}

pub due_of-Nothing : due_of Nothing ≡ []
unfolding due_of
due_of-Nothing = search (rules, the_lemmas)

pub due_of-Next : (s : Shape) (rest : Box Due Global) → due_of (Next s rest) ≡ shape_of s ∷ due_of rest.value
unfolding due_of
due_of-Next s rest = search (rules, the_lemmas)

pub ruleset due_views = (due_of-Nothing, due_of-Next, the_lemmas)

pub ruleset shapes = (types_and_skeletons, views, shape_views, due_views)
