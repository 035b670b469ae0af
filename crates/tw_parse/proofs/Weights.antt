-- The weight of a term, level by level, and the size of a leaf.
use Rattle.std.proofs.Common.{◌≡◌, ℕ, ◌+◌, ◌*◌, List, Box, Global, None, Some, rules, refl}
use Rattle.tw_lexer.specs.declared.place.Place.{Place}
use Rattle.tw_parse.specs.Dropping.{weight}
use Rattle.tw_parse.specs.declared.term.ExtTerm.{ExtTerm, Ident, Hole, Star, Arrow, Pi, Lam, App, Ascribe, size-ExtTerm, the_lemmas}

pub weight-Ident : (x : List ℕ) (at : Place) → weight (Ident x at) ≡ 1
unfolding weight
weight-Ident x at = search (rules, the_lemmas)

pub weight-Hole : (at : Place) → weight (Hole at) ≡ 1
unfolding weight
weight-Hole at = search (rules, the_lemmas)

pub weight-Star : weight Star ≡ 1
unfolding weight
weight-Star = search (rules, the_lemmas)

pub weight-Arrow : (A B : Box ExtTerm Global) → weight (Arrow A B) ≡ 2 * weight A.value + weight B.value + 1
unfolding weight
weight-Arrow A B = search (rules, the_lemmas)

pub weight-App : (M N : Box ExtTerm Global) → weight (App M N) ≡ 2 * weight M.value + weight N.value + 1
unfolding weight
weight-App M N = search (rules, the_lemmas)

pub weight-Ascribe : (M A : Box ExtTerm Global) → weight (Ascribe M A) ≡ 2 * weight M.value + weight A.value + 1
unfolding weight
weight-Ascribe M A = search (rules, the_lemmas)

pub weight-Pi-untyped : (x : List ℕ) (at : Place) (B : Box ExtTerm Global) → weight (Pi x at None B) ≡ weight B.value + 1
unfolding weight
weight-Pi-untyped x at B = search (rules, the_lemmas)

pub weight-Pi-typed : (x : List ℕ) (at : Place) (A B : Box ExtTerm Global) → weight (Pi x at (Some A) B) ≡ 2 * weight A.value + weight B.value + 1
unfolding weight
weight-Pi-typed x at A B = search (rules, the_lemmas)

pub weight-Lam-untyped : (x : List ℕ) (at : Place) (M : Box ExtTerm Global) → weight (Lam x at None M) ≡ weight M.value + 1
unfolding weight
weight-Lam-untyped x at M = search (rules, the_lemmas)

pub weight-Lam-typed : (x : List ℕ) (at : Place) (A M : Box ExtTerm Global) → weight (Lam x at (Some A) M) ≡ 2 * weight A.value + weight M.value + 1
unfolding weight
weight-Lam-typed x at A M = search (rules, the_lemmas)

pub size-Star : size-ExtTerm Star ≡ 1
unfolding Rattle.tw_parse.specs.declared.term.ExtTerm.TheBlock.the_depth denote.Hole.Rolled.depth denote.Hole.Carrier.fold
size-Star = refl

pub size-Hole : (at : Place) → size-ExtTerm (Hole at) ≡ 1
unfolding Rattle.tw_parse.specs.declared.term.ExtTerm.TheBlock.the_depth denote.Hole.Rolled.depth denote.Hole.Carrier.fold
size-Hole at = refl

pub size-Ident : (x : List ℕ) (at : Place) → size-ExtTerm (Ident x at) ≡ 1
unfolding Rattle.tw_parse.specs.declared.term.ExtTerm.TheBlock.the_depth denote.Hole.Rolled.depth denote.Hole.Carrier.fold
size-Ident x at = refl

pub ruleset weights = (weight-Ident, weight-Hole, weight-Star, weight-Arrow, weight-App, weight-Ascribe, weight-Pi-untyped, weight-Pi-typed, weight-Lam-untyped, weight-Lam-typed, size-Star, size-Hole, size-Ident, the_lemmas)
