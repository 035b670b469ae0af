-- The syntax of a value, level by level.
use Rattle.std.proofs.Common.{◌≡◌, ℕ, List, Box, Global, None, Some, rules}
use Rattle.tw_lexer.specs.declared.place.Place.{Place}
use Rattle.tw_parse.specs.Syntax as syntax
use Rattle.tw_parse.specs.View.{term_of}
use Rattle.tw_parse.specs.declared.term.ExtTerm.{ExtTerm, Ident, Hole, Star, Arrow, Pi, Lam, App, Ascribe, the_lemmas}

pub term_of-Ident : (x : List ℕ) (at : Place) → term_of (Ident x at) ≡ syntax.identifier x at
unfolding term_of
term_of-Ident x at = search (rules, the_lemmas)

pub term_of-Hole : (at : Place) → term_of (Hole at) ≡ syntax.hole at
unfolding term_of
term_of-Hole at = search (rules, the_lemmas)

pub term_of-Star : term_of Star ≡ syntax.star
unfolding term_of
term_of-Star = search (rules, the_lemmas)

pub term_of-Arrow : (A B : Box ExtTerm Global) → term_of (Arrow A B) ≡ syntax.arrow (term_of A.value) (term_of B.value)
unfolding term_of
term_of-Arrow A B = search (rules, the_lemmas)

pub term_of-App : (M N : Box ExtTerm Global) → term_of (App M N) ≡ syntax.application (term_of M.value) (term_of N.value)
unfolding term_of
term_of-App M N = search (rules, the_lemmas)

pub term_of-Ascribe : (M A : Box ExtTerm Global) → term_of (Ascribe M A) ≡ syntax.ascription (term_of M.value) (term_of A.value)
unfolding term_of
term_of-Ascribe M A = search (rules, the_lemmas)

pub term_of-Pi-untyped : (x : List ℕ) (at : Place) (B : Box ExtTerm Global) → term_of (Pi x at None B) ≡ syntax.pi x at syntax.untyped (term_of B.value)
unfolding term_of
term_of-Pi-untyped x at B = search (rules, the_lemmas)

pub term_of-Pi-typed : (x : List ℕ) (at : Place) (A B : Box ExtTerm Global) → term_of (Pi x at (Some A) B) ≡ syntax.pi x at (syntax.typed (term_of A.value)) (term_of B.value)
unfolding term_of
term_of-Pi-typed x at A B = search (rules, the_lemmas)

pub term_of-Lam-untyped : (x : List ℕ) (at : Place) (M : Box ExtTerm Global) → term_of (Lam x at None M) ≡ syntax.lambda x at syntax.untyped (term_of M.value)
unfolding term_of
term_of-Lam-untyped x at M = search (rules, the_lemmas)

pub term_of-Lam-typed : (x : List ℕ) (at : Place) (A M : Box ExtTerm Global) → term_of (Lam x at (Some A) M) ≡ syntax.lambda x at (syntax.typed (term_of A.value)) (term_of M.value)
unfolding term_of
term_of-Lam-typed x at A M = search (rules, the_lemmas)

pub ruleset views = (term_of-Ident, term_of-Hole, term_of-Star, term_of-Arrow, term_of-App, term_of-Ascribe, term_of-Pi-untyped, term_of-Pi-typed, term_of-Lam-untyped, term_of-Lam-typed, the_lemmas)
