-- Terms that wait to be looked through, where more come behind them.
use Rattle.std.proofs.Common.{◌≡◌, ℕ, ◌+◌, List, [], ◌∷◌, ◌++◌, reverse, Bor, arith}
use Rattle.std.proofs.Math.Bool.{or_assoc}
use Rattle.std.proofs.lemmas.List.{reverse-append}
use Rattle.tw_parse.specs.Mentions.{weight_of_all}
use Rattle.tw_parse.specs.declared.term.ExtTerm.{ExtTerm}
use Rattle.tw_parse.proofs.Views.{views}
use Rattle.tw_parse.proofs.Weights.{weights}

pub next-first : {X : Type 0} (xs : List X) (x : X) → reverse (xs ++ x ∷ []) ≡ x ∷ reverse xs
next-first xs x = reverse-append xs (x ∷ [])

pub both-first : {X : Type 0} (xs : List X) (x y : X) → reverse (xs ++ y ∷ x ∷ []) ≡ x ∷ y ∷ reverse xs
both-first xs x y = reverse-append xs (y ∷ x ∷ [])

pub weight-more : (ts us : List (Bor ExtTerm)) → weight_of_all (ts ++ us) ≡ weight_of_all us + weight_of_all ts
weight-more [] us = omega arith
weight-more (t ∷ ts) us = let e = weight-more ts us in omega (arith, e)

pub ruleset mentioned = (views, weights, next-first, both-first, weight-more, or_assoc)
