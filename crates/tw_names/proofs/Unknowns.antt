-- The earliest of some mentions.
use Rattle.std.proofs.Common.{◌≡◌, List, [], ◌∷◌, ◌++◌, Option, Some, refl}
use Rattle.tw_names.specs.Earliest.{earlier, earliest}
use Rattle.tw_names.specs.declared.unknown.Mention.{Mention}
use Rattle.tw_names.proofs.Views.{written}
use Rattle.tw_names.proofs.Behind.{waiting}

pub earliest-append : (m : Option Mention) (xs ys : List Mention) → earliest m (xs ++ ys) ≡ earliest (earliest m xs) ys
earliest-append m [] ys = refl
earliest-append m (x ∷ xs) ys = earliest-append (Some (earlier m x)) xs ys

pub ruleset unknowns = (written, waiting, earliest-append)
