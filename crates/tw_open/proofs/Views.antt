-- The plain syntax of kinds, level by level.
use Rattle.std.proofs.Common.{◌≡◌, Box, Global, rules}
use Rattle.lf.specs.Syntax.{kind_pi, star}
use Rattle.tw_terms.specs.OpenView.{open_type_of}
use Rattle.tw_terms.specs.declared.open_terms.OpenTy.{OpenTy}
use Rattle.tw_open.specs.View.{open_kind_of}
use Rattle.tw_open.specs.declared.kinds.OpenKind.{OpenKind, Pi, Star, the_lemmas}

pub open_kind_of-Pi : (a : Box OpenTy Global) (k : Box OpenKind Global) → open_kind_of (Pi a k) ≡ kind_pi (open_type_of a.value) (open_kind_of k.value)
unfolding open_kind_of
open_kind_of-Pi a k = search (rules, the_lemmas)

pub open_kind_of-Star : open_kind_of Star ≡ star
unfolding open_kind_of
open_kind_of-Star = search (rules, the_lemmas)

pub ruleset kind_views = (open_kind_of-Pi, open_kind_of-Star, the_lemmas)
