-- Written terms in which each constant that is named has no implicit arguments.
use Rattle.std.proofs.Common.{◌≡◌, ℕ, zero, List, ◌∷◌, Some, None}
use Rattle.lf.specs.Entries.{Entry, entry}
use Rattle.lf.specs.Syntax.{constant}
use Rattle.tw_names.specs.Scope.{binder_name, named}
use Rattle.tw_parse.specs.Syntax.{Term, Domain, identifier, hole, star, arrow, pi, lambda, application, ascription, untyped, typed}
use Rattle.tw_print.specs.Arguments.{implicit_in}
use Rattle.tw_fixity.specs.Names.{Names}

abbrev mutual
  pub NamesOpen : List Entry → Names → Term → Type 0
  NamesOpen es N (identifier x at) = (c : ℕ) → named es N x ≡ Some (constant c) → implicit_in (entry es c) ≡ zero
  NamesOpen es N (hole at) = Unit {0}
  NamesOpen es N star = Unit {0}
  NamesOpen es N (arrow U V) = NamesOpen es N U × NamesOpen es (None ∷ N) V
  NamesOpen es N (pi x at D V) = DomainOpen es N D × NamesOpen es (binder_name x ∷ N) V
  NamesOpen es N (lambda x at D M) = DomainOpen es N D × NamesOpen es (binder_name x ∷ N) M
  NamesOpen es N (application M P) = NamesOpen es N M × NamesOpen es N P
  NamesOpen es N (ascription M A) = NamesOpen es N M × NamesOpen es N A

  pub DomainOpen : List Entry → Names → Domain → Type 0
  DomainOpen es N untyped = Unit {0}
  DomainOpen es N (typed A) = NamesOpen es N A
