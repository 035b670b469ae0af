-- The free variables of a text, by name.
use Rattle.std.specs.Prelude.{◌≡◌, ℕ, List, [], ◌∷◌, true, Option, None, Some, ◌⊎◌}
use Rattle.lf.specs.Entries.{Entry}
use Rattle.tw_names.specs.Scope.{binder_name, named}
use Rattle.tw_names.specs.Unknown.{is_uppercase}
use Rattle.tw_parse.specs.Syntax.{Term, Domain, identifier, hole, star, arrow, pi, lambda, application, ascription, untyped, typed, Declaration, declare, define, prefer, give}
use Rattle.tw_fixity.specs.Names.{Names}

module _ (es : List Entry) (x : List ℕ) where
  abbrev mutual
    -- the name stands in the text, in upper case, and is neither bound there nor declared
    pub IsFreeIn : Names → Term → Type 0
    IsFreeIn N (identifier y at) = (y ≡ x) × (is_uppercase y ≡ true) × (named es N y ≡ None)
    IsFreeIn N (hole at) = ⊥
    IsFreeIn N star = ⊥
    IsFreeIn N (arrow U V) = IsFreeIn N U ⊎ IsFreeIn (None ∷ N) V
    IsFreeIn N (pi y at D V) = IsFreeInDomain N D ⊎ IsFreeIn (binder_name y ∷ N) V
    IsFreeIn N (lambda y at D M) = IsFreeInDomain N D ⊎ IsFreeIn (binder_name y ∷ N) M
    IsFreeIn N (application M P) = IsFreeIn N M ⊎ IsFreeIn N P
    IsFreeIn N (ascription M A) = IsFreeIn N M ⊎ IsFreeIn N A

    pub IsFreeInDomain : Names → Domain → Type 0
    IsFreeInDomain N untyped = ⊥
    IsFreeInDomain N (typed A) = IsFreeIn N A

  abbrev pub IsFreeInType : Option Term → Type 0
  IsFreeInType None = ⊥
  IsFreeInType (Some A) = IsFreeIn [] A

  -- a free variable of the declaration
  abbrev pub IsFreeVariable : Declaration → Type 0
  IsFreeVariable (declare c at U) = IsFreeIn [] U
  IsFreeVariable (define c A M b) = IsFreeInType A ⊎ IsFreeIn [] M
  IsFreeVariable (prefer a y z) = ⊥
  IsFreeVariable (give fix names) = ⊥
