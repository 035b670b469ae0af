-- The readings of a sequence.
use Rattle.std.specs.Prelude.{◌≡◌, ℕ, List, [], ◌∷◌, ◌++◌, true, Option, None, Some}
use Rattle.tw_lexer.specs.declared.place.Place.{Place}
use Rattle.tw_parse.specs.Syntax.{Term, Domain, identifier, arrow, pi, lambda, application, ascription}
use Rattle.tw_parse.specs.Signs.{fits, level_of, left_of, right_of, outer_level}
use Rattle.tw_parse.specs.declared.words.Separator.TheVariants.{Forward, Backward, Colon}
use Rattle.tw_parse.specs.declared.words.Binder.{Binder}
use Rattle.tw_parse.specs.declared.words.Binder.TheVariants.{Pi, Lambda}
use Rattle.tw_parse.specs.declared.sign.Sign.{Sign}
use Rattle.tw_parse.specs.declared.sign.Sign.TheVariants.{Separator, Operator}
use Rattle.tw_parse.specs.declared.sign.Side.TheVariants.{Absent}

-- what stands in a sequence, where an atom is seen as its term
pub data Item : Type 0 where
  atom : Term → Item
  sign : Sign → Item

-- the term of a sign with two sides; the domain of `<-` stands on its right
abbrev pub joined : Sign → Term → Term → Term
joined (Separator Forward) A B = arrow A B
joined (Separator Backward) A B = arrow B A
joined (Separator Colon) M A = ascription M A
joined (Operator x at fix) M N = application (application (identifier x at) M) N

-- the term of an operator with one side
abbrev pub applied : Sign → Term → Term
applied (Separator by) M = M
applied (Operator x at fix) M = application (identifier x at) M

-- the items read as the term, whose outermost form is that of this sign, or is an atom or an application: atoms side by side are applied from the left; each sign takes on its sides what fits there
pub data Reads : Option Sign → List Item → Term → Type 0 where
  alone : {M : Term} → Reads None (atom M ∷ []) M
  apply : {items row : List Item} {M N : Term} → items ≡ row ++ atom N ∷ [] → Reads None row M → Reads None items (application M N)
  between : (s : Sign) {f g : Option Sign} {items left right : List Item} {M N : Term} → items ≡ left ++ sign s ∷ right
      → Reads f left M → fits (left_of s) (level_of s) (outer_level f) ≡ true → Reads g right N → fits (right_of s) (level_of s) (outer_level g) ≡ true → Reads (Some s) items (joined s M N)
  before : (s : Sign) {g : Option Sign} {items right : List Item} {N : Term} → items ≡ sign s ∷ right → left_of s ≡ Absent
      → Reads g right N → fits (right_of s) (level_of s) (outer_level g) ≡ true → Reads (Some s) items (applied s N)
  behind : (s : Sign) {f : Option Sign} {items left : List Item} {M : Term} → items ≡ left ++ sign s ∷ [] → right_of s ≡ Absent
      → Reads f left M → fits (left_of s) (level_of s) (outer_level f) ≡ true → Reads (Some s) items (applied s M)

-- the items read as this term, and as no other
abbrev pub ReadsOnce : List Item → Term → Type 0
ReadsOnce items M = ((f : Option Sign) × Reads f items M) × ((f : Option Sign) (N : Term) → Reads f items N → N ≡ M)

-- the term of a binder
abbrev pub bound : Binder → List ℕ → Place → Domain → Term → Term
bound Pi x at A B = pi x at A B
bound Lambda x at A M = lambda x at A M
