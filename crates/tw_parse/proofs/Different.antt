-- Two readings that differ in which of two signs is inside are different terms.
use Rattle.std.proofs.Common.{◌≡◌, ℕ, List, Option, None, Some, true, refl, sym, ap, ◌∙◌}
use Rattle.tw_fixity.specs.declared.table.Fix.{Fix}
use Rattle.tw_fixity.specs.declared.table.Fix.TheVariants.{Infix, Prefix, Postfix}
use Rattle.tw_fixity.specs.declared.table.Assoc.TheVariants.{Neither, Left, Right}
use Rattle.tw_lexer.specs.declared.place.Place.{Place}
use Rattle.tw_parse.specs.Grammar.{joined, applied}
use Rattle.tw_parse.specs.Laws.{HasRow}
use Rattle.tw_parse.specs.Piles.{waits, yields, made}
use Rattle.tw_parse.specs.Signs.{is_from, level_of, left_of, right_of}
use Rattle.tw_parse.specs.Syntax.{Term, identifier, hole, star, arrow, pi, lambda, application, ascription}
use Rattle.tw_parse.specs.declared.sign.Sign.{Sign}
use Rattle.tw_parse.specs.declared.sign.Sign.TheVariants.{Separator, Operator}
use Rattle.tw_parse.specs.declared.sign.Side.TheVariants.{Absent}
use Rattle.tw_parse.specs.declared.words.Separator.{Separator as Mark}
use Rattle.tw_parse.specs.declared.words.Separator.TheVariants.{Forward, Backward, Colon}
use Rattle.tw_parse.proofs.Order.{fits_from}

-- no term is its own argument
never : (x N : Term) → N ≡ application x N → ⊥
never x (identifier y at) e = cc
never x (hole at) e = cc
never x star e = cc
never x (arrow A B) e = cc
never x (pi y at A B) e = cc
never x (lambda y at A B) e = cc
never x (ascription A B) e = cc
never x (application P Q) e =
    let f : Q ≡ application P Q = cc in
    never P Q f

-- a sign that is an operator
abbrev pub IsOperator : Sign → Type 0
IsOperator (Separator by) = ⊥
IsOperator (Operator x at fix) = Unit {0}

separators_part : (a b : Mark) → waits (Separator a) (Separator b) ≡ true → yields (Separator a) (Separator b) ≡ true → ⊥
separators_part Forward Forward e f = cc
separators_part Forward Backward e f = cc
separators_part Forward Colon e f = cc
separators_part Backward Forward e f = cc
separators_part Backward Backward e f = cc
separators_part Backward Colon e f = cc
separators_part Colon Forward e f = cc
separators_part Colon Backward e f = cc
separators_part Colon Colon e f = cc

separator_below : (a : Mark) (x : List ℕ) (at : Place) (fix : Fix) → is_from (level_of (Operator x at fix)) (level_of (Separator a)) ≡ true → ⊥
separator_below Forward x at (Infix side p) e = cc
separator_below Forward x at (Prefix p) e = cc
separator_below Forward x at (Postfix p) e = cc
separator_below Backward x at (Infix side p) e = cc
separator_below Backward x at (Prefix p) e = cc
separator_below Backward x at (Postfix p) e = cc
separator_below Colon x at (Infix side p) e = cc
separator_below Colon x at (Prefix p) e = cc
separator_below Colon x at (Postfix p) e = cc

-- where both could stand, both are operators
pub are_operators : (s t : Sign) → waits s t ≡ true → yields s t ≡ true → IsOperator s × IsOperator t
are_operators (Separator a) (Separator b) e f = absurd (separators_part a b e f)
are_operators (Separator a) (Operator y bt fix) e f = absurd (separator_below a y bt fix (fits_from (left_of (Operator y bt fix)) (level_of (Operator y bt fix)) (level_of (Separator a)) f))
are_operators (Operator x at fix) (Separator b) e f = absurd (separator_below b x at fix (fits_from (right_of (Operator x at fix)) (level_of (Operator x at fix)) (level_of (Separator b)) e))
are_operators (Operator x at fix) (Operator y bt gix) e f = (tt, tt)

prefix_only : (x : List ℕ) (at : Place) (fix : Fix) → left_of (Operator x at fix) ≡ Absent → (p : ℕ) × (fix ≡ Prefix p)
prefix_only x at (Infix Neither p) e = cc
prefix_only x at (Infix Left p) e = cc
prefix_only x at (Infix Right p) e = cc
prefix_only x at (Prefix p) e = (p, refl)
prefix_only x at (Postfix p) e = cc

postfix_only : (x : List ℕ) (at : Place) (fix : Fix) → right_of (Operator x at fix) ≡ Absent → (p : ℕ) × (fix ≡ Postfix p)
postfix_only x at (Infix Neither p) e = cc
postfix_only x at (Infix Left p) e = cc
postfix_only x at (Infix Right p) e = cc
postfix_only x at (Prefix p) e = cc
postfix_only x at (Postfix p) e = (p, refl)

-- a left side, or none where the sign has none
abbrev pub LeftIs : Sign → Option Term → Type 0
LeftIs s None = left_of s ≡ Absent
LeftIs s (Some M) = Unit {0}

-- t u read as t over u, and as u over t
pub between_differ : (s t : Sign) (l : Option Term) (A B : Term) → IsOperator s → IsOperator t → joined t (made l s A) B ≡ made l s (joined t A B) → ⊥
between_differ (Separator a) t l A B i j e = absurd i
between_differ (Operator x at f) (Separator b) l A B i j e = absurd j
between_differ (Operator x at f) (Operator y bt g) None A B i j e = let clash : application (identifier y bt) (application (identifier x at) A) ≡ identifier x at = cc in cc
between_differ (Operator x at f) (Operator y bt g) (Some M) A B i j e =
    let same : B ≡ application (application (identifier y bt) A) B = cc in
    never (application (identifier y bt) A) B same

pub behind_differ : (rows : List ℕ → Option Fix) (s t : Sign) (l : Option Term) (A : Term) → IsOperator s → IsOperator t → HasRow rows s → HasRow rows t → LeftIs s l → right_of t ≡ Absent
    → applied t (made l s A) ≡ made l s (applied t A) → ⊥
behind_differ rows (Separator a) t l A i j h k left right e = absurd i
behind_differ rows (Operator x at f) (Separator b) l A i j h k left right e = absurd j
behind_differ rows (Operator x at f) (Operator y bt g) (Some M) A i j h k left right e =
    let clash : identifier y bt ≡ application (identifier x at) M = cc in cc
behind_differ rows (Operator x at f) (Operator y bt g) None A i j h k left right e =
    let same : identifier y bt ≡ identifier x at = cc in
    let name : y ≡ x = cc in
    let before = prefix_only x at f left in
    let after = postfix_only y bt g right in
    let one : rows x ≡ Some (Prefix before.0) = h ∙ ap Some before.1 in
    let other : rows x ≡ Some (Postfix after.0) = ap rows (sym name) ∙ k ∙ ap Some after.1 in
    let clash : Some (Prefix before.0) ≡ Some (Postfix after.0) = sym one ∙ other in
    cc

-- a term is told by what it is made of
pub applied_alike : (s : Sign) (M N : Term) → applied s M ≡ applied s N → M ≡ N
applied_alike (Separator by) M N e = e
applied_alike (Operator x at fix) M N e = cc

pub joined_right : (s : Sign) (A M N : Term) → joined s A M ≡ joined s A N → M ≡ N
joined_right (Separator Forward) A M N e = cc
joined_right (Separator Backward) A M N e = cc
joined_right (Separator Colon) A M N e = cc
joined_right (Operator x at fix) A M N e = cc

pub joined_left : (s : Sign) (A M N : Term) → joined s M A ≡ joined s N A → M ≡ N
joined_left (Separator Forward) A M N e = cc
joined_left (Separator Backward) A M N e = cc
joined_left (Separator Colon) A M N e = cc
joined_left (Operator x at fix) A M N e = cc

pub made_alike : (l : Option Term) (s : Sign) (M N : Term) → made l s M ≡ made l s N → M ≡ N
made_alike None s M N e = applied_alike s M N e
made_alike (Some A) s M N e = joined_right s A M N e
