-- A reading in which two signs both could be the inner one, turned round.
use Rattle.std.proofs.Common.{◌≡◌, ℕ, List, [], ◌∷◌, ◌++◌, Bool, true, false, Option, None, Some, sym, ap, subst, ◌∙◌, append_assoc}
use Rattle.tw_fixity.specs.declared.table.Fix.{Fix}
use Rattle.tw_parse.specs.Grammar.{Item, atom, sign, joined, applied, Reads, alone, apply, between, before, behind}
use Rattle.tw_parse.specs.Laws.{HasRow, HaveRows}
use Rattle.tw_parse.specs.Piles.{waits, yields, made}
use Rattle.tw_parse.specs.Signs.{is_from, fits, level_of, left_of, right_of, outer_level}
use Rattle.tw_parse.specs.Syntax.{Term}
use Rattle.tw_parse.specs.declared.sign.Sign.{Sign}
use Rattle.tw_parse.specs.declared.sign.Side.TheVariants.{Absent, From}
use Rattle.tw_parse.proofs.Order.{fits_from, fits_up}
use Rattle.tw_parse.proofs.Different.{are_operators, LeftIs, between_differ, behind_differ}

-- another reading of the same items, of no lower level
pub record Another (f : Option Sign) (items : List Item) (M : Term) : Type 0 where
  pub outer : Option Sign
  pub term : Term
  pub level : is_from (outer_level f) (outer_level outer) ≡ true
  pub reads : Reads outer items term
  pub differs : term ≡ M → ⊥

pub rows_before : (rows : List ℕ → Option Fix) (xs ys : List Item) → HaveRows rows (xs ++ ys) → HaveRows rows xs
rows_before rows [] ys h = tt
rows_before rows (atom M ∷ xs) ys h = rows_before rows xs ys h
rows_before rows (sign s ∷ xs) ys h = (h.0, rows_before rows xs ys h.1)

pub rows_behind : (rows : List ℕ → Option Fix) (xs ys : List Item) → HaveRows rows (xs ++ ys) → HaveRows rows ys
rows_behind rows [] ys h = h
rows_behind rows (atom M ∷ xs) ys h = rows_behind rows xs ys h
rows_behind rows (sign s ∷ xs) ys h = rows_behind rows xs ys h.1

pub rows_moved : (rows : List ℕ → Option Fix) (xs ys : List Item) → xs ≡ ys → HaveRows rows xs → HaveRows rows ys
rows_moved rows xs ys e h = let P : List Item → Type 0 = λ is. HaveRows rows is in subst P e h

-- a right side, or none where the sign has none
abbrev pub RightIs : Sign → Option Term → Type 0
RightIs t None = right_of t ≡ Absent
RightIs t (Some N) = Unit {0}

abbrev pub ended : Option Term → Sign → Term → Term
ended None t M = applied t M
ended (Some N) t M = joined t M N

differ : (rows : List ℕ → Option Fix) (s t : Sign) (l r : Option Term) (A : Term) → waits s t ≡ true → yields s t ≡ true → HasRow rows s → HasRow rows t → LeftIs s l → RightIs t r
    → ended r t (made l s A) ≡ made l s (ended r t A) → ⊥
differ rows s t l (Some N) A wait go h k left right e = let ops = are_operators s t wait go in between_differ s t l A N ops.0 ops.1 e
differ rows s t l None A wait go h k left right e = let ops = are_operators s t wait go in behind_differ rows s t l A ops.0 ops.1 h k left right e

-- the sign of an outermost form could be on the left of another sign
abbrev pub could_yield : Sign → Option Sign → Bool
could_yield s None = false
could_yield s (Some t) = yields s t

-- what makes a reading with this sign of a right side
abbrev pub Builds : Sign → Option Term → List Item → Type 0
Builds s l lead = (h : Option Sign) (part : List Item) (P : Term) → Reads h part P → fits (right_of s) (level_of s) (outer_level h) ≡ true → Reads (Some s) (lead ++ sign s ∷ part) (made l s P)

-- t in the right side of s, where it could have s on its left
pub turn_right : (rows : List ℕ → Option Fix) (s : Sign) (l : Option Term) (lead : List Item) {h : Option Sign} {right : List Item} {N : Term} → Builds s l lead → LeftIs s l → HasRow rows s
    → HaveRows rows right → Reads h right N → could_yield s h ≡ true → fits (right_of s) (level_of s) (outer_level h) ≡ true → Another (Some s) (lead ++ sign s ∷ right) (made l s N)
turn_right rows s l lead build left row have alone go fit = cc
turn_right rows s l lead build left row have (apply e D) go fit = cc
turn_right rows s l lead build left row have (between t {f = h} {g = k} {items = is} {left = l2} {right = r2} {M = A} {N = B} e E1 fl E2 fr) go fit =
    let inner : Reads (Some s) (lead ++ sign s ∷ l2) (made l s A) =
    build h l2 A E1 (fits_up (right_of s) (level_of s) (level_of t) (outer_level h) fit (fits_from (left_of t) (level_of t) (outer_level h) fl)) in
    let all : lead ++ sign s ∷ is ≡ (lead ++ sign s ∷ l2) ++ sign t ∷ r2 = ap (λ p. lead ++ sign s ∷ p) e ∙ sym (append_assoc lead (sign s ∷ l2) (sign t ∷ r2)) in
    let parts : HaveRows rows (l2 ++ sign t ∷ r2) = rows_moved rows is (l2 ++ sign t ∷ r2) e have in
    let mine : HaveRows rows (sign t ∷ r2) = rows_behind rows l2 (sign t ∷ r2) parts in
    record {
      outer = Some t;
      term = joined t (made l s A) B;
      level = fits_from (right_of s) (level_of s) (level_of t) fit;
      reads = between t all inner go E2 fr;
      differs = differ rows s t l (Some B) A fit go row mine.0 left tt;
    }
turn_right rows s l lead build left row have (before t e absent E2 fr) go fit = let clash : false ≡ true = sym (ap (λ S. fits S (level_of t) (level_of s)) absent) ∙ go in cc
turn_right rows s l lead build left row have (behind t {f = h} {items = is} {left = l2} {M = A} e absent E1 fl) go fit =
    let inner : Reads (Some s) (lead ++ sign s ∷ l2) (made l s A) =
    build h l2 A E1 (fits_up (right_of s) (level_of s) (level_of t) (outer_level h) fit (fits_from (left_of t) (level_of t) (outer_level h) fl)) in
    let all : lead ++ sign s ∷ is ≡ (lead ++ sign s ∷ l2) ++ sign t ∷ [] = ap (λ p. lead ++ sign s ∷ p) e ∙ sym (append_assoc lead (sign s ∷ l2) (sign t ∷ [])) in
    let parts : HaveRows rows (l2 ++ sign t ∷ []) = rows_moved rows is (l2 ++ sign t ∷ []) e have in
    let mine : HaveRows rows (sign t ∷ []) = rows_behind rows l2 (sign t ∷ []) parts in
    record {
      outer = Some t;
      term = applied t (made l s A);
      level = fits_from (right_of s) (level_of s) (level_of t) fit;
      reads = behind t all absent inner go;
      differs = differ rows s t l None A fit go row mine.0 left absent;
    }

-- an outermost form that goes on to its right at its own level
abbrev pub IsOpen : Option Sign → Type 0
IsOpen f = (s : Sign) × (f ≡ Some s) × (right_of s ≡ From)

-- what makes a reading with this sign of a left side
abbrev pub BuildsBehind : Sign → Option Term → List Item → Type 0
BuildsBehind t r trail = (h : Option Sign) (part : List Item) (P : Term) → Reads h part P → fits (left_of t) (level_of t) (outer_level h) ≡ true → Reads (Some t) (part ++ trail) (ended r t P)

open_side : (s : Sign) → IsOpen (Some s) → right_of s ≡ From
open_side s o = let same : s ≡ o.0 = cc in ap right_of same ∙ o.2

-- s in the left side of t, where it could have t on its right
pub turn_left : (rows : List ℕ → Option Fix) (t : Sign) (r : Option Term) (trail : List Item) {f : Option Sign} {left : List Item} {M : Term} → BuildsBehind t r trail → RightIs t r → HasRow rows t
    → HaveRows rows left → Reads f left M → fits (left_of t) (level_of t) (outer_level f) ≡ true → is_from (outer_level f) (level_of t) ≡ true → IsOpen f → Another (Some t) (left ++ trail) (ended r t M)
turn_left rows t r trail build right row have alone fl low opens = cc (opens.1)
turn_left rows t r trail build right row have (apply e D) fl low opens = cc (opens.1)
turn_left rows t r trail build right row have (between s {f = h} {g = k} {items = is} {left = l1} {right = r1} {M = A} {N = B} e E1 fl1 E2 fr1) fl low opens =
    let wait : waits s t ≡ true = ap (λ S. fits S (level_of s) (level_of t)) (open_side s opens) ∙ low in
    let inner : Reads (Some t) (r1 ++ trail) (ended r t B) =
    build k r1 B E2 (fits_up (left_of t) (level_of t) (level_of s) (outer_level k) fl (fits_from (right_of s) (level_of s) (outer_level k) fr1)) in
    let all : is ++ trail ≡ l1 ++ sign s ∷ (r1 ++ trail) = ap (λ p. p ++ trail) e ∙ append_assoc l1 (sign s ∷ r1) trail in
    let parts : HaveRows rows (l1 ++ sign s ∷ r1) = rows_moved rows is (l1 ++ sign s ∷ r1) e have in
    let mine : HaveRows rows (sign s ∷ r1) = rows_behind rows l1 (sign s ∷ r1) parts in
    record {
      outer = Some s;
      term = joined s A (ended r t B);
      level = fits_from (left_of t) (level_of t) (level_of s) fl;
      reads = between s all E1 fl1 inner wait;
      differs = λ same. differ rows s t (Some A) r B wait fl mine.0 row tt right (sym same);
    }
turn_left rows t r trail build right row have (before s {g = k} {items = is} {right = r1} {N = B} e absent E2 fr1) fl low opens =
    let wait : waits s t ≡ true = ap (λ S. fits S (level_of s) (level_of t)) (open_side s opens) ∙ low in
    let inner : Reads (Some t) (r1 ++ trail) (ended r t B) =
    build k r1 B E2 (fits_up (left_of t) (level_of t) (level_of s) (outer_level k) fl (fits_from (right_of s) (level_of s) (outer_level k) fr1)) in
    let all : is ++ trail ≡ sign s ∷ (r1 ++ trail) = ap (λ p. p ++ trail) e in
    let mine : HaveRows rows (sign s ∷ r1) = rows_moved rows is (sign s ∷ r1) e have in
    record {
      outer = Some s;
      term = applied s (ended r t B);
      level = fits_from (left_of t) (level_of t) (level_of s) fl;
      reads = before s all absent inner wait;
      differs = λ same. differ rows s t None r B wait fl mine.0 row absent right (sym same);
    }
turn_left rows t r trail build right row have (behind s e absent E1 fl1) fl low opens = let clash : Absent ≡ From = sym absent ∙ open_side s opens in cc
