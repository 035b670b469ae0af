-- A sequence is read node by node, and its items are put on the pile.
use Rattle.std.proofs.Common.{◌≡◌, ℕ, zero, suc, ◌+◌, List, [], ◌∷◌, ◌++◌, map, true, false, Option, None, Some, drop, refl, sym, ap, subst, ◌∙◌, ◌⊎◌, inl, inr, add-one, arith}
use Rattle.std.proofs.lemmas.List.{map-append}
use Rattle.std.specs.FinMap.{get}
use Rattle.tw_fixity.specs.declared.table.Fix.{Fix}
use Rattle.tw_lexer.specs.declared.place.Place.{Place}
use Rattle.tw_parse.specs.Faults.{sign_first, leaf_by, leaf_of}
use Rattle.tw_parse.specs.Grammar.{Item, atom, sign}
use Rattle.tw_parse.specs.Laws.{HasRow, HaveRows}
use Rattle.tw_parse.specs.Outlines.{Table, operator_with, operator_of, Outline, outline, Nodes, none, more, Node, leaf, mark, group, binding, typed_binding, Begins, a_sign, a_name, a_hole, a_type, a_group, Row, empty, one_more, Sequence, plain, with_binder, Binds, without_type, with_type}
use Rattle.tw_parse.specs.Parts.{BoundBy, BoundOver, Bound}
use Rattle.tw_parse.specs.Telling.{Tells, TellsNode}
use Rattle.tw_parse.specs.Piles.{Settled, State, step, run, outcome, reading, state_of, term_for, first_fault, Concludes}
use Rattle.tw_parse.specs.Readings.{Means, means, Lists, no_items, one_item, IsItem, a_leaf, a_mark, a_group as group_item, a_binding, a_typed_binding, sign_in, mark_in, marks, here, inside, FaultAmong, earlier, last, FaultWithin, in_group, in_body, in_domain, in_typed_body}
use Rattle.tw_parse.specs.Syntax as syntax
use Rattle.tw_parse.specs.View.{term_of}
use Rattle.tw_parse.specs.Words.{Lexeme, first_word, first_bytes, first_place, separator_of, binder_of, closer_of, is_bindable}
use Rattle.tw_parse.specs.declared.parts.Head.{Head}
use Rattle.tw_parse.specs.declared.parts.Part.{Part}
use Rattle.tw_parse.specs.declared.parts.Part.TheVariants.{Term, AtFault}
use Rattle.tw_parse.specs.declared.pile.Pile.{Pile}
use Rattle.tw_parse.specs.declared.sign.Sign.{Sign}
use Rattle.tw_parse.specs.declared.sign.Sign.TheVariants.{Separator, Operator}
use Rattle.tw_parse.specs.declared.words.Binder.{Binder}
use Rattle.tw_parse.specs.declared.words.Binder.TheVariants.{Pi, Lambda}
use Rattle.tw_parse.specs.declared.term.ExtTerm.{ExtTerm}
use Rattle.tw_parse.specs.declared.words.Separator.{Separator as Mark}
use Rattle.tw_parse.specs.declared.words.Word.{Word}
use Rattle.tw_parse.specs.declared.words.Word.TheVariants.{Name, Forward, Backward, Underscore, Star, Equals, Keyword, Colon, Dot, LParen, RParen, LBrace, RBrace, LBracket, RBracket, End}
use Rattle.tw_parse.proofs.Once.{once, all_once, none_once}

pub split_at : (xs : List Lexeme) (i : ℕ) → (drop i xs ≡ []) ⊎ ((x : Lexeme) × (drop i xs ≡ x ∷ drop (suc i) xs))
split_at [] zero = inl refl
split_at [] (suc i) = inl refl
split_at (x ∷ xs) zero = inr (x, refl)
split_at (x ∷ xs) (suc i) = split_at xs i

-- where a token stands, it is the first of those that are left
abbrev pub Token : List Lexeme → ℕ → ℕ → Word → Type 0
Token xs i j w = (x : Lexeme) × (drop i xs ≡ x ∷ drop j xs) × (x.word ≡ w)

pub a_token : (xs : List Lexeme) (i j : ℕ) (w : Word) → j ≡ i + 1 → w ≡ first_word (drop i xs) → (w ≡ End → ⊥) → Token xs i j w
a_token xs i j w step is some =
    elim (split_at xs i) [
      | inl gone ↦ absurd (some (is ∙ ap first_word gone))
      | inr found ↦ (found.0, found.1 ∙ ap (λ n. found.0 ∷ drop n xs) (sym (step ∙ add-one i)), sym (is ∙ ap first_word found.1))
    ]

-- what the pile holds of these nodes
abbrev Inner : Nodes → List Item → Option Place → Type 0
Inner row items None = Lists row items
Inner row items (Some place) = FaultAmong row place

abbrev pub Tallies : Nodes → Pile → Type 0
Tallies row pile = (items : List Item) × (map sign_in items ≡ marks row) × (state_of pile ≡ run (Some ([], None)) items) × Inner row items pile.inner

-- a row that has begun has come on
abbrev pub ComesOn : Nodes → ℕ → ℕ → Type 0
ComesOn none from upto = upto ≡ from
ComesOn (more row n) from upto = Unit {0}

abbrev pub Grows : Table → List Lexeme → ℕ → ℕ → Pile → Type 0
Grows table xs from upto pile = (row : Nodes) × Row table (drop from xs) row (drop upto xs) × Tallies row pile × ComesOn row from upto

pub nothing : (table : Table) (xs : List Lexeme) (from : ℕ) (pile : Pile) → state_of pile ≡ Some ([], None) → pile.inner ≡ None → Grows table xs from from pile
nothing table xs from pile state inner =
    let P : Option Place → Type 0 = λ o. Inner none [] o in
    (none, empty, ([], refl, state, subst P (sym inner) no_items), refl)

pub item_mark : (n : Node) (i : Item) → IsItem n i → sign_in i ≡ mark_in n
item_mark n i a_leaf = refl
item_mark n i a_mark = refl
item_mark n i (group_item m) = refl
item_mark n i (a_binding m) = refl
item_mark n i (a_typed_binding m k) = refl

faulty_mark : (n : Node) (place : Place) → FaultWithin n place → mark_in n ≡ None
faulty_mark n place (in_group f) = refl
faulty_mark n place (in_body f) = refl
faulty_mark n place (in_domain f) = refl
faulty_mark n place (in_typed_body c f) = refl

pub signs_grow : (row : Nodes) (n : Node) (items : List Item) (i : Item) → map sign_in items ≡ marks row → sign_in i ≡ mark_in n → map sign_in (items ++ i ∷ []) ≡ marks (more row n)
signs_grow row n items i e f = map-append sign_in items (i ∷ []) ∙ ap (λ ms. ms ++ sign_in i ∷ []) e ∙ ap (λ m. marks row ++ m ∷ []) f

run_append : (st : State) (xs ys : List Item) → run st (xs ++ ys) ≡ run (run st xs) ys
run_append st [] ys = refl
run_append st (x ∷ xs) ys = run_append (step st x) xs ys

inner_item : (row : Nodes) (n : Node) (items : List Item) (i : Item) (o : Option Place) → IsItem n i → Inner row items o → Inner (more row n) (items ++ i ∷ []) o
inner_item row n items i None is h = one_item h is
inner_item row n items i (Some place) is h = earlier h

-- one more item
pub tally_item : (row : Nodes) (n : Node) (i : Item) (old new : Pile) → IsItem n i → state_of new ≡ step (state_of old) i → new.inner ≡ old.inner → Tallies row old → Tallies (more row n) new
tally_item row n i old new is state inner t =
    let P : Option Place → Type 0 = λ o. Inner (more row n) (t.0 ++ i ∷ []) o in (
      t.0 ++ i ∷ [],
      signs_grow row n t.0 i t.1 (item_mark n i is),
      state ∙ ap (λ s. step s i) t.2 ∙ sym (run_append (Some ([], None)) t.0 (i ∷ [])),
      subst P (sym inner) (inner_item row n t.0 i old.inner is t.3),
    )

part_mark : (n : Node) (part : Part) → TellsNode n part → None ≡ mark_in n
part_mark n (Term t) tells = item_mark n (atom (term_of t)) tells
part_mark n (AtFault place) tells = sym (faulty_mark n place tells)

inner_part : (row : Nodes) (n : Node) (items : List Item) (part : Part) (o : Option Place) → TellsNode n part → Inner row items o → Inner (more row n) (items ++ atom (term_for part) ∷ []) (first_fault o part)
inner_part row n items (Term t) None tells h = one_item h tells
inner_part row n items (AtFault place) None tells h = last (items, h) tells
inner_part row n items part (Some place) tells h = earlier h

-- one more part
pub tally_part : (row : Nodes) (n : Node) (part : Part) (old new : Pile) → TellsNode n part → state_of new ≡ step (state_of old) (atom (term_for part)) → new.inner ≡ first_fault old.inner part → Tallies row old → Tallies (more row n) new
tally_part row n part old new tells state inner t =
    let i : Item = atom (term_for part) in
    let P : Option Place → Type 0 = λ o. Inner (more row n) (t.0 ++ i ∷ []) o in (
      t.0 ++ i ∷ [],
      signs_grow row n t.0 i t.1 (part_mark n part tells),
      state ∙ ap (λ s. step s i) t.2 ∙ sym (run_append (Some ([], None)) t.0 (i ∷ [])),
      subst P (sym inner) (inner_part row n t.0 part old.inner tells t.3),
    )

-- each mark has its row in the table
abbrev SignsHave : (List ℕ → Option Fix) → List (Option Sign) → Type 0
SignsHave rows [] = Unit {0}
SignsHave rows (None ∷ ms) = SignsHave rows ms
SignsHave rows (Some s ∷ ms) = HasRow rows s × SignsHave rows ms

signs_append : (rows : List ℕ → Option Fix) (ms ks : List (Option Sign)) → SignsHave rows ms → SignsHave rows ks → SignsHave rows (ms ++ ks)
signs_append rows [] ks h k = k
signs_append rows (None ∷ ms) ks h k = signs_append rows ms ks h k
signs_append rows (Some s ∷ ms) ks h k = (h.0, signs_append rows ms ks h.1 k)

items_have : (rows : List ℕ → Option Fix) (items : List Item) → SignsHave rows (map sign_in items) → HaveRows rows items
items_have rows [] h = tt
items_have rows (atom M ∷ is) h = items_have rows is h
items_have rows (sign s ∷ is) h = (h.0, items_have rows is h.1)

abbrev sign_by : Table → Word → List ℕ → Place → Option Sign
sign_by table w x at = elim (separator_of w) [ Some by ↦ Some (Separator by) | None ↦ operator_of table w x at ]

operator_row : (table : Table) (x : List ℕ) (at : Place) (o : Option Fix) (s : Sign) → get table x ≡ o → operator_with x at o ≡ Some s → HasRow (get table) s
operator_row table x at None s e f = cc
operator_row table x at (Some fix) s e f =
    let same : Operator x at fix ≡ s = cc in
    let P : Sign → Type 0 = λ t. HasRow (get table) t in
    subst P same e

separator_row : (table : Table) (by : Mark) (s : Sign) → Some (Separator by) ≡ Some s → HasRow (get table) s
separator_row table by s e =
    let same : Separator by ≡ s = cc in
    let P : Sign → Type 0 = λ t. HasRow (get table) t in
    subst P same tt

sign_row : (table : Table) (w : Word) (x : List ℕ) (at : Place) (s : Sign) → sign_by table w x at ≡ Some s → HasRow (get table) s
sign_row table Name x at s e = operator_row table x at (get table x) s refl e
sign_row table Forward x at s e = separator_row table _ s e
sign_row table Backward x at s e = separator_row table _ s e
sign_row table Underscore x at s e = cc
sign_row table Star x at s e = cc
sign_row table Equals x at s e = cc
sign_row table Keyword x at s e = cc
sign_row table Colon x at s e = separator_row table _ s e
sign_row table Dot x at s e = cc
sign_row table LParen x at s e = cc
sign_row table RParen x at s e = cc
sign_row table LBrace x at s e = cc
sign_row table RBrace x at s e = cc
sign_row table LBracket x at s e = cc
sign_row table RBracket x at s e = cc
sign_row table End x at s e = cc

begins_have : (table : Table) {tokens rest : List Lexeme} {n : Node} → Begins table tokens n rest → SignsHave (get table) (mark_in n ∷ [])
begins_have table (a_sign {x = x} {s = s} e) = (sign_row table x.word x.bytes x.at s e, tt)
begins_have table (a_name e f) = tt
begins_have table (a_hole e) = tt
begins_have table (a_type e) = tt
begins_have table (a_group e s f) = tt

row_has : (table : Table) {tokens rest : List Lexeme} {row : Nodes} → Row table tokens row rest → SignsHave (get table) (marks row)
row_has table empty = tt
row_has table (one_more {row = row} {n = n} r b) = signs_append (get table) (marks row) (mark_in n ∷ []) (row_has table r) (begins_have table b)

binds_mark : (table : Table) {tokens rest : List Lexeme} {n : Node} → Binds table tokens n rest → SignsHave (get table) (mark_in n ∷ [])
binds_mark table (without_type e f g s) = tt
binds_mark table (with_type e f g d h s) = tt

-- what is concluded of a whole row
concluded : (table : Table) (row : Nodes) (first : Place) (pile : Pile) (part : Part) → SignsHave (get table) (marks row) → Tallies row pile → Concludes first pile.inner (outcome (state_of pile)) part → Tells (outline first row) part
concluded table row first pile part have t c =
    let rows = get table in
    let P : List (Option Sign) → Type 0 = λ ms. SignsHave rows ms in
    let mine : HaveRows rows t.0 = items_have rows t.0 (subst P (sym t.1) have) in
    let Q : Option Settled → Type 0 = λ o. Concludes first pile.inner o part in
    by_reading (reading t.0) refl pile.inner part t.3 mine (subst Q (ap outcome t.2) c)
  where
    by_reading : (o : Option Settled) → reading t.0 ≡ o → (inner : Option Place) (part : Part) → Inner row t.0 inner → HaveRows (get table) t.0 → Concludes first inner o part → Tells (outline first row) part
    by_reading None e inner part h mine c =
        let T : Part → Type 0 = λ p. Tells (outline first row) p in
        subst T (sym c) (here (λ others same. none_once (get table) t.0 mine e others (same ∙ sym t.1)))
    by_reading (Some x) e (Some place) part h mine c =
        let T : Part → Type 0 = λ p. Tells (outline first row) p in
        subst T (sym c) (inside (λ others same. all_once (get table) t.0 x mine e others (same ∙ sym t.1)) h)
    by_reading (Some x) e None (Term term) h mine c =
        let T : syntax.Term → Type 0 = λ M. Means (outline first row) M in
        subst T (sym c) (means h (once (get table) t.0 x mine e))
    by_reading (Some x) e None (AtFault place) h mine c = absurd c

-- the first token of a row
abbrev pub First : List Lexeme → Type 0
First tokens = (x : Lexeme) × (behind : List Lexeme) × (tokens ≡ x ∷ behind)

pub begins_first : (table : Table) {tokens rest : List Lexeme} {n : Node} → Begins table tokens n rest → First tokens
begins_first table (a_sign {x = x} {rest = rest} e) = (x, rest, refl)
begins_first table (a_name {x = x} {rest = rest} e f) = (x, rest, refl)
begins_first table (a_hole {x = x} {rest = rest} e) = (x, rest, refl)
begins_first table (a_type {x = x} {rest = rest} e) = (x, rest, refl)
begins_first table (a_group {open_paren = x} {tokens = tokens} e s f) = (x, tokens, refl)

pub binds_first : (table : Table) {tokens rest : List Lexeme} {n : Node} → Binds table tokens n rest → First tokens
binds_first table (without_type {opener = x} {x = y} {closer = z} {tokens = tokens} e f g s) = (x, y ∷ z ∷ tokens, refl)
binds_first table (with_type {opener = x} {x = y} {colon = z} {tokens = tokens} e f g d h s) = (x, y ∷ z ∷ tokens, refl)

pub row_first : (table : Table) {tokens rest : List Lexeme} {row : Nodes} → Row table tokens row rest → First rest → First tokens
row_first table empty first = first
row_first table (one_more r b) first = row_first table r (begins_first table b)

pub a_plain : (table : Table) (tokens rest : List Lexeme) (row : Nodes) (n : Node) (end at : Place) → Row table tokens (more row n) rest → First tokens → at ≡ first_place end tokens → Sequence table tokens (outline at (more row n)) rest
a_plain table tokens rest row n end at r first is =
    let P : List Lexeme → Type 0 = λ ts. Row table ts (more row n) rest in
    let Q : List Lexeme → Type 0 = λ ts. Sequence table ts (outline at (more row n)) rest in
    let R : Place → Type 0 = λ p. Sequence table (first.0 ∷ first.1) (outline p (more row n)) rest in
    subst Q (sym first.2) (subst R (sym (is ∙ ap (first_place end) first.2)) (plain (subst P first.2 r)))

pub a_binder : (table : Table) (tokens next rest : List Lexeme) (row : Nodes) (n : Node) (end at : Place) → Row table tokens row next → Binds table next n rest → First tokens → at ≡ first_place end tokens → Sequence table tokens (outline at (more row n)) rest
a_binder table tokens next rest row n end at r b first is =
    let P : List Lexeme → Type 0 = λ ts. Row table ts row next in
    let Q : List Lexeme → Type 0 = λ ts. Sequence table ts (outline at (more row n)) rest in
    let R : Place → Type 0 = λ p. Sequence table (first.0 ∷ first.1) (outline p (more row n)) rest in
    subst Q (sym first.2) (subst R (sym (is ∙ ap (first_place end) first.2)) (with_binder (subst P first.2 r) b))

-- what a sequence says of the tokens
abbrev pub Read : Table → List Lexeme → List Lexeme → Part → Type 0
Read table tokens rest part = (O : Outline) × Sequence table tokens O rest × Tells O part

-- a sequence without a binder
pub read_plain : (table : Table) (xs : List Lexeme) (from upto : ℕ) (end at : Place) (pile : Pile) (part : Part) → Grows table xs from upto pile → (upto ≡ from → ⊥) → at ≡ first_place end (drop from xs)
    → Concludes at pile.inner (outcome (state_of pile)) part → Read table (drop from xs) (drop upto xs) part
read_plain table xs from upto end at pile part g on is c = by_row g.0 g.1 g.2 g.3
  where
    by_row : (row : Nodes) → Row table (drop from xs) row (drop upto xs) → Tallies row pile → ComesOn row from upto → Read table (drop from xs) (drop upto xs) part
    by_row none r t e = absurd (on e)
    by_row (more row n) r t e = (outline at (more row n), a_plain table (drop from xs) (drop upto xs) row n end at r (more_first r) is, concluded table (more row n) at pile part (row_has table r) t c)
      where
        more_first : Row table (drop from xs) (more row n) (drop upto xs) → First (drop from xs)
        more_first (one_more q b) = row_first table q (begins_first table b)

-- a sequence with a binder
pub read_binder : (table : Table) (xs : List Lexeme) (from at_binder next rest : ℕ) (end at : Place) (old new : Pile) (source_head : Head) (body part whole : Part)
    → Grows table xs from at_binder old
    → ((O : Outline) (left : List Lexeme) → Sequence table (drop next xs) O left → (n : Node) × Binds table (drop at_binder xs) n left × ((body part : Part) → Tells O body → Bound source_head body part → TellsNode n part))
    → Read table (drop next xs) (drop rest xs) body → Bound source_head body part
    → state_of new ≡ step (state_of old) (atom (term_for part)) → new.inner ≡ first_fault old.inner part → at ≡ first_place end (drop from xs)
    → Concludes at new.inner (outcome (state_of new)) whole → Read table (drop from xs) (drop rest xs) whole
read_binder table xs from at_binder next rest end at old new head body part whole g leads read is state inner place c =
    let b = leads read.0 (drop rest xs) read.1 in
    let n : Node = b.0 in
    let tells : TellsNode n part = b.2 body part read.2 is in
    let t : Tallies (more g.0 n) new = tally_part g.0 n part old new tells state inner g.2 in
    let first : First (drop from xs) = row_first table g.1 (binds_first table b.1) in (
      outline at (more g.0 n),
      a_binder table (drop from xs) (drop at_binder xs) (drop rest xs) g.0 n end at g.1 b.1 first place,
      concluded table (more g.0 n) at new whole (signs_append (get table) (marks g.0) (mark_in n ∷ []) (row_has table g.1) (binds_mark table b.1)) t c,
    )

-- one more token
pub grow_token : (table : Table) (xs : List Lexeme) (from upto : ℕ) (old new : Pile) (n : Node) (i : Item) → Begins table (drop upto xs) n (drop (upto + 1) xs) → IsItem n i → state_of new ≡ step (state_of old) i → new.inner ≡ old.inner
    → Grows table xs from upto old → Grows table xs from (upto + 1) new
grow_token table xs from upto old new n i b is state inner g = (more g.0 n, one_more g.1 b, tally_item g.0 n i old new is state inner g.2, tt)

-- the same pile
pub still : (table : Table) (xs : List Lexeme) (from upto : ℕ) (old new : Pile) → new ≡ old → Grows table xs from upto old → Grows table xs from upto new
still table xs from upto old new e g = let P : Pile → Type 0 = λ pile. Grows table xs from upto pile in subst P (sym e) g

tells_group : (O : Outline) (part : Part) → Tells O part → TellsNode (group O) part
tells_group O (Term t) m = group_item m
tells_group O (AtFault place) f = in_group f

-- one more group
pub grow_group : (table : Table) (xs : List Lexeme) (from upto end : ℕ) (old new : Pile) (part : Part) → LParen ≡ first_word (drop upto xs) → first_word (drop end xs) ≡ RParen → Read table (drop (upto + 1) xs) (drop end xs) part
    → state_of new ≡ step (state_of old) (atom (term_for part)) → new.inner ≡ first_fault old.inner part → Grows table xs from upto old → Grows table xs from (end + 1) new
grow_group table xs from upto end old new part opens closes read state inner g =
    let opener : Token xs upto (upto + 1) LParen = a_token xs upto (upto + 1) LParen refl opens (λ e. cc) in
    let closer : Token xs end (end + 1) RParen = a_token xs end (end + 1) RParen refl (sym closes) (λ e. cc) in
    let P : List Lexeme → Type 0 = λ rest. Sequence table (drop (upto + 1) xs) read.0 rest in
    let Q : List Lexeme → Type 0 = λ ts. Begins table ts (group read.0) (drop (end + 1) xs) in
    let b : Begins table (drop upto xs) (group read.0) (drop (end + 1) xs) = subst Q (sym opener.1) (a_group opener.2 (subst P closer.1 read.1) closer.2) in
    (more g.0 (group read.0), one_more g.1 b, tally_part g.0 (group read.0) part old new (tells_group read.0 part read.2) state inner g.2, tt)

-- Tokens by themselves

abbrev pub ByItself : Table → List Lexeme → List Lexeme → Item → Type 0
ByItself table tokens rest i = (n : Node) × Begins table tokens n rest × IsItem n i

pub by_sign : (table : Table) (xs : List Lexeme) (at : ℕ) (s : Sign) → Some s ≡ sign_first table (drop at xs) → ByItself table (drop at xs) (drop (at + 1) xs) (sign s)
by_sign table xs at s e =
    elim (split_at xs at) [
      | inl gone ↦ let clash : Some s ≡ None = e ∙ ap (sign_first table) gone in cc
      | inr found ↦
          let P : List Lexeme → Type 0 = λ ts. Begins table ts (mark s) (drop (at + 1) xs) in
          let Q : ℕ → Type 0 = λ k. Begins table (found.0 ∷ drop (suc at) xs) (mark s) (drop k xs) in
          (mark s, subst P (sym found.1) (subst Q (sym (add-one at)) (a_sign (sym (e ∙ ap (sign_first table) found.1)))), a_mark)
    ]

no_row : (x : List ℕ) (at : Place) (o : Option Fix) → operator_with x at o ≡ None → o ≡ None
no_row x at None e = refl
no_row x at (Some fix) e = cc

leaf_begins : (table : Table) (x : Lexeme) (rest : List Lexeme) (M : syntax.Term) (w : Word) → x.word ≡ w → sign_by table w x.bytes x.at ≡ None → leaf_by w x.bytes x.at ≡ Some M → Begins table (x ∷ rest) (leaf M) rest
leaf_begins table x rest M Name is lacks e =
    let same : syntax.identifier x.bytes x.at ≡ M = cc in
    let P : syntax.Term → Type 0 = λ N. Begins table (x ∷ rest) (leaf N) rest in
    subst P same (a_name is (no_row x.bytes x.at (get table x.bytes) lacks))
leaf_begins table x rest M Underscore is lacks e =
    let same : syntax.hole x.at ≡ M = cc in
    let P : syntax.Term → Type 0 = λ N. Begins table (x ∷ rest) (leaf N) rest in
    subst P same (a_hole is)
leaf_begins table x rest M Star is lacks e =
    let same : syntax.star ≡ M = cc in
    let P : syntax.Term → Type 0 = λ N. Begins table (x ∷ rest) (leaf N) rest in
    subst P same (a_type is)
leaf_begins table x rest M Forward is lacks e = cc
leaf_begins table x rest M Backward is lacks e = cc
leaf_begins table x rest M Equals is lacks e = cc
leaf_begins table x rest M Keyword is lacks e = cc
leaf_begins table x rest M Colon is lacks e = cc
leaf_begins table x rest M Dot is lacks e = cc
leaf_begins table x rest M LParen is lacks e = cc
leaf_begins table x rest M RParen is lacks e = cc
leaf_begins table x rest M LBrace is lacks e = cc
leaf_begins table x rest M RBrace is lacks e = cc
leaf_begins table x rest M LBracket is lacks e = cc
leaf_begins table x rest M RBracket is lacks e = cc
leaf_begins table x rest M End is lacks e = cc

pub by_leaf : (table : Table) (xs : List Lexeme) (at : ℕ) (M : syntax.Term) → sign_first table (drop at xs) ≡ None → Some M ≡ leaf_of (drop at xs) → ByItself table (drop at xs) (drop (at + 1) xs) (atom M)
by_leaf table xs at M lacks e =
    elim (split_at xs at) [
      | inl gone ↦ let clash : Some M ≡ None = e ∙ ap leaf_of gone in cc
      | inr found ↦
          let P : List Lexeme → Type 0 = λ ts. Begins table ts (leaf M) (drop (at + 1) xs) in
          let Q : ℕ → Type 0 = λ k. Begins table (found.0 ∷ drop (suc at) xs) (leaf M) (drop k xs) in
          (leaf M, subst P (sym found.1) (subst Q (sym (add-one at)) (leaf_begins table found.0 (drop (suc at) xs) M found.0.word refl (sym (ap (sign_first table) found.1) ∙ lacks) (sym (e ∙ ap leaf_of found.1)))), a_leaf)
    ]

pub kept_fault : (o : Option Place) (part : Part) (t : ExtTerm) → part ≡ Term t → first_fault o part ≡ o
kept_fault None part t e = ap (first_fault None) e
kept_fault (Some place) part t e = refl

pub closer_stands : (binder : Binder) (w : Word) → w ≡ closer_of binder → w ≡ End → ⊥
closer_stands Pi w e f = let clash : RBrace ≡ End = sym e ∙ f in cc
closer_stands Lambda w e f = let clash : RBracket ≡ End = sym e ∙ f in cc

pub bindable_stands : (w : Word) → is_bindable w ≡ true → w ≡ End → ⊥
bindable_stands w e f = let clash : false ≡ true = sym (ap is_bindable f) ∙ e in cc

pub opener_stands : (w : Word) (binder : Binder) → binder_of w ≡ Some binder → w ≡ End → ⊥
opener_stands w binder e f = let clash : None ≡ Some binder = sym (ap binder_of f) ∙ e in cc

-- The head of a binder

pub leads_alone : (table : Table) (xs : List Lexeme) (at : ℕ) (end : Place) (head : Head) → binder_of (first_word (drop at xs)) ≡ Some head.binder → is_bindable (first_word (drop (at + 1) xs)) ≡ true
    → first_word (drop (at + 2) xs) ≡ closer_of head.binder → head.name ≡ first_bytes (drop (at + 1) xs) → head.at ≡ first_place end (drop at xs) → head.domain ≡ None
    → (O : Outline) (rest : List Lexeme) → Sequence table (drop (at + 3) xs) O rest
    → (n : Node) × Binds table (drop at xs) n rest × ((body part : Part) → Tells O body → Bound head body part → TellsNode n part)
leads_alone table xs at end head opens binds closes same place lacks O rest s =
    let opener : Token xs at (at + 1) (first_word (drop at xs)) = a_token xs at (at + 1) _ refl refl (opener_stands _ head.binder opens) in
    let x : Token xs (at + 1) (at + 2) (first_word (drop (at + 1) xs)) = a_token xs (at + 1) (at + 2) _ (omega arith) refl (bindable_stands _ binds) in
    let closer : Token xs (at + 2) (at + 3) (first_word (drop (at + 2) xs)) = a_token xs (at + 2) (at + 3) _ (omega arith) refl (closer_stands head.binder _ closes) in
    let n : Node = binding head.binder head.name head.at O in
    let P : List Lexeme → Type 0 = λ ts. Binds table ts n rest in
    let Q : List ℕ → Type 0 = λ name. Binds table (opener.0 ∷ x.0 ∷ closer.0 ∷ drop (at + 3) xs) (binding head.binder name head.at O) rest in
    let R : Place → Type 0 = λ p. Binds table (opener.0 ∷ x.0 ∷ closer.0 ∷ drop (at + 3) xs) (binding head.binder x.0.bytes p O) rest in
    let all : drop at xs ≡ opener.0 ∷ x.0 ∷ closer.0 ∷ drop (at + 3) xs = opener.1 ∙ ap (λ more. opener.0 ∷ more) (x.1 ∙ ap (λ more. x.0 ∷ more) closer.1) in
    let b : Binds table (opener.0 ∷ x.0 ∷ closer.0 ∷ drop (at + 3) xs) (binding head.binder x.0.bytes opener.0.at O) rest =
    without_type (ap binder_of opener.2 ∙ opens) (ap is_bindable x.2 ∙ binds) (closer.2 ∙ closes) s in (
      n,
      subst P (sym all) (subst Q (sym (same ∙ ap first_bytes x.1)) (subst R (sym (place ∙ ap (first_place end) opener.1)) b)),
      λ body part tells is. let D : Option Part → Type 0 = λ d. BoundOver head.binder head.name head.at d body part in over_body O head.binder head.name head.at body part tells (subst D lacks is),
    )
  where
    over_body : (O : Outline) (binder : Binder) (x : List ℕ) (at : Place) (body part : Part) → Tells O body → BoundBy binder x at syntax.untyped body part → TellsNode (binding binder x at O) part
    over_body O binder x at (Term b) (Term t) tells is =
        let P : syntax.Term → Type 0 = λ M. IsItem (binding binder x at O) (atom M) in
        subst P (sym is) (a_binding tells)
    over_body O binder x at (AtFault place) (AtFault first) tells is =
        let P : Place → Type 0 = λ p. FaultWithin (binding binder x at O) p in
        subst P (sym is) (in_body tells)
    over_body O binder x at (Term b) (AtFault first) tells is = absurd is
    over_body O binder x at (AtFault place) (Term t) tells is = absurd is

pub leads_typed : (table : Table) (xs : List Lexeme) (at end_at : ℕ) (end : Place) (head : Head) (domain : Part) → binder_of (first_word (drop at xs)) ≡ Some head.binder → is_bindable (first_word (drop (at + 1) xs)) ≡ true
    → first_word (drop (at + 2) xs) ≡ Colon → Read table (drop (at + 3) xs) (drop end_at xs) domain → first_word (drop end_at xs) ≡ closer_of head.binder → head.name ≡ first_bytes (drop (at + 1) xs)
    → head.at ≡ first_place end (drop at xs) → head.domain ≡ Some domain
    → (O : Outline) (rest : List Lexeme) → Sequence table (drop (end_at + 1) xs) O rest
    → (n : Node) × Binds table (drop at xs) n rest × ((body part : Part) → Tells O body → Bound head body part → TellsNode n part)
leads_typed table xs at end_at end head domain opens binds colons read closes same place some O rest s =
    let opener : Token xs at (at + 1) (first_word (drop at xs)) = a_token xs at (at + 1) _ refl refl (opener_stands _ head.binder opens) in
    let x : Token xs (at + 1) (at + 2) (first_word (drop (at + 1) xs)) = a_token xs (at + 1) (at + 2) _ (omega arith) refl (bindable_stands _ binds) in
    let colon : Token xs (at + 2) (at + 3) (first_word (drop (at + 2) xs)) = a_token xs (at + 2) (at + 3) _ (omega arith) refl (λ e. let clash : Colon ≡ End = sym colons ∙ e in cc) in
    let closer : Token xs end_at (end_at + 1) (first_word (drop end_at xs)) = a_token xs end_at (end_at + 1) _ refl refl (closer_stands head.binder _ closes) in
    let D : Outline = read.0 in
    let n : Node = typed_binding head.binder head.name head.at D O in
    let P : List Lexeme → Type 0 = λ ts. Binds table ts n rest in
    let Q : List ℕ → Type 0 = λ name. Binds table (opener.0 ∷ x.0 ∷ colon.0 ∷ drop (at + 3) xs) (typed_binding head.binder name head.at D O) rest in
    let R : Place → Type 0 = λ p. Binds table (opener.0 ∷ x.0 ∷ colon.0 ∷ drop (at + 3) xs) (typed_binding head.binder x.0.bytes p D O) rest in
    let S : List Lexeme → Type 0 = λ left. Sequence table (drop (at + 3) xs) D left in
    let all : drop at xs ≡ opener.0 ∷ x.0 ∷ colon.0 ∷ drop (at + 3) xs = opener.1 ∙ ap (λ more. opener.0 ∷ more) (x.1 ∙ ap (λ more. x.0 ∷ more) colon.1) in
    let b : Binds table (opener.0 ∷ x.0 ∷ colon.0 ∷ drop (at + 3) xs) (typed_binding head.binder x.0.bytes opener.0.at D O) rest =
    with_type (ap binder_of opener.2 ∙ opens) (ap is_bindable x.2 ∙ binds) (colon.2 ∙ colons) (subst S closer.1 read.1) (closer.2 ∙ closes) s in (
      n,
      subst P (sym all) (subst Q (sym (same ∙ ap first_bytes x.1)) (subst R (sym (place ∙ ap (first_place end) opener.1)) b)),
      λ body part tells is. let E : Option Part → Type 0 = λ d. BoundOver head.binder head.name head.at d body part in over_both D O head.binder head.name head.at domain body part read.2 tells (subst E some is),
    )
  where
    over_both : (D O : Outline) (binder : Binder) (x : List ℕ) (at : Place) (domain body part : Part) → Tells D domain → Tells O body → BoundOver binder x at (Some domain) body part → TellsNode (typed_binding binder x at D O) part
    over_both D O binder x at (Term A) (Term b) (Term t) typed tells is =
        let P : syntax.Term → Type 0 = λ M. IsItem (typed_binding binder x at D O) (atom M) in
        subst P (sym is) (a_typed_binding typed tells)
    over_both D O binder x at (Term A) (AtFault place) (AtFault first) typed tells is =
        let P : Place → Type 0 = λ p. FaultWithin (typed_binding binder x at D O) p in
        subst P (sym is) (in_typed_body (term_of A, typed) tells)
    over_both D O binder x at (Term A) (Term b) (AtFault first) typed tells is = absurd is
    over_both D O binder x at (Term A) (AtFault place) (Term t) typed tells is = absurd is
    over_both D O binder x at (AtFault place) body part typed tells is =
        let T : Part → Type 0 = λ p. TellsNode (typed_binding binder x at D O) p in
        subst T (sym is) (in_domain typed)
