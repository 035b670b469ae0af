-- Tokens are a declaration in one way at most.
use Rattle.std.proofs.Common.{◌≡◌, ℕ, List, ◌∷◌, true, false, Option, None, Some, refl, sym, ap, ◌∙◌, subst, ◌⊎◌, inl, inr, ⊎_elim}
use Rattle.std.specs.FinMap.{get}
use Rattle.tw_lexer.specs.declared.place.Place.{Place}
use Rattle.tw_parse.specs.Faults.{leaf_by}
use Rattle.tw_parse.specs.Failing.{is_item}
use Rattle.tw_parse.specs.Outlines.{Table, operator_with, operator_of, sign_of, Outline, outline, Nodes, none, more, Node, leaf, mark, group, binding, typed_binding, Begins, a_sign, a_name, a_hole, a_type, a_group, Row, empty, one_more, Sequence, plain, with_binder, Binds, without_type, with_type}
use Rattle.tw_parse.specs.Syntax.{Term, identifier, hole, star}
use Rattle.tw_parse.specs.Words.{Lexeme, first_word, separator_of, binder_of, closer_of}
use Rattle.tw_parse.specs.declared.sign.Sign.{Sign}
use Rattle.tw_parse.specs.declared.sign.Sign.TheVariants.{Separator}
use Rattle.tw_parse.specs.declared.words.Binder.{Binder}
use Rattle.tw_parse.specs.declared.words.Binder.TheVariants.{Pi, Lambda}
use Rattle.tw_parse.specs.declared.words.Word.{Word}
use Rattle.tw_parse.specs.declared.words.Word.TheVariants.{Name, Forward, Backward, Underscore, Star, Equals, Keyword, Colon, Dot, LParen, RParen, LBrace, RBrace, LBracket, RBracket, End}

-- The node that a token is by itself

abbrev node_with : Option Sign → Option Term → Option Node
node_with (Some s) o = Some (mark s)
node_with None (Some M) = Some (leaf M)
node_with None None = None

abbrev sign_by : Table → Word → List ℕ → Place → Option Sign
sign_by table w x at = elim (separator_of w) [ Some by ↦ Some (Separator by) | None ↦ operator_of table w x at ]

abbrev node_by : Table → Word → List ℕ → Place → Option Node
node_by table w x at = node_with (sign_by table w x at) (leaf_by w x at)

abbrev node_of : Table → Lexeme → Option Node
node_of table x = node_by table x.word x.bytes x.at

-- the tokens begin with a node of one token, or with one in parentheses
record Single (table : Table) (tokens : List Lexeme) (n : Node) (rest : List Lexeme) : Type 0 where
  x : Lexeme
  split : tokens ≡ x ∷ rest
  is : node_of table x ≡ Some n

record Grouped (table : Table) (tokens : List Lexeme) (n : Node) (rest : List Lexeme) : Type 0 where
  open_paren : Lexeme
  close_paren : Lexeme
  inner : List Lexeme
  O : Outline
  split : tokens ≡ open_paren ∷ inner
  opens : open_paren.word ≡ LParen
  sequence : Sequence table inner O (close_paren ∷ rest)
  closes : close_paren.word ≡ RParen
  is : n ≡ group O

sign_single : (table : Table) (x : Lexeme) (rest : List Lexeme) (s : Sign) → sign_of table x ≡ Some s → Single table (x ∷ rest) (mark s) rest
sign_single table x rest s e = record { x = x; split = refl; is = ap (λ o. node_with o (leaf_by x.word x.bytes x.at)) e }

name_single : (table : Table) (x : Lexeme) (rest : List Lexeme) → x.word ≡ Name → get table x.bytes ≡ None → Single table (x ∷ rest) (leaf (identifier x.bytes x.at)) rest
name_single table x rest w g = record { x = x; split = refl; is = ap (λ v. node_by table v x.bytes x.at) w ∙ ap (λ o. node_with (operator_with x.bytes x.at o) (leaf_by Name x.bytes x.at)) g }

hole_single : (table : Table) (x : Lexeme) (rest : List Lexeme) → x.word ≡ Underscore → Single table (x ∷ rest) (leaf (hole x.at)) rest
hole_single table x rest w = record { x = x; split = refl; is = ap (λ v. node_by table v x.bytes x.at) w }

type_single : (table : Table) (x : Lexeme) (rest : List Lexeme) → x.word ≡ Star → Single table (x ∷ rest) (leaf star) rest
type_single table x rest w = record { x = x; split = refl; is = ap (λ v. node_by table v x.bytes x.at) w }

single_or_grouped : (table : Table) {tokens rest : List Lexeme} {n : Node} → Begins table tokens n rest → Single table tokens n rest ⊎ Grouped table tokens n rest
single_or_grouped table (a_sign {x = x} {rest = rest} {s = s} e) = inl (sign_single table x rest s e)
single_or_grouped table (a_name {x = x} {rest = rest} w g) = inl (name_single table x rest w g)
single_or_grouped table (a_hole {x = x} {rest = rest} w) = inl (hole_single table x rest w)
single_or_grouped table (a_type {x = x} {rest = rest} w) = inl (type_single table x rest w)
single_or_grouped table (a_group {open_paren = o} {close_paren = c} {tokens = ts} {O = O} w s v) = inr (record { open_paren = o; close_paren = c; inner = ts; O = O; split = refl; opens = w; sequence = s; closes = v; is = refl })

-- What begins an item

node_is_item : (table : Table) (w : Word) (x : List ℕ) (at : Place) (n : Node) → node_by table w x at ≡ Some n → is_item w ≡ true
node_is_item table Name x at n e = refl
node_is_item table Forward x at n e = refl
node_is_item table Backward x at n e = refl
node_is_item table Underscore x at n e = refl
node_is_item table Star x at n e = refl
node_is_item table Colon x at n e = refl
node_is_item table LParen x at n e = refl
node_is_item table LBrace x at n e = refl
node_is_item table LBracket x at n e = refl
node_is_item table Equals x at n e = cc
node_is_item table Keyword x at n e = cc
node_is_item table Dot x at n e = cc
node_is_item table RParen x at n e = cc
node_is_item table RBrace x at n e = cc
node_is_item table RBracket x at n e = cc
node_is_item table End x at n e = cc

node_is_no_binder : (table : Table) (w : Word) (x : List ℕ) (at : Place) (n : Node) → node_by table w x at ≡ Some n → binder_of w ≡ None
node_is_no_binder table Name x at n e = refl
node_is_no_binder table Forward x at n e = refl
node_is_no_binder table Backward x at n e = refl
node_is_no_binder table Underscore x at n e = refl
node_is_no_binder table Star x at n e = refl
node_is_no_binder table Colon x at n e = refl
node_is_no_binder table LParen x at n e = refl
node_is_no_binder table LBrace x at n e = cc
node_is_no_binder table LBracket x at n e = cc
node_is_no_binder table Equals x at n e = refl
node_is_no_binder table Keyword x at n e = refl
node_is_no_binder table Dot x at n e = refl
node_is_no_binder table RParen x at n e = refl
node_is_no_binder table RBrace x at n e = refl
node_is_no_binder table RBracket x at n e = refl
node_is_no_binder table End x at n e = refl

binder_is_item : (w : Word) (k : Binder) → binder_of w ≡ Some k → is_item w ≡ true
binder_is_item Name k e = refl
binder_is_item Forward k e = refl
binder_is_item Backward k e = refl
binder_is_item Underscore k e = refl
binder_is_item Star k e = refl
binder_is_item Colon k e = refl
binder_is_item LParen k e = refl
binder_is_item LBrace k e = refl
binder_is_item LBracket k e = refl
binder_is_item Equals k e = cc
binder_is_item Keyword k e = cc
binder_is_item Dot k e = cc
binder_is_item RParen k e = cc
binder_is_item RBrace k e = cc
binder_is_item RBracket k e = cc
binder_is_item End k e = cc

-- a node that is no binder, or one that is
record NodeStarts (tokens : List Lexeme) : Type 0 where
  item : is_item (first_word tokens) ≡ true
  no_binder : binder_of (first_word tokens) ≡ None

record BinderStarts (tokens : List Lexeme) : Type 0 where
  item : is_item (first_word tokens) ≡ true
  binder : Binder
  is : binder_of (first_word tokens) ≡ Some binder

single_starts : (table : Table) (tokens rest : List Lexeme) (n : Node) → Single table tokens n rest → NodeStarts tokens
single_starts table tokens rest n h =
    let word : first_word tokens ≡ h.x.word = ap first_word h.split in
    record { item = ap is_item word ∙ node_is_item table h.x.word h.x.bytes h.x.at n h.is; no_binder = ap binder_of word ∙ node_is_no_binder table h.x.word h.x.bytes h.x.at n h.is }

grouped_starts : (table : Table) (tokens rest : List Lexeme) (n : Node) → Grouped table tokens n rest → NodeStarts tokens
grouped_starts table tokens rest n h = let word : first_word tokens ≡ LParen = ap first_word h.split ∙ h.opens in record { item = ap is_item word; no_binder = ap binder_of word }

node_starts : (table : Table) {tokens rest : List Lexeme} {n : Node} → Begins table tokens n rest → NodeStarts tokens
node_starts table {tokens = tokens} {rest = rest} {n = n} b = ⊎_elim (single_starts table tokens rest n) (grouped_starts table tokens rest n) (single_or_grouped table b)

binder_starts : (table : Table) {tokens rest : List Lexeme} {n : Node} → Binds table tokens n rest → BinderStarts tokens
binder_starts table (without_type {binder = k} {opener = o} e b c s) = record { item = binder_is_item o.word k e; binder = k; is = e }
binder_starts table (with_type {binder = k} {opener = o} e b l d c s) = record { item = binder_is_item o.word k e; binder = k; is = e }

stops_here : (tokens : List Lexeme) → is_item (first_word tokens) ≡ true → is_item (first_word tokens) ≡ false → ⊥
stops_here tokens is isnt = let clash : true ≡ false = sym is ∙ isnt in cc

not_both : (tokens : List Lexeme) → NodeStarts tokens → BinderStarts tokens → ⊥
not_both tokens n b = let clash : None ≡ Some b.binder = sym n.no_binder ∙ b.is in cc

-- Only one node, sequence and binder begins with the tokens; where a sequence ends, no further node stands

record SameNode (n m : Node) (rest others : List Lexeme) : Type 0 where
  nodes : n ≡ m
  rests : rest ≡ others

pub record SameSequence (O P : Outline) (rest others : List Lexeme) : Type 0 where
  pub outlines : O ≡ P
  pub rests : rest ≡ others

abbrev OneNode : Table → List Lexeme → Node → List Lexeme → Type 0
OneNode table tokens n rest = (m : Node) (others : List Lexeme) → Begins table tokens m others → SameNode n m rest others

abbrev OneBinder : Table → List Lexeme → Node → List Lexeme → Type 0
OneBinder table tokens n rest = (m : Node) (others : List Lexeme) → Binds table tokens m others → is_item (first_word rest) ≡ false → is_item (first_word others) ≡ false → SameNode n m rest others

abbrev pub OneSequence : Table → List Lexeme → Outline → List Lexeme → Type 0
OneSequence table tokens O rest = (P : Outline) (others : List Lexeme) → Sequence table tokens P others → is_item (first_word rest) ≡ false → is_item (first_word others) ≡ false → SameSequence O P rest others

single_twice : (table : Table) (tokens rest others : List Lexeme) (n m : Node) → Single table tokens n rest → Single table tokens m others → SameNode n m rest others
single_twice table tokens rest others n m h k =
    let split : h.x ∷ rest ≡ k.x ∷ others = sym h.split ∙ k.split in
    let front : h.x ≡ k.x = cc in
    let nodes : Some n ≡ Some m = sym h.is ∙ ap (node_of table) front ∙ k.is in
    record { nodes = let e : n ≡ m = cc in e; rests = let e : rest ≡ others = cc in e }

single_not_paren : (table : Table) (tokens rest : List Lexeme) (n : Node) → Single table tokens n rest → first_word tokens ≡ LParen → ⊥
single_not_paren table tokens rest n h opens =
    let word : h.x.word ≡ LParen = sym (ap first_word h.split) ∙ opens in
    let clash : Some n ≡ None = sym h.is ∙ ap (λ w. node_by table w h.x.bytes h.x.at) word in
    cc

single_once : (table : Table) (tokens rest : List Lexeme) (n : Node) → Single table tokens n rest → OneNode table tokens n rest
single_once table tokens rest n h m others b =
    ⊎_elim (single_twice table tokens rest others n m h) (λ k. absurd (single_not_paren table tokens rest n h (ap first_word k.split ∙ k.opens))) (single_or_grouped table b)

grouped_twice : (table : Table) (o c : Lexeme) (ts rest others : List Lexeme) (O : Outline) (m : Node) → OneSequence table ts O (c ∷ rest) → c.word ≡ RParen → Grouped table (o ∷ ts) m others → SameNode (group O) m rest others
grouped_twice table o c ts rest others O m once closes k =
    let tail : k.inner ≡ ts = let split : o ∷ ts ≡ k.open_paren ∷ k.inner = k.split in let e : k.inner ≡ ts = cc in e in
    let same = once k.O (k.close_paren ∷ others) (subst (λ (us : List Lexeme). Sequence table us k.O (k.close_paren ∷ others)) tail k.sequence) (ap is_item closes) (ap is_item k.closes) in
    let rests : c ∷ rest ≡ k.close_paren ∷ others = same.rests in
    record { nodes = ap group same.outlines ∙ sym k.is; rests = let e : rest ≡ others = cc in e }

group_once : (table : Table) (o c : Lexeme) (ts rest : List Lexeme) (O : Outline) → o.word ≡ LParen → OneSequence table ts O (c ∷ rest) → c.word ≡ RParen → OneNode table (o ∷ ts) (group O) rest
group_once table o c ts rest O opens once closes m others b =
    ⊎_elim
    (λ h. absurd (single_not_paren table (o ∷ ts) others m h opens))
    (grouped_twice table o c ts rest others O m once closes)
    (single_or_grouped table b)

-- Nodes in a row, from the first on: each is the only one with which its tokens begin

data Chain (table : Table) : Nodes → List Lexeme → Nodes → List Lexeme → Type 0 where
  stop : {row : Nodes} {tokens : List Lexeme} → Chain table row tokens row tokens
  step : {old new : Nodes} {tokens next rest : List Lexeme} {n : Node} → Begins table tokens n next → OneNode table tokens n next → Chain table (more old n) next new rest → Chain table old tokens new rest

chain_more : (table : Table) {old new : Nodes} {tokens next : List Lexeme} → Chain table old tokens new next → (n : Node) (rest : List Lexeme) → Begins table next n rest → OneNode table next n rest → Chain table old tokens (more new n) rest
chain_more table stop n rest b u = step b u stop
chain_more table (step c v h) n rest b u = step c v (chain_more table h n rest b u)

data Links (table : Table) : Nodes → List Lexeme → Nodes → List Lexeme → Type 0 where
  end : {row : Nodes} {tokens : List Lexeme} → Links table row tokens row tokens
  link : {old new : Nodes} {tokens next rest : List Lexeme} {n : Node} → Begins table tokens n next → Links table (more old n) next new rest → Links table old tokens new rest

link_more : (table : Table) {old new : Nodes} {tokens next : List Lexeme} → Links table old tokens new next → (n : Node) (rest : List Lexeme) → Begins table next n rest → Links table old tokens (more new n) rest
link_more table end n rest b = link b end
link_more table (link c h) n rest b = link c (link_more table h n rest b)

links : (table : Table) {tokens rest : List Lexeme} {row : Nodes} → Row table tokens row rest → Links table none tokens row rest
links table empty = end
links table (one_more {rest = rest} {n = n} r b) = link_more table (links table r) n rest b

-- two rows from the same tokens are the same, or one goes on where the other ends
record SameRow (row others : Nodes) (next after : List Lexeme) : Type 0 where
  rows : row ≡ others
  rests : next ≡ after

abbrev Compared : Nodes → Nodes → List Lexeme → List Lexeme → Type 0
Compared row others next after = SameRow row others next after ⊎ NodeStarts next ⊎ NodeStarts after

compare : (table : Table) {old row : Nodes} {tokens next : List Lexeme} → Chain table old tokens row next → (others : Nodes) (after : List Lexeme) → Links table old tokens others after → Compared row others next after
compare table stop others after end = inl (record { rows = refl; rests = refl })
compare table stop others after (link b h) = inr (inl (node_starts table b))
compare table (step b u c) others after end = inr (inr (node_starts table b))
compare table (step {old = old} {next = next} {n = n} b u c) others after (link {next = between} {n = m} d h) =
    let same : SameNode n m next between = u m between d in
    compare table c others after
    (subst (λ (k : Node). Links table (more old k) next others after) (sym same.nodes) (subst (λ (ts : List Lexeme). Links table (more old m) ts others after) (sym same.rests) h))

-- Sequences

plain_once : (table : Table) (x : Lexeme) (tokens rest : List Lexeme) (row : Nodes) (n : Node) → Chain table none (x ∷ tokens) (more row n) rest → OneSequence table (x ∷ tokens) (outline x.at (more row n)) rest
plain_once table x tokens rest row n c P others (plain r) i j =
    elim (compare table c _ others (links table r)) [
      | inl same ↦ record { outlines = ap (outline x.at) same.rows; rests = same.rests }
      | inr (inl starts) ↦ absurd (stops_here rest starts.item i)
      | inr (inr starts) ↦ absurd (stops_here others starts.item j)
    ]
plain_once table x tokens rest row n c P others (with_binder {next = next} r b) i j =
    let k = binder_starts table b in
    elim (compare table c _ next (links table r)) [
      | inl same ↦ absurd (stops_here rest (ap (λ ts. is_item (first_word ts)) same.rests ∙ k.item) i)
      | inr (inl starts) ↦ absurd (stops_here rest starts.item i)
      | inr (inr starts) ↦ absurd (not_both next starts k)
    ]

binder_once : (table : Table) (x : Lexeme) (tokens next rest : List Lexeme) (row : Nodes) (n : Node) → Chain table none (x ∷ tokens) row next → Binds table next n rest → OneBinder table next n rest → OneSequence table (x ∷ tokens) (outline x.at (more row n)) rest
binder_once table x tokens next rest row n c d once P others (plain r) i j =
    let k = binder_starts table d in
    elim (compare table c _ others (links table r)) [
      | inl same ↦ absurd (stops_here others (ap (λ ts. is_item (first_word ts)) (sym same.rests) ∙ k.item) j)
      | inr (inl starts) ↦ absurd (not_both next starts k)
      | inr (inr starts) ↦ absurd (stops_here others starts.item j)
    ]
binder_once table x tokens next rest row n c d once P others (with_binder {next = after} {row = known} {n = m} r b) i j =
    elim (compare table c known after (links table r)) [
      | inl same ↦ let last = once m others (subst (λ (ts : List Lexeme). Binds table ts m others) (sym same.rests) b) i j in
          record { outlines = ap (λ (ns : Nodes). outline x.at (more ns n)) same.rows ∙ ap (λ (k : Node). outline x.at (more known k)) last.nodes; rests = last.rests }
      | inr (inl starts) ↦ absurd (not_both next starts (binder_starts table d))
      | inr (inr starts) ↦ absurd (not_both after starts (binder_starts table b))
    ]

-- Binders

closer_is_no_item : (k : Binder) (w : Word) → w ≡ closer_of k → is_item w ≡ false
closer_is_no_item Pi w e = ap is_item e
closer_is_no_item Lambda w e = ap is_item e

closer_is_no_colon : (k : Binder) (w : Word) → w ≡ closer_of k → w ≡ Colon → ⊥
closer_is_no_colon Pi w e f = let clash : RBrace ≡ Colon = sym e ∙ f in cc
closer_is_no_colon Lambda w e f = let clash : RBracket ≡ Colon = sym e ∙ f in cc

same_binder : (w : Word) (k l : Binder) → binder_of w ≡ Some k → binder_of w ≡ Some l → k ≡ l
same_binder w k l e f = let same : Some k ≡ Some l = sym e ∙ f in let is : k ≡ l = cc in is

untyped_once : (table : Table) (k : Binder) (o x c : Lexeme) (tokens rest : List Lexeme) (O : Outline) → binder_of o.word ≡ Some k → c.word ≡ closer_of k → OneSequence table tokens O rest → OneBinder table (o ∷ x ∷ c ∷ tokens) (binding k x.bytes o.at O) rest
untyped_once table k o x c tokens rest O opens closes once m others (without_type {binder = l} {O = P} e b f s) i j =
    let same = once P others s i j in
    record { nodes = ap (λ (h : Binder). binding h x.bytes o.at O) (same_binder o.word k l opens e) ∙ ap (binding l x.bytes o.at) same.outlines; rests = same.rests }
untyped_once table k o x c tokens rest O opens closes once m others (with_type e b f d g s) i j = absurd (closer_is_no_colon k c.word closes f)

typed_once : (table : Table) (k : Binder) (o x l c : Lexeme) (tokens next rest : List Lexeme) (D O : Outline) → binder_of o.word ≡ Some k → l.word ≡ Colon → c.word ≡ closer_of k → OneSequence table tokens D (c ∷ next) → OneSequence table next O rest
    → OneBinder table (o ∷ x ∷ l ∷ tokens) (typed_binding k x.bytes o.at D O) rest
typed_once table k o x l c tokens next rest D O opens colon closes domain body m others (without_type {binder = h} e b f s) i j = absurd (closer_is_no_colon h l.word f colon)
typed_once table k o x l c tokens next rest D O opens colon closes domain body m others (with_type {binder = h} {closer = d} {next = after} {D = E} {O = P} e b f s g t) i j =
    let first = domain E (d ∷ after) s (closer_is_no_item k c.word closes) (closer_is_no_item h d.word g) in
    let tails : c ∷ next ≡ d ∷ after = first.rests in
    let tail : after ≡ next = cc in
    let last = body P others (subst (λ (ts : List Lexeme). Sequence table ts P others) tail t) i j in
    record {
      nodes = ap (λ (q : Binder). typed_binding q x.bytes o.at D O) (same_binder o.word k h opens e) ∙ ap (λ (q : Outline). typed_binding h x.bytes o.at q O) first.outlines ∙ ap (typed_binding h x.bytes o.at E) last.outlines;
      rests = last.rests;
    }

mutual
  begins_once : (table : Table) {tokens rest : List Lexeme} {n : Node} → Begins table tokens n rest → OneNode table tokens n rest
  begins_once table (a_sign {x = x} {rest = rest} {s = s} e) = single_once table (x ∷ rest) rest (mark s) (sign_single table x rest s e)
  begins_once table (a_name {x = x} {rest = rest} w g) = single_once table (x ∷ rest) rest (leaf (identifier x.bytes x.at)) (name_single table x rest w g)
  begins_once table (a_hole {x = x} {rest = rest} w) = single_once table (x ∷ rest) rest (leaf (hole x.at)) (hole_single table x rest w)
  begins_once table (a_type {x = x} {rest = rest} w) = single_once table (x ∷ rest) rest (leaf star) (type_single table x rest w)
  begins_once table (a_group {open_paren = o} {close_paren = c} {tokens = ts} {rest = rest} {O = O} w s v) = group_once table o c ts rest O w (sequence_once table s) v

  row_chain : (table : Table) {tokens rest : List Lexeme} {row : Nodes} → Row table tokens row rest → Chain table none tokens row rest
  row_chain table empty = stop
  row_chain table (one_more {rest = rest} {n = n} r b) = chain_more table (row_chain table r) n rest b (begins_once table b)

  pub sequence_once : (table : Table) {tokens rest : List Lexeme} {O : Outline} → Sequence table tokens O rest → OneSequence table tokens O rest
  sequence_once table (plain {x = x} {tokens = tokens} {rest = rest} {row = row} {n = n} r) = plain_once table x tokens rest row n (row_chain table r)
  sequence_once table (with_binder {x = x} {tokens = tokens} {next = next} {rest = rest} {row = row} {n = n} r b) = binder_once table x tokens next rest row n (row_chain table r) b (binds_once table b)

  binds_once : (table : Table) {tokens rest : List Lexeme} {n : Node} → Binds table tokens n rest → OneBinder table tokens n rest
  binds_once table (without_type {binder = k} {opener = o} {x = x} {closer = c} {tokens = tokens} {rest = rest} {O = O} e b f s) = untyped_once table k o x c tokens rest O e f (sequence_once table s)
  binds_once table (with_type {binder = k} {opener = o} {x = x} {colon = l} {closer = c} {tokens = tokens} {next = next} {rest = rest} {D = D} {O = O} e b f s g t) =
      typed_once table k o x l c tokens next rest D O e f g (sequence_once table s) (sequence_once table t)
