-- A sequence that is read from its front, an item at a time.
use Rattle.std.proofs.Common.{◌≡◌, List, [], ◌∷◌, ◌++◌, true, Option, Some, None, refl, sym, ap, ◌∙◌, subst}
use Rattle.std.specs.FinMap.{get}
use Rattle.tw_lexer.specs.declared.place.Place.{Place}
use Rattle.tw_parse.specs.Grammar.{Item, atom, sign}
use Rattle.tw_parse.specs.Laws.{HasRow, HaveRows}
use Rattle.tw_parse.specs.Outlines.{Table, Outline, outline, Nodes, none, more, Node, Begins, a_sign, a_name, a_hole, a_type, a_group, Row, empty, one_more, Sequence, plain, with_binder, Binds}
use Rattle.tw_parse.specs.Piles.{Waiting, Settled, State, settle_all, step, run, outcome, reading}
use Rattle.tw_parse.specs.Readings.{Means, means, Lists, no_items, one_item, IsItem}
use Rattle.tw_parse.specs.Signs.{is_from}
use Rattle.tw_parse.specs.Syntax as syntax
use Rattle.tw_parse.specs.Words.{Lexeme}
use Rattle.tw_parse.specs.declared.sign.Sign.TheVariants.{Separator}
use Rattle.tw_parse.specs.declared.sign.Level.{Level}
use Rattle.tw_parse.specs.declared.sign.Level.TheVariants as levels
use Rattle.tw_parse.specs.declared.words.Separator.TheVariants.{Forward}
use Rattle.tw_parse.proofs.Machine.{run_append}
use Rattle.tw_parse.proofs.Once.{once}

-- arrows that wait for their right sides, the newest first
abbrev pub arrows : List syntax.Term → List Waiting
arrows [] = []
arrows (U ∷ Us) = record { left = Some U; by = Separator Forward } ∷ arrows Us

-- the term that they make with the last right side
abbrev pub closing : List syntax.Term → syntax.Term → syntax.Term
closing [] P = P
closing (U ∷ Us) P = closing Us (syntax.arrow U P)

pub settled_arrows : (Us : List syntax.Term) (P : syntax.Term) (l : Level) → is_from levels.Forward l ≡ true → (k : Level) × (settle_all (arrows Us) (record { term = P; level = l }) ≡ Some (record { term = closing Us P; level = k }))
settled_arrows [] P l h = (l, refl)
settled_arrows (U ∷ Us) P l h =
    let r = settled_arrows Us (syntax.arrow U P) levels.Forward refl in
    (r.0, rw h r.1)

module _ (table : Table) where
  abbrev HaveItem : Item → Type 0
  HaveItem (atom M) = Unit {0}
  HaveItem (sign s) = HasRow (λ x. get table x) s

  have_more : (is : List Item) (i : Item) → HaveRows (λ x. get table x) is → HaveItem i → HaveRows (λ x. get table x) (is ++ i ∷ [])
  have_more [] (atom M) h k = tt
  have_more [] (sign s) h k = (k, tt)
  have_more (atom M ∷ is) i h k = have_more is i h k
  have_more (sign s ∷ is) i h k = (h.0, have_more is i h.1 k)

  -- what is read of a sequence so far, and the lexemes that are left
  pub record Front (all : List Lexeme) (ws : List Waiting) (y : Option Settled) (next : List Lexeme) : Type 0 where
    pub row : Nodes
    pub items : List Item
    pub is_row : Row table all row next
    pub lists : Lists row items
    pub have : HaveRows (λ x. get table x) items
    pub runs : run (Some ([], None)) items ≡ Some (ws, y)

  pub start : (all : List Lexeme) → Front all [] None all
  start all = record { row = none; items = []; is_row = empty; lists = no_items; have = tt; runs = refl }

  pub push : (all next rest : List Lexeme) (ws vs : List Waiting) (y z : Option Settled) (n : Node) (i : Item) → Front all ws y next → Begins table next n rest → IsItem n i → HaveItem i → step (Some (ws, y)) i ≡ Some (vs, z) → Front all vs z rest
  push all next rest ws vs y z n i f b is k e = record {
    row = more f.row n;
    items = f.items ++ i ∷ [];
    is_row = one_more f.is_row b;
    lists = one_item f.lists is;
    have = have_more f.items i f.have k;
    runs = run_append (Some ([], None)) f.items (i ∷ []) ∙ ap (λ st. run st (i ∷ [])) f.runs ∙ e;
  }

  pub moved : (all next other : List Lexeme) (ws : List Waiting) (y : Option Settled) → next ≡ other → Front all ws y next → Front all ws y other
  moved all next other ws y e f = subst (Front all ws y) e f

  -- what a node begins with isn't nothing
  pub record Cons (xs : List Lexeme) : Type 0 where
    pub head : Lexeme
    pub tail : List Lexeme
    pub is : xs ≡ head ∷ tail

  begins_some : {next rest : List Lexeme} {n : Node} → Begins table next n rest → Cons next
  begins_some (a_sign {x = x} {rest = rest} e) = record { head = x; tail = rest; is = refl }
  begins_some (a_name {x = x} {rest = rest} e g) = record { head = x; tail = rest; is = refl }
  begins_some (a_hole {x = x} {rest = rest} e) = record { head = x; tail = rest; is = refl }
  begins_some (a_type {x = x} {rest = rest} e) = record { head = x; tail = rest; is = refl }
  begins_some (a_group {open_paren = x} {tokens = ts} e s g) = record { head = x; tail = ts; is = refl }

  row_some : {all next : List Lexeme} {row : Nodes} → Row table all row next → Cons next → Cons all
  row_some empty c = c
  row_some (one_more r b) c = row_some r (begins_some b)

  -- a row is a sequence, and so is one with a binder behind it
  pub record IsSequence (all : List Lexeme) (row : Nodes) (rest : List Lexeme) : Type 0 where
    pub at : Place
    pub sequence : Sequence table all (outline at row) rest

  row_sequence : (all : List Lexeme) (row : Nodes) (n : Node) (rest : List Lexeme) → Row table all (more row n) rest → Cons all → IsSequence all (more row n) rest
  row_sequence all row n rest r c = record { at = c.head.at; sequence = subst (λ xs. Sequence table xs (outline c.head.at (more row n)) rest) (sym c.is) (plain (subst (λ xs. Row table xs (more row n) rest) c.is r)) }

  pub plain_sequence : (all : List Lexeme) (row : Nodes) (n : Node) (rest : List Lexeme) → Row table all (more row n) rest → IsSequence all (more row n) rest
  plain_sequence all row n rest (one_more r b) = row_sequence all row n rest (one_more r b) (row_some r (begins_some b))

  pub binder_sequence : (all next rest : List Lexeme) (row : Nodes) (n : Node) → Row table all row next → Cons next → Binds table next n rest → IsSequence all (more row n) rest
  binder_sequence all next rest row n r c b =
      let d = row_some r c in
      record { at = d.head.at; sequence = subst (λ xs. Sequence table xs (outline d.head.at (more row n)) rest) (sym d.is) (with_binder (subst (λ xs. Row table xs row next) d.is r) b) }

  -- a sequence that is read whole
  pub record Whole (all rest : List Lexeme) (M : syntax.Term) : Type 0 where
    pub outline : Outline
    pub sequence : Sequence table all outline rest
    pub means : Means outline M

  whole_of : (all rest : List Lexeme) (row : Nodes) (items : List Item) (M : syntax.Term) (l : Level) → IsSequence all row rest → Lists row items → HaveRows (λ x. get table x) items → reading items ≡ Some (record { term = M; level = l }) → Whole all rest M
  whole_of all rest row items M l s lists have e = record {
    outline = outline s.at row;
    sequence = s.sequence;
    means = means lists (once (λ x. get table x) items (record { term = M; level = l }) have e);
  }

  pub finish : (all rest : List Lexeme) (ws : List Waiting) (y : Settled) (M : syntax.Term) (l : Level) → Front all ws (Some y) rest → settle_all ws y ≡ Some (record { term = M; level = l }) → Whole all rest M
  finish all rest ws y M l f e = by_row f.row f.is_row f.lists
    where
      read : reading f.items ≡ Some (record { term = M; level = l })
      read = ap outcome f.runs ∙ e

      nothing : (items : List Item) → Lists none items → items ≡ []
      nothing items no_items = refl

      by_row : (row : Nodes) → Row table all row rest → Lists row f.items → Whole all rest M
      by_row none r lists =
          let e : run (Some ([], None)) [] ≡ Some (ws, Some y) = sym (ap (run (Some ([], None))) (nothing f.items lists)) ∙ f.runs in
          absurd (clash ws y e)
        where
          clash : (ws : List Waiting) (y : Settled) → ◌≡◌ {A = State} (Some ([], None)) (Some (ws, Some y)) → ⊥
          clash ws y e =
              let p : ◌≡◌ {A = List Waiting × Option Settled} ([], None) (ws, Some y) = cc in
              let q : None ≡ Some y = ap (λ (z : List Waiting × Option Settled). z.1) p in cc
      by_row (more row n) r lists = whole_of all rest (more row n) f.items M l (plain_sequence all row n rest r) lists f.have read

  pub finish_binder : (all next rest : List Lexeme) (ws : List Waiting) (n : Node) (P M : syntax.Term) (l : Level) → Front all ws None next → Cons next → Binds table next n rest → IsItem n (atom P)
      → settle_all ws (record { term = P; level = levels.Application }) ≡ Some (record { term = M; level = l }) → Whole all rest M
  finish_binder all next rest ws n P M l f c b is e =
      whole_of all rest (more f.row n) (f.items ++ atom P ∷ []) M l (binder_sequence all next rest f.row n f.is_row c b) (one_item f.lists is) (have_more f.items (atom P) f.have tt)
      (ap outcome (run_append (Some ([], None)) f.items (atom P ∷ []) ∙ ap (λ st. run st (atom P ∷ [])) f.runs) ∙ e)
