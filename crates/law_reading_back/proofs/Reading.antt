-- The tokens of a legible sketch are read as the external term that it is written as.
use Rattle.std.proofs.Common.{◌≡◌, ℕ, zero, suc, ◌≤◌, List, [], ◌∷◌, ◌++◌, length, drop, true, false, cond, Option, Some, None, refl, sym, ap, ◌∙◌, subst, arith}
use Rattle.std.specs.Prelude.{nat_le, codes}
use Rattle.std.proofs.lemmas.Bool.Decides.{nat_tests}
use Rattle.std.specs.FinMap.{get}
use Rattle.lf.specs.Syntax.{Head}
use Rattle.tw_fixity.specs.declared.table.Assoc.{Assoc}
use Rattle.tw_fixity.specs.declared.table.Assoc.TheVariants.{Neither, Left, Right}
use Rattle.tw_fixity.specs.declared.table.Fix.{Fix}
use Rattle.tw_fixity.specs.declared.table.Fix.TheVariants.{Infix, Prefix, Postfix}
use Rattle.tw_lexer.specs.declared.place.Place.{Place}
use Rattle.tw_parse.specs.Grammar.{atom, sign, bound}
use Rattle.tw_parse.specs.Outlines.{Table, Outline, Node, leaf, mark, group, typed_binding, sign_of, Begins, a_sign, a_name, a_type, a_group, Sequence, Binds, with_type}
use Rattle.tw_parse.specs.Piles.{Waiting, Settled, settle, settle_all, step}
use Rattle.tw_parse.specs.Readings.{Means, IsItem, a_leaf, a_mark, a_group as group_item, a_typed_binding}
use Rattle.tw_parse.specs.Signs.{is_from}
use Rattle.tw_parse.specs.Syntax as syntax
use Rattle.tw_parse.specs.Words.{Lexeme, binder_of, closer_of, is_bindable}
use Rattle.tw_parse.specs.declared.sign.Sign.TheVariants.{Separator, Operator}
use Rattle.tw_parse.specs.declared.sign.Level.{Level}
use Rattle.tw_parse.specs.declared.sign.Level.TheVariants as levels
use Rattle.tw_parse.specs.declared.words.Binder.{Binder}
use Rattle.tw_parse.specs.declared.words.Binder.TheVariants.{Pi, Lambda}
use Rattle.tw_parse.specs.declared.words.Separator.TheVariants.{Forward}
use Rattle.tw_parse.specs.declared.words.Word.{Word}
use Rattle.tw_parse.specs.declared.words.Word.TheVariants as words
use Rattle.tw_print.specs.Pieces.{Piece, token, space, in_parentheses}
use Rattle.tw_print.specs.Shown.{operand_count}
use Rattle.law_reading_back.specs.Layout.{as_argument, as_operand, spaced, plain, operated, followed, bracketed, pieces, parts}
use Rattle.law_reading_back.specs.Legible.{count, Suits, SuitsDomain, IsLegible, AreLegible}
use Rattle.law_reading_back.specs.Names.{IsName}
use Rattle.law_reading_back.specs.Sketches.{Manner, alone, row, operation, Sketch, Sketches, applied, arrow, quantified, abstracted, kind, too_deep, untyped, none, more}
use Rattle.law_reading_back.specs.Spelling.{Spells, SpellsArguments}
use Rattle.law_reading_back.specs.Tokens.{token_word, BeginWith}
use Rattle.law_reading_back.proofs.Fronts.{arrows, closing, settled_arrows, Front, start, push, moved, Cons, Whole, finish, finish_binder}
use Rattle.law_reading_back.proofs.Lexing.{word_is_fixed}
use Rattle.law_reading_back.proofs.Spacing.{word_of_name}

-- the tokens of some pieces, and those of others behind them
pub record Splits (ps qs : List Piece) (xs behind : List Lexeme) : Type 0 where
  pub middle : List Lexeme
  pub front : BeginWith ps xs middle
  pub back : BeginWith qs middle behind

pub split : (ps qs : List Piece) (xs behind : List Lexeme) → BeginWith (ps ++ qs) xs behind → Splits ps qs xs behind
split [] qs xs behind h = record { middle = xs; front = refl; back = h }
split (space ∷ ps) qs xs behind h = let s = split ps qs xs behind h in record { middle = s.middle; front = s.front; back = s.back }
split (token t ∷ ps) qs xs behind (x, rest, e, w, b, h) =
    let s = split ps qs rest behind h in
    record { middle = s.middle; front = (x, rest, e, w, b, s.front); back = s.back }

pub name_word : (x : List ℕ) → IsName x → token_word x ≡ words.Name
name_word x n = word_is_fixed x (word_of_name x n) ∙ n.free

-- an atom, and with arguments behind it
abbrev settled : syntax.Term → Settled
settled M = record { term = M; level = levels.Application }

module _ (table : Table) where
  -- a node that is read as a term, and what is left behind it
  record IsAtom (t : Sketch) (next rest : List Lexeme) : Type 0 where
    pub node : Node
    pub term : syntax.Term
    pub begins : Begins table next node rest
    pub is : IsItem node (atom term)
    pub spells : Spells t term

  -- a sequence that is read as what the sketch is written as
  record IsRead (t : Sketch) (all rest : List Lexeme) : Type 0 where
    pub term : syntax.Term
    pub whole : Whole table all rest term
    pub spells : Spells t term

  -- behind arrows that wait, the sequence is read with the sketch as its last part
  record Ends (Us : List syntax.Term) (t : Sketch) (all rest : List Lexeme) : Type 0 where
    pub term : syntax.Term
    pub whole : Whole table all rest (closing Us term)
    pub spells : Spells t term

  abbrev Reads : Sketch → Type 0
  Reads t = (Us : List syntax.Term) (all next rest : List Lexeme) → Front table all (arrows Us) None next → BeginWith (pieces t) next rest → Ends Us t all rest

  abbrev mutual
    Known : Sketch → Type 0
    Known (applied h w fix xs) = Reads (applied h w fix xs) × AllKnown xs
    Known t = Reads t

    AllKnown : Sketches → Type 0
    AllKnown none = Unit {0}
    AllKnown (more m t ts) = Known t × AllKnown ts

  known_reads : (t : Sketch) → Known t → Reads t
  known_reads (applied h w fix xs) k = k.0
  known_reads (arrow m t u) k = k
  known_reads (quantified x t u) k = k
  known_reads (abstracted x t u) k = k
  known_reads kind k = k
  known_reads too_deep k = k
  known_reads untyped k = k

  read_alone : (t : Sketch) → Reads t → (next rest : List Lexeme) → BeginWith (pieces t) next rest → IsRead t next rest
  read_alone t r next rest b = let e = r [] next next rest (start table next) b in record { term = e.term; whole = e.whole; spells = e.spells }

  -- a name without a row
  name_atom : (x : Lexeme) (t : List ℕ) (rest : List Lexeme) → IsName t → get table t ≡ None → x.word ≡ token_word t → x.bytes ≡ t → Begins table (x ∷ rest) (leaf (syntax.identifier x.bytes x.at)) rest
  name_atom x t rest n g w b = a_name (w ∙ name_word t n) (ap (get table) b ∙ g)

  in_group : (t : Sketch) (ps : List Piece) (next rest : List Lexeme) → ps ≡ pieces t → Reads t → BeginWith (in_parentheses ps) next rest → IsAtom t next rest
  in_group t ps next rest same r (x, after, e, w, b, h) =
      let s = split ps (token (codes ")") ∷ []) after rest h in
      close x after s.middle e w s.back (read_alone t r after s.middle (subst (λ qs. BeginWith qs after s.middle) same s.front))
    where
      close : (x : Lexeme) (after middle : List Lexeme) → next ≡ x ∷ after → x.word ≡ token_word (codes "(") → BeginWith (token (codes ")") ∷ []) middle rest → IsRead t after middle → IsAtom t next rest
      close x after middle e w (y, left, f, v, c, l) i = record {
        node = group i.whole.outline;
        term = i.term;
        begins = subst (λ xs. Begins table xs (group i.whole.outline) rest) (sym e)
            (a_group {open_paren = x} {close_paren = y} {tokens = after} {rest = rest} {O = i.whole.outline} w (subst (λ xs. Sequence table after i.whole.outline xs) (f ∙ ap (λ xs. y ∷ xs) l) i.whole.sequence) v);
        is = group_item i.whole.means;
        spells = i.spells;
      }

  no_operands : (fix : Fix) → operand_count fix ≤ zero → ⊥
  no_operands (Infix a n) h = omega (arith, h)
  no_operands (Prefix n) h = omega (arith, h)
  no_operands (Postfix n) h = omega (arith, h)

  -- a head alone
  bare_atom : (h : Head) (w : List ℕ) (fix : Option Fix) (next rest : List Lexeme) → IsLegible table (applied h w fix none) → BeginWith (pieces (applied h w fix none)) next rest → IsAtom (applied h w fix none) next rest
  bare_atom h w (Some fix) next rest (n, g, o, l) b = absurd (no_operands fix o)
  bare_atom h w None next rest (n, g, o, l) (x, after, e, v, c, f) = record {
    node = leaf (syntax.identifier x.bytes x.at);
    term = syntax.identifier x.bytes x.at;
    begins = subst (λ xs. Begins table xs (leaf (syntax.identifier x.bytes x.at)) rest) (sym (e ∙ ap (λ xs. x ∷ xs) f)) (name_atom x w rest n g v c);
    is = a_leaf;
    spells = (x.at, ap (λ y. syntax.identifier y x.at) c);
  }

  argument_atom : (m : Manner) (t : Sketch) (next rest : List Lexeme) → Suits m t → IsLegible table t → Reads t → BeginWith (as_argument m (pieces t)) next rest → IsAtom t next rest
  argument_atom row t next rest s l r b = in_group t (pieces t) next rest refl r b
  argument_atom operation t next rest s l r b = in_group t (pieces t) next rest refl r b
  argument_atom alone (applied h w fix none) next rest s l r b = bare_atom h w fix next rest l b
  argument_atom alone (applied h w fix (more m t ts)) next rest s l r b = absurd s
  argument_atom alone (arrow m t u) next rest s l r b = absurd s
  argument_atom alone (quantified x t u) next rest s l r b = absurd s
  argument_atom alone (abstracted x t u) next rest s l r b = absurd s
  argument_atom alone kind next rest s l r b = absurd s
  argument_atom alone too_deep next rest s l r b = absurd s
  argument_atom alone untyped next rest s l r b = absurd s

  -- a term that is read last, with those that it is applied to
  record IsApplied (ws : List Waiting) (M : syntax.Term) (ts : Sketches) (all rest : List Lexeme) : Type 0 where
    pub term : syntax.Term
    pub front : Front table all ws (Some (settled term)) rest
    pub spells : SpellsArguments M ts term

  arguments_read : (ts : Sketches) (ws : List Waiting) (M : syntax.Term) (all next rest : List Lexeme) → AreLegible table ts → AllKnown ts → Front table all ws (Some (settled M)) next → BeginWith (spaced (parts ts)) next rest → IsApplied ws M ts all rest
  arguments_read none ws M all next rest l k f b = record { term = M; front = moved table all next rest ws (Some (settled M)) b f; spells = refl }
  arguments_read (more m t ts) ws M all next rest (s, l, ls) (k, ks) f b =
      let c = split (as_argument m (pieces t)) (spaced (parts ts)) next rest b in
      let a = argument_atom m t next c.middle s l (known_reads t k) c.front in
      let g = push table all next c.middle ws ws (Some (settled M)) (Some (settled (syntax.application M a.term))) a.node (atom a.term) f a.begins a.is tt refl in
      let r = arguments_read ts ws (syntax.application M a.term) all c.middle rest ls ks g c.back in
      record { term = r.term; front = r.front; spells = (a.term, a.spells, r.spells) }

  -- what is read last as this sketch, behind some waiting signs
  record IsLast (ws : List Waiting) (t : Sketch) (all rest : List Lexeme) : Type 0 where
    pub term : syntax.Term
    pub front : Front table all ws (Some (settled term)) rest
    pub spells : Spells t term

  atom_last : (t : Sketch) (ws : List Waiting) (all next rest : List Lexeme) → Front table all ws None next → IsAtom t next rest → IsLast ws t all rest
  atom_last t ws all next rest f a = record { term = a.term; front = push table all next rest ws ws None (Some (settled a.term)) a.node (atom a.term) f a.begins a.is tt refl; spells = a.spells }

  -- a head with arguments, that is no operator
  plain_last : (h : Head) (w : List ℕ) (xs : Sketches) (ws : List Waiting) (all next rest : List Lexeme) → IsLegible table (applied h w None xs) → AllKnown xs → Front table all ws None next → BeginWith (plain w (parts xs)) next rest → IsLast ws (applied h w None xs) all rest
  plain_last h w xs ws all next rest (n, g, o, l) k f (x, after, e, v, c, b) =
      let p = push table all (x ∷ after) after ws ws None (Some (settled (syntax.identifier x.bytes x.at))) (leaf (syntax.identifier x.bytes x.at)) (atom (syntax.identifier x.bytes x.at)) (moved table all next (x ∷ after) ws None e f) (name_atom x w after n g v c) a_leaf tt refl in
      let r = arguments_read xs ws (syntax.identifier x.bytes x.at) all after rest l k p b in
      record { term = r.term; front = r.front; spells = (x.at, subst (λ y. SpellsArguments (syntax.identifier y x.at) xs r.term) c r.spells) }

  -- an operand
  operand_last : (m : Manner) (t : Sketch) (ws : List Waiting) (all next rest : List Lexeme) → Suits m t → IsLegible table t → Known t → Front table all ws None next → BeginWith (as_operand m (pieces t)) next rest → IsLast ws t all rest
  operand_last operation t ws all next rest s l k f b = atom_last t ws all next rest f (in_group t (pieces t) next rest refl (known_reads t k) b)
  operand_last alone (applied h w fix none) ws all next rest s l k f b = atom_last (applied h w fix none) ws all next rest f (bare_atom h w fix next rest l b)
  operand_last alone (applied h w fix (more m t ts)) ws all next rest s l k f b = absurd s
  operand_last alone (arrow m t u) ws all next rest s l k f b = absurd s
  operand_last alone (quantified x t u) ws all next rest s l k f b = absurd s
  operand_last alone (abstracted x t u) ws all next rest s l k f b = absurd s
  operand_last alone kind ws all next rest s l k f b = absurd s
  operand_last alone too_deep ws all next rest s l k f b = absurd s
  operand_last alone untyped ws all next rest s l k f b = absurd s
  operand_last row (applied h w None xs) ws all next rest s l k f b = plain_last h w xs ws all next rest l k.1 f b
  operand_last row (applied h w (Some fix) xs) ws all next rest s l k f b = absurd s
  operand_last row (arrow m t u) ws all next rest s l k f b = absurd s
  operand_last row (quantified x t u) ws all next rest s l k f b = absurd s
  operand_last row (abstracted x t u) ws all next rest s l k f b = absurd s
  operand_last row kind ws all next rest s l k f b = absurd s
  operand_last row too_deep ws all next rest s l k f b = absurd s
  operand_last row untyped ws all next rest s l k f b = absurd s

  -- What can stand before an arrow or at the end, behind arrows that wait: how signs that wait for it are settled then.
  record IsSide (Us : List syntax.Term) (t : Sketch) (all rest : List Lexeme) : Type 0 where
    pub waiting : List Waiting
    pub last : Settled
    pub front : Front table all waiting (Some last) rest
    pub term : syntax.Term
    pub level : Level
    pub high : is_from levels.Forward level ≡ true
    pub higher : is_from level levels.Forward ≡ false
    pub before : settle waiting last (Separator Forward) ≡ Some (arrows Us, record { term = term; level = level })
    pub ending : settle_all waiting last ≡ settle_all (arrows Us) (record { term = term; level = level })
    pub spells : Spells t term

  arrows_wait : (Us : List syntax.Term) (x : Settled) → settle (arrows Us) x (Separator Forward) ≡ Some (arrows Us, x)
  arrows_wait [] x = refl
  arrows_wait (U ∷ Us) x = refl

  plain_side : (Us : List syntax.Term) (t : Sketch) (all rest : List Lexeme) → IsLast (arrows Us) t all rest → IsSide Us t all rest
  plain_side Us t all rest l = record {
    waiting = arrows Us;
    last = settled l.term;
    front = l.front;
    term = l.term;
    level = levels.Application;
    high = refl;
    higher = refl;
    before = arrows_wait Us (settled l.term);
    ending = refl;
    spells = l.spells;
  }

  side_ends : (Us : List syntax.Term) (t : Sketch) (all rest : List Lexeme) → IsSide Us t all rest → Ends Us t all rest
  side_ends Us t all rest s =
      let r = settled_arrows Us s.term s.level s.high in
      record { term = s.term; whole = finish table all rest s.waiting s.last (closing Us s.term) r.0 s.front (s.ending ∙ r.1); spells = s.spells }

  -- Operators between, before and behind their operands.
  operator_sign : (x : Lexeme) (w : List ℕ) (fix : Fix) → IsName w → get table w ≡ Some fix → x.word ≡ token_word w → x.bytes ≡ w → sign_of table x ≡ Some (Operator x.bytes x.at fix)
  operator_sign x w fix n g v c =
      let e : x.word ≡ words.Name = v ∙ name_word w n in
      let f : get table x.bytes ≡ Some fix = ap (get table) c ∙ g in
      rw e (rw f refl)

  forward_sign : (x : Lexeme) → x.word ≡ words.Forward → sign_of table x ≡ Some (Separator Forward)
  forward_sign x e = rw e refl

  infix_step : (a : Assoc) (n : ℕ) (Us : List syntax.Term) (L : syntax.Term) (y : List ℕ) (at : Place) → step (Some (arrows Us, Some (settled L))) (sign (Operator y at (Infix a n))) ≡ Some (record { left = Some L; by = Operator y at (Infix a n) } ∷ arrows Us, None)
  infix_step Neither n [] L y at = refl
  infix_step Neither n (U ∷ Us) L y at = refl
  infix_step Left n [] L y at = refl
  infix_step Left n (U ∷ Us) L y at = refl
  infix_step Right n [] L y at = refl
  infix_step Right n (U ∷ Us) L y at = refl

  infix_before : (a : Assoc) (n : ℕ) (Us : List syntax.Term) (L R : syntax.Term) (y : List ℕ) (at : Place) → settle (record { left = Some L; by = Operator y at (Infix a n) } ∷ arrows Us) (settled R) (Separator Forward)
      ≡ Some (arrows Us, record { term = syntax.application (syntax.application (syntax.identifier y at) L) R; level = levels.Operator n })
  infix_before Neither n [] L R y at = refl
  infix_before Neither n (U ∷ Us) L R y at = refl
  infix_before Left n [] L R y at = refl
  infix_before Left n (U ∷ Us) L R y at = refl
  infix_before Right n [] L R y at = refl
  infix_before Right n (U ∷ Us) L R y at = refl

  infix_ending : (a : Assoc) (n : ℕ) (Us : List syntax.Term) (L R : syntax.Term) (y : List ℕ) (at : Place) → settle_all (record { left = Some L; by = Operator y at (Infix a n) } ∷ arrows Us) (settled R)
      ≡ settle_all (arrows Us) (record { term = syntax.application (syntax.application (syntax.identifier y at) L) R; level = levels.Operator n })
  infix_ending Neither n Us L R y at = refl
  infix_ending Left n Us L R y at = refl
  infix_ending Right n Us L R y at = refl

  prefix_step : (n : ℕ) (Us : List syntax.Term) (y : List ℕ) (at : Place) → step (Some (arrows Us, None)) (sign (Operator y at (Prefix n))) ≡ Some (record { left = None; by = Operator y at (Prefix n) } ∷ arrows Us, None)
  prefix_step n [] y at = refl
  prefix_step n (U ∷ Us) y at = refl

  prefix_before : (n : ℕ) (Us : List syntax.Term) (X : syntax.Term) (y : List ℕ) (at : Place) → settle (record { left = None; by = Operator y at (Prefix n) } ∷ arrows Us) (settled X) (Separator Forward)
      ≡ Some (arrows Us, record { term = syntax.application (syntax.identifier y at) X; level = levels.Operator n })
  prefix_before n [] X y at = refl
  prefix_before n (U ∷ Us) X y at = refl

  postfix_step : (n : ℕ) (Us : List syntax.Term) (X : syntax.Term) (y : List ℕ) (at : Place) → step (Some (arrows Us, Some (settled X))) (sign (Operator y at (Postfix n))) ≡ Some (arrows Us, Some (record { term = syntax.application (syntax.identifier y at) X; level = levels.Operator n }))
  postfix_step n [] X y at = refl
  postfix_step n (U ∷ Us) X y at = refl

  module _ (h : Head) (w : List ℕ) (named : IsName w) where
    infix_side : (a : Assoc) (n : ℕ) (m k : Manner) (t u : Sketch) (Us : List syntax.Term) (all next rest : List Lexeme) → get table w ≡ Some (Infix a n) → Suits m t → IsLegible table t → Known t → Suits k u → IsLegible table u → Known u
        → Front table all (arrows Us) None next → BeginWith (as_operand m (pieces t) ++ (space ∷ token w ∷ space ∷ as_operand k (pieces u))) next rest
        → IsSide Us (applied h w (Some (Infix a n)) (more m t (more k u none))) all rest
    infix_side a n m k t u Us all next rest g s l kt s' l' ku f b = behind (split (as_operand m (pieces t)) (space ∷ token w ∷ space ∷ as_operand k (pieces u)) next rest b)
      where
        behind : Splits (as_operand m (pieces t)) (space ∷ token w ∷ space ∷ as_operand k (pieces u)) next rest → IsSide Us (applied h w (Some (Infix a n)) (more m t (more k u none))) all rest
        behind c = with_sign c.back (operand_last m t (arrows Us) all next c.middle s l kt f c.front)
          where
            with_sign : BeginWith (space ∷ token w ∷ space ∷ as_operand k (pieces u)) c.middle rest → IsLast (arrows Us) t all c.middle → IsSide Us (applied h w (Some (Infix a n)) (more m t (more k u none))) all rest
            with_sign (x, after, e, v, d, r) i =
                let op = Operator x.bytes x.at (Infix a n) in
                let p = push table all (x ∷ after) after (arrows Us) (record { left = Some i.term; by = op } ∷ arrows Us) (Some (settled i.term)) None (mark op) (sign op)
                (moved table all c.middle (x ∷ after) (arrows Us) (Some (settled i.term)) e i.front) (a_sign (operator_sign x w (Infix a n) named g v d)) a_mark (ap (get table) d ∙ g) (infix_step a n Us i.term x.bytes x.at) in
                let j = operand_last k u (record { left = Some i.term; by = op } ∷ arrows Us) all after rest s' l' ku p r in
                record {
                  waiting = record { left = Some i.term; by = op } ∷ arrows Us;
                  last = settled j.term;
                  front = j.front;
                  term = syntax.application (syntax.application (syntax.identifier x.bytes x.at) i.term) j.term;
                  level = levels.Operator n;
                  high = refl;
                  higher = refl;
                  before = infix_before a n Us i.term j.term x.bytes x.at;
                  ending = infix_ending a n Us i.term j.term x.bytes x.at;
                  spells = (x.at, (i.term, i.spells, (j.term, j.spells, ap (λ y. syntax.application (syntax.application (syntax.identifier y x.at) i.term) j.term) d)));
                }

    prefix_side : (n : ℕ) (m : Manner) (t : Sketch) (Us : List syntax.Term) (all next rest : List Lexeme) → get table w ≡ Some (Prefix n) → Suits m t → IsLegible table t → Known t
        → Front table all (arrows Us) None next → BeginWith (token w ∷ space ∷ as_operand m (pieces t)) next rest → IsSide Us (applied h w (Some (Prefix n)) (more m t none)) all rest
    prefix_side n m t Us all next rest g s l k f (x, after, e, v, d, r) =
        let op = Operator x.bytes x.at (Prefix n) in
        let p = push table all (x ∷ after) after (arrows Us) (record { left = None; by = op } ∷ arrows Us) None None (mark op) (sign op)
        (moved table all next (x ∷ after) (arrows Us) None e f) (a_sign (operator_sign x w (Prefix n) named g v d)) a_mark (ap (get table) d ∙ g) (prefix_step n Us x.bytes x.at) in
        let j = operand_last m t (record { left = None; by = op } ∷ arrows Us) all after rest s l k p r in
        record {
          waiting = record { left = None; by = op } ∷ arrows Us;
          last = settled j.term;
          front = j.front;
          term = syntax.application (syntax.identifier x.bytes x.at) j.term;
          level = levels.Operator n;
          high = refl;
          higher = refl;
          before = prefix_before n Us j.term x.bytes x.at;
          ending = refl;
          spells = (x.at, (j.term, j.spells, ap (λ y. syntax.application (syntax.identifier y x.at) j.term) d));
        }

    postfix_side : (n : ℕ) (m : Manner) (t : Sketch) (Us : List syntax.Term) (all next rest : List Lexeme) → get table w ≡ Some (Postfix n) → Suits m t → IsLegible table t → Known t
        → Front table all (arrows Us) None next → BeginWith (as_operand m (pieces t) ++ (space ∷ token w ∷ [])) next rest → IsSide Us (applied h w (Some (Postfix n)) (more m t none)) all rest
    postfix_side n m t Us all next rest g s l k f b = behind (split (as_operand m (pieces t)) (space ∷ token w ∷ []) next rest b)
      where
        behind : Splits (as_operand m (pieces t)) (space ∷ token w ∷ []) next rest → IsSide Us (applied h w (Some (Postfix n)) (more m t none)) all rest
        behind c = with_sign c.back (operand_last m t (arrows Us) all next c.middle s l k f c.front)
          where
            with_sign : BeginWith (space ∷ token w ∷ []) c.middle rest → IsLast (arrows Us) t all c.middle → IsSide Us (applied h w (Some (Postfix n)) (more m t none)) all rest
            with_sign (x, after, e, v, d, r) i =
                let op = Operator x.bytes x.at (Postfix n) in
                let last : Settled = record { term = syntax.application (syntax.identifier x.bytes x.at) i.term; level = levels.Operator n } in
                let p = push table all (x ∷ after) after (arrows Us) (arrows Us) (Some (settled i.term)) (Some last) (mark op) (sign op)
                (moved table all c.middle (x ∷ after) (arrows Us) (Some (settled i.term)) e i.front) (a_sign (operator_sign x w (Postfix n) named g v d)) a_mark (ap (get table) d ∙ g) (postfix_step n Us i.term x.bytes x.at) in
                record {
                  waiting = arrows Us;
                  last = last;
                  front = moved table all after rest (arrows Us) (Some last) r p;
                  term = last.term;
                  level = levels.Operator n;
                  high = refl;
                  higher = refl;
                  before = arrows_wait Us last;
                  ending = refl;
                  spells = (x.at, (i.term, i.spells, ap (λ y. syntax.application (syntax.identifier y x.at) i.term) d));
                }

    -- with further arguments, in parentheses
    further : (fix : Fix) (first ts whole : Sketches) (ps : List Piece) (Us : List syntax.Term) (all next rest : List Lexeme) → AreLegible table ts → AllKnown ts
        → ((P Q : syntax.Term) → Spells (applied h w (Some fix) first) P → SpellsArguments P ts Q → Spells (applied h w (Some fix) whole) Q)
        → ps ≡ pieces (applied h w (Some fix) first) → Reads (applied h w (Some fix) first)
        → Front table all (arrows Us) None next → BeginWith (in_parentheses ps ++ spaced (parts ts)) next rest → IsSide Us (applied h w (Some fix) whole) all rest
    further fix first ts whole ps Us all next rest l k join same r f b =
        let c = split (in_parentheses ps) (spaced (parts ts)) next rest b in
        let a = in_group (applied h w (Some fix) first) ps next c.middle same r c.front in
        let i = atom_last (applied h w (Some fix) first) (arrows Us) all next c.middle f a in
        let j = arguments_read ts (arrows Us) i.term all c.middle rest l k i.front c.back in
        plain_side Us (applied h w (Some fix) whole) all rest (record { term = j.term; front = j.front; spells = join i.term j.term i.spells j.spells })

    prefix_reads : (n : ℕ) (m : Manner) (t : Sketch) (ts : Sketches) (Us : List syntax.Term) (all next rest : List Lexeme) → get table w ≡ Some (Prefix n) → AreLegible table (more m t ts) → AllKnown (more m t ts)
        → Front table all (arrows Us) None next → BeginWith (followed (token w ∷ space ∷ as_operand m (pieces t)) (parts ts)) next rest → IsSide Us (applied h w (Some (Prefix n)) (more m t ts)) all rest
    prefix_reads n m t none Us all next rest g (s, l, ls) (k, ks) f b = prefix_side n m t Us all next rest g s l k f b
    prefix_reads n m t (more p v ts) Us all next rest g (s, l, ls) (k, ks) f b =
        further (Prefix n) (more m t none) (more p v ts) (more m t (more p v ts)) (token w ∷ space ∷ as_operand m (pieces t)) Us all next rest ls ks
        (λ P Q (at, (N, q, e)) r. (at, (N, q, subst (λ X. SpellsArguments X (more p v ts) Q) e r))) refl
        (λ Vs all' next' rest' f' b'. side_ends Vs (applied h w (Some (Prefix n)) (more m t none)) all' rest' (prefix_side n m t Vs all' next' rest' g s l k f' b')) f b

    postfix_reads : (n : ℕ) (m : Manner) (t : Sketch) (ts : Sketches) (Us : List syntax.Term) (all next rest : List Lexeme) → get table w ≡ Some (Postfix n) → AreLegible table (more m t ts) → AllKnown (more m t ts)
        → Front table all (arrows Us) None next → BeginWith (followed (as_operand m (pieces t) ++ (space ∷ token w ∷ [])) (parts ts)) next rest → IsSide Us (applied h w (Some (Postfix n)) (more m t ts)) all rest
    postfix_reads n m t none Us all next rest g (s, l, ls) (k, ks) f b = postfix_side n m t Us all next rest g s l k f b
    postfix_reads n m t (more p v ts) Us all next rest g (s, l, ls) (k, ks) f b =
        further (Postfix n) (more m t none) (more p v ts) (more m t (more p v ts)) (as_operand m (pieces t) ++ (space ∷ token w ∷ [])) Us all next rest ls ks
        (λ P Q (at, (N, q, e)) r. (at, (N, q, subst (λ X. SpellsArguments X (more p v ts) Q) e r))) refl
        (λ Vs all' next' rest' f' b'. side_ends Vs (applied h w (Some (Postfix n)) (more m t none)) all' rest' (postfix_side n m t Vs all' next' rest' g s l k f' b')) f b

    infix_reads : (a : Assoc) (n : ℕ) (m q : Manner) (t u : Sketch) (ts : Sketches) (Us : List syntax.Term) (all next rest : List Lexeme) → get table w ≡ Some (Infix a n) → AreLegible table (more m t (more q u ts)) → AllKnown (more m t (more q u ts))
        → Front table all (arrows Us) None next → BeginWith (followed (as_operand m (pieces t) ++ (space ∷ token w ∷ space ∷ as_operand q (pieces u))) (parts ts)) next rest → IsSide Us (applied h w (Some (Infix a n)) (more m t (more q u ts))) all rest
    infix_reads a n m q t u none Us all next rest g (s, l, (s', l', ls)) (k, (k', ks)) f b = infix_side a n m q t u Us all next rest g s l k s' l' k' f b
    infix_reads a n m q t u (more p v ts) Us all next rest g (s, l, (s', l', ls)) (k, (k', ks)) f b =
        further (Infix a n) (more m t (more q u none)) (more p v ts) (more m t (more q u (more p v ts))) (as_operand m (pieces t) ++ (space ∷ token w ∷ space ∷ as_operand q (pieces u))) Us all next rest ls ks
        (λ P Q (at, (N, i, (M, j, e))) r. (at, (N, i, (M, j, subst (λ X. SpellsArguments X (more p v ts) Q) e r)))) refl
        (λ Vs all' next' rest' f' b'. side_ends Vs (applied h w (Some (Infix a n)) (more m t (more q u none))) all' rest' (infix_side a n m q t u Vs all' next' rest' g s l k s' l' k' f' b')) f b

    operator_side : (fix : Fix) (xs : Sketches) (Us : List syntax.Term) (all next rest : List Lexeme) → get table w ≡ Some fix → operand_count fix ≤ count xs → AreLegible table xs → AllKnown xs
        → Front table all (arrows Us) None next → BeginWith (followed (operated w fix (parts xs)) (drop (operand_count fix) (parts xs))) next rest → IsSide Us (applied h w (Some fix) xs) all rest
    operator_side (Infix a n) none Us all next rest g o l k f b = absurd (omega (arith, o))
    operator_side (Infix a n) (more m t none) Us all next rest g o l k f b = absurd (omega (arith, o))
    operator_side (Infix a n) (more m t (more q u ts)) Us all next rest g o l k f b = infix_reads a n m q t u ts Us all next rest g l k f b
    operator_side (Prefix n) none Us all next rest g o l k f b = absurd (omega (arith, o))
    operator_side (Prefix n) (more m t ts) Us all next rest g o l k f b = prefix_reads n m t ts Us all next rest g l k f b
    operator_side (Postfix n) none Us all next rest g o l k f b = absurd (omega (arith, o))
    operator_side (Postfix n) (more m t ts) Us all next rest g o l k f b = postfix_reads n m t ts Us all next rest g l k f b

  count_parts : (xs : Sketches) → length (parts xs) ≡ count xs
  count_parts none = refl
  count_parts (more m t ts) = ap suc (count_parts ts)

  le_test : (n m : ℕ) → n ≤ m → nat_le n m ≡ true
  le_test n m h = grind (arith, nat_tests)

  application_side : (h : Head) (w : List ℕ) (fix : Option Fix) (xs : Sketches) (Us : List syntax.Term) (all next rest : List Lexeme) → IsLegible table (applied h w fix xs) → AllKnown xs
      → Front table all (arrows Us) None next → BeginWith (pieces (applied h w fix xs)) next rest → IsSide Us (applied h w fix xs) all rest
  application_side h w None xs Us all next rest l k f b = plain_side Us (applied h w None xs) all rest (plain_last h w xs (arrows Us) all next rest l k f b)
  application_side h w (Some fix) xs Us all next rest (n, g, o, l) k f b =
      let e : nat_le (operand_count fix) (length (parts xs)) ≡ true = ap (nat_le (operand_count fix)) (count_parts xs) ∙ le_test (operand_count fix) (count xs) o in
      operator_side h w n fix xs Us all next rest g o l k f
      (subst (λ c. BeginWith (cond c (followed (operated w fix (parts xs)) (drop (operand_count fix) (parts xs))) (plain w (parts xs))) next rest) e b)

  -- the domain of an arrow
  domain_side : (m : Manner) (t : Sketch) (Us : List syntax.Term) (all next rest : List Lexeme) → SuitsDomain m t → IsLegible table t → Known t → Front table all (arrows Us) None next → BeginWith (as_operand m (pieces t)) next rest → IsSide Us t all rest
  domain_side alone t Us all next rest s l k f b = absurd s
  domain_side operation t Us all next rest s l k f b = plain_side Us t all rest (atom_last t (arrows Us) all next rest f (in_group t (pieces t) next rest refl (known_reads t k) b))
  domain_side row (applied h w fix xs) Us all next rest s l k f b = application_side h w fix xs Us all next rest l k.1 f b
  domain_side row (arrow m t u) Us all next rest s l k f b = absurd s
  domain_side row (quantified x t u) Us all next rest s l k f b = absurd s
  domain_side row (abstracted x t u) Us all next rest s l k f b = absurd s
  domain_side row kind Us all next rest s l k f b = absurd s
  domain_side row too_deep Us all next rest s l k f b = absurd s
  domain_side row untyped Us all next rest s l k f b = absurd s

  arrow_reads : (m : Manner) (t u : Sketch) → SuitsDomain m t → IsLegible table t → Known t → Reads u → Reads (arrow m t u)
  arrow_reads m t u s l k r Us all next rest f b = behind (split (as_operand m (pieces t) ++ space ∷ token (codes "->") ∷ space ∷ []) (pieces u) next rest b)
    where
      behind : Splits (as_operand m (pieces t) ++ space ∷ token (codes "->") ∷ space ∷ []) (pieces u) next rest → Ends Us (arrow m t u) all rest
      behind c = further_on (split (as_operand m (pieces t)) (space ∷ token (codes "->") ∷ space ∷ []) next c.middle c.front)
        where
          further_on : Splits (as_operand m (pieces t)) (space ∷ token (codes "->") ∷ space ∷ []) next c.middle → Ends Us (arrow m t u) all rest
          further_on d = with_arrow d.back (domain_side m t Us all next d.middle s l k f d.front)
            where
              with_arrow : BeginWith (space ∷ token (codes "->") ∷ space ∷ []) d.middle c.middle → IsSide Us t all d.middle → Ends Us (arrow m t u) all rest
              with_arrow (x, after, e, v, g, h) i =
                  let p = push table all (x ∷ after) after i.waiting (arrows (i.term ∷ Us)) (Some i.last) None (mark (Separator Forward)) (sign (Separator Forward))
                  (moved table all d.middle (x ∷ after) i.waiting (Some i.last) e i.front) (a_sign (forward_sign x v)) a_mark tt (rw i.before (rw (i.high, i.higher) refl)) in
                  let j = r (i.term ∷ Us) all c.middle rest (moved table all after c.middle (arrows (i.term ∷ Us)) None h p) c.back in
                  record { term = syntax.arrow i.term j.term; whole = j.whole; spells = (i.term, j.term, i.spells, j.spells, refl) }

  -- a binder with its type and its body
  record IsBound (binder : Binder) (x : List ℕ) (t u : Sketch) (next rest : List Lexeme) : Type 0 where
    pub node : Node
    pub at : Place
    pub domain : syntax.Term
    pub body : syntax.Term
    pub some : Cons table next
    pub binds : Binds table next node rest
    pub is : IsItem node (atom (bound binder x at (syntax.typed domain) body))
    pub domain_spells : Spells t domain
    pub body_spells : Spells u body

  name_bindable : (w : Word) → w ≡ words.Name → is_bindable w ≡ true
  name_bindable w e = rw e refl

  binder_read : (binder : Binder) (opener x closer : List ℕ) (t u : Sketch) (next rest : List Lexeme) → IsName x → binder_of (token_word opener) ≡ Some binder → token_word closer ≡ closer_of binder → Reads t → Reads u
      → BeginWith (bracketed opener x closer (pieces t) ++ pieces u) next rest → IsBound binder x t u next rest
  binder_read binder opener x closer t u next rest n o q r k (a, after, e, v, b, (y, after', e', v', b', (c, tokens, e'', v'', b'', h))) =
      behind (split (pieces t ++ token closer ∷ space ∷ []) (pieces u) tokens rest h)
    where
      behind : Splits (pieces t ++ token closer ∷ space ∷ []) (pieces u) tokens rest → IsBound binder x t u next rest
      behind s = further_on (split (pieces t) (token closer ∷ space ∷ []) tokens s.middle s.front)
        where
          further_on : Splits (pieces t) (token closer ∷ space ∷ []) tokens s.middle → IsBound binder x t u next rest
          further_on d = with_closer d.back (read_alone t r tokens d.middle d.front)
            where
              with_closer : BeginWith (token closer ∷ space ∷ []) d.middle s.middle → IsRead t tokens d.middle → IsBound binder x t u next rest
              with_closer (z, last, f, w, g, l) i =
                  let j = read_alone u k s.middle rest s.back in
                  let all : next ≡ a ∷ y ∷ c ∷ tokens = e ∙ ap (λ xs. a ∷ xs) (e' ∙ ap (λ xs. y ∷ xs) e'') in
                  let domain : Sequence table tokens i.whole.outline (z ∷ s.middle) = subst (λ xs. Sequence table tokens i.whole.outline xs) (f ∙ ap (λ xs. z ∷ xs) l) i.whole.sequence in
                  record {
                    node = typed_binding binder y.bytes a.at i.whole.outline j.whole.outline;
                    at = a.at;
                    domain = i.term;
                    body = j.term;
                    some = record { head = a; tail = y ∷ c ∷ tokens; is = all };
                    binds = subst (λ xs. Binds table xs (typed_binding binder y.bytes a.at i.whole.outline j.whole.outline) rest) (sym all)
                        (with_type {binder = binder} {opener = a} {x = y} {colon = c} {closer = z} {tokens = tokens} {next = s.middle} {rest = rest} {D = i.whole.outline} {O = j.whole.outline}
                        (ap binder_of v ∙ o) (name_bindable y.word (v' ∙ name_word x n)) v'' domain (w ∙ q) j.whole.sequence);
                    is = subst (λ b. IsItem (typed_binding binder y.bytes a.at i.whole.outline j.whole.outline) (atom (bound binder b a.at (syntax.typed i.term) j.term))) b' (a_typed_binding i.whole.means j.whole.means);
                    domain_spells = i.spells;
                    body_spells = j.spells;
                  }

  binder_ends : (binder : Binder) (x : List ℕ) (t u v : Sketch) (Us : List syntax.Term) (all next rest : List Lexeme) → ((at : Place) (A M : syntax.Term) → Spells t A → Spells u M → Spells v (bound binder x at (syntax.typed A) M))
      → Front table all (arrows Us) None next → IsBound binder x t u next rest → Ends Us v all rest
  binder_ends binder x t u v Us all next rest says f b =
      let P = bound binder x b.at (syntax.typed b.domain) b.body in
      let r = settled_arrows Us P levels.Application refl in
      record {
        term = P;
        whole = finish_binder table all next rest (arrows Us) b.node P (closing Us P) r.0 f b.some b.binds b.is r.1;
        spells = says b.at b.domain b.body b.domain_spells b.body_spells;
      }

  type_reads : Reads kind
  type_reads Us all next rest f (x, after, e, v, c, b) =
      let p = push table all (x ∷ after) after (arrows Us) (arrows Us) None (Some (settled syntax.star)) (leaf syntax.star) (atom syntax.star) (moved table all next (x ∷ after) (arrows Us) None e f) (a_type v) a_leaf tt refl in
      let i : IsLast (arrows Us) kind all rest = record { term = syntax.star; front = moved table all after rest (arrows Us) (Some (settled syntax.star)) b p; spells = refl } in
      side_ends Us kind all rest (plain_side Us kind all rest i)

  mutual
    known : (t : Sketch) → IsLegible table t → Known t
    known (applied h w fix xs) l =
        let k = all_known xs l.3 in
        (λ Us all next rest f b. side_ends Us (applied h w fix xs) all rest (application_side h w fix xs Us all next rest l k f b), k)
    known (arrow m t u) (s, l, l') = arrow_reads m t u s l (known t l) (known_reads u (known u l'))
    known (quantified x t u) (n, l, l') = λ Us all next rest f b. binder_ends Pi x t u (quantified x t u) Us all next rest (λ at A M p q. (at, A, M, p, q, refl)) f
        (binder_read Pi (codes "{") x (codes "}") t u next rest n refl refl (known_reads t (known t l)) (known_reads u (known u l')) b)
    known (abstracted x t u) (n, l, l') = λ Us all next rest f b. binder_ends Lambda x t u (abstracted x t u) Us all next rest (λ at A M p q. (at, A, M, p, q, refl)) f
        (binder_read Lambda (codes "[") x (codes "]") t u next rest n refl refl (known_reads t (known t l)) (known_reads u (known u l')) b)
    known kind l = type_reads
    known too_deep l = absurd l
    known untyped l = absurd l

    all_known : (ts : Sketches) → AreLegible table ts → AllKnown ts
    all_known none l = tt
    all_known (more m t ts) (s, l, ls) = (known t l, all_known ts ls)

-- the tokens of a sketch, whatever stands behind them
pub record SequenceOf (table : Table) (t : Sketch) (tokens behind : List Lexeme) : Type 0 where
  pub outline : Outline
  pub term : syntax.Term
  pub sequence : Sequence table tokens outline behind
  pub means : Means outline term
  pub spells : Spells t term

pub sequence_read : (table : Table) (t : Sketch) (tokens behind : List Lexeme) → IsLegible table t → BeginWith (pieces t) tokens behind → SequenceOf table t tokens behind
sequence_read table t tokens behind l b =
    let r = read_alone table t (known_reads table t (known table t l)) tokens behind b in
    record { outline = r.whole.outline; term = r.term; sequence = r.whole.sequence; means = r.whole.means; spells = r.spells }
