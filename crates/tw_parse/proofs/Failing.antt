-- A sequence stops at the first token that can't go on.
use Rattle.std.proofs.Common.{◌≡◌, ◌≢◌, ℕ, ◌+◌, List, [], ◌∷◌, ◌++◌, Bool, true, false, Option, None, Some, drop, refl, sym, ap, subst, ◌∙◌, append_assoc, arith}
use Rattle.tw_lexer.specs.declared.place.Place.{Place}
use Rattle.tw_parse.specs.Failing.{ended, is_item, Dies, StopsIn, StopsInHead, HeadPort, SequenceFault, HeadFault}
use Rattle.tw_parse.specs.Faults.{sign_first, leaf_by, leaf_of}
use Rattle.tw_parse.specs.Outlines.{Table, operator_of, Outline, outline, Nodes, none, more, Node, leaf, group, binding, typed_binding, Begins, a_hole, a_group, Row, empty, one_more, Sequence, Binds, without_type, with_type}
use Rattle.tw_parse.specs.Spots.{Frame, paren, domain, Spot, inside, opened, named, close, go, go_named, next, steps, IsWithin}
use Rattle.tw_parse.specs.Syntax as syntax
use Rattle.tw_parse.specs.Sources.{lexemes_from}
use Rattle.tw_parse.specs.declared.fault.SyntaxFault.{SyntaxFault}
use Rattle.tw_parse.specs.declared.fault.SyntaxFault.TheVariants.{Unsupported, Nesting, Syntax, Fixity, BadDecl, NoMemory}
use Rattle.tw_parse.specs.declared.source.Source.{Source}
use Rattle.tw_parse.specs.Words.{Lexeme, lexemes, first_word, first_place, separator_of, binder_of, closer_of, is_bindable}
use Rattle.tw_parse.specs.declared.sign.Sign.{Sign}
use Rattle.tw_parse.specs.declared.sign.Sign.TheVariants.{Separator}
use Rattle.tw_parse.specs.declared.words.Binder.{Binder}
use Rattle.tw_parse.specs.declared.words.Binder.TheVariants.{Pi, Lambda}
use Rattle.tw_parse.specs.declared.words.Word.{Word}
use Rattle.tw_parse.specs.declared.words.Word.TheVariants.{Name, Forward, Backward, Underscore, Star, Equals, Keyword, Colon, Dot, LParen, RParen, LBrace, RBrace, LBracket, RBracket, End}
use Rattle.tw_parse.proofs.Building.{First, begins_first, binds_first, row_first, a_plain, a_binder, Token, a_token, opener_stands, bindable_stands, closer_stands}
use Rattle.tw_parse.proofs.Ports.{on, has, port_row, port_sequence, opener_goes, bindable_goes, closer_goes, colon_goes, domain_goes}

-- the first of the tokens or the end
pub at_end : (end : Place) (ts : List Lexeme) → (y : Lexeme) × (more : List Lexeme) × (ended end ts ≡ y ∷ more) × (first_place end ts ≡ y.at) × (y.word ≡ first_word ts)
at_end end [] = (record { word = End; bytes = []; at = end }, [], refl, refl, refl)
at_end end (x ∷ xs) = (x, ended end xs, refl, refl, refl)

pub ended_behind : (end : Place) (tokens front rest : List Lexeme) → tokens ≡ front ++ rest → ended end tokens ≡ front ++ ended end rest
ended_behind end tokens front rest e = ap (ended end) e ∙ append_assoc front rest (record { word = End; bytes = []; at = end } ∷ [])

-- a token of this word
abbrev pub a_word : Place → Word → Lexeme
a_word at w = record { word = w; bytes = []; at = at }

item_or_closer : (b : Bool) (frames : List Frame) (w : Word) → is_item w ≡ false → go b frames w ≡ close b frames w
item_or_closer b frames Name e = cc
item_or_closer b frames Forward e = cc
item_or_closer b frames Backward e = cc
item_or_closer b frames Underscore e = cc
item_or_closer b frames Star e = cc
item_or_closer b frames Equals e = refl
item_or_closer b frames Keyword e = refl
item_or_closer b frames Colon e = cc
item_or_closer b frames Dot e = refl
item_or_closer b frames LParen e = cc
item_or_closer b frames RParen e = refl
item_or_closer b frames LBrace e = cc
item_or_closer b frames RBrace e = refl
item_or_closer b frames LBracket e = cc
item_or_closer b frames RBracket e = refl
item_or_closer b frames End e = refl

pub unbegun : (frames : List Frame) (w : Word) → is_item w ≡ false → go false frames w ≡ None
unbegun frames w e = item_or_closer false frames w e

close_paren : (frames : List Frame) (w : Word) → w ≢ RParen → close true (paren ∷ frames) w ≡ None
close_paren frames Name n = refl
close_paren frames Forward n = refl
close_paren frames Backward n = refl
close_paren frames Underscore n = refl
close_paren frames Star n = refl
close_paren frames Equals n = refl
close_paren frames Keyword n = refl
close_paren frames Colon n = refl
close_paren frames Dot n = refl
close_paren frames LParen n = refl
close_paren frames RParen n = absurd (n refl)
close_paren frames LBrace n = refl
close_paren frames RBrace n = refl
close_paren frames LBracket n = refl
close_paren frames RBracket n = refl
close_paren frames End n = refl

pub no_paren : (frames : List Frame) (w : Word) → is_item w ≡ false → w ≢ RParen → go true (paren ∷ frames) w ≡ None
no_paren frames w e n = item_or_closer true (paren ∷ frames) w e ∙ close_paren frames w n

close_domain : (k : Binder) (frames : List Frame) (w : Word) → w ≢ closer_of k → close true (domain k ∷ frames) w ≡ None
close_domain Pi frames Name n = refl
close_domain Pi frames Forward n = refl
close_domain Pi frames Backward n = refl
close_domain Pi frames Underscore n = refl
close_domain Pi frames Star n = refl
close_domain Pi frames Equals n = refl
close_domain Pi frames Keyword n = refl
close_domain Pi frames Colon n = refl
close_domain Pi frames Dot n = refl
close_domain Pi frames LParen n = refl
close_domain Pi frames RParen n = refl
close_domain Pi frames LBrace n = refl
close_domain Pi frames RBrace n = absurd (n refl)
close_domain Pi frames LBracket n = refl
close_domain Pi frames RBracket n = refl
close_domain Pi frames End n = refl
close_domain Lambda frames Name n = refl
close_domain Lambda frames Forward n = refl
close_domain Lambda frames Backward n = refl
close_domain Lambda frames Underscore n = refl
close_domain Lambda frames Star n = refl
close_domain Lambda frames Equals n = refl
close_domain Lambda frames Keyword n = refl
close_domain Lambda frames Colon n = refl
close_domain Lambda frames Dot n = refl
close_domain Lambda frames LParen n = refl
close_domain Lambda frames RParen n = refl
close_domain Lambda frames LBrace n = refl
close_domain Lambda frames RBrace n = refl
close_domain Lambda frames LBracket n = refl
close_domain Lambda frames RBracket n = absurd (n refl)
close_domain Lambda frames End n = refl

no_domain : (k : Binder) (frames : List Frame) (w : Word) → is_item w ≡ false → w ≢ closer_of k → go true (domain k ∷ frames) w ≡ None
no_domain k frames w e n = item_or_closer true (domain k ∷ frames) w e ∙ close_domain k frames w n

no_named : (k : Binder) (frames : List Frame) (w : Word) → w ≢ Colon → w ≢ closer_of k → go_named k frames w ≡ None
no_named Pi frames Name n m = refl
no_named Pi frames Forward n m = refl
no_named Pi frames Backward n m = refl
no_named Pi frames Underscore n m = refl
no_named Pi frames Star n m = refl
no_named Pi frames Equals n m = refl
no_named Pi frames Keyword n m = refl
no_named Pi frames Colon n m = absurd (n refl)
no_named Pi frames Dot n m = refl
no_named Pi frames LParen n m = refl
no_named Pi frames RParen n m = refl
no_named Pi frames LBrace n m = refl
no_named Pi frames RBrace n m = absurd (m refl)
no_named Pi frames LBracket n m = refl
no_named Pi frames RBracket n m = refl
no_named Pi frames End n m = refl
no_named Lambda frames Name n m = refl
no_named Lambda frames Forward n m = refl
no_named Lambda frames Backward n m = refl
no_named Lambda frames Underscore n m = refl
no_named Lambda frames Star n m = refl
no_named Lambda frames Equals n m = refl
no_named Lambda frames Keyword n m = refl
no_named Lambda frames Colon n m = absurd (n refl)
no_named Lambda frames Dot n m = refl
no_named Lambda frames LParen n m = refl
no_named Lambda frames RParen n m = refl
no_named Lambda frames LBrace n m = refl
no_named Lambda frames RBrace n m = refl
no_named Lambda frames LBracket n m = refl
no_named Lambda frames RBracket n m = absurd (m refl)
no_named Lambda frames End n m = refl

no_opened : (k : Binder) (frames : List Frame) (w : Word) → is_bindable w ≡ false → next (opened k) frames w ≡ None
no_opened k frames w e = rw e refl

abbrev sign_by : Table → Word → List ℕ → Place → Option Sign
sign_by table w x at = elim (separator_of w) [ Some by ↦ Some (Separator by) | None ↦ operator_of table w x at ]

no_item : (table : Table) (x : List ℕ) (at : Place) (w : Word) → sign_by table w x at ≡ None → leaf_by w x at ≡ None → w ≢ LParen → binder_of w ≡ None → is_item w ≡ false
no_item table x at Name e f n g = cc
no_item table x at Forward e f n g = cc
no_item table x at Backward e f n g = cc
no_item table x at Underscore e f n g = cc
no_item table x at Star e f n g = cc
no_item table x at Equals e f n g = refl
no_item table x at Keyword e f n g = refl
no_item table x at Colon e f n g = cc
no_item table x at Dot e f n g = refl
no_item table x at LParen e f n g = absurd (n refl)
no_item table x at RParen e f n g = refl
no_item table x at LBrace e f n g = cc
no_item table x at RBrace e f n g = refl
no_item table x at LBracket e f n g = cc
no_item table x at RBracket e f n g = refl
no_item table x at End e f n g = refl

-- a token that is no item
pub not_an_item : (table : Table) (ts : List Lexeme) → sign_first table ts ≡ None → leaf_of ts ≡ None → first_word ts ≢ LParen → binder_of (first_word ts) ≡ None → is_item (first_word ts) ≡ false
not_an_item table [] e f n g = refl
not_an_item table (x ∷ xs) e f n g = no_item table x.bytes x.at x.word e f n g

within_more : (spot : Spot) (frames : List Frame) (f : Frame) → IsWithin spot (frames ++ f ∷ [])
within_more (inside true) [] f = tt
within_more (inside true) (g ∷ frames) f = tt
within_more (inside false) [] f = tt
within_more (inside false) (g ∷ frames) f = tt
within_more (opened k) [] f = tt
within_more (opened k) (g ∷ frames) f = tt
within_more (named k) [] f = tt
within_more (named k) (g ∷ frames) f = tt

-- a frame below
deeper : (b : Bool) (mid : List Lexeme) (w : Word) (f : Frame) (tokens : List Lexeme) → ((below : List Frame) → steps (Some (inside b, below)) tokens ≡ steps (Some (inside false, f ∷ below)) mid) → Dies false mid w → Dies b tokens w
deeper b mid w f tokens e d = (
  d.0,
  d.1 ++ f ∷ [],
  λ below. e below ∙ d.2 (f ∷ below) ∙ ap (λ fs. Some (d.0, fs)) (sym (append_assoc d.1 (f ∷ []) below)),
  λ below. ap (λ fs. next d.0 fs w) (append_assoc d.1 (f ∷ []) below) ∙ d.3 (f ∷ below),
  within_more d.0 d.1 f,
)

whole : (table : Table) (end : Place) (tokens rest : List Lexeme) (row : Nodes) (n : Node) → Row table tokens (more row n) rest → First tokens → (O : Outline) × Sequence table tokens O rest
whole table end tokens rest row n r first = (outline (first_place end tokens) (more row n), a_plain table tokens rest row n end (first_place end tokens) r first refl)

whole_binder : (table : Table) (end : Place) (tokens next rest : List Lexeme) (row : Nodes) (n : Node) → Row table tokens row next → Binds table next n rest → (O : Outline) × Sequence table tokens O rest
whole_binder table end tokens next rest row n r b =
    (outline (first_place end tokens) (more row n), a_binder table tokens next rest row n end (first_place end tokens) r b (row_first table r (binds_first table b)) refl)

-- nothing has begun
pub stops_first : (table : Table) (end place : Place) (tokens : List Lexeme) → is_item (first_word tokens) ≡ false → place ≡ first_place end tokens → StopsIn table end tokens place
stops_first table end place tokens isnt is =
    let y = at_end end tokens in (
      [],
      y.0,
      y.1,
      y.2,
      is ∙ y.3,
      (a_word end Underscore ∷ [], λ v. whole table end (a_word end Underscore ∷ v) v none (leaf (syntax.hole end)) (one_more empty (a_hole refl)) (a_word end Underscore, v, refl)),
      (inside false, [], λ below. refl, λ below. unbegun below y.0.word (ap is_item y.4 ∙ isnt), tt),
    )

-- a sequence in parentheses stops
pub stops_in_group : (table : Table) (end place : Place) (xs tokens : List Lexeme) (upto : ℕ) (row : Nodes) → Row table tokens row (drop upto xs) → LParen ≡ first_word (drop upto xs) → StopsIn table end (drop (upto + 1) xs) place → StopsIn table end tokens place
stops_in_group table end place xs tokens upto row r opens s =
    let o : Token xs upto (upto + 1) LParen = a_token xs upto (upto + 1) LParen refl opens (λ e. cc) in
    let m = port_row table r in
    let c : Lexeme = a_word end RParen in
    let mid : List Lexeme = m.front ++ o.0 ∷ s.0 in
    let rest : List Lexeme = s.5.0 ++ c ∷ [] in (
      mid,
      s.1,
      s.2,
      ended_behind end tokens m.front (drop upto xs) m.split ∙ ap (λ ts. m.front ++ ended end ts) o.1 ∙ ap (λ ts. m.front ++ o.0 ∷ ts) s.3 ∙ sym (append_assoc m.front (o.0 ∷ s.0) (s.1 ∷ s.2)),
      s.4,
      (
        rest,
        λ v.
            let inner = s.5.1 (c ∷ v) in
            let all : mid ++ (rest ++ v) ≡ m.front ++ (o.0 ∷ (s.0 ++ (s.5.0 ++ c ∷ v))) = append_assoc m.front (o.0 ∷ s.0) (rest ++ v) ∙ ap (λ ts. m.front ++ o.0 ∷ (s.0 ++ ts)) (append_assoc s.5.0 (c ∷ []) v) in
            let ts : List Lexeme = o.0 ∷ (s.0 ++ (s.5.0 ++ c ∷ v)) in
            let b : Begins table ts (group inner.0) v = a_group o.2 inner.1 refl in
            let P : List Lexeme → Type 0 = λ us. (O : Outline) × Sequence table us O v in
            subst P (sym all) (whole table end (m.front ++ ts) v row (group inner.0) (one_more (m.anew ts) b) (row_first table (m.anew ts) (begins_first table b))),
      ),
      deeper false s.0 s.1.word paren mid
          (λ below. on (Some (inside false, below)) (Some (inside (has row false), below)) m.front (o.0 ∷ s.0) (m.goes false below) ∙ ap (λ w. steps (go (has row false) below w) s.0) o.2)
          s.6,
    )

-- the closing parenthesis is wanting
pub stops_at_paren : (table : Table) (end place : Place) (xs tokens : List Lexeme) (upto k : ℕ) (row : Nodes) (O : Outline) → Row table tokens row (drop upto xs) → LParen ≡ first_word (drop upto xs) → Sequence table (drop (upto + 1) xs) O (drop k xs)
    → is_item (first_word (drop k xs)) ≡ false → first_word (drop k xs) ≢ RParen → place ≡ first_place end (drop k xs) → StopsIn table end tokens place
stops_at_paren table end place xs tokens upto k row O r opens s isnt wrong is =
    let o : Token xs upto (upto + 1) LParen = a_token xs upto (upto + 1) LParen refl opens (λ e. cc) in
    let m = port_row table r in
    let i = port_sequence table s in
    let y = at_end end (drop k xs) in
    let c : Lexeme = a_word end RParen in
    let mid : List Lexeme = m.front ++ o.0 ∷ i.front in (
      mid,
      y.0,
      y.1,
      ended_behind end tokens m.front (drop upto xs) m.split ∙ ap (λ ts. m.front ++ ended end ts) o.1 ∙ ap (λ ts. m.front ++ o.0 ∷ ts) (ended_behind end (drop (upto + 1) xs) i.front (drop k xs) i.split ∙ ap (λ ts. i.front ++ ts) y.2)
          ∙ sym (append_assoc m.front (o.0 ∷ i.front) (y.0 ∷ y.1)),
      is ∙ y.3,
      (
        c ∷ [],
        λ v.
            let ts : List Lexeme = o.0 ∷ (i.front ++ c ∷ v) in
            let all : mid ++ (c ∷ v) ≡ m.front ++ ts = append_assoc m.front (o.0 ∷ i.front) (c ∷ v) in
            let b : Begins table ts (group O) v = a_group o.2 (i.anew (c ∷ v)) refl in
            let P : List Lexeme → Type 0 = λ us. (O : Outline) × Sequence table us O v in
            subst P (sym all) (whole table end (m.front ++ ts) v row (group O) (one_more (m.anew ts) b) (row_first table (m.anew ts) (begins_first table b))),
      ),
      (
        inside true,
        paren ∷ [],
        λ below. on (Some (inside false, below)) (Some (inside (has row false), below)) m.front (o.0 ∷ i.front) (m.goes false below) ∙ ap (λ w. steps (go (has row false) below w) i.front) o.2 ∙ i.goes (paren ∷ below),
        λ below. no_paren below y.0.word (ap is_item y.4 ∙ isnt) (λ e. wrong (sym y.4 ∙ e)),
        tt,
      ),
    )

-- the head of a binder stops
pub stops_in_head : (table : Table) (end place : Place) (xs tokens : List Lexeme) (upto : ℕ) (row : Nodes) → Row table tokens row (drop upto xs) → StopsInHead table end (drop upto xs) place → StopsIn table end tokens place
stops_in_head table end place xs tokens upto row r s =
    let m = port_row table r in
    let mid : List Lexeme = m.front ++ s.0 in
    let d = s.6 (has row false) in (
      mid,
      s.1,
      s.2,
      ended_behind end tokens m.front (drop upto xs) m.split ∙ ap (λ ts. m.front ++ ts) s.3 ∙ sym (append_assoc m.front s.0 (s.1 ∷ s.2)),
      s.4,
      (
        s.5.0,
        λ v.
            let b = s.5.1 v in
            let P : List Lexeme → Type 0 = λ us. (O : Outline) × Sequence table us O v in
            subst P (sym (append_assoc m.front s.0 (s.5.0 ++ v))) (whole_binder table end (m.front ++ (s.0 ++ (s.5.0 ++ v))) (s.0 ++ (s.5.0 ++ v)) v row b.0 (m.anew (s.0 ++ (s.5.0 ++ v))) b.1),
      ),
      (d.0, d.1, λ below. on (Some (inside false, below)) (Some (inside (has row false), below)) m.front s.0 (m.goes false below) ∙ d.2 below, d.3, d.4),
    )

-- the body of a binder stops
pub stops_in_body : (table : Table) (end place : Place) (xs tokens : List Lexeme) (upto from : ℕ) (row : Nodes) → Row table tokens row (drop upto xs) → HeadPort table (drop upto xs) (drop from xs) → StopsIn table end (drop from xs) place → StopsIn table end tokens place
stops_in_body table end place xs tokens upto from row r h s =
    let m = port_row table r in
    let mid : List Lexeme = m.front ++ (h.0 ++ s.0) in
    let d = s.6 in (
      mid,
      s.1,
      s.2,
      ended_behind end tokens m.front (drop upto xs) m.split
          ∙ ap (λ ts. m.front ++ ts) (ended_behind end (drop upto xs) h.0 (drop from xs) h.1 ∙ ap (λ ts. h.0 ++ ts) s.3 ∙ sym (append_assoc h.0 s.0 (s.1 ∷ s.2)))
          ∙ sym (append_assoc m.front (h.0 ++ s.0) (s.1 ∷ s.2)),
      s.4,
      (
        s.5.0,
        λ v.
            let inner = s.5.1 v in
            let ts : List Lexeme = s.0 ++ (s.5.0 ++ v) in
            let b = h.3 inner.0 ts v inner.1 in
            let P : List Lexeme → Type 0 = λ us. (O : Outline) × Sequence table us O v in
            let all : mid ++ (s.5.0 ++ v) ≡ m.front ++ (h.0 ++ ts) = append_assoc m.front (h.0 ++ s.0) (s.5.0 ++ v) ∙ ap (λ us. m.front ++ us) (append_assoc h.0 s.0 (s.5.0 ++ v)) in
            subst P (sym all) (whole_binder table end (m.front ++ (h.0 ++ ts)) (h.0 ++ ts) v row b.0 (m.anew (h.0 ++ ts)) b.1),
      ),
      (
        d.0,
        d.1,
        λ below. on (Some (inside false, below)) (Some (inside (has row false), below)) m.front (h.0 ++ s.0) (m.goes false below) ∙ on (Some (inside (has row false), below)) (Some (inside false, below)) h.0 s.0 (h.2 (has row false) below) ∙ d.2 below,
        d.3,
        d.4,
      ),
    )

-- Heads of binders

pub hole_sequence : (table : Table) (end : Place) (v : List Lexeme) → (O : Outline) × Sequence table (a_word end Underscore ∷ v) O v
hole_sequence table end v = whole table end (a_word end Underscore ∷ v) v none (leaf (syntax.hole end)) (one_more empty (a_hole refl)) (a_word end Underscore, v, refl)

-- no name stands behind the bracket
pub stops_at_name : (table : Table) (end place : Place) (xs : List Lexeme) (at : ℕ) (k : Binder) → binder_of (first_word (drop at xs)) ≡ Some k → is_bindable (first_word (drop (at + 1) xs)) ≡ false → place ≡ first_place end (drop (at + 1) xs)
    → StopsInHead table end (drop at xs) place
stops_at_name table end place xs at k opens isnt is =
    let o : Token xs at (at + 1) (first_word (drop at xs)) = a_token xs at (at + 1) _ refl refl (opener_stands _ k opens) in
    let y = at_end end (drop (at + 1) xs) in
    let x : Lexeme = a_word end Underscore in
    let c : Lexeme = a_word end (closer_of k) in (
      o.0 ∷ [],
      y.0,
      y.1,
      ap (ended end) o.1 ∙ ap (λ ts. o.0 ∷ ts) y.2,
      is ∙ y.3,
      (x ∷ c ∷ x ∷ [], λ v. let body = hole_sequence table end v in (binding k [] o.0.at body.0, without_type (ap binder_of o.2 ∙ opens) refl refl body.1)),
      λ b. (opened k, [], λ below. opener_goes o.0.word k b below (ap binder_of o.2 ∙ opens), λ below. no_opened k below y.0.word (ap is_bindable y.4 ∙ isnt), tt),
    )

-- neither `:` nor the closing bracket stands behind the name
pub stops_at_colon : (table : Table) (end place : Place) (xs : List Lexeme) (at : ℕ) (k : Binder) → binder_of (first_word (drop at xs)) ≡ Some k → is_bindable (first_word (drop (at + 1) xs)) ≡ true → first_word (drop (at + 2) xs) ≢ Colon
    → first_word (drop (at + 2) xs) ≢ closer_of k → place ≡ first_place end (drop (at + 2) xs) → StopsInHead table end (drop at xs) place
stops_at_colon table end place xs at k opens binds no_colon no_closer is =
    let o : Token xs at (at + 1) (first_word (drop at xs)) = a_token xs at (at + 1) _ refl refl (opener_stands _ k opens) in
    let x : Token xs (at + 1) (at + 2) (first_word (drop (at + 1) xs)) = a_token xs (at + 1) (at + 2) _ (omega arith) refl (bindable_stands _ binds) in
    let y = at_end end (drop (at + 2) xs) in
    let u : Lexeme = a_word end Underscore in
    let c : Lexeme = a_word end (closer_of k) in
    let opener : binder_of o.0.word ≡ Some k = ap binder_of o.2 ∙ opens in
    let bindable : is_bindable x.0.word ≡ true = ap is_bindable x.2 ∙ binds in (
      o.0 ∷ x.0 ∷ [],
      y.0,
      y.1,
      ap (ended end) (o.1 ∙ ap (λ ts. o.0 ∷ ts) x.1) ∙ ap (λ ts. o.0 ∷ x.0 ∷ ts) y.2,
      is ∙ y.3,
      (c ∷ u ∷ [], λ v. let body = hole_sequence table end v in (binding k x.0.bytes o.0.at body.0, without_type opener bindable refl body.1)),
      λ b. (
        named k,
        [],
        λ below. ap (λ p. steps p (x.0 ∷ [])) (opener_goes o.0.word k b below opener) ∙ bindable_goes x.0.word k below bindable,
        λ below. no_named k below y.0.word (λ e. no_colon (sym y.4 ∙ e)) (λ e. no_closer (sym y.4 ∙ e)),
        tt,
      ),
    )

-- the type of a binder stops
pub stops_in_domain : (table : Table) (end place : Place) (xs : List Lexeme) (at : ℕ) (k : Binder) → binder_of (first_word (drop at xs)) ≡ Some k → is_bindable (first_word (drop (at + 1) xs)) ≡ true → first_word (drop (at + 2) xs) ≡ Colon
    → StopsIn table end (drop (at + 3) xs) place → StopsInHead table end (drop at xs) place
stops_in_domain table end place xs at k opens binds colons s =
    let o : Token xs at (at + 1) (first_word (drop at xs)) = a_token xs at (at + 1) _ refl refl (opener_stands _ k opens) in
    let x : Token xs (at + 1) (at + 2) (first_word (drop (at + 1) xs)) = a_token xs (at + 1) (at + 2) _ (omega arith) refl (bindable_stands _ binds) in
    let l : Token xs (at + 2) (at + 3) Colon = a_token xs (at + 2) (at + 3) Colon (omega arith) (sym colons) (λ e. cc) in
    let u : Lexeme = a_word end Underscore in
    let c : Lexeme = a_word end (closer_of k) in
    let opener : binder_of o.0.word ≡ Some k = ap binder_of o.2 ∙ opens in
    let bindable : is_bindable x.0.word ≡ true = ap is_bindable x.2 ∙ binds in
    let mid : List Lexeme = o.0 ∷ x.0 ∷ l.0 ∷ s.0 in (
      mid,
      s.1,
      s.2,
      ap (ended end) (o.1 ∙ ap (λ ts. o.0 ∷ ts) (x.1 ∙ ap (λ ts. x.0 ∷ ts) l.1)) ∙ ap (λ ts. o.0 ∷ x.0 ∷ l.0 ∷ ts) s.3,
      s.4,
      (
        s.5.0 ++ c ∷ u ∷ [],
        λ v.
            let body = hole_sequence table end v in
            let inner = s.5.1 (c ∷ u ∷ v) in
            let P : List Lexeme → Type 0 = λ us. Binds table us (typed_binding k x.0.bytes o.0.at inner.0 body.0) v in
            let all : mid ++ ((s.5.0 ++ c ∷ u ∷ []) ++ v) ≡ o.0 ∷ x.0 ∷ l.0 ∷ (s.0 ++ (s.5.0 ++ c ∷ u ∷ v)) = ap (λ ts. o.0 ∷ x.0 ∷ l.0 ∷ (s.0 ++ ts)) (append_assoc s.5.0 (c ∷ u ∷ []) v) in
            (typed_binding k x.0.bytes o.0.at inner.0 body.0, subst P (sym all) (with_type opener bindable l.2 inner.1 refl body.1)),
      ),
      λ b.
          deeper b s.0 s.1.word (domain k) mid
          (λ below. ap (λ p. steps p (x.0 ∷ l.0 ∷ s.0)) (opener_goes o.0.word k b below opener) ∙ ap (λ p. steps p (l.0 ∷ s.0)) (bindable_goes x.0.word k below bindable) ∙ ap (λ p. steps p s.0) (colon_goes l.0.word k below l.2))
          s.6,
    )

-- the bracket behind the type is wanting
pub stops_at_closer : (table : Table) (end place : Place) (xs : List Lexeme) (at e : ℕ) (k : Binder) (D : Outline) → binder_of (first_word (drop at xs)) ≡ Some k → is_bindable (first_word (drop (at + 1) xs)) ≡ true → first_word (drop (at + 2) xs) ≡ Colon
    → Sequence table (drop (at + 3) xs) D (drop e xs) → is_item (first_word (drop e xs)) ≡ false → first_word (drop e xs) ≢ closer_of k → place ≡ first_place end (drop e xs) → StopsInHead table end (drop at xs) place
stops_at_closer table end place xs at e k D opens binds colons s isnt wrong is =
    let o : Token xs at (at + 1) (first_word (drop at xs)) = a_token xs at (at + 1) _ refl refl (opener_stands _ k opens) in
    let x : Token xs (at + 1) (at + 2) (first_word (drop (at + 1) xs)) = a_token xs (at + 1) (at + 2) _ (omega arith) refl (bindable_stands _ binds) in
    let l : Token xs (at + 2) (at + 3) Colon = a_token xs (at + 2) (at + 3) Colon (omega arith) (sym colons) (λ e. cc) in
    let y = at_end end (drop e xs) in
    let i = port_sequence table s in
    let u : Lexeme = a_word end Underscore in
    let c : Lexeme = a_word end (closer_of k) in
    let opener : binder_of o.0.word ≡ Some k = ap binder_of o.2 ∙ opens in
    let bindable : is_bindable x.0.word ≡ true = ap is_bindable x.2 ∙ binds in
    let mid : List Lexeme = o.0 ∷ x.0 ∷ l.0 ∷ i.front in (
      mid,
      y.0,
      y.1,
      ap (ended end) (o.1 ∙ ap (λ ts. o.0 ∷ ts) (x.1 ∙ ap (λ ts. x.0 ∷ ts) l.1)) ∙ ap (λ ts. o.0 ∷ x.0 ∷ l.0 ∷ ts) (ended_behind end (drop (at + 3) xs) i.front (drop e xs) i.split ∙ ap (λ ts. i.front ++ ts) y.2),
      is ∙ y.3,
      (c ∷ u ∷ [], λ v. let body = hole_sequence table end v in (typed_binding k x.0.bytes o.0.at D body.0, with_type opener bindable l.2 (i.anew (c ∷ u ∷ v)) refl body.1)),
      λ b. (
        inside true,
        domain k ∷ [],
        λ below.
            ap (λ p. steps p (x.0 ∷ l.0 ∷ i.front)) (opener_goes o.0.word k b below opener) ∙ ap (λ p. steps p (l.0 ∷ i.front)) (bindable_goes x.0.word k below bindable) ∙ ap (λ p. steps p i.front) (colon_goes l.0.word k below l.2)
            ∙ i.goes (domain k ∷ below),
        λ below. no_domain k below y.0.word (ap is_item y.4 ∙ isnt) (λ f. wrong (sym y.4 ∙ f)),
        tt,
      ),
    )

-- what a head takes of the tokens
pub port_alone : (table : Table) (xs : List Lexeme) (at : ℕ) (k : Binder) → binder_of (first_word (drop at xs)) ≡ Some k → is_bindable (first_word (drop (at + 1) xs)) ≡ true → first_word (drop (at + 2) xs) ≡ closer_of k → HeadPort table (drop at xs) (drop (at + 3) xs)
port_alone table xs at k opens binds closes =
    let o : Token xs at (at + 1) (first_word (drop at xs)) = a_token xs at (at + 1) _ refl refl (opener_stands _ k opens) in
    let x : Token xs (at + 1) (at + 2) (first_word (drop (at + 1) xs)) = a_token xs (at + 1) (at + 2) _ (omega arith) refl (bindable_stands _ binds) in
    let c : Token xs (at + 2) (at + 3) (first_word (drop (at + 2) xs)) = a_token xs (at + 2) (at + 3) _ (omega arith) refl (closer_stands k _ closes) in
    let opener : binder_of o.0.word ≡ Some k = ap binder_of o.2 ∙ opens in
    let bindable : is_bindable x.0.word ≡ true = ap is_bindable x.2 ∙ binds in
    let closer : c.0.word ≡ closer_of k = c.2 ∙ closes in (
      o.0 ∷ x.0 ∷ c.0 ∷ [],
      o.1 ∙ ap (λ ts. o.0 ∷ ts) (x.1 ∙ ap (λ ts. x.0 ∷ ts) c.1),
      λ b frames. ap (λ p. steps p (x.0 ∷ c.0 ∷ [])) (opener_goes o.0.word k b frames opener) ∙ ap (λ p. steps p (c.0 ∷ [])) (bindable_goes x.0.word k frames bindable) ∙ closer_goes c.0.word k frames closer,
      λ O ts v s. (binding k x.0.bytes o.0.at O, without_type opener bindable closer s),
    )

pub port_typed : (table : Table) (xs : List Lexeme) (at e : ℕ) (k : Binder) (D : Outline) → binder_of (first_word (drop at xs)) ≡ Some k → is_bindable (first_word (drop (at + 1) xs)) ≡ true → first_word (drop (at + 2) xs) ≡ Colon
    → Sequence table (drop (at + 3) xs) D (drop e xs) → first_word (drop e xs) ≡ closer_of k → HeadPort table (drop at xs) (drop (e + 1) xs)
port_typed table xs at e k D opens binds colons s closes =
    let o : Token xs at (at + 1) (first_word (drop at xs)) = a_token xs at (at + 1) _ refl refl (opener_stands _ k opens) in
    let x : Token xs (at + 1) (at + 2) (first_word (drop (at + 1) xs)) = a_token xs (at + 1) (at + 2) _ (omega arith) refl (bindable_stands _ binds) in
    let l : Token xs (at + 2) (at + 3) Colon = a_token xs (at + 2) (at + 3) Colon (omega arith) (sym colons) (λ e. cc) in
    let c : Token xs e (e + 1) (first_word (drop e xs)) = a_token xs e (e + 1) _ refl refl (closer_stands k _ closes) in
    let i = port_sequence table s in
    let opener : binder_of o.0.word ≡ Some k = ap binder_of o.2 ∙ opens in
    let bindable : is_bindable x.0.word ≡ true = ap is_bindable x.2 ∙ binds in
    let closer : c.0.word ≡ closer_of k = c.2 ∙ closes in (
      o.0 ∷ x.0 ∷ l.0 ∷ (i.front ++ c.0 ∷ []),
      o.1 ∙ ap (λ ts. o.0 ∷ ts) (x.1 ∙ ap (λ ts. x.0 ∷ ts) (l.1 ∙ ap (λ ts. l.0 ∷ ts) (i.split ∙ ap (λ ts. i.front ++ ts) c.1 ∙ sym (append_assoc i.front (c.0 ∷ []) (drop (e + 1) xs))))),
      λ b frames.
          ap (λ p. steps p (x.0 ∷ l.0 ∷ (i.front ++ c.0 ∷ []))) (opener_goes o.0.word k b frames opener) ∙ ap (λ p. steps p (l.0 ∷ (i.front ++ c.0 ∷ []))) (bindable_goes x.0.word k frames bindable)
          ∙ ap (λ p. steps p (i.front ++ c.0 ∷ [])) (colon_goes l.0.word k frames l.2)
          ∙ on (Some (inside false, domain k ∷ frames)) (Some (inside true, domain k ∷ frames)) i.front (c.0 ∷ []) (i.goes (domain k ∷ frames)) ∙ domain_goes c.0.word k frames closer,
      λ O ts v body.
          let P : List Lexeme → Type 0 = λ us. Binds table (o.0 ∷ x.0 ∷ l.0 ∷ us) (typed_binding k x.0.bytes o.0.at D O) v in
          (typed_binding k x.0.bytes o.0.at D O, subst P (sym (append_assoc i.front (c.0 ∷ []) ts)) (with_type opener bindable l.2 (i.anew (c.0 ∷ ts)) closer body)),
    )

-- what a fault inside says of the head or the sequence around it

pub domain_stops : (source : Source) (at : ℕ) (k : Binder) (f : SyntaxFault) → binder_of (first_word (lexemes_from source at)) ≡ Some k → is_bindable (first_word (lexemes_from source (at + 1))) ≡ true → first_word (lexemes_from source (at + 2)) ≡ Colon
    → SequenceFault source (at + 3) f → HeadFault source at f
domain_stops source at k (Syntax place) opens binds colons s = stops_in_domain source.fixities.now source.end place (lexemes source.text.now source.tokens.now) at k opens binds colons s
domain_stops source at k NoMemory opens binds colons s = tt
domain_stops source at k (Fixity place) opens binds colons s = absurd s
domain_stops source at k (BadDecl place) opens binds colons s = absurd s
domain_stops source at k (Nesting place) opens binds colons s = absurd s
domain_stops source at k (Unsupported name place) opens binds colons s = absurd s

pub group_stops : (source : Source) (from upto : ℕ) (row : Nodes) (f : SyntaxFault) → Row source.fixities.now (lexemes_from source from) row (lexemes_from source upto) → LParen ≡ first_word (lexemes_from source upto) → SequenceFault source (upto + 1) f → SequenceFault source from f
group_stops source from upto row (Syntax place) r opens s = stops_in_group source.fixities.now source.end place (lexemes source.text.now source.tokens.now) (lexemes_from source from) upto row r opens s
group_stops source from upto row NoMemory r opens s = tt
group_stops source from upto row (Fixity place) r opens s = absurd s
group_stops source from upto row (BadDecl place) r opens s = absurd s
group_stops source from upto row (Nesting place) r opens s = absurd s
group_stops source from upto row (Unsupported name place) r opens s = absurd s

pub head_stops : (source : Source) (from upto : ℕ) (row : Nodes) (f : SyntaxFault) → Row source.fixities.now (lexemes_from source from) row (lexemes_from source upto) → HeadFault source upto f → SequenceFault source from f
head_stops source from upto row (Syntax place) r s = stops_in_head source.fixities.now source.end place (lexemes source.text.now source.tokens.now) (lexemes_from source from) upto row r s
head_stops source from upto row NoMemory r s = tt
head_stops source from upto row (Fixity place) r s = absurd s
head_stops source from upto row (BadDecl place) r s = absurd s
head_stops source from upto row (Nesting place) r s = absurd s
head_stops source from upto row (Unsupported name place) r s = absurd s

pub body_stops : (source : Source) (from upto body : ℕ) (row : Nodes) (f : SyntaxFault) → Row source.fixities.now (lexemes_from source from) row (lexemes_from source upto) → HeadPort source.fixities.now (lexemes_from source upto) (lexemes_from source body)
    → SequenceFault source body f → SequenceFault source from f
body_stops source from upto body row (Syntax place) r h s = stops_in_body source.fixities.now source.end place (lexemes source.text.now source.tokens.now) (lexemes_from source from) upto body row r h s
body_stops source from upto body row NoMemory r h s = tt
body_stops source from upto body row (Fixity place) r h s = absurd s
body_stops source from upto body row (BadDecl place) r h s = absurd s
body_stops source from upto body row (Nesting place) r h s = absurd s
body_stops source from upto body row (Unsupported name place) r h s = absurd s

pub is_syntax : (P : SyntaxFault → Type 0) (f : SyntaxFault) (place : Place) → f ≡ Syntax place → P (Syntax place) → P f
is_syntax P f place e p = subst P (sym e) p
