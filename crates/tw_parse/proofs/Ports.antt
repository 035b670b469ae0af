-- What a sequence takes of the tokens: it takes the same whatever stands behind it.
use Rattle.std.proofs.Common.{◌≡◌, ℕ, List, [], ◌∷◌, ◌++◌, Bool, true, false, Option, None, Some, refl, sym, ap, subst, ◌∙◌, append_assoc}
use Rattle.tw_lexer.specs.declared.place.Place.{Place}
use Rattle.tw_parse.specs.Outlines.{Table, operator_of, Outline, outline, Nodes, none, more, Node, group, binding, typed_binding, Begins, a_sign, a_name, a_hole, a_type, a_group, Row, empty, one_more, Sequence, plain, with_binder, Binds, without_type, with_type}
use Rattle.tw_parse.specs.Spots.{Frame, paren, domain, Spot, inside, opened, named, go, go_named, next, steps}
use Rattle.tw_parse.specs.Words.{Lexeme, separator_of, binder_of, closer_of, is_bindable}
use Rattle.tw_parse.specs.declared.sign.Sign.{Sign}
use Rattle.tw_parse.specs.declared.sign.Sign.TheVariants.{Separator}
use Rattle.tw_parse.specs.declared.words.Binder.{Binder}
use Rattle.tw_parse.specs.declared.words.Binder.TheVariants.{Pi, Lambda}
use Rattle.tw_parse.specs.declared.words.Word.{Word}
use Rattle.tw_parse.specs.declared.words.Word.TheVariants.{Name, Forward, Backward, Underscore, Star, Equals, Keyword, Colon, Dot, LParen, RParen, LBrace, RBrace, LBracket, RBracket, End}

pub steps_append : (p : Option (Spot × List Frame)) (xs ys : List Lexeme) → steps p (xs ++ ys) ≡ steps (steps p xs) ys
steps_append p [] ys = refl
steps_append None (x ∷ xs) ys = sym (steps_none ys)
  where
    steps_none : (ys : List Lexeme) → steps None ys ≡ None
    steps_none [] = refl
    steps_none (y ∷ ys) = refl
steps_append (Some p) (x ∷ xs) ys = steps_append (next p.0 p.1 x.word) xs ys

pub on : (p q : Option (Spot × List Frame)) (xs ys : List Lexeme) → steps p xs ≡ q → steps p (xs ++ ys) ≡ steps q ys
on p q xs ys e = steps_append p xs ys ∙ ap (λ r. steps r ys) e

-- the nodes of a row, taken from the tokens before `rest`
pub record BeginsPort (table : Table) (tokens rest : List Lexeme) (n : Node) : Type 0 where
  pub front : List Lexeme
  pub split : tokens ≡ front ++ rest
  pub anew : (v : List Lexeme) → Begins table (front ++ v) n v
  pub goes : (b : Bool) (frames : List Frame) → steps (Some (inside b, frames)) front ≡ Some (inside true, frames)

abbrev pub has : Nodes → Bool → Bool
has none b = b
has (more row n) b = true

pub record RowPort (table : Table) (tokens rest : List Lexeme) (row : Nodes) : Type 0 where
  pub front : List Lexeme
  pub split : tokens ≡ front ++ rest
  pub anew : (v : List Lexeme) → Row table (front ++ v) row v
  pub goes : (b : Bool) (frames : List Frame) → steps (Some (inside b, frames)) front ≡ Some (inside (has row b), frames)

pub record BindsPort (table : Table) (tokens rest : List Lexeme) (n : Node) : Type 0 where
  pub front : List Lexeme
  pub split : tokens ≡ front ++ rest
  pub anew : (v : List Lexeme) → Binds table (front ++ v) n v
  pub goes : (b : Bool) (frames : List Frame) → steps (Some (inside b, frames)) front ≡ Some (inside true, frames)

pub record SequencePort (table : Table) (tokens rest : List Lexeme) (O : Outline) : Type 0 where
  pub front : List Lexeme
  pub split : tokens ≡ front ++ rest
  pub anew : (v : List Lexeme) → Sequence table (front ++ v) O v
  pub goes : (frames : List Frame) → steps (Some (inside false, frames)) front ≡ Some (inside true, frames)

abbrev sign_by : Table → Word → List ℕ → Place → Option Sign
sign_by table w x at = elim (separator_of w) [ Some by ↦ Some (Separator by) | None ↦ operator_of table w x at ]

sign_goes : (table : Table) (w : Word) (x : List ℕ) (at : Place) (s : Sign) (b : Bool) (frames : List Frame) → sign_by table w x at ≡ Some s → go b frames w ≡ Some (inside true, frames)
sign_goes table Name x at s b frames e = refl
sign_goes table Forward x at s b frames e = refl
sign_goes table Backward x at s b frames e = refl
sign_goes table Colon x at s b frames e = refl
sign_goes table Underscore x at s b frames e = cc
sign_goes table Star x at s b frames e = cc
sign_goes table Equals x at s b frames e = cc
sign_goes table Keyword x at s b frames e = cc
sign_goes table Dot x at s b frames e = cc
sign_goes table LParen x at s b frames e = cc
sign_goes table RParen x at s b frames e = cc
sign_goes table LBrace x at s b frames e = cc
sign_goes table RBrace x at s b frames e = cc
sign_goes table LBracket x at s b frames e = cc
sign_goes table RBracket x at s b frames e = cc
sign_goes table End x at s b frames e = cc

pub opener_goes : (w : Word) (k : Binder) (b : Bool) (frames : List Frame) → binder_of w ≡ Some k → go b frames w ≡ Some (opened k, frames)
opener_goes LBrace k b frames e = let same : Pi ≡ k = cc in ap (λ j. Some (opened j, frames)) same
opener_goes LBracket k b frames e = let same : Lambda ≡ k = cc in ap (λ j. Some (opened j, frames)) same
opener_goes Name k b frames e = cc
opener_goes Forward k b frames e = cc
opener_goes Backward k b frames e = cc
opener_goes Colon k b frames e = cc
opener_goes Underscore k b frames e = cc
opener_goes Star k b frames e = cc
opener_goes Equals k b frames e = cc
opener_goes Keyword k b frames e = cc
opener_goes Dot k b frames e = cc
opener_goes LParen k b frames e = cc
opener_goes RParen k b frames e = cc
opener_goes RBrace k b frames e = cc
opener_goes RBracket k b frames e = cc
opener_goes End k b frames e = cc

pub bindable_goes : (w : Word) (k : Binder) (frames : List Frame) → is_bindable w ≡ true → next (opened k) frames w ≡ Some (named k, frames)
bindable_goes w k frames e = rw e refl

pub closer_goes : (w : Word) (k : Binder) (frames : List Frame) → w ≡ closer_of k → go_named k frames w ≡ Some (inside false, frames)
closer_goes w Pi frames e = ap (go_named Pi frames) e
closer_goes w Lambda frames e = ap (go_named Lambda frames) e

pub colon_goes : (w : Word) (k : Binder) (frames : List Frame) → w ≡ Colon → go_named k frames w ≡ Some (inside false, domain k ∷ frames)
colon_goes w Pi frames e = ap (go_named Pi frames) e
colon_goes w Lambda frames e = ap (go_named Lambda frames) e

pub domain_goes : (w : Word) (k : Binder) (frames : List Frame) → w ≡ closer_of k → go true (domain k ∷ frames) w ≡ Some (inside false, frames)
domain_goes w Pi frames e = ap (go true (domain Pi ∷ frames)) e
domain_goes w Lambda frames e = ap (go true (domain Lambda ∷ frames)) e

abbrev spot_flag : Spot → Bool
spot_flag (inside b) = b
spot_flag _ = false

abbrev flag : Option (Spot × List Frame) → Bool
flag None = false
flag (Some p) = spot_flag p.0

unlike : steps (Some (inside false, [])) [] ≡ Some (inside true, []) → ⊥
unlike e = let clash : false ≡ true = ap flag e in cc

-- a front that takes an atom has a token
sequence_front : (table : Table) (x : Lexeme) (tokens rest front : List Lexeme) → x ∷ tokens ≡ front ++ rest → ((frames : List Frame) → steps (Some (inside false, frames)) front ≡ Some (inside true, frames)) → (more : List Lexeme) × (front ≡ x ∷ more)
sequence_front table x tokens rest [] e goes = absurd (unlike (goes []))
sequence_front table x tokens rest (y ∷ tail) e goes = let same : x ≡ y = cc in (tail, ap (λ z. z ∷ tail) (sym same))

group_port : (table : Table) (open_paren close_paren : Lexeme) (tokens rest : List Lexeme) (O : Outline) → open_paren.word ≡ LParen → SequencePort table tokens (close_paren ∷ rest) O → close_paren.word ≡ RParen → BeginsPort table (open_paren ∷ tokens) rest (group O)
group_port table open_paren close_paren tokens rest O e s f =
    record {
      front = open_paren ∷ (s.front ++ close_paren ∷ []);
      split = ap (λ ts. open_paren ∷ ts) (s.split ∙ sym (append_assoc s.front (close_paren ∷ []) rest));
      anew = λ v. let P : List Lexeme → Type 0 = λ ts. Sequence table ts O (close_paren ∷ v) in a_group e (subst P (sym (append_assoc s.front (close_paren ∷ []) v)) (s.anew (close_paren ∷ v))) f;
      goes = λ b frames. ap (λ w. steps (go b frames w) (s.front ++ close_paren ∷ [])) e ∙ on (Some (inside false, paren ∷ frames)) (Some (inside true, paren ∷ frames)) s.front (close_paren ∷ []) (s.goes (paren ∷ frames)) ∙ ap (go true (paren ∷ frames)) f;
    }

row_port : (table : Table) (tokens mid rest : List Lexeme) (row : Nodes) (n : Node) → RowPort table tokens mid row → BeginsPort table mid rest n → RowPort table tokens rest (more row n)
row_port table tokens mid rest row n r b =
    record {
      front = r.front ++ b.front;
      split = r.split ∙ ap (λ ts. r.front ++ ts) b.split ∙ sym (append_assoc r.front b.front rest);
      anew = λ v. let P : List Lexeme → Type 0 = λ ts. Row table ts row (b.front ++ v) in one_more (subst P (sym (append_assoc r.front b.front v)) (r.anew (b.front ++ v))) (b.anew v);
      goes = λ c frames. on (Some (inside c, frames)) (Some (inside (has row c), frames)) r.front b.front (r.goes c frames) ∙ b.goes (has row c) frames;
    }

plain_port : (table : Table) (x : Lexeme) (tokens rest : List Lexeme) (row : Nodes) (n : Node) → RowPort table (x ∷ tokens) rest (more row n) → SequencePort table (x ∷ tokens) rest (outline x.at (more row n))
plain_port table x tokens rest row n r =
    let first = sequence_front table x tokens rest r.front r.split (r.goes false) in
    record {
      front = r.front;
      split = r.split;
      anew = λ v.
          let P : List Lexeme → Type 0 = λ ts. Row table (ts ++ v) (more row n) v in
          let Q : List Lexeme → Type 0 = λ ts. Sequence table (ts ++ v) (outline x.at (more row n)) v in
          subst Q (sym first.1) (plain (subst P first.1 (r.anew v)));
      goes = r.goes false;
    }

binder_port : (table : Table) (x : Lexeme) (tokens mid rest : List Lexeme) (row : Nodes) (n : Node) → RowPort table (x ∷ tokens) mid row → BindsPort table mid rest n → SequencePort table (x ∷ tokens) rest (outline x.at (more row n))
binder_port table x tokens mid rest row n r b =
    let all : List Lexeme = r.front ++ b.front in
    let split : x ∷ tokens ≡ all ++ rest = r.split ∙ ap (λ ts. r.front ++ ts) b.split ∙ sym (append_assoc r.front b.front rest) in
    let goes = λ (frames : List Frame). on (Some (inside false, frames)) (Some (inside (has row false), frames)) r.front b.front (r.goes false frames) ∙ b.goes (has row false) frames in
    let first = sequence_front table x tokens rest all split goes in
    record {
      front = all;
      split = split;
      anew = λ v.
          let P : List Lexeme → Type 0 = λ ts. Row table ts row (b.front ++ v) in
          let Q : List Lexeme → Type 0 = λ ts. Sequence table (ts ++ v) (outline x.at (more row n)) v in
          let S : List Lexeme → Type 0 = λ ts. Row table (ts ++ v) row (b.front ++ v) in
          subst Q (sym first.1) (with_binder (subst S first.1 (subst P (sym (append_assoc r.front b.front v)) (r.anew (b.front ++ v)))) (b.anew v));
      goes = goes;
    }

alone_port : (table : Table) (k : Binder) (o x c : Lexeme) (tokens rest : List Lexeme) (O : Outline) → binder_of o.word ≡ Some k → is_bindable x.word ≡ true → c.word ≡ closer_of k → SequencePort table tokens rest O
    → BindsPort table (o ∷ x ∷ c ∷ tokens) rest (binding k x.bytes o.at O)
alone_port table k o x c tokens rest O e f g s =
    record {
      front = o ∷ x ∷ c ∷ s.front;
      split = ap (λ ts. o ∷ x ∷ c ∷ ts) s.split;
      anew = λ v. without_type e f g (s.anew v);
      goes = λ b frames. ap (λ p. steps p (x ∷ c ∷ s.front)) (opener_goes o.word k b frames e) ∙ ap (λ p. steps p (c ∷ s.front)) (bindable_goes x.word k frames f) ∙ ap (λ p. steps p s.front) (closer_goes c.word k frames g) ∙ s.goes frames;
    }

typed_port : (table : Table) (k : Binder) (o x l c : Lexeme) (tokens mid rest : List Lexeme) (D O : Outline) → binder_of o.word ≡ Some k → is_bindable x.word ≡ true → l.word ≡ Colon → SequencePort table tokens (c ∷ mid) D → c.word ≡ closer_of k
    → SequencePort table mid rest O → BindsPort table (o ∷ x ∷ l ∷ tokens) rest (typed_binding k x.bytes o.at D O)
typed_port table k o x l c tokens mid rest D O e f g d h s =
    record {
      front = o ∷ x ∷ l ∷ (d.front ++ c ∷ s.front);
      split = ap (λ ts. o ∷ x ∷ l ∷ ts) (d.split ∙ ap (λ ts. d.front ++ c ∷ ts) s.split ∙ sym (append_assoc d.front (c ∷ s.front) rest));
      anew = λ v.
          let P : List Lexeme → Type 0 = λ ts. Sequence table ts D (c ∷ (s.front ++ v)) in
          with_type e f g (subst P (sym (append_assoc d.front (c ∷ s.front) v)) (d.anew (c ∷ (s.front ++ v)))) h (s.anew v);
      goes = λ b frames.
          ap (λ p. steps p (x ∷ l ∷ (d.front ++ c ∷ s.front))) (opener_goes o.word k b frames e) ∙ ap (λ p. steps p (l ∷ (d.front ++ c ∷ s.front))) (bindable_goes x.word k frames f)
          ∙ ap (λ p. steps p (d.front ++ c ∷ s.front)) (colon_goes l.word k frames g)
          ∙ on (Some (inside false, domain k ∷ frames)) (Some (inside true, domain k ∷ frames)) d.front (c ∷ s.front) (d.goes (domain k ∷ frames))
          ∙ ap (λ p. steps p s.front) (domain_goes c.word k frames h) ∙ s.goes frames;
    }

mutual
  pub port_begins : (table : Table) {tokens rest : List Lexeme} {n : Node} → Begins table tokens n rest → BeginsPort table tokens rest n
  port_begins table (a_sign {x = x} {rest = rest} {s = s} e) =
      record { front = x ∷ []; split = refl; anew = λ v. a_sign e; goes = λ b frames. sign_goes table x.word x.bytes x.at s b frames e }
  port_begins table (a_name {x = x} {rest = rest} e f) = record { front = x ∷ []; split = refl; anew = λ v. a_name e f; goes = λ b frames. ap (go b frames) e }
  port_begins table (a_hole {x = x} {rest = rest} e) = record { front = x ∷ []; split = refl; anew = λ v. a_hole e; goes = λ b frames. ap (go b frames) e }
  port_begins table (a_type {x = x} {rest = rest} e) = record { front = x ∷ []; split = refl; anew = λ v. a_type e; goes = λ b frames. ap (go b frames) e }
  port_begins table (a_group {open_paren = open_paren} {close_paren = close_paren} {tokens = tokens} {rest = rest} {O = O} e s f) =
      group_port table open_paren close_paren tokens rest O e (port_sequence table s) f

  pub port_row : (table : Table) {tokens rest : List Lexeme} {row : Nodes} → Row table tokens row rest → RowPort table tokens rest row
  port_row table (empty {tokens = tokens}) = record { front = []; split = refl; anew = λ v. empty; goes = λ b frames. refl }
  port_row table (one_more {tokens = tokens} {next = mid} {rest = rest} {row = row} {n = n} r b) = row_port table tokens mid rest row n (port_row table r) (port_begins table b)

  pub port_sequence : (table : Table) {tokens rest : List Lexeme} {O : Outline} → Sequence table tokens O rest → SequencePort table tokens rest O
  port_sequence table (plain {x = x} {tokens = tokens} {rest = rest} {row = row} {n = n} r) = plain_port table x tokens rest row n (port_row table r)
  port_sequence table (with_binder {x = x} {tokens = tokens} {next = mid} {rest = rest} {row = row} {n = n} r b) = binder_port table x tokens mid rest row n (port_row table r) (port_binds table b)

  pub port_binds : (table : Table) {tokens rest : List Lexeme} {n : Node} → Binds table tokens n rest → BindsPort table tokens rest n
  port_binds table (without_type {binder = k} {opener = o} {x = x} {closer = c} {tokens = tokens} {rest = rest} {O = O} e f g s) = alone_port table k o x c tokens rest O e f g (port_sequence table s)
  port_binds table (with_type {binder = k} {opener = o} {x = x} {colon = l} {closer = c} {tokens = tokens} {next = mid} {rest = rest} {D = D} {O = O} e f g d h s) =
      typed_port table k o x l c tokens mid rest D O e f g (port_sequence table d) h (port_sequence table s)
