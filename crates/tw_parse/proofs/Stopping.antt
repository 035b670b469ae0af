-- A declaration stops at the first token that can't go on.
use Rattle.std.proofs.Common.{◌≡◌, ◌≢◌, ℕ, ◌+◌, List, [], ◌∷◌, ◌++◌, map, Bool, true, false, Option, None, Some, Ok, Err, IfErr, drop, refl, sym, ap, subst, ◌∙◌, ◌⊎◌, inl, inr, ⊎_elim, append_assoc}
use Rattle.tw_fixity.specs.declared.table.Fix.{Fix}
use Rattle.tw_lexer.specs.declared.place.Place.{Place}
use Rattle.tw_parse.specs.Failing.{ended, is_item, CanBegin, IsInTerm, IsPlain, HasSyntaxAt, StopsIn, IsDue, SequenceFault}
use Rattle.tw_parse.specs.Keywords.{form_of, fix_by}
use Rattle.tw_parse.specs.Outlines.{Table, Outline, Sequence, Head, a_definition, a_check, an_abbreviation, bytes_in, Shapes, declares, defines, defines_typed, prefers, prefers_both, gives}
use Rattle.tw_parse.specs.Spots.{Frame, Spot, inside, opened, named, go, next, steps, IsWithin, Ending, either, by_equals, by_dot, State, start, free, abbreviation, behind, reading, done, begin, begin_keyword, name_next, behind_next, end_next, leave, lead, next_state, runs}
use Rattle.std.specs.declared.result.Result.{Result}
use Rattle.tw_parse.specs.Faults.{IsRead, GrammarFault, FaultStands, FaultOf}
use Rattle.tw_parse.specs.Sources.{lexemes_from}
use Rattle.tw_parse.specs.declared.decl.ExtDecl.{ExtDecl}
use Rattle.tw_parse.specs.declared.fault.SyntaxFault.{SyntaxFault}
use Rattle.tw_parse.specs.declared.fault.SyntaxFault.TheVariants.{Unsupported, Nesting, Syntax, Fixity, BadDecl, NoMemory}
use Rattle.tw_parse.specs.declared.source.Source.{Source}
use Rattle.tw_parse.specs.Syntax.{DeclarationOf, define}
use Rattle.tw_parse.specs.Words.{Lexeme, first_word, first_bytes, first_place}
use Rattle.tw_parse.specs.declared.words.Form.{Form}
use Rattle.tw_parse.specs.declared.words.Form.TheVariants as forms
use Rattle.tw_parse.specs.declared.words.Word.{Word}
use Rattle.tw_parse.specs.declared.words.Word.TheVariants.{Name, Forward, Backward, Underscore, Star, Equals, Keyword, Colon, Dot, LParen, RParen, LBrace, RBrace, LBracket, RBracket, End}
use Rattle.tw_parse.proofs.Building.{Token, a_token}
use Rattle.tw_parse.proofs.Failing.{a_word, at_end, ended_behind, hole_sequence}
use Rattle.tw_parse.proofs.Ports.{port_sequence}

pub runs_none : (xs : List Lexeme) → runs None xs ≡ None
runs_none [] = refl
runs_none (x ∷ xs) = refl

runs_append : (s : Option State) (xs ys : List Lexeme) → runs s (xs ++ ys) ≡ runs (runs s xs) ys
runs_append s [] ys = refl
runs_append None (x ∷ xs) ys = sym (runs_none ys)
runs_append (Some s) (x ∷ xs) ys = runs_append (next_state s x) xs ys

pub along : (s t : Option State) (xs ys : List Lexeme) → runs s xs ≡ t → runs s (xs ++ ys) ≡ runs t ys
along s t xs ys e = runs_append s xs ys ∙ ap (λ r. runs r ys) e

abbrev in_reading : Ending → Option (Spot × List Frame) → Option State
in_reading e None = None
in_reading e (Some p) = Some (reading e p.0 p.1)

none_stays : (xs : List Lexeme) → steps None xs ≡ None
none_stays [] = refl
none_stays (y ∷ ys) = refl

-- one step of a sequence in a declaration
by_next : (e : Ending) (spot : Spot) (frames : List Frame) (x : Lexeme) (xs : List Lexeme) (p : Spot × List Frame) (o : Option (Spot × List Frame)) → next spot frames x.word ≡ o → steps (Some (spot, frames)) (x ∷ xs) ≡ Some p
    → ((q : Spot × List Frame) → steps (Some q) xs ≡ Some p → runs (Some (reading e q.0 q.1)) xs ≡ Some (reading e p.0 p.1)) → runs (Some (reading e spot frames)) (x ∷ xs) ≡ Some (reading e p.0 p.1)
by_next e spot frames x xs p None f h again = let clash : None ≡ Some p = sym (none_stays xs) ∙ sym (ap (λ q. steps q xs) f) ∙ h in cc
by_next e spot frames x xs p (Some q) f h again = ap (λ o. runs (lead e spot frames x.word o) xs) f ∙ again q (sym (ap (λ r. steps r xs) f) ∙ h)

-- a sequence in a declaration
pub reads_on : (e : Ending) (spot : Spot) (frames : List Frame) (xs : List Lexeme) (p : Spot × List Frame) → steps (Some (spot, frames)) xs ≡ Some p → runs (Some (reading e spot frames)) xs ≡ Some (reading e p.0 p.1)
reads_on e spot frames [] p h = ap (in_reading e) h
reads_on e spot frames (x ∷ xs) p h = by_next e spot frames x xs p (next spot frames x.word) refl h (λ q k. reads_on e q.0 q.1 xs p k)

-- behind a whole sequence
at_terminator : (e : Ending) (w : Word) (s : State) → go true [] w ≡ None → end_next e w ≡ Some s → lead e (inside true) [] w (go true [] w) ≡ Some s
at_terminator e w s h k = ap (lead e (inside true) [] w) h ∙ k

record HeadPort (tokens rest : List Lexeme) (name : Option (List ℕ)) (b : Bool) : Type 0 where
  pub front : List Lexeme
  pub split : tokens ≡ front ++ rest
  pub anew : (v : List Lexeme) → Head (front ++ v) name b v
  pub ending : Ending
  pub goes : runs (Some start) front ≡ Some (behind ending)
  pub equals : end_next ending Equals ≡ Some (reading by_dot (inside false) [])
  pub only : b ≡ true → ending ≡ by_equals
  pub nameless : name ≡ None → ending ≡ by_equals

head_port : {tokens rest : List Lexeme} {name : Option (List ℕ)} {b : Bool} → Head tokens name b rest → HeadPort tokens rest name b
head_port (a_definition {x = x} w) =
    record { front = x ∷ []; split = refl; anew = λ v. a_definition w; ending = either; goes = ap (begin x) w; equals = refl; only = λ e. cc; nameless = λ e. cc }
head_port (a_check {x = x} w) = record { front = x ∷ []; split = refl; anew = λ v. a_check w; ending = by_equals; goes = ap (begin x) w; equals = refl; only = λ e. refl; nameless = λ e. refl }
head_port (an_abbreviation {keyword = k} {x = x} w f v) =
    record {
      front = k ∷ x ∷ [];
      split = refl;
      anew = λ u. an_abbreviation w f v;
      ending = by_equals;
      goes = ap (λ o. runs o (x ∷ [])) (ap (begin k) w ∙ ap begin_keyword f) ∙ ap name_next v;
      equals = refl;
      only = λ e. refl;
      nameless = λ e. cc;
    }

runs_free : (xs : List Lexeme) → runs (Some free) xs ≡ Some free
runs_free [] = refl
runs_free (x ∷ xs) = runs_free xs

fixes_are_free : (o : Option Form) (words : List (List ℕ)) (fix : Fix) → fix_by o words ≡ Some fix → begin_keyword o ≡ Some free
fixes_are_free None words fix e = refl
fixes_are_free (Some forms.Abbreviation) words fix e = cc
fixes_are_free (Some forms.Preference) words fix e = refl
fixes_are_free (Some forms.Infix) words fix e = refl
fixes_are_free (Some forms.Prefix) words fix e = refl
fixes_are_free (Some forms.Postfix) words fix e = refl

-- where a whole declaration may end
abbrev IsFinal : State → Type 0
IsFinal done = Unit {0}
IsFinal free = Unit {0}
IsFinal _ = ⊥

abbrev Alive : List Lexeme → Type 0
Alive tokens = (s : State) × (runs (Some start) tokens ≡ Some s) × IsFinal s

-- from a sequence to the token behind it
pub to_next : (e : Ending) (front : List Lexeme) (x : Lexeme) (more : List Lexeme) (w : Word) (s : State) → ((frames : List Frame) → steps (Some (inside false, frames)) front ≡ Some (inside true, frames)) → x.word ≡ w → go true [] w ≡ None → end_next e w ≡ Some s
    → runs (Some (reading e (inside false) [])) (front ++ x ∷ more) ≡ runs (Some s) more
to_next e front x more w s goes is none ends =
    along (Some (reading e (inside false) [])) (Some (reading e (inside true) [])) front (x ∷ more) (reads_on e (inside false) [] front (inside true, []) (goes []))
    ∙ ap (λ v. runs (lead e (inside true) [] v (go true [] v)) more) is ∙ ap (λ o. runs o more) (at_terminator e w s none ends)

alive : (table : Table) {tokens : List Lexeme} {D : DeclarationOf Outline} → Shapes table tokens D → Alive tokens
alive table (declares {x = x} {colon = c} {dot = d} {tokens = tokens} {U = U} w l s f) =
    let i = port_sequence table s in
    (done, ap (λ o. runs o (c ∷ tokens)) (ap (begin x) w) ∙ ap (λ v. runs (behind_next either v) tokens) l ∙ ap (runs (Some (reading either (inside false) []))) i.split ∙ to_next either i.front d [] Dot done i.goes f refl refl, tt)
alive table (defines {equals = q} {dot = d} {all = all} {tokens = tokens} h l s f) =
    let p = head_port h in
    let i = port_sequence table s in (
      done,
      ap (runs (Some start)) p.split ∙ along (Some start) (Some (behind p.ending)) p.front (q ∷ tokens) p.goes ∙ ap (λ v. runs (behind_next p.ending v) tokens) l ∙ ap (runs (Some (reading by_dot (inside false) []))) i.split
          ∙ to_next by_dot i.front d [] Dot done i.goes f refl refl,
      tt,
    )
alive table (defines_typed {colon = c} {equals = q} {dot = d} {all = all} {tokens = tokens} {next = more} h l s g t f) =
    let p = head_port h in
    let i = port_sequence table s in
    let j = port_sequence table t in (
      done,
      ap (runs (Some start)) p.split ∙ along (Some start) (Some (behind p.ending)) p.front (c ∷ tokens) p.goes ∙ ap (λ v. runs (behind_next p.ending v) tokens) l ∙ ap (runs (Some (reading p.ending (inside false) []))) i.split
          ∙ to_next p.ending i.front q more Equals (reading by_dot (inside false) []) i.goes g refl p.equals ∙ ap (runs (Some (reading by_dot (inside false) []))) j.split ∙ to_next by_dot j.front d [] Dot done j.goes f refl refl,
      tt,
    )
alive table (prefers {keyword = k} {a = a} {x = x} {dot = d} w f g h i j) = (free, ap (λ o. runs o (a ∷ x ∷ d ∷ [])) (ap (begin k) w ∙ ap begin_keyword f), tt)
alive table (prefers_both {keyword = k} {a = a} {x = x} {y = y} {dot = d} w f g h i j l m) = (free, ap (λ o. runs o (a ∷ x ∷ y ∷ d ∷ [])) (ap (begin k) w ∙ ap begin_keyword f), tt)
alive table (gives {keyword = k} {tokens = tokens} words xs dot {fix = fix} w e f n h) =
    (free, ap (λ o. runs o tokens) (ap (begin k) w ∙ fixes_are_free (form_of k.bytes) (map bytes_in words) fix f) ∙ runs_free tokens, tt)

abbrev OfState : Option State → Type 0
OfState None = ⊥
OfState (Some s) = IsFinal s

-- where the reader stands within a declaration, the tokens so far are none
not_whole : (table : Table) (before : List Lexeme) (s : State) → runs (Some start) before ≡ Some s → (IsFinal s → ⊥) → (D : DeclarationOf Outline) → Shapes table before D → ⊥
not_whole table before s goes within D shape =
    let a = alive table shape in
    let P : Option State → Type 0 = λ o. OfState o in
    within (subst P (sym a.1 ∙ goes) a.2)

-- where the reader can't go on, no declaration can
no_declaration : (table : Table) (before : List Lexeme) (x : Lexeme) (s : State) → runs (Some start) before ≡ Some s → next_state s x ≡ None → CanBegin table (before ++ x ∷ []) → ⊥
no_declaration table before x s goes dies c =
    let a = alive table c.2 in
    let dead : runs (Some start) ((before ++ x ∷ []) ++ c.0) ≡ None =
    ap (runs (Some start)) (append_assoc before (x ∷ []) c.0) ∙ along (Some start) (Some s) before (x ∷ c.0) goes ∙ ap (λ o. runs o c.0) dies ∙ runs_none c.0 in
    let clash : None ≡ Some a.0 = sym dead ∙ a.1 in
    cc

-- the reader stands within a declaration and can't go on, and a wrong token there is a fault of syntax
syntax_at : (table : Table) (end place : Place) (tokens before : List Lexeme) (x : Lexeme) (more : List Lexeme) (s : State) → ended end tokens ≡ before ++ x ∷ more → place ≡ x.at → CanBegin table before
    → runs (Some start) before ≡ Some s → next_state s x ≡ None → (IsFinal s → ⊥) → IsPlain tokens ⊎ IsInTerm before → HasSyntaxAt table end tokens place
syntax_at table end place tokens before x more s is at can goes dies within told = ((before, x, more, is, at, can, no_declaration table before x s goes dies, not_whole table before s goes within), told)

pub leaves_none : (e : Ending) (spot : Spot) (frames : List Frame) (w : Word) → IsWithin spot frames → leave e spot (frames ++ []) w ≡ None
leaves_none e (inside true) [] w h = absurd h
leaves_none e (inside true) (f ∷ frames) w h = refl
leaves_none e (inside false) frames w h = refl
leaves_none e (opened k) frames w h = refl
leaves_none e (named k) frames w h = refl

-- a sequence that is due stops
pub stops_reading : (table : Table) (end place : Place) (tokens rest : List Lexeme) (e : Ending) → IsDue table tokens rest e → StopsIn table end rest place → HasSyntaxAt table end tokens place
stops_reading table end place tokens rest e due s =
    let d = s.6 in
    let begun = due.can (s.0 ++ s.5.0) (λ v. let o = s.5.1 v in let P : List Lexeme → Type 0 = λ ts. Sequence table ts o.0 v in (o.0, subst P (sym (append_assoc s.0 s.5.0 v)) o.1)) in
    let P : List Lexeme → Type 0 = λ ts. Shapes table ts begun.1 in
    let goes : runs (Some start) (due.front ++ s.0) ≡ Some (reading e d.0 (d.1 ++ [])) =
    along (Some start) (Some (reading e (inside false) [])) due.front s.0 due.goes ∙ reads_on e (inside false) [] s.0 (d.0, d.1 ++ []) (d.2 []) in
    syntax_at table end place tokens (due.front ++ s.0) s.1 s.2 (reading e d.0 (d.1 ++ []))
    (ended_behind end tokens due.front rest due.split ∙ ap (λ ts. due.front ++ ts) s.3 ∙ sym (append_assoc due.front s.0 (s.1 ∷ s.2)))
    s.4
    (s.5.0 ++ begun.0, begun.1, subst P (ap (λ ts. ts ++ begun.0) (sym (append_assoc due.front s.0 s.5.0)) ∙ append_assoc (due.front ++ s.0) s.5.0 begun.0) begun.2)
    goes
    (ap (lead e d.0 (d.1 ++ []) s.1.word) (d.3 []) ∙ leaves_none e d.0 d.1 s.1.word d.4)
    (λ h. h)
    (inr (e, d.0, d.1 ++ [], goes))

pub no_go : (w : Word) → is_item w ≡ false → go true [] w ≡ None
no_go Name e = cc
no_go Forward e = cc
no_go Backward e = cc
no_go Underscore e = cc
no_go Star e = cc
no_go Equals e = refl
no_go Keyword e = refl
no_go Colon e = cc
no_go Dot e = refl
no_go LParen e = cc
no_go RParen e = refl
no_go LBrace e = cc
no_go RBrace e = refl
no_go LBracket e = cc
no_go RBracket e = refl
no_go End e = refl

-- a wrong token stands behind a sequence that was due
pub stops_behind : (table : Table) (end place : Place) (tokens rest left : List Lexeme) (e : Ending) (O : Outline) → IsDue table tokens rest e → Sequence table rest O left → is_item (first_word left) ≡ false → end_next e (first_word left) ≡ None
    → place ≡ first_place end left → HasSyntaxAt table end tokens place
stops_behind table end place tokens rest left e O due s isnt wrong is =
    let i = port_sequence table s in
    let y = at_end end left in
    let goes : runs (Some start) (due.front ++ i.front) ≡ Some (reading e (inside true) []) =
    along (Some start) (Some (reading e (inside false) [])) due.front i.front due.goes ∙ reads_on e (inside false) [] i.front (inside true, []) (i.goes []) in
    syntax_at table end place tokens (due.front ++ i.front) y.0 y.1 (reading e (inside true) [])
    (ended_behind end tokens due.front rest due.split ∙ ap (λ ts. due.front ++ ts) (ended_behind end rest i.front left i.split ∙ ap (λ ts. i.front ++ ts) y.2) ∙ sym (append_assoc due.front i.front (y.0 ∷ y.1)))
    (is ∙ y.3)
    (due.can i.front (λ v. (O, i.anew v)))
    goes
    (at_none e y.0.word (ap is_item y.4 ∙ isnt) (ap (end_next e) y.4 ∙ wrong))
    (λ h. h)
    (inr (e, inside true, [], goes))
  where
    at_none : (e : Ending) (w : Word) → is_item w ≡ false → end_next e w ≡ None → lead e (inside true) [] w (go true [] w) ≡ None
    at_none e w isnt wrong = ap (lead e (inside true) [] w) (no_go w isnt) ∙ wrong

-- Where a sequence is due

equals_dot : (table : Table) (end : Place) (m : List Lexeme) (front : List Lexeme) (name : Option (List ℕ)) (b : Bool) (q : Lexeme) → ((v : List Lexeme) → Head (front ++ v) name b v) → q.word ≡ Equals
    → ((v : List Lexeme) → (O : Outline) × Sequence table (m ++ v) O v) → CanBegin table ((front ++ q ∷ []) ++ m)
equals_dot table end m front name b q head is s =
    let dot : Lexeme = a_word end Dot in
    let o = s (dot ∷ []) in
    let P : List Lexeme → Type 0 = λ ts. Shapes table ts (define name None o.0 b) in
    let all : front ++ (q ∷ (m ++ dot ∷ [])) ≡ ((front ++ q ∷ []) ++ m) ++ dot ∷ [] = sym (append_assoc (front ++ q ∷ []) m (dot ∷ []) ∙ append_assoc front (q ∷ []) (m ++ dot ∷ [])) in
    (dot ∷ [], define name None o.0 b, subst P all (defines (head (q ∷ (m ++ dot ∷ []))) is o.1 refl))

pub due_equals : (table : Table) (end : Place) (xs tokens : List Lexeme) (k j : ℕ) (name : Option (List ℕ)) (b : Bool) → j ≡ k + 1 → Head tokens name b (drop k xs) → first_word (drop k xs) ≡ Equals → IsDue table tokens (drop j xs) by_dot
due_equals table end xs tokens k j name b step h is =
    let q : Token xs k j Equals = a_token xs k j Equals step (sym is) (λ e. cc) in
    let p = head_port h in
    record {
      front = p.front ++ q.0 ∷ [];
      split = p.split ∙ ap (λ ts. p.front ++ ts) q.1 ∙ sym (append_assoc p.front (q.0 ∷ []) (drop j xs));
      goes = along (Some start) (Some (behind p.ending)) p.front (q.0 ∷ []) p.goes ∙ ap (behind_next p.ending) q.2;
      can = λ m s. equals_dot table end m p.front name b q.0 p.anew q.2 s;
    }

colon_equals : (table : Table) (end : Place) (m front : List Lexeme) (name : Option (List ℕ)) (b : Bool) (c : Lexeme) → ((v : List Lexeme) → Head (front ++ v) name b v) → c.word ≡ Colon
    → ((v : List Lexeme) → (O : Outline) × Sequence table (m ++ v) O v) → CanBegin table ((front ++ c ∷ []) ++ m)
colon_equals table end m front name b c head is s =
    let dot : Lexeme = a_word end Dot in
    let q : Lexeme = a_word end Equals in
    let u : Lexeme = a_word end Underscore in
    let o = s (q ∷ u ∷ dot ∷ []) in
    let body = hole_sequence table end (dot ∷ []) in
    let P : List Lexeme → Type 0 = λ ts. Shapes table ts (define name (Some o.0) body.0 b) in
    let tail : List Lexeme = q ∷ u ∷ dot ∷ [] in
    let all : front ++ (c ∷ (m ++ tail)) ≡ ((front ++ c ∷ []) ++ m) ++ tail = sym (append_assoc (front ++ c ∷ []) m tail ∙ append_assoc front (c ∷ []) (m ++ tail)) in
    (tail, define name (Some o.0) body.0 b, subst P all (defines_typed (head (c ∷ (m ++ tail))) is o.1 refl body.1 refl))

-- the type of a declaration, with what may stand behind it
pub record TypeIsDue (table : Table) (tokens rest : List Lexeme) (name : Option (List ℕ)) (b : Bool) : Type 0 where
  pub ending : Ending
  pub due : IsDue table tokens rest ending
  pub equals : end_next ending Equals ≡ Some (reading by_dot (inside false) [])
  pub only : b ≡ true → ending ≡ by_equals
  pub nameless : name ≡ None → ending ≡ by_equals

pub due_colon : (table : Table) (end : Place) (xs tokens : List Lexeme) (k j : ℕ) (name : Option (List ℕ)) (b : Bool) → j ≡ k + 1 → Head tokens name b (drop k xs) → first_word (drop k xs) ≡ Colon → TypeIsDue table tokens (drop j xs) name b
due_colon table end xs tokens k j name b step h is =
    let c : Token xs k j Colon = a_token xs k j Colon step (sym is) (λ e. cc) in
    let p = head_port h in
    record {
      ending = p.ending;
      due = record {
        front = p.front ++ c.0 ∷ [];
        split = p.split ∙ ap (λ ts. p.front ++ ts) c.1 ∙ sym (append_assoc p.front (c.0 ∷ []) (drop j xs));
        goes = along (Some start) (Some (behind p.ending)) p.front (c.0 ∷ []) p.goes ∙ ap (behind_next p.ending) c.2;
        can = λ m s. colon_equals table end m p.front name b c.0 p.anew c.2 s;
      };
      equals = p.equals;
      only = p.only;
      nameless = p.nameless;
    }

-- the term behind a written type
pub due_type : (table : Table) (end : Place) (xs tokens : List Lexeme) (k j e f : ℕ) (name : Option (List ℕ)) (b : Bool) (U : Outline) → j ≡ k + 1 → f ≡ e + 1 → Head tokens name b (drop k xs) → first_word (drop k xs) ≡ Colon
    → Sequence table (drop j xs) U (drop e xs) → first_word (drop e xs) ≡ Equals → IsDue table tokens (drop f xs) by_dot
due_type table end xs tokens k j e f name b U step more h colons s is =
    let c : Token xs k j Colon = a_token xs k j Colon step (sym colons) (λ e. cc) in
    let q : Token xs e f Equals = a_token xs e f Equals more (sym is) (λ e. cc) in
    let p = head_port h in
    let i = port_sequence table s in
    let tail : List Lexeme = c.0 ∷ (i.front ++ q.0 ∷ []) in
    record {
      front = p.front ++ tail;
      split = p.split ∙ ap (λ ts. p.front ++ ts) (c.1 ∙ ap (λ ts. c.0 ∷ ts) (i.split ∙ ap (λ ts. i.front ++ ts) q.1 ∙ sym (append_assoc i.front (q.0 ∷ []) (drop f xs)))) ∙ sym (append_assoc p.front tail (drop f xs));
      goes = along (Some start) (Some (behind p.ending)) p.front tail p.goes ∙ ap (λ v. runs (behind_next p.ending v) (i.front ++ q.0 ∷ [])) c.2
          ∙ to_next p.ending i.front q.0 [] Equals (reading by_dot (inside false) []) i.goes q.2 refl p.equals;
      can = λ m s.
          let dot : Lexeme = a_word end Dot in
          let o = s (dot ∷ []) in
          let P : List Lexeme → Type 0 = λ ts. Shapes table ts (define name (Some U) o.0 b) in
          let Q : List Lexeme → Type 0 = λ ts. Shapes table (p.front ++ c.0 ∷ ts) (define name (Some U) o.0 b) in
          let all : p.front ++ (c.0 ∷ (i.front ++ (q.0 ∷ (m ++ dot ∷ [])))) ≡ ((p.front ++ tail) ++ m) ++ dot ∷ [] =
          ap (λ ts. p.front ++ c.0 ∷ ts) (sym (append_assoc i.front (q.0 ∷ []) (m ++ dot ∷ []))) ∙ sym (append_assoc (p.front ++ tail) m (dot ∷ []) ∙ append_assoc p.front tail (m ++ dot ∷ [])) in
          (dot ∷ [], define name (Some U) o.0 b, subst P all (defines_typed (p.anew (c.0 ∷ (i.front ++ (q.0 ∷ (m ++ dot ∷ []))))) c.2 (i.anew (q.0 ∷ (m ++ dot ∷ []))) q.2 o.1 refl));
    }

head_plain : {tokens rest : List Lexeme} {name : Option (List ℕ)} {b : Bool} → Head tokens name b rest → IsPlain tokens
head_plain (a_definition w) = λ k. cc
head_plain (a_check w) = λ k. cc
head_plain (an_abbreviation w f v) = λ k. f

-- neither `:` nor `=` stands behind the name
pub stops_at_sign : (table : Table) (end place : Place) (tokens rest : List Lexeme) (name : Option (List ℕ)) (b : Bool) → Head tokens name b rest → first_word rest ≢ Equals → first_word rest ≢ Colon → place ≡ first_place end rest → HasSyntaxAt table end tokens place
stops_at_sign table end place tokens rest name b h no_equals no_colon is =
    let p = head_port h in
    let y = at_end end rest in
    let q : Lexeme = a_word end Equals in
    let u : Lexeme = a_word end Underscore in
    let begun = equals_dot table end (u ∷ []) p.front name b q p.anew refl (hole_sequence table end) in
    let P : List Lexeme → Type 0 = λ ts. Shapes table ts begun.1 in
    syntax_at table end place tokens p.front y.0 y.1 (behind p.ending)
    (ended_behind end tokens p.front rest p.split ∙ ap (λ ts. p.front ++ ts) y.2)
    (is ∙ y.3)
    (q ∷ u ∷ begun.0, begun.1, subst P (append_assoc (p.front ++ q ∷ []) (u ∷ []) begun.0 ∙ append_assoc p.front (q ∷ []) (u ∷ begun.0)) begun.2)
    p.goes
    (no_behind p.ending y.0.word (λ e. no_equals (sym y.4 ∙ e)) (λ e. no_colon (sym y.4 ∙ e)))
    (λ h. h)
    (inl (head_plain h))
  where
    no_behind : (e : Ending) (w : Word) → w ≢ Equals → w ≢ Colon → behind_next e w ≡ None
    no_behind e Name n m = refl
    no_behind e Forward n m = refl
    no_behind e Backward n m = refl
    no_behind e Underscore n m = refl
    no_behind e Star n m = refl
    no_behind e Equals n m = absurd (n refl)
    no_behind e Keyword n m = refl
    no_behind e Colon n m = absurd (m refl)
    no_behind e Dot n m = refl
    no_behind e LParen n m = refl
    no_behind e RParen n m = refl
    no_behind e LBrace n m = refl
    no_behind e RBrace n m = refl
    no_behind e LBracket n m = refl
    no_behind e RBracket n m = refl
    no_behind e End n m = refl

-- no declaration begins so
pub stops_at_start : (table : Table) (end place : Place) (tokens : List Lexeme) → first_word tokens ≢ Name → first_word tokens ≢ Underscore → first_word tokens ≢ Keyword → place ≡ first_place end tokens → HasSyntaxAt table end tokens place
stops_at_start table end place tokens no_name no_hole no_keyword is =
    let y = at_end end tokens in
    let x : Lexeme = a_word end Name in
    let q : Lexeme = a_word end Equals in
    let u : Lexeme = a_word end Underscore in
    let dot : Lexeme = a_word end Dot in
    let body = hole_sequence table end (dot ∷ []) in
    syntax_at table end place tokens [] y.0 y.1 start
    y.2
    (is ∙ y.3)
    (x ∷ q ∷ u ∷ dot ∷ [], define (Some []) None body.0 false, defines (a_definition refl) refl body.1 refl)
    refl
    (no_begin y.0 y.0.word (λ e. no_name (sym y.4 ∙ e)) (λ e. no_hole (sym y.4 ∙ e)) (λ e. no_keyword (sym y.4 ∙ e)))
    (λ h. h)
    (inl (λ e. absurd (no_keyword e)))
  where
    no_begin : (x : Lexeme) (w : Word) → w ≢ Name → w ≢ Underscore → w ≢ Keyword → begin x w ≡ None
    no_begin x Name n m k = absurd (n refl)
    no_begin x Forward n m k = refl
    no_begin x Backward n m k = refl
    no_begin x Underscore n m k = absurd (m refl)
    no_begin x Star n m k = refl
    no_begin x Equals n m k = refl
    no_begin x Keyword n m k = absurd (k refl)
    no_begin x Colon n m k = refl
    no_begin x Dot n m k = refl
    no_begin x LParen n m k = refl
    no_begin x RParen n m k = refl
    no_begin x LBrace n m k = refl
    no_begin x RBrace n m k = refl
    no_begin x LBracket n m k = refl
    no_begin x RBracket n m k = refl
    no_begin x End n m k = refl

-- no name stands behind `%abbrev`
pub stops_at_name : (table : Table) (end place : Place) (tokens : List Lexeme) → first_word tokens ≡ Keyword → form_of (first_bytes tokens) ≡ Some forms.Abbreviation → first_word (drop 1 tokens) ≢ Name → place ≡ first_place end (drop 1 tokens) → HasSyntaxAt table end tokens place
stops_at_name table end place [] is form no_name at = cc
stops_at_name table end place (k ∷ tokens) is form no_name at =
    let y = at_end end tokens in
    let x : Lexeme = a_word end Name in
    let q : Lexeme = a_word end Equals in
    let u : Lexeme = a_word end Underscore in
    let dot : Lexeme = a_word end Dot in
    let body = hole_sequence table end (dot ∷ []) in
    syntax_at table end place (k ∷ tokens) (k ∷ []) y.0 y.1 abbreviation
    (ap (λ ts. k ∷ ts) y.2)
    (at ∙ y.3)
    (x ∷ q ∷ u ∷ dot ∷ [], define (Some []) None body.0 true, defines (an_abbreviation is form refl) refl body.1 refl)
    (ap (begin k) is ∙ ap begin_keyword form)
    (nameless y.0.word (λ e. no_name (sym y.4 ∙ e)))
    (λ h. h)
    (inl (λ _. form))
  where
    nameless : (w : Word) → w ≢ Name → name_next w ≡ None
    nameless Name n = absurd (n refl)
    nameless Forward n = refl
    nameless Backward n = refl
    nameless Underscore n = refl
    nameless Star n = refl
    nameless Equals n = refl
    nameless Keyword n = refl
    nameless Colon n = refl
    nameless Dot n = refl
    nameless LParen n = refl
    nameless RParen n = refl
    nameless LBrace n = refl
    nameless RBrace n = refl
    nameless LBracket n = refl
    nameless RBracket n = refl
    nameless End n = refl

-- behind another keyword stands no term, so no token is a fault of syntax
pub no_syntax : (table : Table) (end place : Place) (tokens : List Lexeme) → first_word tokens ≡ Keyword → form_of (first_bytes tokens) ≢ Some forms.Abbreviation → HasSyntaxAt table end tokens place → ⊥
no_syntax table end place tokens is other s = ⊎_elim (λ plain. other (plain is)) (λ within. no_term tokens s.0.0 s.0.1 s.0.2 s.0.3 is other within) s.1
  where
    begins_free : (o : Option Form) → o ≢ Some forms.Abbreviation → begin_keyword o ≡ Some free
    begins_free None n = refl
    begins_free (Some forms.Abbreviation) n = absurd (n refl)
    begins_free (Some forms.Preference) n = refl
    begins_free (Some forms.Infix) n = refl
    begins_free (Some forms.Prefix) n = refl
    begins_free (Some forms.Postfix) n = refl

    no_term : (tokens before : List Lexeme) (x : Lexeme) (more : List Lexeme) → ended end tokens ≡ before ++ x ∷ more → first_word tokens ≡ Keyword → form_of (first_bytes tokens) ≢ Some forms.Abbreviation → IsInTerm before → ⊥
    no_term [] before x more e is other within = cc
    no_term (t ∷ ts) [] x more e is other within = let same : Some start ≡ Some (reading within.0 within.1 within.2) = within.3 in cc
    no_term (t ∷ ts) (b ∷ bs) x more e is other within =
        let first : b ≡ t = cc in
        let stays : runs (Some start) (b ∷ bs) ≡ Some free = ap (λ (y : Lexeme). runs (begin y y.word) bs) first ∙ ap (λ w. runs (begin t w) bs) is ∙ ap (λ o. runs o bs) (begins_free (form_of t.bytes) other) ∙ runs_free bs in
        let same : Some free ≡ Some (reading within.0 within.1 within.2) = sym stays ∙ within.3 in
        cc

-- what may not stand behind a sequence
pub no_dot : (w : Word) → w ≢ Dot → end_next by_dot w ≡ None
no_dot Name n = refl
no_dot Forward n = refl
no_dot Backward n = refl
no_dot Underscore n = refl
no_dot Star n = refl
no_dot Equals n = refl
no_dot Keyword n = refl
no_dot Colon n = refl
no_dot Dot n = absurd (n refl)
no_dot LParen n = refl
no_dot RParen n = refl
no_dot LBrace n = refl
no_dot RBrace n = refl
no_dot LBracket n = refl
no_dot RBracket n = refl
no_dot End n = refl

pub no_equals : (w : Word) → w ≢ Equals → end_next by_equals w ≡ None
no_equals Name n = refl
no_equals Forward n = refl
no_equals Backward n = refl
no_equals Underscore n = refl
no_equals Star n = refl
no_equals Equals n = absurd (n refl)
no_equals Keyword n = refl
no_equals Colon n = refl
no_equals Dot n = refl
no_equals LParen n = refl
no_equals RParen n = refl
no_equals LBrace n = refl
no_equals RBrace n = refl
no_equals LBracket n = refl
no_equals RBracket n = refl
no_equals End n = refl

no_either : (w : Word) → w ≢ Dot → w ≢ Equals → end_next either w ≡ None
no_either Name n m = refl
no_either Forward n m = refl
no_either Backward n m = refl
no_either Underscore n m = refl
no_either Star n m = refl
no_either Equals n m = absurd (m refl)
no_either Keyword n m = refl
no_either Colon n m = refl
no_either Dot n m = absurd (n refl)
no_either LParen n m = refl
no_either RParen n m = refl
no_either LBrace n m = refl
no_either RBrace n m = refl
no_either LBracket n m = refl
no_either RBracket n m = refl
no_either End n m = refl

pub no_end : (e : Ending) (w : Word) → w ≢ Dot → w ≢ Equals → end_next e w ≡ None
no_end either w n m = no_either w n m
no_end by_equals w n m = no_equals w m
no_end by_dot w n m = no_dot w n

-- the exit of a call that was at fault
pub exits : {T : Type 0} (r : Result T SyntaxFault) (e f : SyntaxFault) (P : SyntaxFault → Type 0) → r ≡ Err e → e ≡ f → P f → IfErr r P
exits r e f P h k p =
    rw h (subst P (sym k) p)

-- the fault of a sequence that was due is one of the declaration
pub due_stops : (source : Source) (from : ℕ) (e : Ending) (f : SyntaxFault) → IsDue source.fixities.now (lexemes_from source 0) (lexemes_from source from) e → SequenceFault source from f → FaultOf source f
due_stops source from e (Syntax place) due s = stops_reading source.fixities.now source.end place (lexemes_from source 0) (lexemes_from source from) e due s
due_stops source from e NoMemory due s = tt
due_stops source from e (Fixity place) due s = absurd s
due_stops source from e (BadDecl place) due s = absurd s
due_stops source from e (Nesting place) due s = absurd s
due_stops source from e (Unsupported name place) due s = absurd s

-- a fault of the grammar stands where the earlier causes don't
pub stands : (table : Table) (end : Place) (tokens : List Lexeme) (r : Result ExtDecl SyntaxFault) → IsRead tokens → IfErr r (GrammarFault table end tokens) → IfErr r (FaultStands table end tokens)
stands table end tokens (Ok d) read h = tt
stands table end tokens (Err f) read h = by_fault f h
  where
    by_fault : (f : SyntaxFault) → GrammarFault table end tokens f → FaultStands table end tokens f
    by_fault (Syntax place) h = (read, h)
    by_fault (Fixity place) h = (read, h)
    by_fault (BadDecl place) h = (read, h)
    by_fault NoMemory h = tt
    by_fault (Nesting place) h = absurd h
    by_fault (Unsupported name place) h = absurd h
