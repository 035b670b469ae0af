-- A query stops at the first token that can't go on.
use Rattle.std.proofs.Common.{◌≡◌, ℕ, List, [], ◌∷◌, ◌++◌, drop, Bool, true, false, None, Some, if◌then◌else◌, Ok, Err, IfErr, refl, sym, ap, subst, ◌∙◌, append_assoc}
use Rattle.std.specs.declared.result.Result.{Result}
use Rattle.tw_lexer.specs.declared.place.Place.{Place}
use Rattle.tw_parse.specs.Failing.{ended, is_item, StopsIn, SequenceFault}
use Rattle.tw_parse.specs.Faults.{Ends}
use Rattle.tw_parse.specs.Outlines.{Table, Outline, Sequence}
use Rattle.tw_parse.specs.Queries.{is_operand, names_proof, has_proof, goal_tokens, Poses, CanAsk, AskingStopsAt, AskingFault, AskingFaultOf, IsAskable, QueryFaultStands}
use Rattle.tw_parse.specs.Sources.{lexemes_from}
use Rattle.tw_parse.specs.Spots.{inside, by_dot, State, reading, done, lead, go, next_state, runs}
use Rattle.tw_parse.specs.Words.{Lexeme, first_word, first_place}
use Rattle.tw_parse.specs.declared.fault.SyntaxFault.{SyntaxFault}
use Rattle.tw_parse.specs.declared.fault.SyntaxFault.TheVariants.{Unsupported, Nesting, Syntax, Fixity, BadDecl, NoMemory}
use Rattle.tw_parse.specs.declared.query.ExtQuery.{ExtQuery}
use Rattle.tw_parse.specs.declared.source.Source.{Source}
use Rattle.tw_parse.specs.declared.words.Word.{Word}
use Rattle.tw_parse.specs.declared.words.Word.TheVariants.{Name, Forward, Backward, Underscore, Star, Equals, Keyword, Colon, Dot, LParen, RParen, LBrace, RBrace, LBracket, RBracket, End}
use Rattle.tw_parse.proofs.Failing.{a_word, at_end, ended_behind, hole_sequence}
use Rattle.tw_parse.proofs.Ports.{port_sequence}
use Rattle.tw_parse.proofs.Stopping.{runs_none, along, reads_on, to_next, no_go, leaves_none, no_dot}

-- before a goal, and in it
abbrev ask : State
ask = reading by_dot (inside false) []

abbrev begun : State
begun = reading by_dot (inside true) []

ends_through : (table : Table) (tokens : List Lexeme) (O : Outline) → Ends table tokens O → runs (Some ask) tokens ≡ Some done
ends_through table tokens O e =
    let i = port_sequence table e.2 in
    ap (runs (Some ask)) i.split ∙ to_next by_dot i.front e.0 [] Dot done i.goes e.1 refl refl

-- The words in front

operand_and_colon : (v w : Word) → names_proof v w ≡ true → (is_operand v ≡ true) × (w ≡ Colon)
operand_and_colon v Name e = cc
operand_and_colon v Forward e = cc
operand_and_colon v Backward e = cc
operand_and_colon v Underscore e = cc
operand_and_colon v Star e = cc
operand_and_colon v Equals e = cc
operand_and_colon v Keyword e = cc
operand_and_colon v Colon e = (e, refl)
operand_and_colon v Dot e = cc
operand_and_colon v LParen e = cc
operand_and_colon v RParen e = cc
operand_and_colon v LBrace e = cc
operand_and_colon v RBrace e = cc
operand_and_colon v LBracket e = cc
operand_and_colon v RBracket e = cc
operand_and_colon v End e = cc

no_operand : (v w : Word) → is_operand v ≡ false → names_proof v w ≡ false
no_operand v Name e = refl
no_operand v Forward e = refl
no_operand v Backward e = refl
no_operand v Underscore e = refl
no_operand v Star e = refl
no_operand v Equals e = refl
no_operand v Keyword e = refl
no_operand v Colon e = e
no_operand v Dot e = refl
no_operand v LParen e = refl
no_operand v RParen e = refl
no_operand v LBrace e = refl
no_operand v RBrace e = refl
no_operand v LBracket e = refl
no_operand v RBracket e = refl
no_operand v End e = refl

operand_goes : (w : Word) → is_operand w ≡ true → lead by_dot (inside false) [] w (go false [] w) ≡ Some begun
operand_goes Name e = refl
operand_goes Forward e = refl
operand_goes Backward e = refl
operand_goes Underscore e = refl
operand_goes Star e = refl
operand_goes Equals e = cc
operand_goes Keyword e = cc
operand_goes Colon e = cc
operand_goes Dot e = cc
operand_goes LParen e = cc
operand_goes RParen e = cc
operand_goes LBrace e = cc
operand_goes RBrace e = cc
operand_goes LBracket e = cc
operand_goes RBracket e = cc
operand_goes End e = cc

not_done : (xs : List Lexeme) → runs None xs ≡ Some done → ⊥
not_done xs h = let clash : None ≡ Some done = sym (runs_none xs) ∙ h in cc

-- what a sequence begins with may stand in it
first_within : (w : Word) (xs : List Lexeme) → runs (lead by_dot (inside false) [] w (go false [] w)) xs ≡ Some done → runs (lead by_dot (inside true) [] w (go true [] w)) xs ≡ Some done
first_within Name xs h = h
first_within Forward xs h = h
first_within Backward xs h = h
first_within Underscore xs h = h
first_within Star xs h = h
first_within Equals xs h = absurd (not_done xs h)
first_within Keyword xs h = absurd (not_done xs h)
first_within Colon xs h = h
first_within Dot xs h = absurd (not_done xs h)
first_within LParen xs h = h
first_within RParen xs h = absurd (not_done xs h)
first_within LBrace xs h = h
first_within RBrace xs h = absurd (not_done xs h)
first_within LBracket xs h = h
first_within RBracket xs h = absurd (not_done xs h)
first_within End xs h = absurd (not_done xs h)

all_within : (tokens : List Lexeme) → runs (Some ask) tokens ≡ Some done → runs (Some begun) tokens ≡ Some done
all_within [] h = let clash : Some ask ≡ Some done = h in absurd cc
all_within (x ∷ xs) h = first_within x.word xs h

named_through : (tokens : List Lexeme) → has_proof tokens ≡ true → runs (Some ask) (drop 2 tokens) ≡ Some done → runs (Some ask) tokens ≡ Some done
named_through [] n h = cc
named_through (x ∷ []) n h = cc
named_through (x ∷ y ∷ ts) n h =
    let p = operand_and_colon x.word y.word n in
    ap (λ s. runs s (y ∷ ts)) (operand_goes x.word p.0) ∙ ap (λ w. runs (lead by_dot (inside true) [] w (go true [] w)) ts) p.1 ∙ all_within ts h

-- the reader of a sequence goes through a query
poses_through : (table : Table) (tokens : List Lexeme) (O : Outline) → Poses table tokens O → runs (Some ask) tokens ≡ Some done
poses_through table tokens O e = by_proof table tokens O (has_proof tokens) refl e
  where
    by_proof : (table : Table) (tokens : List Lexeme) (O : Outline) (b : Bool) → has_proof tokens ≡ b → Ends table (if b then drop 2 tokens else tokens) O → runs (Some ask) tokens ≡ Some done
    by_proof table tokens O true n e = named_through tokens n (ends_through table (drop 2 tokens) O e)
    by_proof table tokens O false n e = ends_through table tokens O e

-- Where a goal stops

-- the reader can't go on with this token of a sequence and a dot
record Stops (table : Table) (end place : Place) (tokens : List Lexeme) : Type 0 where
  before : List Lexeme
  x : Lexeme
  more : List Lexeme
  is : ended end tokens ≡ before ++ x ∷ more
  at : place ≡ x.at
  can : (rest : List Lexeme) × (O : Outline) × Ends table (before ++ rest) O
  state : State
  goes : runs (Some ask) before ≡ Some state
  dies : next_state state x ≡ None
  within : state ≡ done → ⊥

dead : (before : List Lexeme) (x : Lexeme) (rest : List Lexeme) (s : State) → runs (Some ask) before ≡ Some s → next_state s x ≡ None → runs (Some ask) ((before ++ x ∷ []) ++ rest) ≡ Some done → ⊥
dead before x rest s goes dies h =
    let none : runs (Some ask) ((before ++ x ∷ []) ++ rest) ≡ None =
    ap (runs (Some ask)) (append_assoc before (x ∷ []) rest) ∙ along (Some ask) (Some s) before (x ∷ rest) goes ∙ ap (λ o. runs o rest) dies ∙ runs_none rest in
    let clash : None ≡ Some done = sym none ∙ h in
    cc

alive : (before : List Lexeme) (s : State) → runs (Some ask) before ≡ Some s → runs (Some ask) before ≡ Some done → s ≡ done
alive before s goes h = let same : Some s ≡ Some done = sym goes ∙ h in let t : s ≡ done = cc in t

-- two tokens in front are those of all tokens
same_front : (end : Place) (tokens before more : List Lexeme) (b d x : Lexeme) → ended end tokens ≡ b ∷ d ∷ (before ++ x ∷ more) → names_proof b.word d.word ≡ has_proof tokens
same_front end [] before more b d x e = cc
same_front end (t ∷ []) before more b d x e =
    let last : Lexeme = record { word = End; bytes = []; at = end } in
    let same : last ≡ d = cc in
    ap (λ (z : Lexeme). names_proof b.word z.word) (sym same)
same_front end (t ∷ u ∷ ts) before more b d x e =
    let first : t ≡ b = cc in
    let second : u ≡ d = cc in
    ap (λ (z : Lexeme). names_proof z.word d.word) (sym first) ∙ ap (λ (z : Lexeme). names_proof t.word z.word) (sym second)

-- what a sequence and a dot can begin with, a query can, where the tokens name no proof
can_ask : (table : Table) (end : Place) (tokens before : List Lexeme) (x : Lexeme) (more : List Lexeme) → has_proof tokens ≡ false → ended end tokens ≡ before ++ x ∷ more
    → (rest : List Lexeme) × (O : Outline) × Ends table (before ++ rest) O → CanAsk table before
can_ask table end tokens [] x more n is c =
    let dot : Lexeme = a_word end Dot in
    let o = hole_sequence table end (dot ∷ []) in
    (a_word end Underscore ∷ dot ∷ [], o.0, (dot, refl, o.1))
can_ask table end tokens (b ∷ []) x more n is c = by_operand (is_operand b.word) refl
  where
    by_operand : (o : Bool) → is_operand b.word ≡ o → CanAsk table (b ∷ [])
    by_operand true e =
        let dot : Lexeme = a_word end Dot in
        let o = hole_sequence table end (dot ∷ []) in
        let goal : List Lexeme = a_word end Underscore ∷ dot ∷ [] in
        let colon : Lexeme = a_word end Colon in
        (colon ∷ goal, o.0, subst (λ n. Ends table (if n then goal else b ∷ colon ∷ goal) o.0) (sym e) (dot, refl, o.1))
    by_operand false e = (c.0, c.1, subst (λ n. Ends table (if n then drop 2 (b ∷ c.0) else b ∷ c.0) c.1) (sym (no_operand b.word (first_word c.0) e)) c.2)
can_ask table end tokens (b ∷ d ∷ before) x more n is c =
    let none : names_proof b.word d.word ≡ false = same_front end tokens before more b d x is ∙ n in
    (c.0, c.1, subst (λ n. Ends table (if n then before ++ c.0 else b ∷ d ∷ (before ++ c.0)) c.1) (sym none) c.2)

plain_stops : (table : Table) (end place : Place) (tokens : List Lexeme) → has_proof tokens ≡ false → Stops table end place tokens → AskingStopsAt table end tokens place
plain_stops table end place tokens n s = (
  s.before,
  s.x,
  s.more,
  s.is,
  s.at,
  can_ask table end tokens s.before s.x s.more n s.is s.can,
  λ c. dead s.before s.x c.0 s.state s.goes s.dies (poses_through table ((s.before ++ s.x ∷ []) ++ c.0) c.1 c.2),
  λ O e. s.within (alive s.before s.state s.goes (poses_through table s.before O e)),
)

named_stops : (table : Table) (end place : Place) (tokens : List Lexeme) → has_proof tokens ≡ true → Stops table end place (drop 2 tokens) → AskingStopsAt table end tokens place
named_stops table end place [] n s = cc
named_stops table end place (v ∷ []) n s = cc
named_stops table end place (v ∷ w ∷ ts) n s =
    let P : List Lexeme → Outline → Bool → Type 0 = λ us O b. Ends table (if b then us else v ∷ w ∷ us) O in (
      v ∷ w ∷ s.before,
      s.x,
      s.more,
      ap (λ us. v ∷ w ∷ us) s.is,
      s.at,
      (s.can.0, s.can.1, subst (P (s.before ++ s.can.0) s.can.1) (sym n) s.can.2),
      λ c. dead s.before s.x c.0 s.state s.goes s.dies (ends_through table ((s.before ++ s.x ∷ []) ++ c.0) c.1 (subst (P ((s.before ++ s.x ∷ []) ++ c.0) c.1) n c.2)),
      λ O e. s.within (alive s.before s.state s.goes (ends_through table s.before O (subst (P s.before O) n e))),
    )

goal_stops : (table : Table) (end place : Place) (tokens : List Lexeme) → Stops table end place (goal_tokens tokens) → AskingStopsAt table end tokens place
goal_stops table end place tokens s = by_proof table end place tokens (has_proof tokens) refl s
  where
    by_proof : (table : Table) (end place : Place) (tokens : List Lexeme) (b : Bool) → has_proof tokens ≡ b → Stops table end place (if b then drop 2 tokens else tokens) → AskingStopsAt table end tokens place
    by_proof table end place tokens true n s = named_stops table end place tokens n s
    by_proof table end place tokens false n s = plain_stops table end place tokens n s

-- the sequence of a goal stops
sequence_stops : (table : Table) (end place : Place) (tokens : List Lexeme) → StopsIn table end tokens place → Stops table end place tokens
sequence_stops table end place tokens s =
    let d = s.6 in
    let dot : Lexeme = a_word end Dot in
    let o = s.5.1 (dot ∷ []) in
    record {
      before = s.0;
      x = s.1;
      more = s.2;
      is = s.3;
      at = s.4;
      can = (s.5.0 ++ dot ∷ [], o.0, (dot, refl, o.1));
      state = reading by_dot d.0 (d.1 ++ []);
      goes = reads_on by_dot (inside false) [] s.0 (d.0, d.1 ++ []) (d.2 []);
      dies = ap (lead by_dot d.0 (d.1 ++ []) s.1.word) (d.3 []) ∙ leaves_none by_dot d.0 d.1 s.1.word d.4;
      within = λ e. cc;
    }

-- a wrong token stands behind it
behind_stops : (table : Table) (end place : Place) (tokens left : List Lexeme) (O : Outline) → Sequence table tokens O left → is_item (first_word left) ≡ false → (first_word left ≡ Dot → ⊥) → place ≡ first_place end left → Stops table end place tokens
behind_stops table end place tokens left O s isnt wrong is =
    let i = port_sequence table s in
    let y = at_end end left in
    let dot : Lexeme = a_word end Dot in
    record {
      before = i.front;
      x = y.0;
      more = y.1;
      is = ended_behind end tokens i.front left i.split ∙ ap (λ ts. i.front ++ ts) y.2;
      at = is ∙ y.3;
      can = (dot ∷ [], O, (dot, refl, i.anew (dot ∷ [])));
      state = begun;
      goes = reads_on by_dot (inside false) [] i.front (inside true, []) (i.goes []);
      dies = ap (lead by_dot (inside true) [] y.0.word) (no_go y.0.word (ap is_item y.4 ∙ isnt)) ∙ no_dot y.0.word (λ e. wrong (sym y.4 ∙ e));
      within = λ e. cc;
    }

pub stops_behind_goal : (table : Table) (end place : Place) (tokens goal left : List Lexeme) (O : Outline) → goal ≡ goal_tokens tokens → Sequence table goal O left → is_item (first_word left) ≡ false → (first_word left ≡ Dot → ⊥) → place ≡ first_place end left
    → AskingStopsAt table end tokens place
stops_behind_goal table end place tokens goal left O e s isnt wrong is = goal_stops table end place tokens (subst (Stops table end place) e (behind_stops table end place goal left O s isnt wrong is))

-- the fault of the sequence of a goal is one of the query
pub asking_stops : (source : Source) (from : ℕ) (f : SyntaxFault) → lexemes_from source from ≡ goal_tokens (lexemes_from source 0) → SequenceFault source from f → AskingFaultOf source f
asking_stops source from (Syntax place) e s =
    let table = source.fixities.now in
    goal_stops table source.end place (lexemes_from source 0) (subst (Stops table source.end place) e (sequence_stops table source.end place (lexemes_from source from) s))
asking_stops source from NoMemory e s = tt
asking_stops source from (Fixity place) e s = absurd s
asking_stops source from (BadDecl place) e s = absurd s
asking_stops source from (Nesting place) e s = absurd s
asking_stops source from (Unsupported name place) e s = absurd s

-- a fault of the grammar stands where the earlier causes don't
pub query_stands : (table : Table) (end : Place) (tokens : List Lexeme) (r : Result ExtQuery SyntaxFault) → IsAskable tokens → IfErr r (AskingFault table end tokens) → IfErr r (QueryFaultStands table end tokens)
query_stands table end tokens (Ok q) askable h = tt
query_stands table end tokens (Err f) askable h = by_fault f h
  where
    by_fault : (f : SyntaxFault) → AskingFault table end tokens f → QueryFaultStands table end tokens f
    by_fault (Syntax place) h = (askable, h)
    by_fault (Fixity place) h = (askable, h)
    by_fault (BadDecl place) h = (askable, h)
    by_fault NoMemory h = tt
    by_fault (Nesting place) h = absurd h
    by_fault (Unsupported name place) h = absurd h
