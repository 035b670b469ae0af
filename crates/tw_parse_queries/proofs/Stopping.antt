-- A goal stops at the first token that can't go on.
use Rattle.std.proofs.Common.{◌≡◌, List, [], ◌∷◌, ◌++◌, true, false, None, Some, refl, sym, ap, ◌∙◌, append_assoc}
use Rattle.tw_lexer.specs.declared.place.Place.{Place}
use Rattle.tw_parse.specs.Failing.{ended, is_item, StopsIn}
use Rattle.tw_parse.specs.Faults.{Ends}
use Rattle.tw_parse.specs.Outlines.{Table, Outline, Sequence}
use Rattle.tw_parse.specs.Spots.{inside, by_dot, State, reading, done, lead, next_state, runs}
use Rattle.tw_parse.specs.Words.{Lexeme, first_word, first_place}
use Rattle.tw_parse.specs.declared.words.Word.TheVariants.{Dot}
use Rattle.tw_parse.proofs.Failing.{a_word, at_end, ended_behind}
use Rattle.tw_parse.proofs.Ports.{port_sequence}
use Rattle.tw_parse.proofs.Stopping.{runs_none, along, reads_on, to_next, no_go, leaves_none, no_dot}
use Rattle.tw_parse_queries.specs.Faults.{CanEnd, GoalStopsAt}

-- before a goal, and in it
abbrev due : State
due = reading by_dot (inside false) []

abbrev begun : State
begun = reading by_dot (inside true) []

ends_through : (table : Table) (tokens : List Lexeme) (O : Outline) → Ends table tokens O → runs (Some due) tokens ≡ Some done
ends_through table tokens O e =
    let i = port_sequence table e.2 in
    ap (runs (Some due)) i.split ∙ to_next by_dot i.front e.0 [] Dot done i.goes e.1 refl refl

dead : (before : List Lexeme) (x : Lexeme) (rest : List Lexeme) (s : State) → runs (Some due) before ≡ Some s → next_state s x ≡ None → runs (Some due) ((before ++ x ∷ []) ++ rest) ≡ Some done → ⊥
dead before x rest s goes dies h =
    let none : runs (Some due) ((before ++ x ∷ []) ++ rest) ≡ None =
    ap (runs (Some due)) (append_assoc before (x ∷ []) rest) ∙ along (Some due) (Some s) before (x ∷ rest) goes ∙ ap (λ o. runs o rest) dies ∙ runs_none rest in
    let clash : None ≡ Some done = sym none ∙ h in
    cc

alive : (before : List Lexeme) (s : State) → runs (Some due) before ≡ Some s → runs (Some due) before ≡ Some done → s ≡ done
alive before s goes h = let same : Some s ≡ Some done = sym goes ∙ h in let t : s ≡ done = cc in t

-- the reader stands in a goal, and can't go on
stops_at : (table : Table) (end place : Place) (tokens before : List Lexeme) (x : Lexeme) (more : List Lexeme) (s : State) → ended end tokens ≡ before ++ x ∷ more → place ≡ x.at → CanEnd table before
    → runs (Some due) before ≡ Some s → next_state s x ≡ None → (s ≡ done → ⊥) → GoalStopsAt table end tokens place
stops_at table end place tokens before x more s is at can goes dies within = (
  before,
  x,
  more,
  is,
  at,
  can,
  λ c. dead before x c.0 s goes dies (ends_through table ((before ++ x ∷ []) ++ c.0) c.1 c.2),
  λ O e. within (alive before s goes (ends_through table before O e)),
)

-- the sequence of a goal stops
pub sequence_stops : (table : Table) (end place : Place) (tokens : List Lexeme) → StopsIn table end tokens place → GoalStopsAt table end tokens place
sequence_stops table end place tokens s =
    let d = s.6 in
    let dot : Lexeme = a_word end Dot in
    let o = s.5.1 (dot ∷ []) in
    stops_at table end place tokens s.0 s.1 s.2 (reading by_dot d.0 (d.1 ++ [])) s.3 s.4
    (s.5.0 ++ dot ∷ [], o.0, (dot, refl, o.1))
    (reads_on by_dot (inside false) [] s.0 (d.0, d.1 ++ []) (d.2 []))
    (ap (lead by_dot d.0 (d.1 ++ []) s.1.word) (d.3 []) ∙ leaves_none by_dot d.0 d.1 s.1.word d.4)
    (λ e. cc)

-- a wrong token stands behind it
pub stops_behind_goal : (table : Table) (end place : Place) (tokens left : List Lexeme) (O : Outline) → Sequence table tokens O left → is_item (first_word left) ≡ false → (first_word left ≡ Dot → ⊥) → place ≡ first_place end left → GoalStopsAt table end tokens place
stops_behind_goal table end place tokens left O s isnt wrong is =
    let i = port_sequence table s in
    let y = at_end end left in
    let dot : Lexeme = a_word end Dot in
    stops_at table end place tokens i.front y.0 y.1 begun
    (ended_behind end tokens i.front left i.split ∙ ap (λ ts. i.front ++ ts) y.2)
    (is ∙ y.3)
    (dot ∷ [], O, (dot, refl, i.anew (dot ∷ [])))
    (reads_on by_dot (inside false) [] i.front (inside true, []) (i.goes []))
    (ap (lead by_dot (inside true) [] y.0.word) (no_go y.0.word (ap is_item y.4 ∙ isnt)) ∙ no_dot y.0.word (λ e. wrong (sym y.4 ∙ e)))
    (λ e. cc)
