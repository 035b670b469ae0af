-- Heads that clash are passed over, while the choice point is in hand.
use Rattle.std.proofs.Common.{◌≡◌, ℕ, ◌+◌, ◌-◌, ◌*◌, ◌≤◌, List, [], ◌∷◌, length, Option, Some, None, refl, sym, ap, ◌∙◌, subst, arith}
use Rattle.lf.specs.Entries.{Entry, IsCanonicalSignature, signature_of}
use Rattle.lf.specs.Syntax.{Head}
use Rattle.lf_unification.specs.Search.{Pending, SearchesFrom, begin_search, declared_constants}
use Rattle.lf_search.proofs.Ends.{search_then}
use Rattle.tw_search.specs.Choosing.{heads_left}
use Rattle.tw_search.specs.Goals.{IsHeadFor, StandsAtGoal}
use Rattle.tw_search.specs.Going.{GivesOutTrying, GoesFrom, IsBelow, Tried, place_weight}
use Rattle.tw_search.specs.Standing.{GaveOut, IsTakenUp, TriesHead, choices_of}
use Rattle.tw_search.specs.Tries.{NeverFits}
use Rattle.tw_search.specs.declared.search.Search.{Search}
use Rattle.tw_search.specs.declared.step.Choice.{Choice}
use Rattle.tw_search.specs.declared.step.Place.TheVariants as place
use Rattle.tw_search.specs.declared.step.Step.{Step}
use Rattle.tw_search.proofs.Going.{below_more, goes_later}
use Rattle.tw_search.proofs.Standing as standing

-- From the agenda a run of as many tries as were counted leads to where the choice point c is taken up.
pub record PassedTo (es : List Entry) (first new : Search) (c : Choice) (agenda : List Pending) : Type 0 where
  pub tries : ℕ
  pub after : List Pending
  pub run : SearchesFrom es agenda [] tries after
  pub count : new.tries ≡ first.tries + tries
  pub variables : new.variables ≡ first.variables
  pub same_goal : new.goal ≡ first.goal
  pub up : IsTakenUp es new c after

pub passed_nothing : (es : List Entry) (s : Search) (c : Choice) (agenda : List Pending) → IsTakenUp es s c agenda → PassedTo es s s c agenda
passed_nothing es s c agenda w = record { tries = 0; after = agenda; run = begin_search; count = omega arith; variables = refl; same_goal = refl; up = w }

-- what is come to from there
pub goes_after : (es : List Entry) (last : ℕ) (first s new : Search) (c : Choice) (o : Option Step) (agenda : List Pending) (v : PassedTo es first s c agenda) → s.tries ≤ last → GoesFrom es last s new o v.after → GoesFrom es last first new o agenda
goes_after es last first s new c None agenda v h g = standing.run_then es first s new agenda v.after v.tries v.run v.count v.variables v.same_goal g
goes_after es last first s new c (Some x) agenda v h g = λ G len. standing.run_then_came es first s new agenda v.after v.tries v.run v.count v.variables v.same_goal G last x h (g G (len ∙ sym v.variables))

pub gave_after : (es : List Entry) (last : ℕ) (first s new : Search) (c : Choice) (agenda : List Pending) (v : PassedTo es first s c agenda) → GaveOut es s new v.after last → GaveOut es first new agenda last
gave_after es last first s new c agenda v g = standing.run_then_gave es first s new agenda v.after v.tries v.run v.count v.variables v.same_goal last g

-- the next head
module _ (es : List Entry) (first s : Search) (c : Choice) (agenda : List Pending) (v : PassedTo es first s c agenda) (k : Head) (local constant : ℕ) (e : heads_left es c.goal.family.0 c.goal.locals c.local c.constant ≡ k ∷ heads_left es c.goal.family.0 c.goal.locals local constant) where
  abbrev behind : Choice
  behind = record { mark = c.mark; frames = c.frames; goal = c.goal; rest = c.rest; local = local; constant = constant }

  abbrev at_next : List Pending
  at_next = standing.next_agenda es s c v.after v.up k (heads_left es c.goal.family.0 c.goal.locals local constant) e

  up_to_next : SearchesFrom es v.after [] 0 at_next
  up_to_next = standing.up_to_head es s c v.after v.up k (heads_left es c.goal.family.0 c.goal.locals local constant) e

  pub goal_stands : StandsAtGoal (signature_of es) s.store.now c.goal
  goal_stands = v.up.at.stands

  pub head_is : IsHeadFor (signature_of es) c.goal k
  head_is = standing.head_is es s c v.after v.up k (heads_left es c.goal.family.0 c.goal.locals local constant) e

  module _ (c' : Choice) (r : c' ≡ behind) where
    at_head : TriesHead es s c' k at_next
    at_head = standing.at_head es s c v.after v.up k (heads_left es c.goal.family.0 c.goal.locals local constant) e local constant refl c' r

    pub tries_next : (agenda' : List Pending) × TriesHead es s c' k agenda'
    tries_next = (at_next, at_head)

    pub goes_trying : (last : ℕ) (new : Search) (o : Option Step) → s.tries ≤ last → Tried es last s new c' k o → GoesFrom es last first new o agenda
    goes_trying last new o h tried = goes_after es last first s new c o agenda v h (goes_later es last s new o v.after at_next up_to_next (tried at_next at_head))

    pub gives_out_trying : (last : ℕ) (new : Search) → GivesOutTrying es last s new c' k → GaveOut es first new agenda last
    gives_out_trying last new gave = gave_after es last first s new c agenda v (standing.gave_later es s new v.after at_next last up_to_next (gave at_next at_head))

    -- where it never fits, it is passed over
    module _ (ok : IsCanonicalSignature es) where
      abbrev behind_next : List Pending
      behind_next = standing.after_none es ok s c' k at_next at_head s.store ([], refl)

      pub clash_passed : NeverFits (signature_of es) s.store.now c.goal k → (t : Search) → t ≡ record s { tries = s.tries + 1 } → PassedTo es first t c' agenda
      clash_passed n t q = subst (λ (x : Search). PassedTo es first x c' agenda) (sym q) (record {
        tries = v.tries + (0 + 1);
        after = behind_next;
        run = search_then (signature_of es) (declared_constants es) v.run (search_then (signature_of es) (declared_constants es) up_to_next
            (standing.run_none es ok s c' k at_next at_head s.store ([], refl) (subst (λ (x : Choice). NeverFits (signature_of es) s.store.now x.goal k) (sym r) n)));
        count = (let d = v.count in omega (arith, d));
        variables = v.variables;
        same_goal = v.same_goal;
        up = record { goals = at_head.goals; heads = at_head.later; rest = at_head.rest; is = refl; at = at_head.at; older = at_head.older; met = at_head.met };
      })

-- fewer steps are left behind more tries
pub below_after : (last : ℕ) (first s new : Search) (o : Option Step) → first.tries ≤ s.tries → choices_of s ≡ choices_of first → IsBelow (3 * (last - s.tries) + (length (choices_of s) + 1)) last new o → IsBelow (3 * (last - first.tries) + (length (choices_of first) + 1)) last new o
below_after last first s new o h e b =
    let n : length (choices_of s) ≡ length (choices_of first) = ap length e in
    below_more (3 * (last - s.tries) + (length (choices_of s) + 1)) (3 * (last - first.tries) + (length (choices_of first) + 1)) last new o (omega (arith, h, n)) b

pub none_below : (last : ℕ) (first s : Search) → first.tries ≤ s.tries → s.tries ≤ last → choices_of s ≡ choices_of first → s.place ≡ place.Heads → IsBelow (3 * (last - first.tries) + (length (choices_of first) + 1)) last s None
none_below last first s h within e p =
    let n : length (choices_of s) ≡ length (choices_of first) = ap length e in
    let z : place_weight s.place ≡ 0 = ap place_weight p in
    let b : 3 * (last - s.tries) + length (choices_of s) + place_weight s.place + 1 ≤ 3 * (last - first.tries) + (length (choices_of first) + 1) = omega (arith, h, n, z) in
    (b, within)

pub tries_grow : (es : List Entry) (first s : Search) (c : Choice) (agenda : List Pending) → PassedTo es first s c agenda → first.tries ≤ s.tries
tries_grow es first s c agenda v = let d = v.count in omega (arith, d)
