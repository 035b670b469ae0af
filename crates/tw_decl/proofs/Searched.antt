-- The causes of refusals of searches, from the causes of each step.
use Rattle.std.proofs.Common.{◌≡◌, ℕ, List, None, Some, refl, subst, inl, inr}
use Rattle.lf_search.specs.Bounded as bounded
use Rattle.lf_search.specs.Bounded.{Bound}
use Rattle.tw_lexer.specs.declared.place.Place.{Place}
use Rattle.tw_metas.specs.declared.left.LeftEquation.{LeftEquation}
use Rattle.tw_parse.specs.Queries.{Query}
use Rattle.tw_parse.specs.Syntax.{Term}
use Rattle.tw_parse_queries.specs.declared.search.ExtBound.{ExtBound}
use Rattle.tw_parse_queries.specs.declared.search.ExtBound.TheVariants.{Number}
use Rattle.tw_query.specs.Runs.{IsRunOf}
use Rattle.tw_query.specs.declared.run.Leaf.{Leaf}
use Rattle.tw_query.specs.declared.run.QueryEnd.{QueryEnd}
use Rattle.tw_query.specs.declared.run.QueryEnd.TheVariants as ends
use Rattle.tw_recon.specs.declared.fault.ReconFault.{ReconFault}
use Rattle.tw_recon.specs.declared.fault.ReconFault.TheVariants as reconstructions
use Rattle.tw_search.specs.declared.answer.Answer.{Answer}
use Rattle.tw_signature.specs.Goal.{Goal}
use Rattle.tw_decl.specs.SearchSteps.{HasNoSolution, IsDeepEntry, IsUnexpected}
use Rattle.tw_decl.specs.Searching.{IsAsked, bound_of, first_answer, first_left}
use Rattle.tw_decl.specs.Solutions.{solve_query}
use Rattle.tw_decl.specs.Steps.{IsRefusedFor, ShowsLeft}
use Rattle.tw_decl.specs.Unanswered.{GoalFails, HasNoRun, IsNotAnswered, IsNotAsked, IsNotSolved}
use Rattle.tw_decl.specs.View.{View}
use Rattle.tw_decl.specs.declared.refusal.Refusal.{Refusal}
use Rattle.tw_decl.specs.declared.refusal.Refusal.TheVariants as refusals
use Rattle.tw_decl.proofs.Runs.{left_alone, none_alone}

-- a fault of the reconstruction keeps the goal from being asked
module _ (v : View) (first : Place) (A : Term) (fault : ReconFault) (cause : GoalFails v A fault) where
  fails : (told : ReconFault) → fault ≡ told → GoalFails v A told
  fails told e = subst (GoalFails v A) e cause

  pub not_asked : (refusal : Refusal) → IsRefusedFor v first fault refusal → IsNotAsked v A first refusal
  not_asked refusals.Memory h = tt
  not_asked (refusals.Unknown place name) h = fails (reconstructions.Unknown name place) h
  not_asked (refusals.Unsupported place shown) (inl h, t) = (inl (fails (reconstructions.TypeLevel None) h.0, h.1), t)
  not_asked (refusals.Unsupported place shown) (inr h, t) = (inr (fails (reconstructions.TypeLevel (Some place)) h), t)
  not_asked (refusals.Loose place) h = (fails reconstructions.Loose h.0, h.1)
  not_asked (refusals.Mismatch place) h = (fails reconstructions.Mismatch h.0, h.1)
  not_asked (refusals.Leftover place text) ((left, e, t), at) = ((left, fails (reconstructions.Leftover left) e, t), at)
  not_asked (refusals.TooDeep place) h = (fails reconstructions.TooDeep h.0, h.1)
  not_asked refusal h = absurd h

-- why a query isn't answered
module _ (v : View) (e t : ExtBound) (q : Query) (first : Place) where
  pub answer_not_asked : (refusal : Refusal) → IsNotAsked v q.goal first refusal → IsNotAnswered v e t q first refusal
  answer_not_asked refusals.Memory h = tt
  answer_not_asked (refusals.Leftover place text) h = inl h
  answer_not_asked (refusals.TooDeep place) h = inl h
  answer_not_asked (refusals.Count place found expected) h = absurd h
  answer_not_asked (refusals.Budget place tries) h = absurd h
  answer_not_asked refusal h = h

  module _ (g : Goal) (asked : IsAsked v.signature q g) where
    pub answer_not_run : (refusal : Refusal) → HasNoRun v g (bound_of t) first refusal → IsNotAnswered v e t q first refusal
    answer_not_run refusals.Memory h = tt
    answer_not_run (refusals.TooDeep place) h = inr (g, asked, h)
    answer_not_run (refusals.Budget place tries) h = (g, asked, h)
    answer_not_run refusal h = absurd h

    pub answer_unexpected : (leaves : List Leaf) (end : QueryEnd) (tries : ℕ) → IsRunOf v.signature g (bound_of t) v.parameters.steps leaves end tries → (refusal : Refusal) → IsUnexpected v e leaves end first refusal → IsNotAnswered v e t q first refusal
    answer_unexpected leaves end tries r refusals.Memory h = tt
    answer_unexpected leaves end tries r (refusals.Leftover place text) (number, is, (left, f, shows), at) =
        inr (
          (
            number.0,
            number.1,
            record {
              goal = g;
              leaves = leaves;
              tries = tries;
              runs = record { asked = asked; run = subst (λ x. IsRunOf v.signature g (bound_of t) v.parameters.steps leaves x tries) is r };
              left = left;
              first = f;
              shows = shows;
            },
          ),
          at,
        )
    answer_unexpected leaves end tries r (refusals.Count place found expected) (number, none, counts, differs, at) = (
      record {
        is_number = number;
        goal = g;
        leaves = leaves;
        end = end;
        tries = tries;
        runs = record { asked = asked; run = r };
        none_left = none;
        counts = counts;
        differs = differs;
      },
      at,
    )
    answer_unexpected leaves end tries r refusal h = absurd h

-- an equation that is left at the end
pub left_unexpected : (v : View) (n : ℕ) (leaves : List Leaf) (end : QueryEnd) (first : Place) (left : LeftEquation) (refusal : Refusal) → end ≡ ends.Incomplete → first_left leaves ≡ Some left → ShowsLeft v first left refusal → IsUnexpected v (Number n) leaves end first refusal
left_unexpected v n leaves end first left refusals.Memory e f h = tt
left_unexpected v n leaves end first left (refusals.Leftover place text) e f h = ((n, refl), e, (left, f, h.1), h.0)
left_unexpected v n leaves end first left refusal e f h = absurd h

pub left_unsolved : (v : View) (leaves : List Leaf) (first : Place) (left : LeftEquation) (refusal : Refusal) → first_left leaves ≡ Some left → ShowsLeft v first left refusal → HasNoSolution v leaves first refusal
left_unsolved v leaves first left refusals.Memory f h = tt
left_unsolved v leaves first left (refusals.Leftover place text) f h = ((left, f, h.1), h.0)
left_unsolved v leaves first left refusal f h = absurd h

-- why `%solve` keeps nothing
module _ (v : View) (c : List ℕ) (A : Term) (first : Place) where
  pub solve_not_asked : (refusal : Refusal) → IsNotAsked v A first refusal → IsNotSolved v c A first refusal
  solve_not_asked refusals.Memory h = tt
  solve_not_asked (refusals.Leftover place text) h = inl h
  solve_not_asked (refusals.TooDeep place) h = inl h
  solve_not_asked (refusals.Budget place tries) h = absurd h
  solve_not_asked (refusals.NoAnswer place) h = absurd h
  solve_not_asked refusal h = h

  module _ (g : Goal) (asked : IsAsked v.signature (solve_query c A) g) where
    pub solve_not_run : (refusal : Refusal) → HasNoRun v g (bounded.number 1) first refusal → IsNotSolved v c A first refusal
    solve_not_run refusals.Memory h = tt
    solve_not_run (refusals.TooDeep place) h = inr (inl (g, asked, h))
    solve_not_run (refusals.Budget place tries) h = (g, asked, h)
    solve_not_run refusal h = absurd h

    module _ (leaves : List Leaf) (end : QueryEnd) (tries : ℕ) (r : IsRunOf v.signature g (bounded.number 1) v.parameters.steps leaves end tries) where
      pub solve_none : first_answer leaves ≡ None → (refusal : Refusal) → HasNoSolution v leaves first refusal → IsNotSolved v c A first refusal
      solve_none n refusals.Memory h = tt
      solve_none n (refusals.Leftover place text) ((left, f, shows), at) =
          inr (
            record {
              goal = g;
              leaves = leaves;
              tries = tries;
              runs = record { asked = asked; run = subst (λ x. IsRunOf v.signature g (bounded.number 1) v.parameters.steps leaves x tries) (left_alone v.signature g v.parameters.steps leaves end tries left r n f) r };
              left = left;
              first = f;
              shows = shows;
            },
            at,
          )
      solve_none n (refusals.NoAnswer place) (f, at) = (
        record {
          goal = g;
          leaves = leaves;
          tries = tries;
          runs = record { asked = asked; run = subst (λ x. IsRunOf v.signature g (bounded.number 1) v.parameters.steps leaves x tries) (none_alone v.signature g v.parameters.steps leaves end tries r n f) r };
        },
        at,
      )
      solve_none n refusal h = absurd h

      pub solve_deep : (a : Answer) → first_answer leaves ≡ Some a → (refusal : Refusal) → IsDeepEntry v c A g a first refusal → IsNotSolved v c A first refusal
      solve_deep a f refusals.Memory h = tt
      solve_deep a f (refusals.TooDeep place) ((e, s, d), at) =
          inr (inr (record { goal = g; leaves = leaves; end = end; tries = tries; runs = record { asked = asked; run = r }; answer = a; is_first = f; entry = e; solution = s; deep = d }, at))
      solve_deep a f refusal h = absurd h
