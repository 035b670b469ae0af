-- A run of a query that is under way.
use Rattle.std.specs.Prelude.{◌≡◌, ℕ, ◌≤◌, List, length, suc, Option, Some, None, ◌⊎◌}
use Rattle.lf.specs.Entries.{Entry}
use Rattle.lf_unification.specs.Query.{Query}
use Rattle.lf_unification.specs.Search.{Node, Pending}
use Rattle.lf_search.specs.Bounded.{AsManyAs, Bound, FewerThan, QueryRuns, stopped}
use Rattle.lf_search.specs.Goals.{IsQueryOf}
use Rattle.tw_search.specs.Standing.{Stands, tries_of}
use Rattle.tw_signature.specs.Goal.{Goal}
use Rattle.tw_query.specs.Runs.{AreShownAs, IsRunOf, answers_in}
use Rattle.tw_query.specs.declared.run.QueryEnd.{QueryEnd}
use Rattle.tw_query.specs.declared.running.Running.{Running}

-- The search stands behind the leaves that were shown, within its bounds: there are fewer answers than are asked for, or the last of them came just now.
pub record IsUnderWay (es : List Entry) (g : Goal) (bound : Bound) (budget : ℕ) (r : Running) : Type 0 where
  pub query : Query
  pub of_goal : IsQueryOf g.variables g.goal query
  pub nodes : List Node
  pub agenda : List Pending
  pub stands : Stands es g r.search nodes agenda
  pub shown : AreShownAs es g nodes r.leaves.items
  pub within : tries_of r.search ≤ budget
  pub count : r.answers ≡ answers_in r.leaves.items
  pub bounded : FewerThan bound r.answers ⊎ (AsManyAs bound r.answers × QueryRuns es query budget bound nodes stopped (tries_of r.search))

-- after a step: it ended so, or there is one leaf more
abbrev pub GoesOn : List Entry → Goal → Bound → ℕ → Running → Running → Option QueryEnd → Type 0
GoesOn es g bound budget old new None = IsUnderWay es g bound budget new × (length new.leaves.items ≡ suc (length old.leaves.items))
GoesOn es g bound budget old new (Some end) = IsRunOf es g bound budget new.leaves.items end (tries_of new.search)
