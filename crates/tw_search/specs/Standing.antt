-- Where a search stands: the agenda of the tree that a value of the program stands for. Only here is it said how the program keeps it.
use Rattle.std.specs.Prelude.{◌≡◌, ℕ, ◌+◌, ◌≤◌, List, [], ◌∷◌, length, reverse, ◌⊎◌, Option, is_some}
use Rattle.lf.specs.Depth.{depth_limit}
use Rattle.lf.specs.Entries.{Entry, signature_of}
use Rattle.lf.specs.Subordination.{Member}
use Rattle.lf.specs.Syntax.{Head, LfType, Term}
use Rattle.lf.specs.Typing.{IsContext, IsType, Signature}
use Rattle.lf_unification.specs.Lists.{followed}
use Rattle.lf_unification.specs.Search.{IsNode, Node, Pending, SearchesFrom, at_node}
use Rattle.lf_unification.specs.Unifiers.{Equation}
use Rattle.lf_search.specs.Answers.{IsReadOffLeaf}
use Rattle.lf_search.specs.Coming.{Comes, Seen, answer, exhausted, left_over, out_of_budget, too_deep}
use Rattle.lf_search.specs.Goals.{root_of}
use Rattle.lf_search.specs.Heads.{AreOffered}
use Rattle.lf_search.specs.Holes.{HolesAreOpen}
use Rattle.tw_metas.specs.State.{State, Story}
use Rattle.tw_putting.specs.Ready.{IsLater, IsReady}
use Rattle.tw_signature.specs.Goal.{Goal, goal_of}
use Rattle.tw_unify.specs.Reaching.{IsKnown, marking_of}
use Rattle.tw_search.specs.Answers.{HasProof, values_of}
use Rattle.tw_search.specs.Chains.{GoalsAre, IsGrown, frames_of}
use Rattle.tw_search.specs.Choosing.{heads_left}
use Rattle.tw_search.specs.Goals.{AreLeft, IsDeclared, IsHeadFor, StandsAtGoal, at_goal, node_of}
use Rattle.tw_search.specs.Leaves.{AllFromQuery}
use Rattle.tw_search.specs.Left.{IsDeepAt, IsLeftAt}
use Rattle.tw_search.specs.declared.answer.Answer.{Answer}
use Rattle.tw_search.specs.declared.frames.Frame.{Frame}
use Rattle.tw_search.specs.declared.step.Choice.{Choice}
use Rattle.tw_search.specs.declared.step.End.{End}
use Rattle.tw_search.specs.declared.step.End.TheVariants as end
use Rattle.tw_search.specs.declared.step.Place.{Place}
use Rattle.tw_search.specs.declared.step.Place.TheVariants as place
use Rattle.tw_search.specs.declared.step.Step.{Step}
use Rattle.tw_search.specs.declared.step.Step.TheVariants as step
use Rattle.tw_search.specs.declared.search.Search.{Search}

-- these metavariables are there
abbrev pub AllDeclared : State → List ℕ → Type 0
AllDeclared s gs = (m : ℕ) → Member m gs → IsDeclared s m

-- a state of the store of a search for a goal with n variables
pub record IsKept (Σ : Signature) (n : ℕ) (s : State) : Type 0 where
  pub left : AreLeft s
  pub ready : IsReady Σ [] s
  pub node : IsNode Σ (node_of s [])
  pub declared : (m : ℕ) → m ≤ n → IsDeclared s m
  pub from_query : AllFromQuery s n

-- The store and the frames are as at the mark of this choice point: the other goals, and the heads that are still to be tried.
pub record AtChoice (es : List Entry) (n : ℕ) (y : Story) (fs : List Frame) (c : Choice) (goals : List ℕ) (heads : List Head) : Type 0 where
  pub mark : c.mark ≡ length y.before
  pub frames : c.frames ≡ length fs
  pub kept : IsKept (signature_of es) n y.now
  pub stands : StandsAtGoal (signature_of es) y.now c.goal
  pub goals_are : GoalsAre fs c.rest goals
  pub declared : AllDeclared y.now goals
  pub holes : HolesAreOpen (node_of y.now (c.goal.hole.0 ∷ goals))
  pub offered : AreOffered (signature_of es) c.goal.locals c.goal.family.0 heads (heads_left es c.goal.family.0 c.goal.locals c.local c.constant)

-- What the choice points stand for, the newest in front, over the store and the frames, which only grew since.
pub data ChoicesStand (es : List Entry) (n : ℕ) : Story → List Frame → List Choice → List Pending → Type 0 where
  no_choice : {y : Story} {fs : List Frame} → ChoicesStand es n y fs [] []
  one_choice : {y first : Story} {fs older : List Frame} {c : Choice} {cs : List Choice} {gs : List ℕ} {hs : List Head} {rest : List Pending} →
      IsLater first y → IsGrown older fs → AtChoice es n first older c gs hs → ChoicesStand es n first older cs rest →
      ChoicesStand es n y fs (c ∷ cs) (at_goal first.now c.goal gs hs rest)

-- at a node with a list of goals
pub record NodeStands (es : List Entry) (n : ℕ) (list : ℕ) (y : Story) (fs : List Frame) (cs : List Choice) (agenda : List Pending) : Type 0 where
  pub goals : List ℕ
  pub goals_are : GoalsAre fs list goals
  pub declared : AllDeclared y.now goals
  pub holes : HolesAreOpen (node_of y.now goals)
  pub kept : IsKept (signature_of es) n y.now
  pub rest : List Pending
  pub is : agenda ≡ at_node (node_of y.now goals) ∷ rest
  pub choices : ChoicesStand es n y fs cs rest

-- at a node, or at the newest choice point
abbrev pub PlaceStands : List Entry → ℕ → Place → Story → List Frame → List Choice → List Pending → Type 0
PlaceStands es n (place.Node list) y fs cs agenda = NodeStands es n list y fs cs agenda
PlaceStands es n place.Heads y fs cs agenda = ChoicesStand es n y fs cs agenda
PlaceStands es n (place.Over e) y fs cs agenda = ⊥

-- the choice points, the newest in front
abbrev pub choices_of : Search → List Choice
choices_of s = reverse s.choices.items

-- what a search keeps of its occurs checks is known of its store
abbrev pub KeepsMet : Search → Type 0
KeepsMet s = IsKnown s.store.now (marking_of s.met)

-- the agenda at which the search is
abbrev pub IsAt : List Entry → Search → List Pending → Type 0
IsAt es s agenda = PlaceStands es s.variables s.place s.store (frames_of s.frames) (choices_of s) agenda × KeepsMet s

-- the goal of a search
abbrev pub asked_of : Search → Goal
asked_of s = goal_of s.goal

-- The search for this goal stands at this agenda, behind these leaves.
pub record Stands (es : List Entry) (g : Goal) (s : Search) (leaves : List Node) (agenda : List Pending) : Type 0 where
  pub context : IsContext (signature_of es) g.variables
  pub goal : IsType (signature_of es) g.variables g.goal
  pub variables : s.variables ≡ length g.variables
  pub asked : asked_of s ≡ g
  pub run : SearchesFrom es (at_node (root_of g.variables g.goal) ∷ []) leaves s.tries agenda
  pub at : IsAt es s agenda

-- how many tries a search made
abbrev pub tries_of : Search → ℕ
tries_of s = s.tries

abbrev pub IsOver : End → Search → Type 0
IsOver e s = s.place ≡ place.Over e

-- some search over these entries, which stands or is over
pub data IsSearch (es : List Entry) (s : Search) : Type 0 where
  stands : (g : Goal) (leaves : List Node) (agenda : List Pending) → Stands es g s leaves agenda → IsSearch es s
  is_over : (e : End) → IsOver e s → IsSearch es s

-- the search comes to a leaf that is left over, and what is needed to show its first equation is deep
abbrev pub IsDeepLeaf : List Entry → Goal → Seen → Type 0
IsDeepLeaf es g seen = (l : Node) × (e : Equation) × (seen ≡ left_over l e) × IsDeepAt es g l

-- what a step of a search for the goal g shows, in the theory's words
abbrev pub Shows : List Entry → Goal → Step → Seen → Type 0
Shows es g (step.Answer a) seen = (M : Term) × HasProof a M × (seen ≡ answer a.free (values_of a) M)
Shows es g (step.Leftover left) seen = (l : Node) × (e : Equation) × (seen ≡ left_over l e)
Shows es g step.Exhausted seen = seen ≡ exhausted
Shows es g step.Budget seen = seen ≡ out_of_budget
Shows es g step.TooDeep seen = (seen ≡ too_deep) ⊎ IsDeepLeaf es g seen

-- after it the search is at this agenda, or over
abbrev pub IsAfter : List Entry → Step → Search → List Pending → Type 0
IsAfter es (step.Answer a) s after = IsAt es s after
IsAfter es (step.Leftover left) s after = IsAt es s after
IsAfter es step.Exhausted s after = IsOver end.Exhausted s
IsAfter es step.Budget s after = IsAt es s after
IsAfter es step.TooDeep s after = IsOver end.TooDeep s

-- The leaf has no equations, and the answer is read off it: its proof is read exactly where the goal names it. Of `nat` with z that leaf has the hole bound to z, and the proof is z.
pub record IsAnswerOfLeaf (es : List Entry) (G : List LfType) (name : Option (List ℕ)) (a : Answer) (l : Node) : Type 0 where
  pub none_left : l.store.equations ≡ []
  pub named : is_some a.proof ≡ is_some name
  pub proof : Term
  pub has_proof : HasProof a proof
  pub read : IsReadOffLeaf (signature_of es) G l a.free (values_of a) proof

-- where the step shows a leaf, a run comes to it with so many tries and is behind it then
abbrev pub PassesLeaf : List Entry → List LfType → Search → List Pending → Step → ℕ → List Pending → Type 0
PassesLeaf es G s agenda (step.Answer a) tries after = (l : Node) × IsAnswerOfLeaf es G (asked_of s).proof a l × SearchesFrom es agenda (l ∷ []) tries after
PassesLeaf es G s agenda (step.Leftover left) tries after = (l : Node) × IsLeftAt es (asked_of s) l left × SearchesFrom es agenda (l ∷ []) tries after
PassesLeaf es G s agenda step.Exhausted tries after = Unit {0}
PassesLeaf es G s agenda step.Budget tries after = Unit {0}
PassesLeaf es G s agenda step.TooDeep tries after = Unit {0}

-- From an agenda, with a budget, the search over G comes to what the step shows.
pub record Came (es : List Entry) (G : List LfType) (old new : Search) (agenda : List Pending) (budget : ℕ) (step : Step) : Type 0 where
  pub seen : Seen
  pub tries : ℕ
  pub after : List Pending
  pub comes : Comes es depth_limit G agenda budget seen tries after
  pub shows : Shows es (asked_of new) step seen
  pub passes : PassesLeaf es G new agenda step tries after
  pub count : new.tries ≡ old.tries + tries
  pub variables : new.variables ≡ old.variables
  pub same_goal : new.goal ≡ old.goal
  pub then_is : IsAfter es step new after

-- The search went on to this agenda without a leaf.
pub record WentOn (es : List Entry) (old new : Search) (agenda : List Pending) : Type 0 where
  pub tries : ℕ
  pub after : List Pending
  pub run : SearchesFrom es agenda [] tries after
  pub count : new.tries ≡ old.tries + tries
  pub variables : new.variables ≡ old.variables
  pub same_goal : new.goal ≡ old.goal
  pub at : IsAt es new after

-- Memory gave out. The tries that were made are those of a run from the agenda without a leaf, and they are within this number of all tries.
pub record GaveOut (es : List Entry) (old new : Search) (agenda : List Pending) (last : ℕ) : Type 0 where
  pub tries : ℕ
  pub reached : List Pending
  pub run : SearchesFrom es agenda [] tries reached
  pub count : new.tries ≡ old.tries + tries
  pub within : new.tries ≤ last

-- after the step the search stands behind the leaf that was shown, if any; or it is over
abbrev pub StandsAfter : List Entry → Goal → Step → Search → List Node → List Pending → Type 0
StandsAfter es g (step.Answer a) s leaves after = (l : Node) × IsAnswerOfLeaf es g.variables g.proof a l × Stands es g s (followed leaves (l ∷ [])) after
StandsAfter es g (step.Leftover left) s leaves after = (l : Node) × IsLeftAt es g l left × Stands es g s (followed leaves (l ∷ [])) after
StandsAfter es g step.Exhausted s leaves after = IsOver end.Exhausted s
StandsAfter es g step.Budget s leaves after = Stands es g s leaves after
StandsAfter es g step.TooDeep s leaves after = IsOver end.TooDeep s

-- What a call of a search for the goal g comes to, which stood behind these leaves.
pub record StepIs (es : List Entry) (g : Goal) (old new : Search) (leaves : List Node) (agenda : List Pending) (budget : ℕ) (step : Step) : Type 0 where
  pub seen : Seen
  pub tries : ℕ
  pub after : List Pending
  pub comes : Comes es depth_limit g.variables agenda budget seen tries after
  pub shows : Shows es g step seen
  pub count : new.tries ≡ old.tries + tries
  pub then_stands : StandsAfter es g step new leaves after

-- The newest choice point is taken up, with the store and the frames as at its mark, and the head h is to be tried at its goal.
pub record TriesHead (es : List Entry) (old : Search) (c : Choice) (h : Head) (agenda : List Pending) : Type 0 where
  pub goals : List ℕ
  pub later : List Head
  pub rest : List Pending
  pub is : agenda ≡ at_goal old.store.now c.goal goals (h ∷ later) rest
  pub at : AtChoice es old.variables old.store (frames_of old.frames) c goals later
  pub older : ChoicesStand es old.variables old.store (frames_of old.frames) (choices_of old) rest
  pub head : IsHeadFor (signature_of es) c.goal h
  pub met : KeepsMet old

-- The newest choice point is taken up, with the store and the frames as at its mark; the other ones are left.
pub record IsTakenUp (es : List Entry) (old : Search) (c : Choice) (agenda : List Pending) : Type 0 where
  pub goals : List ℕ
  pub heads : List Head
  pub rest : List Pending
  pub is : agenda ≡ at_goal old.store.now c.goal goals heads rest
  pub at : AtChoice es old.variables old.store (frames_of old.frames) c goals heads
  pub older : ChoicesStand es old.variables old.store (frames_of old.frames) (choices_of old) rest
  pub met : KeepsMet old
