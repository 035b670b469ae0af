-- Cases that are typed beside a pattern: goals, their instances, and the stores that are made of them.
use Rattle.std.proofs.Common.{◌≡◌, ℕ, ◌+◌, List, [], sym, ◌∙◌, subst}
use Rattle.std.specs.Prelude.{Option, Some}
use Rattle.lf.specs.Syntax.{Head, LfType, Kind}
use Rattle.lf.specs.Substitution.{Image}
use Rattle.lf_unification.specs.Solving.{IsWellFormed, Never, Solved}
use Rattle.lf_cases.specs.Case.{Item}
use Rattle.lf_cases.specs.Missing.{IsTypedInstance}
use Rattle.lf_cases.proofs.Split.{goal_without}
use Rattle.lf_cases.specs.Reached.{SplitHead, arguments_count}
use Rattle.lf_coverage.specs.Heads.{GivesCase}
use Rattle.lf_coverage.specs.MeetStore.{meet_store}
use Rattle.lf_coverage.specs.TypedCase.{IsTypedBeside}
use Rattle.lf_coverage.specs.Laws.{SolvedIsSplit, SolvedSharesInstance, NeverIsApartBeside, MeetStoreIsReady, SplitStoreIsReady, InputGoalIsTyped, InputGoalIsTypedCase, InstanceStaysTyped, SplitCasesStayTyped, ReachedStaysTyped}
use Rattle.lf_coverage.proofs.Listed.{offer_of_case}
use Rattle.lf_coverage.proofs.InputTyped.{input_goal_typed, input_goal_alone}
use Rattle.lf_coverage.proofs.InstancesCompose.{instance_is_typed, none_before, reached_is_instance}
use Rattle.lf_coverage.proofs.MeetReady.{meet_ready}
use Rattle.lf_coverage.proofs.SplitInstance.{behind_all}
use Rattle.lf_coverage.proofs.NeverApart.{shares_nothing}
use Rattle.lf_coverage.proofs.SolvedMeets.{solved_meets}
use Rattle.lf_coverage.proofs.SolvedSplit.{solved_splits}
use Rattle.lf_coverage.proofs.SplitReady.{split_items_typed, split_ready}
use Rattle.lf_coverage.proofs.StayTyped.{stays_typed}
use Rattle.lf_coverage.proofs.Parts.{some_same}

same_kind : {y : Option Kind} {K L : Kind} → y ≡ Some K → y ≡ Some L → K ≡ L
same_kind e f = some_same (sym e ∙ f)

pub meet_store_is_ready : MeetStoreIsReady
meet_store_is_ready Σ ok W typed C p tp t K e = subst (λ L. IsWellFormed Σ (meet_store C p L)) (same_kind t.of_family e) (meet_ready Σ ok W typed C p tp t)

pub split_store_is_ready : SplitStoreIsReady
split_store_is_ready Σ ok W typed below C tc x X at J n h A sh K e = (split_items_typed Σ ok W typed below C.items tc.items x X at J n h A sh, split_ready Σ ok W typed below C.items tc.items x X at J n h A sh K e)

pub input_goal_is_typed : InputGoalIsTyped
input_goal_is_typed Σ ok W typed a m K e c q o tp t = input_goal_typed Σ ok W typed a m K e c q o tp t

pub instance_stays_typed : InstanceStaysTyped
instance_stays_typed Σ ok W typed C D p tp tb n i = stays_typed Σ ok W typed C D p tp tb i.typed_items i.values (instance_is_typed Σ ok W typed D.items C.items i.values n i.is_instance) i.same_family i.same_given i.same_local i.same_arguments

pub split_cases_stay_typed : SplitCasesStayTyped
split_cases_stay_typed Σ ok W typed below S C p tp tb n x Cs sp D l = let (h, k, a) = offer_of_case sp.split.answered.listed D l in by h.items h.moved h.head h.type (sp.split.answered.are_offers.each h k) a
  where
    by : (J : List Item) (m : ℕ) (h : Head) (A : LfType) → SplitHead Σ W C.items sp.split.answered.type J m h A → GivesCase Σ W S below C x sp.split.answered.type J m h A D → IsTypedBeside Σ W D p
    by J m h A sh c =
        let σ : ℕ → Image = λ i. c.values (i + (m + arguments_count A)) in
        let i : IsTypedInstance Σ D.items C.items σ = behind_all Σ D.items W below C.items sp.split.answered.type J m h A sh c.values c.is_instance in
        stays_typed Σ ok W typed C D p tp tb c.typed_items σ (instance_is_typed Σ ok W typed D.items C.items σ n i) c.family c.given c.local c.arguments

pub reached_stays_typed : ReachedStaysTyped
reached_stays_typed Σ ok W typed below ps goal p tp tb D r n =
    let i = reached_is_instance Σ ok W typed below ps goal tb.by_skeletons tb.local_typed D r n in
    instance_stays_typed Σ ok W typed goal D p tp tb (none_before Σ D.items goal.items i.values n i.is_instance) i

pub never_is_apart_beside : NeverIsApartBeside
never_is_apart_beside Σ ok W typed C nc p tp i t K e never s = shares_nothing Σ ok W typed C nc p tp i t s (subst (λ L. Never Σ [] (meet_store C p L)) (same_kind e t.of_family) never)

pub solved_shares_instance : SolvedSharesInstance
solved_shares_instance Σ ok W typed C nc p tp i t K e after s = solved_meets Σ ok W typed C nc p tp i t after (subst (λ L. Solved Σ (meet_store C p L) after) (same_kind e t.of_family) s)

pub solved_is_split : SolvedIsSplit
solved_is_split Σ ok W typed below C tc x X at J n h A sh nj K after s = solved_splits Σ ok W typed below C tc x X at J n h A sh nj K after s

pub input_goal_is_typed_case : InputGoalIsTypedCase
input_goal_is_typed_case Σ ok W typed a m K e c = let (t, l) = input_goal_alone Σ ok W typed a m K e c in (t, l, goal_without m K (λ i. i) [] tt)
