-- What lasts is total, and goes on through every later declaration that is accepted.
use Rattle.lf_checks.specs.Marks.{Mark}
use Rattle.lf_checks.specs.Clause.{outside}
use Rattle.lf_checks.specs.Descent.{GroupDescends, SameCall, EqualCall, LeadsTo, no_call, after_call, CallsLead, stay, step_on}
use Rattle.lf_checks.specs.Order.{Order, KeepsVariables}
use Rattle.lf_totality.specs.Facts.{Facts, FactsHold, AreKnown, GroupCheckedWith}
use Rattle.lf_totality.specs.Sizes.{CallsDrop}
use Rattle.lf_totality.specs.Total.{Lasting, Total}
use Rattle.lf_totality.specs.Group.{Checked, GroupChecked, GroupCheckedBy, GroupCheckedBySizes, IsFrozenBy, IsRight}
use Rattle.std.proofs.Common.{◌≡◌, refl, ℕ, List, inl}
use Rattle.std.specs.Prelude.{Bool, true}
use Rattle.lf.specs.Typing.{Signature, IsSignature}
use Rattle.lf.specs.Subordination.{SelfContained, Block, Member}
use Rattle.lf.specs.Variables.{target, everything, Within}
use Rattle.lf.specs.Extension.{Extends}
use Rattle.lf.proofs.Conservativity.{SelfContained-extends}
use Rattle.lf.proofs.Worlds.{world_for_callee}
use Rattle.lf.proofs.ExtensionTyping.{extension_over_less}
use Rattle.lf_totality.proofs.Drops.{calls_drop}
use Rattle.lf_totality.proofs.Lasting.{lasting_on}
use Rattle.lf_totality.proofs.Theorem.{CallTest, CallsDropBy, IsSoundTest, conclude}

pub Extends-self : (S : ℕ → Bool) (Σ : Signature) → IsSignature Σ → Extends S Σ Σ
Extends-self S Σ ok = record { ok = ok; types_stay = λ c A e. e; kinds_stay = λ a K e. e; no_new = λ c A e s. e }

pub lasting_total : (Σ : Signature) (a : ℕ) (m : List Mark) (W : List Block) (S : ℕ → Bool) → IsSignature Σ → Lasting Σ a m W S → Total Σ a m W
lasting_total Σ a m W S ok l = (l.0, λ G w. l.1 Σ (Extends-self S Σ ok) G (world_for_callee Σ W W everything S (λ f s. refl) (λ B i. inl i) w))

-- a set with more families has fewer extensions and contexts
pub lasting_more : (Σ : Signature) (a : ℕ) (m : List Mark) (W : List Block) (S T : ℕ → Bool) → Within S T → Lasting Σ a m W S → Lasting Σ a m W T
lasting_more Σ a m W S T h l = (l.0, λ Σ' x G w. l.1 Σ' (extension_over_less T S Σ Σ' h x) G (world_for_callee Σ' W W T S h (λ B i. inl i) w))

-- a self-contained set stays so in a legal extension over a set that holds it
pub self_contained_on : (Σ Σ' : Signature) (W : List Block) (S T : ℕ → Bool) → Within S T → Extends T Σ Σ' → SelfContained Σ W S → SelfContained Σ' W S
self_contained_on Σ Σ' W S T h x s = SelfContained-extends Σ Σ' W S (extension_over_less T S Σ Σ' h x) s

-- so the frozen families of a record
pub frozen_on : (Σ Σ' : Signature) (R : Checked) → Extends R.frozen Σ Σ' → IsFrozenBy Σ R → IsFrozenBy Σ' R
frozen_on Σ Σ' R x z = record {
  families_frozen = z.families_frozen;
  targets_frozen = z.targets_frozen;
  below_frozen = z.below_frozen;
  self_contained = self_contained_on Σ Σ' R.worlds R.frozen R.frozen (λ f e. e) x z.self_contained;
}

-- A record stays right where nothing is added to its frozen families.
pub record_on : (Σ Σ' : Signature) (R : Checked) → Extends R.frozen Σ Σ' → IsRight Σ R → IsRight Σ' R
record_on Σ Σ' R x r = record {
  lasts = λ f i. lasting_on Σ Σ' f (R.marks f) R.worlds (R.below f) (extension_over_less R.frozen (R.below f) Σ Σ' (r.frozen.below_frozen f i) x) (r.lasts f i);
  self_contained = λ f i. self_contained_on Σ Σ' R.worlds (R.below f) R.frozen (r.frozen.below_frozen f i) x (r.self_contained f i);
  frozen = frozen_on Σ Σ' R x r.frozen;
}

-- what is checked of a group but for its calls
pub with_calls : (P Q : Type 0) (Σ : Signature) (R : Checked) (order : ℕ → Order) (totals : List Checked) → (P → Q) → GroupCheckedBy P Σ R order totals → GroupCheckedBy Q Σ R order totals
with_calls P Q Σ R order totals on gc = record {
  marked = gc.marked;
  blocks_typed = gc.blocks_typed;
  same_before = gc.same_before;
  itself_below = gc.itself_below;
  self_contained = gc.self_contained;
  frozen = gc.frozen;
  orders_at_inputs = gc.orders_at_inputs;
  well_moded = gc.well_moded;
  well_worlded = gc.well_worlded;
  callees = gc.callees;
  descending = on gc.descending;
  covered_inputs = gc.covered_inputs;
  covered_outputs = gc.covered_outputs;
}

-- the record of a group whose sizes drop by a sound test is right
record_by_test : (Σ : Signature) (ok : IsSignature Σ) (R : Checked) (order : ℕ → Order) (totals : List Checked) (t : CallTest) → IsSoundTest t Σ R → GroupCheckedBy (CallsDropBy t Σ R order) Σ R order totals → ((Q : Checked) → Member Q totals → IsRight Σ Q) → IsRight Σ R
record_by_test Σ ok R order totals t sound gc rs = record {
  lasts = conclude Σ ok R order totals t sound gc rs;
  self_contained = gc.self_contained;
  frozen = gc.frozen;
}

-- The orders alone are a sound test: nothing is known but that the fixed variables are variables.
abbrev orders_alone : Signature → Checked → (ℕ → Order) → CallTest
orders_alone Σ R order = record { known = λ c i. KeepsVariables (outside c.type c.fixed); equal = λ c i A. SameCall order c A; leads = LeadsTo Σ R.worlds order R.families }

leads_further : (Σ : Signature) (W : List Block) (order : ℕ → Order) (group : List ℕ) (a b c : ℕ) → LeadsTo Σ W order group a b → EqualCall Σ W order group b c → LeadsTo Σ W order group a c
leads_further Σ W order group a b c no_call e = after_call e no_call
leads_further Σ W order group a b c (after_call {b = d} q l) e = after_call q (leads_further Σ W order group d b c l e)

orders_sound : (Σ : Signature) (R : Checked) (order : ℕ → Order) → IsSoundTest (orders_alone Σ R order) Σ R
orders_sound Σ R order = record {
  holds = λ c k g i A v h σ called. called.keeps;
  stays = λ a. no_call;
  goes_on = λ a c k g i A v h same l. leads_further Σ R.worlds order R.families a (target c.type) (target A) l (record { clause = c; is_clause = k; caller = refl; caller_in = g; index = i; subgoal = A; is_subgoal = v; callee = refl; callee_in = h; same = same });
}

-- the record of a group whose sizes drop is right
pub record_by_sizes : (Σ : Signature) (ok : IsSignature Σ) (R : Checked) (order : ℕ → Order) (totals : List Checked) → GroupCheckedBySizes Σ R order totals → ((Q : Checked) → Member Q totals → IsRight Σ Q) → IsRight Σ R
record_by_sizes Σ ok R order totals gc rs = record_by_test Σ ok R order totals (orders_alone Σ R order) (orders_sound Σ R order) gc rs

-- Facts that hold are a sound test.
abbrev facts_test : Facts → (ℕ → ℕ → Bool) → CallTest
facts_test facts equal = record { known = AreKnown facts; equal = λ c i A. equal (target c.type) (target A) ≡ true; leads = CallsLead equal }

leads_one_more : (equal : ℕ → ℕ → Bool) (a b c : ℕ) → CallsLead equal a b → equal b c ≡ true → CallsLead equal a c
leads_one_more equal a b c stay e = step_on e stay
leads_one_more equal a b c (step_on {b = d} q l) e = step_on q (leads_one_more equal d b c l e)

facts_sound : (Σ : Signature) (R : Checked) (facts : Facts) (equal : ℕ → ℕ → Bool) → FactsHold facts Σ R → IsSoundTest (facts_test facts equal) Σ R
facts_sound Σ R facts equal hold = record {
  holds = λ c k g i A v h σ called. (called.keeps, hold c k g i A v h σ called);
  stays = λ a. stay;
  goes_on = λ a c k g i A v h e l. leads_one_more equal a (target c.type) (target A) l e;
}

-- the record of a group whose sizes drop by facts is right
pub record_with_facts : (Σ : Signature) (ok : IsSignature Σ) (facts : Facts) (equal : ℕ → ℕ → Bool) (R : Checked) (order : ℕ → Order) (totals : List Checked) → FactsHold facts Σ R → GroupCheckedWith facts equal Σ R order totals → ((Q : Checked) → Member Q totals → IsRight Σ Q) → IsRight Σ R
record_with_facts Σ ok facts equal R order totals hold gc rs = record_by_test Σ ok R order totals (facts_test facts equal) (facts_sound Σ R facts equal hold) gc rs

-- where calls descend, sizes drop
pub by_sizes : (Σ : Signature) (R : Checked) (order : ℕ → Order) (totals : List Checked) → GroupChecked Σ R order totals → GroupCheckedBySizes Σ R order totals
by_sizes Σ R order totals gc = with_calls (GroupDescends Σ R.worlds order R.families) (CallsDrop Σ R.worlds order R.families) Σ R order totals (calls_drop Σ R.worlds order R.families) gc

-- the record of a checked group is right
pub record_made : (Σ : Signature) (ok : IsSignature Σ) (R : Checked) (order : ℕ → Order) (totals : List Checked) → GroupChecked Σ R order totals → ((Q : Checked) → Member Q totals → IsRight Σ Q) → IsRight Σ R
record_made Σ ok R order totals gc rs = record_by_sizes Σ ok R order totals (by_sizes Σ R order totals gc) rs
