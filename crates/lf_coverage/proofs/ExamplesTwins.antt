-- Splits of cases with two block variables, head by head.
use Rattle.std.proofs.Common.{◌≡◌, ℕ, List, [], ◌∷◌, refl, sym, ap, ◌∙◌, subst, inl, inr}
use Rattle.std.specs.Prelude.{Bool, Option, true, false}
use Rattle.lf.specs.Syntax.{Head, Term, constant, variable, nil, LfType, base}
use Rattle.lf.specs.AtOnce.{in_front}
use Rattle.lf.specs.Substitution.{Image, keep, put, apply_image, substitute, substitute_type, reduce}
use Rattle.lf.specs.Typing.{Signature, TypeAt, HasType}
use Rattle.lf.specs.Variables.{target}
use Rattle.lf.specs.Worlds.{World}
use Rattle.lf.specs.Extension.{Extends}
use Rattle.lf_cases.specs.Case.{Item, Case, as_term, entries_in_front, items_context, IsGroundInstance}
use Rattle.lf_cases.specs.Candidates.{free_among}
use Rattle.lf_cases.specs.Reached.{SplitHead}
use Rattle.lf_cases.specs.Split.{IsDistinct}
use Rattle.lf_cases.proofs.Instances.{Begun, instance_typed}
use Rattle.lf_totality.specs.Examples.{exp, var}
use Rattle.lf_coverage.specs.ExamplesTwins.{Twins, twin_block, twin_worlds, twin_goal, one_entry, two_entries, same_entry, entry_alike, same, alike, up_to, TwinsAreSplit}
use Rattle.lf_coverage.specs.HeadOrder.{Offer}
use Rattle.lf_coverage.specs.Heads.{ArgumentsAreBelow, IsSplitBelow, GivesCase, GivesNone, IsHeadSplit, Keeps}
use Rattle.lf_coverage.specs.Listed.{Listed, no_offer, with_case, without_case}
use Rattle.lf_coverage.proofs.ExamplesGiven.{PutsIn, gives_case}
pub use Rattle.lf_coverage.proofs.ExamplesTwinsHeads.{alike_type, new_offer, old_offer, alike_offer, goal_offers, entry_offers, none_same_two, none_same_one, alike_offers, goal_in_order, entry_in_order, alike_in_order, whole, es, first_items, first_values, new_items, second_block, new_values, old_values, alike_items, alike_values, both_items, terms_first, terms_second, same_variable, first_type, first_same, new_type, new_same_values, old_type, old_same, alike_same, first_items_typed, first_instance, new_items_typed, new_instance, old_items_typed, old_instance, alike_items_typed, alike_instance}
use Rattle.lf_coverage.proofs.ExamplesTwinsHeads.{Each, each_same, InList}
use Rattle.lf_coverage.proofs.SameInstance.{instance_unique}

-- the cases that the heads make
abbrev pub first_made : PutsIn Twins twin_worlds up_to twin_goal exp first_items 2 exp one_entry
first_made = record { values = first_values; typed_items = first_items_typed; is_instance = first_instance; given = refl; local = refl; family = refl; arguments = refl }

abbrev pub new_made : PutsIn Twins twin_worlds up_to one_entry exp new_items 2 exp two_entries
new_made = record { values = new_values; typed_items = new_items_typed; is_instance = new_instance; given = refl; local = refl; family = refl; arguments = refl }

abbrev pub old_made : PutsIn Twins twin_worlds up_to one_entry exp one_entry.items 0 exp same_entry
old_made = record { values = old_values; typed_items = old_items_typed; is_instance = old_instance; given = refl; local = refl; family = refl; arguments = refl }

abbrev pub alike_made : PutsIn Twins twin_worlds up_to same_entry (same (var 2) (var 2)) same_entry.items 0 alike_type entry_alike
alike_made = record { values = alike_values; typed_items = alike_items_typed; is_instance = alike_instance; given = refl; local = refl; family = refl; arguments = refl }

abbrev Low : Each
Low J n h A = ArgumentsAreBelow up_to A

goal_low : (J : List Item) (n : ℕ) (h : Head) (A : LfType) → InList (new_offer twin_goal.items ∷ []) J n h A → Low J n h A
goal_low J n h A (inl e) = subst (ArgumentsAreBelow up_to) (sym (ap (λ o. o.type) e)) tt
goal_low J n h A (inr e) = absurd e

pub goal_below : (J : List Item) (n : ℕ) (h : Head) (A : LfType) → SplitHead Twins twin_worlds twin_goal.items exp J n h A → ArgumentsAreBelow up_to A
goal_below J n h A s = goal_low J n h A (goal_offers.every J n h A s)

entry_low : (J : List Item) (n : ℕ) (h : Head) (A : LfType) → InList (new_offer one_entry.items ∷ old_offer ∷ []) J n h A → Low J n h A
entry_low J n h A (inl e) = subst (ArgumentsAreBelow up_to) (sym (ap (λ o. o.type) e)) tt
entry_low J n h A (inr (inl e)) = subst (ArgumentsAreBelow up_to) (sym (ap (λ o. o.type) e)) tt
entry_low J n h A (inr (inr e)) = absurd e

pub entry_below : (J : List Item) (n : ℕ) (h : Head) (A : LfType) → SplitHead Twins twin_worlds one_entry.items exp J n h A → ArgumentsAreBelow up_to A
entry_below J n h A s = entry_low J n h A (entry_offers.every J n h A s)

pub alike_below : (I : List Item) (M N : Term) → ((j : ℕ) (A : LfType) → TypeAt (items_context I) j A → free_among I j ≡ false → target A ≡ 1 → ⊥) → (J : List Item) (n : ℕ) (h : Head) (A : LfType) → SplitHead Twins twin_worlds I (same M N) J n h A → ArgumentsAreBelow up_to A
alike_below I M N q = each_same I M N Low (refl, tt) q

-- the heads are offered to each case, whatever is answered to them
abbrev pub goal_answered : {Answer : LfType → Offer → Option Case → Type 0} {Cs : List Case} → Listed (Answer exp) (new_offer twin_goal.items ∷ []) Cs → IsSplitBelow Twins twin_worlds up_to Answer twin_goal 2 Cs
goal_answered l = record { answered = record { type = exp; at = (exp, (exp, refl, refl), refl); is_free = refl; offers = new_offer twin_goal.items ∷ []; are_offers = goal_offers; in_order = goal_in_order; listed = l }; takes_below = tt; arguments_below = goal_below }

abbrev pub entry_answered : {Answer : LfType → Offer → Option Case → Type 0} {Cs : List Case} → Listed (Answer exp) (new_offer one_entry.items ∷ old_offer ∷ []) Cs → IsSplitBelow Twins twin_worlds up_to Answer one_entry 1 Cs
entry_answered l = record { answered = record { type = exp; at = (exp, refl, refl); is_free = refl; offers = new_offer one_entry.items ∷ old_offer ∷ []; are_offers = entry_offers; in_order = entry_in_order; listed = l }; takes_below = tt; arguments_below = entry_below }

abbrev pub two_answered : {Answer : LfType → Offer → Option Case → Type 0} {Cs : List Case} → Listed (Answer (same (var 4) (var 2))) (alike_offer two_entries.items ∷ []) Cs → IsSplitBelow Twins twin_worlds up_to Answer two_entries 0 Cs
two_answered l = record { answered = record { type = same (var 4) (var 2); at = refl; is_free = refl; offers = alike_offer two_entries.items ∷ []; are_offers = alike_offers two_entries.items (var 4) (var 2) none_same_two; in_order = alike_in_order two_entries.items (var 4) (var 2); listed = l }; takes_below = tt; arguments_below = alike_below two_entries.items (var 4) (var 2) none_same_two }

abbrev pub alike_answered : {Answer : LfType → Offer → Option Case → Type 0} {Cs : List Case} → Listed (Answer (same (var 2) (var 2))) (alike_offer same_entry.items ∷ []) Cs → IsSplitBelow Twins twin_worlds up_to Answer same_entry 0 Cs
alike_answered l = record { answered = record { type = same (var 2) (var 2); at = refl; is_free = refl; offers = alike_offer same_entry.items ∷ []; are_offers = alike_offers same_entry.items (var 2) (var 2) none_same_one; in_order = alike_in_order same_entry.items (var 2) (var 2); listed = l }; takes_below = tt; arguments_below = alike_below same_entry.items (var 2) (var 2) none_same_one }

module _ (S : ℕ → Bool) where
  module _ (Σ : Signature) {G : List LfType} (w : World Σ twin_worlds S G) where
    keeps_first : (τ : ℕ → Image) (g : IsGroundInstance w first_items τ) → as_term (base 0) (τ 4) ≡ substitute reduce τ (var 1) → Keeps w first_items τ g one_entry.items first_values
    keeps_first τ (θ, υ, (Z, υ1, (Y, υ2, (X, ρ, t, hx, dx), hy, dy), hz, dz), b, o, e) s = record {
      new_values = in_front (put (base 1) Z) (in_front (put (base 0) Y) (entries_in_front es θ keep));
      is_ground = (Z, in_front (put (base 0) Y) (entries_in_front es θ keep), (Y, entries_in_front es θ keep, (θ, keep, tt, b, (λ i A g. absurd g), refl), hy, refl), subst (λ A. HasType Σ G Z A) (first_type X Y Z θ τ υ υ1 υ2 ρ e dz dy dx s) hz, refl);
      is_distinct = ((λ f. f), tt);
      first_stays = λ B φ f. f;
      same = first_same X Y Z θ τ υ υ1 υ2 ρ e dz dy dx s;
    }

    keeps_new : (τ : ℕ → Image) (g : IsGroundInstance w new_items τ) → IsDistinct w new_items τ g → as_term (base 0) (τ 3) ≡ substitute reduce τ (var 1) → Keeps w new_items τ g two_entries.items new_values
    keeps_new τ (θ, υ, (Z, υ1, (Y, υ2, (φ, ρ, t, c, o', e'), hy, dy), hz, dz), b, o, e) d s = record {
      new_values = in_front (put (base 1) Z) (entries_in_front es θ (entries_in_front es φ keep));
      is_ground = (Z, entries_in_front es θ (entries_in_front es φ keep), (θ, entries_in_front es φ keep, (φ, keep, tt, c, (λ i A g. absurd g), refl), b, (λ i A g. absurd g), refl), subst (λ A. HasType Σ G Z A) (new_type Y Z θ φ τ υ υ1 υ2 ρ e dz dy e' s) hz, refl);
      is_distinct = (d.0, ((λ f. f), tt));
      first_stays = λ B φ f. f;
      same = new_same_values Y Z θ φ τ υ υ1 υ2 ρ e dz dy e' s;
    }

    keeps_old : (τ : ℕ → Image) (g : IsGroundInstance w one_entry.items τ) → as_term (base 0) (τ 1) ≡ substitute reduce τ (var 3) → Keeps w one_entry.items τ g same_entry.items old_values
    keeps_old τ (Z, υ1, (Y, υ2, (φ, ρ, t, c, o', e'), hy, dy), hz, dz) s = record {
      new_values = in_front (put (base 1) Z) (entries_in_front es φ keep);
      is_ground = (Z, entries_in_front es φ keep, (φ, keep, tt, c, (λ i A g. absurd g), refl), subst (λ A. HasType Σ G Z A) (old_type Y Z φ τ υ1 υ2 ρ dz dy e' s) hz, refl);
      is_distinct = ((λ f. f), tt);
      first_stays = λ B φ f. f;
      same = old_same Y Z φ τ υ1 υ2 ρ dz dy e' s;
    }

    -- alike b.x for Z
    keeps_alike : (τ : ℕ → Image) (g : IsGroundInstance w alike_items τ) → as_term (base 1) (τ 1) ≡ substitute reduce τ (alike (var 0)) → substitute_type reduce τ (same (var 3) (var 3)) ≡ substitute_type reduce τ (same (var 0) (var 0)) → Keeps w alike_items τ g entry_alike.items alike_values
    keeps_alike τ (H, υ, (Z, υ1, (φ, ρ, t, c, o', e'), hz, dz), hh, dh) s st = record {
      new_values = entries_in_front es φ keep;
      is_ground = (φ, keep, tt, c, (λ i A g. absurd g), refl);
      is_distinct = ((λ f. f), tt);
      first_stays = λ B φ f. f;
      same = alike_same H Z φ τ υ υ1 ρ dh dz e' s (sym (ap (λ k. apply_image reduce (k 0) nil) dh) ∙ sym (terms_first st) ∙ ap (λ y. apply_image reduce y nil) (ap (λ k. k 3) dh ∙ ap (λ k. k 2) dz ∙ ap (λ k. k 1) e'));
    }

    -- two instances aren't one
    none_alike : Extends S Twins Σ → (τ : ℕ → Image) (g : IsGroundInstance w both_items τ) → IsDistinct w both_items τ g → substitute_type reduce τ (same (var 5) (var 3)) ≡ substitute_type reduce τ (same (var 0) (var 0)) → ⊥
    none_alike x τ (H, υ, (Z, υ1, (θ, ρ, (φ, ρ', t, c, o', e'), b, o, e), hz, dz), hh, dh) d st =
        let tb : Begun Σ x.ok G twin_block twin_block.entries θ = instance_typed Σ x.ok w twin_block θ b in
        let tc : Begun Σ x.ok G twin_block twin_block.entries φ = instance_typed Σ x.ok w twin_block φ c in
        let (j, kj) = tb.kept 1 refl in
        let (k, kk) = tc.kept 1 refl in
        let vc : τ 5 ≡ keep k = ap (λ f. f 5) dh ∙ ap (λ f. f 4) dz ∙ ap (λ f. f 3) e ∙ ap (λ f. f 1) e' ∙ kk in
        let vb : τ 3 ≡ keep j = ap (λ f. f 3) dh ∙ ap (λ f. f 2) dz ∙ ap (λ f. f 1) e ∙ kj in
        let q : var k ≡ var j = sym (ap (λ y. apply_image reduce y nil) vc) ∙ terms_first st ∙ sym (terms_second st) ∙ ap (λ y. apply_image reduce y nil) vb in
        d.0 (inl (refl, (instance_unique Σ w twin_block twin_block θ φ b c 1 1 j refl refl kj (kk ∙ ap keep (same_variable q))).1))

  first_given : GivesCase Twins twin_worlds S up_to twin_goal 2 exp first_items 2 (variable 1) exp one_entry
  first_given = gives_case first_made 2 (variable 1) S (λ Σ x G w τ t. keeps_first Σ w τ t.is_ground t.same)

  new_given : GivesCase Twins twin_worlds S up_to one_entry 1 exp new_items 2 (variable 1) exp two_entries
  new_given = gives_case new_made 1 (variable 1) S (λ Σ x G w τ t. keeps_new Σ w τ t.is_ground t.is_distinct t.same)

  old_given : GivesCase Twins twin_worlds S up_to one_entry 1 exp one_entry.items 0 (variable 3) exp same_entry
  old_given = gives_case old_made 1 (variable 3) S (λ Σ x G w τ t. keeps_old Σ w τ t.is_ground t.same)

  alike_given : GivesCase Twins twin_worlds S up_to same_entry 0 (same (var 2) (var 2)) same_entry.items 0 (constant 0) alike_type entry_alike
  alike_given = gives_case alike_made 0 (constant 0) S (λ Σ x G w τ t. keeps_alike Σ w τ t.is_ground t.same t.same_type)

  alike_none : GivesNone Twins twin_worlds S up_to 0 (same (var 4) (var 2)) two_entries.items 0 (constant 0) alike_type
  alike_none Σ x G w τ t = none_alike Σ w x τ t.is_ground t.is_distinct t.same_type

  pub goal_split : S 0 ≡ true → IsHeadSplit Twins twin_worlds S up_to twin_goal 2 (one_entry ∷ [])
  goal_split z = record { split = goal_answered (with_case first_given no_offer); families = z }

  pub entry_split : S 0 ≡ true → IsHeadSplit Twins twin_worlds S up_to one_entry 1 (two_entries ∷ same_entry ∷ [])
  entry_split z = record { split = entry_answered (with_case new_given (with_case old_given no_offer)); families = z }

  pub two_split : S 1 ≡ true → IsHeadSplit Twins twin_worlds S up_to two_entries 0 []
  two_split o = record { split = two_answered (without_case alike_none no_offer); families = o }

  pub alike_split : S 1 ≡ true → IsHeadSplit Twins twin_worlds S up_to same_entry 0 (entry_alike ∷ [])
  alike_split o = record { split = alike_answered (with_case alike_given no_offer); families = o }

pub twins_are_split : TwinsAreSplit
twins_are_split S c z o = (goal_split S z, entry_split S z, two_split S o, alike_split S o)
