-- The checks of both groups have passed, so that a record is concluded of each.
use Rattle.std.proofs.Common.{◌≡◌, ℕ, List, [], ◌∷◌, ◌++◌, refl, sym, ap, subst, inl, inr, arith}
use Rattle.std.specs.Prelude.{Bool, true, false, ◌⊎◌}
use Rattle.lf.specs.Syntax.{LfType}
use Rattle.lf.specs.Entries.{Entry, signature_of}
use Rattle.lf.specs.Variables.{target}
use Rattle.lf.specs.Subordination.{Block, Member, Below}
use Rattle.lf_checks.specs.Clause.{IsSubgoal}
use Rattle.lf_checks.specs.Descent.{CallDescends}
use Rattle.lf_checks.specs.Ground.{Subgoals}
use Rattle.lf_checks.specs.Marks.{input_places}
use Rattle.lf_checks.specs.ModeRows.{ModeRow, marks_of}
use Rattle.lf_checks.specs.Modes.{WellModed}
use Rattle.lf_checks.specs.Order.{IsAtPlaces}
use Rattle.lf_checks.specs.Tests.{is_in}
use Rattle.lf_checks.specs.Worlded.{WellWorlded}
use Rattle.lf_cases.specs.Cover.{CoveredInputs, CoveredOutputs}
use Rattle.lf_totality.specs.Checks.{AreAllBelow, ChecksPass, MayBeCalled}
use Rattle.lf_totality.specs.Group.{Checked}
use Rattle.lf_totality.specs.Record.{AreBelow, IsRecordOf, blocks_seen}
use Rattle.lf_totality.specs.Total.{HasTotalMarks}
use Rattle.tw_total.specs.Passed.{HavePassed}
use Rattle.tw_total.specs.View.{OrderRow, families_of, order_for}
use Rattle.tests_total.specs.Declared.{declared}
use Rattle.tests_total.specs.Groups.{block_named, mode_rows, group_of, IsFirst}
use Rattle.tests_total.proofs.Entries.{Declarations}
use Rattle.tests_total.proofs.Clauses.{ArePlain, plain_typed, of_ok, of_yes, yes_c, marks, no_subgoal, the_subgoal, ok_sound, yes_sound, ok_moded, yes_moded, ok_worlded, yes_worlded}
use Rattle.tests_total.proofs.Coverage.{below_ok, in_below, ok_below, ok_covered, yes_covered, yes_outputs}

-- what holds of a family holds of each of a group of it alone
one_family : (P : ℕ → Type 0) (g : ℕ) → P g → (f : ℕ) → Member f (g ∷ []) → P f
one_family P g a f (inl e) = subst P (sym e) a
one_family P g a f (inr m) = absurd m

-- the group of ok, in the worlds of the block b
abbrev first_worlds : List Block
first_worlds = block_named 98 ∷ []

first_plain : ArePlain first_worlds
first_plain B (inl e) = (98, e)
first_plain B (inr m) = absurd m

first_checks : ChecksPass Declarations (3 ∷ []) marks first_worlds (order_for (group_of 3)) [] (λ f. is_in f (3 ∷ [])) first_worlds
first_checks = record {
  marked = one_family (λ f. HasTotalMarks Declarations f (marks f)) 3 (ok_sound, tt);
  blocks_typed = plain_typed first_worlds first_plain;
  same_before = λ Q q. absurd q;
  orders_at_inputs = one_family (λ f. IsAtPlaces (input_places (marks f)) (order_for (group_of 3) f)) 3 refl;
  group_moded = one_family (λ f. is_in f (3 ∷ []) ≡ true) 3 refl;
  well_moded = of_ok first_worlds first_plain (WellModed Declarations marks (λ f. is_in f (3 ∷ []))) (ok_moded (λ f. is_in f (3 ∷ [])));
  well_worlded = of_ok first_worlds first_plain (WellWorlded Declarations first_worlds) (ok_worlded first_worlds);
  blocks_looked_at = λ B i. i;
  callees = of_ok first_worlds first_plain (λ c. (i : ℕ) (A : LfType) → IsSubgoal c i A → MayBeCalled Declarations (3 ∷ []) marks first_worlds [] first_worlds (target A)) (λ i A h. absurd (no_subgoal i A h));
  descending = of_ok first_worlds first_plain (λ c. (i : ℕ) (A : LfType) → IsSubgoal c i A → Member (target A) (3 ∷ []) → CallDescends Declarations first_worlds (order_for (group_of 3)) (3 ∷ []) c A) (λ i A h. absurd (no_subgoal i A h));
  covered_inputs = one_family (λ f. (S : ℕ → Bool) × AreAllBelow Declarations first_worlds S f × CoveredInputs Declarations marks first_worlds S f) 3 (below_ok, in_below first_worlds, ok_covered first_worlds first_plain);
  covered_outputs = of_ok first_worlds first_plain (λ c. Subgoals marks c (λ U A. (S : ℕ → Bool) × AreAllBelow Declarations first_worlds S (target c.type) × CoveredOutputs Declarations marks first_worlds S c U A) (λ U. Unit {0})) tt;
}

-- what holds of these holds of what is equal to them
carry : (P : List Entry → List OrderRow → List ModeRow → List Block → List Checked → Type 0) {es es' : List Entry} {rows rows' : List OrderRow} {ms ms' : List ModeRow} {W W' : List Block} {Qs Qs' : List Checked} → es ≡ es' → rows ≡ rows' → ms ≡ ms' → W ≡ W' → Qs ≡ Qs' → P es' rows' ms' W' Qs' → P es rows ms W Qs
carry P {es = es} {es' = es'} {rows = rows} {rows' = rows'} {ms = ms} {ms' = ms'} {W = W} {W' = W'} {Qs = Qs} {Qs' = Qs'} e g m w q p = subst (λ es. P es rows ms W Qs) (sym e) (subst (λ rows. P es' rows ms W Qs) (sym g) (subst (λ ms. P es' rows' ms W Qs) (sym m) (subst (λ W. P es' rows' ms' W Qs) (sym w) (subst (P es' rows' ms' W') (sym q) p))))

abbrev Passes : List Entry → List OrderRow → List ModeRow → List Block → List Checked → Type 0
Passes es rows ms W Qs = HavePassed (signature_of es) rows (marks_of ms) W Qs

pub first_passes : {es : List Entry} {rows : List OrderRow} {ms : List ModeRow} {W : List Block} {Qs : List Checked} → es ≡ declared → rows ≡ group_of 3 → ms ≡ mode_rows → W ≡ block_named 98 ∷ [] → Qs ≡ [] → HavePassed (signature_of es) rows (marks_of ms) W Qs
first_passes e g m w q = carry Passes e g m w q ((λ f. is_in f (3 ∷ [])), first_worlds, first_checks)

pub first_is : {es : List Entry} {rows : List OrderRow} {ms : List ModeRow} {W : List Block} {Qs : List Checked} {R : Checked} → es ≡ declared → rows ≡ group_of 3 → ms ≡ mode_rows → W ≡ block_named 98 ∷ [] → Qs ≡ [] → IsRecordOf (signature_of es) (families_of rows) (marks_of ms) W Qs R → IsFirst R
first_is {R = R} e g m w q r = carry (λ es rows ms W Qs. IsRecordOf (signature_of es) (families_of rows) (marks_of ms) W Qs R) (sym e) (sym g) (sym m) (sym w) (sym q) r

-- The group of yes, in the worlds of the block d, beside the record of ok: a call of a family whose worlds are others.
module _ (Q : Checked) (is : IsFirst Q) where
  abbrev second_worlds : List Block
  second_worlds = block_named 100 ∷ []

  abbrev seen : List Block
  seen = blocks_seen second_worlds (Q ∷ [])

  second_plain : ArePlain second_worlds
  second_plain B (inl e) = (100, e)
  second_plain B (inr m) = absurd m

  seen_plain : ArePlain seen
  seen_plain B (inl e) = (100, e)
  seen_plain B (inr m) = first_plain B (subst (λ W. Member B (W ++ [])) is.worlds m)

  -- ok is of the earlier record, and no entry of d is below it
  ok_called : MayBeCalled Declarations (5 ∷ []) marks second_worlds (Q ∷ []) seen 3
  ok_called = inr (Q, inl refl, subst (Member 3) (sym is.families) (inl refl), ap (λ m. m 3) is.marks, (below_ok, ok_below seen seen_plain, served))
    where
      served : (B : Block) → Member B second_worlds → Member B Q.worlds ⊎ ((E : LfType) → Member E B.entries → below_ok (target E) ≡ false)
      served B (inl e) = inr (λ E i. only E (subst (λ B. Member E B.entries) e i))
        where
          only : (E : LfType) → Member E (block_named 100).entries → below_ok (target E) ≡ false
          only E (inl e) = ap (λ A. below_ok (target A)) e
          only E (inr m) = absurd m
      served B (inr m) = absurd m

  not_again : (P : Checked) → Member P (Q ∷ []) → Member 5 P.families → ⊥
  not_again P (inl e) m = apart (subst (Member 5) (ap (λ P. P.families) e) m)
    where
      apart : Member 5 Q.families → ⊥
      apart m = differ (subst (Member 5) is.families m)
        where
          differ : Member {A = ℕ} 5 (3 ∷ []) → ⊥
          differ (inl e) = omega arith
          differ (inr m) = m
  not_again P (inr i) m = absurd i

  outside_group : Member {A = ℕ} 3 (5 ∷ []) → ⊥
  outside_group (inl e) = omega arith
  outside_group (inr m) = m

  second_checks : ChecksPass Declarations (5 ∷ []) marks second_worlds (order_for (group_of 5)) (Q ∷ []) (λ f. is_in f (5 ∷ [])) seen
  second_checks = record {
    marked = one_family (λ f. HasTotalMarks Declarations f (marks f)) 5 (yes_sound, tt);
    blocks_typed = plain_typed seen seen_plain;
    same_before = λ P p f g h. absurd (not_again P p (one_family (λ f. Member f P.families → Member 5 P.families) 5 (λ h. h) f g h));
    orders_at_inputs = one_family (λ f. IsAtPlaces (input_places (marks f)) (order_for (group_of 5) f)) 5 refl;
    group_moded = one_family (λ f. is_in f (5 ∷ []) ≡ true) 5 refl;
    well_moded = of_yes second_worlds second_plain (WellModed Declarations marks (λ f. is_in f (5 ∷ []))) (yes_moded (λ f. is_in f (5 ∷ [])));
    well_worlded = of_yes second_worlds second_plain (WellWorlded Declarations second_worlds) (yes_worlded second_worlds);
    blocks_looked_at = λ B i. i;
    callees = of_yes second_worlds second_plain (λ c. (i : ℕ) (A : LfType) → IsSubgoal c i A → MayBeCalled Declarations (5 ∷ []) marks second_worlds (Q ∷ []) seen (target A)) (λ i A h. subst (MayBeCalled Declarations (5 ∷ []) marks second_worlds (Q ∷ []) seen) (sym (ap target (the_subgoal i A h))) ok_called);
    descending = of_yes second_worlds second_plain (λ c. (i : ℕ) (A : LfType) → IsSubgoal c i A → Member (target A) (5 ∷ []) → CallDescends Declarations second_worlds (order_for (group_of 5)) (5 ∷ []) c A) (λ i A h m. absurd (outside_group (subst (λ f. Member f (5 ∷ [])) (ap target (the_subgoal i A h)) m)));
    covered_inputs = one_family (λ f. (S : ℕ → Bool) × AreAllBelow Declarations seen S f × CoveredInputs Declarations marks second_worlds S f) 5 ((λ b. false), (λ b h. absurd cc), yes_covered second_worlds (λ b. false));
    covered_outputs = of_yes second_worlds second_plain (λ c. Subgoals marks c (λ U A. (S : ℕ → Bool) × AreAllBelow Declarations seen S (target c.type) × CoveredOutputs Declarations marks second_worlds S c U A) (λ U. Unit {0})) outputs;
  }
    where
      outputs : Subgoals marks yes_c (λ U A. (S : ℕ → Bool) × AreAllBelow Declarations seen S 5 × CoveredOutputs Declarations marks second_worlds S yes_c U A) (λ U. Unit {0})
      outputs = Rattle.lf_totality.proofs.Stays.each_on marks yes_c (λ U A. CoveredOutputs Declarations marks second_worlds (λ b. false) yes_c U A) (λ U A. (S : ℕ → Bool) × AreAllBelow Declarations seen S 5 × CoveredOutputs Declarations marks second_worlds S yes_c U A) (λ U. Unit {0}) (λ U A o. ((λ b. false), (λ b h. absurd cc), o)) 2 0 (Rattle.lf_checks.specs.Ground.ground_first marks yes_c) (yes_outputs second_worlds (λ b. false))

  second_below : AreBelow Declarations (Q ∷ [])
  second_below P (inl e) g m b h = subst (λ W. Below Declarations (W ++ []) b g) (sym is.worlds) ((is.below g (subst (Member g) is.families (subst (λ P. Member g P.families) e m)) b).0 (subst (λ P. P.below g b ≡ true) e h))
  second_below P (inr i) g m b h = absurd i

pub second_passes : {es : List Entry} {rows : List OrderRow} {ms : List ModeRow} {W : List Block} {Qs : List Checked} → es ≡ declared → rows ≡ group_of 5 → ms ≡ mode_rows → W ≡ block_named 100 ∷ [] → (Q : Checked) × IsFirst Q × (Qs ≡ Q ∷ []) → HavePassed (signature_of es) rows (marks_of ms) W Qs
second_passes e g m w (Q, is, q) = carry Passes e g m w q ((λ f. is_in f (5 ∷ [])), seen Q is, second_checks Q is)

pub first_is_below : {es : List Entry} {Qs : List Checked} → es ≡ declared → (Q : Checked) × IsFirst Q × (Qs ≡ Q ∷ []) → AreBelow (signature_of es) Qs
first_is_below {Qs = Qs} e (Q, is, q) = subst (λ es. AreBelow (signature_of es) Qs) (sym e) (subst (AreBelow Declarations) (sym q) (second_below Q is))
