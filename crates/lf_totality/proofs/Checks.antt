-- What the checks of a group have found is what is asked of its record.
use Rattle.std.proofs.Common.{◌≡◌, ℕ, zero, suc, List, [], ◌∷◌, refl, sym, ap, subst, inl, inr, true≢false}
use Rattle.std.specs.Prelude.{◌⊎◌, Bool, true, false}
use Rattle.lf.specs.Syntax.{LfType}
use Rattle.lf.specs.Typing.{Signature, IsSignature}
use Rattle.lf.specs.Variables.{target, Within, same_number, everything}
use Rattle.lf.specs.Entries.{quantifiers}
use Rattle.lf.specs.Subordination.{Block, Member, IsDeclared}
use Rattle.lf_checks.specs.Tests.{either, is_in}
use Rattle.lf_checks.specs.Clause.{Clause, IsClause, IsSubgoal}
use Rattle.lf_checks.specs.Marks.{Mark}
use Rattle.lf_checks.specs.Ground.{ground_from}
use Rattle.lf_checks.specs.Worlded.{BlocksServe}
use Rattle.lf_checks.specs.Order.{Order}
use Rattle.lf_cases.specs.Cover.{CoveredOutputs}
use Rattle.lf_cases.proofs.Subgoals.{below_grows}
use Rattle.lf_cases.proofs.OverMore.{inputs_over_more, outputs_over_more}
use Rattle.lf_totality.specs.Group.{Checked, IsRight, IsCallee, GroupChecked}
use Rattle.lf_totality.specs.Record.{blocks_of, blocks_seen, IsRecordOf, AreBelow}
use Rattle.lf_totality.specs.Checks.{AreAllBelow, MayBeCalled, ChecksPass}
use Rattle.lf_totality.proofs.After.{record_made}
use Rattle.lf_totality.proofs.Fewer.{fewer_moded, serve_fewer}
use Rattle.lf_totality.proofs.Records.{member_left, member_right, callees_held, record_freezes}
use Rattle.lf_totality.proofs.Stays.{each_on}

same_is : (i j : ℕ) → same_number i j ≡ true → i ≡ j
same_is zero zero e = refl
same_is zero (suc j) e = absurd (true≢false (sym e))
same_is (suc i) zero e = absurd (true≢false (sym e))
same_is (suc i) (suc j) e = ap suc (same_is i j e)

in_member : (y : ℕ) (xs : List ℕ) → is_in y xs ≡ true → Member y xs
in_member y [] e = absurd (true≢false (sym e))
in_member y (x ∷ xs) e = go (in_member y xs) (same_number y x) refl e
  where
    go : (is_in y xs ≡ true → Member y xs) → (t : Bool) → same_number y x ≡ t → either t (is_in y xs) ≡ true → Member y (x ∷ xs)
    go r true q e = inl (same_is y x q)
    go r false q e = inr (r e)

-- where the record's own families, marks and worlds are those checked
module _ (Σ : Signature) (ok : IsSignature Σ) (R : Checked) (order : ℕ → Order) (totals : List Checked) (moded : ℕ → Bool) (V : List Block) (p : ChecksPass Σ R.families R.marks R.worlds order totals moded V) (before : AreBelow Σ totals) (is : IsRecordOf Σ R.families R.marks R.worlds totals R) where
  within : (S : ℕ → Bool) (f : ℕ) → Member f R.families → AreAllBelow Σ (blocks_seen R.worlds totals) S f → Within S (R.below f)
  within S f i h b s = (is.below f i b).1 (h b s)

  served : (c : Clause) → IsClause Σ R.worlds c → Member (target c.type) R.families → (i : ℕ) (A : LfType) → IsSubgoal c i A → IsCallee R totals (target c.type) (target A)
  served c k g i A s = (callees_held Σ R.families R.marks R.worlds totals R is before c k g i A s, go (p.callees c k g i A s))
    where
      go : MayBeCalled Σ R.families R.marks R.worlds totals V (target A) → Member (target A) R.families ⊎ ((Q : Checked) × Member Q totals × Member (target A) Q.families × (Q.marks (target A) ≡ R.marks (target A)) × BlocksServe R.worlds Q.worlds (Q.below (target A)))
      go (inl j) = inl j
      go (inr (Q, q, j, e, (T, t, serve))) = inr (Q, q, j, e, serve_fewer R.worlds Q.worlds (Q.below (target A)) T (λ b h. (t b).1 (below_grows Σ Σ (blocks_of totals) V (λ c A e. e) (λ a K e. e) (λ B i. p.blocks_looked_at B (member_right R.worlds (blocks_of totals) B i)) (before Q q (target A) j b h))) serve)

  declared : (f : ℕ) → Member f R.families → IsDeclared Σ f
  declared f i = let ((K, e, s), n) = p.marked f i in (K, e)

  group_checked : GroupChecked Σ R order totals
  group_checked =
      let (sets, frozen) = record_freezes Σ ok R.families R.marks R.worlds totals p.blocks_typed declared R is in
      record {
        marked = p.marked;
        blocks_typed = λ B i. p.blocks_typed B (member_left R.worlds (blocks_of totals) B i);
        same_before = p.same_before;
        itself_below = λ f i. (sets f i).0;
        self_contained = λ f i. (sets f i).1;
        frozen = frozen;
        orders_at_inputs = p.orders_at_inputs;
        well_moded = λ c k g. fewer_moded Σ R.marks moded (λ f. is_in f R.families) everything c (λ f e. p.group_moded f (in_member f R.families e)) (p.well_moded c k g);
        well_worlded = p.well_worlded;
        callees = served;
        descending = p.descending;
        covered_inputs = λ f i. let (S, h, covered) = p.covered_inputs f i in inputs_over_more Σ R.marks R.worlds S (R.below f) f (within S f i h) covered;
        covered_outputs = λ c k g. each_on R.marks c (λ U A. (S : ℕ → Bool) × AreAllBelow Σ (blocks_seen R.worlds totals) S (target c.type) × CoveredOutputs Σ R.marks R.worlds S c U A) (λ U A. CoveredOutputs Σ R.marks R.worlds (R.below (target c.type)) c U A) (λ U. Unit {0}) (λ U A (S, h, covered). outputs_over_more Σ R.marks R.worlds S (R.below (target c.type)) c U A (within S (target c.type) g h) covered) (quantifiers c.type) zero (ground_from everything R.marks c) (p.covered_outputs c k g);
      }

pub checks_conclude : (Σ : Signature) → IsSignature Σ → (group : List ℕ) (m : ℕ → List Mark) (W : List Block) (order : ℕ → Order) (totals : List Checked) (moded : ℕ → Bool) (V : List Block) → ChecksPass Σ group m W order totals moded V → AreBelow Σ totals → (R : Checked) → IsRecordOf Σ group m W totals R → GroupChecked Σ R order totals × (((Q : Checked) → Member Q totals → IsRight Σ Q) → IsRight Σ R)
checks_conclude Σ ok group m W order totals moded V p before R is =
    let p1 : ChecksPass Σ R.families m W order totals moded V = subst (λ g. ChecksPass Σ g m W order totals moded V) (sym is.families) p in
    let p2 : ChecksPass Σ R.families R.marks W order totals moded V = subst (λ n. ChecksPass Σ R.families n W order totals moded V) (sym is.marks) p1 in
    let p3 : ChecksPass Σ R.families R.marks R.worlds order totals moded V = subst (λ X. ChecksPass Σ R.families R.marks X order totals moded V) (sym is.worlds) p2 in
    let r1 : IsRecordOf Σ R.families m W totals R = subst (λ g. IsRecordOf Σ g m W totals R) (sym is.families) is in
    let r2 : IsRecordOf Σ R.families R.marks W totals R = subst (λ n. IsRecordOf Σ R.families n W totals R) (sym is.marks) r1 in
    let r3 : IsRecordOf Σ R.families R.marks R.worlds totals R = subst (λ X. IsRecordOf Σ R.families R.marks X totals R) (sym is.worlds) r2 in
    let checked : GroupChecked Σ R order totals = group_checked Σ ok R order totals moded V p3 before r3 in
    (checked, λ rs. record_made Σ ok R order totals checked rs)
