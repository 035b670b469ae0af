-- Fewer moded families, fewer families below a callee, fewer records: less is asked.
use Rattle.std.proofs.Common.{◌≡◌, ℕ, zero, suc, List, ◌∷◌, refl, sym, inl, inr, true≢false}
use Rattle.std.specs.Prelude.{◌⊎◌, Bool, true, false}
use Rattle.lf.specs.Syntax.{LfType, pi, atom}
use Rattle.lf.specs.Typing.{Signature}
use Rattle.lf.specs.Variables.{target, Within, under}
use Rattle.lf.specs.Entries.{quantifiers}
use Rattle.lf.specs.Subordination.{Block, Member}
use Rattle.lf.proofs.Worlds.{outside_within}
use Rattle.lf_checks.specs.Tests.{choose}
use Rattle.lf_checks.specs.Clause.{Clause, scope, outside, IsClause, IsSubgoal}
use Rattle.lf_checks.specs.Marks.{Mark}
use Rattle.lf_checks.specs.Ground.{ground_from}
use Rattle.lf_checks.specs.Modes.{AllGround, EachHypothesis, WellModedTo}
use Rattle.lf_checks.specs.Worlded.{BlocksServe}
use Rattle.lf_checks.specs.Order.{Order}
use Rattle.lf_totality.specs.Group.{Checked, IsCallee, GroupChecked}
use Rattle.lf_totality.specs.Record.{HoldsCallees}
use Rattle.lf_totality.proofs.Stays.{GoalModed, each_on}

-- what holds of each hypothesis of more families
module _ (P P' : (ℕ → Bool) → Clause → Type 0) (moded fewer : ℕ → Bool) (less : Within fewer moded) (f : (U : ℕ → Bool) (c : Clause) → P U c → P' U c) where
  chosen_fewer : (a : ℕ) (U : ℕ → Bool) (c : Clause) → choose (moded a) (P U c) (Unit {0}) → choose (fewer a) (P' U c) (Unit {0})
  chosen_fewer a U c h = go (fewer a) refl
    where
      by : (t : Bool) → moded a ≡ t → t ≡ true → choose t (P U c) (Unit {0}) → P' U c
      by true e q h = f U c h
      by false e q h = absurd (true≢false (sym q))

      go : (t : Bool) → fewer a ≡ t → choose t (P' U c) (Unit {0})
      go true e = by (moded a) refl (less a e) h
      go false e = tt

  hypotheses_fewer : (C : List LfType) (F U : ℕ → Bool) (A : LfType) → EachHypothesis P moded C F U A → EachHypothesis P' fewer C F U A
  hypotheses_fewer C F U (pi A B) (h, k) = (chosen_fewer (target A) U (record { outer = C; fixed = F; type = A }) h, hypotheses_fewer (A ∷ C) (under F) (under U) B k)
  hypotheses_fewer C F U (atom a S) h = h

module _ (Σ : Signature) (m : ℕ → List Mark) (moded fewer : ℕ → Bool) (less : Within fewer moded) where
  moded_fewer : (n : ℕ) (V : ℕ → Bool) (c : Clause) → WellModedTo n Σ m moded V c → WellModedTo n Σ m fewer V c
  moded_fewer zero V c h = h
  moded_fewer (suc n) V c (s, h) = (s, each_on m c (GoalModed Σ m moded n c) (GoalModed Σ m fewer n c) (λ U. AllGround m c U) (λ U A (t, u, k). (t, u, hypotheses_fewer (WellModedTo n Σ m moded) (WellModedTo n Σ m fewer) moded fewer less (moded_fewer n) (scope c) (outside c.type c.fixed) U A k)) (quantifiers c.type) zero (ground_from V m c) h)

pub fewer_moded : (Σ : Signature) (m : ℕ → List Mark) (moded fewer V : ℕ → Bool) (c : Clause) → Within fewer moded → ((n : ℕ) → WellModedTo n Σ m moded V c) → (n : ℕ) → WellModedTo n Σ m fewer V c
fewer_moded Σ m moded fewer V c less h n = moded_fewer Σ m moded fewer less n V c (h n)

pub serve_fewer : (W V : List Block) (S T : ℕ → Bool) → Within S T → BlocksServe W V T → BlocksServe W V S
serve_fewer W V S T less serve B i = go (serve B i)
  where
    go : Member B V ⊎ ((E : LfType) → Member E B.entries → T (target E) ≡ false) → Member B V ⊎ ((E : LfType) → Member E B.entries → S (target E) ≡ false)
    go (inl j) = inl j
    go (inr n) = inr (λ E k. outside_within T S (target E) less (n E k))

module _ (Σ : Signature) (R : Checked) (order : ℕ → Order) (totals fewer : List Checked) (sub : (Q : Checked) → Member Q fewer → Member Q totals) (held : HoldsCallees Σ R totals fewer) (gc : GroupChecked Σ R order totals) where
  callee_fewer : (c : Clause) → IsClause Σ R.worlds c → Member (target c.type) R.families → (i : ℕ) (A : LfType) → IsSubgoal c i A → IsCallee R totals (target c.type) (target A) → IsCallee R fewer (target c.type) (target A)
  callee_fewer c k g i A v ((b, bs), inl j) = ((b, λ Q q. bs Q (sub Q q)), inl j)
  callee_fewer c k g i A v ((b, bs), inr (Q, q, j, e, s)) = ((b, λ Q q. bs Q (sub Q q)), go (held c k g i A v Q q j))
    where
      go : Member (target A) R.families ⊎ Member Q fewer → Member (target A) R.families ⊎ ((Q : Checked) × Member Q fewer × Member (target A) Q.families × (Q.marks (target A) ≡ R.marks (target A)) × BlocksServe R.worlds Q.worlds (Q.below (target A)))
      go (inl j') = inl j'
      go (inr q') = inr (Q, q', j, e, s)

  pub checked_beside_fewer : GroupChecked Σ R order fewer
  checked_beside_fewer = record {
    marked = gc.marked;
    blocks_typed = gc.blocks_typed;
    same_before = λ Q q. gc.same_before Q (sub Q q);
    itself_below = gc.itself_below;
    self_contained = gc.self_contained;
    frozen = gc.frozen;
    orders_at_inputs = gc.orders_at_inputs;
    well_moded = gc.well_moded;
    well_worlded = gc.well_worlded;
    callees = λ c k g i A v. callee_fewer c k g i A v (gc.callees c k g i A v);
    descending = gc.descending;
    covered_inputs = gc.covered_inputs;
    covered_outputs = gc.covered_outputs;
  }
