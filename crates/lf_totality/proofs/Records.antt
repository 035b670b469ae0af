-- The record of a group: what it freezes, what it has below callees, and that it is one.
use Rattle.std.proofs.Common.{◌≡◌, ℕ, List, [], ◌∷◌, ◌++◌, refl, sym, ◌∙◌, subst, inl, inr, true≢false}
use Rattle.std.specs.Prelude.{◌↔◌, Bool, true, false}
use Rattle.lf.specs.Syntax.{LfType, pi, atom}
use Rattle.lf.specs.Typing.{Signature, IsType, IsContext, IsSignature}
use Rattle.lf.specs.Variables.{target, onto}
use Rattle.lf.specs.Subordination.{Block, Member, Below, below_itself, below_through, IsDeclared, AreTypedBlocks, SelfContained}
use Rattle.lf_checks.specs.Clause.{Clause, IsClause, IsSubgoal}
use Rattle.lf_checks.specs.Marks.{Mark}
use Rattle.lf.proofs.Declared.{below_declared, below_self_contained}
use Rattle.lf_cases.proofs.Subgoals.{subgoal_below, below_grows, self_contained_over_fewer, downward_self_contained}
use Rattle.lf_totality.specs.Group.{Checked, IsFrozenBy, HoldsBelow}
use Rattle.lf_totality.specs.Record.{blocks_of, blocks_seen, IsToBeFrozen, IsRecordOf, AreBelow}

-- members of lists put together
pub member_left : (W V : List Block) (B : Block) → Member B W → Member B (W ++ V)
member_left [] V B i = absurd i
member_left (C ∷ W) V B (inl e) = inl e
member_left (C ∷ W) V B (inr i) = inr (member_left W V B i)

pub member_right : (W V : List Block) (B : Block) → Member B V → Member B (W ++ V)
member_right [] V B i = i
member_right (C ∷ W) V B i = inr (member_right W V B i)

target_declared : (Σ : Signature) (G : List LfType) (A : LfType) → IsType Σ G A → IsDeclared Σ (target A)
target_declared Σ G (pi A B) (a, b) = target_declared Σ (A ∷ G) B b
target_declared Σ G (atom a S) (K, e, s) = (K, e)

-- an entry of a typed block is a type over what precedes it
entry_typed : (Σ : Signature) (C : List LfType) (E : LfType) (es : List LfType) → IsContext Σ (onto es C) → Member E es → (G : List LfType) × IsType Σ G E
entry_typed Σ C E [] w i = absurd i
entry_typed Σ C E (D ∷ es) (w, t) (inl e) = (onto es C, subst (IsType Σ (onto es C)) (sym e) t)
entry_typed Σ C E (D ∷ es) (w, t) (inr i) = entry_typed Σ C E es w i

-- two tests of one thing are the same
same_test : {P : Type 0} (a b : Bool) → (a ≡ true) ↔ P → (b ≡ true) ↔ P → a ≡ b
same_test true b p q = sym (q.1 (p.0 refl))
same_test false true p q = absurd (true≢false (sym (p.1 (q.0 refl))))
same_test false false p q = refl

module _ (Σ : Signature) (group : List ℕ) (m : ℕ → List Mark) (W : List Block) (totals : List Checked) (R : Checked) (is : IsRecordOf Σ group m W totals R) where
  in_group : (f : ℕ) → Member f R.families → Member f group
  in_group f i = subst (Member f) is.families i

  -- the record's blocks are among those seen
  are_seen : (B : Block) → Member B R.worlds → Member B (blocks_seen W totals)
  are_seen B i = member_left W (blocks_of totals) B (subst (Member B) is.worlds i)

  below_over : {a b : ℕ} → Below Σ R.worlds a b → Below Σ (blocks_seen W totals) a b
  below_over p = below_grows Σ Σ R.worlds (blocks_seen W totals) (λ c A e. e) (λ a K e. e) are_seen p

  below_before : {a b : ℕ} → Below Σ (blocks_of totals) a b → Below Σ (blocks_seen W totals) a b
  below_before p = below_grows Σ Σ (blocks_of totals) (blocks_seen W totals) (λ c A e. e) (λ a K e. e) (λ B i. member_right W (blocks_of totals) B i) p

  pub callees_held : AreBelow Σ totals → (c : Clause) → IsClause Σ R.worlds c → Member (target c.type) R.families → (i : ℕ) (A : LfType) → IsSubgoal c i A → HoldsBelow R totals (target c.type) (target A)
  callees_held before c k g i A s =
      let p : Below Σ (blocks_seen W totals) (target A) (target c.type) = below_over (subgoal_below Σ R.worlds c k i A s) in (
        λ j b h. (is.below (target c.type) (in_group (target c.type) g) b).1 (below_through ((is.below (target A) (in_group (target A) j) b).0 h) p),
        λ Q q j b h. (is.below (target c.type) (in_group (target c.type) g) b).1 (below_through (below_before (before Q q (target A) j b h)) p),
      )

  module _ (ok : IsSignature Σ) (typed : AreTypedBlocks Σ (blocks_seen W totals)) (declared : (f : ℕ) → Member f group → IsDeclared Σ f) where
    pub sets_below : (f : ℕ) → Member f R.families → (R.below f f ≡ true) × SelfContained Σ R.worlds (R.below f)
    sets_below f i = ((is.below f (in_group f i) f).1 below_itself, self_contained_over_fewer Σ (blocks_seen W totals) R.worlds (R.below f) are_seen (below_self_contained Σ (blocks_seen W totals) (R.below f) f ok typed (declared f (in_group f i)) (is.below f (in_group f i))))

    -- a family to be frozen is declared
    frozen_declared : (b : ℕ) → IsToBeFrozen Σ (blocks_seen W totals) group W b → IsDeclared Σ b
    frozen_declared b (inl (f, i, p)) = below_declared Σ (blocks_seen W totals) ok typed p (declared f i)
    frozen_declared b (inr (B, E, i, j, p)) =
        let (G, t) = entry_typed Σ B.some E B.entries (typed B (member_left W (blocks_of totals) B i)) j in
        below_declared Σ (blocks_seen W totals) ok typed p (target_declared Σ G E t)

    frozen_below : (a b : ℕ) → Below Σ (blocks_seen W totals) a b → IsToBeFrozen Σ (blocks_seen W totals) group W b → IsToBeFrozen Σ (blocks_seen W totals) group W a
    frozen_below a b p (inl (f, i, q)) = inl (f, i, below_through p q)
    frozen_below a b p (inr (B, E, i, j, q)) = inr (B, E, i, j, below_through p q)

    frozen : IsFrozenBy Σ R
    frozen = record {
      families_frozen = λ f i. (is.frozen f).1 (inl (f, in_group f i, below_itself));
      targets_frozen = λ B E i j. (is.frozen (target E)).1 (inr (B, E, subst (Member B) is.worlds i, j, below_itself));
      below_frozen = λ f i b h. (is.frozen b).1 (inl (f, in_group f i, (is.below f (in_group f i) b).0 h));
      self_contained = self_contained_over_fewer Σ (blocks_seen W totals) R.worlds R.frozen are_seen (downward_self_contained Σ (blocks_seen W totals) R.frozen (λ a e. frozen_declared a ((is.frozen a).0 e)) (λ a b p e. (is.frozen a).1 (frozen_below a b p ((is.frozen b).0 e))));
    }

pub record_freezes : (Σ : Signature) → IsSignature Σ → (group : List ℕ) (m : ℕ → List Mark) (W : List Block) (totals : List Checked) → AreTypedBlocks Σ (blocks_seen W totals) → ((f : ℕ) → Member f group → IsDeclared Σ f) → (R : Checked) → IsRecordOf Σ group m W totals R → ((f : ℕ) → Member f R.families → (R.below f f ≡ true) × SelfContained Σ R.worlds (R.below f)) × IsFrozenBy Σ R
record_freezes Σ ok group m W totals typed d R is = (sets_below Σ group m W totals R is ok typed d, frozen Σ group m W totals R is ok typed d)

pub record_one : (Σ : Signature) (group : List ℕ) (m : ℕ → List Mark) (W : List Block) (totals : List Checked) (R Q : Checked) → IsRecordOf Σ group m W totals R → IsRecordOf Σ group m W totals Q → (R.families ≡ Q.families) × (R.marks ≡ Q.marks) × (R.worlds ≡ Q.worlds) × ((f : ℕ) → Member f group → (b : ℕ) → R.below f b ≡ Q.below f b) × ((b : ℕ) → R.frozen b ≡ Q.frozen b)
record_one Σ group m W totals R Q r q = (r.families ∙ sym q.families, r.marks ∙ sym q.marks, r.worlds ∙ sym q.worlds, λ f i b. same_test (R.below f b) (Q.below f b) (r.below f i b) (q.below f i b), λ b. same_test (R.frozen b) (Q.frozen b) (r.frozen b) (q.frozen b))
