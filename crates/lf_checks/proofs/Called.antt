-- The walk over the called families meets the family of each subgoal, and finds the first one without a row.
use Rattle.std.proofs.Common.{◌≡◌, ℕ, zero, suc, ◌+◌, ◌<◌, List, [], ◌∷◌, ◌++◌, refl, sym, ap, ◌∙◌, subst, arith, inl, inr}
use Rattle.std.specs.Prelude.{Bool, true, false, cond, Some, None, ◌⊎◌, ◌↔◌}
use Rattle.lf.specs.Syntax.{LfType, pi, atom}
use Rattle.lf.specs.Typing.{TypeAt}
use Rattle.lf.specs.Entries.{quantifiers}
use Rattle.lf.specs.Variables.{target, binders, everything}
use Rattle.lf.specs.Subordination.{Member}
use Rattle.lf_unification.specs.Search.{occurs_type}
use Rattle.lf.proofs.Target.{target_renamed}
use Rattle.lf_checks.specs.Clause.{is_variable, with_newest, IsSubgoal}
use Rattle.lf_checks.specs.Clauses.{NamedClause}
use Rattle.lf_checks.specs.ModeRows.{ModeRow, is_moded, called, called_by_hypotheses, families_met, first_unmoded, FirstUnmoded, AllHaveRows}
use Rattle.lf_checks.proofs.Listed.{member_left, member_right}
use Rattle.lf_checks.proofs.Numbered.{subgoal_inside}

-- The first of a list.
none_unmoded : (p : ℕ → Bool) (fs : List ℕ) → first_unmoded p fs ≡ None → (f : ℕ) → Member f fs → p f ≡ true
none_unmoded p [] e f m = absurd m
none_unmoded p (g ∷ fs) e f m = by (p g) refl e m (none_unmoded p fs)
  where
    by : (b : Bool) → p g ≡ b → cond b (first_unmoded p fs) (Some g) ≡ None → (f ≡ g) ⊎ Member f fs → (first_unmoded p fs ≡ None → (f : ℕ) → Member f fs → p f ≡ true) → p f ≡ true
    by true q h (inl r) k = ap p r ∙ q
    by true q h (inr i) k = k h f i
    by false q h i k = absurd cc

all_moded : (p : ℕ → Bool) (fs : List ℕ) → ((f : ℕ) → Member f fs → p f ≡ true) → first_unmoded p fs ≡ None
all_moded p [] h = refl
all_moded p (g ∷ fs) h = ap (λ b. cond b (first_unmoded p fs) (Some g)) (h g (inl refl)) ∙ all_moded p fs (λ f m. h f (inr m))

one_unmoded : (p : ℕ → Bool) (fs : List ℕ) (f : ℕ) → first_unmoded p fs ≡ Some f → Member f fs × (p f ≡ false)
one_unmoded p [] f e = absurd cc
one_unmoded p (g ∷ fs) f e = by (p g) refl e (one_unmoded p fs f)
  where
    by : (b : Bool) → p g ≡ b → cond b (first_unmoded p fs) (Some g) ≡ Some f → (first_unmoded p fs ≡ Some f → Member f fs × (p f ≡ false)) → Member f (g ∷ fs) × (p f ≡ false)
    by true q h k = let (m, r) = k h in (inr m, r)
    by false q h k = let r : g ≡ f = cc in (inl (sym r), ap p (sym r) ∙ q)

-- The family of a subgoal is called.
variable_past : (Y : LfType) (W : ℕ → Bool) (j i : ℕ) → i ≡ quantifiers Y + j → is_variable W Y i ≡ W j
variable_past (pi X Y) W j i e = variable_past Y (with_newest (occurs_type zero Y) W) (suc j) i (let q : i ≡ suc (quantifiers Y) + j = e in omega arith)
variable_past (atom a S) W j i e = ap W (let q : i ≡ zero + j = e in omega arith)

target_past : (Y : LfType) (G : List LfType) (j i : ℕ) (A : LfType) → i ≡ quantifiers Y + j → TypeAt (binders G Y) i A → (B : LfType) × TypeAt G j B × (target A ≡ target B)
target_past (pi X Y) G j i A e t =
    let (B, (C, u, w), q) = target_past Y (X ∷ G) (suc j) i A (let r : i ≡ suc (quantifiers Y) + j = e in omega arith) t in
    (C, u, q ∙ ap target w ∙ target_renamed suc C)
target_past (atom a S) G j i A e t = (A, subst (λ n. TypeAt G n A) (let q : i ≡ zero + j = e in let r : i ≡ j = omega arith in r) t, refl)

module _ (moded : ℕ → Bool) where
  subgoal_called : (U : LfType) (G : List LfType) (V : ℕ → Bool) (i : ℕ) (A : LfType) → i < quantifiers U → is_variable V U i ≡ false → TypeAt (binders G U) i A → Member (target A) (called moded U)
  subgoal_called (pi X Y) G V i A l v t = by (last_or i (quantifiers Y) l) (λ u. subgoal_called Y (X ∷ G) (with_newest (occurs_type zero Y) V) i A u v t)
    where
      last_or : (i n : ℕ) → i < suc n → (i ≡ n) ⊎ (i < n)
      last_or zero zero l = inl refl
      last_or zero (suc n) l = inr (omega arith)
      last_or (suc i) zero l = absurd (omega arith)
      last_or (suc i) (suc n) l = elim (last_or i n (omega arith)) [ inl e ↦ inl (ap suc e) | inr u ↦ inr (omega arith) ]

      here : target A ≡ target X → (b : Bool) → b ≡ false → Member (target A) (cond b [] (target X ∷ called_by_hypotheses moded X))
      here q true e = absurd cc
      here q false e = inl q

      by : (i ≡ quantifiers Y) ⊎ (i < quantifiers Y) → (i < quantifiers Y → Member (target A) (called moded Y)) → Member (target A) (called moded Y ++ cond (occurs_type zero Y) [] (target X ∷ called_by_hypotheses moded X))
      by (inl e) f =
          let w : occurs_type zero Y ≡ false = sym (variable_past Y (with_newest (occurs_type zero Y) V) zero i (omega arith)) ∙ v in
          let (B, u, q) = target_past Y (X ∷ G) zero i A (omega arith) t in
          member_right (target A) (called moded Y) (cond (occurs_type zero Y) [] (target X ∷ called_by_hypotheses moded X)) (here (q ∙ ap target u ∙ target_renamed suc X) (occurs_type zero Y) w)
      by (inr u) f = member_left (target A) (called moded Y) (cond (occurs_type zero Y) [] (target X ∷ called_by_hypotheses moded X)) (f u)
  subgoal_called (atom a S) G V i A l v t = absurd (omega arith)

  clause_met : (clauses : List NamedClause) (n : NamedClause) → Member n clauses → (f : ℕ) → Member f (target n.clause.type ∷ called moded n.clause.type) → Member f (families_met moded clauses)
  clause_met [] n m f h = absurd m
  clause_met (x ∷ clauses) n (inl e) f h = member_left f (target x.clause.type ∷ called moded x.clause.type) (families_met moded clauses) (subst (λ y. Member f (target y.clause.type ∷ called moded y.clause.type)) e h)
  clause_met (x ∷ clauses) n (inr m) f h = member_right f (target x.clause.type ∷ called moded x.clause.type) (families_met moded clauses) (clause_met clauses n m f h)

module _ (rows : List ModeRow) (clauses : List NamedClause) where
  pub rows_met : AllHaveRows rows clauses ↔ ((f : ℕ) → Member f (families_met (is_moded rows) clauses) → is_moded rows f ≡ true)
  rows_met = (none_unmoded (is_moded rows) (families_met (is_moded rows) clauses), all_moded (is_moded rows) (families_met (is_moded rows) clauses))

  pub first_met : (f : ℕ) → FirstUnmoded rows clauses f → Member f (families_met (is_moded rows) clauses) × (is_moded rows f ≡ false)
  first_met f e = one_unmoded (is_moded rows) (families_met (is_moded rows) clauses) f e

  pub subgoals_met : (n : NamedClause) → Member n clauses → Member (target n.clause.type) (families_met (is_moded rows) clauses) × ((i : ℕ) (A : LfType) → IsSubgoal n.clause i A → Member (target A) (families_met (is_moded rows) clauses))
  subgoals_met n m = (clause_met (is_moded rows) clauses n m (target n.clause.type) (inl refl), (λ i A s. clause_met (is_moded rows) clauses n m (target A) (inr (subgoal_called (is_moded rows) n.clause.type n.clause.outer everything i A (subgoal_inside n.clause i s.0) s.0 s.1))))
