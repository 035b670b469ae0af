-- A variable that a table lacks, in no argument of a metavariable.
use Rattle.std.proofs.Common.{◌≡◌, ℕ, suc, ◌+◌, Some, None, ◌⊎◌, inl, inr, refl, sym, ap, ◌∙◌, subst, arith, add-one}
use Rattle.std.specs.Prelude.{Bool, true, false, is_none, ◌||◌}
use Rattle.lf.specs.Syntax.{Spine, Term, app, constant, lambda, metavariable, nil, root, variable}
use Rattle.lf_unification.specs.Patterns.{InImage}
use Rattle.lf_unification.specs.Rigid.{LiftedSetBy, Rigid, RigidInSpine, first, here, in_constant, in_lambda, in_variable, later}
use Rattle.tw_prune.specs.Walks.{Table, behind, escapes, escapes_in_spine}
use Rattle.tw_prune.proofs.Options.{some_or_none}
use Rattle.tw_prune.proofs.Tables.{IsInverse, behind_allowed, behind_lacking}

pub or_true : (b c : Bool) → (b || c) ≡ true → (b ≡ true) ⊎ (c ≡ true)
or_true true c e = inl refl
or_true false c e = inr e

pub or_right : (b c : Bool) → c ≡ true → (b || c) ≡ true
or_right true c e = refl
or_right false c e = e

module _ (T : Table) (ρ : ℕ → ℕ) (inverse : IsInverse T ρ) where
  -- under `total` binders in all, of which k were passed before
  pub record EscapesAt (k : ℕ) (N : Term) : Type 0 where
    pub depth : ℕ
    pub total : ℕ
    pub sum : total ≡ k + depth
    pub bad : ℕ
    pub spine : Spine
    pub at : Rigid (root (variable bad) spine) depth N
    pub is_bad : LiftedSetBy total (InImage ρ) bad → ⊥

  pub record EscapesInSpineAt (k : ℕ) (U : Spine) : Type 0 where
    pub depth : ℕ
    pub total : ℕ
    pub sum : total ≡ k + depth
    pub bad : ℕ
    pub spine : Spine
    pub at : RigidInSpine (root (variable bad) spine) depth U
    pub is_bad : LiftedSetBy total (InImage ρ) bad → ⊥

  missing : (k v : ℕ) → is_none (behind T k v) ≡ true → LiftedSetBy k (InImage ρ) v → ⊥
  missing k v e = go (some_or_none (behind T k v))
    where
      go : ((j : ℕ) × (behind T k v ≡ Some j)) ⊎ (behind T k v ≡ None) → LiftedSetBy k (InImage ρ) v → ⊥
      go (inl (j, f)) = let g : false ≡ true = sym (ap is_none f) ∙ e in cc
      go (inr f) = behind_lacking T ρ inverse k v f

  pub is_missing : (k v : ℕ) → (LiftedSetBy k (InImage ρ) v → ⊥) → behind T k v ≡ None
  is_missing k v n = go (some_or_none (behind T k v))
    where
      go : ((j : ℕ) × (behind T k v ≡ Some j)) ⊎ (behind T k v ≡ None) → behind T k v ≡ None
      go (inl (j, f)) = absurd (n (behind_allowed T ρ inverse k v j f))
      go (inr f) = f

  mutual
    pub escapes_at : (k : ℕ) (N : Term) → escapes T k N ≡ true → EscapesAt k N
    escapes_at k (lambda N) e =
        let r = escapes_at (suc k) N (subst (λ n. escapes T n N ≡ true) (add-one k) e) in
        let s = r.sum in
        record { depth = suc r.depth; total = r.total; sum = omega (arith, s); bad = r.bad; spine = r.spine; at = in_lambda r.at; is_bad = r.is_bad }
    escapes_at k (root (constant c) S) e =
        let r = escapes_in_spine_at k S e in
        record { depth = r.depth; total = r.total; sum = r.sum; bad = r.bad; spine = r.spine; at = in_constant r.at; is_bad = r.is_bad }
    escapes_at k (root (metavariable m) S) e = cc
    escapes_at k (root (variable v) S) e = go (or_true (is_none (behind T k v)) (escapes_in_spine T k S) e) (escapes_in_spine_at k S)
      where
        go : (is_none (behind T k v) ≡ true) ⊎ (escapes_in_spine T k S ≡ true) → (escapes_in_spine T k S ≡ true → EscapesInSpineAt k S) → EscapesAt k (root (variable v) S)
        go (inl f) rest = record { depth = 0; total = k; sum = omega arith; bad = v; spine = S; at = here; is_bad = missing k v f }
        go (inr f) rest =
            let r = rest f in
            record { depth = r.depth; total = r.total; sum = r.sum; bad = r.bad; spine = r.spine; at = in_variable r.at; is_bad = r.is_bad }

    pub escapes_in_spine_at : (k : ℕ) (S : Spine) → escapes_in_spine T k S ≡ true → EscapesInSpineAt k S
    escapes_in_spine_at k nil e = cc
    escapes_in_spine_at k (app M S) e = go (or_true (escapes T k M) (escapes_in_spine T k S) e) (escapes_at k M) (escapes_in_spine_at k S)
      where
        go : (escapes T k M ≡ true) ⊎ (escapes_in_spine T k S ≡ true) → (escapes T k M ≡ true → EscapesAt k M) → (escapes_in_spine T k S ≡ true → EscapesInSpineAt k S) → EscapesInSpineAt k (app M S)
        go (inl f) one rest =
            let r = one f in
            record { depth = r.depth; total = r.total; sum = r.sum; bad = r.bad; spine = r.spine; at = first r.at; is_bad = r.is_bad }
        go (inr f) one rest =
            let r = rest f in
            record { depth = r.depth; total = r.total; sum = r.sum; bad = r.bad; spine = r.spine; at = later r.at; is_bad = r.is_bad }

  mutual
    pub escapes_found : {O : Term} {d : ℕ} {N : Term} (k total bad : ℕ) (U : Spine) → O ≡ root (variable bad) U → Rigid O d N → total ≡ k + d → (LiftedSetBy total (InImage ρ) bad → ⊥) → escapes T k N ≡ true
    escapes_found k total bad U w here e n =
        let q : total ≡ k = omega (arith, e) in
        let f : is_none (behind T k bad) ≡ true = ap is_none (is_missing k bad (subst (λ x. LiftedSetBy x (InImage ρ) bad → ⊥) q n)) in
        subst (λ X. escapes T k X ≡ true) (sym w) (ap (λ b. b || escapes_in_spine T k U) f)
    escapes_found k total bad U w (in_lambda {k = d} {M = M} o) e n =
        let q : total ≡ suc k + d = omega (arith, e) in
        subst (λ x. escapes T x M ≡ true) (sym (add-one k)) (escapes_found (suc k) total bad U w o q n)
    escapes_found k total bad U w (in_constant o) e n = escapes_found_in_spine k total bad U w o e n
    escapes_found k total bad U w (in_variable {i = i} {S = S} o) e n = or_right (is_none (behind T k i)) (escapes_in_spine T k S) (escapes_found_in_spine k total bad U w o e n)

    pub escapes_found_in_spine : {O : Term} {d : ℕ} {S : Spine} (k total bad : ℕ) (U : Spine) → O ≡ root (variable bad) U → RigidInSpine O d S → total ≡ k + d → (LiftedSetBy total (InImage ρ) bad → ⊥) → escapes_in_spine T k S ≡ true
    escapes_found_in_spine k total bad U w (first {S = S} o) e n = ap (λ b. b || escapes_in_spine T k S) (escapes_found k total bad U w o e n)
    escapes_found_in_spine k total bad U w (later {M = M} {S = S} o) e n = or_right (escapes T k M) (escapes_in_spine T k S) (escapes_found_in_spine k total bad U w o e n)
