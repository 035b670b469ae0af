-- A subgoal's family is below its clause's, subordination grows with signature and blocks, and unions of self-contained sets.
use Rattle.std.proofs.Common.{◌≡◌, ℕ, zero, suc, List, [], ◌∷◌, refl, sym, ap, ◌∙◌, subst, inl, inr, true≢false}
use Rattle.std.specs.Prelude.{◌⊎◌, Bool, true, false, Some}
use Rattle.lf.specs.Syntax.{LfType, Kind, pi, atom, kind_pi, star}
use Rattle.lf.specs.Typing.{Signature, TypeAt}
use Rattle.lf.specs.Variables.{target, binders, onto, Within, FamiliesIn, KindFamiliesIn, everything}
use Rattle.lf.specs.Subordination.{Block, Member, IsDeclared, Quantifies, KindQuantifies, Below, below_itself, below_through, below_in_constant, below_in_kind, below_in_entry, SelfContained}
use Rattle.lf.proofs.Target.{target_renamed}
use Rattle.lf.proofs.Strength.{all_quantified}
use Rattle.lf_unification.specs.Search.{occurs_type}
use Rattle.lf_checks.specs.Clause.{Clause, with_newest, is_variable, IsSubgoal, IsClause, from_constant, from_entry}

-- a type of a context that is no variable by V, with the family of A
abbrev Outside : List LfType → (ℕ → Bool) → LfType → Type 0
Outside C V A = (k : ℕ) × (X : LfType) × (V k ≡ false) × TypeAt C k X × (target X ≡ target A)

-- what is no variable of a type is one of its quantifiers, or stands outside
quantified : (B : LfType) (C : List LfType) (V : ℕ → Bool) (i : ℕ) (A : LfType) → is_variable V B i ≡ false → TypeAt (binders C B) i A → Outside C V A ⊎ Quantifies (target A) (target B) B
quantified (pi D E) C V i A n g = go (quantified E (D ∷ C) (with_newest (occurs_type zero E) V) i A n g)
  where
    go : Outside (D ∷ C) (with_newest (occurs_type zero E) V) A ⊎ Quantifies (target A) (target E) E → Outside C V A ⊎ Quantifies (target A) (target (pi D E)) (pi D E)
    go (inl (zero, X, v, t, e)) = inr (inl (sym (target_renamed suc D) ∙ sym (ap target t) ∙ e, refl))
    go (inl (suc k, X, v, (Y, t, q), e)) = inl (k, Y, v, t, sym (target_renamed suc Y) ∙ sym (ap target q) ∙ e)
    go (inr q) = inr (inr (inr q))
quantified (atom a S) C V i A n g = inl (i, A, n, g, refl)

subgoal_quantified : (c : Clause) (i : ℕ) (A : LfType) → IsSubgoal c i A → Quantifies (target A) (target c.type) c.type
subgoal_quantified c i A (n, g) = go (quantified c.type c.outer everything i A n g)
  where
    go : Outside c.outer everything A ⊎ Quantifies (target A) (target c.type) c.type → Quantifies (target A) (target c.type) c.type
    go (inl (k, X, v, t, e)) = absurd (true≢false v)
    go (inr q) = q

member_after : (later : List LfType) (E : LfType) (es : List LfType) → Member E (onto later (E ∷ es))
member_after [] E es = inl refl
member_after (D ∷ later) E es = inr (member_after later E es)

pub subgoal_below : (Σ : Signature) (W : List Block) (c : Clause) → IsClause Σ W c → (i : ℕ) (A : LfType) → IsSubgoal c i A → Below Σ W (target A) (target c.type)
subgoal_below Σ W c (from_constant k U e) i A s = below_in_constant k U e (subgoal_quantified c i A s)
subgoal_below Σ W c (from_entry B later E es m q) i A s = below_in_entry B E m (subst (Member E) q (member_after later E es)) (subgoal_quantified c i A s)

-- every quantifier stands in each signature and list of blocks that holds these
module _ (Σ Σ' : Signature) (W W' : List Block) (types : (c : ℕ) (A : LfType) → Σ.types c ≡ Some A → Σ'.types c ≡ Some A) (kinds : (a : ℕ) (K : Kind) → Σ.kinds a ≡ Some K → Σ'.kinds a ≡ Some K) (blocks : (B : Block) → Member B W → Member B W') where
  pub below_grows : {a b : ℕ} → Below Σ W a b → Below Σ' W' a b
  below_grows below_itself = below_itself
  below_grows (below_through p q) = below_through (below_grows p) (below_grows q)
  below_grows (below_in_constant c U e q) = below_in_constant c U (types c U e) q
  below_grows (below_in_kind f K e q) = below_in_kind f K (kinds f K e) q
  below_grows (below_in_entry B E i j q) = below_in_entry B E (blocks B i) j q

families_within : (S T : ℕ → Bool) (A : LfType) → Within S T → FamiliesIn S A → FamiliesIn T A
families_within S T (pi A B) h (a, b) = (families_within S T A h a, families_within S T B h b)
families_within S T (atom a V) h s = h a s

kind_families_within : (S T : ℕ → Bool) (K : Kind) → Within S T → KindFamiliesIn S K → KindFamiliesIn T K
kind_families_within S T (kind_pi A K) h (a, k) = (families_within S T A h a, kind_families_within S T K h k)
kind_families_within S T star h k = k

pub union_self_contained : (Σ : Signature) (W : List Block) (U : ℕ → Bool) → ((a : ℕ) → U a ≡ true → (S : ℕ → Bool) × SelfContained Σ W S × Within S U × (S a ≡ true)) → SelfContained Σ W U
union_self_contained Σ W U part = record {
  declared = λ a u. let (S, c, h, s) = part a u in c.declared a s;
  kinds_in = λ a K e u. let (S, c, h, s) = part a u in kind_families_within S U K h (c.kinds_in a K e s);
  types_in = λ c' A e u. let (S, c, h, s) = part (target A) u in families_within S U A h (c.types_in c' A e s);
  entries_in = λ B E i j u. let (S, c, h, s) = part (target E) u in families_within S U E h (c.entries_in B E i j s);
}

pub self_contained_over_fewer : (Σ : Signature) (V W : List Block) (S : ℕ → Bool) → ((B : Block) → Member B W → Member B V) → SelfContained Σ V S → SelfContained Σ W S
self_contained_over_fewer Σ V W S h c = record {
  declared = c.declared;
  kinds_in = c.kinds_in;
  types_in = c.types_in;
  entries_in = λ B E i j s. c.entries_in B E (h B i) j s;
}

-- what is quantified in a kind over a family of the set is of the set
kind_in : (U : ℕ → Bool) (f : ℕ) (K : Kind) → ((a b : ℕ) → KindQuantifies f a b K → U b ≡ true → U a ≡ true) → U f ≡ true → KindFamiliesIn U K
kind_in U f (kind_pi A K) h u = (all_quantified U A (λ a b q. h a b (inr (inl q))) (h (target A) f (inl (refl, refl)) u), kind_in U f K (λ a b q. h a b (inr (inr q))) u)
kind_in U f star h u = tt

pub downward_self_contained : (Σ : Signature) (W : List Block) (U : ℕ → Bool) → ((a : ℕ) → U a ≡ true → IsDeclared Σ a) → ((a b : ℕ) → Below Σ W a b → U b ≡ true → U a ≡ true) → SelfContained Σ W U
downward_self_contained Σ W U d h = record {
  declared = d;
  kinds_in = λ a K e u. kind_in U a K (λ x y q. h x y (below_in_kind a K e q)) u;
  types_in = λ c A e u. all_quantified U A (λ x y q. h x y (below_in_constant c A e q)) u;
  entries_in = λ B E i j u. all_quantified U E (λ x y q. h x y (below_in_entry B E i j q)) u;
}
