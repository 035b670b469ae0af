-- A new search stands at the root.
use Rattle.std.proofs.Common.{◌≡◌, ℕ, zero, suc, ◌<◌, ◌≤◌, List, [], ◌∷◌, ◌++◌, length, Option, Some, ◌⊎◌, inl, inr, sym, ap, ◌∙◌, subst, arith}
use Rattle.lf.specs.Entries.{Entry, IsCanonicalSignature, signature_of}
use Rattle.lf.specs.Subordination.{Member}
use Rattle.lf.specs.Syntax.{LfType}
use Rattle.lf.specs.Typing.{IsContext, IsType}
use Rattle.lf.proofs.Entries.{canonical_is_signature}
use Rattle.lf_search.specs.Goals.{metavariables_of, over_metavariables, root_of}
use Rattle.lf_search.specs.Holes.{HolesAreOpen}
use Rattle.lf_search.proofs.HolesStay.{root_holes}
use Rattle.lf_search.proofs.QueryForm as query
use Rattle.lf_unification.specs.OpenTyping.{set_at}
use Rattle.lf_unification.specs.Solving.{AllLeftOver}
use Rattle.lf_unification.specs.Search.{IsNode, Node, at_node}
use Rattle.lf_unification.proofs.Agree.{set_here}
use Rattle.lf_unification.proofs.Offer.{decide, set_other}
use Rattle.tw_metas.specs.State.{Story}
use Rattle.tw_putting.specs.Stores.{types_of}
use Rattle.tw_putting.specs.Whole.{whole}
use Rattle.tw_search.specs.Chains.{GoalsAre, no_goal}
use Rattle.tw_search.specs.Goals.{IsDeclared, node_of}
use Rattle.tw_search.specs.Roots.{IsRoot}
use Rattle.tw_search.specs.Standing.{ChoicesStand, NodeStands, no_choice}
use Rattle.tw_search.specs.declared.frames.Frame.{Frame}
use Rattle.tw_search.specs.declared.step.Choice.{Choice}
use Rattle.tw_search.proofs.Chaining.{goal_pushed}
use Rattle.tw_search.proofs.Parts.{root_law}

less_or_not : (a b : ℕ) → (a < b) ⊎ (b ≤ a)
less_or_not zero zero = inr (omega arith)
less_or_not zero (suc b) = inl (omega arith)
less_or_not (suc a) zero = inr (omega arith)
less_or_not (suc a) (suc b) = go (less_or_not a b)
  where
    go : (a < b) ⊎ (b ≤ a) → (suc a < suc b) ⊎ (suc b ≤ suc a)
    go (inl k) = inl (omega (arith, k))
    go (inr k) = inr (omega (arith, k))

less_if_not : (m n : ℕ) → m < suc n → (m ≡ n → ⊥) → m < n
less_if_not m n h x = go (less_or_not m n)
  where
    go : (m < n) ⊎ (n ≤ m) → m < n
    go (inl k) = k
    go (inr k) = absurd (x (omega (arith, k, h)))

all_there : (G : List LfType) (m : ℕ) → m < length G → (X : LfType) × (metavariables_of G m ≡ Some X)
all_there [] m h = absurd (omega (arith, h))
all_there (A ∷ G) m h = at (all_there G m) (decide m (length G))
  where
    at : (m < length G → (X : LfType) × (metavariables_of G m ≡ Some X)) → (m ≡ length G) ⊎ (m ≡ length G → ⊥) → (X : LfType) × (metavariables_of (A ∷ G) m ≡ Some X)
    at f (inl e) = (over_metavariables G A, ap (set_at (length G) (Some (over_metavariables G A)) (metavariables_of G)) e ∙ set_here (length G) (Some (over_metavariables G A)) (metavariables_of G))
    at f (inr n) = let l : m < length G = less_if_not m (length G) (omega (arith, h)) n in let (X, e) = f l in (X, set_other (length G) (Some (over_metavariables G A)) (metavariables_of G) m n ∙ e)

module _ (es : List Entry) (ok : IsCanonicalSignature es) (G : List LfType) (A : LfType) (g : IsContext (signature_of es) G) (t : IsType (signature_of es) G A) (y : Story) (r : IsRoot G A y.now) where
  there : (m : ℕ) → m ≤ length G → IsDeclared y.now m
  there m h = let l : m < length (A ∷ G) = omega (arith, h) in let (X, e) = all_there (A ∷ G) m l in (X, ap (λ (f : ℕ → Option LfType). f m) r.types ∙ e)

  none_left : AllLeftOver (types_of y.now) (whole [] y.now) y.now.equations
  none_left = subst (AllLeftOver (types_of y.now) (whole [] y.now)) (sym r.equations) tt

  pub root_stands : (n list : ℕ) (fs : List Frame) (f : Frame) (cs : List Choice) → n ≡ length G → fs ≡ [] ++ f ∷ [] → f.hole.0 ≡ length G → f.next ≡ 0 → list ≡ 1 → cs ≡ [] → NodeStands es n list y fs cs (at_node (root_of G A) ∷ [])
  root_stands n list fs f cs en ef eh ex el ec =
      let law = root_law (signature_of es) (canonical_is_signature es ok) G A g t y.now r in
      let node : IsNode (signature_of es) (node_of y.now (length G ∷ [])) = subst (IsNode (signature_of es)) (sym law.0) (query.root_node (signature_of es) (canonical_is_signature es ok) G A g t) in
      let chain : GoalsAre ([] ++ f ∷ []) list (f.hole.0 ∷ []) = goal_pushed [] f list [] el (subst (λ k. GoalsAre [] k []) (sym ex) no_goal) in
      subst (λ k. NodeStands es k list y fs cs (at_node (root_of G A) ∷ [])) (sym en) (record {
        goals = length G ∷ [];
        goals_are = subst (λ k. GoalsAre fs list (k ∷ [])) eh (subst (λ xs. GoalsAre xs list (f.hole.0 ∷ [])) (sym ef) chain);
        declared = λ m i. at m i;
        holes = subst HolesAreOpen (sym law.0) (root_holes (signature_of es) (canonical_is_signature es ok) G A g t);
        kept = record {
          left = (types_of y.now, none_left);
          ready = law.1;
          node = record { scoped = node.scoped; skeletons = node.skeletons };
          declared = there;
          from_query = law.2;
        };
        rest = [];
        is = ap (λ (x : Node). at_node x ∷ []) (sym law.0);
        choices = subst (λ xs. ChoicesStand es (length G) y fs xs []) (sym ec) no_choice;
      })
    where
      at : (m : ℕ) → Member m (length G ∷ []) → IsDeclared y.now m
      at m (inl e) = there m (omega (arith, e))
      at m (inr i) = absurd i
