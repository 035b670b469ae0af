-- The query of a typed goal: its root is a node and its store is well formed.
use Rattle.std.proofs.Common.{◌≡◌, ℕ, zero, suc, ◌≤◌, ◌<◌, List, [], ◌∷◌, length, Option, Some, None, ◌⊎◌, inl, inr, refl, sym, ap, ◌∙◌, subst, arith}
use Rattle.lf.specs.Subordination.{Member}
use Rattle.lf.specs.Syntax.{Head, LfType, Term, metavariable, rename_head, rename_type}
use Rattle.lf.specs.Typing.{IsContext, IsSignature, IsType, Signature}
use Rattle.lf_unification.specs.Dependency.{IsDependencyOrder, IsListed, ListedMetavariable}
use Rattle.lf_unification.specs.OpenTyping.{Declares, MetavariablesInType, OpenHeadHasType, OpenIsType, skeletons_of}
use Rattle.lf_unification.specs.PartialInstance.{IsFilling}
use Rattle.lf_unification.specs.Query.{Query}
use Rattle.lf_unification.specs.Reach.{TypeMentions}
use Rattle.lf_unification.specs.Search.{IsNode}
use Rattle.lf_unification.specs.Solving.{IsWellFormed, ValuesAreBindings}
use Rattle.lf_unification.specs.Unifiers.{Binding, Store}
use Rattle.lf_unification.proofs.Agree.{set_here}
use Rattle.lf_unification.proofs.Generic.{open_skeletons_type, ordered_at}
use Rattle.lf_unification.proofs.Offer.{decide, set_other}
use Rattle.lf_unification.proofs.Reach.{mentioned_type}
use Rattle.lf_unification.proofs.Scope.{HeadIn, in_typed_type, in_weaker_type}
use Rattle.lf_search.specs.Goals.{IsQueryOf, metavariables_of, over_metavariables, root_of, type_with_heads, variable_heads}
use Rattle.lf_search.proofs.OpenQuery.{HeadsHaveTypes, InContext, open_typed_type, typed_only_type}
use Rattle.lf_search.proofs.WithHeads.{heads_of_renamed_type, in_type_with_heads, renamed_heads_type, same_heads_type}

none_is : {A : LfType} → None ≡ Some A → ⊥
none_is e = cc

some_is : {A B : LfType} → Some A ≡ Some B → A ≡ B
some_is e = cc

-- Numbers.
pub none_from : (G : List LfType) (m : ℕ) → length G ≤ m → metavariables_of G m ≡ None
none_from [] m h = refl
none_from (A ∷ G) m h = set_other (length G) (Some (over_metavariables G A)) (metavariables_of G) m (λ e. omega arith) ∙ none_from G m (omega arith)

pub declared_before : (A : LfType) (G : List LfType) (m : ℕ) (X : LfType) → metavariables_of G m ≡ Some X → metavariables_of (A ∷ G) m ≡ Some X
declared_before A G m X e = go (decide m (length G))
  where
    go : (m ≡ length G) ⊎ (m ≡ length G → ⊥) → metavariables_of (A ∷ G) m ≡ Some X
    go (inl q) = absurd (none_is (sym (none_from G m (subst (λ n. n ≤ m) q (omega arith))) ∙ e))
    go (inr q) = set_other (length G) (Some (over_metavariables G A)) (metavariables_of G) m q ∙ e

-- the metavariables in their order, the newest first
abbrev pub order_of : List LfType → List ListedMetavariable
order_of [] = []
order_of (A ∷ G) = record { of = length G; of_type = over_metavariables G A; value = None } ∷ order_of G

pub listed_below : (G : List LfType) (m : ℕ) → IsListed (order_of G) m → m < length G
listed_below [] m l = absurd l
listed_below (A ∷ G) m (inl e) = subst (λ n. n < suc (length G)) (sym e) (omega arith)
listed_below (A ∷ G) m (inr l) = let h : m < length G = listed_below G m l in omega arith

pub all_listed : (G : List LfType) (m : ℕ) (X : LfType) → metavariables_of G m ≡ Some X → IsListed (order_of G) m
all_listed [] m X e = absurd (none_is e)
all_listed (A ∷ G) m X e = go (decide m (length G)) (all_listed G m X)
  where
    go : (m ≡ length G) ⊎ (m ≡ length G → ⊥) → (metavariables_of G m ≡ Some X → IsListed (order_of G) m) → IsListed (order_of (A ∷ G)) m
    go (inl q) older = inl q
    go (inr q) older = inr (older (sym (set_other (length G) (Some (over_metavariables G A)) (metavariables_of G) m q) ∙ e))

pub listed_to : (G : List LfType) (m : ℕ) → m < length G → IsListed (order_of G) m
listed_to [] m h = absurd (omega arith)
listed_to (A ∷ G) m h = go (decide m (length G)) (listed_to G m)
  where
    go : (m ≡ length G) ⊎ (m ≡ length G → ⊥) → (m < length G → IsListed (order_of G) m) → IsListed (order_of (A ∷ G)) m
    go (inl q) older = inl q
    go (inr q) older = inr (older (omega arith))

-- each variable of the context has a metavariable
pub is_metavariable : (G : List LfType) (i : ℕ) → InContext G i → (m : ℕ) × (variable_heads G i ≡ metavariable m) × IsListed (order_of G) m
is_metavariable [] i x = absurd x.1
is_metavariable (A ∷ G) zero x = (length G, refl, inl refl)
is_metavariable (A ∷ G) (suc i) (X, (C, g, e)) = let (m, q, l) = is_metavariable G i (C, g) in (m, q, inr l)

head_listed : (G : List LfType) (i : ℕ) → InContext G i → HeadIn (IsListed (order_of G)) (variable_heads G i)
head_listed G i x = let (m, q, l) = is_metavariable G i x in subst (HeadIn (IsListed (order_of G))) (sym q) l

head_stays : (G : List LfType) (ρ : ℕ → ℕ) (i : ℕ) → InContext G i → rename_head ρ (variable_heads G i) ≡ variable_heads G i
head_stays G ρ i x = let (m, q, l) = is_metavariable G i x in ap (rename_head ρ) q ∙ sym q

module _ (Σ : Signature) (ok : IsSignature Σ) where
  pub mentions_listed : (G : List LfType) (A : LfType) → IsType Σ G A → MetavariablesInType (IsListed (order_of G)) (over_metavariables G A)
  mentions_listed G A t = in_type_with_heads (IsListed (order_of G)) (InContext G) (variable_heads G) (head_listed G) A (typed_only_type Σ G A t) (in_typed_type (IsListed (order_of G)) Σ G A t)

  type_stays : (G : List LfType) (A : LfType) → IsType Σ G A → (ρ : ℕ → ℕ) → rename_type ρ (over_metavariables G A) ≡ over_metavariables G A
  type_stays G A t ρ = renamed_heads_type ρ (variable_heads G) A ∙ same_heads_type (InContext G) (λ i. rename_head ρ (variable_heads G i)) (variable_heads G) (head_stays G ρ) A (typed_only_type Σ G A t)

  newest_below : (A : LfType) (G : List LfType) → IsContext Σ (A ∷ G) → (m : ℕ) (X : LfType) → metavariables_of (A ∷ G) m ≡ Some X → m ≡ length G → MetavariablesInType (IsListed (order_of G)) X
  newest_below A G (c, t) m X e q = subst (MetavariablesInType (IsListed (order_of G))) (some_is (sym (set_here (length G) (Some (over_metavariables G A)) (metavariables_of G)) ∙ ap (metavariables_of (A ∷ G)) (sym q) ∙ e)) (mentions_listed G A t)

  -- a type of the context (A ∷ G) mentions only what stands for G
  pub types_below : (A : LfType) (G : List LfType) → IsContext Σ (A ∷ G) → (m : ℕ) (X : LfType) → metavariables_of (A ∷ G) m ≡ Some X → MetavariablesInType (IsListed (order_of G)) X
  types_below A [] (c, t) m X e = go (decide m zero)
    where
      go : (m ≡ zero) ⊎ (m ≡ zero → ⊥) → MetavariablesInType (IsListed (order_of [])) X
      go (inl q) = newest_below A [] (c, t) m X e q
      go (inr q) = absurd (none_is (sym (set_other zero (Some (over_metavariables [] A)) (metavariables_of []) m q) ∙ e))
  types_below A (B ∷ G) (c, t) m X e = go (decide m (suc (length G))) (types_below B G c m X)
    where
      go : (m ≡ suc (length G)) ⊎ (m ≡ suc (length G) → ⊥) → (metavariables_of (B ∷ G) m ≡ Some X → MetavariablesInType (IsListed (order_of G)) X) → MetavariablesInType (IsListed (order_of (B ∷ G))) X
      go (inl q) older = newest_below A (B ∷ G) (c, t) m X e q
      go (inr q) older = in_weaker_type (IsListed (order_of G)) (IsListed (order_of (B ∷ G))) (λ k l. inr l) X (older (sym (set_other (suc (length G)) (Some (over_metavariables (B ∷ G) A)) (metavariables_of (B ∷ G)) m q) ∙ e))

  -- over a store that has these metavariables
  module _ (Ψ : ℕ → Option LfType) (U : (ℕ → Option Term) → Type 0) where
    abbrev pub Has : List LfType → Type 0
    Has G = (m : ℕ) (X : LfType) → metavariables_of G m ≡ Some X → Ψ m ≡ Some X

    has_before : (A : LfType) (G : List LfType) → Has (A ∷ G) → Has G
    has_before A G h m X e = h m X (declared_before A G m X e)

    has_newest : (A : LfType) (G : List LfType) → Has (A ∷ G) → Ψ (length G) ≡ Some (over_metavariables G A)
    has_newest A G h = h (length G) (over_metavariables G A) (set_here (length G) (Some (over_metavariables G A)) (metavariables_of G))

    pub heads_typed : (G : List LfType) → Has G → HeadsHaveTypes Σ ok Ψ U G [] (variable_heads G)
    heads_typed [] h i A g = absurd g
    heads_typed (B ∷ G) h zero A e = subst (λ X. (Y : LfType) × (Ψ (length G) ≡ Some Y) × (X ≡ Y)) (sym (ap (type_with_heads (variable_heads (B ∷ G))) e ∙ heads_of_renamed_type (variable_heads (B ∷ G)) suc B)) (over_metavariables G B, has_newest B G h, refl)
    heads_typed (B ∷ G) h (suc i) A (C, g, e) = go (variable_heads G i) refl (heads_typed G (has_before B G h) i C g)
      where
        same : type_with_heads (variable_heads (B ∷ G)) A ≡ type_with_heads (variable_heads G) C
        same = ap (type_with_heads (variable_heads (B ∷ G))) e ∙ heads_of_renamed_type (variable_heads (B ∷ G)) suc C

        go : (x : Head) → variable_heads G i ≡ x → OpenHeadHasType Σ [] Ψ U [] (variable_heads G i) (type_with_heads (variable_heads G) C) → OpenHeadHasType Σ [] Ψ U [] (variable_heads G i) (type_with_heads (variable_heads (B ∷ G)) A)
        go x q t = subst (OpenHeadHasType Σ [] Ψ U [] (variable_heads G i)) (sym same) t

    pub type_typed : (G : List LfType) → Has G → (A : LfType) → IsType Σ G A → OpenIsType Σ [] Ψ U [] (over_metavariables G A)
    type_typed G h A t = open_typed_type Σ ok Ψ U G [] (variable_heads G) (heads_typed G h) A t

    pub order_is : (G : List LfType) → IsContext Σ G → Has G → IsDependencyOrder Σ Ψ U (order_of G)
    order_is [] c h = tt
    order_is (A ∷ G) (c, t) h = (order_is G c (has_before A G h), has_newest A G h, not_itself, mentions_listed G A t, type_typed G (has_before A G h) A t, type_stays G A t, tt)
      where
        not_itself : IsListed (order_of G) (length G) → ⊥
        not_itself l = let q : length G < length G = listed_below G (length G) l in omega arith

  none_bound : (G : List LfType) → ValuesAreBindings [] (order_of G)
  none_bound [] = tt
  none_bound (A ∷ G) = ((λ N e. no N e), none_bound G)
    where
      no : (N : Term) → None ≡ Some N → Member {A = Binding} (record { of = length G; value = N }) []
      no N e = cc

  module _ (G : List LfType) (A : LfType) (c : IsContext Σ G) (t : IsType Σ G A) where
    abbrev root_store : Store
    root_store = (root_of G A).store

    abbrev Ψ₀ : ℕ → Option LfType
    Ψ₀ = metavariables_of (A ∷ G)

    abbrev U₀ : (ℕ → Option Term) → Type 0
    U₀ = IsFilling Σ [] root_store

    the_order : IsDependencyOrder Σ Ψ₀ U₀ (order_of (A ∷ G))
    the_order = order_is Ψ₀ U₀ (A ∷ G) (c, t) (λ m X e. e)

    declared_type : (m : ℕ) (X : LfType) → Ψ₀ m ≡ Some X → OpenIsType Σ [] Ψ₀ U₀ [] X
    declared_type m X e = let (Y, d, i, y, s) = ordered_at Σ (skeletons_of Ψ₀) ok Ψ₀ U₀ (order_of (A ∷ G)) the_order m (all_listed (A ∷ G) m X e) in
        subst (OpenIsType Σ [] Ψ₀ U₀ []) (some_is (sym d ∙ e)) y

    pub root_form : IsWellFormed Σ root_store
    root_form = record {
      order = order_of (A ∷ G);
      is_order = the_order;
      all_listed = all_listed (A ∷ G);
      bindings_listed = tt;
      values_bound = none_bound (A ∷ G);
      typed = record { declarations_typed = record { outer_typed = λ i X g. absurd g; metavariables_typed = declared_type }; bindings_typed = tt; equations_typed = tt };
    }

    declares_listed : (k : ℕ) → IsListed (order_of G) k → Declares Ψ₀ k
    declares_listed k l = let (Y, d, i, y, s) = ordered_at Σ (skeletons_of Ψ₀) ok Ψ₀ U₀ (order_of (A ∷ G)) the_order k (inr l) in (Y, d)

    pub root_node : IsNode Σ (root_of G A)
    root_node = record {
      scoped = record {
        fresh = none_from (A ∷ G);
        types = λ m X e. in_weaker_type (IsListed (order_of G)) (Declares Ψ₀) declares_listed X (types_below A G (c, t) m X e);
        bindings = tt;
        equations = tt;
        equation_types = tt;
      };
      skeletons = λ m X e. open_skeletons_type Σ (skeletons_of Ψ₀) ok Ψ₀ U₀ [] [] X (declared_type m X e);
    }

    hole_is_apart : (m : ℕ) (X : LfType) → Ψ₀ m ≡ Some X → TypeMentions (length G) X → ⊥
    hole_is_apart m X e o = let l : IsListed (order_of G) (length G) = mentioned_type (IsListed (order_of G)) (length G) X (types_below A G (c, t) m X e) o in
        let q : length G < length G = listed_below G (length G) l in omega arith

    pub the_query : Query
    the_query = record {
      metavariables = Ψ₀;
      next = suc (length G);
      hole = length G;
      goal = over_metavariables G A;
      hole_of = set_here (length G) (Some (over_metavariables G A)) (metavariables_of G);
      hole_apart = hole_is_apart;
    }

    pub is_query : IsQueryOf G A the_query
    unfolding the_query
    is_query = refl
