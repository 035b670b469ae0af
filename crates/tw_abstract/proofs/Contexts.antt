-- The context of the quantifiers is the theory's, in another order.
use Rattle.std.proofs.Common.{◌≡◌, ℕ, zero, suc, ◌+◌, ◌<◌, inl, inr, List, [], ◌∷◌, ◌++◌, append_assoc, length, length-append, Option, Some, None, ◌⊎◌, refl, sym, ap, ◌∙◌, subst, arith}
use mathlib.Core.Path.{fun_ext}
use Rattle.lf.specs.AtOnce.{lift_renaming_by}
use Rattle.lf.specs.Skeletons.{family_skeletons}
use Rattle.lf.specs.Subordination.{Member}
use Rattle.lf.specs.Syntax.{LfType, Skeleton, Spine, Term, arrow, base, nil, rename, rename_type, skeleton, variable, weaken}
use Rattle.lf.specs.Typing.{IsSignature, Signature, TypeAt}
use Rattle.lf.specs.Eta.{add_last, eta_expand}
use Rattle.lf.specs.Syntax.{rename_spine}
use Rattle.lf.proofs.Decidability.{variable_type_unique}
use Rattle.lf.proofs.TypeLaws.{renamings_compose_type}
use Rattle.lf_elaboration.specs.Principal.{IsReordering}
use Rattle.lf_unification.specs.Dependency.{ListedMetavariable, add_free, free_context, values}
use Rattle.lf_unification.specs.Filling.{fill, fill_type}
use Rattle.lf_unification.specs.OpenTyping.{OpenHasType, OpenIsType, skeletons_of, under_locals}
use Rattle.lf_unification.specs.PartialInstance.{IsFilling}
use Rattle.lf_unification.specs.Patterns.{eta_variable, local_skeletons}
use Rattle.lf_unification.specs.Putting.{binders}
use Rattle.lf_unification.specs.Skeletons.{skeleton_or_default}
use Rattle.lf_unification.specs.Solving.{IsWellFormed}
use Rattle.lf_unification.proofs.Eta.{rename_id_type}
use Rattle.lf_unification.proofs.Generic.{Fact, Facts, stage}
use Rattle.tw_metas.specs.State.{IsUnbound, State, joined}
use Rattle.tw_putting.specs.Fits.{PutFits, PutTypeFits, StoreBySkeletons}
use Rattle.tw_putting.specs.Stores.{Puts, PutsType, bindings_of, types_of}
use Rattle.tw_abstract.specs.Free.{add_inner, free_metavariables}
use Rattle.tw_abstract.specs.Generalizing.{generalized, generalized_type}
use Rattle.tw_abstract.specs.Positions.{index}
use Rattle.tw_abstract.specs.Reordered.{FreeVariablesInType, TakesIndices}
use Rattle.tw_abstract.proofs.Choosing.{indexed_member}
use Rattle.tw_abstract.proofs.Free.{free_variable}
use Rattle.tw_abstract.proofs.Index.{index_innermost, index_outer}
use Rattle.tw_abstract.proofs.Reordered.{term_reordered, type_reordered}
use Rattle.tw_abstract.proofs.Stores.{generalized_terms, generalized_types}
use Rattle.tw_putting.specs.Ready.{IsReady}
use Rattle.tw_putting.specs.Whole.{AreDistinct, whole}
use Rattle.tw_putting.proofs.Changes.{is_unbound, within}
use Rattle.tw_putting.proofs.Readiness.{local_count, ready_values}
use Rattle.tw_putting.proofs.Skeletons.{term_declared, type_declared}
use Rattle.tw_abstract.specs.ReadingLaws.{QuantifiersAreReordered, ReadingIsFilling}
use Rattle.tw_abstract.specs.Quantifiers.{AreQuantifiers, IsContextOf, no_quantifiers, one_inside}
use Rattle.tw_abstract.specs.Reading.{IsReadAs, IsTypeReadAs, TermStands, TypeStands}
use Rattle.tw_abstract.proofs.Closed.{term_within, type_within}
use Rattle.tw_abstract.proofs.Lists.{NoneBeforeItself, at_below, at_member, distinct_splits, index_at, member_either, moved_place, places_back, takes_places}
use Rattle.tw_abstract.proofs.Members.{declared_free, found_ordered, found_unbound, free_distinct, free_listed, free_unbound, order_splits, ordered_found, unbound_found}

some_is : {A : Type 0} {x y : A} → Some x ≡ Some y → x ≡ y
some_is e = cc

-- an eta-long variable tells its variable
head_told : (a : Skeleton) (x y : ℕ) (S T : Spine) → eta_expand a (variable x) S ≡ eta_expand a (variable y) T → x ≡ y
head_told (base c) x y S T e = cc
head_told (arrow a b) x y S T e = let q : suc x ≡ suc y = head_told b (suc x) (suc y) (add_last (rename_spine suc S) (eta_expand a (variable zero) nil)) (add_last (rename_spine suc T) (eta_expand a (variable zero) nil)) cc in cc

type_place : (F : List LfType) (i : ℕ) (A : LfType) → TypeAt F i A → i < length F
type_place [] i A g = absurd g
type_place (B ∷ F) zero A g = omega arith
type_place (B ∷ F) (suc i) A (C, g, e) = let h : i < length F = type_place F i C g in omega (arith, h)

-- the place of a metavariable in a context of quantifiers
record Place (s : State) (ms : List ℕ) (G : List LfType) (m : ℕ) : Type 0 where
  place : ℕ
  indexed : index ms m ≡ Some place
  of_type : LfType
  declared : types_of s m ≡ Some of_type
  put : LfType
  puts : PutsType s 0 of_type put
  general : LfType
  is_general : generalized_type (index ms) 0 put ≡ Some general
  typed : TypeAt G place general

module _ (s : State) (closed : (m : ℕ) (A A' : LfType) → types_of s m ≡ Some A → PutsType s 0 A A' → FreeVariablesInType (λ i. i < 0) A') where
  -- one more quantifier inside
  further_out : (ms : List ℕ) (m : ℕ) → (Member m ms → ⊥) → TakesIndices (index ms) (index (ms ++ m ∷ [])) suc
  further_out ms m h n i e = index_outer ms m n i (λ q. h (subst (λ k. Member k ms) q (indexed_member ms n i e))) e

  further : (ms : List ℕ) (G : List LfType) (m n : ℕ) (B : LfType) → (Member m ms → ⊥) → Place s ms G n → Place s (ms ++ m ∷ []) (B ∷ G) n
  further ms G m n B h p = record {
    place = suc p.place;
    indexed = further_out ms m h n p.place p.indexed;
    of_type = p.of_type;
    declared = p.declared;
    put = p.put;
    puts = p.puts;
    general = weaken p.general;
    is_general = type_reordered (index ms) (index (ms ++ m ∷ [])) suc (further_out ms m h) 0 (λ i. i < 0) (λ i l. l) p.put p.general (closed n p.of_type p.put p.declared p.puts) p.is_general;
    typed = (p.general, p.typed, refl);
  }

  fewer : (ms : List ℕ) (m : ℕ) → NoneBeforeItself (ms ++ m ∷ []) → NoneBeforeItself ms
  fewer ms m h before behind n e i = h before (behind ++ m ∷ []) n (ap (λ ns. ns ++ m ∷ []) e ∙ append_assoc before (n ∷ behind) (m ∷ [])) i

  place_of : {ms : List ℕ} {G : List LfType} → IsContextOf s ms G → NoneBeforeItself ms → (n : ℕ) → Member n ms → Place s ms G n
  place_of no_quantifiers d n i = absurd i
  place_of (one_inside {ms = ms} {G = G} m {B = B} A A' c q p g) d n i = go (place_of c (fewer ms m d) n) (member_either ms (m ∷ []) n i)
    where
      none : Member m ms → ⊥
      none = d ms [] m refl

      here : Place s (ms ++ m ∷ []) (B ∷ G) m
      here = record {
        place = zero;
        indexed = index_innermost ms m;
        of_type = A;
        declared = q;
        put = A';
        puts = p;
        general = weaken B;
        is_general = type_reordered (index ms) (index (ms ++ m ∷ [])) suc (further_out ms m none) 0 (λ i. i < 0) (λ i l. l) A' B (closed m A A' q p) g;
        typed = refl;
      }

      go : (Member n ms → Place s ms G n) → Member n ms ⊎ Member n (m ∷ []) → Place s (ms ++ m ∷ []) (B ∷ G) n
      go others (inl j) = further ms G m n B none (others j)
      go others (inr (inl e)) = subst (Place s (ms ++ m ∷ []) (B ∷ G)) (sym e) here
      go others (inr (inr j)) = absurd j

  context_length : {ms : List ℕ} {G : List LfType} → IsContextOf s ms G → length G ≡ length ms
  context_length no_quantifiers = refl
  context_length (one_inside {ms = ms} {G = G} m A A' c q p g) = let h : length G ≡ length ms = context_length c in let l : length (ms ++ m ∷ []) ≡ length ms + 1 = length-append ms (m ∷ []) in omega (arith, h, l)

free_length : (μ : ℕ → Skeleton) (is : List ListedMetavariable) → length (free_context μ is) ≡ length (free_metavariables is)
free_length μ [] = refl
free_length μ (it ∷ is) = go (free_length μ is) it.value
  where
    go : length (free_context μ is) ≡ length (free_metavariables is) → (v : Option Term) → length (add_free v (fill_type μ (values μ is) it.of_type) (free_context μ is)) ≡ length (add_inner v it.of (free_metavariables is))
    go h (Some N) = h
    go h None = let l : length (free_metavariables is ++ it.of ∷ []) ≡ length (free_metavariables is) + 1 = length-append (free_metavariables is) (it.of ∷ []) in omega (arith, h, l)

module _ (Σ : Signature) (ok : IsSignature Σ) (s : State) (r : IsReady Σ [] s) (w : IsWellFormed Σ (whole [] s)) where
  abbrev Ψ : ℕ → Option LfType
  Ψ = types_of s

  abbrev U : (ℕ → Option Term) → Type 0
  U = IsFilling Σ [] (whole [] s)

  abbrev μ : ℕ → Skeleton
  μ = skeletons_of (types_of s)

  abbrev β : ℕ → Option Term
  β = values (skeletons_of (types_of s)) w.order

  abbrev F : List LfType
  F = free_context (skeletons_of (types_of s)) w.order

  abbrev ns : List ℕ
  ns = free_metavariables w.order

  fact_of : (js : List ListedMetavariable) → Facts Σ μ ok Ψ U F β js → (it : ListedMetavariable) → Member it js → Fact Σ μ ok Ψ U F β it.of it.of_type it.value
  fact_of [] f it i = absurd i
  fact_of (j ∷ js) (f, fs) it (inl e) = subst (λ x. Fact Σ μ ok Ψ U F β x.of x.of_type x.value) (sym e) f
  fact_of (j ∷ js) (f, fs) it (inr i) = fact_of js fs it i

  -- the place of a metavariable in the theory's context
  free_place : (m : ℕ) → Member m ns → (i : ℕ) × (A : LfType) × (index ns m ≡ Some i) × (types_of s m ≡ Some A) × TypeAt F i (fill_type μ β A)
  free_place m k =
      let (A, d, j) = free_listed Σ Ψ U w.order w.is_order m k in
      let (x, v, g) = fact_of w.order (stage Σ μ ok Ψ U w.order w.is_order).facts (record { of = m; of_type = A; value = None }) j in
      let (A', d', u) = free_unbound Σ s r.consistent w m k in
      let (i, e, v') = free_variable Σ Ψ U (bindings_of s) w.order w.is_order w.values_bound m (w.all_listed m A d) u in
      let t : skeletons_of (types_of s) m ≡ skeleton A = ap skeleton_or_default d in
      let q : eta_variable (skeleton A) x ≡ eta_variable (skeleton A) i = some_is (sym v ∙ v' ∙ ap (λ a. Some (eta_variable a i)) t) in
      let p : x ≡ i = head_told (skeleton A) x i nil nil q in
      (i, A, e, d, subst (λ y. TypeAt F y (fill_type μ β A)) p g)

  stored : StoreBySkeletons Σ [] s
  stored = ready_values Σ [] s r

  -- the types are closed, with the values put in
  closed_type : (m : ℕ) (A A' : LfType) → types_of s m ≡ Some A → PutsType s 0 A A' → FreeVariablesInType (λ i. i < 0) A'
  closed_type m A A' d p = type_within s 0 A A' (record {
    families = family_skeletons Σ;
    signature = Σ;
    context = [];
    type_typed = type_declared Σ Ψ U [] A (w.typed.declarations_typed.metavariables_typed m A d);
    store_typed = stored;
  }) p

  module _ (ms : List ℕ) (G : List LfType) (in_context : IsContextOf s ms G) (before : NoneBeforeItself ms) (forth : (m : ℕ) → Member m ns → Member m ms) (back : (m : ℕ) → Member m ms → Member m ns) where
    abbrev ρ : ℕ → ℕ
    ρ = moved_place ns ms

    abbrev ρ' : ℕ → ℕ
    ρ' = moved_place ms ns

    distinct : AreDistinct ns
    distinct = free_distinct Σ Ψ U w.order w.is_order

    takes : TakesIndices (index ns) (index ms) ρ
    takes = takes_places ns ms forth

    -- a metavariable in both contexts
    record Moves (m : ℕ) : Type 0 where
      from : ℕ
      from_index : index ns m ≡ Some from
      to_index : index ms m ≡ Some (ρ from)
      of_type : LfType
      from_type : TypeAt F from of_type
      to_type : TypeAt G (ρ from) (rename_type ρ of_type)

    moves : (m : ℕ) → Member m ns → Moves m
    moves m k =
        let (i, A, e, d, g) = free_place m k in
        let p : Place s ms G m = place_of s closed_type in_context before m (forth m k) in
        let same : p.of_type ≡ A = some_is (sym p.declared ∙ d) in
        let puts : PutsType s 0 A p.put = subst (λ B. PutsType s 0 B p.put) same p.puts in
        let general : generalized_type (index ns) 0 p.put ≡ Some (fill_type μ β A) = generalized_types Σ ok (whole [] s) w [] A p.put (w.typed.declarations_typed.metavariables_typed m A d) puts in
        let renamed : generalized_type (index ms) 0 p.put ≡ Some (rename_type ρ (fill_type μ β A)) = type_reordered (index ns) (index ms) ρ takes 0 (λ j. j < 0) (λ j l. l) p.put (fill_type μ β A) (closed_type m p.of_type p.put p.declared p.puts) general in
        let q : p.general ≡ rename_type ρ (fill_type μ β A) = some_is (sym p.is_general ∙ renamed) in
        let to : p.place ≡ ρ i = some_is (sym p.indexed ∙ takes m i e) in
        record {
          from = i;
          from_index = e;
          to_index = takes m i e;
          of_type = fill_type μ β A;
          from_type = g;
          to_type = subst (λ j. TypeAt G j (rename_type ρ (fill_type μ β A))) to (subst (TypeAt G p.place) q p.typed);
        }

    pub reordered : IsReordering F G ρ ρ'
    reordered = record {
      there = λ i A g.
          let l : i < length F = type_place F i A g in
          let n : length F ≡ length ns = free_length μ w.order in
          let (m, e) = at_below ns i (subst (λ k. i < k) n l) in
          let v : Moves m = moves m (at_member ns i m e) in
          let q : v.from ≡ i = some_is (sym v.from_index ∙ index_at ns i m distinct e) in
          let a : v.of_type ≡ A = variable_type_unique F i v.of_type A (subst (λ k. TypeAt F k v.of_type) q v.from_type) g in
          subst (λ B. TypeAt G (ρ i) (rename_type ρ B)) a (subst (λ k. TypeAt G (ρ k) (rename_type ρ v.of_type)) q v.to_type);
      back = λ j B g.
          let l : j < length G = type_place G j B g in
          let n : length G ≡ length ms = context_length s closed_type in_context in
          let (m, e) = at_below ms j (subst (λ k. j < k) n l) in
          let v : Moves m = moves m (back m (at_member ms j m e)) in
          let q : ρ v.from ≡ j = some_is (sym v.to_index ∙ index_at ms j m (distinct_splits ms before) e) in
          let a : rename_type ρ v.of_type ≡ B = variable_type_unique G j (rename_type ρ v.of_type) B (subst (λ k. TypeAt G k (rename_type ρ v.of_type)) q v.to_type) g in
          let r : rename_type ρ' B ≡ v.of_type = ap (rename_type ρ') (sym a) ∙ renamings_compose_type ρ' ρ v.of_type ∙ ap (λ τ. rename_type τ v.of_type) (fun_ext (places_back ns ms distinct (distinct_splits ms before) forth back)) ∙ rename_id_type v.of_type in
          let p : ρ' j ≡ v.from = ap ρ' (sym q) ∙ places_back ns ms distinct (distinct_splits ms before) forth back v.from in
          subst (λ k. TypeAt F k (rename_type ρ' B)) (sym p) (subst (TypeAt F v.from) (sym r) v.from_type);
      there_and_back = places_back ns ms distinct (distinct_splits ms before) forth back;
      back_and_there = places_back ms ns (distinct_splits ms before) distinct back forth;
    }

  -- the quantifiers are the free metavariables
  module _ (sites ms : List ℕ) (G : List LfType) (q : AreQuantifiers s sites ms G) where
    quantifier_free : (m : ℕ) → Member m ms → Member m ns
    quantifier_free m i =
        let p : Place s ms G m = place_of s closed_type q.context (order_splits q.candidates ms q.in_order) m i in
        declared_free Σ s r.consistent w m p.of_type p.declared (found_unbound s sites q.found q.are_found m (ordered_found s q.found q.candidates ms q.are_candidates q.in_order m i))

    free_quantifier : (m : ℕ) → Member m ns → Member m ms
    free_quantifier m i =
        let (A, d, u) = free_unbound Σ s r.consistent w m i in
        let v : IsUnbound s m = is_unbound s r.consistent m A d u in
        let l : m < length s.declared = subst (λ n. m < n) r.consistent.places (within s.values m None v) in
        found_ordered s q.found q.candidates ms q.are_candidates q.in_order m (unbound_found s sites q.found q.are_found m l (ap joined v))

    pub quantifiers_reorder : (ρ ρ' : ℕ → ℕ) × IsReordering F G ρ ρ' × TakesIndices (index ns) (index ms) ρ
    quantifiers_reorder = (
      moved_place ns ms,
      moved_place ms ns,
      reordered ms G q.context (order_splits q.candidates ms q.in_order) free_quantifier quantifier_free,
      takes_places ns ms free_quantifier,
    )

  -- what is read off
  module _ (ms : List ℕ) (τ : ℕ → ℕ) (takes : TakesIndices (index ns) (index ms) τ) (D : List LfType) where
    local_places : length (local_skeletons D []) ≡ binders D
    local_places = go D
      where
        go : (D : List LfType) → length (local_skeletons D []) ≡ binders D
        go [] = refl
        go (A ∷ D) = ap suc (go D)

    pub term_general : (M M' : Term) (A : LfType) → OpenHasType Σ [] Ψ U D M A → Puts s (binders D) M M' → generalized (index ms) (binders D) M' ≡ Some (rename (lift_renaming_by (binders D) τ) (fill μ (under_locals D β) M))
    term_general M M' A t p =
        let f : PutFits s (binders D) M = record {
          signature = Σ;
          context = local_skeletons D [];
          term_skeleton = skeleton A;
          term_typed = term_declared Σ Ψ U D M A t;
          store_typed = subst (λ Γ. StoreBySkeletons Σ Γ s) (sym (local_count D)) stored;
        } in
        term_reordered (index ns) (index ms) τ takes (binders D) (λ i. i < length (local_skeletons D [])) (λ i l. subst (λ n. i < n) local_places l) M' (fill μ (under_locals D β) M) (term_within s (binders D) M M' f p) (generalized_terms Σ ok (whole [] s) w D M M' A t p)

    pub type_general : (A A' : LfType) → OpenIsType Σ [] Ψ U D A → PutsType s (binders D) A A' → generalized_type (index ms) (binders D) A' ≡ Some (rename_type (lift_renaming_by (binders D) τ) (fill_type μ (under_locals D β) A))
    type_general A A' t p =
        let f : PutTypeFits s (binders D) A = record {
          families = family_skeletons Σ;
          signature = Σ;
          context = local_skeletons D [];
          type_typed = type_declared Σ Ψ U D A t;
          store_typed = subst (λ Γ. StoreBySkeletons Σ Γ s) (sym (local_count D)) stored;
        } in
        type_reordered (index ns) (index ms) τ takes (binders D) (λ i. i < length (local_skeletons D [])) (λ i l. subst (λ n. i < n) local_places l) A' (fill_type μ (under_locals D β) A) (type_within s (binders D) A A' f p) (generalized_types Σ ok (whole [] s) w D A A' t p)

    pub term_read : (M N : Term) (A : LfType) → OpenHasType Σ [] Ψ U D M A → IsReadAs s ms (binders D) M N → N ≡ rename (lift_renaming_by (binders D) τ) (fill μ (under_locals D β) M)
    term_read M N A t (M', p, g) = some_is (sym g ∙ term_general M M' A t p)

    pub type_read : (A B : LfType) → OpenIsType Σ [] Ψ U D A → IsTypeReadAs s ms (binders D) A B → B ≡ rename_type (lift_renaming_by (binders D) τ) (fill_type μ (under_locals D β) A)
    type_read A B t (A', p, g) = some_is (sym g ∙ type_general A A' t p)

pub quantifiers_law : QuantifiersAreReordered
quantifiers_law Σ ok s r w sites ms G q = quantifiers_reorder Σ ok s r w sites ms G q

pub reading_law : ReadingIsFilling
reading_law Σ ok s r w ms ρ t D = (term_read Σ ok s r w ms ρ t D, type_read Σ ok s r w ms ρ t D)

-- so each term and type that stands is read as something
pub term_has_reading : (s : State) (k : ℕ) (M M' : Term) (ms : List ℕ) (G : List LfType) → TermStands s k M → (sites : List ℕ) × AreQuantifiers s sites ms G → Puts s k M M' → (N : Term) × (generalized (index ms) k M' ≡ Some N)
term_has_reading s k M M' ms G z (sites, q) p =
    let (ρ, ρ', o, takes) = quantifiers_law z.settled.signature z.settled.is_signature s z.settled.ready z.settled.ready.well_formed sites ms G q in
    let p' : Puts s (binders z.local) M M' = subst (λ n. Puts s n M M') (sym z.same) p in
    let e = term_general z.settled.signature z.settled.is_signature s z.settled.ready z.settled.ready.well_formed ms ρ takes z.local M M' z.of_type z.typed p' in
    let f : (N : Term) × (generalized (index ms) (binders z.local) M' ≡ Some N) = (_, e) in
    subst (λ n. (N : Term) × (generalized (index ms) n M' ≡ Some N)) z.same f

pub type_has_reading : (s : State) (k : ℕ) (A A' : LfType) (ms : List ℕ) (G : List LfType) → TypeStands s k A → (sites : List ℕ) × AreQuantifiers s sites ms G → PutsType s k A A' → (B : LfType) × (generalized_type (index ms) k A' ≡ Some B)
type_has_reading s k A A' ms G z (sites, q) p =
    let (ρ, ρ', o, takes) = quantifiers_law z.settled.signature z.settled.is_signature s z.settled.ready z.settled.ready.well_formed sites ms G q in
    let p' : PutsType s (binders z.local) A A' = subst (λ n. PutsType s n A A') (sym z.same) p in
    let e = type_general z.settled.signature z.settled.is_signature s z.settled.ready z.settled.ready.well_formed ms ρ takes z.local A A' z.typed p' in
    let f : (B : LfType) × (generalized_type (index ms) (binders z.local) A' ≡ Some B) = (_, e) in
    subst (λ n. (B : LfType) × (generalized_type (index ms) n A' ≡ Some B)) z.same f
