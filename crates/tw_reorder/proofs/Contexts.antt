-- The context that is made is the one in the order.
use Rattle.std.proofs.Common.{◌≡◌, ℕ, zero, suc, ◌+◌, ◌-◌, ◌<◌, ◌≤◌, List, [], ◌∷◌, inl, inr, length, map, slice_get, Some, None, Bool, true, false, cond, ◌==◌, refl, sym, ap, ap₂, ◌∙◌, subst, arith}
use Rattle.std.proofs.lemmas.Bool.Decides.{Decides-eqb}
use mathlib.Core.Path.{fun_ext}
use Rattle.lf.specs.Subordination.{Member}
use Rattle.lf.specs.Syntax.{LfType, rename_type}
use Rattle.lf.specs.Typing.{IsContext, Signature, TypeAt}
use Rattle.lf.proofs.TypeLaws.{renamings_compose_type}
use Rattle.lf_elaboration.specs.Principal.{IsReordering}
use Rattle.lf_unification.proofs.Eta.{rename_id_type}
use Rattle.tw_abstract.specs.Order.{IsOrder}
use Rattle.tw_abstract.proofs.Choosing.{member_indexed}
use Rattle.tw_abstract.proofs.Lists.{at_below, at_index, at_member, index_at, index_below}
use Rattle.tw_reorder.specs.Moving.{moved, moved_types, or_itself, with_type}
use Rattle.tw_reorder.specs.Waiting.{waiting}
use Rattle.tw_reorder.proofs.Orders.{distinct, order_all, order_within}
use Rattle.tw_reorder.proofs.Placing.{back, below_or_past, goes_there, reordering, there, whole_type}

-- a context by its slices
same_slices : (F G : List LfType) → ((j : ℕ) → slice_get F j ≡ slice_get G j) → F ≡ G
same_slices [] [] h = refl
same_slices [] (B ∷ G) h = (let z : None ≡ Some B = h zero in cc)
same_slices (A ∷ F) [] h = (let z : Some A ≡ None = h zero in cc)
same_slices (A ∷ F) (B ∷ G) h = let q : A ≡ B = (let z : Some A ≡ Some B = h zero in cc) in ap₂ ◌∷◌ q (same_slices F G (λ j. h (suc j)))

-- the type at a place, seen from outside of it
slice_at : (G : List LfType) (j : ℕ) (A : LfType) → TypeAt G j A → slice_get G j ≡ Some (rename_type (λ l. l - suc j) A)
slice_at [] j A g = absurd g
slice_at (B ∷ G) zero A e = ap Some (sym (ap (rename_type (λ l. l - 1)) e ∙ renamings_compose_type (λ l. l - 1) suc B ∙ ap (λ τ. rename_type τ B) (fun_ext (λ l. omega arith)) ∙ rename_id_type B))
slice_at (B ∷ G) (suc j) A (C, g, e) =
    slice_at G j C g ∙ ap Some (sym (ap (rename_type (λ l. l - suc (suc j))) e ∙ renamings_compose_type (λ l. l - suc (suc j)) suc C ∙ ap (λ τ. rename_type τ C) (fun_ext (λ l. omega arith))))

no_slice : (G : List LfType) (j : ℕ) → length G ≤ j → slice_get G j ≡ None
no_slice [] j l = refl
no_slice (B ∷ G) zero l = absurd (omega (arith, l))
no_slice (B ∷ G) (suc j) l = no_slice G j (omega (arith, l))

slice_there : (G : List LfType) (j : ℕ) → j < length G → (C : LfType) × (slice_get G j ≡ Some C)
slice_there [] j l = absurd (omega (arith, l))
slice_there (B ∷ G) zero l = (B, refl)
slice_there (B ∷ G) (suc j) l = slice_there G j (omega (arith, l))

type_below : (F : List LfType) (i : ℕ) (A : LfType) → TypeAt F i A → i < length F
type_below [] i A g = absurd g
type_below (B ∷ F) zero A g = omega arith
type_below (B ∷ F) (suc i) A (C, g, e) = let h : i < length F = type_below F i C g in omega (arith, h)

-- the slices of what is made
module _ (F : List LfType) (order : List ℕ) where
  with_one : (v less : ℕ) (B : LfType) (G : List LfType) → slice_get F v ≡ Some B → with_type order v less (slice_get F v) G ≡ rename_type (moved order (suc v) less) B ∷ G
  with_one v less B G e = ap (λ o. with_type order v less o G) e

  behind : (vs : List ℕ) (G : List LfType) → ((v : ℕ) → Member v vs → v < length F) → (i : ℕ) → slice_get (moved_types F order vs G) (length vs + i) ≡ slice_get G i
  behind [] G h i = let e : 0 + i ≡ i = omega arith in ap (slice_get G) e
  behind (v ∷ vs) G h i =
      let (B, s) = slice_there F v (h v (inl refl)) in
      let e : suc (length vs) + i ≡ length vs + suc i = omega arith in
      ap (slice_get (moved_types F order vs (with_type order v (suc (length vs)) (slice_get F v) G))) e
      ∙ behind vs (with_type order v (suc (length vs)) (slice_get F v) G) (λ w m. h w (inr m)) (suc i)
      ∙ ap (λ D. slice_get D (suc i)) (with_one v (suc (length vs)) B G s)

  made : (vs : List ℕ) (G : List LfType) → ((v : ℕ) → Member v vs → v < length F) → (j v : ℕ) (B : LfType) → at_index vs j ≡ Some v → slice_get F v ≡ Some B → slice_get (moved_types F order vs G) j ≡ Some (rename_type (moved order (suc v) (suc j)) B)
  made [] G h j v B e s = (let z : None ≡ Some v = e in cc)
  made (x ∷ vs) G h j v B e s = by_place x vs G h j v B s (length vs == j) refl e (λ z. made vs (with_type order x (suc (length vs)) (slice_get F x) G) (λ w m. h w (inr m)) j v B z s)
    where
      by_place : (x : ℕ) (vs : List ℕ) (G : List LfType) (h : (w : ℕ) → Member w (x ∷ vs) → w < length F) (j v : ℕ) (B : LfType) (s : slice_get F v ≡ Some B) (b : Bool) → (length vs == j) ≡ b → at_index (x ∷ vs) j ≡ Some v
          → (at_index vs j ≡ Some v → slice_get (moved_types F order (x ∷ vs) G) j ≡ Some (rename_type (moved order (suc v) (suc j)) B)) → slice_get (moved_types F order (x ∷ vs) G) j ≡ Some (rename_type (moved order (suc v) (suc j)) B)
      by_place x vs G h j v B s true t e others =
          let k : length vs ≡ j = (Decides-eqb (length vs) j).0 t in
          let z : Some x ≡ Some v = sym (ap (λ b. cond b (Some x) (at_index vs j)) t) ∙ e in
          let q : x ≡ v = cc in
          let s' : slice_get F x ≡ Some B = ap (slice_get F) q ∙ s in
          let p : j ≡ length vs + 0 = omega (arith, k) in
          ap (slice_get (moved_types F order vs (with_type order x (suc (length vs)) (slice_get F x) G))) p
          ∙ behind vs (with_type order x (suc (length vs)) (slice_get F x) G) (λ w m. h w (inr m)) 0
          ∙ ap (λ D. slice_get D 0) (with_one x (suc (length vs)) B G s')
          ∙ ap₂ (λ y l. Some (rename_type (moved order (suc y) (suc l)) B)) q k
      by_place x vs G h j v B s false t e others = others (sym (ap (λ b. cond b (Some x) (at_index vs j)) t) ∙ e)

module _ (Σ : Signature) (F : List LfType) (c : IsContext Σ F) (found : List ℕ) (within : (v : ℕ) → Member v found → v < length F) (all : (v : ℕ) → v < length F → Member v found) (ms : List ℕ) (o : IsOrder (map (waiting F) found) ms) where
  abbrev ρ : ℕ → ℕ
  ρ = there Σ F c found within all ms o

  abbrev ρ' : ℕ → ℕ
  ρ' = back Σ F c found within all ms o

  abbrev made_context : List LfType
  made_context = moved_types F ms ms []

  module _ (G : List LfType) (r : IsReordering F G ρ ρ') where
    -- at a place of the order
    at_place : (j : ℕ) → j < length ms → slice_get made_context j ≡ slice_get G j
    at_place j l =
        let (v, e) = at_below ms j l in
        let m : Member v ms = at_member ms j v e in
        let (B, s) = slice_there F v (order_within Σ F c found within all ms o v m) in
        let w : TypeAt G (ρ v) (rename_type ρ (rename_type (λ i. i + suc v) B)) = r.there v (rename_type (λ i. i + suc v) B) (whole_type F v B s) in
        let k : ρ v ≡ j = place_of_index v j e in
        let g : TypeAt G j (rename_type ρ (rename_type (λ i. i + suc v) B)) = subst (λ x. TypeAt G x (rename_type ρ (rename_type (λ i. i + suc v) B))) k w in
        made F ms ms [] (order_within Σ F c found within all ms o) j v B e s
        ∙ sym (slice_at G j (rename_type ρ (rename_type (λ i. i + suc v) B)) g
        ∙ ap Some (ap (rename_type (λ l. l - suc j)) (renamings_compose_type ρ (λ i. i + suc v) B) ∙ renamings_compose_type (λ l. l - suc j) (λ i. ρ (i + suc v)) B))
      where
        place_of_index : (v j : ℕ) → at_index ms j ≡ Some v → ρ v ≡ j
        place_of_index v j e = ap (or_itself v) (index_at ms j v (distinct Σ F c found within all ms o) e)

    as_long : length G ≤ length ms
    as_long = elim (below_or_past (length G) (length ms)) [ inl l ↦ absurd (too_long l) | inr l ↦ l ]
      where
        too_long : length ms < length G → ⊥
        too_long l =
            let (C, s) = slice_there G (length ms) l in
            let g : TypeAt G (length ms) (rename_type (λ i. i + suc (length ms)) C) = whole_type G (length ms) C s in
            let k : ρ' (length ms) < length F = type_below F (ρ' (length ms)) (rename_type ρ' (rename_type (λ i. i + suc (length ms)) C)) (r.back (length ms) (rename_type (λ i. i + suc (length ms)) C) g) in
            let (j, e) = member_indexed ms (ρ' (length ms)) (order_all Σ F c found within all ms o (ρ' (length ms)) k) in
            let q : ρ (ρ' (length ms)) ≡ j = ap (or_itself (ρ' (length ms))) e in
            let p : ρ (ρ' (length ms)) ≡ length ms = goes_there Σ F c found within all ms o (length ms) in
            let h : j < length ms = index_below ms (ρ' (length ms)) j e in
            omega (arith, p, q, h)

    pub same_context : made_context ≡ G
    same_context = same_slices made_context G (λ j. elim (below_or_past (length ms) j) [ inl l ↦ at_place j l | inr l ↦ past j l ])
      where
        past : (j : ℕ) → length ms ≤ j → slice_get made_context j ≡ slice_get G j
        past j l =
            let e : j ≡ length ms + (j - length ms) = omega (arith, l) in
            ap (slice_get made_context) e ∙ behind F ms ms [] (order_within Σ F c found within all ms o) (j - length ms) ∙ sym (no_slice G j (omega (arith, l, as_long)))

  -- what is made, all together
  pub is_reordering : IsReordering F made_context ρ ρ'
  is_reordering = let (G, r) = reordering Σ F c found within all ms o in subst (λ D. IsReordering F D ρ ρ') (sym (same_context G r)) r
