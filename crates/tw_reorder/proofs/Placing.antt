-- The variables of a context at their places in the order: a reordering.
use Rattle.std.proofs.Common.{◌≡◌, ℕ, zero, suc, ◌+◌, ◌<◌, ◌≤◌, List, [], ◌∷◌, ◌⊎◌, inl, inr, length, map, slice_get, Option, Some, None, Bool, true, false, cond, ◌==◌, refl, sym, ap, ◌∙◌, subst, arith}
use Rattle.std.proofs.lemmas.Bool.Decides.{Decides-eqb}
use mathlib.Core.Path.{fun_ext}
use Rattle.lf.specs.Subordination.{Member}
use Rattle.lf.specs.Syntax.{LfType, rename_type, weaken}
use Rattle.lf.specs.Typing.{IsContext, Signature, TypeAt}
use Rattle.lf.proofs.TypeLaws.{renamings_compose_type}
use Rattle.lf_elaboration.specs.Principal.{FreeVariablesInType, IsReordering, PlacesInside}
use Rattle.lf_elaboration.proofs.Placed.{context_reordered}
use Rattle.lf_unification.specs.Patterns.{beyond}
use Rattle.tw_abstract.specs.Occurrences.{noted}
use Rattle.tw_abstract.specs.Order.{IsOrder}
use Rattle.tw_abstract.specs.Positions.{index}
use Rattle.tw_abstract.proofs.Choosing.{indexed_member, member_indexed}
use Rattle.tw_abstract.proofs.Lists.{at_index, at_past, moved_place, place_of, place_or, places_back}
use Rattle.tw_abstract.proofs.Members.{noted_now}
use Rattle.tw_putting.specs.Whole.{AreDistinct}
use Rattle.tw_reorder.specs.Moving.{or_itself, place_in}
use Rattle.tw_reorder.specs.Variables.{type_variables}
use Rattle.tw_reorder.specs.Waiting.{needs, needs_in, outermost_first, waiting}
use Rattle.tw_reorder.proofs.Listed.{type_free}
use Rattle.tw_reorder.proofs.Orders.{distinct, needs_further_out, order_all, order_within}
use Rattle.tw_reorder.proofs.Turns.{below, each_below, last_or_below, moved_to, needs_outside}

count : (n : ℕ) → length (outermost_first n) ≡ n
count zero = refl
count (suc n) = ap suc (count n)

no_repeats : (n : ℕ) → AreDistinct (outermost_first n)
no_repeats zero = tt
no_repeats (suc n) = ((λ m. let l : n < n = below n n m in omega (arith, l)), no_repeats n)

is_false : (b : Bool) → (b ≡ true → ⊥) → b ≡ false
is_false true k = absurd (k refl)
is_false false k = refl

here : (n i : ℕ) (b : Bool) → (n == i) ≡ b → at_index (outermost_first (suc n)) i ≡ cond b (Some n) (at_index (outermost_first n) i)
here n i b e = ap (λ k. cond (k == i) (Some n) (at_index (outermost_first n) i)) (count n) ∙ ap (λ c. cond c (Some n) (at_index (outermost_first n) i)) e

-- in this list each number is at its own place
at_self : (n i : ℕ) → i < n → at_index (outermost_first n) i ≡ Some i
at_self zero i l = absurd (omega (arith, l))
at_self (suc n) i l = elim (last_or_below n i l) [
  | inl e ↦ here n i true ((Decides-eqb n i).1 (sym e)) ∙ ap Some (sym e)
  | inr k ↦ here n i false (is_false (n == i) (λ t. let q : n ≡ i = (Decides-eqb n i).0 t in omega (arith, q, k))) ∙ at_self n i k
]

pub beyond_all : (F : List LfType) (i : ℕ) → beyond F i ≡ length F + i
beyond_all [] i = omega arith
beyond_all (B ∷ F) i = let h : beyond F i ≡ length F + i = beyond_all F i in omega (arith, h)

-- the type of a variable, in the whole context
pub type_in_whole : (F : List LfType) (i : ℕ) (A : LfType) → TypeAt F i A → (B : LfType) × (slice_get F i ≡ Some B) × (A ≡ rename_type (λ j. j + suc i) B)
type_in_whole [] i A g = absurd g
type_in_whole (B ∷ F) zero A e = (B, refl, e ∙ ap (λ τ. rename_type τ B) (fun_ext (λ j. omega arith)))
type_in_whole (B ∷ F) (suc i) A (C, g, e) =
    let (X, s, q) = type_in_whole F i C g in
    (X, s, e ∙ ap weaken q ∙ renamings_compose_type suc (λ j. j + suc i) X ∙ ap (λ τ. rename_type τ X) (fun_ext (λ j. omega arith)))

pub whole_type : (F : List LfType) (i : ℕ) (B : LfType) → slice_get F i ≡ Some B → TypeAt F i (rename_type (λ j. j + suc i) B)
whole_type [] i B e = (let z : None ≡ Some B = e in cc)
whole_type (X ∷ F) zero B e = let q : X ≡ B = (let z : Some X ≡ Some B = e in cc) in ap (λ τ. rename_type τ B) (fun_ext (λ j. omega arith)) ∙ ap weaken (sym q)
whole_type (X ∷ F) (suc i) B e = (
  rename_type (λ j. j + suc i) B,
  whole_type F i B e,
  sym (renamings_compose_type suc (λ j. j + suc i) B ∙ ap (λ τ. rename_type τ B) (fun_ext (λ j. omega arith))),
)

not_there : (ns : List ℕ) (m : ℕ) → (Member m ns → ⊥) → index ns m ≡ None
not_there ns m h = go (index ns m) refl
  where
    go : (r : Option ℕ) → index ns m ≡ r → r ≡ None
    go None q = refl
    go (Some i) q = absurd (h (indexed_member ns m i q))

pub below_or_past : (n i : ℕ) → (i < n) ⊎ (n ≤ i)
below_or_past zero i = inr (omega arith)
below_or_past (suc n) zero = inl (omega arith)
below_or_past (suc n) (suc i) = elim (below_or_past n i) [ inl l ↦ inl (omega arith) | inr l ↦ inr (omega arith) ]

module _ (Σ : Signature) (F : List LfType) (c : IsContext Σ F) (found : List ℕ) (within : (v : ℕ) → Member v found → v < length F) (all : (v : ℕ) → v < length F → Member v found) (ms : List ℕ) (o : IsOrder (map (waiting F) found) ms) where
  abbrev ns : List ℕ
  ns = outermost_first (length F)

  abbrev pub there : ℕ → ℕ
  there = place_in ms

  abbrev pub back : ℕ → ℕ
  back = moved_place ms ns

  in_order : (v : ℕ) → Member v ns → Member v ms
  in_order v m = order_all Σ F c found within all ms o v (below (length F) v m)

  of_context : (v : ℕ) → Member v ms → Member v ns
  of_context v m = each_below (length F) v (order_within Σ F c found within all ms o v m)

  pub past_stays : (i : ℕ) → length F ≤ i → there i ≡ i
  past_stays i l = ap (or_itself i) (not_there ms i (λ m. let k : i < length F = order_within Σ F c found within all ms o i m in omega (arith, k, l)))

  as_placed : (i : ℕ) → there i ≡ moved_place ns ms i
  as_placed i = elim (below_or_past (length F) i) [
    | inl l ↦ or_place i (index ms i) ∙ sym (ap (place_of ms i) (at_self (length F) i l))
    | inr l ↦ past_stays i l ∙ sym (ap (place_of ms i) (at_past ns i (subst (λ k. k ≤ i) (sym (count (length F))) l)))
  ]
    where
      or_place : (i : ℕ) (r : Option ℕ) → or_itself i r ≡ place_or i r
      or_place i None = refl
      or_place i (Some j) = refl

  pub goes_back : (i : ℕ) → back (there i) ≡ i
  goes_back i = ap back (as_placed i) ∙ places_back ns ms (no_repeats (length F)) (distinct Σ F c found within all ms o) in_order of_context i

  pub goes_there : (j : ℕ) → there (back j) ≡ j
  goes_there j = as_placed (back j) ∙ places_back ms ns (distinct Σ F c found within all ms o) (no_repeats (length F)) of_context in_order j

  further_out : (v w : ℕ) → v < length F → Member w (needs F v) → there v < there w
  further_out v w l m =
      let k : w < length F = (needs_outside Σ F c v w m).1 in
      let (i, e) = member_indexed ms v (order_all Σ F c found within all ms o v l) in
      let (j, f) = member_indexed ms w (order_all Σ F c found within all ms o w k) in
      let h : i < j = needs_further_out Σ F c found within all ms o v w i j (order_all Σ F c found within all ms o v l) m e f in
      let p : there v ≡ i = ap (or_itself v) e in
      let q : there w ≡ j = ap (or_itself w) f in
      omega (arith, h, p, q)

  places_inside : PlacesInside F there
  places_inside i A g =
      let (B, s, q) = type_in_whole F i A g in
      let l : i < length F = slice_within F i B s in
      subst (FreeVariablesInType (λ j. there i < there j)) (sym q)
      (type_free (λ j. there i < there j) (λ j. j + suc i) B
      (λ v m. further_out i (v + suc i) l (subst (λ x. Member (v + suc i) (needs_in i x)) (sym s) (moved_to i (noted [] (type_variables 0 B)) v (noted_now [] (type_variables 0 B) v m)))))
    where
      slice_within : (F : List LfType) (i : ℕ) (B : LfType) → slice_get F i ≡ Some B → i < length F
      slice_within [] i B e = (let z : None ≡ Some B = e in cc)
      slice_within (X ∷ F) zero B e = omega arith
      slice_within (X ∷ F) (suc i) B e = let h : i < length F = slice_within F i B e in omega (arith, h)

  -- the context in this order
  pub reordering : (G : List LfType) × IsReordering F G there back
  reordering = context_reordered F there back goes_back goes_there (λ i. ap there (beyond_all F i) ∙ past_stays (length F + i) (omega arith) ∙ sym (beyond_all F i)) places_inside
