-- What the loops and calls come to.
use Rattle.std.proofs.Common.{◌≡◌, ℕ, suc, ◌+◌, ◌-◌, ◌<◌, List, [], ◌∷◌, ◌++◌, length, map, drop, get_or, drop-cons, add-one, slice_get, refl, sym, ap, ap₂, ◌∙◌, subst, arith}
use Rattle.std.proofs.lemmas.List.{drop-map, length-drop}
use Rattle.lf.specs.Subordination.{Member}
use Rattle.lf.specs.Syntax.{LfType, Term}
use Rattle.lf.specs.Typing.{IsContext, Signature}
use Rattle.tw_abstract.specs.Occurrences.{noted}
use Rattle.tw_abstract.specs.Order.{IsOrder, IsStuck, Waiting}
use Rattle.tw_abstract.proofs.Noting.{noted-append}
use Rattle.tw_terms.specs.declared.canonical.MetaId.{MetaId}
use Rattle.tw_reorder.specs.Moving.{moved_types, with_type}
use Rattle.tw_reorder.specs.Variables.{type_variables, variables, variables_of_all}
use Rattle.tw_reorder.specs.Waiting.{needs_at, occurring, outermost_first, through_types, waiting}
use Rattle.tw_reorder.proofs.Orders.{not_stuck}
use Rattle.tw_reorder.proofs.Turns.{each_comes, each_within}

-- the type of one more variable
next_of_list : (F : List LfType) (order : List ℕ) (v : ℕ) (vs : List ℕ) (less : ℕ) (G : List LfType) → less ≡ suc (length vs) → moved_types F order (v ∷ vs) G ≡ moved_types F order vs (with_type order v less (slice_get F v) G)
next_of_list F order v vs less G e = ap (λ n. moved_types F order vs (with_type order v n (slice_get F v) G)) (sym e)

numbers_from : (ms : List MetaId) (order : List ℕ) (k : ℕ) (d x : MetaId) → map (λ m. m.0) ms ≡ order → k < length ms → x ≡ get_or ms k d → drop k order ≡ x.0 ∷ drop (k + 1) order
numbers_from ms order k d x e l is =
    ap (drop k) (sym e) ∙ drop-map (λ (m : MetaId). m.0) k ms ∙ ap (map (λ (m : MetaId). m.0)) (drop-cons ms k d l)
    ∙ ap₂ (λ (y : MetaId) n. y.0 ∷ map (λ (m : MetaId). m.0) (drop n ms)) (sym is) (sym (add-one k)) ∙ ap (λ ns. x.0 ∷ ns) (sym (drop-map (λ (m : MetaId). m.0) (k + 1) ms) ∙ ap (drop (k + 1)) e)

pub next_type : (F : List LfType) (ms : List MetaId) (order : List ℕ) (k : ℕ) (d x : MetaId) (all G G' : List LfType) → map (λ m. m.0) ms ≡ order → k < length ms → x ≡ get_or ms k d → all ≡ moved_types F order (drop k order) G
    → G' ≡ with_type order x.0 (length ms - k) (slice_get F x.0) G → all ≡ moved_types F order (drop (k + 1) order) G'
next_type F ms order k d x all G G' e l is a g =
    let n : length order ≡ length ms = ap length (sym e) ∙ length_of ms in
    let r : length (drop (k + 1) order) ≡ length order - (k + 1) = length-drop (k + 1) order in
    let less : length ms - k ≡ suc (length (drop (k + 1) order)) = omega (arith, n, r, l) in
    a ∙ ap (λ vs. moved_types F order vs G) (numbers_from ms order k d x e l is) ∙ next_of_list F order x.0 (drop (k + 1) order) (length ms - k) G less ∙ ap (moved_types F order (drop (k + 1) order)) (sym g)
  where
    length_of : (ms : List MetaId) → length (map (λ (m : MetaId). m.0) ms) ≡ length ms
    length_of [] = refl
    length_of (m ∷ ms) = ap suc (length_of ms)

-- the types of the variables so far
pub next_needs : (F : List LfType) (n k : ℕ) (all found found' : List ℕ) → k < n → all ≡ through_types F (n - k) k found → found' ≡ noted found (needs_at F (slice_get found k)) → all ≡ through_types F (n - (k + 1)) (k + 1) found'
next_needs F n k all found found' l a f =
    let e : n - k ≡ suc (n - (k + 1)) = omega (arith, l) in
    a ∙ ap (λ m. through_types F m k found) e ∙ ap₂ (λ j vs. through_types F (n - (k + 1)) j vs) (sym (add-one k)) (sym f)

-- a type, a term and others
pub noted_in_turn : (A : LfType) (M : Term) (Ms : List Term) (a b c d : List ℕ) → a ≡ [] → b ≡ noted a (type_variables 0 A) → c ≡ noted b (variables 0 M) → d ≡ noted c (variables_of_all Ms) → d ≡ noted [] (occurring A M Ms)
noted_in_turn A M Ms a b c d p q r s =
    s ∙ ap (λ x. noted x (variables_of_all Ms)) (r ∙ ap (λ x. noted x (variables 0 M)) (q ∙ ap (λ x. noted x (type_variables 0 A)) p))
    ∙ sym (noted-append [] (type_variables 0 A) (variables 0 M ++ variables_of_all Ms) ∙ noted-append (noted [] (type_variables 0 A)) (variables 0 M) (variables_of_all Ms))

-- there is an order of those that come in turn
pub never_stuck : (Σ : Signature) (F : List LfType) (first found : List ℕ) (ws : List Waiting) → IsContext Σ F → ((v : ℕ) → Member v first → v < length F) → found ≡ noted (through_types F (length F) 0 first) (outermost_first (length F))
    → ws ≡ map (waiting F) found → IsStuck ws → ⊥
never_stuck Σ F first found ws c h e w s =
    not_stuck Σ F c (noted (through_types F (length F) 0 first) (outermost_first (length F))) (each_within Σ F c first h) (each_comes Σ F c first) (subst IsStuck (w ∙ ap (map (waiting F)) e) s)

pub in_order : (F : List LfType) (first found : List ℕ) (ws : List Waiting) (o : List ℕ) → found ≡ noted (through_types F (length F) 0 first) (outermost_first (length F)) → ws ≡ map (waiting F) found → IsOrder ws o
    → IsOrder (map (waiting F) (noted (through_types F (length F) 0 first) (outermost_first (length F)))) o
in_order F first found ws o e w h = subst (λ ws. IsOrder ws o) (w ∙ ap (map (waiting F)) e) h
