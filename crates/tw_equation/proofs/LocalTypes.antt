-- The local variables, one after the other, the outermost first.
use Rattle.std.proofs.Common.{◌≡◌, ℕ, zero, suc, ◌-◌, ◌<◌, ◌≤◌, List, [], ◌∷◌, length, get_or, drop, take, Bool, false, Option, Some, None, refl, sym, ap, ap₂, ◌∙◌, subst, arith}
use Rattle.std.proofs.Math.ListN.{drop_of_length-le}
use Rattle.std.specs.List.{slice_get}
use Rattle.lf.specs.Syntax.{LfType}
use Rattle.tw_abstract.specs.Generalizing.{both, generalized_type}
use Rattle.tw_print.specs.Names.{Scene, lower_base}
use Rattle.tw_print.specs.Shown.{quantifier_name}
use Rattle.tw_fixity.specs.Names.{Names as Scope}
use Rattle.tw_shown.specs.Naming.{MarksShown}
use Rattle.tw_shown.specs.Shown.{is_shown, outer, outside}
use Rattle.tw_shown.proofs.Lists.{outer_outside, shown_outside}
use Rattle.tw_equation.specs.Locals.{Entered}
use Rattle.tw_equation.specs.Text.{local_types, with_locals}

none_is_not_some : {X : Type 0} {x : X} → None ≡ Some x → ⊥
none_is_not_some e = cc

two_lengths : (n : ℕ) (o : Option LfType) (p : Option (List LfType)) (E : List LfType) → ((F : List LfType) → p ≡ Some F → length F ≡ n) → both (λ B F. B ∷ F) o p ≡ Some E → length E ≡ suc n
two_lengths n None p E h e = absurd (none_is_not_some e)
two_lengths n (Some B) None E h e = absurd (none_is_not_some e)
two_lengths n (Some B) (Some F) E h e = let same : B ∷ F ≡ E = cc in sym (ap length same) ∙ ap suc (h F refl)

pub types_length : (f : ℕ → Option ℕ) (D E : List LfType) → local_types f D ≡ Some E → length E ≡ length D
types_length f [] E e = let same : [] ≡ E = cc in sym (ap length same)
types_length f (A ∷ D) E e = two_lengths (length D) (generalized_type f (length D) A) (local_types f D) E (types_length f D) e

-- no variable yet
pub none_entered : (f : ℕ → Option ℕ) (D G : List LfType) → D ≡ [] → Entered f D G G
none_entered f D G e = record { types = []; are = ap (local_types f) e; in_front = refl }

-- one more variable
pub one_entered : (f : ℕ → Option ℕ) (D D' old G H : List LfType) (A B : LfType) (n : ℕ) → D' ≡ A ∷ D → n ≡ length D → generalized_type f n A ≡ Some B → H ≡ B ∷ G → Entered f D old G → Entered f D' old H
one_entered f D D' old G H A B n d l g c e = record {
  types = B ∷ e.types;
  are = ap (local_types f) d ∙ ap₂ (λ o p. both (λ X F. X ∷ F) o p) (ap (λ m. generalized_type f m A) (sym l) ∙ g) e.are;
  in_front = c ∙ ap (λ X. B ∷ X) e.in_front;
}

-- all variables, and none
pub entered_all : (f : ℕ → Option ℕ) (D old new : List LfType) (n : ℕ) → length D ≤ n → Entered f (drop (length D - n) D) old new → Entered f D old new
entered_all f D old new n h e = let z : length D - n ≡ 0 = omega (arith, h) in subst (λ k. Entered f (drop k D) old new) z e

pub none_left : (D : List LfType) → drop (length D - 0) D ≡ []
none_left D = drop_of_length-le D (omega arith)

-- so many variables are there
pub entered_length : (f : ℕ → Option ℕ) (D old new : List LfType) (e : Entered f D old new) → length e.types ≡ length D
entered_length f D old new e = types_length f D e.types e.are

-- the variables in front
get_taken : (C : List LfType) (n k : ℕ) → k < n → slice_get (take n C) k ≡ slice_get C k
get_taken C zero k h = absurd (omega (arith, h))
get_taken [] (suc n) k h = refl
get_taken (A ∷ C) (suc n) zero h = refl
get_taken (A ∷ C) (suc n) (suc k) h = get_taken C n k (omega (arith, h))

at : (C : List LfType) (k : ℕ) (A : LfType) → slice_get C k ≡ Some A → drop k C ≡ A ∷ drop (suc k) C
at [] k A e = absurd cc
at (B ∷ C) zero A e = let same : B ≡ A = cc in ap (λ X. X ∷ C) same
at (B ∷ C) (suc k) A e = at C k A e

taken_none : (C : List LfType) (n : ℕ) → drop n (take n C) ≡ []
taken_none C zero = refl
taken_none [] (suc n) = refl
taken_none (A ∷ C) (suc n) = taken_none C n

-- no name yet
pub none_named : (s : Scene) (C : List LfType) (n : ℕ) (shown : List ℕ) (start : Scope) → start ≡ with_locals s (drop n (take n C)) (outside n shown) start
none_named s C n shown start = sym (ap (λ E. with_locals s E (outside n shown) start) (taken_none C n))

-- the name of variable k, which is the next one further in
pub one_named : (s : Scene) (C : List LfType) (n k j : ℕ) (shown : List ℕ) (marks : List Bool) (A : LfType) (old new start : Scope) (x : Option (List ℕ)) → j ≡ suc k → k < n → slice_get C k ≡ Some A → MarksShown n shown marks
    → x ≡ quantifier_name s old (get_or marks k false) (lower_base s A) → new ≡ x ∷ old → old ≡ with_locals s (drop j (take n C)) (outside j shown) start → new ≡ with_locals s (drop k (take n C)) (outside k shown) start
one_named s C n k j shown marks A old new start x e h g m q p w =
    let E = take n C in
    let d : drop k E ≡ A ∷ drop (suc k) E = at E k A (get_taken C n k h ∙ g) in
    let o : old ≡ with_locals s (drop (suc k) E) (outer (outside k shown)) start = w ∙ ap (λ i. with_locals s (drop i E) (outside i shown) start) e ∙ sym (ap (λ is. with_locals s (drop (suc k) E) is start) (outer_outside k shown)) in
    let y : x ≡ quantifier_name s old (is_shown zero (outside k shown)) (lower_base s A) = q ∙ ap (λ b. quantifier_name s old b (lower_base s A)) (m.each k h ∙ sym (shown_outside k shown)) in
    p ∙ ap (λ z. z ∷ old) y ∙ ap (λ ns. quantifier_name s ns (is_shown zero (outside k shown)) (lower_base s A) ∷ ns) o ∙ sym (ap (λ F. with_locals s F (outside k shown) start) d)
