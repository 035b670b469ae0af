-- Entries and blocks, one after the other.
use Rattle.std.proofs.Common.{◌≡◌, ℕ, zero, suc, ◌+◌, ◌<◌, ◌≤◌, List, [], ◌∷◌, Some, length, drop, get_or, map, take, refl, sym, ap, ◌∙◌, subst, arith, inl, inr, Bool, true, false}
use Rattle.std.specs.Bool.{OnTrue}
use Rattle.std.specs.Prelude.{slice_get, ◌⊎◌}
use Rattle.std.proofs.lemmas.List.{take_all}
use Rattle.std.proofs.Math.ListN.{drop_of_length-le}
use Rattle.lf.specs.Subordination.{Member}
use Rattle.lf.specs.Syntax.{LfType}
use Rattle.lf.specs.Variables.{onto}
use Rattle.tw_mode.proofs.Listing.{drop_found, found_below}

pub entry_before : (es some : List LfType) (n : ℕ) (old new : List LfType) → n < length es → old ≡ onto (drop (suc n) es) some → ((E : LfType) → slice_get es n ≡ Some E → new ≡ E ∷ old) → new ≡ onto (drop n es) some
entry_before es some n old new h e f = let (E, q) = found_below es n h in f E q ∙ ap (λ xs. E ∷ xs) e ∙ ap (λ xs. onto xs some) (sym (drop_found es n E q))

pub none_before : (es some : List LfType) (n : ℕ) → length es ≤ n → some ≡ onto (drop n es) some
none_before es some n h = ap (λ xs. onto xs some) (sym (drop_of_length-le es h))

pub one_more : {A B : Type 0} (f : A → B) (xs : List A) (k : ℕ) (x : A) (P : B → Type 0) → k < length xs → x ≡ get_or xs k x → P (f x) → ((b : B) → Member b (map f (take k xs)) → P b) → (b : B) → Member b (map f (take (k + 1) xs)) → P b
one_more {A = A} {B = B} f xs k x P h e p all b m = go xs k x h e p all (subst (λ n. Member b (map f (take n xs))) (let q : k + 1 ≡ suc k = omega arith in q) m)
  where
    go : (xs : List A) (k : ℕ) (x : A) → k < length xs → x ≡ get_or xs k x → P (f x) → ((b : B) → Member b (map f (take k xs)) → P b) → Member b (map f (take (suc k) xs)) → P b
    go [] k x h e p all m = absurd (omega (arith, h))
    go (y ∷ xs) zero x h e p all (inl q) = subst P (ap f e ∙ sym q) p
    go (y ∷ xs) zero x h e p all (inr q) = absurd q
    go (y ∷ xs) (suc k) x h e p all (inl q) = all b (inl q)
    go (y ∷ xs) (suc k) x h e p all (inr m) = go xs k x (omega (arith, h)) e p (λ c n. all c (inr n)) m

pub all_taken : {A B : Type 0} (f : A → B) (xs : List A) (k : ℕ) (P : B → Type 0) → length xs ≤ k → ((b : B) → Member b (map f (take k xs)) → P b) → (b : B) → Member b (map f xs) → P b
all_taken f xs k P h all b m = all b (subst (λ ys. Member b (map f ys)) (sym (take_all k xs h)) m)

pub at_true : (b : Bool) (P : Type 0) → b ≡ true → OnTrue b P → P
at_true true P e p = p
at_true false P e p = absurd cc
