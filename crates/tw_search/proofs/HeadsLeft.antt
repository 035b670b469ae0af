-- The heads that are still to be tried, one after another.
use Rattle.std.proofs.Common.{◌≡◌, ℕ, zero, suc, ◌+◌, ◌<◌, ◌≤◌, List, [], ◌∷◌, Bool, true, false, cond, drop, length, map, Option, Some, None, refl, sym, ap, ap₂, ◌∙◌, subst, arith, add-one, drop-cons, get_or}
use Rattle.std.specs.List.{slice_get}
use Rattle.std.specs.Option.{MatchOption}
use Rattle.std.proofs.lemmas.List.{drop_all}
use Rattle.lf.specs.Entries.{Entry}
use Rattle.lf.specs.Syntax.{Head, LfType, constant, variable}
use Rattle.lf.specs.Variables.{same_number, target}
use Rattle.lf_unification.specs.Lists.{followed}
use Rattle.lf_unification.specs.Search.{constant_heads}
use Rattle.tw_search.specs.Choosing.{constants_left, heads_left, locals_for}
use Rattle.tw_terms.specs.View.{head_of}
use Rattle.tw_terms.specs.declared.canonical.ConstId.{ConstId}
use Rattle.tw_search.specs.declared.choice.Next.{Next}
use Rattle.lf.proofs.Checker.{number_is, number_itself}

drop_one : {A : Type 0} (D : List A) (i : ℕ) (x : A) → Some x ≡ slice_get D i → drop i D ≡ x ∷ drop (i + 1) D
drop_one [] i x e = absurd cc
drop_one (y ∷ D) zero x e = let p : x ≡ y = cc in ap (λ z. z ∷ D) (sym p)
drop_one {A} (y ∷ D) (suc i) x e = let n : suc (i + 1) ≡ suc i + 1 = omega arith in drop_one D i x e ∙ ap (λ k. x ∷ drop k (y ∷ D)) n

-- the local variable i
at_local : (a i : ℕ) (D : List LfType) (A : LfType) (b : Bool) → Some A ≡ slice_get D i → same_number (target A) a ≡ b → locals_for a i (drop i D) ≡ cond b (variable i ∷ locals_for a (i + 1) (drop (i + 1) D)) (locals_for a (i + 1) (drop (i + 1) D))
at_local a i D A b g e =
    let n : suc i ≡ i + 1 = omega arith in
    ap (locals_for a i) (drop_one D i A g) ∙ ap (λ c. cond c (variable i ∷ locals_for a (suc i) (drop (i + 1) D)) (locals_for a (suc i) (drop (i + 1) D))) e ∙ ap (λ k. cond b (variable i ∷ locals_for a k (drop (i + 1) D)) (locals_for a k (drop (i + 1) D))) n

same_if : (x a : ℕ) → x ≡ a → same_number x a ≡ true
same_if x a e = ap (λ k. same_number k a) e ∙ number_itself a

other_if : (x a : ℕ) → (x ≡ a → ⊥) → same_number x a ≡ false
other_if x a n = go (same_number x a) refl
  where
    go : (b : Bool) → same_number x a ≡ b → b ≡ false
    go true e = absurd (n (number_is x a e))
    go false e = refl

pub local_found : (a i t : ℕ) (D : List LfType) (A : LfType) (whole : List Head) → Some A ≡ slice_get D i → t ≡ target A → t ≡ a → whole ≡ locals_for a i (drop i D) → whole ≡ variable i ∷ locals_for a (i + 1) (drop (i + 1) D)
local_found a i t D A whole g q e w = w ∙ at_local a i D A true g (same_if (target A) a (sym q ∙ e))

pub local_passed : (a i t : ℕ) (D : List LfType) (A : LfType) (whole : List Head) → Some A ≡ slice_get D i → t ≡ target A → (t ≡ a → ⊥) → whole ≡ locals_for a i (drop i D) → whole ≡ locals_for a (i + 1) (drop (i + 1) D)
local_passed a i t D A whole g q n w = w ∙ at_local a i D A false g (other_if (target A) a (λ e. n (q ∙ e)))

pub no_locals : (a i : ℕ) (D : List LfType) (whole : List Head) → length D ≤ i → whole ≡ locals_for a i (drop i D) → whole ≡ []
no_locals a i D whole h w = w ∙ ap (locals_for a i) (drop_all i D h)

-- the constants
drop_map : (i : ℕ) (xs : List ConstId) → drop i (map (λ (x : ConstId). x.0) xs) ≡ map (λ (x : ConstId). x.0) (drop i xs)
drop_map zero xs = refl
drop_map (suc i) [] = refl
drop_map (suc i) (x ∷ xs) = drop_map i xs

constants_at : (us : List ConstId) (i : ℕ) (x : ConstId) → i < length us → x ≡ get_or us i x → map (λ (y : ConstId). y.0) (drop i us) ≡ x.0 ∷ map (λ (y : ConstId). y.0) (drop (i + 1) us)
constants_at us i x h q = rw (add-one, drop-cons us i x) (ap (λ (y : ConstId). y.0 ∷ map (λ (z : ConstId). z.0) (drop (suc i) us)) (sym q))

pub constant_found : (us : List ConstId) (cs : List ℕ) (i : ℕ) (x : ConstId) → map (λ (y : ConstId). y.0) us ≡ cs → i < length us → x ≡ get_or us i x → constant_heads (drop i cs) ≡ constant x.0 ∷ constant_heads (drop (i + 1) cs)
constant_found us cs i x e h q = subst (λ l. constant_heads (drop i l) ≡ constant x.0 ∷ constant_heads (drop (i + 1) l)) e
    (ap constant_heads (drop_map i us ∙ constants_at us i x h q ∙ ap (λ l. x.0 ∷ l) (sym (drop_map (i + 1) us))))

-- both
pub locals_first : (a i v : ℕ) (D : List LfType) (cs : List Head) → locals_for a i (drop i D) ≡ variable v ∷ locals_for a (v + 1) (drop (v + 1) D) → followed (locals_for a i (drop i D)) cs ≡ variable v ∷ followed (locals_for a (v + 1) (drop (v + 1) D)) cs
locals_first a i v D cs e = ap (λ l. followed l cs) e

pub then_constants : (a i n : ℕ) (D : List LfType) (cs ds : List Head) (h : Head) → locals_for a i (drop i D) ≡ [] → n ≡ length D → cs ≡ h ∷ ds → followed (locals_for a i (drop i D)) cs ≡ h ∷ followed (locals_for a n (drop n D)) ds
then_constants a i n D cs ds h e q c = ap₂ followed e c ∙ ap (λ l. h ∷ followed l ds) (sym (ap (λ k. locals_for a n (drop k D)) q ∙ ap (locals_for a n) (drop_all (length D) D (omega arith))))

pub then_nothing : (a i : ℕ) (D : List LfType) (cs : List Head) → locals_for a i (drop i D) ≡ [] → cs ≡ [] → followed (locals_for a i (drop i D)) cs ≡ []
then_nothing a i D cs e c = ap₂ followed e c

-- behind the local variables
pub behind_locals : (es : List Entry) (a : ℕ) (D : List LfType) (i k : ℕ) (o : Option Next) → locals_for a i (drop i D) ≡ [] →
    MatchOption o (constants_left es a k ≡ []) (λ n. (constants_left es a k ≡ head_of n.head ∷ constants_left es a n.constant) × (n.local ≡ length D)) →
    MatchOption o (heads_left es a D i k ≡ []) (λ n. heads_left es a D i k ≡ head_of n.head ∷ heads_left es a D n.local n.constant)
behind_locals es a D i k None e c = then_nothing a i D (constants_left es a k) e c
behind_locals es a D i k (Some n) e (c, l) = then_constants a i n.local D (constants_left es a k) (constants_left es a n.constant) (head_of n.head) e l c
